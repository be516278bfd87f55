use Rattle.std.proofs.Common.{sym, ◌∙◌}
use Rattle.httparse.specs.Borrowed.{header_parts}
use Rattle.share_web.proofs.FieldLemmas.{count_by-map}
use Rattle.share_web.specs.Fields.{is_named}
use Rattle.share_web.proofs.fields.count_named.Goals as goal

pub returns : goal.returns
returns c = c.count_parsed.ensures ∙ sym (count_by-map (is_named c.args.name.now) header_parts c.args.headers.now)
