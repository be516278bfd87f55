use Rattle.std.proofs.Common.{sym, ◌∙◌}
use Rattle.httparse.specs.Borrowed.{header_parts}
use Rattle.share_web.proofs.FieldLemmas.{list_any-map}
use Rattle.share_web.specs.Fields.{is_host_at}
use Rattle.share_web.proofs.fields.has_host_at.Goals as goal

pub returns : goal.returns
returns c = c.any_host_at.ensures ∙ sym (list_any-map (is_host_at c.args.address.now) header_parts c.args.headers.now)
