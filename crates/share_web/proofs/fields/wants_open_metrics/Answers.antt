use Rattle.std.proofs.Common.{sym, ◌∙◌}
use Rattle.httparse.specs.Borrowed.{header_parts}
use Rattle.share_web.proofs.FieldLemmas.{list_any-map}
use Rattle.share_web.specs.Fields.{accepts_open_metrics}
use Rattle.share_web.proofs.fields.wants_open_metrics.Goals as goal

pub returns : goal.returns
returns c = c.any_accepts_open_metrics.ensures ∙ sym (list_any-map accepts_open_metrics header_parts c.args.headers.now)
