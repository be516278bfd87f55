use Rattle.share_catalog.proofs.RowLemmas.{read_by}
use Rattle.share_catalog.proofs.row.read_row.Goals as goal

pub returns-clause-row : goal.returns-clause-row
returns-clause-row c = read_by c.args.bytes.now c.read_columns.result c.read_columns.ensures
