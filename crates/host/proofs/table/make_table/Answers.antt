-- A table of idle workers is written down.
use mathlib.Core.Path.{sym}
use Rattle.host.proofs.Tables.{table_made}
use Rattle.host.proofs.table.make_table.Goals as goal

pub returns : goal.returns
returns c = table_made c.args.t _ (sym c.if-not-one_to.ensures) _ _ c.idle_kept.ensures c.packed_made-2.ensures
