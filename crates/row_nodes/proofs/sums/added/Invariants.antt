use Rattle.std.proofs.Common.{◌≡◌, ◌<◌, length, drop}
use Rattle.nodes.specs.Nodes.{bit_at}
use Rattle.nodes.specs.Names.{bits_at}
use Rattle.nodes.proofs.GrowthLemmas.{Builds}
use Rattle.rows.specs.Rows as rows
use Rattle.row_nodes.proofs.sums.added.Given as goal

abbrev pub invariant-loop-i : goal.invariant-loop-i
invariant-loop-i l = record {
  within : l.carry < length l.table;
  sized : length l.row.items ≡ l.i;
  builds : Builds l.fn.table l.table l.row.items (rows.added (bit_at l.table l.carry) (bits_at l.fn.table (drop l.i l.xs)) (bits_at l.fn.table (drop l.i l.ys))) (rows.added (bit_at l.fn.table l.fn.carry) (bits_at l.fn.table l.xs) (bits_at l.fn.table l.ys));
}
