use Rattle.std.proofs.Common.{◌≡◌, length, drop}
use Rattle.nodes.specs.Names.{bits_at}
use Rattle.nodes.proofs.GrowthLemmas.{Builds}
use Rattle.rows.specs.Rows as rows
use Rattle.row_nodes.specs.Gates.{folded}
use Rattle.row_nodes.proofs.pairs.each.Given as goal

abbrev pub invariant-loop-i : goal.invariant-loop-i
invariant-loop-i l = record {
  sized : length l.row.items ≡ l.i;
  builds : Builds l.fn.table l.table l.row.items (rows.each (folded l.fn.table l.gate) (bits_at l.fn.table (drop l.i l.xs)) (bits_at l.fn.table (drop l.i l.ys))) (rows.each (folded l.fn.table l.gate) (bits_at l.fn.table l.xs) (bits_at l.fn.table l.ys));
}
