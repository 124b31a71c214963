use Rattle.std.proofs.Common.{◌≡◌, ◌<◌, length, drop}
use Rattle.nodes.specs.Nodes.{bit_at, Grows}
use Rattle.nodes.specs.Names.{bits_at}
use Rattle.rows.specs.Rows.{alike, equal}
use Rattle.row_nodes.proofs.compare.equal.Given as goal

abbrev pub invariant-loop-i : goal.invariant-loop-i
invariant-loop-i l = record {
  grows : Grows l.fn.table l.table;
  within : l.so_far < length l.table;
  bit : alike (bit_at l.table l.so_far) (bits_at l.fn.table (drop l.i l.xs)) (bits_at l.fn.table (drop l.i l.ys)) ≡ equal (bits_at l.fn.table l.xs) (bits_at l.fn.table l.ys);
}
