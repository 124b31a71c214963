use Rattle.std.proofs.Common.{◌≡◌, ◌<◌, length, drop}
use Rattle.nodes.specs.Nodes.{bit_at, Grows}
use Rattle.nodes.specs.Names.{bits_at}
use Rattle.rows.specs.Rows.{below, less}
use Rattle.row_nodes.proofs.compare.less.Given as goal

abbrev pub invariant-loop-i : goal.invariant-loop-i
invariant-loop-i l = record {
  grows : Grows l.fn.table l.table;
  within : l.so_far < length l.table;
  bit : below (bit_at l.table l.so_far) (bits_at l.fn.table (drop l.i l.xs)) (bits_at l.fn.table (drop l.i l.ys)) ≡ less (bits_at l.fn.table l.xs) (bits_at l.fn.table l.ys);
}
