use Rattle.std.proofs.Common.{◌≡◌, length, drop}
use Rattle.nodes.specs.Nodes.{Grows}
use Rattle.nodes.specs.Names.{bits_at, AreWithin}
use Rattle.rows.specs.Rows as rows
use Rattle.row_nodes.specs.Moves.{bits_moved}
use Rattle.row_nodes.proofs.shifts.moved_by.Given as goal

abbrev pub invariant-loop-i : goal.invariant-loop-i
invariant-loop-i l = record {
  grows : Grows l.fn.table l.table;
  within : AreWithin l.table l.row.items;
  sized : length l.row.items ≡ length l.xs;
  bits : rows.moved_by (bits_moved l.fn.table l.way) l.by (bits_at l.table l.row.items) (bits_at l.fn.table (drop l.i l.ys)) ≡ rows.moved_by (bits_moved l.fn.table l.way) 1 (bits_at l.fn.table l.xs) (bits_at l.fn.table l.ys);
}
