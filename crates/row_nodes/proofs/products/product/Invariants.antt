use Rattle.std.proofs.Common.{◌≡◌, length, drop}
use Rattle.nodes.specs.Nodes.{Grows}
use Rattle.nodes.specs.Names.{bits_at, AreWithin}
use Rattle.rows.specs.Rows.{multiplied, product}
use Rattle.row_nodes.proofs.products.product.Given as goal

abbrev pub invariant-loop-i : goal.invariant-loop-i
invariant-loop-i l = record {
  start : Grows l.initial.table l.table;
  grows : Grows l.fn.table l.table;
  sum_within : AreWithin l.table l.sum.items;
  sum_sized : length l.sum.items ≡ length l.xs;
  moved_within : AreWithin l.table l.moved.items;
  moved_sized : length l.moved.items ≡ length l.xs;
  bits : multiplied (bits_at l.table l.sum.items) (bits_at l.table l.moved.items) (bits_at l.fn.table (drop l.i l.ys)) ≡ product (bits_at l.fn.table l.xs) (bits_at l.fn.table l.ys);
}
