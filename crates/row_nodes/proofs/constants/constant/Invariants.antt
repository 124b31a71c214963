use Rattle.std.proofs.Common.{◌≡◌, ◌-◌, length}
use Rattle.nodes.proofs.GrowthLemmas.{Builds}
use Rattle.rows.specs.Rows.{constant_bits}
use Rattle.row_nodes.proofs.constants.constant.Given as goal

abbrev pub invariant-loop : goal.invariant-loop
invariant-loop l = record {
  sized : length l.row.items ≡ l.counter;
  builds : Builds l.fn.table l.table l.row.items (constant_bits (l.width - l.counter) l.rest) (constant_bits l.width l.number);
}
