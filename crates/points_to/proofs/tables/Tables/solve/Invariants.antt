use Rattle.std.proofs.Common.{◌-◌}
use Rattle.points_to.specs.Rows as rows
use Rattle.points_to.specs.Rows.{Key, AreTables, size, bound}
use Rattle.points_to.specs.Solving.{IsSound}
use Rattle.points_to.proofs.tables.Tables.solve.Given as goal

abbrev pub invariant-rounds : goal.invariant-rounds
invariant-rounds l = record {
  fine : AreTables l.self.kinds.items;
  places : (k : Key) → rows.Place l.fn.self.kinds.items k → rows.Place l.self.kinds.items k;
  sound : IsSound l.list l.fn.self.kinds.items → IsSound l.list l.self.kinds.items;
}

abbrev pub decreases-rounds : goal.decreases-rounds
decreases-rounds l = bound l.self.kinds.items - size l.self.kinds.items
