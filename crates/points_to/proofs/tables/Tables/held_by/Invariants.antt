use Rattle.points_to.specs.Solving.{AreThose, HeldFirst}
use Rattle.points_to.proofs.tables.Tables.held_by.Given as goal

abbrev pub invariant-loop-target : goal.invariant-loop-target
invariant-loop-target l = AreThose (HeldFirst l.self.kinds.items l.targets l.target-index) l.found.items
