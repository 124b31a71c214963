use Rattle.points_to.specs.Solving.{AppliesFirst}
use Rattle.points_to.proofs.tables.Tables.round.Given as goal

abbrev pub invariant-loop-inclusion : goal.invariant-loop-inclusion
invariant-loop-inclusion l = AppliesFirst l.list l.inclusion-index l.fn.self.kinds.items l.fn.self.changed l.self.kinds.items l.self.changed
