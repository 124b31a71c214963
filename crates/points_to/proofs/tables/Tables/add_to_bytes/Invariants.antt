use Rattle.points_to.specs.Solving.{PutsBytes}
use Rattle.points_to.proofs.tables.Tables.add_to_bytes.Given as goal

abbrev pub invariant-loop-target : goal.invariant-loop-target
invariant-loop-target l = PutsBytes l.fn.self.kinds.items l.fn.self.changed l.targets l.sites l.target-index l.self.kinds.items l.self.changed
