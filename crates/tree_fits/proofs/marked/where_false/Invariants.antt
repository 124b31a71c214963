use Rattle.std.proofs.Common.{◌≡◌, ◌++◌, drop}
use Rattle.ir_programs.specs.Fits as spec
use Rattle.tree_fits.proofs.marked.where_false.Given as goal

abbrev pub invariant-places : goal.invariant-places
invariant-places l = l.nodes ++ spec.where_false l.place (drop l.place l.tests) ≡ spec.where_false 0 l.tests
