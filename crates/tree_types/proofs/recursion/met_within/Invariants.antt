use Rattle.tree_types.specs.Met.{AreMet}
use Rattle.tree_types.proofs.recursion.met_within.Given as goal

abbrev pub invariant-rounds : goal.invariant-rounds
invariant-rounds l = AreMet l.place l.types l.target l.met.items
