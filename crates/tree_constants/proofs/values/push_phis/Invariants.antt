use Rattle.std.proofs.Common.{◌≡◌, ◌++◌, drop}
use Rattle.std.specs.List.{flat_map}
use Rattle.tree_constants.specs.Values.{lent, values_of_phi}
use Rattle.tree_constants.proofs.values.push_phis.Given as goal

abbrev pub invariant-loop-phi : goal.invariant-loop-phi
invariant-loop-phi l = lent l.values.items ++ flat_map values_of_phi (drop l.phi-index l.phis) ≡ lent l.initial.values.items ++ flat_map values_of_phi l.phis
