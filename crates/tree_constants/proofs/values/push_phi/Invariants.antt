use Rattle.std.proofs.Common.{◌≡◌, ◌++◌, drop, map}
use Rattle.ir_programs.specs.Parts as spec
use Rattle.tree_constants.specs.Values.{lent, bare, values_of_phi}
use Rattle.tree_constants.proofs.values.push_phi.Given as goal

abbrev pub invariant-loop-incoming : goal.invariant-loop-incoming
invariant-loop-incoming l = lent l.values.items ++ bare (map (λ i. spec.written (spec.register_type l.phi.kind) i.value) (drop l.incoming-index l.all)) ≡ lent l.initial.values.items ++ values_of_phi l.phi
