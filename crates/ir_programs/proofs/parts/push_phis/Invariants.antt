use Rattle.std.proofs.Common.{◌≡◌, ◌++◌, drop}
use Rattle.std.specs.List.{flat_map}
use Rattle.ir_programs.specs.Parts as spec
use Rattle.ir_programs.proofs.parts.push_phis.Given as goal

abbrev pub invariant-loop-phi : goal.invariant-loop-phi
invariant-loop-phi l = l.names.items ++ flat_map spec.phi_labels (drop l.phi-index l.phis) ≡ l.initial.names.items ++ flat_map spec.phi_labels l.phis
