use Rattle.std.proofs.Common.{◌≡◌, ℕ, suc, drop}
use Rattle.std.specs.List.{flat_map}
use Rattle.ir_programs.specs.Parts.{types_in}
use Rattle.ir_programs.specs.Texts.{texts}
use Rattle.ir_programs.specs.Types as spec
use Rattle.tree_types.specs.Met.{AreMet}
use Rattle.tree_types.proofs.recursion.+met.Given as goal

abbrev pub invariant-is_met_in_some-each : goal.invariant-is_met_in_some-each
invariant-is_met_in_some-each l = (n : ℕ) → AreMet n l.types l.target l.met → spec.is_met (suc n) l.types l.target (texts (spec.type_names (flat_map types_in l.kinds))) ≡ spec.is_met (suc n) l.types l.target (texts (spec.type_names (flat_map types_in (drop l.kind-index l.kinds))))
