use Rattle.std.proofs.Common.{◌≡◌, ◌++◌, drop, map}
use Rattle.ir_programs.specs.Parts as parts
use Rattle.tree_fits.proofs.signatures.parameter_types.Given as goal

abbrev pub invariant-each : goal.invariant-each
invariant-each l = l.types ++ map (λ p. parts.register_type p.kind) (drop l.parameter-index l.parameters) ≡ map (λ p. parts.register_type p.kind) l.parameters
