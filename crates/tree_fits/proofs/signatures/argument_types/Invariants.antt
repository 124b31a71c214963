use Rattle.std.proofs.Common.{◌≡◌, ◌++◌, drop, map}
use Rattle.ir_programs.specs.Parts as parts
use Rattle.tree_fits.proofs.signatures.argument_types.Given as goal

abbrev pub invariant-each : goal.invariant-each
invariant-each l = l.types ++ map (λ a. a.kind) (map parts.typed (drop l.argument-index l.arguments)) ≡ map (λ a. a.kind) (map parts.typed l.arguments)
