use Rattle.std.proofs.Common.{◌≡◌, drop, map}
use Rattle.ir_programs.specs.Texts.{among, texts}
use Rattle.tree_constants.proofs.names.is_defined.Given as goal

abbrev pub invariant-each : goal.invariant-each
invariant-each l = among l.name (texts (map (λ f. f.header.name) l.functions)) ≡ among l.name (texts (map (λ f. f.header.name) (drop l.function-index l.functions)))
