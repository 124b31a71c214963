use Rattle.std.proofs.Common.{◌≡◌, drop, map}
use Rattle.ir_programs.specs.Texts.{among, texts}
use Rattle.tree_constants.proofs.names.is_global.Given as goal

abbrev pub invariant-each : goal.invariant-each
invariant-each l = among l.name (texts (map (λ g. g.name) l.globals)) ≡ among l.name (texts (map (λ g. g.name) (drop l.global-index l.globals)))
