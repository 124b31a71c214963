use Rattle.std.proofs.Common.{◌≡◌, ℕ, map, take, List}
use Rattle.tree_types.specs.Met.{is_behind}
use Rattle.tree_types.proofs.recursion.none_met.Given as goal

abbrev pub invariant-each : goal.invariant-each
invariant-each l = (target : List ℕ) → l.met.items ≡ map (λ d. is_behind 0 l.types target d.name.text) (take l.definition-index l.types)
