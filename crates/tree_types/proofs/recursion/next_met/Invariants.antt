use Rattle.std.proofs.Common.{◌≡◌, ℕ, suc, map, take}
use Rattle.tree_types.specs.Met.{AreMet, is_behind}
use Rattle.tree_types.proofs.recursion.next_met.Given as goal

abbrev pub invariant-each : goal.invariant-each
invariant-each l = (n : ℕ) → AreMet n l.types l.target l.met → l.next.items ≡ map (λ d. is_behind (suc n) l.types l.target d.name.text) (take l.definition-index l.types)
