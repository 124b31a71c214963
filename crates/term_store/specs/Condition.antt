-- What adding a conjunct does to a condition.
use Rattle.std.specs.Prelude.{ℕ, ◌≡◌, Bool, ◌||◌, ◌&&◌, ◌==◌, false, List, [], ◌∷◌, ◌++◌, Option, Some, None, if◌then◌else◌}
use Rattle.std.specs.List.{list_any}
use Rattle.bitnum.specs.Number.{Number}
use Rattle.terms.specs.declared.term.Unary.TheVariants.{Not}
use Rattle.terms.specs.Tree.{Tree}
use Rattle.terms.specs.Value.{is_met_by, are_met_by}
use Rattle.terms.specs.Same.{same}
use Rattle.terms.specs.Folding.{constant_of, folded_one}
use Rattle.term_store.specs.declared.conditions.Added.{Added}
use Rattle.term_store.specs.declared.conditions.Added.TheVariants.{Held, Appended, Contradicted}

-- a constant of this bit
abbrev pub is_bit : ℕ → Option Number → Bool
is_bit bit (Some n) = n.bits == bit
is_bit bit None = false

-- the term is one of the conjuncts
abbrev pub stands : List Tree → Tree → Bool
stands conjuncts t = list_any (same t) conjuncts

abbrev pub negation : Tree → Tree
negation t = folded_one Not t

-- The rule of sides. The constant 1, and a term that stands there, are held. The constant 0, and a term whose negation
-- stands there, contradict the condition. Any other term is appended.
abbrev pub answer : List Tree → Tree → Added
answer conjuncts t =
    if is_bit 1 (constant_of t) || stands conjuncts t then Held
    else (if is_bit 0 (constant_of t) || stands conjuncts (negation t) then Contradicted else Appended)

-- only a term that is appended changes the list
abbrev pub after : Added → List Tree → Tree → List Tree
after Appended conjuncts t = conjuncts ++ t ∷ []
after Held conjuncts t = conjuncts
after Contradicted conjuncts t = conjuncts

-- An input meets the new condition exactly where it meets the old one and the term; where they contradict each other
-- none meets both.
abbrev pub MeetsAlso : Added → List ℕ → List Tree → List Tree → Tree → Type 0
MeetsAlso Held input old new t = are_met_by input new ≡ (are_met_by input old && is_met_by input t)
MeetsAlso Appended input old new t = are_met_by input new ≡ (are_met_by input old && is_met_by input t)
MeetsAlso Contradicted input old new t = (are_met_by input old && is_met_by input t) ≡ false
