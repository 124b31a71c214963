-- The sides of a test split the inputs that meet a state's condition.
use Rattle.std.specs.Prelude.{◌≡◌, ℕ, ◌+◌, Bool, true, false, List, [], ◌∷◌, length, if◌then◌else◌}
use Rattle.terms.specs.Tree.{Tree}
use Rattle.terms.specs.Value.{are_met_by}
use Rattle.term_store.specs.Condition.{negation}
use Rattle.leaves.specs.Fitting.{IsTermOf, AreTermsOf}
use Rattle.sym_states.specs.Sides.{Offspring, Lives, Spends, offsprings}
use Rattle.sym_states.specs.States.{State, Context}
use Rattle.sym_states.specs.Verdicts.{Unsat}

-- the input meets the condition of the child
abbrev pub is_met : List ℕ → Offspring → Bool
is_met input (Lives side condition kept) = are_met_by input condition
is_met input (Spends condition) = are_met_by input condition

-- how many of the children an input meets
abbrev pub met_count : List ℕ → List Offspring → ℕ
met_count input [] = 0
met_count input (o ∷ os) = (if is_met input o then 1 else 0) + met_count input os

-- no verdict says of a condition over the input's bytes, which the input meets, that no input meets it
abbrev pub IsNeverDenied : Context → List ℕ → Type 0
IsNeverDenied c input = (condition : List Tree) → AreTermsOf (length input) 1 condition → c.verdict condition (length input) ≡ Unsat → are_met_by input condition ≡ false

-- An input that meets the condition of a state, and that no verdict denies, meets the condition of exactly one child of a test,
-- whose sides are a term of one bit and its negation.
abbrev pub TestsSplit : Type 0
TestsSplit = (c : Context) (input : List ℕ) (s : State) (t : Tree)
    → length s.kept ≡ length input → AreTermsOf (length input) 1 s.condition → IsTermOf (length input) 1 t
    → are_met_by input s.condition ≡ true → IsNeverDenied c input
    → met_count input (offsprings c s 0 (t ∷ negation t ∷ [])) ≡ 1
