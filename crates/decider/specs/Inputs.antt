-- The order of inputs, and which bytes of input a term reads.
use Rattle.std.specs.Prelude.{ℕ, ◌≡◌, ◌<◌, ◌⊎◌, List, [], ◌∷◌}
use Rattle.terms.specs.Tree.{Tree, constant, input, one, two, choice}

-- In the order of a dictionary the first input is at most the second: at the first place where they differ, its byte
-- is the smaller one, or it ends there.
abbrev pub IsAtMost : List ℕ → List ℕ → Type 0
IsAtMost [] ys = Unit {0}
IsAtMost (x ∷ xs) [] = ⊥
IsAtMost (x ∷ xs) (y ∷ ys) = (x < y) ⊎ ((x ≡ y) × IsAtMost xs ys)

-- the term reads no bytes of input but these two
abbrev pub ReadsOnly : ℕ → ℕ → Tree → Type 0
ReadsOnly j k (constant n) = Unit {0}
ReadsOnly j k (input i) = (i ≡ j) ⊎ (i ≡ k)
ReadsOnly j k (one op a) = ReadsOnly j k a
ReadsOnly j k (two op a b) = ReadsOnly j k a × ReadsOnly j k b
ReadsOnly j k (choice c a b) = ReadsOnly j k c × ReadsOnly j k a × ReadsOnly j k b
