-- Words with which words of the table begin.
use Rattle.std.specs.Prelude.{◌≡◌, ◌<◌, ◌≤◌, ◌+◌, ℕ, List, ◌++◌, length, take, Some}
use Rattle.chop_words.specs.Words.{Wanted, wanted, misfit}

-- with some more words they are words of the table
pub record Begins (words : List (List ℕ)) : Type 0 where
  pub more : List (List ℕ)
  pub asked : Wanted
  pub is : wanted (words ++ more) ≡ Some asked

-- the words before this place begin words of the table, and with the word that stands there they begin none
pub record IsFirstMisfit (words : List (List ℕ)) (n : ℕ) : Type 0 where
  pub within : n ≤ length words
  pub before : Begins (take n words)
  pub misfits : n < length words → Begins (take (n + 1) words) → ⊥

-- the place that a usage line names is that of the first word that doesn't fit, or of the end
abbrev pub MisfitsAreFirst : Type 0
MisfitsAreFirst = (words : List (List ℕ)) → IsFirstMisfit words (misfit words)
