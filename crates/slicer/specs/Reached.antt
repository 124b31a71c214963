-- What follows from given numbers by arrows.
use Rattle.std.specs.Prelude.{◌≡◌, ◌<◌, ◌≤◌, ◌-◌, ℕ, Bool, true, List, length, slice_index_or}
use Rattle.std.specs.List.{Contains}
use Rattle.least.specs.Sets.{has}
use Rattle.slicer.specs.declared.reaching.Arrow.{Arrow}

-- a number is given, or an arrow leads to it from such a number
pub data Reached (arrows : List Arrow) (given : ℕ → Bool) : ℕ → Type 0 where
  begins : (k : ℕ) → given k ≡ true → Reached arrows given k
  follows : (a : Arrow) → Contains arrows a → Reached arrows given a.from → Reached arrows given a.to

-- the arrows lie among the numbers below a size
abbrev pub AreWithin : ℕ → List Arrow → Type 0
AreWithin size arrows = (a : Arrow) → Contains arrows a → (a.from < size) × (a.to < size)

-- arrows are taken from the last on
abbrev pub arrow_at : List Arrow → ℕ → Arrow
arrow_at arrows i = slice_index_or arrows (length arrows - 1 - i) (record { from = 0; to = 0 })

-- what an arrow gives
abbrev pub FollowsAt : List Arrow → ℕ → (ℕ → Bool) → (ℕ → Bool) → Type 0
FollowsAt arrows i S T = S (arrow_at arrows i).from ≡ true → T (arrow_at arrows i).to ≡ true

-- what a rule gives: first one for each given number, and then one for each arrow
pub record FiresAt (arrows : List Arrow) (given : List Bool) (rule : ℕ) (S T : ℕ → Bool) : Type 0 where
  pub begins : rule < length given → has given rule ≡ true → T rule ≡ true
  pub follows : length given ≤ rule → FollowsAt arrows (rule - length given) S T
