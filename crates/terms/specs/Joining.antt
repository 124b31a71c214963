-- The folded term of a join of bytes.
use Rattle.std.specs.Prelude.{ℕ, Bool, true, false, ◌+◌, ◌*◌, ◌==◌, ◌≡◌, ◌&&◌, is_some, List, [], ◌∷◌, length, Option, Some, None, if◌then◌else◌}
use Rattle.std.specs.List.{list_all}
use Rattle.bitnum.specs.Number.{Number}
use Rattle.terms.specs.declared.term.Unary.TheVariants.{Byte}
use Rattle.terms.specs.declared.term.Binary.TheVariants.{Join}
use Rattle.terms.specs.Tree.{Tree, constant, one, two, width_of}
use Rattle.terms.specs.Value.{truth, two_of, value_of, ReadsBelow}
use Rattle.terms.specs.Same.{same}
use Rattle.terms.specs.Folding.{constant_of}

-- the numbers in a row, the first one lowest
abbrev pub joined_of : List Number → Number
joined_of [] = truth false
joined_of (n ∷ []) = n
joined_of (n ∷ m ∷ ns) = two_of Join n (joined_of (m ∷ ns))

-- the bytes in a row, unfolded
abbrev pub spine : List Tree → Tree
spine [] = constant (truth false)
spine (t ∷ []) = t
spine (t ∷ u ∷ ts) = two Join t (spine (u ∷ ts))

-- each term has 8 bits
abbrev pub AreBytes : List Tree → Type 0
AreBytes [] = Unit {0}
AreBytes (t ∷ ts) = (width_of t ≡ 8) × AreBytes ts

-- none of the terms reads an input byte from this one on
abbrev pub ReadBelow : ℕ → List Tree → Type 0
ReadBelow count [] = Unit {0}
ReadBelow count (t ∷ ts) = ReadsBelow count t × ReadBelow count ts

-- the terms are bytes j, j + 1 and so on of one term
abbrev pub are_bytes_of : Tree → ℕ → List Tree → Bool
are_bytes_of whole j [] = true
are_bytes_of whole j (t ∷ ts) = same (one (Byte j) whole) t && are_bytes_of whole (j + 1) ts

abbrev pub is_whole : Tree → List Tree → Bool
is_whole whole ts = width_of whole == 8 * length ts && are_bytes_of whole 0 ts

-- the term of which this one is a byte
abbrev pub inside_byte : Tree → Option Tree
inside_byte (one (Byte j) t) = Some t
inside_byte _ = None

abbrev pub first_inside : List Tree → Option Tree
first_inside [] = None
first_inside (t ∷ ts) = inside_byte t

abbrev pub fold_whole : Option Tree → List Tree → Tree
fold_whole (Some whole) ts = if is_whole whole ts then whole else spine ts
fold_whole None ts = spine ts

-- Constants are joined, and all bytes of one term are that term.
unfoldable pub folded_join : List Tree → Tree
folded_join ts = if list_all (λ u. is_some (constant_of u)) ts then constant (value_of (spine ts) []) else fold_whole (first_inside ts) ts
