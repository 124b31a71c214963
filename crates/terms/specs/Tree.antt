-- Terms as contracts see them.
use Rattle.std.specs.Prelude.{ℕ, ◌≡◌, ◌+◌, ◌*◌, ◌%◌, ◌<◌, ◌≤◌}
use Rattle.bitnum.specs.Number.{Number, IsNumber, IsWidth}
use Rattle.terms.specs.declared.term.Unary.{Unary}
use Rattle.terms.specs.declared.term.Unary.TheVariants.{Not, Zext, Sext, Trunc, Byte}
use Rattle.terms.specs.declared.term.Binary.{Binary}
use Rattle.terms.specs.declared.term.Binary.TheVariants.{Bin, Eq, Ult, Slt, Join}

-- a tree over constants and input bytes
pub data Tree : Type 0 where
  constant : Number → Tree
  input : ℕ → Tree
  one : Unary → Tree → Tree
  two : Binary → Tree → Tree → Tree
  choice : Tree → Tree → Tree → Tree

abbrev pub size_of : Tree → ℕ
size_of (constant n) = 1
size_of (input k) = 1
size_of (one op a) = size_of a + 1
size_of (two op a b) = size_of a + size_of b + 1
size_of (choice c a b) = size_of c + size_of a + size_of b + 1

abbrev pub width_of_one : Unary → ℕ
width_of_one Not = 1
width_of_one (Zext width) = width
width_of_one (Sext width) = width
width_of_one (Trunc width) = width
width_of_one (Byte j) = 8

abbrev pub width_of_two : Binary → ℕ → ℕ → ℕ
width_of_two (Bin op) v w = v
width_of_two Eq v w = 1
width_of_two Ult v w = 1
width_of_two Slt v w = 1
width_of_two Join v w = v + w

abbrev pub width_of : Tree → ℕ
width_of (constant n) = n.width
width_of (input k) = 8
width_of (one op a) = width_of_one op
width_of (two op a b) = width_of_two op (width_of a) (width_of b)
width_of (choice c a b) = width_of a

-- the operation may be done on an operand of this width
abbrev pub FitsOne : Unary → ℕ → Type 0
FitsOne Not v = v ≡ 1
FitsOne (Zext width) v = IsWidth width × (v < width)
FitsOne (Sext width) v = IsWidth width × (v < width)
FitsOne (Trunc width) v = IsWidth width × (width < v)
FitsOne (Byte j) v = (v % 8 ≡ 0) × (8 * j + 8 ≤ v)

abbrev pub FitsTwo : Binary → ℕ → ℕ → Type 0
FitsTwo (Bin op) v w = v ≡ w
FitsTwo Eq v w = v ≡ w
FitsTwo Ult v w = v ≡ w
FitsTwo Slt v w = v ≡ w
FitsTwo Join v w = (v ≡ 8) × (w % 8 ≡ 0) × (v + w ≤ 64)

-- the widths agree everywhere
abbrev pub IsTree : Tree → Type 0
IsTree (constant n) = IsNumber n
IsTree (input k) = k < 64
IsTree (one op a) = IsTree a × FitsOne op (width_of a)
IsTree (two op a b) = IsTree a × IsTree b × FitsTwo op (width_of a) (width_of b)
IsTree (choice c a b) = IsTree c × IsTree a × IsTree b × (width_of c ≡ 1) × (width_of a ≡ width_of b)
