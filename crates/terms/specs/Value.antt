-- The value of a term under an input.
use Rattle.std.specs.Prelude.{ℕ, Bool, List, ◌+◌, ◌-◌, ◌*◌, ◌/◌, ◌%◌, ◌^◌, ◌<◌, ◌==◌, if◌then◌else◌, slice_index}
use Rattle.std.specs.List.{list_all}
use Rattle.bitnum.specs.Number.{Number}
use Rattle.bitnum.specs.Operations.{applied, holds, widened, sign_widened, narrowed}
use Rattle.bitnum.specs.declared.Pred.TheVariants as pred
use Rattle.terms.specs.declared.term.Unary.{Unary}
use Rattle.terms.specs.declared.term.Unary.TheVariants.{Not, Zext, Sext, Trunc, Byte}
use Rattle.terms.specs.declared.term.Binary.{Binary}
use Rattle.terms.specs.declared.term.Binary.TheVariants.{Bin, Eq, Ult, Slt, Join}
use Rattle.terms.specs.Tree.{Tree, constant, input, one, two, choice}

-- one bit
abbrev pub truth : Bool → Number
truth test = record { width = 1; bits = if test then 1 else 0 }

abbrev pub is_yes : Number → Bool
is_yes n = n.bits == 1

abbrev pub one_of : Unary → Number → Number
one_of Not n = record { width = 1; bits = 1 - n.bits }
one_of (Zext width) n = widened n width
one_of (Sext width) n = sign_widened n width
one_of (Trunc width) n = narrowed n width
one_of (Byte j) n = record { width = 8; bits = n.bits / 2 ^ (8 * j) % 2 ^ 8 }

abbrev pub two_of : Binary → Number → Number → Number
two_of (Bin op) m n = applied op m n
two_of Eq m n = truth (holds pred.Eq m n)
two_of Ult m n = truth (holds pred.Ult m n)
two_of Slt m n = truth (holds pred.Slt m n)
two_of Join m n = record { width = m.width + n.width; bits = m.bits + n.bits * 2 ^ m.width }

-- byte k of an input, as a number of 8 bits
abbrev pub byte_of : List ℕ → ℕ → Number
byte_of bytes k = record { width = 8; bits = slice_index bytes k % 2 ^ 8 }

abbrev pub value_of : Tree → List ℕ → Number
value_of (constant n) bytes = n
value_of (input k) bytes = byte_of bytes k
value_of (one op a) bytes = one_of op (value_of a bytes)
value_of (two op a b) bytes = two_of op (value_of a bytes) (value_of b bytes)
value_of (choice c a b) bytes = if is_yes (value_of c bytes) then value_of a bytes else value_of b bytes

-- the term reads no input byte from this one on
abbrev pub ReadsBelow : ℕ → Tree → Type 0
ReadsBelow count (constant n) = Unit {0}
ReadsBelow count (input k) = k < count
ReadsBelow count (one op a) = ReadsBelow count a
ReadsBelow count (two op a b) = ReadsBelow count a × ReadsBelow count b
ReadsBelow count (choice c a b) = ReadsBelow count c × ReadsBelow count a × ReadsBelow count b

-- an input meets a term of one bit where its value is 1, and a condition where it meets each of its terms
abbrev pub is_met_by : List ℕ → Tree → Bool
is_met_by bytes t = is_yes (value_of t bytes)

abbrev pub are_met_by : List ℕ → List Tree → Bool
are_met_by bytes conjuncts = list_all (is_met_by bytes) conjuncts
