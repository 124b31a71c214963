-- What an operation gives of the bits of two numbers of one width.
use Rattle.std.specs.Prelude.{ℕ, Bool, ◌+◌, ◌-◌, ◌*◌, ◌/◌, ◌%◌, ◌^◌, ◌==◌, nat_lt, nat_le, not, if◌then◌else◌, bit_and, bit_or, bit_xor}
use Rattle.bitnum.specs.declared.BinOp.{BinOp}
use Rattle.bitnum.specs.declared.BinOp.TheVariants.{Add, Sub, Mul, Udiv, Sdiv, Urem, Srem, Shl, Lshr, Ashr, And, Or, Xor}

-- the number with every bit 1
abbrev pub all_ones : ℕ → ℕ
all_ones width = 2 ^ width - 1

-- the top bit is set
abbrev pub is_negative : ℕ → ℕ → Bool
is_negative width a = nat_le (2 ^ (width - 1)) a

-- the number that gives 0 when it is added, modulo 2 to the width
abbrev pub negated : ℕ → ℕ → ℕ
negated width a = (2 ^ width - a) % 2 ^ width

abbrev pub negated_if : Bool → ℕ → ℕ → ℕ
negated_if test width a = if test then negated width a else a

-- the absolute value; the least number's is itself
abbrev pub magnitude : ℕ → ℕ → ℕ
magnitude width a = negated_if (is_negative width a) width a

-- the unsigned quotient; a division by 0 has every bit 1
abbrev pub quotient : ℕ → ℕ → ℕ → ℕ
quotient width a b = if b == 0 then all_ones width else a / b

-- the unsigned remainder; a remainder by 0 is the number itself
abbrev pub remainder : ℕ → ℕ → ℕ
remainder a b = if b == 0 then a else a % b

abbrev pub differ : Bool → Bool → Bool
differ a b = if a then not b else b

-- without the lowest bits; a shift by the width and more is 0
abbrev pub moved_down : ℕ → ℕ → ℕ → ℕ
moved_down width a by = if nat_lt by width then a / 2 ^ by else 0

-- with 0 in the lowest bits; a shift by the width and more is 0
abbrev pub moved_up : ℕ → ℕ → ℕ → ℕ
moved_up width a by = if nat_lt by width then a * 2 ^ by % 2 ^ width else 0

-- What an operation gives, by the LLVM Language Reference's "Binary Operations" and "Bitwise Binary Operations": Add, Sub
-- and Mul wrap; the signed divisions work on absolute values, and the quotient is negated where the signs differ, the
-- remainder where the first number is negative. Where the reference leaves a value open (a division by 0, a shift by the
-- width and more, the least number over -1) it is the one that these cases give.
abbrev pub bits_of : BinOp → ℕ → ℕ → ℕ → ℕ
bits_of Add width a b = (a + b) % 2 ^ width
bits_of Sub width a b = (a + negated width b) % 2 ^ width
bits_of Mul width a b = (a * b) % 2 ^ width
bits_of Udiv width a b = quotient width a b
bits_of Sdiv width a b = negated_if (differ (is_negative width a) (is_negative width b)) width (quotient width (magnitude width a) (magnitude width b))
bits_of Urem width a b = remainder a b
bits_of Srem width a b = negated_if (is_negative width a) width (remainder (magnitude width a) (magnitude width b))
bits_of Shl width a b = moved_up width a b
bits_of Lshr width a b = moved_down width a b
bits_of Ashr width a b = if is_negative width a then all_ones width - moved_down width (all_ones width - a) b else moved_down width a b
bits_of And width a b = bit_and a b
bits_of Or width a b = bit_or a b
bits_of Xor width a b = bit_xor a b

-- in more bits, with the top bit copied into the new ones
abbrev pub sign_extended : ℕ → ℕ → ℕ → ℕ
sign_extended from to a = if is_negative from a then a + (2 ^ to - 2 ^ from) else a
