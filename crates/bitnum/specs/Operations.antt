-- The operations on numbers.
use Rattle.std.specs.Prelude.{ℕ, Bool, true, false, ◌+◌, ◌-◌, ◌%◌, ◌^◌, ◌==◌, ◌&&◌, ◌||◌, nat_lt, not, Option, Some, None, if◌then◌else◌}
use Rattle.bitnum.specs.declared.BinOp.{BinOp}
use Rattle.bitnum.specs.declared.BinOp.TheVariants.{Udiv, Sdiv, Urem, Srem}
use Rattle.bitnum.specs.declared.Pred.{Pred}
use Rattle.bitnum.specs.declared.Pred.TheVariants.{Eq, Ne, Ugt, Uge, Ult, Ule, Sgt, Sge, Slt, Sle}
use Rattle.bitnum.specs.Number.{Number}
use Rattle.bitnum.specs.Bits.{bits_of, all_ones, sign_extended}

-- what an operation gives of two numbers of one width
abbrev pub applied : BinOp → Number → Number → Number
applied op a b = record { width = a.width; bits = bits_of op a.width a.bits b.bits }

-- with the top bit turned round, signed numbers have the order of unsigned ones
abbrev pub raised : Number → ℕ
raised a = (a.bits + 2 ^ (a.width - 1)) % 2 ^ a.width

-- whether a comparison holds, by the 'icmp' instruction of the LLVM Language Reference
abbrev pub holds : Pred → Number → Number → Bool
holds Eq a b = a.bits == b.bits
holds Ne a b = not (a.bits == b.bits)
holds Ugt a b = nat_lt b.bits a.bits
holds Uge a b = not (nat_lt a.bits b.bits)
holds Ult a b = nat_lt a.bits b.bits
holds Ule a b = not (nat_lt b.bits a.bits)
holds Sgt a b = nat_lt (raised b) (raised a)
holds Sge a b = not (nat_lt (raised a) (raised b))
holds Slt a b = nat_lt (raised a) (raised b)
holds Sle a b = not (nat_lt (raised b) (raised a))

-- in more bits, the new ones 0: 'zext .. to'
abbrev pub widened : Number → ℕ → Number
widened a width = record { width = width; bits = a.bits }

-- in more bits, the new ones the sign: 'sext .. to'
abbrev pub sign_widened : Number → ℕ → Number
sign_widened a width = record { width = width; bits = sign_extended a.width width a.bits }

-- the lowest bits: 'trunc .. to'
abbrev pub narrowed : Number → ℕ → Number
narrowed a width = record { width = width; bits = a.bits % 2 ^ width }

-- one of the four divisions
abbrev pub IsDivision : BinOp → Type 0
IsDivision Udiv = Unit {0}
IsDivision Sdiv = Unit {0}
IsDivision Urem = Unit {0}
IsDivision Srem = Unit {0}
IsDivision op = ⊥

-- a signed division
abbrev pub is_signed : BinOp → Bool
is_signed Sdiv = true
is_signed Srem = true
is_signed op = false

-- where the LLVM Language Reference has undefined behavior: by 0, or the least number by -1 as signed ones
abbrev pub is_undefined : BinOp → Number → Number → Bool
is_undefined op a b = b.bits == 0 || (is_signed op && (a.bits == 2 ^ (a.width - 1) && b.bits == all_ones b.width))

-- what a division gives, where the reference defines it
abbrev pub divided : BinOp → Number → Number → Option Number
divided op a b = if is_undefined op a b then None else Some (applied op a b)
