-- The bits of a term as expressions over the bits of the input, the lowest bit first: one row for each operation.
use Rattle.std.specs.Prelude.{ℕ, Bool, false, ◌+◌, ◌-◌, ◌*◌, ◌/◌, ◌%◌, ◌^◌, ◌==◌, List, [], ◌∷◌, ◌++◌, take, slice_index}
use Rattle.bitnum.specs.declared.BinOp.{BinOp}
use Rattle.bitnum.specs.declared.BinOp.TheVariants.{Add, Sub, Mul, Udiv, Sdiv, Urem, Srem, Shl, Lshr, Ashr, And, Or, Xor}
use Rattle.terms.specs.declared.term.Unary.{Unary}
use Rattle.terms.specs.declared.term.Unary.TheVariants.{Not, Zext, Sext, Trunc, Byte}
use Rattle.terms.specs.declared.term.Binary.{Binary}
use Rattle.terms.specs.declared.term.Binary.TheVariants.{Bin, Eq, Ult, Slt, Join}
use Rattle.terms.specs.Tree.{Tree, constant, input, one, two, choice}
use Rattle.gates.specs.Bits as bit
use Rattle.gates.specs.Bits.{Bit, fold_and, fold_xor}
use Rattle.rows.specs.Rows.{fold_or, constant_bits, each, chosen, inverted, added, subtracted, product, equal, less, signed_less, shifted_up, shifted_down, sign_shifted_down, division, signed_quotient, signed_remainder, widened, byte_at, top}

-- the bits of an input of bytes, by their numbers: byte after byte, the most significant bit of each first
abbrev pub input_of : List ℕ → ℕ → Bool
input_of bytes k = slice_index bytes (k / 8) / 2 ^ (7 - k % 8) % 2 == 1

-- the bits of input byte k, the lowest first
abbrev pub input_bits : ℕ → List Bit
input_bits k = bit.input (8 * k + 7) ∷ bit.input (8 * k + 6) ∷ bit.input (8 * k + 5) ∷ bit.input (8 * k + 4) ∷ bit.input (8 * k + 3) ∷ bit.input (8 * k + 2) ∷ bit.input (8 * k + 1) ∷ bit.input (8 * k) ∷ []

-- the thirteen operations on numbers of one width
abbrev pub bits_of_operation : BinOp → List Bit → List Bit → List Bit
bits_of_operation Add xs ys = added (bit.constant false) xs ys
bits_of_operation Sub xs ys = subtracted xs ys
bits_of_operation Mul xs ys = product xs ys
bits_of_operation Udiv xs ys = (division xs ys).quotient
bits_of_operation Sdiv xs ys = signed_quotient xs ys
bits_of_operation Urem xs ys = (division xs ys).remainder
bits_of_operation Srem xs ys = signed_remainder xs ys
bits_of_operation Shl xs ys = shifted_up xs ys
bits_of_operation Lshr xs ys = shifted_down xs ys
bits_of_operation Ashr xs ys = sign_shifted_down xs ys
bits_of_operation And xs ys = each fold_and xs ys
bits_of_operation Or xs ys = each fold_or xs ys
bits_of_operation Xor xs ys = each fold_xor xs ys

-- widening puts 0 or the sign above, narrowing and a byte take a part
abbrev pub bits_of_one : Unary → List Bit → List Bit
bits_of_one Not xs = inverted xs
bits_of_one (Zext width) xs = widened width (bit.constant false) xs
bits_of_one (Sext width) xs = widened width (top xs) xs
bits_of_one (Trunc width) xs = take width xs
bits_of_one (Byte j) xs = byte_at j xs

-- a comparison is one bit; in a join the first operand is lowest
abbrev pub bits_of_two : Binary → List Bit → List Bit → List Bit
bits_of_two (Bin op) xs ys = bits_of_operation op xs ys
bits_of_two Eq xs ys = equal xs ys ∷ []
bits_of_two Ult xs ys = less xs ys ∷ []
bits_of_two Slt xs ys = signed_less xs ys ∷ []
bits_of_two Join xs ys = xs ++ ys

-- the bits of a term
unfoldable pub bits_of : Tree → List Bit
bits_of (constant n) = constant_bits n.width n.bits
bits_of (input k) = input_bits k
bits_of (one op a) = bits_of_one op (bits_of a)
bits_of (two op a b) = bits_of_two op (bits_of a) (bits_of b)
bits_of (choice c a b) = chosen (top (bits_of c)) (bits_of a) (bits_of b)
