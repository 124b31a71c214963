-- A number that equal trees share, and that others seldom do: each operation, width and number is mixed in.
use Rattle.std.specs.Prelude.{ℕ, ◌+◌, ◌*◌, ◌%◌, ◌^◌}
use Rattle.bitnum.specs.declared.BinOp.{BinOp}
use Rattle.bitnum.specs.declared.BinOp.TheVariants.{Add, Sub, Mul, Udiv, Sdiv, Urem, Srem, Shl, Lshr, Ashr, And, Or, Xor}
use Rattle.terms.specs.declared.term.Unary.{Unary}
use Rattle.terms.specs.declared.term.Unary.TheVariants.{Not, Zext, Sext, Trunc, Byte}
use Rattle.terms.specs.declared.term.Binary.{Binary}
use Rattle.terms.specs.declared.term.Binary.TheVariants.{Bin, Eq, Ult, Slt, Join}
use Rattle.terms.specs.Tree.{Tree, constant, input, one, two, choice}

-- one step of a multiply and add hash, with the multiplier of FNV-1a for 64 bits
abbrev pub mixed : ℕ → ℕ → ℕ
mixed a b = (a * 1099511628211 % 2 ^ 64 + b) % 2 ^ 64

abbrev pub bin_number : BinOp → ℕ
bin_number Add = 0
bin_number Sub = 1
bin_number Mul = 2
bin_number Udiv = 3
bin_number Sdiv = 4
bin_number Urem = 5
bin_number Srem = 6
bin_number Shl = 7
bin_number Lshr = 8
bin_number Ashr = 9
bin_number And = 10
bin_number Or = 11
bin_number Xor = 12

abbrev pub one_digest : Unary → ℕ
one_digest Not = 66
one_digest (Zext width) = mixed 67 width
one_digest (Sext width) = mixed 68 width
one_digest (Trunc width) = mixed 69 width
one_digest (Byte j) = mixed 70 j

abbrev pub two_digest : Binary → ℕ
two_digest (Bin op) = mixed 71 (bin_number op)
two_digest Eq = 72
two_digest Ult = 73
two_digest Slt = 74
two_digest Join = 75

abbrev pub digest_of : Tree → ℕ
digest_of (constant n) = mixed n.width n.bits
digest_of (input k) = mixed 65 k
digest_of (one op a) = mixed (one_digest op) (digest_of a)
digest_of (two op a b) = mixed (mixed (two_digest op) (digest_of a)) (digest_of b)
digest_of (choice c a b) = mixed (mixed (mixed 76 (digest_of c)) (digest_of a)) (digest_of b)
