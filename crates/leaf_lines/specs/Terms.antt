-- Terms as text: a number is its value and its width, an input byte its place, and an operation its name before its operands.
use Rattle.std.specs.Prelude.{ℕ, Bool, true, false, List, [], ◌++◌, ◌&&◌, codes}
use Rattle.std.specs.Fmt.{decimal}
use Rattle.bitnum.specs.Number.{Number}
use Rattle.bitnum.specs.declared.BinOp.{BinOp}
use Rattle.bitnum.specs.declared.BinOp.TheVariants.{Add, Sub, Mul, Udiv, Sdiv, Urem, Srem, Shl, Lshr, Ashr, And, Or, Xor}
use Rattle.terms.specs.declared.term.Unary.{Unary}
use Rattle.terms.specs.declared.term.Unary.TheVariants.{Not, Zext, Sext, Trunc, Byte}
use Rattle.terms.specs.declared.term.Binary.{Binary}
use Rattle.terms.specs.declared.term.Binary.TheVariants.{Bin, Eq, Ult, Slt, Join}
use Rattle.terms.specs.Tree.{Tree, constant, input, one, two, choice}

-- the words of the LLVM Language Reference ("Binary Operations", "Bitwise Binary Operations")
abbrev pub bin_name : BinOp → List ℕ
bin_name Add = codes "add"
bin_name Sub = codes "sub"
bin_name Mul = codes "mul"
bin_name Udiv = codes "udiv"
bin_name Sdiv = codes "sdiv"
bin_name Urem = codes "urem"
bin_name Srem = codes "srem"
bin_name Shl = codes "shl"
bin_name Lshr = codes "lshr"
bin_name Ashr = codes "ashr"
bin_name And = codes "and"
bin_name Or = codes "or"
bin_name Xor = codes "xor"

-- what stands before the operand: the name, and the new width or the number of the byte
abbrev pub one_name : Unary → List ℕ
one_name Not = codes "not"
one_name (Zext width) = codes "zext " ++ decimal width
one_name (Sext width) = codes "sext " ++ decimal width
one_name (Trunc width) = codes "trunc " ++ decimal width
one_name (Byte j) = codes "byte " ++ decimal j

-- the names of operations on two terms
abbrev pub two_name : Binary → List ℕ
two_name (Bin op) = bin_name op
two_name Eq = codes "eq"
two_name Ult = codes "ult"
two_name Slt = codes "slt"
two_name Join = codes "join"

-- a number by its value and its width
abbrev pub constant_text : Number → List ℕ
constant_text n = decimal n.bits ++ (codes ":" ++ decimal n.width)

-- a join of bytes
abbrev pub is_join : Binary → Bool
is_join Join = true
is_join op = false

-- how an operation begins and ends, unless it goes on in the brackets round it
abbrev pub opening : Bool → Binary → List ℕ
opening true op = []
opening false op = codes "(" ++ (two_name op ++ codes " ")

abbrev pub closing : Bool → List ℕ
closing true = []
closing false = codes ")"

-- A term, where it may be the last operand of a join. A join that stands there goes on in the same brackets.
abbrev pub text_where : Bool → Tree → List ℕ
text_where in_join (constant n) = constant_text n
text_where in_join (input k) = codes "in" ++ decimal k
text_where in_join (one op a) = codes "(" ++ (one_name op ++ (codes " " ++ (text_where false a ++ codes ")")))
text_where in_join (two op a b) =
    opening (in_join && is_join op) op ++ (text_where false a ++ (codes " " ++ (text_where (is_join op) b ++ closing (in_join && is_join op))))
text_where in_join (choice c a b) =
    codes "(ite " ++ (text_where false c ++ (codes " " ++ (text_where false a ++ (codes " " ++ (text_where false b ++ codes ")")))))

-- a term by itself
abbrev pub term_text : Tree → List ℕ
term_text t = text_where false t
