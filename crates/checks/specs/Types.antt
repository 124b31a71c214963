-- Types of operands, and the tests of types that nodes need (LLVM Language Reference, "Type System" and "Instruction Reference").
use Rattle.std.specs.Prelude.{ℕ, Bool, true, false, ◌&&◌, ◌||◌, ◌==◌, nat_lt, List, [], ◌∷◌, Option, Some, None, slice_get, unwrap_or}
use Rattle.bitnum.specs.declared.Pred.{Pred}
use Rattle.bitnum.specs.declared.Pred.TheVariants as pred
use Rattle.flat_ir.specs.declared.names.RegId.{RegId}
use Rattle.flat_ir.specs.declared.nodes.CastOp.{CastOp}
use Rattle.flat_ir.specs.declared.nodes.CastOp.TheVariants as cast
use Rattle.flat_ir.specs.declared.nodes.GepPart.{GepPart}
use Rattle.flat_ir.specs.declared.nodes.GepPart.TheVariants as part
use Rattle.flat_ir.specs.declared.nodes.MoveSet.{MoveSet}
use Rattle.flat_ir.specs.declared.nodes.Operand.{Operand}
use Rattle.flat_ir.specs.declared.nodes.Operand.TheVariants as operand
use Rattle.flat_ir.specs.declared.nodes.RegType.{RegType}
use Rattle.flat_ir.specs.declared.nodes.RegType.TheVariants as type
use Rattle.flat_ir.specs.declared.nodes.SwitchCase.{SwitchCase}

-- the type of a register; a program names none that isn't there
abbrev pub type_at : List RegType → RegId → RegType
type_at regs r = unwrap_or (slice_get regs r.0) type.Ptr

-- the type of an operand: its register's, a number's own, or a pointer
abbrev pub type_of : List RegType → Operand → RegType
type_of regs (operand.Reg r) = type_at regs r
type_of regs (operand.Int n) = type.Int n.width
type_of regs operand.Null = type.Ptr
type_of regs (operand.Global g offset) = type.Ptr

abbrev pub same_type : RegType → RegType → Bool
same_type (type.Int m) (type.Int n) = m == n
same_type (type.Int m) type.Ptr = false
same_type type.Ptr (type.Int n) = false
same_type type.Ptr type.Ptr = true

abbrev pub is_int : RegType → Bool
is_int (type.Int n) = true
is_int type.Ptr = false

-- a type that memory holds
abbrev pub is_scalar : RegType → Bool
is_scalar (type.Int n) = n == 8 || n == 16 || n == 32 || n == 64
is_scalar type.Ptr = true

-- the operand has the type
abbrev pub has : List RegType → Operand → RegType → Bool
has regs a t = same_type (type_of regs a) t

-- the register, if there is one, has the type, if there is one
abbrev pub sets : List RegType → Option RegId → Option RegType → Bool
sets regs (Some r) (Some t) = same_type (type_at regs r) t
sets regs (Some r) None = false
sets regs None (Some t) = false
sets regs None None = true

-- the value, if there is one, has the type, if there is one
abbrev pub gives : List RegType → Option Operand → Option RegType → Bool
gives regs (Some a) (Some t) = has regs a t
gives regs (Some a) None = false
gives regs None (Some t) = false
gives regs None None = true

-- as many operands as types, and each has its type
abbrev pub have : List RegType → List Operand → List RegType → Bool
have regs [] [] = true
have regs [] (t ∷ ts) = false
have regs (a ∷ as') [] = false
have regs (a ∷ as') (t ∷ ts) = has regs a t && have regs as' ts

-- pointers are compared for equality alone ("'icmp' Instruction": here no other comparison of pointers is defined)
abbrev pub is_equality : Pred → Bool
is_equality pred.Eq = true
is_equality pred.Ne = true
is_equality _ = false

abbrev pub compares : Pred → RegType → RegType → Bool
compares p a b = same_type a b && (is_int a || is_equality p)

-- trunc narrows, zext and sext widen ("Conversion Operations")
abbrev pub resizes : CastOp → ℕ → ℕ → Bool
resizes cast.Trunc m n = nat_lt n m
resizes cast.Zext m n = nat_lt m n
resizes cast.Sext m n = nat_lt m n

abbrev pub casts : CastOp → RegType → RegType → Bool
casts op (type.Int m) (type.Int n) = resizes op m n
casts op (type.Int m) type.Ptr = false
casts op type.Ptr t = false

-- each index of a pointer's parts is a number ("'getelementptr' Instruction")
abbrev pub is_indexed : List RegType → GepPart → Bool
is_indexed regs (part.Field offset) = true
is_indexed regs (part.Index scale index) = is_int (type_of regs index)

abbrev pub are_indexed : List RegType → List GepPart → Bool
are_indexed regs [] = true
are_indexed regs (p ∷ ps) = is_indexed regs p && are_indexed regs ps

-- each register is set to a value of its type ("'phi' Instruction")
abbrev pub are_moved : List RegType → List MoveSet → Bool
are_moved regs [] = true
are_moved regs (s ∷ ss) = has regs s.value (type_at regs s.register) && are_moved regs ss

-- each case is a number of that type ("'switch' Instruction")
abbrev pub are_cases : RegType → List SwitchCase → Bool
are_cases t [] = true
are_cases t (k ∷ ks) = same_type (type.Int k.number.width) t && are_cases t ks
