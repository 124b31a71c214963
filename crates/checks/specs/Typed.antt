-- The types that a node needs of its operands and of the register that it sets.
use Rattle.std.specs.Prelude.{Bool, true, false, ◌&&◌, List, [], ◌∷◌, Option, Some, None, slice_get, take}
use Rattle.flat_ir.specs.declared.names.RegId.{RegId}
use Rattle.bitnum.specs.declared.Pred.{Pred}
use Rattle.flat_ir.specs.declared.nodes.GepPart.{GepPart}
use Rattle.flat_ir.specs.declared.nodes.SwitchCase.{SwitchCase}
use Rattle.flat_ir.specs.declared.nodes.Node.{Node}
use Rattle.flat_ir.specs.declared.nodes.Node.TheVariants as node
use Rattle.flat_ir.specs.declared.nodes.Operand.{Operand}
use Rattle.flat_ir.specs.declared.nodes.RegType.{RegType}
use Rattle.flat_ir.specs.declared.nodes.RegType.TheVariants as type
use Rattle.flat_ir.specs.declared.program.Func.{Func}
use Rattle.checks.specs.Types.{type_at, type_of, same_type, is_int, is_scalar, has, sets, gives, have, compares, casts, are_indexed, are_moved, are_cases}

-- the arguments have the types of the callee's parameters, and there is a register of its result's type exactly where it has a result
abbrev pub calls : List RegType → Option Func → List Operand → Option RegId → Bool
calls regs (Some callee) args result = have regs args (take callee.params callee.regs) && sets regs result callee.result
calls regs None args result = false

-- the parameters of `__assert_fail`: the condition's text, the file, the line, the function (Linux Standard Base, "__assert_fail")
abbrev pub assert_params : List RegType
assert_params = type.Ptr ∷ type.Ptr ∷ type.Int 32 ∷ type.Ptr ∷ []

abbrev pub asserts : List RegType → List Operand → Bool
asserts regs args = have regs args assert_params

-- two numbers, and a number as wide as they are ("Binary Operations")
abbrev pub computes : List RegType → Operand → Operand → RegId → Bool
computes regs a b to = is_int (type_at regs to) && has regs a (type_at regs to) && has regs b (type_at regs to)

-- two values of one type give one bit ("'icmp' Instruction")
abbrev pub is_compared : List RegType → Pred → Operand → Operand → RegId → Bool
is_compared regs p a b to = same_type (type_at regs to) (type.Int 1) && compares p (type_of regs a) (type_of regs b)

-- a pointer and numbers give a pointer ("'getelementptr' Instruction")
abbrev pub is_placed : List RegType → Operand → List GepPart → RegId → Bool
is_placed regs base parts to = has regs base type.Ptr && are_indexed regs parts && same_type (type_at regs to) type.Ptr

-- one bit picks one of two values of the register's type ("'select' Instruction")
abbrev pub is_selected : List RegType → Operand → Operand → Operand → RegId → Bool
is_selected regs condition a b to = has regs condition (type.Int 1) && has regs a (type_at regs to) && has regs b (type_at regs to)

-- a value that memory holds is read or written through a pointer ("Memory Access and Addressing Operations")
abbrev pub is_loaded : List RegType → Operand → RegId → Bool
is_loaded regs pointer to = has regs pointer type.Ptr && is_scalar (type_at regs to)

abbrev pub is_stored : List RegType → Operand → Operand → Bool
is_stored regs value pointer = is_scalar (type_of regs value) && has regs pointer type.Ptr

abbrev pub copies : List RegType → Operand → Operand → Bool
copies regs from to = has regs from type.Ptr && has regs to type.Ptr

-- a number, and cases as wide as it is ("'switch' Instruction")
abbrev pub switches : List RegType → Operand → List SwitchCase → Bool
switches regs value cases = is_int (type_of regs value) && are_cases (type_of regs value) cases

-- a size of 64 bits gives a pointer
abbrev pub mallocs : List RegType → Operand → Option RegId → Bool
mallocs regs size to = has regs size (type.Int 64) && sets regs to (Some type.Ptr)

-- A node of a function with these registers and this result, among these functions, has the types that it needs. A byte that is read comes in 32 bits, as one does that is
-- written.
abbrev pub is_typed : List Func → List RegType → Option RegType → Node → Bool
is_typed funcs regs returned (node.Bin op a b result next) = computes regs a b result
is_typed funcs regs returned (node.Cmp p a b result next) = is_compared regs p a b result
is_typed funcs regs returned (node.Cast op a result next) = casts op (type_of regs a) (type_at regs result)
is_typed funcs regs returned (node.Gep base parts result next) = is_placed regs base parts result
is_typed funcs regs returned (node.Select condition a b result next) = is_selected regs condition a b result
is_typed funcs regs returned (node.Alloca size result next) = same_type (type_at regs result) type.Ptr
is_typed funcs regs returned (node.Malloc size result next) = mallocs regs size result
is_typed funcs regs returned (node.Free pointer next) = has regs pointer type.Ptr
is_typed funcs regs returned (node.Load pointer result next) = is_loaded regs pointer result
is_typed funcs regs returned (node.Store value pointer next) = is_stored regs value pointer
is_typed funcs regs returned (node.Copy from to next) = copies regs from to
is_typed funcs regs returned (node.In result next) = same_type (type_at regs result) (type.Int 32)
is_typed funcs regs returned (node.Put value next) = has regs value (type.Int 32)
is_typed funcs regs returned (node.Call callee args result next) = calls regs (slice_get funcs callee.0) args result
is_typed funcs regs returned (node.Moves moved next) = are_moved regs moved
is_typed funcs regs returned (node.Jump next) = true
is_typed funcs regs returned (node.Branch condition first second) = has regs condition (type.Int 1)
is_typed funcs regs returned (node.Switch value cases default) = switches regs value cases
is_typed funcs regs returned (node.Ret value) = gives regs value returned
is_typed funcs regs returned (node.Exit status) = has regs status (type.Int 32)
is_typed funcs regs returned node.Abort = true
is_typed funcs regs returned (node.Assert args) = asserts regs args
is_typed funcs regs returned node.Unreachable = true
