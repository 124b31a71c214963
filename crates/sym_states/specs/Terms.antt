-- The values that nodes make of their operands. All is total: where widths don't fit a node, as in no program that was checked,
-- a term is made all the same, and so each test and each side is a term of one bit.
use Rattle.std.specs.Prelude.{ℕ, ◌-◌, ◌*◌, ◌/◌, ◌^◌, ◌==◌, ◌&&◌, nat_lt, nat_le, Bool, true, List, [], ◌∷◌, ◌++◌, Option, Some, None, slice_get, if◌then◌else◌}
use Rattle.bitnum.specs.declared.BinOp.{BinOp}
use Rattle.bitnum.specs.declared.BinOp.TheVariants as op
use Rattle.bitnum.specs.declared.Pred.{Pred}
use Rattle.bitnum.specs.declared.Pred.TheVariants as pred
use Rattle.terms.specs.Tree.{Tree, constant, input, width_of}
use Rattle.terms.specs.Folding.{folded_one, folded_two, folded_choice}
use Rattle.terms.specs.declared.term.Unary.TheVariants.{Zext, Sext, Trunc}
use Rattle.terms.specs.declared.term.Binary.TheVariants.{Bin, Ult, Slt}
use Rattle.term_store.specs.Condition.{negation}
use Rattle.flat_ir.specs.declared.names.ObjectName.TheVariants as object
use Rattle.flat_ir.specs.declared.nodes.CastOp.{CastOp}
use Rattle.flat_ir.specs.declared.nodes.CastOp.TheVariants as to
use Rattle.flat_ir.specs.declared.nodes.GepPart.{GepPart}
use Rattle.flat_ir.specs.declared.nodes.GepPart.TheVariants.{Field, Index}
use Rattle.flat_ir.specs.declared.nodes.MoveSet.{MoveSet}
use Rattle.flat_ir.specs.declared.nodes.Operand.{Operand}
use Rattle.flat_ir.specs.declared.nodes.Operand.TheVariants as operand
use Rattle.flat_ir.specs.declared.nodes.RegType.{RegType}
use Rattle.flat_ir.specs.declared.nodes.SwitchCase.{SwitchCase}
use Rattle.flat_ir.specs.Registers.{bytes_of_type}
use Rattle.sym_bytes.specs.declared.names.Base.TheVariants.{Null}
use Rattle.sym_bytes.specs.declared.names.CallId.{CallId}
use Rattle.sym_bytes.specs.Answers.{Join, Mixed}
use Rattle.sym_bytes.specs.Building.{number, wide, equal, behind, null, pointer_to, same_call, same_base}
use Rattle.sym_bytes.specs.Byte as byte
use Rattle.sym_bytes.specs.Byte.{SymByte}
use Rattle.sym_bytes.specs.Cutting.{byte_of, cut_value}
use Rattle.sym_bytes.specs.Joining.{put_call, join_bytes}
use Rattle.sym_bytes.specs.Pointers.{Pointer}
use Rattle.sym_bytes.specs.Value.{SymValue, Int, Ptr, Pending}
use Rattle.skip_records.specs.Snapshots.{Snapshot}
use Rattle.sym_states.specs.States.{Frame, State, set}

-- ---- values and their bytes

-- how many bytes a value takes in memory
abbrev pub bytes_of_value : SymValue → ℕ
bytes_of_value (Int t) = width_of t / 8
bytes_of_value (Ptr p) = 8
bytes_of_value (Pending c t) = bytes_of_type t

abbrev pub is_of_bytes : SymValue → Bool
is_of_bytes (Int t) = width_of t == 8 * (width_of t / 8)
is_of_bytes (Ptr p) = true
is_of_bytes (Pending c t) = true

-- byte j of a value; a checked program asks for no byte that it doesn't have
abbrev pub part_of : SymValue → ℕ → SymByte
part_of v j = if is_of_bytes v && nat_lt j (bytes_of_value v) then byte_of v j else byte.Int (number 8 0)

-- ---- operands

abbrev pub instead : Option SymValue → SymValue → SymValue
instead None v = v
instead (Some w) v = w

-- what the call returned, where that is recovered, in place of its pending result
abbrev pub with_result : Snapshot → SymValue → SymValue
with_result s (Int t) = Int t
with_result s (Ptr p) = Ptr p
with_result s (Pending c t) = if same_call s.call c then instead s.result (Pending c t) else Pending c t

-- a value with recovered results in place of pending ones; a result may be a pending one of an older call
abbrev pub resolved : List Snapshot → SymValue → SymValue
resolved [] v = v
resolved (s ∷ newer) v = with_result s (resolved newer v)

-- byte j of a recovered result is byte j of its value
abbrev pub byte_resolved : List Snapshot → SymByte → SymByte
byte_resolved snapshots (byte.Int t) = byte.Int t
byte_resolved snapshots (byte.PtrByte p j) = byte.PtrByte p j
byte_resolved snapshots (byte.PendingByte c t j) = part_of (resolved snapshots (Pending c t)) j

abbrev pub set_or_null : Option (Option SymValue) → SymValue
set_or_null (Some (Some v)) = v
set_or_null (Some None) = null
set_or_null None = null

-- an operand's value in registers, as it stands there
abbrev pub raw_in : List (Option SymValue) → Operand → SymValue
raw_in regs (operand.Reg r) = set_or_null (slice_get regs r.0)
raw_in regs (operand.Int n) = Int (constant n)
raw_in regs operand.Null = null
raw_in regs (operand.Global g offset) = pointer_to (object.Global g) offset

-- an operand's value, with recovered results
abbrev pub value_in : State → Operand → SymValue
value_in s a = resolved s.snapshots (raw_in s.frame.regs a)

-- the term of a value; a checked program asks for none of a pointer
abbrev pub term_in : SymValue → Tree
term_in (Int t) = t
term_in (Ptr p) = wide 0
term_in (Pending c t) = wide 0

abbrev pub no_pointer : Pointer
no_pointer = record { base = Null; offset = wide 0 }

-- the pointer of a value; a checked program asks for none of a number
abbrev pub pointer_in : SymValue → Pointer
pointer_in (Int t) = no_pointer
pointer_in (Ptr p) = p
pointer_in (Pending c t) = no_pointer

abbrev pub number_in : State → Operand → Tree
number_in s a = term_in (value_in s a)

abbrev pub address_in : State → Operand → Pointer
address_in s a = pointer_in (value_in s a)

abbrev pub put_pending : SymValue → List CallId → List CallId
put_pending (Int t) calls = calls
put_pending (Ptr p) calls = calls
put_pending (Pending c t) calls = put_call c calls

-- the calls whose results the operands wait for, in ascending order
abbrev pub pending_in : State → List Operand → List CallId
pending_in s [] = []
pending_in s (a ∷ as') = put_pending (value_in s a) (pending_in s as')

-- ---- terms

-- an operation on two terms of one width
abbrev pub calculated : BinOp → Tree → Tree → Tree
calculated o a b = if width_of a == width_of b then folded_two (Bin o) a b else a

-- one bit, whether two terms of one width are equal
abbrev pub is_equal : Tree → Tree → Tree
is_equal a b = if width_of a == width_of b then equal a b else number 1 0

-- how two terms of one width compare, by the comparisons that terms have and their negations ('icmp')
abbrev pub compared : Pred → Tree → Tree → Tree
compared pred.Eq a b = equal a b
compared pred.Ne a b = negation (equal a b)
compared pred.Ugt a b = folded_two Ult b a
compared pred.Uge a b = negation (folded_two Ult a b)
compared pred.Ult a b = folded_two Ult a b
compared pred.Ule a b = negation (folded_two Ult b a)
compared pred.Sgt a b = folded_two Slt b a
compared pred.Sge a b = negation (folded_two Slt a b)
compared pred.Slt a b = folded_two Slt a b
compared pred.Sle a b = negation (folded_two Slt b a)

abbrev pub compared_terms : Pred → Tree → Tree → Tree
compared_terms pr a b = if width_of a == width_of b then compared pr a b else number 1 0

-- pointers into different objects are never equal
abbrev pub alike_pointers : Pointer → Pointer → Tree
alike_pointers a b = if same_base a.base b.base then equal a.offset b.offset else number 1 0

-- pointers are compared for being equal alone
abbrev pub compared_pointers : Pred → Pointer → Pointer → Tree
compared_pointers pred.Eq a b = alike_pointers a b
compared_pointers _ a b = negation (alike_pointers a b)

abbrev pub compared_values : Pred → SymValue → SymValue → Tree
compared_values pr (Ptr a) (Ptr b) = compared_pointers pr a b
compared_values pr a b = compared_terms pr (term_in a) (term_in b)

-- a term in another width, which is narrower or wider as the cast says ('trunc .. to', 'zext .. to', 'sext .. to')
abbrev pub cast_to : CastOp → ℕ → Tree → Tree
cast_to to.Trunc width a = if nat_le 1 width && nat_lt width (width_of a) then folded_one (Trunc width) a else a
cast_to to.Zext width a = if nat_lt (width_of a) width && nat_le width 64 then folded_one (Zext width) a else a
cast_to to.Sext width a = if nat_lt (width_of a) width && nat_le width 64 then folded_one (Sext width) a else a

-- the first term where the condition, of one bit, is 1, and else the second, of one width ('select')
abbrev pub chosen : Tree → Tree → Tree → Tree
chosen c a b = if (width_of c == 1) && (width_of a == width_of b) then folded_choice c a b else a

-- the lowest 8 bits
abbrev pub low_byte : Tree → Tree
low_byte t =
    if width_of t == 8 then t
    else (if nat_lt 8 (width_of t) then folded_one (Trunc 8) t else folded_one (Zext 8) t)

-- the status of a program is the low byte of what it returns
abbrev pub status_of : Option SymValue → Tree
status_of None = number 8 0
status_of (Some v) = low_byte (term_in v)

-- a condition has one bit
abbrev pub truth_of : Tree → Tree
truth_of t = if width_of t == 1 then t else number 1 0

-- a size has 64 bits
abbrev pub size_in : Tree → Tree
size_in t = if width_of t == 64 then t else wide 0

-- an index, which is signed, in 64 bits
abbrev pub in_64_bits : Tree → Tree
in_64_bits t = if width_of t == 64 then t else folded_one (Sext 64) t

-- an offset moved by a field's place, or by an index times a size ('getelementptr')
abbrev pub moved_by_index : Tree → ℕ → Tree → Tree
moved_by_index offset scale index = folded_two (Bin op.Add) offset (folded_two (Bin op.Mul) (wide scale) (in_64_bits index))

abbrev pub moved_by : State → Tree → GepPart → Tree
moved_by s offset (Field by) = behind offset by
moved_by s offset (Index scale index) = moved_by_index offset scale (number_in s index)

abbrev pub moved_by_all : State → Tree → List GepPart → Tree
moved_by_all s offset [] = offset
moved_by_all s offset (part ∷ parts) = moved_by_all s (moved_by s offset part) parts

-- the next byte of the input in 32 bits, or -1 at its end (C standard, 7.21.7.6, getchar)
abbrev pub input_at : ℕ → ℕ → Tree
input_at inputs k = if nat_lt k inputs then folded_one (Zext 32) (input k) else number 32 (2 ^ 32 - 1)

-- ---- tests and sides

-- the divisor isn't 0
abbrev pub is_nonzero : Tree → Tree
is_nonzero b = negation (equal b (number (width_of b) 0))

-- a signed number is the least of its width; it is -1
abbrev pub is_least : Tree → Tree
is_least a = equal a (number (width_of a) (2 ^ (width_of a - 1)))

abbrev pub is_ones : Tree → Tree
is_ones b = equal b (number (width_of b) (2 ^ width_of b - 1))

-- it isn't the least number divided by -1
abbrev pub has_quotient : Tree → Tree → Tree
has_quotient a b = negation (folded_two (Bin op.And) (is_least a) (is_ones b))

-- a malloc of more than 65536 bytes gives null
abbrev pub is_small : Tree → Tree
is_small size = negation (folded_two Ult (wide 65536) size)

-- n bytes from an offset on lie in an object of that size
abbrev pub is_within : Tree → ℕ → Tree → Tree
is_within size n offset =
    folded_two (Bin op.And) (negation (folded_two Ult size (wide n))) (negation (folded_two Ult (folded_two (Bin op.Sub) size (wide n)) offset))

-- the pointer is its object's start
abbrev pub is_start : Tree → Tree
is_start offset = equal offset (wide 0)

-- the sides of a branch: the condition, and its negation
abbrev pub branch_sides : Tree → List Tree
branch_sides t = truth_of t ∷ negation (truth_of t) ∷ []

-- the value is the number of a case, for each in order
abbrev pub case_sides : Tree → List SwitchCase → List Tree
case_sides v [] = []
case_sides v (c ∷ cs) = is_equal v (constant c.number) ∷ case_sides v cs

-- the 'and' of a term and the negations of others, from the left
abbrev pub and_none : Tree → List Tree → Tree
and_none t [] = t
and_none t (u ∷ us) = and_none (folded_two (Bin op.And) t (negation u)) us

-- the 'and' of the negations, from the left, or 1 if there are none: folding leaves out the 1 of one bit
abbrev pub none_of : List Tree → Tree
none_of ts = and_none (number 1 1) ts

-- the sides of a switch: its cases in order, and the default
abbrev pub switch_sides : Tree → List SwitchCase → List Tree
switch_sides v cs = case_sides v cs ++ none_of (case_sides v cs) ∷ []

-- ---- bytes that are stored and loaded

-- the bytes of a value as it is stored; a checked program stores no number whose bits make no bytes
abbrev pub stored_bytes : SymValue → List SymByte
stored_bytes v = if is_of_bytes v then cut_value v (bytes_of_value v) else []

-- what the bytes make of a type; no bytes make no value, and a checked program loads no such type
abbrev pub joined_as : RegType → List SymByte → Join
joined_as t [] = Mixed
joined_as t (b ∷ bs) = join_bytes (b ∷ bs) t

-- the sets are made at once
abbrev pub set_all : State → List MoveSet → Frame → Frame
set_all old [] frame = frame
set_all old (m ∷ ms) frame = set_all old ms (set m.register (value_in old m.value) frame)
