-- What one attempt of a node does: its tests in order, the first that fails being the fault, and then its effect. Each
-- kind of node follows the section of the LLVM Language Reference's "Instruction Reference" that is named beside it below;
-- where that leaves a case undefined, it is a fault here, or a value that is stated.
use Rattle.std.specs.Prelude.{ℕ, zero, suc, ◌+◌, ◌-◌, ◌*◌, ◌%◌, ◌^◌, Bool, true, false, not, ◌&&◌, ◌==◌, nat_lt, nat_le, List, [], ◌∷◌, ◌++◌, map, reverse, Option, None, Some, slice_get, unwrap_or, if◌then◌else◌}
use Rattle.std.specs.Option.{option_map}
use Rattle.bitnum.specs.Number.{Number}
use Rattle.bitnum.specs.Operations.{applied, holds, widened, sign_widened, narrowed}
use Rattle.bitnum.specs.declared.BinOp.{BinOp}
use Rattle.bitnum.specs.declared.BinOp.TheVariants.{Udiv, Sdiv, Urem, Srem}
use Rattle.bitnum.specs.declared.Pred.{Pred}
use Rattle.bitnum.specs.declared.Pred.TheVariants as pred
use Rattle.flat_ir.specs.declared.names.FuncId.{FuncId}
use Rattle.flat_ir.specs.declared.names.NodeId.{NodeId}
use Rattle.flat_ir.specs.declared.names.RegId.{RegId}
use Rattle.flat_ir.specs.declared.names.ObjectName.{ObjectName}
use Rattle.flat_ir.specs.declared.names.ObjectName.TheVariants as object
use Rattle.flat_ir.specs.declared.nodes.CastOp.{CastOp}
use Rattle.flat_ir.specs.declared.nodes.CastOp.TheVariants.{Trunc, Zext, Sext}
use Rattle.flat_ir.specs.declared.nodes.GepPart.{GepPart}
use Rattle.flat_ir.specs.declared.nodes.GepPart.TheVariants.{Field, Index}
use Rattle.flat_ir.specs.declared.nodes.MoveSet.{MoveSet}
use Rattle.flat_ir.specs.declared.nodes.SwitchCase.{SwitchCase}
use Rattle.flat_ir.specs.declared.nodes.Node.{Node}
use Rattle.flat_ir.specs.declared.nodes.Node.TheVariants as node
use Rattle.flat_ir.specs.declared.nodes.Operand.{Operand}
use Rattle.flat_ir.specs.declared.nodes.RegType.{RegType}
use Rattle.flat_ir.specs.declared.nodes.RegType.TheVariants as type
use Rattle.flat_ir.specs.declared.program.ProgramData.{ProgramData}
use Rattle.flat_ir.specs.declared.values.Address.{Address}
use Rattle.flat_ir.specs.declared.values.ConcreteByte.{ConcreteByte}
use Rattle.flat_ir.specs.declared.values.ConcreteValue.{ConcreteValue}
use Rattle.flat_ir.specs.declared.values.ConcreteValue.TheVariants.{Int, Ptr}
use Rattle.flat_ir.specs.declared.values.FaultKind.{FaultKind}
use Rattle.flat_ir.specs.declared.values.FaultKind.TheVariants as fault
use Rattle.flat_ir.specs.History.{Change, Alloc, Free, Get, Put, History, is_alive, size_of, byte_at, position}
use Rattle.flat_ir.specs.Effects.{written_in, stored_in, freed_in}
use Rattle.flat_ir.specs.Registers.{int, null, number, address, same_address, bytes_of_type, bytes_of_value, cut, joined, first_of}
use Rattle.flat_ir.specs.Machine.{Event, Branched, Loaded, Entered, Returned, Frame, State, Exited, Faulted, Run, On, Over, node_at, nodes_of, func_at, type_at, value_in, made_here, step_here, set, set_if, at_node, entered}

-- the run ends with the fault, if there is one, and else goes on
abbrev pub unless : Option FaultKind → State → Run → Run
unless None s r = r
unless (Some kind) s r = Over (Faulted kind s.frame.func s.frame.node) s

-- with another newest frame
abbrev pub with_frame : Frame → State → State
with_frame frame s = record s { frame = frame }

-- with one change more
abbrev pub appended : Change → State → State
appended change s = record s { history = change ∷ s.history }

-- with one event more
abbrev pub shown : Event → State → State
shown event s = record s { events = s.events ++ event ∷ [] }

-- goes on at a node
abbrev pub to : NodeId → State → Run
to n s = On (with_frame (at_node n s.frame) s)

-- sets a register and goes on
abbrev pub gives : RegId → ConcreteValue → NodeId → State → Run
gives r v n s = to n (with_frame (set r v s.frame) s)

-- sets a register, if one is named, and goes on
abbrev pub gives_if : Option RegId → ConcreteValue → NodeId → State → Run
gives_if r v n s = to n (with_frame (set_if r v s.frame) s)

-- the number, or the address, that an operand has
abbrev pub number_in : State → Operand → Number
number_in s a = number (value_in s.frame a)

abbrev pub address_in : State → Operand → Address
address_in s a = address (value_in s.frame a)

-- a quotient by 0, and a signed one that doesn't fit
abbrev pub by_zero : Number → Option FaultKind
by_zero b = if b.bits == 0 then Some fault.DivideByZero else None

abbrev pub by_zero_or_overflow : Number → Number → Option FaultKind
by_zero_or_overflow a b =
    if b.bits == 0 then Some fault.DivideByZero
    else (if (a.bits == 2 ^ (a.width - 1)) && (b.bits == 2 ^ b.width - 1) then Some fault.DivideOverflow
    else None)

-- the tests of an operation: those of 'udiv', 'urem', 'sdiv' and 'srem'
abbrev pub division_fault : BinOp → Number → Number → Option FaultKind
division_fault Udiv a b = by_zero b
division_fault Urem a b = by_zero b
division_fault Sdiv a b = by_zero_or_overflow a b
division_fault Srem a b = by_zero_or_overflow a b
division_fault _ a b = None

-- the number of one bit that a comparison gives
abbrev pub bit : Bool → ConcreteValue
bit b = int 1 (if b then 1 else 0)

-- pointers are compared for being equal alone
abbrev pub pointers_related : Pred → Address → Address → Bool
pointers_related pred.Eq a b = same_address a b
pointers_related _ a b = not (same_address a b)

-- how two values compare ('icmp')
abbrev pub related : Pred → ConcreteValue → ConcreteValue → Bool
related pr (Int a) (Int b) = holds pr a b
related pr (Ptr a) (Ptr b) = pointers_related pr a b
related pr (Int a) (Ptr b) = false
related pr (Ptr a) (Int b) = false

abbrev pub width_of : RegType → ℕ
width_of (type.Int width) = width
width_of type.Ptr = 64

-- a number in another width ('trunc .. to', 'zext .. to', 'sext .. to')
abbrev pub cast_to : CastOp → ℕ → Number → Number
cast_to Trunc width a = narrowed a width
cast_to Zext width a = widened a width
cast_to Sext width a = sign_widened a width

-- an offset moved by a field's place, or by an index, which is signed, times a size ('getelementptr'); offsets wrap
abbrev pub moved_by : State → ℕ → GepPart → ℕ
moved_by s offset (Field by) = (offset + by) % 2 ^ 64
moved_by s offset (Index scale index) = (offset + scale * (sign_widened (number_in s index) 64).bits) % 2 ^ 64

abbrev pub moved_by_all : State → ℕ → List GepPart → ℕ
moved_by_all s offset [] = offset
moved_by_all s offset (part ∷ parts) = moved_by_all s (moved_by s offset part) parts

-- n bytes from an offset on lie in an object of that size
abbrev pub is_within : ℕ → ℕ → ℕ → Bool
is_within offset n size = nat_le n size && nat_le offset (size - n)

-- the tests of an access of n bytes of an object: it is alive, and the bytes lie in it
abbrev pub object_fault : ProgramData → History → ObjectName → ℕ → ℕ → Option FaultKind
object_fault p h x offset n =
    if not (is_alive x h) then Some fault.UseAfterFree
    else (if is_within offset n (size_of p x h) then None else Some fault.OutOfBounds)

-- the tests of an access of n bytes
abbrev pub access_fault : ProgramData → History → ℕ → Address → Option FaultKind
access_fault p h n a = elim a.base [ None ↦ Some fault.NullAccess | Some x ↦ object_fault p h x a.offset n ]

-- the byte that stands j places behind an address
abbrev pub byte_there : ProgramData → History → Address → ℕ → ConcreteByte
byte_there p h a j = elim a.base [ None ↦ cut (int 8 0) 0 | Some x ↦ byte_at p h x ((a.offset + j) % 2 ^ 64) ]

-- the value of a type that stands at an address, unless its bytes are mixed
abbrev pub loaded : ProgramData → History → Address → RegType → Option ConcreteValue
loaded p h a t = joined t (first_of (bytes_of_type t) 0 (byte_there p h a))

-- with another history
abbrev pub with_history : History → State → State
with_history h s = record s { history = h }

-- the node is one that makes objects which may be freed
abbrev pub is_malloc : Node → Bool
is_malloc (node.Malloc size result next) = true
is_malloc _ = false

abbrev pub made_by_malloc : ProgramData → ObjectName → Bool
made_by_malloc p (object.Global g) = false
made_by_malloc p (object.Made frame made) = is_malloc (node_at p made.func made.node)

-- the tests of a free of an object: it is alive, malloc made it, and the pointer is its start
abbrev pub freed_object_fault : ProgramData → History → ObjectName → ℕ → Option FaultKind
freed_object_fault p h x offset =
    if not (is_alive x h) then Some fault.UseAfterFree
    else (if made_by_malloc p x && (offset == 0) then None else Some fault.BadFree)

-- the tests of a free; null may be freed
abbrev pub free_fault : ProgramData → History → Address → Option FaultKind
free_fault p h a = elim a.base [ None ↦ (if a.offset == 0 then None else Some fault.BadFree) | Some x ↦ freed_object_fault p h x a.offset ]

-- the address of the object that the node makes now
abbrev pub new_here : State → ConcreteValue
new_here s = Ptr (record { base = Some (made_here s.frame); offset = 0 })

-- the object is made
abbrev pub allocated : ℕ → State → State
allocated size s = appended (Alloc (made_here s.frame) size) s

-- what a read of the input gives, in 32 bits
abbrev pub unsigned_byte : Option ℕ → ℕ
unsigned_byte None = 2 ^ 32 - 1
unsigned_byte (Some b) = b

-- the next byte of the input, or -1 at its end
abbrev pub next_byte : List ℕ → History → ConcreteValue
next_byte input h = int 32 (unsigned_byte (slice_get input (position h)))

-- the sets are made at once
abbrev pub set_all : Frame → List MoveSet → Frame → Frame
set_all old [] frame = frame
set_all old (m ∷ ms) frame = set_all old ms (set m.register (value_in old m.value) frame)

-- the number and the node of the case that fits, from k on, or of the default
abbrev pub case_of : ℕ → ℕ → List SwitchCase → NodeId → ℕ × NodeId
case_of v k [] otherwise = (k, otherwise)
case_of v k (c ∷ cs) otherwise = if c.number.bits == v then (k, c.to) else case_of v (k + 1) cs otherwise

-- a side is taken, and shown
abbrev pub branches : ℕ → NodeId → State → Run
branches side n s = to n (shown (Branched s.frame.func s.frame.node side) s)

-- a call makes a frame at the callee's first node ('call')
abbrev pub calls : ProgramData → FuncId → List Operand → State → Run
calls p callee args s = On (shown (Entered s.frame.func s.frame.node callee) (record s {
  frame = entered p callee (map (value_in s.frame) args) (step_here s.frame ∷ s.frame.name);
  callers = s.frame ∷ s.callers;
}))

-- the objects that an Alloca node of the frame made, from its count k on
abbrev pub frees_of_node : Frame → NodeId → ℕ → ℕ → List Change
frees_of_node frame n zero k = []
frees_of_node frame n (suc more) k =
    Free (object.Made frame.name (record { func = frame.func; node = n; count = k })) ∷ frees_of_node frame n more (k + 1)

-- what the frame's node made, if it is an Alloca that was executed so often
abbrev pub frees_at : Frame → NodeId → ℕ → Node → List Change
frees_at frame n count (node.Alloca size result next) = frees_of_node frame n count 1
frees_at frame n count _ = []

-- a frame that ends frees what its Alloca nodes made, by node and then by count
abbrev pub frees_from : Frame → ℕ → List Node → List Change
frees_from frame k [] = []
frees_from frame k (n ∷ ns) =
    frees_at frame (record { 0 = k }) (unwrap_or (slice_get frame.counts k) 0) n ++ frees_from frame (k + 1) ns

-- the newest frame's objects end with it ('alloca': the memory is released when the function returns)
abbrev pub ended : ProgramData → State → State
ended p s = record s { history = reverse (frees_from s.frame 0 (nodes_of (func_at p s.frame.func))) ++ s.history }

abbrev pub call_result : Node → Option RegId
call_result (node.Call callee args result next) = result
call_result _ = None

abbrev pub call_next : Node → NodeId
call_next (node.Call callee args result next) = next
call_next _ = record { 0 = 0 }

abbrev pub set_result : Option RegId → Option ConcreteValue → Frame → Frame
set_result r None frame = frame
set_result r (Some v) frame = set_if r v frame

-- goes on behind the call, with its result
abbrev pub resumed : Node → Option ConcreteValue → Frame → Frame
resumed call v frame = at_node (call_next call) (set_result (call_result call) v frame)

-- the status of a program is the low byte of what main returns
abbrev pub low_byte : Option ConcreteValue → ℕ
low_byte None = 0
low_byte (Some v) = (number v).bits % 256

-- main's end is the program's, with the low byte as its status
abbrev pub returns : ProgramData → Option ConcreteValue → List Frame → State → Run
returns p v [] s = Over (Exited (low_byte v)) s
returns p v (caller ∷ callers) s =
    On (shown (Returned v) (record s { frame = resumed (node_at p caller.func caller.node) v caller; callers = callers }))

-- a load shows its value and sets its register; bytes that make no value are a fault
abbrev pub gives_loaded : Option ConcreteValue → RegId → NodeId → State → Run
gives_loaded None r n s = unless (Some fault.MixedBytes) s (On s)
gives_loaded (Some v) r n s = gives r v n (shown (Loaded s.frame.func s.frame.node v) s)

-- What executing a node does, which the frame has counted already. In the order below: 'Binary Operations' and 'Bitwise
-- Binary Operations'; 'icmp'; the casts; 'getelementptr'; 'select'; 'alloca'; malloc and free of the C library; 'load';
-- 'store'; one byte of memcpy; getchar's and putchar's effects; 'call'; the phis of a block on one edge, all at once ('phi');
-- 'br' with one label; 'br' with a condition; 'switch'; 'ret'; exit, abort and a failed assert; 'unreachable'.
abbrev pub attempt : ProgramData → List ℕ → Node → State → Run
attempt p input (node.Bin op a b result next) s =
    unless (division_fault op (number_in s a) (number_in s b)) s (gives result (Int (applied op (number_in s a) (number_in s b))) next s)
attempt p input (node.Cmp pr a b result next) s = gives result (bit (related pr (value_in s.frame a) (value_in s.frame b))) next s
attempt p input (node.Cast op a result next) s = gives result (Int (cast_to op (width_of (type_at p s.frame.func result)) (number_in s a))) next s
attempt p input (node.Gep base parts result next) s =
    gives result (Ptr (record { base = (address_in s base).base; offset = moved_by_all s (address_in s base).offset parts })) next s
attempt p input (node.Select condition a b result next) s =
    gives result (if (number_in s condition).bits == 1 then value_in s.frame a else value_in s.frame b) next s
attempt p input (node.Alloca size result next) s = gives result (new_here s) next (allocated size s)
attempt p input (node.Malloc size result next) s =
    if nat_lt 65536 (number_in s size).bits then gives_if result (Ptr null) next s
    else gives_if result (new_here s) next (allocated (number_in s size).bits s)
attempt p input (node.Free pointer next) s = unless (free_fault p s.history (address_in s pointer)) s (to next (with_history (freed_in (address_in s pointer) s.history) s))
attempt p input (node.Load pointer result next) s =
    let t = type_at p s.frame.func result in
    unless (access_fault p s.history (bytes_of_type t) (address_in s pointer)) s (gives_loaded (loaded p s.history (address_in s pointer) t) result next s)
attempt p input (node.Store value pointer next) s =
    let v = value_in s.frame value in
    unless (access_fault p s.history (bytes_of_value v) (address_in s pointer)) s (to next (with_history (stored_in (bytes_of_value v) 0 (address_in s pointer) v s.history) s))
attempt p input (node.Copy from there next) s =
    unless (access_fault p s.history 1 (address_in s from)) s
    (unless (access_fault p s.history 1 (address_in s there)) s
    (to next (with_history (written_in (address_in s there) (byte_there p s.history (address_in s from) 0) 0 s.history) s)))
attempt p input (node.In result next) s = gives result (next_byte input s.history) next (appended Get s)
attempt p input (node.Put value next) s = to next (appended (Put ((number_in s value).bits % 256)) s)
attempt p input (node.Call callee args result next) s = calls p callee args s
attempt p input (node.Moves sets next) s = to next (with_frame (set_all s.frame sets s.frame) s)
attempt p input (node.Jump next) s = to next s
attempt p input (node.Branch condition first second) s =
    if (number_in s condition).bits == 1 then branches 0 first s else branches 1 second s
attempt p input (node.Switch value cases otherwise) s =
    let side = case_of (number_in s value).bits 0 cases otherwise in branches side.0 side.1 s
attempt p input (node.Ret value) s = returns p (option_map (value_in s.frame) value) s.callers (ended p s)
attempt p input (node.Exit status) s = Over (Exited ((number_in s status).bits % 256)) s
attempt p input node.Abort s = unless (Some fault.Abort) s (On s)
attempt p input (node.Assert args) s = unless (Some fault.Assert) s (On s)
attempt p input node.Unreachable s = unless (Some fault.Unreachable) s (On s)
