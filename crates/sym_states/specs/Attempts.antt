-- One attempt of a state's node: the results that it needs first, its tests in order, and its effect. Each kind of node follows
-- the section of the LLVM Language Reference's "Instruction Reference" of its name, as the concrete run does; what is tested
-- there on an input is a test of a term here, and where skipped calls may have changed what is asked, they are needed first.
use Rattle.std.specs.Prelude.{ℕ, zero, suc, ◌+◌, ◌-◌, ◌^◌, Bool, true, false, List, [], ◌∷◌, ◌++◌, length, map, reverse, Option, Some, None, unwrap_or, slice_get}
use Rattle.std.specs.Option.{option_map, option_to_list}
use Rattle.std.specs.List.{flat_map}
use Rattle.bitnum.specs.declared.Pred.{Pred}
use Rattle.bitnum.specs.declared.BinOp.{BinOp}
use Rattle.bitnum.specs.declared.BinOp.TheVariants as op
use Rattle.terms.specs.Tree.{Tree}
use Rattle.flat_ir.specs.declared.names.FuncId.{FuncId}
use Rattle.flat_ir.specs.declared.names.RegId.{RegId}
use Rattle.flat_ir.specs.declared.names.Location.{Location}
use Rattle.flat_ir.specs.declared.names.Location.TheVariants as location
use Rattle.flat_ir.specs.declared.names.ObjectName.{ObjectName}
use Rattle.flat_ir.specs.declared.names.ObjectName.TheVariants as object
use Rattle.flat_ir.specs.declared.nodes.CastOp.{CastOp}
use Rattle.flat_ir.specs.declared.nodes.GepPart.{GepPart}
use Rattle.flat_ir.specs.declared.nodes.SwitchCase.{SwitchCase}
use Rattle.flat_ir.specs.declared.nodes.Node.{Node}
use Rattle.flat_ir.specs.declared.nodes.Node.TheVariants as node
use Rattle.flat_ir.specs.declared.nodes.Operand.{Operand}
use Rattle.flat_ir.specs.declared.nodes.RegType.{RegType}
use Rattle.flat_ir.specs.declared.program.Func.{Func}
use Rattle.flat_ir.specs.declared.values.FaultKind.{FaultKind}
use Rattle.flat_ir.specs.declared.values.FaultKind.TheVariants as fault
use Rattle.flat_ir.specs.Machine.{func_at, nodes_of, type_at}
use Rattle.flat_ir.specs.Registers.{bytes_of_type}
use Rattle.flat_ir.specs.Skipped.{is_named}
use Rattle.flat_ir.specs.Steps.{made_by_malloc, call_result, width_of}
use Rattle.flat_ir.specs.Whole.{operands_of_part}
use Rattle.sym_bytes.specs.declared.names.Base.{Base}
use Rattle.sym_bytes.specs.declared.names.Base.TheVariants.{Null, Object}
use Rattle.sym_bytes.specs.declared.names.CallId.{CallId}
use Rattle.sym_bytes.specs.Answers.{Living, Alive, Dead, Read, Byte, Undecided, Want, Join}
use Rattle.sym_bytes.specs.Answers as answers
use Rattle.sym_bytes.specs.Building.{wide, behind, null, pointer_to}
use Rattle.sym_bytes.specs.Byte.{SymByte}
use Rattle.sym_bytes.specs.Entry as entry
use Rattle.sym_bytes.specs.Entry.{Entry}
use Rattle.sym_bytes.specs.Pointers.{Pointer}
use Rattle.sym_bytes.specs.Value.{SymValue, Int, Ptr, Pending}
use Rattle.log_laws.specs.Logs.{Did, Marked, life, position, output, entries_since}
use Rattle.log_laws.specs.Needs.{need, location_of}
use Rattle.log_laws.specs.Reading.{read_byte}
use Rattle.write_log.specs.Memory.{with_item, with_log}
use Rattle.leaves.specs.declared.options.Cause.TheVariants.{Steps}
use Rattle.leaves.specs.Events as events
use Rattle.sym_states.specs.declared.frames.Place.{Place}
use Rattle.sym_states.specs.declared.frames.Place.TheVariants.{At, End, Never}
use Rattle.sym_states.specs.declared.frames.Target.{Target}
use Rattle.sym_states.specs.Sides.{Tested, Good, Bad, Answered, test, choose_way}
use Rattle.skip_records.specs.Snapshots.{Snapshot}
use Rattle.sym_states.specs.States.{Frame, State, Context, Step, Goes, Ends, Flow, On, Over, then_flow, then_step, told, opens, in_frame, appended, shown, here, code_of, made_now, name_below, counted, set_if, moved, entered, gives, goes_on, unless_needed}
use Rattle.sym_states.specs.Terms.{byte_resolved, value_in, number_in, address_in, pending_in, term_in, calculated, compared_values, cast_to, chosen, low_byte, status_of, truth_of, size_in, moved_by_all, input_at, is_nonzero, has_quotient, is_small, is_within, is_start, branch_sides, switch_sides, bytes_of_value, stored_bytes, joined_as, set_all}

-- ---- what is needed first

-- what is wanted of the log has no call that is needed
abbrev pub knows : Want → State → Flow State
knows w s = unless_needed (location_of w) (need w s.memory.log) s

-- no operand is a pending result
abbrev pub firm : List Operand → State → Flow State
firm operands s = unless_needed location.Result (pending_in s operands) s

-- ---- faults and tests

abbrev pub faulted : FaultKind → State → Step
faulted kind s = Ends (events.Fault (told s) kind s.frame.func (here s) (output s.memory.log))

-- a fault shows the output, which is needed first; one in a recovery shows none
abbrev pub fails_in : Option Target → FaultKind → State → Step
fails_in None kind s = then_step (knows answers.Output s) (faulted kind)
fails_in (Some target) kind s = Ends (events.Fault (told s) kind s.frame.func (here s) [])

abbrev pub fails : FaultKind → State → Step
fails kind s = fails_in s.target kind s

abbrev pub passed : FaultKind → Tested → Flow State
passed kind (Good s) = On s
passed kind (Bad s) = Over (fails kind s)
passed kind (Answered step) = Over step

-- a test, and the fault where it fails
abbrev pub must : Context → Tree → FaultKind → State → Flow State
must c t kind s = passed kind (test c t s)

-- ---- memory

-- an object and an offset that may be accessed
pub record Reached : Type 0 where
  pub object : ObjectName
  pub offset : Tree
  pub state : State

abbrev pub reached : ObjectName → Tree → State → Flow Reached
reached x offset s = On (record { object = x; offset = offset; state = s })

-- the tests of an access of n bytes of an object
abbrev pub access_alive : Context → Living → ℕ → ObjectName → Tree → State → Flow Reached
access_alive c Dead n x offset s = Over (fails fault.UseAfterFree s)
access_alive c (Alive size) n x offset s = then_flow (must c (is_within size n offset) fault.OutOfBounds s) (reached x offset)

abbrev pub access_object : Context → ℕ → ObjectName → Tree → State → Flow Reached
access_object c n x offset s = then_flow (knows (answers.Life x) s) (λ u. access_alive c (life u.memory.globals x u.memory.log) n x offset u)

abbrev pub access_base : Context → ℕ → Base → Tree → State → Flow Reached
access_base c n Null offset s = Over (fails fault.NullAccess s)
access_base c n (Object x) offset s = access_object c n x offset s

-- the tests of an access of n bytes at a pointer
abbrev pub access : Context → ℕ → Pointer → State → Flow Reached
access c n p s = access_base c n p.base p.offset s

-- bytes that were read
pub record ReadBytes : Type 0 where
  pub bytes : List SymByte
  pub state : State

-- whichever the side of a test, it goes on the same way
abbrev pub either_way : {A : Type 0} → Tested → (State → Flow A) → Flow A
either_way (Good s) next = next s
either_way (Bad s) next = next s
either_way (Answered step) next = Over step

-- The byte of an object at an offset, behind the tests that decide which one it is, at most so many. Each test decides one more
-- of the equalities of offsets in the log.
abbrev pub read_on : Context → ObjectName → Tree → ℕ → State → Flow ReadBytes
read_on c x at zero s = Over (opens Steps s)
read_on c x at (suc tests) s = elim (read_byte s.memory.globals s.condition x at s.memory.log) [
  | Byte b ↦ On (record { bytes = b ∷ []; state = s })
  | Undecided t ↦ either_way (test c t s) (λ u. read_on c x at tests u)
]

abbrev pub read_one : Context → ObjectName → Tree → State → Flow ReadBytes
read_one c x at s = read_on c x at (2 ^ 64 - 1) s

abbrev pub before : List SymByte → ReadBytes → Flow ReadBytes
before first more = On (record { bytes = first ++ more.bytes; state = more.state })

-- n bytes of an object, from byte j behind the offset on
abbrev pub read_all : Context → ObjectName → Tree → ℕ → ℕ → State → Flow ReadBytes
read_all c x offset zero j s = On (record { bytes = []; state = s })
read_all c x offset (suc n) j s =
    then_flow (read_one c x (behind offset j) s) (λ r. then_flow (read_all c x offset n (j + 1) r.state) (before r.bytes))

-- n bytes of an object from an offset on, once the calls that may have changed them are recovered
abbrev pub reads : Context → ℕ → Reached → Flow ReadBytes
reads c n r = then_flow (knows (answers.Bytes r.object r.offset n) r.state) (read_all c r.object r.offset n 0)

-- a value that was made
pub record Valued : Type 0 where
  pub value : SymValue
  pub state : State

abbrev pub valued : SymValue → State → Flow Valued
valued v s = On (record { value = v; state = s })

-- the value that bytes make
abbrev pub joins : Context → Join → State → Flow Valued
joins c (answers.Value v) s = valued v s
joins c (answers.Needs calls) s = then_flow (unless_needed location.Result calls s) (valued null)
joins c (answers.Test t v) s = then_flow (must c t fault.MixedBytes s) (valued v)
joins c answers.Mixed s = Over (fails fault.MixedBytes s)

abbrev pub join_read : Context → RegType → ReadBytes → Flow Valued
join_read c t r = joins c (joined_as t (map (byte_resolved r.state.snapshots) r.bytes)) r.state

-- a load is shown
abbrev pub loaded : Context → RegId → Valued → Step
loaded c result v = gives c (Some result) (Some v.value) (shown (events.Load v.state.frame.func (here v.state) v.value) v.state)

abbrev pub loads : Context → RegId → RegType → Reached → Step
loads c result t r = then_step (then_flow (reads c (bytes_of_type t) r) (join_read c t)) (loaded c result)

abbrev pub writes : Context → List SymByte → Reached → Step
writes c bytes r = goes_on c (appended (entry.Write r.object r.offset bytes) r.state)

-- the byte that was read is written as it is, behind the tests of the other access
abbrev pub copies : Context → Pointer → ReadBytes → Step
copies c there r = then_step (access c 1 there r.state) (writes c r.bytes)

-- the node makes an object
abbrev pub makes : Context → Option RegId → Tree → State → Step
makes c result size s = gives c result (Some (pointer_to (made_now s.frame) 0)) (appended (entry.Alloc (made_now s.frame) size) s)

abbrev pub frees_object : Context → ObjectName → State → Step
frees_object c x s = goes_on c (appended (entry.Free x) s)

abbrev pub frees_made : Context → Bool → ObjectName → Tree → State → Step
frees_made c true x offset s = then_step (must c (is_start offset) fault.BadFree s) (frees_object c x)
frees_made c false x offset s = fails fault.BadFree s

abbrev pub frees_alive : Context → Living → ObjectName → Tree → State → Step
frees_alive c Dead x offset s = fails fault.UseAfterFree s
frees_alive c (Alive size) x offset s = frees_made c (made_by_malloc c.program x) x offset s

abbrev pub frees_base : Context → Base → Tree → State → Step
frees_base c Null offset s = then_step (must c (is_start offset) fault.BadFree s) (goes_on c)
frees_base c (Object x) offset s = then_step (knows (answers.Life x) s) (λ u. frees_alive c (life u.memory.globals x u.memory.log) x offset u)

-- null may be freed, and what malloc made at its start, once
abbrev pub frees : Context → Pointer → State → Step
frees c p s = frees_base c p.base p.offset s

-- ---- numbers

-- the tests of a division
abbrev pub divides_by : Context → Tree → State → Flow State
divides_by c b s = must c (is_nonzero b) fault.DivideByZero s

abbrev pub divides_signed : Context → Tree → Tree → State → Flow State
divides_signed c a b s = then_flow (divides_by c b s) (must c (has_quotient a b) fault.DivideOverflow)

-- the tests of an operation: those of the divisions
abbrev pub divides : Context → BinOp → Tree → Tree → State → Flow State
divides c op.Udiv a b s = divides_by c b s
divides c op.Urem a b s = divides_by c b s
divides c op.Sdiv a b s = divides_signed c a b s
divides c op.Srem a b s = divides_signed c a b s
divides c o a b s = On s

abbrev pub gives_term : Context → RegId → Tree → State → Step
gives_term c result t s = gives c (Some result) (Some (Int t)) s

-- each side of a test gives its value
abbrev pub picks : Context → RegId → SymValue → SymValue → Tested → Step
picks c result a b (Good s) = gives c (Some result) (Some a) s
picks c result a b (Bad s) = gives c (Some result) (Some b) s
picks c result a b (Answered step) = step

-- a selection of integers is a term, one of pointers a test
abbrev pub selects : Context → RegId → Tree → SymValue → SymValue → State → Step
selects c result condition (Int a) b s = gives_term c result (chosen condition a (term_in b)) s
selects c result condition a b s = picks c result a b (test c (truth_of condition) s)

-- a malloc of at most 65536 bytes makes an object, and one of more gives null
abbrev pub mallocs : Context → Option RegId → Tree → Tested → Step
mallocs c result size (Good s) = makes c result size s
mallocs c result size (Bad s) = gives c result (Some null) s
mallocs c result size (Answered step) = step

-- ---- calls and ends

-- a call makes a frame, and the caller has executed its node
abbrev pub enters : Context → FuncId → List SymValue → State → Step
enters c f args s = Goes (record s { frame = entered c.program c.residual f args (name_below s.frame); callers = counted s.frame ∷ s.callers })

abbrev pub result_type : Option Func → Option RegType
result_type None = None
result_type (Some f) = f.result

-- calls count from 1
abbrev pub next_call : State → CallId
next_call s = record { 0 = length s.snapshots + 1 }

abbrev pub snapshot_of : FuncId → List SymValue → State → Snapshot
snapshot_of f args s = record { call = next_call s; func = f; args = args; frame = name_below s.frame; result = None; recovered = [] }

abbrev pub mods_of : Context → FuncId → List Location
mods_of c f = unwrap_or (slice_get c.mods f.0) []

-- a skipped call leaves a mark and a snapshot, and its result is pending
abbrev pub skips : Context → FuncId → List SymValue → Option RegId → State → Step
skips c f args result s =
    gives c result (option_map (Pending (next_call s)) (result_type (func_at c.program f)))
    (record s { memory = with_item (Marked (next_call s) (mods_of c f) []) s.memory; snapshots = s.snapshots ++ snapshot_of f args s ∷ [] })

-- a recovery skips nothing anew
abbrev pub is_skipped : Context → FuncId → Option Target → Bool
is_skipped c f None = is_named c.skips f
is_skipped c f (Some target) = false

abbrev pub calls : Context → FuncId → List SymValue → Option RegId → State → Step
calls c f args result s = elim (is_skipped c f s.target) [ true ↦ skips c f args result s | false ↦ enters c f args s ]

-- a side is taken, and shown
abbrev pub took : Context → ℕ → State → State
took c side s = in_frame (moved c side (counted s.frame)) (shown (events.Branch s.frame.func (here s) side) s)

-- the objects that an Alloca node of the frame made, from its count k on
abbrev pub frees_of_node : Frame → ℕ → ℕ → ℕ → List Entry
frees_of_node frame n zero k = []
frees_of_node frame n (suc more) k =
    entry.Free (object.Made frame.name (record { func = frame.func; node = record { 0 = n }; count = k })) ∷ frees_of_node frame n more (k + 1)

abbrev pub frees_at : Frame → ℕ → ℕ → Node → List Entry
frees_at frame n count (node.Alloca size result next) = frees_of_node frame n count 1
frees_at frame n count _ = []

abbrev pub frees_from : Frame → ℕ → List Node → List Entry
frees_from frame k [] = []
frees_from frame k (n ∷ ns) = frees_at frame k (unwrap_or (slice_get frame.counts k) 0) n ++ frees_from frame (k + 1) ns

-- a frame that ends frees what its Alloca nodes made, by node and then by count
abbrev pub ended : Context → State → State
ended c s = record s { memory = with_log (map Did (reverse (frees_from s.frame 0 (nodes_of (func_at c.program s.frame.func)))) ++ s.memory.log) s.memory }

abbrev pub completed : Option SymValue → State → Step
completed v s = Ends (events.Complete (told s) (status_of v) (output s.memory.log))

-- main's end or an exit shows the output, which is needed first
abbrev pub completes : Option SymValue → State → Step
completes v s = then_step (knows answers.Output s) (completed v)

abbrev pub if_result : Location → Option SymValue → Option SymValue
if_result location.Result v = v
if_result _ v = None

-- a recovery's end gives what it appended in its location, or its result
abbrev pub recovers : Target → Option SymValue → State → Step
recovers target v s = Ends (events.Done (told s) (entries_since target.length target.at s.memory.log) (if_result target.at v))

-- the caller goes on behind its call, with the result
abbrev pub resumed : Context → Option SymValue → Frame → Frame
resumed c v caller = moved c 0 (set_if (call_result (code_of c.program caller)) v caller)

abbrev pub ends_first : Option Target → Option SymValue → State → Step
ends_first None v s = completes v s
ends_first (Some target) v s = recovers target v s

abbrev pub leaves_to : Context → Option SymValue → List Frame → State → Step
leaves_to c v [] s = ends_first s.target v s
leaves_to c v (caller ∷ callers) s = Goes (record s { frame = resumed c v caller; callers = callers })

abbrev pub ends_frame : Context → Option SymValue → State → Step
ends_frame c v s = leaves_to c v s.callers (ended c s)

abbrev pub is_main_end : Option Target → List Frame → Bool
is_main_end None [] = true
is_main_end None (caller ∷ callers) = false
is_main_end (Some target) callers = false

-- a return; main's needs its status
abbrev pub returns : Context → Option Operand → State → Step
returns c value s = elim (is_main_end s.target s.callers) [
  | true ↦ then_step (firm (option_to_list value) s) (λ u. completes (option_map (value_in u) value) u)
  | false ↦ ends_frame c (option_map (value_in s) value) (in_frame (counted s.frame) s)
]

-- an exit ends the program; a call that is recovered doesn't return then
abbrev pub exits : Option Target → SymValue → State → Step
exits None v s = completes (Some v) s
exits (Some target) v s = fails fault.NoReturn s

-- ---- nodes

-- what each kind of node does, once its operands are known
abbrev pub computes : Context → BinOp → Operand → Operand → RegId → State → Step
computes c o a b result s =
    then_step (divides c o (number_in s a) (number_in s b) s) (gives_term c result (calculated o (number_in s a) (number_in s b)))

abbrev pub compares : Context → Pred → Operand → Operand → RegId → State → Step
compares c pr a b result s = gives_term c result (compared_values pr (value_in s a) (value_in s b)) s

abbrev pub casts : Context → CastOp → Operand → RegId → State → Step
casts c o a result s = gives_term c result (cast_to o (width_of (type_at c.program s.frame.func result)) (number_in s a)) s

abbrev pub places : Context → Operand → List GepPart → RegId → State → Step
places c base parts result s =
    gives c (Some result) (Some (Ptr (record { base = (address_in s base).base; offset = moved_by_all s (address_in s base).offset parts }))) s

abbrev pub chooses : Context → Operand → Operand → Operand → RegId → State → Step
chooses c condition a b result s = selects c result (number_in s condition) (value_in s a) (value_in s b) s

abbrev pub asks_memory : Context → Operand → Option RegId → State → Step
asks_memory c size result s = mallocs c result (size_in (number_in s size)) (test c (is_small (size_in (number_in s size))) s)

abbrev pub loads_at : Context → Operand → RegId → RegType → State → Step
loads_at c pointer result t s = then_step (access c (bytes_of_type t) (address_in s pointer) s) (loads c result t)

abbrev pub stores_at : Context → Operand → Operand → State → Step
stores_at c value pointer s =
    then_step (access c (bytes_of_value (value_in s value)) (address_in s pointer) s) (writes c (stored_bytes (value_in s value)))

abbrev pub copies_from : Context → Operand → Operand → State → Step
copies_from c from there s =
    then_step (then_flow (access c 1 (address_in s from) s) (reads c 1)) (copies c (address_in s there))

abbrev pub takes_input : Context → RegId → State → Step
takes_input c result s = gives_term c result (input_at (length s.kept) (position s.memory.log)) (appended entry.Get s)

abbrev pub puts : Context → Operand → State → Step
puts c value s = goes_on c (appended (entry.Put (low_byte (number_in s value))) s)

abbrev pub branches : Context → Operand → State → Step
branches c condition s = choose_way c (branch_sides (number_in s condition)) s (took c)

abbrev pub switches : Context → Operand → List SwitchCase → State → Step
switches c value cases s = choose_way c (switch_sides (number_in s value) cases) s (took c)

-- What a node does, whose step is taken. Operands that may stay pending (what is stored, passed, moved and returned) aren't
-- needed first.
abbrev pub executes : Context → Node → State → Step
executes c (node.Bin o a b result next) s = then_step (firm (a ∷ b ∷ []) s) (computes c o a b result)
executes c (node.Cmp pr a b result next) s = then_step (firm (a ∷ b ∷ []) s) (compares c pr a b result)
executes c (node.Cast o a result next) s = then_step (firm (a ∷ []) s) (casts c o a result)
executes c (node.Gep base parts result next) s = then_step (firm (base ∷ flat_map operands_of_part parts) s) (places c base parts result)
executes c (node.Select condition a b result next) s = then_step (firm (condition ∷ a ∷ b ∷ []) s) (chooses c condition a b result)
executes c (node.Alloca size result next) s = makes c (Some result) (wide size) s
executes c (node.Malloc size result next) s = then_step (firm (size ∷ []) s) (asks_memory c size result)
executes c (node.Free pointer next) s = then_step (firm (pointer ∷ []) s) (λ u. frees c (address_in u pointer) u)
executes c (node.Load pointer result next) s = then_step (firm (pointer ∷ []) s) (λ u. loads_at c pointer result (type_at c.program u.frame.func result) u)
executes c (node.Store value pointer next) s = then_step (firm (pointer ∷ []) s) (stores_at c value pointer)
executes c (node.Copy from there next) s = then_step (firm (from ∷ there ∷ []) s) (copies_from c from there)
executes c (node.In result next) s = then_step (knows answers.Input s) (takes_input c result)
executes c (node.Put value next) s = then_step (firm (value ∷ []) s) (puts c value)
executes c (node.Call callee args result next) s = calls c callee (map (value_in s) args) result s
executes c (node.Moves sets next) s = goes_on c (in_frame (set_all s sets s.frame) s)
executes c (node.Jump next) s = goes_on c s
executes c (node.Branch condition first second) s = then_step (firm (condition ∷ []) s) (branches c condition)
executes c (node.Switch value cases otherwise) s = then_step (firm (value ∷ []) s) (switches c value cases)
executes c (node.Ret value) s = returns c value s
executes c (node.Exit status) s = then_step (firm (status ∷ []) s) (λ u. exits u.target (value_in u status) u)
executes c node.Abort s = fails fault.Abort s
executes c (node.Assert args) s = then_step (firm args s) (fails fault.Assert)
executes c node.Unreachable s = fails fault.Unreachable s

abbrev pub with_left : ℕ → State → State
with_left left s = record s { left = left }

-- an attempt takes a step; the end of a slice is reached without one, and so is a place from which it leads nowhere
abbrev pub attempt_at : Context → Place → State → Step
attempt_at c (At n) s = elim s.left [ zero ↦ opens Steps s | suc left ↦ executes c (code_of c.program s.frame) (with_left left s) ]
attempt_at c End s = ends_frame c None s
attempt_at c (Never n) s = fails fault.NoReturn s

abbrev pub attempt : Context → State → Step
attempt c s = attempt_at c s.frame.place s
