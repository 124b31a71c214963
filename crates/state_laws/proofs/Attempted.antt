-- An attempt of a state that fits gives what fits.
use Rattle.std.proofs.Common.{ℕ, zero, suc, ◌^◌, ◌<◌, ◌≤◌, List, [], ◌∷◌, length, map, Option, Some, None, subst, arith, lit≤}
use Rattle.std.specs.List.{flat_map}
use Rattle.bitnum.specs.declared.BinOp.{BinOp}
use Rattle.bitnum.specs.declared.Pred.{Pred}
use Rattle.flat_ir.specs.declared.names.RegId.{RegId}
use Rattle.flat_ir.specs.declared.nodes.CastOp.{CastOp}
use Rattle.flat_ir.specs.declared.nodes.GepPart.{GepPart}
use Rattle.flat_ir.specs.declared.nodes.MoveSet.{MoveSet}
use Rattle.flat_ir.specs.declared.nodes.Node.{Node}
use Rattle.flat_ir.specs.declared.nodes.Node.TheVariants as node
use Rattle.flat_ir.specs.declared.nodes.Operand.{Operand}
use Rattle.flat_ir.specs.declared.nodes.RegType.{RegType}
use Rattle.flat_ir.specs.declared.nodes.SwitchCase.{SwitchCase}
use Rattle.flat_ir.specs.declared.values.FaultKind.TheVariants as fault
use Rattle.flat_ir.specs.Machine.{type_at}
use Rattle.flat_ir.specs.Registers.{bytes_of_type}
use Rattle.flat_ir.specs.Steps.{width_of}
use Rattle.flat_ir.specs.Whole.{operands_of_part}
use Rattle.sym_bytes.specs.Answers as answers
use Rattle.sym_bytes.specs.Building.{wide}
use Rattle.sym_bytes.specs.Entry as entry
use Rattle.sym_bytes.specs.Value.{Ptr}
use Rattle.log_laws.specs.Logs.{position}
use Rattle.leaves.specs.Fitting.{IsTerm}
use Rattle.leaves.specs.declared.options.Cause.TheVariants.{Steps}
use Rattle.sym_states.specs.declared.frames.Place.{Place}
use Rattle.sym_states.specs.declared.frames.Place.TheVariants.{At, End, Never}
use Rattle.sym_states.specs.Attempts.{knows, firm, fails, access, reads, loads, writes, copies, frees, divides, gives_term, exits, took, computes, compares, casts, places, chooses, asks_memory, loads_at, stores_at, copies_from, takes_input, puts, branches, switches, executes, with_left, attempt_at, attempt}
use Rattle.sym_states.specs.Sides.{test}
use Rattle.sym_states.specs.States.{State, Context, Step, opens, goes_on, appended, in_frame, code_of, then_flow, then_step}
use Rattle.sym_states.specs.Terms.{value_in, number_in, address_in, calculated, compared_values, cast_to, moved_by_all, input_at, low_byte, size_in, is_small, branch_sides, switch_sides, bytes_of_value, stored_bytes, set_all}
use Rattle.state_laws.specs.Kept.{AttemptsKeepFitting, IsFitting, IsShortType, OperandFits, OperandsFit, PartsFit, CasesFit, NodeFits, HaveShortRegs, ProgramFits, StateFitsAt, StepFits, ReachedFits, ReadBytesFits}
use Rattle.state_laws.proofs.Terms.{calculated-fits, cast_to-fits, low_byte-fits, size_in-fits, is_small-fits, input_at-fits, branch_sides-fits, switch_sides-fits}
use Rattle.sym_states.proofs.Widths.{wide-fits}
use Rattle.state_laws.proofs.Values.{bytes_of_value-few, compared_values-fits, stored_bytes-fits}
use Rattle.state_laws.proofs.States.{parts_of, whole_of, fits_at, value_in-fits, number_in-fits, address_in-fits, values-fit, values-short, moved_by_all-fits, frame_of, set_all-fits, in_frame-fits, appended-at, gives-fits, goes_on-fits, none-fits, opens-fits, then_flow-fits, then_step-fits}
use Rattle.state_laws.proofs.Sides.{test-fits, choose_way-fits}
use Rattle.state_laws.proofs.Accesses.{knows-fits, firm-fits, fails-fits, access-fits, reads-fits, loads-fits, writes-fits, copies-fits, makes-fits, frees-fits}
use Rattle.state_laws.proofs.Ends.{divides-fits, gives_term-fits, selects-fits, mallocs-fits, calls-fits, took-takes, ends_frame-fits, returns-fits, exits-fits}
use Rattle.state_laws.proofs.Programs.{code_of-fits, type_at-short}

-- where the operands are known first
after-firm : (n : ℕ) (operands : List Operand) (s : State) (next : State → Step) → StateFitsAt n s → ((u : State) → StateFitsAt n u → StepFits n (next u)) → StepFits n (then_step (firm operands s) next)
after-firm n operands s next h k = then_step-fits n (StateFitsAt n) (firm operands s) next (firm-fits n operands s h) k

small : (count : ℕ) → count ≤ 8 → count < 2 ^ 64
small count h = omega (arith, h)

-- ---- nodes

pub computes-fits : (c : Context) (n : ℕ) (o : BinOp) (a b : Operand) (result : RegId) (s : State) → IsFitting c → OperandFits a → OperandFits b → StateFitsAt n s → StepFits n (computes c o a b result s)
computes-fits c n o a b result s fitting g k h =
    let x = number_in-fits n s a h g in
    let y = number_in-fits n s b h k in
    then_step-fits n (StateFitsAt n) (divides c o (number_in s a) (number_in s b) s) (gives_term c result (calculated o (number_in s a) (number_in s b)))
    (divides-fits c n o (number_in s a) (number_in s b) s fitting x y h)
    (λ u f. gives_term-fits c n result (calculated o (number_in s a) (number_in s b)) u (calculated-fits n o (number_in s a) (number_in s b) x y) f)

pub compares-fits : (c : Context) (n : ℕ) (p : Pred) (a b : Operand) (result : RegId) (s : State) → OperandFits a → OperandFits b → StateFitsAt n s → StepFits n (compares c p a b result s)
compares-fits c n p a b result s g k h =
    gives_term-fits c n result (compared_values p (value_in s a) (value_in s b)) s
    (compared_values-fits n p (value_in s a) (value_in s b) (value_in-fits n s a h g).fits (value_in-fits n s b h k).fits).term h

pub casts-fits : (c : Context) (n : ℕ) (o : CastOp) (a : Operand) (result : RegId) (s : State) → OperandFits a → StateFitsAt n s → StepFits n (casts c o a result s)
casts-fits c n o a result s g h =
    let width = width_of (type_at c.program s.frame.func result) in
    gives_term-fits c n result (cast_to o width (number_in s a)) s (cast_to-fits n o width (number_in s a) (number_in-fits n s a h g)) h

pub places-fits : (c : Context) (n : ℕ) (base : Operand) (parts : List GepPart) (result : RegId) (s : State) → OperandFits base → PartsFit parts → OperandsFit (flat_map operands_of_part parts) → StateFitsAt n s
    → StepFits n (places c base parts result s)
places-fits c n base parts result s g k f h =
    let offset = moved_by_all s (address_in s base).offset parts in
    gives-fits n c (Some result) (Some (Ptr (record { base = (address_in s base).base; offset = offset }))) s
    (record { fits = moved_by_all-fits n s (address_in s base).offset parts h (address_in-fits n s base h g) k f; short = tt }) h

pub chooses-fits : (c : Context) (n : ℕ) (condition a b : Operand) (result : RegId) (s : State) → IsFitting c → OperandFits condition → OperandFits a → OperandFits b → StateFitsAt n s
    → StepFits n (chooses c condition a b result s)
chooses-fits c n condition a b result s fitting g k f h =
    selects-fits c n result (number_in s condition) (value_in s a) (value_in s b) s fitting (number_in-fits n s condition h g) (value_in-fits n s a h k) (value_in-fits n s b h f) h

pub asks_memory-fits : (c : Context) (n : ℕ) (size : Operand) (result : Option RegId) (s : State) → IsFitting c → OperandFits size → StateFitsAt n s → StepFits n (asks_memory c size result s)
asks_memory-fits c n size result s fitting g h =
    let t = size_in (number_in s size) in
    let fit = size_in-fits n (number_in s size) (number_in-fits n s size h g) in
    mallocs-fits c n result t (test c (is_small t) s) fit (test-fits c n (is_small t) s fitting (is_small-fits n t fit) h)

pub loads_at-fits : (c : Context) (n : ℕ) (pointer : Operand) (result : RegId) (t : RegType) (s : State) → IsFitting c → OperandFits pointer → IsShortType t → StateFitsAt n s → StepFits n (loads_at c pointer result t s)
loads_at-fits c n pointer result t s fitting g short h =
    then_step-fits n (ReachedFits n) (access c (bytes_of_type t) (address_in s pointer) s) (loads c result t)
    (access-fits c n (bytes_of_type t) (address_in s pointer) s fitting (small (bytes_of_type t) short) (address_in-fits n s pointer h g) h)
    (λ r f. loads-fits c n result t r fitting short f)

pub stores_at-fits : (c : Context) (n : ℕ) (value pointer : Operand) (s : State) → IsFitting c → OperandFits value → OperandFits pointer → StateFitsAt n s → StepFits n (stores_at c value pointer s)
stores_at-fits c n value pointer s fitting g k h =
    let v = value_in-fits n s value h g in
    then_step-fits n (ReachedFits n) (access c (bytes_of_value (value_in s value)) (address_in s pointer) s) (writes c (stored_bytes (value_in s value)))
    (access-fits c n (bytes_of_value (value_in s value)) (address_in s pointer) s fitting (small (bytes_of_value (value_in s value)) (bytes_of_value-few n (value_in s value) v)) (address_in-fits n s pointer h k) h)
    (λ r f. writes-fits c n (stored_bytes (value_in s value)) r (stored_bytes-fits n (value_in s value) v) f)

pub copies_from-fits : (c : Context) (n : ℕ) (from there : Operand) (s : State) → IsFitting c → OperandFits from → OperandFits there → StateFitsAt n s → StepFits n (copies_from c from there s)
copies_from-fits c n from there s fitting g k h =
    then_step-fits n (ReadBytesFits n 1) (then_flow (access c 1 (address_in s from) s) (reads c 1)) (copies c (address_in s there))
    (then_flow-fits n (ReachedFits n) (ReadBytesFits n 1) (access c 1 (address_in s from) s) (reads c 1)
    (access-fits c n 1 (address_in s from) s fitting (lit≤ tt) (address_in-fits n s from h g) h)
    (λ r f. reads-fits c n 1 r fitting (lit≤ tt) f))
    (λ r f. copies-fits c n (address_in s there) r fitting (address_in-fits n s there h k) f)

pub taken-input : (n : ℕ) (s : State) → StateFitsAt n s → IsTerm n (input_at (length s.kept) (position s.memory.log))
taken-input n s h = subst (λ m. IsTerm m (input_at (length s.kept) (position s.memory.log))) h.size (input_at-fits (length s.kept) (position s.memory.log) h.fits.size).term

pub takes_input-fits : (c : Context) (n : ℕ) (result : RegId) (s : State) → StateFitsAt n s → StepFits n (takes_input c result s)
takes_input-fits c n result s h =
    gives_term-fits c n result (input_at (length s.kept) (position s.memory.log)) (appended entry.Get s) (taken-input n s h) (appended-at n entry.Get s tt h)

pub puts-fits : (c : Context) (n : ℕ) (value : Operand) (s : State) → OperandFits value → StateFitsAt n s → StepFits n (puts c value s)
puts-fits c n value s g h =
    let t = low_byte (number_in s value) in
    goes_on-fits n c (appended (entry.Put t) s) (appended-at n (entry.Put t) s (low_byte-fits n (number_in s value) (number_in-fits n s value h g)) h)

pub branches-fits : (c : Context) (n : ℕ) (condition : Operand) (s : State) → IsFitting c → OperandFits condition → StateFitsAt n s → StepFits n (branches c condition s)
branches-fits c n condition s fitting g h =
    choose_way-fits c n (branch_sides (number_in s condition)) s (took c) fitting (branch_sides-fits n (number_in s condition) (number_in-fits n s condition h g)) (took-takes c n) h

pub switches-fits : (c : Context) (n : ℕ) (value : Operand) (cases : List SwitchCase) (s : State) → IsFitting c → OperandFits value → CasesFit cases → StateFitsAt n s → StepFits n (switches c value cases s)
switches-fits c n value cases s fitting g k h =
    choose_way-fits c n (switch_sides (number_in s value) cases) s (took c) fitting (switch_sides-fits n (number_in s value) cases (number_in-fits n s value h g) k) (took-takes c n) h

pub moves-fits : (c : Context) (n : ℕ) (sets : List MoveSet) (s : State) → OperandsFit (map (λ m. m.value) sets) → StateFitsAt n s → StepFits n (goes_on c (in_frame (set_all s sets s.frame) s))
moves-fits c n sets s g h =
    goes_on-fits n c (in_frame (set_all s sets s.frame) s) (in_frame-fits n (set_all s sets s.frame) s (set_all-fits n s sets s.frame h g (frame_of n s h)) h)

pub executes-fits : (c : Context) (n : ℕ) (x : Node) (s : State) → IsFitting c → HaveShortRegs c.program.funcs → NodeFits c.program x → StateFitsAt n s → StepFits n (executes c x s)
executes-fits c n (node.Bin o a b result next) s fitting regs fit h = after-firm n (a ∷ b ∷ []) s (computes c o a b result) h (λ u g. computes-fits c n o a b result u fitting fit.operands.0 fit.operands.1.0 g)
executes-fits c n (node.Cmp p a b result next) s fitting regs fit h = after-firm n (a ∷ b ∷ []) s (compares c p a b result) h (λ u g. compares-fits c n p a b result u fit.operands.0 fit.operands.1.0 g)
executes-fits c n (node.Cast o a result next) s fitting regs fit h = after-firm n (a ∷ []) s (casts c o a result) h (λ u g. casts-fits c n o a result u fit.operands.0 g)
executes-fits c n (node.Gep base parts result next) s fitting regs fit h =
    after-firm n (base ∷ flat_map operands_of_part parts) s (places c base parts result) h (λ u g. places-fits c n base parts result u fit.operands.0 fit.names fit.operands.1 g)
executes-fits c n (node.Select condition a b result next) s fitting regs fit h =
    after-firm n (condition ∷ a ∷ b ∷ []) s (chooses c condition a b result) h (λ u g. chooses-fits c n condition a b result u fitting fit.operands.0 fit.operands.1.0 fit.operands.1.1.0 g)
executes-fits c n (node.Alloca size result next) s fitting regs fit h = makes-fits c n (Some result) (wide size) s (wide-fits n size fit.names) h
executes-fits c n (node.Malloc size result next) s fitting regs fit h = after-firm n (size ∷ []) s (asks_memory c size result) h (λ u g. asks_memory-fits c n size result u fitting fit.operands.0 g)
executes-fits c n (node.Free pointer next) s fitting regs fit h =
    after-firm n (pointer ∷ []) s (λ u. frees c (address_in u pointer) u) h (λ u g. frees-fits c n (address_in u pointer) u fitting (address_in-fits n u pointer g fit.operands.0) g)
executes-fits c n (node.Load pointer result next) s fitting regs fit h =
    after-firm n (pointer ∷ []) s (λ u. loads_at c pointer result (type_at c.program u.frame.func result) u) h
    (λ u g. loads_at-fits c n pointer result (type_at c.program u.frame.func result) u fitting fit.operands.0 (type_at-short c.program u.frame.func result regs) g)
executes-fits c n (node.Store value pointer next) s fitting regs fit h = after-firm n (pointer ∷ []) s (stores_at c value pointer) h (λ u g. stores_at-fits c n value pointer u fitting fit.operands.0 fit.operands.1.0 g)
executes-fits c n (node.Copy from there next) s fitting regs fit h = after-firm n (from ∷ there ∷ []) s (copies_from c from there) h (λ u g. copies_from-fits c n from there u fitting fit.operands.0 fit.operands.1.0 g)
executes-fits c n (node.In result next) s fitting regs fit h = then_step-fits n (StateFitsAt n) (knows answers.Input s) (takes_input c result) (knows-fits n answers.Input s h) (λ u g. takes_input-fits c n result u g)
executes-fits c n (node.Put value next) s fitting regs fit h = after-firm n (value ∷ []) s (puts c value) h (λ u g. puts-fits c n value u fit.operands.0 g)
executes-fits c n (node.Call callee args result next) s fitting regs fit h = calls-fits c n callee (map (value_in s) args) result s fit.names (values-fit n s args h fit.operands) (values-short n s args h fit.operands) h
executes-fits c n (node.Moves sets next) s fitting regs fit h = moves-fits c n sets s fit.operands h
executes-fits c n (node.Jump next) s fitting regs fit h = goes_on-fits n c s h
executes-fits c n (node.Branch condition first second) s fitting regs fit h = after-firm n (condition ∷ []) s (branches c condition) h (λ u g. branches-fits c n condition u fitting fit.operands.0 g)
executes-fits c n (node.Switch value cases otherwise) s fitting regs fit h = after-firm n (value ∷ []) s (switches c value cases) h (λ u g. switches-fits c n value cases u fitting fit.operands.0 fit.names g)
executes-fits c n (node.Ret value) s fitting regs fit h = returns-fits c n value s fit.operands h
executes-fits c n (node.Exit status) s fitting regs fit h =
    after-firm n (status ∷ []) s (λ u. exits u.target (value_in u status) u) h (λ u g. exits-fits n u.target (value_in u status) u (value_in-fits n u status g fit.operands.0) g)
executes-fits c n node.Abort s fitting regs fit h = fails-fits n fault.Abort s h
executes-fits c n (node.Assert args) s fitting regs fit h = after-firm n args s (fails fault.Assert) h (λ u g. fails-fits n fault.Assert u g)
executes-fits c n node.Unreachable s fitting regs fit h = fails-fits n fault.Unreachable s h

-- ---- attempts

pub with_left-fits : (n left : ℕ) (s : State) → StateFitsAt n s → StateFitsAt n (with_left left s)
with_left-fits n left s h =
    let p = parts_of n s h in
    whole_of n (with_left left s) (record {
      most = p.most;
      size = p.size;
      frame = p.frame;
      callers = p.callers;
      globals = p.globals;
      log = p.log;
      snapshots = p.snapshots;
      condition = p.condition;
      path = p.path;
      short = record { frame = p.short.frame; callers = p.short.callers; snapshots = p.short.snapshots };
    })

pub attempt_at-fits : (c : Context) (n : ℕ) (place : Place) (s : State) → IsFitting c → ProgramFits c.program → StateFitsAt n s → StepFits n (attempt_at c place s)
attempt_at-fits c n (At at) s fitting program h =
    elim s.left as (λ k. StepFits n (elim k [ zero ↦ opens Steps s | suc left ↦ executes c (code_of c.program s.frame) (with_left left s) ]))
    [ zero ↦ opens-fits n Steps s h | suc left ↦ executes-fits c n (code_of c.program s.frame) (with_left left s) fitting program.regs (code_of-fits c.program s.frame program) (with_left-fits n left s h) ]
attempt_at-fits c n End s fitting program h = ends_frame-fits c n None s (none-fits n) h
attempt_at-fits c n (Never at) s fitting program h = fails-fits n fault.NoReturn s h

pub attempt-fits : (c : Context) (n : ℕ) (s : State) → IsFitting c → ProgramFits c.program → StateFitsAt n s → StepFits n (attempt c s)
attempt-fits c n s fitting program h = attempt_at-fits c n s.frame.place s fitting program h

pub attempt_keeps : AttemptsKeepFitting
attempt_keeps c s fitting program h short = attempt-fits c (length s.kept) s fitting program (fits_at s h short)
