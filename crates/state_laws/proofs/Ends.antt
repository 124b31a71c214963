-- Numbers, calls and ends fit.
use Rattle.std.proofs.Common.{ℕ, zero, suc, Bool, true, false, ◌+◌, ◌-◌, List, [], ◌∷◌, ◌++◌, length, map, reverse, take, Option, Some, None, unwrap_or, refl, sym, subst}
use Rattle.std.specs.Prelude.{cond, slice_get}
use Rattle.std.specs.Option.{option_map, option_to_list}
use mathlib.Core.List.{reverse_aux}
use Rattle.bitnum.specs.declared.BinOp.{BinOp}
use Rattle.bitnum.specs.declared.BinOp.TheVariants as op
use Rattle.terms.specs.Tree.{Tree}
use Rattle.flat_ir.specs.declared.names.FuncId.{FuncId}
use Rattle.flat_ir.specs.declared.names.RegId.{RegId}
use Rattle.flat_ir.specs.declared.names.Location.{Location}
use Rattle.flat_ir.specs.declared.names.Location.TheVariants as location
use Rattle.flat_ir.specs.declared.nodes.Node.{Node}
use Rattle.flat_ir.specs.declared.nodes.Node.TheVariants as node
use Rattle.flat_ir.specs.declared.nodes.Operand.{Operand}
use Rattle.flat_ir.specs.declared.nodes.RegType.{RegType}
use Rattle.flat_ir.specs.declared.values.FaultKind.TheVariants as fault
use Rattle.flat_ir.specs.Machine.{nodes_of, func_at}
use Rattle.flat_ir.specs.Steps.{call_result}
use Rattle.sym_bytes.specs.declared.names.CallId.{CallId}
use Rattle.sym_bytes.specs.Answers as answers
use Rattle.sym_bytes.specs.Building.{null}
use Rattle.sym_bytes.specs.Entry.{Entry}
use Rattle.sym_bytes.specs.Value.{SymValue, Int, Ptr, Pending}
use Rattle.log_laws.specs.Logs.{Log, Did, Marked, lies_in, entries_in, entries_since}
use Rattle.write_log.specs.Memory.{with_item}
use Rattle.leaves.specs.Events as events
use Rattle.leaves.specs.Fitting.{IsTerm, IsTermOf, ValueFitsIf, EntryFits, EntriesFit, DoneFitsIn}
use Rattle.sym_states.specs.declared.frames.Target.{Target}
use Rattle.sym_states.specs.Attempts.{divides_by, divides_signed, divides, gives_term, picks, selects, mallocs, enters, result_type, next_call, snapshot_of, mods_of, skips, is_skipped, calls, took, frees_of_node, frees_at, frees_from, ended, completed, completes, if_result, recovers, resumed, ends_first, leaves_to, ends_frame, is_main_end, returns, exits, knows, firm, must}
use Rattle.sym_states.specs.Fitting.{ValuesFit, FramesFit, SnapshotFits, SnapshotsFit, LogFits}
use Rattle.sym_states.specs.Sides.{Tested, Good, Bad, Answered, test}
use Rattle.skip_records.specs.Snapshots.{Snapshot}
use Rattle.sym_states.specs.States.{Frame, State, Context, here, in_frame, shown, code_of, name_below, counted, moved, entered, then_step}
use Rattle.sym_states.specs.Terms.{value_in, term_in, chosen, truth_of, is_nonzero, has_quotient}
use Rattle.state_laws.specs.Kept.{CallFits, IsShortIf, IsFitting, IsShortTypeIf, AreShort, FramesAreShort, IsShortSnapshot, AreShortSnapshots, OperandsFit, StateFitsAt, ValueFitsAt, StepFits, FlowFits, TestedFits}
use Rattle.state_laws.proofs.Terms.{is_nonzero-fits, has_quotient-fits, chosen-fits, truth_of-fits}
use Rattle.state_laws.proofs.Values.{null-fits, term_in-fits, status_of-fits}
use Rattle.state_laws.proofs.States.{parts_of, whole_of, ValueFitsAtIf, some-fits, none-fits, OperandFitsIf, value_in-fits-if, FrameFits, frame_of, set_if-fits, entered-fits, in_frame-fits, with_log-fits, shown-at, gives-fits, told-own, told-fits, then_flow-fits, then_step-fits}
use Rattle.state_laws.proofs.Sides.{TakesFit, test-fits}
use Rattle.sym_states.proofs.Remembered.{entries-append}
use Rattle.state_laws.proofs.Accesses.{knows-fits, firm-fits, output-at, fails-fits, must-fits, makes-fits}

-- ---- numbers

pub divides_by-fits : (c : Context) (n : ℕ) (b : Tree) (s : State) → IsFitting c → IsTerm n b → StateFitsAt n s → FlowFits n (StateFitsAt n) (divides_by c b s)
divides_by-fits c n b s fitting k h = must-fits c n (is_nonzero b) fault.DivideByZero s fitting (is_nonzero-fits n b k) h

pub divides_signed-fits : (c : Context) (n : ℕ) (a b : Tree) (s : State) → IsFitting c → IsTerm n a → IsTerm n b → StateFitsAt n s → FlowFits n (StateFitsAt n) (divides_signed c a b s)
divides_signed-fits c n a b s fitting g k h =
    then_flow-fits n (StateFitsAt n) (StateFitsAt n) (divides_by c b s) (must c (has_quotient a b) fault.DivideOverflow) (divides_by-fits c n b s fitting k h)
    (λ u f. must-fits c n (has_quotient a b) fault.DivideOverflow u fitting (has_quotient-fits n a b g k) f)

pub divides-fits : (c : Context) (n : ℕ) (o : BinOp) (a b : Tree) (s : State) → IsFitting c → IsTerm n a → IsTerm n b → StateFitsAt n s → FlowFits n (StateFitsAt n) (divides c o a b s)
divides-fits c n op.Udiv a b s fitting g k h = divides_by-fits c n b s fitting k h
divides-fits c n op.Urem a b s fitting g k h = divides_by-fits c n b s fitting k h
divides-fits c n op.Sdiv a b s fitting g k h = divides_signed-fits c n a b s fitting g k h
divides-fits c n op.Srem a b s fitting g k h = divides_signed-fits c n a b s fitting g k h
divides-fits c n _ a b s fitting g k h = h

pub gives_term-fits : (c : Context) (n : ℕ) (result : RegId) (t : Tree) (s : State) → IsTerm n t → StateFitsAt n s → StepFits n (gives_term c result t s)
gives_term-fits c n result t s k h = gives-fits n c (Some result) (Some (Int t)) s (record { fits = k; short = tt }) h

pub picks-fits : (c : Context) (n : ℕ) (result : RegId) (a b : SymValue) (t : Tested) → ValueFitsAt n a → ValueFitsAt n b → TestedFits n t → StepFits n (picks c result a b t)
picks-fits c n result a b (Good s) g k h = gives-fits n c (Some result) (Some a) s (some-fits n a g) h
picks-fits c n result a b (Bad s) g k h = gives-fits n c (Some result) (Some b) s (some-fits n b k) h
picks-fits c n result a b (Answered step) g k h = h

pub selects-fits : (c : Context) (n : ℕ) (result : RegId) (condition : Tree) (a b : SymValue) (s : State) → IsFitting c → IsTerm n condition → ValueFitsAt n a → ValueFitsAt n b → StateFitsAt n s
    → StepFits n (selects c result condition a b s)
selects-fits c n result condition (Int a) b s fitting g k f h = gives_term-fits c n result (chosen condition a (term_in b)) s (chosen-fits n condition a (term_in b) g k.fits (term_in-fits n b f.fits)) h
selects-fits c n result condition (Ptr p) b s fitting g k f h = picks-fits c n result (Ptr p) b (test c (truth_of condition) s) k f (test-fits c n (truth_of condition) s fitting (truth_of-fits n condition g) h)
selects-fits c n result condition (Pending call t) b s fitting g k f h = picks-fits c n result (Pending call t) b (test c (truth_of condition) s) k f (test-fits c n (truth_of condition) s fitting (truth_of-fits n condition g) h)

pub mallocs-fits : (c : Context) (n : ℕ) (result : Option RegId) (size : Tree) (t : Tested) → IsTermOf n 64 size → TestedFits n t → StepFits n (mallocs c result size t)
mallocs-fits c n result size (Good s) k h = makes-fits c n result size s k h
mallocs-fits c n result size (Bad s) k h = gives-fits n c result (Some null) s (some-fits n null (null-fits n)) h
mallocs-fits c n result size (Answered step) k h = h

-- ---- calls

pub enters-fits : (c : Context) (n : ℕ) (f : FuncId) (args : List SymValue) (s : State) → ValuesFit n args → AreShort args → StateFitsAt n s → StepFits n (enters c f args s)
enters-fits c n f args s g k h =
    let p = parts_of n s h in
    let below = entered-fits n c.program c.residual f args (name_below s.frame) g k in
    whole_of n (record s { frame = entered c.program c.residual f args (name_below s.frame); callers = counted s.frame ∷ s.callers }) (record {
      most = p.most;
      size = p.size;
      frame = below.regs;
      callers = (p.frame, p.callers);
      globals = p.globals;
      log = p.log;
      snapshots = p.snapshots;
      condition = p.condition;
      path = p.path;
      short = record { frame = below.short; callers = (p.short.frame, p.short.callers); snapshots = p.short.snapshots };
    })

pub snapshots-append : (n : ℕ) (shots : List Snapshot) (s : Snapshot) → SnapshotsFit n shots → SnapshotFits n s → SnapshotsFit n (shots ++ s ∷ [])
snapshots-append n [] s h k = (k, tt)
snapshots-append n (t ∷ shots) s h k = (h.0, snapshots-append n shots s h.1 k)

pub short-append : (shots : List Snapshot) (s : Snapshot) → AreShortSnapshots shots → IsShortSnapshot s → AreShortSnapshots (shots ++ s ∷ [])
short-append [] s h k = (k, tt)
short-append (t ∷ shots) s h k = (h.0, short-append shots s h.1 k)

pub pending-fits : (n : ℕ) (call : CallId) (t : Option RegType) → IsShortTypeIf t → ValueFitsAtIf n (option_map (Pending call) t)
pending-fits n call None h = none-fits n
pending-fits n call (Some t) h = record { fits = tt; short = h }

-- a mark and a snapshot more
pub marked-fits : (c : Context) (n : ℕ) (f : FuncId) (args : List SymValue) (s : State) → ValuesFit n args → AreShort args → StateFitsAt n s
    → StateFitsAt n (record s { memory = with_item (Marked (next_call s) (mods_of c f) []) s.memory; snapshots = s.snapshots ++ snapshot_of f args s ∷ [] })
marked-fits c n f args s g k h =
    let p = parts_of n s h in
    whole_of n (record s { memory = with_item (Marked (next_call s) (mods_of c f) []) s.memory; snapshots = s.snapshots ++ snapshot_of f args s ∷ [] }) (record {
      most = p.most;
      size = p.size;
      frame = p.frame;
      callers = p.callers;
      globals = p.globals;
      log = (tt, p.log);
      snapshots = snapshots-append n s.snapshots (snapshot_of f args s) p.snapshots (record { args = g; result = tt });
      condition = p.condition;
      path = p.path;
      short = record { frame = p.short.frame; callers = p.short.callers; snapshots = short-append s.snapshots (snapshot_of f args s) p.short.snapshots (record { args = k; result = tt }) };
    })

pub skips-fits : (c : Context) (n : ℕ) (f : FuncId) (args : List SymValue) (result : Option RegId) (s : State) → CallFits c.program f result → ValuesFit n args → AreShort args → StateFitsAt n s → StepFits n (skips c f args result s)
skips-fits c n f args None s fit g k h =
    gives-fits n c None None (record s { memory = with_item (Marked (next_call s) (mods_of c f) []) s.memory; snapshots = s.snapshots ++ snapshot_of f args s ∷ [] }) (none-fits n) (marked-fits c n f args s g k h)
skips-fits c n f args (Some r) s fit g k h =
    gives-fits n c (Some r) (option_map (Pending (next_call s)) (result_type (func_at c.program f)))
    (record s { memory = with_item (Marked (next_call s) (mods_of c f) []) s.memory; snapshots = s.snapshots ++ snapshot_of f args s ∷ [] })
    (pending-fits n (next_call s) (result_type (func_at c.program f)) fit) (marked-fits c n f args s g k h)

pub calls-fits : (c : Context) (n : ℕ) (f : FuncId) (args : List SymValue) (result : Option RegId) (s : State) → CallFits c.program f result → ValuesFit n args → AreShort args → StateFitsAt n s → StepFits n (calls c f args result s)
calls-fits c n f args result s fit g k h =
    elim (is_skipped c f s.target) as (λ b. StepFits n (elim b [ true ↦ skips c f args result s | false ↦ enters c f args s ]))
    [ true ↦ skips-fits c n f args result s fit g k h | false ↦ enters-fits c n f args s g k h ]

pub counted-fits : (n : ℕ) (s : State) → StateFitsAt n s → FrameFits n (counted s.frame)
counted-fits n s h = let f = frame_of n s h in record { regs = f.regs; short = f.short }

pub took-fits : (c : Context) (n : ℕ) (side : ℕ) (s : State) → StateFitsAt n s → StateFitsAt n (took c side s)
took-fits c n side s h =
    let f = counted-fits n s h in
    let event = events.Branch s.frame.func (here s) side in
    in_frame-fits n (moved c side (counted s.frame)) (shown event s) (record { regs = f.regs; short = f.short }) (shown-at n event s tt h)

pub took-takes : (c : Context) (n : ℕ) → TakesFit n (took c)
took-takes c n side s h = took-fits c n side s h

-- ---- ends

pub frees_of_node-fit : (n : ℕ) (frame : Frame) (at more k : ℕ) → EntriesFit n (frees_of_node frame at more k)
frees_of_node-fit n frame at zero k = tt
frees_of_node-fit n frame at (suc more) k = (tt, frees_of_node-fit n frame at more (k + 1))

pub frees_at-fit : (n : ℕ) (frame : Frame) (at count : ℕ) (x : Node) → EntriesFit n (frees_at frame at count x)
frees_at-fit n frame at count (node.Alloca size result next) = frees_of_node-fit n frame at count 1
frees_at-fit n frame at count _ = tt

pub frees_from-fit : (n : ℕ) (frame : Frame) (k : ℕ) (xs : List Node) → EntriesFit n (frees_from frame k xs)
frees_from-fit n frame k [] = tt
frees_from-fit n frame k (x ∷ xs) = entries-append n (frees_at frame k (unwrap_or (slice_get frame.counts k) 0) x) (frees_from frame (k + 1) xs) (frees_at-fit n frame k _ x) (frees_from-fit n frame (k + 1) xs)

pub onto-fit : (n : ℕ) (es fs : List Entry) → EntriesFit n es → EntriesFit n fs → EntriesFit n (reverse_aux es fs)
onto-fit n [] fs h k = k
onto-fit n (e ∷ es) fs h k = onto-fit n es (e ∷ fs) h.1 (h.0, k)

pub done-fit : (n : ℕ) (es : List Entry) (log : Log) → EntriesFit n es → LogFits n log → LogFits n (map Did es ++ log)
done-fit n [] log h k = k
done-fit n (e ∷ es) log h k = (h.0, done-fit n es log h.1 k)

pub ended-fits : (c : Context) (n : ℕ) (s : State) → StateFitsAt n s → StateFitsAt n (ended c s)
ended-fits c n s h =
    let frees = frees_from s.frame 0 (nodes_of (func_at c.program s.frame.func)) in
    with_log-fits n (map Did (reverse frees) ++ s.memory.log) s
    (done-fit n (reverse frees) s.memory.log (onto-fit n frees [] (frees_from-fit n s.frame 0 (nodes_of (func_at c.program s.frame.func))) tt) (parts_of n s h).log) h

pub completed-fits : (n : ℕ) (v : Option SymValue) (s : State) → ValueFitsIf n v → StateFitsAt n s → StepFits n (completed v s)
completed-fits n v s k h = record {
  fits = (
    told-own n s h,
    record {
      status_fits = status_of-fits (length s.kept) v (subst (λ m. ValueFitsIf m v) (sym h.size) k);
      output_fits = output-at (length s.kept) s (record { fits = h.fits; size = refl; short = h.short });
    },
  );
  told = told-fits n s h;
  size = h.size;
  recovered = tt;
}

pub completes-fits : (n : ℕ) (v : Option SymValue) (s : State) → ValueFitsIf n v → StateFitsAt n s → StepFits n (completes v s)
completes-fits n v s k h = then_step-fits n (StateFitsAt n) (knows answers.Output s) (completed v) (knows-fits n answers.Output s h) (λ u g. completed-fits n v u k g)

entries-if : (n : ℕ) (b : Bool) (e : Entry) (es : List Entry) → EntryFits n e → EntriesFit n es → EntriesFit n (cond b (e ∷ es) es)
entries-if n true e es h k = (h, k)
entries-if n false e es h k = k

pub entries_in-fit : (n : ℕ) (at : Location) (log : Log) → LogFits n log → EntriesFit n (entries_in at log)
entries_in-fit n at [] h = tt
entries_in-fit n at (Did e ∷ log) h = entries-if n (lies_in at e) e (entries_in at log) h.0 (entries_in-fit n at log h.1)
entries_in-fit n at (Marked c mods fills ∷ log) h = entries_in-fit n at log h.1

log-take : (n k : ℕ) (log : Log) → LogFits n log → LogFits n (take k log)
log-take n zero log h = tt
log-take n (suc k) [] h = tt
log-take n (suc k) (item ∷ log) h = (h.0, log-take n k log h.1)

pub entries_since-fit : (n old : ℕ) (at : Location) (log : Log) → LogFits n log → EntriesFit n (entries_since old at log)
entries_since-fit n old at log h = entries_in-fit n at (take (length log - old) log) (log-take n (length log - old) log h)

pub if_result-fits : (n : ℕ) (at : Location) (v : Option SymValue) → ValueFitsIf n v → ValueFitsIf n (if_result at v)
if_result-fits n location.Result v h = h
if_result-fits n _ v h = tt

pub if_result-short : (at : Location) (v : Option SymValue) → IsShortIf v → IsShortIf (if_result at v)
if_result-short location.Result v h = h
if_result-short _ v h = tt

pub recovers-fits : (n : ℕ) (target : Target) (v : Option SymValue) (s : State) → ValueFitsAtIf n v → StateFitsAt n s → StepFits n (recovers target v s)
recovers-fits n target v s k h =
    let entries = entries_since-fit n target.length target.at s.memory.log (parts_of n s h).log in
    let given : DoneFitsIn n (entries_since target.length target.at s.memory.log) (if_result target.at v) = record { entries_fit = entries; result_fits = if_result-fits n target.at v k.fits } in
    record {
      fits = (told-own n s h, subst (λ m. DoneFitsIn m (entries_since target.length target.at s.memory.log) (if_result target.at v)) (sym h.size) given);
      told = told-fits n s h;
      size = h.size;
      recovered = (given, if_result-short target.at v k.short);
    }

pub ends_first-fits : (n : ℕ) (target : Option Target) (v : Option SymValue) (s : State) → ValueFitsAtIf n v → StateFitsAt n s → StepFits n (ends_first target v s)
ends_first-fits n None v s k h = completes-fits n v s k.fits h
ends_first-fits n (Some target) v s k h = recovers-fits n target v s k h

-- the caller goes on
pub resumed-fits : (c : Context) (n : ℕ) (v : Option SymValue) (caller : Frame) → ValueFitsAtIf n v → FrameFits n caller → FrameFits n (resumed c v caller)
resumed-fits c n v caller k h = let f = set_if-fits n (call_result (code_of c.program caller)) v caller k h in record { regs = f.regs; short = f.short }

pub leaves_to-fits : (c : Context) (n : ℕ) (v : Option SymValue) (callers : List Frame) (s : State) → ValueFitsAtIf n v → FramesFit n callers → FramesAreShort callers → StateFitsAt n s → StepFits n (leaves_to c v callers s)
leaves_to-fits c n v [] s k f g h = ends_first-fits n s.target v s k h
leaves_to-fits c n v (caller ∷ callers) s k f g h =
    let p = parts_of n s h in
    let next = resumed-fits c n v caller k (record { regs = f.0; short = g.0 }) in
    whole_of n (record s { frame = resumed c v caller; callers = callers }) (record {
      most = p.most;
      size = p.size;
      frame = next.regs;
      callers = f.1;
      globals = p.globals;
      log = p.log;
      snapshots = p.snapshots;
      condition = p.condition;
      path = p.path;
      short = record { frame = next.short; callers = g.1; snapshots = p.short.snapshots };
    })

pub ends_frame-fits : (c : Context) (n : ℕ) (v : Option SymValue) (s : State) → ValueFitsAtIf n v → StateFitsAt n s → StepFits n (ends_frame c v s)
ends_frame-fits c n v s k h = let p = parts_of n s h in leaves_to-fits c n v s.callers (ended c s) k p.callers p.short.callers (ended-fits c n s h)

operand-if : (value : Option Operand) → OperandsFit (option_to_list value) → OperandFitsIf value
operand-if None h = tt
operand-if (Some a) h = h.0

pub returns-fits : (c : Context) (n : ℕ) (value : Option Operand) (s : State) → OperandsFit (option_to_list value) → StateFitsAt n s → StepFits n (returns c value s)
returns-fits c n value s k h =
    elim (is_main_end s.target s.callers) as (λ b. StepFits n (elim b [
      | true ↦ then_step (firm (option_to_list value) s) (λ u. completes (option_map (value_in u) value) u)
      | false ↦ ends_frame c (option_map (value_in s) value) (in_frame (counted s.frame) s)
    ])) [
      | true ↦ then_step-fits n (StateFitsAt n) (firm (option_to_list value) s) (λ u. completes (option_map (value_in u) value) u) (firm-fits n (option_to_list value) s h)
          (λ u g. completes-fits n (option_map (value_in u) value) u (value_in-fits-if n u value g (operand-if value k)).fits g)
      | false ↦ ends_frame-fits c n (option_map (value_in s) value) (in_frame (counted s.frame) s) (value_in-fits-if n s value h (operand-if value k)) (in_frame-fits n (counted s.frame) s (counted-fits n s h) h)
    ]

pub exits-fits : (n : ℕ) (target : Option Target) (v : SymValue) (s : State) → ValueFitsAt n v → StateFitsAt n s → StepFits n (exits target v s)
exits-fits n None v s k h = completes-fits n (Some v) s k.fits h
exits-fits n (Some target) v s k h = fails-fits n fault.NoReturn s h
