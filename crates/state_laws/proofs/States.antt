-- What is done to a state that fits at n bytes of input gives one that does.
use Rattle.std.proofs.Common.{◌≡◌, ℕ, zero, suc, ◌≤◌, List, [], ◌∷◌, ◌++◌, length, map, drop, slice_set, Option, Some, None, refl, sym, subst}
use Rattle.std.specs.Option.{option_map}
use Rattle.std.specs.List.{flat_map}
use Rattle.terms.specs.Tree.{Tree}
use Rattle.flat_ir.specs.declared.names.CallStep.{CallStep}
use Rattle.flat_ir.specs.declared.names.FuncId.{FuncId}
use Rattle.flat_ir.specs.declared.names.RegId.{RegId}
use Rattle.flat_ir.specs.declared.names.Location.{Location}
use Rattle.flat_ir.specs.declared.nodes.GepPart.{GepPart}
use Rattle.flat_ir.specs.declared.nodes.GepPart.TheVariants.{Field, Index}
use Rattle.flat_ir.specs.declared.nodes.MoveSet.{MoveSet}
use Rattle.flat_ir.specs.declared.nodes.Operand.{Operand}
use Rattle.flat_ir.specs.declared.nodes.RegType.{RegType}
use Rattle.flat_ir.specs.declared.program.ProgramData.{ProgramData}
use Rattle.flat_ir.specs.declared.residual.Residual.{Residual}
use Rattle.flat_ir.specs.Machine.{regs_of, func_at}
use Rattle.flat_ir.specs.Whole.{operands_of_part}
use Rattle.sym_bytes.specs.declared.names.CallId.{CallId}
use Rattle.sym_bytes.specs.Entry.{Entry}
use Rattle.sym_bytes.specs.Value.{SymValue}
use Rattle.log_laws.specs.Logs.{Log}
use Rattle.write_log.specs.Memory.{with_log}
use Rattle.leaves.specs.declared.options.Cause.{Cause}
use Rattle.leaves.specs.Events.{Event, Recovered, Leaf, told_of}
use Rattle.leaves.specs.Events as leaf
use Rattle.leaves.specs.Fitting.{IsTerm, IsTermOf, AreTermsOf, ValueFitsIf, EntryFits, EventFits, EventsFit, ResultsFit, ToldFitsIn}
use Rattle.sym_states.specs.Fitting.{ValuesFit, RegsFit, FramesFit, SnapshotsFit, LogFits, GlobalsFit, StateFits}
use Rattle.skip_records.specs.Snapshots.{Snapshot}
use Rattle.sym_states.specs.States.{Frame, State, Context, Step, Flow, On, Over, results_of, told_with, told, opens, in_frame, appended, shown, counted, set, set_if, moved, entered, gives, goes_on, then_flow, then_step, unless_needed}
use Rattle.sym_states.specs.Terms.{value_in, raw_in, number_in, address_in, moved_by, moved_by_all, set_all}
use Rattle.sym_states.proofs.Fitted.{regs-set, appended-fits, shown-fits}
use Rattle.sym_states.proofs.Widths.{behind-fits}
use Rattle.state_laws.specs.Kept.{IsShort, IsShortIf, AreShort, RegsAreShort, IsShortState, OperandFits, OperandsFit, PartFits, PartsFit, StateFitsAt, ValueFitsAt, LeafFitsAt, StepFits, FlowFits}
use Rattle.state_laws.proofs.Terms.{moved_by_index-fits}
use Rattle.state_laws.proofs.Values.{raw_in-fits, raw_in-short, resolved-fits, resolved-short, term_in-fits, pointer_in-fits}

-- ---- what holds of a state at n bytes, part by part

pub record Parts (n : ℕ) (s : State) : Type 0 where
  pub most : n ≤ 64
  pub size : length s.kept ≡ n
  pub frame : RegsFit n s.frame.regs
  pub callers : FramesFit n s.callers
  pub globals : GlobalsFit s.memory.globals
  pub log : LogFits n s.memory.log
  pub snapshots : SnapshotsFit n s.snapshots
  pub condition : AreTermsOf n 1 s.condition
  pub path : EventsFit n s.path
  pub short : IsShortState s

pub parts_of : (n : ℕ) (s : State) → StateFitsAt n s → Parts n s
parts_of n s h = subst (λ m. Parts m s) h.size (record {
  most = h.fits.size;
  size = refl;
  frame = h.fits.frame;
  callers = h.fits.callers;
  globals = h.fits.globals;
  log = h.fits.log;
  snapshots = h.fits.snapshots;
  condition = h.fits.condition;
  path = h.fits.path;
  short = h.short;
})

pub whole_of : (n : ℕ) (s : State) → Parts n s → StateFitsAt n s
whole_of n s p =
    let own = subst (λ m. Parts m s) (sym p.size) p in
    record {
      fits = record { size = own.most; frame = own.frame; callers = own.callers; globals = own.globals; log = own.log; snapshots = own.snapshots; condition = own.condition; path = own.path };
      size = p.size;
      short = p.short;
    }

pub fits_at : (s : State) → StateFits s → IsShortState s → StateFitsAt (length s.kept) s
fits_at s h short = record { fits = h; size = refl; short = short }

-- ---- operands

pub value_in-fits : (n : ℕ) (s : State) (a : Operand) → StateFitsAt n s → OperandFits a → ValueFitsAt n (value_in s a)
value_in-fits n s a h k =
    let p = parts_of n s h in
    record {
      fits = resolved-fits n s.snapshots (raw_in s.frame.regs a) p.snapshots (raw_in-fits n s.frame.regs a p.frame k);
      short = resolved-short s.snapshots (raw_in s.frame.regs a) p.short.snapshots (raw_in-short s.frame.regs a p.short.frame);
    }

pub number_in-fits : (n : ℕ) (s : State) (a : Operand) → StateFitsAt n s → OperandFits a → IsTerm n (number_in s a)
number_in-fits n s a h k = term_in-fits n (value_in s a) (value_in-fits n s a h k).fits

pub address_in-fits : (n : ℕ) (s : State) (a : Operand) → StateFitsAt n s → OperandFits a → IsTermOf n 64 (address_in s a).offset
address_in-fits n s a h k = pointer_in-fits n (value_in s a) (value_in-fits n s a h k).fits

-- the values of operands
pub values-fit : (n : ℕ) (s : State) (operands : List Operand) → StateFitsAt n s → OperandsFit operands → ValuesFit n (map (value_in s) operands)
values-fit n s [] h k = tt
values-fit n s (a ∷ as') h k = ((value_in-fits n s a h k.0).fits, values-fit n s as' h k.1)

pub values-short : (n : ℕ) (s : State) (operands : List Operand) → StateFitsAt n s → OperandsFit operands → AreShort (map (value_in s) operands)
values-short n s [] h k = tt
values-short n s (a ∷ as') h k = ((value_in-fits n s a h k.0).short, values-short n s as' h k.1)

-- a value, if there is one, fits
pub record ValueFitsAtIf (n : ℕ) (v : Option SymValue) : Type 0 where
  pub fits : ValueFitsIf n v
  pub short : IsShortIf v

pub some-fits : (n : ℕ) (v : SymValue) → ValueFitsAt n v → ValueFitsAtIf n (Some v)
some-fits n v h = record { fits = h.fits; short = h.short }

pub none-fits : (n : ℕ) → ValueFitsAtIf n None
none-fits n = record { fits = tt; short = tt }

abbrev pub OperandFitsIf : Option Operand → Type 0
OperandFitsIf None = Unit {0}
OperandFitsIf (Some a) = OperandFits a

pub value_in-fits-if : (n : ℕ) (s : State) (a : Option Operand) → StateFitsAt n s → OperandFitsIf a → ValueFitsAtIf n (option_map (value_in s) a)
value_in-fits-if n s None h k = none-fits n
value_in-fits-if n s (Some a) h k = some-fits n (value_in s a) (value_in-fits n s a h k)

pub moved_by-fits : (n : ℕ) (s : State) (offset : Tree) (part : GepPart) → StateFitsAt n s → IsTermOf n 64 offset → PartFits part → OperandsFit (operands_of_part part) → IsTermOf n 64 (moved_by s offset part)
moved_by-fits n s offset (Field by) h k small operands = behind-fits n offset by k small
moved_by-fits n s offset (Index scale index) h k small operands = moved_by_index-fits n offset scale (number_in s index) k small (number_in-fits n s index h operands.0)

operands-first : (as' bs : List Operand) → OperandsFit (as' ++ bs) → OperandsFit as'
operands-first [] bs h = tt
operands-first (a ∷ as') bs h = (h.0, operands-first as' bs h.1)

operands-last : (as' bs : List Operand) → OperandsFit (as' ++ bs) → OperandsFit bs
operands-last [] bs h = h
operands-last (a ∷ as') bs h = operands-last as' bs h.1

pub moved_by_all-fits : (n : ℕ) (s : State) (offset : Tree) (parts : List GepPart) → StateFitsAt n s → IsTermOf n 64 offset → PartsFit parts → OperandsFit (flat_map operands_of_part parts) → IsTermOf n 64 (moved_by_all s offset parts)
moved_by_all-fits n s offset [] h k small operands = k
moved_by_all-fits n s offset (part ∷ parts) h k small operands =
    let more = flat_map operands_of_part parts in
    moved_by_all-fits n s (moved_by s offset part) parts h
    (moved_by-fits n s offset part h k small.0 (operands-first (operands_of_part part) more operands)) small.1
    (operands-last (operands_of_part part) more operands)

-- ---- registers

pub regs-set-short : (regs : List (Option SymValue)) (k : ℕ) (v : SymValue) → RegsAreShort regs → IsShort v → RegsAreShort (slice_set regs k (Some v))
regs-set-short [] k v h g = tt
regs-set-short (w ∷ regs) zero v h g = (g, h.1)
regs-set-short (w ∷ regs) (suc k) v h g = (h.0, regs-set-short regs k v h.1 g)

-- the registers of a frame
pub record FrameFits (n : ℕ) (f : Frame) : Type 0 where
  pub regs : RegsFit n f.regs
  pub short : RegsAreShort f.regs

pub frame_of : (n : ℕ) (s : State) → StateFitsAt n s → FrameFits n s.frame
frame_of n s h = let p = parts_of n s h in record { regs = p.frame; short = p.short.frame }

pub set-fits : (n : ℕ) (r : RegId) (v : SymValue) (f : Frame) → ValueFitsAt n v → FrameFits n f → FrameFits n (set r v f)
set-fits n r v f h k = record { regs = regs-set n f.regs r.0 v k.regs h.fits; short = regs-set-short f.regs r.0 v k.short h.short }

pub set_if-fits : (n : ℕ) (r : Option RegId) (v : Option SymValue) (f : Frame) → ValueFitsAtIf n v → FrameFits n f → FrameFits n (set_if r v f)
set_if-fits n None v f h k = k
set_if-fits n (Some r) None f h k = k
set_if-fits n (Some r) (Some v) f h k = set-fits n r v f (record { fits = h.fits; short = h.short }) k

abbrev pub MovesFit : List MoveSet → Type 0
MovesFit sets = OperandsFit (map (λ m. m.value) sets)

pub set_all-fits : (n : ℕ) (s : State) (sets : List MoveSet) (f : Frame) → StateFitsAt n s → MovesFit sets → FrameFits n f → FrameFits n (set_all s sets f)
set_all-fits n s [] f h k g = g
set_all-fits n s (m ∷ sets) f h k g = set_all-fits n s sets (set m.register (value_in s m.value) f) h k.1 (set-fits n m.register (value_in s m.value) f (value_in-fits n s m.value h k.0) g)

pub args-fit : (n : ℕ) (args : List SymValue) (rest : List (Option SymValue)) → ValuesFit n args → RegsFit n rest → RegsFit n (map Some args ++ rest)
args-fit n [] rest h k = k
args-fit n (v ∷ args) rest h k = (h.0, args-fit n args rest h.1 k)

pub args-short : (args : List SymValue) (rest : List (Option SymValue)) → AreShort args → RegsAreShort rest → RegsAreShort (map Some args ++ rest)
args-short [] rest h k = k
args-short (v ∷ args) rest h k = (h.0, args-short args rest h.1 k)

pub unset-fit : (n : ℕ) (types : List RegType) → RegsFit n (map (λ r. None) types)
unset-fit n [] = tt
unset-fit n (t ∷ types) = (tt, unset-fit n types)

pub unset-short : (types : List RegType) → RegsAreShort (map (λ r. None) types)
unset-short [] = tt
unset-short (t ∷ types) = (tt, unset-short types)

pub entered-fits : (n : ℕ) (p : ProgramData) (residual : Option Residual) (f : FuncId) (args : List SymValue) (name : List CallStep) → ValuesFit n args → AreShort args → FrameFits n (entered p residual f args name)
entered-fits n p residual f args name h k =
    let rest = drop (length args) (regs_of (func_at p f)) in
    record { regs = args-fit n args (map (λ r. None) rest) h (unset-fit n rest); short = args-short args (map (λ r. None) rest) k (unset-short rest) }

-- ---- states

pub in_frame-fits : (n : ℕ) (f : Frame) (s : State) → FrameFits n f → StateFitsAt n s → StateFitsAt n (in_frame f s)
in_frame-fits n f s h k =
    let p = parts_of n s k in
    whole_of n (in_frame f s) (record {
      most = p.most;
      size = p.size;
      frame = h.regs;
      callers = p.callers;
      globals = p.globals;
      log = p.log;
      snapshots = p.snapshots;
      condition = p.condition;
      path = p.path;
      short = record { frame = h.short; callers = p.short.callers; snapshots = p.short.snapshots };
    })

pub with_log-fits : (n : ℕ) (log : Log) (s : State) → LogFits n log → StateFitsAt n s → StateFitsAt n (record s { memory = with_log log s.memory })
with_log-fits n log s h k =
    let p = parts_of n s k in
    whole_of n (record s { memory = with_log log s.memory }) (record {
      most = p.most;
      size = p.size;
      frame = p.frame;
      callers = p.callers;
      globals = p.globals;
      log = h;
      snapshots = p.snapshots;
      condition = p.condition;
      path = p.path;
      short = record { frame = p.short.frame; callers = p.short.callers; snapshots = p.short.snapshots };
    })

pub appended-at : (n : ℕ) (e : Entry) (s : State) → EntryFits n e → StateFitsAt n s → StateFitsAt n (appended e s)
appended-at n e s h k = record {
  fits = appended-fits e s (subst (λ m. EntryFits m e) (sym k.size) h) k.fits;
  size = k.size;
  short = record { frame = k.short.frame; callers = k.short.callers; snapshots = k.short.snapshots };
}

pub shown-at : (n : ℕ) (e : Event) (s : State) → EventFits n e → StateFitsAt n s → StateFitsAt n (shown e s)
shown-at n e s h k = record {
  fits = shown-fits e s (subst (λ m. EventFits m e) (sym k.size) h) k.fits;
  size = k.size;
  short = record { frame = k.short.frame; callers = k.short.callers; snapshots = k.short.snapshots };
}

-- a condition, an input of n bytes and shares of one's own
pub conditioned-fits : (n : ℕ) (condition : List Tree) (kept : List ℕ) (shares : ℕ) (s : State) → AreTermsOf n 1 condition → length kept ≡ n → StateFitsAt n s
    → StateFitsAt n (record s { condition = condition; kept = kept; shares = shares })
conditioned-fits n condition kept shares s h size k =
    let p = parts_of n s k in
    whole_of n (record s { condition = condition; kept = kept; shares = shares }) (record {
      most = p.most;
      size = size;
      frame = p.frame;
      callers = p.callers;
      globals = p.globals;
      log = p.log;
      snapshots = p.snapshots;
      condition = h;
      path = p.path;
      short = record { frame = p.short.frame; callers = p.short.callers; snapshots = p.short.snapshots };
    })

-- the node is done
pub gives-fits : (n : ℕ) (c : Context) (r : Option RegId) (v : Option SymValue) (s : State) → ValueFitsAtIf n v → StateFitsAt n s → StepFits n (gives c r v s)
gives-fits n c r v s h k =
    let f = set_if-fits n r v (counted s.frame) h (let g = frame_of n s k in record { regs = g.regs; short = g.short }) in
    in_frame-fits n (moved c 0 (set_if r v (counted s.frame))) s (record { regs = f.regs; short = f.short }) k

pub goes_on-fits : (n : ℕ) (c : Context) (s : State) → StateFitsAt n s → StepFits n (goes_on c s)
goes_on-fits n c s k = gives-fits n c None None s (none-fits n) k

-- ---- leaves

pub result-fits : (n : ℕ) (call : CallId) (v : Option SymValue) (more : List Recovered) → ValueFitsIf n v → ResultsFit n more → ResultsFit n (elim v [ None ↦ more | Some w ↦ record { call = call; value = w } ∷ more ])
result-fits n call None more h k = k
result-fits n call (Some v) more h k = (h, k)

pub results_of-fits : (n : ℕ) (shots : List Snapshot) → SnapshotsFit n shots → ResultsFit n (results_of shots)
results_of-fits n [] h = tt
results_of-fits n (s ∷ shots) h = result-fits n s.call s.result (results_of shots) h.0.result (results_of-fits n shots h.1)

-- what is told with a condition of one's own
pub told_with-fits : (n : ℕ) (kept : Option (List ℕ)) (condition : List Tree) (s : State) → AreTermsOf n 1 condition → StateFitsAt n s → ToldFitsIn n (told_with kept condition s)
told_with-fits n kept condition s h k =
    let p = parts_of n s k in
    record { condition = h; path = p.path; results = results_of-fits n s.snapshots p.snapshots }

pub told-fits : (n : ℕ) (s : State) → StateFitsAt n s → ToldFitsIn n (told s)
told-fits n s k = told_with-fits n (Some s.kept) s.condition s (parts_of n s k).condition k

-- what the state tells fits at its own input
pub told-own : (n : ℕ) (s : State) → StateFitsAt n s → ToldFitsIn (length s.kept) (told s)
told-own n s k = subst (λ m. ToldFitsIn m (told s)) (sym k.size) (told-fits n s k)

pub open-fits : (n : ℕ) (cause : Cause) (s : State) → StateFitsAt n s → LeafFitsAt n (leaf.Open (told s) cause)
open-fits n cause s k = record { fits = told-own n s k; told = told-fits n s k; size = k.size; recovered = tt }

pub opens-fits : (n : ℕ) (cause : Cause) (s : State) → StateFitsAt n s → StepFits n (opens cause s)
opens-fits n cause s k = open-fits n cause s k

-- a leaf of which no input is kept
pub spent-fits : (n : ℕ) (cause : Cause) (condition : List Tree) (s : State) → AreTermsOf n 1 condition → StateFitsAt n s → LeafFitsAt n (leaf.Open (told_with None condition s) cause)
spent-fits n cause condition s h k = record { fits = tt; told = told_with-fits n None condition s h k; size = tt; recovered = tt }

-- ---- parts that go on

pub then_flow-fits : {A B : Type 0} (n : ℕ) (P : A → Type 0) (Q : B → Type 0) (flow : Flow A) (next : A → Flow B)
    → FlowFits n P flow → ((x : A) → P x → FlowFits n Q (next x)) → FlowFits n Q (then_flow flow next)
then_flow-fits n P Q (On x) next h k = k x h
then_flow-fits n P Q (Over step) next h k = h

pub then_step-fits : {A : Type 0} (n : ℕ) (P : A → Type 0) (flow : Flow A) (next : A → Step)
    → FlowFits n P flow → ((x : A) → P x → StepFits n (next x)) → StepFits n (then_step flow next)
then_step-fits n P (On x) next h k = k x h
then_step-fits n P (Over step) next h k = h

pub unless_needed-fits : (n : ℕ) (at : Location) (calls : List CallId) (s : State) → StateFitsAt n s → FlowFits n (StateFitsAt n) (unless_needed at calls s)
unless_needed-fits n at [] s h = h
unless_needed-fits n at (c ∷ calls) s h = h
