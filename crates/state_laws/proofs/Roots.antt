-- The first state fits, and so do the roots of recoveries.
use Rattle.std.proofs.Common.{◌≡◌, ℕ, zero, suc, Bool, true, false, ◌-◌, List, [], ◌∷◌, length, Option, Some, None, refl, ap}
use Rattle.std.specs.Prelude.{cond, slice_get, nat_lt}
use Rattle.flat_ir.specs.declared.names.Location.{Location}
use Rattle.sym_bytes.specs.declared.names.CallId.{CallId}
use Rattle.sym_bytes.specs.Building.{same_call}
use Rattle.log_laws.specs.Logs.{Log, Did, Marked, cut}
use Rattle.sym_states.specs.Exploring.{Setting, zeros, first_state, context_of, before_call, recovery_of, recovery_if, root_of, roots_of}
use Rattle.sym_states.specs.Fitting.{SnapshotFits, SnapshotsFit, LogFits}
use Rattle.skip_records.specs.Snapshots.{Snapshot}
use Rattle.sym_states.specs.States.{State, Needed}
use Rattle.state_laws.specs.Explored.{IsFittingSetting}
use Rattle.state_laws.specs.Kept.{IsFitting, IsShortSnapshot, AreShortSnapshots, StateFitsAt, ChildFits, ChildrenFit}
use Rattle.state_laws.proofs.States.{parts_of, whole_of, entered-fits}

pub context_of-fits : (e : Setting) (s : State) → IsFittingSetting e → IsFitting (context_of e s)
context_of-fits e s h = record { sizes = h.sizes }

pub zeros-length : (n : ℕ) → length (zeros n) ≡ n
zeros-length zero = refl
zeros-length (suc n) = ap suc (zeros-length n)

-- main at its first node
pub first_state-fits : (e : Setting) → IsFittingSetting e → StateFitsAt e.inputs (first_state e)
first_state-fits e h =
    let frame = entered-fits e.inputs e.program None e.program.main [] [] tt tt in
    whole_of e.inputs (first_state e) (record {
      most = h.most;
      size = zeros-length e.inputs;
      frame = frame.regs;
      callers = tt;
      globals = h.globals;
      log = tt;
      snapshots = tt;
      condition = tt;
      path = tt;
      short = record { frame = frame.short; callers = tt; snapshots = tt };
    })

pub log-if : (n : ℕ) (b : Bool) (l m : Log) → LogFits n l → LogFits n m → LogFits n (cond b l m)
log-if n true l m h k = h
log-if n false l m h k = k

pub cut-fits : (n : ℕ) (call : CallId) (log : Log) → LogFits n log → LogFits n (cut call log)
cut-fits n call [] h = tt
cut-fits n call (Did e ∷ log) h = cut-fits n call log h.1
cut-fits n call (Marked c mods fills ∷ log) h = log-if n (same_call call c) log (cut call log) h.1 (cut-fits n call log h.1)

snapshots-if : (n : ℕ) (b : Bool) (s : Snapshot) (shots : List Snapshot) → SnapshotFits n s → SnapshotsFit n shots → SnapshotsFit n (cond b (s ∷ shots) shots)
snapshots-if n true s shots h k = (h, k)
snapshots-if n false s shots h k = k

pub before-fits : (n : ℕ) (call : CallId) (shots : List Snapshot) → SnapshotsFit n shots → SnapshotsFit n (before_call call shots)
before-fits n call [] h = tt
before-fits n call (s ∷ shots) h = snapshots-if n (nat_lt s.call.0 call.0) s (before_call call shots) h.0 (before-fits n call shots h.1)

short-if : (b : Bool) (s : Snapshot) (shots : List Snapshot) → IsShortSnapshot s → AreShortSnapshots shots → AreShortSnapshots (cond b (s ∷ shots) shots)
short-if true s shots h k = (h, k)
short-if false s shots h k = k

pub before-short : (call : CallId) (shots : List Snapshot) → AreShortSnapshots shots → AreShortSnapshots (before_call call shots)
before-short call [] h = tt
before-short call (s ∷ shots) h = short-if (nat_lt s.call.0 call.0) s (before_call call shots) h.0 (before-short call shots h.1)

pub recovery_of-fits : (e : Setting) (n : ℕ) (s : State) (at : Location) (shot : Snapshot) → StateFitsAt n s → SnapshotFits n shot → IsShortSnapshot shot → StateFitsAt n (recovery_of e s at shot)
recovery_of-fits e n s at shot h fit short =
    let p = parts_of n s h in
    let frame = entered-fits n e.program (Some (e.slice shot.func at)) shot.func shot.args shot.frame fit.args short.args in
    whole_of n (recovery_of e s at shot) (record {
      most = p.most;
      size = p.size;
      frame = frame.regs;
      callers = tt;
      globals = p.globals;
      log = cut-fits n shot.call s.memory.log p.log;
      snapshots = before-fits n shot.call s.snapshots p.snapshots;
      condition = p.condition;
      path = tt;
      short = record { frame = frame.short; callers = tt; snapshots = before-short shot.call s.snapshots p.short.snapshots };
    })

abbrev pub SnapshotFitsIf : ℕ → Option Snapshot → Type 0
SnapshotFitsIf n None = Unit {0}
SnapshotFitsIf n (Some s) = SnapshotFits n s × IsShortSnapshot s

pub snapshot-at : (n : ℕ) (shots : List Snapshot) (k : ℕ) → SnapshotsFit n shots → AreShortSnapshots shots → SnapshotFitsIf n (slice_get shots k)
snapshot-at n [] k h g = tt
snapshot-at n (s ∷ shots) zero h g = (h.0, g.0)
snapshot-at n (s ∷ shots) (suc k) h g = snapshot-at n shots k h.1 g.1

pub recovery_if-fits : (e : Setting) (n : ℕ) (s : State) (at : Location) (o : Option Snapshot) → StateFitsAt n s → SnapshotFitsIf n o → ChildFits n (recovery_if e s at o)
recovery_if-fits e n s at None h fit = h
recovery_if-fits e n s at (Some shot) h fit = recovery_of-fits e n s at shot h fit.0 fit.1

pub root_of-fits : (e : Setting) (n : ℕ) (s : State) (needed : Needed) → StateFitsAt n s → ChildFits n (root_of e s needed)
root_of-fits e n s needed h =
    let p = parts_of n s h in
    recovery_if-fits e n s needed.at (slice_get s.snapshots (needed.call.0 - 1)) h (snapshot-at n s.snapshots (needed.call.0 - 1) p.snapshots p.short.snapshots)

pub roots_of-fits : (e : Setting) (n : ℕ) (s : State) (needs : List Needed) → StateFitsAt n s → ChildrenFit n (roots_of e s needs)
roots_of-fits e n s [] h = tt
roots_of-fits e n s (needed ∷ needs) h = (root_of-fits e n s needed h, roots_of-fits e n s needs h)
