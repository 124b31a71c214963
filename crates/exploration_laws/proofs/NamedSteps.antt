-- What an attempt gives names older calls, with their types, and what it needs is needed.
use Rattle.std.proofs.Common.{◌≡◌, ℕ, zero, suc, Bool, true, false, ◌+◌, ◌-◌, ◌^◌, ◌==◌, ◌<◌, ◌≤◌, List, [], ◌∷◌, ◌++◌, length, map, take, drop, reverse, Option, Some, None, unwrap_or, refl, sym, ◌∙◌, ap, subst, arith}
use Rattle.std.specs.Prelude.{cond, slice_get, nat_lt}
use Rattle.std.specs.Option.{option_map, option_to_list}
use Rattle.std.specs.List.{AllByRecursion as Each, flat_map}
use Rattle.std.proofs.lemmas.List.{map-append, length-append}
use mathlib.Core.List.{reverse_aux}
use Rattle.bitnum.specs.declared.BinOp.{BinOp}
use Rattle.bitnum.specs.declared.BinOp.TheVariants as op
use Rattle.terms.specs.Tree.{Tree}
use Rattle.term_store.specs.Condition.{negation}
use Rattle.flat_ir.specs.declared.names.FuncId.{FuncId}
use Rattle.flat_ir.specs.declared.names.RegId.{RegId}
use Rattle.flat_ir.specs.declared.names.Location.{Location}
use Rattle.flat_ir.specs.declared.names.Location.TheVariants as location
use Rattle.flat_ir.specs.declared.names.ObjectName.{ObjectName}
use Rattle.flat_ir.specs.declared.nodes.MoveSet.{MoveSet}
use Rattle.flat_ir.specs.declared.nodes.Node.{Node}
use Rattle.flat_ir.specs.declared.nodes.Node.TheVariants as node
use Rattle.flat_ir.specs.declared.nodes.Operand.{Operand}
use Rattle.flat_ir.specs.declared.nodes.RegType.{RegType}
use Rattle.flat_ir.specs.declared.values.FaultKind.{FaultKind}
use Rattle.flat_ir.specs.declared.values.FaultKind.TheVariants as fault
use Rattle.flat_ir.specs.Machine.{nodes_of, regs_of, func_at, type_at}
use Rattle.flat_ir.specs.Registers.{bytes_of_type}
use Rattle.flat_ir.specs.Skipped.{is_named}
use Rattle.flat_ir.specs.Steps.{made_by_malloc, call_result, width_of}
use Rattle.flat_ir.specs.Whole.{operands_of_part}
use Rattle.sym_bytes.specs.declared.names.Base.{Base}
use Rattle.sym_bytes.specs.declared.names.Base.TheVariants.{Null, Object}
use Rattle.sym_bytes.specs.declared.names.CallId.{CallId}
use Rattle.sym_bytes.specs.Answers.{Living, Alive, Dead, Read, Byte, Undecided, Want, Join}
use Rattle.sym_bytes.specs.Answers as answers
use Rattle.sym_bytes.specs.Building.{wide, behind, null, pointer_to}
use Rattle.sym_bytes.specs.Byte.{SymByte}
use Rattle.sym_bytes.specs.Entry as entry
use Rattle.sym_bytes.specs.Entry.{Entry}
use Rattle.sym_bytes.specs.Pointers.{Pointer}
use Rattle.sym_bytes.specs.Value.{SymValue, Int, Ptr, Pending}
use Rattle.log_laws.specs.Logs.{Did, Marked, Log, life, position, entries_in}
use Rattle.log_laws.specs.Needs.{need, location_of}
use Rattle.log_laws.specs.Reading.{read_byte}
use Rattle.leaves.specs.declared.options.Cause.{Cause}
use Rattle.leaves.specs.declared.options.Cause.TheVariants.{Shares, Steps}
use Rattle.leaves.specs.Events as events
use Rattle.leaves.specs.Events.{Event, Branch, Load}
use Rattle.skip_records.specs.Snapshots.{Snapshot}
use Rattle.sym_states.specs.declared.frames.Place.{Place}
use Rattle.sym_states.specs.declared.frames.Place.TheVariants.{At, End, Never}
use Rattle.sym_states.specs.declared.frames.Target.{Target}
use Rattle.sym_states.specs.Attempts.{knows, firm, faulted, fails_in, fails, passed, must, Reached, reached, access_alive, access_base, access, ReadBytes, either_way, read_on, read_one, before, read_all, reads, Valued, valued, joins, join_read, loaded, loads, writes, copies, makes, frees_object, frees_made, frees_alive, frees_base, frees, divides_by, divides, gives_term, picks, selects, mallocs, enters, skips, is_skipped, calls, took, frees_of_node, frees_at, frees_from, ended, completed, completes, ends_first, leaves_to, resumed, ends_frame, is_main_end, returns, exits, computes, compares, casts, places, chooses, asks_memory, loads_at, stores_at, copies_from, takes_input, puts, branches, switches, executes, with_left, attempt_at, next_call, snapshot_of, mods_of, result_type, if_result, recovers}
use Rattle.sym_states.specs.Sides.{Offspring, Lives, Spends, offsprings, held_side, Offer, Alone, Several, alone, offer, share_of, child_of, children_of, forks, stays, Tested, Good, Bad, Answered, tested, test, taken, choose_way}
use Rattle.sym_states.specs.States.{Frame, State, Context, Child, Step, Forks, Flow, On, Over, then_flow, then_step, opens, in_frame, appended, shown, here, code_of, made_now, counted, set, set_if, moved, gives, goes_on, unless_needed, needs_at, results_of, entered, name_below}
use Rattle.sym_states.specs.Terms.{resolved, raw_in, byte_resolved, value_in, number_in, address_in, pending_in, term_in, calculated, compared_values, cast_to, chosen, low_byte, truth_of, size_in, moved_by_all, input_at, is_nonzero, has_quotient, is_small, is_within, is_start, branch_sides, switch_sides, bytes_of_value, stored_bytes, joined_as, set_all}
use Rattle.exploration_laws.specs.Calls.{AreKept}
use Rattle.exploration_laws.specs.Pending.{Kind, kind_of, kinds_of, Returns, Earlier, ValueNames, ValueNamesIf, FrameNames, ByteNames, EntryNames, EventNames, LogNames, SnapshotNames, bound_of, AreNamed, PendingsAreNamed, AreNeeded, JoinNeeds, ResultsName, Recovery, recovery_in, DoneNames, StateNames, ChildNames, StepNames, AttemptsName, AttemptsNeed, ValuesNeed, BytesNeed}
use Rattle.exploration_laws.proofs.Calls.{skip-kept}
use Rattle.exploration_laws.proofs.NamedValues.{each-more, each-append, returns-more, returns-last, value-more, value-more-if, Waits, AreWaited, resolved-waits, results-name, stored-names, raw_in-names, regs-set-name, args-name, unset-name, put_pending-waits, JoinNames, joined-names, bytes_resolved-wait}
use Rattle.exploration_laws.proofs.NamedLogs.{Within, log-within, log-later, take-names, in-names, ReadNames, read-names}
use Rattle.exploration_laws.proofs.NamedCalls.{wants-needed, waits-needed}

-- ---- a skipped call more

event-more : (P Q : CallId → RegType → Type 0) → ((c : CallId) (t : RegType) → P c t → Q c t) → (e : Event) → EventNames P e → EventNames Q e
event-more P Q more (Branch func at side) h = tt
event-more P Q more (Load func at v) h = value-more P Q more v h

frame-more : (P Q : CallId → RegType → Type 0) → ((c : CallId) (t : RegType) → P c t → Q c t) → (f : Frame) → FrameNames P f → FrameNames Q f
frame-more P Q more f h = each-more (ValueNamesIf P) (ValueNamesIf Q) (value-more-if P Q more) f.regs h

snapshot-more : (ks more : List Kind) → ((c : CallId) (t : RegType) → Returns ks c t → Returns more c t) → (s : Snapshot) → SnapshotNames ks s → SnapshotNames more s
snapshot-more ks more within s h =
    let wider : (c : CallId) (t : RegType) → Earlier ks s.call.0 c t → Earlier more s.call.0 c t = λ c t names. (names.0, within c t names.1) in (
      each-more (ValueNames (Earlier ks s.call.0)) (ValueNames (Earlier more s.call.0)) (value-more (Earlier ks s.call.0) (Earlier more s.call.0) wider) s.args h.0,
      value-more-if (Earlier ks s.call.0) (Earlier more s.call.0) wider s.result h.1,
    )

set_if-names : (P : CallId → RegType → Type 0) (r : Option RegId) (v : Option SymValue) (f : Frame) → ValueNamesIf P v → FrameNames P f → FrameNames P (set_if r v f)
set_if-names P None v f h k = k
set_if-names P (Some r) None f h k = k
set_if-names P (Some r) (Some v) f h k = regs-set-name P f.regs r.0 v k h

one-more : (n m : ℕ) → m ≡ n + 1 → n < m
one-more n m h = omega (arith, h)

next-less : (n m : ℕ) → m ≡ n + 1 → n + 1 < m + 1
next-less n m h = omega (arith, h)

less-more : (k n m : ℕ) → m ≡ n + 1 → k < n + 1 → k < m + 1
less-more k n m h less = omega (arith, h, less)

module _ (c : Context) (f : FuncId) (args : List SymValue) (s : State) where
  abbrev Before : CallId → RegType → Type 0
  Before = Earlier (kinds_of c.program s.snapshots) (length s.snapshots + 1)

  abbrev shots-behind : List Snapshot
  shots-behind = s.snapshots ++ snapshot_of f args s ∷ []

  abbrev Behind : CallId → RegType → Type 0
  Behind = Earlier (kinds_of c.program shots-behind) (length shots-behind + 1)

  kinds-both : kinds_of c.program shots-behind ≡ kinds_of c.program s.snapshots ++ kind_of c.program (snapshot_of f args s) ∷ []
  kinds-both = map-append (kind_of c.program) s.snapshots (snapshot_of f args s ∷ [])

  one-longer : length shots-behind ≡ length s.snapshots + 1
  one-longer = length-append s.snapshots (snapshot_of f args s ∷ [])

  among : (d : CallId) (t : RegType) → Returns (kinds_of c.program s.snapshots) d t → Returns (kinds_of c.program shots-behind) d t
  among d t h = subst (λ ks. Returns ks d t) (sym kinds-both) (returns-more (kinds_of c.program s.snapshots) (kind_of c.program (snapshot_of f args s) ∷ []) d t h)

  still : (d : CallId) (t : RegType) → Before d t → Behind d t
  still d t h = (less-more d.0 (length s.snapshots) (length shots-behind) one-longer h.0, among d t h.1)

  result-names : (o : Option RegType) → result_type (func_at c.program f) ≡ o → ValueNamesIf Behind (option_map (Pending (next_call s)) o)
  result-names None is = tt
  result-names (Some t) is = (
    next-less (length s.snapshots) (length shots-behind) one-longer,
    subst (λ ks. Returns ks (next_call s) t) (sym kinds-both) (returns-last (kinds_of c.program s.snapshots) (kind_of c.program (snapshot_of f args s)) (next_call s) t refl is),
  )

  skipped-names : (result : Option RegId) → AreNamed c.program c.mods s.frame s.callers s.memory.log s.snapshots s.path None → Each (ValueNames Before) args
      → AreNamed c.program c.mods (moved c 0 (set_if result (option_map (Pending (next_call s)) (result_type (func_at c.program f))) (counted s.frame))) s.callers
      (Marked (next_call s) (mods_of c f) [] ∷ s.memory.log) shots-behind s.path None
  skipped-names result h g = record {
    calls = skip-kept c f args s h.calls;
    frame = set_if-names Behind result (option_map (Pending (next_call s)) (result_type (func_at c.program f))) (counted s.frame) (result-names (result_type (func_at c.program f)) refl) (frame-more Before Behind still s.frame h.frame);
    callers = each-more (FrameNames Before) (FrameNames Behind) (frame-more Before Behind still) s.callers h.callers;
    log = (next-less (length s.snapshots) (length shots-behind) one-longer, (tt, log-within (length s.snapshots + 1) (kinds_of c.program s.snapshots) (kinds_of c.program shots-behind) s.memory.log (λ d t less r. among d t r) h.log));
    snapshots = each-append (SnapshotNames (kinds_of c.program shots-behind)) s.snapshots (snapshot_of f args s ∷ [])
        (each-more (SnapshotNames (kinds_of c.program s.snapshots)) (SnapshotNames (kinds_of c.program shots-behind)) (snapshot-more (kinds_of c.program s.snapshots) (kinds_of c.program shots-behind) among) s.snapshots h.snapshots)
        ((each-more (ValueNames Before) (ValueNames (Earlier (kinds_of c.program shots-behind) (length s.snapshots + 1))) (value-more Before (Earlier (kinds_of c.program shots-behind) (length s.snapshots + 1)) (λ d t names. (names.0, among d t names.1))) args g, tt), tt);
    path = each-more (EventNames Before) (EventNames Behind) (event-more Before Behind still) s.path h.path;
  }

-- ---- the log behind entries

log-kept : (mods : List (List Location)) (e : Entry) (log : Log) (shots : List Snapshot) → AreKept mods log shots → AreKept mods (Did e ∷ log) shots
log-kept mods e log shots h = record { numbered = h.numbered; marked = h.marked }

logs-kept : (mods : List (List Location)) (es : List Entry) (log : Log) (shots : List Snapshot) → AreKept mods log shots → AreKept mods (map Did es ++ log) shots
logs-kept mods [] log shots h = h
logs-kept mods (e ∷ es) log shots h = log-kept mods e (map Did es ++ log) shots (logs-kept mods es log shots h)

done-names : (ks : List Kind) (bound : ℕ) (es : List Entry) (log : Log) → Each (EntryNames (Earlier ks bound)) es → LogNames ks bound log → LogNames ks bound (map Did es ++ log)
done-names ks bound [] log h k = k
done-names ks bound (e ∷ es) log h k = (h.0, done-names ks bound es log h.1 k)

frees_of_node-names : (P : CallId → RegType → Type 0) (frame : Frame) (at more k : ℕ) → Each (EntryNames P) (frees_of_node frame at more k)
frees_of_node-names P frame at zero k = tt
frees_of_node-names P frame at (suc more) k = (tt, frees_of_node-names P frame at more (k + 1))

frees_at-names : (P : CallId → RegType → Type 0) (frame : Frame) (at count : ℕ) (x : Node) → Each (EntryNames P) (frees_at frame at count x)
frees_at-names P frame at count (node.Alloca size result next) = frees_of_node-names P frame at count 1
frees_at-names P frame at count _ = tt

frees_from-names : (P : CallId → RegType → Type 0) (frame : Frame) (k : ℕ) (xs : List Node) → Each (EntryNames P) (frees_from frame k xs)
frees_from-names P frame k [] = tt
frees_from-names P frame k (x ∷ xs) =
    each-append (EntryNames P) (frees_at frame k (unwrap_or (slice_get frame.counts k) 0) x) (frees_from frame (k + 1) xs) (frees_at-names P frame k (unwrap_or (slice_get frame.counts k) 0) x) (frees_from-names P frame (k + 1) xs)

onto-names : (P : CallId → RegType → Type 0) (es fs : List Entry) → Each (EntryNames P) es → Each (EntryNames P) fs → Each (EntryNames P) (reverse_aux es fs)
onto-names P [] fs h k = k
onto-names P (e ∷ es) fs h k = onto-names P es (e ∷ fs) h.1 (h.0, k)

-- ---- the parts of an attempt

module _ (c : Context) (shots : List Snapshot) (target : Option Target) where
  -- what a pending result may name, from these snapshots on
  abbrev Own : CallId → RegType → Type 0
  Own = Earlier (kinds_of c.program shots) (bound_of target shots)

  abbrev Waiting : CallId → RegType → Type 0
  Waiting = Waits (kinds_of c.program shots) (bound_of target shots) shots

  -- a state with these snapshots, whose pending results are named
  abbrev pub Stands : State → Type 0
  Stands s = AreNamed c.program c.mods s.frame s.callers s.memory.log shots s.path target × ((s.snapshots ≡ shots) × (s.target ≡ target))

  abbrev pub Gives : Step → Type 0
  Gives a = StepNames c.program c.mods (recovery_in c.program target shots) a

  pub out : (s : State) → Stands s → StateNames c.program c.mods (recovery_in c.program target shots) s
  out s h = (
    subst (λ ss. AreNamed c.program c.mods s.frame s.callers s.memory.log ss s.path s.target) (sym h.1.0) (subst (λ o. AreNamed c.program c.mods s.frame s.callers s.memory.log shots s.path o) (sym h.1.1) h.0),
    ap (λ ss. recovery_in c.program s.target ss) h.1.0 ∙ ap (λ o. recovery_in c.program o shots) h.1.1,
  )

  told-names : (s : State) → Stands s → ResultsName (results_of s.snapshots)
  told-names s h = subst (λ ss. ResultsName (results_of ss)) (sym h.1.0) (results-name (kinds_of c.program shots) shots h.0.snapshots)

  framed : (f : Frame) (s : State) → FrameNames Own f → Stands s → Stands (in_frame f s)
  framed f s h k = (record { calls = k.0.calls; frame = h; callers = k.0.callers; log = k.0.log; snapshots = k.0.snapshots; path = k.0.path }, k.1)

  added : (e : Entry) (s : State) → EntryNames Own e → Stands s → Stands (appended e s)
  added e s h k = (record { calls = log-kept c.mods e s.memory.log shots k.0.calls; frame = k.0.frame; callers = k.0.callers; log = (h, k.0.log); snapshots = k.0.snapshots; path = k.0.path }, k.1)

  told-more : (e : Event) (s : State) → EventNames Own e → Stands s → Stands (shown e s)
  told-more e s h k = (record { calls = k.0.calls; frame = k.0.frame; callers = k.0.callers; log = k.0.log; snapshots = k.0.snapshots; path = each-append (EventNames Own) s.path (e ∷ []) k.0.path (h, tt) }, k.1)

  conditioned : (condition : List Tree) (kept : List ℕ) (shares : ℕ) (s : State) → Stands s → Stands (record s { condition = condition; kept = kept; shares = shares })
  conditioned condition kept shares s k = k

  gives-names : (r : Option RegId) (v : Option SymValue) (s : State) → ValueNamesIf Own v → Stands s → Gives (gives c r v s)
  gives-names r v s h k =
      let f = moved c 0 (set_if r v (counted s.frame)) in
      out (in_frame f s) (framed f s (set_if-names Own r v (counted s.frame) h k.0.frame) k)

  goes_on-names : (s : State) → Stands s → Gives (goes_on c s)
  goes_on-names s k = gives-names None None s tt k

  -- ---- values

  value_in-waits : (s : State) (a : Operand) → Stands s → ValueNames Waiting (value_in s a)
  value_in-waits s a h =
      subst (λ ss. ValueNames Waiting (resolved ss (raw_in s.frame.regs a))) (sym h.1.0)
      (resolved-waits c.mods (kinds_of c.program shots) (bound_of target shots) 1 shots (raw_in s.frame.regs a) h.0.calls.numbered h.0.snapshots (raw_in-names Own s.frame.regs a h.0.frame))

  value_in-names : (s : State) (a : Operand) → Stands s → ValueNames Own (value_in s a)
  value_in-names s a h = value-more Waiting Own (λ d t waits. waits.0) (value_in s a) (value_in-waits s a h)

  value_in-names-if : (s : State) (a : Option Operand) → Stands s → ValueNamesIf Own (option_map (value_in s) a)
  value_in-names-if s None h = tt
  value_in-names-if s (Some a) h = value_in-names s a h

  values-name : (s : State) (operands : List Operand) → Stands s → Each (ValueNames Own) (map (value_in s) operands)
  values-name s [] h = tt
  values-name s (a ∷ as') h = (value_in-names s a h, values-name s as' h)

  pending-wait : (s : State) (operands : List Operand) → Stands s → AreWaited Waiting (pending_in s operands)
  pending-wait s [] h = (tt, tt)
  pending-wait s (a ∷ as') h = put_pending-waits Waiting (value_in s a) (pending_in s as') (value_in-waits s a h) (pending-wait s as' h)

  needs-results : (s : State) (calls : List CallId) → Stands s → AreWaited Waiting calls → AreNeeded c.mods s (needs_at location.Result calls)
  needs-results s calls h wait =
      waits-needed c.program c.mods s (out s h).0.calls (bound_of target shots) calls
      (subst (λ ss. AreWaited (Waits (kinds_of c.program ss) (bound_of target shots) ss) calls) (sym h.1.0) wait)

  needs-changes : (w : Want) (s : State) → Stands s → AreNeeded c.mods s (needs_at (location_of w) (need w s.memory.log))
  needs-changes w s h = wants-needed c.program c.mods s (out s h).0.calls (kinds_of c.program shots) (bound_of target shots) w h.0.log

  -- ---- parts that go on

  abbrev FlowGives : {A : Type 0} → (A → Type 0) → Flow A → Type 0
  FlowGives P (On x) = P x
  FlowGives P (Over step) = Gives step

  then_flow-names : {A B : Type 0} (P : A → Type 0) (Q : B → Type 0) (flow : Flow A) (next : A → Flow B) → FlowGives P flow → ((x : A) → P x → FlowGives Q (next x)) → FlowGives Q (then_flow flow next)
  then_flow-names P Q (On x) next h k = k x h
  then_flow-names P Q (Over step) next h k = h

  then_step-names : {A : Type 0} (P : A → Type 0) (flow : Flow A) (next : A → Step) → FlowGives P flow → ((x : A) → P x → Gives (next x)) → Gives (then_step flow next)
  then_step-names P (On x) next h k = k x h
  then_step-names P (Over step) next h k = h

  unless_needed-names : (at : Location) (needed : List CallId) (s : State) → AreNeeded c.mods s (needs_at at needed) → Stands s → FlowGives Stands (unless_needed at needed s)
  unless_needed-names at [] s e h = h
  unless_needed-names at (d ∷ needed) s e h = (out s h, e)

  knows-names : (w : Want) (s : State) → Stands s → FlowGives Stands (knows w s)
  knows-names w s h = unless_needed-names (location_of w) (need w s.memory.log) s (needs-changes w s h) h

  firm-names : (operands : List Operand) (s : State) → Stands s → FlowGives Stands (firm operands s)
  firm-names operands s h = unless_needed-names location.Result (pending_in s operands) s (needs-results s (pending_in s operands) h (pending-wait s operands h)) h

  after-firm : (operands : List Operand) (s : State) (next : State → Step) → Stands s → ((u : State) → Stands u → Gives (next u)) → Gives (then_step (firm operands s) next)
  after-firm operands s next h k = then_step-names Stands (firm operands s) next (firm-names operands s h) k

  -- ---- faults and tests

  fails_in-names : (at : Option Target) (s : State) (kind : FaultKind) → Stands s → Gives (fails_in at kind s)
  fails_in-names None s kind h = then_step-names Stands (knows answers.Output s) (faulted kind) (knows-names answers.Output s h) (λ u k. (told-names u k, tt))
  fails_in-names (Some at) s kind h = (told-names s h, tt)

  fails-names : (kind : FaultKind) (s : State) → Stands s → Gives (fails kind s)
  fails-names kind s h = fails_in-names s.target s kind h

  abbrev TestedGives : Tested → Type 0
  TestedGives (Good s) = Stands s
  TestedGives (Bad s) = Stands s
  TestedGives (Answered step) = Gives step

  abbrev OfferGives : Offer → Type 0
  OfferGives (Alone side s) = Stands s
  OfferGives (Several os) = Unit {0}

  alone-names : (os : List Offspring) (s : State) → Stands s → OfferGives (alone os s)
  alone-names [] s h = tt
  alone-names (Lives side condition kept ∷ []) s h = conditioned condition kept s.shares s h
  alone-names (Lives side condition kept ∷ o ∷ os) s h = tt
  alone-names (Spends condition ∷ os) s h = tt

  offer-names : (sides : List Tree) (s : State) → Stands s → OfferGives (offer c sides s)
  offer-names sides s h =
      elim (held_side s.condition 0 sides) as (λ o. OfferGives (elim o [ Some side ↦ Alone side s | None ↦ alone (offsprings c s 0 sides) s ]))
      [ Some side ↦ h | None ↦ alone-names (offsprings c s 0 sides) s h ]

  abbrev Takes : (ℕ → State → State) → Type 0
  Takes take = (side : ℕ) (t : State) → Stands t → Stands (take side t)

  child-names : (take : ℕ → State → State) (s : State) (shares : ℕ) (o : Offspring) → Takes take → Stands s → ChildNames c.program c.mods (recovery_in c.program target shots) (child_of take s shares o)
  child-names take s shares (Lives side condition kept) takes h =
      let t = record s { condition = condition; kept = kept; shares = shares } in
      out (take side t) (takes side t (conditioned condition kept shares s h))
  child-names take s shares (Spends condition) takes h = (told-names s h, tt)

  children-names : (take : ℕ → State → State) (s : State) (k j : ℕ) (os : List Offspring) → Takes take → Stands s → Each (ChildNames c.program c.mods (recovery_in c.program target shots)) (children_of take s k j os)
  children-names take s k j [] takes h = tt
  children-names take s k j (o ∷ os) takes h = (child-names take s (share_of s.shares k j) o takes h, children-names take s k (j + 1) os takes h)

  forks-names : (take : ℕ → State → State) (s : State) (os : List Offspring) → Takes take → Stands s → Gives (forks take s os)
  forks-names take s os takes h =
      elim (nat_lt s.shares (length os)) as (λ b. Gives (elim b [ true ↦ opens Shares s | false ↦ Forks (children_of take s (length os) 0 os) ]))
      [ true ↦ (told-names s h, tt) | false ↦ children-names take s (length os) 0 os takes h ]

  tested-if : (b : Bool) (t : State) → Stands t → TestedGives (cond b (Good t) (Bad t))
  tested-if true t h = h
  tested-if false t h = h

  tested-names : (s : State) (o : Offer) → Stands s → OfferGives o → TestedGives (tested s o)
  tested-names s (Alone side t) h k = tested-if (side == 0) t k
  tested-names s (Several os) h k = forks-names stays s os (λ side t g. g) h

  test-names : (t : Tree) (s : State) → Stands s → TestedGives (test c t s)
  test-names t s h = tested-names s (offer c (t ∷ negation t ∷ []) s) h (offer-names (t ∷ negation t ∷ []) s h)

  taken-names : (take : ℕ → State → State) (s : State) (o : Offer) → Takes take → Stands s → OfferGives o → Gives (taken take s o)
  taken-names take s (Alone side t) takes h k = out (take side t) (takes side t k)
  taken-names take s (Several os) takes h k = forks-names take s os takes h

  choose_way-names : (sides : List Tree) (s : State) (take : ℕ → State → State) → Takes take → Stands s → Gives (choose_way c sides s take)
  choose_way-names sides s take takes h = taken-names take s (offer c sides s) takes h (offer-names sides s h)

  passed-names : (kind : FaultKind) (t : Tested) → TestedGives t → FlowGives Stands (passed kind t)
  passed-names kind (Good s) h = h
  passed-names kind (Bad s) h = fails-names kind s h
  passed-names kind (Answered step) h = h

  must-names : (t : Tree) (kind : FaultKind) (s : State) → Stands s → FlowGives Stands (must c t kind s)
  must-names t kind s h = passed-names kind (test c t s) (test-names t s h)

  -- ---- memory

  abbrev ReachedStands : Reached → Type 0
  ReachedStands r = Stands r.state

  access_alive-names : (living : Living) (count : ℕ) (x : ObjectName) (offset : Tree) (s : State) → Stands s → FlowGives ReachedStands (access_alive c living count x offset s)
  access_alive-names Dead count x offset s h = fails-names fault.UseAfterFree s h
  access_alive-names (Alive size) count x offset s h =
      then_flow-names Stands ReachedStands (must c (is_within size count offset) fault.OutOfBounds s) (reached x offset) (must-names (is_within size count offset) fault.OutOfBounds s h) (λ u g. g)

  access_base-names : (count : ℕ) (base : Base) (offset : Tree) (s : State) → Stands s → FlowGives ReachedStands (access_base c count base offset s)
  access_base-names count Null offset s h = fails-names fault.NullAccess s h
  access_base-names count (Object x) offset s h =
      then_flow-names Stands ReachedStands (knows (answers.Life x) s) (λ u. access_alive c (life u.memory.globals x u.memory.log) count x offset u)
      (knows-names (answers.Life x) s h) (λ u g. access_alive-names (life u.memory.globals x u.memory.log) count x offset u g)

  access-names : (count : ℕ) (p : Pointer) (s : State) → Stands s → FlowGives ReachedStands (access c count p s)
  access-names count p s h = access_base-names count p.base p.offset s h

  abbrev ReadStands : ReadBytes → Type 0
  ReadStands r = Each (ByteNames Own) r.bytes × Stands r.state

  either_way-names : {A : Type 0} (P : A → Type 0) (t : Tested) (next : State → Flow A) → TestedGives t → ((u : State) → Stands u → FlowGives P (next u)) → FlowGives P (either_way t next)
  either_way-names P (Good s) next h k = k s h
  either_way-names P (Bad s) next h k = k s h
  either_way-names P (Answered step) next h k = h

  read_on-names : (x : ObjectName) (at : Tree) (tests : ℕ) (s : State) → Stands s → FlowGives ReadStands (read_on c x at tests s)
  read_on-names x at zero s h = (told-names s h, tt)
  read_on-names x at (suc tests) s h =
      elim (read_byte s.memory.globals s.condition x at s.memory.log)
      as (λ r. ReadNames Own r → FlowGives ReadStands (elim r [ Byte b ↦ On (record { bytes = b ∷ []; state = s }) | Undecided t ↦ either_way (test c t s) (λ u. read_on c x at tests u) ])) [
        | Byte b ↦ (λ names. ((names, tt), h))
        | Undecided t ↦ (λ names. either_way-names ReadStands (test c t s) (λ u. read_on c x at tests u) (test-names t s h) (λ u g. read_on-names x at tests u g))
      ]
      (read-names (kinds_of c.program shots) (bound_of target shots) s.memory.globals s.condition x at s.memory.log h.0.log)

  read_all-names : (x : ObjectName) (offset : Tree) (count j : ℕ) (s : State) → Stands s → FlowGives ReadStands (read_all c x offset count j s)
  read_all-names x offset zero j s h = (tt, h)
  read_all-names x offset (suc count) j s h =
      then_flow-names ReadStands ReadStands (read_one c x (behind offset j) s) (λ r. then_flow (read_all c x offset count (j + 1) r.state) (before r.bytes))
      (read_on-names x (behind offset j) (2 ^ 64 - 1) s h)
      (λ r g. then_flow-names ReadStands ReadStands (read_all c x offset count (j + 1) r.state) (before r.bytes) (read_all-names x offset count (j + 1) r.state g.1)
      (λ more f. (each-append (ByteNames Own) r.bytes more.bytes g.0 f.0, f.1)))

  reads-names : (count : ℕ) (r : Reached) → ReachedStands r → FlowGives ReadStands (reads c count r)
  reads-names count r h =
      then_flow-names Stands ReadStands (knows (answers.Bytes r.object r.offset count) r.state) (read_all c r.object r.offset count 0)
      (knows-names (answers.Bytes r.object r.offset count) r.state h) (λ u g. read_all-names r.object r.offset count 0 u g)

  abbrev ValuedStands : Valued → Type 0
  ValuedStands v = ValueNames Own v.value × Stands v.state

  joins-names : (j : Join) (s : State) → JoinNames Waiting j → Stands s → FlowGives ValuedStands (joins c j s)
  joins-names (answers.Value v) s k h = (value-more Waiting Own (λ d t waits. waits.0) v k, h)
  joins-names (answers.Needs needed) s k h =
      then_flow-names Stands ValuedStands (unless_needed location.Result needed s) (valued null) (unless_needed-names location.Result needed s (needs-results s needed h k) h) (λ u g. (tt, g))
  joins-names (answers.Test t v) s k h =
      then_flow-names Stands ValuedStands (must c t fault.MixedBytes s) (valued v) (must-names t fault.MixedBytes s h) (λ u g. (value-more Waiting Own (λ d t waits. waits.0) v k, g))
  joins-names answers.Mixed s k h = fails-names fault.MixedBytes s h

  joined-wait : (s : State) (t : RegType) (bytes : List SymByte) → Each (ByteNames Own) bytes → Stands s → JoinNames Waiting (joined_as t (map (byte_resolved s.snapshots) bytes))
  joined-wait s t bytes g h =
      subst (λ ss. JoinNames Waiting (joined_as t (map (byte_resolved ss) bytes))) (sym h.1.0)
      (joined-names Waiting t (map (byte_resolved shots) bytes) (bytes_resolved-wait c.mods (kinds_of c.program shots) (bound_of target shots) shots bytes h.0.calls.numbered h.0.snapshots g))

  loads-names : (result : RegId) (t : RegType) (r : Reached) → ReachedStands r → Gives (loads c result t r)
  loads-names result t r h =
      then_step-names ValuedStands (then_flow (reads c (bytes_of_type t) r) (join_read c t)) (loaded c result)
      (then_flow-names ReadStands ValuedStands (reads c (bytes_of_type t) r) (join_read c t) (reads-names (bytes_of_type t) r h)
      (λ b g. joins-names (joined_as t (map (byte_resolved b.state.snapshots) b.bytes)) b.state (joined-wait b.state t b.bytes g.0 g.1) g.1))
      (λ v g. let event = events.Load v.state.frame.func (here v.state) v.value in gives-names (Some result) (Some v.value) (shown event v.state) g.0 (told-more event v.state g.0 g.1))

  writes-names : (bytes : List SymByte) (r : Reached) → Each (ByteNames Own) bytes → ReachedStands r → Gives (writes c bytes r)
  writes-names bytes r k h = goes_on-names (appended (entry.Write r.object r.offset bytes) r.state) (added (entry.Write r.object r.offset bytes) r.state k h)

  copies-names : (there : Pointer) (r : ReadBytes) → ReadStands r → Gives (copies c there r)
  copies-names there r h = then_step-names ReachedStands (access c 1 there r.state) (writes c r.bytes) (access-names 1 there r.state h.1) (λ u g. writes-names r.bytes u h.0 g)

  makes-names : (result : Option RegId) (size : Tree) (s : State) → Stands s → Gives (makes c result size s)
  makes-names result size s h =
      gives-names result (Some (pointer_to (made_now s.frame) 0)) (appended (entry.Alloc (made_now s.frame) size) s) tt (added (entry.Alloc (made_now s.frame) size) s tt h)

  frees_object-names : (x : ObjectName) (s : State) → Stands s → Gives (frees_object c x s)
  frees_object-names x s h = goes_on-names (appended (entry.Free x) s) (added (entry.Free x) s tt h)

  frees_made-names : (made : Bool) (x : ObjectName) (offset : Tree) (s : State) → Stands s → Gives (frees_made c made x offset s)
  frees_made-names true x offset s h =
      then_step-names Stands (must c (is_start offset) fault.BadFree s) (frees_object c x) (must-names (is_start offset) fault.BadFree s h) (λ u g. frees_object-names x u g)
  frees_made-names false x offset s h = fails-names fault.BadFree s h

  frees_alive-names : (living : Living) (x : ObjectName) (offset : Tree) (s : State) → Stands s → Gives (frees_alive c living x offset s)
  frees_alive-names Dead x offset s h = fails-names fault.UseAfterFree s h
  frees_alive-names (Alive size) x offset s h = frees_made-names (made_by_malloc c.program x) x offset s h

  frees_base-names : (base : Base) (offset : Tree) (s : State) → Stands s → Gives (frees_base c base offset s)
  frees_base-names Null offset s h = then_step-names Stands (must c (is_start offset) fault.BadFree s) (goes_on c) (must-names (is_start offset) fault.BadFree s h) (λ u g. goes_on-names u g)
  frees_base-names (Object x) offset s h =
      then_step-names Stands (knows (answers.Life x) s) (λ u. frees_alive c (life u.memory.globals x u.memory.log) x offset u)
      (knows-names (answers.Life x) s h) (λ u g. frees_alive-names (life u.memory.globals x u.memory.log) x offset u g)

  -- ---- numbers

  divides-names : (o : BinOp) (a b : Tree) (s : State) → Stands s → FlowGives Stands (divides c o a b s)
  divides-names op.Udiv a b s h = must-names (is_nonzero b) fault.DivideByZero s h
  divides-names op.Urem a b s h = must-names (is_nonzero b) fault.DivideByZero s h
  divides-names op.Sdiv a b s h =
      then_flow-names Stands Stands (divides_by c b s) (must c (has_quotient a b) fault.DivideOverflow) (must-names (is_nonzero b) fault.DivideByZero s h) (λ u g. must-names (has_quotient a b) fault.DivideOverflow u g)
  divides-names op.Srem a b s h =
      then_flow-names Stands Stands (divides_by c b s) (must c (has_quotient a b) fault.DivideOverflow) (must-names (is_nonzero b) fault.DivideByZero s h) (λ u g. must-names (has_quotient a b) fault.DivideOverflow u g)
  divides-names _ a b s h = h

  gives_term-names : (result : RegId) (t : Tree) (s : State) → Stands s → Gives (gives_term c result t s)
  gives_term-names result t s h = gives-names (Some result) (Some (Int t)) s tt h

  picks-names : (result : RegId) (a b : SymValue) (t : Tested) → ValueNames Own a → ValueNames Own b → TestedGives t → Gives (picks c result a b t)
  picks-names result a b (Good s) g k h = gives-names (Some result) (Some a) s g h
  picks-names result a b (Bad s) g k h = gives-names (Some result) (Some b) s k h
  picks-names result a b (Answered step) g k h = h

  selects-names : (result : RegId) (condition : Tree) (a b : SymValue) (s : State) → ValueNames Own a → ValueNames Own b → Stands s → Gives (selects c result condition a b s)
  selects-names result condition (Int a) b s g k h = gives_term-names result (chosen condition a (term_in b)) s h
  selects-names result condition (Ptr p) b s g k h = picks-names result (Ptr p) b (test c (truth_of condition) s) g k (test-names (truth_of condition) s h)
  selects-names result condition (Pending call t) b s g k h = picks-names result (Pending call t) b (test c (truth_of condition) s) g k (test-names (truth_of condition) s h)

  mallocs-names : (result : Option RegId) (size : Tree) (t : Tested) → TestedGives t → Gives (mallocs c result size t)
  mallocs-names result size (Good s) h = makes-names result size s h
  mallocs-names result size (Bad s) h = gives-names result (Some null) s tt h
  mallocs-names result size (Answered step) h = h

  -- ---- calls and ends

  enters-names : (f : FuncId) (args : List SymValue) (s : State) → Each (ValueNames Own) args → Stands s → Gives (enters c f args s)
  enters-names f args s k h =
      let rest = drop (length args) (regs_of (func_at c.program f)) in
      out (record s { frame = entered c.program c.residual f args (name_below s.frame); callers = counted s.frame ∷ s.callers }) (
        record {
          calls = h.0.calls;
          frame = args-name Own args (map (λ r. None) rest) k (unset-name Own rest);
          callers = (h.0.frame, h.0.callers);
          log = h.0.log;
          snapshots = h.0.snapshots;
          path = h.0.path;
        },
        h.1,
      )

  skips-names : (f : FuncId) (args : List SymValue) (result : Option RegId) (s : State) → None ≡ target → Each (ValueNames Own) args → Stands s → Gives (skips c f args result s)
  skips-names f args result s none k h =
      let outside : s.target ≡ None = h.1.1 ∙ sym none in
      let own = subst (λ o. Each (ValueNames (Earlier (kinds_of c.program shots) (bound_of o shots))) args) (sym none) k in
      let before = subst (λ ss. Each (ValueNames (Earlier (kinds_of c.program ss) (length ss + 1))) args) (sym h.1.0) own in
      let named = subst (λ o. AreNamed c.program c.mods s.frame s.callers s.memory.log s.snapshots s.path o) outside (out s h).0 in
      let more = s.snapshots ++ snapshot_of f args s ∷ [] in (
        subst (λ o. AreNamed c.program c.mods (moved c 0 (set_if result (option_map (Pending (next_call s)) (result_type (func_at c.program f))) (counted s.frame))) s.callers (Marked (next_call s) (mods_of c f) [] ∷ s.memory.log) more s.path o)
            (sym outside) (skipped-names c f args s result named before),
        ap (λ o. recovery_in c.program o more) outside ∙ ap (λ o. recovery_in c.program o shots) none,
      )

  call-names : (f : FuncId) (args : List SymValue) (result : Option RegId) (s : State) (o : Option Target) (b : Bool) → o ≡ target → is_skipped c f o ≡ b → Each (ValueNames Own) args → Stands s
      → Gives (elim b [ true ↦ skips c f args result s | false ↦ enters c f args s ])
  call-names f args result s None true is skipped k h = skips-names f args result s is k h
  call-names f args result s (Some at) true is skipped k h = cc
  call-names f args result s o false is skipped k h = enters-names f args s k h

  calls-names : (f : FuncId) (args : List SymValue) (result : Option RegId) (s : State) → Each (ValueNames Own) args → Stands s → Gives (calls c f args result s)
  calls-names f args result s k h = call-names f args result s s.target (is_skipped c f s.target) h.1.1 refl k h

  took-names : Takes (took c)
  took-names side s h =
      let event = events.Branch s.frame.func (here s) side in
      framed (moved c side (counted s.frame)) (shown event s) h.0.frame (told-more event s tt h)

  ended-names : (s : State) → Stands s → Stands (ended c s)
  ended-names s h =
      let frees = frees_from s.frame 0 (nodes_of (func_at c.program s.frame.func)) in
      let named = onto-names Own frees [] (frees_from-names Own s.frame 0 (nodes_of (func_at c.program s.frame.func))) tt in (
        record {
          calls = logs-kept c.mods (reverse frees) s.memory.log shots h.0.calls;
          frame = h.0.frame;
          callers = h.0.callers;
          log = done-names (kinds_of c.program shots) (bound_of target shots) (reverse frees) s.memory.log named h.0.log;
          snapshots = h.0.snapshots;
          path = h.0.path;
        },
        h.1,
      )

  completes-names : (v : Option SymValue) (s : State) → Stands s → Gives (completes v s)
  completes-names v s h = then_step-names Stands (knows answers.Output s) (completed v) (knows-names answers.Output s h) (λ u g. (told-names u g, tt))

  given-names : (P : CallId → RegType → Type 0) (at : Location) (v : Option SymValue) → ValueNamesIf P v → ValueNamesIf P (if_result at v)
  given-names P location.Result v h = h
  given-names P _ v h = tt

  recovers-names : (at : Target) (v : Option SymValue) (s : State) → Some at ≡ target → ValueNamesIf Own v → Stands s → Gives (recovers at v s)
  recovers-names at v s is k h =
      let since = take (length s.memory.log - at.length) s.memory.log in
      let log = subst (λ o. LogNames (kinds_of c.program shots) (bound_of o shots) s.memory.log) (sym is) h.0.log in
      let given = subst (λ o. ValueNamesIf (Earlier (kinds_of c.program shots) (bound_of o shots)) v) (sym is) k in (
        told-names s h,
        subst (λ o. DoneNames (recovery_in c.program o shots) (entries_in at.at since) (if_result at.at v)) is (
          in-names (kinds_of c.program shots) at.call.0 at.at since (take-names (kinds_of c.program shots) at.call.0 (length s.memory.log - at.length) s.memory.log log),
          given-names (Earlier (kinds_of c.program shots) at.call.0) at.at v given,
        ),
      )

  ends_first-names : (at : Option Target) (v : Option SymValue) (s : State) → at ≡ target → ValueNamesIf Own v → Stands s → Gives (ends_first at v s)
  ends_first-names None v s is k h = completes-names v s h
  ends_first-names (Some at) v s is k h = recovers-names at v s is k h

  leaves_to-names : (v : Option SymValue) (callers : List Frame) (s : State) → ValueNamesIf Own v → Each (FrameNames Own) callers → Stands s → Gives (leaves_to c v callers s)
  leaves_to-names v [] s k f h = ends_first-names s.target v s h.1.1 k h
  leaves_to-names v (caller ∷ callers) s k f h =
      out (record s { frame = resumed c v caller; callers = callers }) (
        record {
          calls = h.0.calls;
          frame = set_if-names Own (call_result (code_of c.program caller)) v caller k f.0;
          callers = f.1;
          log = h.0.log;
          snapshots = h.0.snapshots;
          path = h.0.path;
        },
        h.1,
      )

  ends_frame-names : (v : Option SymValue) (s : State) → ValueNamesIf Own v → Stands s → Gives (ends_frame c v s)
  ends_frame-names v s k h = leaves_to-names v s.callers (ended c s) k h.0.callers (ended-names s h)

  returns-names : (value : Option Operand) (s : State) → Stands s → Gives (returns c value s)
  returns-names value s h =
      elim (is_main_end s.target s.callers) as (λ b. Gives (elim b [
        | true ↦ then_step (firm (option_to_list value) s) (λ u. completes (option_map (value_in u) value) u)
        | false ↦ ends_frame c (option_map (value_in s) value) (in_frame (counted s.frame) s)
      ])) [
        | true ↦ after-firm (option_to_list value) s (λ u. completes (option_map (value_in u) value) u) h (λ u g. completes-names (option_map (value_in u) value) u g)
        | false ↦ ends_frame-names (option_map (value_in s) value) (in_frame (counted s.frame) s) (value_in-names-if s value h) (framed (counted s.frame) s h.0.frame h)
      ]

  exits-names : (at : Option Target) (v : SymValue) (s : State) → Stands s → Gives (exits at v s)
  exits-names None v s h = completes-names (Some v) s h
  exits-names (Some at) v s h = fails-names fault.NoReturn s h

  -- ---- bytes that wait

  join-needs : (j : Join) (s : State) → Stands s → JoinNames Waiting j → JoinNeeds c.mods s j
  join-needs (answers.Value v) s h k = tt
  join-needs (answers.Needs needed) s h k = needs-results s needed h k
  join-needs (answers.Test t v) s h k = tt
  join-needs answers.Mixed s h k = tt

  -- ---- nodes

  set_all-names : (old : State) (sets : List MoveSet) (f : Frame) → Stands old → FrameNames Own f → FrameNames Own (set_all old sets f)
  set_all-names old [] f h k = k
  set_all-names old (m ∷ sets) f h k = set_all-names old sets (set m.register (value_in old m.value) f) h (regs-set-name Own f.regs m.register.0 (value_in old m.value) k (value_in-names old m.value h))

  executes-names : (x : Node) (s : State) → Stands s → Gives (executes c x s)
  executes-names (node.Bin o a b result next) s h = after-firm (a ∷ b ∷ []) s (computes c o a b result) h (λ u g.
      then_step-names Stands (divides c o (number_in u a) (number_in u b) u) (gives_term c result (calculated o (number_in u a) (number_in u b)))
      (divides-names o (number_in u a) (number_in u b) u g) (λ w f. gives_term-names result (calculated o (number_in u a) (number_in u b)) w f))
  executes-names (node.Cmp p a b result next) s h = after-firm (a ∷ b ∷ []) s (compares c p a b result) h (λ u g. gives_term-names result (compared_values p (value_in u a) (value_in u b)) u g)
  executes-names (node.Cast o a result next) s h = after-firm (a ∷ []) s (casts c o a result) h (λ u g. gives_term-names result (cast_to o (width_of (type_at c.program u.frame.func result)) (number_in u a)) u g)
  executes-names (node.Gep base parts result next) s h = after-firm (base ∷ flat_map operands_of_part parts) s (places c base parts result) h (λ u g.
      gives-names (Some result) (Some (Ptr (record { base = (address_in u base).base; offset = moved_by_all u (address_in u base).offset parts }))) u tt g)
  executes-names (node.Select condition a b result next) s h = after-firm (condition ∷ a ∷ b ∷ []) s (chooses c condition a b result) h (λ u g.
      selects-names result (number_in u condition) (value_in u a) (value_in u b) u (value_in-names u a g) (value_in-names u b g) g)
  executes-names (node.Alloca size result next) s h = makes-names (Some result) (wide size) s h
  executes-names (node.Malloc size result next) s h = after-firm (size ∷ []) s (asks_memory c size result) h (λ u g.
      mallocs-names result (size_in (number_in u size)) (test c (is_small (size_in (number_in u size))) u) (test-names (is_small (size_in (number_in u size))) u g))
  executes-names (node.Free pointer next) s h = after-firm (pointer ∷ []) s (λ u. frees c (address_in u pointer) u) h (λ u g. frees_base-names (address_in u pointer).base (address_in u pointer).offset u g)
  executes-names (node.Load pointer result next) s h = after-firm (pointer ∷ []) s (λ u. loads_at c pointer result (type_at c.program u.frame.func result) u) h (λ u g.
      let t = type_at c.program u.frame.func result in
      then_step-names ReachedStands (access c (bytes_of_type t) (address_in u pointer) u) (loads c result t) (access-names (bytes_of_type t) (address_in u pointer) u g) (λ r f. loads-names result t r f))
  executes-names (node.Store value pointer next) s h = after-firm (pointer ∷ []) s (stores_at c value pointer) h (λ u g.
      then_step-names ReachedStands (access c (bytes_of_value (value_in u value)) (address_in u pointer) u) (writes c (stored_bytes (value_in u value)))
      (access-names (bytes_of_value (value_in u value)) (address_in u pointer) u g) (λ r f. writes-names (stored_bytes (value_in u value)) r (stored-names Own (value_in u value) (value_in-names u value g)) f))
  executes-names (node.Copy from there next) s h = after-firm (from ∷ there ∷ []) s (copies_from c from there) h (λ u g.
      then_step-names ReadStands (then_flow (access c 1 (address_in u from) u) (reads c 1)) (copies c (address_in u there))
      (then_flow-names ReachedStands ReadStands (access c 1 (address_in u from) u) (reads c 1) (access-names 1 (address_in u from) u g) (λ r f. reads-names 1 r f))
      (λ r f. copies-names (address_in u there) r f))
  executes-names (node.In result next) s h = then_step-names Stands (knows answers.Input s) (takes_input c result) (knows-names answers.Input s h) (λ u g.
      gives_term-names result (input_at (length u.kept) (position u.memory.log)) (appended entry.Get u) (added entry.Get u tt g))
  executes-names (node.Put value next) s h = after-firm (value ∷ []) s (puts c value) h (λ u g.
      goes_on-names (appended (entry.Put (low_byte (number_in u value))) u) (added (entry.Put (low_byte (number_in u value))) u tt g))
  executes-names (node.Call callee args result next) s h = calls-names callee (map (value_in s) args) result s (values-name s args h) h
  executes-names (node.Moves sets next) s h = goes_on-names (in_frame (set_all s sets s.frame) s) (framed (set_all s sets s.frame) s (set_all-names s sets s.frame h h.0.frame) h)
  executes-names (node.Jump next) s h = goes_on-names s h
  executes-names (node.Branch condition first second) s h = after-firm (condition ∷ []) s (branches c condition) h (λ u g. choose_way-names (branch_sides (number_in u condition)) u (took c) took-names g)
  executes-names (node.Switch value cases otherwise) s h = after-firm (value ∷ []) s (switches c value cases) h (λ u g. choose_way-names (switch_sides (number_in u value) cases) u (took c) took-names g)
  executes-names (node.Ret value) s h = returns-names value s h
  executes-names (node.Exit status) s h = after-firm (status ∷ []) s (λ u. exits u.target (value_in u status) u) h (λ u g. exits-names u.target (value_in u status) u g)
  executes-names node.Abort s h = fails-names fault.Abort s h
  executes-names (node.Assert args) s h = after-firm args s (fails fault.Assert) h (λ u g. fails-names fault.Assert u g)
  executes-names node.Unreachable s h = fails-names fault.Unreachable s h

  with_left-names : (left : ℕ) (s : State) → Stands s → Stands (with_left left s)
  with_left-names left s h = h

  attempt_at-names : (place : Place) (s : State) → Stands s → Gives (attempt_at c place s)
  attempt_at-names (At at) s h =
      elim s.left as (λ k. Gives (elim k [ zero ↦ opens Steps s | suc left ↦ executes c (code_of c.program s.frame) (with_left left s) ])) [
        | zero ↦ (told-names s h, tt)
        | suc left ↦ executes-names (code_of c.program s.frame) (with_left left s) (with_left-names left s h)
      ]
  attempt_at-names End s h = ends_frame-names None s tt h
  attempt_at-names (Never at) s h = fails-names fault.NoReturn s h

-- ---- the laws

pub attempts-name : AttemptsName
attempts-name c s h = attempt_at-names c s.snapshots s.target s.frame.place s (h, (refl, refl))

pub attempts-need : AttemptsNeed
attempts-need c s t calls h is = (subst (StepNames c.program c.mods (recovery_in c.program s.target s.snapshots)) is (attempts-name c s h)).1

pub values-need : ValuesNeed
values-need c s operands h =
    let stands : Stands c s.snapshots s.target s = (h, (refl, refl)) in
    needs-results c s.snapshots s.target s (pending_in s operands) stands (pending-wait c s.snapshots s.target s operands stands)

pub bytes-need : BytesNeed
bytes-need c s t bytes h g =
    let stands : Stands c s.snapshots s.target s = (h, (refl, refl)) in
    join-needs c s.snapshots s.target (joined_as t (map (byte_resolved s.snapshots) bytes)) s stands (joined-wait c s.snapshots s.target s t bytes g stands)
