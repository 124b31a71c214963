-- An attempt of a state without skipped calls needs none, where none are skipped.
use Rattle.std.proofs.Common.{◌≡◌, ℕ, zero, suc, Bool, true, false, ◌+◌, ◌-◌, ◌^◌, ◌==◌, List, [], ◌∷◌, ◌++◌, length, map, drop, reverse, Option, Some, None, unwrap_or, refl, sym, ap, subst}
use Rattle.std.specs.Prelude.{cond, slice_get, nat_lt}
use Rattle.std.specs.Option.{option_map, option_to_list}
use Rattle.std.specs.List.{flat_map}
use mathlib.Core.List.{reverse_aux}
use Rattle.bitnum.specs.declared.BinOp.{BinOp}
use Rattle.bitnum.specs.declared.BinOp.TheVariants as op
use Rattle.terms.specs.Tree.{Tree}
use Rattle.term_store.specs.Condition.{negation}
use Rattle.flat_ir.specs.declared.names.FuncId.{FuncId}
use Rattle.flat_ir.specs.declared.names.RegId.{RegId}
use Rattle.flat_ir.specs.declared.names.Location.{Location}
use Rattle.flat_ir.specs.declared.names.Location.TheVariants as location
use Rattle.flat_ir.specs.declared.names.ObjectName.{ObjectName}
use Rattle.flat_ir.specs.declared.nodes.MoveSet.{MoveSet}
use Rattle.flat_ir.specs.declared.nodes.Node.{Node}
use Rattle.flat_ir.specs.declared.nodes.Node.TheVariants as node
use Rattle.flat_ir.specs.declared.nodes.Operand.{Operand}
use Rattle.flat_ir.specs.declared.nodes.RegType.{RegType}
use Rattle.flat_ir.specs.declared.values.FaultKind.{FaultKind}
use Rattle.flat_ir.specs.declared.values.FaultKind.TheVariants as fault
use Rattle.flat_ir.specs.Machine.{nodes_of, regs_of, func_at, type_at}
use Rattle.flat_ir.specs.Registers.{bytes_of_type}
use Rattle.flat_ir.specs.Skipped.{is_named}
use Rattle.flat_ir.specs.Steps.{made_by_malloc, call_result, width_of}
use Rattle.flat_ir.specs.Whole.{operands_of_part}
use Rattle.sym_bytes.specs.declared.names.Base.{Base}
use Rattle.sym_bytes.specs.declared.names.Base.TheVariants.{Null, Object}
use Rattle.sym_bytes.specs.declared.names.CallId.{CallId}
use Rattle.sym_bytes.specs.Answers.{Living, Alive, Dead, Read, Byte, Undecided, Want, Join}
use Rattle.sym_bytes.specs.Answers as answers
use Rattle.sym_bytes.specs.Building.{wide, behind, null, pointer_to}
use Rattle.sym_bytes.specs.Byte.{SymByte}
use Rattle.sym_bytes.specs.Entry as entry
use Rattle.sym_bytes.specs.Entry.{Entry}
use Rattle.sym_bytes.specs.Pointers.{Pointer}
use Rattle.sym_bytes.specs.Value.{SymValue, Int, Ptr, Pending}
use Rattle.log_laws.specs.Logs.{Did, Log, life, position}
use Rattle.log_laws.specs.Needs.{need, location_of}
use Rattle.log_laws.specs.Reading.{read_byte}
use Rattle.leaves.specs.declared.options.Cause.{Cause}
use Rattle.leaves.specs.declared.options.Cause.TheVariants.{Shares, Steps}
use Rattle.leaves.specs.Events as events
use Rattle.leaves.specs.Events.{Event}
use Rattle.sym_states.specs.declared.frames.Place.{Place}
use Rattle.sym_states.specs.declared.frames.Place.TheVariants.{At, End, Never}
use Rattle.sym_states.specs.declared.frames.Target.{Target}
use Rattle.sym_states.specs.Attempts.{knows, firm, faulted, fails_in, fails, passed, must, Reached, reached, access_alive, access_base, access, ReadBytes, either_way, read_on, read_one, before, read_all, reads, Valued, valued, joins, join_read, loaded, loads, writes, copies, makes, frees_object, frees_made, frees_alive, frees_base, frees, divides_by, divides, gives_term, picks, selects, mallocs, enters, skips, is_skipped, calls, took, frees_of_node, frees_at, frees_from, ended, completed, completes, ends_first, leaves_to, ends_frame, is_main_end, returns, exits, computes, compares, casts, places, chooses, asks_memory, loads_at, stores_at, copies_from, takes_input, puts, branches, switches, executes, with_left, attempt_at}
use Rattle.sym_states.specs.Sides.{Offspring, Lives, Spends, offsprings, held_side, Offer, Alone, Several, alone, offer, share_of, child_of, children_of, forks, stays, Tested, Good, Bad, Answered, tested, test, taken, choose_way}
use Rattle.sym_states.specs.States.{Frame, State, Context, Step, Forks, Flow, On, Over, then_flow, then_step, results_of, told, opens, in_frame, appended, shown, here, code_of, made_now, counted, set, set_if, moved, gives, goes_on, unless_needed}
use Rattle.sym_states.specs.Terms.{byte_resolved, value_in, number_in, address_in, pending_in, term_in, calculated, compared_values, cast_to, chosen, low_byte, truth_of, size_in, moved_by_all, input_at, is_nonzero, has_quotient, is_small, is_within, is_start, branch_sides, switch_sides, bytes_of_value, stored_bytes, joined_as, set_all}
use Rattle.state_laws.specs.Skipless.{IsFirm, IsFirmIf, RegsAreFirm, FramesAreFirm, AreFirmBytes, IsFirmEntry, IsFirmLog, IsFirmEvent, AreFirmEvents, HasNoCalls, ToldHasNoCalls, ChildHasNoCalls, ChildrenHaveNoCalls, StepHasNoCalls, AttemptsNeedNothing}
use Rattle.state_laws.proofs.FirmValues.{value_in-firm, value_in-firm-if, pending-none, ValuesAreFirm, values-firm, regs-set-firm, args-firm, unset-firm, stored-firm, bytes_resolved-firm, JoinIsFirm, joined-firm}
use Rattle.state_laws.proofs.FirmLogs.{AreFirmEntries, need-none, ReadIsFirm, read-firm}

-- ---- what is done to a state

events-append : (es fs : List Event) → AreFirmEvents es → AreFirmEvents fs → AreFirmEvents (es ++ fs)
events-append [] fs h k = k
events-append (e ∷ es) fs h k = (h.0, events-append es fs h.1 k)

set_if-firm : (r : Option RegId) (v : Option SymValue) (f : Frame) → IsFirmIf v → RegsAreFirm f.regs → RegsAreFirm (set_if r v f).regs
set_if-firm None v f h k = k
set_if-firm (Some r) None f h k = k
set_if-firm (Some r) (Some v) f h k = regs-set-firm f.regs r.0 v k h

framed : (f : Frame) (s : State) → RegsAreFirm f.regs → HasNoCalls s → HasNoCalls (in_frame f s)
framed f s h k = record { frame = h; callers = k.callers; log = k.log; snapshots = k.snapshots; path = k.path; target = k.target }

added : (e : Entry) (s : State) → IsFirmEntry e → HasNoCalls s → HasNoCalls (appended e s)
added e s h k = record { frame = k.frame; callers = k.callers; log = (h, k.log); snapshots = k.snapshots; path = k.path; target = k.target }

told-more : (e : Event) (s : State) → IsFirmEvent e → HasNoCalls s → HasNoCalls (shown e s)
told-more e s h k = record { frame = k.frame; callers = k.callers; log = k.log; snapshots = k.snapshots; path = events-append s.path (e ∷ []) k.path (h, tt); target = k.target }

conditioned : (condition : List Tree) (kept : List ℕ) (shares : ℕ) (s : State) → HasNoCalls s → HasNoCalls (record s { condition = condition; kept = kept; shares = shares })
conditioned condition kept shares s k = record { frame = k.frame; callers = k.callers; log = k.log; snapshots = k.snapshots; path = k.path; target = k.target }

gives-free : (c : Context) (r : Option RegId) (v : Option SymValue) (s : State) → IsFirmIf v → HasNoCalls s → StepHasNoCalls (gives c r v s)
gives-free c r v s h k = framed (moved c 0 (set_if r v (counted s.frame))) s (set_if-firm r v (counted s.frame) h k.frame) k

goes_on-free : (c : Context) (s : State) → HasNoCalls s → StepHasNoCalls (goes_on c s)
goes_on-free c s k = gives-free c None None s tt k

-- ---- what is told

told-free : (s : State) → HasNoCalls s → ToldHasNoCalls (told s)
told-free s k = record { path = k.path; results = ap results_of k.snapshots }

opens-free : (cause : Cause) (s : State) → HasNoCalls s → StepHasNoCalls (opens cause s)
opens-free cause s k = told-free s k

-- ---- parts that go on

abbrev FlowHasNoCalls : {A : Type 0} → (A → Type 0) → Flow A → Type 0
FlowHasNoCalls P (On x) = P x
FlowHasNoCalls P (Over step) = StepHasNoCalls step

then_flow-free : {A B : Type 0} (P : A → Type 0) (Q : B → Type 0) (flow : Flow A) (next : A → Flow B) → FlowHasNoCalls P flow → ((x : A) → P x → FlowHasNoCalls Q (next x)) → FlowHasNoCalls Q (then_flow flow next)
then_flow-free P Q (On x) next h k = k x h
then_flow-free P Q (Over step) next h k = h

then_step-free : {A : Type 0} (P : A → Type 0) (flow : Flow A) (next : A → Step) → FlowHasNoCalls P flow → ((x : A) → P x → StepHasNoCalls (next x)) → StepHasNoCalls (then_step flow next)
then_step-free P (On x) next h k = k x h
then_step-free P (Over step) next h k = h

unless_needed-free : (at : Location) (needed : List CallId) (s : State) → needed ≡ [] → HasNoCalls s → FlowHasNoCalls HasNoCalls (unless_needed at needed s)
unless_needed-free at [] s e h = h
unless_needed-free at (c ∷ needed) s e h = absurd (none e)
  where
    none : c ∷ needed ≡ [] → ⊥
    none p = cc

knows-free : (w : Want) (s : State) → HasNoCalls s → FlowHasNoCalls HasNoCalls (knows w s)
knows-free w s h = unless_needed-free (location_of w) (need w s.memory.log) s (need-none w s.memory.log h.log) h

firm-free : (operands : List Operand) (s : State) → HasNoCalls s → FlowHasNoCalls HasNoCalls (firm operands s)
firm-free operands s h = unless_needed-free location.Result (pending_in s operands) s (pending-none s operands h) h

after-firm : (operands : List Operand) (s : State) (next : State → Step) → HasNoCalls s → ((u : State) → HasNoCalls u → StepHasNoCalls (next u)) → StepHasNoCalls (then_step (firm operands s) next)
after-firm operands s next h k = then_step-free HasNoCalls (firm operands s) next (firm-free operands s h) k

-- ---- faults and tests

no-target : (target : Option Target) (s : State) (kind : FaultKind) → target ≡ None → HasNoCalls s → StepHasNoCalls (fails_in target kind s)
no-target None s kind e h = then_step-free HasNoCalls (knows answers.Output s) (faulted kind) (knows-free answers.Output s h) (λ u k. told-free u k)
no-target (Some target) s kind e h = told-free s h

fails-free : (kind : FaultKind) (s : State) → HasNoCalls s → StepHasNoCalls (fails kind s)
fails-free kind s h = no-target s.target s kind h.target h

abbrev TestedHasNoCalls : Tested → Type 0
TestedHasNoCalls (Good s) = HasNoCalls s
TestedHasNoCalls (Bad s) = HasNoCalls s
TestedHasNoCalls (Answered step) = StepHasNoCalls step

abbrev OfferHasNoCalls : Offer → Type 0
OfferHasNoCalls (Alone side s) = HasNoCalls s
OfferHasNoCalls (Several os) = Unit {0}

alone-free : (os : List Offspring) (s : State) → HasNoCalls s → OfferHasNoCalls (alone os s)
alone-free [] s h = tt
alone-free (Lives side condition kept ∷ []) s h = conditioned condition kept s.shares s h
alone-free (Lives side condition kept ∷ o ∷ os) s h = tt
alone-free (Spends condition ∷ os) s h = tt

offer-free : (c : Context) (sides : List Tree) (s : State) → HasNoCalls s → OfferHasNoCalls (offer c sides s)
offer-free c sides s h =
    elim (held_side s.condition 0 sides) as (λ o. OfferHasNoCalls (elim o [ Some side ↦ Alone side s | None ↦ alone (offsprings c s 0 sides) s ]))
    [ Some side ↦ h | None ↦ alone-free (offsprings c s 0 sides) s h ]

abbrev TakesFree : (ℕ → State → State) → Type 0
TakesFree take = (side : ℕ) (t : State) → HasNoCalls t → HasNoCalls (take side t)

child-free : (take : ℕ → State → State) (s : State) (shares : ℕ) (o : Offspring) → TakesFree take → HasNoCalls s → ChildHasNoCalls (child_of take s shares o)
child-free take s shares (Lives side condition kept) takes h = takes side (record s { condition = condition; kept = kept; shares = shares }) (conditioned condition kept shares s h)
child-free take s shares (Spends condition) takes h = record { path = h.path; results = ap results_of h.snapshots }

children-free : (take : ℕ → State → State) (s : State) (k j : ℕ) (os : List Offspring) → TakesFree take → HasNoCalls s → ChildrenHaveNoCalls (children_of take s k j os)
children-free take s k j [] takes h = tt
children-free take s k j (o ∷ os) takes h = (child-free take s (share_of s.shares k j) o takes h, children-free take s k (j + 1) os takes h)

forks-free : (take : ℕ → State → State) (s : State) (os : List Offspring) → TakesFree take → HasNoCalls s → StepHasNoCalls (forks take s os)
forks-free take s os takes h =
    elim (nat_lt s.shares (length os)) as (λ b. StepHasNoCalls (elim b [ true ↦ opens Shares s | false ↦ Forks (children_of take s (length os) 0 os) ]))
    [ true ↦ opens-free Shares s h | false ↦ children-free take s (length os) 0 os takes h ]

tested-if : (b : Bool) (t : State) → HasNoCalls t → TestedHasNoCalls (cond b (Good t) (Bad t))
tested-if true t h = h
tested-if false t h = h

tested-free : (s : State) (o : Offer) → HasNoCalls s → OfferHasNoCalls o → TestedHasNoCalls (tested s o)
tested-free s (Alone side t) h k = tested-if (side == 0) t k
tested-free s (Several os) h k = forks-free stays s os (λ side t g. g) h

test-free : (c : Context) (t : Tree) (s : State) → HasNoCalls s → TestedHasNoCalls (test c t s)
test-free c t s h = tested-free s (offer c (t ∷ negation t ∷ []) s) h (offer-free c (t ∷ negation t ∷ []) s h)

taken-free : (take : ℕ → State → State) (s : State) (o : Offer) → TakesFree take → HasNoCalls s → OfferHasNoCalls o → StepHasNoCalls (taken take s o)
taken-free take s (Alone side t) takes h k = takes side t k
taken-free take s (Several os) takes h k = forks-free take s os takes h

choose_way-free : (c : Context) (sides : List Tree) (s : State) (take : ℕ → State → State) → TakesFree take → HasNoCalls s → StepHasNoCalls (choose_way c sides s take)
choose_way-free c sides s take takes h = taken-free take s (offer c sides s) takes h (offer-free c sides s h)

passed-free : (kind : FaultKind) (t : Tested) → TestedHasNoCalls t → FlowHasNoCalls HasNoCalls (passed kind t)
passed-free kind (Good s) h = h
passed-free kind (Bad s) h = fails-free kind s h
passed-free kind (Answered step) h = h

must-free : (c : Context) (t : Tree) (kind : FaultKind) (s : State) → HasNoCalls s → FlowHasNoCalls HasNoCalls (must c t kind s)
must-free c t kind s h = passed-free kind (test c t s) (test-free c t s h)

-- ---- memory

abbrev ReachedFree : Reached → Type 0
ReachedFree r = HasNoCalls r.state

access_alive-free : (c : Context) (living : Living) (count : ℕ) (x : ObjectName) (offset : Tree) (s : State) → HasNoCalls s → FlowHasNoCalls ReachedFree (access_alive c living count x offset s)
access_alive-free c Dead count x offset s h = fails-free fault.UseAfterFree s h
access_alive-free c (Alive size) count x offset s h =
    then_flow-free HasNoCalls ReachedFree (must c (is_within size count offset) fault.OutOfBounds s) (reached x offset) (must-free c (is_within size count offset) fault.OutOfBounds s h) (λ u g. g)

access_base-free : (c : Context) (count : ℕ) (base : Base) (offset : Tree) (s : State) → HasNoCalls s → FlowHasNoCalls ReachedFree (access_base c count base offset s)
access_base-free c count Null offset s h = fails-free fault.NullAccess s h
access_base-free c count (Object x) offset s h =
    then_flow-free HasNoCalls ReachedFree (knows (answers.Life x) s) (λ u. access_alive c (life u.memory.globals x u.memory.log) count x offset u)
    (knows-free (answers.Life x) s h) (λ u g. access_alive-free c (life u.memory.globals x u.memory.log) count x offset u g)

access-free : (c : Context) (count : ℕ) (p : Pointer) (s : State) → HasNoCalls s → FlowHasNoCalls ReachedFree (access c count p s)
access-free c count p s h = access_base-free c count p.base p.offset s h

record ReadFree (r : ReadBytes) : Type 0 where
  bytes : AreFirmBytes r.bytes
  state : HasNoCalls r.state

either_way-free : {A : Type 0} (P : A → Type 0) (t : Tested) (next : State → Flow A) → TestedHasNoCalls t → ((u : State) → HasNoCalls u → FlowHasNoCalls P (next u)) → FlowHasNoCalls P (either_way t next)
either_way-free P (Good s) next h k = k s h
either_way-free P (Bad s) next h k = k s h
either_way-free P (Answered step) next h k = h

read_on-free : (c : Context) (x : ObjectName) (at : Tree) (tests : ℕ) (s : State) → HasNoCalls s → FlowHasNoCalls ReadFree (read_on c x at tests s)
read_on-free c x at zero s h = opens-free Steps s h
read_on-free c x at (suc tests) s h =
    elim (read_byte s.memory.globals s.condition x at s.memory.log)
    as (λ r. ReadIsFirm r → FlowHasNoCalls ReadFree (elim r [ Byte b ↦ On (record { bytes = b ∷ []; state = s }) | Undecided t ↦ either_way (test c t s) (λ u. read_on c x at tests u) ])) [
      | Byte b ↦ (λ is_firm. record { bytes = (is_firm, tt); state = h })
      | Undecided t ↦ (λ is_firm. either_way-free ReadFree (test c t s) (λ u. read_on c x at tests u) (test-free c t s h) (λ u g. read_on-free c x at tests u g))
    ]
    (read-firm s.memory.globals s.condition x at s.memory.log h.log)

bytes-append : (bs cs : List SymByte) → AreFirmBytes bs → AreFirmBytes cs → AreFirmBytes (bs ++ cs)
bytes-append [] cs h k = k
bytes-append (b ∷ bs) cs h k = (h.0, bytes-append bs cs h.1 k)

read_all-free : (c : Context) (x : ObjectName) (offset : Tree) (count j : ℕ) (s : State) → HasNoCalls s → FlowHasNoCalls ReadFree (read_all c x offset count j s)
read_all-free c x offset zero j s h = record { bytes = tt; state = h }
read_all-free c x offset (suc count) j s h =
    then_flow-free ReadFree ReadFree (read_one c x (behind offset j) s) (λ r. then_flow (read_all c x offset count (j + 1) r.state) (before r.bytes))
    (read_on-free c x (behind offset j) (2 ^ 64 - 1) s h)
    (λ r g. then_flow-free ReadFree ReadFree (read_all c x offset count (j + 1) r.state) (before r.bytes) (read_all-free c x offset count (j + 1) r.state g.state)
    (λ more f. record { bytes = bytes-append r.bytes more.bytes g.bytes f.bytes; state = f.state }))

reads-free : (c : Context) (count : ℕ) (r : Reached) → ReachedFree r → FlowHasNoCalls ReadFree (reads c count r)
reads-free c count r h =
    then_flow-free HasNoCalls ReadFree (knows (answers.Bytes r.object r.offset count) r.state) (read_all c r.object r.offset count 0)
    (knows-free (answers.Bytes r.object r.offset count) r.state h) (λ u g. read_all-free c r.object r.offset count 0 u g)

record ValuedFree (v : Valued) : Type 0 where
  value : IsFirm v.value
  state : HasNoCalls v.state

joins-free : (c : Context) (j : Join) (s : State) → JoinIsFirm j → HasNoCalls s → FlowHasNoCalls ValuedFree (joins c j s)
joins-free c (answers.Value v) s k h = record { value = k; state = h }
joins-free c (answers.Needs needed) s k h = absurd k
joins-free c (answers.Test t v) s k h = then_flow-free HasNoCalls ValuedFree (must c t fault.MixedBytes s) (valued v) (must-free c t fault.MixedBytes s h) (λ u g. record { value = k; state = g })
joins-free c answers.Mixed s k h = fails-free fault.MixedBytes s h

loads-free : (c : Context) (result : RegId) (t : RegType) (r : Reached) → ReachedFree r → StepHasNoCalls (loads c result t r)
loads-free c result t r h =
    then_step-free ValuedFree (then_flow (reads c (bytes_of_type t) r) (join_read c t)) (loaded c result)
    (then_flow-free ReadFree ValuedFree (reads c (bytes_of_type t) r) (join_read c t) (reads-free c (bytes_of_type t) r h)
    (λ b g. joins-free c (joined_as t (map (byte_resolved b.state.snapshots) b.bytes)) b.state (joined-firm t (map (byte_resolved b.state.snapshots) b.bytes) (bytes_resolved-firm b.state.snapshots b.bytes g.bytes)) g.state))
    (λ v g. let event = events.Load v.state.frame.func (here v.state) v.value in gives-free c (Some result) (Some v.value) (shown event v.state) g.value (told-more event v.state g.value g.state))

writes-free : (c : Context) (bytes : List SymByte) (r : Reached) → AreFirmBytes bytes → ReachedFree r → StepHasNoCalls (writes c bytes r)
writes-free c bytes r k h = goes_on-free c (appended (entry.Write r.object r.offset bytes) r.state) (added (entry.Write r.object r.offset bytes) r.state k h)

copies-free : (c : Context) (there : Pointer) (r : ReadBytes) → ReadFree r → StepHasNoCalls (copies c there r)
copies-free c there r h = then_step-free ReachedFree (access c 1 there r.state) (writes c r.bytes) (access-free c 1 there r.state h.state) (λ u g. writes-free c r.bytes u h.bytes g)

makes-free : (c : Context) (result : Option RegId) (size : Tree) (s : State) → HasNoCalls s → StepHasNoCalls (makes c result size s)
makes-free c result size s h =
    gives-free c result (Some (pointer_to (made_now s.frame) 0)) (appended (entry.Alloc (made_now s.frame) size) s) tt (added (entry.Alloc (made_now s.frame) size) s tt h)

frees_object-free : (c : Context) (x : ObjectName) (s : State) → HasNoCalls s → StepHasNoCalls (frees_object c x s)
frees_object-free c x s h = goes_on-free c (appended (entry.Free x) s) (added (entry.Free x) s tt h)

frees_made-free : (c : Context) (made : Bool) (x : ObjectName) (offset : Tree) (s : State) → HasNoCalls s → StepHasNoCalls (frees_made c made x offset s)
frees_made-free c true x offset s h =
    then_step-free HasNoCalls (must c (is_start offset) fault.BadFree s) (frees_object c x) (must-free c (is_start offset) fault.BadFree s h) (λ u g. frees_object-free c x u g)
frees_made-free c false x offset s h = fails-free fault.BadFree s h

frees_alive-free : (c : Context) (living : Living) (x : ObjectName) (offset : Tree) (s : State) → HasNoCalls s → StepHasNoCalls (frees_alive c living x offset s)
frees_alive-free c Dead x offset s h = fails-free fault.UseAfterFree s h
frees_alive-free c (Alive size) x offset s h = frees_made-free c (made_by_malloc c.program x) x offset s h

frees_base-free : (c : Context) (base : Base) (offset : Tree) (s : State) → HasNoCalls s → StepHasNoCalls (frees_base c base offset s)
frees_base-free c Null offset s h = then_step-free HasNoCalls (must c (is_start offset) fault.BadFree s) (goes_on c) (must-free c (is_start offset) fault.BadFree s h) (λ u g. goes_on-free c u g)
frees_base-free c (Object x) offset s h =
    then_step-free HasNoCalls (knows (answers.Life x) s) (λ u. frees_alive c (life u.memory.globals x u.memory.log) x offset u)
    (knows-free (answers.Life x) s h) (λ u g. frees_alive-free c (life u.memory.globals x u.memory.log) x offset u g)

-- ---- numbers

divides-free : (c : Context) (o : BinOp) (a b : Tree) (s : State) → HasNoCalls s → FlowHasNoCalls HasNoCalls (divides c o a b s)
divides-free c op.Udiv a b s h = must-free c (is_nonzero b) fault.DivideByZero s h
divides-free c op.Urem a b s h = must-free c (is_nonzero b) fault.DivideByZero s h
divides-free c op.Sdiv a b s h =
    then_flow-free HasNoCalls HasNoCalls (divides_by c b s) (must c (has_quotient a b) fault.DivideOverflow) (must-free c (is_nonzero b) fault.DivideByZero s h) (λ u g. must-free c (has_quotient a b) fault.DivideOverflow u g)
divides-free c op.Srem a b s h =
    then_flow-free HasNoCalls HasNoCalls (divides_by c b s) (must c (has_quotient a b) fault.DivideOverflow) (must-free c (is_nonzero b) fault.DivideByZero s h) (λ u g. must-free c (has_quotient a b) fault.DivideOverflow u g)
divides-free c _ a b s h = h

gives_term-free : (c : Context) (result : RegId) (t : Tree) (s : State) → HasNoCalls s → StepHasNoCalls (gives_term c result t s)
gives_term-free c result t s h = gives-free c (Some result) (Some (Int t)) s tt h

picks-free : (c : Context) (result : RegId) (a b : SymValue) (t : Tested) → IsFirm a → IsFirm b → TestedHasNoCalls t → StepHasNoCalls (picks c result a b t)
picks-free c result a b (Good s) g k h = gives-free c (Some result) (Some a) s g h
picks-free c result a b (Bad s) g k h = gives-free c (Some result) (Some b) s k h
picks-free c result a b (Answered step) g k h = h

selects-free : (c : Context) (result : RegId) (condition : Tree) (a b : SymValue) (s : State) → IsFirm a → IsFirm b → HasNoCalls s → StepHasNoCalls (selects c result condition a b s)
selects-free c result condition (Int a) b s g k h = gives_term-free c result (chosen condition a (term_in b)) s h
selects-free c result condition (Ptr p) b s g k h = picks-free c result (Ptr p) b (test c (truth_of condition) s) g k (test-free c (truth_of condition) s h)
selects-free c result condition (Pending call t) b s g k h = absurd g

mallocs-free : (c : Context) (result : Option RegId) (size : Tree) (t : Tested) → TestedHasNoCalls t → StepHasNoCalls (mallocs c result size t)
mallocs-free c result size (Good s) h = makes-free c result size s h
mallocs-free c result size (Bad s) h = gives-free c result (Some null) s tt h
mallocs-free c result size (Answered step) h = h

-- ---- calls and ends

enters-free : (c : Context) (f : FuncId) (args : List SymValue) (s : State) → ValuesAreFirm args → HasNoCalls s → StepHasNoCalls (enters c f args s)
enters-free c f args s k h =
    let rest = drop (length args) (regs_of (func_at c.program f)) in
    record { frame = args-firm args (map (λ r. None) rest) k (unset-firm rest); callers = (h.frame, h.callers); log = h.log; snapshots = h.snapshots; path = h.path; target = h.target }

none-skipped : (c : Context) (f : FuncId) (target : Option Target) → c.skips ≡ [] → is_skipped c f target ≡ false
none-skipped c f None e = ap (λ names. is_named names f) e
none-skipped c f (Some target) e = refl

calls-free : (c : Context) (f : FuncId) (args : List SymValue) (result : Option RegId) (s : State) → c.skips ≡ [] → ValuesAreFirm args → HasNoCalls s → StepHasNoCalls (calls c f args result s)
calls-free c f args result s e k h =
    subst (λ b. StepHasNoCalls (elim b [ true ↦ skips c f args result s | false ↦ enters c f args s ])) (sym (none-skipped c f s.target e)) (enters-free c f args s k h)

took-free : (c : Context) → TakesFree (took c)
took-free c side s h =
    let event = events.Branch s.frame.func (here s) side in
    framed (moved c side (counted s.frame)) (shown event s) h.frame (told-more event s tt h)

frees_of_node-firm : (frame : Frame) (at more k : ℕ) → AreFirmEntries (frees_of_node frame at more k)
frees_of_node-firm frame at zero k = tt
frees_of_node-firm frame at (suc more) k = (tt, frees_of_node-firm frame at more (k + 1))

frees_at-firm : (frame : Frame) (at count : ℕ) (x : Node) → AreFirmEntries (frees_at frame at count x)
frees_at-firm frame at count (node.Alloca size result next) = frees_of_node-firm frame at count 1
frees_at-firm frame at count _ = tt

entries-append : (es fs : List Entry) → AreFirmEntries es → AreFirmEntries fs → AreFirmEntries (es ++ fs)
entries-append [] fs h k = k
entries-append (e ∷ es) fs h k = (h.0, entries-append es fs h.1 k)

frees_from-firm : (frame : Frame) (k : ℕ) (xs : List Node) → AreFirmEntries (frees_from frame k xs)
frees_from-firm frame k [] = tt
frees_from-firm frame k (x ∷ xs) = entries-append (frees_at frame k (unwrap_or (slice_get frame.counts k) 0) x) (frees_from frame (k + 1) xs) (frees_at-firm frame k _ x) (frees_from-firm frame (k + 1) xs)

onto-firm : (es fs : List Entry) → AreFirmEntries es → AreFirmEntries fs → AreFirmEntries (reverse_aux es fs)
onto-firm [] fs h k = k
onto-firm (e ∷ es) fs h k = onto-firm es (e ∷ fs) h.1 (h.0, k)

done-firm : (es : List Entry) (log : Log) → AreFirmEntries es → IsFirmLog log → IsFirmLog (map Did es ++ log)
done-firm [] log h k = k
done-firm (e ∷ es) log h k = (h.0, done-firm es log h.1 k)

ended-free : (c : Context) (s : State) → HasNoCalls s → HasNoCalls (ended c s)
ended-free c s h =
    let frees = frees_from s.frame 0 (nodes_of (func_at c.program s.frame.func)) in
    record {
      frame = h.frame;
      callers = h.callers;
      log = done-firm (reverse frees) s.memory.log (onto-firm frees [] (frees_from-firm s.frame 0 (nodes_of (func_at c.program s.frame.func))) tt) h.log;
      snapshots = h.snapshots;
      path = h.path;
      target = h.target;
    }

completes-free : (v : Option SymValue) (s : State) → HasNoCalls s → StepHasNoCalls (completes v s)
completes-free v s h = then_step-free HasNoCalls (knows answers.Output s) (completed v) (knows-free answers.Output s h) (λ u g. told-free u g)

recovers-nothing : (target : Target) → Some target ≡ None → ⊥
recovers-nothing target p = cc

ends_first-free : (target : Option Target) (v : Option SymValue) (s : State) → target ≡ None → HasNoCalls s → StepHasNoCalls (ends_first target v s)
ends_first-free None v s e h = completes-free v s h
ends_first-free (Some target) v s e h = absurd (recovers-nothing target e)

leaves_to-free : (c : Context) (v : Option SymValue) (callers : List Frame) (s : State) → IsFirmIf v → FramesAreFirm callers → HasNoCalls s → StepHasNoCalls (leaves_to c v callers s)
leaves_to-free c v [] s k f h = ends_first-free s.target v s h.target h
leaves_to-free c v (caller ∷ callers) s k f h = record {
  frame = set_if-firm (call_result (code_of c.program caller)) v caller k f.0;
  callers = f.1;
  log = h.log;
  snapshots = h.snapshots;
  path = h.path;
  target = h.target;
}

ends_frame-free : (c : Context) (v : Option SymValue) (s : State) → IsFirmIf v → HasNoCalls s → StepHasNoCalls (ends_frame c v s)
ends_frame-free c v s k h = leaves_to-free c v s.callers (ended c s) k h.callers (ended-free c s h)

returns-free : (c : Context) (value : Option Operand) (s : State) → HasNoCalls s → StepHasNoCalls (returns c value s)
returns-free c value s h =
    elim (is_main_end s.target s.callers) as (λ b. StepHasNoCalls (elim b [
      | true ↦ then_step (firm (option_to_list value) s) (λ u. completes (option_map (value_in u) value) u)
      | false ↦ ends_frame c (option_map (value_in s) value) (in_frame (counted s.frame) s)
    ])) [
      | true ↦ after-firm (option_to_list value) s (λ u. completes (option_map (value_in u) value) u) h (λ u g. completes-free (option_map (value_in u) value) u g)
      | false ↦ ends_frame-free c (option_map (value_in s) value) (in_frame (counted s.frame) s) (value_in-firm-if s value h) (framed (counted s.frame) s h.frame h)
    ]

exits-free : (target : Option Target) (v : SymValue) (s : State) → HasNoCalls s → StepHasNoCalls (exits target v s)
exits-free None v s h = completes-free (Some v) s h
exits-free (Some target) v s h = fails-free fault.NoReturn s h

-- ---- nodes

set_all-firm : (old : State) (sets : List MoveSet) (f : Frame) → HasNoCalls old → RegsAreFirm f.regs → RegsAreFirm (set_all old sets f).regs
set_all-firm old [] f h k = k
set_all-firm old (m ∷ sets) f h k = set_all-firm old sets (set m.register (value_in old m.value) f) h (regs-set-firm f.regs m.register.0 (value_in old m.value) k (value_in-firm old m.value h))

executes-free : (c : Context) (x : Node) (s : State) → c.skips ≡ [] → HasNoCalls s → StepHasNoCalls (executes c x s)
executes-free c (node.Bin o a b result next) s e h = after-firm (a ∷ b ∷ []) s (computes c o a b result) h (λ u g.
    then_step-free HasNoCalls (divides c o (number_in u a) (number_in u b) u) (gives_term c result (calculated o (number_in u a) (number_in u b)))
    (divides-free c o (number_in u a) (number_in u b) u g) (λ v f. gives_term-free c result (calculated o (number_in u a) (number_in u b)) v f))
executes-free c (node.Cmp p a b result next) s e h = after-firm (a ∷ b ∷ []) s (compares c p a b result) h (λ u g. gives_term-free c result (compared_values p (value_in u a) (value_in u b)) u g)
executes-free c (node.Cast o a result next) s e h = after-firm (a ∷ []) s (casts c o a result) h (λ u g. gives_term-free c result (cast_to o (width_of (type_at c.program u.frame.func result)) (number_in u a)) u g)
executes-free c (node.Gep base parts result next) s e h = after-firm (base ∷ flat_map operands_of_part parts) s (places c base parts result) h (λ u g.
    gives-free c (Some result) (Some (Ptr (record { base = (address_in u base).base; offset = moved_by_all u (address_in u base).offset parts }))) u tt g)
executes-free c (node.Select condition a b result next) s e h = after-firm (condition ∷ a ∷ b ∷ []) s (chooses c condition a b result) h (λ u g.
    selects-free c result (number_in u condition) (value_in u a) (value_in u b) u (value_in-firm u a g) (value_in-firm u b g) g)
executes-free c (node.Alloca size result next) s e h = makes-free c (Some result) (wide size) s h
executes-free c (node.Malloc size result next) s e h = after-firm (size ∷ []) s (asks_memory c size result) h (λ u g.
    mallocs-free c result (size_in (number_in u size)) (test c (is_small (size_in (number_in u size))) u) (test-free c (is_small (size_in (number_in u size))) u g))
executes-free c (node.Free pointer next) s e h = after-firm (pointer ∷ []) s (λ u. frees c (address_in u pointer) u) h (λ u g. frees_base-free c (address_in u pointer).base (address_in u pointer).offset u g)
executes-free c (node.Load pointer result next) s e h = after-firm (pointer ∷ []) s (λ u. loads_at c pointer result (type_at c.program u.frame.func result) u) h (λ u g.
    let t = type_at c.program u.frame.func result in
    then_step-free ReachedFree (access c (bytes_of_type t) (address_in u pointer) u) (loads c result t) (access-free c (bytes_of_type t) (address_in u pointer) u g) (λ r f. loads-free c result t r f))
executes-free c (node.Store value pointer next) s e h = after-firm (pointer ∷ []) s (stores_at c value pointer) h (λ u g.
    then_step-free ReachedFree (access c (bytes_of_value (value_in u value)) (address_in u pointer) u) (writes c (stored_bytes (value_in u value)))
    (access-free c (bytes_of_value (value_in u value)) (address_in u pointer) u g) (λ r f. writes-free c (stored_bytes (value_in u value)) r (stored-firm (value_in u value) (value_in-firm u value g)) f))
executes-free c (node.Copy from there next) s e h = after-firm (from ∷ there ∷ []) s (copies_from c from there) h (λ u g.
    then_step-free ReadFree (then_flow (access c 1 (address_in u from) u) (reads c 1)) (copies c (address_in u there))
    (then_flow-free ReachedFree ReadFree (access c 1 (address_in u from) u) (reads c 1) (access-free c 1 (address_in u from) u g) (λ r f. reads-free c 1 r f))
    (λ r f. copies-free c (address_in u there) r f))
executes-free c (node.In result next) s e h = then_step-free HasNoCalls (knows answers.Input s) (takes_input c result) (knows-free answers.Input s h) (λ u g.
    gives_term-free c result (input_at (length u.kept) (position u.memory.log)) (appended entry.Get u) (added entry.Get u tt g))
executes-free c (node.Put value next) s e h = after-firm (value ∷ []) s (puts c value) h (λ u g.
    goes_on-free c (appended (entry.Put (low_byte (number_in u value))) u) (added (entry.Put (low_byte (number_in u value))) u tt g))
executes-free c (node.Call callee args result next) s e h = calls-free c callee (map (value_in s) args) result s e (values-firm s args h) h
executes-free c (node.Moves sets next) s e h = goes_on-free c (in_frame (set_all s sets s.frame) s) (framed (set_all s sets s.frame) s (set_all-firm s sets s.frame h h.frame) h)
executes-free c (node.Jump next) s e h = goes_on-free c s h
executes-free c (node.Branch condition first second) s e h = after-firm (condition ∷ []) s (branches c condition) h (λ u g. choose_way-free c (branch_sides (number_in u condition)) u (took c) (took-free c) g)
executes-free c (node.Switch value cases otherwise) s e h = after-firm (value ∷ []) s (switches c value cases) h (λ u g. choose_way-free c (switch_sides (number_in u value) cases) u (took c) (took-free c) g)
executes-free c (node.Ret value) s e h = returns-free c value s h
executes-free c (node.Exit status) s e h = after-firm (status ∷ []) s (λ u. exits u.target (value_in u status) u) h (λ u g. exits-free u.target (value_in u status) u g)
executes-free c node.Abort s e h = fails-free fault.Abort s h
executes-free c (node.Assert args) s e h = after-firm args s (fails fault.Assert) h (λ u g. fails-free fault.Assert u g)
executes-free c node.Unreachable s e h = fails-free fault.Unreachable s h

-- ---- attempts

attempt_at-free : (c : Context) (place : Place) (s : State) → c.skips ≡ [] → HasNoCalls s → StepHasNoCalls (attempt_at c place s)
attempt_at-free c (At at) s e h =
    elim s.left as (λ k. StepHasNoCalls (elim k [ zero ↦ opens Steps s | suc left ↦ executes c (code_of c.program s.frame) (with_left left s) ])) [
      | zero ↦ opens-free Steps s h
      | suc left ↦ executes-free c (code_of c.program s.frame) (with_left left s) e (record { frame = h.frame; callers = h.callers; log = h.log; snapshots = h.snapshots; path = h.path; target = h.target })
    ]
attempt_at-free c End s e h = ends_frame-free c None s tt h
attempt_at-free c (Never at) s e h = fails-free fault.NoReturn s h

pub attempts-need-nothing : AttemptsNeedNothing
attempts-need-nothing c s e h = attempt_at-free c s.frame.place s e h
