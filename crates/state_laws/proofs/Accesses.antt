-- What is needed first, faults, tests, and accesses of memory fit.
use Rattle.std.proofs.Common.{◌≡◌, ℕ, zero, suc, Bool, true, false, ◌+◌, ◌-◌, ◌^◌, ◌<◌, ◌≤◌, List, [], ◌∷◌, ◌++◌, length, map, Option, Some, None, refl, sym, ap, ◌∙◌, subst, arith, lit≤}
use Rattle.terms.specs.Tree.{Tree}
use Rattle.flat_ir.specs.declared.names.Location.TheVariants as location
use Rattle.flat_ir.specs.declared.names.ObjectName.{ObjectName}
use Rattle.flat_ir.specs.declared.names.RegId.{RegId}
use Rattle.flat_ir.specs.declared.nodes.Operand.{Operand}
use Rattle.flat_ir.specs.declared.nodes.RegType.{RegType}
use Rattle.flat_ir.specs.declared.values.FaultKind.{FaultKind}
use Rattle.flat_ir.specs.declared.values.FaultKind.TheVariants as fault
use Rattle.flat_ir.specs.Registers.{bytes_of_type}
use Rattle.flat_ir.specs.Steps.{made_by_malloc}
use Rattle.sym_bytes.specs.declared.names.Base.{Base}
use Rattle.sym_bytes.specs.declared.names.Base.TheVariants.{Null, Object}
use Rattle.sym_bytes.specs.Answers.{Living, Alive, Dead, Read, Byte, Undecided, Want, Join}
use Rattle.sym_bytes.specs.Answers as answers
use Rattle.sym_bytes.specs.Building.{behind, null, pointer_to}
use Rattle.sym_bytes.specs.Byte.{SymByte}
use Rattle.sym_bytes.specs.Entry as entry
use Rattle.sym_bytes.specs.Pointers.{Pointer}
use Rattle.sym_bytes.specs.Value.{SymValue}
use Rattle.log_laws.specs.Logs.{life, output}
use Rattle.log_laws.specs.Needs.{need, location_of}
use Rattle.log_laws.specs.Reading.{read_byte}
use Rattle.leaves.specs.declared.options.Cause.TheVariants.{Steps}
use Rattle.leaves.specs.Events as events
use Rattle.leaves.specs.Fitting.{IsTermOf, AreTermsOf, BytesFit}
use Rattle.sym_states.specs.declared.frames.Target.{Target}
use Rattle.sym_states.specs.Attempts.{knows, firm, faulted, fails_in, fails, passed, must, Reached, reached, access_alive, access_object, access_base, access, ReadBytes, either_way, read_on, read_one, before, read_all, reads, Valued, valued, joins, join_read, loaded, loads, writes, copies, makes, frees_object, frees_made, frees_alive, frees_base, frees}
use Rattle.sym_states.specs.Fitting.{LivingFits, ReadFits}
use Rattle.sym_states.specs.Sides.{Tested, Good, Bad, Answered, test}
use Rattle.sym_states.specs.States.{State, Context, Flow, On, here, shown, appended, made_now, goes_on, then_flow, unless_needed}
use Rattle.sym_states.specs.Terms.{pending_in, is_within, is_start, byte_resolved, joined_as}
use Rattle.sym_states.proofs.Remembered.{life-fits, output-fits, read-fits}
use Rattle.sym_states.proofs.Widths.{behind-fits}
use Rattle.state_laws.specs.Kept.{IsFitting, IsShortType, StateFitsAt, ValueFitsAt, StepFits, FlowFits, TestedFits, ReachedFits, ReadBytesFits, ValuedFits, JoinFits}
use Rattle.state_laws.proofs.Terms.{is_within-fits, is_start-fits, zero-fits}
use Rattle.state_laws.proofs.Values.{null-fits, StoredFit, bytes_resolved-fit, joined_as-fits}
use Rattle.state_laws.proofs.States.{parts_of, some-fits, appended-at, shown-at, gives-fits, goes_on-fits, told-own, told-fits, opens-fits, then_flow-fits, then_step-fits, unless_needed-fits}
use Rattle.state_laws.proofs.Sides.{test-fits}

-- ---- what is needed first

pub knows-fits : (n : ℕ) (w : Want) (s : State) → StateFitsAt n s → FlowFits n (StateFitsAt n) (knows w s)
knows-fits n w s h = unless_needed-fits n (location_of w) (need w s.memory.log) s h

pub firm-fits : (n : ℕ) (operands : List Operand) (s : State) → StateFitsAt n s → FlowFits n (StateFitsAt n) (firm operands s)
firm-fits n operands s h = unless_needed-fits n location.Result (pending_in s operands) s h

-- ---- faults and tests

pub output-at : (n : ℕ) (s : State) → StateFitsAt n s → AreTermsOf n 8 (output s.memory.log)
output-at n s h = output-fits n s.memory.log (parts_of n s h).log

pub faulted-fits : (n : ℕ) (kind : FaultKind) (s : State) → StateFitsAt n s → StepFits n (faulted kind s)
faulted-fits n kind s h = record {
  fits = (told-own n s h, output-at (length s.kept) s (record { fits = h.fits; size = refl; short = h.short }));
  told = told-fits n s h;
  size = h.size;
  recovered = tt;
}

pub fails_in-fits : (n : ℕ) (target : Option Target) (kind : FaultKind) (s : State) → StateFitsAt n s → StepFits n (fails_in target kind s)
fails_in-fits n None kind s h = then_step-fits n (StateFitsAt n) (knows answers.Output s) (faulted kind) (knows-fits n answers.Output s h) (λ u k. faulted-fits n kind u k)
fails_in-fits n (Some target) kind s h = record { fits = (told-own n s h, tt); told = told-fits n s h; size = h.size; recovered = tt }

pub fails-fits : (n : ℕ) (kind : FaultKind) (s : State) → StateFitsAt n s → StepFits n (fails kind s)
fails-fits n kind s h = fails_in-fits n s.target kind s h

pub passed-fits : (n : ℕ) (kind : FaultKind) (t : Tested) → TestedFits n t → FlowFits n (StateFitsAt n) (passed kind t)
passed-fits n kind (Good s) h = h
passed-fits n kind (Bad s) h = fails-fits n kind s h
passed-fits n kind (Answered step) h = h

pub must-fits : (c : Context) (n : ℕ) (t : Tree) (kind : FaultKind) (s : State) → IsFitting c → IsTermOf n 1 t → StateFitsAt n s → FlowFits n (StateFitsAt n) (must c t kind s)
must-fits c n t kind s fitting k h = passed-fits n kind (test c t s) (test-fits c n t s fitting k h)

-- ---- accesses

pub access_alive-fits : (c : Context) (n : ℕ) (living : Living) (count : ℕ) (x : ObjectName) (offset : Tree) (s : State) → IsFitting c → LivingFits n living → count < 2 ^ 64 → IsTermOf n 64 offset → StateFitsAt n s
    → FlowFits n (ReachedFits n) (access_alive c living count x offset s)
access_alive-fits c n Dead count x offset s fitting alive small k h = fails-fits n fault.UseAfterFree s h
access_alive-fits c n (Alive size) count x offset s fitting alive small k h =
    then_flow-fits n (StateFitsAt n) (ReachedFits n) (must c (is_within size count offset) fault.OutOfBounds s) (reached x offset)
    (must-fits c n (is_within size count offset) fault.OutOfBounds s fitting (is_within-fits n size count offset alive small k) h)
    (λ u g. record { offset = k; state = g })

pub life-at : (n : ℕ) (x : ObjectName) (s : State) → StateFitsAt n s → LivingFits n (life s.memory.globals x s.memory.log)
life-at n x s h = let p = parts_of n s h in life-fits n s.memory.globals x s.memory.log p.globals p.log

pub access_object-fits : (c : Context) (n count : ℕ) (x : ObjectName) (offset : Tree) (s : State) → IsFitting c → count < 2 ^ 64 → IsTermOf n 64 offset → StateFitsAt n s
    → FlowFits n (ReachedFits n) (access_object c count x offset s)
access_object-fits c n count x offset s fitting small k h =
    then_flow-fits n (StateFitsAt n) (ReachedFits n) (knows (answers.Life x) s) (λ u. access_alive c (life u.memory.globals x u.memory.log) count x offset u)
    (knows-fits n (answers.Life x) s h)
    (λ u g. access_alive-fits c n (life u.memory.globals x u.memory.log) count x offset u fitting (life-at n x u g) small k g)

pub access_base-fits : (c : Context) (n count : ℕ) (base : Base) (offset : Tree) (s : State) → IsFitting c → count < 2 ^ 64 → IsTermOf n 64 offset → StateFitsAt n s
    → FlowFits n (ReachedFits n) (access_base c count base offset s)
access_base-fits c n count Null offset s fitting small k h = fails-fits n fault.NullAccess s h
access_base-fits c n count (Object x) offset s fitting small k h = access_object-fits c n count x offset s fitting small k h

pub access-fits : (c : Context) (n count : ℕ) (p : Pointer) (s : State) → IsFitting c → count < 2 ^ 64 → IsTermOf n 64 p.offset → StateFitsAt n s → FlowFits n (ReachedFits n) (access c count p s)
access-fits c n count p s fitting small k h = access_base-fits c n count p.base p.offset s fitting small k h

-- ---- bytes that are read

pub either_way-fits : {A : Type 0} (n : ℕ) (P : A → Type 0) (t : Tested) (next : State → Flow A) → TestedFits n t → ((u : State) → StateFitsAt n u → FlowFits n P (next u)) → FlowFits n P (either_way t next)
either_way-fits n P (Good s) next h k = k s h
either_way-fits n P (Bad s) next h k = k s h
either_way-fits n P (Answered step) next h k = h

pub read_byte-at : (n : ℕ) (x : ObjectName) (at : Tree) (s : State) → IsTermOf n 64 at → StateFitsAt n s → ReadFits n (read_byte s.memory.globals s.condition x at s.memory.log)
read_byte-at n x at s k h = let p = parts_of n s h in read-fits n s.memory.globals s.condition x at s.memory.log p.globals p.log k

pub read_on-fits : (c : Context) (n : ℕ) (x : ObjectName) (at : Tree) (tests : ℕ) (s : State) → IsFitting c → IsTermOf n 64 at → StateFitsAt n s → FlowFits n (ReadBytesFits n 1) (read_on c x at tests s)
read_on-fits c n x at zero s fitting k h = opens-fits n Steps s h
read_on-fits c n x at (suc tests) s fitting k h =
    elim (read_byte s.memory.globals s.condition x at s.memory.log)
    as (λ r. ReadFits n r → FlowFits n (ReadBytesFits n 1) (elim r [ Byte b ↦ On (record { bytes = b ∷ []; state = s }) | Undecided t ↦ either_way (test c t s) (λ u. read_on c x at tests u) ])) [
      | Byte b ↦ (λ fit. record { bytes = (fit, tt); size = refl; state = h })
      | Undecided t ↦ (λ fit. either_way-fits n (ReadBytesFits n 1) (test c t s) (λ u. read_on c x at tests u) (test-fits c n t s fitting fit h) (λ u g. read_on-fits c n x at tests u fitting k g))
    ]
    (read_byte-at n x at s k h)

pub read_one-fits : (c : Context) (n : ℕ) (x : ObjectName) (at : Tree) (s : State) → IsFitting c → IsTermOf n 64 at → StateFitsAt n s → FlowFits n (ReadBytesFits n 1) (read_one c x at s)
read_one-fits c n x at s fitting k h = read_on-fits c n x at (2 ^ 64 - 1) s fitting k h

pub bytes-append : (n : ℕ) (bs cs : List SymByte) → BytesFit n bs → BytesFit n cs → BytesFit n (bs ++ cs)
bytes-append n [] cs h k = k
bytes-append n (b ∷ bs) cs h k = (h.0, bytes-append n bs cs h.1 k)

one-more : (count : ℕ) (bs cs : List SymByte) → length bs ≡ 1 → length cs ≡ count → length (bs ++ cs) ≡ suc count
one-more count [] cs h k = absurd (omega (arith, h))
one-more count (b ∷ []) cs h k = ap suc k
one-more count (b ∷ d ∷ bs) cs h k = absurd (omega (arith, h))

pub before-fits : (n count : ℕ) (first : List SymByte) (more : ReadBytes) → BytesFit n first → length first ≡ 1 → ReadBytesFits n count more → FlowFits n (ReadBytesFits n (suc count)) (before first more)
before-fits n count first more h size k = record { bytes = bytes-append n first more.bytes h k.bytes; size = one-more count first more.bytes size k.size; state = k.state }

pub read_all-fits : (c : Context) (n : ℕ) (x : ObjectName) (offset : Tree) (count j : ℕ) (s : State) → IsFitting c → IsTermOf n 64 offset → j + count ≤ 2 ^ 64 → StateFitsAt n s
    → FlowFits n (ReadBytesFits n count) (read_all c x offset count j s)
read_all-fits c n x offset zero j s fitting k few h = record { bytes = tt; size = refl; state = h }
read_all-fits c n x offset (suc count) j s fitting k few h =
    let below : j < 2 ^ 64 = omega (arith, few) in
    let more : (j + 1) + count ≤ 2 ^ 64 = omega (arith, few) in
    then_flow-fits n (ReadBytesFits n 1) (ReadBytesFits n (suc count)) (read_one c x (behind offset j) s) (λ r. then_flow (read_all c x offset count (j + 1) r.state) (before r.bytes))
    (read_one-fits c n x (behind offset j) s fitting (behind-fits n offset j k below) h)
    (λ r g. then_flow-fits n (ReadBytesFits n count) (ReadBytesFits n (suc count)) (read_all c x offset count (j + 1) r.state) (before r.bytes)
    (read_all-fits c n x offset count (j + 1) r.state fitting k more g.state)
    (λ more_read f. before-fits n count r.bytes more_read g.bytes g.size f))

pub reads-fits : (c : Context) (n count : ℕ) (r : Reached) → IsFitting c → count ≤ 2 ^ 64 → ReachedFits n r → FlowFits n (ReadBytesFits n count) (reads c count r)
reads-fits c n count r fitting few h =
    then_flow-fits n (StateFitsAt n) (ReadBytesFits n count) (knows (answers.Bytes r.object r.offset count) r.state) (read_all c r.object r.offset count 0)
    (knows-fits n (answers.Bytes r.object r.offset count) r.state h.state)
    (λ u g. read_all-fits c n r.object r.offset count 0 u fitting h.offset (omega (arith, few)) g)

-- ---- values that are loaded

pub valued-fits : (n : ℕ) (v : SymValue) (s : State) → ValueFitsAt n v → StateFitsAt n s → FlowFits n (ValuedFits n) (valued v s)
valued-fits n v s k h = record { value = k; state = h }

pub joins-fits : (c : Context) (n : ℕ) (j : Join) (s : State) → IsFitting c → JoinFits n j → StateFitsAt n s → FlowFits n (ValuedFits n) (joins c j s)
joins-fits c n (answers.Value v) s fitting k h = valued-fits n v s k h
joins-fits c n (answers.Needs calls) s fitting k h =
    then_flow-fits n (StateFitsAt n) (ValuedFits n) (unless_needed location.Result calls s) (valued null) (unless_needed-fits n location.Result calls s h) (λ u g. valued-fits n null u (null-fits n) g)
joins-fits c n (answers.Test t v) s fitting k h =
    then_flow-fits n (StateFitsAt n) (ValuedFits n) (must c t fault.MixedBytes s) (valued v) (must-fits c n t fault.MixedBytes s fitting k.0 h) (λ u g. valued-fits n v u k.1 g)
joins-fits c n answers.Mixed s fitting k h = fails-fits n fault.MixedBytes s h

resolved-length : (f : SymByte → SymByte) (bs : List SymByte) → length (map f bs) ≡ length bs
resolved-length f [] = refl
resolved-length f (b ∷ bs) = ap suc (resolved-length f bs)

pub join_read-fits : (c : Context) (n : ℕ) (t : RegType) (r : ReadBytes) → IsFitting c → IsShortType t → ReadBytesFits n (bytes_of_type t) r → FlowFits n (ValuedFits n) (join_read c t r)
join_read-fits c n t r fitting short h =
    let bs = map (byte_resolved r.state.snapshots) r.bytes in
    joins-fits c n (joined_as t bs) r.state fitting
    (joined_as-fits n t bs short (resolved-length (byte_resolved r.state.snapshots) r.bytes ∙ h.size) (bytes_resolved-fit n r.state.snapshots r.bytes (parts_of n r.state h.state).snapshots h.bytes))
    h.state

pub loaded-fits : (c : Context) (n : ℕ) (result : RegId) (v : Valued) → ValuedFits n v → StepFits n (loaded c result v)
loaded-fits c n result v h =
    let event = events.Load v.state.frame.func (here v.state) v.value in
    gives-fits n c (Some result) (Some v.value) (shown event v.state) (some-fits n v.value h.value) (shown-at n event v.state h.value.fits h.state)

eight : (count : ℕ) → count ≤ 8 → count ≤ 2 ^ 64
eight count h = omega (arith, h)

pub loads-fits : (c : Context) (n : ℕ) (result : RegId) (t : RegType) (r : Reached) → IsFitting c → IsShortType t → ReachedFits n r → StepFits n (loads c result t r)
loads-fits c n result t r fitting short h =
    then_step-fits n (ValuedFits n) (then_flow (reads c (bytes_of_type t) r) (join_read c t)) (loaded c result)
    (then_flow-fits n (ReadBytesFits n (bytes_of_type t)) (ValuedFits n) (reads c (bytes_of_type t) r) (join_read c t)
    (reads-fits c n (bytes_of_type t) r fitting (eight (bytes_of_type t) short) h)
    (λ b g. join_read-fits c n t b fitting short g))
    (λ v g. loaded-fits c n result v g)

-- ---- what is written, made and freed

pub writes-fits : (c : Context) (n : ℕ) (bytes : List SymByte) (r : Reached) → StoredFit n bytes → ReachedFits n r → StepFits n (writes c bytes r)
writes-fits c n bytes r k h =
    goes_on-fits n c (appended (entry.Write r.object r.offset bytes) r.state) (appended-at n (entry.Write r.object r.offset bytes) r.state (h.offset, k.few, k.bytes) h.state)

pub copies-fits : (c : Context) (n : ℕ) (there : Pointer) (r : ReadBytes) → IsFitting c → IsTermOf n 64 there.offset → ReadBytesFits n 1 r → StepFits n (copies c there r)
copies-fits c n there r fitting k h =
    then_step-fits n (ReachedFits n) (access c 1 there r.state) (writes c r.bytes)
    (access-fits c n 1 there r.state fitting (lit≤ tt) k h.state)
    (λ u g. writes-fits c n r.bytes u (record { few = subst (λ m. m ≤ 8) (sym h.size) (lit≤ tt); bytes = h.bytes }) g)

pub makes-fits : (c : Context) (n : ℕ) (result : Option RegId) (size : Tree) (s : State) → IsTermOf n 64 size → StateFitsAt n s → StepFits n (makes c result size s)
makes-fits c n result size s k h =
    gives-fits n c result (Some (pointer_to (made_now s.frame) 0)) (appended (entry.Alloc (made_now s.frame) size) s)
    (record { fits = zero-fits n; short = tt }) (appended-at n (entry.Alloc (made_now s.frame) size) s k h)

pub frees_object-fits : (c : Context) (n : ℕ) (x : ObjectName) (s : State) → StateFitsAt n s → StepFits n (frees_object c x s)
frees_object-fits c n x s h = goes_on-fits n c (appended (entry.Free x) s) (appended-at n (entry.Free x) s tt h)

pub frees_made-fits : (c : Context) (n : ℕ) (made : Bool) (x : ObjectName) (offset : Tree) (s : State) → IsFitting c → IsTermOf n 64 offset → StateFitsAt n s → StepFits n (frees_made c made x offset s)
frees_made-fits c n true x offset s fitting k h =
    then_step-fits n (StateFitsAt n) (must c (is_start offset) fault.BadFree s) (frees_object c x)
    (must-fits c n (is_start offset) fault.BadFree s fitting (is_start-fits n offset k) h) (λ u g. frees_object-fits c n x u g)
frees_made-fits c n false x offset s fitting k h = fails-fits n fault.BadFree s h

pub frees_alive-fits : (c : Context) (n : ℕ) (living : Living) (x : ObjectName) (offset : Tree) (s : State) → IsFitting c → IsTermOf n 64 offset → StateFitsAt n s → StepFits n (frees_alive c living x offset s)
frees_alive-fits c n Dead x offset s fitting k h = fails-fits n fault.UseAfterFree s h
frees_alive-fits c n (Alive size) x offset s fitting k h = frees_made-fits c n (made_by_malloc c.program x) x offset s fitting k h

pub frees_base-fits : (c : Context) (n : ℕ) (base : Base) (offset : Tree) (s : State) → IsFitting c → IsTermOf n 64 offset → StateFitsAt n s → StepFits n (frees_base c base offset s)
frees_base-fits c n Null offset s fitting k h =
    then_step-fits n (StateFitsAt n) (must c (is_start offset) fault.BadFree s) (goes_on c)
    (must-fits c n (is_start offset) fault.BadFree s fitting (is_start-fits n offset k) h) (λ u g. goes_on-fits n c u g)
frees_base-fits c n (Object x) offset s fitting k h =
    then_step-fits n (StateFitsAt n) (knows (answers.Life x) s) (λ u. frees_alive c (life u.memory.globals x u.memory.log) x offset u)
    (knows-fits n (answers.Life x) s h)
    (λ u g. frees_alive-fits c n (life u.memory.globals x u.memory.log) x offset u fitting k g)

pub frees-fits : (c : Context) (n : ℕ) (p : Pointer) (s : State) → IsFitting c → IsTermOf n 64 p.offset → StateFitsAt n s → StepFits n (frees c p s)
frees-fits c n p s fitting k h = frees_base-fits c n p.base p.offset s fitting k h
