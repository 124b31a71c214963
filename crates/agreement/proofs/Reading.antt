-- Accesses and reads of memory go along with the run.
use Rattle.std.proofs.Common.{◌≡◌, ℕ, zero, suc, Bool, true, false, not, ◌+◌, ◌-◌, ◌*◌, ◌%◌, ◌^◌, ◌<◌, ◌≤◌, List, [], ◌∷◌, ◌++◌, map, length, Some, None, refl, sym, ◌∙◌, ap, subst, arith, lit≤}
use Rattle.std.specs.Prelude.{cond}
use Rattle.std.proofs.lemmas.List.{map-append}
use Rattle.terms.specs.Tree.{Tree}
use Rattle.terms.specs.Value.{is_met_by}
use Rattle.term_store.specs.Condition.{negation}
use Rattle.checks.specs.Types.{is_scalar}
use Rattle.flat_ir.specs.declared.names.ObjectName.{ObjectName}
use Rattle.flat_ir.specs.declared.names.ObjectName.TheVariants as object
use Rattle.flat_ir.specs.declared.nodes.RegType.{RegType}
use Rattle.flat_ir.specs.declared.nodes.RegType.TheVariants as type
use Rattle.flat_ir.specs.declared.program.GlobalVar.{GlobalVar}
use Rattle.flat_ir.specs.declared.program.ProgramData.{ProgramData}
use Rattle.flat_ir.specs.declared.values.ConcreteByte.{ConcreteByte}
use Rattle.flat_ir.specs.declared.values.FaultKind.{FaultKind}
use Rattle.flat_ir.specs.declared.values.FaultKind.TheVariants as fault
use Rattle.flat_ir.specs.History.{History, is_alive, size_of, byte_at}
use Rattle.flat_ir.specs.Machine as machine
use Rattle.flat_ir.specs.Registers.{first_of, joined, bytes_of_type}
use Rattle.flat_ir.specs.Steps as concrete
use Rattle.flat_ir.specs.Steps.{object_fault, access_fault, byte_there}
use Rattle.sym_bytes.specs.declared.names.Base.{Base}
use Rattle.sym_bytes.specs.declared.names.Base.TheVariants.{Null, Object}
use Rattle.sym_bytes.specs.Answers as answers
use Rattle.sym_bytes.specs.Answers.{Living, Alive, Dead, Read, Byte, Undecided, Join}
use Rattle.sym_bytes.specs.Building.{behind}
use Rattle.sym_bytes.specs.Byte as byte
use Rattle.sym_bytes.specs.Byte.{SymByte}
use Rattle.sym_bytes.specs.Entry as entry
use Rattle.sym_bytes.specs.Fitting.{AreEntries}
use Rattle.sym_bytes.specs.Joining.{join_bytes}
use Rattle.sym_bytes.specs.Pointers.{Pointer}
use Rattle.sym_bytes.specs.Under.{Results, bits_under, byte_under, value_under, address_under}
use Rattle.byte_laws.specs.Types.{AreBytes, AreReturned, HasSize}
use Rattle.byte_laws.proofs.Joins.{value_law, test_law, mixed_law}
use Rattle.log_laws.specs.Law.{IsBorn, IsOnce, LifeIs}
use Rattle.flat_ir.specs.Locations.{cells_of}
use Rattle.log_laws.specs.Logs.{Did, Marked, Log, life, seen_at}
use Rattle.log_laws.specs.Reading.{initial_bytes, read_byte}
use Rattle.log_laws.proofs.Accesses.{read_law}
use Rattle.log_laws.proofs.Births.{life_law}
use Rattle.leaves.specs.declared.options.Cause.TheVariants.{Steps}
use Rattle.leaves.specs.Fitting.{IsTermOf, BytesFit}
use Rattle.sym_states.specs.Attempts.{Reached, reached, access_alive, access_base, access, ReadBytes, either_way, read_on, read_one, before, read_all, reads, Valued, valued, joins, join_read, must}
use Rattle.sym_states.specs.Fitting.{LogFits, GlobalsFit, LivingFits, ReadFits}
use Rattle.sym_states.specs.Sides.{Tested, Good, Bad, Answered, test}
use Rattle.sym_states.specs.States.{State, Flow, On, then_flow}
use Rattle.sym_states.specs.Terms.{is_within, byte_resolved, joined_as}
use Rattle.sym_states.proofs.Widths.{behind-fits}
use Rattle.state_laws.specs.Kept.{IsShortType, JoinFits}
use Rattle.state_laws.specs.Skipless.{AreFirmBytes, IsFirmLog}
use Rattle.state_laws.proofs.Accesses.{life-at, read_byte-at, bytes-append}
use Rattle.state_laws.proofs.FirmLogs.{need-none, ReadIsFirm, read-firm}
use Rattle.state_laws.proofs.FirmValues.{JoinIsFirm, joined-firm}
use Rattle.state_laws.proofs.States.{parts_of}
use Rattle.state_laws.proofs.Terms.{is_within-fits}
use Rattle.state_laws.proofs.Values.{joined_as-fits}
use Rattle.typed_runs.proofs.Suited.{scalar_bytes, takes_bytes}
use Rattle.agreement.proofs.Along.{Scene, IsHere, FlowGoesAlong, IsPast, HasFault, TestGoesAlong, alike, knows-along, opens-along, fails-along, test-along, must-along, flow-weaker, then-flow-along}
use Rattle.agreement.proofs.Bounds.{met-within}
use Rattle.agreement.specs.Premises.{none_gave}

-- ---- states behind tests

-- u is s behind tests that the input meets
pub record IsBehind (e : Scene) (k : ℕ) (m : machine.State) (s u : State) : Type 0 where
  pub here : IsHere e k m u
  pub same : u ≡ record s { condition = u.condition; kept = u.kept }

pub behind-self : (e : Scene) (k : ℕ) (m : machine.State) (s : State) → IsHere e k m s → IsBehind e k m s s
behind-self e k m s h = record { here = h; same = refl }

pub behind-past : (e : Scene) (k : ℕ) (m : machine.State) (s u : State) (t : Tree) → IsPast e k m s t u → IsBehind e k m s u
behind-past e k m s u t h = record { here = h.here; same = h.same }

pub behind-more : (e : Scene) (k : ℕ) (m : machine.State) (s u w : State) → IsBehind e k m s u → IsBehind e k m u w → IsBehind e k m s w
behind-more e k m s u w h more = record { here = more.here; same = more.same ∙ ap {A = State} {B = State} (λ z. record z { condition = w.condition; kept = w.kept }) h.same }

-- ---- accesses

-- an object and an offset, which the run may access
pub record IsReached (e : Scene) (k : ℕ) (m : machine.State) (s : State) (count : ℕ) (p : Pointer) (r : Reached) : Type 0 where
  pub behind : IsBehind e k m s r.state
  pub base : p.base ≡ Object r.object
  pub offset : p.offset ≡ r.offset
  pub none : access_fault e.c.program m.history count (address_under e.input p) ≡ None

-- what is said of an object's life in the state is so in the run
pub life-along : (e : Scene) (k : ℕ) (m : machine.State) (s : State) (x : ObjectName) → IsHere e k m s → IsOnce x m.history → LifeIs e.c.program e.input x m.history (life s.memory.globals x s.memory.log)
life-along e k m s x h once =
    subst (λ globals. LifeIs e.c.program e.input x m.history (life globals x s.memory.log)) (sym h.state.globals)
    (life_law e.c.program e.input [] none_gave x s.memory.log m.history (alike e.input s m h.agrees).log once (need-none (answers.Life x) s.memory.log h.state.no_calls.log))

object_fault-dead : (p : ProgramData) (h : History) (x : ObjectName) (offset count : ℕ) → is_alive x h ≡ false → object_fault p h x offset count ≡ Some fault.UseAfterFree
object_fault-dead p h x offset count dead = ap (λ b. cond (not b) (Some fault.UseAfterFree) (cond (concrete.is_within offset count (size_of p x h)) None (Some fault.OutOfBounds))) dead

object_fault-alive : (p : ProgramData) (h : History) (x : ObjectName) (offset count size : ℕ) (within : Bool) → is_alive x h ≡ true → size ≡ size_of p x h → concrete.is_within offset count size ≡ within
    → object_fault p h x offset count ≡ cond within None (Some fault.OutOfBounds)
object_fault-alive p h x offset count size within alive is e =
    ap (λ b. cond (not b) (Some fault.UseAfterFree) (cond (concrete.is_within offset count (size_of p x h)) None (Some fault.OutOfBounds))) alive
    ∙ ap (λ z. cond (concrete.is_within offset count z) None (Some fault.OutOfBounds)) (sym is)
    ∙ ap (λ b. cond b None (Some fault.OutOfBounds)) e

access_alive-along : (e : Scene) (k : ℕ) (m : machine.State) (s : State) (living : Living) (count : ℕ) (x : ObjectName) (offset : Tree) → IsHere e k m s → LivingFits (length e.input) living
    → count < 2 ^ 64 → IsTermOf (length e.input) 64 offset → LifeIs e.c.program e.input x m.history living
    → ((kind : FaultKind) → object_fault e.c.program m.history x (bits_under e.input offset) count ≡ Some kind → HasFault e m kind)
    → FlowGoesAlong e (IsReached e k m s count (record { base = Object x; offset = offset })) (access_alive e.c living count x offset s)
access_alive-along e k m s Dead count x offset h fits small wide lives faults =
    fails-along e k m s fault.UseAfterFree h (faults fault.UseAfterFree (object_fault-dead e.c.program m.history x (bits_under e.input offset) count lives))
access_alive-along e k m s (Alive size) count x offset h fits small wide lives faults =
    let within = is_within size count offset in
    let is = met-within (length e.input) size count offset e.input fits small wide in
    let told : (b : Bool) → is_met_by e.input within ≡ b → object_fault e.c.program m.history x (bits_under e.input offset) count ≡ cond b None (Some fault.OutOfBounds)
    = λ b met. object_fault-alive e.c.program m.history x (bits_under e.input offset) count (bits_under e.input size) b lives.0 lives.1 (sym is ∙ met) in
    then-flow-along e (IsPast e k m s within) (IsReached e k m s count (record { base = Object x; offset = offset })) (must e.c within fault.OutOfBounds s) (reached x offset)
    (must-along e k m s within fault.OutOfBounds h (is_within-fits (length e.input) size count offset fits small wide) (λ unmet. faults fault.OutOfBounds (told false unmet)))
    (λ u past. record { behind = behind-past e k m s u within past; base = refl; offset = refl; none = told true past.met })

access_base-along : (e : Scene) (k : ℕ) (m : machine.State) (s : State) (count : ℕ) (base : Base) (offset : Tree) → IsHere e k m s → ((x : ObjectName) → IsOnce x m.history)
    → count < 2 ^ 64 → IsTermOf (length e.input) 64 offset
    → ((kind : FaultKind) → access_fault e.c.program m.history count (address_under e.input (record { base = base; offset = offset })) ≡ Some kind → HasFault e m kind)
    → FlowGoesAlong e (IsReached e k m s count (record { base = base; offset = offset })) (access_base e.c count base offset s)
access_base-along e k m s count Null offset h once small wide faults = fails-along e k m s fault.NullAccess h (faults fault.NullAccess refl)
access_base-along e k m s count (Object x) offset h once small wide faults =
    let go : State → Flow Reached = λ u. access_alive e.c (life u.memory.globals x u.memory.log) count x offset u in
    subst (λ flow. FlowGoesAlong e (IsReached e k m s count (record { base = Object x; offset = offset })) (then_flow flow go)) (sym (knows-along e k m s (answers.Life x) h))
    (access_alive-along e k m s (life s.memory.globals x s.memory.log) count x offset h (life-at (length e.input) x s h.state.fits) small wide (life-along e k m s x h (once x)) faults)

-- the tests of an access are those of the run
pub access-along : (e : Scene) (k : ℕ) (m : machine.State) (s : State) (count : ℕ) (p : Pointer) → IsHere e k m s → ((x : ObjectName) → IsOnce x m.history)
    → count < 2 ^ 64 → IsTermOf (length e.input) 64 p.offset
    → ((kind : FaultKind) → access_fault e.c.program m.history count (address_under e.input p) ≡ Some kind → HasFault e m kind)
    → FlowGoesAlong e (IsReached e k m s count p) (access e.c count p s)
access-along e k m s count p h once small wide faults = access_base-along e k m s count p.base p.offset h once small wide faults

-- ---- bytes that are read

-- the bytes that are read stand for the bytes j, j + 1 and so on behind the offset
pub record HasRead (e : Scene) (k : ℕ) (m : machine.State) (s : State) (x : ObjectName) (offset : Tree) (j count : ℕ) (r : ReadBytes) : Type 0 where
  pub behind : IsBehind e k m s r.state
  pub are : map (byte_under e.input []) r.bytes ≡ first_of count j (λ i. byte_at e.c.program m.history x ((bits_under e.input offset + i) % 2 ^ 64))
  pub fits : BytesFit (length e.input) r.bytes
  pub firm : AreFirmBytes r.bytes

entries-are : (n : ℕ) (x : ObjectName) (log : Log) → LogFits n log → IsFirmLog log → AreEntries (seen_at (cells_of x) log)
entries-are n x [] h firm = tt
entries-are n x (Did (entry.Write y offset bytes) ∷ log) h firm = (((h.0.0.term.tree, h.0.0.has_width), h.0.1), entries-are n x log h.1 firm.1)
entries-are n x (Did (entry.Alloc y size) ∷ log) h firm = ((h.0.term.tree, h.0.has_width), entries-are n x log h.1 firm.1)
entries-are n x (Did (entry.Free y) ∷ log) h firm = (tt, entries-are n x log h.1 firm.1)
entries-are n x (Did (entry.Put t) ∷ log) h firm = ((h.0.term.tree, h.0.has_width), entries-are n x log h.1 firm.1)
entries-are n x (Did entry.Get ∷ log) h firm = (tt, entries-are n x log h.1 firm.1)
entries-are n x (Marked c mods fills ∷ log) h firm = absurd firm

few-initial : (globals : List GlobalVar) (x : ObjectName) → GlobalsFit globals → length (initial_bytes globals x) ≤ 2 ^ 64
few-initial globals (object.Made frame made) h = lit≤ tt
few-initial [] (object.Global g) h = lit≤ tt
few-initial (v ∷ globals) (object.Global zero) h = h.0.few
few-initial (v ∷ globals) (object.Global (suc g)) h = few-initial globals (object.Global g) h.1

-- a byte that is read stands for the byte of the run
byte-along : (e : Scene) (k : ℕ) (m : machine.State) (s : State) (x : ObjectName) (offset : Tree) (count j : ℕ) (b : SymByte) → IsHere e k m s → IsTermOf (length e.input) 64 offset → IsBorn x m.history → j < count → count ≤ 8
    → read_byte s.memory.globals s.condition x (behind offset j) s.memory.log ≡ Byte b
    → byte_under e.input [] b ≡ byte_at e.c.program m.history x ((bits_under e.input offset + j) % 2 ^ 64)
byte-along e k m s x offset count j b h wide born below few is =
    let p = parts_of (length e.input) s h.state.fits in
    let firm = h.state.no_calls.log in
    read_law e.c.program e.input [] none_gave s.condition x offset count j s.memory.log m.history b h.met (wide.term.tree, wide.has_width) below few
    (few-initial e.c.program.globals x (subst GlobalsFit h.state.globals p.globals)) (entries-are (length e.input) x s.memory.log p.log firm)
    (alike e.input s m h.agrees).log born (need-none (answers.Bytes x offset count) s.memory.log firm)
    (subst (λ globals. read_byte globals s.condition x (behind offset j) s.memory.log ≡ Byte b) h.state.globals is)

either-way-along : {A : Type 0} (e : Scene) (k : ℕ) (m : machine.State) (s : State) (t : Tree) (P : A → Type 0) (tested : Tested) (next : State → Flow A) → TestGoesAlong e k m s t tested
    → ((u : State) → IsBehind e k m s u → FlowGoesAlong e P (next u)) → FlowGoesAlong e P (either_way tested next)
either-way-along e k m s t P (Good u) next h go = go u (behind-past e k m s u t h)
either-way-along e k m s t P (Bad u) next h go = go u (behind-past e k m s u (negation t) h)
either-way-along e k m s t P (Answered step) next h go = h

pub read-behind : (e : Scene) (k : ℕ) (m : machine.State) (s u : State) (x : ObjectName) (offset : Tree) (j count : ℕ) (r : ReadBytes) → IsBehind e k m s u → HasRead e k m u x offset j count r → HasRead e k m s x offset j count r
read-behind e k m s u x offset j count r h read = record { behind = behind-more e k m s u r.state h read.behind; are = read.are; fits = read.fits; firm = read.firm }

-- what is needed of an object that is read
pub record IsReadable (e : Scene) (m : machine.State) (x : ObjectName) (offset : Tree) (count : ℕ) : Type 0 where
  pub wide : IsTermOf (length e.input) 64 offset
  pub born : IsBorn x m.history
  pub few : count ≤ 8

read_on-along : (e : Scene) (k : ℕ) (m : machine.State) (s : State) (x : ObjectName) (offset : Tree) (count j tests : ℕ) → IsHere e k m s → IsReadable e m x offset count → j < count
    → FlowGoesAlong e (HasRead e k m s x offset j 1) (read_on e.c x (behind offset j) tests s)
read_on-along e k m s x offset count j zero h readable below = opens-along e k m s Steps h
read_on-along e k m s x offset count j (suc tests) h readable below =
    let at = behind offset j in
    let next : State → Flow ReadBytes = λ u. read_on e.c x at tests u in
    elim (read_byte s.memory.globals s.condition x at s.memory.log)
    as (λ r. read_byte s.memory.globals s.condition x at s.memory.log ≡ r → ReadFits (length e.input) r → ReadIsFirm r
    → FlowGoesAlong e (HasRead e k m s x offset j 1) (elim r [ Byte b ↦ On (record { bytes = b ∷ []; state = s }) | Undecided t ↦ either_way (test e.c t s) next ])) [
      | Byte b ↦ (λ is fits firm. record {
        behind = behind-self e k m s h;
        are = ap (λ d. d ∷ []) (byte-along e k m s x offset count j b h readable.wide readable.born below readable.few is);
        fits = (fits, tt);
        firm = (firm, tt);
      })
      | Undecided t ↦ (λ is fits firm. either-way-along e k m s t (HasRead e k m s x offset j 1) (test e.c t s) next (test-along e k m s t h fits)
          (λ u past. flow-weaker e (HasRead e k m u x offset j 1) (HasRead e k m s x offset j 1) (next u) (λ r read. read-behind e k m s u x offset j 1 r past read)
          (read_on-along e k m u x offset count j tests past.here readable below)))
    ]
    refl (read_byte-at (length e.input) x at s (behind-fits (length e.input) offset j readable.wide (omega (arith, below, readable.few))) h.state.fits) (read-firm s.memory.globals s.condition x at s.memory.log h.state.no_calls.log)

firm-append : (bs cs : List SymByte) → AreFirmBytes bs → AreFirmBytes cs → AreFirmBytes (bs ++ cs)
firm-append [] cs h k = k
firm-append (b ∷ bs) cs h k = (h.0, firm-append bs cs h.1 k)

read_all-along : (e : Scene) (k : ℕ) (m : machine.State) (s : State) (x : ObjectName) (offset : Tree) (count n j : ℕ) → IsHere e k m s → IsReadable e m x offset count → j + n ≤ count
    → FlowGoesAlong e (HasRead e k m s x offset j n) (read_all e.c x offset n j s)
read_all-along e k m s x offset count zero j h readable few = record { behind = behind-self e k m s h; are = refl; fits = tt; firm = tt }
read_all-along e k m s x offset count (suc n) j h readable few =
    let below : j < count = omega (arith, few) in
    let more : (j + 1) + n ≤ count = omega (arith, few) in
    then-flow-along e (HasRead e k m s x offset j 1) (HasRead e k m s x offset j (suc n)) (read_one e.c x (behind offset j) s) (λ r. then_flow (read_all e.c x offset n (j + 1) r.state) (before r.bytes))
    (read_on-along e k m s x offset count j (2 ^ 64 - 1) h readable below)
    (λ r one. then-flow-along e (HasRead e k m r.state x offset (j + 1) n) (HasRead e k m s x offset j (suc n)) (read_all e.c x offset n (j + 1) r.state) (before r.bytes)
    (read_all-along e k m r.state x offset count n (j + 1) one.behind.here readable more)
    (λ rest all. record {
      behind = behind-more e k m s r.state rest.state one.behind all.behind;
      are = map-append (byte_under e.input []) r.bytes rest.bytes ∙ (λ i. one.are i ++ all.are i);
      fits = bytes-append (length e.input) r.bytes rest.bytes one.fits all.fits;
      firm = firm-append r.bytes rest.bytes one.firm all.firm;
    }))

-- the bytes that are read are those of the run
pub reads-along : (e : Scene) (k : ℕ) (m : machine.State) (count : ℕ) (r : Reached) → IsHere e k m r.state → IsReadable e m r.object r.offset count
    → FlowGoesAlong e (HasRead e k m r.state r.object r.offset 0 count) (reads e.c count r)
reads-along e k m count r h readable =
    subst (λ flow. FlowGoesAlong e (HasRead e k m r.state r.object r.offset 0 count) (then_flow flow (read_all e.c r.object r.offset count 0))) (sym (knows-along e k m r.state (answers.Bytes r.object r.offset count) h))
    (read_all-along e k m r.state r.object r.offset count count 0 h readable (omega arith))

-- ---- values that are loaded

-- the value is what the bytes make of the type
pub record HasJoined (e : Scene) (k : ℕ) (m : machine.State) (s : State) (t : RegType) (bytes : List ConcreteByte) (v : Valued) : Type 0 where
  pub behind : IsBehind e k m s v.state
  pub is : joined t bytes ≡ Some (value_under e.input [] v.value)

resolved-same : (bs : List SymByte) → AreFirmBytes bs → map (byte_resolved []) bs ≡ bs
resolved-same [] h = refl
resolved-same (byte.Int t ∷ bs) h = ap (λ cs. byte.Int t ∷ cs) (resolved-same bs h.1)
resolved-same (byte.PtrByte p j ∷ bs) h = ap (λ cs. byte.PtrByte p j ∷ cs) (resolved-same bs h.1)
resolved-same (byte.PendingByte c t j ∷ bs) h = absurd h.0

bytes-are : (n : ℕ) (bs : List SymByte) → BytesFit n bs → AreFirmBytes bs → AreBytes bs
bytes-are n [] h firm = tt
bytes-are n (byte.Int t ∷ bs) h firm = ((h.0.term.tree, h.0.has_width), bytes-are n bs h.1 firm.1)
bytes-are n (byte.PtrByte p j ∷ bs) h firm = ((h.0.term.tree, h.0.has_width), bytes-are n bs h.1 firm.1)
bytes-are n (byte.PendingByte c t j ∷ bs) h firm = absurd firm.0

none-returned : (results : Results) (bs : List SymByte) → AreFirmBytes bs → AreReturned results bs
none-returned results [] h = tt
none-returned results (byte.Int t ∷ bs) h = none-returned results bs h.1
none-returned results (byte.PtrByte p j ∷ bs) h = none-returned results bs h.1
none-returned results (byte.PendingByte c t j ∷ bs) h = absurd h.0

has-size : (t : RegType) (n : ℕ) → is_scalar t ≡ true → n ≡ bytes_of_type t → HasSize t n
has-size (type.Int width) n scalar is = (scalar_bytes width scalar).0 ∙ ap (λ k. 8 * k) (sym is)
has-size type.Ptr n scalar is = is

joins-along : (e : Scene) (k : ℕ) (m : machine.State) (s : State) (t : RegType) (bs : List SymByte) (join : Join) → IsHere e k m s → AreBytes bs → 0 < length bs → HasSize t (length bs) → AreReturned [] bs
    → join_bytes bs t ≡ join → JoinFits (length e.input) join → JoinIsFirm join
    → (joined t (map (byte_under e.input []) bs) ≡ None → HasFault e m fault.MixedBytes)
    → FlowGoesAlong e (HasJoined e k m s t (map (byte_under e.input []) bs)) (joins e.c join s)
joins-along e k m s t bs (answers.Value v) h are some size back is fits firm mixed = record { behind = behind-self e k m s h; is = value_law e.input [] t bs v are some size back is }
joins-along e k m s t bs (answers.Needs calls) h are some size back is fits firm mixed = absurd firm
joins-along e k m s t bs (answers.Test test v) h are some size back is fits firm mixed =
    let told : (b : Bool) → is_met_by e.input test ≡ b → joined t (map (byte_under e.input []) bs) ≡ cond b (Some (value_under e.input [] v)) None
    = λ b met. test_law e.input [] t bs test v are some size back is ∙ ap (λ c. cond c (Some (value_under e.input [] v)) None) met in
    then-flow-along e (IsPast e k m s test) (HasJoined e k m s t (map (byte_under e.input []) bs)) (must e.c test fault.MixedBytes s) (valued v)
    (must-along e k m s test fault.MixedBytes h fits.0 (λ unmet. mixed (told false unmet)))
    (λ u past. record { behind = behind-past e k m s u test past; is = told true past.met })
joins-along e k m s t bs answers.Mixed h are some size back is fits firm mixed = fails-along e k m s fault.MixedBytes h (mixed (mixed_law e.input [] t bs are some size back is))

joined_as-along : (e : Scene) (k : ℕ) (m : machine.State) (s : State) (t : RegType) (bs : List SymByte) → IsHere e k m s → BytesFit (length e.input) bs → AreFirmBytes bs → is_scalar t ≡ true → IsShortType t → length bs ≡ bytes_of_type t
    → (joined t (map (byte_under e.input []) bs) ≡ None → HasFault e m fault.MixedBytes)
    → FlowGoesAlong e (HasJoined e k m s t (map (byte_under e.input []) bs)) (joins e.c (joined_as t bs) s)
joined_as-along e k m s t [] h fits firm scalar short size mixed = absurd (omega (arith, size, takes_bytes t scalar))
joined_as-along e k m s t (b ∷ bs) h fits firm scalar short size mixed =
    joins-along e k m s t (b ∷ bs) (join_bytes (b ∷ bs) t) h (bytes-are (length e.input) (b ∷ bs) fits firm) (omega arith) (has-size t (length (b ∷ bs)) scalar size) (none-returned [] (b ∷ bs) firm)
    refl (joined_as-fits (length e.input) t (b ∷ bs) short size fits) (joined-firm t (b ∷ bs) firm) mixed

-- what the bytes make of a type is what they make in the run
pub join_read-along : (e : Scene) (k : ℕ) (m : machine.State) (t : RegType) (r : ReadBytes) → IsHere e k m r.state → BytesFit (length e.input) r.bytes → AreFirmBytes r.bytes → is_scalar t ≡ true → IsShortType t → length r.bytes ≡ bytes_of_type t
    → (joined t (map (byte_under e.input []) r.bytes) ≡ None → HasFault e m fault.MixedBytes)
    → FlowGoesAlong e (HasJoined e k m r.state t (map (byte_under e.input []) r.bytes)) (join_read e.c t r)
join_read-along e k m t r h fits firm scalar short size mixed =
    let same = ap (λ shots. map (byte_resolved shots) r.bytes) h.state.no_calls.snapshots ∙ resolved-same r.bytes firm in
    subst (λ bs. FlowGoesAlong e (HasJoined e k m r.state t (map (byte_under e.input []) r.bytes)) (joins e.c (joined_as t bs) r.state)) (sym same)
    (joined_as-along e k m r.state t r.bytes h fits firm scalar short size mixed)
