-- A node that sees the same in two states does the same in both.
use Rattle.std.specs.Prelude.{slice_get, slice_set, map, ◌==◌, ◌%◌, ◌^◌, nat_lt, if◌then◌else◌}
use Rattle.std.proofs.Common.{◌≡◌, ◌∙◌, ◌+◌, ◌*◌, ℕ, Bool, true, false, not, ◌&&◌, List, [], ◌∷◌, ◌++◌, Option, Some, None, refl, sym, ap, subst}
use Rattle.std.specs.List.{AllByRecursion as Each, flat_map}
use Rattle.bitnum.specs.Operations.{applied, sign_widened}
use Rattle.flat_ir.specs.declared.names.NodeId.{NodeId}
use Rattle.flat_ir.specs.declared.names.RegId.{RegId}
use Rattle.flat_ir.specs.declared.names.ObjectName.{ObjectName}
use Rattle.flat_ir.specs.declared.names.ObjectName.TheVariants as object
use Rattle.flat_ir.specs.declared.nodes.GepPart.{GepPart}
use Rattle.flat_ir.specs.declared.nodes.GepPart.TheVariants.{Field, Index}
use Rattle.flat_ir.specs.declared.nodes.MoveSet.{MoveSet}
use Rattle.flat_ir.specs.declared.nodes.Node.{Node}
use Rattle.flat_ir.specs.declared.nodes.Node.TheVariants as node
use Rattle.flat_ir.specs.declared.nodes.Operand.{Operand}
use Rattle.flat_ir.specs.declared.nodes.RegType.{RegType}
use Rattle.flat_ir.specs.declared.program.ProgramData.{ProgramData}
use Rattle.flat_ir.specs.declared.values.Address.{Address}
use Rattle.flat_ir.specs.declared.values.ConcreteByte.{ConcreteByte}
use Rattle.flat_ir.specs.declared.values.ConcreteValue.{ConcreteValue}
use Rattle.flat_ir.specs.declared.values.ConcreteValue.TheVariants.{Int, Ptr}
use Rattle.flat_ir.specs.declared.values.FaultKind.{FaultKind}
use Rattle.flat_ir.specs.declared.values.FaultKind.TheVariants as fault
use Rattle.flat_ir.specs.History.{History, Alloc, Get, Put, is_alive, size_of, byte_at, position}
use Rattle.flat_ir.specs.Effects.{written_in, stored_in, freed_in}
use Rattle.flat_ir.specs.Registers.{int, address, number, bytes_of_type, bytes_of_value, joined, first_of}
use Rattle.flat_ir.specs.Machine.{Event, Frame, State, Run, On, Over, type_at, value_in, made_here, count_here}
use Rattle.flat_ir.specs.Steps.{attempt, unless, with_frame, number_in, address_in, division_fault, bit, related, cast_to, width_of, moved_by, moved_by_all, free_fault, made_by_malloc, access_fault, is_within, gives, gives_if, gives_loaded, new_here, allocated, byte_there, loaded, unsigned_byte, branches, set_all, case_of, to, with_history}
use Rattle.flat_ir.specs.Whole.{operands_of, operands_of_part}
use Rattle.slices.specs.Nodes.{read_through, used_alive, reads_input}
use Rattle.slice_laws.proofs.Lists.{set_both}
use Rattle.slice_laws.proofs.Outcomes.{moved_to, regs_all, set_all_is, written_on, freed_on, stored_on, is_plain}

-- an object, if there is one, lives in both histories or in neither, with one size
abbrev pub SameLife : ProgramData → Option ObjectName → History → History → Type 0
SameLife p None h h' = Unit {0}
SameLife p (Some x) h h' = (is_alive x h' ≡ is_alive x h) × (size_of p x h' ≡ size_of p x h)

-- and it has the same bytes
abbrev pub SameBytes : ProgramData → Option ObjectName → History → History → Type 0
SameBytes p None h h' = Unit {0}
SameBytes p (Some x) h h' = (k : ℕ) → byte_at p h' x k ≡ byte_at p h x k

-- the node sees the same in two states: where it stands, the values of its operands, the lives of the objects that it uses, the
-- bytes that it may read, and the place in the input
pub record SeesSame (p : ProgramData) (n : Node) (s s' : State) : Type 0 where
  pub func : s'.frame.func ≡ s.frame.func
  pub node : s'.frame.node ≡ s.frame.node
  pub name : s'.frame.name ≡ s.frame.name
  pub count : count_here s'.frame ≡ count_here s.frame
  pub values : Each (λ a. value_in s'.frame a ≡ value_in s.frame a) (operands_of n)
  pub lives : Each (λ a. SameLife p (address_in s a).base s.history s'.history) (used_alive n)
  pub bytes : (a : Operand) → read_through n ≡ Some a → SameBytes p (address_in s a).base s.history s'.history
  pub place : reads_input n ≡ true → position s'.history ≡ position s.history

-- the two states become such that go on at one node, with the same changes, and equal registers where they were
pub data Likewise (s s' : State) : State → State → Type 0 where
  likewise : (regs regs' : List ConcreteValue) (next : NodeId) (added : History) (events events' : List Event) →
      ((r : RegId) → slice_get s'.frame.regs r.0 ≡ slice_get s.frame.regs r.0 → slice_get regs' r.0 ≡ slice_get regs r.0) →
      Likewise s s' (moved_to s regs next added events) (moved_to s' regs' next added events')

-- so it is with two runs, unless the first is over
abbrev pub RunsLikewise : State → State → Run → Run → Type 0
RunsLikewise s s' (Over e t) r = Unit {0}
RunsLikewise s s' (On t) (Over e t') = ⊥
RunsLikewise s s' (On t) (On t') = Likewise s s' t t'

-- ---- shapes

unless_like : (s s' t t' : State) (o o' : Option FaultKind) (r r' : Run) → o' ≡ o → RunsLikewise s s' r r' → RunsLikewise s s' (unless o t r) (unless o' t' r')
unless_like s s' t t' o o' r r' e h = subst (λ (x : Option FaultKind). RunsLikewise s s' (unless o t r) (unless x t' r')) (sym e) (same o)
  where
    same : (x : Option FaultKind) → RunsLikewise s s' (unless x t r) (unless x t' r')
    same None = h
    same (Some kind) = tt

keeps_like : (s s' : State) (next : NodeId) (added : History) (events events' : List Event) →
    Likewise s s' (moved_to s s.frame.regs next added events) (moved_to s' s'.frame.regs next added events')
keeps_like s s' next added events events' = likewise s.frame.regs s'.frame.regs next added events events' (λ r h. h)

sets_like : (s s' : State) (x : RegId) (v v' : ConcreteValue) (next : NodeId) (added added' : History) (events events' : List Event) → v' ≡ v → added' ≡ added →
    Likewise s s' (moved_to s (slice_set s.frame.regs x.0 v) next added events) (moved_to s' (slice_set s'.frame.regs x.0 v') next added' events')
sets_like s s' x v v' next added added' events events' e e' =
    subst (λ (w : ConcreteValue). Likewise s s' (moved_to s (slice_set s.frame.regs x.0 v) next added events) (moved_to s' (slice_set s'.frame.regs x.0 w) next added' events')) (sym e)
    (subst (λ (cs : History). Likewise s s' (moved_to s (slice_set s.frame.regs x.0 v) next added events) (moved_to s' (slice_set s'.frame.regs x.0 v) next cs events')) (sym e')
    (likewise (slice_set s.frame.regs x.0 v) (slice_set s'.frame.regs x.0 v) next added events events' (λ r h. set_both s.frame.regs s'.frame.regs x.0 r.0 v h)))

gives_like : (s s' : State) (x : RegId) (v v' : ConcreteValue) (next : NodeId) → v' ≡ v → RunsLikewise s s' (gives x v next s) (gives x v' next s')
gives_like s s' x v v' next e = sets_like s s' x v v' next [] [] s.events s'.events e refl

adds_like : (s s' : State) (next : NodeId) (added h h' : History) → h ≡ added ++ s.history → h' ≡ added ++ s'.history → RunsLikewise s s' (to next (with_history h s)) (to next (with_history h' s'))
adds_like s s' next added h h' e e' =
    subst (λ (x : History). RunsLikewise s s' (to next (with_history x s)) (to next (with_history h' s'))) (sym e)
    (subst (λ (x : History). RunsLikewise s s' (to next (with_history (added ++ s.history) s)) (to next (with_history x s'))) (sym e')
    (keeps_like s s' next added s.events s'.events))

-- ---- memory

access_same : (p : ProgramData) (h h' : History) (n : ℕ) (b : Option ObjectName) (offset : ℕ) → SameLife p b h h' →
    access_fault p h' n (record { base = b; offset = offset }) ≡ access_fault p h n (record { base = b; offset = offset })
access_same p h h' n None offset same = refl
access_same p h h' n (Some x) offset same =
    λ i. if not (same.0 i) then Some fault.UseAfterFree else (if is_within offset n (same.1 i) then None else Some fault.OutOfBounds)

free_same : (p : ProgramData) (h h' : History) (b : Option ObjectName) (offset : ℕ) → SameLife p b h h' →
    free_fault p h' (record { base = b; offset = offset }) ≡ free_fault p h (record { base = b; offset = offset })
free_same p h h' None offset same = refl
free_same p h h' (Some x) offset same =
    λ i. if not (same.0 i) then Some fault.UseAfterFree else (if made_by_malloc p x && (offset == 0) then None else Some fault.BadFree)

byte_same : (p : ProgramData) (h h' : History) (b : Option ObjectName) (offset j : ℕ) → SameBytes p b h h' →
    byte_there p h' (record { base = b; offset = offset }) j ≡ byte_there p h (record { base = b; offset = offset }) j
byte_same p h h' None offset j same = refl
byte_same p h h' (Some x) offset j same = same ((offset + j) % 2 ^ 64)

address_like : (s s' : State) (a : Operand) → value_in s'.frame a ≡ value_in s.frame a → address_in s' a ≡ address_in s a
address_like s s' a e = ap address e

access_like : (p : ProgramData) (s s' : State) (a : Operand) (n n' : ℕ) → n' ≡ n → value_in s'.frame a ≡ value_in s.frame a → SameLife p (address_in s a).base s.history s'.history →
    access_fault p s'.history n' (address_in s' a) ≡ access_fault p s.history n (address_in s a)
access_like p s s' a n n' en e same =
    (λ i. access_fault p s'.history (en i) (address (e i))) ∙ access_same p s.history s'.history n (address_in s a).base (address_in s a).offset same

byte_like : (p : ProgramData) (s s' : State) (a : Operand) (j : ℕ) → value_in s'.frame a ≡ value_in s.frame a → SameBytes p (address_in s a).base s.history s'.history →
    byte_there p s'.history (address_in s' a) j ≡ byte_there p s.history (address_in s a) j
byte_like p s s' a j e same =
    ap (λ v. byte_there p s'.history (address v) j) e ∙ byte_same p s.history s'.history (address_in s a).base (address_in s a).offset j same

loaded_like : (p : ProgramData) (s s' : State) (a : Operand) (t t' : RegType) → t' ≡ t → value_in s'.frame a ≡ value_in s.frame a → SameBytes p (address_in s a).base s.history s'.history →
    loaded p s'.history (address_in s' a) t' ≡ loaded p s.history (address_in s a) t
loaded_like p s s' a t t' et e same =
    let bytes : byte_there p s'.history (address_in s' a) ≡ byte_there p s.history (address_in s a) = λ i j. byte_like p s s' a j e same i in
    λ i. joined (et i) (first_of (bytes_of_type (et i)) 0 (bytes i))

gives_loaded_like : (s s' : State) (o o' : Option ConcreteValue) (x : RegId) (next : NodeId) → o' ≡ o → RunsLikewise s s' (gives_loaded o x next s) (gives_loaded o' x next s')
gives_loaded_like s s' o o' x next e = subst (λ (w : Option ConcreteValue). RunsLikewise s s' (gives_loaded o x next s) (gives_loaded w x next s')) (sym e) (same o)
  where
    same : (w : Option ConcreteValue) → RunsLikewise s s' (gives_loaded w x next s) (gives_loaded w x next s')
    same None = tt
    same (Some v) = sets_like s s' x v v next [] [] _ _ refl refl

stores_like : (s s' : State) (next : NodeId) (a a' : Address) (v v' : ConcreteValue) → a' ≡ a → v' ≡ v →
    RunsLikewise s s' (to next (with_history (stored_in (bytes_of_value v) 0 a v s.history) s)) (to next (with_history (stored_in (bytes_of_value v') 0 a' v' s'.history) s'))
stores_like s s' next a a' v v' ea ev =
    adds_like s s' next (stored_in (bytes_of_value v) 0 a v []) _ _ (stored_on (bytes_of_value v) 0 a v s.history)
    ((λ i. stored_in (bytes_of_value (ev i)) 0 (ea i) (ev i) s'.history) ∙ stored_on (bytes_of_value v) 0 a v s'.history)

writes_like : (s s' : State) (next : NodeId) (a a' : Address) (b b' : ConcreteByte) → a' ≡ a → b' ≡ b →
    RunsLikewise s s' (to next (with_history (written_in a b 0 s.history) s)) (to next (with_history (written_in a' b' 0 s'.history) s'))
writes_like s s' next a a' b b' ea eb =
    adds_like s s' next (written_in a b 0 []) _ _ (written_on a b 0 s.history) ((λ i. written_in (ea i) (eb i) 0 s'.history) ∙ written_on a b 0 s'.history)

frees_like : (s s' : State) (next : NodeId) (a a' : Address) → a' ≡ a →
    RunsLikewise s s' (to next (with_history (freed_in a s.history) s)) (to next (with_history (freed_in a' s'.history) s'))
frees_like s s' next a a' ea = adds_like s s' next (freed_in a []) _ _ (freed_on a s.history) (ap (λ x. freed_in x s'.history) ea ∙ freed_on a s'.history)

-- ---- objects that are made

made_like : (p : ProgramData) (n : Node) (s s' : State) → SeesSame p n s s' → made_here s'.frame ≡ made_here s.frame
made_like p n s s' same = λ i. object.Made (same.name i) (record { func = same.func i; node = same.node i; count = same.count i })

makes_like : (s s' : State) (size size' : ℕ) (result : Option RegId) (next : NodeId) → made_here s'.frame ≡ made_here s.frame → size' ≡ size →
    RunsLikewise s s' (gives_if result (new_here s) next (allocated size s)) (gives_if result (new_here s') next (allocated size' s'))
makes_like s s' size size' None next e es =
    subst (λ (cs : History). Likewise s s' (moved_to s s.frame.regs next (Alloc (made_here s.frame) size ∷ []) s.events) (moved_to s' s'.frame.regs next cs s'.events))
    (sym (λ i. Alloc (e i) (es i) ∷ [])) (keeps_like s s' next (Alloc (made_here s.frame) size ∷ []) s.events s'.events)
makes_like s s' size size' (Some x) next e es =
    sets_like s s' x (new_here s) (new_here s') next (Alloc (made_here s.frame) size ∷ []) (Alloc (made_here s'.frame) size' ∷ []) s.events s'.events
    (λ i. Ptr (record { base = Some (e i); offset = 0 })) (λ i. Alloc (e i) (es i) ∷ [])

nulls_like : (s s' : State) (v : ConcreteValue) (result : Option RegId) (next : NodeId) → RunsLikewise s s' (gives_if result v next s) (gives_if result v next s')
nulls_like s s' v None next = keeps_like s s' next [] s.events s'.events
nulls_like s s' v (Some x) next = gives_like s s' x v v next refl

-- ---- numbers

moved_like : (s s' : State) (part : GepPart) (offset offset' : ℕ) → Each (λ a. value_in s'.frame a ≡ value_in s.frame a) (operands_of_part part) → offset' ≡ offset → moved_by s' offset' part ≡ moved_by s offset part
moved_like s s' (Field by) offset offset' same e = ap (λ o. (o + by) % 2 ^ 64) e
moved_like s s' (Index scale index) offset offset' same e = λ i. (e i + scale * (sign_widened (number (same.0 i)) 64).bits) % 2 ^ 64

each_left : {A : Type 0} (P : A → Type 0) (xs ys : List A) → Each P (xs ++ ys) → Each P xs
each_left P [] ys all = tt
each_left P (x ∷ xs) ys all = (all.0, each_left P xs ys all.1)

each_right : {A : Type 0} (P : A → Type 0) (xs ys : List A) → Each P (xs ++ ys) → Each P ys
each_right P [] ys all = all
each_right P (x ∷ xs) ys all = each_right P xs ys all.1

moved_all_like : (s s' : State) (parts : List GepPart) (offset offset' : ℕ) → Each (λ a. value_in s'.frame a ≡ value_in s.frame a) (flat_map operands_of_part parts) → offset' ≡ offset →
    moved_by_all s' offset' parts ≡ moved_by_all s offset parts
moved_all_like s s' [] offset offset' same e = e
moved_all_like s s' (part ∷ parts) offset offset' same e =
    let P : Operand → Type 0 = λ a. value_in s'.frame a ≡ value_in s.frame a in
    moved_all_like s s' parts (moved_by s offset part) (moved_by s' offset' part) (each_right P (operands_of_part part) (flat_map operands_of_part parts) same)
    (moved_like s s' part offset offset' (each_left P (operands_of_part part) (flat_map operands_of_part parts) same) e)

regs_like : (old old' : Frame) (ms : List MoveSet) (regs regs' : List ConcreteValue) → Each (λ a. value_in old' a ≡ value_in old a) (map (λ (m : MoveSet). m.value) ms) → (k : ℕ) →
    slice_get regs' k ≡ slice_get regs k → slice_get (regs_all old' ms regs') k ≡ slice_get (regs_all old ms regs) k
regs_like old old' [] regs regs' same k e = e
regs_like old old' (m ∷ ms) regs regs' same k e =
    regs_like old old' ms (slice_set regs m.register.0 (value_in old m.value)) (slice_set regs' m.register.0 (value_in old' m.value)) same.1 k
    (ap (λ v. slice_get (slice_set regs' m.register.0 v) k) same.0 ∙ set_both regs regs' m.register.0 k (value_in old m.value) e)

moves_like : (s s' : State) (ms : List MoveSet) (next : NodeId) → Each (λ a. value_in s'.frame a ≡ value_in s.frame a) (map (λ (m : MoveSet). m.value) ms) →
    RunsLikewise s s' (to next (with_frame (set_all s.frame ms s.frame) s)) (to next (with_frame (set_all s'.frame ms s'.frame) s'))
moves_like s s' ms next same =
    subst (λ (frame : Frame). RunsLikewise s s' (to next (with_frame frame s)) (to next (with_frame (set_all s'.frame ms s'.frame) s'))) (sym (set_all_is s.frame s.frame ms))
    (subst (λ (frame : Frame). RunsLikewise s s' (to next (with_frame (record s.frame { regs = regs_all s.frame ms s.frame.regs }) s)) (to next (with_frame frame s'))) (sym (set_all_is s'.frame s'.frame ms))
    (likewise (regs_all s.frame ms s.frame.regs) (regs_all s'.frame ms s'.frame.regs) next [] s.events s'.events (λ r h. regs_like s.frame s'.frame ms s.frame.regs s'.frame.regs same r.0 h)))

-- ---- sides

side_like : (s s' : State) (side side' : ℕ × NodeId) → side' ≡ side → RunsLikewise s s' (branches side.0 side.1 s) (branches side'.0 side'.1 s')
side_like s s' side side' e =
    subst (λ (x : ℕ × NodeId). RunsLikewise s s' (branches side.0 side.1 s) (branches x.0 x.1 s')) (sym e) (keeps_like s s' side.1 [] _ _)

branch_like : (s s' : State) (t t' : Bool) (left right : NodeId) → t' ≡ t → RunsLikewise s s' (if t then branches 0 left s else branches 1 right s) (if t' then branches 0 left s' else branches 1 right s')
branch_like s s' t t' left right e =
    subst (λ (b : Bool). RunsLikewise s s' (if t then branches 0 left s else branches 1 right s) (if b then branches 0 left s' else branches 1 right s')) (sym e) (same t)
  where
    same : (b : Bool) → RunsLikewise s s' (if b then branches 0 left s else branches 1 right s) (if b then branches 0 left s' else branches 1 right s')
    same true = keeps_like s s' left [] _ _
    same false = keeps_like s s' right [] _ _

malloc_like : (s s' : State) (size size' : ℕ) (v : ConcreteValue) (result : Option RegId) (next : NodeId) → made_here s'.frame ≡ made_here s.frame → size' ≡ size →
    RunsLikewise s s' (if nat_lt 65536 size then gives_if result v next s else gives_if result (new_here s) next (allocated size s))
    (if nat_lt 65536 size' then gives_if result v next s' else gives_if result (new_here s') next (allocated size' s'))
malloc_like s s' size size' v result next e es =
    subst (λ (n : ℕ). RunsLikewise s s' (if nat_lt 65536 size then gives_if result v next s else gives_if result (new_here s) next (allocated size s))
    (if nat_lt 65536 n then gives_if result v next s' else gives_if result (new_here s') next (allocated n s'))) (sym es) (same (nat_lt 65536 size))
  where
    same : (b : Bool) → RunsLikewise s s' (if b then gives_if result v next s else gives_if result (new_here s) next (allocated size s)) (if b then gives_if result v next s' else gives_if result (new_here s') next (allocated size s'))
    same true = nulls_like s s' v result next
    same false = makes_like s s' size size result next e refl

-- ---- each node

pub attempt_likewise : (p : ProgramData) (input : List ℕ) (n : Node) (s s' : State) → is_plain n ≡ true → SeesSame p n s s' → RunsLikewise s s' (attempt p input n s) (attempt p input n s')
attempt_likewise p input (node.Bin op a b result next) s s' plain same =
    let va = same.values.0 in
    let vb = same.values.1.0 in
    unless_like s s' s s' _ _ _ _ (λ i. division_fault op (number (va i)) (number (vb i))) (gives_like s s' result _ _ next (λ i. Int (applied op (number (va i)) (number (vb i)))))
attempt_likewise p input (node.Cmp pred a b result next) s s' plain same = gives_like s s' result _ _ next (λ i. bit (related pred (same.values.0 i) (same.values.1.0 i)))
attempt_likewise p input (node.Cast op a result next) s s' plain same =
    gives_like s s' result _ _ next (λ i. Int (cast_to op (width_of (type_at p (same.func i) result)) (number (same.values.0 i))))
attempt_likewise p input (node.Gep base parts result next) s s' plain same =
    let moved = moved_all_like s s' parts (address_in s base).offset (address_in s' base).offset same.values.1 (ap (λ v. (address v).offset) same.values.0) in
    gives_like s s' result _ _ next (λ i. Ptr (record { base = (address (same.values.0 i)).base; offset = moved i }))
attempt_likewise p input (node.Select condition a b result next) s s' plain same =
    gives_like s s' result _ _ next (λ i. if (number (same.values.0 i)).bits == 1 then same.values.1.0 i else same.values.1.1.0 i)
attempt_likewise p input (node.Alloca size result next) s s' plain same =
    makes_like s s' size size (Some result) next (made_like p (node.Alloca size result next) s s' same) refl
attempt_likewise p input (node.Malloc size result next) s s' plain same =
    malloc_like s s' (number_in s size).bits (number_in s' size).bits _ result next (made_like p (node.Malloc size result next) s s' same) (ap (λ v. (number v).bits) same.values.0)
attempt_likewise p input (node.Free pointer next) s s' plain same =
    let e = address_like s s' pointer same.values.0 in
    unless_like s s' s s' _ _ _ _ (ap (free_fault p s'.history) e ∙ free_same p s.history s'.history (address_in s pointer).base (address_in s pointer).offset same.lives.0)
    (frees_like s s' next (address_in s pointer) (address_in s' pointer) e)
attempt_likewise p input (node.Load pointer result next) s s' plain same =
    let t : type_at p s'.frame.func result ≡ type_at p s.frame.func result = ap (λ f. type_at p f result) same.func in
    unless_like s s' s s' _ _ _ _ (access_like p s s' pointer _ _ (ap bytes_of_type t) same.values.0 same.lives.0)
    (gives_loaded_like s s' _ _ result next (loaded_like p s s' pointer _ _ t same.values.0 (same.bytes pointer refl)))
attempt_likewise p input (node.Store value pointer next) s s' plain same =
    unless_like s s' s s' _ _ _ _ (access_like p s s' pointer _ _ (ap bytes_of_value same.values.0) same.values.1.0 same.lives.0)
    (stores_like s s' next (address_in s pointer) (address_in s' pointer) (value_in s.frame value) (value_in s'.frame value) (address_like s s' pointer same.values.1.0) same.values.0)
attempt_likewise p input (node.Copy from there next) s s' plain same =
    unless_like s s' s s' _ _ _ _ (access_like p s s' from 1 1 refl same.values.0 same.lives.0)
    (unless_like s s' s s' _ _ _ _ (access_like p s s' there 1 1 refl same.values.1.0 same.lives.1.0)
    (writes_like s s' next (address_in s there) (address_in s' there) _ _ (address_like s s' there same.values.1.0) (byte_like p s s' from 0 same.values.0 (same.bytes from refl))))
attempt_likewise p input (node.In result next) s s' plain same =
    sets_like s s' result _ _ next (Get ∷ []) (Get ∷ []) s.events s'.events (ap (λ k. int 32 (unsigned_byte (slice_get input k))) (same.place refl)) refl
attempt_likewise p input (node.Put value next) s s' plain same =
    subst (λ (cs : History). Likewise s s' (moved_to s s.frame.regs next (Put ((number_in s value).bits % 256) ∷ []) s.events) (moved_to s' s'.frame.regs next cs s'.events))
    (sym (ap (λ v. Put ((number v).bits % 256) ∷ []) same.values.0)) (keeps_like s s' next (Put ((number_in s value).bits % 256) ∷ []) s.events s'.events)
attempt_likewise p input (node.Call callee args result next) s s' plain same = absurd (cc)
attempt_likewise p input (node.Moves ms next) s s' plain same = moves_like s s' ms next same.values
attempt_likewise p input (node.Jump next) s s' plain same = keeps_like s s' next [] s.events s'.events
attempt_likewise p input (node.Branch condition left right) s s' plain same = branch_like s s' _ _ left right (ap (λ v. (number v).bits == 1) same.values.0)
attempt_likewise p input (node.Switch value cases otherwise) s s' plain same =
    side_like s s' (case_of (number_in s value).bits 0 cases otherwise) (case_of (number_in s' value).bits 0 cases otherwise) (ap (λ v. case_of (number v).bits 0 cases otherwise) same.values.0)
attempt_likewise p input (node.Ret value) s s' plain same = absurd (cc)
attempt_likewise p input _ s s' plain same = tt
