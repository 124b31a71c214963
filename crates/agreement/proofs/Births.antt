-- In each run an object is made once, and before anything is written to it.
use Rattle.std.proofs.Common.{◌≡◌, ℕ, zero, suc, ◌+◌, ◌%◌, ◌^◌, true, false, List, [], ◌∷◌, ◌++◌, reverse, Option, Some, None, unwrap_or, refl, sym, ◌∙◌, subst}
use Rattle.std.specs.Prelude.{slice_get, nat_lt, ◌==◌, if◌then◌else◌}
use Rattle.std.specs.Option.{option_map}
use Rattle.std.specs.List.{list_any, AllByRecursion as Each}
use Rattle.std.proofs.lemmas.Bool.{false≢true}
use Rattle.flat_ir.specs.declared.names.CallStep.{CallStep}
use Rattle.flat_ir.specs.declared.names.NodeId.{NodeId}
use Rattle.flat_ir.specs.declared.names.RegId.{RegId}
use Rattle.flat_ir.specs.declared.names.ObjectName.{ObjectName}
use Rattle.flat_ir.specs.declared.names.ObjectName.TheVariants.{Global, Made}
use Rattle.flat_ir.specs.declared.nodes.Node.{Node}
use Rattle.flat_ir.specs.declared.nodes.Node.TheVariants as node
use Rattle.flat_ir.specs.declared.program.ProgramData.{ProgramData}
use Rattle.flat_ir.specs.declared.values.Address.{Address}
use Rattle.flat_ir.specs.declared.values.ConcreteByte.{ConcreteByte}
use Rattle.flat_ir.specs.declared.values.ConcreteValue.{ConcreteValue}
use Rattle.flat_ir.specs.declared.values.ConcreteValue.TheVariants.{Ptr}
use Rattle.flat_ir.specs.declared.values.FaultKind.{FaultKind}
use Rattle.flat_ir.specs.Effects.{written_in, stored_in, freed_in}
use Rattle.flat_ir.specs.History.{History, Change, Write, Alloc, Free, Get, Put, same_object, is_alloc_of}
use Rattle.flat_ir.specs.Machine.{Frame, State, Run, On, Over, node_at, type_at, nodes_of, func_at, value_in, counted}
use Rattle.flat_ir.specs.Orderly.{is_made, is_freed, IsOrderly}
use Rattle.flat_ir.specs.Registers.{cut, null, bytes_of_type, bytes_of_value}
use Rattle.flat_ir.specs.Run.{run, goes_on, step-attempt, run-zero, run-suc}
use Rattle.flat_ir.specs.Same.{same_object-true}
use Rattle.flat_ir.specs.Steps.{attempt, unless, with_frame, with_history, to, gives, gives_if, gives_loaded, number_in, address_in, division_fault, access_fault, free_fault, byte_there, loaded, branches, returns, ended, frees_of_node, frees_at, frees_from, new_here, allocated}
use Rattle.flat_ir.specs.Whole.{IsWhole}
use Rattle.flat_ir.proofs.MadeBasics.{each_append, each_reverse, known_apart, unmade_unfreed, neither}
use Rattle.flat_ir.proofs.MadeRuns.{run_keeps}
use Rattle.flat_ir.proofs.MadeSteps.{RunKeeps}
use Rattle.log_laws.specs.Law.{Unwritten, IsBorn, is_life_of, IsOnce}

-- ---- no run makes a global

abbrev NeverMakes : ℕ → Run → Type 0
NeverMakes g (On s) = is_made (Global g) s.history ≡ false
NeverMakes g (Over e s) = Unit {0}

unless_makes : (g : ℕ) (o : Option FaultKind) (s : State) (r : Run) → NeverMakes g r → NeverMakes g (unless o s r)
unless_makes g None s r h = h
unless_makes g (Some kind) s r h = tt

loaded_makes : (g : ℕ) (o : Option ConcreteValue) (r : RegId) (n : NodeId) (s : State) → is_made (Global g) s.history ≡ false → NeverMakes g (gives_loaded o r n s)
loaded_makes g None r n s h = tt
loaded_makes g (Some v) r n s h = h

written_makes : (g : ℕ) (a : Address) (b : ConcreteByte) (j : ℕ) (h : History) → is_made (Global g) h ≡ false → is_made (Global g) (written_in a b j h) ≡ false
written_makes g a b j h none = elim a.base as (λ base. is_made (Global g) (elim base [ None ↦ h | Some x ↦ Write x ((a.offset + j) % 2 ^ 64) b ∷ h ]) ≡ false) [ None ↦ none | Some x ↦ none ]

stored_makes : (g n j : ℕ) (a : Address) (v : ConcreteValue) (h : History) → is_made (Global g) h ≡ false → is_made (Global g) (stored_in n j a v h) ≡ false
stored_makes g zero j a v h none = none
stored_makes g (suc n) j a v h none = stored_makes g n (j + 1) a v (written_in a (cut v j) j h) (written_makes g a (cut v j) j h none)

freed_makes : (g : ℕ) (a : Address) (h : History) → is_made (Global g) h ≡ false → is_made (Global g) (freed_in a h) ≡ false
freed_makes g a h none = elim a.base as (λ base. is_made (Global g) (elim base [ None ↦ h | Some x ↦ Free x ∷ h ]) ≡ false) [ None ↦ none | Some x ↦ none ]

abbrev MakesNone : ℕ → Change → Type 0
MakesNone g c = is_alloc_of (Global g) c ≡ false

node_frees : (g : ℕ) (f : Frame) (n : NodeId) (more k : ℕ) → Each (MakesNone g) (frees_of_node f n more k)
node_frees g f n zero k = tt
node_frees g f n (suc more) k = (refl, node_frees g f n more (k + 1))

at_frees : (g : ℕ) (f : Frame) (n : NodeId) (count : ℕ) (x : Node) → Each (MakesNone g) (frees_at f n count x)
at_frees g f n count (node.Alloca size result next) = node_frees g f n count 1
at_frees g f n count _ = tt

all_frees : (g : ℕ) (f : Frame) (k : ℕ) (xs : List Node) → Each (MakesNone g) (frees_from f k xs)
all_frees g f k [] = tt
all_frees g f k (x ∷ xs) =
    let count : ℕ = unwrap_or (slice_get f.counts k) 0 in
    each_append (MakesNone g) (frees_at f (record { 0 = k }) count x) (frees_from f (k + 1) xs) (at_frees g f (record { 0 = k }) count x) (all_frees g f (k + 1) xs)

added_makes : (g : ℕ) (cs h : History) → Each (MakesNone g) cs → is_made (Global g) h ≡ false → is_made (Global g) (cs ++ h) ≡ false
added_makes g [] h all none = none
added_makes g (c ∷ cs) h all none = rw all.0 (added_makes g cs h all.1 none)

returns_makes : (g : ℕ) (p : ProgramData) (v : Option ConcreteValue) (callers : List Frame) (s : State) → is_made (Global g) s.history ≡ false → NeverMakes g (returns p v callers s)
returns_makes g p v [] s h = tt
returns_makes g p v (caller ∷ callers) s h = h

ended_makes : (g : ℕ) (p : ProgramData) (s : State) → is_made (Global g) s.history ≡ false → is_made (Global g) (ended p s).history ≡ false
ended_makes g p s h =
    let frees : History = frees_from s.frame 0 (nodes_of (func_at p s.frame.func)) in
    added_makes g (reverse frees) s.history (each_reverse (MakesNone g) frees (all_frees g s.frame 0 (nodes_of (func_at p s.frame.func)))) h

attempt_makes : (g : ℕ) (p : ProgramData) (input : List ℕ) (n : Node) (s : State) → is_made (Global g) s.history ≡ false → NeverMakes g (attempt p input n s)
attempt_makes g p input (node.Bin op a b result next) s h = unless_makes g (division_fault op (number_in s a) (number_in s b)) s (gives result _ next s) h
attempt_makes g p input (node.Cmp pr a b result next) s h = h
attempt_makes g p input (node.Cast op a result next) s h = h
attempt_makes g p input (node.Gep base parts result next) s h = h
attempt_makes g p input (node.Select condition a b result next) s h = h
attempt_makes g p input (node.Alloca size result next) s h = h
attempt_makes g p input (node.Malloc size result next) s h =
    elim (nat_lt 65536 (number_in s size).bits) as (λ t. NeverMakes g (if t then gives_if result (Ptr null) next s else gives_if result (new_here s) next (allocated (number_in s size).bits s))) [ true ↦ h | false ↦ h ]
attempt_makes g p input (node.Free pointer next) s h =
    unless_makes g (free_fault p s.history (address_in s pointer)) s (to next (with_history (freed_in (address_in s pointer) s.history) s)) (freed_makes g (address_in s pointer) s.history h)
attempt_makes g p input (node.Load pointer result next) s h =
    let t = type_at p s.frame.func result in
    unless_makes g (access_fault p s.history (bytes_of_type t) (address_in s pointer)) s (gives_loaded (loaded p s.history (address_in s pointer) t) result next s)
    (loaded_makes g (loaded p s.history (address_in s pointer) t) result next s h)
attempt_makes g p input (node.Store value pointer next) s h =
    let v : ConcreteValue = value_in s.frame value in
    unless_makes g (access_fault p s.history (bytes_of_value v) (address_in s pointer)) s (to next (with_history (stored_in (bytes_of_value v) 0 (address_in s pointer) v s.history) s))
    (stored_makes g (bytes_of_value v) 0 (address_in s pointer) v s.history h)
attempt_makes g p input (node.Copy from there next) s h =
    let b : ConcreteByte = byte_there p s.history (address_in s from) 0 in
    unless_makes g (access_fault p s.history 1 (address_in s from)) s _
    (unless_makes g (access_fault p s.history 1 (address_in s there)) s (to next (with_history (written_in (address_in s there) b 0 s.history) s)) (written_makes g (address_in s there) b 0 s.history h))
attempt_makes g p input (node.In result next) s h = h
attempt_makes g p input (node.Put value next) s h = h
attempt_makes g p input (node.Call callee args result next) s h = h
attempt_makes g p input (node.Moves sets next) s h = h
attempt_makes g p input (node.Jump next) s h = h
attempt_makes g p input (node.Branch condition first second) s h =
    elim ((number_in s condition).bits == 1) as (λ t. NeverMakes g (if t then branches 0 first s else branches 1 second s)) [ true ↦ h | false ↦ h ]
attempt_makes g p input (node.Switch value cases otherwise) s h = h
attempt_makes g p input (node.Ret value) s h = returns_makes g p (option_map (value_in s.frame) value) s.callers (ended p s) (ended_makes g p s h)
attempt_makes g p input (node.Exit status) s h = tt
attempt_makes g p input node.Abort s h = tt
attempt_makes g p input (node.Assert args) s h = tt
attempt_makes g p input node.Unreachable s h = tt

run_makes : (g : ℕ) (p : ProgramData) (input : List ℕ) (n : ℕ) → NeverMakes g (run p input n)
run_makes g p input zero = rw (run-zero p input) refl
run_makes g p input (suc n) = rw (run-suc p input n) (more (run p input n) (run_makes g p input n))
  where
    more : (r : Run) → NeverMakes g r → NeverMakes g (goes_on p input r)
    more (On s) h = rw (step-attempt p input s) (attempt_makes g p input (node_at p s.frame.func s.frame.node) (with_frame (counted s.frame) s) h)
    more (Over e s) h = tt

-- ---- what is never made, and what is made once

-- what an orderly history doesn't allocate it doesn't write
unmade_unwritten : (frame : List CallStep) (made : CallStep) (h : History) → IsOrderly h → is_made (Made frame made) h ≡ false → Unwritten (Made frame made) h
unmade_unwritten frame made [] o none = tt
unmade_unwritten frame made (Write y j b ∷ h) o none = (known_apart frame made y h o.0 none, unmade_unwritten frame made h o.1 none)
unmade_unwritten frame made (Alloc y size ∷ h) o none = unmade_unwritten frame made h o.1 (neither (same_object (Made frame made) y) (is_made (Made frame made) h) none).1
unmade_unwritten frame made (Free y ∷ h) o none = unmade_unwritten frame made h o.1 none
unmade_unwritten frame made (Get ∷ h) o none = unmade_unwritten frame made h o none
unmade_unwritten frame made (Put b ∷ h) o none = unmade_unwritten frame made h o none

-- no Alloc and no Free is no change of a life
lifeless : (x : ObjectName) (h : History) → is_made x h ≡ false → is_freed x h ≡ false → list_any (is_life_of x) h ≡ false
lifeless x [] made freed = refl
lifeless x (Write y j b ∷ h) made freed = lifeless x h made freed
lifeless x (Alloc y size ∷ h) made freed = let parts = neither (same_object x y) (is_made x h) made in rw parts.0 (lifeless x h parts.1 freed)
lifeless x (Free y ∷ h) made freed = let parts = neither (same_object x y) (is_freed x h) freed in rw parts.0 (lifeless x h made parts.1)
lifeless x (Get ∷ h) made freed = lifeless x h made freed
lifeless x (Put b ∷ h) made freed = lifeless x h made freed

unmade_too : (x y : ObjectName) (h : History) → same_object x y ≡ true → is_made y h ≡ false → is_made x h ≡ false
unmade_too x y h e none = subst (λ z. is_made z h ≡ false) (sym (same_object-true x y e)) none

born_made : (frame : List CallStep) (made : CallStep) (h : History) → IsOrderly h → IsBorn (Made frame made) h
born_made frame made [] o = tt
born_made frame made (Write y j b ∷ h) o = born_made frame made h o.1
born_made frame made (Alloc y size ∷ h) o = (λ e. unmade_unwritten frame made h o.1 (unmade_too (Made frame made) y h e o.0), born_made frame made h o.1)
born_made frame made (Free y ∷ h) o = born_made frame made h o.1
born_made frame made (Get ∷ h) o = born_made frame made h o
born_made frame made (Put b ∷ h) o = born_made frame made h o

once_made : (frame : List CallStep) (made : CallStep) (h : History) → IsOrderly h → IsOnce (Made frame made) h
once_made frame made [] o = tt
once_made frame made (Write y j b ∷ h) o = once_made frame made h o.1
once_made frame made (Alloc y size ∷ h) o =
    (λ e. let none = unmade_too (Made frame made) y h e o.0 in lifeless (Made frame made) h none (unmade_unfreed frame made h o.1 none), once_made frame made h o.1)
once_made frame made (Free y ∷ h) o = once_made frame made h o.1
once_made frame made (Get ∷ h) o = once_made frame made h o
once_made frame made (Put b ∷ h) o = once_made frame made h o

born_never : (x : ObjectName) (h : History) → is_made x h ≡ false → IsBorn x h
born_never x [] none = tt
born_never x (Write y j b ∷ h) none = born_never x h none
born_never x (Alloc y size ∷ h) none = let parts = neither (same_object x y) (is_made x h) none in (λ e. absurd (false≢true (sym parts.0 ∙ e)), born_never x h parts.1)
born_never x (Free y ∷ h) none = born_never x h none
born_never x (Get ∷ h) none = born_never x h none
born_never x (Put b ∷ h) none = born_never x h none

once_never : (x : ObjectName) (h : History) → is_made x h ≡ false → IsOnce x h
once_never x [] none = tt
once_never x (Write y j b ∷ h) none = once_never x h none
once_never x (Alloc y size ∷ h) none = let parts = neither (same_object x y) (is_made x h) none in (λ e. absurd (false≢true (sym parts.0 ∙ e)), once_never x h parts.1)
once_never x (Free y ∷ h) none = once_never x h none
once_never x (Get ∷ h) none = once_never x h none
once_never x (Put b ∷ h) none = once_never x h none

-- ---- in each run

orderly : (p : ProgramData) (input : List ℕ) (n : ℕ) (m : State) → IsWhole p → run p input n ≡ On m → IsOrderly m.history
orderly p input n m whole e = let kept : RunKeeps p (On m) = subst (RunKeeps p) e (run_keeps p input n whole) in kept.orderly

-- what is written to an object is written behind its Alloc
pub run_born : (p : ProgramData) (input : List ℕ) (n : ℕ) (m : State) (x : ObjectName) → IsWhole p → run p input n ≡ On m → IsBorn x m.history
run_born p input n m (Global g) whole e = born_never (Global g) m.history (subst (NeverMakes g) e (run_makes g p input n))
run_born p input n m (Made frame made) whole e = born_made frame made m.history (orderly p input n m whole e)

-- before the object's Alloc its life has no change
pub run_once : (p : ProgramData) (input : List ℕ) (n : ℕ) (m : State) (x : ObjectName) → IsWhole p → run p input n ≡ On m → IsOnce x m.history
run_once p input n m (Global g) whole e = once_never (Global g) m.history (subst (NeverMakes g) e (run_makes g p input n))
run_once p input n m (Made frame made) whole e = once_made frame made m.history (orderly p input n m whole e)
