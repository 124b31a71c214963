-- How what is made, freed, entered and left keeps names.
use Rattle.std.specs.Prelude.{slice_get, unwrap_or, map}
use Rattle.std.proofs.Common.{◌≡◌, ℕ, zero, suc, ◌≤◌, Bool, true, false, ◌||◌, List, [], ◌∷◌, ◌++◌, length, refl, sym, ◌∙◌, ap, subst, ◌⊎◌, inl, inr, arith, append_assoc, length-append}
use Rattle.std.proofs.lemmas.Bool.{cases_eq}
use Rattle.std.specs.List.{AllByRecursion as Each}
use Rattle.flat_ir.specs.declared.names.CallStep.{CallStep}
use Rattle.flat_ir.specs.declared.names.FuncId.{FuncId}
use Rattle.flat_ir.specs.declared.names.NodeId.{NodeId}
use Rattle.flat_ir.specs.declared.names.ObjectName.{ObjectName}
use Rattle.flat_ir.specs.declared.names.ObjectName.TheVariants.{Global, Made}
use Rattle.flat_ir.specs.declared.nodes.Node.{Node}
use Rattle.flat_ir.specs.declared.nodes.Node.TheVariants as node
use Rattle.flat_ir.specs.declared.program.ProgramData.{ProgramData}
use Rattle.flat_ir.specs.declared.values.ConcreteValue.{ConcreteValue}
use Rattle.flat_ir.specs.declared.values.ConcreteByte.{ConcreteByte}
use Rattle.flat_ir.specs.History.{History, Write, Alloc, Free, Get, Put, same_object, is_alive}
use Rattle.flat_ir.specs.Same.{same_object-true, same_object_refl}
use Rattle.flat_ir.specs.Orderly.{is_made, IsKnown, IsOrderly}
use Rattle.flat_ir.specs.Machine.{Frame, node_at, nodes_of, func_at, step_here, count_here, made_here}
use Rattle.flat_ir.specs.Steps.{is_malloc}
use Rattle.flat_ir.specs.MadeNames.{count_at, is_alloca, object_of, IsFrameOf, AreCalled, HasCounted, HoldsObjects, IsKnownValue, IsKnownByte, HoldsKnown, HasKnownBytes, KeepsNames}
use Rattle.flat_ir.proofs.MadeBasics.{cases, or_right, each_map, value_more, alive_made, made_alive, alive_known, unmade_unfreed}
use Rattle.flat_ir.proofs.MadeKept.{Begun, IsQuiet, with_place, called_as, makes_new}

step_of : ObjectName → CallStep → CallStep
step_of (Global g) d = d
step_of (Made frame made) d = made

frame_of : ObjectName → List CallStep
frame_of (Global g) = []
frame_of (Made frame made) = frame

first_of : {A : Type 0} → A → List A → A
first_of d [] = d
first_of d (x ∷ xs) = x

rest_of : {A : Type 0} → List A → List A
rest_of [] = []
rest_of (x ∷ xs) = xs

-- behind the same end there stands the same element
pub same_place : {A : Type 0} (as' bs : List A) (x y : A) (t : List A) → as' ++ x ∷ t ≡ bs ++ y ∷ t → x ≡ y
unfolding first_of rest_of
same_place [] [] x y t e = ap (first_of x) e
same_place [] (b ∷ bs) x y t e =
    let longer : length t ≡ length (bs ++ y ∷ t) = ap (λ l. length (rest_of l)) e in
    absurd (omega (arith, longer, length-append bs (y ∷ t)))
same_place (a ∷ as') [] x y t e =
    let longer : length (as' ++ x ∷ t) ≡ length t = ap (λ l. length (rest_of l)) e in
    absurd (omega (arith, longer, length-append as' (x ∷ t)))
same_place (a ∷ as') (b ∷ bs) x y t e = same_place as' bs x y t (ap rest_of e)

-- the name of a new object, by whether a name is it
new_or_old : (frame : List CallStep) (made : CallStep) (y : ObjectName) (size : ℕ) (h : History)
    → is_made (Made frame made) (Alloc y size ∷ h) ≡ true → (Made frame made ≡ y) ⊎ (is_made (Made frame made) h ≡ true)
new_or_old frame made y size h there =
    elim (cases (same_object (Made frame made) y)) [
      | inl e ↦ inl (same_object-true (Made frame made) y e)
      | inr e ↦ inr (old (same_object (Made frame made) y) (is_made (Made frame made) h) e there)
    ]
  where
    old : (p q : Bool) → p ≡ false → p || q ≡ true → q ≡ true
    old true q e there = cc
    old false q e there = there

path_of : (frame : List CallStep) (made : CallStep) (f : List CallStep) (m : CallStep) → Made frame made ≡ Made f m → made ∷ frame ≡ m ∷ f
unfolding step_of frame_of
path_of frame made f m e = λ i. step_of (e i) made ∷ frame_of (e i)

-- an alive object stays so when another is made
alive_beside_new : (frame : List CallStep) (made : CallStep) (y : ObjectName) (size : ℕ) (h : History)
    → is_alive (Made frame made) h ≡ true → is_alive (Made frame made) (Alloc y size ∷ h) ≡ true
alive_beside_new frame made y size h e =
    let parts = alive_made frame made h e in
    made_alive frame made (Alloc y size ∷ h) (or_right (same_object (Made frame made) y) (is_made (Made frame made) h) parts.0) parts.1

-- where the new object's name ends in a frame's, what stands before is that frame's execution
frame_after_new : (g : Frame) (h : History) (name : List CallStep) (step : CallStep) (size : ℕ) (pre : List CallStep)
    → step ∷ name ≡ pre ++ step_here g ∷ g.name → HasCounted h g → HasCounted (Alloc (Made name step) size ∷ h) g
frame_after_new g h name step size pre through kept above at frame made there path =
    elim (new_or_old frame made (Made name step) size h there) [
      | inl e ↦
          let same : pre ++ step_here g ∷ g.name ≡ above ++ at ∷ g.name = sym through ∙ sym (path_of frame made name step e) ∙ path in
          let is : step_here g ≡ at = same_place pre above (step_here g) at g.name same in
          let C : CallStep → Type 0 = λ s. s.count ≤ count_at g s.node in
          subst C is (omega arith)
      | inr old ↦ kept above at frame made old path
    ]

callers_after_new : (f : Frame) (fs : List Frame) (h : History) (name : List CallStep) (step : CallStep) (size : ℕ) (pre : List CallStep)
    → step ∷ name ≡ pre ++ f.name → AreCalled f fs → Each (HasCounted h) fs → Each (HasCounted (Alloc (Made name step) size ∷ h)) fs
callers_after_new f [] h name step size pre through called kept = tt
callers_after_new f (g ∷ gs) h name step size pre through called kept =
    let here : step ∷ name ≡ pre ++ step_here g ∷ g.name = through ∙ ap (λ l. pre ++ l) called.0 in (
      frame_after_new g h name step size pre here kept.0,
      callers_after_new g gs h name step size (pre ++ step_here g ∷ []) (here ∙ sym (append_assoc pre (step_here g ∷ []) g.name)) called.1 kept.1,
    )

-- a node ends its execution with a new object
pub ends_with_new : (p : ProgramData) (f : Frame) (fs : List Frame) (h : History) (size : ℕ) (n : NodeId) (regs : List ConcreteValue)
    → Begun p f fs h → IsFrameOf p (with_place n regs f) → Each (IsKnownValue p (Alloc (made_here f) size ∷ h)) regs
    → KeepsNames p (with_place n regs f) fs (Alloc (made_here f) size ∷ h)
ends_with_new p f fs h size n regs begun is known =
    let new = makes_new p f fs h begun in
    let H : History = Alloc (made_here f) size ∷ h in
    record {
      orderly = (new, begun.orderly);
      called = called_as f (with_place n regs f) fs refl begun.called;
      frame = is;
      frames = begun.frames;
      counts = λ above step frame made there path. frame_after_new f h f.name (step_here f) size [] refl begun.counts above step frame made there path;
      caller_counts = callers_after_new f fs h f.name (step_here f) size (step_here f ∷ []) refl begun.called begun.caller_counts;
      objects = λ m k alloca least most.
          elim (cases_eq m.0 f.node.0) [
            | inl e ↦ elim (cases_eq k (count_here f)) [
              | inl same ↦
                  let name : made_here f ≡ object_of f m k = λ i. Made f.name (record { func = f.func; node = record { 0 = sym e i }; count = sym same i }) in
                  let A : ObjectName → Type 0 = λ x. is_alive x H ≡ true in
                  subst A name (made_alive f.name (step_here f) H (rw (same_object_refl (made_here f)) refl) (unmade_unfreed f.name (step_here f) h begun.orderly new))
              | inr other ↦ alive_beside_new f.name (record { func = f.func; node = m; count = k }) (made_here f) size h (begun.objects m k alloca least most (λ _. other))
            ]
            | inr apart ↦ alive_beside_new f.name (record { func = f.func; node = m; count = k }) (made_here f) size h (begun.objects m k alloca least most (λ e. absurd (apart e)))
          ];
      caller_objects = each_map (HoldsObjects p h) (HoldsObjects p H) (λ g kept m k alloca least most.
          alive_beside_new g.name (record { func = g.func; node = m; count = k }) (made_here f) size h (kept m k alloca least most)) fs begun.caller_objects;
      values = known;
      caller_values = each_map (HoldsKnown p h) (HoldsKnown p H) (λ g kept. each_map (IsKnownValue p h) (IsKnownValue p H) (value_more p (Alloc (made_here f) size) h) g.regs kept) fs begun.caller_values;
      bytes = begun.bytes;
    }

-- the quiet changes
pub write_is_quiet : (p : ProgramData) (h : History) (x : ObjectName) (k : ℕ) (b : ConcreteByte)
    → IsOrderly h → HasKnownBytes p h → IsKnown x h → IsKnownByte p h b → IsQuiet p h (Write x k b)
write_is_quiet p h x k b orderly bytes known byte = record {
  orderly = (known, orderly);
  made = λ frame made. refl;
  alive = λ frame made alloca alive. alive;
  bytes = (byte, bytes);
}

pub get_is_quiet : (p : ProgramData) (h : History) → IsOrderly h → HasKnownBytes p h → IsQuiet p h Get
get_is_quiet p h orderly bytes = record {
  orderly = orderly;
  made = λ frame made. refl;
  alive = λ frame made alloca alive. alive;
  bytes = bytes;
}

pub put_is_quiet : (p : ProgramData) (h : History) (b : ℕ) → IsOrderly h → HasKnownBytes p h → IsQuiet p h (Put b)
put_is_quiet p h b orderly bytes = record {
  orderly = orderly;
  made = λ frame made. refl;
  alive = λ frame made alloca alive. alive;
  bytes = bytes;
}

alloca_is_no_malloc : (n : Node) → is_alloca n ≡ true → is_malloc n ≡ true → ⊥
alloca_is_no_malloc (node.Alloca size result next) a m = cc
alloca_is_no_malloc _ a m = cc

malloc_of : (p : ProgramData) (f : List CallStep) (m : CallStep) (frame : List CallStep) (made : CallStep) → Made f m ≡ Made frame made
    → is_malloc (node_at p made.func made.node) ≡ true → is_malloc (node_at p m.func m.node) ≡ true
unfolding step_of
malloc_of p f m frame made e malloc =
    let M : ObjectName → Type 0 = λ x. is_malloc (node_at p (step_of x made).func (step_of x made).node) ≡ true in
    subst M (sym e) malloc

pub free_is_quiet : (p : ProgramData) (h : History) (frame : List CallStep) (made : CallStep) → IsOrderly h → HasKnownBytes p h
    → is_alive (Made frame made) h ≡ true → is_malloc (node_at p made.func made.node) ≡ true → IsQuiet p h (Free (Made frame made))
free_is_quiet p h frame made orderly bytes alive malloc = record {
  orderly = (alive_known (Made frame made) h alive, orderly);
  made = λ f m. refl;
  alive = λ f m alloca there.
      elim (cases (same_object (Made f m) (Made frame made))) [
        | inl e ↦
            let both = malloc_of p f m frame made (same_object-true (Made f m) (Made frame made) e) malloc in
            absurd (alloca_is_no_malloc (node_at p m.func m.node) alloca both)
        | inr apart ↦
            let parts = alive_made f m h there in
            made_alive f m (Free (Made frame made) ∷ h) parts.0 (rw (apart) parts.1)
      ];
  bytes = bytes;
}

-- a node that is no Alloca, entered or left, holds all that its Alloca nodes made
pub objects_held : (p : ProgramData) (f : Frame) (fs : List Frame) (h : History) → Begun p f fs h → is_alloca (node_at p f.func f.node) ≡ false → HoldsObjects p h f
objects_held p f fs h begun no_alloca n k alloca least most = begun.objects n k alloca least most (λ e.
    let here : is_alloca (node_at p f.func f.node) ≡ true =
    subst (λ (i : ℕ). is_alloca (unwrap_or (slice_get (nodes_of (func_at p f.func)) i) node.Unreachable) ≡ true) e alloca in
    cc)

abbrev pub none_yet : {A : Type 0} → A → ℕ
none_yet x = 0

pub zero_of_none : {A : Type 0} (xs : List A) (k : ℕ) → unwrap_or (slice_get (map none_yet xs) k) 0 ≡ 0
zero_of_none [] k = refl
zero_of_none (x ∷ xs) zero = refl
zero_of_none (x ∷ xs) (suc k) = zero_of_none xs k

-- the frame that a call makes
abbrev pub new_frame : (p : ProgramData) → FuncId → List ConcreteValue → Frame → Frame
new_frame p callee regs f = record {
  func = callee;
  node = record { 0 = 0 };
  regs = regs;
  name = step_here f ∷ f.name;
  counts = map (λ n. 0) (nodes_of (func_at p callee));
}

pub enters : (p : ProgramData) (f : Frame) (fs : List Frame) (h : History) (callee : FuncId) (regs : List ConcreteValue)
    → Begun p f fs h → is_alloca (node_at p f.func f.node) ≡ false → IsFrameOf p (new_frame p callee regs f) → Each (IsKnownValue p h) regs
    → KeepsNames p (new_frame p callee regs f) (f ∷ fs) h
enters p f fs h callee regs begun no_alloca is known = record {
  orderly = begun.orderly;
  called = (refl, begun.called);
  frame = is;
  frames = (begun.frame, begun.frames);
  counts = λ above step frame made there path.
      absurd (begun.unused (above ++ step ∷ []) frame made there (path ∙ sym (append_assoc above (step ∷ []) (step_here f ∷ f.name))));
  caller_counts = (begun.counts, begun.caller_counts);
  objects = λ n k alloca least most. absurd (omega (arith, least, most, zero_of_none (nodes_of (func_at p callee)) n.0));
  caller_objects = (objects_held p f fs h begun no_alloca, begun.caller_objects);
  values = known;
  caller_values = (begun.values, begun.caller_values);
  bytes = begun.bytes;
}
