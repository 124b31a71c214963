-- How the effects of a step keep names.
use Rattle.std.specs.Prelude.{slice_get, unwrap_or}
use Rattle.std.proofs.Common.{◌≡◌, ◌≢◌, ℕ, ◌+◌, ◌<◌, ◌≤◌, true, false, List, [], ◌∷◌, ◌++◌, length, refl, sym, ◌∙◌, ap, subst, ◌⊎◌, inl, inr, arith}
use Rattle.std.proofs.lemmas.List.{length-set}
use Rattle.std.proofs.lemmas.Bool.{cases_eq}
use Rattle.std.specs.List.{AllByRecursion as Each}
use Rattle.flat_ir.specs.declared.names.CallStep.{CallStep}
use Rattle.flat_ir.specs.declared.names.NodeId.{NodeId}
use Rattle.flat_ir.specs.declared.names.ObjectName.TheVariants.{Made}
use Rattle.flat_ir.specs.declared.nodes.Node.TheVariants as node
use Rattle.flat_ir.specs.declared.program.ProgramData.{ProgramData}
use Rattle.flat_ir.specs.declared.values.ConcreteValue.{ConcreteValue}
use Rattle.flat_ir.specs.History.{History, Change, is_alive}
use Rattle.flat_ir.specs.Orderly.{is_made, IsOrderly}
use Rattle.flat_ir.specs.Machine.{Frame, node_at, nodes_of, func_at, step_here, count_here, counted, made_here}
use Rattle.flat_ir.specs.MadeNames.{count_at, is_alloca, object_of, IsFrameOf, AreCalled, HasCounted, HoldsObjects, IsKnownValue, HoldsKnown, HasKnownBytes, KeepsNames}
use Rattle.flat_ir.proofs.MadeBasics.{cases, each_map, set_here, set_elsewhere, value_more}

-- the frame with its node and registers changed
abbrev pub with_place : NodeId → List ConcreteValue → Frame → Frame
with_place n regs f = record { func = f.func; node = n; regs = regs; name = f.name; counts = f.counts }

pub called_as : (f g : Frame) (fs : List Frame) → f.name ≡ g.name → AreCalled f fs → AreCalled g fs
called_as f g [] e called = sym e ∙ called
called_as f g (c ∷ cs) e called = (sym e ∙ called.0, called.1)

-- a node that was counted has one execution more, and each other as many as before
pub count_of_counted : (f : Frame) (n : NodeId) → f.node.0 < length f.counts
    → ((n.0 ≡ f.node.0) × (count_at (counted f) n ≡ count_at f n + 1)) ⊎ ((n.0 ≡ f.node.0 → ⊥) × (count_at (counted f) n ≡ count_at f n))
count_of_counted f n within =
    elim (cases_eq n.0 f.node.0) [
      | inl e ↦ inl (e, rw e (set_here f.counts f.node.0 (count_here f + 1) 0 within))
      | inr apart ↦ inr (apart, set_elsewhere f.counts f.node.0 n.0 (count_here f + 1) 0 (λ e. apart (sym e)))
    ]

pub count_here_counted : (f : Frame) → f.node.0 < length f.counts → count_here (counted f) ≡ count_here f + 1
count_here_counted f within = set_here f.counts f.node.0 (count_here f + 1) 0 within

-- What is kept while a node that was counted is executed: its own execution has made nothing yet.
pub record Begun (p : ProgramData) (f : Frame) (fs : List Frame) (h : History) : Type 0 where
  pub orderly : IsOrderly h
  pub called : AreCalled f fs
  pub frame : IsFrameOf p f
  pub frames : Each (IsFrameOf p) fs
  pub counts : HasCounted h f
  pub caller_counts : Each (HasCounted h) fs
  pub unused : (above frame : List CallStep) (made : CallStep) → is_made (Made frame made) h ≡ true → made ∷ frame ≡ above ++ step_here f ∷ f.name → ⊥
  pub objects : (n : NodeId) (k : ℕ) → is_alloca (node_at p f.func n) ≡ true → 1 ≤ k → k ≤ count_at f n → (n.0 ≡ f.node.0 → k ≢ count_here f) → is_alive (object_of f n k) h ≡ true
  pub caller_objects : Each (HoldsObjects p h) fs
  pub values : HoldsKnown p h f
  pub caller_values : Each (HoldsKnown p h) fs
  pub bytes : HasKnownBytes p h

within_counts : (p : ProgramData) (f : Frame) → IsFrameOf p f → f.node.0 < length f.counts
within_counts p f is = omega (arith, is.node, is.counts)

frame_counted : (p : ProgramData) (f : Frame) → IsFrameOf p f → IsFrameOf p (counted f)
frame_counted p f is = record {
  func = is.func;
  there = is.there;
  node = is.node;
  counts = length-set f.counts f.node.0 (count_here f + 1) ∙ is.counts;
}

-- counting the node begins its execution
pub begins : (p : ProgramData) (f : Frame) (fs : List Frame) (h : History) → KeepsNames p f fs h → Begun p (counted f) fs h
begins p f fs h kept =
    let within = within_counts p f kept.frame in
    record {
      orderly = kept.orderly;
      called = called_as f (counted f) fs refl kept.called;
      frame = frame_counted p f kept.frame;
      frames = kept.frames;
      counts = λ above step frame made there path.
          let before = kept.counts above step frame made there path in
          elim (count_of_counted f step.node within) [
            | inl more ↦ omega (arith, before, more.1)
            | inr same ↦ omega (arith, before, same.1)
          ];
      caller_counts = kept.caller_counts;
      unused = λ above frame made there path.
          let before : count_here (counted f) ≤ count_here f = kept.counts above (step_here (counted f)) frame made there path in
          absurd (omega (arith, before, count_here_counted f within));
      objects = λ n k alloca least most other.
          elim (count_of_counted f n within) [
            | inl more ↦
                let here : count_at f n ≡ count_here f = ap (λ (i : ℕ). unwrap_or (slice_get f.counts i) 0) more.0 in
                let not_here = other more.0 in
                elim (cases_eq k (count_at f n + 1)) [
                  | inl e ↦ absurd (not_here (e ∙ ap (λ (i : ℕ). i + 1) here ∙ sym (count_here_counted f within)))
                  | inr apart ↦ kept.objects n k alloca least (at_most k (count_at f n) (count_at (counted f) n) most more.1 apart)
                ]
            | inr same ↦ kept.objects n k alloca least (rw (← same.1) most)
          ];
      caller_objects = kept.caller_objects;
      values = kept.values;
      caller_values = kept.caller_values;
      bytes = kept.bytes;
    }
  where
    at_most : (k c d : ℕ) → k ≤ d → d ≡ c + 1 → (k ≡ c + 1 → ⊥) → k ≤ c
    at_most k c d most e apart = elim (cases_eq k (c + 1)) [ inl same ↦ absurd (apart same) | inr other ↦ omega (arith, most, e, other) ]

-- what the node makes has a new name
pub makes_new : (p : ProgramData) (f : Frame) (fs : List Frame) (h : History) → Begun p f fs h → is_made (made_here f) h ≡ false
makes_new p f fs h begun =
    elim (cases (is_made (made_here f) h)) [
      | inl e ↦ absurd (begun.unused [] f.name (step_here f) e refl)
      | inr e ↦ e
    ]

-- a node that is no Alloca ends its execution where it leads
pub ends_at : (p : ProgramData) (f : Frame) (fs : List Frame) (h : History) (n : NodeId) (regs : List ConcreteValue)
    → Begun p f fs h → is_alloca (node_at p f.func f.node) ≡ false → IsFrameOf p (with_place n regs f) → Each (IsKnownValue p h) regs
    → KeepsNames p (with_place n regs f) fs h
ends_at p f fs h n regs begun no_alloca is known = record {
  orderly = begun.orderly;
  called = called_as f (with_place n regs f) fs refl begun.called;
  frame = is;
  frames = begun.frames;
  counts = begun.counts;
  caller_counts = begun.caller_counts;
  objects = λ m k alloca least most. begun.objects m k alloca least most (λ e.
      let here : is_alloca (node_at p f.func f.node) ≡ true =
      subst (λ (i : ℕ). is_alloca (unwrap_or (slice_get (nodes_of (func_at p f.func)) i) node.Unreachable) ≡ true) e alloca in
      cc);
  caller_objects = begun.caller_objects;
  values = known;
  caller_values = begun.caller_values;
  bytes = begun.bytes;
}

-- a change that makes nothing and ends no frame's object
pub record IsQuiet (p : ProgramData) (h : History) (c : Change) : Type 0 where
  pub orderly : IsOrderly (c ∷ h)
  pub made : (frame : List CallStep) (made : CallStep) → is_made (Made frame made) (c ∷ h) ≡ is_made (Made frame made) h
  pub alive : (frame : List CallStep) (made : CallStep) → is_alloca (node_at p made.func made.node) ≡ true
      → is_alive (Made frame made) h ≡ true → is_alive (Made frame made) (c ∷ h) ≡ true
  pub bytes : HasKnownBytes p (c ∷ h)

pub quiet_change : (p : ProgramData) (f : Frame) (fs : List Frame) (h : History) (c : Change) → Begun p f fs h → IsQuiet p h c → Begun p f fs (c ∷ h)
quiet_change p f fs h c begun quiet = record {
  orderly = quiet.orderly;
  called = begun.called;
  frame = begun.frame;
  frames = begun.frames;
  counts = λ above step frame made there path. begun.counts above step frame made (sym (quiet.made frame made) ∙ there) path;
  caller_counts = each_map (HasCounted h) (HasCounted (c ∷ h)) (λ g kept above step frame made there path. kept above step frame made (sym (quiet.made frame made) ∙ there) path) fs begun.caller_counts;
  unused = λ above frame made there path. begun.unused above frame made (sym (quiet.made frame made) ∙ there) path;
  objects = λ n k alloca least most other.
      quiet.alive f.name (record { func = f.func; node = n; count = k }) alloca (begun.objects n k alloca least most other);
  caller_objects = each_map (HoldsObjects p h) (HoldsObjects p (c ∷ h)) (λ g kept n k alloca least most.
      quiet.alive g.name (record { func = g.func; node = n; count = k }) alloca (kept n k alloca least most)) fs begun.caller_objects;
  values = each_map (IsKnownValue p h) (IsKnownValue p (c ∷ h)) (value_more p c h) f.regs begun.values;
  caller_values = each_map (HoldsKnown p h) (HoldsKnown p (c ∷ h)) (λ g kept. each_map (IsKnownValue p h) (IsKnownValue p (c ∷ h)) (value_more p c h) g.regs kept) fs begun.caller_values;
  bytes = quiet.bytes;
}
