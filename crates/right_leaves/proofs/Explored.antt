-- What is explored of a plain setting: the leaves split the inputs that the children split, each keeps the least input, and what it
-- says holds.
use Rattle.std.proofs.Common.{◌≡◌, ℕ, Bool, true, false, ◌+◌, List, [], ◌∷◌, ◌++◌, refl, sym, ◌∙◌, ap, subst, arith, zero-add, add_assoc, inl, inr}
use Rattle.std.specs.List.{AllByRecursion as Each}
use Rattle.std.proofs.lemmas.Bool.{cases_Bool, false≢true}
use Rattle.std.proofs.Math.Nat.{add-zero}
use Rattle.terms.specs.Tree.{Tree}
use Rattle.terms.specs.Value.{are_met_by}
use Rattle.flat_ir.specs.declared.program.ProgramData.{ProgramData}
use Rattle.flat_ir.specs.Sound.{IsInput}
use Rattle.leaves.specs.Events.{Leaf, told_of}
use Rattle.leaves.specs.Fitting.{AreTermsOf}
use Rattle.sym_states.specs.Attempts.{attempt}
use Rattle.sym_states.specs.Exploring.{Setting, context_of, first_state, Reaches, forks, needs, ends, goes, all_of, Evaluates, none, stop, leaf, fork, await, crowd}
use Rattle.sym_states.specs.States.{State, Context, Child, Go, Stop, Step, Goes, Forks, Needs, Ends, node_of}
use Rattle.sym_states.specs.Verdicts.{Unsat}
use Rattle.state_laws.proofs.Programs.{code_of-fits}
use Rattle.agreement.specs.Agreement.{GoesAlong, LeafHolds, ChildGoesAlong, StepGoesAlong}
use Rattle.agreement.specs.Premises.{IsPlainState, none_gave}
use Rattle.sym_states.specs.Splitting.{IsNeverDenied}
use Rattle.agreement.proofs.Whole.{attempts-along}
use Rattle.agreement.proofs.Numbers.{code-distinct}
use Rattle.agreement.proofs.Plain.{ChildIsPlain, StepIsPlain, attempt-plain}
use Rattle.right_leaves.specs.Right.{IsLeast, KeepsLeast, IsPlainSetting}
use Rattle.right_leaves.proofs.Counts.{one_if}
use Rattle.right_leaves.proofs.Programs.{same-context}
use Rattle.right_leaves.proofs.Sides.{Keeps, met_children, ChildrenLeast, StepKeeps}
use Rattle.right_leaves.proofs.Walks.{attempt-keeps}

abbrev pub base : Setting → Context
base e = context_of e (first_state e)

-- ---- what holds of states, children and leaves under an input

abbrev pub StateHolds : Setting → List ℕ → State → Type 0
StateHolds e i s = IsPlainState (base e) e.inputs s × GoesAlong e.program [] i none_gave s

abbrev pub LeafIsRight : Setting → List ℕ → Leaf → Type 0
LeafIsRight e i l = KeepsLeast e.inputs l × LeafHolds e.program [] i l

abbrev pub ChildHolds : Setting → List ℕ → Child → Type 0
ChildHolds e i (Go s) = StateHolds e i s × IsLeast e.inputs s.condition s.kept
ChildHolds e i (Stop l) = LeafIsRight e i l

abbrev pub ChildrenHold : Setting → List ℕ → List Child → Type 0
ChildrenHold e i [] = Unit {0}
ChildrenHold e i (c ∷ cs) = ChildHolds e i c × ChildrenHold e i cs

-- the input meets so many of what is given
abbrev StepHolds : Setting → List ℕ → ℕ → Step → Type 0
StepHolds e i k (Goes s) = StateHolds e i s × Keeps e.inputs i k s
StepHolds e i k (Forks cs) = (met_children i cs ≡ k) × ChildrenHold e i cs
StepHolds e i k (Needs s calls) = ⊥
StepHolds e i k (Ends l) = (one_if (are_met_by i (told_of l).condition) ≡ k) × LeafIsRight e i l

children-hold : (e : Setting) (i : List ℕ) (cs : List Child) → Each (ChildIsPlain (base e) e.inputs) cs → ChildrenLeast e.inputs cs → Each (ChildGoesAlong e.program [] i none_gave) cs → ChildrenHold e i cs
children-hold e i [] plain least along = tt
children-hold e i (Go s ∷ cs) plain least along = (((plain.0, along.0), least.0), children-hold e i cs plain.1 least.1 along.1)
children-hold e i (Stop l ∷ cs) plain least along = ((least.0, along.0), children-hold e i cs plain.1 least.1 along.1)

step-holds : (e : Setting) (i : List ℕ) (k : ℕ) (a : Step) → StepIsPlain (base e) e.inputs a → StepKeeps e.inputs i k a → StepGoesAlong e.program [] i none_gave a → StepHolds e i k a
step-holds e i k (Goes s) plain keeps along = ((plain, along), keeps)
step-holds e i k (Forks cs) plain keeps along = (keeps.0, children-hold e i cs plain keeps.1 along)
step-holds e i k (Needs s calls) plain keeps along = plain
step-holds e i k (Ends l) plain keeps along = (keeps.0, (keeps.1, along))

-- ---- an input that doesn't meet a state's condition meets none of what is given

positive : (b : Bool) (n : ℕ) → one_if b + n ≡ 0 → (b ≡ true → ⊥) × (n ≡ 0)
positive true n e = (λ is. absurd (omega (arith, e)), absurd (omega (arith, e)))
positive false n e = (λ is. false≢true is, omega (arith, e))

none-met : (b : Bool) → one_if b ≡ 0 → b ≡ true → ⊥
none-met true e is = absurd (omega (arith, e))
none-met false e is = false≢true is

unmet-children : (p : ProgramData) (i : List ℕ) (cs : List Child) → met_children i cs ≡ 0 → Each (ChildGoesAlong p [] i none_gave) cs
unmet-children p i [] e = tt
unmet-children p i (Go s ∷ cs) e = let h = positive (are_met_by i s.condition) (met_children i cs) e in (λ met. absurd (h.0 met), unmet-children p i cs h.1)
unmet-children p i (Stop l ∷ cs) e = let h = positive (are_met_by i (told_of l).condition) (met_children i cs) e in (λ met. absurd (h.0 met), unmet-children p i cs h.1)

unmet : (p : ProgramData) (n : ℕ) (i : List ℕ) (a : Step) → StepKeeps n i 0 a → StepGoesAlong p [] i none_gave a
unmet p n i (Goes s) h = λ met. absurd (none-met (are_met_by i s.condition) h.0 met)
unmet p n i (Forks cs) h = unmet-children p i cs h.0
unmet p n i (Needs s calls) h = λ met. absurd (none-met (are_met_by i s.condition) h.0 met)
unmet p n i (Ends l) h = λ met. absurd (none-met (are_met_by i (told_of l).condition) h.0 met)

-- ---- lists of leaves

abbrev pub met_leaves : List ℕ → List Leaf → ℕ
met_leaves i [] = 0
met_leaves i (l ∷ ls) = one_if (are_met_by i (told_of l).condition) + met_leaves i ls

abbrev pub met_lists : List ℕ → List (List Leaf) → ℕ
met_lists i [] = 0
met_lists i (ls ∷ lists) = met_leaves i ls + met_lists i lists

leaves-append : (i : List ℕ) (ls ms : List Leaf) → met_leaves i (ls ++ ms) ≡ met_leaves i ls + met_leaves i ms
leaves-append i [] ms = sym (zero-add (met_leaves i ms))
leaves-append i (l ∷ ls) ms = ap (λ m. one_if (are_met_by i (told_of l).condition) + m) (leaves-append i ls ms) ∙ sym (add_assoc (one_if (are_met_by i (told_of l).condition)) (met_leaves i ls) (met_leaves i ms))

all-count : (i : List ℕ) (lists : List (List Leaf)) → met_leaves i (all_of lists) ≡ met_lists i lists
all-count i [] = refl
all-count i (ls ∷ lists) = leaves-append i ls (all_of lists) ∙ ap (λ m. met_leaves i ls + m) (all-count i lists)

more-leaf : (i : List ℕ) (l : Leaf) (m k : ℕ) → m ≡ k → met_leaves i (l ∷ []) + m ≡ one_if (are_met_by i (told_of l).condition) + k
more-leaf i l m k e = λ j. add-zero (one_if (are_met_by i (told_of l).condition)) j + e j

abbrev pub LeavesHold : Setting → List ℕ → List Leaf → Type 0
LeavesHold e i ls = Each (LeafIsRight e i) ls

abbrev pub AllHold : Setting → List ℕ → List (List Leaf) → Type 0
AllHold e i [] = Unit {0}
AllHold e i (ls ∷ lists) = LeavesHold e i ls × AllHold e i lists

hold-append : (e : Setting) (i : List ℕ) (ls ms : List Leaf) → LeavesHold e i ls → LeavesHold e i ms → LeavesHold e i (ls ++ ms)
hold-append e i [] ms h k = k
hold-append e i (l ∷ ls) ms h k = (h.0, hold-append e i ls ms h.1 k)

all-hold : (e : Setting) (i : List ℕ) (lists : List (List Leaf)) → AllHold e i lists → LeavesHold e i (all_of lists)
all-hold e i [] h = tt
all-hold e i (ls ∷ lists) h = hold-append e i ls (all_of lists) h.0 (all-hold e i lists h.1)

-- the input meets so many of the leaves, and each is right under it
pub record ListsHold (e : Setting) (i : List ℕ) (k : ℕ) (lists : List (List Leaf)) : Type 0 where
  pub count : met_lists i lists ≡ k
  pub leaves : AllHold e i lists

-- ---- attempts

attempt-holds : (e : Setting) (i : List ℕ) (k : ℕ) (s : State) → IsPlainSetting e → IsInput e.inputs i → StateHolds e i s → Keeps e.inputs i k s → StepHolds e i k (attempt (base e) s)
attempt-holds e i k s plain is holds keeps =
    step-holds e i k (attempt (base e) s) (attempt-plain (base e) e.inputs s plain.plain holds.0) (kept k keeps) (elim (cases_Bool (are_met_by i s.condition)) [
      | inl met ↦ attempts-along (base e) i s plain.plain plain.distinct never (subst (λ n. IsInput n i) (sym holds.0.fits.size) is) (subst (λ n. IsPlainState (base e) n s) (sym is.0) holds.0) (holds.1 met) met
      | inr away ↦ unmet e.program e.inputs i (attempt (base e) s) (kept 0 (ap one_if away, keeps.1))
    ])
  where
    kept : (m : ℕ) → Keeps e.inputs i m s → StepKeeps e.inputs i m (attempt (base e) s)
    kept m h =
        attempt-keeps (base e) e.inputs i m plain.plain.fitting plain.verdicts s plain.plain.program.regs (code_of-fits e.program s.frame plain.plain.program) (code-distinct e.program s.frame.func (node_of s.frame.place) plain.distinct) holds.0.fits h

    never : IsNeverDenied (base e) i
    never = subst (λ n. (condition : List Tree) → AreTermsOf n 1 condition → e.verdict condition n ≡ Unsat → are_met_by i condition ≡ false) (sym is.0) (λ condition. plain.verdicts.unsat condition i)

-- ---- what is reached, and the leaves below it

attempted : (e : Setting) (i : List ℕ) (k : ℕ) (s : State) (a : Step) → IsPlainSetting e → IsInput e.inputs i → StateHolds e i s → Keeps e.inputs i k s → attempt (context_of e s) s ≡ a → StepHolds e i k a
attempted e i k s a plain is holds keeps gives =
    subst (StepHolds e i k) (ap (λ c. attempt c s) (sym (same-context e s holds.0.no_calls.target)) ∙ gives) (attempt-holds e i k s plain is holds keeps)

reaches-holds : (e : Setting) (i : List ℕ) (k : ℕ) (s : State) (a : Step) → IsPlainSetting e → IsInput e.inputs i → StateHolds e i s → Keeps e.inputs i k s → Reaches e s a → StepHolds e i k a
reaches-holds e i k s a plain is holds keeps (forks _ cs gives) = attempted e i k s (Forks cs) plain is holds keeps gives
reaches-holds e i k s a plain is holds keeps (needs _ t calls gives) = attempted e i k s (Needs t calls) plain is holds keeps gives
reaches-holds e i k s a plain is holds keeps (ends _ l gives) = attempted e i k s (Ends l) plain is holds keeps gives
reaches-holds e i k s a plain is holds keeps (goes _ t _ gives more) =
    let next = attempted e i k s (Goes t) plain is holds keeps gives in
    reaches-holds e i k t a plain is next.0 next.1 more

child-reaches : (e : Setting) (i : List ℕ) (s : State) (a : Step) → IsPlainSetting e → IsInput e.inputs i → ChildHolds e i (Go s) → Reaches e s a → StepHolds e i (one_if (are_met_by i s.condition)) a
child-reaches e i s a plain is h r = reaches-holds e i (one_if (are_met_by i s.condition)) s a plain is h.0 (refl, h.1) r

pub evaluates-hold : {e : Setting} {children : List Child} {lists : List (List Leaf)} {tasks : ℕ} → Evaluates e children lists tasks → (i : List ℕ) → IsPlainSetting e → IsInput e.inputs i → ChildrenHold e i children → ListsHold e i (met_children i children) lists
evaluates-hold none i plain is h = record { count = refl; leaves = tt }
evaluates-hold {e = e} (stop l more lists tasks g) i plain is h =
    let rest = evaluates-hold g i plain is h.1 in
    record { count = more-leaf i l (met_lists i lists) _ rest.count; leaves = ((h.0, tt), rest.leaves) }
evaluates-hold {e = e} (leaf s l more lists tasks r g) i plain is h =
    let rest = evaluates-hold g i plain is h.1 in
    let end = child-reaches e i s (Ends l) plain is h.0 r in
    record { count = more-leaf i l (met_lists i lists) _ rest.count ∙ ap (λ m. m + met_children i more) end.0; leaves = ((end.1, tt), rest.leaves) }
evaluates-hold {e = e} (fork s children below m more lists tasks r f g) i plain is h =
    let rest = evaluates-hold g i plain is h.1 in
    let forked = child-reaches e i s (Forks children) plain is h.0 r in
    let under = evaluates-hold f i plain is forked.1 in
    record {
      count = (λ j. (all-count i below ∙ under.count ∙ forked.0) j + rest.count j);
      leaves = (all-hold e i below under.leaves, rest.leaves);
    }
evaluates-hold {e = e} (await s t calls results k children below m more lists tasks r roots gives f g) i plain is h = absurd (child-reaches e i s (Needs t calls) plain is h.0 r)
evaluates-hold {e = e} (crowd s t calls results k l more lists tasks r roots gives g) i plain is h = absurd (child-reaches e i s (Needs t calls) plain is h.0 r)
