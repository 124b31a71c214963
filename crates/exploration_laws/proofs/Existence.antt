-- Each state reaches an answer, and each exploration has its leaves: the steps left fall, or a recovery's frames do.
use Rattle.std.proofs.Common.{◌≡◌, ℕ, zero, suc, ◌+◌, ◌<◌, ◌≤◌, List, [], ◌∷◌, Option, Some, None, refl, sym, ◌∙◌, ap, subst, arith, ◌⊎◌, inl, inr}
use Rattle.std.specs.List.{AllByRecursion as Each}
use Rattle.flat_ir.specs.declared.names.Location.TheVariants as location
use Rattle.flat_ir.specs.declared.values.FaultKind.{FaultKind}
use Rattle.flat_ir.specs.declared.values.FaultKind.TheVariants as fault
use Rattle.sym_bytes.specs.declared.names.CallId.{CallId}
use Rattle.sym_bytes.specs.Answers as answers
use Rattle.sym_bytes.specs.Value.{SymValue}
use Rattle.log_laws.specs.Needs.{need}
use Rattle.leaves.specs.declared.options.Cause.TheVariants.{Steps}
use Rattle.leaves.specs.Events.{Leaf, told_of}
use Rattle.sym_states.specs.declared.frames.Place.{Place}
use Rattle.sym_states.specs.declared.frames.Place.TheVariants.{At, End, Never}
use Rattle.sym_states.specs.declared.frames.Target.{Target}
use Rattle.sym_states.specs.Attempts.{executes, with_left, faulted, completed, ended, ends_first, leaves_to, fails_in, attempt_at, attempt}
use Rattle.sym_states.specs.Exploring.{Setting, context_of, first_state, roots_of, all_of, Reaches, forks, needs, ends, goes, Evaluates, none, stop, leaf, fork, await, crowd}
use Rattle.sym_states.specs.Merging.{merged}
use Rattle.sym_states.specs.States.{Frame, State, Context, Child, Go, Stop, Step, Goes, Forks, Needs, Ends, Needed, then_step, unless_needed, code_of, opens}
use Rattle.exploration_laws.specs.Falls.{IsPlaced, left_of, ChildIsPlaced, ChildrenFall, ChildrenHaveNoMore, StepFalls, MergeHasNoMore}
use Rattle.exploration_laws.specs.Exist.{HasAnswer, HasEvaluation, AnswersAreReached, EvaluationsExist, ExplorationsExist}
use Rattle.exploration_laws.proofs.Givers.{StepIsFrom, begins-same}
use Rattle.exploration_laws.proofs.Walks.{executes-from}
use Rattle.exploration_laws.proofs.Attempts.{anywhere, giver_of, anything, keeps-anything, attempts-fall}
use Rattle.exploration_laws.proofs.Merges.{roots-fall, merges-fall}

-- ---- what goes on has fewer steps left, or as many and a frame less

pub record IsShorter (s t : State) : Type 0 where
  pub left : t.left ≡ s.left
  pub caller : Frame
  pub callers : s.callers ≡ caller ∷ t.callers

abbrev state-of : State → Step → State
state-of s (Goes t) = t
state-of s (Forks cs) = s
state-of s (Needs t calls) = s
state-of s (Ends l) = s

fails-stays : (target : Option Target) (kind : FaultKind) (s t : State) → fails_in target kind s ≡ Goes t → ⊥
fails-stays None kind s t e = waits (need answers.Output s.memory.log) e
  where
    waits : (calls : List CallId) → then_step (unless_needed location.Output calls s) (faulted kind) ≡ Goes t → ⊥
    waits [] h = cc
    waits (call ∷ calls) h = cc
fails-stays (Some target) kind s t e = cc

first-stays : (target : Option Target) (v : Option SymValue) (s t : State) → ends_first target v s ≡ Goes t → ⊥
first-stays None v s t e = waits (need answers.Output s.memory.log) e
  where
    waits : (calls : List CallId) → then_step (unless_needed location.Output calls s) (completed v) ≡ Goes t → ⊥
    waits [] h = cc
    waits (call ∷ calls) h = cc
first-stays (Some target) v s t e = cc

fewer : (n left all : ℕ) → n ≡ left → all ≡ suc left → n < all
fewer n left all e f = omega (arith, e, f)

leaves-less : (c : Context) (callers : List Frame) (s t : State) → s.callers ≡ callers → leaves_to c None callers (ended c s) ≡ Goes t → IsShorter s t
leaves-less c [] s t is e = absurd (first-stays s.target None (ended c s) t e)
leaves-less c (caller ∷ callers) s t is e = record {
  left = ap (λ a. (state-of s a).left) (sym e);
  caller = caller;
  callers = is ∙ ap (λ a. caller ∷ (state-of s a).callers) e;
}

at-less : (c : Context) (place : Place) (s t : State) → attempt_at c place s ≡ Goes t → (t.left < s.left) ⊎ IsShorter s t
at-less c (At n) s t =
    elim s.left as (λ m. s.left ≡ m → elim m [ zero ↦ opens Steps s | suc left ↦ executes c (code_of c.program s.frame) (with_left left s) ] ≡ Goes t → (t.left < s.left) ⊎ IsShorter s t) [
      | zero ↦ (λ is e. absurd (no-going e))
      | suc left ↦ (λ is e. inl (fewer t.left left s.left (subst (StepIsFrom (giver_of anything s left anywhere)) e (given left)).1.0 is))
    ]
    refl
  where
    no-going : opens Steps s ≡ Goes t → ⊥
    no-going e = cc

    given : (left : ℕ) → StepIsFrom (giver_of anything s left anywhere) (executes c (code_of c.program s.frame) (with_left left s))
    given left = executes-from c (giver_of anything s left anywhere) (λ k frame. tt) (λ f. tt) (keeps-anything c) (code_of c.program s.frame) (with_left left s) (begins-same s.condition, (refl, ((refl, tt), tt)))
at-less c End s t = λ e. inr (leaves-less c s.callers s t refl e)
at-less c (Never n) s t = λ e. absurd (fails-stays s.target fault.NoReturn s t e)

-- ---- answers are reached

with-answer : (e : Setting) (s : State) (a : Step) → attempt (context_of e s) s ≡ a → ((t : State) → attempt (context_of e s) s ≡ Goes t → HasAnswer e t) → HasAnswer e s
with-answer e s (Goes t) is more = let h = more t is in record { answer = h.answer; reached = goes s t h.answer is h.reached }
with-answer e s (Forks cs) is more = record { answer = Forks cs; reached = forks s cs is }
with-answer e s (Needs t calls) is more = record { answer = Needs t calls; reached = needs s t calls is }
with-answer e s (Ends l) is more = record { answer = Ends l; reached = ends s l is }

below : (n m bound : ℕ) → n < m → m < suc bound → n < bound
below n m bound h k = omega (arith, h, k)

same-below : (n m bound : ℕ) → n ≡ m → m < suc bound → n < suc bound
same-below n m bound h k = omega (arith, h, k)

abbrev rest : List Frame → List Frame
rest [] = []
rest (f ∷ fs) = fs

within : (bound : ℕ) (e : Setting) → ((t : State) → t.left < bound → HasAnswer e t) → (frames : List Frame) (s : State) → s.left < suc bound → s.callers ≡ frames → HasAnswer e s
within bound e smaller [] s h is = with-answer e s (attempt (context_of e s) s) refl (λ t gives. elim (at-less (context_of e s) s.frame.place s t gives) [
  | inl fall ↦ smaller t (below t.left s.left bound fall h)
  | inr shorter ↦ absurd (no-frame shorter.caller t.callers (sym shorter.callers ∙ is))
])
  where
    no-frame : (f : Frame) (fs : List Frame) → f ∷ fs ≡ [] → ⊥
    no-frame f fs e = cc
within bound e smaller (f ∷ frames) s h is = with-answer e s (attempt (context_of e s) s) refl (λ t gives. elim (at-less (context_of e s) s.frame.place s t gives) [
  | inl fall ↦ smaller t (below t.left s.left bound fall h)
  | inr shorter ↦ within bound e smaller frames t (same-below t.left s.left bound shorter.left h) (ap rest (sym shorter.callers ∙ is))
])

bounded : (bound : ℕ) (e : Setting) (t : State) → t.left < bound → HasAnswer e t
bounded zero e t h = absurd (omega (arith, h))
bounded (suc bound) e t h = within bound e (bounded bound e) t.callers t h refl

more : (n : ℕ) → n < suc n
more n = omega arith

pub answers-reached : AnswersAreReached
answers-reached e s = bounded (suc s.left) e s (more s.left)

-- ---- what is reached has fewer steps left

at-most : (n m left : ℕ) → n < m → m ≤ left → n < left
at-most n m left h k = omega (arith, h, k)

no-more : (n m left : ℕ) → n ≤ m → m ≤ left → n ≤ left
no-more n m left h k = omega (arith, h, k)

under : (n m left : ℕ) → n ≤ m → m < left → n < left
under n m left h k = omega (arith, h, k)

children-through : (less left : ℕ) (cs : List Child) → less ≤ left → ChildrenFall less cs → ChildrenFall left cs
children-through less left [] h k = tt
children-through less left (c ∷ cs) h k = ((at-most (left_of c) less left k.0.0 h, k.0.1), children-through less left cs h k.1)

step-through : (less left : ℕ) (a : Step) → less ≤ left → StepFalls less a → StepFalls left a
step-through less left (Goes s) h k = (no-more s.left less left k.0 h, k.1)
step-through less left (Forks cs) h k = children-through less left cs h k
step-through less left (Needs s calls) h k = ((at-most s.left less left k.0.0 h, k.0.1), k.1)
step-through less left (Ends l) h k = no-more (told_of l).left less left k h

attempted : (e : Setting) (s : State) (a : Step) → IsPlaced s → attempt (context_of e s) s ≡ a → StepFalls s.left a
attempted e s a placed is = subst (StepFalls s.left) is (attempts-fall e s placed)

pub reaches-fall : (e : Setting) (s : State) (a : Step) → IsPlaced s → Reaches e s a → StepFalls s.left a
reaches-fall e s a placed (forks _ cs is) = attempted e s (Forks cs) placed is
reaches-fall e s a placed (needs _ t calls is) = attempted e s (Needs t calls) placed is
reaches-fall e s a placed (ends _ l is) = attempted e s (Ends l) placed is
reaches-fall e s a placed (goes _ t _ is r) = let h = attempted e s (Goes t) placed is in step-through t.left s.left a h.0 (reaches-fall e t a h.1 r)

-- what is reached doesn't go on
no-going : (e : Setting) (s : State) (a : Step) → Reaches e s a → (t : State) → a ≡ Goes t → ⊥
no-going e s a (forks _ cs is) t same = cc
no-going e s a (needs _ u calls is) t same = cc
no-going e s a (ends _ l is) t same = cc
no-going e s a (goes _ u _ is r) t same = no-going e u a r t same

-- ---- evaluations exist

-- a state's leaves, beside those of any other children
pub record HasLeaves (e : Setting) (s : State) : Type 0 where
  pub leaves : List Leaf
  pub tasks : ℕ
  pub beside : (others : List Child) (lists : List (List Leaf)) (n : ℕ) → Evaluates e others lists n → Evaluates e (Go s ∷ others) (leaves ∷ lists) (tasks + n)

fall-under : (less left : ℕ) (cs : List Child) → less < left → ChildrenHaveNoMore less cs → ChildrenFall left cs
fall-under less left [] h k = tt
fall-under less left (c ∷ cs) h k = ((under (left_of c) less left k.0.0 h, k.0.1), fall-under less left cs h k.1)

after-merge : (e : Setting) (s t : State) (calls : List Needed) (left : ℕ) (results : HasEvaluation e (roots_of e t calls)) (a : Step) → t.left < left → Reaches e s (Needs t calls)
    → ((cs : List Child) → ChildrenFall left cs → HasEvaluation e cs) → merged (context_of e t) t calls results.lists ≡ a → MergeHasNoMore t.left a → HasLeaves e s
after-merge e s t calls left results (Goes u) fall r smaller is h = absurd h
after-merge e s t calls left results (Forks cs) fall r smaller is h =
    let below = smaller cs (fall-under t.left left cs fall h) in
    record {
      leaves = all_of below.lists;
      tasks = below.tasks + (results.tasks + 2);
      beside = λ others lists n g. await s t calls results.lists results.tasks cs below.lists below.tasks others lists n r results.evaluated is below.evaluated g;
    }
after-merge e s t calls left results (Needs u needed) fall r smaller is h = absurd h
after-merge e s t calls left results (Ends l) fall r smaller is h = record {
  leaves = l ∷ [];
  tasks = results.tasks + 2;
  beside = λ others lists n g. crowd s t calls results.lists results.tasks l others lists n r results.evaluated is g;
}

after-reach : (e : Setting) (s : State) (left : ℕ) (a : Step) → Reaches e s a → ((cs : List Child) → ChildrenFall left cs → HasEvaluation e cs) → StepFalls left a → HasLeaves e s
after-reach e s left (Goes t) r smaller h = absurd (no-going e s (Goes t) r t refl)
after-reach e s left (Forks cs) r smaller h =
    let below = smaller cs h in
    record { leaves = all_of below.lists; tasks = below.tasks + 1; beside = λ others lists n g. fork s cs below.lists below.tasks others lists n r below.evaluated g }
after-reach e s left (Needs t calls) r smaller h =
    let results = smaller (roots_of e t calls) (fall-under t.left left (roots_of e t calls) h.0.0 (roots-fall e t calls h.0.1)) in
    after-merge e s t calls left results (merged (context_of e t) t calls results.lists) h.0.0 r smaller refl (merges-fall (context_of e t) t calls results.lists h.0.1)
after-reach e s left (Ends l) r smaller h = record { leaves = l ∷ []; tasks = 1; beside = λ others lists n g. leaf s l others lists n r g }

state-leaves : (e : Setting) (s : State) (left : ℕ) → s.left ≤ left → IsPlaced s → ((cs : List Child) → ChildrenFall left cs → HasEvaluation e cs) → HasLeaves e s
state-leaves e s left h placed smaller =
    let a = answers-reached e s in
    after-reach e s left a.answer a.reached smaller (step-through s.left left a.answer h (reaches-fall e s a.answer placed a.reached))

at-bound : (n bound : ℕ) → n < suc bound → n ≤ bound
at-bound n bound h = omega (arith, h)

each-evaluated : (e : Setting) (bound : ℕ) → ((cs : List Child) → ChildrenFall bound cs → HasEvaluation e cs) → (cs : List Child) → ChildrenFall (suc bound) cs → HasEvaluation e cs
each-evaluated e bound smaller [] h = record { lists = []; tasks = 0; evaluated = none }
each-evaluated e bound smaller (Stop l ∷ cs) h =
    let others = each-evaluated e bound smaller cs h.1 in
    record { lists = (l ∷ []) ∷ others.lists; tasks = 1 + others.tasks; evaluated = stop l cs others.lists others.tasks others.evaluated }
each-evaluated e bound smaller (Go s ∷ cs) h =
    let others = each-evaluated e bound smaller cs h.1 in
    let first = state-leaves e s bound (at-bound s.left bound h.0.0) h.0.1 smaller in
    record { lists = first.leaves ∷ others.lists; tasks = first.tasks + others.tasks; evaluated = first.beside cs others.lists others.tasks others.evaluated }

nothing-falls : (e : Setting) (cs : List Child) → ChildrenFall 0 cs → HasEvaluation e cs
nothing-falls e [] h = record { lists = []; tasks = 0; evaluated = none }
nothing-falls e (c ∷ cs) h = absurd (no-less (left_of c) h.0.0)
  where
    no-less : (n : ℕ) → n < 0 → ⊥
    no-less n k = omega (arith, k)

evaluated-under : (e : Setting) (bound : ℕ) (cs : List Child) → ChildrenFall bound cs → HasEvaluation e cs
evaluated-under e zero cs h = nothing-falls e cs h
evaluated-under e (suc bound) cs h = each-evaluated e bound (evaluated-under e bound) cs h

-- more steps than any of the children has left
abbrev above : List Child → ℕ
above [] = 1
above (c ∷ cs) = left_of c + above cs

first-above : (n m : ℕ) → 1 ≤ m → n < n + m
first-above n m h = omega (arith, h)

rest-above : (n m : ℕ) → m ≤ n + m
rest-above n m = omega arith

some-above : (cs : List Child) → 1 ≤ above cs
some-above [] = more 0
some-above (c ∷ cs) = no-more 1 (above cs) (left_of c + above cs) (some-above cs) (rest-above (left_of c) (above cs))

all-above : (cs : List Child) → Each ChildIsPlaced cs → ChildrenFall (above cs) cs
all-above [] h = tt
all-above (c ∷ cs) h = ((first-above (left_of c) (above cs) (some-above cs), h.0), children-through (above cs) (left_of c + above cs) cs (rest-above (left_of c) (above cs)) (all-above cs h.1))

pub evaluations-exist : EvaluationsExist
evaluations-exist e cs h = evaluated-under e (above cs) cs (all-above cs h)

pub explorations-exist : ExplorationsExist
explorations-exist e =
    let s = first_state e in
    let found = state-leaves e s s.left (no-more s.left s.left s.left (at-bound s.left s.left (more s.left)) (at-bound s.left s.left (more s.left))) tt (evaluated-under e s.left) in
    record { leaves = found.leaves; tasks = found.tasks + 0; explored = found.beside [] [] 0 none }
