-- Attempts and whole explorations split the inputs, and keep the least ones.
use Rattle.std.proofs.Common.{◌≡◌, ℕ, ◌+◌, List, [], ◌∷◌, ◌++◌, map, Option, Some, None, refl, sym, ◌∙◌, ap, subst, arith, zero-add, add_assoc}
use Rattle.std.specs.Prelude.{cond, count_by, slice_get, ◌-◌}
use Rattle.std.specs.List.{AllByRecursion as Each}
use Rattle.std.proofs.lemmas.List.Elements.{All-from_recursion}
use Rattle.std.proofs.lemmas.List.Sums.{sum_by-cons}
use Rattle.std.proofs.Math.Nat.{add-zero}
use Rattle.terms.specs.Tree.{Tree}
use Rattle.flat_ir.specs.declared.names.Location.{Location}
use Rattle.flat_ir.specs.Sound.{IsInput}
use Rattle.leaves.specs.Claims.{claim_of}
use Rattle.leaves.specs.Events.{Leaf, told_of}
use Rattle.sym_states.specs.Attempts.{attempt}
use Rattle.sym_states.specs.Exploring.{Setting, context_of, recovery_if, roots_of, Reaches, forks, needs, ends, goes, all_of, Evaluates, none, stop, leaf, fork, await, crowd}
use Rattle.sym_states.specs.Merging.{merged}
use Rattle.skip_records.specs.Snapshots.{Snapshot}
use Rattle.sym_states.specs.States.{State, Child, Go, Stop, Step, Goes, Forks, Needs, Ends, node_of}
use Rattle.state_laws.specs.Kept.{StateFitsAt, ChildrenFit, StepFits}
use Rattle.state_laws.proofs.Attempted.{attempt-fits}
use Rattle.state_laws.proofs.Explored.{reaches-fits, evaluates-fits}
use Rattle.state_laws.proofs.Merged.{ListsFit, merged-fits}
use Rattle.state_laws.proofs.Programs.{code_of-fits}
use Rattle.state_laws.proofs.Roots.{context_of-fits, first_state-fits, roots_of-fits}
use Rattle.agreement.proofs.Numbers.{code-distinct}
use Rattle.right_leaves.specs.Right.{IsLeast, KeepsLeast}
use Rattle.right_leaves.proofs.Right.{first-least}
use Rattle.right_leaves.proofs.Sides.{met_children, ChildrenLeast, StepKeeps}
use Rattle.right_leaves.proofs.Walks.{attempt-keeps}
use Rattle.exploration_laws.specs.Begins.{condition_of, ListsBegin}
use Rattle.exploration_laws.proofs.Evaluations.{evaluations-begin}
use Rattle.exploration_laws.proofs.Merges.{roots-begin}
use Rattle.split_laws.specs.Splits.{times_met, met_among, met_leaves, met_by, ChildKeepsLeast, ChildrenKeepLeast, StepKeepsLeast, GivesSplit, LeavesSplit, ListsSplit, IsRightContext, IsRightSetting, AttemptsSplit, RootsKeepLeast, EvaluationsSplit, ExplorationsSplit, AttemptsForkSome, MergesForkSome, HasSome, ListsHaveSome}
use Rattle.split_laws.proofs.Merges.{merges-split}

-- ---- attempts

same-count : (i : List ℕ) (cs : List Child) → met_children i cs ≡ met_among i cs
same-count i [] = refl
same-count i (Go s ∷ cs) = ap (λ m. times_met i s.condition + m) (same-count i cs)
same-count i (Stop l ∷ cs) = ap (λ m. times_met i (told_of l).condition + m) (same-count i cs)

same-least : (n : ℕ) (cs : List Child) → ChildrenLeast n cs → ChildrenKeepLeast n cs
same-least n [] h = tt
same-least n (Go s ∷ cs) h = (h.0, same-least n cs h.1)
same-least n (Stop l ∷ cs) h = (h.0, same-least n cs h.1)

step-count : (n : ℕ) (i : List ℕ) (k : ℕ) (a : Step) → StepKeeps n i k a → met_by i a ≡ k
step-count n i k (Goes s) h = h.0
step-count n i k (Forks cs) h = sym (same-count i cs) ∙ h.0
step-count n i k (Needs s calls) h = h.0
step-count n i k (Ends l) h = h.0

step-least : (n : ℕ) (i : List ℕ) (k : ℕ) (a : Step) → StepKeeps n i k a → StepKeepsLeast n a
step-least n i k (Goes s) h = h.1
step-least n i k (Forks cs) h = same-least n cs h.1
step-least n i k (Needs s calls) h = h.1
step-least n i k (Ends l) h = h.1

pub attempts-split : AttemptsSplit
attempts-split n c s right fit least = record {
  splits = λ i is. step-count n i (times_met i s.condition) (attempt c s) (keeps i);
  least = step-least n s.kept (times_met s.kept s.condition) (attempt c s) (keeps s.kept);
}
  where
    keeps : (i : List ℕ) → StepKeeps n i (times_met i s.condition) (attempt c s)
    keeps i =
        attempt-keeps c n i (times_met i s.condition) right.fitting right.verdicts s right.program.regs (code_of-fits c.program s.frame right.program)
        (code-distinct c.program s.frame.func (node_of s.frame.place) right.distinct) fit (refl, least)

-- ---- roots

root-least : (e : Setting) (n : ℕ) (s : State) (at : Location) (o : Option Snapshot) → IsLeast n s.condition s.kept → ChildKeepsLeast n (recovery_if e s at o)
root-least e n s at None h = h
root-least e n s at (Some shot) h = h

pub roots-least : RootsKeepLeast
roots-least e n s [] h = tt
roots-least e n s (m ∷ calls) h = (root-least e n s m.at (slice_get s.snapshots (m.call.0 - 1)) h, roots-least e n s calls h)

-- ---- what is reached

right-context : (e : Setting) (s : State) → IsRightSetting e → IsRightContext e.inputs (context_of e s)
right-context e s h = record { fitting = context_of-fits e s h.fits; verdicts = h.verdicts; program = h.fits.program; distinct = h.distinct }

attempted : (e : Setting) (s : State) (a : Step) → IsRightSetting e → StateFitsAt e.inputs s → IsLeast e.inputs s.condition s.kept → attempt (context_of e s) s ≡ a → GivesSplit e.inputs s.condition a
attempted e s a right fit least is = subst (GivesSplit e.inputs s.condition) is (attempts-split e.inputs (context_of e s) s (right-context e s right) fit least)

fits-there : (e : Setting) (s t : State) → IsRightSetting e → StateFitsAt e.inputs s → attempt (context_of e s) s ≡ Goes t → StateFitsAt e.inputs t
fits-there e s t right fit is = subst (StepFits e.inputs) is (attempt-fits (context_of e s) e.inputs s (context_of-fits e s right.fits) right.fits.program fit)

pub reaches-split : (e : Setting) (s : State) (a : Step) → IsRightSetting e → StateFitsAt e.inputs s → IsLeast e.inputs s.condition s.kept → Reaches e s a → GivesSplit e.inputs s.condition a
reaches-split e s a right fit least (forks _ cs is) = attempted e s (Forks cs) right fit least is
reaches-split e s a right fit least (needs _ t calls is) = attempted e s (Needs t calls) right fit least is
reaches-split e s a right fit least (ends _ l is) = attempted e s (Ends l) right fit least is
reaches-split e s a right fit least (goes _ t _ is r) =
    let h = attempted e s (Goes t) right fit least is in
    let k = reaches-split e t a right (fits-there e s t right fit is) h.least r in
    record { splits = λ i input. k.splits i input ∙ h.splits i input; least = k.least }

-- ---- lists of leaves

leaves-append : (i : List ℕ) (ls ms : List Leaf) → met_leaves i (ls ++ ms) ≡ met_leaves i ls + met_leaves i ms
leaves-append i [] ms = sym (zero-add (met_leaves i ms))
leaves-append i (l ∷ ls) ms = ap (λ m. times_met i (told_of l).condition + m) (leaves-append i ls ms) ∙ sym (add_assoc (times_met i (told_of l).condition) (met_leaves i ls) (met_leaves i ms))

least-append : (n : ℕ) (ls ms : List Leaf) → Each (KeepsLeast n) ls → Each (KeepsLeast n) ms → Each (KeepsLeast n) (ls ++ ms)
least-append n [] ms h k = k
least-append n (l ∷ ls) ms h k = (h.0, least-append n ls ms h.1 k)

-- the leaves of a list split what is met of a condition, each keeps the least input, and there is one
pub record ListIsRight (n : ℕ) (condition : List Tree) (ls : List Leaf) : Type 0 where
  pub splits : (i : List ℕ) → IsInput n i → met_leaves i ls ≡ times_met i condition
  pub least : Each (KeepsLeast n) ls
  pub some : HasSome ls

abbrev pub ListsAreRight : ℕ → List Child → List (List Leaf) → Type 0
ListsAreRight n [] [] = Unit {0}
ListsAreRight n [] (ls ∷ lists) = ⊥
ListsAreRight n (c ∷ cs) [] = ⊥
ListsAreRight n (c ∷ cs) (ls ∷ lists) = ListIsRight n (condition_of c) ls × ListsAreRight n cs lists

all-count : (n : ℕ) (i : List ℕ) (cs : List Child) (lists : List (List Leaf)) → IsInput n i → ListsAreRight n cs lists → met_leaves i (all_of lists) ≡ met_among i cs
all-count n i [] [] is h = refl
all-count n i [] (ls ∷ lists) is h = absurd h
all-count n i (c ∷ cs) [] is h = absurd h
all-count n i (c ∷ cs) (ls ∷ lists) is h = leaves-append i ls (all_of lists) ∙ (λ j. h.0.splits i is j + all-count n i cs lists is h.1 j)

all-least : (n : ℕ) (cs : List Child) (lists : List (List Leaf)) → ListsAreRight n cs lists → Each (KeepsLeast n) (all_of lists)
all-least n [] [] h = tt
all-least n [] (ls ∷ lists) h = absurd h
all-least n (c ∷ cs) [] h = absurd h
all-least n (c ∷ cs) (ls ∷ lists) h = least-append n ls (all_of lists) h.0.least (all-least n cs lists h.1)

has-some : (i : List ℕ) (ls : List Leaf) → met_leaves i ls ≡ 1 → HasSome ls
has-some i [] e = absurd (omega (arith, e))
has-some i (l ∷ ls) e = tt

met-one : (n : ℕ) (condition : List Tree) (kept : List ℕ) → IsLeast n condition kept → times_met kept condition ≡ 1
met-one n condition kept h = ap (λ b. cond b 1 0) h.met

-- the leaves of children that split what a state meets
below-right : (n : ℕ) (s : State) (cs : List Child) (lists : List (List Leaf)) → IsLeast n s.condition s.kept → ((i : List ℕ) → IsInput n i → met_among i cs ≡ times_met i s.condition) → ListsAreRight n cs lists → ListIsRight n s.condition (all_of lists)
below-right n s cs lists least splits h =
    let counts : (i : List ℕ) → IsInput n i → met_leaves i (all_of lists) ≡ times_met i s.condition = λ i is. all-count n i cs lists is h ∙ splits i is in
    record { splits = counts; least = all-least n cs lists h; some = has-some s.kept (all_of lists) (counts s.kept least.fits ∙ met-one n s.condition s.kept least) }

one-right : (n : ℕ) (condition : List Tree) (l : Leaf) → ((i : List ℕ) → IsInput n i → times_met i (told_of l).condition ≡ times_met i condition) → KeepsLeast n l → ListIsRight n condition (l ∷ [])
one-right n condition l splits least = record { splits = λ i is. add-zero (times_met i (told_of l).condition) ∙ splits i is; least = (least, tt); some = tt }

lists-split : (n : ℕ) (cs : List Child) (lists : List (List Leaf)) → ListsAreRight n cs lists → ListsBegin cs lists → ListsFit n lists → ListsSplit n cs lists
lists-split n [] [] h begin fit = tt
lists-split n [] (ls ∷ lists) h begin fit = absurd h
lists-split n (c ∷ cs) [] h begin fit = absurd h
lists-split n (c ∷ cs) (ls ∷ lists) h begin fit = ((record { splits = h.0.splits; begin = begin.0; fit = fit.0 }, h.0.least), lists-split n cs lists h.1 begin.1 fit.1)

-- the lists of the roots of a suspended state split its inputs
roots-split : (n : ℕ) (condition : List Tree) (cs : List Child) (lists : List (List Leaf)) → Each (λ c. condition_of c ≡ condition) cs → ListsSplit n cs lists → Each (LeavesSplit n condition) lists
roots-split n condition [] [] same h = tt
roots-split n condition [] (ls ∷ lists) same h = absurd h
roots-split n condition (c ∷ cs) [] same h = absurd h
roots-split n condition (c ∷ cs) (ls ∷ lists) same h = (subst (λ k. LeavesSplit n k ls) same.0 h.0.0, roots-split n condition cs lists same.1 h.1)

-- ---- evaluations

evaluates-right : {e : Setting} {children : List Child} {lists : List (List Leaf)} {tasks : ℕ} → Evaluates e children lists tasks → IsRightSetting e → ChildrenFit e.inputs children → ChildrenKeepLeast e.inputs children → ListsAreRight e.inputs children lists
evaluates-right none right fit least = tt
evaluates-right {e = e} (stop l more lists tasks g) right fit least = (one-right e.inputs (told_of l).condition l (λ i is. refl) least.0, evaluates-right g right fit.1 least.1)
evaluates-right {e = e} (leaf s l more lists tasks r g) right fit least =
    let h = reaches-split e s (Ends l) right fit.0 least.0 r in
    (one-right e.inputs s.condition l h.splits h.least, evaluates-right g right fit.1 least.1)
evaluates-right {e = e} (fork s children below m more lists tasks r f g) right fit least =
    let h = reaches-split e s (Forks children) right fit.0 least.0 r in
    (below-right e.inputs s children below least.0 h.splits (evaluates-right f right (reaches-fits e e.inputs s (Forks children) right.fits fit.0 r) h.least), evaluates-right g right fit.1 least.1)
evaluates-right {e = e} (await s t calls results k children below m more lists tasks r roots is f g) right fit least =
    let n = e.inputs in
    let h = reaches-split e s (Needs t calls) right fit.0 least.0 r in
    let waits : StateFitsAt n t = reaches-fits e n s (Needs t calls) right.fits fit.0 r in
    let at_roots = roots_of-fits e n t calls waits in
    let found = lists-split n (roots_of e t calls) results (evaluates-right roots right at_roots (roots-least e n t calls h.least)) (evaluations-begin e (roots_of e t calls) results k roots) (evaluates-fits roots n right.fits at_roots) in
    let given : GivesSplit n t.condition (Forks children) = subst (GivesSplit n t.condition) is (merges-split n (context_of e t) t calls results (right-context e t right) waits h.least (roots-split n t.condition (roots_of e t calls) results (roots-begin e t calls) found)) in
    let forked : ChildrenFit n children = subst (StepFits n) is (merged-fits (context_of e t) n t calls results (context_of-fits e t right.fits) waits (evaluates-fits roots n right.fits at_roots)) in
    (below-right n s children below least.0 (λ i input. given.splits i input ∙ h.splits i input) (evaluates-right f right forked given.least), evaluates-right g right fit.1 least.1)
evaluates-right {e = e} (crowd s t calls results k l more lists tasks r roots is g) right fit least =
    let n = e.inputs in
    let h = reaches-split e s (Needs t calls) right fit.0 least.0 r in
    let waits : StateFitsAt n t = reaches-fits e n s (Needs t calls) right.fits fit.0 r in
    let at_roots = roots_of-fits e n t calls waits in
    let found = lists-split n (roots_of e t calls) results (evaluates-right roots right at_roots (roots-least e n t calls h.least)) (evaluations-begin e (roots_of e t calls) results k roots) (evaluates-fits roots n right.fits at_roots) in
    let given : GivesSplit n t.condition (Ends l) = subst (GivesSplit n t.condition) is (merges-split n (context_of e t) t calls results (right-context e t right) waits h.least (roots-split n t.condition (roots_of e t calls) results (roots-begin e t calls) found)) in
    (one-right n s.condition l (λ i input. given.splits i input ∙ h.splits i input) given.least, evaluates-right g right fit.1 least.1)

pub evaluations-split : EvaluationsSplit
evaluations-split e children lists tasks right fit least h =
    lists-split e.inputs children lists (evaluates-right h right fit least) (evaluations-begin e children lists tasks h) (evaluates-fits h e.inputs right.fits fit)

-- ---- explorations

counted : (i : List ℕ) (leaves : List Leaf) → count_by (λ c. c.is_met i) (map claim_of leaves) ≡ met_leaves i leaves
counted i [] = refl
counted i (l ∷ leaves) = sum_by-cons (λ c. cond (c.is_met i) 1 0) (claim_of l) (map claim_of leaves) ∙ ap (λ n. times_met i (told_of l).condition + n) (counted i leaves)

pub explorations-split : ExplorationsSplit
explorations-split e leaves tasks right h =
    let found = (evaluates-right h right (first_state-fits e right.fits, tt) (first-least e.inputs, tt)).0 in
    ((λ i is. counted i leaves ∙ found.splits i is), All-from_recursion (KeepsLeast e.inputs) leaves found.least)

-- ---- no list is empty

not-none : (n : ℕ) (s : State) (a : Step) → IsLeast n s.condition s.kept → GivesSplit n s.condition a → a ≡ Forks [] → ⊥
not-none n s a least h is = no ((subst (GivesSplit n s.condition) is h).splits s.kept least.fits ∙ met-one n s.condition s.kept least)
  where
    no : ◌≡◌ {A = ℕ} 0 1 → ⊥
    no e = omega (arith, e)

pub attempts-fork-some : AttemptsForkSome
attempts-fork-some n c s right fit least is = not-none n s (attempt c s) least (attempts-split n c s right fit least) is

pub merges-fork-some : MergesForkSome
merges-fork-some n c s calls results right fit least splits is = not-none n s (merged c s calls results) least (merges-split n c s calls results right fit least splits) is

each-some : (n : ℕ) (cs : List Child) (lists : List (List Leaf)) → ListsAreRight n cs lists → Each HasSome lists
each-some n [] [] h = tt
each-some n [] (ls ∷ lists) h = absurd h
each-some n (c ∷ cs) [] h = absurd h
each-some n (c ∷ cs) (ls ∷ lists) h = (h.0.some, each-some n cs lists h.1)

pub lists-have-some : ListsHaveSome
lists-have-some e children lists tasks right fit least h = each-some e.inputs children lists (evaluates-right h right fit least)
