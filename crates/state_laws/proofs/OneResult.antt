-- Exploring has one result.
use Rattle.std.proofs.Common.{◌≡◌, ℕ, ◌+◌, List, [], ◌∷◌, refl, sym, ap, ◌∙◌, subst}
use Rattle.leaves.specs.Events.{Leaf}
use Rattle.sym_states.specs.Exploring.{Setting, context_of, roots_of, Reaches, Evaluates, none, stop, leaf, fork, await, crowd, all_of}
use Rattle.sym_states.specs.Merging.{merged}
use Rattle.sym_states.specs.States.{State, Child, Go, Stop, Step, Goes, Forks, Needs, Ends, Needed}
use Rattle.sym_states.proofs.Steady.{reaches_one}
use Rattle.state_laws.specs.Results.{EvaluatesOneResult, ExploresOneResult}

-- the leaves of the first child, what they cost, and what is evaluated of the others
record Begins (e : Setting) (leaves : List Leaf) (cost : ℕ) (more : List Child) (lists : List (List Leaf)) (tasks : ℕ) : Type 0 where
  rest : List (List Leaf)
  count : ℕ
  lists_are : lists ≡ leaves ∷ rest
  tasks_are : tasks ≡ cost + count
  evaluates : Evaluates e more rest count

-- the first child forked, beside so many other tasks
record Forked (e : Setting) (children : List Child) (others : ℕ) (more : List Child) (lists : List (List Leaf)) (tasks : ℕ) : Type 0 where
  below : List (List Leaf)
  count : ℕ
  evaluates : Evaluates e children below count
  begins : Begins e (all_of below) (count + others) more lists tasks

abbrev Merges : Setting → Step → ℕ → List Child → List (List Leaf) → ℕ → Type 0
Merges e (Forks children) k more lists tasks = Forked e children (k + 2) more lists tasks
Merges e (Ends l) k more lists tasks = Begins e (l ∷ []) (k + 2) more lists tasks
Merges e (Goes t) k more lists tasks = ⊥
Merges e (Needs t calls) k more lists tasks = ⊥

record Awaits (e : Setting) (t : State) (calls : List Needed) (more : List Child) (lists : List (List Leaf)) (tasks : ℕ) : Type 0 where
  results : List (List Leaf)
  count : ℕ
  roots : Evaluates e (roots_of e t calls) results count
  merges : Merges e (merged (context_of e t) t calls results) count more lists tasks

-- what was evaluated of a state that reached the step
abbrev By : Setting → Step → List Child → List (List Leaf) → ℕ → Type 0
By e (Goes t) more lists tasks = ⊥
By e (Forks children) more lists tasks = Forked e children 1 more lists tasks
By e (Needs t calls) more lists tasks = Awaits e t calls more lists tasks
By e (Ends l) more lists tasks = Begins e (l ∷ []) 1 more lists tasks

record Reached (e : Setting) (s : State) (more : List Child) (lists : List (List Leaf)) (tasks : ℕ) : Type 0 where
  step : Step
  reaches : Reaches e s step
  by_it : By e step more lists tasks

abbrev Inverts : Setting → List Child → List (List Leaf) → ℕ → Type 0
Inverts e [] lists tasks = (lists ≡ []) × (tasks ≡ 0)
Inverts e (Stop l ∷ more) lists tasks = Begins e (l ∷ []) 1 more lists tasks
Inverts e (Go s ∷ more) lists tasks = Reached e s more lists tasks

begun : (e : Setting) (leaves : List Leaf) (cost : ℕ) (more : List Child) (lists : List (List Leaf)) (tasks : ℕ) → Evaluates e more lists tasks → Begins e leaves cost more (leaves ∷ lists) (cost + tasks)
begun e leaves cost more lists tasks h = record { rest = lists; count = tasks; lists_are = refl; tasks_are = refl; evaluates = h }

inverted : {e : Setting} {cs : List Child} {lists : List (List Leaf)} {tasks : ℕ} → Evaluates e cs lists tasks → Inverts e cs lists tasks
inverted none = (refl, refl)
inverted {e = e} (stop l more lists tasks h) = begun e (l ∷ []) 1 more lists tasks h
inverted {e = e} (leaf s l more lists tasks r h) = record { step = Ends l; reaches = r; by_it = begun e (l ∷ []) 1 more lists tasks h }
inverted {e = e} (fork s children below m more lists tasks r g h) =
    record { step = Forks children; reaches = r; by_it = record { below = below; count = m; evaluates = g; begins = begun e (all_of below) (m + 1) more lists tasks h } }
inverted {e = e} (await s t calls results k children below m more lists tasks r roots is g h) = record {
  step = Needs t calls;
  reaches = r;
  by_it = record {
    results = results;
    count = k;
    roots = roots;
    merges = subst (λ a. Merges e a k more (all_of below ∷ lists) (m + (k + 2) + tasks)) (sym is) (record { below = below; count = m; evaluates = g; begins = begun e (all_of below) (m + (k + 2)) more lists tasks h });
  };
}
inverted {e = e} (crowd s t calls results k l more lists tasks r roots is h) = record {
  step = Needs t calls;
  reaches = r;
  by_it = record {
    results = results;
    count = k;
    roots = roots;
    merges = subst (λ a. Merges e a k more ((l ∷ []) ∷ lists) (k + 2 + tasks)) (sym is) (begun e (l ∷ []) (k + 2) more lists tasks h);
  };
}

-- what is reached is one step
reached-by : (e : Setting) (s : State) (a : Step) (more : List Child) (lists : List (List Leaf)) (tasks : ℕ) → Reaches e s a → Reached e s more lists tasks → By e a more lists tasks
reached-by e s a more lists tasks r h = subst (λ b. By e b more lists tasks) (reaches_one e s h.step a h.reaches r) h.by_it

-- what was awaited gave one result, and merges into one step
merges-by : (e : Setting) (t : State) (calls : List Needed) (a : Step) (results : List (List Leaf)) (k : ℕ) (more : List Child) (lists : List (List Leaf)) (tasks : ℕ)
    → merged (context_of e t) t calls results ≡ a → (h : Awaits e t calls more lists tasks) → (results ≡ h.results) × (k ≡ h.count) → Merges e a k more lists tasks
merges-by e t calls a results k more lists tasks is h same =
    subst (λ b. Merges e b k more lists tasks) is
    (subst (λ rs. Merges e (merged (context_of e t) t calls rs) k more lists tasks) (sym same.0)
    (subst (λ m. Merges e (merged (context_of e t) t calls h.results) m more lists tasks) (sym same.1) h.merges))

one-more : (e : Setting) (leaves : List Leaf) (cost : ℕ) (more : List Child) (lists others : List (List Leaf)) (tasks count : ℕ)
    → (h : Begins e leaves cost more others count) → (lists ≡ h.rest) × (tasks ≡ h.count) → ((leaves ∷ lists) ≡ others) × (cost + tasks ≡ count)
one-more e leaves cost more lists others tasks count h same = (ap (λ ls. leaves ∷ ls) same.0 ∙ sym h.lists_are, ap (λ n. cost + n) same.1 ∙ sym h.tasks_are)

-- the same leaves below, at the same cost
begins-by : (e : Setting) (below : List (List Leaf)) (m others : ℕ) (children more : List Child) (lists : List (List Leaf)) (tasks : ℕ)
    → (h : Forked e children others more lists tasks) → (below ≡ h.below) × (m ≡ h.count) → Begins e (all_of below) (m + others) more lists tasks
begins-by e below m others children more lists tasks h same =
    subst (λ b. Begins e (all_of b) (m + others) more lists tasks) (sym same.0)
    (subst (λ n. Begins e (all_of h.below) (n + others) more lists tasks) (sym same.1) h.begins)

pub one-result : {e : Setting} {cs : List Child} {lists : List (List Leaf)} {tasks : ℕ} → Evaluates e cs lists tasks → (others : List (List Leaf)) (count : ℕ) → Evaluates e cs others count → (lists ≡ others) × (tasks ≡ count)
one-result none others count k = let i = inverted k in (sym i.0, sym i.1)
one-result {e = e} (stop l more lists tasks h) others count k =
    let i = inverted k in
    one-more e (l ∷ []) 1 more lists others tasks count i (one-result h i.rest i.count i.evaluates)
one-result {e = e} (leaf s l more lists tasks r h) others count k =
    let i = reached-by e s (Ends l) more others count r (inverted k) in
    one-more e (l ∷ []) 1 more lists others tasks count i (one-result h i.rest i.count i.evaluates)
one-result {e = e} (fork s children below m more lists tasks r g h) others count k =
    let f = reached-by e s (Forks children) more others count r (inverted k) in
    let i = begins-by e below m 1 children more others count f (one-result g f.below f.count f.evaluates) in
    one-more e (all_of below) (m + 1) more lists others tasks count i (one-result h i.rest i.count i.evaluates)
one-result {e = e} (await s t calls results n children below m more lists tasks r roots is g h) others count k =
    let a = reached-by e s (Needs t calls) more others count r (inverted k) in
    let f = merges-by e t calls (Forks children) results n more others count is a (one-result roots a.results a.count a.roots) in
    let i = begins-by e below m (n + 2) children more others count f (one-result g f.below f.count f.evaluates) in
    one-more e (all_of below) (m + (n + 2)) more lists others tasks count i (one-result h i.rest i.count i.evaluates)
one-result {e = e} (crowd s t calls results n l more lists tasks r roots is h) others count k =
    let a = reached-by e s (Needs t calls) more others count r (inverted k) in
    let i = merges-by e t calls (Ends l) results n more others count is a (one-result roots a.results a.count a.roots) in
    one-more e (l ∷ []) (n + 2) more lists others tasks count i (one-result h i.rest i.count i.evaluates)

pub evaluates-one : EvaluatesOneResult
evaluates-one e children lists others tasks count h k = one-result h others count k

-- the first of some lists
abbrev first_of_lists : List (List Leaf) → List Leaf
first_of_lists [] = []
first_of_lists (leaves ∷ lists) = leaves

pub explores-one : ExploresOneResult
explores-one e leaves others tasks count h k =
    let same = one-result h (others ∷ []) count k in
    (ap first_of_lists same.0, same.1)
