-- What is computed within a bound is an exploration.
use Rattle.std.proofs.Common.{◌≡◌, ℕ, zero, suc, List, [], ◌∷◌, Option, Some, None, ◌+◌, refl, ap, subst}
use Rattle.leaves.specs.Events.{Leaf}
use Rattle.sym_states.specs.States.{State, Child, Go, Stop, Step, Goes, Forks, Needs, Ends, Needed}
use Rattle.sym_states.specs.Attempts.{attempt}
use Rattle.sym_states.specs.Merging.{merged}
use Rattle.sym_states.specs.Exploring.{Setting, context_of, roots_of, first_state, all_of, Reaches, forks, needs, ends, goes, Evaluates, none, stop, leaf, fork, await, crowd, Explores}
use Rattle.sym_states.specs.Running.{Found, reach, beside, joined, after_merge, after_roots, after_reach, evaluate}

some_inj : {A : Type 0} (x y : A) → Some x ≡ Some y → x ≡ y
some_inj x y e = ap (λ o. elim o [ Some u ↦ u | None ↦ x ]) e

reach_by : (n : ℕ) (e : Setting) (s : State) (r a : Step) → ((t : State) → reach n e t ≡ Some r → Reaches e t r)
    → attempt (context_of e s) s ≡ a
    → elim a [ Goes t ↦ reach n e t | Forks cs ↦ Some (Forks cs) | Needs t calls ↦ Some (Needs t calls) | Ends l ↦ Some (Ends l) ] ≡ Some r
    → Reaches e s r
reach_by n e s r (Goes t) more is found = goes s t r is (more t found)
reach_by n e s r (Forks cs) more is found = subst (Reaches e s) (some_inj (Forks cs) r found) (forks s cs is)
reach_by n e s r (Needs t calls) more is found = subst (Reaches e s) (some_inj (Needs t calls) r found) (needs s t calls is)
reach_by n e s r (Ends l) more is found = subst (Reaches e s) (some_inj (Ends l) r found) (ends s l is)

pub reached : (n : ℕ) (e : Setting) (s : State) (r : Step) → reach n e s ≡ Some r → Reaches e s r
reached zero e s r found = cc
reached (suc n) e s r found = reach_by n e s r (attempt (context_of e s) s) (λ t. reached n e t r) refl found

abbrev Good : Setting → List Child → Option Found → Type 0
Good e cs o = (f : Found) → o ≡ Some f → Evaluates e cs f.lists f.tasks

good_none : (e : Setting) (cs : List Child) → Good e cs None
good_none e cs f is = cc

good_beside : (e : Setting) (c : Child) (cs : List Child) (leaves : List Leaf) (tasks : ℕ) (more : Option Found)
    → Good e cs more → ((lists : List (List Leaf)) (m : ℕ) → Evaluates e cs lists m → Evaluates e (c ∷ cs) (leaves ∷ lists) (tasks + m))
    → Good e (c ∷ cs) (beside leaves tasks more)
good_beside e c cs leaves tasks None good add f is = cc
good_beside e c cs leaves tasks (Some m) good add f is =
    subst (λ g. Evaluates e (c ∷ cs) g.lists g.tasks) (some_inj (record { lists = leaves ∷ m.lists; tasks = tasks + m.tasks }) f is) (add m.lists m.tasks (good m refl))

good_joined : (e : Setting) (c : Child) (cs kids : List Child) (tasks : ℕ) (below more : Option Found)
    → Good e kids below → Good e cs more
    → ((under : List (List Leaf)) (k : ℕ) (lists : List (List Leaf)) (m : ℕ) → Evaluates e kids under k → Evaluates e cs lists m → Evaluates e (c ∷ cs) (all_of under ∷ lists) (k + tasks + m))
    → Good e (c ∷ cs) (joined tasks below more)
good_joined e c cs kids tasks None more good_below good_more add = good_none e (c ∷ cs)
good_joined e c cs kids tasks (Some below) more good_below good_more add =
    good_beside e c cs (all_of below.lists) (below.tasks + tasks) more good_more (λ lists m rest. add below.lists below.tasks lists m (good_below below refl) rest)

good_merge : (e : Setting) (ev : List Child → Option Found) (s t : State) (calls : List Needed) (results : List (List Leaf)) (k : ℕ) (cs : List Child) (more : Option Found) (a : Step)
    → ((kids : List Child) → Good e kids (ev kids)) → Good e cs more
    → Reaches e s (Needs t calls) → Evaluates e (roots_of e t calls) results k → merged (context_of e t) t calls results ≡ a
    → Good e (Go s ∷ cs) (after_merge ev (k + 2) a more)
good_merge e ev s t calls results k cs more (Forks kids) good_ev good_more reaches roots is =
    good_joined e (Go s) cs kids (k + 2) (ev kids) more (good_ev kids) good_more
    (λ under m lists tasks below rest. await s t calls results k kids under m cs lists tasks reaches roots is below rest)
good_merge e ev s t calls results k cs more (Ends l) good_ev good_more reaches roots is =
    good_beside e (Go s) cs (l ∷ []) (k + 2) more good_more (λ lists tasks rest. crowd s t calls results k l cs lists tasks reaches roots is rest)
good_merge e ev s t calls results k cs more (Goes u) good_ev good_more reaches roots is = good_none e (Go s ∷ cs)
good_merge e ev s t calls results k cs more (Needs u needed) good_ev good_more reaches roots is = good_none e (Go s ∷ cs)

good_roots : (e : Setting) (ev : List Child → Option Found) (s t : State) (calls : List Needed) (cs : List Child) (o more : Option Found)
    → ((kids : List Child) → Good e kids (ev kids)) → Good e cs more
    → Reaches e s (Needs t calls) → Good e (roots_of e t calls) o
    → Good e (Go s ∷ cs) (after_roots ev e t calls o more)
good_roots e ev s t calls cs None more good_ev good_more reaches roots = good_none e (Go s ∷ cs)
good_roots e ev s t calls cs (Some results) more good_ev good_more reaches roots =
    good_merge e ev s t calls results.lists results.tasks cs more (merged (context_of e t) t calls results.lists) good_ev good_more reaches (roots results refl) refl

good_reach : (e : Setting) (ev : List Child → Option Found) (s : State) (cs : List Child) (more : Option Found) (o : Option Step)
    → ((kids : List Child) → Good e kids (ev kids)) → Good e cs more → ((r : Step) → o ≡ Some r → Reaches e s r)
    → Good e (Go s ∷ cs) (after_reach ev e o more)
good_reach e ev s cs more (Some (Ends l)) good_ev good_more reaches =
    good_beside e (Go s) cs (l ∷ []) 1 more good_more (λ lists tasks rest. leaf s l cs lists tasks (reaches (Ends l) refl) rest)
good_reach e ev s cs more (Some (Forks kids)) good_ev good_more reaches =
    good_joined e (Go s) cs kids 1 (ev kids) more (good_ev kids) good_more (λ under m lists tasks below rest. fork s kids under m cs lists tasks (reaches (Forks kids) refl) below rest)
good_reach e ev s cs more (Some (Needs t calls)) good_ev good_more reaches =
    good_roots e ev s t calls cs (ev (roots_of e t calls)) more good_ev good_more (reaches (Needs t calls) refl) (good_ev (roots_of e t calls))
good_reach e ev s cs more (Some (Goes t)) good_ev good_more reaches = good_none e (Go s ∷ cs)
good_reach e ev s cs more None good_ev good_more reaches = good_none e (Go s ∷ cs)

-- each computed evaluation is one
pub evaluated : (n : ℕ) (e : Setting) (cs : List Child) → Good e cs (evaluate n e cs)
evaluated zero e cs f found = cc
evaluated (suc n) e [] f found = subst (λ g. Evaluates e [] g.lists g.tasks) (some_inj (record { lists = []; tasks = 0 }) f found) (none)
evaluated (suc n) e (Stop l ∷ more) f found =
    good_beside e (Stop l) more (l ∷ []) 1 (evaluate n e more) (evaluated n e more) (λ lists tasks rest. stop l more lists tasks rest) f found
evaluated (suc n) e (Go s ∷ more) f found =
    good_reach e (evaluate n e) s more (evaluate n e more) (reach n e s) (evaluated n e) (evaluated n e more) (reached n e s) f found

-- so what is computed is what the setting explores
pub computed : (n : ℕ) (e : Setting) (leaves : List Leaf) (tasks : ℕ) → evaluate n e (Go (first_state e) ∷ []) ≡ Some (record { lists = leaves ∷ []; tasks = tasks }) → Explores e leaves tasks
computed n e leaves tasks found = evaluated n e (Go (first_state e) ∷ []) (record { lists = leaves ∷ []; tasks = tasks }) found
