-- What turns do to the children that wait.
use Rattle.std.proofs.Common.{◌≡◌, ℕ, ◌+◌, List, [], ◌∷◌, ◌++◌, refl, sym, ap, ◌∙◌, subst, append_assoc, append-nil}
use Rattle.std.proofs.lemmas.Grind.{flat_map-append}
use Rattle.leaves.specs.Events.{Leaf}
use Rattle.sym_states.specs.Attempts.{attempt}
use Rattle.sym_states.specs.Exploring.{Setting, context_of, Reaches, forks, ends, goes, Evaluates, none, stop, leaf, fork, await, crowd, all_of}
use Rattle.sym_states.specs.States.{State, Child, Go, Stop, Step, Goes, Forks, Needs, Ends}
use Rattle.state_laws.specs.Kept.{LeafFitsAt, ChildrenFit}
use Rattle.state_laws.specs.Skipless.{LeafHasNoCalls, ChildrenHaveNoCalls}
use Rattle.sym_machine.specs.Explored.{LeavesFitAt, LeavesHaveNoCalls}
use Rattle.sym_machine.specs.Turns.{IsReady, AreReady, Gives, Turned}

-- ---- evaluating some children, and then others

record Split (e : Setting) (cs ds : List Child) (lists : List (List Leaf)) : Type 0 where
  front : List (List Leaf)
  before : ℕ
  back : List (List Leaf)
  behind : ℕ
  fronts : Evaluates e cs front before
  backs : Evaluates e ds back behind
  lists_are : lists ≡ front ++ back

whole : (e : Setting) (all ds : List Child) (lists : List (List Leaf)) (tasks : ℕ) → Evaluates e all lists tasks → all ≡ ds → Split e [] ds lists
whole e all ds lists tasks h is = record { front = []; before = 0; back = lists; behind = tasks; fronts = none; backs = subst (λ cs. Evaluates e cs lists tasks) is h; lists_are = refl }

-- a child more in front
longer : (e : Setting) (c d : Child) (cs ds : List Child) (leaves : List Leaf) (lists : List (List Leaf)) (cost : ℕ) → c ≡ d
    → ((rest : List (List Leaf)) (count : ℕ) → Evaluates e cs rest count → Evaluates e (c ∷ cs) (leaves ∷ rest) (cost + count))
    → Split e cs ds lists → Split e (d ∷ cs) ds (leaves ∷ lists)
longer e c d cs ds leaves lists cost same begins s = record {
  front = leaves ∷ s.front;
  before = cost + s.before;
  back = s.back;
  behind = s.behind;
  fronts = subst (λ b. Evaluates e (b ∷ cs) (leaves ∷ s.front) (cost + s.before)) same (begins s.front s.before s.fronts);
  backs = s.backs;
  lists_are = ap (λ ls. leaves ∷ ls) s.lists_are;
}

split : {e : Setting} {all : List Child} {lists : List (List Leaf)} {tasks : ℕ} → Evaluates e all lists tasks → (cs ds : List Child) → all ≡ cs ++ ds → Split e cs ds lists
split {e = e} none [] ds is = whole e [] ds [] 0 none is
split {e = e} none (c ∷ cs) ds is = cc
split {e = e} (stop l more lists tasks h) [] ds is = whole e (Stop l ∷ more) ds ((l ∷ []) ∷ lists) (1 + tasks) (stop l more lists tasks h) is
split {e = e} (stop l more lists tasks h) (c ∷ cs) ds is =
    let first : Stop l ≡ c = cc in
    let others : more ≡ cs ++ ds = cc in
    longer e (Stop l) c cs ds (l ∷ []) lists 1 first (λ rest count k. stop l cs rest count k) (split h cs ds others)
split {e = e} (leaf s l more lists tasks r h) [] ds is = whole e (Go s ∷ more) ds ((l ∷ []) ∷ lists) (1 + tasks) (leaf s l more lists tasks r h) is
split {e = e} (leaf s l more lists tasks r h) (c ∷ cs) ds is =
    let first : Go s ≡ c = cc in
    let others : more ≡ cs ++ ds = cc in
    longer e (Go s) c cs ds (l ∷ []) lists 1 first (λ rest count k. leaf s l cs rest count r k) (split h cs ds others)
split {e = e} (fork s children below m more lists tasks r g h) [] ds is = whole e (Go s ∷ more) ds (all_of below ∷ lists) (m + 1 + tasks) (fork s children below m more lists tasks r g h) is
split {e = e} (fork s children below m more lists tasks r g h) (c ∷ cs) ds is =
    let first : Go s ≡ c = cc in
    let others : more ≡ cs ++ ds = cc in
    longer e (Go s) c cs ds (all_of below) lists (m + 1) first (λ rest count k. fork s children below m cs rest count r g k) (split h cs ds others)
split {e = e} (await s t calls results n children below m more lists tasks r roots merges g h) [] ds is = whole e (Go s ∷ more) ds (all_of below ∷ lists) (m + (n + 2) + tasks) (await s t calls results n children below m more lists tasks r roots merges g h) is
split {e = e} (await s t calls results n children below m more lists tasks r roots merges g h) (c ∷ cs) ds is =
    let first : Go s ≡ c = cc in
    let others : more ≡ cs ++ ds = cc in
    longer e (Go s) c cs ds (all_of below) lists (m + (n + 2)) first (λ rest count k. await s t calls results n children below m cs rest count r roots merges g k) (split h cs ds others)
split {e = e} (crowd s t calls results n l more lists tasks r roots merges h) [] ds is = whole e (Go s ∷ more) ds ((l ∷ []) ∷ lists) (n + 2 + tasks) (crowd s t calls results n l more lists tasks r roots merges h) is
split {e = e} (crowd s t calls results n l more lists tasks r roots merges h) (c ∷ cs) ds is =
    let first : Go s ≡ c = cc in
    let others : more ≡ cs ++ ds = cc in
    longer e (Go s) c cs ds (l ∷ []) lists (n + 2) first (λ rest count k. crowd s t calls results n l cs rest count r roots merges k) (split h cs ds others)

-- ---- an attempt more in front of what is reached

before : (e : Setting) (s t u : State) (step : Step) → attempt (context_of e s) s ≡ Goes t → Go u ≡ Go t → Reaches e u step → Reaches e s step
before e s t u step is same r = goes s t step is (let one : u ≡ t = cc in subst (λ v. Reaches e v step) one r)

evaluates-goes : {e : Setting} {all : List Child} {lists : List (List Leaf)} {tasks : ℕ} → Evaluates e all lists tasks
    → (s t : State) (rest : List Child) → attempt (context_of e s) s ≡ Goes t → all ≡ Go t ∷ rest → Evaluates e (Go s ∷ rest) lists tasks
evaluates-goes none s t rest is same = cc
evaluates-goes (stop l more lists tasks h) s t rest is same = cc
evaluates-goes {e = e} (leaf u l more lists tasks r h) s t rest is same =
    let first : Go u ≡ Go t = cc in
    let others : more ≡ rest = cc in
    leaf s l rest lists tasks (before e s t u (Ends l) is first r) (subst (λ cs. Evaluates e cs lists tasks) others h)
evaluates-goes {e = e} (fork u children below m more lists tasks r g h) s t rest is same =
    let first : Go u ≡ Go t = cc in
    let others : more ≡ rest = cc in
    fork s children below m rest lists tasks (before e s t u (Forks children) is first r) g (subst (λ cs. Evaluates e cs lists tasks) others h)
evaluates-goes {e = e} (await u v calls results n children below m more lists tasks r roots merges g h) s t rest is same =
    let first : Go u ≡ Go t = cc in
    let others : more ≡ rest = cc in
    await s v calls results n children below m rest lists tasks (before e s t u (Needs v calls) is first r) roots merges g (subst (λ cs. Evaluates e cs lists tasks) others h)
evaluates-goes {e = e} (crowd u v calls results n l more lists tasks r roots merges h) s t rest is same =
    let first : Go u ≡ Go t = cc in
    let others : more ≡ rest = cc in
    crowd s v calls results n l rest lists tasks (before e s t u (Needs v calls) is first r) roots merges (subst (λ cs. Evaluates e cs lists tasks) others h)

-- ---- one child has one list of leaves

nothing : {e : Setting} {all : List Child} {lists : List (List Leaf)} {tasks : ℕ} → Evaluates e all lists tasks → all ≡ [] → lists ≡ []
nothing none is = refl
nothing (stop l more lists tasks h) is = cc
nothing (leaf s l more lists tasks r h) is = cc
nothing (fork s children below m more lists tasks r g h) is = cc
nothing (await s t calls results n children below m more lists tasks r roots merges g h) is = cc
nothing (crowd s t calls results n l more lists tasks r roots merges h) is = cc

single : (leaves : List Leaf) (lists : List (List Leaf)) → lists ≡ [] → (leaves ∷ lists) ≡ all_of (leaves ∷ lists) ∷ []
single leaves lists is = subst (λ ls. (leaves ∷ ls) ≡ all_of (leaves ∷ ls) ∷ []) (sym is) (ap (λ ls. ls ∷ []) (sym (append-nil leaves)))

one-list : {e : Setting} {all : List Child} {lists : List (List Leaf)} {tasks : ℕ} → Evaluates e all lists tasks → (c : Child) → all ≡ c ∷ [] → lists ≡ all_of lists ∷ []
one-list none c is = cc
one-list (stop l more lists tasks h) c is = single (l ∷ []) lists (nothing h (let others : more ≡ [] = cc in others))
one-list (leaf s l more lists tasks r h) c is = single (l ∷ []) lists (nothing h (let others : more ≡ [] = cc in others))
one-list (fork s children below m more lists tasks r g h) c is = single (all_of below) lists (nothing h (let others : more ≡ [] = cc in others))
one-list (await s t calls results n children below m more lists tasks r roots merges g h) c is = single (all_of below) lists (nothing h (let others : more ≡ [] = cc in others))
one-list (crowd s t calls results n l more lists tasks r roots merges h) c is = single (l ∷ []) lists (nothing h (let others : more ≡ [] = cc in others))

pub given-one : (e : Setting) (c : Child) (leaves : List Leaf) → Gives e (c ∷ []) leaves → (tasks : ℕ) × Evaluates e (c ∷ []) (leaves ∷ []) tasks
given-one e c leaves g = (g.tasks, subst (λ ls. Evaluates e (c ∷ []) ls g.tasks) (one-list g.evaluates c refl ∙ ap (λ ls. ls ∷ []) g.all) g.evaluates)

-- ---- what is ready

children-append : (n : ℕ) (cs ds : List Child) → ChildrenFit n cs → ChildrenFit n ds → ChildrenFit n (cs ++ ds)
children-append n [] ds h k = k
children-append n (c ∷ cs) ds h k = (h.0, children-append n cs ds h.1 k)

callless-append : (cs ds : List Child) → ChildrenHaveNoCalls cs → ChildrenHaveNoCalls ds → ChildrenHaveNoCalls (cs ++ ds)
callless-append [] ds h k = k
callless-append (c ∷ cs) ds h k = (h.0, callless-append cs ds h.1 k)

pub ready-append : (n : ℕ) (cs ds : List Child) → AreReady n cs → AreReady n ds → AreReady n (cs ++ ds)
ready-append n cs ds h k = record { fit = children-append n cs ds h.fit k.fit; no_calls = callless-append cs ds h.no_calls k.no_calls }

pub ready-first : (n : ℕ) (c : Child) (cs : List Child) → IsReady n c → AreReady n cs → AreReady n (c ∷ cs)
ready-first n c cs h k = record { fit = (h.fits, k.fit); no_calls = (h.no_calls, k.no_calls) }

leaves-append : (n : ℕ) (ls ms : List Leaf) → LeavesFitAt n ls → LeavesFitAt n ms → LeavesFitAt n (ls ++ ms)
leaves-append n [] ms h k = k
leaves-append n (l ∷ ls) ms h k = (h.0, leaves-append n ls ms h.1 k)

leaves-callless : (ls ms : List Leaf) → LeavesHaveNoCalls ls → LeavesHaveNoCalls ms → LeavesHaveNoCalls (ls ++ ms)
leaves-callless [] ms h k = k
leaves-callless (l ∷ ls) ms h k = (h.0, leaves-callless ls ms h.1 k)

-- ---- turns

pub turned-begin : (e : Setting) (cs : List Child) → AreReady e.inputs cs → Turned e cs cs []
turned-begin e cs h = record { back = λ leaves g. g; ready = h; fit = tt; no_calls = tt }

pub turned-goes : (e : Setting) (s t : State) (rest : List Child) → attempt (context_of e s) s ≡ Goes t → AreReady e.inputs (Go t ∷ rest) → Turned e (Go s ∷ rest) (Go t ∷ rest) []
turned-goes e s t rest is h = record {
  back = λ leaves g. record { lists = g.lists; tasks = g.tasks; evaluates = evaluates-goes g.evaluates s t rest is refl; all = g.all };
  ready = h;
  fit = tt;
  no_calls = tt;
}

pub turned-ends : (e : Setting) (s : State) (l : Leaf) (rest : List Child) → attempt (context_of e s) s ≡ Ends l → LeafFitsAt e.inputs l → LeafHasNoCalls l → AreReady e.inputs rest → Turned e (Go s ∷ rest) rest (l ∷ [])
turned-ends e s l rest is h free k = record {
  back = λ leaves g. record { lists = (l ∷ []) ∷ g.lists; tasks = 1 + g.tasks; evaluates = leaf s l rest g.lists g.tasks (ends s l is) g.evaluates; all = ap (λ ls. l ∷ ls) g.all };
  ready = k;
  fit = (h, tt);
  no_calls = (free, tt);
}

pub turned-stop : (e : Setting) (l : Leaf) (rest : List Child) → LeafFitsAt e.inputs l → LeafHasNoCalls l → AreReady e.inputs rest → Turned e (Stop l ∷ rest) rest (l ∷ [])
turned-stop e l rest h free k = record {
  back = λ leaves g. record { lists = (l ∷ []) ∷ g.lists; tasks = 1 + g.tasks; evaluates = stop l rest g.lists g.tasks g.evaluates; all = ap (λ ls. l ∷ ls) g.all };
  ready = k;
  fit = (h, tt);
  no_calls = (free, tt);
}

forked : (e : Setting) (s : State) (cs rest : List Child) (leaves : List Leaf) → attempt (context_of e s) s ≡ Forks cs → Gives e (cs ++ rest) leaves → Gives e (Go s ∷ rest) leaves
forked e s cs rest leaves is g =
    let p = split g.evaluates cs rest refl in
    record {
      lists = all_of p.front ∷ p.back;
      tasks = p.before + 1 + p.behind;
      evaluates = fork s cs p.front p.before rest p.back p.behind (forks s cs is) p.fronts p.backs;
      all = sym (flat_map-append (λ ls. ls) p.front p.back) ∙ ap all_of (sym p.lists_are) ∙ g.all;
    }

pub turned-forks : (e : Setting) (s : State) (cs rest : List Child) → attempt (context_of e s) s ≡ Forks cs → AreReady e.inputs cs → AreReady e.inputs rest → Turned e (Go s ∷ rest) (cs ++ rest) []
turned-forks e s cs rest is h k = record { back = λ leaves g. forked e s cs rest leaves is g; ready = ready-append e.inputs cs rest h k; fit = tt; no_calls = tt }

pub turned-on : (e : Setting) (old mid new : List Child) (fresh more : List Leaf) → Turned e old mid fresh → Turned e mid new more → Turned e old new (fresh ++ more)
turned-on e old mid new fresh more h k = record {
  back = λ leaves g. subst (Gives e old) (sym (append_assoc fresh more leaves)) (h.back (more ++ leaves) (k.back leaves g));
  ready = k.ready;
  fit = leaves-append e.inputs fresh more h.fit k.fit;
  no_calls = leaves-callless fresh more h.no_calls k.no_calls;
}

pub turned-end : (e : Setting) (old : List Child) (leaves : List Leaf) → Turned e old [] leaves → Gives e old leaves
turned-end e old leaves h = subst (Gives e old) (append-nil leaves) (h.back [] (record { lists = []; tasks = 0; evaluates = none; all = refl }))
