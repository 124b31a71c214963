-- What the leaves below states begin with, and what they have.
use Rattle.std.proofs.Common.{◌≡◌, ℕ, List, [], ◌∷◌, ◌++◌, Option, subst}
use Rattle.std.specs.List.{AllByRecursion as Each}
use Rattle.terms.specs.Tree.{Tree}
use Rattle.leaves.specs.Events.{Leaf, told_of}
use Rattle.sym_states.specs.declared.frames.Target.{Target}
use Rattle.sym_states.specs.Attempts.{attempt}
use Rattle.sym_states.specs.Exploring.{Setting, context_of, Reaches, forks, needs, ends, goes, all_of, Evaluates, none, stop, leaf, fork, await, crowd}
use Rattle.sym_states.specs.Merging.{merged}
use Rattle.sym_states.specs.States.{State, Child, Step, Goes, Forks, Needs, Ends, Needed}
use Rattle.exploration_laws.specs.Begins.{BeginsWith, condition_of, ChildrenBegin, StepBegins, LeavesBegin, ListsBegin, EvaluationsBegin}
use Rattle.exploration_laws.specs.Has.{LeafHas, ChildrenHave, StepHas, EachChildHas, ListsHave, EvaluationsHave}
use Rattle.exploration_laws.proofs.Givers.{begins-same, begins-through}
use Rattle.exploration_laws.proofs.Attempts.{attempts-begin, attempts-have}
use Rattle.exploration_laws.proofs.Merges.{merges-begin, merges-have}

-- ---- conditions

children-through : (first middle : List Tree) (cs : List Child) → BeginsWith first middle → ChildrenBegin middle cs → ChildrenBegin first cs
children-through first middle [] h k = tt
children-through first middle (c ∷ cs) h k = (begins-through first middle (condition_of c) h k.0, children-through first middle cs h k.1)

step-through : (first middle : List Tree) (a : Step) → BeginsWith first middle → StepBegins middle a → StepBegins first a
step-through first middle (Goes s) h k = begins-through first middle s.condition h k
step-through first middle (Forks cs) h k = children-through first middle cs h k
step-through first middle (Needs s calls) h k = begins-through first middle s.condition h k
step-through first middle (Ends l) h k = begins-through first middle (told_of l).condition h k

attempted : (e : Setting) (s : State) (a : Step) → attempt (context_of e s) s ≡ a → StepBegins s.condition a
attempted e s a is = subst (StepBegins s.condition) is (attempts-begin (context_of e s) s)

pub reaches-begin : (e : Setting) (s : State) (a : Step) → Reaches e s a → StepBegins s.condition a
reaches-begin e s a (forks _ children is) = attempted e s (Forks children) is
reaches-begin e s a (needs _ t calls is) = attempted e s (Needs t calls) is
reaches-begin e s a (ends _ l is) = attempted e s (Ends l) is
reaches-begin e s a (goes _ t _ is more) = step-through s.condition t.condition a (attempted e s (Goes t) is) (reaches-begin e t a more)

leaves-through : (first middle : List Tree) (ls : List Leaf) → BeginsWith first middle → LeavesBegin middle ls → LeavesBegin first ls
leaves-through first middle [] h k = tt
leaves-through first middle (l ∷ ls) h k = (begins-through first middle (told_of l).condition h k.0, leaves-through first middle ls h k.1)

begin-append : (first : List Tree) (ls ms : List Leaf) → LeavesBegin first ls → LeavesBegin first ms → LeavesBegin first (ls ++ ms)
begin-append first [] ms h k = k
begin-append first (l ∷ ls) ms h k = (h.0, begin-append first ls ms h.1 k)

-- the leaves below the children of a state
below-begin : {e : Setting} {children : List Child} {lists : List (List Leaf)} {tasks : ℕ} → Evaluates e children lists tasks → (first : List Tree) → ChildrenBegin first children → ListsBegin children lists → LeavesBegin first (all_of lists)
below-begin none first h k = tt
below-begin (stop l more lists tasks g) first h k = begin-append first (l ∷ []) (all_of lists) (leaves-through first (told_of l).condition (l ∷ []) h.0 k.0) (below-begin g first h.1 k.1)
below-begin (leaf s l more lists tasks r g) first h k = begin-append first (l ∷ []) (all_of lists) (leaves-through first s.condition (l ∷ []) h.0 k.0) (below-begin g first h.1 k.1)
below-begin (fork s children below m more lists tasks r f g) first h k = begin-append first (all_of below) (all_of lists) (leaves-through first s.condition (all_of below) h.0 k.0) (below-begin g first h.1 k.1)
below-begin (await s t calls results m children below n more lists tasks r roots is f g) first h k = begin-append first (all_of below) (all_of lists) (leaves-through first s.condition (all_of below) h.0 k.0) (below-begin g first h.1 k.1)
below-begin (crowd s t calls results m l more lists tasks r roots is g) first h k = begin-append first (l ∷ []) (all_of lists) (leaves-through first s.condition (l ∷ []) h.0 k.0) (below-begin g first h.1 k.1)

evaluates-begin : {e : Setting} {children : List Child} {lists : List (List Leaf)} {tasks : ℕ} → Evaluates e children lists tasks → ListsBegin children lists
evaluates-begin none = tt
evaluates-begin (stop l more lists tasks g) = ((begins-same (told_of l).condition, tt), evaluates-begin g)
evaluates-begin {e = e} (leaf s l more lists tasks r g) = ((reaches-begin e s (Ends l) r, tt), evaluates-begin g)
evaluates-begin {e = e} (fork s children below m more lists tasks r f g) = (below-begin f s.condition (reaches-begin e s (Forks children) r) (evaluates-begin f), evaluates-begin g)
evaluates-begin {e = e} (await s t calls results k children below m more lists tasks r roots is f g) =
    let merged-begin = subst (StepBegins t.condition) is (merges-begin (context_of e t) t calls results) in
    (below-begin f s.condition (children-through s.condition t.condition children (reaches-begin e s (Needs t calls) r) merged-begin) (evaluates-begin f), evaluates-begin g)
evaluates-begin {e = e} (crowd s t calls results k l more lists tasks r roots is g) =
    let ended = subst (StepBegins t.condition) is (merges-begin (context_of e t) t calls results) in
    ((begins-through s.condition t.condition (told_of l).condition (reaches-begin e s (Needs t calls) r) ended, tt), evaluates-begin g)

pub evaluations-begin : EvaluationsBegin
evaluations-begin e children lists tasks h = evaluates-begin h

-- ---- what leaves have

attempted-has : (e : Setting) (at : Option Target) (s : State) (a : Step) → s.target ≡ at → attempt (context_of e s) s ≡ a → StepHas at a
attempted-has e at s a there is = subst (λ t. StepHas t a) there (subst (StepHas s.target) is (attempts-have (context_of e s) s))

pub reaches-have : (e : Setting) (at : Option Target) (s : State) (a : Step) → s.target ≡ at → Reaches e s a → StepHas at a
reaches-have e at s a there (forks _ children is) = attempted-has e at s (Forks children) there is
reaches-have e at s a there (needs _ t calls is) = attempted-has e at s (Needs t calls) there is
reaches-have e at s a there (ends _ l is) = attempted-has e at s (Ends l) there is
reaches-have e at s a there (goes _ t _ is more) = reaches-have e at t a (attempted-has e at s (Goes t) there is) more

have-append : (at : Option Target) (ls ms : List Leaf) → Each (λ l. LeafHas l at) ls → Each (λ l. LeafHas l at) ms → Each (λ l. LeafHas l at) (ls ++ ms)
have-append at [] ms h k = k
have-append at (l ∷ ls) ms h k = (h.0, have-append at ls ms h.1 k)

-- children that all stand in this recovery, or in none
abbrev alike : Option Target → List Child → List (Option Target)
alike at [] = []
alike at (c ∷ cs) = at ∷ alike at cs

have-alike : (at : Option Target) (cs : List Child) → ChildrenHave at cs → EachChildHas (alike at cs) cs
have-alike at [] h = tt
have-alike at (c ∷ cs) h = (h.0, have-alike at cs h.1)

all-have : (at : Option Target) (cs : List Child) (lists : List (List Leaf)) → ListsHave (alike at cs) lists → Each (λ l. LeafHas l at) (all_of lists)
all-have at [] [] h = tt
all-have at [] (ls ∷ lists) h = absurd h
all-have at (c ∷ cs) [] h = absurd h
all-have at (c ∷ cs) (ls ∷ lists) h = have-append at ls (all_of lists) h.0 (all-have at cs lists h.1)

merge-has : (e : Setting) (at : Option Target) (t : State) (calls : List Needed) (results : List (List Leaf)) (a : Step) → t.target ≡ at → merged (context_of e t) t calls results ≡ a → StepHas at a
merge-has e at t calls results a there is = subst (λ x. StepHas x a) there (subst (StepHas t.target) is (merges-have (context_of e t) t calls results))

evaluates-have : {e : Setting} {children : List Child} {lists : List (List Leaf)} {tasks : ℕ} → Evaluates e children lists tasks → (ats : List (Option Target)) → EachChildHas ats children → ListsHave ats lists
evaluates-have none [] h = tt
evaluates-have none (at ∷ ats) h = absurd h
evaluates-have (stop l more lists tasks g) [] h = absurd h
evaluates-have (stop l more lists tasks g) (at ∷ ats) h = ((h.0, tt), evaluates-have g ats h.1)
evaluates-have (leaf s l more lists tasks r g) [] h = absurd h
evaluates-have {e = e} (leaf s l more lists tasks r g) (at ∷ ats) h = ((reaches-have e at s (Ends l) h.0 r, tt), evaluates-have g ats h.1)
evaluates-have (fork s children below m more lists tasks r f g) [] h = absurd h
evaluates-have {e = e} (fork s children below m more lists tasks r f g) (at ∷ ats) h =
    (all-have at children below (evaluates-have f (alike at children) (have-alike at children (reaches-have e at s (Forks children) h.0 r))), evaluates-have g ats h.1)
evaluates-have (await s t calls results k children below m more lists tasks r roots is f g) [] h = absurd h
evaluates-have {e = e} (await s t calls results k children below m more lists tasks r roots is f g) (at ∷ ats) h =
    let forked : ChildrenHave at children = merge-has e at t calls results (Forks children) (reaches-have e at s (Needs t calls) h.0 r) is in
    (all-have at children below (evaluates-have f (alike at children) (have-alike at children forked)), evaluates-have g ats h.1)
evaluates-have (crowd s t calls results k l more lists tasks r roots is g) [] h = absurd h
evaluates-have {e = e} (crowd s t calls results k l more lists tasks r roots is g) (at ∷ ats) h =
    let ended : LeafHas l at = merge-has e at t calls results (Ends l) (reaches-have e at s (Needs t calls) h.0 r) is in
    ((ended, tt), evaluates-have g ats h.1)

pub evaluations-have : EvaluationsHave
evaluations-have e ats children lists tasks h k = evaluates-have k ats h
