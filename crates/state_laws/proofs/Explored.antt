-- The leaves of an exploration fit, and where no calls are skipped, none is of a skipped call.
use Rattle.std.proofs.Common.{◌≡◌, ℕ, List, [], ◌∷◌, ◌++◌, refl, subst}
use Rattle.std.proofs.Common.{map, drop, None}
use Rattle.leaves.specs.Events.{Leaf}
use Rattle.sym_states.specs.Attempts.{attempt}
use Rattle.sym_states.specs.Exploring.{Setting, context_of, first_state, Reaches, forks, needs, ends, goes, Evaluates, none, stop, leaf, fork, await, crowd, all_of}
use Rattle.sym_states.specs.States.{State, Child, Step, Goes, Forks, Needs, Ends}
use Rattle.flat_ir.specs.Machine.{regs_of, func_at}
use Rattle.state_laws.specs.Explored.{IsFittingSetting, LeavesFitAt, LeavesHaveNoCalls, ExploredLeavesFit, ExploredLeavesHaveNoCalls}
use Rattle.state_laws.specs.Kept.{StateFitsAt, ChildrenFit, StepFits}
use Rattle.state_laws.specs.Skipless.{HasNoCalls, ChildrenHaveNoCalls, StepHasNoCalls}
use Rattle.state_laws.proofs.Attempted.{attempt-fits}
use Rattle.state_laws.proofs.FirmValues.{args-firm, unset-firm}
use Rattle.state_laws.proofs.Merged.{leaves-append, ListsFit, merged-fits}
use Rattle.state_laws.proofs.Roots.{context_of-fits, first_state-fits, roots_of-fits}
use Rattle.state_laws.proofs.Unneeded.{attempts-need-nothing}

-- ---- leaves fit

attempted : (e : Setting) (n : ℕ) (s : State) (a : Step) → IsFittingSetting e → StateFitsAt n s → attempt (context_of e s) s ≡ a → StepFits n a
attempted e n s a fitting h is = subst (StepFits n) is (attempt-fits (context_of e s) n s (context_of-fits e s fitting) fitting.program h)

pub reaches-fits : (e : Setting) (n : ℕ) (s : State) (a : Step) → IsFittingSetting e → StateFitsAt n s → Reaches e s a → StepFits n a
reaches-fits e n s a fitting h (forks _ children is) = attempted e n s (Forks children) fitting h is
reaches-fits e n s a fitting h (needs _ t calls is) = attempted e n s (Needs t calls) fitting h is
reaches-fits e n s a fitting h (ends _ l is) = attempted e n s (Ends l) fitting h is
reaches-fits e n s a fitting h (goes _ t _ is more) = reaches-fits e n t a fitting (attempted e n s (Goes t) fitting h is) more

all-fit : (n : ℕ) (lists : List (List Leaf)) → ListsFit n lists → LeavesFitAt n (all_of lists)
all-fit n [] h = tt
all-fit n (ls ∷ lists) h = leaves-append n ls (all_of lists) h.0 (all-fit n lists h.1)

pub evaluates-fits : {e : Setting} {children : List Child} {lists : List (List Leaf)} {tasks : ℕ} → Evaluates e children lists tasks → (n : ℕ) → IsFittingSetting e → ChildrenFit n children → ListsFit n lists
evaluates-fits none n fitting h = tt
evaluates-fits (stop l more lists tasks g) n fitting h = ((h.0, tt), evaluates-fits g n fitting h.1)
evaluates-fits {e = e} (leaf s l more lists tasks r g) n fitting h = ((reaches-fits e n s (Ends l) fitting h.0 r, tt), evaluates-fits g n fitting h.1)
evaluates-fits {e = e} (fork s children below m more lists tasks r f g) n fitting h =
    (all-fit n below (evaluates-fits f n fitting (reaches-fits e n s (Forks children) fitting h.0 r)), evaluates-fits g n fitting h.1)
evaluates-fits {e = e} (await s t calls results k children below m more lists tasks r roots is f g) n fitting h =
    let waits = reaches-fits e n s (Needs t calls) fitting h.0 r in
    let found = evaluates-fits roots n fitting (roots_of-fits e n t calls waits) in
    let forked : ChildrenFit n children = subst (StepFits n) is (merged-fits (context_of e t) n t calls results (context_of-fits e t fitting) waits found) in
    (all-fit n below (evaluates-fits f n fitting forked), evaluates-fits g n fitting h.1)
evaluates-fits {e = e} (crowd s t calls results k l more lists tasks r roots is g) n fitting h =
    let waits = reaches-fits e n s (Needs t calls) fitting h.0 r in
    let found = evaluates-fits roots n fitting (roots_of-fits e n t calls waits) in
    let ended = subst (StepFits n) is (merged-fits (context_of e t) n t calls results (context_of-fits e t fitting) waits found) in
    ((ended, tt), evaluates-fits g n fitting h.1)

pub explored_leaves-fit : ExploredLeavesFit
explored_leaves-fit e leaves tasks fitting h = (evaluates-fits h e.inputs fitting (first_state-fits e fitting, tt)).0

-- ---- leaves have no calls

pub reaches-free : (e : Setting) (s : State) (a : Step) → e.skips ≡ [] → HasNoCalls s → Reaches e s a → StepHasNoCalls a
reaches-free e s a skips h (forks _ children is) = subst StepHasNoCalls is (attempts-need-nothing (context_of e s) s skips h)
reaches-free e s a skips h (needs _ t calls is) = subst StepHasNoCalls is (attempts-need-nothing (context_of e s) s skips h)
reaches-free e s a skips h (ends _ l is) = subst StepHasNoCalls is (attempts-need-nothing (context_of e s) s skips h)
reaches-free e s a skips h (goes _ t _ is more) = reaches-free e t a skips (subst StepHasNoCalls is (attempts-need-nothing (context_of e s) s skips h)) more

abbrev ListsHaveNoCalls : List (List Leaf) → Type 0
ListsHaveNoCalls [] = Unit {0}
ListsHaveNoCalls (ls ∷ lists) = LeavesHaveNoCalls ls × ListsHaveNoCalls lists

free-append : (ls ms : List Leaf) → LeavesHaveNoCalls ls → LeavesHaveNoCalls ms → LeavesHaveNoCalls (ls ++ ms)
free-append [] ms h k = k
free-append (l ∷ ls) ms h k = (h.0, free-append ls ms h.1 k)

all-free : (lists : List (List Leaf)) → ListsHaveNoCalls lists → LeavesHaveNoCalls (all_of lists)
all-free [] h = tt
all-free (ls ∷ lists) h = free-append ls (all_of lists) h.0 (all-free lists h.1)

pub evaluates-free : {e : Setting} {children : List Child} {lists : List (List Leaf)} {tasks : ℕ} → Evaluates e children lists tasks → e.skips ≡ [] → ChildrenHaveNoCalls children → ListsHaveNoCalls lists
evaluates-free none skips h = tt
evaluates-free (stop l more lists tasks g) skips h = ((h.0, tt), evaluates-free g skips h.1)
evaluates-free {e = e} (leaf s l more lists tasks r g) skips h = ((reaches-free e s (Ends l) skips h.0 r, tt), evaluates-free g skips h.1)
evaluates-free {e = e} (fork s children below m more lists tasks r f g) skips h = (all-free below (evaluates-free f skips (reaches-free e s (Forks children) skips h.0 r)), evaluates-free g skips h.1)
evaluates-free {e = e} (await s t calls results k children below m more lists tasks r roots is f g) skips h = absurd (reaches-free e s (Needs t calls) skips h.0 r)
evaluates-free {e = e} (crowd s t calls results k l more lists tasks r roots is g) skips h = absurd (reaches-free e s (Needs t calls) skips h.0 r)

pub first_state-free : (e : Setting) → HasNoCalls (first_state e)
first_state-free e = record {
  frame = args-firm [] (map (λ r. None) (drop 0 (regs_of (func_at e.program e.program.main)))) tt (unset-firm (drop 0 (regs_of (func_at e.program e.program.main))));
  callers = tt;
  log = tt;
  snapshots = refl;
  path = tt;
  target = refl;
}

pub explored_leaves-free : ExploredLeavesHaveNoCalls
explored_leaves-free e leaves tasks skips h = (evaluates-free h skips (first_state-free e, tt)).0
