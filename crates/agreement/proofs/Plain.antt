-- What is so of each state of an exploration without skips stays so in every attempt.
use Rattle.std.proofs.Common.{ℕ, List, [], ◌∷◌}
use Rattle.std.specs.List.{AllByRecursion as Each}
use Rattle.sym_states.specs.Attempts.{attempt}
use Rattle.sym_states.specs.States.{State, Context, Child, Go, Stop, Step, Goes, Forks, Needs, Ends}
use Rattle.state_laws.specs.Kept.{StateFitsAt, ChildrenFit, StepFits}
use Rattle.state_laws.specs.Skipless.{HasNoCalls, ChildrenHaveNoCalls, StepHasNoCalls}
use Rattle.state_laws.proofs.Attempted.{attempt-fits}
use Rattle.state_laws.proofs.Unneeded.{attempts-need-nothing}
use Rattle.agreement.specs.Premises.{IsPlain, IsPlainState}
use Rattle.agreement.proofs.Sets.{IsKept, ChildIsKept, StepIsKept, attempt-kept}

abbrev pub ChildIsPlain : Context → ℕ → Child → Type 0
ChildIsPlain c n (Go s) = IsPlainState c n s
ChildIsPlain c n (Stop l) = Unit {0}

-- nothing is needed, and each state that is given is plain
abbrev pub StepIsPlain : Context → ℕ → Step → Type 0
StepIsPlain c n (Goes s) = IsPlainState c n s
StepIsPlain c n (Forks cs) = Each (ChildIsPlain c n) cs
StepIsPlain c n (Needs s calls) = ⊥
StepIsPlain c n (Ends l) = Unit {0}

whole : (c : Context) (n : ℕ) (s : State) → StateFitsAt n s → HasNoCalls s → IsKept c s → IsPlainState c n s
whole c n s fits free kept = record { fits = fits; no_calls = free; set = kept.set; globals = kept.globals }

children-plain : (c : Context) (n : ℕ) (cs : List Child) → ChildrenFit n cs → ChildrenHaveNoCalls cs → Each (ChildIsKept c) cs → Each (ChildIsPlain c n) cs
children-plain c n [] fit free kept = tt
children-plain c n (Go s ∷ cs) fit free kept = (whole c n s fit.0 free.0 kept.0, children-plain c n cs fit.1 free.1 kept.1)
children-plain c n (Stop l ∷ cs) fit free kept = (tt, children-plain c n cs fit.1 free.1 kept.1)

step-plain : (c : Context) (n : ℕ) (step : Step) → StepFits n step → StepHasNoCalls step → StepIsKept c step → StepIsPlain c n step
step-plain c n (Goes s) fits free kept = whole c n s fits free kept
step-plain c n (Forks cs) fits free kept = children-plain c n cs fits free kept
step-plain c n (Needs s calls) fits free kept = free
step-plain c n (Ends l) fits free kept = tt

pub attempt-plain : (c : Context) (n : ℕ) (s : State) → IsPlain c → IsPlainState c n s → StepIsPlain c n (attempt c s)
attempt-plain c n s plain h =
    step-plain c n (attempt c s) (attempt-fits c n s plain.fitting plain.program h.fits) (attempts-need-nothing c s plain.no_skips h.no_calls)
    (attempt-kept c s plain (record { set = h.set; globals = h.globals }))
