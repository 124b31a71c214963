-- The laws of one attempt.
use Rattle.std.proofs.Common.{◌≡◌, ℕ, zero, suc, ◌<◌, ◌≤◌, List, [], ◌∷◌, Option, Some, None, refl, sym, subst, arith}
use Rattle.flat_ir.specs.declared.names.FuncId.{FuncId}
use Rattle.flat_ir.specs.declared.names.Location.TheVariants as location
use Rattle.flat_ir.specs.declared.program.ProgramData.{ProgramData}
use Rattle.flat_ir.specs.declared.residual.Residual.{Residual}
use Rattle.leaves.specs.declared.options.Cause.TheVariants.{Steps}
use Rattle.leaves.specs.Events.{told_of}
use Rattle.flat_ir.specs.declared.values.FaultKind.TheVariants as fault
use Rattle.sym_states.specs.declared.frames.Place.{Place}
use Rattle.sym_states.specs.declared.frames.Place.TheVariants.{At, End, Never}
use Rattle.sym_states.specs.declared.frames.Target.{Target}
use Rattle.sym_states.specs.Attempts.{executes, with_left, ended, resumed, ends_first, leaves_to, fails_in, attempt_at, attempt}
use Rattle.sym_states.specs.Exploring.{Setting, context_of, oldest}
use Rattle.sym_states.specs.States.{Frame, State, Context, Child, Go, Stop, Step, Goes, Forks, Needs, Ends, code_of, opens, place_after, place_first}
use Rattle.exploration_laws.specs.Begins.{StepBegins, ChildrenBegin, AttemptsBegin}
use Rattle.exploration_laws.specs.Falls.{IsPlacedIn, IsPlaced, ChildrenFall, StepFalls, AttemptsFall}
use Rattle.exploration_laws.specs.Has.{StepHas, ChildrenHave, AttemptsHave}
use Rattle.exploration_laws.proofs.Givers.{Holds, Giver, Keeps, ChildrenAreFrom, StepIsFrom, begins-same}
use Rattle.exploration_laws.proofs.Walks.{fails-from, ends_frame-from, executes-from}

-- ---- of any context

-- the recovery in which a frame may stand anywhere
abbrev pub anywhere : Option Target
anywhere = Some (record { call = record { 0 = 0 }; at = location.Input; length = 0 })

abbrev pub giver_of : Holds → State → ℕ → Option Target → Giver
giver_of holds s left within = record { first = s.condition; left = left; at = s.target; within = within; holds = holds }

-- what holds of all logs and snapshots
abbrev pub anything : Holds
anything log shots = Unit {0}

pub keeps-anything : (c : Context) → Keeps c anything
keeps-anything c = record { entry = λ e log shots h. tt; skip = λ f args s h. tt }

-- what is given by some giver with the state's condition and recovery
pub record IsGivenBy (holds : Holds) (s : State) (a : Step) : Type 0 where
  pub left : ℕ
  pub given : StepIsFrom (giver_of holds s left anywhere) a

module _ (holds : Holds) (c : Context) (keeps : Keeps c holds) where
  at-given : (place : Place) (s : State) → holds s.memory.log s.snapshots → IsGivenBy holds s (attempt_at c place s)
  at-given (At n) s h =
      elim s.left as (λ m. s.left ≡ m → IsGivenBy holds s (elim m [ zero ↦ opens Steps s | suc left ↦ executes c (code_of c.program s.frame) (with_left left s) ])) [
        | zero ↦ (λ is. record { left = s.left; given = (begins-same s.condition, (refl, tt)) })
        | suc left ↦ (λ is. record { left = left; given = executes-from c (giver_of holds s left anywhere) (λ k frame. tt) (λ f. tt) keeps (code_of c.program s.frame) (with_left left s) (begins-same s.condition, (refl, ((refl, h), tt))) })
      ]
      refl
  at-given End s h = record { left = s.left; given = ends_frame-from c (giver_of holds s s.left anywhere) (λ k frame. tt) (λ f. tt) keeps None s (begins-same s.condition, (refl, ((refl, h), tt))) }
  at-given (Never n) s h = record { left = s.left; given = fails-from c (giver_of holds s s.left anywhere) (λ k frame. tt) (λ f. tt) keeps fault.NoReturn s (begins-same s.condition, (refl, ((refl, h), tt))) }

  pub attempt-given : (s : State) → holds s.memory.log s.snapshots → IsGivenBy holds s (attempt c s)
  attempt-given s h = at-given s.frame.place s h

children-begin : (g : Giver) (cs : List Child) → ChildrenAreFrom g cs → ChildrenBegin g.first cs
children-begin g [] h = tt
children-begin g (Go s ∷ cs) h = (h.0.0, children-begin g cs h.1)
children-begin g (Stop l ∷ cs) h = (h.0.0, children-begin g cs h.1)

step-begins : (g : Giver) (a : Step) → StepIsFrom g a → StepBegins g.first a
step-begins g (Goes s) h = h.0
step-begins g (Forks cs) h = children-begin g cs h
step-begins g (Needs s calls) h = h.0.0
step-begins g (Ends l) h = h.0

pub attempts-begin : AttemptsBegin
attempts-begin c s = let h = attempt-given anything c (keeps-anything c) s tt in step-begins (giver_of anything s h.left anywhere) (attempt c s) h.given

children-have : (g : Giver) (cs : List Child) → ChildrenAreFrom g cs → ChildrenHave g.at cs
children-have g [] h = tt
children-have g (Go s ∷ cs) h = (h.0.1.1.0.0, children-have g cs h.1)
children-have g (Stop l ∷ cs) h = (h.0.1.1, children-have g cs h.1)

step-has : (g : Giver) (a : Step) → StepIsFrom g a → StepHas g.at a
step-has g (Goes s) h = h.1.1.0.0
step-has g (Forks cs) h = children-have g cs h
step-has g (Needs s calls) h = h.0.1.1.0.0
step-has g (Ends l) h = h.1.1

pub attempts-have : AttemptsHave
attempts-have c s = let h = attempt-given anything c (keeps-anything c) s tt in step-has (giver_of anything s h.left anywhere) (attempt c s) h.given

-- ---- where the slice of the recovery is in force

-- no slice is in force outside of recoveries
abbrev IsSlicedIn : Option Target → Option Residual → Type 0
IsSlicedIn None None = Unit {0}
IsSlicedIn None (Some r) = ⊥
IsSlicedIn (Some target) r = Unit {0}

after-placed : (at : Option Target) (p : ProgramData) (r : Option Residual) (k : ℕ) (frame : Frame) → IsSlicedIn at r → IsPlacedIn at (place_after p r k frame)
after-placed None p None k frame h = tt
after-placed None p (Some r) k frame h = absurd h
after-placed (Some target) p r k frame h = tt

first-placed : (at : Option Target) (r : Option Residual) (f : FuncId) → IsSlicedIn at r → IsPlacedIn at (place_first r f)
first-placed None None f h = tt
first-placed None (Some r) f h = absurd h
first-placed (Some target) r f h = tt

sliced : (e : Setting) (s : State) → IsSlicedIn s.target (context_of e s).residual
sliced e s = elim s.target as (λ at. IsSlicedIn at (elim at [ None ↦ None | Some target ↦ Some (e.slice (oldest s.frame s.callers).func target.at) ])) [ None ↦ tt | Some target ↦ tt ]

-- ---- steps left

no-more : (n left : ℕ) → n ≡ left → n ≤ left
no-more n left e = omega (arith, e)

fewer : (n left : ℕ) → n ≡ left → n < suc left
fewer n left e = omega (arith, e)

still : (n left : ℕ) → n ≡ left → n ≤ suc left
still n left e = omega (arith, e)

placed-there : (at : Option Target) (s : State) → s.target ≡ at → IsPlacedIn at s.frame.place → IsPlaced s
placed-there at s is h = subst (λ t. IsPlacedIn t s.frame.place) (sym is) h

children-fall : (g : Giver) (cs : List Child) → g.within ≡ g.at → ChildrenAreFrom g cs → ChildrenFall (suc g.left) cs
children-fall g [] same h = tt
children-fall g (Go s ∷ cs) same h = ((fewer s.left g.left h.0.1.0, placed-there g.at s h.0.1.1.0.0 (subst (λ t. IsPlacedIn t s.frame.place) same h.0.1.1.1)), children-fall g cs same h.1)
children-fall g (Stop l ∷ cs) same h = ((fewer (told_of l).left g.left h.0.1.0, tt), children-fall g cs same h.1)

step-falls : (g : Giver) (a : Step) → g.within ≡ g.at → StepIsFrom g a → StepFalls (suc g.left) a
step-falls g (Goes s) same h = (still s.left g.left h.1.0, placed-there g.at s h.1.1.0.0 (subst (λ t. IsPlacedIn t s.frame.place) same h.1.1.1))
step-falls g (Forks cs) same h = children-fall g cs same h
step-falls g (Needs s calls) same h = ((fewer s.left g.left h.0.1.0, placed-there g.at s h.0.1.1.0.0 (subst (λ t. IsPlacedIn t s.frame.place) same h.0.1.1.1)), h.1)
step-falls g (Ends l) same h = still (told_of l).left g.left h.1.0

reflexive : (n : ℕ) → n ≤ n
reflexive n = omega arith

-- in a recovery the end of a frame is no fork, and needs nothing
end-falls : (c : Context) (at : Option Target) (callers : List Frame) (s : State) → s.target ≡ at → IsPlacedIn at End → StepFalls s.left (leaves_to c None callers (ended c s))
end-falls c at callers s is h = elim at as (λ t. s.target ≡ t → IsPlacedIn t End → StepFalls s.left (leaves_to c None callers (ended c s))) [
  | None ↦ (λ same there. absurd there)
  | Some target ↦ (λ same there. inside target callers same)
] is h
  where
    first : (target : Target) (o : Option Target) → o ≡ Some target → StepFalls s.left (ends_first o None (ended c s))
    first target None same = cc
    first target (Some t) same = reflexive s.left

    inside : (target : Target) (frames : List Frame) → s.target ≡ Some target → StepFalls s.left (leaves_to c None frames (ended c s))
    inside target [] same = first target s.target same
    inside target (caller ∷ more) same = (reflexive s.left, subst (λ t. IsPlacedIn t (resumed c None caller).place) (sym same) tt)

never-falls : (target : Option Target) (place : Place) (s : State) → IsPlacedIn target End → StepFalls s.left (fails_in target fault.NoReturn s)
never-falls None place s h = absurd h
never-falls (Some target) place s h = reflexive s.left

at-falls : (e : Setting) (place : Place) (s : State) → IsPlacedIn s.target place → IsPlaced s → StepFalls s.left (attempt_at (context_of e s) place s)
at-falls e (At n) s h there =
    let c = context_of e s in
    elim s.left as (λ m. s.left ≡ m → StepFalls m (elim m [ zero ↦ opens Steps s | suc left ↦ executes c (code_of c.program s.frame) (with_left left s) ])) [
      | zero ↦ (λ is. no-more s.left 0 is)
      | suc left ↦ (λ is. step-falls (giver_of anything s left s.target) (executes c (code_of c.program s.frame) (with_left left s)) refl
          (executes-from c (giver_of anything s left s.target) (λ k frame. after-placed s.target c.program c.residual k frame (sliced e s)) (λ f. first-placed s.target c.residual f (sliced e s))
          (keeps-anything c) (code_of c.program s.frame) (with_left left s) (begins-same s.condition, (refl, ((refl, tt), there)))))
    ]
    refl
at-falls e End s h there = end-falls (context_of e s) s.target s.callers s refl h
at-falls e (Never n) s h there = never-falls s.target (Never n) s (never-end s.target h)
  where
    never-end : (at : Option Target) → IsPlacedIn at (Never n) → IsPlacedIn at End
    never-end None k = k
    never-end (Some target) k = tt

pub attempts-fall : AttemptsFall
attempts-fall e s h = at-falls e s.frame.place s h h
