-- What becomes of a suspended state, whatever the leaves of its recoveries are.
use Rattle.std.proofs.Common.{◌≡◌, ℕ, true, false, ◌+◌, ◌-◌, ◌≤◌, List, [], ◌∷◌, ◌++◌, length, drop, Option, Some, None, refl, sym, subst, arith}
use Rattle.std.specs.Prelude.{nat_lt}
use Rattle.std.specs.List.{flat_map}
use Rattle.terms.specs.Tree.{Tree}
use Rattle.term_store.specs.Condition.{answer}
use Rattle.term_store.specs.declared.conditions.Added.TheVariants.{Held, Appended, Contradicted}
use Rattle.flat_ir.specs.declared.names.Location.{Location}
use Rattle.leaves.specs.declared.options.Cause.{Cause}
use Rattle.leaves.specs.declared.options.Cause.TheVariants as cause
use Rattle.leaves.specs.Events.{Leaf, told_of}
use Rattle.leaves.specs.Events as leaf
use Rattle.sym_states.specs.declared.frames.Target.{Target}
use Rattle.sym_states.specs.Exploring.{Setting, recovery_if}
use Rattle.sym_states.specs.Merging.{Partial, add_all, by_verdict, still_meets, joined_with, combined, combined_all, folded, first_partial, Where, fault_of, cause_of, first_some, steps_of, filled_by, filled_all, state_of, child_by_cause, child_by_fault, child_of, children_of, merged}
use Rattle.sym_states.specs.Sides.{share_of}
use Rattle.skip_records.specs.Snapshots.{Snapshot}
use Rattle.sym_states.specs.States.{Frame, State, Context, Child, Go, Stop, Step, Goes, Forks, Needs, Ends, Needed, told_with, opens}
use Rattle.std.specs.Prelude.{slice_get}
use Rattle.sym_states.specs.Verdicts.{Verdict, Sat, Unsat, Spent}
use Rattle.exploration_laws.specs.Begins.{BeginsWith, condition_of, ChildrenBegin, StepBegins, RootsBegin, MergesBegin}
use Rattle.exploration_laws.specs.Falls.{IsPlacedIn, IsPlaced, left_of, ChildIsPlaced, ChildrenHaveNoMore, MergeHasNoMore, RootsFall, MergesFall}
use Rattle.exploration_laws.specs.Has.{LeafHas, ChildHas, ChildrenHave, StepHas, target_if, RootsHave, MergesHave}
use Rattle.exploration_laws.proofs.Givers.{begins-same, begins-more}

-- ---- combinations

abbrev PartialsBegin : List Tree → List Partial → Type 0
PartialsBegin first [] = Unit {0}
PartialsBegin first (p ∷ ps) = BeginsWith first p.condition × PartialsBegin first ps

abbrev pub BeginsIf : List Tree → Option (List Tree) → Type 0
BeginsIf first None = Unit {0}
BeginsIf first (Some condition) = BeginsWith first condition

partials-append : (first : List Tree) (ps qs : List Partial) → PartialsBegin first ps → PartialsBegin first qs → PartialsBegin first (ps ++ qs)
partials-append first [] qs h k = k
partials-append first (p ∷ ps) qs h k = (h.0, partials-append first ps qs h.1 k)

pub add_all-begins : (first condition ts : List Tree) → BeginsWith first condition → BeginsIf first (add_all condition ts)
add_all-begins first condition [] h = h
add_all-begins first condition (t ∷ ts) h =
    elim (answer condition t) as (λ a. BeginsIf first (elim a [ Contradicted ↦ None | Held ↦ add_all condition ts | Appended ↦ add_all (condition ++ t ∷ []) ts ]))
    [ Contradicted ↦ tt | Held ↦ add_all-begins first condition ts h | Appended ↦ add_all-begins first (condition ++ t ∷ []) ts (begins-more first condition (t ∷ []) h) ]

verdict-begins : (first : List Tree) (v : Verdict) (condition : List Tree) (used : List Leaf) → BeginsWith first condition → PartialsBegin first (by_verdict v condition used)
verdict-begins first (Sat input) condition used h = (h, tt)
verdict-begins first Unsat condition used h = tt
verdict-begins first Spent condition used h = (h, tt)

joined-begins : (c : Context) (first : List Tree) (p : Partial) (kept : List ℕ) (o : Option (List Tree)) (l : Leaf) → BeginsIf first o → PartialsBegin first (joined_with c p kept o l)
joined-begins c first p kept None l h = tt
joined-begins c first p kept (Some condition) l h =
    elim (still_meets kept p.condition condition) as (λ b. PartialsBegin first (elim b [
      | true ↦ record { condition = condition; kept = Some kept; used = p.used ++ l ∷ [] } ∷ []
      | false ↦ by_verdict (c.verdict condition (length kept)) condition (p.used ++ l ∷ [])
    ])) [ true ↦ (h, tt) | false ↦ verdict-begins first (c.verdict condition (length kept)) condition (p.used ++ l ∷ []) h ]

each-begins : (c : Context) (first : List Tree) (root : ℕ) (p : Partial) (kept : List ℕ) (ls : List Leaf) → BeginsWith first p.condition → PartialsBegin first (flat_map (combined c root p kept) ls)
each-begins c first root p kept [] h = tt
each-begins c first root p kept (l ∷ ls) h =
    let more = drop root (told_of l).condition in
    partials-append first (combined c root p kept l) (flat_map (combined c root p kept) ls) (joined-begins c first p kept (add_all p.condition more) l (add_all-begins first p.condition more h)) (each-begins c first root p kept ls h)

combined-begins : (c : Context) (first : List Tree) (root : ℕ) (ls : List Leaf) (p : Partial) → BeginsWith first p.condition → PartialsBegin first (combined_all c root ls p)
combined-begins c first root ls p h =
    elim p.kept as (λ o. PartialsBegin first (elim o [ None ↦ p ∷ [] | Some kept ↦ flat_map (combined c root p kept) ls ]))
    [ None ↦ (h, tt) | Some kept ↦ each-begins c first root p kept ls h ]

all-begin : (c : Context) (first : List Tree) (root : ℕ) (ls : List Leaf) (ps : List Partial) → PartialsBegin first ps → PartialsBegin first (flat_map (combined_all c root ls) ps)
all-begin c first root ls [] h = tt
all-begin c first root ls (p ∷ ps) h = partials-append first (combined_all c root ls p) (flat_map (combined_all c root ls) ps) (combined-begins c first root ls p h.0) (all-begin c first root ls ps h.1)

abbrev PartialsBeginIf : List Tree → Option (List Partial) → Type 0
PartialsBeginIf first None = Unit {0}
PartialsBeginIf first (Some ps) = PartialsBegin first ps

folded-begins : (c : Context) (s : State) (first : List Tree) (lists : List (List Leaf)) (ps : List Partial) → PartialsBegin first ps → PartialsBeginIf first (folded c s lists ps)
folded-begins c s first [] ps h = h
folded-begins c s first (ls ∷ lists) ps h =
    let next = flat_map (combined_all c (length s.condition) ls) ps in
    elim (nat_lt s.shares (length next)) as (λ b. PartialsBeginIf first (elim b [ true ↦ None | false ↦ folded c s lists next ]))
    [ true ↦ tt | false ↦ folded-begins c s first lists next (all-begin c first (length s.condition) ls ps h) ]

-- ---- children

-- behind the merge: the condition begins so, no more steps are left, and the recovery and the frame are the same
abbrev IsMerged : List Tree → ℕ → Option Target → Frame → State → Type 0
IsMerged first left at frame s = BeginsWith first s.condition × ((s.left ≤ left) × ((s.target ≡ at) × (s.frame ≡ frame)))

abbrev LeafIsMerged : List Tree → ℕ → Option Target → Leaf → Type 0
LeafIsMerged first left at l = BeginsWith first (told_of l).condition × (((told_of l).left ≤ left) × LeafHas l at)

abbrev ChildIsMerged : List Tree → ℕ → Option Target → Frame → Child → Type 0
ChildIsMerged first left at frame (Go s) = IsMerged first left at frame s
ChildIsMerged first left at frame (Stop l) = LeafIsMerged first left at l

abbrev ChildrenAreMerged : List Tree → ℕ → Option Target → Frame → List Child → Type 0
ChildrenAreMerged first left at frame [] = Unit {0}
ChildrenAreMerged first left at frame (c ∷ cs) = ChildIsMerged first left at frame c × ChildrenAreMerged first left at frame cs

abbrev StepIsMerged : List Tree → ℕ → Option Target → Frame → Step → Type 0
StepIsMerged first left at frame (Goes s) = ⊥
StepIsMerged first left at frame (Forks cs) = ChildrenAreMerged first left at frame cs
StepIsMerged first left at frame (Needs s calls) = ⊥
StepIsMerged first left at frame (Ends l) = LeafIsMerged first left at l

module _ (first : List Tree) (left : ℕ) (at : Option Target) (frame : Frame) where
  filled_by-merged : (s : State) (needed : Needed) (l : Leaf) → IsMerged first left at frame s → IsMerged first left at frame (filled_by s needed l)
  filled_by-merged s needed (leaf.Done t entries v) h = h
  filled_by-merged s needed _ h = h

  filled_all-merged : (s : State) (needs : List Needed) (ls : List Leaf) → IsMerged first left at frame s → IsMerged first left at frame (filled_all s needs ls)
  filled_all-merged s [] ls h = h
  filled_all-merged s (needed ∷ needs) [] h = h
  filled_all-merged s (needed ∷ needs) (l ∷ ls) h = filled_all-merged (filled_by s needed l) needs ls (filled_by-merged s needed l h)

  less : (n m : ℕ) → n ≤ left → n - m ≤ left
  less n m h = omega (arith, h)

  by_cause-merged : (o : Option Cause) (s : State) (needs : List Needed) (kept : List ℕ) (p : Partial) → BeginsWith first p.condition → IsMerged first left at frame s → ChildIsMerged first left at frame (child_by_cause o s needs kept p)
  by_cause-merged (Some why) s needs kept p begins h = (begins, (less s.left (steps_of s.left p.used) h.1.0, tt))
  by_cause-merged None s needs kept p begins h =
      filled_all-merged (record (state_of s p) { kept = kept }) needs p.used (begins, (less s.left (steps_of s.left p.used) h.1.0, h.1.1))

  by_fault-merged : (o : Option Where) (s : State) (needs : List Needed) (kept : List ℕ) (p : Partial) → BeginsWith first p.condition → IsMerged first left at frame s → ChildIsMerged first left at frame (child_by_fault o s needs kept p)
  by_fault-merged (Some f) s needs kept p begins h = (begins, (less s.left (steps_of s.left p.used) h.1.0, tt))
  by_fault-merged None s needs kept p begins h = by_cause-merged (first_some cause_of p.used) s needs kept p begins h

  child-merged : (s : State) (needs : List Needed) (p : Partial) → BeginsWith first p.condition → IsMerged first left at frame s → ChildIsMerged first left at frame (child_of s needs p)
  child-merged s needs p begins h =
      elim p.kept as (λ o. ChildIsMerged first left at frame (elim o [
        | None ↦ Stop (leaf.Open (told_with None p.condition (state_of s p)) cause.Solver)
        | Some kept ↦ child_by_fault (first_some fault_of p.used) s needs kept p
      ])) [
        | None ↦ (begins, (less s.left (steps_of s.left p.used) h.1.0, tt))
        | Some kept ↦ by_fault-merged (first_some fault_of p.used) s needs kept p begins h
      ]

  children-merged : (s : State) (needs : List Needed) (m j : ℕ) (ps : List Partial) → PartialsBegin first ps → IsMerged first left at frame s → ChildrenAreMerged first left at frame (children_of s needs m j ps)
  children-merged s needs m j [] begin h = tt
  children-merged s needs m j (p ∷ ps) begin h = (child-merged (record s { shares = share_of s.shares m j }) needs p begin.0 h, children-merged s needs m (j + 1) ps begin.1 h)

reflexive : (n : ℕ) → n ≤ n
reflexive n = omega arith

pub merged-given : (c : Context) (s : State) (needs : List Needed) (results : List (List Leaf)) → StepIsMerged s.condition s.left s.target s.frame (merged c s needs results)
merged-given c s needs results =
    let same = begins-same s.condition in
    elim (folded c s results (first_partial s ∷ [])) as (λ o. PartialsBeginIf s.condition o → StepIsMerged s.condition s.left s.target s.frame (elim o [
      | None ↦ opens cause.Shares s
      | Some partials ↦ Forks (children_of s needs (length partials) 0 partials)
    ])) [
      | None ↦ (λ h. (same, (reflexive s.left, tt)))
      | Some partials ↦ (λ h. children-merged s.condition s.left s.target s.frame s needs (length partials) 0 partials h (same, (reflexive s.left, (refl, refl))))
    ]
    (folded-begins c s s.condition results (first_partial s ∷ []) (same, tt))

-- ---- the laws

children-begin : (first : List Tree) (left : ℕ) (at : Option Target) (frame : Frame) (cs : List Child) → ChildrenAreMerged first left at frame cs → ChildrenBegin first cs
children-begin first left at frame [] h = tt
children-begin first left at frame (Go s ∷ cs) h = (h.0.0, children-begin first left at frame cs h.1)
children-begin first left at frame (Stop l ∷ cs) h = (h.0.0, children-begin first left at frame cs h.1)

step-begins : (first : List Tree) (left : ℕ) (at : Option Target) (frame : Frame) (a : Step) → StepIsMerged first left at frame a → StepBegins first a
step-begins first left at frame (Goes s) h = absurd h
step-begins first left at frame (Forks cs) h = children-begin first left at frame cs h
step-begins first left at frame (Needs s calls) h = absurd h
step-begins first left at frame (Ends l) h = h.0

pub merges-begin : MergesBegin
merges-begin c s needs results = step-begins s.condition s.left s.target s.frame (merged c s needs results) (merged-given c s needs results)

children-have : (first : List Tree) (left : ℕ) (at : Option Target) (frame : Frame) (cs : List Child) → ChildrenAreMerged first left at frame cs → ChildrenHave at cs
children-have first left at frame [] h = tt
children-have first left at frame (Go s ∷ cs) h = (h.0.1.1.0, children-have first left at frame cs h.1)
children-have first left at frame (Stop l ∷ cs) h = (h.0.1.1, children-have first left at frame cs h.1)

step-has : (first : List Tree) (left : ℕ) (at : Option Target) (frame : Frame) (a : Step) → StepIsMerged first left at frame a → StepHas at a
step-has first left at frame (Goes s) h = absurd h
step-has first left at frame (Forks cs) h = children-have first left at frame cs h
step-has first left at frame (Needs s calls) h = absurd h
step-has first left at frame (Ends l) h = h.1.1

pub merges-have : MergesHave
merges-have c s needs results = step-has s.condition s.left s.target s.frame (merged c s needs results) (merged-given c s needs results)

children-fall : (first : List Tree) (left : ℕ) (at : Option Target) (frame : Frame) (cs : List Child) → IsPlacedIn at frame.place → ChildrenAreMerged first left at frame cs → ChildrenHaveNoMore left cs
children-fall first left at frame [] placed h = tt
children-fall first left at frame (Go s ∷ cs) placed h =
    ((h.0.1.0, subst (λ t. IsPlacedIn t s.frame.place) (sym h.0.1.1.0) (subst (λ f. IsPlacedIn at f.place) (sym h.0.1.1.1) placed)), children-fall first left at frame cs placed h.1)
children-fall first left at frame (Stop l ∷ cs) placed h = ((h.0.1.0, tt), children-fall first left at frame cs placed h.1)

step-falls : (first : List Tree) (left : ℕ) (at : Option Target) (frame : Frame) (a : Step) → IsPlacedIn at frame.place → StepIsMerged first left at frame a → MergeHasNoMore left a
step-falls first left at frame (Goes s) placed h = h
step-falls first left at frame (Forks cs) placed h = children-fall first left at frame cs placed h
step-falls first left at frame (Needs s calls) placed h = h
step-falls first left at frame (Ends l) placed h = h.1.0

pub merges-fall : MergesFall
merges-fall c s needs results placed = step-falls s.condition s.left s.target s.frame (merged c s needs results) placed (merged-given c s needs results)

root-begins : (e : Setting) (s : State) (at : Location) (o : Option Snapshot) → condition_of (recovery_if e s at o) ≡ s.condition
root-begins e s at None = refl
root-begins e s at (Some shot) = refl

pub roots-begin : RootsBegin
roots-begin e s [] = tt
roots-begin e s (n ∷ needs) = (root-begins e s n.at (slice_get s.snapshots (n.call.0 - 1)), roots-begin e s needs)

root-falls : (e : Setting) (s : State) (at : Location) (o : Option Snapshot) → IsPlaced s → (left_of (recovery_if e s at o) ≤ s.left) × ChildIsPlaced (recovery_if e s at o)
root-falls e s at None placed = (reflexive s.left, placed)
root-falls e s at (Some shot) placed = (reflexive s.left, tt)

pub roots-fall : RootsFall
roots-fall e s [] placed = tt
roots-fall e s (n ∷ needs) placed = (root-falls e s n.at (slice_get s.snapshots (n.call.0 - 1)) placed, roots-fall e s needs placed)

root-has : (e : Setting) (s : State) (at : Location) (o : Option Snapshot) → ChildHas (target_if s at o) (recovery_if e s at o)
root-has e s at None = refl
root-has e s at (Some shot) = refl

pub roots-have : RootsHave
roots-have e s [] = tt
roots-have e s (n ∷ needs) = (root-has e s n.at (slice_get s.snapshots (n.call.0 - 1)), roots-have e s needs)
