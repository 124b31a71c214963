-- What a suspended state becomes when its recoveries are there: every combination of their leaves that some input meets.
use Rattle.std.specs.Prelude.{ℕ, ◌+◌, ◌-◌, ◌==◌, ◌||◌, nat_lt, Bool, true, false, List, [], ◌∷◌, ◌++◌, length, map, drop, Option, Some, None, if◌then◌else◌}
use Rattle.std.specs.List.{flat_map}
use Rattle.terms.specs.Tree.{Tree}
use Rattle.terms.specs.Value.{are_met_by}
use Rattle.term_store.specs.Condition.{answer}
use Rattle.term_store.specs.declared.conditions.Added.TheVariants.{Held, Appended, Contradicted}
use Rattle.sym_states.specs.Verdicts.{Verdict, Sat, Unsat, Spent}
use Rattle.flat_ir.specs.declared.names.FuncId.{FuncId}
use Rattle.flat_ir.specs.declared.names.NodeId.{NodeId}
use Rattle.flat_ir.specs.declared.names.Location.TheVariants as location
use Rattle.flat_ir.specs.declared.values.FaultKind.{FaultKind}
use Rattle.sym_bytes.specs.Building.{same_call}
use Rattle.sym_bytes.specs.Value.{SymValue}
use Rattle.log_laws.specs.Logs.{fill}
use Rattle.write_log.specs.Memory.{with_log}
use Rattle.leaves.specs.declared.options.Cause.{Cause}
use Rattle.leaves.specs.declared.options.Cause.TheVariants as cause
use Rattle.leaves.specs.Events.{Leaf, told_of}
use Rattle.leaves.specs.Events as leaf
use Rattle.sym_states.specs.Sides.{share_of}
use Rattle.skip_records.specs.Snapshots.{Snapshot}
use Rattle.sym_states.specs.States.{State, Context, Child, Go, Stop, Step, Forks, Needed, told_with, opens}

-- a combination so far: its condition, its input unless a verdict was spent, and the leaves that it used, in order
pub record Partial : Type 0 where
  pub condition : List Tree
  pub kept : Option (List ℕ)
  pub used : List Leaf

abbrev pub add_all : List Tree → List Tree → Option (List Tree)
add_all condition [] = Some condition
add_all condition (t ∷ ts) = elim (answer condition t)
    [ Contradicted ↦ None | Held ↦ add_all condition ts | Appended ↦ add_all (condition ++ t ∷ []) ts ]

abbrev pub by_verdict : Verdict → List Tree → List Leaf → List Partial
by_verdict (Sat input) condition used = record { condition = condition; kept = Some input; used = used } ∷ []
by_verdict Unsat condition used = []
by_verdict Spent condition used = record { condition = condition; kept = None; used = used } ∷ []

-- the input is kept where nothing was appended, or where it meets all conjuncts
abbrev pub still_meets : List ℕ → List Tree → List Tree → Bool
still_meets kept old new = (length old == length new) || are_met_by kept new

abbrev pub joined_with : Context → Partial → List ℕ → Option (List Tree) → Leaf → List Partial
joined_with c p kept None l = []
joined_with c p kept (Some condition) l = elim (still_meets kept p.condition condition) [
  | true ↦ record { condition = condition; kept = Some kept; used = p.used ++ l ∷ [] } ∷ []
  | false ↦ by_verdict (c.verdict condition (length kept)) condition (p.used ++ l ∷ [])
]

-- a combination and one leaf more; the first conjuncts of a leaf are the suspended state's
abbrev pub combined : Context → ℕ → Partial → List ℕ → Leaf → List Partial
combined c root p kept l = joined_with c p kept (add_all p.condition (drop root (told_of l).condition)) l

-- a combination whose verdict was spent is carried on
abbrev pub combined_all : Context → ℕ → List Leaf → Partial → List Partial
combined_all c root leaves p = elim p.kept [ None ↦ p ∷ [] | Some kept ↦ flat_map (combined c root p kept) leaves ]

-- call by call; none where a list has more combinations than there are shares
abbrev pub folded : Context → State → List (List Leaf) → List Partial → Option (List Partial)
folded c s [] partials = Some partials
folded c s (leaves ∷ more) partials =
    let next = flat_map (combined_all c (length s.condition) leaves) partials in
    elim (nat_lt s.shares (length next)) [ true ↦ None | false ↦ folded c s more next ]

abbrev pub first_partial : State → Partial
first_partial s = record { condition = s.condition; kept = Some s.kept; used = [] }

pub record Where : Type 0 where
  pub kind : FaultKind
  pub func : FuncId
  pub node : NodeId

abbrev pub fault_of : Leaf → Option Where
fault_of (leaf.Fault t kind func node output) = Some (record { kind = kind; func = func; node = node })
fault_of (leaf.Skipped t kind func node) = Some (record { kind = kind; func = func; node = node })
fault_of _ = None

abbrev pub cause_of : Leaf → Option Cause
cause_of (leaf.Open t cause) = Some cause
cause_of _ = None

abbrev pub first_some : {A : Type 0} → (Leaf → Option A) → List Leaf → Option A
first_some f [] = None
first_some f (l ∷ ls) = elim (f l) [ Some x ↦ Some x | None ↦ first_some f ls ]

abbrev pub steps_of : ℕ → List Leaf → ℕ
steps_of left [] = 0
steps_of left (l ∷ ls) = (left - (told_of l).left) + steps_of left ls

abbrev pub has_recovered : Needed → Option SymValue → Snapshot → Snapshot
has_recovered n result s =
    if same_call n.call s.call
    then record s { recovered = s.recovered ++ n.at ∷ []; result = elim n.at [ location.Result ↦ result | _ ↦ s.result ] }
    else s

-- what a recovery gave is put in its place
abbrev pub filled_by : State → Needed → Leaf → State
filled_by s n (leaf.Done t entries result) =
    record s { memory = with_log (fill n.call n.at entries s.memory.log) s.memory; snapshots = map (has_recovered n result) s.snapshots }
filled_by s n _ = s

abbrev pub filled_all : State → List Needed → List Leaf → State
filled_all s [] ls = s
filled_all s (n ∷ ns) [] = s
filled_all s (n ∷ ns) (l ∷ ls) = filled_all (filled_by s n l) ns ls

-- the state with the combination's condition and what is left
abbrev pub state_of : State → Partial → State
state_of s p = record s { condition = p.condition; left = s.left - steps_of s.left p.used }

abbrev pub child_by_cause : Option Cause → State → List Needed → List ℕ → Partial → Child
child_by_cause (Some cause) s needs kept p = Stop (leaf.Open (told_with (Some kept) p.condition (state_of s p)) cause)
child_by_cause None s needs kept p = Go (filled_all (record (state_of s p) { kept = kept }) needs p.used)

abbrev pub child_by_fault : Option Where → State → List Needed → List ℕ → Partial → Child
child_by_fault (Some f) s needs kept p = Stop (leaf.Skipped (told_with (Some kept) p.condition (state_of s p)) f.kind f.func f.node)
child_by_fault None s needs kept p = child_by_cause (first_some cause_of p.used) s needs kept p

abbrev pub child_of : State → List Needed → Partial → Child
child_of s needs p = elim p.kept [
  | None ↦ Stop (leaf.Open (told_with None p.condition (state_of s p)) cause.Solver)
  | Some kept ↦ child_by_fault (first_some fault_of p.used) s needs kept p
]

abbrev pub children_of : State → List Needed → ℕ → ℕ → List Partial → List Child
children_of s needs k j [] = []
children_of s needs k j (p ∷ ps) = child_of (record s { shares = share_of s.shares k j }) needs p ∷ children_of s needs k (j + 1) ps

-- the suspended state goes on as a fork of its combinations
abbrev pub merged : Context → State → List Needed → List (List Leaf) → Step
merged c s needs results = elim (folded c s results (first_partial s ∷ [])) [
  | None ↦ opens cause.Shares s
  | Some partials ↦ Forks (children_of s needs (length partials) 0 partials)
]
