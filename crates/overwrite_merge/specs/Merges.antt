-- The merge of recoveries, of a base and lists of leaves alone: every combination of leaves that some input meets.
use Rattle.std.specs.Prelude.{ℕ, ◌+◌, ◌-◌, nat_lt, true, false, List, [], ◌∷◌, ◌++◌, length, map, drop, Option, Some, None}
use Rattle.std.specs.List.{flat_map}
use Rattle.terms.specs.Tree.{Tree}
use Rattle.flat_ir.specs.declared.names.FuncId.{FuncId}
use Rattle.flat_ir.specs.declared.names.NodeId.{NodeId}
use Rattle.flat_ir.specs.declared.names.Location.{Location}
use Rattle.flat_ir.specs.declared.values.FaultKind.{FaultKind}
use Rattle.sym_bytes.specs.declared.names.CallId.{CallId}
use Rattle.sym_bytes.specs.Entry.{Entry}
use Rattle.sym_bytes.specs.Value.{SymValue}
use Rattle.leaves.specs.declared.options.Cause.{Cause}
use Rattle.leaves.specs.declared.options.Cause.TheVariants as cause
use Rattle.leaves.specs.Events.{Leaf, told_of}
use Rattle.leaves.specs.Events as leaf
use Rattle.sym_states.specs.Merging.{Partial, Where, add_all, by_verdict, still_meets, fault_of, cause_of, first_some, steps_of}
use Rattle.sym_states.specs.Sides.{share_of}
use Rattle.sym_states.specs.Verdicts.{Verdict}

-- what a suspended state brings to its merge: its condition, the input that is kept, its steps left and its shares
pub record Base : Type 0 where
  pub condition : List Tree
  pub kept : List ℕ
  pub left : ℕ
  pub shares : ℕ

-- a call that was needed, the location of which its changes were, and the leaves of its recovery
pub record CallLeaves : Type 0 where
  pub call : CallId
  pub at : Location
  pub leaves : List Leaf

abbrev pub leaves_of : List CallLeaves → List (List Leaf)
leaves_of calls = map (λ c. c.leaves) calls

-- what a recovery gave: the call's changes in the location, the newest first, or its result
pub record Filling : Type 0 where
  pub call : CallId
  pub at : Location
  pub entries : List Entry
  pub result : Option SymValue

-- the suspended state goes on with these in their places; or a call doesn't return; or the combination stays open
pub data End : Type 0 where
  Fills : List Filling → End
  Skipped : (kind : FaultKind) (func : FuncId) (node : NodeId) → End
  Open : Cause → End

-- what a combination becomes: its condition, its input unless a verdict was spent, its steps left, its shares, and its end
pub record Child : Type 0 where
  pub condition : List Tree
  pub kept : Option (List ℕ)
  pub left : ℕ
  pub shares : ℕ
  pub end : End

-- the combinations, or more of them than there are shares
pub data Merged : Type 0 where
  Children : List Child → Merged
  TooMany : Merged

-- a combination and one leaf more, with what its condition becomes
abbrev pub joined_with : (List Tree → ℕ → Verdict) → Partial → List ℕ → Option (List Tree) → Leaf → List Partial
joined_with verdict p kept None l = []
joined_with verdict p kept (Some condition) l = elim (still_meets kept p.condition condition) [
  | true ↦ record { condition = condition; kept = Some kept; used = p.used ++ l ∷ [] } ∷ []
  | false ↦ by_verdict (verdict condition (length kept)) condition (p.used ++ l ∷ [])
]

-- the first conjuncts of a leaf are the base's
abbrev pub combined : (List Tree → ℕ → Verdict) → ℕ → Partial → List ℕ → Leaf → List Partial
combined verdict root p kept l = joined_with verdict p kept (add_all p.condition (drop root (told_of l).condition)) l

-- a combination whose verdict was spent is carried on
abbrev pub combined_all : (List Tree → ℕ → Verdict) → ℕ → List Leaf → Partial → List Partial
combined_all verdict root leaves p = elim p.kept [ None ↦ p ∷ [] | Some kept ↦ flat_map (combined verdict root p kept) leaves ]

-- call by call; none where a list has more combinations than there are shares
abbrev pub folded : (List Tree → ℕ → Verdict) → ℕ → ℕ → List (List Leaf) → List Partial → Option (List Partial)
folded verdict root shares [] partials = Some partials
folded verdict root shares (leaves ∷ more) partials =
    let next = flat_map (combined_all verdict root leaves) partials in
    elim (nat_lt shares (length next)) [ true ↦ None | false ↦ folded verdict root shares more next ]

abbrev pub first_partial : Base → Partial
first_partial base = record { condition = base.condition; kept = Some base.kept; used = [] }

-- a leaf that isn't done gives nothing
abbrev pub filling_of : CallLeaves → Leaf → List Filling
filling_of c (leaf.Done t entries result) = record { call = c.call; at = c.at; entries = entries; result = result } ∷ []
filling_of c _ = []

-- of each call by the leaf that was used of it
abbrev pub fillings_of : List CallLeaves → List Leaf → List Filling
fillings_of [] ls = []
fillings_of (c ∷ cs) [] = []
fillings_of (c ∷ cs) (l ∷ ls) = filling_of c l ++ fillings_of cs ls

abbrev pub end_by_cause : Option Cause → List CallLeaves → List Leaf → End
end_by_cause (Some cause) calls used = Open cause
end_by_cause None calls used = Fills (fillings_of calls used)

abbrev pub end_by_fault : Option Where → List CallLeaves → List Leaf → End
end_by_fault (Some f) calls used = Skipped f.kind f.func f.node
end_by_fault None calls used = end_by_cause (first_some cause_of used) calls used

-- without an input the solver's budget was spent; a fault is before a cause
abbrev pub end_of : Option (List ℕ) → List CallLeaves → List Leaf → End
end_of None calls used = Open cause.Solver
end_of (Some kept) calls used = end_by_fault (first_some fault_of used) calls used

abbrev pub child_of : Base → List CallLeaves → ℕ → Partial → Child
child_of base calls shares p = record {
  condition = p.condition;
  kept = p.kept;
  left = base.left - steps_of base.left p.used;
  shares = shares;
  end = end_of p.kept calls p.used;
}

-- the children from number j on, of k
abbrev pub children_of : Base → List CallLeaves → ℕ → ℕ → List Partial → List Child
children_of base calls k j [] = []
children_of base calls k j (p ∷ ps) = child_of base calls (share_of base.shares k j) p ∷ children_of base calls k (j + 1) ps

abbrev pub merge : (List Tree → ℕ → Verdict) → Base → List CallLeaves → Merged
merge verdict base calls = elim (folded verdict (length base.condition) base.shares (leaves_of calls) (first_partial base ∷ [])) [
  | None ↦ TooMany
  | Some partials ↦ Children (children_of base calls (length partials) 0 partials)
]
