-- What a leaf of an exploration says of the runs that it stands for.
use Rattle.std.specs.Prelude.{◌≡◌, ℕ, ◌<◌, Bool, IsTrue, List, ◌++◌, length, All, Option, count_by}
use Rattle.flat_ir.specs.declared.names.FuncId.{FuncId}
use Rattle.flat_ir.specs.declared.names.NodeId.{NodeId}
use Rattle.flat_ir.specs.declared.program.ProgramData.{ProgramData}
use Rattle.flat_ir.specs.declared.values.ConcreteValue.{ConcreteValue}
use Rattle.flat_ir.specs.declared.values.FaultKind.{FaultKind}
use Rattle.flat_ir.specs.History.{output}
use Rattle.flat_ir.specs.Machine.{Event, State, End, Exited, Faulted, Over}
use Rattle.flat_ir.specs.Run.{run, trace}
use Rattle.flat_ir.specs.Skipped.{outside, results, Returns}

-- what a leaf says of one input
pub data Verdict : Type 0 where
  Completes : (status : ℕ) (written : List ℕ) → Verdict
  Faults : (kind : FaultKind) (func : FuncId) (node : NodeId) (written : List ℕ) → Verdict
  Skips : Verdict
  Opens : Verdict

-- a leaf, by what it says of each input: whether the input meets its condition, the branches and loads of its path,
-- where the skipped calls gave these results, and how it ends
pub record Claim : Type 0 where
  pub is_met : List ℕ → Bool
  pub path : List ℕ → List (Option ConcreteValue) → List Event
  pub verdict : List ℕ → Verdict

-- so many bytes
abbrev pub IsInput : ℕ → List ℕ → Type 0
IsInput n input = (length input ≡ n) × All (λ b. b < 256) input

-- The leaves split the inputs: each input meets the condition of exactly one.
abbrev pub Splits : ℕ → List Claim → Type 0
Splits n claims = (input : List ℕ) → IsInput n input → count_by (λ c. c.is_met input) claims ≡ 1

-- the run ends so after n steps, having written these bytes
pub record EndsWith (p : ProgramData) (input : List ℕ) (n : ℕ) (e : End) (written : List ℕ) : Type 0 where
  pub left : State
  pub over : run p input n ≡ Over e left
  pub wrote : output left.history ≡ written

-- what the run shows outside of skipped calls after n steps is the path
abbrev pub Follows : ProgramData → List FuncId → List ℕ → ℕ → (List (Option ConcreteValue) → List Event) → Type 0
Follows p names input n path = outside names (trace p input n) ≡ path (results names (trace p input n))

-- it begins with the path
abbrev pub BeginsWith : ProgramData → List FuncId → List ℕ → ℕ → (List (Option ConcreteValue) → List Event) → Type 0
BeginsWith p names input n path =
    (more : List Event) × (outside names (trace p input n) ≡ path (results names (trace p input n)) ++ more)

-- What a verdict says of the run on an input: it ends with this status and these bytes written, or with this fault, having
-- followed the path; there is no such run; or it begins with the path.
abbrev pub Holds : ProgramData → List FuncId → List ℕ → (List (Option ConcreteValue) → List Event) → Verdict → Type 0
Holds p names input path (Completes status written) = (n : ℕ) × EndsWith p input n (Exited status) written × Follows p names input n path
Holds p names input path (Faults kind func node written) = (n : ℕ) × EndsWith p input n (Faulted kind func node) written × Follows p names input n path
Holds p names input path Skips = ⊥
Holds p names input path Opens = (n : ℕ) × BeginsWith p names input n path

-- A sound leaf: its verdict holds on each input that meets its condition and on which skipped calls return.
abbrev pub IsSound : ProgramData → List FuncId → ℕ → Claim → Type 0
IsSound p names n claim =
    (input : List ℕ) → IsInput n input → IsTrue (claim.is_met input) → Returns p names input →
    Holds p names input (claim.path input) (claim.verdict input)
