-- What the parts of the search say.
use Rattle.std.specs.Prelude.{◌≡◌, ◌↔◌, ℕ, ◌<◌, All, List, Option, None, MatchOption, length}
use Rattle.flat_ir.specs.declared.check.CheckError.{CheckError}
use Rattle.flat_ir.specs.declared.names.FuncId.{FuncId}
use Rattle.flat_ir.specs.declared.names.RegId.{RegId}
use Rattle.flat_ir.specs.declared.program.Func.{Func}
use Rattle.flow.specs.declared.undefined.Undefined.{Undefined}
use Rattle.flow.specs.Answers.{NamesFirst}
use Rattle.flow.specs.Flow.{AreDefined}
use Rattle.flow.specs.Named.{IsNamed}
use Rattle.flow.specs.Paths.{NoneAt, FirstAt, node_of}
use Rattle.checks.specs.Errors.{IsClean, FailsAt}

-- a function that names its own nodes and registers
pub record IsOwn (f : Func) : Type 0 where
  pub named : IsNamed f
  pub clashes : All (λ n. n.0 < length f.nodes) f.clashes
  pub bad_edges : All (λ n. n.0 < length f.nodes) f.bad_edges

-- what is told of a function's registers is its first undefined place
pub record Tells (f : Func) (told : Option Undefined) : Type 0 where
  pub none : (told ≡ None) ↔ AreDefined f
  pub first : NamesFirst f told

-- no undefined register is read below the node
abbrev pub NoneBelow : Func → ℕ → Type 0
NoneBelow f n = (m : ℕ) → m < n → NoneAt f (node_of m)

-- whether the node reads an undefined register, and the first of them
abbrev pub ReadsAt : Option Undefined → ℕ → Option RegId → Type 0
ReadsAt told n found = (f : Func) → Tells f told → NoneBelow f n → MatchOption found (NoneAt f (node_of n)) (FirstAt f (node_of n))

-- no condition fails below the node
abbrev pub CleanBelow : List Func → Func → ℕ → Type 0
CleanBelow funcs f n = (m : ℕ) → m < n → IsClean funcs f (node_of m)

-- whether a condition fails at the node, and the first of them
abbrev pub FoundAt : List Func → FuncId → Func → ℕ → Option CheckError → Type 0
FoundAt funcs k f n found = MatchOption found (IsClean funcs f (node_of n)) (FailsAt funcs k f (node_of n))
