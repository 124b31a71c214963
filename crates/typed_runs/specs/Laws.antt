-- What is so of each run of a program that passed its checks.
use Rattle.std.specs.Prelude.{◌≡◌, ℕ, suc, ◌<◌, true, List, [], All}
use Rattle.std.specs.List.{AllByRecursion as Each}
use Rattle.checks.specs.Errors.{IsChecked}
use Rattle.checks.specs.Types.{type_of}
use Rattle.checks.specs.Typed.{is_typed}
use Rattle.flat_ir.specs.declared.names.FuncId.{FuncId}
use Rattle.flat_ir.specs.declared.names.NodeId.{NodeId}
use Rattle.flat_ir.specs.declared.nodes.Operand.{Operand}
use Rattle.flat_ir.specs.declared.program.ProgramData.{ProgramData}
use Rattle.flat_ir.specs.Machine.{Frame, State, func_at, regs_of, node_at, value_in}
use Rattle.flat_ir.specs.Run.{step, run, trace}
use Rattle.flat_ir.specs.Whole.{IsWhole}
use Rattle.typed_runs.specs.TypedRuns.{HasType, HoldsTypes, IsTyped, RunIsTyped}
use Rattle.typed_runs.specs.FittingRuns.{NumbersFit, IsFitting, RunIsFitting}
use Rattle.typed_runs.specs.Counting.{StateCountsTo, RunCountsTo}
use Rattle.typed_runs.specs.Shown.{ShowTypes, EventFits}
use Rattle.typed_runs.specs.Suiting.{Suits, result_of}

-- each state of each run is typed
abbrev pub RunsAreTyped : Type 0
RunsAreTyped = (p : ProgramData) (input : List ℕ) (n : ℕ) → IsChecked p.funcs → RunIsTyped p (run p input n)

-- a step from any typed state leads to one
abbrev pub StepsKeepTypes : Type 0
StepsKeepTypes = (p : ProgramData) (input : List ℕ) (s : State) → IsChecked p.funcs → IsTyped p s → RunIsTyped p (step p input s)

-- each node that there is has the types that it needs
abbrev pub NodesAreTyped : Type 0
NodesAreTyped = (p : ProgramData) (f : FuncId) (n : NodeId) → IsChecked p.funcs
    → is_typed p.funcs (regs_of (func_at p f)) (result_of (func_at p f)) (node_at p f n) ≡ true

-- each operand in a typed frame has a value of its type
abbrev pub OperandsAreTyped : Type 0
OperandsAreTyped = (p : ProgramData) (f : Frame) (a : Operand) → HoldsTypes p f → HasType (type_of (regs_of (func_at p f.func)) a) (value_in f a)

-- a typed frame suits the node at which it stands
abbrev pub TypedFramesSuit : Type 0
TypedFramesSuit = (p : ProgramData) (f : Frame) → IsWhole p → IsChecked p.funcs → HoldsTypes p f → Suits p f (node_at p f.func f.node)

-- what a run shows has its types
abbrev pub TracesAreTyped : Type 0
TracesAreTyped = (p : ProgramData) (input : List ℕ) (n : ℕ) → IsChecked p.funcs → ShowTypes p [] (trace p input n)

-- where each number of the program and each byte of the input fits, so it does in each state of each run
abbrev pub RunsFit : Type 0
RunsFit = (p : ProgramData) (input : List ℕ) (n : ℕ) → IsWhole p → IsChecked p.funcs → NumbersFit p → All (λ b. b < 256) input
    → RunIsFitting (run p input n)

-- a step from any such state leads to one
abbrev pub StepsKeepFitting : Type 0
StepsKeepFitting = (p : ProgramData) (input : List ℕ) (s : State) → IsWhole p → IsChecked p.funcs → NumbersFit p → All (λ b. b < 256) input
    → IsTyped p s → IsFitting s → RunIsFitting (step p input s)

-- and each value that a run shows fits
abbrev pub TracesFit : Type 0
TracesFit = (p : ProgramData) (input : List ℕ) (n : ℕ) → IsWhole p → IsChecked p.funcs → NumbersFit p → All (λ b. b < 256) input
    → Each EventFits (trace p input n)

-- in n steps each frame has executed each node at most n times
abbrev pub RunsCount : Type 0
RunsCount = (p : ProgramData) (input : List ℕ) (n : ℕ) → RunCountsTo n (run p input n)

-- in a step at most once more
abbrev pub StepsCount : Type 0
StepsCount = (p : ProgramData) (input : List ℕ) (n : ℕ) (s : State) → StateCountsTo n s → RunCountsTo (suc n) (step p input s)
