-- What is taken of a program, of an input and of a state where no call is skipped.
use Rattle.std.specs.Prelude.{◌≡◌, ℕ, ◌<◌, ◌==◌, ◌&&◌, Bool, List, [], ◌∷◌, length, map, All, Option, Some, None, slice_get}
use Rattle.std.specs.List.{AllByRecursion as Each, IsDistinct}
use Rattle.bitnum.specs.Number.{Number}
use Rattle.checks.specs.Errors.{IsChecked}
use Rattle.flow.specs.Flow.{Leads, IsSet}
use Rattle.typed_runs.specs.FittingRuns.{NumbersFit}
use Rattle.typed_runs.specs.TypedRuns.{IsCallOf}
use Rattle.flat_ir.specs.declared.names.NodeId.{NodeId}
use Rattle.flat_ir.specs.declared.names.RegId.{RegId}
use Rattle.flat_ir.specs.declared.nodes.Node.{Node}
use Rattle.flat_ir.specs.declared.nodes.Node.TheVariants as node
use Rattle.flat_ir.specs.declared.program.Func.{Func}
use Rattle.flat_ir.specs.declared.program.ProgramData.{ProgramData}
use Rattle.flat_ir.specs.Machine.{func_at}
use Rattle.flat_ir.specs.Whole.{IsWhole}
use Rattle.log_laws.specs.Standing.{Gave}
use Rattle.sym_bytes.specs.Value.{SymValue}
use Rattle.state_laws.specs.Kept.{IsFitting, ProgramFits, StateFitsAt}
use Rattle.state_laws.specs.Skipless.{HasNoCalls}
use Rattle.sym_states.specs.declared.frames.Place.TheVariants.{At}
use Rattle.sym_states.specs.States.{Frame, State, Context, node_of, code_of}

-- a program that passed its checks, of which no call is skipped, outside of a recovery
pub record IsPlain (c : Context) : Type 0 where
  pub whole : IsWhole c.program
  pub checked : IsChecked c.program.funcs
  pub numbers : NumbersFit c.program
  pub fitting : IsFitting c
  pub program : ProgramFits c.program
  pub no_skips : c.skips ≡ []
  pub no_slice : c.residual ≡ None

-- ---- programs

abbrev pub same_number : Number → Number → Bool
same_number a b = (a.width == b.width) && (a.bits == b.bits)

-- no number of a switch stands twice (LLVM Language Reference, "'switch' Instruction")
abbrev pub NodeHasDistinctCases : Node → Type 0
NodeHasDistinctCases (node.Switch value cases otherwise) = IsDistinct same_number (map (λ c. c.number) cases)
NodeHasDistinctCases _ = Unit {0}

abbrev pub HasDistinctCases : ProgramData → Type 0
HasDistinctCases p = All (λ f. All NodeHasDistinctCases f.nodes) p.funcs

-- ---- states

-- the register has a value
abbrev pub HasValue : List (Option SymValue) → ℕ → Type 0
HasValue regs r = (v : SymValue) × (slice_get regs r ≡ Some (Some v))

-- The frame has a register for each of its function's, and came to its node on a path through the function; its parameters are
-- set, and so is what was set on that path.
pub record IsSetFrame (p : ProgramData) (f : Frame) : Type 0 where
  pub code : Func
  pub there : func_at p f.func ≡ Some code
  pub at' : f.place ≡ At (node_of f.place)
  pub size : length f.regs ≡ length code.regs
  pub before : List NodeId
  pub leads : Leads code before (node_of f.place)
  pub params : (r : ℕ) → r < code.params → HasValue f.regs r
  pub set : (r : RegId) → IsSet code before r → HasValue f.regs r.0

-- each frame that waits stands at a call of the function of the frame above it
abbrev pub WaitAtCalls : ProgramData → Frame → List Frame → Type 0
WaitAtCalls p f [] = Unit {0}
WaitAtCalls p f (g ∷ gs) = IsCallOf f.func (code_of p g) × WaitAtCalls p g gs

pub record IsSetState (p : ProgramData) (s : State) : Type 0 where
  pub frame : IsSetFrame p s.frame
  pub callers : Each (IsSetFrame p) s.callers
  pub calls : WaitAtCalls p s.frame s.callers

-- no call changed anything
abbrev pub none_gave : Gave
none_gave call = []

-- what is so of each state of an exploration without skips, over inputs of so many bytes
pub record IsPlainState (c : Context) (n : ℕ) (s : State) : Type 0 where
  pub fits : StateFitsAt n s
  pub no_calls : HasNoCalls s
  pub set : IsSetState c.program s
  pub globals : s.memory.globals ≡ c.program.globals
