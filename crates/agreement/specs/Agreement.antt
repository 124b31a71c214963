-- How a symbolic state agrees, under an input, with a moment of the run on that input. Skipped calls have a place: each has one
-- result, by the trace, and one list of changes.
use Rattle.std.specs.Prelude.{◌≡◌, ℕ, true, List, [], ◌∷◌, map, length, Option, Some, None, IfSome}
use Rattle.std.specs.List.{AllByRecursion as Each}
use Rattle.terms.specs.Value.{are_met_by}
use Rattle.flat_ir.specs.declared.names.FuncId.{FuncId}
use Rattle.flat_ir.specs.declared.program.ProgramData.{ProgramData}
use Rattle.flat_ir.specs.declared.values.ConcreteValue.{ConcreteValue}
use Rattle.flat_ir.specs.Machine as machine
use Rattle.flat_ir.specs.Machine.{On}
use Rattle.flat_ir.specs.Run.{run}
use Rattle.flat_ir.specs.Skipped.{outside, results, depth_after}
use Rattle.flat_ir.specs.Sound.{Holds}
use Rattle.sym_bytes.specs.Under.{Results, value_under, result_of}
use Rattle.sym_bytes.specs.Value.{SymValue}
use Rattle.log_laws.specs.Standing.{Gave, StandsFor}
use Rattle.leaves.specs.Claims.{event_under, verdict_of}
use Rattle.leaves.specs.Events.{Leaf, told_of}
use Rattle.sym_states.specs.declared.frames.Place.TheVariants.{At}
use Rattle.skip_records.specs.Snapshots.{Snapshot}
use Rattle.sym_states.specs.States.{Frame, State, Child, Go, Stop, Step, Goes, Forks, Needs, Ends}

-- a register that is set has its value under the input; of one that isn't set nothing is said
abbrev pub RegAgrees : List ℕ → Results → Option SymValue → ConcreteValue → Type 0
RegAgrees input results None w = Unit {0}
RegAgrees input results (Some v) w = w ≡ value_under input results v

abbrev pub RegsAgree : List ℕ → Results → List (Option SymValue) → List ConcreteValue → Type 0
RegsAgree input results [] [] = Unit {0}
RegsAgree input results [] (w ∷ ws) = ⊥
RegsAgree input results (v ∷ vs) [] = ⊥
RegsAgree input results (v ∷ vs) (w ∷ ws) = RegAgrees input results v w × RegsAgree input results vs ws

-- the same function at the same node, with equal names and counts
pub record FrameAgrees (input : List ℕ) (results : Results) (f : Frame) (g : machine.Frame) : Type 0 where
  pub func : g.func ≡ f.func
  pub place : f.place ≡ At g.node
  pub name : g.name ≡ f.name
  pub counts : g.counts ≡ f.counts
  pub regs : RegsAgree input results f.regs g.regs

abbrev pub FramesAgree : List ℕ → Results → List Frame → List machine.Frame → Type 0
FramesAgree input results [] [] = Unit {0}
FramesAgree input results [] (g ∷ gs) = ⊥
FramesAgree input results (f ∷ fs) [] = ⊥
FramesAgree input results (f ∷ fs) (g ∷ gs) = FrameAgrees input results f g × FramesAgree input results fs gs

-- what is recovered of a skipped call's result is what the call returned
abbrev pub IsRecovered : List ℕ → Results → Snapshot → Type 0
IsRecovered input results shot = IfSome shot.result (λ v. value_under input results v ≡ result_of results shot.call)

-- Frames agree, and no skipped call is unfinished; the log stands for the history, where the skipped calls gave these changes;
-- the path is what the run shows outside of skipped calls; and each skipped call so far has its snapshot.
pub record Agrees (names : List FuncId) (input : List ℕ) (gave : Gave) (s : State) (m : machine.State) : Type 0 where
  pub frame : FrameAgrees input (results names m.events) s.frame m.frame
  pub callers : FramesAgree input (results names m.events) s.callers m.callers
  pub outside_calls : depth_after names 0 m.events ≡ 0
  pub log : StandsFor s.memory.log m.history input (results names m.events) gave
  pub path : outside names m.events ≡ map (event_under input (results names m.events)) s.path
  pub each_call : length s.snapshots ≡ length (results names m.events)
  pub recovered : Each (IsRecovered input (results names m.events)) s.snapshots

-- the state agrees with a moment of the run
pub record StandsAt (p : ProgramData) (names : List FuncId) (input : List ℕ) (gave : Gave) (s : State) : Type 0 where
  pub steps : ℕ
  pub moment : machine.State
  pub runs : run p input steps ≡ On moment
  pub agrees : Agrees names input gave s moment

-- what goes on agrees with a moment, where the input meets its condition
abbrev pub GoesAlong : ProgramData → List FuncId → List ℕ → Gave → State → Type 0
GoesAlong p names input gave s = are_met_by input s.condition ≡ true → StandsAt p names input gave s

-- what a leaf says holds, where the input meets its condition
abbrev pub LeafHolds : ProgramData → List FuncId → List ℕ → Leaf → Type 0
LeafHolds p names input l = are_met_by input (told_of l).condition ≡ true
    → Holds p names input (λ results. map (event_under input results) (told_of l).path) (verdict_of l input)

abbrev pub ChildGoesAlong : ProgramData → List FuncId → List ℕ → Gave → Child → Type 0
ChildGoesAlong p names input gave (Go s) = GoesAlong p names input gave s
ChildGoesAlong p names input gave (Stop l) = LeafHolds p names input l

-- what an attempt gives goes along with the run
abbrev pub StepGoesAlong : ProgramData → List FuncId → List ℕ → Gave → Step → Type 0
StepGoesAlong p names input gave (Goes s) = GoesAlong p names input gave s
StepGoesAlong p names input gave (Forks children) = Each (ChildGoesAlong p names input gave) children
StepGoesAlong p names input gave (Needs s calls) = GoesAlong p names input gave s
StepGoesAlong p names input gave (Ends l) = LeafHolds p names input l
