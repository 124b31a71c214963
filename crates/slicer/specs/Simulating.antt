-- What is left of a program by a slice simulates the calls of its function.
use Rattle.std.specs.Prelude.{◌≡◌, ℕ, true, List, Option}
use Rattle.flat_ir.specs.declared.names.CallStep.{CallStep}
use Rattle.flat_ir.specs.declared.names.FuncId.{FuncId}
use Rattle.flat_ir.specs.declared.names.Location.{Location}
use Rattle.flat_ir.specs.declared.program.ProgramData.{ProgramData}
use Rattle.flat_ir.specs.declared.residual.Residual.{Residual}
use Rattle.flat_ir.specs.declared.values.ConcreteValue.{ConcreteValue}
use Rattle.flat_ir.specs.History.{History}
use Rattle.points_to.specs.Within.{IsWithin}
use Rattle.slices.specs.Slice.{Items, Need}
use Rattle.slices.specs.Nexts.{Ways, AreKept}
use Rattle.slice_laws.specs.ResidualRun.{called, whole}
use Rattle.slice_laws.specs.Simulation.{Agree, Ended, IsSimulated}

-- Where a call of f ends, from a history within the points-to sets, the run that goes by what is left ends too, with the same
-- arguments and the same frame name, from any history that agrees on the needed locations: with the call's changes in the
-- location, and its result where that is asked, and without a fault, an exit or a next that is Never.
pub record Simulates (p : ProgramData) (f : FuncId) (at' : Location) (residual : Residual) : Type 0 where
  pub items : Items
  pub ways : Ways
  pub kept : AreKept p items ways residual
  pub simulates : (input : List ℕ) (args : List ConcreteValue) (name : List CallStep) (h h' : History) → IsWithin p (called p f args name h) →
      ((l : Location) → items (Need l) ≡ true → Agree p l h h') →
      (v : Option ConcreteValue) (added : History) → Ended p input whole (called p f args name h) v added →
      IsSimulated p input ways at' (called p f args name h') v added
