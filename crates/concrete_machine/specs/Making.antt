-- What making an object leaves.
use Rattle.std.specs.Prelude.{◌≡◌, ℕ, ◌∷◌, Some}
use Rattle.flat_ir.specs.declared.program.ProgramData.{ProgramData}
use Rattle.flat_ir.specs.declared.values.ConcreteValue.{ConcreteValue}
use Rattle.flat_ir.specs.declared.values.ConcreteValue.TheVariants.{Ptr}
use Rattle.flat_ir.specs.History.{History, Alloc}
use Rattle.flat_ir.specs.Machine.{made_here}
use Rattle.concrete_memory.specs.Standing.{StandsFor}
use Rattle.concrete_machine.specs.declared.machine.Machine.{Machine}
use Rattle.concrete_machine.specs.Frames.{frame_of}

-- the new machine's memory has the object of the frame's node, of which this is the address, and it else is the old machine
pub record Makes (old new : Machine) (size : ℕ) (made : ConcreteValue) : Type 0 where
  pub frame : new.frame ≡ old.frame
  pub callers : new.callers ≡ old.callers
  pub position : new.position ≡ old.position
  pub output : new.output ≡ old.output
  pub address : made ≡ Ptr (record { base = Some (made_here (frame_of old.frame)); offset = 0 })
  pub memory : (p : ProgramData) (h : History) → StandsFor p old.store h → StandsFor p new.store (Alloc (made_here (frame_of old.frame)) size ∷ h)
