-- The machine's frames, as frames of the run.
use Rattle.std.specs.Prelude.{◌≡◌, ◌+◌, ◌<◌, ◌^◌, List, map, reverse, slice_index}
use Rattle.flat_ir.specs.History.{History}
use Rattle.flat_ir.specs.Machine as run
use Rattle.flat_ir.specs.Machine.{State, Event}
use Rattle.concrete_machine.specs.declared.machine.Frame.{Frame}
use Rattle.concrete_machine.specs.declared.machine.Machine.{Machine}

abbrev pub frame_of : Frame → run.Frame
frame_of f = record { func = f.func; node = f.node; regs = f.regs.items; name = f.name; counts = f.counts.items }

-- the frames that called the newest one, the newest of them first
abbrev pub callers_of : Machine → List run.Frame
callers_of m = reverse (map frame_of m.callers.items)

-- a state of the run with this newest frame
abbrev pub state_with : Frame → List run.Frame → History → List Event → State
state_with f callers h events = record { frame = frame_of f; callers = callers; history = h; events = events }

-- a state of the run with the machine's frames
abbrev pub state_at : Machine → History → List Event → State
state_at m h events = state_with m.frame (callers_of m) h events

-- the frame's node can be counted once more
abbrev pub HasRoom : Frame → Type 0
HasRoom f = slice_index f.counts.items f.node.0 + 1 < 2 ^ 64

-- the new machine has this frame, and else what the old has
pub record TurnsTo (old new : Machine) (f : run.Frame) : Type 0 where
  pub frame : frame_of new.frame ≡ f
  pub callers : new.callers ≡ old.callers
  pub store : new.store ≡ old.store
  pub position : new.position ≡ old.position
  pub output : new.output ≡ old.output
