use Rattle.std.proofs.Common.{◌≡◌, List, drop}
use Rattle.flat_ir.specs.History.{History}
use Rattle.flat_ir.specs.Machine as run
use Rattle.flat_ir.specs.Machine.{Event}
use Rattle.flat_ir.specs.Steps.{moved_by_all}
use Rattle.concrete_machine.specs.Frames.{state_with}
use Rattle.concrete_machine.proofs.memory.moved_by_parts.Given as goal

abbrev pub invariant-loop-part : goal.invariant-loop-part
invariant-loop-part l = (callers : List run.Frame) (h : History) (events : List Event)
    → moved_by_all (state_with l.frame callers h events) l.offset (drop l.part-index l.parts) ≡ moved_by_all (state_with l.frame callers h events) l.from l.parts
