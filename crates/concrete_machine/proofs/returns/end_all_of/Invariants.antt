use Rattle.flat_ir.specs.Steps.{frees_of_node}
use Rattle.concrete_machine.specs.Ending.{AddsAll}
use Rattle.concrete_machine.specs.Frames.{frame_of}
use Rattle.concrete_machine.proofs.returns.end_all_of.Given as goal

abbrev pub invariant-loop-before : goal.invariant-loop-before
invariant-loop-before l = AddsAll l.initial.store l.store (frees_of_node (frame_of l.frame) l.node l.before 1)
