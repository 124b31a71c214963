use Rattle.std.proofs.Common.{take}
use Rattle.flat_ir.specs.Steps.{frees_from}
use Rattle.concrete_machine.specs.Ending.{AddsAll}
use Rattle.concrete_machine.specs.Frames.{frame_of}
use Rattle.concrete_machine.proofs.returns.end_objects.Given as goal

abbrev pub invariant-loop-place : goal.invariant-loop-place
invariant-loop-place l = AddsAll l.initial.store l.store (frees_from (frame_of l.frame) 0 (take l.place l.nodes))
