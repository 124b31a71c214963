use Rattle.std.proofs.Common.{◌≡◌}
use Rattle.concrete_machine.specs.Control.{all_set}
use Rattle.concrete_machine.specs.Frames.{frame_of}
use Rattle.concrete_machine.proofs.control.set_all.Given as goal

abbrev pub invariant-loop-pair : goal.invariant-loop-pair
invariant-loop-pair l = all_set l.pair-iterator.rest.items (frame_of l.frame) ≡ all_set l.fn.pairs.items (frame_of l.initial.frame)
