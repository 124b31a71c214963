use Rattle.std.proofs.Common.{◌≡◌}
use Rattle.call_steps.specs.Moves.{all_set}
use Rattle.call_steps.proofs.moving.set_each.Given as goal

abbrev pub invariant-pairs : goal.invariant-pairs
invariant-pairs g l = all_set l.pair-iterator.rest.items l.frame ≡ all_set l.fn.pairs.items l.initial.frame
