use Rattle.std.proofs.Common.{◌≡◌, map, take}
use Rattle.sym_states.specs.Terms.{value_in}
use Rattle.state_sides.specs.Views.{state_seen}
use Rattle.call_steps.proofs.skipping.values_of.Given as goal

abbrev pub invariant-operands : goal.invariant-operands
invariant-operands g l = l.values ≡ map (value_in (state_seen l.state)) (take l.operand-index l.operands)
