use Rattle.std.proofs.Common.{◌≡◌, length}
use Rattle.sym_states.specs.Terms.{pending_in}
use Rattle.state_sides.specs.Views.{state_seen}
use Rattle.step_parts.proofs.Flows.{pending_onto}
use Rattle.step_parts.proofs.needs.pending_in.Given as goal

-- what is left to be put leads to the whole
abbrev pub invariant-operands : goal.invariant-operands
invariant-operands g l = pending_onto (state_seen l.state) l.rest l.calls ≡ pending_in (state_seen l.state) l.operands

abbrev pub decreases-operands : goal.decreases-operands
decreases-operands g l = length l.rest
