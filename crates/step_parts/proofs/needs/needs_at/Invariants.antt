use Rattle.std.proofs.Common.{◌≡◌, ◌++◌, drop, map}
use Rattle.sym_states.specs.States.{needs_at}
use Rattle.state_sides.specs.Views.{needed_seen}
use Rattle.step_parts.proofs.needs.needs_at.Given as goal

abbrev pub invariant-calls : goal.invariant-calls
invariant-calls l = map needed_seen l.list.items ++ needs_at l.at (drop l.call-index l.calls) ≡ needs_at l.at l.calls
