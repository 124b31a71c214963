use Rattle.std.proofs.Common.{◌≡◌, map, take}
use Rattle.sym_states.specs.Terms.{value_in}
use Rattle.state_sides.specs.Views.{state_seen}
use Rattle.call_steps.proofs.moving.read_all.Given as goal

abbrev pub invariant-sets : goal.invariant-sets
invariant-sets g l = l.pairs.items ≡ map (λ m. (m.register, value_in (state_seen l.state) m.value)) (take l.entry-index l.sets)
