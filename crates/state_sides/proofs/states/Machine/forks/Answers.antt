use Rattle.std.proofs.Common.{map, arith}
use Rattle.state_sides.proofs.Asking.{forks-are}
use Rattle.state_sides.specs.Offers.{taking}
use Rattle.state_sides.specs.Views.{state_seen, child_seen, context_of}
use Rattle.state_sides.proofs.states.Machine.forks.Goals as goal

pub returns-in_ok-children_of : goal.returns-in_ok-children_of
returns-in_ok-children_of g c = forks-are (taking (context_of c.args.self.now.scope) c.args.way) (state_seen c.args.state) c.args.offsprings.items c.args.offsprings.len (map child_seen c.in_ok-children_of.field-0.items) (omega (arith, c.args.offsprings.ok)) (omega (arith, c.if-state-len.false, c.len.ensures)) c.in_ok-children_of.ensures
