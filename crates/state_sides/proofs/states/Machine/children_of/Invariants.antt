use Rattle.std.proofs.Common.{◌≡◌, ◌+◌, ◌++◌, map, vec_len, length}
use Rattle.sym_states.specs.Sides.{children_of}
use Rattle.state_sides.specs.Offers.{offspring_seen, taking}
use Rattle.state_sides.specs.Views.{state_seen, child_seen, context_of}
use Rattle.state_sides.proofs.states.Machine.children_of.Given as goal

abbrev pub invariant-offsprings : goal.invariant-offsprings
invariant-offsprings g l = record {
  count : vec_len l.children + length l.offspring-iterator.rest.items ≡ l.count;
  made : map child_seen l.children.items ++ children_of (taking (context_of l.self.scope) l.way) (state_seen l.state) l.count (vec_len l.children) (map offspring_seen l.offspring-iterator.rest.items) ≡ children_of (taking (context_of l.self.scope) l.way) (state_seen l.state) l.count 0 (map offspring_seen l.fn.offsprings.items);
}
