use Rattle.std.proofs.Common.{◌≡◌, ◌+◌, ◌*◌, suc, map, take}
use Rattle.ir_tree.specs.Extents.{sum, steps_within}
use Rattle.tree_types.specs.Alike.{spelled}
use Rattle.tree_types.proofs.alike.+alike.Given as goal

abbrev pub decreases-are_alike : goal.decreases-are_alike
decreases-are_alike l = 2 * (steps_within l.a_names l.types.now l.a.now + steps_within l.b_names l.types.now l.b.now) + 1

abbrev pub decreases-are_levels_alike : goal.decreases-are_levels_alike
decreases-are_levels_alike l = 2 * (steps_within l.a_names l.types.now l.a.now + steps_within l.b_names l.types.now l.b.now)

abbrev pub decreases-are_each_alike : goal.decreases-are_each_alike
decreases-are_each_alike l = 2 * (suc (sum (map (steps_within l.a_names l.types.now) l.a.now)) + suc (sum (map (steps_within l.b_names l.types.now) l.b.now)))

abbrev pub invariant-are_each_alike-fields : goal.invariant-are_each_alike-fields
invariant-are_each_alike-fields l = map (spelled l.a_names l.types) (take l.place l.a) ≡ map (spelled l.b_names l.types) (take l.place l.b)
