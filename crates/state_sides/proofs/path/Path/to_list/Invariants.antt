use Rattle.std.proofs.Common.{◌≡◌, ◌++◌, reverse, vec_len}
use Rattle.state_sides.proofs.path.Path.to_list.Given as goal

abbrev pub invariant-events : goal.invariant-events
invariant-events g l = l.list ++ reverse l.left.items ≡ l.fn.self

abbrev pub decreases-events : goal.decreases-events
decreases-events g l = vec_len l.left
