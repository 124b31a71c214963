use Rattle.std.proofs.Common.{◌≡◌, length}
use Rattle.sym_states.specs.Terms.{resolved}
use Rattle.node_values.proofs.operands.resolved.Given as goal

-- what is left to be put in leads to the whole
abbrev pub invariant-older : goal.invariant-older
invariant-older g l = resolved l.rest l.made ≡ resolved l.snapshots l.fn.value

abbrev pub decreases-older : goal.decreases-older
decreases-older g l = length l.rest
