use Rattle.std.proofs.Common.{◌≡◌, take}
use Rattle.term_store.proofs.conditions.Conditions.to_list.Given as goal

-- the conjuncts so far
abbrev pub invariant-loop-t : goal.invariant-loop-t
invariant-loop-t g l = l.list ≡ take l.t-index l.t-items
