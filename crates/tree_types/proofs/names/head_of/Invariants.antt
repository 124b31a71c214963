use Rattle.tree_types.proofs.Heads.{HeadIs}
use Rattle.tree_types.proofs.names.head_of.Given as goal

abbrev pub invariant-names : goal.invariant-names
invariant-names l = HeadIs l.types l.place l.head l.kind
