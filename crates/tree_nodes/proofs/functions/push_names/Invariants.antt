use Rattle.std.proofs.Common.{◌≡◌, ◌++◌, drop, map}
use Rattle.tree_nodes.proofs.functions.push_names.Given as goal

abbrev pub invariant-loop-func : goal.invariant-loop-func
invariant-loop-func l = l.names ++ map (λ g. g.name) (drop l.func-index l.funcs) ≡ l.initial.names ++ map (λ g. g.name) l.funcs
