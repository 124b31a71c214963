use Rattle.std.proofs.Common.{◌≡◌, ◌++◌, drop, map}
use Rattle.ir_programs.specs.Parts as spec
use Rattle.tree_constants.specs.Values.{lent, bare}
use Rattle.tree_constants.proofs.values.push_typed.Given as goal

abbrev pub invariant-loop-one : goal.invariant-loop-one
invariant-loop-one l = lent l.values.items ++ bare (map spec.typed (drop l.one-index l.typed)) ≡ lent l.initial.values.items ++ bare (map spec.typed l.typed)
