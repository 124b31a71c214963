use Rattle.std.proofs.Common.{◌≡◌, ◌++◌, drop}
use Rattle.std.specs.List.{flat_map}
use Rattle.ir_programs.specs.Parts as spec
use Rattle.tree_constants.specs.Values.{lent}
use Rattle.tree_constants.proofs.values.+constants.Given as goal

abbrev pub invariant-push_constants-loop-constant : goal.invariant-push_constants-loop-constant
invariant-push_constants-loop-constant l = lent l.values.items ++ flat_map spec.constant_values (drop l.constant-index l.constants) ≡ lent l.initial.values.items ++ flat_map spec.constant_values l.constants
