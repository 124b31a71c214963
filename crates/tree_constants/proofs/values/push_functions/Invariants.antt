use Rattle.std.proofs.Common.{◌≡◌, ◌++◌, drop}
use Rattle.std.specs.List.{flat_map}
use Rattle.ir_programs.specs.Parts as spec
use Rattle.tree_constants.specs.Values.{lent}
use Rattle.tree_constants.proofs.values.push_functions.Given as goal

abbrev pub invariant-loop-function : goal.invariant-loop-function
invariant-loop-function l = lent l.values.items ++ flat_map spec.function_values (drop l.function-index l.functions) ≡ lent l.initial.values.items ++ flat_map spec.function_values l.functions
