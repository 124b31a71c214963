use Rattle.std.proofs.Common.{◌≡◌, ◌++◌, drop, map}
use Rattle.ir_programs.specs.Texts.{texts}
use Rattle.ir_programs.specs.Uses.{function_names}
use Rattle.tree_nodes.proofs.functions.push_defined.Given as goal

abbrev pub invariant-loop-function : goal.invariant-loop-function
invariant-loop-function l = l.names ++ texts (map (λ f. f.header.name) (drop l.function-index l.functions)) ≡ l.initial.names ++ texts (function_names l.fn.tree)
