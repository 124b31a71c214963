use Rattle.std.proofs.Common.{◌≡◌, ◌++◌, drop}
use Rattle.std.specs.List.{flat_map}
use Rattle.ir_programs.specs.Parts.{function_callees}
use Rattle.tree_nodes.proofs.functions.callees_of.Given as goal

abbrev pub invariant-loop-function : goal.invariant-loop-function
invariant-loop-function l = l.names.items ++ flat_map function_callees (drop l.function-index l.functions) ≡ flat_map function_callees l.functions
