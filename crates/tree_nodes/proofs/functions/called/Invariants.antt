use Rattle.std.proofs.Common.{◌≡◌, ◌++◌, drop}
use Rattle.std.specs.List.{filter}
use Rattle.prelude.specs.Prelude.{functions}
use Rattle.ir_programs.specs.Registers.{is_called, called}
use Rattle.tree_nodes.proofs.functions.called.Given as goal

abbrev pub invariant-loop-index : goal.invariant-loop-index
invariant-loop-index l = l.funcs.items ++ filter (is_called l.fn.tree) (drop l.index functions) ≡ called l.fn.tree
