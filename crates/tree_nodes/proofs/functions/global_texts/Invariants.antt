use Rattle.std.proofs.Common.{◌≡◌, ◌++◌, drop, map}
use Rattle.ir_programs.specs.Texts.{texts}
use Rattle.ir_programs.specs.Uses.{global_names}
use Rattle.tree_nodes.proofs.functions.global_texts.Given as goal

abbrev pub invariant-loop-global : goal.invariant-loop-global
invariant-loop-global l = l.names ++ texts (map (λ g. g.name) (drop l.global-index l.globals)) ≡ texts (global_names l.fn.tree)
