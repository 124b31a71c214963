use Rattle.std.proofs.Common.{◌≡◌, drop}
use Rattle.ir_programs.specs.Texts.{among, texts}
use Rattle.tree_nodes.proofs.functions.is_named.Given as goal

abbrev pub invariant-loop-name : goal.invariant-loop-name
invariant-loop-name l = among l.text (texts l.names) ≡ among l.text (texts (drop l.name-index l.names))
