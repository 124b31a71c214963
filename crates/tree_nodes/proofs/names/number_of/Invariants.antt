use Rattle.std.proofs.Common.{◌≡◌, drop}
use Rattle.ir_programs.specs.Texts.{number_among}
use Rattle.tree_nodes.proofs.names.number_of.Given as goal

abbrev pub invariant-loop-at : goal.invariant-loop-at
invariant-loop-at l = number_among 0 l.name l.names ≡ number_among l.at l.name (drop l.at l.names)
