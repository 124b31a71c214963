use Rattle.std.proofs.Common.{sym, subst}
use Rattle.tree_nodes.specs.Widths.{HasWidth}
use Rattle.tree_nodes.proofs.Widths.{kind_is}
use Rattle.tree_nodes.proofs.edges.set_value.Goals as goal

pub operand_of-requires-clause-kind : goal.operand_of-requires-clause-kind
operand_of-requires-clause-kind c = subst HasWidth (sym c.register_type.ensures) (kind_is c.args.phi.now.kind c.requires.phi)
