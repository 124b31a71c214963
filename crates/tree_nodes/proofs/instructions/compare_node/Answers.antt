use Rattle.std.proofs.Common.{◌&&◌, sym, subst}
use Rattle.phrases.proofs.Classes.{and_left}
use Rattle.ir_programs.specs.Readable.{has_widths, is_readable_value}
use Rattle.tree_nodes.specs.Widths.{HasWidth}
use Rattle.tree_nodes.proofs.Widths.{kind_is}
use Rattle.tree_nodes.proofs.instructions.compare_node.Goals as goal

pub operand_of-requires-clause-kind : goal.operand_of-requires-clause-kind
operand_of-requires-clause-kind c =
    subst HasWidth (sym c.register_type-kind.ensures) (kind_is c.args.kind.now (and_left (has_widths c.args.kind.now) (is_readable_value c.args.a.now && is_readable_value c.args.b.now) c.requires))

pub operand_of-requires-2-clause-kind : goal.operand_of-requires-2-clause-kind
operand_of-requires-2-clause-kind c =
    subst HasWidth (sym c.register_type-kind.ensures) (kind_is c.args.kind.now (and_left (has_widths c.args.kind.now) (is_readable_value c.args.a.now && is_readable_value c.args.b.now) c.requires))
