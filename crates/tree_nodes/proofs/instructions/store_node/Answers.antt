use Rattle.std.proofs.Common.{◌&&◌, sym, subst}
use Rattle.phrases.proofs.Classes.{and_left}
use Rattle.ir_programs.specs.Readable.{has_widths, is_readable_value}
use Rattle.tree_nodes.specs.Widths.{HasWidth}
use Rattle.tree_nodes.proofs.Widths.{kind_is}
use Rattle.tree_nodes.proofs.instructions.store_node.Goals as goal

pub operand_of-requires-clause-kind : goal.operand_of-requires-clause-kind
operand_of-requires-clause-kind c =
    subst HasWidth (sym c.register_type.ensures) (kind_is c.args.kind.now (and_left (has_widths c.args.kind.now) (is_readable_value c.args.value.now && is_readable_value c.args.pointer.now) c.requires))
