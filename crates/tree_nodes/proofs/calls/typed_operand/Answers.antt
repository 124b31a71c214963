use Rattle.std.proofs.Common.{sym, subst}
use Rattle.phrases.proofs.Classes.{and_left}
use Rattle.ir_programs.specs.Readable.{has_widths, is_readable_value}
use Rattle.tree_nodes.specs.Widths.{HasWidth}
use Rattle.tree_nodes.proofs.Widths.{kind_is}
use Rattle.tree_nodes.proofs.calls.typed_operand.Goals as goal

pub operand_of-requires-clause-kind : goal.operand_of-requires-clause-kind
operand_of-requires-clause-kind c =
    let v = c.args.value.now in
    subst HasWidth (sym c.register_type.ensures) (kind_is v.kind (and_left (has_widths v.kind) (is_readable_value v.value) c.requires))
