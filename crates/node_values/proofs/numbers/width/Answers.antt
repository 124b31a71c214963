use Rattle.std.proofs.Common.{subst, sym}
use Rattle.bitnum.specs.Number.{IsWidth}
use Rattle.node_values.proofs.Widths.{tree_width}
use Rattle.node_values.proofs.numbers.width.Goals as goal

pub returns-clause-is_width : goal.returns-clause-is_width
returns-clause-is_width g c = subst IsWidth (sym c.width.ensures.width) (tree_width c.args.t.now c.width.ensures.tree)
