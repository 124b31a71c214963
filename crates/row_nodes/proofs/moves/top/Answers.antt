use Rattle.std.proofs.Common.{◌-◌, length, arith}
use Rattle.row_nodes.proofs.MoveLemmas.{top_at}
use Rattle.row_nodes.proofs.moves.top.Goals as goal

pub returns-clause-bit : goal.returns-clause-bit
returns-clause-bit c nodes = top_at nodes c.args.xs.now (length c.args.xs.now - 1) (omega arith)
