use Rattle.std.proofs.Common.{arith}
use Rattle.tree_types.proofs.Spelled.{length_decides}
use Rattle.tree_types.proofs.alike.is_same_length.Goals as goal

pub returns : goal.returns
returns c = length_decides c.args.a c.args.b (omega (arith, c.ranges.a.fits)) (omega (arith, c.ranges.b.fits))
