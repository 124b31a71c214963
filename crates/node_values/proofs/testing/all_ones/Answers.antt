use Rattle.std.proofs.Common.{◌<◌, ◌^◌, subst, sym}
use Rattle.std.proofs.Math.Pow.{ones_lt}
use Rattle.bitnum.proofs.Widths.{ones_shifted}
use Rattle.node_values.proofs.testing.all_ones.Goals as goal

pub returns-clause-value : goal.returns-clause-value
returns-clause-value c = ones_shifted c.args.width c.requires.most

pub returns-clause-fits : goal.returns-clause-fits
returns-clause-fits c = subst (λ k. k < 2 ^ c.args.width) (sym (ones_shifted c.args.width c.requires.most)) (ones_lt c.args.width)
