use Rattle.std.proofs.Common.{◌∙◌, ◌<◌, ◌≡◌, sym, lit<, arith}
use Rattle.term_tests.proofs.of_terms.doubled.Goals as goal

pub loop-init : goal.loop-init
loop-init g c = (c.in_ok-x.ensures.reads 2 (lit< tt), c.in_ok-x.ensures.width)

pub loop-preserved : goal.loop-preserved
loop-preserved g c =
    (c.in_ok-sum.ensures.reads 2 c.loop.invariant.0 c.loop.invariant.0, c.in_ok-sum.ensures.width ∙ c.loop.invariant.1)
