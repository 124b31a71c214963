use Rattle.std.proofs.Common.{◌∙◌, ◌<◌, ◌≡◌, sym, lit<, arith}
use Rattle.term_tests.proofs.of_terms.chain.Goals as goal

pub loop-init : goal.loop-init
loop-init g c = (c.in_ok-x.ensures.reads 2 (lit< tt), c.in_ok-x.ensures.width)

pub loop-preserved : goal.loop-preserved
loop-preserved g c =
    (c.in_ok-turned.ensures.reads 2 c.loop.invariant.0 (c.in_ok-three.ensures.reads 2), c.in_ok-turned.ensures.width ∙ c.loop.invariant.1)
