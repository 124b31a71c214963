use Rattle.std.proofs.Common.{◌∙◌, ◌≡◌, lit<}
use Rattle.bench_programs.proofs.shared_terms.doubled.Goals as goal

pub loop-init : goal.loop-init
loop-init g c = (c.in_ok-x.ensures.reads 1 (lit< tt), c.in_ok-x.ensures.width)

pub loop-preserved : goal.loop-preserved
loop-preserved g c =
    (c.in_ok-sum.ensures.reads 1 c.loop.invariant.0 c.loop.invariant.0, c.in_ok-sum.ensures.width ∙ c.loop.invariant.1)
