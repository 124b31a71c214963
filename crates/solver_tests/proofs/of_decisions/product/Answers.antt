use Rattle.std.proofs.Common.{lit<}
use Rattle.solver_tests.proofs.of_decisions.product.Goals as goal

pub returns-clause-reads : goal.returns-clause-reads
returns-clause-reads g c =
    let x = c.in_ok-x.ensures.reads 2 (lit< tt) in
    let y = c.in_ok-y.ensures.reads 2 (lit< tt) in
    c.in_ok-equal.ensures.reads 2 (c.in_ok-made.ensures.reads 2 (c.in_ok-wide_x.ensures.reads 2 x) (c.in_ok-wide_y.ensures.reads 2 y)) (c.in_ok-other.ensures.reads 2)
