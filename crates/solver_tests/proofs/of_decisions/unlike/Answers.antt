use Rattle.std.proofs.Common.{lit<}
use Rattle.solver_tests.proofs.of_decisions.unlike.Goals as goal

pub returns-clause-reads : goal.returns-clause-reads
returns-clause-reads g c =
    c.in_ok-differ.ensures.reads 2 (c.in_ok-equal.ensures.reads 2 (c.in_ok-x.ensures.reads 2 (lit< tt)) (c.in_ok-other.ensures.reads 2))
