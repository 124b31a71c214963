use Rattle.std.proofs.Common.{◌∙◌, ◌<◌, ◌≡◌, sym, lit<, arith}
use Rattle.term_tests.proofs.of_terms.sum_of_bytes.Goals as goal

pub returns : goal.returns
returns g c = c.in_ok-sum.ensures.reads 2 (c.in_ok-x.ensures.reads 2 (lit< tt)) (c.in_ok-y.ensures.reads 2 (lit< tt))
