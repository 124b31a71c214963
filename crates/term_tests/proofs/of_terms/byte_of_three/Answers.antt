use Rattle.std.proofs.Common.{◌∙◌, ◌<◌, ◌≡◌, sym, lit<, arith}
use Rattle.term_tests.proofs.of_terms.byte_of_three.Goals as goal

pub returns : goal.returns
returns g c =
    c.in_ok-second.ensures.reads 2 (c.in_ok-all.ensures.reads 2
    (c.in_ok-x.ensures.reads 2 (lit< tt), (c.in_ok-y.ensures.reads 2 (lit< tt), (c.in_ok-one.ensures.reads 2, tt))))
