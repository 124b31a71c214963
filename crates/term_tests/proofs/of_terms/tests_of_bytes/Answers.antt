use Rattle.std.proofs.Common.{◌∙◌, ◌<◌, ◌≡◌, sym, lit<, arith}
use Rattle.term_tests.proofs.of_terms.tests_of_bytes.Goals as goal

pub returns : goal.returns
returns g c =
    let x = c.in_ok-x.ensures.reads 2 (lit< tt) in
    let y = c.in_ok-y.ensures.reads 2 (lit< tt) in
    c.in_ok-chosen.ensures.reads 2 (c.in_ok-signed.ensures.reads 2 x y) (c.in_ok-differ.ensures.reads 2 (c.in_ok-alike.ensures.reads 2 x y))
    (c.in_ok-unsigned.ensures.reads 2 x y)
