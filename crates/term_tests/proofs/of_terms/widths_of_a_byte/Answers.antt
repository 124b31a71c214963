use Rattle.std.proofs.Common.{◌∙◌, ◌<◌, ◌≡◌, sym, lit<, arith}
use Rattle.term_tests.proofs.of_terms.widths_of_a_byte.Goals as goal

pub returns : goal.returns
returns g c =
    c.in_ok-wider.ensures.reads 2 (c.in_ok-narrow.ensures.reads 2 (c.in_ok-wide.ensures.reads 2 (c.in_ok-x.ensures.reads 2 (lit< tt))))
