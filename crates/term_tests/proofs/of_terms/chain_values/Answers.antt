use Rattle.std.proofs.Common.{◌∙◌, ◌<◌, ◌≡◌, sym, lit<, arith}
use Rattle.term_tests.proofs.of_terms.chain_values.Goals as goal

pub shown_twice-requires : goal.shown_twice-requires
shown_twice-requires g c = c.in_ok-t.ensures
