use Rattle.std.proofs.Common.{◌∙◌, ◌<◌, ◌≡◌, sym, lit<, arith}
use Rattle.term_tests.proofs.of_terms.value_of_tests.Goals as goal

pub shown-requires : goal.shown-requires
shown-requires g c = c.in_ok-t.ensures
