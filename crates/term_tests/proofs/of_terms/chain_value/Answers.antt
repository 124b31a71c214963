use Rattle.term_tests.proofs.of_terms.chain_value.Goals as goal

pub shown-requires : goal.shown-requires
shown-requires g c = c.in_ok-t.ensures
