use Rattle.log_tests.proofs.of_logs.missed.Goals as goal

pub not-requires : goal.not-requires
not-requires g c = c.in_ok-equal.ensures

pub byte_where-requires : goal.byte_where-requires
byte_where-requires g c = c.in_ok-unequal.ensures.width
