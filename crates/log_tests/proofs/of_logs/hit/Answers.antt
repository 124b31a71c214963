use Rattle.log_tests.proofs.of_logs.hit.Goals as goal

pub byte_where-requires : goal.byte_where-requires
byte_where-requires g c = c.in_ok-equal.ensures
