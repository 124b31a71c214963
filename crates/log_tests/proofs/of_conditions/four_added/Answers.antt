use Rattle.log_tests.proofs.of_conditions.four_added.Goals as goal

pub not-requires : goal.not-requires
not-requires g c = c.in_ok-one.ensures

pub add-requires : goal.add-requires
add-requires g c = c.in_ok-one.ensures

pub add-requires-2 : goal.add-requires-2
add-requires-2 g c = c.in_ok-two.ensures

pub add-requires-3 : goal.add-requires-3
add-requires-3 g c = c.in_ok-one.ensures

pub add-requires-4 : goal.add-requires-4
add-requires-4 g c = c.in_ok-denial.ensures.width
