use Rattle.decider.proofs.DecidedLemmas.{sat_meets, sat_size, sat_bytes, sat_is_least, unsat_none, two_bytes_decided}
use Rattle.decider.proofs.decisions_are_right.Goals as goal

pub returns-clause-met : goal.returns-clause-met
returns-clause-met g = λ c inputs budget input h reads few. sat_meets c inputs budget input h reads

pub returns-clause-size : goal.returns-clause-size
returns-clause-size g = sat_size

pub returns-clause-bytes : goal.returns-clause-bytes
returns-clause-bytes g = sat_bytes

pub returns-clause-least : goal.returns-clause-least
returns-clause-least g = sat_is_least

pub returns-clause-none : goal.returns-clause-none
returns-clause-none g = unsat_none

pub returns-clause-two_bytes : goal.returns-clause-two_bytes
returns-clause-two_bytes g = two_bytes_decided
