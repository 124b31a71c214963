use Rattle.std.proofs.Common.{length, arith}
use Rattle.concrete_memory.proofs.Powers.{one_byte_more, seven_bytes}
use Rattle.concrete_memory.proofs.joining.+join_number.Goals as goal

pub above_byte-requires : goal.above_byte-requires
above_byte-requires t c = seven_bytes (length c.in-Some.rest.now) c.in_ok-above.above (omega (arith, c.requires, c.in-Some.ensures.cases.1)) c.in_ok-above.ensures.fits

pub returns-clause-fits : goal.returns-clause-fits
returns-clause-fits t c =
    rw c.in-Some.ensures.cases.0 (one_byte_more (length c.in-Some.rest.now) c.in_ok-above.above c.above_byte.result c.in_ok-above.ensures.fits c.above_byte.ensures.below)
