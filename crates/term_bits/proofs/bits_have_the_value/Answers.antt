use Rattle.term_bits.proofs.Terms.{length-bits, read-bits}
use Rattle.term_bits.proofs.bits_have_the_value.Goals as goal

pub returns-clause-places : goal.returns-clause-places
returns-clause-places c = length-bits

pub returns-clause-value : goal.returns-clause-value
returns-clause-value c = read-bits
