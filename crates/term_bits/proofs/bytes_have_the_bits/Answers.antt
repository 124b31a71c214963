use Rattle.term_bits.proofs.InputLemmas.{input_of_bytes, are_bytes}
use Rattle.term_bits.proofs.bytes_have_the_bits.Goals as goal

pub returns-clause-bytes : goal.returns-clause-bytes
returns-clause-bytes c = are_bytes

pub returns-clause-bits : goal.returns-clause-bits
returns-clause-bits c = input_of_bytes
