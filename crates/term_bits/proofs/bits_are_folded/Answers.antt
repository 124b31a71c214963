use Rattle.std.proofs.Common.{◌*◌}
use Rattle.std.proofs.lemmas.List.Elements.{All-from_recursion}
use Rattle.gates.specs.Bits.{IsFolded}
use Rattle.term_bits.specs.TermBits.{bits_of}
use Rattle.term_bits.proofs.KeptTerms.{folded_bits, any_within, bits_within}
use Rattle.term_bits.proofs.bits_are_folded.Goals as goal

pub returns-clause-folded : goal.returns-clause-folded
returns-clause-folded c t h = All-from_recursion IsFolded (bits_of t) (folded_bits t h)

pub returns-clause-in_range : goal.returns-clause-in_range
returns-clause-in_range c t count k h o = any_within (8 * count) k (bits_of t) (bits_within t count h) o
