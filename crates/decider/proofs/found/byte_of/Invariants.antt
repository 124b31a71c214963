use Rattle.std.proofs.Common.{◌≡◌, ◌+◌, ◌<◌, ◌^◌, ℕ, Bool, false}
use Rattle.std.specs.Prelude.{slice_index_or}
use Rattle.decider.proofs.FoundLemmas.{front}
use Rattle.decider.proofs.found.byte_of.Given as goal

abbrev pub invariant-loop-bit : goal.invariant-loop-bit
invariant-loop-bit l = record {
  small : l.byte < 2 ^ l.bit-index;
  number : (i : ℕ → Bool) (first : ℕ) → ((p : ℕ) → p < 8 → slice_index_or l.bits p false ≡ i (first + p)) → l.byte ≡ front i first l.bit-index;
}
