use Rattle.std.proofs.Common.{◌≡◌, List, length}
use Rattle.terms.specs.Tree.{Tree}
use Rattle.decider.specs.Found.{AreInputsOf}
use Rattle.decider.proofs.FoundLemmas.{HasFirst}
use Rattle.decider.proofs.found.found_bits.Given as goal

abbrev pub invariant-loop-n : goal.invariant-loop-n
invariant-loop-n l = record {
  sized : length l.set.items ≡ 512;
  first : (c : List Tree) → AreInputsOf c l.order l.places → HasFirst c l.values l.n l.set.items;
}
