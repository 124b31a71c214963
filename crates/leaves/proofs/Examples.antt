-- What a leaf claims, by computation.
use Rattle.std.proofs.Common.{◌≡◌, true, false, [], ◌∷◌, Some, refl}
use Rattle.terms.specs.Tree.{constant, input, two}
use Rattle.terms.specs.declared.term.Binary.TheVariants.{Eq}
use Rattle.flat_ir.specs.declared.values.ConcreteValue.TheVariants as concrete
use Rattle.flat_ir.specs.Machine as run
use Rattle.flat_ir.specs.Sound as sound
use Rattle.sym_bytes.specs.Value as value
use Rattle.leaves.specs.Events.{Leaf, Complete, Branch, Load}
use Rattle.leaves.specs.Claims.{claim_of}

-- behind the first side of a branch the input's first byte is 65, a load gave what the first skipped call returned, and the
-- status is the input's second byte
abbrev leaf : Leaf
leaf = Complete (record {
  condition = two Eq (input 0) (constant (record { width = 8; bits = 65 })) ∷ [];
  kept = Some (65 ∷ 0 ∷ []);
  path = Branch (record { 0 = 0 }) (record { 0 = 2 }) 0 ∷ Load (record { 0 = 0 }) (record { 0 = 3 }) (value.Int (input 1)) ∷ [];
  results = [];
  left = 7;
}) (input 1) []

is_met : (claim_of leaf).is_met (65 ∷ 9 ∷ []) ≡ true
is_met = refl

isnt_met : (claim_of leaf).is_met (66 ∷ 9 ∷ []) ≡ false
isnt_met = refl

path : (claim_of leaf).path (65 ∷ 9 ∷ []) [] ≡ run.Branched (record { 0 = 0 }) (record { 0 = 2 }) 0 ∷ run.Loaded (record { 0 = 0 }) (record { 0 = 3 }) (concrete.Int (record { width = 8; bits = 9 })) ∷ []
path = refl

ends : (claim_of leaf).verdict (65 ∷ 9 ∷ []) ≡ sound.Completes 9 []
ends = refl
