-- The test for one name is exact.
use Rattle.std.specs.Prelude.{◌≡◌, Bool, true, false, ◌&&◌, ◌==◌, refl, List, [], ◌∷◌}
use Rattle.std.proofs.Common.{ap, sym, ◌↔◌}
use Rattle.std.proofs.lemmas.Bool.{eqb-true, eq-eqb}
use Rattle.std.specs.Cmp.{IsEquivalence}
use Rattle.std.specs.Hash as fed
use Rattle.flat_ir.specs.declared.names.CallStep.{CallStep}
use Rattle.flat_ir.specs.declared.names.ObjectName.{ObjectName}
use Rattle.flat_ir.specs.declared.names.ObjectName.TheVariants.{Global, Made}
use Rattle.flat_ir.specs.History.{same_step, same_steps, same_object}
use Rattle.flat_ir.specs.ObjectDigest.{digest_of_object}

both : (p q : Bool) → p && q ≡ true → (p ≡ true) × (q ≡ true)
both true true e = (refl, refl)
both true false e = cc
both false q e = cc

same_step-true : (a b : CallStep) → same_step a b ≡ true → a ≡ b
same_step-true a b e =
    let first = both (a.func.0 == b.func.0) ((a.node.0 == b.node.0) && (a.count == b.count)) e in
    let rest = both (a.node.0 == b.node.0) (a.count == b.count) first.1 in
    λ i. record {
      func = record { 0 = eqb-true a.func.0 b.func.0 first.0 i };
      node = record { 0 = eqb-true a.node.0 b.node.0 rest.0 i };
      count = eqb-true a.count b.count rest.1 i;
    }

same_step_refl : (a : CallStep) → same_step a a ≡ true
same_step_refl a = rw (eq-eqb a.func.0 a.func.0 refl, eq-eqb a.node.0 a.node.0 refl, eq-eqb a.count a.count refl) refl

same_steps-true : (a b : List CallStep) → same_steps a b ≡ true → a ≡ b
same_steps-true [] [] e = refl
same_steps-true [] (b ∷ bs) e = cc
same_steps-true (a ∷ as') [] e = cc
same_steps-true (a ∷ as') (b ∷ bs) e =
    let parts = both (same_step a b) (same_steps as' bs) e in
    λ i. same_step-true a b parts.0 i ∷ same_steps-true as' bs parts.1 i

same_steps_refl : (a : List CallStep) → same_steps a a ≡ true
same_steps_refl [] = refl
same_steps_refl (a ∷ as') = rw (same_step_refl a, same_steps_refl as') refl

-- where the test is true the names are one
pub same_object-true : (x y : ObjectName) → same_object x y ≡ true → x ≡ y
same_object-true (Global g) (Global h) e = ap Global (eqb-true g h e)
same_object-true (Global g) (Made frame made) e = cc
same_object-true (Made frame made) (Global h) e = cc
same_object-true (Made frame made) (Made frame' made') e =
    let parts = both (same_steps frame frame') (same_step made made') e in
    λ i. Made (same_steps-true frame frame' parts.0 i) (same_step-true made made' parts.1 i)

-- and it is true of a name and itself
pub same_object_refl : (x : ObjectName) → same_object x x ≡ true
same_object_refl (Global g) = eq-eqb g g refl
same_object_refl (Made frame made) = rw (same_steps_refl frame, same_step_refl made) refl

-- so it is what any exact test answers
pub same_object_from_exact : (test : Bool) (x y : ObjectName) → ((test ≡ true) ↔ (x ≡ y)) → test ≡ same_object x y
same_object_from_exact test x y exact = decided test (same_object x y) exact.0 exact.1 (same_object-true x y) (λ e. rw (← e) (same_object_refl x))
  where
    decided : {A : Type 0} (p q : Bool) → (p ≡ true → A) → (A → p ≡ true) → (q ≡ true → A) → (A → q ≡ true) → p ≡ q
    decided true q to from to' from' = sym (from' (to refl))
    decided false true to from to' from' = from (to' refl)
    decided false false to from to' from' = refl

pub same_object_symmetric : (x y : ObjectName) → same_object x y ≡ same_object y x
same_object_symmetric x y = same_object_from_exact (same_object x y) y x ((λ e. sym (same_object-true x y e)), (λ e. rw e (same_object_refl x)))

pub same_object_equivalence : IsEquivalence same_object
same_object_equivalence = record {
  refl = same_object_refl;
  symm = same_object_symmetric;
  congr = λ x y z e. ap (λ t. same_object t z) (same_object-true x y e);
}

pub same_object_digests : (x y : ObjectName) → same_object x y ≡ true → fed.u64 (digest_of_object x) ≡ fed.u64 (digest_of_object y)
same_object_digests x y e = ap (λ t. fed.u64 (digest_of_object t)) (same_object-true x y e)
