-- A value stored is its bytes written one after another.
use Rattle.flat_ir.specs.Effects.{stored_in, written_in}
use Rattle.std.proofs.Common.{◌≡◌, ℕ, zero, suc, ◌+◌, ◌%◌, ◌<◌, ◌≤◌, ◌^◌, List, [], ◌∷◌, Some, None, length, refl, sym, ◌∙◌, ap, subst, arith, slice_get}
use Rattle.flat_ir.specs.declared.names.ObjectName.{ObjectName}
use Rattle.flat_ir.specs.declared.program.ProgramData.{ProgramData}
use Rattle.flat_ir.specs.declared.values.Address.{Address}
use Rattle.flat_ir.specs.declared.values.ConcreteByte.{ConcreteByte}
use Rattle.flat_ir.specs.declared.values.ConcreteValue.{ConcreteValue}
use Rattle.flat_ir.specs.History.{History, Write}
use Rattle.flat_ir.specs.Registers.{cut, bytes_of_value}
use Rattle.flat_ir.specs.Steps.{access_fault, byte_there}
use Rattle.concrete_memory.specs.declared.objects.Store.{Store}
use Rattle.concrete_memory.specs.Accesses.{Reaches}
use Rattle.concrete_memory.specs.Cutting.{AreCut}
use Rattle.concrete_memory.specs.Standing.{Copies, StandsFor, Stores, HasPlaces, PutsBytes, all_written}
use Rattle.concrete_memory.proofs.Writes.{writes_stand}

stored_is : (n j : ℕ) (at : Address) (x : ObjectName) (v : ConcreteValue) (bytes : List ConcreteByte) (h : History) → at.base ≡ Some x → at.offset + j + n ≤ 2 ^ 64 → length bytes ≡ n → ((k : ℕ) → k < n → slice_get bytes k ≡ Some (cut v (j + k))) → stored_in n j at v h ≡ all_written x (at.offset + j) bytes h
stored_is zero j at x v [] h base fits size items = refl
stored_is zero j at x v (b ∷ bs) h base fits size items = absurd (omega arith)
stored_is (suc n) j at x v [] h base fits size items = absurd (omega arith)
stored_is (suc n) j at x v (b ∷ bs) h base fits size items =
    let small : (at.offset + j) % 2 ^ 64 ≡ at.offset + j = omega arith in
    let plain : j + 0 ≡ j = omega arith in
    let first : Some b ≡ Some (cut v j) = items 0 (omega arith) ∙ ap (λ k. Some (cut v k)) plain in
    let byte : cut v j ≡ b = cc in
    let here : written_in at (cut v j) j h ≡ Write x (at.offset + j) b ∷ h = rw (base, small, byte) refl in
    let on : at.offset + (j + 1) ≡ at.offset + j + 1 = omega arith in
    let rest : (k : ℕ) → k < n → slice_get bs k ≡ Some (cut v (j + 1 + k)) = λ k less.
    let moved : j + suc k ≡ j + 1 + k = omega arith in items (suc k) (omega arith) ∙ ap (λ m. Some (cut v m)) moved in
    ap (λ g. stored_in n (j + 1) at v g) here
    ∙ (stored_is n (j + 1) at x v bs (Write x (at.offset + j) b ∷ h) base (omega arith) (omega arith) rest
    ∙ ap (λ k. all_written x k bs (Write x (at.offset + j) b ∷ h)) on)

pub stores_value : (p : ProgramData) (new : Store) (at : Address) (x : ObjectName) (v : ConcreteValue) (bytes : List ConcreteByte) (h : History) → access_fault p h (bytes_of_value v) at ≡ None → at.base ≡ Some x → at.offset + bytes_of_value v < 2 ^ 64 → AreCut v (bytes_of_value v) bytes → StandsFor p new (all_written x at.offset bytes h) → Stores p new at v h
stores_value p new at x v bytes h passes base fits are stands =
    let plain : at.offset ≡ at.offset + 0 = omega arith in
    let same : stored_in (bytes_of_value v) 0 at v h ≡ all_written x at.offset bytes h =
    stored_is (bytes_of_value v) 0 at x v bytes h base (omega arith) are.size (λ k less. let e : k ≡ 0 + k = omega arith in are.byte_is k less ∙ ap (λ m. Some (cut v m)) e) ∙ ap (λ k. all_written x k bytes h) (sym plain) in
    record { passes = passes; stands = rw same stands }

pub stores_from : (p : ProgramData) (old new : Store) (at : Address) (x : ObjectName) (v : ConcreteValue) (bytes part : List ConcreteByte) (h : History) (n : ℕ) → n ≡ bytes_of_value v → Reaches p h n at part → at.base ≡ Some x → HasPlaces old x at.offset n → AreCut v n bytes → StandsFor p old h → PutsBytes old new x at.offset bytes → Stores p new at v h
stores_from p old new at x v bytes part h n size reached base places are stands puts =
    let P : ℕ → Type 0 = λ n. access_fault p h n at ≡ None in
    let Q : ℕ → Type 0 = λ n. AreCut v n bytes in
    stores_value p new at x v bytes h (subst P size reached.passes) base (omega (arith, places.within, places.fits, size)) (subst Q size are)
    (writes_stand p h old new x at.offset n bytes stands are.size places puts)

-- a byte that was read is written
pub copies_from : (p : ProgramData) (old new : Store) (from there : Address) (x : ObjectName) (b : ConcreteByte) (part : List ConcreteByte) (h : History) → Reaches p h 1 from (b ∷ []) → Reaches p h 1 there part → there.base ≡ Some x → HasPlaces old x there.offset 1 → StandsFor p old h → PutsBytes old new x there.offset (b ∷ []) → Copies p new from there h
copies_from p old new from there x b part h source target base places stands puts =
    let read : b ≡ byte_there p h from 0 = first_is b (byte_there p h from 0) source.bytes_are in
    let small : (there.offset + 0) % 2 ^ 64 ≡ there.offset = omega (arith, places.within, places.fits) in
    let now : StandsFor p new (Write x there.offset b ∷ h) = writes_stand p h old new x there.offset 1 (b ∷ []) stands refl places puts in
    record {
      passes = rw (source.passes) target.passes;
      stands = rw (base, small, ← read) now;
    }
  where
    first_is : (b c : ConcreteByte) → b ∷ [] ≡ c ∷ [] → b ≡ c
    first_is b c e = cc
