-- Bytes of one result that isn't known yet, and bytes of several kinds.
use Rattle.std.proofs.Common.{◌≡◌, ℕ, zero, suc, Bool, true, false, ◌+◌, ◌*◌, ◌/◌, ◌%◌, ◌^◌, ◌-◌, ◌<◌, ◌==◌, ◌&&◌, List, [], ◌∷◌, length, Option, Some, None, refl, sym, ap, ◌∙◌, subst, arith}
use Rattle.std.specs.Prelude.{cond, nat_lt, slice_get}
use Rattle.std.proofs.lemmas.Bool.{eqb-true, eq-eqb, and_from, and_parts}
use Rattle.std.proofs.lemmas.Nat.{shr-shr, shr_below}
use Rattle.std.proofs.Math.Nat.{div-one, mod-add-div}
use Rattle.bitnum.specs.Number.{Number}
use Rattle.terms.proofs.Folds.{number_eq}
use Rattle.flat_ir.specs.declared.nodes.RegType.{RegType}
use Rattle.flat_ir.specs.declared.nodes.RegType.TheVariants as type
use Rattle.flat_ir.specs.declared.values.Address.{Address}
use Rattle.flat_ir.specs.declared.values.ConcreteValue.{ConcreteValue}
use Rattle.flat_ir.specs.declared.values.ConcreteValue.TheVariants.{Int, Ptr}
use Rattle.flat_ir.specs.declared.names.ObjectName.{ObjectName}
use Rattle.flat_ir.specs.Registers.{cut, first_of, joined, joined_number, number_of_width, are_bytes_of, same_base, same_address}
use Rattle.flat_ir.specs.Same.{same_object_refl}
use Rattle.sym_bytes.specs.declared.names.CallId.{CallId}
use Rattle.sym_bytes.specs.Answers as answer
use Rattle.sym_bytes.specs.Answers.{Join}
use Rattle.sym_bytes.specs.Building.{same_type}
use Rattle.sym_bytes.specs.Byte as byte
use Rattle.sym_bytes.specs.Byte.{SymByte}
use Rattle.sym_bytes.specs.Value as value
use Rattle.sym_bytes.specs.Joining.{is_pending, are_pending, starts_with, put_call, calls_in, mixed_or, pending_call, join_pending}
use Rattle.sym_bytes.specs.Under.{Results, returned, result_of}
use Rattle.byte_laws.specs.Types.{IsOf, HasSize, AreReturned}
use Rattle.byte_laws.proofs.Judged.{JoinIs}
use Rattle.byte_laws.proofs.Numbers.{under, NonePending}

-- ---- the bytes of a value make it again

-- a number that is left of the bits, in its bytes
number_back : (m : Number) (n j x : ℕ) → m.bits / 2 ^ (8 * j) ≡ x → x < 2 ^ (8 * n) → joined_number (first_of n j (cut (Int m))) ≡ Some x
number_back m zero j x e less = ap Some (omega (arith, less))
number_back m (suc n) j x e less =
    let next : 8 * (j + 1) ≡ 8 * j + 8 = omega arith in
    let above : m.bits / 2 ^ (8 * (j + 1)) ≡ x / 2 ^ 8 = ap (λ k. m.bits / 2 ^ k) next ∙ sym (shr-shr m.bits (8 * j) 8) ∙ ap (λ y. y / 2 ^ 8) e in
    let size : 8 * suc n ≡ 8 * n + 8 = omega arith in
    let below : x / 2 ^ 8 < 2 ^ (8 * n) = shr_below x (8 * n) 8 (subst (λ k. x < 2 ^ k) size less) in
    ap (λ o. elim o [ None ↦ None | Some y ↦ Some ((m.bits / 2 ^ (8 * j)) % 256 + 256 * y) ]) (number_back m n (j + 1) (x / 2 ^ 8) above below)
    ∙ ap (λ y. Some (y % 256 + 256 * (x / 2 ^ 8))) e
    ∙ ap Some (mod-add-div x 256)

same_base_refl : (o : Option ObjectName) → same_base o o ≡ true
same_base_refl None = refl
same_base_refl (Some x) = same_object_refl x

same_address_refl : (a : Address) → same_address a a ≡ true
same_address_refl a = and_from (same_base a.base a.base) (a.offset == a.offset) (same_base_refl a.base) (eq-eqb a.offset a.offset refl)

pointer_back : (a : Address) (n j : ℕ) → are_bytes_of a j (first_of n j (cut (Ptr a))) ≡ true
pointer_back a zero j = refl
pointer_back a (suc n) j =
    and_from (same_address a a) ((j == j) && are_bytes_of a (j + 1) (first_of n (j + 1) (cut (Ptr a)))) (same_address_refl a)
    (and_from (j == j) (are_bytes_of a (j + 1) (first_of n (j + 1) (cut (Ptr a)))) (eq-eqb j j refl) (pointer_back a n (j + 1)))

value_back : (t : RegType) (v : ConcreteValue) (n : ℕ) → IsOf t v → HasSize t n → 0 < n → joined t (first_of n 0 (cut v)) ≡ Some v
value_back (type.Int width) (Int m) n h size some =
    let fits : m.bits < 2 ^ (8 * n) = subst (λ k. m.bits < 2 ^ k) (h.1 ∙ size) h.0.fits in
    ap (number_of_width width) (number_back m n 0 m.bits (div-one m.bits) fits) ∙ ap (λ k. Some (Int k)) (number_eq _ _ (sym h.1) refl)
value_back (type.Int width) (Ptr a) n h size some = absurd h
value_back type.Ptr (Int m) n h size some = absurd h
value_back type.Ptr (Ptr a) zero h size some = absurd (omega (arith, some))
value_back type.Ptr (Ptr a) (suc n) h size some = ap (λ test. cond test (Some (Ptr a)) None) (pointer_back a (suc n) 0)

-- ---- the bytes of one result

same_type-true : (t u : RegType) → same_type t u ≡ true → t ≡ u
same_type-true (type.Int v) (type.Int w) e = ap type.Int (eqb-true v w e)
same_type-true (type.Int v) type.Ptr e = cc
same_type-true type.Ptr (type.Int w) e = cc
same_type-true type.Ptr type.Ptr e = refl

taken : (test : Bool) (c d : CallId) → cond test (Some c) None ≡ Some d → (test ≡ true) × (c ≡ d)
taken true c d e = (refl, ap (λ o. elim o [ Some x ↦ x | None ↦ c ]) e)
taken false c d e = cc

call_is : (t : RegType) (bs : List SymByte) (c : CallId) → pending_call t bs ≡ Some c → are_pending c t 0 bs ≡ true
call_is t [] c e = cc
call_is t (byte.Int u ∷ bs) c e = cc
call_is t (byte.PtrByte p j ∷ bs) c e = cc
call_is t (byte.PendingByte d u j ∷ bs) c e =
    let parts = taken (are_pending d t 0 (byte.PendingByte d u j ∷ bs)) d c e in
    subst (λ x. are_pending x t 0 (byte.PendingByte d u j ∷ bs) ≡ true) parts.1 parts.0

result_alike : (results : Results) (c d : CallId) → c.0 ≡ d.0 → result_of results d ≡ result_of results c
result_alike results c d e = ap (λ n. returned (slice_get results (n - 1))) (sym e)

pending_under : (input : List ℕ) (results : Results) (c : CallId) (t : RegType) (j : ℕ) (bs : List SymByte) → are_pending c t j bs ≡ true
    → under input results bs ≡ first_of (length bs) j (cut (result_of results c))
pending_under input results c t j [] e = refl
pending_under input results c t j (byte.Int u ∷ bs) e = cc
pending_under input results c t j (byte.PtrByte p k ∷ bs) e = cc
pending_under input results c t j (byte.PendingByte d u k ∷ bs) e =
    let parts = and_parts (is_pending c t j (byte.PendingByte d u k)) (are_pending c t (j + 1) bs) e in
    let calls = and_parts (c.0 == d.0) (same_type t u && (k == j)) parts.0 in
    let places = and_parts (same_type t u) (k == j) calls.1 in
    let first : cut (result_of results d) k ≡ cut (result_of results c) j =
    ap (λ v. cut v k) (result_alike results c d (eqb-true c.0 d.0 calls.0)) ∙ ap (cut (result_of results c)) (eqb-true k j places.1) in
    let rest = pending_under input results c t (j + 1) bs parts.1 in
    λ i. first i ∷ rest i

pending_type : (results : Results) (c : CallId) (t : RegType) (j : ℕ) (bs : List SymByte) → are_pending c t j bs ≡ true → 0 < length bs → AreReturned results bs
    → IsOf t (result_of results c)
pending_type results c t j [] e some h = absurd (omega (arith, some))
pending_type results c t j (byte.Int u ∷ bs) e some h = cc
pending_type results c t j (byte.PtrByte p k ∷ bs) e some h = cc
pending_type results c t j (byte.PendingByte d u k ∷ bs) e some h =
    let parts = and_parts (is_pending c t j (byte.PendingByte d u k)) (are_pending c t (j + 1) bs) e in
    let calls = and_parts (c.0 == d.0) (same_type t u && (k == j)) parts.0 in
    let places = and_parts (same_type t u) (k == j) calls.1 in
    subst (λ v. IsOf t v) (result_alike results c d (eqb-true c.0 d.0 calls.0)) (subst (λ s. IsOf s (result_of results d)) (sym (same_type-true t u places.0)) h.0)

-- ---- bytes of several kinds

no_calls : (first second : Bool) (c d : CallId) (xs ys zs : List CallId) → cond first (d ∷ xs) (cond second (d ∷ ys) (c ∷ zs)) ≡ [] → ⊥
no_calls true second c d xs ys zs e = cc
no_calls false true c d xs ys zs e = cc
no_calls false false c d xs ys zs e = cc

some_call : (c : CallId) (cs : List CallId) → put_call c cs ≡ [] → ⊥
some_call c [] e = cc
some_call c (d ∷ ds) e = no_calls (nat_lt d.0 c.0) (starts_with c (d ∷ ds)) c d (put_call c ds) ds (d ∷ ds) e

none_pending : (bs : List SymByte) → calls_in bs ≡ [] → NonePending bs
none_pending [] e = tt
none_pending (byte.Int t ∷ bs) e = none_pending bs e
none_pending (byte.PtrByte p j ∷ bs) e = none_pending bs e
none_pending (byte.PendingByte c t j ∷ bs) e = some_call c (calls_in bs) e

-- bytes that aren't all integers, nor all of one pointer, and make no value where none is pending
pub pending_law : (input : List ℕ) (results : Results) (t : RegType) (bs : List SymByte) → 0 < length bs → HasSize t (length bs) → AreReturned results bs
    → (NonePending bs → joined t (under input results bs) ≡ None) → JoinIs input results (joined t (under input results bs)) (join_pending t bs)
pending_law input results t bs some size h mixed = by_call (pending_call t bs) refl
  where
    by_calls : (cs : List CallId) → calls_in bs ≡ cs → JoinIs input results (joined t (under input results bs)) (mixed_or cs)
    by_calls [] e = mixed (none_pending bs e)
    by_calls (c ∷ cs) e = tt

    by_call : (o : Option CallId) → pending_call t bs ≡ o
        → JoinIs input results (joined t (under input results bs)) (elim o [ Some c ↦ answer.Value (value.Pending c t) | None ↦ mixed_or (calls_in bs) ])
    by_call (Some c) e =
        let all = call_is t bs c e in
        ap (joined t) (pending_under input results c t 0 bs all)
        ∙ value_back t (result_of results c) (length bs) (pending_type results c t 0 bs all some h) size some
    by_call None e = by_calls (calls_in bs) refl
