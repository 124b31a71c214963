-- What bytes make, under an input, is what the join says.
use Rattle.std.proofs.Common.{◌≡◌, ℕ, ◌*◌, ◌<◌, ◌==◌, List, [], ◌∷◌, length, map, Option, Some, None, refl, sym, ap, ◌∙◌, subst, arith}
use Rattle.std.specs.Prelude.{cond}
use Rattle.std.specs.List.{list_all}
use Rattle.terms.specs.Joining.{folded_join}
use Rattle.terms.specs.Tree.{Tree}
use Rattle.terms.specs.Value.{is_yes, value_of}
use Rattle.flat_ir.specs.declared.nodes.RegType.{RegType}
use Rattle.flat_ir.specs.declared.nodes.RegType.TheVariants as type
use Rattle.flat_ir.specs.declared.values.ConcreteValue.TheVariants.{Int, Ptr}
use Rattle.flat_ir.specs.Registers as registers
use Rattle.flat_ir.specs.Registers.{joined, joined_number, joined_pointer, number_of_width}
use Rattle.sym_bytes.specs.Answers as answer
use Rattle.sym_bytes.specs.Answers.{Join}
use Rattle.sym_bytes.specs.Building.{equal, wide, null}
use Rattle.sym_bytes.specs.Byte as byte
use Rattle.sym_bytes.specs.Byte.{SymByte}
use Rattle.sym_bytes.specs.Joining.{ints_of, offsets_of, alike, join_integer, join_pending, join_null, join_offsets, join_pointer, join_bytes}
use Rattle.sym_bytes.specs.Pointers.{Pointer}
use Rattle.sym_bytes.specs.Under.{Results, bits_under, address_under, byte_under, value_under}
use Rattle.sym_bytes.specs.Value as value
use Rattle.sym_bytes.specs.Value.{SymValue}
use Rattle.byte_laws.specs.Types.{AreBytes, AreReturned, HasSize}
use Rattle.byte_laws.proofs.Judged.{JoinIs}
use Rattle.byte_laws.proofs.Numbers.{under, length_ints, ints_are, ints_value, ints_zero, no_number}
use Rattle.byte_laws.proofs.Pendings.{pending_law}
use Rattle.byte_laws.proofs.Pointers.{AreWide, offsets_all, offsets_wide, no_offsets, first_offset, alike_value}

integer_law : (input : List ℕ) (results : Results) (width : ℕ) (bs : List SymByte) → AreBytes bs → 0 < length bs → width ≡ 8 * length bs → AreReturned results bs
    → JoinIs input results (joined (type.Int width) (under input results bs)) (join_integer (type.Int width) bs)
integer_law input results width bs h some size back = by_ints (ints_of bs) refl
  where
    by_ints : (o : Option (List Tree)) → ints_of bs ≡ o
        → JoinIs input results (joined (type.Int width) (under input results bs)) (elim o [ Some ts ↦ answer.Value (value.Int (folded_join ts)) | None ↦ join_pending (type.Int width) bs ])
    by_ints (Some ts) e =
        let are = ints_are bs ts e in
        let length_is : length (map byte.Int ts) ≡ length ts = length_ints ts in
        subst (λ cs. joined (type.Int width) (under input results cs) ≡ Some (Int (value_of (folded_join ts) input))) are
        (ints_value input results width ts (subst AreBytes (sym are) h)
        (omega (arith, some, ap length are, length_is)) (omega (arith, size, ap length are, length_is)))
    by_ints None e = pending_law input results (type.Int width) bs some size back (λ none. ap (number_of_width width) (no_number input results bs none e))

-- the bytes of integers make null where their join is 0
zero_law : (input : List ℕ) (results : Results) (t : Tree) (bs : List SymByte) → AreBytes (byte.Int t ∷ bs) → length (byte.Int t ∷ bs) ≡ 8 → AreReturned results (byte.Int t ∷ bs)
    → JoinIs input results (joined type.Ptr (under input results (byte.Int t ∷ bs))) (join_null (byte.Int t ∷ bs))
zero_law input results t bs h size back = by_ints (ints_of (byte.Int t ∷ bs)) refl
  where
    by_ints : (o : Option (List Tree)) → ints_of (byte.Int t ∷ bs) ≡ o
        → JoinIs input results (joined type.Ptr (under input results (byte.Int t ∷ bs)))
        (elim o [ Some ts ↦ answer.Test (equal (folded_join ts) (wide 0)) null | None ↦ join_pending type.Ptr (byte.Int t ∷ bs) ])
    by_ints (Some ts) e =
        let are = ints_are (byte.Int t ∷ bs) ts e in
        let length_is = length_ints ts in
        let number = ints_zero input results ts (subst AreBytes (sym are) h) (omega (arith, size, ap length are, length_is)) in
        ap registers.null_if_zero (subst (λ cs. joined_number (under input results cs) ≡ Some (bits_under input (folded_join ts))) are number.0)
        ∙ ap (λ test. cond test (Some (Ptr registers.null)) None) (sym number.1)
    by_ints None e = pending_law input results type.Ptr (byte.Int t ∷ bs) (omega (arith, size)) size back
        (λ none. ap registers.null_if_zero (no_number input results (byte.Int t ∷ bs) none e))

-- the bytes of pointers into one object make the pointer where their offsets are equal
pointer_law : (input : List ℕ) (results : Results) (p : Pointer) (j : ℕ) (bs : List SymByte) → AreBytes (byte.PtrByte p j ∷ bs) → length (byte.PtrByte p j ∷ bs) ≡ 8
    → AreReturned results (byte.PtrByte p j ∷ bs)
    → JoinIs input results (joined type.Ptr (under input results (byte.PtrByte p j ∷ bs))) (join_pointer (byte.PtrByte p j ∷ bs))
pointer_law input results p j bs h size back = by_offsets (offsets_of p.base 0 (byte.PtrByte p j ∷ bs)) refl
  where
    by_offsets : (o : Option (List Tree)) → offsets_of p.base 0 (byte.PtrByte p j ∷ bs) ≡ o
        → JoinIs input results (joined type.Ptr (under input results (byte.PtrByte p j ∷ bs))) (join_offsets p o (byte.PtrByte p j ∷ bs))
    by_offsets (Some ts) e =
        let first = first_offset p.base 0 p j bs ts e in
        let wide_are = subst AreWide (sym first.1) (offsets_wide p.base 0 (byte.PtrByte p j ∷ bs) ts h e) in
        let tests = subst (λ us. is_yes (value_of (alike us) input) ≡ list_all (λ u. bits_under input p.offset == bits_under input u) us) first.1
        (alike_value input p.offset first.0 wide_are) in
        ap (λ test. cond test (Some (Ptr (address_under input p))) None)
        (offsets_all input results p.base (bits_under input p.offset) 0 (byte.PtrByte p j ∷ bs) ts e ∙ sym tests)
    by_offsets None e = pending_law input results type.Ptr (byte.PtrByte p j ∷ bs) (omega (arith, size)) size back
        (λ none. ap (λ test. cond test (Some (Ptr (address_under input p))) None)
        (no_offsets input results p.base (bits_under input p.offset) 0 (byte.PtrByte p j ∷ bs) e none))

join_law : (input : List ℕ) (results : Results) (t : RegType) (bs : List SymByte) → AreBytes bs → 0 < length bs → HasSize t (length bs) → AreReturned results bs
    → JoinIs input results (joined t (under input results bs)) (join_bytes bs t)
join_law input results (type.Int width) bs h some size back = integer_law input results width bs h some size back
join_law input results type.Ptr [] h some size back = absurd (omega (arith, some))
join_law input results type.Ptr (byte.Int t ∷ bs) h some size back = zero_law input results t bs h size back
join_law input results type.Ptr (byte.PtrByte p j ∷ bs) h some size back = pointer_law input results p j bs h size back
join_law input results type.Ptr (byte.PendingByte c t j ∷ bs) h some size back =
    pending_law input results type.Ptr (byte.PendingByte c t j ∷ bs) some size back (λ none. absurd none)

pub value_law : (input : List ℕ) (results : Results) (t : RegType) (bs : List SymByte) (v : SymValue)
    → AreBytes bs → 0 < length bs → HasSize t (length bs) → AreReturned results bs
    → join_bytes bs t ≡ answer.Value v
    → joined t (map (byte_under input results) bs) ≡ Some (value_under input results v)
value_law input results t bs v h some size back e =
    subst (JoinIs input results (joined t (under input results bs))) e (join_law input results t bs h some size back)

pub test_law : (input : List ℕ) (results : Results) (t : RegType) (bs : List SymByte) (test : Tree) (v : SymValue)
    → AreBytes bs → 0 < length bs → HasSize t (length bs) → AreReturned results bs
    → join_bytes bs t ≡ answer.Test test v
    → joined t (map (byte_under input results) bs) ≡ cond (is_yes (value_of test input)) (Some (value_under input results v)) None
test_law input results t bs test v h some size back e =
    subst (JoinIs input results (joined t (under input results bs))) e (join_law input results t bs h some size back)

pub mixed_law : (input : List ℕ) (results : Results) (t : RegType) (bs : List SymByte)
    → AreBytes bs → 0 < length bs → HasSize t (length bs) → AreReturned results bs
    → join_bytes bs t ≡ answer.Mixed
    → joined t (map (byte_under input results) bs) ≡ None
mixed_law input results t bs h some size back e =
    subst (JoinIs input results (joined t (under input results bs))) e (join_law input results t bs h some size back)
