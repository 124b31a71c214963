-- Bytes of pointers into one object, and whether their offsets are one.
use Rattle.std.proofs.Common.{◌≡◌, ℕ, Bool, true, false, ◌+◌, ◌==◌, ◌&&◌, List, [], ◌∷◌, Option, Some, None, refl, sym, ap, ◌∙◌, subst}
use Rattle.std.specs.Prelude.{cond}
use Rattle.std.specs.List.{list_all}
use Rattle.std.proofs.lemmas.Bool.{eqb-true, eq-eqb, ne_eqb, and_parts}
use Rattle.std.proofs.Math.Bool.{and-true, and_assoc}
use Rattle.bitnum.specs.declared.BinOp.TheVariants as op
use Rattle.terms.specs.declared.term.Binary.TheVariants.{Bin, Eq}
use Rattle.terms.specs.Folding.{folded_two}
use Rattle.terms.specs.Tree.{Tree, two, width_of, IsTree}
use Rattle.terms.specs.Value.{truth, is_yes, two_of, value_of}
use Rattle.terms.proofs.Folds.{value-folded_two, width-folded_two}
use Rattle.terms.proofs.Kept.{tree-folded_two}
use Rattle.flat_ir.specs.Registers as registers
use Rattle.flat_ir.specs.Registers.{are_bytes_of}
use Rattle.sym_bytes.specs.declared.names.Base.{Base}
use Rattle.sym_bytes.specs.declared.names.Base.TheVariants as base
use Rattle.sym_bytes.specs.Building.{equal, same_base}
use Rattle.sym_bytes.specs.Byte as byte
use Rattle.sym_bytes.specs.Byte.{SymByte}
use Rattle.sym_bytes.specs.Fitting.{IsWide}
use Rattle.sym_bytes.specs.Pointers.{Pointer}
use Rattle.sym_bytes.specs.Joining.{put_before, offsets_of, all_equal, alike}
use Rattle.sym_bytes.specs.Under.{Results, bits_under, base_under}
use Rattle.byte_laws.specs.Types.{AreBytes}
use Rattle.byte_laws.proofs.Numbers.{under, NonePending, put_some, put_none, yes_truth}

-- each is an offset
abbrev pub AreWide : List Tree → Type 0
AreWide [] = Unit {0}
AreWide (t ∷ ts) = IsWide t × AreWide ts

-- ---- which bytes are of one pointer

pub base_same : (a b : Base) → same_base a b ≡ registers.same_base (base_under a) (base_under b)
base_same base.Null base.Null = refl
base_same base.Null (base.Object y) = refl
base_same (base.Object x) base.Null = refl
base_same (base.Object x) (base.Object y) = refl

put_taken : (test : Bool) (t : Tree) (o : Option (List Tree)) (ts : List Tree) → put_before (cond test (Some t) None) o ≡ Some ts
    → (test ≡ true) × ((rest : List Tree) × (o ≡ Some rest) × (t ∷ rest ≡ ts))
put_taken true t o ts e = (refl, put_some t o ts e)
put_taken false t o ts e = cc

-- where the offsets are there, the first is that of the first byte
pub first_offset : (b : Base) (j : ℕ) (p : Pointer) (k : ℕ) (bs : List SymByte) (ts : List Tree) → offsets_of b j (byte.PtrByte p k ∷ bs) ≡ Some ts
    → (rest : List Tree) × (p.offset ∷ rest ≡ ts)
first_offset b j p k bs ts e =
    let parts = put_taken (same_base b p.base && (k == j)) p.offset (offsets_of b (j + 1) bs) ts e in
    (parts.1.0, parts.1.2)

pub offsets_wide : (b : Base) (j : ℕ) (bs : List SymByte) (ts : List Tree) → AreBytes bs → offsets_of b j bs ≡ Some ts → AreWide ts
offsets_wide b j [] ts h e = subst AreWide (ap (λ o. elim o [ Some xs ↦ xs | None ↦ [] ]) e) tt
offsets_wide b j (byte.Int t ∷ bs) ts h e = cc
offsets_wide b j (byte.PendingByte c t k ∷ bs) ts h e = cc
offsets_wide b j (byte.PtrByte p k ∷ bs) ts h e =
    let parts = put_taken (same_base b p.base && (k == j)) p.offset (offsets_of b (j + 1) bs) ts e in
    subst AreWide parts.1.2 (h.0, offsets_wide b (j + 1) bs parts.1.0 h.1 parts.1.1)

-- bytes with offsets are those of one pointer where the offsets are its own
pub offsets_all : (input : List ℕ) (results : Results) (b : Base) (n j : ℕ) (bs : List SymByte) (ts : List Tree) → offsets_of b j bs ≡ Some ts
    → are_bytes_of (record { base = base_under b; offset = n }) j (under input results bs) ≡ list_all (λ t. n == bits_under input t) ts
offsets_all input results b n j [] ts e = ap (λ o. list_all (λ t. n == bits_under input t) (elim o [ Some xs ↦ xs | None ↦ [] ])) e
offsets_all input results b n j (byte.Int t ∷ bs) ts e = cc
offsets_all input results b n j (byte.PendingByte c t k ∷ bs) ts e = cc
offsets_all input results b n j (byte.PtrByte p k ∷ bs) ts e =
    let parts = put_taken (same_base b p.base && (k == j)) p.offset (offsets_of b (j + 1) bs) ts e in
    let tests = and_parts (same_base b p.base) (k == j) parts.0 in
    let based : registers.same_base (base_under b) (base_under p.base) ≡ true = sym (base_same b p.base) ∙ tests.0 in
    rw (based, tests.1, offsets_all input results b n (j + 1) bs parts.1.0 parts.1.1)
    (ap (list_all (λ t. n == bits_under input t)) parts.1.2)

not_both : (sb eo kj rest : Bool) → (sb && kj ≡ true → rest ≡ false) → (sb && eo) && (kj && rest) ≡ false
not_both false eo kj rest h = refl
not_both true false kj rest h = refl
not_both true true false rest h = refl
not_both true true true rest h = h refl

put_untaken : (test : Bool) (t : Tree) (o : Option (List Tree)) → put_before (cond test (Some t) None) o ≡ None → test ≡ true → o ≡ None
put_untaken true t o e is = put_none t o e
put_untaken false t o e is = cc

-- bytes without offsets aren't all of one pointer
pub no_offsets : (input : List ℕ) (results : Results) (b : Base) (n j : ℕ) (bs : List SymByte) → offsets_of b j bs ≡ None → NonePending bs
    → are_bytes_of (record { base = base_under b; offset = n }) j (under input results bs) ≡ false
no_offsets input results b n j [] e h = cc
no_offsets input results b n j (byte.Int t ∷ bs) e h = refl
no_offsets input results b n j (byte.PendingByte c t k ∷ bs) e h = absurd h
no_offsets input results b n j (byte.PtrByte p k ∷ bs) e h =
    not_both (registers.same_base (base_under b) (base_under p.base)) (n == bits_under input p.offset) (k == j)
    (are_bytes_of (record { base = base_under b; offset = n }) (j + 1) (under input results bs))
    (λ is. no_offsets input results b n (j + 1) bs
    (put_untaken (same_base b p.base && (k == j)) p.offset (offsets_of b (j + 1) bs) e (ap (λ s. s && (k == j)) (base_same b p.base) ∙ is)) h)

-- ---- whether offsets are equal

not_both_ways : (b : Bool) → b ≡ false → b ≡ true → ⊥
not_both_ways true e h = cc
not_both_ways false e h = cc

eqb_turned : (m n : ℕ) → (m == n) ≡ (n == m)
eqb_turned m n = turned (m == n) refl
  where
    turned : (b : Bool) → (m == n) ≡ b → (m == n) ≡ (n == m)
    turned true e = e ∙ sym (eq-eqb n m (sym (eqb-true m n e)))
    turned false e = e ∙ sym (ne_eqb n m (λ is. not_both_ways (m == n) e (eq-eqb m n (sym is))))

equal_tree : (a b : Tree) → IsWide a → IsWide b → IsTree (two Eq a b)
equal_tree a b g h = (g.0, h.0, g.1 ∙ sym h.1)

both_bits : (p q : Bool) → two_of (Bin op.And) (truth p) (truth q) ≡ truth (p && q)
both_bits true true = refl
both_bits true false = refl
both_bits false true = refl
both_bits false false = refl

both_tree : (t u : Tree) → IsTree t → width_of t ≡ 1 → IsTree u → width_of u ≡ 1 → IsTree (two (Bin op.And) t u)
both_tree t u h v k w = (h, k, v ∙ sym w)

all_equal_value : (input : List ℕ) (first so_far : Tree) (ts : List Tree) (b : Bool) → IsWide first → AreWide ts → IsTree so_far → width_of so_far ≡ 1
    → value_of so_far input ≡ truth b
    → value_of (all_equal first so_far ts) input ≡ truth (b && list_all (λ t. bits_under input first == bits_under input t) ts)
all_equal_value input first so_far [] b f h tree width is = is ∙ ap truth (sym (and-true b))
all_equal_value input first so_far (t ∷ ts) b f h tree width is =
    let eq_tree = equal_tree t first h.0 f in
    let eq_is = tree-folded_two Eq t first eq_tree in
    let eq_width : width_of (equal t first) ≡ 1 = width-folded_two Eq t first eq_tree in
    let and_tree = both_tree so_far (equal t first) tree width eq_is eq_width in
    let eq_value : value_of (equal t first) input ≡ truth (bits_under input first == bits_under input t) =
    value-folded_two Eq t first input eq_tree ∙ ap truth (eqb_turned (bits_under input t) (bits_under input first)) in
    let and_value : value_of (folded_two (Bin op.And) so_far (equal t first)) input ≡ truth (b && (bits_under input first == bits_under input t)) =
    value-folded_two (Bin op.And) so_far (equal t first) input and_tree
    ∙ ap (λ m. two_of (Bin op.And) m (value_of (equal t first) input)) is
    ∙ ap (two_of (Bin op.And) (truth b)) eq_value
    ∙ both_bits b (bits_under input first == bits_under input t) in
    all_equal_value input first (folded_two (Bin op.And) so_far (equal t first)) ts (b && (bits_under input first == bits_under input t)) f h.1
    (tree-folded_two (Bin op.And) so_far (equal t first) and_tree)
    (width-folded_two (Bin op.And) so_far (equal t first) and_tree ∙ width)
    and_value
    ∙ ap truth (and_assoc b (bits_under input first == bits_under input t) (list_all (λ u. bits_under input first == bits_under input u) ts))

-- the test is 1 where all offsets equal the first
pub alike_value : (input : List ℕ) (t : Tree) (ts : List Tree) → AreWide (t ∷ ts)
    → is_yes (value_of (alike (t ∷ ts)) input) ≡ list_all (λ u. bits_under input t == bits_under input u) (t ∷ ts)
alike_value input t [] h = rw (eq-eqb (bits_under input t) (bits_under input t) refl) refl
alike_value input t (u ∷ us) h =
    let eq_tree = equal_tree u t h.1.0 h.0 in
    let eq_value : value_of (equal u t) input ≡ truth (bits_under input t == bits_under input u) =
    value-folded_two Eq u t input eq_tree ∙ ap truth (eqb_turned (bits_under input u) (bits_under input t)) in
    rw (eq-eqb (bits_under input t) (bits_under input t) refl)
    (ap is_yes (all_equal_value input t (equal u t) us (bits_under input t == bits_under input u) h.0 h.1.1 (tree-folded_two Eq u t eq_tree) (width-folded_two Eq u t eq_tree) eq_value)
    ∙ yes_truth _)
