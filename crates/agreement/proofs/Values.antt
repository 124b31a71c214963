-- Each word that a node makes of its operands is, under an input, what the concrete run calculates.
use Rattle.std.proofs.Common.{◌≡◌, ℕ, zero, suc, Bool, true, false, not, ◌&&◌, ◌==◌, ◌+◌, ◌-◌, ◌*◌, ◌/◌, ◌%◌, ◌^◌, ◌<◌, ◌≤◌, List, [], refl, sym, ◌∙◌, ap, subst, arith, lit≤}
use Rattle.std.specs.Prelude.{cond, nat_lt, nat_le}
use Rattle.std.proofs.lemmas.Bool.{eqb-true, eqb-false, eq-eqb, leb-true, leb-false, le-leb}
use Rattle.std.proofs.Math.Nat.{mod-eq_of_lt, add-mul-mod_self_right, mod-add-div'}
use Rattle.std.proofs.Math.Pow.{ones_lt, pow-lt}
use Rattle.std.proofs.lemmas.Nat.{pow_pos}
use Rattle.bitnum.proofs.Widths.{pow_wider}
use Rattle.bitnum.specs.Bits.{sign_extended, is_negative}
use Rattle.bitnum.specs.Number.{Number, IsWidth}
use Rattle.bitnum.specs.Operations.{applied, holds, sign_widened}
use Rattle.bitnum.specs.declared.BinOp.{BinOp}
use Rattle.bitnum.specs.declared.BinOp.TheVariants as ops
use Rattle.bitnum.specs.declared.Pred.{Pred}
use Rattle.bitnum.specs.declared.Pred.TheVariants as pred
use Rattle.checks.specs.Types.{resizes}
use Rattle.flat_ir.specs.declared.nodes.CastOp.{CastOp}
use Rattle.flat_ir.specs.declared.nodes.CastOp.TheVariants as to
use Rattle.flat_ir.specs.declared.nodes.RegType.{RegType}
use Rattle.flat_ir.specs.declared.nodes.RegType.TheVariants as type
use Rattle.flat_ir.specs.declared.values.ConcreteValue.TheVariants as concrete
use Rattle.flat_ir.specs.Registers as registers
use Rattle.flat_ir.specs.Steps as steps
use Rattle.flat_ir.specs.Steps.{bit, related, pointers_related}
use Rattle.terms.specs.declared.term.Unary.TheVariants.{Not, Zext, Sext, Trunc}
use Rattle.terms.specs.declared.term.Binary.TheVariants.{Bin, Eq, Ult, Slt}
use Rattle.terms.specs.Tree.{Tree, IsTree, width_of}
use Rattle.terms.specs.Value.{truth, is_yes, one_of, value_of, is_met_by}
use Rattle.terms.specs.Folding.{folded_one, folded_two, folded_choice}
use Rattle.terms.proofs.Folds.{value-folded_one, value-folded_two, value-folded_choice}
use Rattle.terms.proofs.Numbers.{value_is, width-value_of}
use Rattle.term_store.specs.Condition.{negation}
use Rattle.sym_bytes.specs.Building.{number, wide, equal, behind, same_base}
use Rattle.sym_bytes.specs.Pointers.{Pointer}
use Rattle.sym_bytes.specs.Under.{bits_under, address_under, value_under}
use Rattle.sym_bytes.specs.Value.{SymValue, Int, Ptr, Pending}
use Rattle.leaves.specs.Fitting.{IsTerm, IsTermOf, ValueFits}
use Rattle.sym_states.specs.Terms.{term_in, pointer_in, calculated, compared, compared_terms, alike_pointers, compared_pointers, compared_values, cast_to, chosen, low_byte, truth_of, size_in, in_64_bits, moved_by_index, is_nonzero, is_least, is_ones, has_quotient, is_small}
use Rattle.byte_laws.proofs.Pointers.{base_same}
use Rattle.log_laws.proofs.Tested.{yes_truth}
use Rattle.sym_states.proofs.Widths.{calculated-fits, equal-fits, below-fits, wide-fits}
use Rattle.state_laws.specs.Skipless.{IsFirm}
use Rattle.state_laws.proofs.Terms.{exact, tree-width, number-fits, slt-fits, alike_pointers-fits, is_least-fits, is_ones-fits, in_64_bits-fits, two-fits}
use Rattle.typed_runs.specs.TypedRuns.{HasType}

-- ---- numbers and addresses of values

pub number-under : (i : List ℕ) (v : SymValue) → IsFirm v → registers.number (value_under i [] v) ≡ value_of (term_in v) i
number-under i (Int t) h = refl
number-under i (Ptr p) h = refl
number-under i (Pending c t) h = absurd h

pub address-under : (i : List ℕ) (v : SymValue) → IsFirm v → registers.address (value_under i [] v) ≡ address_under i (pointer_in v)
address-under i (Int t) h = refl
address-under i (Ptr p) h = refl
address-under i (Pending c t) h = absurd h

-- ---- terms of one bit

pub bit-small : (n : ℕ) (t : Tree) (i : List ℕ) → IsTermOf n 1 t → (value_of t i).bits < 2
bit-small n t i h = subst (λ k. (value_of t i).bits < 2 ^ k) (width-value_of t i h.term.tree ∙ h.has_width) (value_is t i h.term.tree).fits

turned-bit : (b : ℕ) → b < 2 → ((1 - b) == 1) ≡ not (b == 1)
turned-bit zero h = refl
turned-bit (suc zero) h = refl
turned-bit (suc (suc n)) h = absurd (omega (arith, h))

pub met-negation : (n : ℕ) (t : Tree) (i : List ℕ) → IsTermOf n 1 t → is_met_by i (negation t) ≡ not (is_met_by i t)
met-negation n t i h = ap is_yes (value-folded_one Not t i (h.term.tree, h.has_width)) ∙ turned-bit (value_of t i).bits (bit-small n t i h)

truth-not : (b : Bool) → one_of Not (truth b) ≡ truth (not b)
truth-not true = refl
truth-not false = refl

value-not : (n : ℕ) (t : Tree) (i : List ℕ) (b : Bool) → IsTermOf n 1 t → value_of t i ≡ truth b → value_of (negation t) i ≡ truth (not b)
value-not n t i b h is = value-folded_one Not t i (h.term.tree, h.has_width) ∙ ap (one_of Not) is ∙ truth-not b

and-bits : (a b : Number) → a.bits < 2 → b.bits < 2 → is_yes (applied ops.And a b) ≡ (is_yes a && is_yes b)
and-bits a b h k = by-bits a.bits b.bits h k
  where
    by-bits : (p q : ℕ) → p < 2 → q < 2 → is_yes (applied ops.And (record { width = a.width; bits = p }) (record { width = b.width; bits = q })) ≡ ((p == 1) && (q == 1))
    by-bits zero zero h k = refl
    by-bits zero (suc zero) h k = refl
    by-bits (suc zero) zero h k = refl
    by-bits (suc zero) (suc zero) h k = refl
    by-bits (suc (suc p)) q h k = absurd (omega (arith, h))
    by-bits zero (suc (suc q)) h k = absurd (omega (arith, k))
    by-bits (suc zero) (suc (suc q)) h k = absurd (omega (arith, k))

pub met-and : (n : ℕ) (a b : Tree) (i : List ℕ) → IsTermOf n 1 a → IsTermOf n 1 b → is_met_by i (folded_two (Bin ops.And) a b) ≡ (is_met_by i a && is_met_by i b)
met-and n a b i h k = ap is_yes (value-folded_two (Bin ops.And) a b i (h.term.tree, k.term.tree, h.has_width ∙ sym k.has_width)) ∙ and-bits (value_of a i) (value_of b i) (bit-small n a i h) (bit-small n b i k)

-- ---- what nodes calculate

value-if : (i : List ℕ) (test : Bool) (t u : Tree) → test ≡ true → value_of (cond test t u) i ≡ value_of t i
value-if i test t u e = ap (λ b. value_of (cond b t u) i) e

pub value-calculated : (n : ℕ) (o : BinOp) (a b : Tree) (i : List ℕ) → IsTerm n a → IsTerm n b → width_of a ≡ width_of b → value_of (calculated o a b) i ≡ applied o (value_of a i) (value_of b i)
value-calculated n o a b i h k e = value-if i (width_of a == width_of b) (folded_two (Bin o) a b) a (eq-eqb _ _ e) ∙ value-folded_two (Bin o) a b i (h.tree, k.tree, e)

pub value-compared : (n w : ℕ) (pr : Pred) (a b : Tree) (i : List ℕ) → IsTermOf n w a → IsTermOf n w b → value_of (compared pr a b) i ≡ truth (holds pr (value_of a i) (value_of b i))
value-compared n w pr a b i h k = by-pred pr
  where
    alike : width_of a ≡ width_of b
    alike = h.has_width ∙ sym k.has_width

    alike-back : width_of b ≡ width_of a
    alike-back = k.has_width ∙ sym h.has_width

    by-pred : (pr : Pred) → value_of (compared pr a b) i ≡ truth (holds pr (value_of a i) (value_of b i))
    by-pred pred.Eq = value-folded_two Eq a b i (h.term.tree, k.term.tree, alike)
    by-pred pred.Ne = value-not n (equal a b) i _ (equal-fits n w a b h k) (value-folded_two Eq a b i (h.term.tree, k.term.tree, alike))
    by-pred pred.Ugt = value-folded_two Ult b a i (k.term.tree, h.term.tree, alike-back)
    by-pred pred.Uge = value-not n (folded_two Ult a b) i _ (below-fits n w a b h k) (value-folded_two Ult a b i (h.term.tree, k.term.tree, alike))
    by-pred pred.Ult = value-folded_two Ult a b i (h.term.tree, k.term.tree, alike)
    by-pred pred.Ule = value-not n (folded_two Ult b a) i _ (below-fits n w b a k h) (value-folded_two Ult b a i (k.term.tree, h.term.tree, alike-back))
    by-pred pred.Sgt = value-folded_two Slt b a i (k.term.tree, h.term.tree, alike-back)
    by-pred pred.Sge = value-not n (folded_two Slt a b) i _ (slt-fits n w a b h k) (value-folded_two Slt a b i (h.term.tree, k.term.tree, alike))
    by-pred pred.Slt = value-folded_two Slt a b i (h.term.tree, k.term.tree, alike)
    by-pred pred.Sle = value-not n (folded_two Slt b a) i _ (slt-fits n w b a k h) (value-folded_two Slt b a i (k.term.tree, h.term.tree, alike-back))

pub value-compared_terms : (n : ℕ) (pr : Pred) (a b : Tree) (i : List ℕ) → IsTerm n a → IsTerm n b → width_of a ≡ width_of b → value_of (compared_terms pr a b) i ≡ truth (holds pr (value_of a i) (value_of b i))
value-compared_terms n pr a b i h k e =
    value-if i (width_of a == width_of b) (compared pr a b) (number 1 0) (eq-eqb _ _ e) ∙ value-compared n (width_of b) pr a b i (exact n (width_of b) a h e) (exact n (width_of b) b k refl)

value-alike : (n : ℕ) (a b : Pointer) (i : List ℕ) → IsTermOf n 64 a.offset → IsTermOf n 64 b.offset → value_of (alike_pointers a b) i ≡ truth (registers.same_address (address_under i a) (address_under i b))
value-alike n a b i h k = by-test (same_base a.base b.base) ∙ ap (λ t. truth (t && (bits_under i a.offset == bits_under i b.offset))) (base_same a.base b.base)
  where
    by-test : (test : Bool) → value_of (cond test (equal a.offset b.offset) (number 1 0)) i ≡ truth (test && (bits_under i a.offset == bits_under i b.offset))
    by-test true = value-folded_two Eq a.offset b.offset i (h.term.tree, k.term.tree, h.has_width ∙ sym k.has_width)
    by-test false = refl

value-compared_pointers : (n : ℕ) (pr : Pred) (a b : Pointer) (i : List ℕ) → IsTermOf n 64 a.offset → IsTermOf n 64 b.offset → value_of (compared_pointers pr a b) i ≡ truth (pointers_related pr (address_under i a) (address_under i b))
value-compared_pointers n pred.Eq a b i h k = value-alike n a b i h k
value-compared_pointers n pred.Ne a b i h k = value-not n (alike_pointers a b) i _ (alike_pointers-fits n a b h k) (value-alike n a b i h k)
value-compared_pointers n pred.Ugt a b i h k = value-not n (alike_pointers a b) i _ (alike_pointers-fits n a b h k) (value-alike n a b i h k)
value-compared_pointers n pred.Uge a b i h k = value-not n (alike_pointers a b) i _ (alike_pointers-fits n a b h k) (value-alike n a b i h k)
value-compared_pointers n pred.Ult a b i h k = value-not n (alike_pointers a b) i _ (alike_pointers-fits n a b h k) (value-alike n a b i h k)
value-compared_pointers n pred.Ule a b i h k = value-not n (alike_pointers a b) i _ (alike_pointers-fits n a b h k) (value-alike n a b i h k)
value-compared_pointers n pred.Sgt a b i h k = value-not n (alike_pointers a b) i _ (alike_pointers-fits n a b h k) (value-alike n a b i h k)
value-compared_pointers n pred.Sge a b i h k = value-not n (alike_pointers a b) i _ (alike_pointers-fits n a b h k) (value-alike n a b i h k)
value-compared_pointers n pred.Slt a b i h k = value-not n (alike_pointers a b) i _ (alike_pointers-fits n a b h k) (value-alike n a b i h k)
value-compared_pointers n pred.Sle a b i h k = value-not n (alike_pointers a b) i _ (alike_pointers-fits n a b h k) (value-alike n a b i h k)

-- two values of one type
pub same-widths : (t : RegType) (i : List ℕ) (a b : Tree) → IsTree a → IsTree b → HasType t (concrete.Int (value_of a i)) → HasType t (concrete.Int (value_of b i)) → width_of a ≡ width_of b
same-widths (type.Int w) i a b h k p q = sym (width-value_of a i h) ∙ p ∙ sym q ∙ width-value_of b i k
same-widths type.Ptr i a b h k p q = absurd p

pub apart : (t : RegType) (i : List ℕ) (a : Tree) (p : Pointer) → HasType t (concrete.Int (value_of a i)) → HasType t (concrete.Ptr (address_under i p)) → ⊥
apart (type.Int w) i a p h k = k
apart type.Ptr i a p h k = h

pub value-compared_values : (n : ℕ) (pr : Pred) (v w : SymValue) (t : RegType) (i : List ℕ) → ValueFits n v → ValueFits n w → IsFirm v → IsFirm w → HasType t (value_under i [] v) → HasType t (value_under i [] w)
    → bit (related pr (value_under i [] v) (value_under i [] w)) ≡ concrete.Int (value_of (compared_values pr v w) i)
value-compared_values n pr (Int a) (Int b) t i h k f g p q = ap concrete.Int (sym (value-compared_terms n pr a b i h k (same-widths t i a b h.tree k.tree p q)))
value-compared_values n pr (Int a) (Ptr b) t i h k f g p q = absurd (apart t i a b p q)
value-compared_values n pr (Ptr a) (Int b) t i h k f g p q = absurd (apart t i b a q p)
value-compared_values n pr (Ptr a) (Ptr b) t i h k f g p q = ap concrete.Int (sym (value-compared_pointers n pr a b i h k))
value-compared_values n pr (Pending c u) w t i h k f g p q = absurd f
value-compared_values n pr (Int a) (Pending c u) t i h k f g p q = absurd g
value-compared_values n pr (Ptr a) (Pending c u) t i h k f g p q = absurd g

pub both-true : (p q : Bool) → p ≡ true → q ≡ true → (p && q) ≡ true
both-true p q h k = rw (h, k) refl

pub value-cast : (n : ℕ) (o : CastOp) (width : ℕ) (a : Tree) (i : List ℕ) → IsTerm n a → (1 ≤ width) × (width ≤ 64) → resizes o (width_of a) width ≡ true → value_of (cast_to o width a) i ≡ steps.cast_to o width (value_of a i)
value-cast n to.Trunc width a i h w e =
    let narrow : width < width_of a = leb-true (suc width) (width_of a) e in
    value-if i (nat_le 1 width && nat_lt width (width_of a)) (folded_one (Trunc width) a) a (both-true (nat_le 1 width) (nat_lt width (width_of a)) (le-leb 1 width w.0) e)
    ∙ value-folded_one (Trunc width) a i (h.tree, (record { least = w.0; most = w.1 }, narrow))
value-cast n to.Zext width a i h w e =
    let wider : width_of a < width = leb-true (suc (width_of a)) width e in
    value-if i (nat_lt (width_of a) width && nat_le width 64) (folded_one (Zext width) a) a (both-true (nat_lt (width_of a) width) (nat_le width 64) e (le-leb width 64 w.1))
    ∙ value-folded_one (Zext width) a i (h.tree, (record { least = w.0; most = w.1 }, wider))
value-cast n to.Sext width a i h w e =
    let wider : width_of a < width = leb-true (suc (width_of a)) width e in
    value-if i (nat_lt (width_of a) width && nat_le width 64) (folded_one (Sext width) a) a (both-true (nat_lt (width_of a) width) (nat_le width 64) e (le-leb width 64 w.1))
    ∙ value-folded_one (Sext width) a i (h.tree, (record { least = w.0; most = w.1 }, wider))

pub value-chosen : (n : ℕ) (c a b : Tree) (i : List ℕ) → width_of c ≡ 1 → width_of a ≡ width_of b → value_of (chosen c a b) i ≡ cond ((value_of c i).bits == 1) (value_of a i) (value_of b i)
value-chosen n c a b i one e =
    value-if i ((width_of c == 1) && (width_of a == width_of b)) (folded_choice c a b) a (both-true (width_of c == 1) (width_of a == width_of b) (eq-eqb _ _ one) (eq-eqb _ _ e)) ∙ value-folded_choice c a b i

-- ---- the tests of divisions

constant-fits : (n w bits : ℕ) (t : Tree) → IsTermOf n w t → bits < 2 ^ w → IsTermOf n w (number w bits)
constant-fits n w bits t h f = number-fits n w bits (subst IsWidth h.has_width (tree-width t h.term.tree)) f

value-equal : (n w bits : ℕ) (t : Tree) (i : List ℕ) → IsTermOf n w t → bits < 2 ^ w → value_of (equal t (number w bits)) i ≡ truth ((value_of t i).bits == bits)
value-equal n w bits t i h f = value-folded_two Eq t (number w bits) i (h.term.tree, (constant-fits n w bits t h f).term.tree, h.has_width)

pub met-equal : (n w bits : ℕ) (t : Tree) (i : List ℕ) → IsTermOf n w t → bits < 2 ^ w → is_met_by i (equal t (number w bits)) ≡ ((value_of t i).bits == bits)
met-equal n w bits t i h f = ap is_yes (value-equal n w bits t i h f) ∙ yes_truth ((value_of t i).bits == bits)

pub met-nonzero : (n : ℕ) (b : Tree) (i : List ℕ) → IsTerm n b → is_met_by i (is_nonzero b) ≡ not ((value_of b i).bits == 0)
met-nonzero n b i h =
    let whole = exact n (width_of b) b h refl in
    let positive : 0 < 2 ^ width_of b = pow_pos (width_of b) in
    met-negation n (equal b (number (width_of b) 0)) i (equal-fits n (width_of b) b (number (width_of b) 0) whole (constant-fits n (width_of b) 0 b whole positive))
    ∙ ap not (met-equal n (width_of b) 0 b i whole positive)

half : (w : ℕ) → 1 ≤ w → 2 ^ (w - 1) < 2 ^ w
half w least = pow-lt (omega (arith, least))

pub met-quotient : (n : ℕ) (a b : Tree) (i : List ℕ) → IsTerm n a → IsTerm n b
    → is_met_by i (has_quotient a b) ≡ not (((value_of a i).bits == 2 ^ ((value_of a i).width - 1)) && ((value_of b i).bits == 2 ^ (value_of b i).width - 1))
met-quotient n a b i h k =
    let p = is_least-fits n a h in
    let q = is_ones-fits n b k in
    let same : width_of (is_least a) ≡ width_of (is_ones b) = p.has_width ∙ sym q.has_width in
    let wide-a = sym (width-value_of a i h.tree) in
    let wide-b = sym (width-value_of b i k.tree) in
    let both-fit : IsTermOf n 1 (folded_two (Bin ops.And) (is_least a) (is_ones b)) = exact n 1 (folded_two (Bin ops.And) (is_least a) (is_ones b)) (two-fits n (Bin ops.And) (is_least a) (is_ones b) p.term q.term same).term ((two-fits n (Bin ops.And) (is_least a) (is_ones b) p.term q.term same).has_width ∙ p.has_width) in
    met-negation n (folded_two (Bin ops.And) (is_least a) (is_ones b)) i both-fit
    ∙ ap not (met-and n (is_least a) (is_ones b) i p q
    ∙ (λ j. met-equal n (width_of a) (2 ^ (width_of a - 1)) a i (exact n (width_of a) a h refl) (half (width_of a) (tree-width a h.tree).least) j && met-equal n (width_of b) (2 ^ width_of b - 1) b i (exact n (width_of b) b k refl) (ones_lt (width_of b)) j))
    ∙ (λ j. not (((value_of a i).bits == 2 ^ (wide-a j - 1)) && ((value_of b i).bits == 2 ^ wide-b j - 1)))

-- ---- sizes, bytes and offsets

pub met-small : (n : ℕ) (size : Tree) (i : List ℕ) → IsTermOf n 64 size → is_met_by i (is_small size) ≡ not (nat_lt 65536 (value_of size i).bits)
met-small n size i h =
    let most : IsTermOf n 64 (wide 65536) = wide-fits n 65536 (lit≤ tt) in
    met-negation n (folded_two Ult (wide 65536) size) i (below-fits n 64 (wide 65536) size most h)
    ∙ ap not (ap is_yes (value-folded_two Ult (wide 65536) size i (most.term.tree, h.term.tree, sym h.has_width)) ∙ yes_truth (nat_lt 65536 (value_of size i).bits))

-- a size that has 64 bits stands as it is
pub size-is : (t : Tree) → width_of t ≡ 64 → size_in t ≡ t
size-is t e = ap (λ b. cond b t (wide 0)) (eq-eqb _ _ e)

pub truth-is : (t : Tree) → width_of t ≡ 1 → truth_of t ≡ t
truth-is t e = ap (λ b. cond b t (number 1 0)) (eq-eqb _ _ e)

bits-if : (test : Bool) (t u : Tree) (i : List ℕ) (b : ℕ) → (test ≡ true → (value_of t i).bits ≡ b) → (test ≡ false → (value_of u i).bits ≡ b) → (value_of (cond test t u) i).bits ≡ b
bits-if true t u i b h k = h refl
bits-if false t u i b h k = k refl

byte_width : IsWidth 8
byte_width = record { least = lit≤ tt; most = lit≤ tt }

small : (n : ℕ) (t : Tree) (i : List ℕ) → IsTerm n t → width_of t ≤ 8 → (value_of t i).bits < 2 ^ 8
small n t i h most =
    let fits : (value_of t i).bits < 2 ^ width_of t = subst (λ w. (value_of t i).bits < 2 ^ w) (width-value_of t i h.tree) (value_is t i h.tree).fits in
    let wider : 2 ^ width_of t ≤ 2 ^ 8 = pow_wider (width_of t) 8 most in
    omega (arith, fits, wider)

-- the low byte has the lowest bits
pub bits-low_byte : (n : ℕ) (t : Tree) (i : List ℕ) → IsTerm n t → (value_of (low_byte t) i).bits ≡ (value_of t i).bits % 256
bits-low_byte n t i h = bits-if (width_of t == 8) t _ i _
    (λ e. sym (mod-eq_of_lt (small n t i h (omega (arith, eqb-true (width_of t) 8 e)))))
    (λ other. bits-if (nat_lt 8 (width_of t)) (folded_one (Trunc 8) t) (folded_one (Zext 8) t) i _
    (λ e. ap (λ m. m.bits) (value-folded_one (Trunc 8) t i (h.tree, (byte_width, leb-true 9 (width_of t) e))))
    (λ e. let narrow : width_of t < 8 = omega (arith, leb-false 9 (width_of t) e, eqb-false (width_of t) 8 other) in
    ap (λ m. m.bits) (value-folded_one (Zext 8) t i (h.tree, (byte_width, narrow))) ∙ sym (mod-eq_of_lt (small n t i h (omega (arith, narrow))))))

-- sums of 64 bits
bits-add : (n : ℕ) (a b : Tree) (i : List ℕ) → IsTermOf n 64 a → IsTermOf n 64 b → bits_under i (folded_two (Bin ops.Add) a b) ≡ (bits_under i a + bits_under i b) % 2 ^ 64
bits-add n a b i h k =
    ap (λ m. m.bits) (value-folded_two (Bin ops.Add) a b i (h.term.tree, k.term.tree, h.has_width ∙ sym k.has_width))
    ∙ ap (λ w. (bits_under i a + bits_under i b) % 2 ^ w) (width-value_of a i h.term.tree ∙ h.has_width)

pub bits-behind : (n : ℕ) (offset : Tree) (j : ℕ) (i : List ℕ) → IsTermOf n 64 offset → j < 2 ^ 64 → bits_under i (behind offset j) ≡ (bits_under i offset + j) % 2 ^ 64
bits-behind n offset j i h f = bits-add n offset (wide j) i h (wide-fits n j f)

mod-inner : (a y k : ℕ) → (a + y % k) % k ≡ (a + y) % k
mod-inner a y k = sym (add-mul-mod_self_right (a + y % k) (y / k) k) ∙ ap (λ n. n % k) (grouped a (y % k) (y / k * k)) ∙ ap (λ n. (a + n) % k) (mod-add-div' y k)
  where
    grouped : (a b c : ℕ) → (a + b) + c ≡ a + (b + c)
    grouped a b c = omega arith

-- an index in 64 bits
bits-in_64 : (n : ℕ) (t : Tree) (i : List ℕ) → IsTerm n t → bits_under i (in_64_bits t) ≡ (sign_widened (value_of t i) 64).bits
bits-in_64 n t i h = bits-if (width_of t == 64) t (folded_one (Sext 64) t) i _ (λ e. as-it-is (eqb-true (width_of t) 64 e)) (λ e.
    let most : width_of t ≤ 64 = (tree-width t h.tree).most in
    let narrow : width_of t < 64 = omega (arith, most, eqb-false (width_of t) 64 e) in
    ap (λ m. m.bits) (value-folded_one (Sext 64) t i (h.tree, (record { least = lit≤ tt; most = lit≤ tt }, narrow))))
  where
    unchanged : (b : Bool) (a : ℕ) → a ≡ cond b (a + (2 ^ 64 - 2 ^ 64)) a
    unchanged true a = omega arith
    unchanged false a = refl

    as-it-is : width_of t ≡ 64 → (value_of t i).bits ≡ (sign_widened (value_of t i) 64).bits
    as-it-is e = unchanged (is_negative 64 (value_of t i).bits) (value_of t i).bits ∙ ap (λ w. sign_extended w 64 (value_of t i).bits) (sym (width-value_of t i h.tree ∙ e))

pub bits-moved_by_index : (n : ℕ) (offset : Tree) (scale : ℕ) (index : Tree) (i : List ℕ) → IsTermOf n 64 offset → scale < 2 ^ 64 → IsTerm n index
    → bits_under i (moved_by_index offset scale index) ≡ (bits_under i offset + scale * (sign_widened (value_of index i) 64).bits) % 2 ^ 64
bits-moved_by_index n offset scale index i h f k =
    let wide-scale : IsTermOf n 64 (wide scale) = wide-fits n scale f in
    let wide-index : IsTermOf n 64 (in_64_bits index) = in_64_bits-fits n index k in
    let product : IsTermOf n 64 (folded_two (Bin ops.Mul) (wide scale) (in_64_bits index)) = calculated-fits n 64 ops.Mul (wide scale) (in_64_bits index) wide-scale wide-index in
    bits-add n offset (folded_two (Bin ops.Mul) (wide scale) (in_64_bits index)) i h product
    ∙ ap (λ b. (bits_under i offset + b) % 2 ^ 64) (ap (λ m. m.bits) (value-folded_two (Bin ops.Mul) (wide scale) (in_64_bits index) i (wide-scale.term.tree, wide-index.term.tree, sym wide-index.has_width)) ∙ ap (λ b. (scale * b) % 2 ^ 64) (bits-in_64 n index i k))
    ∙ mod-inner (bits_under i offset) (scale * (sign_widened (value_of index i) 64).bits) (2 ^ 64)
