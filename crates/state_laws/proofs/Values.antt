-- Values, operands and bytes fit.
use Rattle.std.proofs.Common.{◌≡◌, ℕ, zero, suc, Bool, true, false, ◌&&◌, ◌==◌, ◌+◌, ◌*◌, ◌/◌, ◌%◌, ◌<◌, ◌≤◌, List, [], ◌∷◌, length, map, Option, Some, None, refl, sym, ap, ◌∙◌, subst, arith, lit≤}
use Rattle.std.specs.Prelude.{cond, slice_get, nat_lt, is_some}
use Rattle.std.specs.List.{list_all}
use Rattle.std.proofs.lemmas.Bool.{eqb-true, leb-true}
use Rattle.bitnum.specs.declared.Pred.{Pred}
use Rattle.bitnum.specs.declared.BinOp.TheVariants as op
use Rattle.flat_ir.specs.declared.nodes.Operand.{Operand}
use Rattle.flat_ir.specs.declared.nodes.Operand.TheVariants as operand
use Rattle.flat_ir.specs.declared.nodes.RegType.{RegType}
use Rattle.flat_ir.specs.declared.nodes.RegType.TheVariants as type
use Rattle.flat_ir.specs.Registers.{bytes_of_type, first_of}
use Rattle.terms.specs.declared.term.Unary.TheVariants.{Byte}
use Rattle.terms.specs.declared.term.Binary.TheVariants.{Bin}
use Rattle.terms.specs.Folding.{constant_of, folded_two}
use Rattle.terms.specs.Joining.{spine, AreBytes, ReadBelow, is_whole, inside_byte, fold_whole, folded_join}
use Rattle.terms.specs.Tree.{Tree, constant, one, IsTree, width_of}
use Rattle.terms.specs.Value.{value_of}
use Rattle.terms.proofs.Bytes.{width-spine, width-folded_join, reads-folded_join}
use Rattle.terms.proofs.Folds.{both}
use Rattle.terms.proofs.Kept.{cond_has}
use Rattle.terms.proofs.Numbers.{value_is}
use Rattle.sym_bytes.specs.declared.names.Base.{Base}
use Rattle.sym_bytes.specs.declared.names.CallId.{CallId}
use Rattle.sym_bytes.specs.Answers as answers
use Rattle.sym_bytes.specs.Building.{number, wide, equal, null, same_call, same_base}
use Rattle.sym_bytes.specs.Byte as byte
use Rattle.sym_bytes.specs.Byte.{SymByte}
use Rattle.sym_bytes.specs.Cutting.{byte_of, cut_value}
use Rattle.sym_bytes.specs.Joining.{put_before, int_of, ints_of, offset_of, offsets_of, mixed_or, pending_call, calls_in, join_pending, join_integer, join_null, null_if_zero, all_equal, alike, join_offsets, join_pointer, join_bytes}
use Rattle.sym_bytes.specs.Pointers.{Pointer}
use Rattle.sym_bytes.specs.Value.{SymValue, Int, Ptr, Pending}
use Rattle.leaves.specs.Fitting.{IsTerm, IsTermOf, AreTermsOf, ValueFits, ValueFitsIf, ByteFits, BytesFit}
use Rattle.sym_states.specs.Fitting.{RegsFit, SnapshotFits, SnapshotsFit}
use Rattle.skip_records.specs.Snapshots.{Snapshot}
use Rattle.sym_states.specs.Terms.{bytes_of_value, is_of_bytes, part_of, instead, with_result, resolved, byte_resolved, set_or_null, raw_in, term_in, pointer_in, compared_values, status_of, stored_bytes, joined_as}
use Rattle.sym_states.proofs.Widths as widths
use Rattle.sym_states.proofs.Widths.{equal-fits, byte-fits, wide-fits, behind-fits}
use Rattle.state_laws.specs.Kept.{IsShortType, OperandFits, IsShort, IsShortIf, RegsAreShort, IsShortSnapshot, AreShortSnapshots, ValueFitsAt, JoinFits}
use Rattle.state_laws.proofs.Terms.{tree-width, one-fits, bit-fits, zero-fits, compared_terms-fits, compared_pointers-fits, low_byte-fits}

-- ---- values

pub null-fits : (n : ℕ) → ValueFitsAt n null
null-fits n = record { fits = zero-fits n; short = tt }

pub term_in-fits : (n : ℕ) (v : SymValue) → ValueFits n v → IsTerm n (term_in v)
term_in-fits n (Int t) h = h
term_in-fits n (Ptr p) h = (zero-fits n).term
term_in-fits n (Pending c t) h = (zero-fits n).term

pub pointer_in-fits : (n : ℕ) (v : SymValue) → ValueFits n v → IsTermOf n 64 (pointer_in v).offset
pointer_in-fits n (Int t) h = zero-fits n
pointer_in-fits n (Ptr p) h = h
pointer_in-fits n (Pending c t) h = zero-fits n

pub eighth : (w : ℕ) → w ≤ 64 → w / 8 ≤ 8
eighth w h = omega (arith, h)

-- a value has at most 8 bytes
pub bytes_of_value-few : (n : ℕ) (v : SymValue) → ValueFitsAt n v → bytes_of_value v ≤ 8
bytes_of_value-few n (Int t) h = eighth (width_of t) (tree-width t h.fits.tree).most
bytes_of_value-few n (Ptr p) h = lit≤ tt
bytes_of_value-few n (Pending c t) h = h.short

whole-width : (w : ℕ) → w ≡ 8 * (w / 8) → w % 8 ≡ 0
whole-width w e = omega (arith, e)

byte-room : (w j : ℕ) → w ≡ 8 * (w / 8) → j < w / 8 → 8 * j + 8 ≤ w
byte-room w j e h = omega (arith, e, h)

-- byte j of a value that is made of bytes
pub byte_of-fits : (n : ℕ) (v : SymValue) (j : ℕ) → ValueFits n v → is_of_bytes v ≡ true → j < bytes_of_value v → ByteFits n (byte_of v j)
byte_of-fits n (Int t) j h e small =
    let whole : width_of t ≡ 8 * (width_of t / 8) = eqb-true _ _ e in
    one-fits n (Byte j) t h (whole-width (width_of t) whole, byte-room (width_of t) j whole small)
byte_of-fits n (Ptr p) j h e small = h
byte_of-fits n (Pending c t) j h e small = tt

byte-if : (n : ℕ) (test : Bool) (b c : SymByte) → (test ≡ true → ByteFits n b) → ByteFits n c → ByteFits n (cond test b c)
byte-if n true b c h k = h refl
byte-if n false b c h k = k

pub part_of-fits : (n : ℕ) (v : SymValue) (j : ℕ) → ValueFits n v → ByteFits n (part_of v j)
part_of-fits n v j h = byte-if n (is_of_bytes v && nat_lt j (bytes_of_value v)) (byte_of v j) (byte.Int (number 8 0))
    (λ e. let parts = both (is_of_bytes v) (nat_lt j (bytes_of_value v)) e in byte_of-fits n v j h parts.0 (leb-true (suc j) (bytes_of_value v) parts.1))
    (byte-fits n 0 (lit≤ tt))

-- ---- recovered results

value-if : (n : ℕ) (test : Bool) (v w : SymValue) → ValueFits n v → ValueFits n w → ValueFits n (cond test v w)
value-if n true v w h k = h
value-if n false v w h k = k

short-if : (test : Bool) (v w : SymValue) → IsShort v → IsShort w → IsShort (cond test v w)
short-if true v w h k = h
short-if false v w h k = k

pub instead-fits : (n : ℕ) (o : Option SymValue) (v : SymValue) → ValueFitsIf n o → ValueFits n v → ValueFits n (instead o v)
instead-fits n None v h k = k
instead-fits n (Some w) v h k = h

pub instead-short : (o : Option SymValue) (v : SymValue) → IsShortIf o → IsShort v → IsShort (instead o v)
instead-short None v h k = k
instead-short (Some w) v h k = h

pub with_result-fits : (n : ℕ) (s : Snapshot) (v : SymValue) → SnapshotFits n s → ValueFits n v → ValueFits n (with_result s v)
with_result-fits n s (Int t) h k = k
with_result-fits n s (Ptr p) h k = k
with_result-fits n s (Pending c t) h k = value-if n (same_call s.call c) (instead s.result (Pending c t)) (Pending c t) (instead-fits n s.result (Pending c t) h.result tt) tt

pub with_result-short : (s : Snapshot) (v : SymValue) → IsShortSnapshot s → IsShort v → IsShort (with_result s v)
with_result-short s (Int t) h k = tt
with_result-short s (Ptr p) h k = tt
with_result-short s (Pending c t) h k = short-if (same_call s.call c) (instead s.result (Pending c t)) (Pending c t) (instead-short s.result (Pending c t) h.result k) k

pub resolved-fits : (n : ℕ) (shots : List Snapshot) (v : SymValue) → SnapshotsFit n shots → ValueFits n v → ValueFits n (resolved shots v)
resolved-fits n [] v h k = k
resolved-fits n (s ∷ shots) v h k = with_result-fits n s (resolved shots v) h.0 (resolved-fits n shots v h.1 k)

pub resolved-short : (shots : List Snapshot) (v : SymValue) → AreShortSnapshots shots → IsShort v → IsShort (resolved shots v)
resolved-short [] v h k = k
resolved-short (s ∷ shots) v h k = with_result-short s (resolved shots v) h.0 (resolved-short shots v h.1 k)

pub byte_resolved-fits : (n : ℕ) (shots : List Snapshot) (b : SymByte) → SnapshotsFit n shots → ByteFits n b → ByteFits n (byte_resolved shots b)
byte_resolved-fits n shots (byte.Int t) h k = k
byte_resolved-fits n shots (byte.PtrByte p j) h k = k
byte_resolved-fits n shots (byte.PendingByte c t j) h k = part_of-fits n (resolved shots (Pending c t)) j (resolved-fits n shots (Pending c t) h tt)

pub bytes_resolved-fit : (n : ℕ) (shots : List Snapshot) (bs : List SymByte) → SnapshotsFit n shots → BytesFit n bs → BytesFit n (map (byte_resolved shots) bs)
bytes_resolved-fit n shots [] h k = tt
bytes_resolved-fit n shots (b ∷ bs) h k = (byte_resolved-fits n shots b h k.0, bytes_resolved-fit n shots bs h k.1)

-- ---- operands

pub set_or_null-fits : (n : ℕ) (regs : List (Option SymValue)) (r : ℕ) → RegsFit n regs → ValueFits n (set_or_null (slice_get regs r))
set_or_null-fits n [] r h = (null-fits n).fits
set_or_null-fits n (Some v ∷ regs) zero h = h.0
set_or_null-fits n (None ∷ regs) zero h = (null-fits n).fits
set_or_null-fits n (v ∷ regs) (suc r) h = set_or_null-fits n regs r h.1

pub set_or_null-short : (regs : List (Option SymValue)) (r : ℕ) → RegsAreShort regs → IsShort (set_or_null (slice_get regs r))
set_or_null-short [] r h = tt
set_or_null-short (Some v ∷ regs) zero h = h.0
set_or_null-short (None ∷ regs) zero h = tt
set_or_null-short (v ∷ regs) (suc r) h = set_or_null-short regs r h.1

pub raw_in-fits : (n : ℕ) (regs : List (Option SymValue)) (a : Operand) → RegsFit n regs → OperandFits a → ValueFits n (raw_in regs a)
raw_in-fits n regs (operand.Reg r) h k = set_or_null-fits n regs r.0 h
raw_in-fits n regs (operand.Int m) h k = record { tree = k; reads = tt }
raw_in-fits n regs operand.Null h k = (null-fits n).fits
raw_in-fits n regs (operand.Global g offset) h k = wide-fits n offset k

pub raw_in-short : (regs : List (Option SymValue)) (a : Operand) → RegsAreShort regs → IsShort (raw_in regs a)
raw_in-short regs (operand.Reg r) h = set_or_null-short regs r.0 h
raw_in-short regs (operand.Int m) h = tt
raw_in-short regs operand.Null h = tt
raw_in-short regs (operand.Global g offset) h = tt

-- ---- values that are compared

pub compared_values-fits : (n : ℕ) (p : Pred) (v w : SymValue) → ValueFits n v → ValueFits n w → IsTermOf n 1 (compared_values p v w)
compared_values-fits n p (Ptr a) (Ptr b) h k = compared_pointers-fits n p a b h k
compared_values-fits n p (Int a) w h k = compared_terms-fits n p a (term_in w) h (term_in-fits n w k)
compared_values-fits n p (Ptr a) (Int b) h k = compared_terms-fits n p (wide 0) b (zero-fits n).term k
compared_values-fits n p (Ptr a) (Pending c t) h k = compared_terms-fits n p (wide 0) (wide 0) (zero-fits n).term (zero-fits n).term
compared_values-fits n p (Pending c t) w h k = compared_terms-fits n p (wide 0) (term_in w) (zero-fits n).term (term_in-fits n w k)

pub status_of-fits : (n : ℕ) (v : Option SymValue) → ValueFitsIf n v → IsTermOf n 8 (status_of v)
status_of-fits n None h = byte-fits n 0 (lit≤ tt)
status_of-fits n (Some v) h = low_byte-fits n (term_in v) (term_in-fits n v h)

-- ---- bytes that are stored

first-length : {A : Type 0} (count k : ℕ) (f : ℕ → A) → length (first_of count k f) ≡ count
first-length zero k f = refl
first-length (suc count) k f = ap suc (first-length count (k + 1) f)

pub cut-fit : (n : ℕ) (v : SymValue) (count k : ℕ) → ValueFits n v → is_of_bytes v ≡ true → k + count ≤ bytes_of_value v → BytesFit n (first_of count k (byte_of v))
cut-fit n v zero k h e few = tt
cut-fit n v (suc count) k h e few =
    let small : k < bytes_of_value v = omega (arith, few) in
    let more : (k + 1) + count ≤ bytes_of_value v = omega (arith, few) in
    (byte_of-fits n v k h e small, cut-fit n v count (k + 1) h e more)

-- bytes that a write may have
pub record StoredFit (n : ℕ) (bs : List SymByte) : Type 0 where
  pub few : length bs ≤ 8
  pub bytes : BytesFit n bs

stored-if : (n : ℕ) (test : Bool) (bs : List SymByte) → (test ≡ true → StoredFit n bs) → StoredFit n (cond test bs [])
stored-if n true bs h = h refl
stored-if n false bs h = record { few = lit≤ tt; bytes = tt }

pub stored_bytes-fits : (n : ℕ) (v : SymValue) → ValueFitsAt n v → StoredFit n (stored_bytes v)
stored_bytes-fits n v h = stored-if n (is_of_bytes v) (cut_value v (bytes_of_value v)) (λ e. record {
  few = subst (λ m. m ≤ 8) (sym (first-length (bytes_of_value v) 0 (byte_of v))) (bytes_of_value-few n v h);
  bytes = cut-fit n v (bytes_of_value v) 0 h.fits e (omega arith);
})

-- ---- bytes that are loaded

abbrev pub IntFits : ℕ → Option Tree → Type 0
IntFits n None = Unit {0}
IntFits n (Some t) = IsTermOf n 8 t

pub int_of-fits : (n : ℕ) (b : SymByte) → ByteFits n b → IntFits n (int_of b)
int_of-fits n (byte.Int t) h = h
int_of-fits n (byte.PtrByte p j) h = tt
int_of-fits n (byte.PendingByte c t j) h = tt

-- the terms are there, so many of them
abbrev pub TermsFitIf : ℕ → ℕ → ℕ → Option (List Tree) → Type 0
TermsFitIf n width count None = Unit {0}
TermsFitIf n width count (Some ts) = AreTermsOf n width ts × (length ts ≡ count)

pub put-fit : (n count : ℕ) (o : Option Tree) (ts : Option (List Tree)) → IntFits n o → TermsFitIf n 8 count ts → TermsFitIf n 8 (suc count) (put_before o ts)
put-fit n count None ts h k = tt
put-fit n count (Some t) None h k = tt
put-fit n count (Some t) (Some ts) h k = ((h, k.0), ap suc k.1)

pub ints-fit : (n : ℕ) (bs : List SymByte) → BytesFit n bs → TermsFitIf n 8 (length bs) (ints_of bs)
ints-fit n [] h = (tt, refl)
ints-fit n (b ∷ bs) h = put-fit n (length bs) (int_of b) (ints_of bs) (int_of-fits n b h.0) (ints-fit n bs h.1)

widths-of : (n : ℕ) (ts : List Tree) → AreTermsOf n 8 ts → AreBytes ts
widths-of n [] h = tt
widths-of n (t ∷ ts) h = (h.0.has_width, widths-of n ts h.1)

reads-of : (n w : ℕ) (ts : List Tree) → AreTermsOf n w ts → ReadBelow n ts
reads-of n w [] h = tt
reads-of n w (t ∷ ts) h = (h.0.term.reads, reads-of n w ts h.1)

eights : (k : ℕ) → 8 * k % 8 ≡ 0
eights k = omega arith

tree-spine : (n : ℕ) (t : Tree) (ts : List Tree) → AreTermsOf n 8 (t ∷ ts) → length (t ∷ ts) ≤ 8 → IsTree (spine (t ∷ ts))
tree-spine n t [] h few = h.0.term.tree
tree-spine n t (u ∷ ts) h few =
    let fewer : length (u ∷ ts) ≤ 8 = omega (arith, few) in
    let width : width_of (spine (u ∷ ts)) ≡ 8 * length (u ∷ ts) = width-spine u ts (widths-of n (u ∷ ts) h.1) in
    let eight : width_of t ≡ 8 = h.0.has_width in
    (h.0.term.tree, tree-spine n u ts h.1 fewer, (eight, rw width (eights (length (u ∷ ts))), omega (arith, width, eight, few)))

tree-whole : (t : Tree) (ts : List Tree) → IsTree t → IsTree (spine (t ∷ ts)) → IsTree (fold_whole (inside_byte t) (t ∷ ts))
tree-whole (one (Byte j) whole) ts h k = cond_has IsTree (is_whole whole (one (Byte j) whole ∷ ts)) whole (spine (one (Byte j) whole ∷ ts)) h.0 k
tree-whole t ts h k = k

tree-folded_join : (n : ℕ) (t : Tree) (ts : List Tree) → AreTermsOf n 8 (t ∷ ts) → length (t ∷ ts) ≤ 8 → IsTree (folded_join (t ∷ ts))
unfolding folded_join
tree-folded_join n t ts h few =
    let row = tree-spine n t ts h few in
    cond_has IsTree (list_all (λ u. is_some (constant_of u)) (t ∷ ts)) (constant (value_of (spine (t ∷ ts)) [])) (fold_whole (inside_byte t) (t ∷ ts))
    (value_is (spine (t ∷ ts)) [] row) (tree-whole t ts h.0.term.tree row)

pub folded_join-fits : (n : ℕ) (ts : List Tree) → AreTermsOf n 8 ts → 0 < length ts → length ts ≤ 8 → IsTermOf n (8 * length ts) (folded_join ts)
folded_join-fits n [] h some few = absurd (omega (arith, some))
folded_join-fits n (t ∷ ts) h some few = record {
  term = record { tree = tree-folded_join n t ts h few; reads = reads-folded_join n (t ∷ ts) (reads-of n 8 (t ∷ ts) h) };
  has_width = width-folded_join (t ∷ ts) some (widths-of n (t ∷ ts) h);
}

pub mixed-fits : (n : ℕ) (calls : List CallId) → JoinFits n (mixed_or calls)
mixed-fits n [] = tt
mixed-fits n (c ∷ calls) = tt

pub join_pending-fits : (n : ℕ) (t : RegType) (bs : List SymByte) → IsShortType t → JoinFits n (join_pending t bs)
join_pending-fits n t bs h =
    elim (pending_call t bs) as (λ o. JoinFits n (elim o [ Some c ↦ answers.Value (Pending c t) | None ↦ mixed_or (calls_in bs) ]))
    [ Some c ↦ record { fits = tt; short = h } | None ↦ mixed-fits n (calls_in bs) ]

pub join_integer-fits : (n : ℕ) (t : RegType) (bs : List SymByte) → IsShortType t → 0 < length bs → length bs ≤ 8 → BytesFit n bs → JoinFits n (join_integer t bs)
join_integer-fits n t bs h some few fit =
    elim (ints_of bs) as (λ o. TermsFitIf n 8 (length bs) o → JoinFits n (elim o [ Some terms ↦ answers.Value (Int (folded_join terms)) | None ↦ join_pending t bs ])) [
      | Some ts ↦ (λ k. record { fits = (folded_join-fits n ts k.0 (subst (λ m. 0 < m) (sym k.1) some) (subst (λ m. m ≤ 8) (sym k.1) few)).term; short = tt })
      | None ↦ (λ k. join_pending-fits n t bs h)
    ]
    (ints-fit n bs fit)

pub null_if_zero-fits : (n : ℕ) (ts : List Tree) → AreTermsOf n 8 ts → length ts ≡ 8 → JoinFits n (null_if_zero ts)
null_if_zero-fits n ts h size =
    let some : 0 < length ts = omega (arith, size) in
    let few : length ts ≤ 8 = omega (arith, size) in
    let wide_enough : 8 * length ts ≡ 64 = omega (arith, size) in
    (equal-fits n 64 (folded_join ts) (wide 0) (subst (λ w. IsTermOf n w (folded_join ts)) wide_enough (folded_join-fits n ts h some few)) (zero-fits n), null-fits n)

pub join_null-fits : (n : ℕ) (bs : List SymByte) → length bs ≡ 8 → BytesFit n bs → JoinFits n (join_null bs)
join_null-fits n bs size fit =
    elim (ints_of bs) as (λ o. TermsFitIf n 8 (length bs) o → JoinFits n (elim o [ Some terms ↦ null_if_zero terms | None ↦ join_pending type.Ptr bs ]))
    [ Some ts ↦ (λ k. null_if_zero-fits n ts k.0 (k.1 ∙ size)) | None ↦ (λ k. join_pending-fits n type.Ptr bs (lit≤ tt)) ]
    (ints-fit n bs fit)

-- offsets of 64 bits
abbrev pub OffsetFits : ℕ → Option Tree → Type 0
OffsetFits n None = Unit {0}
OffsetFits n (Some t) = IsTermOf n 64 t

abbrev pub OffsetsFit : ℕ → Option (List Tree) → Type 0
OffsetsFit n None = Unit {0}
OffsetsFit n (Some ts) = AreTermsOf n 64 ts

offset-if : (n : ℕ) (test : Bool) (t : Tree) → IsTermOf n 64 t → OffsetFits n (cond test (Some t) None)
offset-if n true t h = h
offset-if n false t h = tt

pub offset_of-fits : (n : ℕ) (base : Base) (j : ℕ) (b : SymByte) → ByteFits n b → OffsetFits n (offset_of base j b)
offset_of-fits n base j (byte.PtrByte p k) h = offset-if n (same_base base p.base && (k == j)) p.offset h
offset_of-fits n base j (byte.Int t) h = tt
offset_of-fits n base j (byte.PendingByte c t k) h = tt

pub put_offset-fits : (n : ℕ) (o : Option Tree) (ts : Option (List Tree)) → OffsetFits n o → OffsetsFit n ts → OffsetsFit n (put_before o ts)
put_offset-fits n None ts h k = tt
put_offset-fits n (Some t) None h k = tt
put_offset-fits n (Some t) (Some ts) h k = (h, k)

pub offsets-fit : (n : ℕ) (base : Base) (j : ℕ) (bs : List SymByte) → BytesFit n bs → OffsetsFit n (offsets_of base j bs)
offsets-fit n base j [] h = tt
offsets-fit n base j (b ∷ bs) h = put_offset-fits n (offset_of base j b) (offsets_of base (j + 1) bs) (offset_of-fits n base j b h.0) (offsets-fit n base (j + 1) bs h.1)

pub all_equal-fits : (n : ℕ) (first so_far : Tree) (ts : List Tree) → IsTermOf n 64 first → IsTermOf n 1 so_far → AreTermsOf n 64 ts → IsTermOf n 1 (all_equal first so_far ts)
all_equal-fits n first so_far [] h k g = k
all_equal-fits n first so_far (t ∷ ts) h k g =
    all_equal-fits n first (folded_two (Bin op.And) so_far (equal t first)) ts h (widths.calculated-fits n 1 op.And so_far (equal t first) k (equal-fits n 64 t first g.0 h)) g.1

pub alike-fits : (n : ℕ) (ts : List Tree) → AreTermsOf n 64 ts → IsTermOf n 1 (alike ts)
alike-fits n [] h = bit-fits n 1 (lit≤ tt)
alike-fits n (t ∷ []) h = bit-fits n 1 (lit≤ tt)
alike-fits n (t ∷ u ∷ ts) h = all_equal-fits n t (equal u t) ts h.0 (equal-fits n 64 u t h.1.0 h.0) h.1.1

pub join_offsets-fits : (n : ℕ) (p : Pointer) (o : Option (List Tree)) (bs : List SymByte) → IsTermOf n 64 p.offset → OffsetsFit n o → JoinFits n (join_offsets p o bs)
join_offsets-fits n p None bs h k = join_pending-fits n type.Ptr bs (lit≤ tt)
join_offsets-fits n p (Some ts) bs h k = (alike-fits n ts k, record { fits = h; short = tt })

pub join_pointer-fits : (n : ℕ) (bs : List SymByte) → length bs ≡ 8 → BytesFit n bs → JoinFits n (join_pointer bs)
join_pointer-fits n [] size fit = join_null-fits n [] size fit
join_pointer-fits n (byte.PtrByte p j ∷ bs) size fit = join_offsets-fits n p (offsets_of p.base 0 (byte.PtrByte p j ∷ bs)) (byte.PtrByte p j ∷ bs) fit.0 (offsets-fit n p.base 0 (byte.PtrByte p j ∷ bs) fit)
join_pointer-fits n (byte.Int t ∷ bs) size fit = join_null-fits n (byte.Int t ∷ bs) size fit
join_pointer-fits n (byte.PendingByte c t j ∷ bs) size fit = join_null-fits n (byte.PendingByte c t j ∷ bs) size fit

pub join_bytes-fits : (n : ℕ) (t : RegType) (bs : List SymByte) → IsShortType t → 0 < length bs → length bs ≡ bytes_of_type t → BytesFit n bs → JoinFits n (join_bytes bs t)
join_bytes-fits n (type.Int width) bs h some size fit = join_integer-fits n (type.Int width) bs h some (subst (λ m. m ≤ 8) (sym size) h) fit
join_bytes-fits n type.Ptr bs h some size fit = join_pointer-fits n bs size fit

-- as many bytes as the type has make what fits
pub joined_as-fits : (n : ℕ) (t : RegType) (bs : List SymByte) → IsShortType t → length bs ≡ bytes_of_type t → BytesFit n bs → JoinFits n (joined_as t bs)
joined_as-fits n t [] h size fit = tt
joined_as-fits n t (b ∷ bs) h size fit = join_bytes-fits n t (b ∷ bs) h (omega arith) size fit
