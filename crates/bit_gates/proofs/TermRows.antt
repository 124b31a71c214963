-- Rows of terms.
use Rattle.std.proofs.Common.{◌≡◌, ◌<◌, ◌≤◌, ◌+◌, ◌-◌, ◌*◌, ℕ, zero, suc, List, [], ◌∷◌, ◌++◌, length, take, drop, replicate, sym, ap, ap₂, ◌∙◌, subst, arith, append-nil, Vec, Global, ◌⊎◌, inl, inr, Result, Ok, Err, None, Some}
use Rattle.std.specs.Result.{IfOk, OnOk}
use Rattle.bitnum.specs.Number.{Number, IsWidth}
use Rattle.gates.specs.Bits.{Bit, input}
use Rattle.nodes.specs.declared.table.Node.{Node}
use Rattle.nodes.specs.Nodes.{bit_at, Grows}
use Rattle.nodes.specs.Names.{bits_at, AreWithin}
use Rattle.nodes.proofs.GrowthLemmas.{all_stay, all_within, within_append, bits_at-cons, bits_at-none, bits_at-append, bits_at-take, bits_at-drop, length-bits_at}
use Rattle.rows.specs.Rows.{fills, widened, constant_bits, chosen, top}
use Rattle.row_nodes.proofs.RowLemmas.{bits_at-replicate}
use Rattle.terms.specs.Tree as tree
use Rattle.terms.specs.Tree.{Tree, constant, one, two, choice, width_of, IsTree}
use Rattle.terms.specs.declared.term.Unary.{Unary}
use Rattle.terms.specs.declared.term.Binary.{Binary}
use Rattle.terms.specs.Memo.{Note, Remembers}
use Rattle.terms.proofs.Numbers.{value_is, width-value_of}
use Rattle.term_bits.specs.TermBits.{bits_of, bits_of_one, bits_of_two, input_bits}
use Rattle.std.proofs.lemmas.Grind.{flat_map-append}
use Rattle.term_bits.specs.Conditions.{condition_bits}
use Rattle.term_bits.proofs.Terms.{length-bits}
use Rattle.bit_gates.specs.Rows.{IsRow, AreRows}

-- the lowest bits of input byte k, the lowest first: the numbers of its bits fall
unfoldable pub byte_bits : ℕ → ℕ → List Bit
byte_bits k zero = []
byte_bits k (suc n) = input (8 * k + n) ∷ byte_bits k n

pub byte_more : (k i : ℕ) → i < 8 → byte_bits k (8 - i) ≡ input (8 * k + 7 - i) ∷ byte_bits k (8 - (i + 1))
unfolding byte_bits
byte_more k i h =
    let e : 8 - i ≡ suc (8 - (i + 1)) = omega arith in
    let f : 8 * k + (8 - (i + 1)) ≡ 8 * k + 7 - i = omega arith in
    ap (byte_bits k) e ∙ ap (λ n. input n ∷ byte_bits k (8 - (i + 1))) f

pub byte_past : (k i : ℕ) → 8 ≤ i → byte_bits k (8 - i) ≡ []
unfolding byte_bits
byte_past k i h = let e : 8 - i ≡ 0 = omega arith in ap (byte_bits k) e

pub byte_whole : (k : ℕ) → byte_bits k 8 ≡ input_bits k
unfolding byte_bits
byte_whole k =
    let e : 8 * k + 0 ≡ 8 * k = omega arith in
    ap (λ n. input (8 * k + 7) ∷ input (8 * k + 6) ∷ input (8 * k + 5) ∷ input (8 * k + 4) ∷ input (8 * k + 3) ∷ input (8 * k + 2) ∷ input (8 * k + 1) ∷ input n ∷ []) e

-- widths

pub tree_width : (t : Tree) → IsTree t → IsWidth (width_of t)
tree_width t h = subst IsWidth (width-value_of t [] h) (value_is t [] h).width_is

pub row_width : (nodes : List Node) (ks : List ℕ) (t : Tree) → IsTree t → IsRow nodes ks t → length ks ≡ width_of t
row_width nodes ks t h row = sym (length-bits_at nodes ks) ∙ ap length row.bits ∙ length-bits t h

pub row_some : (nodes : List Node) (ks : List ℕ) (t : Tree) → IsTree t → IsRow nodes ks t → 1 ≤ length ks
row_some nodes ks t h row = let w = tree_width t h in omega (arith, row_width nodes ks t h row, w.least)

pub row_most : (nodes : List Node) (ks : List ℕ) (t : Tree) → IsTree t → IsRow nodes ks t → length ks ≤ 64
row_most nodes ks t h row = let w = tree_width t h in omega (arith, row_width nodes ks t h row, w.most)

-- rows in a table that has grown

pub row_stays : (old new : List Node) (ks : List ℕ) (t : Tree) → Grows old new → IsRow old ks t → IsRow new ks t
row_stays old new ks t grows row = record {
  within = all_within old new grows ks row.within;
  bits = all_stay old new grows ks row.within ∙ row.bits;
}

pub rows_stay : (old new : List Node) (notes : List (ℕ × Note (Vec ℕ Global))) → Grows old new → AreRows old notes → AreRows new notes
rows_stay old new notes grows all t row known = row_stays old new row.items t grows (all t row known)

pub row_like : (nodes : List Node) (ks seen : List ℕ) (t : Tree) → seen ≡ ks → IsRow nodes ks t → IsRow nodes seen t
row_like nodes ks seen t is row = subst (λ x. IsRow nodes x t) (sym is) row

-- one row more is remembered
pub rows_more : (nodes : List Node) (old new : List (ℕ × Note (Vec ℕ Global))) (t : Tree) (row : Vec ℕ Global) → AreRows nodes old → IsRow nodes row.items t → ((u : Tree) (v : Vec ℕ Global) → Remembers new u v → Remembers old u v ⊎ ((u ≡ t) × (v ≡ row))) → AreRows nodes new
rows_more nodes old new t row known is others u v r =
    elim (others u v r) [
      | inl before ↦ known u v before
      | inr now ↦ subst (λ x. IsRow nodes x.items u) (sym now.1) (subst (IsRow nodes row.items) (sym now.0) is)
    ]

-- widening
pub widened_bits : (nodes : List Node) (ks : List ℕ) (width fill : ℕ) → bits_at nodes (ks ++ replicate (width - length ks) fill) ≡ widened width (bit_at nodes fill) (bits_at nodes ks)
widened_bits nodes ks width fill =
    bits_at-append nodes ks (replicate (width - length ks) fill) ∙ ap (λ bs. bits_at nodes ks ++ bs) (bits_at-replicate nodes (width - length ks) fill ∙ ap (λ n. fills (width - n) (bit_at nodes fill)) (sym (length-bits_at nodes ks)))

pub byte_at_bits : (nodes : List Node) (ks : List ℕ) (j : ℕ) → bits_at nodes (take 8 (drop (8 * j) ks)) ≡ take 8 (drop (8 * j) (bits_at nodes ks))
byte_at_bits nodes ks j =
    bits_at-take nodes 8 (drop (8 * j) ks) ∙ ap (take 8) (bits_at-drop nodes (8 * j) ks)

-- the rows of terms with parts, from those of the parts

pub one_row : (nodes : List Node) (row : List ℕ) (t : Tree) (op : Unary) (a : Tree) (xs : List Bit) → AreWithin nodes row → bits_at nodes row ≡ bits_of_one op xs → xs ≡ bits_of a → one op a ≡ t → IsRow nodes row t
unfolding bits_of
one_row nodes row t op a xs within bits is of = record {
  within = within;
  bits = bits ∙ ap (bits_of_one op) is ∙ ap bits_of of;
}

pub two_row : (nodes : List Node) (row : List ℕ) (t : Tree) (op : Binary) (a b : Tree) (xs ys : List Bit) → AreWithin nodes row → bits_at nodes row ≡ bits_of_two op xs ys → xs ≡ bits_of a → ys ≡ bits_of b → two op a b ≡ t → IsRow nodes row t
unfolding bits_of
two_row nodes row t op a b xs ys within bits is js of = record {
  within = within;
  bits = bits ∙ ap₂ (bits_of_two op) is js ∙ ap bits_of of;
}

pub choice_row : (nodes : List Node) (row : List ℕ) (t c a b : Tree) (test : Bit) (xs ys : List Bit) → AreWithin nodes row → bits_at nodes row ≡ chosen test xs ys → test ≡ top (bits_of c) → xs ≡ bits_of a → ys ≡ bits_of b → choice c a b ≡ t → IsRow nodes row t
unfolding bits_of
choice_row nodes row t c a b test xs ys within bits cs is js of = record {
  within = within;
  bits = bits ∙ ap (λ k. chosen k xs ys) cs ∙ ap₂ (chosen (top (bits_of c))) is js ∙ ap bits_of of;
}

pub single_bits : (nodes : List Node) (k : ℕ) → bits_at nodes (k ∷ []) ≡ bit_at nodes k ∷ []
single_bits nodes k = bits_at-cons nodes k [] ∙ ap (λ bs. bit_at nodes k ∷ bs) (bits_at-none nodes)

-- two facts of one result

pub both : {X E : Type 0} (r : Result X E) (P Q : X → Type 0) → IfOk r P → IfOk r Q → IfOk r (λ x. P x × Q x)
both (Ok x) P Q p q = (p, q)
both (Err e) P Q p q = tt

pub given : {X E : Type 0} (r : Result X E) (P : Type 0) → P → IfOk r (λ x. P)
given (Ok x) P p = p
given (Err e) P p = tt

pub held : {X E : Type 0} (r : Result X E) (P : Type 0) → P → OnOk r P
held (Ok x) P p = p
held (Err e) P p = tt

-- what a result's row is, from two facts of it
pub made_row : {E : Type 0} (r : Result (Vec ℕ Global) E) (nodes : List Node) (t : Tree) (bits : List Bit) → IfOk r (λ row. AreWithin nodes row.items) → IfOk r (λ row. bits_at nodes row.items ≡ bits) → bits ≡ bits_of t → IfOk r (λ row. IsRow nodes row.items t)
made_row (Ok row) nodes t bits within is of = record { within = within; bits = is ∙ of }
made_row (Err e) nodes t bits within is of = tt

pub bits_of-constant : (n : Number) (t : Tree) → constant n ≡ t → constant_bits n.width n.bits ≡ bits_of t
unfolding bits_of
bits_of-constant n t of = ap bits_of of

pub bits_of-input : (k : ℕ) (t : Tree) → tree.input k ≡ t → input_bits k ≡ bits_of t
unfolding bits_of
bits_of-input k t of = ap bits_of of

pub grown_known : {X E : Type 0} (r : Result X E) (old new : List Node) (notes : List (ℕ × Note (Vec ℕ Global))) → OnOk r (Grows old new) → AreRows old notes → OnOk r (AreRows new notes)
grown_known (Ok x) old new notes grows all = rows_stay old new notes grows all
grown_known (Err e) old new notes grows all = tt

-- the conjuncts, one after the other

pub conjunct_more : (old new : List Node) (places more longer : List ℕ) (before after : List Tree) (t : Tree) → Grows old new → AreWithin old places → bits_at old places ≡ condition_bits before → IsRow new more t → longer ≡ places ++ more → after ≡ before ++ t ∷ [] → bits_at new longer ≡ condition_bits after
conjunct_more old new places more longer before after t grows within bits row is of =
    ap (bits_at new) is ∙ bits_at-append new places more ∙ ap₂ (λ x y. x ++ y) (all_stay old new grows places within ∙ bits) (row.bits ∙ sym (append-nil (bits_of t))) ∙ sym (flat_map-append bits_of before (t ∷ [])) ∙ ap condition_bits (sym of)

pub conjuncts_within : (old new : List Node) (places more longer : List ℕ) (t : Tree) → Grows old new → AreWithin old places → IsRow new more t → longer ≡ places ++ more → AreWithin new longer
conjuncts_within old new places more longer t grows within row is =
    subst (AreWithin new) (sym is) (within_append new places more (all_within old new grows places within) row.within)

pub rows_none : (nodes : List Node) (notes : List (ℕ × Note (Vec ℕ Global))) → notes ≡ [] → AreRows nodes notes
rows_none nodes notes none t row r = absurd (none_is_not_some (subst (λ ns. Remembers ns t row) none r).1)
  where
    none_is_not_some : {X : Type 0} {x : X} → None ≡ Some x → ⊥
    none_is_not_some e = cc
