-- The steps of the loops over rows.
use Rattle.std.proofs.Common.{◌≡◌, ◌<◌, ◌≤◌, ◌+◌, ℕ, zero, suc, List, [], ◌∷◌, ◌++◌, length, drop, get_or, replicate, refl, sym, ap, ap₂, ◌∙◌, subst, arith, length-append}
use Rattle.gates.specs.Bits.{Bit, fold_not, fold_and, fold_xor}
use Rattle.nodes.specs.declared.table.Node.{Node}
use Rattle.nodes.specs.Nodes.{bit_at, Grows}
use Rattle.nodes.specs.Names.{bits_at, AreWithin}
use Rattle.std.proofs.lemmas.List.{get_or_append_left, get_or_push}
use Rattle.nodes.proofs.WalkLemmas.{bits_at-push, within_more}
use Rattle.nodes.proofs.GrowthLemmas.{stays, still_within, all_within, all_stay, bits_at-more, bits_at-past, bits_at-cons, bits_at-none}
use Rattle.rows.specs.Rows.{fold_or, fold_mux, fills, each, inverted, added, below, alike, top_turned}
use Rattle.row_nodes.specs.declared.pairs.Gate.{Gate}
use Rattle.row_nodes.specs.declared.pairs.Gate.TheVariants.{And, Or, Xor, Choice}
use Rattle.row_nodes.specs.Gates.{folded, IsWithin}

abbrev pub at : List ℕ → ℕ → ℕ
at ks i = get_or ks i 0

pub each_more : (f : Bit → Bit → Bit) (nodes : List Node) (xs ys : List ℕ) (i : ℕ) → i < length xs → length xs ≡ length ys → each f (bits_at nodes (drop i xs)) (bits_at nodes (drop i ys)) ≡ f (bit_at nodes (at xs i)) (bit_at nodes (at ys i)) ∷ each f (bits_at nodes (drop (i + 1) xs)) (bits_at nodes (drop (i + 1) ys))
unfolding each
each_more f nodes xs ys i h k = rw (bits_at-more nodes xs i h, bits_at-more nodes ys i (omega arith)) refl

pub each_past : (f : Bit → Bit → Bit) (nodes : List Node) (xs ys : List ℕ) (i : ℕ) → length xs ≤ i → each f (bits_at nodes (drop i xs)) (bits_at nodes (drop i ys)) ≡ []
unfolding each
each_past f nodes xs ys i h = rw (bits_at-past nodes xs i h) refl

pub inverted_more : (nodes : List Node) (xs : List ℕ) (i : ℕ) → i < length xs → inverted (bits_at nodes (drop i xs)) ≡ fold_not (bit_at nodes (at xs i)) ∷ inverted (bits_at nodes (drop (i + 1) xs))
unfolding inverted
inverted_more nodes xs i h = rw (bits_at-more nodes xs i h) refl

pub inverted_past : (nodes : List Node) (xs : List ℕ) (i : ℕ) → length xs ≤ i → inverted (bits_at nodes (drop i xs)) ≡ []
unfolding inverted
inverted_past nodes xs i h = rw (bits_at-past nodes xs i h) refl

pub added_more : (c : Bit) (nodes : List Node) (xs ys : List ℕ) (i : ℕ) → i < length xs → length xs ≡ length ys → added c (bits_at nodes (drop i xs)) (bits_at nodes (drop i ys)) ≡ fold_xor (fold_xor (bit_at nodes (at xs i)) (bit_at nodes (at ys i))) c ∷ added (fold_or (fold_and (bit_at nodes (at xs i)) (bit_at nodes (at ys i))) (fold_and c (fold_xor (bit_at nodes (at xs i)) (bit_at nodes (at ys i))))) (bits_at nodes (drop (i + 1) xs)) (bits_at nodes (drop (i + 1) ys))
unfolding added
added_more c nodes xs ys i h k = rw (bits_at-more nodes xs i h, bits_at-more nodes ys i (omega arith)) refl

pub added_past : (c : Bit) (nodes : List Node) (xs ys : List ℕ) (i : ℕ) → length xs ≤ i → added c (bits_at nodes (drop i xs)) (bits_at nodes (drop i ys)) ≡ []
unfolding added
added_past c nodes xs ys i h = rw (bits_at-past nodes xs i h) refl

pub below_more : (l : Bit) (nodes : List Node) (xs ys : List ℕ) (i : ℕ) → i < length xs → length xs ≡ length ys → below l (bits_at nodes (drop i xs)) (bits_at nodes (drop i ys)) ≡ below (fold_mux (fold_xor (bit_at nodes (at xs i)) (bit_at nodes (at ys i))) (bit_at nodes (at ys i)) l) (bits_at nodes (drop (i + 1) xs)) (bits_at nodes (drop (i + 1) ys))
unfolding below
below_more l nodes xs ys i h k = rw (bits_at-more nodes xs i h, bits_at-more nodes ys i (omega arith)) refl

pub below_past : (l : Bit) (nodes : List Node) (xs ys : List ℕ) (i : ℕ) → length xs ≤ i → below l (bits_at nodes (drop i xs)) (bits_at nodes (drop i ys)) ≡ l
unfolding below
below_past l nodes xs ys i h = rw (bits_at-past nodes xs i h) refl

pub alike_more : (e : Bit) (nodes : List Node) (xs ys : List ℕ) (i : ℕ) → i < length xs → length xs ≡ length ys → alike e (bits_at nodes (drop i xs)) (bits_at nodes (drop i ys)) ≡ alike (fold_and e (fold_not (fold_xor (bit_at nodes (at xs i)) (bit_at nodes (at ys i))))) (bits_at nodes (drop (i + 1) xs)) (bits_at nodes (drop (i + 1) ys))
unfolding alike
alike_more e nodes xs ys i h k = rw (bits_at-more nodes xs i h, bits_at-more nodes ys i (omega arith)) refl

pub alike_past : (e : Bit) (nodes : List Node) (xs ys : List ℕ) (i : ℕ) → length xs ≤ i → alike e (bits_at nodes (drop i xs)) (bits_at nodes (drop i ys)) ≡ e
unfolding alike
alike_past e nodes xs ys i h = rw (bits_at-past nodes xs i h) refl

pub bits_at-replicate : (nodes : List Node) (n k : ℕ) → bits_at nodes (replicate n k) ≡ fills n (bit_at nodes k)
unfolding fills
bits_at-replicate nodes zero k = bits_at-none nodes
bits_at-replicate nodes (suc n) k =
    bits_at-cons nodes k (replicate n k) ∙ ap (λ bs. bit_at nodes k ∷ bs) (bits_at-replicate nodes n k)

-- a gate over a table that has grown
pub folded_stays : (old new : List Node) → Grows old new → (gate : Gate) → IsWithin old gate → folded new gate ≡ folded old gate
folded_stays old new grows And h = refl
folded_stays old new grows Or h = refl
folded_stays old new grows Xor h = refl
folded_stays old new grows (Choice test) h = ap fold_mux (stays old new grows test h)

pub gate_within : (old new : List Node) → Grows old new → (gate : Gate) → IsWithin old gate → IsWithin new gate
gate_within old new grows And h = h
gate_within old new grows Or h = h
gate_within old new grows Xor h = h
gate_within old new grows (Choice test) h = still_within old new grows test h

-- the highest bit

top_turned-push : (bs : List Bit) (b : Bit) → top_turned (bs ++ b ∷ []) ≡ bs ++ fold_not b ∷ []
unfolding top_turned
top_turned-push [] b = refl
top_turned-push (x ∷ []) b = refl
top_turned-push (x ∷ y ∷ bs) b = ap (λ r. x ∷ r) (top_turned-push (y ∷ bs) b)

pub front_within : (nodes : List Node) (front : List ℕ) (k : ℕ) → AreWithin nodes (front ++ k ∷ []) → AreWithin nodes front
front_within nodes front k h j low =
    subst (λ x. x < length nodes) (get_or_append_left front (k ∷ []) 0 j low) (h j (omega (arith, length-append front (k ∷ []))))

pub last_within : (nodes : List Node) (front : List ℕ) (k : ℕ) → AreWithin nodes (front ++ k ∷ []) → k < length nodes
last_within nodes front k h =
    subst (λ x. x < length nodes) (get_or_push front k 0 (length front) refl) (h (length front) (omega (arith, length-append front (k ∷ []))))

pub turned_top : (old new : List Node) (xs front row : List ℕ) (k t : ℕ) → Grows old new → AreWithin old xs → xs ≡ front ++ k ∷ [] → row ≡ front ++ t ∷ [] → bit_at new t ≡ fold_not (bit_at old k) → bits_at new row ≡ top_turned (bits_at old xs)
turned_top old new xs front row k t grows within is made_of turned =
    ap (bits_at new) made_of ∙ bits_at-push new front t ∙ ap₂ (λ bs b. bs ++ b ∷ []) (all_stay old new grows front (front_within old front k (subst (AreWithin old) is within))) turned ∙ sym (top_turned-push (bits_at old front) (bit_at old k)) ∙ ap top_turned (sym (bits_at-push old front k) ∙ ap (bits_at old) (sym is))

pub turned_within : (old new : List Node) (xs front row : List ℕ) (k t : ℕ) → Grows old new → AreWithin old xs → xs ≡ front ++ k ∷ [] → row ≡ front ++ t ∷ [] → t < length new → AreWithin new row
turned_within old new xs front row k t grows within is made_of low =
    subst (AreWithin new) (sym made_of) (within_more new front t (all_within old new grows front (front_within old front k (subst (AreWithin old) is within))) low)

pub turned_sized : (xs front row : List ℕ) (k t : ℕ) → xs ≡ front ++ k ∷ [] → row ≡ front ++ t ∷ [] → length row ≡ length xs
turned_sized xs front row k t is made_of =
    ap length made_of ∙ length-append front (t ∷ []) ∙ sym (length-append front (k ∷ [])) ∙ sym (ap length is)

pub turned_none : (nodes : List Node) (xs row : List ℕ) → xs ≡ [] → row ≡ [] → bits_at nodes row ≡ top_turned (bits_at nodes xs)
unfolding top_turned
turned_none nodes xs row is none = ap (bits_at nodes) none ∙ bits_at-none nodes ∙ ap top_turned (sym (bits_at-none nodes) ∙ ap (bits_at nodes) (sym is))
