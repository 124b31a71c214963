-- Nodes and the expressions that they stand for.
use Rattle.std.proofs.Common.{◌≡◌, ◌<◌, ◌≤◌, ◌+◌, ℕ, zero, suc, true, false, List, [], ◌∷◌, ◌++◌, length, get_or, refl, sym, ap, ap₂, ◌∙◌, subst, arith, length-append, ◌⊎◌, inl, inr, ⊎_elim, cond, Result, Ok, Err, Some, rules}
use Rattle.std.specs.Result.{IfOk, OnErr}
use Rattle.std.specs.List.{list_any, IsDistinct, slice_get}
use Rattle.std.proofs.lemmas.Bool.{cases_Bool, cases_lt, cond-true, cond-false, true≢false}
use Rattle.std.proofs.lemmas.Map.Keys.{apart_from_distinct}
use Rattle.nodes.specs.contracts.table.NodePartialEq.TheImpl as derived
use Rattle.nodes.proofs.Exact.{exact, itself}
use Rattle.std.proofs.Math.ListN.{get_or-append}
use Rattle.std.proofs.lemmas.List.{get_or_push}
use Rattle.std.proofs.lemmas.Option.{get_or_from_slice_get}
use Rattle.gates.specs.Bits.{Bit, constant, negation, conjunction, exclusive}
use Rattle.nodes.specs.declared.table.Node.{Node}
use Rattle.nodes.specs.declared.table.Node.TheVariants.{Constant, Input, Not, And, Xor}
use Rattle.nodes.specs.Nodes.{at, bit_of, bits_after, bits_of, bit_at, IsAbove, IsTable, Grows}

-- the expressions so far stay where they are
pub after_keeps : (done : List Bit) (nodes : List Node) (k : ℕ) → k < length done → at (bits_after done nodes) k ≡ at done k
unfolding bits_after
after_keeps done [] k h = refl
after_keeps done (g ∷ nodes) k h =
    after_keeps (done ++ bit_of done g ∷ []) nodes k (omega (arith, length-append done (bit_of done g ∷ []))) ∙ get_or-append done (bit_of done g ∷ []) (constant false) k h

pub length-bits_after : (done : List Bit) (nodes : List Node) → length (bits_after done nodes) ≡ length done + length nodes
unfolding bits_after
length-bits_after done [] = omega arith
length-bits_after done (g ∷ nodes) =
    length-bits_after (done ++ bit_of done g ∷ []) nodes ∙ omega (arith, length-append done (bit_of done g ∷ []))

pub length-bits_of : (nodes : List Node) → length (bits_of nodes) ≡ length nodes
unfolding bits_of
length-bits_of nodes = length-bits_after [] nodes ∙ omega arith

after_append : (done : List Bit) (nodes more : List Node) → bits_after done (nodes ++ more) ≡ bits_after (bits_after done nodes) more
unfolding bits_after
after_append done [] more = refl
after_append done (g ∷ nodes) more = after_append (done ++ bit_of done g ∷ []) nodes more

-- a node over one list and a longer one
same_below : (done other : List Bit) (g : Node) (n : ℕ) → ((k : ℕ) → k < n → at done k ≡ at other k) → IsAbove n g → bit_of done g ≡ bit_of other g
same_below done other (Constant b) n h above = refl
same_below done other (Input k) n h above = refl
same_below done other (Not a) n h above = ap negation (h a above)
same_below done other (And a b) n h above = ap₂ conjunction (h a above.0) (h b above.1)
same_below done other (Xor a b) n h above = ap₂ exclusive (h a above.0) (h b above.1)

-- each expression is its node's over the whole list
node_at-after : (done : List Bit) (nodes : List Node) (j : ℕ) → ((k : ℕ) → k < length nodes → IsAbove (length done + k) (get_or nodes k (Constant false))) → j < length nodes → at (bits_after done nodes) (length done + j) ≡ bit_of (bits_after done nodes) (get_or nodes j (Constant false))
unfolding bits_after
node_at-after done [] j above h = absurd (omega arith)
node_at-after done (g ∷ nodes) zero above h =
    let b = bit_of done g in
    let more = bits_after (done ++ b ∷ []) nodes in
    let same : (k : ℕ) → k < length done → at done k ≡ at more k = λ k low. sym (after_keeps (done ++ b ∷ []) nodes k (omega (arith, length-append done (b ∷ []))) ∙ get_or-append done (b ∷ []) (constant false) k low) in
    let place : length done + 0 ≡ length done = omega arith in
    rw place (after_keeps (done ++ b ∷ []) nodes (length done) (omega (arith, length-append done (b ∷ []))) ∙ get_or_push done b (constant false) (length done) refl ∙ same_below done more g (length done) same (subst (λ n. IsAbove n g) place (above 0 (omega arith))))
node_at-after done (g ∷ nodes) (suc j) above h =
    let b = bit_of done g in
    let size : length (done ++ b ∷ []) ≡ length done + 1 = length-append done (b ∷ []) in
    let place : length done + suc j ≡ length (done ++ b ∷ []) + j = omega arith in
    rw place (node_at-after (done ++ b ∷ []) nodes j (λ k low. subst (λ n. IsAbove n (get_or nodes k (Constant false))) (let e : length done + suc k ≡ length (done ++ b ∷ []) + k = omega arith in e) (above (suc k) (omega arith))) (omega arith))

pub node_at : (nodes : List Node) → IsTable nodes → (j : ℕ) → j < length nodes → bit_at nodes j ≡ bit_of (bits_of nodes) (get_or nodes j (Constant false))
unfolding bits_of
node_at nodes table j h = ap (at (bits_after [] nodes)) (sym (zero-add j)) ∙ node_at-after [] nodes j (λ k low. subst (λ n. IsAbove n (get_or nodes k (Constant false))) (sym (zero-add k)) (table.ordered k low)) h
  where
    zero-add : (n : ℕ) → 0 + n ≡ n
    zero-add n = omega arith

-- of expressions below m that are one the places are one
injective : List Bit → ℕ → Type 0
injective bits m = (j k : ℕ) → j < m → k < m → at bits j ≡ at bits k → j ≡ k

bit_of-injective : (bits : List Bit) (m : ℕ) → ((j k : ℕ) → j < m → k < m → at bits j ≡ at bits k → j ≡ k) → (g h : Node) → IsAbove m g → IsAbove m h → bit_of bits g ≡ bit_of bits h → g ≡ h
bit_of-injective bits m inj (Constant a) (Constant b) p q e = let same : a ≡ b = cc in ap Constant same
bit_of-injective bits m inj (Input a) (Input b) p q e = let same : a ≡ b = cc in ap Input same
bit_of-injective bits m inj (Not a) (Not b) p q e = let same : at bits a ≡ at bits b = cc in ap Not (inj a b p q same)
bit_of-injective bits m inj (And a b) (And c d) p q e =
    let left : at bits a ≡ at bits c = cc in
    let right : at bits b ≡ at bits d = cc in
    ap₂ And (inj a c p.0 q.0 left) (inj b d p.1 q.1 right)
bit_of-injective bits m inj (Xor a b) (Xor c d) p q e =
    let left : at bits a ≡ at bits c = cc in
    let right : at bits b ≡ at bits d = cc in
    ap₂ Xor (inj a c p.0 q.0 left) (inj b d p.1 q.1 right)
bit_of-injective bits m inj _ _ p q e = cc

higher : (m n : ℕ) (g : Node) → m ≤ n → IsAbove m g → IsAbove n g
higher m n (Constant b) h p = tt
higher m n (Input b) h p = tt
higher m n (Not a) h p = omega arith
higher m n (And a b) h p = (omega arith, omega arith)
higher m n (Xor a b) h p = (omega arith, omega arith)

same_places : (nodes : List Node) → IsTable nodes → (m : ℕ) → m ≤ length nodes → (j k : ℕ) → j < m → k < m → bit_at nodes j ≡ bit_at nodes k → j ≡ k
same_places nodes table zero h j k p q e = absurd (omega arith)
same_places nodes table (suc m) h j k p q e =
    let node_j = get_or nodes j (Constant false) in
    let node_k = get_or nodes k (Constant false) in
    let below : (j k : ℕ) → j < m → k < m → bit_at nodes j ≡ bit_at nodes k → j ≡ k = same_places nodes table m (omega arith) in
    let same : bit_of (bits_of nodes) node_j ≡ bit_of (bits_of nodes) node_k = sym (node_at nodes table j (omega arith)) ∙ e ∙ node_at nodes table k (omega arith) in
    table.once j k (omega arith) (omega arith) (bit_of-injective (bits_of nodes) m below node_j node_k (higher j m node_j (omega arith) (table.ordered j (omega arith))) (higher k m node_k (omega arith) (table.ordered k (omega arith))) same)

-- AN INDEX IS AN EXPRESSION
pub one_place : (nodes : List Node) → IsTable nodes → (j k : ℕ) → j < length nodes → k < length nodes → bit_at nodes j ≡ bit_at nodes k → j ≡ k
one_place nodes table = same_places nodes table (length nodes) (omega arith)

-- one node more
pub bits_of-push : (nodes : List Node) (g : Node) → bits_of (nodes ++ g ∷ []) ≡ bits_of nodes ++ bit_of (bits_of nodes) g ∷ []
unfolding bits_of bits_after
bits_of-push nodes g = after_append [] nodes (g ∷ [])

pub bit_at-push : (nodes : List Node) (g : Node) → bit_at (nodes ++ g ∷ []) (length nodes) ≡ bit_of (bits_of nodes) g
bit_at-push nodes g = rw (bits_of-push nodes g) (get_or_push (bits_of nodes) (bit_of (bits_of nodes) g) (constant false) (length nodes) (length-bits_of nodes))

-- older expressions stay
pub bit_at-grown : (old new : List Node) → Grows old new → (k : ℕ) → k < length old → bit_at new k ≡ bit_at old k
unfolding bits_of
bit_at-grown old new grows k h =
    rw (grows.1, after_append [] old grows.0) (after_keeps (bits_after [] old) grows.0 k (omega (arith, length-bits_after [] old)))

-- a table after a node is looked for and put last if it isn't there
grown_ordered : (nodes : List Node) (g : Node) → IsTable nodes → IsAbove (length nodes) g → (k : ℕ) → k < length (nodes ++ g ∷ []) → IsAbove k (get_or (nodes ++ g ∷ []) k (Constant false))
grown_ordered nodes g table above k h =
    ⊎_elim (λ low. subst (IsAbove k) (sym (get_or-append nodes (g ∷ []) (Constant false) k low)) (table.ordered k low)) (λ high. let last : k ≡ length nodes = omega (arith, length-append nodes (g ∷ [])) in
    subst (λ n. IsAbove n (get_or (nodes ++ g ∷ []) n (Constant false))) (sym last) (subst (IsAbove (length nodes)) (sym (get_or_push nodes g (Constant false) (length nodes) refl)) above)) (cases_lt k (length nodes))

once_from_distinct : (nodes : List Node) → IsDistinct derived.eq-value.it nodes → (j k : ℕ) → j < length nodes → k < length nodes → get_or nodes j (Constant false) ≡ get_or nodes k (Constant false) → j ≡ k
once_from_distinct nodes distinct j k p q e =
    ⊎_elim (λ low. absurd (apart j k low q e)) (λ high. ⊎_elim (λ low. absurd (apart k j low p (sym e))) (λ low. omega arith) (cases_lt k j)) (cases_lt j k)
  where
    apart : (j k : ℕ) → j < k → k < length nodes → get_or nodes j (Constant false) ≡ get_or nodes k (Constant false) → ⊥
    apart j k low q e =
        true≢false (sym (itself (get_or nodes k (Constant false))) ∙ ap (λ g. derived.eq-value.it g (get_or nodes k (Constant false))) (sym e) ∙ apart_from_distinct derived.eq-value.it nodes j k (Constant false) distinct low q)

pub table_grown : (nodes new : List Node) (g : Node) → IsTable nodes → IsAbove (length nodes) g → IsDistinct derived.eq-value.it new → (new ≡ nodes) ⊎ (new ≡ nodes ++ g ∷ []) → IsTable new
table_grown nodes new g table above distinct grown = record {
  ordered = ⊎_elim (λ e. subst (λ ns. (k : ℕ) → k < length ns → IsAbove k (get_or ns k (Constant false))) (sym e) table.ordered) (λ e. subst (λ ns. (k : ℕ) → k < length ns → IsAbove k (get_or ns k (Constant false))) (sym e) (grown_ordered nodes g table above)) grown;
  once = once_from_distinct new distinct;
}

pub inserted : (nodes : List Node) (g : Node) (new : List Node) → new ≡ cond (list_any (derived.eq-value.it g) nodes) nodes (nodes ++ g ∷ []) → (new ≡ nodes) ⊎ (new ≡ nodes ++ g ∷ [])
inserted nodes g new e =
    ⊎_elim (λ t. inl (e ∙ cond-true (list_any (derived.eq-value.it g) nodes) nodes (nodes ++ g ∷ []) t)) (λ t. inr (e ∙ cond-false (list_any (derived.eq-value.it g) nodes) nodes (nodes ++ g ∷ []) t)) (cases_Bool (list_any (derived.eq-value.it g) nodes))

pub inserted_or_not : {A E : Type 0} (nodes : List Node) (g : Node) (new : List Node) (r : Result A E) → IfOk r (λ _. new ≡ cond (list_any (derived.eq-value.it g) nodes) nodes (nodes ++ g ∷ [])) → OnErr r (new ≡ nodes) → (new ≡ nodes) ⊎ (new ≡ nodes ++ g ∷ [])
inserted_or_not nodes g new (Ok x) p q = inserted nodes g new p
inserted_or_not nodes g new (Err x) p q = inl q

-- the node that stands at the place is the node that was looked for
pub found_bit : (nodes new : List Node) (g h : Node) (k : ℕ) → IsTable nodes → IsTable new → IsAbove (length nodes) g → (new ≡ nodes) ⊎ (new ≡ nodes ++ g ∷ []) → k < length new → slice_get new k ≡ Some h → derived.eq-value.it g h ≡ true → bit_at new k ≡ bit_of (bits_of nodes) g
found_bit nodes new g h k table table' above grown within stands test =
    let node_k : get_or new k (Constant false) ≡ g = get_or_from_get new k h (Constant false) stands ∙ sym (exact g h test) in
    let grows : Grows nodes new = ⊎_elim (λ e. ([], e ∙ sym append_nil)) (λ e. (g ∷ [], e)) grown in
    let same : bit_of (bits_of new) g ≡ bit_of (bits_of nodes) g = same_below (bits_of new) (bits_of nodes) g (length nodes) (bit_at-grown nodes new grows) above in
    node_at new table' k within ∙ ap (bit_of (bits_of new)) node_k ∙ same
  where
    append_nil : nodes ++ [] ≡ nodes
    append_nil = search rules

    get_or_from_get : (xs : List Node) (k : ℕ) (x d : Node) → slice_get xs k ≡ Some x → get_or xs k d ≡ x
    get_or_from_get xs k x d e = get_or_from_slice_get xs k x d e
