-- Places of a table that has grown, and lists of places.
use Rattle.std.proofs.Common.{◌≡◌, ◌<◌, ◌≤◌, ◌+◌, ℕ, zero, suc, List, [], ◌∷◌, ◌++◌, length, take, drop, get_or, replicate, refl, sym, ap, ap₂, ◌∙◌, subst, arith, length-append, append_assoc, append-nil}
use Rattle.std.proofs.Common.{Result, Ok, Err}
use Rattle.std.specs.Result.{IfOk, OnOk}
use Rattle.std.proofs.Math.ListN.{drop_of_length-le}
use Rattle.std.proofs.lemmas.List.{drop_more, length-map, length-replicate, map-append, take-map, drop-map}
use Rattle.gates.specs.Bits.{Bit}
use Rattle.nodes.specs.declared.table.Node.{Node}
use Rattle.nodes.specs.Nodes.{bit_at, Grows}
use Rattle.nodes.specs.Names.{bits_at, AreWithin}
use Rattle.nodes.proofs.NodeLemmas.{bit_at-grown}
use Rattle.nodes.proofs.WalkLemmas.{bits_at-push, within_more}

pub still_within : (old new : List Node) → Grows old new → (k : ℕ) → k < length old → k < length new
still_within old new grows k h = omega (arith, length-append old grows.0, ap length grows.1)

pub stays : (old new : List Node) → Grows old new → (k : ℕ) → k < length old → bit_at new k ≡ bit_at old k
stays = bit_at-grown

pub grows_on : (a b c : List Node) → Grows a b → Grows b c → Grows a c
grows_on a b c g h = (g.0 ++ h.0, h.1 ∙ ap (λ ns. ns ++ h.0) g.1 ∙ append_assoc a g.0 h.0)

pub grows_none : (a : List Node) → Grows a a
grows_none a = ([], sym (append-nil a))

pub all_within : (old new : List Node) → Grows old new → (ks : List ℕ) → AreWithin old ks → AreWithin new ks
all_within old new grows ks h j low = still_within old new grows (get_or ks j 0) (h j low)

pub all_stay : (old new : List Node) → Grows old new → (ks : List ℕ) → AreWithin old ks → bits_at new ks ≡ bits_at old ks
unfolding bits_at
all_stay old new grows [] h = refl
all_stay old new grows (k ∷ ks) h =
    ap₂ (λ b bs. b ∷ bs) (stays old new grows k (h 0 (omega arith))) (all_stay old new grows ks (λ j low. h (suc j) (omega arith)))

-- lists of places

pub length-bits_at : (nodes : List Node) (ks : List ℕ) → length (bits_at nodes ks) ≡ length ks
unfolding bits_at
length-bits_at nodes ks = length-map ks (bit_at nodes)

pub bits_at-none : (nodes : List Node) → bits_at nodes [] ≡ []
unfolding bits_at
bits_at-none nodes = refl

pub bits_at-cons : (nodes : List Node) (k : ℕ) (ks : List ℕ) → bits_at nodes (k ∷ ks) ≡ bit_at nodes k ∷ bits_at nodes ks
unfolding bits_at
bits_at-cons nodes k ks = refl

pub bits_at-append : (nodes : List Node) (ks more : List ℕ) → bits_at nodes (ks ++ more) ≡ bits_at nodes ks ++ bits_at nodes more
unfolding bits_at
bits_at-append nodes ks more = map-append (bit_at nodes) ks more

pub bits_at-take : (nodes : List Node) (n : ℕ) (ks : List ℕ) → bits_at nodes (take n ks) ≡ take n (bits_at nodes ks)
unfolding bits_at
bits_at-take nodes n ks = sym (take-map (bit_at nodes) n ks)

pub bits_at-drop : (nodes : List Node) (n : ℕ) (ks : List ℕ) → bits_at nodes (drop n ks) ≡ drop n (bits_at nodes ks)
unfolding bits_at
bits_at-drop nodes n ks = sym (drop-map (bit_at nodes) n ks)

pub bits_at-more : (nodes : List Node) (ks : List ℕ) (i : ℕ) → i < length ks → bits_at nodes (drop i ks) ≡ bit_at nodes (get_or ks i 0) ∷ bits_at nodes (drop (i + 1) ks)
bits_at-more nodes ks i h =
    ap (bits_at nodes) (drop_more ks i 0 h) ∙ bits_at-cons nodes (get_or ks i 0) (drop (i + 1) ks)

pub bits_at-past : (nodes : List Node) (ks : List ℕ) (i : ℕ) → length ks ≤ i → bits_at nodes (drop i ks) ≡ []
bits_at-past nodes ks i h = ap (bits_at nodes) (drop_of_length-le ks h) ∙ bits_at-none nodes

-- places in the table, list by list

pub within_none : (nodes : List Node) → AreWithin nodes []
within_none nodes j low = absurd (omega arith)

pub within_cons : (nodes : List Node) (k : ℕ) (ks : List ℕ) → k < length nodes → AreWithin nodes ks → AreWithin nodes (k ∷ ks)
within_cons nodes k ks h all zero low = h
within_cons nodes k ks h all (suc j) low = all j (omega arith)

pub within_first : (nodes : List Node) (k : ℕ) (ks : List ℕ) → AreWithin nodes (k ∷ ks) → k < length nodes
within_first nodes k ks all = all 0 (omega arith)

pub within_rest : (nodes : List Node) (k : ℕ) (ks : List ℕ) → AreWithin nodes (k ∷ ks) → AreWithin nodes ks
within_rest nodes k ks all j low = all (suc j) (omega arith)

pub within_append : (nodes : List Node) (ks more : List ℕ) → AreWithin nodes ks → AreWithin nodes more → AreWithin nodes (ks ++ more)
within_append nodes [] more p q = q
within_append nodes (k ∷ ks) more p q =
    within_cons nodes k (ks ++ more) (within_first nodes k ks p) (within_append nodes ks more (within_rest nodes k ks p) q)

pub within_take : (nodes : List Node) (n : ℕ) (ks : List ℕ) → AreWithin nodes ks → AreWithin nodes (take n ks)
within_take nodes zero ks p = within_none nodes
within_take nodes (suc n) [] p = within_none nodes
within_take nodes (suc n) (k ∷ ks) p =
    within_cons nodes k (take n ks) (within_first nodes k ks p) (within_take nodes n ks (within_rest nodes k ks p))

pub within_drop : (nodes : List Node) (n : ℕ) (ks : List ℕ) → AreWithin nodes ks → AreWithin nodes (drop n ks)
within_drop nodes zero ks p = p
within_drop nodes (suc n) [] p = within_none nodes
within_drop nodes (suc n) (k ∷ ks) p = within_drop nodes n ks (within_rest nodes k ks p)

pub within_replicate : (nodes : List Node) (n k : ℕ) → k < length nodes → AreWithin nodes (replicate n k)
within_replicate nodes zero k h = within_none nodes
within_replicate nodes (suc n) k h = within_cons nodes k (replicate n k) h (within_replicate nodes n k h)

-- A row that is made place by place: what it denotes, with the bits that are still to come, is the whole row.
pub record Builds (old now : List Node) (row : List ℕ) (rest whole : List Bit) : Type 0 where
  pub grows : Grows old now
  pub within : AreWithin now row
  pub bits : bits_at now row ++ rest ≡ whole

pub builds_first : (old now : List Node) (row : List ℕ) (whole : List Bit) → Grows old now → row ≡ [] → Builds old now row whole whole
builds_first old now row whole grows none = record {
  grows = grows;
  within = λ j low. absurd (let e = ap length none in omega arith);
  bits = ap (λ ks. bits_at now ks ++ whole) none ∙ ap (λ bs. bs ++ whole) (bits_at-none now);
}

pub builds_more : (old now next : List Node) (row longer : List ℕ) (k : ℕ) (b : Bit) (before rest whole : List Bit) → Builds old now row before whole → before ≡ b ∷ rest → Grows now next → k < length next → bit_at next k ≡ b → longer ≡ row ++ k ∷ [] → Builds old next longer rest whole
builds_more old now next row longer k b before rest whole so_far is grows within bit pushed = record {
  grows = grows_on old now next so_far.grows grows;
  within = subst (AreWithin next) (sym pushed) (within_more next row k (all_within now next grows row so_far.within) within);
  bits = ap (λ ks. bits_at next ks ++ rest) pushed ∙ ap (λ bs. bs ++ rest) (bits_at-push next row k ∙ ap₂ (λ bs c. bs ++ c ∷ []) (all_stay now next grows row so_far.within) bit) ∙ append_assoc (bits_at now row) (b ∷ []) rest ∙ ap (λ bs. bits_at now row ++ bs) (sym is) ∙ so_far.bits;
}

pub builds_last : (old now : List Node) (row : List ℕ) (rest whole : List Bit) → Builds old now row rest whole → rest ≡ [] → bits_at now row ≡ whole
builds_last old now row rest whole so_far none =
    sym (append-nil (bits_at now row)) ∙ ap (λ bs. bits_at now row ++ bs) (sym none) ∙ so_far.bits

-- what is lent of older places denotes what they denoted
pub lent : (old new : List Node) (ks seen : List ℕ) → seen ≡ ks → Grows old new → AreWithin old ks → bits_at new seen ≡ bits_at old ks
lent old new ks seen is grows within = ap (bits_at new) is ∙ all_stay old new grows ks within

-- the result of a call at the end, by an equation
pub made : {X Y E : Type 0} (r : Result X E) (f : X → Y) (a b : Y) → IfOk r (λ k. f k ≡ a) → a ≡ b → IfOk r (λ k. f k ≡ b)
made (Ok k) f a b h e = h ∙ e
made (Err x) f a b h e = tt

-- what is lent of older places stands in the table
pub lent_within : (old new : List Node) (ks seen : List ℕ) → seen ≡ ks → Grows old new → AreWithin old ks → AreWithin new seen
lent_within old new ks seen is grows within = subst (AreWithin new) (sym is) (all_within old new grows ks within)

-- a place of an older row stands in the table
pub read_within : (old new : List Node) → Grows old new → (ks : List ℕ) → AreWithin old ks → (i : ℕ) → i < length ks → get_or ks i 0 < length new
read_within old new grows ks within i low = still_within old new grows (get_or ks i 0) (within i low)

-- one place, as often as asked
pub repeated_within : (nodes : List Node) (n k : ℕ) (seen : List ℕ) → seen ≡ replicate n k → k < length nodes → AreWithin nodes seen
repeated_within nodes n k seen is low = subst (AreWithin nodes) (sym is) (within_replicate nodes n k low)

pub repeated_sized : (n k : ℕ) (seen : List ℕ) → seen ≡ replicate n k → length seen ≡ n
repeated_sized n k seen is = ap length is ∙ length-replicate n k

-- how the table has grown after a call at the end
pub grown_on : {X E : Type 0} (r : Result X E) (a b c : List Node) → Grows a b → OnOk r (Grows b c) → OnOk r (Grows a c)
grown_on (Ok k) a b c g h = grows_on a b c g h
grown_on (Err x) a b c g h = tt

pub grown_all : {X E : Type 0} (r : Result X E) (a b : List Node) → Grows a b → OnOk r (Grows a b)
grown_all (Ok k) a b g = g
grown_all (Err x) a b g = tt
