-- The walk that gives the numbers.
use Rattle.std.proofs.Common.{◌≡◌, ◌<◌, ◌≤◌, ◌+◌, ℕ, Bool, true, false, ◌||◌, cond, eqb, List, [], ◌∷◌, ◌++◌, length, get_or, flat_map, refl, sym, ap, ◌∙◌, subst, arith, append_assoc, append-nil, ◌⊎◌, inl, inr, ⊎_elim}
use Rattle.std.specs.Prelude.{not, count_by, ◌*◌}
use Rattle.std.proofs.Math.Nat.{mul-le-mul_left}
use Rattle.std.proofs.lemmas.Grind.{common_steps}
use Rattle.std.proofs.Math.ListN.{set, length-set}
use Rattle.std.proofs.lemmas.List.{get_or-set_same, get_or-set_other, get_or_append_left}
use Rattle.std.proofs.Math.Seq.{get_or-append_seam}
use Rattle.std.proofs.Common.{length-append}
use Rattle.std.proofs.lemmas.Bool.{cases_Bool, or_cases, or_left, or_right, eqb-true, eqb-false, cond-true, cond-false, true≢false, false≢true}
use Rattle.gates.specs.Bits.{Bit, constant, input, negation, conjunction, exclusive}
use Rattle.gates.specs.Clauses.{same_bit, has, gates_of, met_after}
use Rattle.gates.proofs.BitLemmas.{same_bit-refl, same_bit-equal}
use Rattle.gates.proofs.NameLemmas.{met_keeps, met_has}
use Rattle.nodes.specs.declared.table.Node.{Node}
use Rattle.nodes.specs.Nodes.{bit_at, IsTable}
use Rattle.nodes.specs.Nodes.{bit_of, bits_of, IsAbove}
use Rattle.nodes.specs.declared.table.Node.TheVariants.{Constant, Input, Not, And, Xor}
use Rattle.nodes.specs.Names.{bits_at, node_of, AreWithin, is_done, is_gate, AreDone, IsCovered, IsNaming, IsUndone, IsPath, left_over}
use Rattle.nodes.proofs.NodeLemmas.{node_at, one_place}

pub met_append : (names xs ys : List Bit) → met_after names (xs ++ ys) ≡ met_after (met_after names xs) ys
unfolding met_after
met_append names [] ys = refl
met_append names (x ∷ xs) ys = met_append (cond (has names x) names (names ++ x ∷ [])) xs ys

-- what has names already adds none
pub met_none : (names es : List Bit) → ((e : Bit) → has es e ≡ true → has names e ≡ true) → met_after names es ≡ names
unfolding met_after
met_none names [] h = refl
met_none names (e ∷ es) h =
    let here = h e (or_left (same_bit e e) (has es e) (same_bit-refl e)) in
    ap (λ n. met_after n es) (cond-true (has names e) names (names ++ e ∷ []) here) ∙ met_none names es (λ d k. h d (or_right (same_bit d e) (has es d) k))

pub met_one : (names : List Bit) (e : Bit) → has names e ≡ false → met_after names (e ∷ []) ≡ names ++ e ∷ []
unfolding met_after
met_one names e h = cond-false (has names e) names (names ++ e ∷ []) h

has-append : (xs ys : List Bit) (e : Bit) → has (xs ++ ys) e ≡ (has xs e || has ys e)
has-append [] ys e = refl
has-append (x ∷ xs) ys e = ap (λ b. same_bit e x || b) (has-append xs ys e) ∙ or_assoc (same_bit e x) (has xs e) (has ys e)
  where
    or_assoc : (a b c : Bool) → (a || (b || c)) ≡ ((a || b) || c)
    or_assoc true b c = refl
    or_assoc false b c = refl

pub bits_at-push : (nodes : List Node) (names : List ℕ) (k : ℕ) → bits_at nodes (names ++ k ∷ []) ≡ bits_at nodes names ++ bit_at nodes k ∷ []
unfolding bits_at
bits_at-push nodes [] k = refl
bits_at-push nodes (n ∷ names) k = ap (λ bs. bit_at nodes n ∷ bs) (bits_at-push nodes names k)

or_false : (a : Bool) → (a || false) ≡ a
or_false true = refl
or_false false = refl

or_true : (a : Bool) → (a || true) ≡ true
or_true true = refl
or_true false = refl

pub gates-constant : (b : Bool) → gates_of (constant b) ≡ []
unfolding gates_of
gates-constant b = refl

pub gates-input : (k : ℕ) → gates_of (input k) ≡ []
unfolding gates_of
gates-input k = refl

pub gates-negation : (e : Bit) → gates_of (negation e) ≡ gates_of e
unfolding gates_of
gates-negation e = refl

-- a gate's parts: left, right, itself
abbrev pub IsGate : Bit → Bit → Bit → Type 0
IsGate e a b = (e ≡ conjunction a b) ⊎ (e ≡ exclusive a b)

gates_parts : (e a b : Bit) → IsGate e a b → gates_of e ≡ gates_of a ++ (gates_of b ++ e ∷ [])
unfolding gates_of
gates_parts e a b (inl p) = rw (p, append_assoc) refl
gates_parts e a b (inr p) = rw (p, append_assoc) refl

pub within_more : (nodes : List Node) (ks : List ℕ) (k : ℕ) → AreWithin nodes ks → k < length nodes → AreWithin nodes (ks ++ k ∷ [])
within_more nodes ks k all h j low =
    ⊎_elim (λ s. subst (λ x. x < length nodes) (sym (ap (λ i. get_or (ks ++ k ∷ []) i 0) (eqb-true j (length ks) s) ∙ get_or-append_seam ks k [] 0)) h) (λ f. let differ = eqb-false j (length ks) f in let below : j < length ks = omega (arith, length-append ks (k ∷ [])) in subst (λ x. x < length nodes) (sym (get_or_append_left ks (k ∷ []) 0 j below)) (all j below)) (cases_Bool (eqb j (length ks)))

-- lists of gates

met_past : (names xs ys : List Bit) → ((d : Bit) → has xs d ≡ true → has names d ≡ true) → met_after names (xs ++ ys) ≡ met_after names ys
met_past names xs ys h = met_append names xs ys ∙ ap (λ n. met_after n ys) (met_none names xs h)

met_twice : (names xs ys : List Bit) → met_after names (xs ++ (xs ++ ys)) ≡ met_after names (xs ++ ys)
met_twice names xs ys =
    met_append names xs (xs ++ ys) ∙ met_past (met_after names xs) xs ys (met_has xs names) ∙ sym (met_append names xs ys)

first_part : (names xs more rest ys : List Bit) → ys ≡ xs ++ more → met_after names (xs ++ (ys ++ rest)) ≡ met_after names (ys ++ rest)
first_part names xs more rest ys is =
    let e : ys ++ rest ≡ xs ++ (more ++ rest) = ap (λ z. z ++ rest) is ∙ append_assoc xs more rest in
    ap (λ z. met_after names (xs ++ z)) e ∙ met_twice names xs (more ++ rest) ∙ ap (met_after names) (sym e)

second_part : (names xs zs more rest ys : List Bit) → ((d : Bit) → has xs d ≡ true → has names d ≡ true) → ys ≡ xs ++ (zs ++ more) → met_after names (zs ++ (ys ++ rest)) ≡ met_after names (ys ++ rest)
second_part names xs zs more rest ys covered is =
    let w = more ++ rest in
    let e : ys ++ rest ≡ xs ++ (zs ++ w) = ap (λ z. z ++ rest) is ∙ append_assoc xs (zs ++ more) rest ∙ ap (λ z. xs ++ z) (append_assoc zs more rest) in
    ap (λ z. met_after names (zs ++ z)) e ∙ met_append names zs (xs ++ (zs ++ w)) ∙ met_past (met_after names zs) xs (zs ++ w) (λ d h. met_keeps zs names d (covered d h)) ∙ met_past (met_after names zs) zs w (met_has zs names) ∙ sym (met_append names zs w) ∙ sym (met_past names xs (zs ++ w) covered) ∙ ap (met_after names) (sym e)

pub bit_at-node : (nodes : List Node) (k : ℕ) (g : Node) → IsTable nodes → k < length nodes → node_of nodes k ≡ g → bit_at nodes k ≡ bit_of (bits_of nodes) g
bit_at-node nodes k g table h is = node_at nodes table k h ∙ ap (bit_of (bits_of nodes)) is

pub above_at : (nodes : List Node) (k : ℕ) (g : Node) → IsTable nodes → k < length nodes → node_of nodes k ≡ g → IsAbove k g
above_at nodes k g table h is = let P : Node → Type 0 = IsAbove k in subst P is (table.ordered k h)

gates_of_not : (e a : Bit) → e ≡ negation a → gates_of e ≡ gates_of a ++ []
gates_of_not e a is = ap gates_of is ∙ gates-negation a ∙ sym (append-nil (gates_of a))

-- the gates of an operand that isn't done are met before those of the node
pub record Leads (nodes : List Node) (done : List Bool) (names : List ℕ) (k a : ℕ) : Type 0 where
  pub below : a < k
  pub undone : is_done done a ≡ false
  pub first : (rest : List Bit) → met_after (bits_at nodes names) (gates_of (bit_at nodes a) ++ (gates_of (bit_at nodes k) ++ rest)) ≡ met_after (bits_at nodes names) (gates_of (bit_at nodes k) ++ rest)

module _ (nodes : List Node) (done : List Bool) (names : List ℕ) (table : IsTable nodes) (naming : IsNaming nodes done names) (k : ℕ) (h : k < length nodes) where
  leads_left : (a b : ℕ) → IsGate (bit_at nodes k) (bit_at nodes a) (bit_at nodes b) → a < k → is_done done a ≡ false → Leads nodes done names k a
  leads_left a b gate low e = record {
    below = low;
    undone = e;
    first = λ rest. first_part (bits_at nodes names) (gates_of (bit_at nodes a)) (gates_of (bit_at nodes b) ++ bit_at nodes k ∷ []) rest (gates_of (bit_at nodes k)) (gates_parts (bit_at nodes k) (bit_at nodes a) (bit_at nodes b) gate);
  }

  leads_right : (a b : ℕ) → IsGate (bit_at nodes k) (bit_at nodes a) (bit_at nodes b) → a < k → b < k → is_done done a ≡ true → is_done done b ≡ false → Leads nodes done names k b
  leads_right a b gate left low d e = record {
    below = low;
    undone = e;
    first = λ rest. second_part (bits_at nodes names) (gates_of (bit_at nodes a)) (gates_of (bit_at nodes b)) (bit_at nodes k ∷ []) rest (gates_of (bit_at nodes k)) (naming.covered a (omega arith) d) (gates_parts (bit_at nodes k) (bit_at nodes a) (bit_at nodes b) gate);
  }

  leads_inside : (a : ℕ) → bit_at nodes k ≡ negation (bit_at nodes a) → a < k → is_done done a ≡ false → Leads nodes done names k a
  leads_inside a is low e = record {
    below = low;
    undone = e;
    first = λ rest. first_part (bits_at nodes names) (gates_of (bit_at nodes a)) [] rest (gates_of (bit_at nodes k)) (gates_of_not (bit_at nodes k) (bit_at nodes a) is);
  }

  either_leads : (a b c : ℕ) → IsGate (bit_at nodes k) (bit_at nodes a) (bit_at nodes b) → (a < k) × (b < k) → ((c ≡ a) × (is_done done a ≡ false)) ⊎ ((c ≡ b) × (is_done done a ≡ true) × (is_done done b ≡ false)) → Leads nodes done names k c
  either_leads a b c gate low (inl u) = subst (λ x. Leads nodes done names k x) (sym u.0) (leads_left a b gate low.0 u.1)
  either_leads a b c gate low (inr u) = subst (λ x. Leads nodes done names k x) (sym u.0) (leads_right a b gate low.0 low.1 u.1 u.2)

  leads_by_node : (g : Node) (c : ℕ) → node_of nodes k ≡ g → IsUndone done g c → Leads nodes done names k c
  leads_by_node (Constant b) c is u = absurd u
  leads_by_node (Input j) c is u = absurd u
  leads_by_node (Not a) c is u =
      subst (λ x. Leads nodes done names k x) (sym u.0) (leads_inside a (bit_at-node nodes k (Not a) table h is) (above_at nodes k (Not a) table h is) u.1)
  leads_by_node (And a b) c is u =
      either_leads a b c (inl (bit_at-node nodes k (And a b) table h is)) (above_at nodes k (And a b) table h is) u
  leads_by_node (Xor a b) c is u =
      either_leads a b c (inr (bit_at-node nodes k (Xor a b) table h is)) (above_at nodes k (Xor a b) table h is) u

  pub leads : (c : ℕ) → IsUndone done (node_of nodes k) c → Leads nodes done names k c
  leads c u = leads_by_node (node_of nodes k) c refl u

  -- the end of a place whose operands are done

  record DoneParts : Type 0 where
    left : ℕ
    right : ℕ
    left_covered : IsCovered (bits_at nodes names) (bit_at nodes left)
    right_covered : IsCovered (bits_at nodes names) (bit_at nodes right)
    gate : IsGate (bit_at nodes k) (bit_at nodes left) (bit_at nodes right)

  done_parts : (g : Node) → node_of nodes k ≡ g → is_gate g ≡ true → AreDone done g → DoneParts
  done_parts (Constant b) is e d = absurd (false≢true e)
  done_parts (Input j) is e d = absurd (false≢true e)
  done_parts (Not a) is e d = absurd (false≢true e)
  done_parts (And a b) is e d =
      let low : (a < k) × (b < k) = above_at nodes k (And a b) table h is in
      record {
        left = a;
        right = b;
        left_covered = naming.covered a (omega (arith, low.0)) d.0;
        right_covered = naming.covered b (omega (arith, low.1)) d.1;
        gate = inl (bit_at-node nodes k (And a b) table h is);
      }
  done_parts (Xor a b) is e d =
      let low : (a < k) × (b < k) = above_at nodes k (Xor a b) table h is in
      record {
        left = a;
        right = b;
        left_covered = naming.covered a (omega (arith, low.0)) d.0;
        right_covered = naming.covered b (omega (arith, low.1)) d.1;
        gate = inr (bit_at-node nodes k (Xor a b) table h is);
      }

  plain_covered : (g : Node) → node_of nodes k ≡ g → is_gate g ≡ false → AreDone done g → IsCovered (bits_at nodes names) (bit_at nodes k)
  plain_covered (Constant b) is e d q p =
      absurd (false≢true (subst (λ gs. has gs q ≡ true) (ap gates_of (bit_at-node nodes k (Constant b) table h is) ∙ gates-constant b) p))
  plain_covered (Input j) is e d q p =
      absurd (false≢true (subst (λ gs. has gs q ≡ true) (ap gates_of (bit_at-node nodes k (Input j) table h is) ∙ gates-input j) p))
  plain_covered (Not a) is e d q p =
      let low : a < k = above_at nodes k (Not a) table h is in
      naming.covered a (omega arith) d q (subst (λ gs. has gs q ≡ true) (ap gates_of (bit_at-node nodes k (Not a) table h is) ∙ gates-negation (bit_at nodes a)) p)
  plain_covered (And a b) is e d q p = absurd (true≢false e)
  plain_covered (Xor a b) is e d q p = absurd (true≢false e)

  pub plain_met : is_gate (node_of nodes k) ≡ false → AreDone done (node_of nodes k) → bits_at nodes names ≡ met_after (bits_at nodes names) (gates_of (bit_at nodes k))
  plain_met e d =
      sym (met_none (bits_at nodes names) (gates_of (bit_at nodes k)) (plain_covered (node_of nodes k) refl e d))

  pub plain_naming : is_gate (node_of nodes k) ≡ false → AreDone done (node_of nodes k) → IsNaming nodes (set done k true) names
  plain_naming e d = record {
    sized = length-set done k true ∙ naming.sized;
    within = naming.within;
    covered = λ j low t. ⊎_elim (λ s. subst (λ x. IsCovered (bits_at nodes names) (bit_at nodes x)) (sym (eqb-true j k s)) (plain_covered (node_of nodes k) refl e d)) (λ f. naming.covered j low (sym (get_or-set_other done k j true false (eqb-false j k f)) ∙ t)) (cases_Bool (eqb j k));
    fresh = λ j low g t. ⊎_elim (λ s. absurd (true≢false (sym (subst (λ x. is_gate (node_of nodes x) ≡ true) (eqb-true j k s) g) ∙ e))) (λ f. naming.fresh j low g (sym (get_or-set_other done k j true false (eqb-false j k f)) ∙ t)) (cases_Bool (eqb j k));
  }

  pub gate_met : is_gate (node_of nodes k) ≡ true → is_done done k ≡ false → AreDone done (node_of nodes k) → bits_at nodes (names ++ k ∷ []) ≡ met_after (bits_at nodes names) (gates_of (bit_at nodes k))
  gate_met e u d =
      let old = bits_at nodes names in
      let bit = bit_at nodes k in
      let parts = done_parts (node_of nodes k) refl e d in
      let a = bit_at nodes parts.left in
      let b = bit_at nodes parts.right in
      bits_at-push nodes names k ∙ sym (met_one old bit (naming.fresh k h e u)) ∙ sym (met_past old (gates_of b) (bit ∷ []) parts.right_covered) ∙ sym (met_past old (gates_of a) (gates_of b ++ bit ∷ []) parts.left_covered) ∙ ap (met_after old) (sym (gates_parts bit a b parts.gate))

  more : (e : Bit) → has (bits_at nodes (names ++ k ∷ [])) e ≡ (has (bits_at nodes names) e || has (bit_at nodes k ∷ []) e)
  more e =
      ap (λ bs. has bs e) (bits_at-push nodes names k) ∙ has-append (bits_at nodes names) (bit_at nodes k ∷ []) e

  kept : (e : Bit) → has (bits_at nodes names) e ≡ true → has (bits_at nodes (names ++ k ∷ [])) e ≡ true
  kept e q = more e ∙ or_left (has (bits_at nodes names) e) (has (bit_at nodes k ∷ []) e) q

  itself_has : has (bits_at nodes (names ++ k ∷ [])) (bit_at nodes k) ≡ true
  itself_has =
      more (bit_at nodes k) ∙ or_right (has (bits_at nodes names) (bit_at nodes k)) (has (bit_at nodes k ∷ []) (bit_at nodes k)) (or_left (same_bit (bit_at nodes k) (bit_at nodes k)) false (same_bit-refl (bit_at nodes k)))

  other : (j : ℕ) → j < length nodes → (j ≡ k → ⊥) → has (bits_at nodes (names ++ k ∷ [])) (bit_at nodes j) ≡ has (bits_at nodes names) (bit_at nodes j)
  other j low differs =
      let differ : same_bit (bit_at nodes j) (bit_at nodes k) ≡ false = ⊎_elim (λ t. absurd (differs (one_place nodes table j k low h (same_bit-equal (bit_at nodes j) (bit_at nodes k) t)))) (λ f. f) (cases_Bool (same_bit (bit_at nodes j) (bit_at nodes k))) in
      more (bit_at nodes j) ∙ ap (λ b. has (bits_at nodes names) (bit_at nodes j) || (b || false)) differ ∙ or_false (has (bits_at nodes names) (bit_at nodes j))

  gate_covered : is_gate (node_of nodes k) ≡ true → AreDone done (node_of nodes k) → IsCovered (bits_at nodes (names ++ k ∷ [])) (bit_at nodes k)
  gate_covered e d g p =
      let parts = done_parts (node_of nodes k) refl e d in
      let a = bit_at nodes parts.left in
      let b = bit_at nodes parts.right in
      let bit = bit_at nodes k in
      ⊎_elim (λ q. kept g (parts.left_covered g q)) (λ q. ⊎_elim (λ r. kept g (parts.right_covered g r)) (λ r. subst (λ x. has (bits_at nodes (names ++ k ∷ [])) x ≡ true) (sym (same_bit-equal g bit (one_has g bit r))) itself_has) (or_cases (has (gates_of b) g) (has (bit ∷ []) g) (sym (has-append (gates_of b) (bit ∷ []) g) ∙ q))) (or_cases (has (gates_of a) g) (has (gates_of b ++ bit ∷ []) g) (sym (has-append (gates_of a) (gates_of b ++ bit ∷ []) g) ∙ ap (λ gs. has gs g) (sym (gates_parts bit a b parts.gate)) ∙ p))
    where
      one_has : (x y : Bit) → has (y ∷ []) x ≡ true → same_bit x y ≡ true
      one_has x y q = ⊎_elim (λ t. t) (λ f. absurd (false≢true f)) (or_cases (same_bit x y) false q)

  pub gate_naming : is_gate (node_of nodes k) ≡ true → AreDone done (node_of nodes k) → IsNaming nodes (set done k true) (names ++ k ∷ [])
  gate_naming e d = record {
    sized = length-set done k true ∙ naming.sized;
    within = within_more nodes names k naming.within h;
    covered = λ j low t. ⊎_elim (λ s. subst (λ x. IsCovered (bits_at nodes (names ++ k ∷ [])) (bit_at nodes x)) (sym (eqb-true j k s)) (gate_covered e d)) (λ f. λ g q. kept g (naming.covered j low (sym (get_or-set_other done k j true false (eqb-false j k f)) ∙ t) g q)) (cases_Bool (eqb j k));
    fresh = λ j low g t. ⊎_elim (λ s. absurd (true≢false (sym (get_or-set_same done k true false (omega (arith, naming.sized))) ∙ subst (λ x. get_or (set done k true) x false ≡ false) (eqb-true j k s) t))) (λ f. other j low (eqb-false j k f) ∙ naming.fresh j low g (sym (get_or-set_other done k j true false (eqb-false j k f)) ∙ t)) (cases_Bool (eqb j k));
  }

-- the conjuncts so far
pub flat_push : (nodes : List Node) (ks : List ℕ) (k : ℕ) → flat_map gates_of (bits_at nodes (ks ++ k ∷ [])) ≡ flat_map gates_of (bits_at nodes ks) ++ gates_of (bit_at nodes k)
unfolding bits_at
flat_push nodes [] k = simp append-nil
flat_push nodes (n ∷ ks) k = ap (λ gs. gates_of (bit_at nodes n) ++ gs) (flat_push nodes ks k) ∙ sym (append_assoc (gates_of (bit_at nodes n)) (flat_map gates_of (bits_at nodes ks)) (gates_of (bit_at nodes k)))

pub visited_more : (nodes : List Node) (start before after ks : List ℕ) (k : ℕ) → bits_at nodes before ≡ met_after (bits_at nodes start) (flat_map gates_of (bits_at nodes ks)) → bits_at nodes after ≡ met_after (bits_at nodes before) (gates_of (bit_at nodes k)) → bits_at nodes after ≡ met_after (bits_at nodes start) (flat_map gates_of (bits_at nodes (ks ++ k ∷ [])))
visited_more nodes start before after ks k h e =
    e ∙ ap (λ ns. met_after ns (gates_of (bit_at nodes k))) h ∙ sym (met_append (bits_at nodes start) (flat_map gates_of (bits_at nodes ks)) (gates_of (bit_at nodes k))) ∙ ap (met_after (bits_at nodes start)) (sym (flat_push nodes ks k))

pub visited_none : (nodes : List Node) (start : List ℕ) → bits_at nodes start ≡ met_after (bits_at nodes start) (flat_map gates_of (bits_at nodes []))
unfolding met_after bits_at
visited_none nodes start = refl

-- the places that wait

pub left_over-push : (nodes : List Node) (rest : List Bit) (above : List ℕ) (k : ℕ) → left_over nodes rest (above ++ k ∷ []) ≡ gates_of (bit_at nodes k) ++ left_over nodes rest above
unfolding left_over
left_over-push nodes rest [] k = refl
left_over-push nodes rest (p ∷ above) k = left_over-push nodes (gates_of (bit_at nodes p) ++ rest) above k

left_over-none : (nodes : List Node) (rest : List Bit) → left_over nodes rest [] ≡ rest
unfolding left_over
left_over-none nodes rest = refl

pub path_low : (bound : ℕ) (done : List Bool) (above : List ℕ) (k : ℕ) → IsPath bound done above k → k < bound
path_low bound done [] k h = h.0
path_low bound done (p ∷ above) k h = let low = path_low p done above k h.2 in let high = h.0 in omega arith

pub path_undone : (bound : ℕ) (done : List Bool) (above : List ℕ) (k : ℕ) → IsPath bound done above k → is_done done k ≡ false
path_undone bound done [] k h = h.1
path_undone bound done (p ∷ above) k h = path_undone p done above k h.2

pub path_push : (bound : ℕ) (done : List Bool) (above : List ℕ) (k a : ℕ) → IsPath bound done above k → a < k → is_done done a ≡ false → IsPath bound done (above ++ k ∷ []) a
path_push bound done [] k a h low e = (h.0, h.1, (low, e))
path_push bound done (p ∷ above) k a h low e = (h.0, h.1, path_push p done above k a h.2 low e)

pub path_pop : (bound : ℕ) (done : List Bool) (above : List ℕ) (p k : ℕ) → IsPath bound done (above ++ p ∷ []) k → IsPath bound (set done k true) above p
path_pop bound done [] p k h =
    let low : k < p = h.2.0 in
    (h.0, get_or-set_other done k p true false (omega arith) ∙ h.1)
path_pop bound done (q ∷ above) p k h =
    let low : k < q = path_low q done (above ++ p ∷ []) k h.2 in
    (h.0, get_or-set_other done k q true false (omega arith) ∙ h.1, path_pop q done above p k h.2)

-- a place that is done adds none
pub done_met : (nodes : List Node) (done : List Bool) (names : List ℕ) (k : ℕ) → IsNaming nodes done names → k < length nodes → is_done done k ≡ true → bits_at nodes names ≡ met_after (bits_at nodes names) (gates_of (bit_at nodes k))
done_met nodes done names k naming h e =
    sym (met_none (bits_at nodes names) (gates_of (bit_at nodes k)) (naming.covered k h e))

-- where the walk stands: what is still to be met
pub record StandsAt (nodes : List Node) (done : List Bool) (names waiting : List ℕ) (k : ℕ) (whole : List Bit) : Type 0 where
  pub naming : IsNaming nodes done names
  pub path : IsPath (length nodes) done waiting k
  pub target : met_after (bits_at nodes names) (gates_of (bit_at nodes k) ++ left_over nodes [] waiting) ≡ whole

pub stands_first : (nodes : List Node) (done : List Bool) (names : List ℕ) (k : ℕ) → IsNaming nodes done names → k < length nodes → is_done done k ≡ false → StandsAt nodes done names [] k (met_after (bits_at nodes names) (gates_of (bit_at nodes k)))
stands_first nodes done names k naming h e = record {
  naming = naming;
  path = (h, e);
  target = ap (λ rest. met_after (bits_at nodes names) (gates_of (bit_at nodes k) ++ rest)) (left_over-none nodes []) ∙ ap (met_after (bits_at nodes names)) (append-nil (gates_of (bit_at nodes k)));
}

pub stands_below : (nodes : List Node) (done : List Bool) (names waiting waits : List ℕ) (k a : ℕ) (whole : List Bit) → IsTable nodes → StandsAt nodes done names waiting k whole → IsUndone done (node_of nodes k) a → waits ≡ waiting ++ k ∷ [] → StandsAt nodes done names waits a whole
stands_below nodes done names waiting waits k a whole table at u is =
    let part = leads nodes done names table at.naming k (path_low (length nodes) done waiting k at.path) a u in
    let here : StandsAt nodes done names (waiting ++ k ∷ []) a whole = record {
      naming = at.naming;
      path = path_push (length nodes) done waiting k a at.path part.below part.undone;
      target = ap (λ rest. met_after (bits_at nodes names) (gates_of (bit_at nodes a) ++ rest)) (left_over-push nodes [] waiting k) ∙ part.first (left_over nodes [] waiting) ∙ at.target;
    } in
    subst (λ ws. StandsAt nodes done names ws a whole) (sym is) here

pub stands_above : (nodes : List Node) (done after : List Bool) (names numbered waiting waits : List ℕ) (k p : ℕ) (whole : List Bit) → StandsAt nodes done names waiting k whole → waiting ≡ waits ++ p ∷ [] → after ≡ set done k true → IsNaming nodes after numbered → bits_at nodes numbered ≡ met_after (bits_at nodes names) (gates_of (bit_at nodes k)) → StandsAt nodes after numbered waits p whole
stands_above nodes done after names numbered waiting waits k p whole at is marked naming met =
    let P : List Bool → Type 0 = λ d. IsPath (length nodes) d waits p in
    let Q : List ℕ → Type 0 = λ ws. IsPath (length nodes) done ws k in
    record {
      naming = naming;
      path = subst P (sym marked) (path_pop (length nodes) done waits p k (subst Q is at.path));
      target = ap (met_after (bits_at nodes numbered)) (sym (left_over-push nodes [] waits p) ∙ ap (left_over nodes []) (sym is)) ∙ ap (λ n. met_after n (left_over nodes [] waiting)) met ∙ sym (met_append (bits_at nodes names) (gates_of (bit_at nodes k)) (left_over nodes [] waiting)) ∙ at.target;
    }

pub stands_last : (nodes : List Node) (done : List Bool) (names numbered waiting : List ℕ) (k : ℕ) (whole : List Bit) → StandsAt nodes done names waiting k whole → waiting ≡ [] → bits_at nodes numbered ≡ met_after (bits_at nodes names) (gates_of (bit_at nodes k)) → bits_at nodes numbered ≡ whole
stands_last nodes done names numbered waiting k whole at none met =
    met ∙ ap (met_after (bits_at nodes names)) (sym (append-nil (gates_of (bit_at nodes k)))) ∙ ap (λ rest. met_after (bits_at nodes names) (gates_of (bit_at nodes k) ++ rest)) (sym (ap (left_over nodes []) none ∙ left_over-none nodes [])) ∙ at.target

-- the measure of the walk

open_after : (done : List Bool) (k : ℕ) → k < length done → is_done done k ≡ false → count_by not (set done k true) < count_by not done
open_after done k h e = grind (arith, common_steps)

pub measure_falls : (done after : List Bool) (k p size : ℕ) → k < length done → is_done done k ≡ false → after ≡ set done k true → p < size → count_by not after * (size + 1) + p < count_by not done * (size + 1) + k
measure_falls done after k p size h e is low =
    let fewer : count_by not after < count_by not done = rw is (open_after done k h e) in
    let c : count_by not after + 1 ≤ count_by not done = omega arith in
    let times : (size + 1) * (count_by not after + 1) ≤ (size + 1) * count_by not done = mul-le-mul_left (size + 1) c in
    omega (arith, times)

pub empty_of : (xs : List ℕ) → length xs ≡ 0 → xs ≡ []
empty_of [] h = refl
empty_of (x ∷ xs) h = absurd (omega arith)
