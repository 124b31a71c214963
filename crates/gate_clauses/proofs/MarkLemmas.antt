-- Marks, and the input bits that they reach.
use Rattle.std.proofs.Common.{◌≡◌, ◌<◌, ◌≤◌, ◌+◌, ℕ, Bool, true, false, ◌||◌, eqb, cond, Option, Some, None, is_some, List, [], ◌∷◌, ◌++◌, length, map, take, get_or, refl, sym, ap, ap₂, ◌∙◌, subst, arith, ◌⊎◌, inl, inr, ⊎_elim, replicate}
use Rattle.std.specs.List.{filter}
use Rattle.std.specs.Prelude.{◌==◌}
use Rattle.std.proofs.Math.ListN.{set, length-set}
use Rattle.std.proofs.lemmas.List.{get_or-set_same, get_or-set_other, take_more, map-append, get_or-replicate, length-replicate}
use Rattle.std.proofs.lemmas.List.{drop_all}
use Rattle.std.proofs.Common.{drop, append-nil, zero-add, take_all, ltb}
use borrow.Author.Tests.{ltb-true, ltb-false}
use Rattle.std.proofs.lemmas.List.Elements.{filter-append}
use Rattle.std.proofs.lemmas.List.Folds.{list_any-append}
use Rattle.std.proofs.lemmas.List.FromFn.{get_or-range_with_len, length-range_with_len}
use Rattle.std.proofs.lemmas.Bool.{cases_Bool, or_cases, or_left, or_right, eqb-true, eqb-false, eq-eqb, false≢true, cond-true, cond-false}
use Rattle.gates.specs.Bits.{Bit, constant, input, negation, conjunction, exclusive}
use Rattle.gates.specs.Clauses.{occurs, inputs_of, all_inputs}
use Rattle.nodes.specs.declared.table.Node.{Node}
use Rattle.nodes.specs.declared.table.Node.TheVariants.{Constant, Input, Not, And, Xor}
use Rattle.nodes.specs.Nodes.{bit_at, IsTable}
use Rattle.nodes.specs.Names.{bits_at, node_of, AreWithin}
use Rattle.nodes.proofs.WalkLemmas.{bits_at-push, bit_at-node, above_at, within_more}
use Rattle.gate_clauses.specs.Marks.{is_marked, occurs_in, IsOperand, MarksOperands, Reads, Marks, ArePlaces, Notes, position}

-- one mark more

marked-set_cases : (marks : List Bool) (a k : ℕ) → a < length marks → is_marked (set marks a true) k ≡ true → (is_marked marks k ≡ true) ⊎ (k ≡ a)
marked-set_cases marks a k h e =
    ⊎_elim (λ s. inr (eqb-true k a s)) (λ f. inl (sym (get_or-set_other marks a k true false (eqb-false k a f)) ∙ e)) (cases_Bool (eqb k a))

marked-set_same : (marks : List Bool) (a : ℕ) → a < length marks → is_marked (set marks a true) a ≡ true
marked-set_same marks a h = get_or-set_same marks a true false h

marked-set_keeps : (marks : List Bool) (a k : ℕ) → a < length marks → is_marked marks k ≡ true → is_marked (set marks a true) k ≡ true
marked-set_keeps marks a k h e =
    ⊎_elim (λ s. subst (λ x. is_marked (set marks a true) x ≡ true) (sym (eqb-true k a s)) (marked-set_same marks a h)) (λ f. get_or-set_other marks a k true false (eqb-false k a f) ∙ e) (cases_Bool (eqb k a))

pub marks_none : (node : Node) (marks : List Bool) → ((k : ℕ) → IsOperand node k → ⊥) → MarksOperands node marks marks
marks_none node marks none = record {
  sized = refl;
  kept = λ k e. e;
  added = λ k o. absurd (none k o);
  alone = λ k e. inl e;
}

pub marks_one : (a : ℕ) (marks : List Bool) → a < length marks → MarksOperands (Not a) marks (set marks a true)
marks_one a marks h = record {
  sized = length-set marks a true;
  kept = λ k e. marked-set_keeps marks a k h e;
  added = λ k o. subst (λ x. is_marked (set marks a true) x ≡ true) (sym o) (marked-set_same marks a h);
  alone = λ k e. marked-set_cases marks a k h e;
}

both_marked : (a b : ℕ) (marks : List Bool) → a < length marks → b < length marks → (k : ℕ) → (k ≡ a) ⊎ (k ≡ b) → is_marked (set (set marks a true) b true) k ≡ true
both_marked a b marks h i k (inl o) =
    marked-set_keeps (set marks a true) b k (omega (arith, length-set marks a true)) (subst (λ x. is_marked (set marks a true) x ≡ true) (sym o) (marked-set_same marks a h))
both_marked a b marks h i k (inr o) =
    subst (λ x. is_marked (set (set marks a true) b true) x ≡ true) (sym o) (marked-set_same (set marks a true) b (omega (arith, length-set marks a true)))

both_alone : (a b : ℕ) (marks : List Bool) → a < length marks → b < length marks → (k : ℕ) → is_marked (set (set marks a true) b true) k ≡ true → (is_marked marks k ≡ true) ⊎ ((k ≡ a) ⊎ (k ≡ b))
both_alone a b marks h i k e =
    ⊎_elim (λ x. ⊎_elim (λ y. inl y) (λ y. inr (inl y)) (marked-set_cases marks a k h x)) (λ x. inr (inr x)) (marked-set_cases (set marks a true) b k (omega (arith, length-set marks a true)) e)

pub marks_and : (a b : ℕ) (marks : List Bool) → a < length marks → b < length marks → MarksOperands (And a b) marks (set (set marks a true) b true)
marks_and a b marks h i = record {
  sized = length-set (set marks a true) b true ∙ length-set marks a true;
  kept = λ k e. marked-set_keeps (set marks a true) b k (omega (arith, length-set marks a true)) (marked-set_keeps marks a k h e);
  added = both_marked a b marks h i;
  alone = both_alone a b marks h i;
}

pub marks_xor : (a b : ℕ) (marks : List Bool) → a < length marks → b < length marks → MarksOperands (Xor a b) marks (set (set marks a true) b true)
marks_xor a b marks h i = record {
  sized = length-set (set marks a true) b true ∙ length-set marks a true;
  kept = λ k e. marked-set_keeps (set marks a true) b k (omega (arith, length-set marks a true)) (marked-set_keeps marks a k h e);
  added = both_marked a b marks h i;
  alone = both_alone a b marks h i;
}

pub marks_either : (node : Node) (a b : ℕ) (marks : List Bool) → a < length marks → b < length marks → (node ≡ And a b) ⊎ (node ≡ Xor a b) → MarksOperands node marks (set (set marks a true) b true)
marks_either node a b marks h i (inl e) =
    subst (λ x. MarksOperands x marks (set (set marks a true) b true)) (sym e) (marks_and a b marks h i)
marks_either node a b marks h i (inr e) =
    subst (λ x. MarksOperands x marks (set (set marks a true) b true)) (sym e) (marks_xor a b marks h i)

-- what an operand reads

occurs_not : (e a : Bit) (j : ℕ) → e ≡ negation a → occurs j e ≡ occurs j a
unfolding occurs
occurs_not e a j is = ap (occurs j) is

occurs_and : (e a b : Bit) (j : ℕ) → e ≡ conjunction a b → occurs j e ≡ (occurs j a || occurs j b)
unfolding occurs
occurs_and e a b j is = ap (occurs j) is

occurs_xor : (e a b : Bit) (j : ℕ) → e ≡ exclusive a b → occurs j e ≡ (occurs j a || occurs j b)
unfolding occurs
occurs_xor e a b j is = ap (occurs j) is

occurs_input : (e : Bit) (m j : ℕ) → e ≡ input m → occurs j e ≡ (j == m)
unfolding occurs
occurs_input e m j is = ap (occurs j) is

occurs_constant : (e : Bit) (b : Bool) (j : ℕ) → e ≡ constant b → occurs j e ≡ false
unfolding occurs
occurs_constant e b j is = ap (occurs j) is

module _ (nodes : List Node) (table : IsTable nodes) (p : ℕ) (h : p < length nodes) where
  up_either : (a b k j : ℕ) → occurs j (bit_at nodes p) ≡ (occurs j (bit_at nodes a) || occurs j (bit_at nodes b)) → (k ≡ a) ⊎ (k ≡ b) → occurs j (bit_at nodes k) ≡ true → occurs j (bit_at nodes p) ≡ true
  up_either a b k j is (inl o) e =
      is ∙ or_left (occurs j (bit_at nodes a)) (occurs j (bit_at nodes b)) (subst (λ x. occurs j (bit_at nodes x) ≡ true) o e)
  up_either a b k j is (inr o) e =
      is ∙ or_right (occurs j (bit_at nodes a)) (occurs j (bit_at nodes b)) (subst (λ x. occurs j (bit_at nodes x) ≡ true) o e)

  up : (g : Node) → node_of nodes p ≡ g → (k j : ℕ) → IsOperand g k → occurs j (bit_at nodes k) ≡ true → occurs j (bit_at nodes p) ≡ true
  up (Constant b) is k j o e = absurd o
  up (Input m) is k j o e = absurd o
  up (Not a) is k j o e =
      occurs_not (bit_at nodes p) (bit_at nodes a) j (bit_at-node nodes p (Not a) table h is) ∙ subst (λ x. occurs j (bit_at nodes x) ≡ true) o e
  up (And a b) is k j o e =
      up_either a b k j (occurs_and (bit_at nodes p) (bit_at nodes a) (bit_at nodes b) j (bit_at-node nodes p (And a b) table h is)) o e
  up (Xor a b) is k j o e =
      up_either a b k j (occurs_xor (bit_at nodes p) (bit_at nodes a) (bit_at nodes b) j (bit_at-node nodes p (Xor a b) table h is)) o e

  -- the node is the input bit, or an operand reads it
  Down : Node → ℕ → Type 0
  Down g j = (g ≡ Input j) ⊎ ((k : ℕ) × IsOperand g k × (k < p) × (occurs j (bit_at nodes k) ≡ true))

  down : (g : Node) → node_of nodes p ≡ g → (j : ℕ) → occurs j (bit_at nodes p) ≡ true → Down g j
  unfolding Down
  down (Constant b) is j e =
      absurd (false≢true (sym (occurs_constant (bit_at nodes p) b j (bit_at-node nodes p (Constant b) table h is)) ∙ e))
  down (Input m) is j e =
      inl (ap Input (sym (eqb-true j m (sym (occurs_input (bit_at nodes p) m j (bit_at-node nodes p (Input m) table h is)) ∙ e))))
  down (Not a) is j e =
      inr (a, refl, above_at nodes p (Not a) table h is, sym (occurs_not (bit_at nodes p) (bit_at nodes a) j (bit_at-node nodes p (Not a) table h is)) ∙ e)
  down (And a b) is j e =
      let low : (a < p) × (b < p) = above_at nodes p (And a b) table h is in
      ⊎_elim (λ x. inr (a, inl refl, low.0, x)) (λ x. inr (b, inr refl, low.1, x)) (or_cases (occurs j (bit_at nodes a)) (occurs j (bit_at nodes b)) (sym (occurs_and (bit_at nodes p) (bit_at nodes a) (bit_at nodes b) j (bit_at-node nodes p (And a b) table h is)) ∙ e))
  down (Xor a b) is j e =
      let low : (a < p) × (b < p) = above_at nodes p (Xor a b) table h is in
      ⊎_elim (λ x. inr (a, inl refl, low.0, x)) (λ x. inr (b, inr refl, low.1, x)) (or_cases (occurs j (bit_at nodes a)) (occurs j (bit_at nodes b)) (sym (occurs_xor (bit_at nodes p) (bit_at nodes a) (bit_at nodes b) j (bit_at-node nodes p (Xor a b) table h is)) ∙ e))

  operand_below : (g : Node) → node_of nodes p ≡ g → (k : ℕ) → IsOperand g k → k < p
  operand_below (Constant b) is k o = absurd o
  operand_below (Input m) is k o = absurd o
  operand_below (Not a) is k o = subst (λ x. x < p) (sym o) (above_at nodes p (Not a) table h is)
  operand_below (And a b) is k o =
      let low : (a < p) × (b < p) = above_at nodes p (And a b) table h is in
      ⊎_elim (λ x. subst (λ y. y < p) (sym x) low.0) (λ x. subst (λ y. y < p) (sym x) low.1) o
  operand_below (Xor a b) is k o =
      let low : (a < p) × (b < p) = above_at nodes p (Xor a b) table h is in
      ⊎_elim (λ x. subst (λ y. y < p) (sym x) low.0) (λ x. subst (λ y. y < p) (sym x) low.1) o

  module _ (c : List Bit) (marks : List Bool) (at : Marks nodes c (p + 1) marks) where
    lower : (after : List Bool) → ((k : ℕ) → is_marked marks k ≡ true → is_marked after k ≡ true) → (is_marked marks p ≡ true → (k : ℕ) → IsOperand (node_of nodes p) k → is_marked after k ≡ true) → (j : ℕ) → Reads nodes marks (p + 1) j → Reads nodes after p j
    unfolding Down
    lower after kept added j r = ⊎_elim (λ x. below x (cases_Bool (eqb r.place p))) (λ x. record {
      place = r.place;
      within = r.within;
      marked = kept r.place r.marked;
      reads = inr x;
    }) r.reads
      where
        at_p : is_marked marks p ≡ true → occurs j (bit_at nodes p) ≡ true → Down (node_of nodes p) j → Reads nodes after p j
        at_p m e (inl is) = record {
          place = p;
          within = h;
          marked = kept p m;
          reads = inr is;
        }
        at_p m e (inr d) = record {
          place = d.0;
          within = let low : d.0 < p = d.2 in omega arith;
          marked = added m d.0 d.1;
          reads = inl (d.2, d.3);
        }

        below : (r.place < p + 1) × (occurs j (bit_at nodes r.place) ≡ true) → (eqb r.place p ≡ true) ⊎ (eqb r.place p ≡ false) → Reads nodes after p j
        below x (inl s) =
            let same = eqb-true r.place p s in
            at_p (subst (λ y. is_marked marks y ≡ true) same r.marked) (subst (λ y. occurs j (bit_at nodes y) ≡ true) same x.1) (down (node_of nodes p) refl j (subst (λ y. occurs j (bit_at nodes y) ≡ true) same x.1))
        below x (inr f) = record {
          place = r.place;
          within = r.within;
          marked = kept r.place r.marked;
          reads = inl (let differ = eqb-false r.place p f in let low = x.0 in omega arith, x.1);
        }

    pub handed_down : (after : List Bool) → MarksOperands (node_of nodes p) marks after → is_marked marks p ≡ true → Marks nodes c p after
    handed_down after m here = record {
      sized = m.sized ∙ at.sized;
      sound = λ k low e j q. ⊎_elim (λ x. at.sound k low x j q) (λ o. at.sound p h here j (up (node_of nodes p) refl k j o q)) (m.alone k e);
      complete = λ j e. lower after m.kept (λ _. m.added) j (at.complete j e);
    }

    pub passed_over : is_marked marks p ≡ false → Marks nodes c p marks
    passed_over none = record {
      sized = at.sized;
      sound = at.sound;
      complete = λ j e. lower marks (λ k x. x) (λ m. absurd (false≢true (sym none ∙ m))) j (at.complete j e);
    }

-- the conjuncts

pub marks_first : (nodes : List Node) (marks : List Bool) → marks ≡ replicate (length nodes) false → Marks nodes (bits_at nodes []) (length nodes) marks
unfolding bits_at
marks_first nodes marks is = record {
  sized = ap length is ∙ length-replicate (length nodes) false;
  sound = λ k low e. absurd (false≢true (sym (ap (λ m. is_marked m k) is ∙ get_or-replicate (length nodes) k false false low) ∙ e));
  complete = λ j e. absurd (false≢true e);
}

module _ (nodes : List Node) (ks : List ℕ) (k : ℕ) (marks : List Bool) (h : k < length nodes) (at : Marks nodes (bits_at nodes ks) (length nodes) marks) where
  wider : (j : ℕ) → occurs_in (bits_at nodes (ks ++ k ∷ [])) j ≡ (occurs_in (bits_at nodes ks) j || (occurs j (bit_at nodes k) || false))
  wider j =
      ap (λ c. occurs_in c j) (bits_at-push nodes ks k) ∙ list_any-append (occurs j) (bits_at nodes ks) (bit_at nodes k ∷ [])

  in_range : k < length marks
  in_range = omega (arith, at.sized)

  pub marks_more : Marks nodes (bits_at nodes (ks ++ k ∷ [])) (length nodes) (set marks k true)
  marks_more = record {
    sized = length-set marks k true ∙ at.sized;
    sound = λ x low e j q. wider j ∙ ⊎_elim (λ m. or_left (occurs_in (bits_at nodes ks) j) (occurs j (bit_at nodes k) || false) (at.sound x low m j q)) (λ same. or_right (occurs_in (bits_at nodes ks) j) (occurs j (bit_at nodes k) || false) (or_left (occurs j (bit_at nodes k)) false (subst (λ y. occurs j (bit_at nodes y) ≡ true) same q))) (marked-set_cases marks k x in_range e);
    complete = λ j e. ⊎_elim (λ old. let r = at.complete j old in record {
      place = r.place;
      within = r.within;
      marked = marked-set_keeps marks k r.place in_range r.marked;
      reads = r.reads;
    }) (λ new. record {
      place = k;
      within = h;
      marked = marked-set_same marks k in_range;
      reads = inl (h, ⊎_elim (λ x. x) (λ x. absurd (false≢true x)) (or_cases (occurs j (bit_at nodes k)) false new));
    }) (or_cases (occurs_in (bits_at nodes ks) j) (occurs j (bit_at nodes k) || false) (sym (wider j) ∙ e));
  }

-- the places of the input bits

pub places_first : (nodes : List Node) (marks : List Bool) (places : List (Option ℕ)) → places ≡ replicate 512 None → ArePlaces nodes marks 0 places
places_first nodes marks places is = record {
  sized = ap length is ∙ length-replicate {A = Option ℕ} 512 None;
  found = λ j k low e. none_is_not_some j k (sym (ap (λ ps. get_or ps j None) is ∙ get_or-replicate 512 j None None low) ∙ e);
  all = λ k j low. absurd (omega arith);
}
  where
    none_is_not_some : (j k : ℕ) → None ≡ Some k → (k < length nodes) × (is_marked marks k ≡ true) × (node_of nodes k ≡ Input j)
    none_is_not_some j k e = absurd (cc)

module _ (nodes : List Node) (marks : List Bool) (places : List (Option ℕ)) (k : ℕ) (h : k < length nodes) (at : ArePlaces nodes marks k places) where
  pub places_unmarked : is_marked marks k ≡ false → ArePlaces nodes marks (k + 1) places
  places_unmarked none = record {
    sized = at.sized;
    found = at.found;
    all = λ x j low m. ⊎_elim (λ s. absurd (false≢true (sym none ∙ subst (λ y. is_marked marks y ≡ true) (eqb-true x k s) m))) (λ f. at.all x j (let differ = eqb-false x k f in omega arith) m) (cases_Bool (eqb x k));
  }

  other_node : ((j : ℕ) → node_of nodes k ≡ Input j → j < 512 → ⊥) → ArePlaces nodes marks (k + 1) places
  other_node not_input = record {
    sized = at.sized;
    found = at.found;
    all = λ x j low m in_range is. ⊎_elim (λ s. absurd (not_input j (subst (λ y. node_of nodes y ≡ Input j) (eqb-true x k s) is) in_range)) (λ f. at.all x j (let differ = eqb-false x k f in omega arith) m in_range is) (cases_Bool (eqb x k));
  }

  same_input : (m j : ℕ) → node_of nodes k ≡ Input m → node_of nodes k ≡ Input j → m ≡ j
  same_input m j e f = cc

  noted : (m : ℕ) → m < 512 → node_of nodes k ≡ Input m → is_marked marks k ≡ true → ArePlaces nodes marks (k + 1) (set places m (Some k))
  noted m low is marked = record {
    sized = length-set places m (Some k) ∙ at.sized;
    found = λ j q in_range e. ⊎_elim (λ s. found_here j q (eqb-true j m s) e) (λ f. at.found j q in_range (sym (get_or-set_other places m j (Some k) None (eqb-false j m f)) ∙ e)) (cases_Bool (eqb j m));
    all = λ x j low_x mark in_range is_x. ⊎_elim (λ s. noted_there j (eqb-true j m s)) (λ f. ap is_some (get_or-set_other places m j (Some k) None (eqb-false j m f)) ∙ at.all x j (earlier x j low_x is_x (eqb-false j m f)) mark in_range is_x) (cases_Bool (eqb j m));
  }
    where
      wide : m < length places
      wide = omega (arith, at.sized)

      place_is : (q : ℕ) → Some k ≡ Some q → k ≡ q
      place_is q e = cc

      found_here : (j q : ℕ) → j ≡ m → get_or (set places m (Some k)) j None ≡ Some q → (q < length nodes) × (is_marked marks q ≡ true) × (node_of nodes q ≡ Input j)
      found_here j q same e =
          let P : ℕ → Type 0 = λ x. (x < length nodes) × (is_marked marks x ≡ true) × (node_of nodes x ≡ Input j) in
          subst P (place_is q (sym (get_or-set_same places m (Some k) None wide) ∙ subst (λ x. get_or (set places m (Some k)) x None ≡ Some q) same e)) (h, marked, is ∙ ap Input (sym same))

      noted_there : (j : ℕ) → j ≡ m → is_some (get_or (set places m (Some k)) j None) ≡ true
      noted_there j same =
          subst (λ x. is_some (get_or (set places m (Some k)) x None) ≡ true) (sym same) (ap is_some (get_or-set_same places m (Some k) None wide))

      earlier : (x j : ℕ) → x < k + 1 → node_of nodes x ≡ Input j → (j ≡ m → ⊥) → x < k
      earlier x j low_x is_x differs =
          ⊎_elim (λ s. absurd (differs (sym (same_input m j is (subst (λ y. node_of nodes y ≡ Input j) (eqb-true x k s) is_x))))) (λ f. let differ = eqb-false x k f in omega arith) (cases_Bool (eqb x k))

  by_node : (g : Node) (after : List (Option ℕ)) → node_of nodes k ≡ g → is_marked marks k ≡ true → Notes g k places after → ArePlaces nodes marks (k + 1) after
  by_node (Constant b) after is m e =
      subst (λ ps. ArePlaces nodes marks (k + 1) ps) (sym e) (other_node (λ j q low. absurd (let f = sym is ∙ q in cc)))
  by_node (Not a) after is m e =
      subst (λ ps. ArePlaces nodes marks (k + 1) ps) (sym e) (other_node (λ j q low. absurd (let f = sym is ∙ q in cc)))
  by_node (And a b) after is m e =
      subst (λ ps. ArePlaces nodes marks (k + 1) ps) (sym e) (other_node (λ j q low. absurd (let f = sym is ∙ q in cc)))
  by_node (Xor a b) after is m e =
      subst (λ ps. ArePlaces nodes marks (k + 1) ps) (sym e) (other_node (λ j q low. absurd (let f = sym is ∙ q in cc)))
  by_node (Input x) after is m e = ⊎_elim (λ t. subst (λ ps. ArePlaces nodes marks (k + 1) ps) (sym (e ∙ cond-true (ltb x 512) (set places x (Some k)) places t)) (noted x (ltb-true x 512 t) is m)) (λ f. subst (λ ps. ArePlaces nodes marks (k + 1) ps) (sym (e ∙ cond-false (ltb x 512) (set places x (Some k)) places f)) (other_node (λ j q low. let same : x ≡ j = same_input x j is q in let high : 512 ≤ x = ltb-false x 512 f in omega arith))) (cases_Bool (ltb x 512))

  pub places_more : (after : List (Option ℕ)) → is_marked marks k ≡ true → Notes (node_of nodes k) k places after → ArePlaces nodes marks (k + 1) after
  places_more after m e = by_node (node_of nodes k) after refl m e

-- the input bits below a bound that occur

pub taken : List Bit → ℕ → List ℕ
taken c n = filter (occurs_in c) (take n all_inputs)

input_at : (j : ℕ) → j < 512 → get_or all_inputs j 0 ≡ j
unfolding all_inputs
input_at j low = get_or-range_with_len 0 512 j 0 low ∙ zero-add j

input_count : length all_inputs ≡ 512
unfolding all_inputs
input_count = length-range_with_len 0 512

one_filtered : (p : ℕ → Bool) (j : ℕ) (b : Bool) → p j ≡ b → filter p (j ∷ []) ≡ cond b (j ∷ []) []
one_filtered p j true e = cond-true (p j) (j ∷ []) [] e
one_filtered p j false e = cond-false (p j) (j ∷ []) [] e

taken-more : (c : List Bit) (j : ℕ) (b : Bool) → j < 512 → occurs_in c j ≡ b → taken c (j + 1) ≡ taken c j ++ cond b (j ∷ []) []
unfolding taken
taken-more c j b low e =
    ap (filter (occurs_in c)) (take_more all_inputs j 0 (omega (arith, input_count)) ∙ ap (λ x. take j all_inputs ++ x ∷ []) (input_at j low)) ∙ filter-append (occurs_in c) (take j all_inputs) (j ∷ []) ∙ ap (λ x. taken c j ++ x) (one_filtered (occurs_in c) j b e)

pub taken-all : (c : List Bit) (n : ℕ) → 512 ≤ n → taken c n ≡ inputs_of c
unfolding taken
taken-all c n h = ap (filter (occurs_in c)) (take_all n all_inputs (omega (arith, input_count)))

pub taken-none : (c : List Bit) → taken c 0 ≡ []
unfolding taken
taken-none c = refl

-- the names and positions of the input bits so far
pub record NamesInputs (nodes : List Node) (c : List Bit) (j : ℕ) (names : List ℕ) (bits : List (ℕ × ℕ)) : Type 0 where
  pub within : AreWithin nodes names
  pub named : bits_at nodes names ≡ map input (taken c j)
  pub positions : bits ≡ map position (taken c j)

pub names_first : (nodes : List Node) (c : List Bit) (names : List ℕ) (bits : List (ℕ × ℕ)) → names ≡ [] → bits ≡ [] → NamesInputs nodes c 0 names bits
unfolding bits_at
names_first nodes c names bits is none = record {
  within = λ j low. absurd (let e = ap length is in omega arith);
  named = ap (bits_at nodes) is ∙ ap (map input) (sym (taken-none c));
  positions = none ∙ ap (map position) (sym (taken-none c));
}

module _ (nodes : List Node) (c : List Bit) (marks : List Bool) (places : List (Option ℕ)) (table : IsTable nodes) (read : Marks nodes c 0 marks) (at : ArePlaces nodes marks (length nodes) places) (j : ℕ) (low : j < 512) where
  input_bit : (k : ℕ) → k < length nodes → node_of nodes k ≡ Input j → bit_at nodes k ≡ input j
  input_bit k h is = bit_at-node nodes k (Input j) table h is

  occurs_when_found : (k : ℕ) → get_or places j None ≡ Some k → occurs_in c j ≡ true
  occurs_when_found k e =
      let f = at.found j k low e in
      read.sound k f.0 f.1 j (occurs_input (bit_at nodes k) j j (input_bit k f.0 f.2) ∙ eq-eqb j j refl)

  absent_when_none : get_or places j None ≡ None → occurs_in c j ≡ false
  absent_when_none e = ⊎_elim (λ t. absurd (false≢true (sym (ap is_some e) ∙ there (read.complete j t)))) (λ f. f) (cases_Bool (occurs_in c j))
    where
      there : Reads nodes marks 0 j → is_some (get_or places j None) ≡ true
      there r = ⊎_elim (λ x. absurd (let below = x.0 in omega arith)) (λ x. at.all r.place j r.within r.marked low x) r.reads

  module _ (names : List ℕ) (bits : List (ℕ × ℕ)) (so_far : NamesInputs nodes c j names bits) where
    pub names_same : get_or places j None ≡ None → NamesInputs nodes c (j + 1) names bits
    names_same e =
        let more : taken c (j + 1) ≡ taken c j = taken-more c j false low (absent_when_none e) ∙ append-nil (taken c j) in
        record {
          within = so_far.within;
          named = so_far.named ∙ ap (map input) (sym more);
          positions = so_far.positions ∙ ap (map position) (sym more);
        }

    pub names_more : (k : ℕ) (after : List ℕ) (later : List (ℕ × ℕ)) → get_or places j None ≡ Some k → after ≡ names ++ k ∷ [] → later ≡ bits ++ position j ∷ [] → NamesInputs nodes c (j + 1) after later
    names_more k after later e is bits_is =
        let f = at.found j k low e in
        let more : taken c (j + 1) ≡ taken c j ++ j ∷ [] = taken-more c j true low (occurs_when_found k e) in
        record {
          within = subst (AreWithin nodes) (sym is) (within_more nodes names k so_far.within f.0);
          named = ap (bits_at nodes) is ∙ bits_at-push nodes names k ∙ ap₂ (λ x y. x ++ y ∷ []) so_far.named (input_bit k f.0 f.2) ∙ sym (map-append input (taken c j) (j ∷ [])) ∙ ap (map input) (sym more);
          positions = bits_is ∙ ap (λ x. x ++ position j ∷ []) so_far.positions ∙ sym (map-append position (taken c j) (j ∷ [])) ∙ ap (map position) (sym more);
        }

-- a list written over one as long
pub written : (new old : List Bool) (n : ℕ) → length new ≡ n → length old ≡ n → take n (new ++ drop (length new) old) ≡ new
written new old n long old_long =
    let short : length old ≤ length new = omega arith in
    let whole : length new ≤ n = omega arith in
    rw (drop_all (length new) old short, append-nil new) (take_all n new whole)

pub none_of : (o : Option ℕ) → ((k : ℕ) → o ≡ Some k → ⊥) → o ≡ None
none_of None h = refl
none_of (Some k) h = absurd (h k refl)
