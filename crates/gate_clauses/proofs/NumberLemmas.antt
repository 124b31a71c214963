-- The numbers of places, and the literals over them.
use Rattle.std.proofs.Common.{◌≡◌, ◌<◌, ◌≤◌, ◌+◌, ℕ, zero, suc, Bool, true, false, eqb, List, [], ◌∷◌, ◌++◌, length, map, take, get_or, flat_map, refl, sym, ap, ap₂, ◌∙◌, subst, arith, ⊎_elim, replicate, append-nil, append_assoc, take_all, add-one, zero-add, length-append, ◌||◌}
use Rattle.std.specs.Prelude.{not}
use Rattle.std.proofs.Math.ListN.{set, length-set}
use Rattle.std.proofs.lemmas.List.{get_or-set_same, get_or-set_other, get_or-map, length-map, get_or-replicate, length-replicate, take_more, map-id, get_or_append_left}
use Rattle.std.proofs.lemmas.List.FromFn.{fill_by_all}
use Rattle.std.proofs.lemmas.List.Folds.{list_any-append}
use Rattle.std.proofs.lemmas.Grind.{flat_map-append}
use Rattle.std.specs.List.{list_any, filter, range_with_len}
use Rattle.std.proofs.lemmas.Bool.{cases_Bool, cases_lt, eqb-true, eqb-false, or_left, or_right, false≢true, cond-true, cond-false}
use Rattle.cnf.specs.declared.Lit.{Lit}
use Rattle.cnf.specs.Literals.{negated}
use Rattle.cnf.proofs.SetLemmas.{negated-negated}
use Rattle.gates.specs.Bits.{Bit, constant, input, negation}
use Rattle.gates.specs.Clauses.{same_bit, has, number_of, literal_of, names_of, inputs_of, order_of, occurs, all_inputs, met_after, gates_of, conjunct_clauses, gate_clauses, clauses_of}
use Rattle.gates.proofs.NameLemmas.{numbered, number-name}
use Rattle.nodes.specs.declared.table.Node.{Node}
use Rattle.nodes.specs.declared.table.Node.TheVariants.{Constant, Input, Not, And, Xor}
use Rattle.nodes.specs.Nodes.{bit_at, bit_of, bits_of, IsTable}
use Rattle.nodes.specs.Names.{bits_at, node_of, is_gate, AreWithin, IsNaming}
use Rattle.nodes.proofs.GrowthLemmas.{length-bits_at}
use Rattle.nodes.proofs.NodeLemmas.{one_place}
use Rattle.nodes.proofs.WalkLemmas.{bits_at-push, bit_at-node, above_at, met_append}
use Rattle.gate_clauses.specs.Numbers.{IsNumbered, AreNumbers, signed}

get_or-bits_at : (nodes : List Node) (names : List ℕ) (n : ℕ) (d : Bit) → n < length names → get_or (bits_at nodes names) n d ≡ bit_at nodes (get_or names n 0)
unfolding bits_at
get_or-bits_at nodes names n d h = get_or-map (bit_at nodes) names n 0 d h

number_at_most : (names : List Bit) (e : Bit) → number_of names e ≤ length names
number_at_most [] e = omega arith
number_at_most (n ∷ names) e =
    ⊎_elim (λ t. rw (cond-true (same_bit e n) 0 (suc (number_of names e)) t) (omega arith)) (λ f. rw (cond-false (same_bit e n) 0 (suc (number_of names e)) f) (let rest = number_at_most names e in omega arith)) (cases_Bool (same_bit e n))

has_when_numbered : (names : List Bit) (e : Bit) → number_of names e < length names → has names e ≡ true
has_when_numbered [] e h = absurd (omega arith)
has_when_numbered (n ∷ names) e h =
    ⊎_elim (λ t. or_left (same_bit e n) (has names e) t) (λ f. or_right (same_bit e n) (has names e) (has_when_numbered names e (let step = rw (cond-false (same_bit e n) 0 (suc (number_of names e)) f) at h in omega (arith, step)))) (cases_Bool (same_bit e n))

-- the numbers below the bound are written
pub record NumbersBelow (nodes : List Node) (names : List ℕ) (bound : ℕ) (numbers : List ℕ) : Type 0 where
  pub sized : length numbers ≡ length nodes
  pub low : (k : ℕ) → k < length nodes → number_of (bits_at nodes names) (bit_at nodes k) < bound → get_or numbers k 0 ≡ number_of (bits_at nodes names) (bit_at nodes k)
  pub high : (k : ℕ) → k < length nodes → bound ≤ number_of (bits_at nodes names) (bit_at nodes k) → get_or numbers k 0 ≡ length names

pub numbers_first : (nodes : List Node) (names numbers : List ℕ) (size count : ℕ) → size ≡ length nodes → count ≡ length names → numbers ≡ replicate size count → NumbersBelow nodes names 0 numbers
numbers_first nodes names numbers size count long many is = record {
  sized = ap length is ∙ length-replicate size count ∙ long;
  low = λ k h e. absurd (omega arith);
  high = λ k h e. ap (λ ns. get_or ns k 0) is ∙ get_or-replicate size k count 0 (omega arith) ∙ many;
}

module _ (nodes : List Node) (names : List ℕ) (table : IsTable nodes) (within : AreWithin nodes names) (right : IsNumbered nodes names) where
  same_number : (k i : ℕ) → k < length nodes → i < length names → number_of (bits_at nodes names) (bit_at nodes k) ≡ i → k ≡ get_or names i 0
  same_number k i h low e =
      let bits = bits_at nodes names in
      let there : number_of bits (bit_at nodes k) < length bits = omega (arith, e, length-bits_at nodes names) in
      let found : get_or bits (number_of bits (bit_at nodes k)) (constant false) ≡ bit_at nodes k = numbered bits (bit_at nodes k) (constant false) (has_when_numbered bits (bit_at nodes k) there) in
      let here : bit_at nodes (get_or names i 0) ≡ bit_at nodes k = sym (get_or-bits_at nodes names i (constant false) low) ∙ ap (λ n. get_or bits n (constant false)) (sym e) ∙ found in
      one_place nodes table k (get_or names i 0) h (within i low) (sym here)

  pub numbers_more : (numbers : List ℕ) (i : ℕ) → i < length names → NumbersBelow nodes names i numbers → NumbersBelow nodes names (i + 1) (set numbers (get_or names i 0) i)
  numbers_more numbers i h at = record {
    sized = length-set numbers place i ∙ at.sized;
    low = λ k in_range e. ⊎_elim (λ s. subst (λ x. get_or (set numbers place i) x 0 ≡ number_of (bits_at nodes names) (bit_at nodes x)) (sym (eqb-true k place s)) (get_or-set_same numbers place i 0 wide ∙ sym (right i h))) (λ f. get_or-set_other numbers place k i 0 (eqb-false k place f) ∙ at.low k in_range (lower k in_range e (eqb-false k place f))) (cases_Bool (eqb k place));
    high = λ k in_range e. get_or-set_other numbers place k i 0 (λ same. let n = ap (λ x. number_of (bits_at nodes names) (bit_at nodes x)) same ∙ right i h in omega arith) ∙ at.high k in_range (omega arith);
  }
    where
      place : ℕ
      place = get_or names i 0

      wide : place < length numbers
      wide = let low = within i h in omega (arith, low, at.sized)

      lower : (k : ℕ) → k < length nodes → number_of (bits_at nodes names) (bit_at nodes k) < i + 1 → (k ≡ place → ⊥) → number_of (bits_at nodes names) (bit_at nodes k) < i
      lower k in_range e differs =
          ⊎_elim (λ s. absurd (differs (same_number k i in_range h (eqb-true (number_of (bits_at nodes names) (bit_at nodes k)) i s)))) (λ f. let differ = eqb-false (number_of (bits_at nodes names) (bit_at nodes k)) i f in omega arith) (cases_Bool (eqb (number_of (bits_at nodes names) (bit_at nodes k)) i))

pub numbers_all : (nodes : List Node) (names numbers : List ℕ) (i : ℕ) → length names ≤ i → NumbersBelow nodes names i numbers → AreNumbers nodes names numbers
numbers_all nodes names numbers i past at = record {
  sized = at.sized;
  right = λ k h. ⊎_elim (λ low. at.low k h low) (λ high. at.high k h high ∙ end k h high) (cases_lt (number_of (bits_at nodes names) (bit_at nodes k)) i);
}
  where
    end : (k : ℕ) → k < length nodes → i ≤ number_of (bits_at nodes names) (bit_at nodes k) → length names ≡ number_of (bits_at nodes names) (bit_at nodes k)
    end k h high =
        let most = number_at_most (bits_at nodes names) (bit_at nodes k) in omega (arith, most, length-bits_at nodes names)

-- literals

signed-not : (p : Bool) (l : Lit) → signed p (negated l) ≡ signed (not p) l
signed-not true l = refl
signed-not false l = negated-negated l

literal_of-not : (names : List Bit) (e a : Bit) → e ≡ negation a → literal_of names e ≡ negated (literal_of names a)
unfolding literal_of
literal_of-not names e a is = ap (literal_of names) is

pub literal_inside : (nodes : List Node) (names : List ℕ) (table : IsTable nodes) (at a : ℕ) (p : Bool) (l : Lit) → at < length nodes → node_of nodes at ≡ Not a → l ≡ signed p (literal_of (bits_at nodes names) (bit_at nodes at)) → l ≡ signed (not p) (literal_of (bits_at nodes names) (bit_at nodes a))
literal_inside nodes names table at a p l h is e =
    e ∙ ap (signed p) (literal_of-not (bits_at nodes names) (bit_at nodes at) (bit_at nodes a) (bit_at-node nodes at (Not a) table h is)) ∙ signed-not p (literal_of (bits_at nodes names) (bit_at nodes a))

pub inside_below : (nodes : List Node) (table : IsTable nodes) (at a : ℕ) → at < length nodes → node_of nodes at ≡ Not a → a < at
inside_below nodes table at a h is = above_at nodes at (Not a) table h is

plain : List Bit → Bit → Lit
plain names e = record { var = number_of names e; positive = true }

literal_plain : (names : List Bit) (done : List Bit) (e : Bit) (g : Node) → e ≡ bit_of done g → ((a : ℕ) → g ≡ Not a → ⊥) → literal_of names e ≡ plain names e
unfolding literal_of plain
literal_plain names done e (Constant b) is other = rw is refl
literal_plain names done e (Input j) is other = rw is refl
literal_plain names done e (Not a) is other = absurd (other a refl)
literal_plain names done e (And a b) is other = rw is refl
literal_plain names done e (Xor a b) is other = rw is refl

signed-plain : (p : Bool) (n : ℕ) → signed p (record { var = n; positive = true }) ≡ record { var = n; positive = p }
signed-plain true n = refl
signed-plain false n = refl

pub literal_end : (nodes : List Node) (names numbers : List ℕ) (at : ℕ) (g : Node) (p : Bool) (l : Lit) → IsTable nodes → AreNumbers nodes names numbers → at < length nodes → g ≡ node_of nodes at → ((a : ℕ) → g ≡ Not a → ⊥) → l ≡ signed p (literal_of (bits_at nodes names) (bit_at nodes at)) → record { var = get_or numbers at 0; positive = p } ≡ l
unfolding plain
literal_end nodes names numbers at g p l table right h is other e =
    ap (λ n. record { var = n; positive = p }) (right.right at h) ∙ sym (signed-plain p (number_of (bits_at nodes names) (bit_at nodes at))) ∙ ap (signed p) (sym (literal_plain (bits_at nodes names) (bits_of nodes) (bit_at nodes at) g (bit_at-node nodes at g table h (sym is)) other)) ∙ sym e

-- lists of clauses

pub flat_none : (f : Bit → List (List Lit)) (nodes : List Node) → flat_map f (bits_at nodes []) ≡ []
unfolding bits_at
flat_none f nodes = refl

pub flat_more : (f : Bit → List (List Lit)) (nodes : List Node) (ks : List ℕ) (i : ℕ) → i < length ks → flat_map f (bits_at nodes (take (i + 1) ks)) ≡ flat_map f (bits_at nodes (take i ks)) ++ f (bit_at nodes (get_or ks i 0))
flat_more f nodes ks i h =
    let e = bit_at nodes (get_or ks i 0) in
    ap (λ x. flat_map f (bits_at nodes x)) (take_more ks i 0 h) ∙ ap (flat_map f) (bits_at-push nodes (take i ks) (get_or ks i 0)) ∙ flat_map-append f (bits_at nodes (take i ks)) (e ∷ []) ∙ ap (λ x. flat_map f (bits_at nodes (take i ks)) ++ x) (append-nil (f e))

pub flat_all : (f : Bit → List (List Lit)) (nodes : List Node) (ks : List ℕ) (i : ℕ) → length ks ≤ i → flat_map f (bits_at nodes (take i ks)) ≡ flat_map f (bits_at nodes ks)
flat_all f nodes ks i past = ap (λ x. flat_map f (bits_at nodes x)) (take_all i ks past)

-- the input bits come first

range_push : (a n : ℕ) → range_with_len a (suc n) ≡ range_with_len a n ++ (a + n) ∷ []
range_push a zero = ap (λ x. x ∷ []) (omega arith)
range_push a (suc n) =
    let e : a + 1 + n ≡ a + suc n = omega arith in
    ap (λ x. a ∷ x) (range_push (a + 1) n ∙ ap (λ x. range_with_len (a + 1) n ++ x ∷ []) e)

pub range_more : (n : ℕ) (xs ys : List ℕ) → xs ≡ range_with_len 0 n → ys ≡ xs ++ n ∷ [] → ys ≡ range_with_len 0 (n + 1)
range_more n xs ys is more =
    more ∙ ap (λ x. x ++ n ∷ []) is ∙ sym (ap (range_with_len 0) (add-one n) ∙ range_push 0 n ∙ ap (λ x. range_with_len 0 n ++ x ∷ []) (zero-add n))

has_input : (done : List Bit) (a j : ℕ) → (a ≡ j → ⊥) → has done (input j) ≡ false → has (done ++ input a ∷ []) (input j) ≡ false
unfolding same_bit
has_input done a j differs none =
    list_any-append (same_bit (input j)) done (input a ∷ []) ∙ ap₂ (λ x y. x || (y || false)) none (⊎_elim (λ t. absurd (differs (sym (eqb-true j a t)))) (λ f. f) (cases_Bool (eqb j a)))

met_range : (p : ℕ → Bool) (n a : ℕ) (done : List Bit) → ((j : ℕ) → a ≤ j → has done (input j) ≡ false) → met_after done (map input (filter p (range_with_len a n))) ≡ done ++ map input (filter p (range_with_len a n))
unfolding met_after
met_range p zero a done fresh = sym (append-nil done)
met_range p (suc n) a done fresh =
    by_test (p a) refl (met_range p n (a + 1) (done ++ input a ∷ []) next) (met_range p n (a + 1) done (λ j h. fresh j (omega arith)))
  where
    rest : List ℕ
    rest = filter p (range_with_len (a + 1) n)

    whole : List ℕ
    whole = filter p (range_with_len a (suc n))

    next : (j : ℕ) → a + 1 ≤ j → has (done ++ input a ∷ []) (input j) ≡ false
    next j h = has_input done a j (λ e. absurd (let f : a ≡ j = e in omega arith)) (fresh j (omega arith))

    by_test : (b : Bool) → p a ≡ b → met_after (done ++ input a ∷ []) (map input rest) ≡ (done ++ input a ∷ []) ++ map input rest → met_after done (map input rest) ≡ done ++ map input rest → met_after done (map input whole) ≡ done ++ map input whole
    by_test true e more same =
        let is : whole ≡ a ∷ rest = cond-true (p a) (a ∷ rest) rest e in
        ap (λ x. met_after done (map input x)) is ∙ ap (λ names. met_after names (map input rest)) (cond-false (has done (input a)) done (done ++ input a ∷ []) (fresh a (omega arith))) ∙ more ∙ append_assoc done (input a ∷ []) (map input rest) ∙ ap (λ x. done ++ map input x) (sym is)
    by_test false e more same =
        let is : whole ≡ rest = cond-false (p a) (a ∷ rest) rest e in
        ap (λ x. met_after done (map input x)) is ∙ same ∙ ap (λ x. done ++ map input x) (sym is)

pub names_of_from : (c : List Bit) → met_after (map input (inputs_of c)) (flat_map gates_of c) ≡ names_of c
unfolding names_of all_inputs
names_of_from c =
    sym (met_append [] (map input (inputs_of c)) (flat_map gates_of c) ∙ ap (λ names. met_after names (flat_map gates_of c)) (met_range (λ k. list_any (occurs k) c) 512 0 [] (λ j h. refl)))

met_extends : (names es : List Bit) → (more : List Bit) × (met_after names es ≡ names ++ more)
unfolding met_after
met_extends names [] = ([], sym (append-nil names))
met_extends names (e ∷ es) =
    ⊎_elim (λ t. let rest = met_extends names es in (rest.0, ap (λ x. met_after x es) (cond-true (has names e) names (names ++ e ∷ []) t) ∙ rest.1)) (λ f. let rest = met_extends (names ++ e ∷ []) es in (e ∷ rest.0, ap (λ x. met_after x es) (cond-false (has names e) names (names ++ e ∷ []) f) ∙ rest.1 ∙ append_assoc names (e ∷ []) rest.0)) (cases_Bool (has names e))

-- the variables of the input bits are the first
pub order_is : (c : List Bit) (n : ℕ) → n ≡ length (inputs_of c) → range_with_len 0 n ≡ order_of c
order_is c n is =
    sym (fill_by_all (λ k. k) (order_of c) n 0 (length-map (inputs_of c) (λ k. number_of (names_of c) (input k)) ∙ sym is) (λ k h. number_at k (omega arith)) ∙ map-id (range_with_len 0 n))
  where
    more : (m : List Bit) × (met_after (map input (inputs_of c)) (flat_map gates_of c) ≡ map input (inputs_of c) ++ m)
    more = met_extends (map input (inputs_of c)) (flat_map gates_of c)

    names_are : names_of c ≡ map input (inputs_of c) ++ more.0
    names_are = sym (names_of_from c) ∙ more.1

    long : length (map input (inputs_of c)) ≡ length (inputs_of c)
    long = length-map (inputs_of c) input

    name_at : (k : ℕ) → k < length (inputs_of c) → get_or (names_of c) k (constant false) ≡ input (get_or (inputs_of c) k 0)
    name_at k h =
        ap (λ ns. get_or ns k (constant false)) names_are ∙ get_or_append_left (map input (inputs_of c)) more.0 (constant false) k (omega (arith, long)) ∙ get_or-map input (inputs_of c) k 0 (constant false) h

    wide : (k : ℕ) → k < length (inputs_of c) → k < length (names_of c)
    wide k h = omega (arith, long, ap length names_are, length-append (map input (inputs_of c)) more.0)

    number_at : (k : ℕ) → k < length (inputs_of c) → get_or (order_of c) k 0 ≡ k
    number_at k h =
        get_or-map (λ j. number_of (names_of c) (input j)) (inputs_of c) k 0 0 h ∙ ap (number_of (names_of c)) (sym (name_at k h)) ∙ number-name c k (constant false) (wide k h)

gate_is_no_input : (done : List Bit) (e : Bit) (g : Node) (j : ℕ) → e ≡ bit_of done g → is_gate g ≡ true → same_bit e (input j) ≡ false
unfolding same_bit
gate_is_no_input done e (Constant b) j is gate = absurd (false≢true gate)
gate_is_no_input done e (Input m) j is gate = absurd (false≢true gate)
gate_is_no_input done e (Not a) j is gate = absurd (false≢true gate)
gate_is_no_input done e (And a b) j is gate = ap (λ x. same_bit x (input j)) is
gate_is_no_input done e (Xor a b) j is gate = ap (λ x. same_bit x (input j)) is

no_input : (e : Bit) (ks : List ℕ) → ((j : ℕ) → same_bit e (input j) ≡ false) → has (map input ks) e ≡ false
no_input e [] h = refl
no_input e (k ∷ ks) h = ap₂ (λ x y. x || y) (h k) (no_input e ks h)

pub naming_first : (nodes : List Node) (done : List Bool) (names ks : List ℕ) (size : ℕ) → IsTable nodes → AreWithin nodes names → size ≡ length nodes → done ≡ replicate size false → bits_at nodes names ≡ map input ks → IsNaming nodes done names
naming_first nodes done names ks size table within long none named = record {
  sized = ap length none ∙ length-replicate size false ∙ long;
  within = within;
  covered = λ k h e. absurd (false≢true (sym (ap (λ d. get_or d k false) none ∙ get_or-replicate size k false false (omega arith)) ∙ e));
  fresh = λ k h gate e. ap (λ bs. has bs (bit_at nodes k)) named ∙ no_input (bit_at nodes k) ks (λ j. gate_is_no_input (bits_of nodes) (bit_at nodes k) (node_of nodes k) j (bit_at-node nodes k (node_of nodes k) table h refl) gate);
}

pub numbered_names : (nodes : List Node) (names : List ℕ) (c : List Bit) → bits_at nodes names ≡ names_of c → IsNumbered nodes names
numbered_names nodes names c is n h =
    let low : n < length (names_of c) = omega (arith, length-bits_at nodes names, ap length is) in
    let here : bit_at nodes (get_or names n 0) ≡ get_or (names_of c) n (constant false) = sym (get_or-bits_at nodes names n (constant false) h) ∙ ap (λ ns. get_or ns n (constant false)) is in
    ap₂ number_of is here ∙ number-name c n (constant false) low

pub clauses_are : (nodes : List Node) (names : List ℕ) (c : List Bit) (first last : List (List Lit)) → bits_at nodes names ≡ names_of c → first ≡ flat_map (conjunct_clauses (bits_at nodes names)) c → last ≡ first ++ flat_map (gate_clauses (bits_at nodes names)) (bits_at nodes names) → last ≡ clauses_of c
unfolding clauses_of
clauses_are nodes names c first last is start end =
    end ∙ ap (λ x. x ++ flat_map (gate_clauses (bits_at nodes names)) (bits_at nodes names)) start ∙ ap (λ ns. flat_map (conjunct_clauses ns) c ++ flat_map (gate_clauses ns) ns) is

pub vars_are : (nodes : List Node) (names : List ℕ) (c : List Bit) → bits_at nodes names ≡ names_of c → length names ≡ length (names_of c)
vars_are nodes names c is = sym (length-bits_at nodes names) ∙ ap length is
