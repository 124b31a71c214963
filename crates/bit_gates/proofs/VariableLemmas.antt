-- The variables of the clauses of a condition are below the number of its names.
use Rattle.std.proofs.Common.{◌≡◌, ◌<◌, ℕ, suc, Bool, true, false, List, [], ◌∷◌, ◌++◌, map, flat_map, length, sym, subst, ◌∙◌, ⊎_elim, arith}
use Rattle.std.specs.List.{list_any, filter, AllByRecursion}
use Rattle.std.specs.Prelude.{All}
use Rattle.std.proofs.lemmas.Bool.{or_cases, or_left, or_right, false≢true, cases_Bool, cond-true, cond-false, true≢false}
use Rattle.std.proofs.lemmas.List.Elements.{All-from_recursion, recursion_from_All}
use Rattle.cnf.specs.declared.Lit.{Lit}
use Rattle.cnf.specs.Cnf.{IsBelow}
use Rattle.cnf.specs.Literals.{negated}
use Rattle.gates.specs.Bits.{Bit, constant, input, negation, conjunction, exclusive, IsFolded, IsInner}
use Rattle.gates.specs.Clauses.{same_bit, has, gates_of, occurs, inputs_of, all_inputs, names_of, number_of, literal_of, and_clauses, xor_clauses, gate_clauses, conjunct_clauses, clauses_of, order_of}
use Rattle.gates.specs.Meaning.{IsCondition}
use Rattle.gates.proofs.NameLemmas.{IsKnown, known_from, input_named, met_has, has-append_left, has-append_right}
use Rattle.gates.proofs.MeaningLemmas.{known_names}

number_below : (names : List Bit) (e : Bit) → has names e ≡ true → number_of names e < length names
number_below [] e h = absurd (false≢true h)
number_below (n ∷ names) e h = ⊎_elim (λ yes. let is = cond-true (same_bit e n) 0 (suc (number_of names e)) yes in omega arith) (λ no.
    let is = cond-false (same_bit e n) 0 (suc (number_of names e)) no in
    let rest = number_below names e (⊎_elim (λ a. absurd (true≢false (sym a ∙ no))) (λ b. b) (or_cases (same_bit e n) (has names e) h)) in
    omega arith) (cases_Bool (same_bit e n))

module _ (N : List Bit) where
  abbrev IsIn : Lit → Type 0
  IsIn l = l.var < length N

  abbrev AreIn : List (List Lit) → Type 0
  AreIn F = AllByRecursion (All IsIn) F

  literal_below : (e : Bit) → IsKnown N e → IsIn (literal_of N e)
  unfolding IsKnown literal_of
  literal_below (constant b) h = absurd h
  literal_below (input k) h = number_below N (input k) h
  literal_below (negation e) h = literal_below e h
  literal_below (conjunction a b) h = number_below N (conjunction a b) h.2
  literal_below (exclusive a b) h = number_below N (exclusive a b) h.2

  one_in : (l : Lit) → IsIn l → All IsIn (l ∷ [])
  one_in l h = All-from_recursion IsIn (l ∷ []) (h, tt)

  two_in : (l m : Lit) → IsIn l → IsIn m → All IsIn (l ∷ m ∷ [])
  two_in l m h i = All-from_recursion IsIn (l ∷ m ∷ []) (h, (i, tt))

  three_in : (l m n : Lit) → IsIn l → IsIn m → IsIn n → All IsIn (l ∷ m ∷ n ∷ [])
  three_in l m n h i j = All-from_recursion IsIn (l ∷ m ∷ n ∷ []) (h, (i, (j, tt)))

  and_in : (g a b : Lit) → IsIn g → IsIn a → IsIn b → AreIn (and_clauses g a b)
  and_in g a b h i j =
      (two_in (negated g) a h i, (two_in (negated g) b h j, (three_in g (negated a) (negated b) h i j, tt)))

  xor_in : (g a b : Lit) → IsIn g → IsIn a → IsIn b → AreIn (xor_clauses g a b)
  xor_in g a b h i j =
      (three_in (negated g) a b h i j, (three_in (negated g) (negated a) (negated b) h i j, (three_in g (negated a) b h i j, (three_in g a (negated b) h i j, tt))))

  gate_in : (g : Bit) → IsKnown N g → AreIn (gate_clauses N g)
  unfolding IsKnown
  gate_in (constant b) h = tt
  gate_in (input k) h = tt
  gate_in (negation e) h = tt
  gate_in (conjunction a b) h =
      and_in (literal_of N (conjunction a b)) (literal_of N a) (literal_of N b) (literal_below (conjunction a b) h) (literal_below a h.0) (literal_below b h.1)
  gate_in (exclusive a b) h =
      xor_in (literal_of N (exclusive a b)) (literal_of N a) (literal_of N b) (literal_below (exclusive a b) h) (literal_below a h.0) (literal_below b h.1)

  unit_in : (e : Bit) → IsKnown N e → AreIn ((literal_of N e ∷ []) ∷ [])
  unit_in e h = (one_in (literal_of N e) (literal_below e h), tt)

  -- a folded conjunct whose gates and input bits have names
  conjunct_in : (e : Bit) → IsFolded e → ((g : Bit) → has (gates_of e) g ≡ true → has N g ≡ true) → ((k : ℕ) → occurs k e ≡ true → has N (input k) ≡ true) → AreIn (conjunct_clauses N e)
  unfolding IsInner
  conjunct_in (constant true) folded gates bits = tt
  conjunct_in (constant false) folded gates bits = (All-from_recursion IsIn [] tt, tt)
  conjunct_in (input k) folded gates bits = unit_in (input k) (known_from N (input k) tt gates bits)
  conjunct_in (negation e) folded gates bits = unit_in (negation e) (known_from N (negation e) folded gates bits)
  conjunct_in (conjunction a b) folded gates bits =
      unit_in (conjunction a b) (known_from N (conjunction a b) folded gates bits)
  conjunct_in (exclusive a b) folded gates bits =
      unit_in (exclusive a b) (known_from N (exclusive a b) folded gates bits)

  append_in : (F G : List (List Lit)) → AreIn F → AreIn G → AreIn (F ++ G)
  append_in [] G h k = k
  append_in (c ∷ F) G h k = (h.0, append_in F G h.1 k)

  gates_in : (es : List Bit) → AllByRecursion (IsKnown N) es → AreIn (flat_map (gate_clauses N) es)
  gates_in [] h = tt
  gates_in (e ∷ es) h = append_in (gate_clauses N e) (flat_map (gate_clauses N) es) (gate_in e h.0) (gates_in es h.1)

  conjuncts_in : (es : List Bit) → AllByRecursion IsFolded es → ((g : Bit) → has (flat_map gates_of es) g ≡ true → has N g ≡ true) → ((k : ℕ) → list_any (occurs k) es ≡ true → has N (input k) ≡ true) → AreIn (flat_map (conjunct_clauses N) es)
  conjuncts_in [] folded gates bits = tt
  conjuncts_in (e ∷ es) folded gates bits =
      append_in (conjunct_clauses N e) (flat_map (conjunct_clauses N) es) (conjunct_in e folded.0 (λ g h. gates g (has-append_left (gates_of e) (flat_map gates_of es) g h)) (λ k h. bits k (or_left (occurs k e) (list_any (occurs k) es) h))) (conjuncts_in es folded.1 (λ g h. gates g (has-append_right (gates_of e) (flat_map gates_of es) g h)) (λ k h. bits k (or_right (occurs k e) (list_any (occurs k) es) h)))

pub clauses_below : (c : List Bit) → IsCondition c → IsBelow (length (names_of c)) (clauses_of c)
unfolding clauses_of names_of
clauses_below c condition =
    let N = names_of c in
    let gates : (g : Bit) → has (flat_map gates_of c) g ≡ true → has N g ≡ true = λ g h. met_has (map input (inputs_of c) ++ flat_map gates_of c) [] g (has-append_right (map input (inputs_of c)) (flat_map gates_of c) g h) in
    All-from_recursion (All (λ l. l.var < length N)) (clauses_of c) (append_in N (flat_map (conjunct_clauses N) c) (flat_map (gate_clauses N) N) (conjuncts_in N c (recursion_from_All IsFolded c condition.folded) gates (λ k h. input_named c k h (condition.in_range k h))) (gates_in N N (known_names c condition)))

-- the order

order_in : (c : List Bit) → IsCondition c → (ks : List ℕ) → AllByRecursion (λ k. list_any (occurs k) c ≡ true) ks → AllByRecursion (λ v. v < length (names_of c)) (map (λ k. number_of (names_of c) (input k)) ks)
order_in c condition [] h = tt
order_in c condition (k ∷ ks) h =
    (number_below (names_of c) (input k) (input_named c k h.0 (condition.in_range k h.0)), order_in c condition ks h.1)

pub filter_passes : (p : ℕ → Bool) (ks : List ℕ) → AllByRecursion (λ k. p k ≡ true) (filter p ks)
filter_passes p [] = tt
filter_passes p (k ∷ ks) =
    let P : List ℕ → Type 0 = AllByRecursion (λ j. p j ≡ true) in
    ⊎_elim (λ yes. subst P (sym (cond-true (p k) (k ∷ filter p ks) (filter p ks) yes)) (yes, filter_passes p ks)) (λ no. subst P (sym (cond-false (p k) (k ∷ filter p ks) (filter p ks) no)) (filter_passes p ks)) (cases_Bool (p k))

pub order_below : (c : List Bit) → IsCondition c → All (λ v. v < length (names_of c)) (order_of c)
order_below c condition =
    All-from_recursion (λ v. v < length (names_of c)) (order_of c) (order_in c condition (inputs_of c) (filter_passes (λ k. list_any (occurs k) c) all_inputs))
