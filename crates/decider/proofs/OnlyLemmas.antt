-- A condition that reads at most two bytes of input has at most 16 input bits.
use Rattle.std.proofs.Common.{◌≡◌, ◌<◌, ◌≤◌, ◌⊎◌, ◌+◌, ◌-◌, ◌*◌, ◌/◌, ℕ, zero, suc, Bool, true, false, List, [], ◌∷◌, length, sym, ap, subst, ◌∙◌, ⊎_elim, inl, inr, arith}
use Rattle.std.specs.List.{All, AllByRecursion, list_any, filter, range_with_len}
use Rattle.std.proofs.lemmas.Bool.{or_cases, false≢true, eqb-true, cases_Bool, cond-true, cond-false}
use Rattle.std.proofs.lemmas.List.Elements.{recursion_from_All}
use Rattle.gates.specs.Bits as bit
use Rattle.gates.specs.Bits.{Bit, fold_not, fold_and, fold_xor, as_constant, choose}
use Rattle.gates.specs.Clauses.{occurs, inputs_of, all_inputs}
use Rattle.gates.proofs.NameLemmas.{All_append}
use Rattle.rows.proofs.KeptLemmas.{IsKept}
use Rattle.terms.specs.Tree.{Tree, constant, input, one, two, choice}
use Rattle.term_bits.specs.TermBits.{bits_of, input_bits}
use Rattle.term_bits.specs.Conditions.{condition_bits}
use Rattle.rows.specs.Rows.{top}
use Rattle.term_bits.proofs.KeptRows.{kept-constant_bits, kept-chosen, kept-top}
use Rattle.decider.proofs.KeptOperations.{kept-one, kept-two}
use Rattle.decider.specs.Inputs.{ReadsOnly}

-- the input bits that an expression reads are among these
Reads : (ℕ → Type 0) → Bit → Type 0
Reads Q e = (i : ℕ) → occurs i e ≡ true → Q i

module _ (Q : ℕ → Type 0) where
  reads_constant : (b : Bool) → Reads Q (bit.constant b)
  unfolding Reads occurs
  reads_constant b i o = absurd (false≢true o)

  reads_and : (a b : Bit) → Reads Q a → Reads Q b → Reads Q (bit.conjunction a b)
  unfolding Reads occurs
  reads_and a b p q i o = ⊎_elim (p i) (q i) (or_cases (occurs i a) (occurs i b) o)

  reads_xor : (a b : Bit) → Reads Q a → Reads Q b → Reads Q (bit.exclusive a b)
  unfolding Reads occurs
  reads_xor a b p q i o = ⊎_elim (p i) (q i) (or_cases (occurs i a) (occurs i b) o)

  reads_not : (e : Bit) → Reads Q e → Reads Q (fold_not e)
  unfolding Reads occurs fold_not
  reads_not (bit.constant b) h = h
  reads_not (bit.input j) h = h
  reads_not (bit.negation e) h = h
  reads_not (bit.conjunction a b) h = h
  reads_not (bit.exclusive a b) h = h

  -- what is made of an operand that may be a constant
  reads_case : (e : Bit) (on : Bool → Bit) (other : Bit) → ((b : Bool) → Reads Q (on b)) → Reads Q other → Reads Q (as_constant e on other)
  unfolding as_constant
  reads_case (bit.constant b) on other h k = h b
  reads_case (bit.input j) on other h k = k
  reads_case (bit.negation e) on other h k = k
  reads_case (bit.conjunction a b) on other h k = k
  reads_case (bit.exclusive a b) on other h k = k

  reads_choice : (b : Bool) (x y : Bit) → Reads Q x → Reads Q y → Reads Q (choose b x y)
  reads_choice true x y h k = h
  reads_choice false x y h k = k

  reads_fold_and : (a b : Bit) → Reads Q a → Reads Q b → Reads Q (fold_and a b)
  unfolding fold_and
  reads_fold_and a b p q =
      reads_case a _ _ (λ x. reads_choice x b (bit.constant false) q (reads_constant false)) (reads_case b _ _ (λ y. reads_choice y a (bit.constant false) p (reads_constant false)) (reads_and a b p q))

  reads_fold_xor : (a b : Bit) → Reads Q a → Reads Q b → Reads Q (fold_xor a b)
  unfolding fold_xor
  reads_fold_xor a b p q =
      reads_case a _ _ (λ x. reads_choice x (fold_not b) b (reads_not b q) q) (reads_case b _ _ (λ y. reads_choice y (fold_not a) a (reads_not a p) p) (reads_xor a b p q))

  reads_is_kept : IsKept (Reads Q)
  reads_is_kept = record {
    constants = reads_constant;
    negations = reads_not;
    conjunctions = reads_fold_and;
    exclusives = reads_fold_xor;
  }

  reads_input : (j : ℕ) → Q j → Reads Q (bit.input j)
  unfolding Reads occurs
  reads_input j is i o = subst Q (sym (eqb-true i j o)) is

  any_reads : (i : ℕ) (es : List Bit) → AllByRecursion (Reads Q) es → list_any (occurs i) es ≡ true → Q i
  unfolding Reads
  any_reads i [] h o = absurd (false≢true o)
  any_reads i (e ∷ es) h o =
      ⊎_elim (λ a. h.0 i a) (λ b. any_reads i es h.1 b) (or_cases (occurs i e) (list_any (occurs i) es) o)

module _ (j k : ℕ) where
  -- the bit is one of the two bytes
  IsOfTwo : ℕ → Type 0
  IsOfTwo i = (i / 8 ≡ j) ⊎ (i / 8 ≡ k)

  byte_bits : (b : ℕ) → (b ≡ j) ⊎ (b ≡ k) → AllByRecursion (Reads IsOfTwo) (input_bits b)
  unfolding IsOfTwo
  byte_bits b h =
      (place 7 (omega arith), (place 6 (omega arith), (place 5 (omega arith), (place 4 (omega arith), (place 3 (omega arith), (place 2 (omega arith), (place 1 (omega arith), (last, tt))))))))
    where
      of_two : (i : ℕ) → i / 8 ≡ b → IsOfTwo i
      of_two i e = ⊎_elim (λ l. inl (e ∙ l)) (λ r. inr (e ∙ r)) h

      place : (p : ℕ) → p < 8 → Reads IsOfTwo (bit.input (8 * b + p))
      place p low =
          let byte : (8 * b + p) / 8 ≡ b = omega arith in
          reads_input IsOfTwo (8 * b + p) (of_two (8 * b + p) byte)

      last : Reads IsOfTwo (bit.input (8 * b))
      last = let byte : 8 * b / 8 ≡ b = omega arith in reads_input IsOfTwo (8 * b) (of_two (8 * b) byte)

  kept : IsKept (Reads IsOfTwo)
  kept = reads_is_kept IsOfTwo

  term_bits : (t : Tree) → ReadsOnly j k t → AllByRecursion (Reads IsOfTwo) (bits_of t)
  unfolding bits_of
  term_bits (constant n) h = kept-constant_bits (Reads IsOfTwo) kept n.width n.bits
  term_bits (input b) h = byte_bits b h
  term_bits (one op a) h = kept-one (Reads IsOfTwo) kept op (bits_of a) (term_bits a h)
  term_bits (two op a b) h =
      kept-two (Reads IsOfTwo) kept op (bits_of a) (bits_of b) (term_bits a h.0) (term_bits b h.1)
  term_bits (choice c a b) h =
      kept-chosen (Reads IsOfTwo) kept (top (bits_of c)) (bits_of a) (bits_of b) (kept-top (Reads IsOfTwo) kept (bits_of c) (term_bits c h.0)) (term_bits a h.1) (term_bits b h.2)

  all_bits : (c : List Tree) → AllByRecursion (ReadsOnly j k) c → AllByRecursion (Reads IsOfTwo) (condition_bits c)
  all_bits [] h = tt
  all_bits (t ∷ c) h = All_append (Reads IsOfTwo) (bits_of t) (condition_bits c) (term_bits t h.0) (all_bits c h.1)

  -- from bit a on there are at most 8 bits of each byte
  module _ (p : ℕ → Bool) (each : (i : ℕ) → p i ≡ true → IsOfTwo i) where
    few : (n a : ℕ) → length (filter p (range_with_len a n)) ≤ (8 - (a - 8 * j)) + (8 - (a - 8 * k))
    unfolding IsOfTwo
    few zero a = omega arith
    few (suc n) a = ⊎_elim (λ yes.
        let is : filter p (range_with_len a (suc n)) ≡ a ∷ filter p (range_with_len (a + 1) n) = cond-true (p a) (a ∷ filter p (range_with_len (a + 1) n)) (filter p (range_with_len (a + 1) n)) yes in
        let size : length (filter p (range_with_len a (suc n))) ≡ suc (length (filter p (range_with_len (a + 1) n))) = ap length is in
        let rest = few n (a + 1) in
        one_more a (length (filter p (range_with_len (a + 1) n))) (length (filter p (range_with_len a (suc n)))) (each a yes) rest size) (λ no.
        let is : filter p (range_with_len a (suc n)) ≡ filter p (range_with_len (a + 1) n) = cond-false (p a) (a ∷ filter p (range_with_len (a + 1) n)) (filter p (range_with_len (a + 1) n)) no in
        let size : length (filter p (range_with_len a (suc n))) ≡ length (filter p (range_with_len (a + 1) n)) = ap length is in
        let rest = few n (a + 1) in
        omega arith) (cases_Bool (p a))
      where
        one_more : (a m n : ℕ) → IsOfTwo a → m ≤ (8 - ((a + 1) - 8 * j)) + (8 - ((a + 1) - 8 * k)) → n ≡ suc m → n ≤ (8 - (a - 8 * j)) + (8 - (a - 8 * k))
        one_more a m n h rest e = ⊎_elim (λ l. omega arith) (λ r. omega arith) h

  pub few_inputs : (c : List Tree) → All (ReadsOnly j k) c → length (inputs_of (condition_bits c)) ≤ 16
  unfolding all_inputs
  few_inputs c h =
      let reads = all_bits c (recursion_from_All (ReadsOnly j k) c h) in
      let count = few (λ i. list_any (occurs i) (condition_bits c)) (λ i o. any_reads IsOfTwo i (condition_bits c) reads o) 512 0 in
      omega arith
