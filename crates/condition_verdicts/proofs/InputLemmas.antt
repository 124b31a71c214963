-- From verdicts to inputs.
use Rattle.std.proofs.Common.{◌≡◌, ◌<◌, ◌≤◌, ◌+◌, ℕ, zero, suc, Bool, true, false, ◌&&◌, List, [], ◌∷◌, map, length, refl, sym, ap, subst, ◌∙◌, ⊎_elim, inl, inr, arith}
use Rattle.std.specs.Prelude.{All}
use Rattle.std.specs.List.{list_any, filter, range_with_len, AllByRecursion}
use Rattle.std.proofs.lemmas.Bool.{cases_Bool, cond-true, cond-false}
use Rattle.std.proofs.lemmas.List.{length-map}
use Rattle.cnf.specs.declared.Lit.{Lit}
use Rattle.cnf.specs.Cnf.{Cnf}
use Rattle.gates.specs.Bits.{Bit, input}
use Rattle.gates.specs.Clauses.{occurs, inputs_of, all_inputs, names_of, number_of, formula_of, order_of}
use Rattle.gates.specs.Meaning.{IsCondition, HasModelWith}
use Rattle.gates.proofs.OrderLemmas.{order_determines}
use Rattle.search.specs.Models.{assignment, IsAtMost, IsLeastModel}
use Rattle.search.specs.Tree.{tree, log_of}
use Rattle.search.specs.Verdict.{Walk, found, spent, left, walk, leaves, verdict, verdict_at, is_model, is_refuted, is_spent}
use Rattle.search.proofs.ModelLemmas.{model_is_least}
use Rattle.search.proofs.RefutedLemmas.{refuted_has_no_model}
use Rattle.search.proofs.CountLemmas.{unspent}
use Rattle.terms.specs.Tree.{Tree}
use Rattle.terms.specs.Value.{are_met_by}
use Rattle.term_bits.specs.TermBits.{input_of}
use Rattle.term_bits.specs.Conditions.{IsConjunct, condition_bits, bytes_of}
use Rattle.term_bits.proofs.InputLemmas.{input_of_bytes}
use Rattle.term_bits.proofs.ConditionLemmas.{is_condition, model_of_input, input_of_model}
use Rattle.bit_gates.proofs.VariableLemmas.{clauses_below, order_below}
use Rattle.condition_verdicts.specs.Inputs.{condition_verdict, found_input, IsAtMostInput}

walk_found : (w : Walk) (log : List (List Lit)) (values : List Bool) → verdict_at w log ≡ is_model values → w ≡ found values
walk_found (found vs) log values e = let same : vs ≡ values = cc in ap found same
walk_found spent log values e = absurd (cc)
walk_found (left n) log values e = absurd (cc)

walk_left : (w : Walk) (log refutation : List (List Lit)) → verdict_at w log ≡ is_refuted refutation → (n : ℕ) × (w ≡ left n)
walk_left (found vs) log refutation e = absurd (cc)
walk_left spent log refutation e = absurd (cc)
walk_left (left n) log refutation e = (n, refl)

-- bits in their order

range_below : (a n most : ℕ) → a + n ≤ most → AllByRecursion (λ k. k < most) (range_with_len a n)
range_below a zero most h = tt
range_below a (suc n) most h = (omega arith, range_below (a + 1) n most (omega arith))

inputs_below : AllByRecursion (λ k. k < 512) all_inputs
unfolding all_inputs
inputs_below = range_below 0 512 512 (omega arith)

-- Of the bits that pass the assignments say what the inputs do, and of the others the first input has 0: so the
-- order of the assignments is that of the inputs.
module _ (p : ℕ → Bool) (number : ℕ → ℕ) (a b first second : ℕ → Bool) (most : ℕ) (known : (k : ℕ) → k < most → p k ≡ true → first k ≡ a (number k)) (other : (k : ℕ) → k < most → p k ≡ true → b (number k) ≡ second k) (zero_there : (k : ℕ) → k < most → p k ≡ false → first k ≡ false) where
  in_order : (ks : List ℕ) → AllByRecursion (λ k. k < most) ks → IsAtMost (map number (filter p ks)) a b → IsAtMost ks first second
  in_order [] low at = tt
  in_order (k ∷ ks) low at = ⊎_elim (λ yes.
      let here : IsAtMost (map number (k ∷ filter p ks)) a b = subst (λ x. IsAtMost (map number x) a b) (cond-true (p k) (k ∷ filter p ks) (filter p ks) yes) at in
      ⊎_elim (λ x. inl (known k low.0 yes ∙ x.0, sym (other k low.0 yes) ∙ x.1)) (λ x. inr (known k low.0 yes ∙ x.0 ∙ other k low.0 yes, in_order ks low.1 x.1)) here) (λ no.
      let rest : IsAtMost (map number (filter p ks)) a b = subst (λ x. IsAtMost (map number x) a b) (cond-false (p k) (k ∷ filter p ks) (filter p ks) no) at in
      ⊎_elim (λ one. inl (zero_there k low.0 no, one)) (λ none. inr (zero_there k low.0 no ∙ sym none, in_order ks low.1 rest)) (cases_Bool (second k))) (cases_Bool (p k))

module _ (c : List Tree) (h : All IsConjunct c) where
  abbrev bits : List Bit
  bits = condition_bits c

  least_model : (budget : ℕ) (values : List Bool) → condition_verdict c budget ≡ is_model values → IsLeastModel (formula_of bits) (order_of bits) values
  least_model budget values e =
      model_is_least (formula_of bits) (order_of bits) budget values (clauses_below bits (is_condition c h)) (order_below bits (is_condition c h)) (order_determines bits (is_condition c h)) (walk_found (walk budget (leaves (tree (formula_of bits).clauses (formula_of bits).vars (order_of bits) []))) (log_of (tree (formula_of bits).clauses (formula_of bits).vars (order_of bits) [])) values e)

  -- the bits of the input that is found
  bit_found : (values : List Bool) (k : ℕ) (test : Bool) → k < 512 → list_any (occurs k) bits ≡ test → input_of (found_input c values) k ≡ (test && assignment values (number_of (names_of bits) (input k)))
  bit_found values k test low o =
      input_of_bytes (λ j. list_any (occurs j) bits && assignment values (number_of (names_of bits) (input j))) k low ∙ ap (λ t. t && assignment values (number_of (names_of bits) (input k))) o

  pub found_meets : (budget : ℕ) (values : List Bool) → condition_verdict c budget ≡ is_model values → are_met_by (found_input c values) c ≡ true
  found_meets budget values e =
      let m = least_model budget values e in
      input_of_model c (found_input c values) h (assignment values, m.solves, λ k o. sym (bit_found values k true ((is_condition c h).in_range k o) o))

  pub found_is_least : (budget : ℕ) (values : List Bool) (bytes : List ℕ) → condition_verdict c budget ≡ is_model values → are_met_by bytes c ≡ true → IsAtMostInput (found_input c values) bytes
  found_is_least budget values bytes e met =
      let m = least_model budget values e in
      let v = model_of_input c bytes h met in
      in_order (λ k. list_any (occurs k) bits) (λ k. number_of (names_of bits) (input k)) (assignment values) v.0 (input_of (found_input c values)) (input_of bytes) 512 (λ k low o. bit_found values k true low o) (λ k low o. v.2 k o) (λ k low o. bit_found values k false low o) all_inputs inputs_below (m.least v.0 v.1)

  pub none_meets : (budget : ℕ) (log : List (List Lit)) (bytes : List ℕ) → condition_verdict c budget ≡ is_refuted log → are_met_by bytes c ≡ false
  none_meets budget log bytes e =
      let w = walk_left (walk budget (leaves (tree (formula_of bits).clauses (formula_of bits).vars (order_of bits) []))) (log_of (tree (formula_of bits).clauses (formula_of bits).vars (order_of bits) [])) log e in
      ⊎_elim (λ met. let v = model_of_input c bytes h met in absurd (refuted_has_no_model (formula_of bits) (order_of bits) budget w.0 w.1 v.0 v.1)) (λ not_met. not_met) (cases_Bool (are_met_by bytes c))

pub is_decided : (c : List Tree) (budget : ℕ) → length (inputs_of (condition_bits c)) ≤ 16 → 65537 ≤ budget → condition_verdict c budget ≡ is_spent → ⊥
is_decided c budget short large e =
    let bits = condition_bits c in
    let long : length (order_of bits) ≡ length (inputs_of bits) = length-map (inputs_of bits) (λ k. number_of (names_of bits) (input k)) in
    unspent (formula_of bits) (order_of bits) budget (omega arith) large e
