-- What a decision says of inputs.
use Rattle.std.proofs.Common.{◌≡◌, ◌<◌, ◌≤◌, ℕ, Bool, true, false, List, length, take, refl, sym, ap, subst, ◌∙◌, arith}
use Rattle.std.specs.List.{All}
use Rattle.std.proofs.lemmas.List.{length-take-le}
use Rattle.std.proofs.lemmas.List.Elements.{All-take, recursion_from_All}
use Rattle.cnf.specs.declared.Lit.{Lit}
use Rattle.search.specs.Verdict as searched
use Rattle.search.specs.Verdict.{is_model, is_refuted, is_spent}
use Rattle.terms.specs.Tree.{Tree}
use Rattle.terms.specs.Value.{are_met_by, ReadsBelow}
use Rattle.term_bits.specs.Conditions.{IsConjunct}
use Rattle.term_bits.proofs.InputLemmas.{are_bytes}
use Rattle.condition_verdicts.specs.Inputs.{condition_verdict, found_input}
use Rattle.condition_verdicts.proofs.InputLemmas.{found_meets, found_is_least, none_meets, is_decided}
use Rattle.decider.specs.Decided.{answer_of, decided}
use Rattle.decider.specs.Inputs.{IsAtMost, ReadsOnly}
use Rattle.decider.specs.declared.Verdict.TheVariants.{Sat, Unsat, Spent}
use Rattle.decider.proofs.ReadLemmas.{met_cut}
use Rattle.decider.proofs.OrderLemmas.{in_order}
use Rattle.decider.proofs.OnlyLemmas.{few_inputs}

-- which verdict of the search an answer comes from

sat_from : (c : List Tree) (inputs : ℕ) (v : searched.Verdict) (input : List ℕ) → answer_of c inputs v ≡ Sat input → (values : List Bool) × (v ≡ is_model values) × (take inputs (found_input c values) ≡ input)
sat_from c inputs (is_model values) input e =
    let same : take inputs (found_input c values) ≡ input = cc in (values, refl, same)
sat_from c inputs (is_refuted log) input e = absurd (cc)
sat_from c inputs is_spent input e = absurd (cc)

unsat_from : (c : List Tree) (inputs : ℕ) (v : searched.Verdict) → answer_of c inputs v ≡ Unsat → (log : List (List Lit)) × (v ≡ is_refuted log)
unsat_from c inputs (is_model values) e = absurd (cc)
unsat_from c inputs (is_refuted log) e = (log, refl)
unsat_from c inputs is_spent e = absurd (cc)

spent_from : (c : List Tree) (inputs : ℕ) (v : searched.Verdict) → answer_of c inputs v ≡ Spent → v ≡ is_spent
spent_from c inputs (is_model values) e = absurd (cc)
spent_from c inputs (is_refuted log) e = absurd (cc)
spent_from c inputs is_spent e = refl

module _ (c : List Tree) (inputs budget : ℕ) where
  found_size : (values : List Bool) → length (found_input c values) ≡ 64
  found_size values = refl

  pub sat_meets : (input : List ℕ) → All IsConjunct c → All (ReadsBelow inputs) c → decided c inputs budget ≡ Sat input → are_met_by input c ≡ true
  sat_meets input h reads e =
      let from = sat_from c inputs (condition_verdict c budget) input e in
      let whole = found_input c from.0 in
      ap (λ x. are_met_by x c) (sym from.2) ∙ met_cut inputs whole c (recursion_from_All (ReadsBelow inputs) c reads) ∙ found_meets c h budget from.0 from.1

  pub sat_size : (input : List ℕ) → inputs ≤ 64 → decided c inputs budget ≡ Sat input → length input ≡ inputs
  sat_size input few e =
      let from = sat_from c inputs (condition_verdict c budget) input e in
      let long : inputs ≤ length (found_input c from.0) = omega (arith, found_size from.0) in
      ap length (sym from.2) ∙ length-take-le inputs (found_input c from.0) long

  pub sat_bytes : (input : List ℕ) → decided c inputs budget ≡ Sat input → All (λ b. b < 256) input
  sat_bytes input e =
      let from = sat_from c inputs (condition_verdict c budget) input e in
      subst (All (λ b. b < 256)) from.2 (All-take (λ b. b < 256) inputs (found_input c from.0) (are_bytes _))

  pub sat_is_least : (input other : List ℕ) → All IsConjunct c → inputs ≤ 64 → decided c inputs budget ≡ Sat input → length other ≡ inputs → All (λ b. b < 256) other → are_met_by other c ≡ true → IsAtMost input other
  sat_is_least input other h few e size bytes met =
      let from = sat_from c inputs (condition_verdict c budget) input e in
      let whole = found_input c from.0 in
      let long : inputs ≤ length whole = omega (arith, found_size from.0) in
      subst (λ x. IsAtMost x other) from.2 (in_order inputs whole other few long size (are_bytes _) bytes (found_is_least c h budget from.0 other from.1 met))

  pub unsat_none : (input : List ℕ) → All IsConjunct c → decided c inputs budget ≡ Unsat → are_met_by input c ≡ false
  unsat_none input h e =
      let from = unsat_from c inputs (condition_verdict c budget) e in
      none_meets c h budget from.0 input from.1

  pub two_bytes_decided : (j k : ℕ) → All (ReadsOnly j k) c → 65537 ≤ budget → decided c inputs budget ≡ Spent → ⊥
  two_bytes_decided j k only large e =
      is_decided c budget (few_inputs j k c only) large (spent_from c inputs (condition_verdict c budget) e)
