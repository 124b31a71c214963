-- From the answers of the search to the decision.
use Rattle.std.proofs.Common.{Global, ◌≡◌, ◌<◌, ℕ, Bool, List, take, sym, ap, subst, ◌∙◌}
use Rattle.std.specs.List.{All}
use Rattle.std.specs.declared.vec.Vec.{Vec}
use Rattle.cnf.specs.declared.Lit.{Lit}
use Rattle.cnf.specs.Cnf.{Cnf, IsBelow, lists_of}
use Rattle.gates.specs.Clauses.{formula_of, order_of}
use Rattle.search.specs.declared.Answer.{Answer}
use Rattle.search.specs.declared.Answer.TheVariants.{Model, Refuted}
use Rattle.search.specs.Verdict.{verdict, verdict_of}
use Rattle.terms.specs.Tree.{Tree}
use Rattle.term_bits.specs.Conditions.{condition_bits}
use Rattle.condition_verdicts.specs.Inputs.{found_input}
use Rattle.decider.specs.Decided.{answer_of, decided}
use Rattle.decider.specs.declared.Verdict.TheVariants.{Sat}
use Rattle.decider.proofs.LogLemmas.{log_below}

module _ (f : Cnf) (order : List ℕ) (budget : ℕ) (answer : Answer) (is : verdict_of answer ≡ verdict f order budget) where
  pub model_decides : (c : List Tree) (inputs : ℕ) (values : Vec Bool Global) (seen : List Bool) (bytes : List ℕ) → f ≡ formula_of (condition_bits c) → order ≡ order_of (condition_bits c) → answer ≡ Model values → seen ≡ values.items → bytes ≡ take inputs (found_input c seen) → Sat bytes ≡ decided c inputs budget
  model_decides c inputs values seen bytes formula_is order_is model same found =
      ap Sat (found ∙ ap (λ x. take inputs (found_input c x)) same) ∙ ap (answer_of c inputs) (ap verdict_of (sym model) ∙ is ∙ ap (λ x. verdict x order budget) formula_is ∙ ap (λ x. verdict (formula_of (condition_bits c)) x budget) order_is)

  pub log_within : (whole : List ℕ) (log : Vec (Vec Lit Global) Global) (seen : List (Vec Lit Global)) → order ≡ whole → All (λ v. v < f.vars) whole → answer ≡ Refuted log → seen ≡ log.items → IsBelow f.vars (lists_of seen)
  log_within whole log seen order_is low refuted same =
      subst (λ x. IsBelow f.vars (lists_of x)) (sym same) (log_below f order budget (lists_of log.items) (subst (All (λ v. v < f.vars)) (sym order_is) low) (sym is ∙ ap verdict_of refuted))
