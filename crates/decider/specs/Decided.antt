-- What is decided of a condition: the verdict of a search of its clauses, said of inputs of so many bytes.
use Rattle.std.specs.Prelude.{ℕ, List, take}
use Rattle.search.specs.Verdict as searched
use Rattle.search.specs.Verdict.{is_model, is_refuted, is_spent}
use Rattle.terms.specs.Tree.{Tree}
use Rattle.condition_verdicts.specs.Inputs.{condition_verdict, found_input}
use Rattle.decider.specs.declared.Verdict.{Verdict}
use Rattle.decider.specs.declared.Verdict.TheVariants.{Sat, Unsat, Spent}

-- a model is given as the first bytes of the input that it names, a refutation without its log
abbrev pub answer_of : List Tree → ℕ → searched.Verdict → Verdict
answer_of c inputs (is_model values) = Sat (take inputs (found_input c values))
answer_of c inputs (is_refuted log) = Unsat
answer_of c inputs is_spent = Spent

-- what the budget of conflicts gives for the condition, over so many bytes of input
abbrev pub decided : List Tree → ℕ → ℕ → Verdict
decided c inputs budget = answer_of c inputs (condition_verdict c budget)
