use Rattle.std.proofs.Common.{◌<◌, sym, ap, ◌∙◌, subst}
use Rattle.std.specs.Prelude.{All}
use Rattle.std.proofs.lemmas.Result.{IfOk-weaker}
use Rattle.cnf.specs.Cnf.{IsBelow}
use Rattle.cnf.specs.Models.{Determines}
use Rattle.gates.specs.Clauses.{formula_of, order_of}
use Rattle.gates.proofs.OrderLemmas.{order_determines}
use Rattle.nodes.specs.Names.{bits_at}
use Rattle.term_bits.specs.Conditions.{condition_bits}
use Rattle.term_bits.proofs.ConditionLemmas.{is_condition, model_of_input, input_of_model}
use Rattle.bit_gates.proofs.TermRows.{both, given}
use Rattle.bit_gates.proofs.VariableLemmas.{clauses_below, order_below}
use Rattle.bit_gates.proofs.conditions.clauses_of.Goals as goal

pub returns-clause-meets : goal.returns-clause-meets
returns-clause-meets g c =
    given c.clauses_at.result _ (λ bytes. (model_of_input c.args.condition.now bytes c.requires, input_of_model c.args.condition.now bytes c.requires))

pub returns-clause-determined : goal.returns-clause-determined
returns-clause-determined g c =
    let bits = condition_bits c.args.condition.now in
    let same = ap (bits_at c.places_of.new.table) c.deref.ensures.value ∙ c.in_ok-places.ensures.bits in
    IfOk-weaker c.clauses_at.result _ _ (λ r p. subst (λ f. Determines f r.order.items) (sym (p.0 ∙ ap formula_of same)) (subst (Determines (formula_of bits)) (sym (p.1 ∙ ap order_of same)) (order_determines bits (is_condition c.args.condition.now c.requires)))) (both c.clauses_at.result _ _ c.clauses_at.ensures.formula c.clauses_at.ensures.order)

pub returns-clause-variables : goal.returns-clause-variables
returns-clause-variables g c =
    let bits = condition_bits c.args.condition.now in
    let same = ap (bits_at c.places_of.new.table) c.deref.ensures.value ∙ c.in_ok-places.ensures.bits in
    IfOk-weaker c.clauses_at.result _ _ (λ r p. subst (λ f. IsBelow f.vars f.clauses) (sym (p ∙ ap formula_of same)) (clauses_below bits (is_condition c.args.condition.now c.requires))) c.clauses_at.ensures.formula

pub returns-clause-order_within : goal.returns-clause-order_within
returns-clause-order_within g c =
    let bits = condition_bits c.args.condition.now in
    let same = ap (bits_at c.places_of.new.table) c.deref.ensures.value ∙ c.in_ok-places.ensures.bits in
    IfOk-weaker c.clauses_at.result _ _ (λ r p. subst (λ f. All (λ v. v < f.vars) r.order.items) (sym (p.0 ∙ ap formula_of same)) (subst (All (λ v. v < (formula_of bits).vars)) (sym (p.1 ∙ ap order_of same)) (order_below bits (is_condition c.args.condition.now c.requires)))) (both c.clauses_at.result _ _ c.clauses_at.ensures.formula c.clauses_at.ensures.order)
