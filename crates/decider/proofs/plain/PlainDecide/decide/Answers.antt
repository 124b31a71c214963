use Rattle.std.proofs.Common.{◌∙◌}
use Rattle.decider.specs.Found.{AreInputsOf}
use Rattle.decider.proofs.FoundLemmas.{are_places}
use Rattle.decider.proofs.AnswerLemmas.{model_decides, log_within}
use Rattle.decider.proofs.plain.PlainDecide.decide.Goals as goal

pub found_input-requires-clause-places : goal.found_input-requires-clause-places
found_input-requires-clause-places g c =
    are_places c.args.condition.now c.in_ok-blasted.blasted.bits.items c.in_ok-blasted.ensures.bits

pub returns-in-Model : goal.returns-in-Model
returns-in-Model g c =
    let names : AreInputsOf c.args.condition.now c.in_ok-blasted.blasted.order.items c.in_ok-blasted.blasted.bits.items = record { order_is = c.in_ok-blasted.ensures.order; bits_are = c.in_ok-blasted.ensures.bits } in
    model_decides c.in_ok-blasted.blasted.formula c.deref.result.now c.args.budget c.in_ok-values.field-0 c.in_ok-values.ensures.verdict c.args.condition.now c.args.inputs c.in-Model.values c.deref-in-Model.result.now c.in_ok-input-in-Model.input c.in_ok-blasted.ensures.formula (c.deref.ensures.value ∙ c.in_ok-blasted.ensures.order) c.in-Model.is c.deref-in-Model.ensures.value (c.in_ok-input-in-Model.ensures c.args.condition.now names)

pub checked-requires-clause-log : goal.checked-requires-clause-log
checked-requires-clause-log g c =
    log_within c.in_ok-blasted.blasted.formula c.deref.result.now c.args.budget c.in_ok-values.field-0 c.in_ok-values.ensures.verdict c.in_ok-blasted.blasted.order.items c.in-Refuted.log c.deref-in-Refuted.result.now c.deref.ensures.value c.in_ok-blasted.ensures.order_within c.in-Refuted.is c.deref-in-Refuted.ensures.value
