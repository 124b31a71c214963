use Rattle.concrete_machine.proofs.Stepped.{if_ok_on}
use Rattle.concrete_machine.proofs.machine.Machine.attempt.Goals as goal

pub returns-in-Call : goal.returns-in-Call
returns-in-Call c =
    rw c.in-Call.is (if_ok_on c.call.result _ _ (λ led f. f c.in-Call.result c.in-Call.next c.args.input.now) (rw (c.parts.ensures.value, c.as_slice.ensures) at c.call.ensures))

pub returns-in-Ret : goal.returns-in-Ret
returns-in-Ret c =
    rw c.in-Ret.is (if_ok_on c.ret.result _ _ (λ led f. f c.args.input.now) (rw c.parts-in-Ret.ensures.value at c.ret.ensures))
