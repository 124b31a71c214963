use Rattle.std.proofs.Common.{List, arith, subst}
use Rattle.std.proofs.lemmas.List.{take_all}
use Rattle.flat_ir.specs.declared.names.RegId.{RegId}
use Rattle.flow.specs.Paths.{IsLost, NoneOf}
use Rattle.flow.proofs.Bridges.{found_first}
use Rattle.flow.proofs.finding.Lists.first_lost.Goals as goal

pub returns-then-branch : goal.returns-then-branch
returns-then-branch c =
    found_first (IsLost c.args.self.now.func.now c.args.node) c.args.registers.now c.loop-register.register-index (record { 0 = 0 }) c.loop-register-test.true
    c.loop-register.invariant (c.in_ok-is_lost.ensures.0 c.if-branch.true)

pub returns : goal.returns
returns c =
    subst (λ (registers : List RegId). NoneOf (IsLost c.args.self.now.func.now c.args.node) registers)
    (take_all c.loop-register.register-index c.args.registers.now (omega arith)) c.loop-register.invariant
