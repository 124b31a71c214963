use Rattle.std.proofs.Common.{◌+◌, sym, subst, arith}
use Rattle.flat_ir.specs.Machine.{start}
use Rattle.flat_ir.specs.Run.{run-zero}
use Rattle.concrete_machine.specs.Running.{EndsIn}
use Rattle.concrete_machine.proofs.Runs.{stays_at, exits, faults}
use Rattle.concrete_machine.proofs.running.run.Goals as goal

pub loop-done-init : goal.loop-done-init
loop-done-init c = record { state = start c.args.program.now; goes_on = run-zero c.args.program.now c.args.input.now; stands = c.in_ok-machine.ensures c.args.input.now }

pub loop-done-preserved : goal.loop-done-preserved
loop-done-preserved c =
    stays_at c.args.program.now c.args.input.now c.loop-done.done c.loop-done.machine c.step.new.self c.loop-done.invariant (rw c.in-On.is at c.in_ok-step.ensures)

pub returns-in-Exited : goal.returns-in-Exited
returns-in-Exited c =
    let ends = exits c.args.program.now c.args.input.now c.loop-done.done c.loop-done.machine c.step.new.self c.in-Exited.status c.loop-done.invariant (rw c.in-Exited.is at c.in_ok-step.ensures) in
    (omega arith, subst (EndsIn c.args.program.now c.args.input.now (c.loop-done.done + 1)) (sym c.exited-outcome.ensures) ends)

pub returns-in-Faulted : goal.returns-in-Faulted
returns-in-Faulted c =
    let ends = faults c.args.program.now c.args.input.now c.loop-done.done c.loop-done.machine c.step.new.self c.in-Faulted.kind c.loop-done.invariant (rw c.in-Faulted.is at c.in_ok-step.ensures) in
    (omega arith, subst (EndsIn c.args.program.now c.args.input.now (c.loop-done.done + 1)) (sym c.faulted-outcome.ensures) ends)
