use Rattle.concrete_machine.specs.Stepping.{IsAt}
use Rattle.concrete_machine.proofs.running.run.Given as goal

abbrev pub invariant-loop-done : goal.invariant-loop-done
invariant-loop-done l = IsAt l.program l.input l.done l.machine
