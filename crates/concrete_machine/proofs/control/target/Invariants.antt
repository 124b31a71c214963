use Rattle.std.proofs.Common.{◌≡◌, drop}
use Rattle.concrete_machine.specs.Control.{target_of}
use Rattle.concrete_machine.proofs.control.target.Given as goal

abbrev pub invariant-loop-case : goal.invariant-loop-case
invariant-loop-case l = target_of l.value l.cases l.default ≡ target_of l.value (drop l.case-index l.cases) l.default
