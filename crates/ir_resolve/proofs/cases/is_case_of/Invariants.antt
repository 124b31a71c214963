use Rattle.std.proofs.Common.{◌≡◌, drop}
use Rattle.ir_programs.specs.Causes as causes
use Rattle.ir_resolve.proofs.cases.is_case_of.Given as goal

abbrev pub invariant-each : goal.invariant-each
invariant-each l = causes.is_case_of l.seen l.case ≡ causes.is_case_of (drop l.other-index l.seen) l.case
