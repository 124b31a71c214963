use Rattle.std.proofs.Common.{◌≡◌, drop}
use Rattle.ir_resolve.specs.Telling.{told_of}
use Rattle.ir_programs.specs.declared.refusals.Cause.TheVariants.{WrongNumber}
use Rattle.std.specs.List.{flat_map}
use Rattle.ir_programs.specs.Locals as locals
use Rattle.ir_resolve.proofs.functions.all_numbers_told.Given as goal

abbrev pub invariant-each : goal.invariant-each
invariant-each l = told_of WrongNumber l.now (flat_map (λ f. locals.wrong_numbers 0 (locals.locals_of f)) (drop l.function-index l.functions)) ≡ told_of WrongNumber l.fn.told (flat_map (λ f. locals.wrong_numbers 0 (locals.locals_of f)) l.functions)
