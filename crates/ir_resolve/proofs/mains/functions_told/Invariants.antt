use Rattle.std.proofs.Common.{◌≡◌, drop, map, not}
use Rattle.std.specs.Prelude.{◌&&◌}
use Rattle.ir_resolve.specs.Telling.{told_of}
use Rattle.ir_programs.specs.declared.refusals.Cause.TheVariants.{MainParameters}
use Rattle.std.specs.List.{filter}
use Rattle.ir_programs.specs.Causes as spec
use Rattle.ir_resolve.proofs.mains.functions_told.Given as goal

abbrev pub invariant-each : goal.invariant-each
invariant-each l = told_of MainParameters l.now (map (λ f. f.header.name.at) (filter (λ f. spec.is_main f.header && not (spec.is_entry f.header)) (drop l.function-index l.functions))) ≡ told_of MainParameters l.fn.told (map (λ f. f.header.name.at) (filter (λ f. spec.is_main f.header && not (spec.is_entry f.header)) l.functions))
