use Rattle.std.proofs.Common.{◌≡◌, drop, not}
use Rattle.ir_resolve.specs.Telling.{told_of}
use Rattle.ir_programs.specs.declared.refusals.Cause.TheVariants.{UnknownFunction}
use Rattle.std.specs.List.{flat_map}
use Rattle.ir_programs.specs.Texts.{places_where}
use Rattle.ir_programs.specs.Uses as spec
use Rattle.ir_programs.specs.Parts.{function_callees as callees_in}
use Rattle.ir_resolve.proofs.callees.functions_told.Given as goal

abbrev pub invariant-each : goal.invariant-each
invariant-each l = told_of UnknownFunction l.now (flat_map (λ f. places_where (λ n. not (spec.is_function l.tree n.text)) (callees_in f)) (drop l.function-index l.functions)) ≡ told_of UnknownFunction l.fn.told (flat_map (λ f. places_where (λ n. not (spec.is_function l.tree n.text)) (callees_in f)) l.functions)
