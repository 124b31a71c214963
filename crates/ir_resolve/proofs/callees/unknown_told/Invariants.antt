use Rattle.std.proofs.Common.{◌≡◌, drop, not}
use Rattle.ir_resolve.specs.Telling.{told_of}
use Rattle.ir_programs.specs.declared.refusals.Cause.TheVariants.{UnknownFunction}
use Rattle.ir_programs.specs.Texts.{places_where}
use Rattle.ir_programs.specs.Uses as spec
use Rattle.ir_resolve.proofs.callees.unknown_told.Given as goal

abbrev pub invariant-each : goal.invariant-each
invariant-each l = told_of UnknownFunction l.now (places_where (λ n. not (spec.is_function l.tree n.text)) (drop l.name-index l.names)) ≡ told_of UnknownFunction l.fn.told (places_where (λ n. not (spec.is_function l.tree n.text)) l.names)
