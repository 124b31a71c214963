use Rattle.std.proofs.Common.{◌≡◌, drop}
use Rattle.ir_resolve.specs.Telling.{told_of}
use Rattle.ir_programs.specs.declared.refusals.Cause.TheVariants.{ReservedName}
use Rattle.ir_programs.specs.Texts.{places_where}
use Rattle.ir_programs.specs.Uses as spec
use Rattle.ir_resolve.proofs.names.reserved_told.Given as goal

abbrev pub invariant-each : goal.invariant-each
invariant-each l = told_of ReservedName l.now (places_where (λ n. spec.is_reserved n.text) (drop l.name-index l.names)) ≡ told_of ReservedName l.fn.told (places_where (λ n. spec.is_reserved n.text) l.names)
