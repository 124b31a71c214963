use Rattle.std.proofs.Common.{◌≡◌, ◌++◌, drop, map}
use Rattle.ir_programs.specs.Parts as spec
use Rattle.ir_programs.proofs.parts.push_incoming.Given as goal

abbrev pub invariant-loop-value : goal.invariant-loop-value
invariant-loop-value l = l.names.items ++ map spec.incoming_label (drop l.value-index l.incoming) ≡ l.initial.names.items ++ map spec.incoming_label l.incoming
