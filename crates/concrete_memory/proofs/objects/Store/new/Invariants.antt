use Rattle.std.specs.HashMap.{get}
use Rattle.flat_ir.specs.declared.names.ObjectName.{ObjectName}
use Rattle.flat_ir.specs.History.{same_object}
use Rattle.concrete_memory.proofs.Starts.{Starts}
use Rattle.concrete_memory.proofs.objects.Store.new.Given as goal

abbrev pub invariant-loop-g : goal.invariant-loop-g
invariant-loop-g l = (x : ObjectName) → Starts l.program l.g x (get same_object l.objects x)
