use Rattle.std.proofs.Common.{◌≡◌, take}
use Rattle.slicer.specs.Calls as spec
use Rattle.slicer.proofs.looking.calls_from.Given as goal

abbrev pub invariant-loop-node : goal.invariant-loop-node
invariant-loop-node l = l.calls.items ≡ spec.calls_from l.caller (take l.node-index l.nodes)
