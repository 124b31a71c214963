use Rattle.std.proofs.Common.{◌≡◌, ◌++◌, take}
use Rattle.std.specs.List.{flat_map}
use Rattle.leaf_lines.specs.Values.{call_text}
use Rattle.leaf_lines.proofs.objects.put_calls.Given as goal

abbrev pub invariant-loop-call : goal.invariant-loop-call
invariant-loop-call l = l.text.items ≡ l.fn.text.items ++ flat_map (call_text l.program) (take l.call-index l.calls)
