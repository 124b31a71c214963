use Rattle.std.proofs.Common.{◌≡◌, ◌++◌, take}
use Rattle.std.specs.List.{flat_map}
use Rattle.leaf_lines.specs.Report.{event_line}
use Rattle.leaf_lines.proofs.lines.put_events.Given as goal

abbrev pub invariant-loop-event : goal.invariant-loop-event
invariant-loop-event g l = l.text.items ≡ l.fn.text.items ++ flat_map (event_line l.program l.told) (take l.event-index l.events)
