use Rattle.std.proofs.Common.{◌≡◌, take}
use Rattle.std.specs.List.{flat_map}
use Rattle.points_to.specs.Asked as spec
use Rattle.points_to.proofs.asking.asked_by_global.Given as goal

abbrev pub invariant-loop-byte : goal.invariant-loop-byte
invariant-loop-byte l = l.list.items ≡ flat_map (spec.asked_by_byte l.global) (take l.byte-index l.bytes)
