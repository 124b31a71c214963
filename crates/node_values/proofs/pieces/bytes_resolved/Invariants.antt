use Rattle.std.proofs.Common.{◌≡◌, ◌++◌, drop, map}
use Rattle.sym_states.specs.Terms.{byte_resolved}
use Rattle.node_values.proofs.pieces.bytes_resolved.Given as goal

-- the bytes so far stand in front of what is left
abbrev pub invariant-bytes : goal.invariant-bytes
invariant-bytes g l = l.list ++ map (byte_resolved l.snapshots) (drop l.byte-index l.bytes) ≡ map (byte_resolved l.snapshots) l.bytes
