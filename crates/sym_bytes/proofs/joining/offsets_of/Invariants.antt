use Rattle.std.proofs.Common.{◌≡◌, drop}
use Rattle.std.specs.List.{All}
use Rattle.terms.specs.Tree.{width_of}
use Rattle.sym_bytes.specs.Joining.{offsets_of}
use Rattle.sym_bytes.proofs.Lists.{in_front}
use Rattle.sym_bytes.proofs.joining.offsets_of.Given as goal

-- the offsets so far stand in front of what is left
abbrev pub invariant-loop-byte : goal.invariant-loop-byte
invariant-loop-byte g l =
    (in_front l.list (offsets_of l.base l.j (drop l.byte-index l.bytes)) ≡ offsets_of l.base 0 l.bytes) × ((l.j ≡ l.byte-index) × All (λ t. width_of t ≡ 64) l.list)
