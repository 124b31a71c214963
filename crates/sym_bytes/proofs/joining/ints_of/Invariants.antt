use Rattle.std.proofs.Common.{◌≡◌, drop, length}
use Rattle.terms.specs.Joining.{AreBytes}
use Rattle.sym_bytes.specs.Joining.{ints_of}
use Rattle.sym_bytes.proofs.Lists.{in_front}
use Rattle.sym_bytes.proofs.joining.ints_of.Given as goal

-- the terms so far stand in front of what is left
abbrev pub invariant-loop-byte : goal.invariant-loop-byte
invariant-loop-byte g l =
    (in_front l.list (ints_of (drop l.byte-index l.bytes)) ≡ ints_of l.bytes) × (AreBytes l.list × (length l.list ≡ l.byte-index))
