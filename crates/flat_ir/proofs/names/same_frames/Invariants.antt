use Rattle.std.proofs.Common.{◌≡◌, ◌↔◌}
use Rattle.flat_ir.proofs.names.same_frames.Given as goal

-- what is left of the names is equal exactly where the names are
abbrev pub invariant-links : goal.invariant-links
invariant-links l = (l.left ≡ l.right) ↔ (l.fn.a ≡ l.fn.b)
