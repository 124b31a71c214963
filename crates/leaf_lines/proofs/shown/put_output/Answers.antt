use Rattle.std.proofs.Common.{List, ℕ, length, subst}
use Rattle.std.specs.Prelude.{Option, IfSome}
use Rattle.leaves.specs.Fitting.{AreTermsOf}
use Rattle.leaf_lines.proofs.Fits.{terms-all}
use Rattle.leaf_lines.proofs.shown.put_output.Goals as goal

pub bytes_under-requires : goal.bytes_under-requires
bytes_under-requires g c =
    rw c.as_slice.ensures (terms-all _ 8 c.args.written.now
    (subst (λ (kept : Option (List ℕ)). IfSome kept (λ input. AreTermsOf (length input) 8 c.args.written.now)) c.in-Some.is c.requires))
