use Rattle.std.proofs.Common.{◌*◌, ◌∙◌, refl, ap}
use Rattle.sym_bytes.proofs.joining.null_if_zero.Goals as goal

pub is_zero-requires : goal.is_zero-requires
is_zero-requires g c = c.in_ok-joined.ensures.width ∙ ap (λ n. 8 * n) c.requires.eight

pub same-result : goal.same-result
same-result g c = refl
