use Rattle.std.proofs.Common.{◌≡◌, ◌∙◌, ◌++◌, ◌∷◌, [], sym, ap, arith}
use Rattle.flat_ir.specs.Registers.{first_of}
use Rattle.sym_bytes.specs.Cutting.{byte_of}
use Rattle.sym_bytes.proofs.Lists.{one_more}
use Rattle.sym_bytes.proofs.cutting.cut_value.Goals as goal

pub loop-j-preserved : goal.loop-j-preserved
loop-j-preserved g c =
    let f = byte_of c.args.v.now in
    c.in_ok-push.ensures.ok
    ∙ ap (λ b. c.loop-j.list ++ b ∷ []) c.in_ok-byte_of.ensures
    ∙ ap (λ list. list ++ f c.loop-j.j ∷ []) c.loop-j.invariant
    ∙ sym (one_more c.loop-j.j 0 c.loop-j.j f (omega arith))
