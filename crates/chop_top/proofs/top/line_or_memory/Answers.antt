use Rattle.std.proofs.Common.{refl, sym, ap, subst}
use Rattle.chop_top.specs.declared.top.Answer.TheVariants as answer
use Rattle.chop_top.specs.Outcomes.{IsLine}
use Rattle.chop_top.proofs.top.line_or_memory.Goals as goal

pub returns-in-Ok : goal.returns-in-Ok
returns-in-Ok c = subst (λ w. IsLine c.args.status w (answer.Text c.args.status c.into_bytes.result)) (sym c.in-Ok.is) (c.into_bytes.result, refl, ap (λ v. v.items) c.into_bytes.ensures.value)
