use Rattle.std.proofs.Common.{refl, sym, ◌∙◌, ap, subst}
use Rattle.terms.proofs.Notes.{found_is}
use Rattle.terms.specs.Memo.{Remembers}
use Rattle.terms.proofs.memo.Memo.get.Goals as goal

pub returns-then-same : goal.returns-then-same
returns-then-same g c = subst (λ notes. Remembers notes c.args.t.now c.in_ok-known.known.now.value) c.self.view_is
    (found_is c.self.inside.known.entries c.number.result c.in_ok-known.known.now c.args.t.now c.in_ok-known.known.now.value
    (sym c.in_ok-known.ensures.value) (ap (λ p. p.value) (c.if-same.ensures.0 refl) ∙ c.place-2.ensures) refl)
