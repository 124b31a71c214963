use Rattle.std.proofs.Common.{refl, ◌∙◌, ap, subst, ◌≡◌, ◌⊎◌}
use Rattle.terms.proofs.Notes.{put_is, put_keeps}
use Rattle.terms.specs.Memo.{Remembers}
use Rattle.terms.proofs.memo.Memo.put.Goals as goal

pub returns-clause-remembered : goal.returns-clause-remembered
returns-clause-remembered g c =
    put_is c.self.inside.known.entries c.insert.new.self.entries c.number.result (record { place = c.again.result; value = c.args.value }) c.args.t.now c.args.value
    c.in_ok-insert.ensures.updates.0 (ap (λ p. p.value) c.again.ensures ∙ c.place.ensures) refl

pub returns-clause-others : goal.returns-clause-others
returns-clause-others g c u v r =
    subst (λ notes. Remembers notes u v ⊎ ((u ≡ c.args.t.now) × (v ≡ c.args.value))) c.self.view_is
    (put_keeps c.self.inside.known.entries c.insert.new.self.entries c.number.result (record { place = c.again.result; value = c.args.value }) c.args.t.now c.args.value
    c.in_ok-insert.ensures.updates.0 (ap (λ p. p.value) c.again.ensures ∙ c.place.ensures) refl u v r)
