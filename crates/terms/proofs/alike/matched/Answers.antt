use Rattle.terms.proofs.Notes.{one_tree}
use Rattle.terms.proofs.alike.matched.Goals as goal

pub returns-in-Some : goal.returns-in-Some
returns-in-Some g c told =
    one_tree c.in-Some.place.now c.place.result.now c.args.a.now c.args.b.now
    (c.requires c.args.a.now c.in-Some.place.now c.in-Some.ensures) (c.same.ensures.0 told) c.place.ensures
