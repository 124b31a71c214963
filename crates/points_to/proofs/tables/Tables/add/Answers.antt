use Rattle.std.proofs.Common.{◌∙◌, ◌||◌, Bool, ap, subst}
use Rattle.points_to.specs.declared.tables.Place.{Place}
use Rattle.points_to.specs.Rows.{AddsToTables}
use Rattle.points_to.specs.Solving.{key_at}
use Rattle.points_to.proofs.Putting.{puts_of}
use Rattle.points_to.proofs.tables.Tables.add.Goals as goal

pub returns : goal.returns
returns c =
    let old = c.args.self.now.kinds.items in
    let new = c.add_at.new.self.kinds.items in
    puts_of old c.args.self.now.changed c.args.holder c.args.site c.in_ok-added.added new c.either-self.result
    (subst (λ (q : Place). AddsToTables old (key_at q c.args.site) c.in_ok-added.added new) c.place_of.ensures c.in_ok-added.ensures.added)
    (c.either-self.ensures ∙ ap (λ (b : Bool). b || c.in_ok-added.added) c.in_ok-added.ensures.changed)
