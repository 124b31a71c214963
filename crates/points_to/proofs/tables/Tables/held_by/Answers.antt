use Rattle.std.proofs.Common.{◌∙◌, ◌+◌, ap, sym, subst, List}
use Rattle.flat_ir.specs.declared.names.Site.{Site}
use Rattle.points_to.specs.declared.tables.Place.{Place}
use Rattle.points_to.specs.Rows.{row_of}
use Rattle.points_to.specs.Solving.{HeldFirst, HeldBy, AreThose}
use Rattle.points_to.proofs.Putting.{held_next, held_all}
use Rattle.points_to.proofs.tables.Tables.held_by.Goals as goal

pub loop-target-preserved : goal.loop-target-preserved
loop-target-preserved c =
    let t = c.args.self.now.kinds.items in
    subst (λ (found : List Site). AreThose (HeldFirst t c.args.targets.now (c.loop-target.target-index + 1)) found) (sym c.in_ok-extend_from_slice.ensures.items)
    (held_next t c.args.targets.now c.loop-target.target-index c.loop-target.found.items c.row.result.now c.requires.tables c.loop-target-test.true c.loop-target.invariant
    (c.row.ensures ∙ ap (λ (q : Place). row_of t q.kind q.part q.at) c.place_of.ensures))

pub returns : goal.returns
returns c =
    let t = c.args.self.now.kinds.items in
    subst (λ (found : List Site). AreThose (HeldBy t c.args.targets.now) found) (sym c.from_vec.ensures)
    (held_all t c.args.targets.now c.loop-target.target-index c.loop-target.found.items c.loop-target-test.false c.loop-target.invariant)
