use Rattle.std.proofs.Common.{◌≡◌, ◌∙◌, ap, List}
use Rattle.std.proofs.lemmas.Result.{IfOk-weaker}
use Rattle.flat_ir.specs.declared.names.Site.{Site}
use Rattle.points_to.specs.declared.tables.Place.{Place}
use Rattle.points_to.specs.Rows.{row_of}
use Rattle.points_to.specs.Solving.{Has, AreThose}
use Rattle.points_to.proofs.Putting.{stored_row}
use Rattle.points_to.proofs.tables.Tables.stored.Goals as goal

pub returns : goal.returns
returns c =
    let t = c.args.self.now.kinds.items in
    IfOk-weaker c.from_slice.result (λ (sites : List Site). sites ≡ c.row.result.now) (λ (sites : List Site). AreThose (Has t c.args.holder) sites)
    (λ sites e. stored_row t c.args.holder sites c.requires.tables c.requires.stored (e ∙ c.row.ensures ∙ ap (λ (q : Place). row_of t q.kind q.part q.at) c.place_of.ensures))
    c.from_slice.ensures
