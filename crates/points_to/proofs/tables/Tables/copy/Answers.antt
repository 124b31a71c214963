use Rattle.std.proofs.Common.{List, sym, subst}
use Rattle.std.proofs.lemmas.Result.{IfOk-weaker}
use Rattle.flat_ir.specs.declared.names.Site.{Site}
use Rattle.points_to.specs.declared.holders.Inclusion.TheVariants.{Copies}
use Rattle.points_to.specs.Solving.{Has, AreThose, PutsAll, Applies}
use Rattle.points_to.proofs.Putting.{copies_applies}
use Rattle.points_to.proofs.tables.Tables.copy.Goals as goal

pub returns : goal.returns
returns c =
    let old = c.args.self.now.kinds.items in
    let before = c.args.self.now.changed in
    let new = c.add_all.new.self.kinds.items in
    let after = c.add_all.new.self.changed in
    let sites : List Site = c.as_slice.result.now in
    let those : AreThose (Has old c.args.from) sites = subst (λ (xs : List Site). AreThose (Has old c.args.from) xs) (sym c.as_slice.ensures) c.in_ok-sites.ensures in
    IfOk-weaker c.add_all.result (λ _. PutsAll old before c.args.to sites new after) (λ _. Applies (Copies c.args.from c.args.to) old before new after)
    (λ _ puts. copies_applies c.args.from c.args.to sites old before new after those puts) c.add_all.ensures
