use Rattle.std.proofs.Common.{List, sym, subst}
use Rattle.std.proofs.lemmas.Result.{IfOk-weaker}
use Rattle.flat_ir.specs.declared.names.Site.{Site}
use Rattle.points_to.specs.declared.holders.Inclusion.TheVariants.{Loads}
use Rattle.points_to.specs.Solving.{Has, HeldBy, AreThose, PutsAll, Applies}
use Rattle.points_to.proofs.Putting.{loads_applies}
use Rattle.points_to.proofs.tables.Tables.load.Goals as goal

pub returns : goal.returns
returns c =
    let old = c.args.self.now.kinds.items in
    let before = c.args.self.now.changed in
    let new = c.add_all.new.self.kinds.items in
    let after = c.add_all.new.self.changed in
    let targets : List Site = c.as_slice.result.now in
    let sites : List Site = c.as_slice-2.result.now in
    let pointed : AreThose (Has old c.args.pointer) targets = subst (λ (xs : List Site). AreThose (Has old c.args.pointer) xs) (sym c.as_slice.ensures) c.in_ok-targets.ensures in
    let those : AreThose (HeldBy old targets) sites = subst (λ (xs : List Site). AreThose (HeldBy old targets) xs) (sym c.as_slice-2.ensures) c.in_ok-sites.ensures in
    IfOk-weaker c.add_all.result (λ _. PutsAll old before c.args.to sites new after) (λ _. Applies (Loads c.args.pointer c.args.to) old before new after)
    (λ _ puts. loads_applies c.args.pointer c.args.to targets sites old before new after pointed those puts) c.add_all.ensures
