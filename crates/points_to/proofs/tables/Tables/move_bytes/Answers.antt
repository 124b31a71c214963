use Rattle.std.proofs.Common.{List, sym, subst}
use Rattle.std.proofs.lemmas.Result.{IfOk-weaker}
use Rattle.flat_ir.specs.declared.names.Site.{Site}
use Rattle.points_to.specs.declared.holders.Inclusion.TheVariants.{Moves}
use Rattle.points_to.specs.Solving.{Has, HeldBy, AreThose, PutsAllBytes, Applies}
use Rattle.points_to.proofs.Putting.{moves_applies}
use Rattle.points_to.proofs.tables.Tables.move_bytes.Goals as goal

pub returns : goal.returns
returns c =
    let old = c.args.self.now.kinds.items in
    let before = c.args.self.now.changed in
    let new = c.add_to_bytes.new.self.kinds.items in
    let after = c.add_to_bytes.new.self.changed in
    let sources : List Site = c.as_slice.result.now in
    let targets : List Site = c.as_slice-2.result.now in
    let sites : List Site = c.as_slice-3.result.now in
    let read : AreThose (Has old c.args.from) sources = subst (λ (xs : List Site). AreThose (Has old c.args.from) xs) (sym c.as_slice.ensures) c.in_ok-sources.ensures in
    let pointed : AreThose (Has old c.args.to) targets = subst (λ (xs : List Site). AreThose (Has old c.args.to) xs) (sym c.as_slice-2.ensures) c.in_ok-targets.ensures in
    let those : AreThose (HeldBy old sources) sites = subst (λ (xs : List Site). AreThose (HeldBy old sources) xs) (sym c.as_slice-3.ensures) c.in_ok-sites.ensures in
    IfOk-weaker c.add_to_bytes.result (λ _. PutsAllBytes old before targets sites new after) (λ _. Applies (Moves c.args.from c.args.to) old before new after)
    (λ _ puts. moves_applies c.args.from c.args.to sources targets sites old before new after read pointed those puts) c.add_to_bytes.ensures
