use Rattle.std.proofs.lemmas.Result.{IfOk-weaker}
use Rattle.points_to.specs.declared.holders.Inclusion.TheVariants.{Names}
use Rattle.points_to.specs.Solving.{Puts, Applies}
use Rattle.points_to.proofs.Putting.{names_applies}
use Rattle.points_to.proofs.tables.Tables.name.Goals as goal

pub returns : goal.returns
returns c =
    let old = c.args.self.now.kinds.items in
    let before = c.args.self.now.changed in
    let new = c.add.new.self.kinds.items in
    let after = c.add.new.self.changed in
    IfOk-weaker c.add.result (λ _. Puts old before c.args.to c.args.site new after) (λ _. Applies (Names c.args.to c.args.site) old before new after)
    (λ _ puts. names_applies c.args.to c.args.site old before new after puts) c.add.ensures
