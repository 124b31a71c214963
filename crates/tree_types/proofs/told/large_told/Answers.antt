use Rattle.std.proofs.Common.{◌∙◌, sym}
use Rattle.ir_programs.specs.declared.refusals.Cause.TheVariants.{ObjectTooLarge}
use Rattle.tree_types.specs.Asked.{large_at}
use Rattle.tree_types.proofs.Telling.{tell_at, large_is}
use Rattle.tree_types.proofs.told.large_told.Goals as goal

pub returns-in-Some : goal.returns-in-Some
returns-in-Some c = λ rest.
    let ds = c.args.definitions.now in
    tell_at c.args.told c.noted.result ObjectTooLarge c.in-Some.at (large_at ds c.args.kind.now) rest
    (large_is ds c.args.kind.now c.in-Some.at (sym c.is_too_large.ensures ∙ c.if-not-is_too_large.false) c.in-Some.ensures) c.noted.ensures
