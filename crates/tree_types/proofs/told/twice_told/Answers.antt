use Rattle.std.proofs.Common.{◌∙◌, map, sym}
use Rattle.ir_programs.specs.Uses.{stands_before}
use Rattle.ir_programs.specs.declared.refusals.Cause.TheVariants.{DuplicateName}
use Rattle.tree_types.specs.Asked.{twice_at}
use Rattle.tree_types.proofs.Telling.{tell_at, place_if}
use Rattle.tree_types.proofs.told.twice_told.Goals as goal

pub returns : goal.returns
returns c = λ rest.
    let ds = c.args.definitions.now in
    let name = c.args.name.now in
    tell_at c.args.told c.noted.result DuplicateName name.at (twice_at ds name) rest
    (place_if (stands_before (map (λ d. d.name) ds) name) name.at (sym c.stands_before.ensures ∙ c.if-not-stands_before.false)) c.noted.ensures
