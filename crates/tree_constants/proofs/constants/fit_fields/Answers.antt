use Rattle.std.proofs.Common.{◌∙◌, length, map, sym}
use Rattle.std.proofs.lemmas.Bool.{ne_eqb}
use Rattle.std.proofs.lemmas.List.{length-map}
use Rattle.tree_constants.specs.Judging.{judged}
use Rattle.tree_constants.proofs.Levels.{uneven}
use Rattle.tree_constants.proofs.constants.fit_fields.Goals as goal

pub returns-else-fields-constants : goal.returns-else-fields-constants
returns-else-fields-constants c =
    let ts = c.args.types.now in
    ne_eqb (length c.args.fields.now) (length c.args.constants.now) c.if-fields-constants.false
    ∙ sym (uneven ts c.args.fields.now (map (judged ts) c.args.constants.now) (λ e. c.if-fields-constants.false (e ∙ length-map c.args.constants.now (judged ts))))
