use Rattle.std.proofs.Common.{map, arith}
use Rattle.ir_programs.specs.Constants.{are_each}
use Rattle.tree_constants.specs.Judging.{judged}
use Rattle.tree_constants.proofs.Levels.{each_on, each_off}
use Rattle.tree_constants.proofs.constants.are_each.Goals as goal

pub returns-then-not-is_one_type : goal.returns-then-not-is_one_type
returns-then-not-is_one_type c =
    let ts = c.args.types.now in
    each_off ts c.args.constants.now c.places.place c.index-constants-place.result c.kind_of.result.now (omega (arith, c.places-test.true, c.requires)) c.index-constants-place.is c.kind_of.ensures
    c.is_one_type.result (are_each ts c.args.fields.now (map (judged ts) c.args.constants.now)) c.args.fields.now c.index-fields-place.result c.places-test.true c.index-fields-place.is
    c.is_one_type.ensures c.places.invariant c.if-not-is_one_type.true

pub places-preserved : goal.places-preserved
places-preserved c =
    let ts = c.args.types.now in
    each_on ts c.args.constants.now c.places.place c.index-constants-place.result c.kind_of.result.now (omega (arith, c.places-test.true, c.requires)) c.index-constants-place.is c.kind_of.ensures
    c.is_one_type.result (are_each ts c.args.fields.now (map (judged ts) c.args.constants.now)) c.args.fields.now c.index-fields-place.result c.places-test.true c.index-fields-place.is
    c.is_one_type.ensures c.places.invariant c.if-not-is_one_type.false
