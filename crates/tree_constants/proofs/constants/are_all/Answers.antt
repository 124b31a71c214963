use Rattle.std.proofs.Common.{map}
use Rattle.ir_programs.specs.Constants.{are_all}
use Rattle.tree_constants.specs.Judging.{judged}
use Rattle.tree_constants.proofs.Levels.{all_on, all_off}
use Rattle.tree_constants.proofs.constants.are_all.Goals as goal

pub returns-then-not-is_one_type : goal.returns-then-not-is_one_type
returns-then-not-is_one_type c =
    let ts = c.args.types.now in
    all_off ts c.args.constants.now c.each.constant-index c.constant-item.result c.kind_of.result.now c.each-test.true c.constant-item.is c.kind_of.ensures
    c.is_one_type.result (are_all ts c.args.kind.now (map (judged ts) c.args.constants.now)) c.args.kind.now c.is_one_type.ensures c.each.invariant c.if-not-is_one_type.true

pub each-preserved : goal.each-preserved
each-preserved c =
    let ts = c.args.types.now in
    all_on ts c.args.constants.now c.each.constant-index c.constant-item.result c.kind_of.result.now c.each-test.true c.constant-item.is c.kind_of.ensures
    c.is_one_type.result (are_all ts c.args.kind.now (map (judged ts) c.args.constants.now)) c.args.kind.now c.is_one_type.ensures c.each.invariant c.if-not-is_one_type.false
