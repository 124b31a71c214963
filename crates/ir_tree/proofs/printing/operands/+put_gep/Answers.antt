use Rattle.std.proofs.lemmas.Result.{on_ok_weaker}
use Rattle.std.proofs.lemmas.List.{take_rest}
use Rattle.ir_tree.proofs.Spelled.{gep_put}
use Rattle.ir_tree.proofs.printing.operands.+put_gep.Goals as goal

pub returns-in_ok-put_others-in-len1-up : goal.returns-in_ok-put_others-in-len1-up
returns-in_ok-put_others-in-len1-up t c =
    on_ok_weaker c.put-in-len1-up-4.result
    (λ e. gep_put c.args.base.now c.args.levels.now _ _ c.level-item.result c.args.page.now _ _ _ _ _ _ _ _ c.in-len1-up.len_at_least c.level-item.is (take_rest c.args.levels.now 1) c.as_slice-in-len1-up.ensures
    c.in_ok-put-in-len1-up.ensures c.in_ok-put-in-len1-up-2.ensures c.in_ok-put_type-in-len1-up.ensures c.in_ok-put-in-len1-up-3.ensures c.in_ok-put-in-len1-up-4.ensures c.in_ok-put_gep-in-len1-up.ensures
    c.in_ok-put_others-in-len1-up.ensures e)
    c.put-in-len1-up-4.ensures
