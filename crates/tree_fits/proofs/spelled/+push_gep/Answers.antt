use Rattle.std.proofs.lemmas.Result.{IfOk-weaker}
use Rattle.std.proofs.lemmas.List.{take_rest}
use Rattle.tree_fits.proofs.Tokens.{gep_pushed}
use Rattle.tree_fits.proofs.spelled.+push_gep.Goals as goal

pub returns-in_ok-push_indices-in-len1-up : goal.returns-in_ok-push_indices-in-len1-up
returns-in_ok-push_indices-in-len1-up t c =
    IfOk-weaker c.push_word-in-len1-up-4.result _ _
    (λ u e. gep_pushed c.args.base.now c.args.levels.now _ _ c.level-item.result c.args.tokens.now.items _ _ _ _ _ _ _ _ c.in-len1-up.len_at_least c.level-item.is (take_rest c.args.levels.now 1) c.as_slice-in-len1-up.ensures
    c.in_ok-push_word-in-len1-up.ensures c.in_ok-push_word-in-len1-up-2.ensures c.in_ok-push_type-in-len1-up.ensures c.in_ok-push_word-in-len1-up-3.ensures c.in_ok-push_word-in-len1-up-4.ensures c.in_ok-push_gep-in-len1-up.ensures
    c.in_ok-push_indices-in-len1-up.ensures e)
    c.push_word-in-len1-up-4.ensures
