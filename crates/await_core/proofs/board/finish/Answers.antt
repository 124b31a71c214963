use Rattle.std.proofs.Common.{◌≡◌, ◌-◌, ◌<◌, length, refl, ◌∙◌, arith}
use Rattle.await_core.specs.declared.record.Stage.TheVariants.{Over}
use Rattle.await_core.specs.Boards.{works_of}
use Rattle.await_core.specs.Standing.{answer_for, IsKeptFor}
use Rattle.await_core.proofs.OnRecords.{get_set, works-set_stage, length-set_stage}
use Rattle.await_core.proofs.OnFinish.{get_is, holds_over, done_worth, done_own, task_own, root_kept}
use Rattle.await_core.proofs.board.finish.Goals as goal

pub loop-at-init : goal.loop-at-init
loop-at-init g c =
    let s = rw (← c.board.view_is) at c.requires.2 in
    record {
      within = omega (arith, c.len-at.ensures, c.board.inside.records.ok.0);
      works = refl;
      holds = (c.requires.0, c.requires.1, record { homes = c.board.invariant.0.homes; stands = s.records; value = s.value; held = c.board.invariant.1 });
    }

pub index-requires : goal.index-requires
index-requires g c = omega (arith, c.loop-at.invariant.within, c.loop-at-test.true, c.loop-at.records.ok.0)

pub perform-requires-after_bounds : goal.perform-requires-after_bounds
perform-requires-after_bounds g c κs within =
    let m = g.T.Tree.meaning c.args.tree.now in
    let laws = (g.met.T.Tree g.world.𝓛 g.world.𝓜 g.world.𝓡 ((λ s x. x), (λ x. x), (λ x. x), λ x. x)).laws c.args.tree.now in
    let i = c.loop-at in
    let lt : i.at - 1 < length i.records.items = omega (arith, i.invariant.within, c.loop-at-test.true) in
    let here = get_is i.records.items (i.at - 1) c.index.result.now lt c.index.ensures in
    rw c.get.ensures (task_own m laws i.invariant.holds.0 i.records.items (i.at - 1) c.index.result.now i.invariant.holds.1 i.invariant.holds.2.stands here)

pub evaluate_answer-requires-after_bounds : goal.evaluate_answer-requires-after_bounds
evaluate_answer-requires-after_bounds g c κs within =
    let m = g.T.Tree.meaning c.args.tree.now in
    let laws = (g.met.T.Tree g.world.𝓛 g.world.𝓜 g.world.𝓡 ((λ s x. x), (λ x. x), (λ x. x), λ x. x)).laws c.args.tree.now in
    let i = c.loop-at in
    let lt : i.at - 1 < length i.records.items = omega (arith, i.invariant.within, c.loop-at-test.true) in
    let here = get_is i.records.items (i.at - 1) c.index.result.now lt c.index.ensures in
    let made : answer_for m.answers c.index.result.now.work ≡ c.in_ok-answer.answer = rw c.get.ensures at c.in_ok-answer.ensures in
    done_own m laws i.invariant.holds.0 i.records.items (i.at - 1) c.index.result.now c.in_ok-answer.answer i.invariant.holds.1 i.invariant.holds.2.stands here made

pub put_stage-requires : goal.put_stage-requires
put_stage-requires g c = omega (arith, c.loop-at.invariant.within, c.loop-at-test.true)

pub after_at-tasks-requires : goal.after_at-tasks-requires
after_at-tasks-requires g c =
    let i = c.loop-at in
    let lt : i.at - 1 < length i.records.items = omega (arith, i.invariant.within, c.loop-at-test.true) in
    rw (c.as_slice-then-is_unposted.ensures.value, c.put_stage.ensures.after, length-set_stage i.records.items (i.at - 1) Over) lt

pub bring_up-requires-clause-within : goal.bring_up-requires-clause-within
bring_up-requires-clause-within g c κs within =
    let i = c.loop-at in
    let lt : i.at - 1 < length i.records.items = omega (arith, i.invariant.within, c.loop-at-test.true) in
    rw (c.put_stage.ensures.after, length-set_stage i.records.items (i.at - 1) Over) lt

pub bring_up-requires-clause-brings : goal.bring_up-requires-clause-brings
bring_up-requires-clause-brings g c κs within =
    let m = g.T.Tree.meaning c.args.tree.now in
    let i = c.loop-at in
    let h = i.invariant.holds in
    let r = c.index.result.now in
    let lt : i.at - 1 < length i.records.items = omega (arith, i.invariant.within, c.loop-at-test.true) in
    let here = get_is i.records.items (i.at - 1) r lt c.index.ensures in
    let made : answer_for m.answers r.work ≡ c.in_ok-answer.answer = rw c.get.ensures at c.in_ok-answer.ensures in
    let counted = c.after_at-tasks.ensures (record { work = r.work; home = r.home; before = r.before; stage = Over }) (rw (c.as_slice-then-is_unposted.ensures.value, c.put_stage.ensures.after) (get_set i.records.items (i.at - 1) r Over here)) in
    rw c.put_stage.ensures.after (
      h.0,
      h.1,
      holds_over m.answers h.0 i.records.items i.value (i.at - 1) i.held r here h.2,
      done_worth m.answers h.0 i.records.items (i.at - 1) r c.in_ok-answer.answer c.in_ok-all.all.leaves c.in_ok-all.all.tasks c.after_at-tasks.result h.2.stands here made c.in_ok-all.ensures counted,
    )

pub loop-at-preserved-then-is_unposted : goal.loop-at-preserved-then-is_unposted
loop-at-preserved-then-is_unposted g c =
    let i = c.loop-at in
    let same : length c.put_stage.new.records.items ≡ length i.records.items = rw c.put_stage.ensures.after (length-set_stage i.records.items (i.at - 1) Over) in
    let works : works_of c.put_stage.new.records.items ≡ works_of i.records.items = rw c.put_stage.ensures.after (works-set_stage i.records.items (i.at - 1) Over) in
    record {
      within = omega (arith, same, c.in_ok-held.ensures.len, i.invariant.within, c.loop-at-test.true);
      works = c.in_ok-held.ensures.works ∙ works ∙ i.invariant.works;
      holds = c.in_ok-held.ensures.holds;
    }

pub loop-at-preserved : goal.loop-at-preserved
loop-at-preserved g c = record { within = omega (arith, c.loop-at.invariant.within); works = c.loop-at.invariant.works; holds = c.loop-at.invariant.holds }

pub returns-in-Some : goal.returns-in-Some
returns-in-Some g c node first =
    let m = g.T.Tree.meaning c.args.tree.now in
    let h = c.loop-at.invariant.holds in
    let kept : IsKeptFor m.answers h.0 c.in-Some.value = rw c.in-Some.is at h.2.value in
    rw c.into_vec.ensures (root_kept m.answers c.loop-at.records.items c.board.inside.records.items h.0 node c.in-Some.value c.loop-at.invariant.works h.2.stands kept (rw (← c.board.view_is) at first))
