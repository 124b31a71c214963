use Rattle.std.proofs.Common.{◌≡◌, ◌+◌, length, None, Some, ◌∙◌, arith}
use Rattle.await_core.proofs.Comes.{resumed_own}
use Rattle.await_core.proofs.OnSound.{rises_length}
use Rattle.await_core.proofs.OnLeaves.{rises_within}
use Rattle.await_core.proofs.OnFinish.{rises_works, rises_below, after_settle, ready_own, resumed_worth}
use Rattle.await_core.proofs.board.bring_up.Goals as goal

pub returns-in-None-clause-works : goal.returns-in-None-clause-works
returns-in-None-clause-works g c = rises_works c.in-None.ensures.rises ∙ c.up.invariant.works

pub returns-in-None-clause-len : goal.returns-in-None-clause-len
returns-in-None-clause-len g c = rises_length c.in-None.ensures.rises ∙ c.up.invariant.len

pub returns-in-None-clause-holds : goal.returns-in-None-clause-holds
returns-in-None-clause-holds g c =
    let m = g.T.Tree.meaning c.args.tree.now in
    let more : c.in-Some.more ≡ c.up.held + length c.up.worth.leaves = omega (arith, c.in-Some.ensures, c.len.ensures) in
    let a = after_settle m c.up.records.items c.settle.new.records.items c.up.value c.settle.new.value c.up.held c.in-Some.more c.up.at c.up.worth c.in_ok-load.load None c.up.invariant.brings c.in_ok-load.ensures.leaves c.in_ok-load.ensures.tasks c.in-None.ensures.rises more in
    (a.0, a.1, a.2)

pub resume-requires-clause-own : goal.resume-requires-clause-own
resume-requires-clause-own g c =
    let m = g.T.Tree.meaning c.args.tree.now in
    let more : c.in-Some.more ≡ c.up.held + length c.up.worth.leaves = omega (arith, c.in-Some.ensures, c.len.ensures) in
    let laws = (g.met.T.Tree g.world.𝓛 g.world.𝓜 g.world.𝓡 ((λ s x. x), (λ x. x), (λ x. x), λ x. x)).laws c.args.tree.now in
    let made = c.in-Some-settle.made in
    let a = after_settle m c.up.records.items c.settle.new.records.items c.up.value c.settle.new.value c.up.held c.in-Some.more c.up.at c.up.worth c.in_ok-load.load (Some made) c.up.invariant.brings c.in_ok-load.ensures.leaves c.in_ok-load.ensures.tasks c.in-Some-settle.ensures.rises more in
    let own = ready_own m laws a.0 c.settle.new.records.items made a.1 a.3 in
    own.0

pub resume-requires-clause-takes : goal.resume-requires-clause-takes
resume-requires-clause-takes g c =
    let m = g.T.Tree.meaning c.args.tree.now in
    let more : c.in-Some.more ≡ c.up.held + length c.up.worth.leaves = omega (arith, c.in-Some.ensures, c.len.ensures) in
    let laws = (g.met.T.Tree g.world.𝓛 g.world.𝓜 g.world.𝓡 ((λ s x. x), (λ x. x), (λ x. x), λ x. x)).laws c.args.tree.now in
    let made = c.in-Some-settle.made in
    let a = after_settle m c.up.records.items c.settle.new.records.items c.up.value c.settle.new.value c.up.held c.in-Some.more c.up.at c.up.worth c.in_ok-load.load (Some made) c.up.invariant.brings c.in_ok-load.ensures.leaves c.in_ok-load.ensures.tasks c.in-Some-settle.ensures.rises more in
    let own = ready_own m laws a.0 c.settle.new.records.items made a.1 a.3 in
    rw c.as_slice.ensures own.1

pub evaluate_answer-requires-after_bounds : goal.evaluate_answer-requires-after_bounds
evaluate_answer-requires-after_bounds g c κs within =
    let m = g.T.Tree.meaning c.args.tree.now in
    let more : c.in-Some.more ≡ c.up.held + length c.up.worth.leaves = omega (arith, c.in-Some.ensures, c.len.ensures) in
    let laws = (g.met.T.Tree g.world.𝓛 g.world.𝓜 g.world.𝓡 ((λ s x. x), (λ x. x), (λ x. x), λ x. x)).laws c.args.tree.now in
    let made = c.in-Some-settle.made in
    let a = after_settle m c.up.records.items c.settle.new.records.items c.up.value c.settle.new.value c.up.held c.in-Some.more c.up.at c.up.worth c.in_ok-load.load (Some made) c.up.invariant.brings c.in_ok-load.ensures.leaves c.in_ok-load.ensures.tasks c.in-Some-settle.ensures.rises more in
    let own = ready_own m laws a.0 c.settle.new.records.items made a.1 a.3 in
    resumed_own m laws made.rest made.lists own.0 own.1 (rw c.as_slice.ensures at c.in_ok-answer-in-Some-settle.ensures)

pub after_at-before-requires : goal.after_at-before-requires
after_at-before-requires g c = rw c.as_slice-in-Some-settle.ensures.value (rises_within c.in-Some-settle.ensures.rises)

pub up-smaller : goal.up-smaller
up-smaller g c = rises_below c.in-Some-settle.ensures.rises c.up.invariant.brings.2.homes

pub up-preserved : goal.up-preserved
up-preserved g c =
    let m = g.T.Tree.meaning c.args.tree.now in
    let more : c.in-Some.more ≡ c.up.held + length c.up.worth.leaves = omega (arith, c.in-Some.ensures, c.len.ensures) in
    let laws = (g.met.T.Tree g.world.𝓛 g.world.𝓜 g.world.𝓡 ((λ s x. x), (λ x. x), (λ x. x), λ x. x)).laws c.args.tree.now in
    let made = c.in-Some-settle.made in
    let a = after_settle m c.up.records.items c.settle.new.records.items c.up.value c.settle.new.value c.up.held c.in-Some.more c.up.at c.up.worth c.in_ok-load.load (Some made) c.up.invariant.brings c.in_ok-load.ensures.leaves c.in_ok-load.ensures.tasks c.in-Some-settle.ensures.rises more in
    let own = ready_own m laws a.0 c.settle.new.records.items made a.1 a.3 in
    let worth = resumed_worth m.answers a.0 c.settle.new.records.items made a.3 c.in_ok-all-in-Some-settle.all.leaves c.after_at-before.result c.in_ok-all-in-Some-settle.all.tasks c.saturating_add-tasks.result c.in_ok-answer-in-Some-settle.answer
    (λ r e. c.after_at-before.ensures r (rw c.as_slice-in-Some-settle.ensures.value e)) (rw c.as_slice.ensures at c.in_ok-answer-in-Some-settle.ensures) c.in_ok-all-in-Some-settle.ensures (omega (arith, c.saturating_add-with_rest.ensures, c.saturating_add-tasks.ensures)) in
    record {
      within = rises_within c.in-Some-settle.ensures.rises;
      works = rises_works c.in-Some-settle.ensures.rises ∙ c.up.invariant.works;
      len = rises_length c.in-Some-settle.ensures.rises ∙ c.up.invariant.len;
      brings = (a.0, a.1, a.2, worth);
    }
