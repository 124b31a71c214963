use Rattle.await_core.specs.Load.{worth_of}
use Rattle.await_core.specs.declared.record.Stage.TheVariants.{Over}
use Rattle.await_core.proofs.OnRecords.{length-set_stage}
use Rattle.await_core.proofs.OnRising.{home_within, above_of, rooted, room_for, stays, goes, ready}
use Rattle.await_core.proofs.settle.rise.Goals as goal

pub returns-in-None-clause-step : goal.returns-in-None-clause-step
returns-in-None-clause-step g c =
    rw c.into_evaluation.ensures (rooted c.args.records.now.items c.args.value.now c.args.ticket (worth_of c.args.load) c.requires.within (λ r e. c.in-None.ensures r (rw c.as_slice.ensures.value e)))

pub change_stage-stage-requires : goal.change_stage-stage-requires
change_stage-stage-requires g c =
    home_within c.args.records.now.items c.args.ticket c.in-Some.home c.requires.within c.requires.homes (λ r e. c.in-Some.ensures r (rw c.as_slice.ensures.value e))

pub arrive-requires : goal.arrive-requires
arrive-requires g c =
    let above = above_of c.args.records.now.items c.args.ticket c.in-Some.home c.change_stage-stage.result c.requires.within c.requires.homes (λ r e. c.in-Some.ensures r (rw c.as_slice.ensures.value e)) c.change_stage-stage.ensures.before in
    λ empty full. room_for c.args.records.now.items c.args.ticket c.in-Some.home c.change_stage-stage.result (worth_of c.args.load) c.args.load.room above c.requires.room empty full

pub put_stage-requires : goal.put_stage-requires
put_stage-requires g c =
    let lt = home_within c.args.records.now.items c.args.ticket c.in-Some.home c.requires.within c.requires.homes (λ r e. c.in-Some.ensures r (rw c.as_slice.ensures.value e)) in
    rw (c.change_stage-stage.ensures.after, length-set_stage c.args.records.now.items c.in-Some.home.ticket Over) lt

pub before_at-before-requires : goal.before_at-before-requires
before_at-before-requires g c =
    let lt = home_within c.args.records.now.items c.args.ticket c.in-Some.home c.requires.within c.requires.homes (λ r e. c.in-Some.ensures r (rw c.as_slice.ensures.value e)) in
    rw (c.as_slice-in-Joined.ensures.value, c.change_stage-stage.ensures.after, length-set_stage c.args.records.now.items c.in-Some.home.ticket Over) lt

pub returns-in-Stays-clause-step : goal.returns-in-Stays-clause-step
returns-in-Stays-clause-step g c =
    let above = above_of c.args.records.now.items c.args.ticket c.in-Some.home c.change_stage-stage.result c.requires.within c.requires.homes (λ r e. c.in-Some.ensures r (rw c.as_slice.ensures.value e)) c.change_stage-stage.ensures.before in
    stays c.args.records.now.items c.put_stage.new.records.items c.args.value.now c.args.ticket c.in-Some.home c.change_stage-stage.result c.in-Stays.stage c.args.load above c.in-Stays.ensures
    (rw c.change_stage-stage.ensures.after at c.put_stage.ensures.after)

pub returns-in-Joined-clause-step : goal.returns-in-Joined-clause-step
returns-in-Joined-clause-step g c =
    let above = above_of c.args.records.now.items c.args.ticket c.in-Some.home c.change_stage-stage.result c.requires.within c.requires.homes (λ r e. c.in-Some.ensures r (rw c.as_slice.ensures.value e)) c.change_stage-stage.ensures.before in
    goes c.args.records.now.items c.change_stage-stage.new.records.items c.args.value.now c.args.ticket c.in-Some.home c.change_stage-stage.result c.args.load c.in-Joined.all c.whole.result above
    c.requires.homes c.requires.room c.in-Joined.ensures c.change_stage-stage.ensures.after c.whole.ensures.leaves c.whole.ensures.room c.before_at-before.result
    (λ r e. c.before_at-before.ensures r (rw (c.as_slice-in-Joined.ensures.value, c.change_stage-stage.ensures.after) e)) c.whole.ensures.tasks

pub returns-in-Complete-clause-step : goal.returns-in-Complete-clause-step
returns-in-Complete-clause-step g c =
    let above = above_of c.args.records.now.items c.args.ticket c.in-Some.home c.change_stage-stage.result c.requires.within c.requires.homes (λ r e. c.in-Some.ensures r (rw c.as_slice.ensures.value e)) c.change_stage-stage.ensures.before in
    ready c.args.records.now.items c.change_stage-stage.new.records.items c.args.value.now c.args.ticket c.in-Some.home c.change_stage-stage.result c.args.load c.in-Complete.rest c.in-Complete.each above
    c.in-Complete.ensures c.change_stage-stage.ensures.after
