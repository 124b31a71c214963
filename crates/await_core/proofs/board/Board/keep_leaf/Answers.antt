use Rattle.std.proofs.Common.{◌≡◌, ◌+◌, [], ◌∷◌, length, slice_get, None, Some, refl, arith}
use Rattle.await_core.specs.declared.record.Work.TheVariants.{Resume}
use Rattle.await_core.specs.declared.record.Stage.TheVariants.{Over}
use Rattle.await_core.specs.declared.evaluation.Evaluation.{Evaluation}
use Rattle.await_core.specs.Slots.{capped}
use Rattle.await_core.specs.Boards.{set_stage}
use Rattle.await_core.specs.Rising.{Rises}
use Rattle.await_core.specs.Steps.{HasRoom}
use Rattle.await_core.specs.Events.{Opens}
use Rattle.await_core.proofs.OnRecords.{some_is, out_record, within_record, length-set_stage, homes-set_stage}
use Rattle.await_core.proofs.OnSound.{rises_length}
use Rattle.await_core.proofs.OnTurns.{some_is_out, room_over}
use Rattle.await_core.proofs.OnPosts.{sound_leaf, held_leaf}
use Rattle.await_core.proofs.OnLeaves.{leaf_rises, rises_within, opened}
use Rattle.await_core.proofs.board.Board.keep_leaf.Goals as goal

pub overflow_sub-self : goal.overflow_sub-self
overflow_sub-self g c =
    let s = c.self.inside in
    omega (arith, some_is_out s.records.items s.handed s.out s.refused s.value c.args.ticket c.self.invariant.0 (out_record s.records.items c.args.ticket (rw (← c.self.view_is) at c.requires.out)))

pub settle-requires-clause-within : goal.settle-requires-clause-within
settle-requires-clause-within g c =
    let s = c.self.inside in
    let o = out_record s.records.items c.args.ticket (rw (← c.self.view_is) at c.requires.out) in
    rw (c.put_stage.ensures.after, c.in_ok-reserve.ensures.items, length-set_stage s.records.items c.args.ticket Over) (within_record s.records.items c.args.ticket o.task o.at)

pub settle-requires-clause-homes : goal.settle-requires-clause-homes
settle-requires-clause-homes g c =
    let s = c.self.inside in
    rw (c.put_stage.ensures.after, c.in_ok-reserve.ensures.items) (homes-set_stage 0 s.records.items c.args.ticket Over c.self.invariant.0.homes)

pub settle-requires-clause-room : goal.settle-requires-clause-room
settle-requires-clause-room g c =
    let s = c.self.inside in
    let o = out_record s.records.items c.args.ticket (rw (← c.self.view_is) at c.requires.out) in
    let has : HasRoom s.records.items c.args.ticket c.in_ok-load.load.room = rw c.in_ok-load.ensures.room (rw c.as_slice.ensures.value at c.room_for-room.ensures) in
    rw (c.put_stage.ensures.after, c.in_ok-reserve.ensures.items) (room_over s.records.items c.args.ticket c.in_ok-load.load.room o c.self.invariant.0.homes has)

pub invariant_of-self-in-None-settle : goal.invariant_of-self-in-None-settle
invariant_of-self-in-None-settle g c =
    let s = c.self.inside in
    let o = out_record s.records.items c.args.ticket (rw (← c.self.view_is) at c.requires.out) in
    let set : c.put_stage.new.records.items ≡ set_stage s.records.items c.args.ticket Over = rw (c.put_stage.ensures.after, c.in_ok-reserve.ensures.items) refl in
    let seen : slice_get c.as_slice-2.result.now c.args.ticket ≡ Some o.task = rw c.as_slice-2.ensures.value o.at in
    let tasks : c.in_ok-load.load.tasks ≡ capped (o.task.before + 1) = omega (arith, c.in_ok-load.ensures.tasks, c.saturating_add-tasks.ensures, c.before_at.ensures o.task seen) in
    let e : Evaluation g.row.L.Denot = record { leaves = c.args.leaf ∷ []; tasks = capped (o.task.before + 1) } in
    let rises : Rises (set_stage s.records.items c.args.ticket Over) s.value c.args.ticket e c.settle.new.records.items c.settle.new.value None =
    leaf_rises s.records.items c.put_stage.new.records.items c.settle.new.records.items s.value c.settle.new.value c.args.ticket c.args.leaf c.in_ok-load.load o.task None set c.in_ok-load.ensures.leaves tasks c.in-None.ensures.rises in
    let opens : Opens c.settle.new.records.items s.refused None c.settle.new.records.items s.refused = (refl, refl) in
    let held = held_leaf s.records.items s.refused s.value c.args.ticket e c.settle.new.records.items c.settle.new.value None c.settle.new.records.items s.refused o rises opens in (
      sound_leaf s.records.items s.handed s.out s.refused s.value c.args.ticket e c.settle.new.records.items c.settle.new.value None c.settle.new.records.items s.refused c.self.invariant.0 o rises opens,
      omega (arith, held, c.self.invariant.1, c.in-Some.ensures),
    )

pub returns-in-None-clause-ok : goal.returns-in-None-clause-ok
returns-in-None-clause-ok g c =
    let s = c.self.inside in
    let o = out_record s.records.items c.args.ticket (rw (← c.self.view_is) at c.requires.out) in
    let set : c.put_stage.new.records.items ≡ set_stage s.records.items c.args.ticket Over = rw (c.put_stage.ensures.after, c.in_ok-reserve.ensures.items) refl in
    let seen : slice_get c.as_slice-2.result.now c.args.ticket ≡ Some o.task = rw c.as_slice-2.ensures.value o.at in
    let tasks : c.in_ok-load.load.tasks ≡ capped (o.task.before + 1) = omega (arith, c.in_ok-load.ensures.tasks, c.saturating_add-tasks.ensures, c.before_at.ensures o.task seen) in
    let e : Evaluation g.row.L.Denot = record { leaves = c.args.leaf ∷ []; tasks = capped (o.task.before + 1) } in
    let rises : Rises (set_stage s.records.items c.args.ticket Over) s.value c.args.ticket e c.settle.new.records.items c.settle.new.value None =
    leaf_rises s.records.items c.put_stage.new.records.items c.settle.new.records.items s.value c.settle.new.value c.args.ticket c.args.leaf c.in_ok-load.load o.task None set c.in_ok-load.ensures.leaves tasks c.in-None.ensures.rises in
    rw (← c.self.view_is) (record { task = o.task; at = o.at; records = c.settle.new.records.items; made = None; rises = rises; opens = (refl, refl); handed = refl; out = refl })

pub open_resumption-self-inside-requires-clause-within : goal.open_resumption-self-inside-requires-clause-within
open_resumption-self-inside-requires-clause-within g c = rises_within c.in-Some-settle.ensures.rises

pub invariant_of-self-in-Some-settle : goal.invariant_of-self-in-Some-settle
invariant_of-self-in-Some-settle g c =
    let s = c.self.inside in
    let o = out_record s.records.items c.args.ticket (rw (← c.self.view_is) at c.requires.out) in
    let set : c.put_stage.new.records.items ≡ set_stage s.records.items c.args.ticket Over = rw (c.put_stage.ensures.after, c.in_ok-reserve.ensures.items) refl in
    let seen : slice_get c.as_slice-2.result.now c.args.ticket ≡ Some o.task = rw c.as_slice-2.ensures.value o.at in
    let tasks : c.in_ok-load.load.tasks ≡ capped (o.task.before + 1) = omega (arith, c.in_ok-load.ensures.tasks, c.saturating_add-tasks.ensures, c.before_at.ensures o.task seen) in
    let e : Evaluation g.row.L.Denot = record { leaves = c.args.leaf ∷ []; tasks = capped (o.task.before + 1) } in
    let rises : Rises (set_stage s.records.items c.args.ticket Over) s.value c.args.ticket e c.settle.new.records.items c.settle.new.value (Some c.in-Some-settle.made) =
    leaf_rises s.records.items c.put_stage.new.records.items c.settle.new.records.items s.value c.settle.new.value c.args.ticket c.args.leaf c.in_ok-load.load o.task (Some c.in-Some-settle.made) set c.in_ok-load.ensures.leaves tasks c.in-Some-settle.ensures.rises in
    let is : c.of_place-work.result ≡ Resume c.in-Some-settle.made.rest c.in-Some-settle.made.lists = some_is c.of_place-work.ensures in
    let opens : Opens c.settle.new.records.items s.refused (Some c.in-Some-settle.made) c.open_resumption-self-inside.new.records.items c.open_resumption-self-inside.result =
    opened c.settle.new.records.items c.open_resumption-self-inside.new.records.items s.refused c.open_resumption-self-inside.result c.in-Some-settle.made c.of_place-work.result (rises_within c.in-Some-settle.ensures.rises) is c.open_resumption-self-inside.ensures in
    let held = held_leaf s.records.items s.refused s.value c.args.ticket e c.settle.new.records.items c.settle.new.value (Some c.in-Some-settle.made) c.open_resumption-self-inside.new.records.items c.open_resumption-self-inside.result o rises opens in (
      sound_leaf s.records.items s.handed s.out s.refused s.value c.args.ticket e c.settle.new.records.items c.settle.new.value (Some c.in-Some-settle.made) c.open_resumption-self-inside.new.records.items c.open_resumption-self-inside.result c.self.invariant.0 o rises opens,
      omega (arith, held, c.self.invariant.1, c.in-Some.ensures),
    )

pub returns-in-Some-settle-clause-ok : goal.returns-in-Some-settle-clause-ok
returns-in-Some-settle-clause-ok g c =
    let s = c.self.inside in
    let o = out_record s.records.items c.args.ticket (rw (← c.self.view_is) at c.requires.out) in
    let set : c.put_stage.new.records.items ≡ set_stage s.records.items c.args.ticket Over = rw (c.put_stage.ensures.after, c.in_ok-reserve.ensures.items) refl in
    let seen : slice_get c.as_slice-2.result.now c.args.ticket ≡ Some o.task = rw c.as_slice-2.ensures.value o.at in
    let tasks : c.in_ok-load.load.tasks ≡ capped (o.task.before + 1) = omega (arith, c.in_ok-load.ensures.tasks, c.saturating_add-tasks.ensures, c.before_at.ensures o.task seen) in
    let e : Evaluation g.row.L.Denot = record { leaves = c.args.leaf ∷ []; tasks = capped (o.task.before + 1) } in
    let rises : Rises (set_stage s.records.items c.args.ticket Over) s.value c.args.ticket e c.settle.new.records.items c.settle.new.value (Some c.in-Some-settle.made) =
    leaf_rises s.records.items c.put_stage.new.records.items c.settle.new.records.items s.value c.settle.new.value c.args.ticket c.args.leaf c.in_ok-load.load o.task (Some c.in-Some-settle.made) set c.in_ok-load.ensures.leaves tasks c.in-Some-settle.ensures.rises in
    let is : c.of_place-work.result ≡ Resume c.in-Some-settle.made.rest c.in-Some-settle.made.lists = some_is c.of_place-work.ensures in
    let opens : Opens c.settle.new.records.items s.refused (Some c.in-Some-settle.made) c.open_resumption-self-inside.new.records.items c.open_resumption-self-inside.result =
    opened c.settle.new.records.items c.open_resumption-self-inside.new.records.items s.refused c.open_resumption-self-inside.result c.in-Some-settle.made c.of_place-work.result (rises_within c.in-Some-settle.ensures.rises) is c.open_resumption-self-inside.ensures in
    rw (← c.self.view_is) (record { task = o.task; at = o.at; records = c.settle.new.records.items; made = Some c.in-Some-settle.made; rises = rises; opens = opens; handed = refl; out = refl })

pub open_resumption-self-inside-requires-clause-room : goal.open_resumption-self-inside-requires-clause-room
open_resumption-self-inside-requires-clause-room g c =
    let same : length c.put_stage.new.records.items ≡ length c.reserve.new.self.items = rw c.put_stage.ensures.after (length-set_stage c.reserve.new.self.items c.args.ticket Over) in
    let risen = rises_length c.in-Some-settle.ensures.rises in
    omega (arith, same, risen, c.settle.new.records.ok.0, c.reserve.new.self.ok.0, c.in_ok-reserve.ensures.ok, c.put_stage.ensures.capacity, c.in-Some-settle.ensures.capacity)
