-- One step of what rises.
use Rattle.std.proofs.Common.{◌≡◌, ℕ, ◌+◌, ◌-◌, ◌^◌, ◌<◌, ◌≤◌, inl, inr, min, List, length, slice_get, Option, None, Some, refl, sym, ap, ◌∙◌, subst, arith}
use Rattle.std.proofs.Math.ListN.{set}
use Rattle.await_core.specs.declared.record.Home.{Home}
use Rattle.await_core.specs.declared.record.Record.{Record}
use Rattle.await_core.specs.declared.record.Stage.{Stage}
use Rattle.await_core.specs.declared.record.Stage.TheVariants.{Forked, Waiting, Over}
use Rattle.await_core.specs.declared.settle.Arrived.TheVariants.{Stays, Joined, Complete}
use Rattle.await_core.specs.declared.settle.Risen.TheVariants.{Goes, Ready}
use Rattle.await_core.specs.declared.evaluation.Evaluation.{Evaluation}
use Rattle.await_core.specs.declared.evaluation.Evaluations.{Evaluations}
use Rattle.await_core.specs.Slots.{IsFull, held_in}
use Rattle.await_core.specs.Load.{LoadState, worth_of}
use Rattle.await_core.specs.Boards.{stage_at, set_stage, slots_of, HomesBelow}
use Rattle.await_core.specs.Rising.{with_slots, joined_worth, Rises, at_root, astray, filled, joins, resumes}
use Rattle.await_core.specs.Steps.{Arrives, HasRoom, StepsTo}
use Rattle.await_core.proofs.OnRecords.{record_within, stage_of_record, set_twice, set_same, homes-set_stage, length-set_stage, home_below, held_set, held_le, get_set}

pub same_worth : {L : Type 0} (a b : Evaluation L) → a.leaves ≡ b.leaves → a.tasks ≡ b.tasks → a ≡ b
same_worth {L} a b e f =
    let made : List L → ℕ → Evaluation L = λ leaves tasks. record { leaves = leaves; tasks = tasks } in
    ap (λ (xs : List L). made xs a.tasks) e ∙ ap (λ (n : ℕ). made b.leaves n) f

module _ {N L R : Type 0} where
  -- the home of a task, and what stands there
  pub record IsAbove (rs : List (Record N L R)) (ticket : ℕ) (home : Home) (stage : Stage N L R) : Type 0 where
    pub task : Record N L R
    pub at : slice_get rs ticket ≡ Some task
    pub is_home : task.home ≡ Some home
    pub above : Record N L R
    pub there : slice_get rs home.ticket ≡ Some above
    pub is_stage : above.stage ≡ stage

  pub room_for : (rs : List (Record N L R)) (ticket : ℕ) (home : Home) (stage : Stage N L R) (e : Evaluation L) (room : ℕ) → IsAbove rs ticket home stage → HasRoom rs ticket room
      → slice_get (slots_of stage) home.place ≡ Some None → IsFull (set (slots_of stage) home.place (Some e)) → held_in (slots_of stage) ≤ room
  room_for rs ticket home stage e room a has empty full =
      let le = has (record {
        task = a.task;
        at = a.at;
        home = home;
        is_home = a.is_home;
        above = a.above;
        there = a.there;
        worth = e;
        empty = rw a.is_stage empty;
        full = rw a.is_stage full;
      }) in
      let held = held_le rs home.ticket a.above a.there in
      omega (arith, le, rw a.is_stage at held)

  pub stays : (rs new : List (Record N L R)) (value : Option (Evaluation L)) (ticket : ℕ) (home : Home) (stage after : Stage N L R) (load : LoadState L) → IsAbove rs ticket home stage
      → Arrives stage home.place load (Stays after) → new ≡ set_stage (set_stage rs home.ticket Over) home.ticket after → Rises rs value ticket (worth_of load) new value None
  stays rs new value ticket home stage after load a arrives e =
      elim arrives [
        | inl w ↦
            let same : new ≡ rs = e ∙ set_twice rs home.ticket Over after ∙ ap (λ (s : Stage N L R). set_stage rs home.ticket s) (w.1 ∙ sym a.is_stage) ∙ set_same rs home.ticket a.above a.there in
            rw same (astray {worth = worth_of load} a.at a.is_home a.there (λ empty. w.0 (rw a.is_stage at empty)))
        | inr w ↦
            let same : new ≡ set_stage rs home.ticket (with_slots a.above.stage (set (slots_of a.above.stage) home.place (Some (worth_of load)))) = e ∙ set_twice rs home.ticket Over after ∙ ap (λ (s : Stage N L R). set_stage rs home.ticket s) (rw a.is_stage w.2) in
            rw same (filled {worth = worth_of load} a.at a.is_home a.there (rw a.is_stage w.0) (λ full. w.1 (rw a.is_stage at full)))
      ]

  pub goes : (rs new : List (Record N L R)) (value : Option (Evaluation L)) (ticket : ℕ) (home : Home) (stage : Stage N L R) (load all next : LoadState L) → IsAbove rs ticket home stage
      → HomesBelow 0 rs → HasRoom rs ticket load.room → Arrives stage home.place load (Joined all) → new ≡ set_stage rs home.ticket Over
      → next.leaves ≡ all.leaves → next.room ≡ all.room → (before : ℕ) → ((r : Record N L R) → slice_get (set_stage rs home.ticket Over) home.ticket ≡ Some r → before ≡ r.before)
      → next.tasks ≡ min (min (before + 1) (2 ^ 64 - 1) + all.tasks) (2 ^ 64 - 1)
      → StepsTo rs value ticket load (Goes home.ticket next) new value
  goes rs new value ticket home stage load all next a homes has arrives e leaves room before counted tasks =
      let slots = arrives.0 in
      let fork : a.above.stage ≡ Forked slots = a.is_stage ∙ arrives.1 in
      let befores : before ≡ a.above.before = counted _ (get_set rs home.ticket a.above Over a.there) in
      let worth : worth_of next ≡ joined_worth a.above.before (set slots home.place (Some (worth_of load))) =
      same_worth (worth_of next) (joined_worth a.above.before (set slots home.place (Some (worth_of load)))) (leaves ∙ arrives.4) (omega (arith, tasks, befores, arrives.5)) in
      let held = held_set rs home.ticket a.above Over a.there in
      let here : held_in (slots_of a.above.stage) ≡ held_in slots = ap (λ (s : Stage N L R). held_in (slots_of s)) fork in
      let enough = has (record {
        task = a.task;
        at = a.at;
        home = home;
        is_home = a.is_home;
        above = a.above;
        there = a.there;
        worth = worth_of load;
        empty = rw fork arrives.2;
        full = rw fork arrives.3;
      }) in (
        refl,
        omega (arith, home_below 0 rs ticket a.task home homes a.at a.is_home),
        rw (e, length-set_stage rs home.ticket Over) refl,
        rw e (homes-set_stage 0 rs home.ticket Over homes),
        rw e (omega (arith, held, here, enough, room, arrives.6)),
        (λ rs' value' made rises.
            joins a.at a.is_home a.there fork arrives.2 arrives.3 (subst (λ (w : Evaluation L). Rises (set_stage rs home.ticket Over) value home.ticket w rs' value' made) worth (rw e at rises))),
      )

  pub ready : (rs new : List (Record N L R)) (value : Option (Evaluation L)) (ticket : ℕ) (home : Home) (stage : Stage N L R) (load : LoadState L) (rest : R) (each : Evaluations L) → IsAbove rs ticket home stage
      → Arrives stage home.place load (Complete rest each) → new ≡ set_stage rs home.ticket Over
      → StepsTo rs value ticket load (Ready (record { ticket = home.ticket; rest = rest; lists = each.lists; tasks = each.tasks })) new value
  ready rs new value ticket home stage load rest each a arrives e =
      let slots = arrives.0 in
      let await : a.above.stage ≡ Waiting slots rest = a.is_stage ∙ arrives.1 in
      rw (e, arrives.4, arrives.5) (resumes a.at a.is_home a.there await arrives.2 arrives.3)

  pub home_within : (rs : List (Record N L R)) (ticket : ℕ) (home : Home) → ticket < length rs → HomesBelow 0 rs → ((r : Record N L R) → slice_get rs ticket ≡ Some r → Some home ≡ r.home) → home.ticket < length rs
  home_within rs ticket home lt homes is =
      let r = record_within rs ticket lt in
      let below = home_below 0 rs ticket r.0 home homes r.1 (sym (is r.0 r.1)) in
      omega (arith, below, lt)

  pub above_of : (rs : List (Record N L R)) (ticket : ℕ) (home : Home) (stage : Stage N L R) → ticket < length rs → HomesBelow 0 rs → ((r : Record N L R) → slice_get rs ticket ≡ Some r → Some home ≡ r.home)
      → stage_at rs home.ticket ≡ Some stage → IsAbove rs ticket home stage
  above_of rs ticket home stage lt homes is at =
      let r = record_within rs ticket lt in
      let q = record_within rs home.ticket (home_within rs ticket home lt homes is) in
      record { task = r.0; at = r.1; is_home = sym (is r.0 r.1); above = q.0; there = q.1; is_stage = stage_of_record rs home.ticket q.0 stage q.1 at }

  pub rooted : (rs : List (Record N L R)) (value : Option (Evaluation L)) (ticket : ℕ) (worth : Evaluation L) → ticket < length rs → ((r : Record N L R) → slice_get rs ticket ≡ Some r → None ≡ r.home)
      → Rises rs value ticket worth rs (Some worth) None
  rooted rs value ticket worth lt is = let r = record_within rs ticket lt in at_root r.1 (sym (is r.0 r.1))
