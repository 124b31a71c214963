-- How what isn't posted is brought up.
use Rattle.std.proofs.Common.{◌≡◌, ℕ, zero, suc, ◌+◌, ◌^◌, ◌-◌, ◌<◌, min, List, [], ◌∷◌, length, slice_get, get_or, Option, None, Some, refl, sym, ap, ◌∙◌, subst, arith}
use Rattle.await_core.specs.declared.record.Record.{Record}
use Rattle.await_core.specs.declared.record.Resumption.{Resumption}
use Rattle.await_core.specs.declared.record.Stage.TheVariants.{Over}
use Rattle.await_core.specs.declared.record.Work.{Work}
use Rattle.await_core.specs.declared.record.Work.TheVariants.{Expand}
use Rattle.await_core.specs.declared.evaluation.Evaluation.{Evaluation}
use Rattle.await_core.specs.declared.expansion.Expansion.{Expansion}
use Rattle.await_core.specs.declared.expansion.Expansion.TheVariants.{Await}
use Rattle.await_core.specs.Meaning.{Answers, Meaning, IsLawful}
use Rattle.await_core.specs.Evaluation.{Evaluates, await, ComesTo, Counts, IsOwn}
use Rattle.await_core.specs.Slots.{capped}
use Rattle.await_core.specs.Boards.{works_of, set_stage, HomesBelow}
use Rattle.await_core.specs.Rising.{Rises, at_root, astray, filled, joins, resumes}
use Rattle.await_core.specs.Standing.{answer_for, IsHomeOf, IsWorthIn, IsKeptFor, RecordsStand, HasWorth, IsOwnWork}
use Rattle.await_core.specs.Finishing.{Holds, BringsFor}
use Rattle.await_core.specs.Load.{LoadState, worth_of}
use Rattle.await_core.proofs.Evaluations.{each_may_give}
use Rattle.await_core.proofs.OnRising.{same_worth}
use Rattle.await_core.proofs.OnRecords.{get_set, works-set_stage, home_below, homes-set_stage, held_set}
use Rattle.await_core.proofs.OnSound.{rises_homes, rises_held}
use Rattle.await_core.proofs.OnStanding.{task_at, records-set_stage, ReadyStands, MadeStands, rises_stands}
use Rattle.await_core.proofs.OnOwning.{answer_own, descended_own}

module _ {L R : Type 0} where
  -- the await that is complete has a lower ticket
  abbrev pub MadeBelow : ℕ → Option (Resumption L R) → Type 0
  MadeBelow t None = Unit {0}
  MadeBelow t (Some made) = made.ticket < t

  below_more : (a b : ℕ) (made : Option (Resumption L R)) → a < b → MadeBelow a made → MadeBelow b made
  below_more a b None lt h = tt
  below_more a b (Some made) lt h = omega (arith, lt, h)

module _ {N L R : Type 0} where
  pub rises_works : {rs rs' : List (Record N L R)} {v v' : Option (Evaluation L)} {t : ℕ} {e : Evaluation L} {made : Option (Resumption L R)}
      → Rises rs v t e rs' v' made → works_of rs' ≡ works_of rs
  rises_works (at_root x y) = refl
  rises_works (astray x y z n) = refl
  rises_works (filled {rs = rs} {home = home} x y z n f) = works-set_stage rs home.ticket _
  rises_works (joins {rs = rs} {home = home} x y z s n f up) = rises_works up ∙ works-set_stage rs home.ticket Over
  rises_works (resumes {rs = rs} {home = home} x y z s n f) = works-set_stage rs home.ticket Over

  pub rises_below : {rs rs' : List (Record N L R)} {v v' : Option (Evaluation L)} {t : ℕ} {e : Evaluation L} {made : Option (Resumption L R)}
      → Rises rs v t e rs' v' made → HomesBelow 0 rs → MadeBelow t made
  rises_below (at_root x y) h = tt
  rises_below (astray x y z n) h = tt
  rises_below (filled x y z n f) h = tt
  rises_below (joins {rs = rs} {ticket = t} {r = r} {home = home} {made = made} x y z s n f up) h =
      let lt : home.ticket < t = omega (arith, home_below 0 rs t r home h x y) in
      below_more home.ticket t made lt (rises_below up (homes-set_stage 0 rs home.ticket Over h))
  rises_below (resumes {rs = rs} {ticket = t} {r = r} {home = home} x y z s n f) h = omega (arith, home_below 0 rs t r home h x y)

  pub get_is : (rs : List (Record N L R)) (t : ℕ) (r : Record N L R) → t < length rs → r ≡ get_or rs t r → slice_get rs t ≡ Some r
  get_is [] t r lt e = absurd (omega (arith, lt))
  get_is (q ∷ rs) zero r lt e = ap Some (sym e)
  get_is (q ∷ rs) (suc t) r lt e = get_is rs t r (omega (arith, lt)) e

module _ {N L R : Type 0} (tree : Answers N L R) (root : N) where
  -- a board after some leaves rose
  pub brought : {rs rs' : List (Record N L R)} {v v' : Option (Evaluation L)} {t : ℕ} {e : Evaluation L} {made : Option (Resumption L R)} (most more : ℕ)
      → Rises rs v t e rs' v' made → Holds tree root rs v most → HasWorth tree root rs t e → more ≡ most + length e.leaves → Holds tree root rs' v' more × MadeStands tree root rs' made
  brought most more rises h w is =
      let s = rises_stands tree root rises h.stands w h.value in
      let held = rises_held rises in
      (record { homes = rises_homes rises h.homes; stands = s.records; value = s.value; held = omega (arith, held, h.held, is) }, s.made)

  -- what the answer of a rest comes to is what its await's home is worth
  pub resumed_worth : (rs : List (Record N L R)) (made : Resumption L R) (ready : ReadyStands tree root rs made) (leaves : List L) (before all total : ℕ) (answer : Expansion N L R)
      → ((r : Record N L R) → slice_get rs made.ticket ≡ Some r → before ≡ capped (r.before + 1 + made.tasks)) → answer ≡ tree.resumption made.rest made.lists → ComesTo tree answer leaves all
      → total ≡ min (min (before + 1) (2 ^ 64 - 1) + all) (2 ^ 64 - 1) → HasWorth tree root rs made.ticket (record { leaves = leaves; tasks = total })
  resumed_worth rs made ready leaves before all total answer befores is comes e =
      let task = ready.stands in
      let k = rw is at comes in
      let come : Evaluates tree (answer_for tree ready.task.work) leaves (ready.each + (1 + k.0)) = rw ready.answer (await ready.evaluates k.1) in
      let b = befores ready.task ready.at in
      let count : total ≡ min (task.done + 1 + (ready.each + (1 + k.0))) (2 ^ 64 - 1) = omega (arith, b, ready.counts, task.counts, k.2, e) in
      (ready.task, ready.at, (task.node, task.home, (task.done + 1 + (ready.each + (1 + k.0)), count, task.promise leaves (ready.each + (1 + k.0)) come)))

  -- what the answer for a task comes to is what its home is worth
  pub answer_worth : (rs : List (Record N L R)) (t : ℕ) (r : Record N L R) (leaves : List L) (all total : ℕ) → RecordsStand tree root rs → slice_get rs t ≡ Some r → ComesTo tree (answer_for tree r.work) leaves all
      → total ≡ capped (r.before + 1 + all) → HasWorth tree root (set_stage rs t Over) t (record { leaves = leaves; tasks = total })
  answer_worth rs t r leaves all total stands at comes e =
      let task = task_at tree root (works_of rs) rs t r stands.tasks at in
      let home : IsHomeOf tree root (works_of (set_stage rs t Over)) r.home task.node =
      subst (λ (works : List (Work N L R)). IsHomeOf tree root works r.home task.node) (sym (works-set_stage rs t Over)) task.home in
      let count : total ≡ min (task.done + 1 + comes.0) (2 ^ 64 - 1) = omega (arith, task.counts, comes.2, e) in
      (record { work = r.work; home = r.home; before = r.before; stage = Over }, get_set rs t r Over at, (task.node, home, (task.done + 1 + comes.0, count, task.promise leaves comes.0 comes.1)))

  pub done_worth : (rs : List (Record N L R)) (t : ℕ) (r : Record N L R) (answer : Expansion N L R) (leaves : List L) (all total : ℕ) → RecordsStand tree root rs → slice_get rs t ≡ Some r → answer_for tree r.work ≡ answer
      → ComesTo tree answer leaves all → total ≡ capped (r.before + 1 + all) → HasWorth tree root (set_stage rs t Over) t (record { leaves = leaves; tasks = total })
  done_worth rs t r answer leaves all total stands at is comes e =
      answer_worth rs t r leaves all total stands at (subst (λ (x : Expansion N L R). ComesTo tree x leaves all) (sym is) comes) e

  -- a task is over
  pub holds_over : (rs : List (Record N L R)) (v : Option (Evaluation L)) (t most : ℕ) (r : Record N L R) → slice_get rs t ≡ Some r → Holds tree root rs v most → Holds tree root (set_stage rs t Over) v most
  holds_over rs v t most r at h =
      let held = held_set rs t r Over at in
      record { homes = homes-set_stage 0 rs t Over h.homes; stands = records-set_stage tree root rs t Over h.stands (λ q e s. tt); value = h.value; held = omega (arith, held, h.held) }

module _ {N L R : Type 0} (tree : Meaning N L R) where
  -- a board once a load rose
  pub after_settle : (rs rs' : List (Record N L R)) (v v' : Option (Evaluation L)) (held more t : ℕ) (worth : Evaluation L) (load : LoadState L) (made : Option (Resumption L R)) → BringsFor tree rs v held t worth
      → load.leaves ≡ worth.leaves → load.tasks ≡ worth.tasks → Rises rs v t (worth_of load) rs' v' made → more ≡ held + length worth.leaves
      → (root : N) × tree.IsNode root × Holds tree.answers root rs' v' more × MadeStands tree.answers root rs' made
  after_settle rs rs' v v' held more t worth load made b leaves tasks rises is =
      let same : worth_of load ≡ worth = same_worth (worth_of load) worth leaves tasks in
      let risen : Rises rs v t worth rs' v' made = subst (λ (w : Evaluation L). Rises rs v t w rs' v' made) same rises in
      let x = brought tree.answers b.0 held more risen b.2 b.3 is in
      (b.0, b.1, x.0, x.1)

module _ {N L R : Type 0} (tree : Meaning N L R) (laws : IsLawful tree) (root : N) where
  -- the rest of an await on the board is the tree's, and takes its lists
  pub ready_own : (rs : List (Record N L R)) (made : Resumption L R) → tree.IsNode root → ReadyStands tree.answers root rs made → tree.IsRest made.rest × tree.Takes made.rest made.lists
  ready_own rs made own ready =
      let work = descended_own tree laws root own ready.stands.descends in
      let o : IsOwn tree (Await ready.nodes made.rest) = subst (IsOwn tree) ready.answer (answer_own tree laws ready.task.work work) in
      (o.1, o.2 made.lists (each_may_give tree laws o.0 ready.evaluates))

  -- the work of a task on the board is the tree's
  pub task_own : (rs : List (Record N L R)) (t : ℕ) (r : Record N L R) → tree.IsNode root → RecordsStand tree.answers root rs → slice_get rs t ≡ Some r → IsOwnWork tree r.work
  task_own rs t r own stands at = descended_own tree laws root own (task_at tree.answers root (works_of rs) rs t r stands.tasks at).descends

  pub done_own : (rs : List (Record N L R)) (t : ℕ) (r : Record N L R) (answer : Expansion N L R) → tree.IsNode root → RecordsStand tree.answers root rs → slice_get rs t ≡ Some r
      → answer_for tree.answers r.work ≡ answer → IsOwn tree answer
  done_own rs t r answer own stands at is = subst (IsOwn tree) is (answer_own tree laws r.work (task_own rs t r own stands at))

pub root_kept : {N L R : Type 0} (tree : Answers N L R) (rs first : List (Record N L R)) (root node : N) (e : Evaluation L) → works_of rs ≡ works_of first → RecordsStand tree root rs → IsKeptFor tree root e
    → slice_get (works_of first) 0 ≡ Some (Expand node) → (tasks : ℕ) × Counts tree e.tasks tasks × IsWorthIn tree node e.leaves tasks
root_kept {N} {L} {R} tree rs first root node e same stands kept at =
    let here : slice_get (works_of first) 0 ≡ Some (Expand root) = rw same at stands.first in
    let is : root ≡ node = cc in
    subst (λ (n : N). IsKeptFor tree n e) is kept
