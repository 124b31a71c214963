-- What stands on a board keeps standing.
use Rattle.std.proofs.Common.{◌≡◌, ℕ, zero, suc, ◌+◌, ◌-◌, ◌^◌, min, List, [], ◌∷◌, ◌++◌, slice_get, Option, None, Some, refl, sym, ap, ◌∙◌, subst, arith}
use Rattle.std.proofs.Math.ListN.{set}
use Rattle.await_core.specs.declared.record.Home.{Home}
use Rattle.await_core.specs.declared.record.Record.{Record}
use Rattle.await_core.specs.declared.record.Resumption.{Resumption}
use Rattle.await_core.specs.declared.record.Stage.{Stage}
use Rattle.await_core.specs.declared.record.Stage.TheVariants.{Open, Out, Refused, Forked, Waiting, Over}
use Rattle.await_core.specs.declared.record.Work.{Work}
use Rattle.await_core.specs.declared.record.Work.TheVariants.{Expand, Resume}
use Rattle.await_core.specs.declared.evaluation.Evaluation.{Evaluation}
use Rattle.await_core.specs.declared.expansion.Expansion.TheVariants.{Leaf, Await}
use Rattle.await_core.specs.Meaning.{Answers, joined}
use Rattle.await_core.specs.Evaluation.{Evaluates, EachEvaluates, leaf, fork, await, none, next}
use Rattle.await_core.specs.Slots.{IsFull, lists_in, tasks_in, capped}
use Rattle.await_core.specs.Boards.{works_of, set_stage, slots_of, started}
use Rattle.await_core.specs.Rising.{with_slots, joined_worth, Rises, at_root, astray, filled, joins, resumes}
use Rattle.await_core.specs.Standing.{answer_for, nodes_of, IsWorthIn, IsKeptFor, SlotsStand, StageStands, origin, resumed, TaskStands, TasksStand, RecordsStand, ValueStands, HasWorth, IsHomeOf, Stands}
use Rattle.await_core.proofs.OnRecords.{some_is, get_set, works-set_stage}

pub get-front : {A : Type 0} (xs ys : List A) (i : ℕ) (x : A) → slice_get xs i ≡ Some x → slice_get (xs ++ ys) i ≡ Some x
get-front [] ys i x e = absurd (cc)
get-front (z ∷ xs) ys zero x e = e
get-front (z ∷ xs) ys (suc i) x e = get-front xs ys i x e

module _ {N L R : Type 0} where
  pub works-append : (xs ys : List (Record N L R)) → works_of (xs ++ ys) ≡ works_of xs ++ works_of ys
  works-append [] ys = refl
  works-append (r ∷ xs) ys = ap (λ ws. r.work ∷ ws) (works-append xs ys)

  pub works_at : (rs : List (Record N L R)) (t : ℕ) (r : Record N L R) → slice_get rs t ≡ Some r → slice_get (works_of rs) t ≡ Some r.work
  works_at [] t r e = absurd (cc)
  works_at (q ∷ rs) zero r e = ap (λ (x : Record N L R). Some x.work) (some_is e)
  works_at (q ∷ rs) (suc t) r e = works_at rs t r e

module _ {N L R : Type 0} (tree : Answers N L R) where
  -- the lists of full slots are what the nodes come to
  pub gathered : (nodes : List N) (slots : List (Option (Evaluation L))) → SlotsStand tree nodes slots → IsFull slots
      → (k : ℕ) × EachEvaluates tree nodes (lists_in slots) k × (capped (tasks_in slots) ≡ capped k)
  gathered [] [] s f = (0, none, refl)
  gathered [] (x ∷ slots) s f = elim s [ ]
  gathered (n ∷ nodes) [] s f = elim s [ ]
  gathered (n ∷ nodes) (None ∷ slots) s f = elim f [ ]
  gathered (n ∷ nodes) (Some e ∷ slots) s f =
      let r = gathered nodes slots s.1 f in
      let worth = s.0.2 in
      (1 + worth.0 + r.0, next worth.2 r.1, omega (arith, s.0.1, worth.1, r.2))

  slots-set : (nodes : List N) (slots : List (Option (Evaluation L))) (place : ℕ) (node : N) (e : Evaluation L)
      → SlotsStand tree nodes slots → slice_get nodes place ≡ Some node → IsKeptFor tree node e → SlotsStand tree nodes (set slots place (Some e))
  slots-set [] [] place node e s at k = tt
  slots-set [] (x ∷ slots) place node e s at k = elim s [ ]
  slots-set (n ∷ nodes) [] place node e s at k = elim s [ ]
  slots-set (n ∷ nodes) (None ∷ slots) zero node e s at k = (subst (λ (x : N). IsKeptFor tree x e) (sym (some_is at)) k, s)
  slots-set (n ∷ nodes) (Some old ∷ slots) zero node e s at k = (subst (λ (x : N). IsKeptFor tree x e) (sym (some_is at)) k, s.1)
  slots-set (n ∷ nodes) (None ∷ slots) (suc place) node e s at k = slots-set nodes slots place node e s at k
  slots-set (n ∷ nodes) (Some old ∷ slots) (suc place) node e s at k = (s.0, slots-set nodes slots place node e s.1 at k)

  stage_kept : (work : Work N L R) (s : Stage N L R) (place : ℕ) (node : N) (e : Evaluation L)
      → StageStands tree work s → slice_get (nodes_of tree (answer_for tree work)) place ≡ Some node → IsKeptFor tree node e → StageStands tree work (with_slots s (set (slots_of s) place (Some e)))
  stage_kept work (Open k) place node e s at w = s
  stage_kept work Out place node e s at w = tt
  stage_kept work Refused place node e s at w = tt
  stage_kept work (Forked slots) place node e s at w = (s.0, s.1, slots-set s.0 slots place node e s.2 (rw s.1 at at) w)
  stage_kept work (Waiting slots rest) place node e s at w = (s.0, s.1, slots-set s.0 slots place node e s.2 (rw s.1 at at) w)
  stage_kept work Over place node e s at w = tt

  module _ (root : N) where
    task-set_stage : (works : List (Work N L R)) (r : Record N L R) (stage : Stage N L R) → TaskStands tree root works r → StageStands tree r.work stage
        → TaskStands tree root works (record { work = r.work; home = r.home; before = r.before; stage = stage })
    task-set_stage works r stage h s =
        record { descends = h.descends; stage = s; node = h.node; home = h.home; done = h.done; counts = h.counts; promise = h.promise }

    pub tasks-set_stage : (works : List (Work N L R)) (rs : List (Record N L R)) (t : ℕ) (stage : Stage N L R) → TasksStand tree root works rs
        → ((r : Record N L R) → slice_get rs t ≡ Some r → TaskStands tree root works r → StageStands tree r.work stage) → TasksStand tree root works (set_stage rs t stage)
    tasks-set_stage works [] t stage h f = h
    tasks-set_stage works (r ∷ rs) zero stage h f = (task-set_stage works r stage h.0 (f r refl h.0), h.1)
    tasks-set_stage works (r ∷ rs) (suc t) stage h f = (h.0, tasks-set_stage works rs t stage h.1 f)

    works_first : {xs ys : List (Work N L R)} → ys ≡ xs → slice_get xs 0 ≡ Some (Expand root) → slice_get ys 0 ≡ Some (Expand root)
    works_first e h = rw e h

    -- a change of a stage
    pub records-set_stage : (rs : List (Record N L R)) (t : ℕ) (stage : Stage N L R) → RecordsStand tree root rs
        → ((r : Record N L R) → slice_get rs t ≡ Some r → TaskStands tree root (works_of rs) r → StageStands tree r.work stage) → RecordsStand tree root (set_stage rs t stage)
    records-set_stage rs t stage s f = record {
      tasks = subst (λ (works : List (Work N L R)). TasksStand tree root works (set_stage rs t stage)) (sym (works-set_stage rs t stage)) (tasks-set_stage (works_of rs) rs t stage s.tasks f);
      first = works_first (works-set_stage rs t stage) s.first;
    }

    pub stands_started : Stands tree root (started root)
    stands_started = record {
      records = record {
        first = refl;
        tasks = (
          record {
            descends = origin;
            stage = refl;
            node = root;
            home = refl;
            done = 0;
            counts = refl;
            promise = λ leaves tasks h. (tasks, omega arith, h);
          },
          tt,
        );
      };
      value = tt;
    }

    home-more : (works more : List (Work N L R)) (home : Option Home) (node : N) → IsHomeOf tree root works home node → IsHomeOf tree root (works ++ more) home node
    home-more works more None node h = h
    home-more works more (Some home) node h = (h.0, get-front works more home.ticket h.0 h.1, h.2)

    pub tasks-more : (works more : List (Work N L R)) (rs : List (Record N L R)) → TasksStand tree root works rs → TasksStand tree root (works ++ more) rs
    tasks-more works more [] h = tt
    tasks-more works more (r ∷ rs) h =
        let t = h.0 in (
          record { descends = t.descends; stage = t.stage; node = t.node; home = home-more works more r.home t.node t.home; done = t.done; counts = t.counts; promise = t.promise },
          tasks-more works more rs h.1,
        )

    pub tasks-append : (works : List (Work N L R)) (rs cs : List (Record N L R)) → TasksStand tree root works rs → TasksStand tree root works cs → TasksStand tree root works (rs ++ cs)
    tasks-append works [] cs h k = k
    tasks-append works (r ∷ rs) cs h k = (h.0, tasks-append works rs cs h.1 k)

    pub task_at : (works : List (Work N L R)) (rs : List (Record N L R)) (t : ℕ) (r : Record N L R) → TasksStand tree root works rs → slice_get rs t ≡ Some r → TaskStands tree root works r
    task_at works [] t r h e = absurd (cc)
    task_at works (q ∷ rs) zero r h e = subst (TaskStands tree root works) (some_is e) h.0
    task_at works (q ∷ rs) (suc t) r h e = task_at works rs t r h.1 e

    -- the records with more tasks
    pub records-append : (rs cs : List (Record N L R)) → RecordsStand tree root rs → TasksStand tree root (works_of rs ++ works_of cs) cs → RecordsStand tree root (rs ++ cs)
    records-append rs cs stands tasks =
        let same : works_of (rs ++ cs) ≡ works_of rs ++ works_of cs = works-append rs cs in
        record {
          tasks = subst (λ (works : List (Work N L R)). TasksStand tree root works (rs ++ cs)) (sym same)
              (tasks-append (works_of rs ++ works_of cs) rs cs (tasks-more (works_of rs) (works_of cs) rs stands.tasks) tasks);
          first = works_first same (get-front (works_of rs) (works_of cs) 0 (Expand root) stands.first);
        }

    -- an await whose lists are what its nodes come to
    pub record ReadyStands (rs : List (Record N L R)) (made : Resumption L R) : Type 0 where
      pub task : Record N L R
      pub at : slice_get rs made.ticket ≡ Some task
      pub stands : TaskStands tree root (works_of rs) task
      pub nodes : List N
      pub answer : answer_for tree task.work ≡ Await nodes made.rest
      pub each : ℕ
      pub evaluates : EachEvaluates tree nodes made.lists each
      pub counts : made.tasks ≡ capped each

    abbrev pub MadeStands : List (Record N L R) → Option (Resumption L R) → Type 0
    MadeStands rs None = Unit {0}
    MadeStands rs (Some made) = ReadyStands rs made

    pub record RisenStands (rs : List (Record N L R)) (v : Option (Evaluation L)) (m : Option (Resumption L R)) : Type 0 where
      pub records : RecordsStand tree root rs
      pub value : ValueStands tree root v
      pub made : MadeStands rs m

    -- what the record at a home owes, and the node whose worth came
    record Came (rs : List (Record N L R)) (home : Home) (q : Record N L R) : Type 0 where
      task : TaskStands tree root (works_of rs) q
      node : N
      place : slice_get (nodes_of tree (answer_for tree q.work)) home.place ≡ Some node

    came : (rs : List (Record N L R)) (t : ℕ) (home : Home) (r q : Record N L R) (e : Evaluation L) → RecordsStand tree root rs → slice_get rs t ≡ Some r → r.home ≡ Some home → slice_get rs home.ticket ≡ Some q
        → HasWorth tree root rs t e → (c : Came rs home q) × IsKeptFor tree c.node e
    came rs t home r q e stands at is there worth =
        let home_is : worth.0.home ≡ Some home = ap (λ (x : Record N L R). x.home) (some_is (sym worth.1 ∙ at)) ∙ is in
        let h : IsHomeOf tree root (works_of rs) (Some home) worth.2.0 = subst (λ (o : Option Home). IsHomeOf tree root (works_of rs) o worth.2.0) home_is worth.2.1 in
        let same : q.work ≡ h.0 = some_is (sym (works_at rs home.ticket q there) ∙ h.1) in
        (record { task = task_at (works_of rs) rs home.ticket q stands.tasks there; node = worth.2.0; place = rw same h.2 }, worth.2.2)

    pub rises_stands : {rs rs' : List (Record N L R)} {v v' : Option (Evaluation L)} {t : ℕ} {e : Evaluation L} {made : Option (Resumption L R)}
        → Rises rs v t e rs' v' made → RecordsStand tree root rs → HasWorth tree root rs t e → ValueStands tree root v → RisenStands rs' v' made
    rises_stands (at_root {rs = rs} {worth = e} x y) stands worth value =
        let home_is : worth.0.home ≡ None = ap (λ (z : Record N L R). z.home) (some_is (sym worth.1 ∙ x)) ∙ y in
        let node_is : worth.2.0 ≡ root = subst (λ (o : Option Home). IsHomeOf tree root (works_of rs) o worth.2.0) home_is worth.2.1 in
        record { records = stands; value = subst (λ (n : N). IsKeptFor tree n e) node_is worth.2.2; made = tt }
    rises_stands (astray x y z n) stands worth value = record { records = stands; value = value; made = tt }
    rises_stands (filled {rs = rs} {ticket = t} {worth = e} {r = k} {q = q} {home = home} x y z n f) stands worth value =
        let c = came rs t home k q e stands x y z worth in
        record {
          records = records-set_stage rs home.ticket _ stands (λ r at task.
              let same : q ≡ r = some_is (sym z ∙ at) in
              subst (λ (w : Record N L R). StageStands tree w.work (with_slots q.stage (set (slots_of q.stage) home.place (Some e)))) same (stage_kept q.work q.stage home.place c.0.node e c.0.task.stage c.0.place c.1));
          value = value;
          made = tt;
        }
    rises_stands (joins {rs = rs} {value = v} {ticket = t} {worth = e} {r = k} {q = q} {home = home} {slots = slots} x y z s n f up) stands worth value =
        let c = came rs t home k q e stands x y z worth in
        let st : StageStands tree q.work (Forked slots) = subst (StageStands tree q.work) s c.0.task.stage in
        let slots' : List (Option (Evaluation L)) = set slots home.place (Some e) in
        let filled_in : SlotsStand tree st.0 slots' = slots-set st.0 slots home.place c.0.node e st.2 (rw st.1 at c.0.place) c.1 in
        let g = gathered st.0 slots' filled_in f in
        let come : Evaluates tree (answer_for tree q.work) (joined (lists_in slots')) g.0 = rw st.1 (fork g.1) in
        let task = c.0.task in
        let home_of : IsHomeOf tree root (works_of (set_stage rs home.ticket Over)) q.home task.node =
        subst (λ (works : List (Work N L R)). IsHomeOf tree root works q.home task.node) (sym (works-set_stage rs home.ticket Over)) task.home in
        let sum : capped (q.before + 1 + tasks_in slots') ≡ min (task.done + 1 + g.0) (2 ^ 64 - 1) = omega (arith, task.counts, g.2) in
        let next_worth : HasWorth tree root (set_stage rs home.ticket Over) home.ticket (joined_worth q.before slots') =
        (record { work = q.work; home = q.home; before = q.before; stage = Over }, get_set rs home.ticket q Over z, (task.node, home_of, (task.done + 1 + g.0, sum, task.promise _ g.0 come))) in
        rises_stands up (records-set_stage rs home.ticket Over stands (λ r at h. tt)) next_worth value
    rises_stands (resumes {rs = rs} {ticket = t} {worth = e} {r = k} {q = q} {home = home} {slots = slots} {rest = rest} x y z s n f) stands worth value =
        let c = came rs t home k q e stands x y z worth in
        let st : StageStands tree q.work (Waiting slots rest) = subst (StageStands tree q.work) s c.0.task.stage in
        let slots' : List (Option (Evaluation L)) = set slots home.place (Some e) in
        let filled_in : SlotsStand tree st.0 slots' = slots-set st.0 slots home.place c.0.node e st.2 (rw st.1 at c.0.place) c.1 in
        let g = gathered st.0 slots' filled_in f in
        let back = records-set_stage rs home.ticket Over stands (λ r at h. tt) in
        let there = get_set rs home.ticket q Over z in
        record {
          records = back;
          value = value;
          made = record {
            task = record { work = q.work; home = q.home; before = q.before; stage = Over };
            at = there;
            stands = task_at (works_of (set_stage rs home.ticket Over)) (set_stage rs home.ticket Over) home.ticket _ back.tasks there;
            nodes = st.0;
            answer = st.1;
            each = g.0;
            evaluates = g.1;
            counts = g.2;
          };
        }

    -- a leaf is what its task's home is worth
    pub leaf_worth : (rs : List (Record N L R)) (t : ℕ) (r : Record N L R) (l : L) → RecordsStand tree root rs → slice_get rs t ≡ Some r → answer_for tree r.work ≡ Leaf l
        → HasWorth tree root (set_stage rs t Over) t (record { leaves = l ∷ []; tasks = capped (r.before + 1) })
    leaf_worth rs t r l stands at made =
        let task = task_at (works_of rs) rs t r stands.tasks at in
        let home : IsHomeOf tree root (works_of (set_stage rs t Over)) r.home task.node =
        subst (λ (works : List (Work N L R)). IsHomeOf tree root works r.home task.node) (sym (works-set_stage rs t Over)) task.home in
        let come : Evaluates tree (answer_for tree r.work) (l ∷ []) 0 = rw made leaf in
        let count : capped (r.before + 1) ≡ min (task.done + 1 + 0) (2 ^ 64 - 1) = omega (arith, task.counts) in
        (record { work = r.work; home = r.home; before = r.before; stage = Over }, get_set rs t r Over at, (task.node, home, (task.done + 1 + 0, count, task.promise (l ∷ []) 0 come)))

    -- the task of a rest stands where the task that awaited it stood
    pub resumption_stands : (rs : List (Record N L R)) (made : Resumption L R) (ready : ReadyStands rs made) (stage : Stage N L R) → StageStands tree (Resume made.rest made.lists) stage
        → TaskStands tree root (works_of rs ++ Resume made.rest made.lists ∷ []) (record { work = Resume made.rest made.lists; home = ready.task.home; before = capped (ready.task.before + 1 + made.tasks); stage = stage })
    resumption_stands rs made ready stage s =
        let task = ready.stands in
        record {
          descends = resumed task.descends ready.answer ready.evaluates;
          stage = s;
          node = task.node;
          home = home-more (works_of rs) (Resume made.rest made.lists ∷ []) ready.task.home task.node task.home;
          done = task.done + 1 + ready.each;
          counts = omega (arith, task.counts, ready.counts);
          promise = λ leaves tasks h.
              let come : Evaluates tree (answer_for tree ready.task.work) leaves (ready.each + (1 + tasks)) = rw ready.answer (await ready.evaluates h) in
              let sum : task.done + 1 + (ready.each + (1 + tasks)) ≡ task.done + 1 + ready.each + 1 + tasks = omega arith in
              subst (λ (k : ℕ). IsWorthIn tree task.node leaves k) sum (task.promise leaves (ready.each + (1 + tasks)) come);
        }
