-- What stands keeps standing over every event.
use Rattle.std.proofs.Common.{◌≡◌, ℕ, suc, ◌+◌, inl, inr, List, [], ◌∷◌, ◌++◌, length, slice_get, Option, None, Some, refl, sym, ap, ◌∙◌, subst, add-zero, arith}
use Rattle.await_core.specs.declared.record.Record.{Record}
use Rattle.await_core.specs.declared.record.Resumption.{Resumption}
use Rattle.await_core.specs.declared.record.Stage.{Stage}
use Rattle.await_core.specs.declared.record.Stage.TheVariants.{Open, Out, Refused, Over}
use Rattle.await_core.specs.declared.record.Work.{Work}
use Rattle.await_core.specs.declared.record.Work.TheVariants.{Resume}
use Rattle.await_core.specs.declared.evaluation.Evaluation.{Evaluation}
use Rattle.await_core.specs.declared.expansion.Expansion.{Expansion}
use Rattle.await_core.specs.declared.expansion.Expansion.TheVariants.{Leaf, Fork, Await}
use Rattle.await_core.specs.Meaning.{Answers}
use Rattle.await_core.specs.Slots.{no_lists}
use Rattle.await_core.specs.Boards.{BoardState, works_of, IsOutAt}
use Rattle.await_core.specs.Standing.{answer_for, nodes_of, SlotsStand, StageStands, Descends, child, TaskStands, TasksStand, RecordsStand, Stands}
use Rattle.await_core.specs.Events.{handed_out, refused_at, branches, branched, resumption_task, Opens, Posts, PostsLeaf, IsAnswer}
use Rattle.await_core.specs.Opening.{branch_stage}
use Rattle.await_core.proofs.OnRecords.{some_is, OutRecord, out_record}
use Rattle.await_core.proofs.OnStanding.{get-front, works_at, records-set_stage, task_at, records-append, RisenStands, rises_stands, leaf_worth, resumption_stands}

module _ {N L R : Type 0} (tree : Answers N L R) (root : N) where
  pub stands_handed : (b : BoardState N L R) → Stands tree root b → Stands tree root (handed_out b)
  stands_handed b s = record { records = records-set_stage tree root b.records b.handed Out s.records (λ r e h. tt); value = s.value }

  pub stands_refused : (b : BoardState N L R) (t : ℕ) → Stands tree root b → Stands tree root (refused_at b t)
  stands_refused b t s = record { records = records-set_stage tree root b.records t Refused s.records (λ r e h. tt); value = s.value }

  -- the tasks of the nodes from a place on
  branches_stand : (works : List (Work N L R)) (work : Work N L R) (ticket : ℕ) → Descends tree root work → slice_get works ticket ≡ Some work
      → (place : ℕ) (nodes : List N) → ((i : ℕ) (node : N) → slice_get nodes i ≡ Some node → slice_get (nodes_of tree (answer_for tree work)) (place + i) ≡ Some node)
      → TasksStand tree root works (branches ticket place nodes)
  branches_stand works work ticket d at place [] f = tt
  branches_stand works work ticket d at place (node ∷ nodes) f =
      let here : slice_get (nodes_of tree (answer_for tree work)) place ≡ Some node = rw add-zero at (f 0 node refl) in (
        record {
          descends = child place d here;
          stage = refl;
          node = node;
          home = (work, at, here);
          done = 0;
          counts = refl;
          promise = λ leaves tasks h. (tasks, omega arith, h);
        },
        branches_stand works work ticket d at (place + 1) nodes (λ i n e.
            let q : place + suc i ≡ place + 1 + i = omega arith in
            rw q at (f (suc i) n e)),
      )

  no_lists_stand : (nodes : List N) → SlotsStand tree nodes (no_lists {L = L} (length nodes))
  no_lists_stand [] = tt
  no_lists_stand (n ∷ nodes) = no_lists_stand nodes

  -- an answer with nodes, and a rest where it awaits them
  abbrev pub made_of : List N → Option R → Expansion N L R
  made_of nodes None = Fork nodes
  made_of nodes (Some rest) = Await nodes rest

  branch_stands : (work : Work N L R) (nodes : List N) (rest : Option R) → answer_for tree work ≡ made_of nodes rest → StageStands tree work (branch_stage (no_lists {L = L} (length nodes)) rest)
  branch_stands work nodes None e = (nodes, e, no_lists_stand nodes)
  branch_stands work nodes (Some rest) e = (nodes, e, no_lists_stand nodes)

  nodes_made : (work : Work N L R) (nodes : List N) (rest : Option R) → answer_for tree work ≡ made_of nodes rest → nodes_of tree (answer_for tree work) ≡ nodes
  nodes_made work nodes None e = ap (nodes_of tree) e
  nodes_made work nodes (Some rest) e = ap (nodes_of tree) e

  pub stands_branched : (b : BoardState N L R) (t : ℕ) (nodes : List N) (rest : Option R) → Stands tree root b → OutRecord b.records t → IsAnswer tree b t (made_of nodes rest)
      → Stands tree root (branched b t nodes (branch_stage (no_lists {L = L} (length nodes)) rest))
  stands_branched b t nodes rest s o answer =
      let r = o.task in
      let cs : List (Record N L R) = branches t 0 nodes in
      let stage : Stage N L R = branch_stage (no_lists {L = L} (length nodes)) rest in
      let work_at = works_at b.records t r o.at in
      let made = answer r.work work_at in
      let task = task_at tree root (works_of b.records) b.records t r s.records.tasks o.at in
      let news = branches_stand (works_of b.records ++ works_of cs) r.work t task.descends (get-front (works_of b.records) (works_of cs) t r.work work_at) 0 nodes (λ i n e. rw (nodes_made r.work nodes rest made) (let z : 0 + i ≡ i = omega arith in rw z e)) in
      record {
        records = records-set_stage tree root (b.records ++ cs) t stage (records-append tree root b.records cs s.records news) (λ q e h.
            let g : r ≡ q = some_is (sym (get-front b.records cs t r o.at) ∙ e) in
            subst (λ (x : Record N L R). StageStands tree x.work stage) g (branch_stands r.work nodes rest made));
        value = s.value;
      }

  opened_stands : (rs : List (Record N L R)) (refused : Option ℕ) (v : Option (Evaluation L)) (made : Option (Resumption L R)) (after : List (Record N L R)) (first : Option ℕ)
      → RisenStands tree root rs v made → Opens rs refused made after first → RecordsStand tree root after
  opened_stands rs refused v None after first s o = rw o.0 s.records
  opened_stands rs refused v (Some made) after first s o =
      let ready = s.made in
      let same : ready.task ≡ o.0 = some_is (sym ready.at ∙ o.1) in
      let stands : (stage : Stage N L R) → StageStands tree (Resume made.rest made.lists) stage → RecordsStand tree root (rs ++ resumption_task o.0 made stage ∷ []) =
      λ stage h. records-append tree root rs (resumption_task o.0 made stage ∷ []) s.records
      (subst (λ (q : Record N L R). TaskStands tree root (works_of rs ++ Resume made.rest made.lists ∷ []) (resumption_task q made stage)) same (resumption_stands tree root rs made ready stage h), tt) in
      elim o.2 [ inl w ↦ rw w.0 (stands (Open (Resume made.rest made.lists)) refl) | inr w ↦ rw w.0 (stands Refused tt) ]

  pub stands_leaf : (old new : BoardState N L R) (t : ℕ) (leaf : L) → Stands tree root old → IsAnswer tree old t (Leaf leaf) → PostsLeaf old t leaf new → Stands tree root new
  stands_leaf old new t leaf s answer p =
      let back = records-set_stage tree root old.records t Over s.records (λ r e h. tt) in
      let made = answer p.task.work (works_at old.records t p.task p.at) in
      let risen = rises_stands tree root p.rises back (leaf_worth tree root old.records t p.task leaf s.records p.at made) s.value in
      record { records = opened_stands p.records old.refused new.value p.made new.records new.refused risen p.opens; value = risen.value }

  pub stands_posted : (old new : BoardState N L R) (t : ℕ) (made : Expansion N L R) → Stands tree root old → IsOutAt old.records t → IsAnswer tree old t made → Posts old t made new → Stands tree root new
  stands_posted old new t (Leaf leaf) s o answer p = stands_leaf old new t leaf s answer p
  stands_posted old new t (Fork nodes) s o answer p = rw p (stands_branched old t nodes None s (out_record old.records t o) answer)
  stands_posted old new t (Await nodes rest) s o answer p = rw p (stands_branched old t nodes (Some rest) s (out_record old.records t o) answer)
