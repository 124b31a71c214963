-- The works of an evaluation are the tree's.
use Rattle.std.proofs.Common.{◌≡◌, ℕ, zero, suc, ◌+◌, List, [], ◌∷◌, slice_get, Some, subst, ap, ◌∙◌}
use Rattle.await_core.specs.declared.record.Work.{Work}
use Rattle.await_core.specs.declared.record.Work.TheVariants.{Expand, Resume}
use Rattle.await_core.specs.declared.expansion.Expansion.{Expansion}
use Rattle.await_core.specs.declared.expansion.Expansion.TheVariants.{Leaf, Fork, Await}
use Rattle.await_core.specs.declared.record.Stage.TheVariants.{Out}
use Rattle.await_core.specs.Events.{IsAnswer, HasNodes, handed_out}
use Rattle.await_core.proofs.OnRecords.{works-set_stage}
use Rattle.await_core.specs.Meaning.{Answers, Meaning, AreNodes, IsLawful, IsLawfulAnswer}
use Rattle.await_core.specs.Evaluation.{IsOwn}
use Rattle.await_core.specs.Boards.{BoardState, works_of}
use Rattle.await_core.specs.Standing.{answer_for, nodes_of, Descends, origin, child, resumed, IsOwnWork, TasksStand}
use Rattle.await_core.specs.declared.record.Record.{Record}
use Rattle.await_core.proofs.Evaluations.{own_lawful, each_may_give}

module _ {N L R : Type 0} (tree : Meaning N L R) (laws : IsLawful tree) where
  node_own : (nodes : List N) (place : ℕ) (node : N) → AreNodes tree nodes → slice_get nodes place ≡ Some node → tree.IsNode node
  node_own [] place node own e = absurd (cc)
  node_own (n ∷ nodes) zero node own e = let f : n ≡ node = cc in subst tree.IsNode f own.0
  node_own (n ∷ nodes) (suc place) node own e = node_own nodes place node own.1 e

  nodes_own : (answer : Expansion N L R) → IsOwn tree answer → AreNodes tree (nodes_of tree.answers answer)
  nodes_own (Leaf l) own = tt
  nodes_own (Fork nodes) own = own
  nodes_own (Await nodes rest) own = own.0

  pub answer_own : (work : Work N L R) → IsOwnWork tree work → IsOwn tree (answer_for tree.answers work)
  answer_own (Expand node) own = own_lawful tree (tree.NodeMayGive node) (tree.node_rank node) (tree.node_rank node) (tree.answers.expansion node) (laws.expands node own)
  answer_own (Resume rest lists) own = own_lawful tree (tree.RestMayGive rest) (tree.rest_rank rest + 1) (tree.rest_rank rest) (tree.answers.resumption rest lists) (laws.resumes rest lists own.0 own.1)

  has_nodes : (MayGive : List L → Type 0) (fork_top await_top : ℕ) (e : Expansion N L R) → IsLawfulAnswer tree MayGive fork_top await_top e → HasNodes e
  has_nodes MayGive fork_top await_top (Leaf l) h = tt
  has_nodes MayGive fork_top await_top (Fork nodes) h = h.some
  has_nodes MayGive fork_top await_top (Await nodes rest) h = h.some

  -- a fork or an await has nodes
  pub answer_nodes : (work : Work N L R) → IsOwnWork tree work → HasNodes (answer_for tree.answers work)
  answer_nodes (Expand node) own = has_nodes (tree.NodeMayGive node) (tree.node_rank node) (tree.node_rank node) (tree.answers.expansion node) (laws.expands node own)
  answer_nodes (Resume rest lists) own = has_nodes (tree.RestMayGive rest) (tree.rest_rank rest + 1) (tree.rest_rank rest) (tree.answers.resumption rest lists) (laws.resumes rest lists own.0 own.1)

  pub descended_own : (root : N) → tree.IsNode root → {work : Work N L R} → Descends tree.answers root work → IsOwnWork tree work
  descended_own root own origin = own
  descended_own root own (child {work = work} place {node = node} d e) =
      node_own (nodes_of tree.answers (answer_for tree.answers work)) place node (nodes_own (answer_for tree.answers work) (answer_own work (descended_own root own d))) e
  descended_own root own (resumed {work = work} {nodes = nodes} {rest = rest} {lists = lists} d e each) =
      let here : IsOwn tree (Await nodes rest) = subst (IsOwn tree) e (answer_own work (descended_own root own d)) in
      (here.1, here.2 lists (each_may_give tree laws here.0 each))

  -- a work on the board is the tree's
  pub work_own : (root : N) (rs : List (Record N L R)) (works : List (Work N L R)) (t : ℕ) (work : Work N L R) → tree.IsNode root → TasksStand tree.answers root works rs
      → slice_get (works_of rs) t ≡ Some work → IsOwnWork tree work
  work_own root [] works t work own h e = absurd (cc)
  work_own root (r ∷ rs) works zero work own h e = let f : r.work ≡ work = cc in subst (IsOwnWork tree) f (descended_own root own h.0.descends)
  work_own root (r ∷ rs) works (suc t) work own h e = work_own root rs works t work own h.1 e

module _ {N L R : Type 0} (tree : Answers N L R) where
  -- what was made for a work that was handed out is the answer for its ticket
  pub answered : (old new : BoardState N L R) (t : ℕ) (work : Work N L R) (made : Expansion N L R) → new ≡ handed_out old → slice_get (works_of old.records) t ≡ Some work
      → answer_for tree work ≡ made → IsAnswer tree new t made
  answered old new t work made e at a w f =
      let same : works_of new.records ≡ works_of old.records = ap (λ (b : BoardState N L R). works_of b.records) e ∙ works-set_stage old.records old.handed Out in
      let g : slice_get (works_of old.records) t ≡ Some w = rw same at f in
      let h : w ≡ work = cc in
      rw h a
