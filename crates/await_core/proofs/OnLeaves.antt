-- The post of a leaf.
use Rattle.std.proofs.Common.{◌≡◌, ℕ, ◌+◌, ◌<◌, List, [], ◌∷◌, length, Option, None, Some, subst}
use Rattle.await_core.specs.declared.record.Record.{Record}
use Rattle.await_core.specs.declared.record.Resumption.{Resumption}
use Rattle.await_core.specs.declared.record.Stage.TheVariants.{Over}
use Rattle.await_core.specs.declared.record.Work.{Work}
use Rattle.await_core.specs.declared.record.Work.TheVariants.{Resume}
use Rattle.await_core.specs.declared.evaluation.Evaluation.{Evaluation}
use Rattle.await_core.specs.Slots.{capped}
use Rattle.await_core.specs.Load.{LoadState, worth_of}
use Rattle.await_core.specs.Boards.{set_stage}
use Rattle.await_core.specs.Rising.{Rises, at_root, astray, filled, joins, resumes}
use Rattle.await_core.specs.Events.{Opens}
use Rattle.await_core.specs.Opening.{OpensWith}
use Rattle.await_core.proofs.OnRecords.{record_within, within_record, length-set_stage}
use Rattle.await_core.proofs.OnRising.{same_worth}

module _ {N L R : Type 0} where
  pub leaf_rises : (rs rs1 rs2 : List (Record N L R)) (v v2 : Option (Evaluation L)) (t : ℕ) (leaf : L) (load : LoadState L) (task : Record N L R) (made : Option (Resumption L R))
      → rs1 ≡ set_stage rs t Over → load.leaves ≡ leaf ∷ [] → load.tasks ≡ capped (task.before + 1) → Rises rs1 v t (worth_of load) rs2 v2 made
      → Rises (set_stage rs t Over) v t (record { leaves = leaf ∷ []; tasks = capped (task.before + 1) }) rs2 v2 made
  leaf_rises rs rs1 rs2 v v2 t leaf load task made e leaves tasks rises =
      let worth : worth_of load ≡ record { leaves = leaf ∷ []; tasks = capped (task.before + 1) } = same_worth (worth_of load) (record { leaves = leaf ∷ []; tasks = capped (task.before + 1) }) leaves tasks in
      subst (λ (w : Evaluation L). Rises (set_stage rs t Over) v t w rs2 v2 made) worth (subst (λ (xs : List (Record N L R)). Rises xs v t (worth_of load) rs2 v2 made) e rises)

  -- the await that is complete is on the board
  abbrev pub MadeWithin : List (Record N L R) → Option (Resumption L R) → Type 0
  MadeWithin rs None = Unit {0}
  MadeWithin rs (Some made) = made.ticket < length rs

  pub rises_within : {rs rs' : List (Record N L R)} {v v' : Option (Evaluation L)} {t : ℕ} {e : Evaluation L} {made : Option (Resumption L R)}
      → Rises rs v t e rs' v' made → MadeWithin rs' made
  rises_within (at_root x y) = tt
  rises_within (astray x y z n) = tt
  rises_within (filled x y z n f) = tt
  rises_within (joins x y z s n f up) = rises_within up
  rises_within (resumes {rs = rs} {q = q} {home = home} x y z s n f) = rw (length-set_stage rs home.ticket Over) (within_record rs home.ticket q z)

  pub opened : (rs rs' : List (Record N L R)) (refused refused' : Option ℕ) (made : Resumption L R) (work : Work N L R) → made.ticket < length rs → work ≡ Resume made.rest made.lists
      → OpensWith rs refused work made.ticket made.tasks rs' refused' → Opens rs refused (Some made) rs' refused'
  opened rs rs' refused refused' made work lt is o =
      let r = record_within rs made.ticket lt in
      let o' : OpensWith rs refused (Resume made.rest made.lists) made.ticket made.tasks rs' refused' = subst (λ (w : Work N L R). OpensWith rs refused w made.ticket made.tasks rs' refused') is o in
      (r.0, r.1, o' r.0 r.1)
