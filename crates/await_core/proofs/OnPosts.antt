-- What posts make of a board.
use Rattle.std.proofs.Common.{◌≡◌, ◌≢◌, ℕ, zero, suc, ◌+◌, ◌-◌, ◌<◌, ◌≤◌, inl, inr, Bool, false, List, [], ◌∷◌, ◌++◌, length, slice_get, Option, None, Some, refl, sym, ap, ◌∙◌, subst, arith}
use Rattle.await_core.specs.declared.record.Home.{Home}
use Rattle.await_core.specs.declared.record.Record.{Record}
use Rattle.await_core.specs.declared.record.Resumption.{Resumption}
use Rattle.await_core.specs.declared.record.Stage.{Stage}
use Rattle.await_core.specs.declared.record.Stage.TheVariants.{Open, Refused, Over}
use Rattle.await_core.specs.declared.record.Work.TheVariants.{Resume}
use Rattle.await_core.specs.declared.evaluation.Evaluation.{Evaluation}
use Rattle.await_core.specs.Slots.{held_in, no_lists}
use Rattle.await_core.specs.Boards.{set_stage, slots_of, AreInOrder, IsBelow, HomesBelow, is_out, out_count, leaves_held, IsBegun, IsUnfinished, HasTask, IsBranched, IsAwaited, IsSound}
use Rattle.await_core.specs.Rising.{Rises}
use Rattle.await_core.specs.Events.{first_refused, branches, resumption_task, Opens}
use Rattle.await_core.specs.Opening.{branch_stage}
use Rattle.await_core.proofs.OnRecords.{some_is, OutRecord, get_set, get_other, within_record, homes-set_stage, home_below, held_set}
use Rattle.await_core.proofs.OnSound.{order_set, order_append, outs_less, outs-append, held-append, homes-append, empty_branched, rises_order, rises_homes, rises_outs, rises_held}
use Rattle.await_core.proofs.OnAwaited.{set_inv, keep_task, more_task, split_get, IsAwaitedBut, awaited_over, awaited_pushed, rises_awaited, AwaitedAfter}

module _ (N L R : Type 0) where
  pub branches_order : (ticket place : ℕ) (nodes : List N) → AreInOrder {N = N} {L = L} {R = R} zero (branches ticket place nodes)
  branches_order ticket place [] = refl
  branches_order ticket place (node ∷ nodes) = (refl, branches_order ticket (place + 1) nodes)

  pub branches_homes : (k ticket place : ℕ) (nodes : List N) → ticket < k → HomesBelow {N = N} {L = L} {R = R} k (branches ticket place nodes)
  branches_homes k ticket place [] lt = tt
  branches_homes k ticket place (node ∷ nodes) lt = (lt, branches_homes (k + 1) ticket (place + 1) nodes (omega (arith, lt)))

  pub branches_outs : (ticket place : ℕ) (nodes : List N) → out_count {N = N} {L = L} {R = R} (branches ticket place nodes) ≡ 0
  branches_outs ticket place [] = refl
  branches_outs ticket place (node ∷ nodes) = let e = branches_outs ticket (place + 1) nodes in omega (arith, e)

  pub branches_held : (ticket place : ℕ) (nodes : List N) → leaves_held {N = N} {L = L} {R = R} (branches ticket place nodes) ≡ 0
  branches_held ticket place [] = refl
  branches_held ticket place (node ∷ nodes) = let e = branches_held ticket (place + 1) nodes in omega (arith, e)

module _ (N L R : Type 0) where
  -- the task of a node among the branches
  pub record BranchAt (ticket place : ℕ) (nodes : List N) (p : ℕ) : Type 0 where
    pub task : Record N L R
    pub at : slice_get (branches ticket place nodes) p ≡ Some task
    pub is_home : task.home ≡ Some (record { ticket = ticket; place = place + p })
    pub unfinished : IsUnfinished task.stage

  branch_stage_slots : (slots : List (Option (Evaluation L))) (rest : Option R) → slots_of {N = N} (branch_stage slots rest) ≡ slots
  branch_stage_slots slots None = refl
  branch_stage_slots slots (Some rest) = refl

  branch_stage_unfinished : (slots : List (Option (Evaluation L))) (rest : Option R) → IsUnfinished {N = N} (branch_stage slots rest)
  branch_stage_unfinished slots None = tt
  branch_stage_unfinished slots (Some rest) = tt

  branch_not_out : (slots : List (Option (Evaluation L))) (rest : Option R) → is_out {N = N} (branch_stage slots rest) ≡ false
  branch_not_out slots None = refl
  branch_not_out slots (Some rest) = refl

  first_place : (nodes : List N) → nodes ≢ [] → slice_get (no_lists {L = L} (length nodes)) 0 ≡ Some None
  first_place [] ne = absurd (ne refl)
  first_place (n ∷ nodes) ne = refl

  begun : (slots : List (Option (Evaluation L))) (rest : Option R) → IsBegun {N = N} (branch_stage slots rest)
  begun slots None = tt
  begun slots (Some rest) = tt

pub empty_place : {L : Type 0} (n p : ℕ) → slice_get (no_lists {L = L} n) p ≡ Some None → p < n
empty_place zero p e = absurd (cc)
empty_place (suc n) zero e = omega arith
empty_place (suc n) (suc p) e = omega (arith, empty_place n p e)

none_held : (L : Type 0) (n : ℕ) → held_in (no_lists {L = L} n) ≡ 0
none_held L zero = refl
none_held L (suc n) = none_held L n

pub first_some : (refused : Option ℕ) (t : ℕ) → first_refused refused t ≡ None → ⊥
first_some None t e = absurd (cc)
first_some (Some n) t e = absurd (cc)

module _ {N L R : Type 0} where
  out_none : (r : Record N L R) → is_out r.stage ≡ false → out_count (r ∷ []) ≡ 0
  out_none r quiet = rw quiet refl

  branches_open : (ticket place : ℕ) (nodes : List N) (k : ℕ) (r : Record N L R) → slice_get (branches ticket place nodes) k ≡ Some r → IsBranched r.stage → ⊥
  branches_open ticket place [] k r e b = absurd (cc)
  branches_open ticket place (node ∷ nodes) zero r e b = subst (λ (x : Record N L R). IsBranched x.stage) (sym (some_is e)) b
  branches_open ticket place (node ∷ nodes) (suc k) r e b = branches_open ticket (place + 1) nodes k r e b

  branch_at : (ticket place : ℕ) (nodes : List N) (p : ℕ) → p < length nodes → BranchAt N L R ticket place nodes p
  branch_at ticket place [] p lt = absurd (omega (arith, lt))
  branch_at ticket place (node ∷ nodes) zero lt =
      let same : place ≡ place + 0 = omega arith in
      record { task = _; at = refl; is_home = ap (λ (k : ℕ). Some (record { ticket = ticket; place = k })) same; unfinished = tt }
  branch_at ticket place (node ∷ nodes) (suc p) lt =
      let b = branch_at ticket (place + 1) nodes p (omega (arith, lt)) in
      let same : place + 1 + p ≡ place + suc p = omega arith in
      record { task = b.task; at = b.at; is_home = b.is_home ∙ ap (λ (k : ℕ). Some (record { ticket = ticket; place = k })) same; unfinished = b.unfinished }

  back-get : (rs cs : List (Record N L R)) (k : ℕ) (r : Record N L R) → slice_get cs k ≡ Some r → slice_get (rs ++ cs) (length rs + k) ≡ Some r
  back-get [] cs k r e = let z : 0 + k ≡ k = omega arith in rw z e
  back-get (q ∷ rs) cs k r e = let z : suc (length rs) + k ≡ suc (length rs + k) = omega arith in rw z (back-get rs cs k r e)

  front-get : (xs ys : List (Record N L R)) (i : ℕ) (x : Record N L R) → slice_get xs i ≡ Some x → slice_get (xs ++ ys) i ≡ Some x
  front-get [] ys i x e = absurd (cc)
  front-get (z ∷ xs) ys zero x e = e
  front-get (z ∷ xs) ys (suc i) x e = front-get xs ys i x e

  pub awaited_branched : (rs : List (Record N L R)) (v : Option (Evaluation L)) (t : ℕ) (r : Record N L R) (nodes : List N) (rest : Option R) → slice_get rs t ≡ Some r → nodes ≢ [] → IsAwaited rs v
      → IsAwaited (set_stage (rs ++ branches t 0 nodes) t (branch_stage (no_lists (length nodes)) rest)) v
  awaited_branched rs v t r nodes rest at ne a =
      let cs : List (Record N L R) = branches t 0 nodes in
      let slots : List (Option (Evaluation L)) = no_lists (length nodes) in
      let s : Stage N L R = branch_stage slots rest in
      let at' : slice_get (rs ++ cs) t ≡ Some r = front-get rs cs t r at in
      let is : slots_of s ≡ slots = branch_stage_slots N L R slots rest in
      let keep : (h : Option Home) → HasTask rs h → HasTask (set_stage (rs ++ cs) t s) h = λ h has. keep_task (rs ++ cs) t r s h at' (λ u. branch_stage_unfinished N L R slots rest) (more_task rs cs h has) in
      record {
        some = λ u q e b. elim (set_inv (rs ++ cs) t u s q e) [
          | inl w ↦ (0, rw (w.1, is) (first_place N L R nodes ne))
          | inr w ↦ elim (split_get rs cs u q w.1) [ inl z ↦ a.some u q z b | inr z ↦ absurd (branches_open t 0 nodes z.0 q z.2 b) ]
        ];
        slots = λ u p q e n. elim (set_inv (rs ++ cs) t u s q e) [
          | inl w ↦
              let n' : slice_get slots p ≡ Some None = rw (w.1, is) at n in
              let b = branch_at t 0 nodes p (empty_place (length nodes) p n') in
              let far : (length rs + p ≡ t) → ⊥ = λ f. omega (arith, within_record rs t r at, f) in
              let place : 0 + p ≡ p = omega arith in
              record {
                ticket = length rs + p;
                task = b.task;
                at = get_other (rs ++ cs) t (length rs + p) s far ∙ back-get rs cs p b.task b.at;
                is_home = b.is_home ∙ rw (place, w.0) refl;
                unfinished = b.unfinished;
              }
          | inr w ↦ elim (split_get rs cs u q w.1) [
            | inl z ↦ keep (Some (record { ticket = u; place = p })) (a.slots u p q z n)
            | inr z ↦ absurd (branches_open t 0 nodes z.0 q z.2 (empty_branched q.stage p n))
          ]
        ];
        root = λ e. keep None (a.root e);
      }

  pub sound_branched : (rs : List (Record N L R)) (handed out : ℕ) (refused : Option ℕ) (v : Option (Evaluation L)) (t : ℕ) (nodes : List N) (rest : Option R) → IsSound rs handed out refused v → OutRecord rs t → nodes ≢ []
      → IsSound (set_stage (rs ++ branches t 0 nodes) t (branch_stage (no_lists (length nodes)) rest)) handed (out - 1) refused v
  sound_branched rs handed out refused v t nodes rest i o ne =
      let cs : List (Record N L R) = branches t 0 nodes in
      let s : Stage N L R = branch_stage (no_lists (length nodes)) rest in
      let at' : slice_get (rs ++ cs) t ≡ Some o.task = front-get rs cs t o.task o.at in
      let fewer = outs_less (rs ++ cs) t o.task s at' (ap is_out o.is_out) (branch_not_out N L R (no_lists (length nodes)) rest) in
      record {
        order = λ none. order_set handed (rs ++ cs) t o.task s (order_append handed rs cs (i.order none) (branches_order N L R t 0 nodes)) at' (rw o.is_out tt) (begun N L R (no_lists (length nodes)) rest);
        homes = homes-set_stage 0 (rs ++ cs) t s (homes-append 0 rs cs i.homes (branches_homes N L R (0 + length rs) t 0 nodes (omega (arith, within_record rs t o.task o.at))));
        outs = omega (arith, i.outs, fewer, outs-append rs cs, branches_outs N L R t 0 nodes);
        awaited = awaited_branched rs v t o.task nodes rest o.at ne i.awaited;
      }

  pub held_branched : (rs : List (Record N L R)) (t : ℕ) (nodes : List N) (rest : Option R) → OutRecord rs t → leaves_held (set_stage (rs ++ branches t 0 nodes) t (branch_stage (no_lists (length nodes)) rest)) ≤ leaves_held rs
  held_branched rs t nodes rest o =
      let cs : List (Record N L R) = branches t 0 nodes in
      let s : Stage N L R = branch_stage (no_lists (length nodes)) rest in
      let held = held_set (rs ++ cs) t o.task s (front-get rs cs t o.task o.at) in
      let none : held_in (slots_of s) ≡ 0 = ap held_in (branch_stage_slots N L R (no_lists (length nodes)) rest) ∙ none_held L (length nodes) in
      omega (arith, held, none, held-append rs cs, branches_held N L R t 0 nodes)

  home_is_below : (k : ℕ) (rs : List (Record N L R)) (t : ℕ) (r : Record N L R) → HomesBelow k rs → slice_get rs t ≡ Some r → IsBelow (k + length rs) r.home
  home_is_below k rs t r h e = below r.home (λ home is. omega (arith, home_below k rs t r home h e is, within_record rs t r e))
    where
      below : (o : Option Home) → ((home : Home) → o ≡ Some home → home.ticket < k + length rs) → IsBelow (k + length rs) o
      below None f = tt
      below (Some home) f = f home refl

  -- a board after its task was brought up
  pub sound_leaf : (rs : List (Record N L R)) (handed out : ℕ) (refused : Option ℕ) (v : Option (Evaluation L)) (t : ℕ) (e : Evaluation L) (rs2 : List (Record N L R)) (v2 : Option (Evaluation L)) (made : Option (Resumption L R))
      (rs3 : List (Record N L R)) (refused3 : Option ℕ) → IsSound rs handed out refused v → OutRecord rs t → Rises (set_stage rs t Over) v t e rs2 v2 made → Opens rs2 refused made rs3 refused3
      → IsSound rs3 handed (out - 1) refused3 v2
  sound_leaf rs handed out refused v t e rs2 v2 made rs3 refused3 i o rises opens =
      let r = o.task in
      let first = awaited_over rs v t r o.at i.awaited in
      let order : refused ≡ None → AreInOrder handed rs2 = λ none. rises_order handed rises (order_set handed rs t r Over (i.order none) o.at (rw o.is_out tt) tt) in
      let homes = rises_homes rises (homes-set_stage 0 rs t Over i.homes) in
      let fewer = outs_less rs t r Over o.at (ap is_out o.is_out) refl in
      let outs : out - 1 ≡ out_count rs2 = omega (arith, i.outs, fewer, rises_outs rises) in
      opened made (rises_awaited rises _ (get_set rs t r Over o.at) first) opens order homes outs
    where
      add : (made : Resumption L R) (q : Record N L R) (s : Stage N L R) → slice_get rs2 made.ticket ≡ Some q → IsUnfinished s → (IsBranched s → ⊥) → is_out s ≡ false → IsAwaitedBut q.home rs2 v2
          → HomesBelow 0 rs2 → out - 1 ≡ out_count rs2 → (new : Option ℕ) → (new ≡ None → AreInOrder handed (rs2 ++ resumption_task q made s ∷ []))
          → IsSound (rs2 ++ resumption_task q made s ∷ []) handed (out - 1) new v2
      add made q s at un nb quiet a homes outs new order = record {
        order = order;
        homes = homes-append 0 rs2 (resumption_task q made s ∷ []) homes (home_is_below 0 rs2 made.ticket q homes at, tt);
        outs = outs ∙ one_more (is_out s) quiet;
        awaited = awaited_pushed rs2 v2 (resumption_task q made s) un nb a;
      }
        where
          one_more : (b : Bool) → b ≡ false → out_count rs2 ≡ out_count (rs2 ++ resumption_task q made s ∷ [])
          one_more b f = omega (arith, outs-append rs2 (resumption_task q made s ∷ []), out_none (resumption_task q made s) quiet)

      opened : (made : Option (Resumption L R)) → AwaitedAfter rs2 v2 made → Opens rs2 refused made rs3 refused3 → (refused ≡ None → AreInOrder handed rs2) → HomesBelow 0 rs2 → out - 1 ≡ out_count rs2
          → IsSound rs3 handed (out - 1) refused3 v2
      opened None a o order homes outs = rw (o.0, o.1) (record { order = order; homes = homes; outs = outs; awaited = a })
      opened (Some made) a o order homes outs =
          let q = o.0 in
          let same : a.0 ≡ q = some_is (sym a.1 ∙ o.1) in
          let but = subst (λ (x : Record N L R). IsAwaitedBut x.home rs2 v2) same a.2 in
          elim o.2 [
            | inl w ↦ rw (w.0, w.1) (add made q (Open (Resume made.rest made.lists)) o.1 tt (λ b. b) refl but homes outs refused (λ none. order_append handed rs2 _ (order none) (refl, refl)))
            | inr w ↦ rw (w.0, w.1) (add made q Refused o.1 tt (λ b. b) refl but homes outs (first_refused refused (length rs2)) (λ none. absurd (first_some refused (length rs2) none)))
          ]

  pub held_opened : (rs : List (Record N L R)) (refused : Option ℕ) (made : Option (Resumption L R)) (rs' : List (Record N L R)) (refused' : Option ℕ) → Opens rs refused made rs' refused' → leaves_held rs' ≤ leaves_held rs
  held_opened rs refused None rs' refused' o = rw o.0 (omega arith)
  held_opened rs refused (Some made) rs' refused' o =
      elim o.2 [
        | inl w ↦ rw w.0 (omega (arith, held-append rs (resumption_task o.0 made (Open (Resume made.rest made.lists)) ∷ [])))
        | inr w ↦ rw w.0 (omega (arith, held-append rs (resumption_task o.0 made Refused ∷ [])))
      ]

  pub held_leaf : (rs : List (Record N L R)) (refused : Option ℕ) (v : Option (Evaluation L)) (t : ℕ) (e : Evaluation L) (rs2 : List (Record N L R)) (v2 : Option (Evaluation L)) (made : Option (Resumption L R))
      (rs3 : List (Record N L R)) (refused3 : Option ℕ) → OutRecord rs t → Rises (set_stage rs t Over) v t e rs2 v2 made → Opens rs2 refused made rs3 refused3 → leaves_held rs3 ≤ leaves_held rs + length e.leaves
  held_leaf rs refused v t e rs2 v2 made rs3 refused3 o rises opens =
      let held = held_set rs t o.task Over o.at in
      omega (arith, held, rises_held rises, held_opened rs2 refused made rs3 refused3 opens)
