-- The merge of a suspended state is that of its base.
use Rattle.std.proofs.Common.{◌≡◌, ℕ, ◌+◌, ◌-◌, true, false, List, [], ◌∷◌, ◌++◌, length, map, Option, Some, None, refl, ap, ◌∙◌}
use Rattle.std.specs.Prelude.{nat_lt, drop}
use Rattle.std.specs.List.{flat_map}
use Rattle.terms.specs.Tree.{Tree}
use Rattle.leaves.specs.declared.options.Cause.{Cause}
use Rattle.leaves.specs.declared.options.Cause.TheVariants as cause
use Rattle.leaves.specs.Events.{Leaf, told_of}
use Rattle.leaves.specs.Events as leaf
use Rattle.sym_states.specs.Merging as merging
use Rattle.sym_states.specs.Merging.{Partial, Where, fault_of, cause_of, first_some, steps_of, filled_by, filled_all, state_of, merged}
use Rattle.sym_states.specs.Sides.{share_of}
use Rattle.sym_states.specs.States.{State, Context, Child, Step, Forks, Go, Stop, told_with, opens}
use Rattle.overwrite_merge.specs.Merges.{CallLeaves, leaves_of, Children, TooMany, joined_with, combined, combined_all, folded, first_partial, filling_of, fillings_of, end_by_cause, end_by_fault, end_of, child_of, children_of, merge}
use Rattle.overwrite_merge.specs.Bases.{base_of, need_of, filled_with, becomes, step_of, MergesAreOfBases}

joined_same : (c : Context) (p : Partial) (kept : List ℕ) (o : Option (List Tree)) (l : Leaf) → merging.joined_with c p kept o l ≡ joined_with c.verdict p kept o l
joined_same c p kept None l = refl
joined_same c p kept (Some condition) l = refl

combined_same : (c : Context) (root : ℕ) (p : Partial) (kept : List ℕ) (l : Leaf) → merging.combined c root p kept l ≡ combined c.verdict root p kept l
combined_same c root p kept l = joined_same c p kept (merging.add_all p.condition (drop root (told_of l).condition)) l

each_same : (c : Context) (root : ℕ) (p : Partial) (kept : List ℕ) (ls : List Leaf) → flat_map (merging.combined c root p kept) ls ≡ flat_map (combined c.verdict root p kept) ls
each_same c root p kept [] = refl
each_same c root p kept (l ∷ ls) = λ j. combined_same c root p kept l j ++ each_same c root p kept ls j

combined_all_same : (c : Context) (root : ℕ) (ls : List Leaf) (p : Partial) → merging.combined_all c root ls p ≡ combined_all c.verdict root ls p
combined_all_same c root ls p =
    elim p.kept as (λ o. (elim o as (λ x. List Partial) [ None ↦ p ∷ [] | Some kept ↦ flat_map (merging.combined c root p kept) ls ]) ≡ (elim o as (λ x. List Partial) [ None ↦ p ∷ [] | Some kept ↦ flat_map (combined c.verdict root p kept) ls ]))
    [ None ↦ refl | Some kept ↦ each_same c root p kept ls ]

all_same : (c : Context) (root : ℕ) (ls : List Leaf) (ps : List Partial) → flat_map (merging.combined_all c root ls) ps ≡ flat_map (combined_all c.verdict root ls) ps
all_same c root ls [] = refl
all_same c root ls (p ∷ ps) = λ j. combined_all_same c root ls p j ++ all_same c root ls ps j

folded_same : (c : Context) (s : State) (lists : List (List Leaf)) (ps : List Partial) → merging.folded c s lists ps ≡ folded c.verdict (length s.condition) s.shares lists ps
folded_same c s [] ps = refl
folded_same c s (ls ∷ lists) ps =
    let root = length s.condition in
    let next = flat_map (merging.combined_all c root ls) ps in
    (elim (nat_lt s.shares (length next)) as (λ b. (elim b as (λ x. Option (List Partial)) [ true ↦ None | false ↦ merging.folded c s lists next ]) ≡ (elim b as (λ x. Option (List Partial)) [ true ↦ None | false ↦ folded c.verdict root s.shares lists next ]))
    [ true ↦ refl | false ↦ folded_same c s lists next ])
    ∙ ap (λ n. elim (nat_lt s.shares (length n)) as (λ x. Option (List Partial)) [ true ↦ None | false ↦ folded c.verdict root s.shares lists n ]) (all_same c root ls ps)

filling_same : (s : State) (c : CallLeaves) (cs : List CallLeaves) (l : Leaf) (ls : List Leaf) → ((t : State) → filled_all t (map need_of cs) ls ≡ filled_with t (fillings_of cs ls))
    → filled_all (filled_by s (need_of c) l) (map need_of cs) ls ≡ filled_with s (filling_of c l ++ fillings_of cs ls)
filling_same s c cs (leaf.Done t entries result) ls more = more (filled_by s (need_of c) (leaf.Done t entries result))
filling_same s c cs _ ls more = more s

filled_same : (calls : List CallLeaves) (ls : List Leaf) (s : State) → filled_all s (map need_of calls) ls ≡ filled_with s (fillings_of calls ls)
filled_same [] ls s = refl
filled_same (c ∷ cs) [] s = refl
filled_same (c ∷ cs) (l ∷ ls) s = filling_same s c cs l ls (filled_same cs ls)

-- the state that a combination has, with its shares
abbrev shared : State → ℕ → State
shared s shares = record s { shares = shares }

module _ (s : State) (calls : List CallLeaves) (shares : ℕ) (p : Partial) where
  abbrev left : ℕ
  left = s.left - steps_of s.left p.used

  cause_same : (kept : List ℕ) (o : Option Cause) → merging.child_by_cause o (shared s shares) (map need_of calls) kept p
      ≡ becomes s (record { condition = p.condition; kept = Some kept; left = left; shares = shares; end = end_by_cause o calls p.used })
  cause_same kept (Some why) = refl
  cause_same kept None = ap Go (filled_same calls p.used (record (state_of (shared s shares) p) { kept = kept }))

  fault_same : (kept : List ℕ) (o : Option Where) → merging.child_by_fault o (shared s shares) (map need_of calls) kept p
      ≡ becomes s (record { condition = p.condition; kept = Some kept; left = left; shares = shares; end = end_by_fault o calls p.used })
  fault_same kept (Some f) = refl
  fault_same kept None = cause_same kept (first_some cause_of p.used)

  child_same : merging.child_of (shared s shares) (map need_of calls) p ≡ becomes s (child_of (base_of s) calls shares p)
  child_same =
      elim p.kept as (λ o. (elim o as (λ x. Child) [
        | None ↦ Stop (leaf.Open (told_with None p.condition (state_of (shared s shares) p)) cause.Solver)
        | Some kept ↦ merging.child_by_fault (first_some fault_of p.used) (shared s shares) (map need_of calls) kept p
      ]) ≡ becomes s (record { condition = p.condition; kept = o; left = left; shares = shares; end = end_of o calls p.used }))
      [ None ↦ refl | Some kept ↦ fault_same kept (first_some fault_of p.used) ]

children_same : (s : State) (calls : List CallLeaves) (k j : ℕ) (ps : List Partial) → merging.children_of s (map need_of calls) k j ps ≡ map (becomes s) (children_of (base_of s) calls k j ps)
children_same s calls k j [] = refl
children_same s calls k j (p ∷ ps) = λ i. child_same s calls (share_of s.shares k j) p i ∷ children_same s calls k (j + 1) ps i

pub merges_same : MergesAreOfBases
merges_same c s calls =
    ap (λ o. elim o as (λ x. Step) [ None ↦ opens cause.Shares s | Some ps ↦ Forks (merging.children_of s (map need_of calls) (length ps) 0 ps) ]) (folded_same c s (leaves_of calls) (first_partial (base_of s) ∷ []))
    ∙ (elim (folded c.verdict (length s.condition) s.shares (leaves_of calls) (first_partial (base_of s) ∷ [])) as (λ o.
    (elim o as (λ x. Step) [ None ↦ opens cause.Shares s | Some ps ↦ Forks (merging.children_of s (map need_of calls) (length ps) 0 ps) ])
    ≡ step_of s (elim o [ None ↦ TooMany | Some ps ↦ Children (children_of (base_of s) calls (length ps) 0 ps) ]))
    [ None ↦ refl | Some ps ↦ ap Forks (children_same s calls (length ps) 0 ps) ])
