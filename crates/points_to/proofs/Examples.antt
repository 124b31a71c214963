-- The points-to sets of the small program, worked out by hand.
use Rattle.std.proofs.Common.{◌≡◌, ℕ, List, [], ◌∷◌, refl, sym, subst, arith}
use Rattle.std.specs.List.{Contains, AllByRecursion as Each}
use Rattle.std.proofs.lemmas.List.Elements.{All-contains, All-from_recursion}
use Rattle.flat_ir.specs.declared.names.Site.{Site}
use Rattle.flat_ir.specs.declared.names.Site.TheVariants as site
use Rattle.points_to.specs.declared.holders.Holder.{Holder}
use Rattle.points_to.specs.declared.holders.Holder.TheVariants.{Register, Returned, Bytes, Address, Nothing}
use Rattle.points_to.specs.declared.holders.Inclusion.{Inclusion}
use Rattle.points_to.specs.declared.holders.Inclusion.TheVariants.{Names, Copies, Loads, Stores, Moves}
use Rattle.points_to.specs.Asked.{asked}
use Rattle.points_to.specs.Sample.{func, at, reg, sample}
use Rattle.points_to.specs.Points.{Points, address, names, copies, loads, stores, moves, PointsTo}

-- whatever a list asks holds of some holders and sites
abbrev Keeps : (Holder → Site → Type 0) → Inclusion → Type 0
Keeps S (Names h s) = S h s
Keeps S (Copies from to) = (s : Site) → S from s → S to s
Keeps S (Loads q to) = (t s : Site) → S q t → S (Bytes t) s → S to s
Keeps S (Stores from q) = (t s : Site) → S q t → S from s → S (Bytes t) s
Keeps S (Moves from to) = (t u s : Site) → S from t → S (Bytes t) s → S to u → S (Bytes u) s

-- the least sets lie in all that keep what is asked
pub least : (list : List Inclusion) (S : Holder → Site → Type 0) → ((g : ℕ) → S (Address g) (site.Global g)) → Each (Keeps S) list → (h : Holder) (s : Site) → Points list h s → S h s
least list S named keeps h s points = go h s points
  where
    each : (c : Inclusion) → Contains list c → Keeps S c
    each c = All-contains (Keeps S) list c (All-from_recursion (Keeps S) list keeps)

    go : (h : Holder) (s : Site) → Points list h s → S h s
    go _ _ (address g) = named g
    go h s (names _ _ c) = each (Names h s) c
    go to s (copies from _ _ c p) = each (Copies from to) c s (go from s p)
    go to s (loads q _ t _ c p p') = each (Loads q to) c t s (go q t p) (go (Bytes t) s p')
    go _ s (stores from q t _ c p p') = each (Stores from q) c t s (go q t p) (go from s p')
    go _ s (moves from to t u _ c p p' p'') = each (Moves from to) c t u s (go from t p) (go (Bytes t) s p') (go to u p'')

abbrev of_main : ℕ → Holder
of_main k = Register (func 0) (reg k)

abbrev mains_first : Site
mains_first = site.Node (func 0) (at 0)

-- what it asks
asks : asked sample ≡ Names (of_main 0) mains_first ∷ Stores (of_main 0) (Address 0) ∷ Loads (Address 0) (of_main 1) ∷ Stores Nothing (of_main 1) ∷ Copies Nothing (Returned (func 0)) ∷ []
asks = refl

-- the global's bytes point to main's object
pub the_global_holds_it : PointsTo sample (Bytes (site.Global 0)) mains_first
the_global_holds_it =
    stores (of_main 0) (Address 0) (site.Global 0) mains_first (1, omega arith, refl) (address 0) (names (of_main 0) mains_first (0, omega arith, refl))

-- so does the register that was loaded
pub the_register_holds_it : PointsTo sample (of_main 1) mains_first
the_register_holds_it = loads (Address 0) (of_main 1) (site.Global 0) mains_first (2, omega arith, refl) (address 0) the_global_holds_it

-- and that is all
abbrev All' : Holder → Site → Type 0
All' (Register f k) s = s ≡ mains_first
All' (Bytes (site.Global g)) s = s ≡ mains_first
All' (Address g) s = s ≡ site.Global g
All' _ s = ⊥

global_bytes : (g : ℕ) (t s : Site) → t ≡ site.Global g → s ≡ mains_first → All' (Bytes t) s
global_bytes g t s e e' = subst (λ (u : Site). All' (Bytes u) s) (sym e) e'

kept : Each (Keeps All') (asked sample)
kept = (
  refl,
  (
    (λ t s e e'. global_bytes 0 t s e e'),
    (
      (λ t s e e'. subst (λ (u : Site). All' (Bytes u) s → s ≡ mains_first) (sym e) (λ h. h) e'),
      ((λ t s e e'. absurd e'), ((λ s e. absurd e), tt)),
    ),
  ),
)

pub and_no_more : (h : Holder) (s : Site) → PointsTo sample h s → All' h s
and_no_more = least (asked sample) All' (λ g. refl) kept

-- main's object holds no pointer
pub its_bytes_hold_none : (s : Site) → PointsTo sample (Bytes mains_first) s → ⊥
its_bytes_hold_none s h = and_no_more (Bytes mains_first) s h
