-- Tables in which nothing more follows have all that is asked.
use Rattle.std.specs.Prelude.{slice_get, slice_index_or}
use Rattle.std.proofs.Common.{◌≡◌, ◌<◌, ℕ, zero, suc, List, [], ◌∷◌, length, replicate, Option, Some, None, refl, sym, ap, subst, arith}
use Rattle.std.specs.List.{Contains}
use Rattle.flat_ir.specs.declared.names.Site.{Site}
use Rattle.flat_ir.specs.declared.names.Site.TheVariants as site
use Rattle.flat_ir.specs.declared.program.Func.{Func}
use Rattle.flat_ir.specs.declared.program.ProgramData.{ProgramData}
use Rattle.flat_ir.specs.Machine.{func_at, regs_of, nodes_of}
use Rattle.flat_ir.specs.Whole.{IsWhole}
use Rattle.points_to.specs.declared.holders.Holder.{Holder}
use Rattle.points_to.specs.declared.holders.Holder.TheVariants.{Register, Returned, Bytes, Address, Nothing}
use Rattle.points_to.specs.declared.holders.Inclusion.{Inclusion}
use Rattle.points_to.specs.declared.holders.Inclusion.TheVariants.{Names, Copies, Loads, Stores, Moves}
use Rattle.points_to.specs.Asked.{asked}
use Rattle.points_to.specs.Points.{Points, address, names, copies, loads, stores, moves, PointsTo, IsIn, Lists}
use Rattle.points_to.specs.Rows as rows
use Rattle.points_to.specs.Rows.{Key, In, Tables, AreTables, IsRow, row_of}
use Rattle.points_to.specs.Solving.{key_of, IsStored, Has, IsSound, Fires, Solves}
use Rattle.points_to.specs.Sets.{empty_tables, empty_part, ArePointsTo, of_cells}
use Rattle.points_to.proofs.Putting.{has_points}
use Rattle.points_to.proofs.AskedIn.{IsAskedIn, asked_in}

stored_has : (t : Tables) (h : Holder) (s : Site) → IsStored h → In t (key_of h s) → Has t h s
stored_has t (Register f r) s there h = h
stored_has t (Returned f) s there h = h
stored_has t (Bytes (site.Global g)) s there h = h
stored_has t (Bytes (site.Node f n)) s there h = h
stored_has t (Address g) s there h = absurd there
stored_has t Nothing s there h = absurd there

-- each holder of the program has a row
abbrev pub HavePlaces : ProgramData → Tables → Type 0
HavePlaces p t = (h : Holder) (s : Site) → IsIn p h → IsStored h → rows.Place t (key_of h s)

-- whatever is asked is there
complete : (p : ProgramData) (t : Tables) → ((c : Inclusion) → Contains (asked p) c → IsAskedIn p c) → ((c : Inclusion) → Contains (asked p) c → Fires c t t) → HavePlaces p t
    → (h : Holder) (s : Site) → Points (asked p) h s → IsIn p h → Has t h s × IsIn p (Bytes s)
complete p t is closed places _ _ (address g) within = (refl, within)
complete p t is closed places h s (names _ _ c) within =
    let a = is (Names h s) c in
    (stored_has t h s a.1.0 (closed (Names h s) c (places h s within a.1.0)), a.1.1)
complete p t is closed places to s (copies from _ _ c points) within =
    let a = is (Copies from to) c in
    let there = complete p t is closed places from s points a.0 in
    (stored_has t to s a.1.1 (closed (Copies from to) c s there.0 (places to s within a.1.1)), there.1)
complete p t is closed places to s (loads q _ u _ c points held) within =
    let a = is (Loads q to) c in
    let target = complete p t is closed places q u points a.0 in
    let there = complete p t is closed places (Bytes u) s held target.1 in
    (stored_has t to s a.1.1 (closed (Loads q to) c u s target.0 there.0 (places to s within a.1.1)), there.1)
complete p t is closed places _ s (stores from q u _ c points held) within =
    let a = is (Stores from q) c in
    let target = complete p t is closed places q u points a.1 in
    let there = complete p t is closed places from s held a.0 in
    (stored_has t (Bytes u) s tt (closed (Stores from q) c u s target.0 there.0 (places (Bytes u) s within tt)), there.1)
complete p t is closed places _ s (moves from to u v _ c source held target) within =
    let a = is (Moves from to) c in
    let read = complete p t is closed places from u source a.0 in
    let there = complete p t is closed places (Bytes u) s held read.1 in
    let written = complete p t is closed places to v target a.1 in
    (stored_has t (Bytes v) s tt (closed (Moves from to) c u v s read.0 there.0 written.0 (places (Bytes v) s within tt)), there.1)

-- empty rows
abbrev no_sites : List Site
no_sites = []

no_row : (k i : ℕ) → slice_index_or (replicate k []) i [] ≡ no_sites
no_row zero i = refl
no_row (suc k) zero = refl
no_row (suc k) (suc i) = no_row k i

no_rows : (v : Func → ℕ) (fs : List Func) (i j : ℕ) → slice_index_or (slice_index_or (empty_part v fs) i []) j [] ≡ no_sites
no_rows v [] i j = refl
no_rows v (f ∷ fs) zero j = no_row (v f) j
no_rows v (f ∷ fs) (suc i) j = no_rows v fs i j

no_one : (k i j : ℕ) → slice_index_or (slice_index_or (replicate k [] ∷ []) i []) j [] ≡ no_sites
no_one k zero j = no_row k j
no_one k (suc i) j = refl

nothing_in : (p : ProgramData) (k i j : ℕ) → row_of (empty_tables p) k i j ≡ []
nothing_in p zero i j = no_rows (λ f. length f.regs) p.funcs i j
nothing_in p (suc zero) i j = no_rows (λ f. length f.nodes) p.funcs i j
nothing_in p (suc (suc zero)) i j = no_one (length p.globals) i j
nothing_in p (suc (suc (suc zero))) i j = no_one (length p.funcs) i j
nothing_in p (suc (suc (suc (suc k)))) i j = refl

empty_row : IsRow []
empty_row = record { ascending = λ i j lt within. absurd (omega (arith, within)); small = λ s h. absurd (omega (arith, h.1)) }

pub empty_tables_are : (p : ProgramData) → AreTables (empty_tables p)
empty_tables_are p k i j = subst (λ (row : List Site). IsRow row) (sym (nothing_in p k i j)) empty_row

pub empty_is_sound : (p : ProgramData) (list : List Inclusion) → IsSound list (empty_tables p)
empty_is_sound p list k h = let none : Contains no_sites k.1.1.1 = subst (λ (row : List Site). Contains row k.1.1.1) (nothing_in p k.0 k.1.0 k.1.1.0) h in absurd (omega (arith, none.1))

-- empty rows for each function
long_row : (k i : ℕ) → i < k → i < length (replicate {A = List Site} k [])
long_row zero i lt = absurd (omega (arith, lt))
long_row (suc k) zero lt = omega arith
long_row (suc k) (suc i) lt = let h = long_row k i (omega (arith, lt)) in omega (arith, h)

part_of : {A : Type 0} → (Func → List A) → Option Func → List A
part_of v None = []
part_of v (Some f) = v f

long_part : {A : Type 0} (v : Func → List A) (fs : List Func) (i j : ℕ) → j < length {A = A} (part_of v (slice_get fs i))
    → (i < length (empty_part (λ f. length (v f)) fs)) × (j < length (slice_index_or (empty_part (λ f. length (v f)) fs) i []))
unfolding part_of
long_part v [] i j lt = absurd (omega (arith, lt))
long_part v (f ∷ fs) zero j lt = (omega arith, long_row (length (v f)) j lt)
long_part v (f ∷ fs) (suc i) j lt = let h = long_part v fs i j lt in (omega (arith, h.0), h.1)

regs_part : (o : Option Func) → regs_of o ≡ part_of (λ f. f.regs) o
unfolding part_of
regs_part None = refl
regs_part (Some f) = refl

nodes_part : (o : Option Func) → nodes_of o ≡ part_of (λ f. f.nodes) o
unfolding part_of
nodes_part None = refl
nodes_part (Some f) = refl

empty_places : (p : ProgramData) → HavePlaces p (empty_tables p)
empty_places p (Register f r) s within there =
    let h = long_part (λ (g : Func). g.regs) p.funcs f.0 r.0 (omega (arith, within, ap length (regs_part (func_at p f)))) in
    (omega arith, (h.0, (h.1, tt)))
empty_places p (Returned f) s within there = (omega arith, (omega arith, (long_row (length p.funcs) f.0 within, tt)))
empty_places p (Bytes (site.Global g)) s within there = (omega arith, (omega arith, (long_row (length p.globals) g within, tt)))
empty_places p (Bytes (site.Node f n)) s within there =
    let h = long_part (λ (g : Func). g.nodes) p.funcs f.0 n.0 (omega (arith, within, ap length (nodes_part (func_at p f)))) in
    (omega arith, (h.0, (h.1, tt)))
empty_places p (Address g) s within there = absurd there
empty_places p Nothing s within there = absurd there

-- the solved tables are the points-to sets
pub solved : (p : ProgramData) (t : Tables) → IsWhole p → Solves (asked p) (empty_tables p) t → ArePointsTo p t
solved p t whole s =
    let sound : IsSound (asked p) t = s.sound (empty_is_sound p (asked p)) in
    let places : HavePlaces p t = λ h u within there. s.places (key_of h u) (empty_places p h u within there) in
    let all : (h : Holder) (u : Site) → Points (asked p) h u → IsIn p h → Has t h u = λ h u points within. (complete p t (asked_in p whole) s.closed places h u points within).0 in
    record {
      registers = λ f r within. record {
        ascending = (s.fine 0 f.0 r.0).ascending;
        only = λ u h. has_points (asked p) t sound (Register f r) u h;
        all = λ u h. all (Register f r) u h within;
      };
      cells = cells sound all;
    }
  where
    cells : IsSound (asked p) t → ((h : Holder) (u : Site) → Points (asked p) h u → IsIn p h → Has t h u) → (u : Site) → IsIn p (Bytes u) → Lists (PointsTo p (Bytes u)) (of_cells t u)
    cells sound all (site.Global g) within = record {
      ascending = (s.fine 2 0 g).ascending;
      only = λ u h. has_points (asked p) t sound (Bytes (site.Global g)) u h;
      all = λ u h. all (Bytes (site.Global g)) u h within;
    }
    cells sound all (site.Node f n) within = record {
      ascending = (s.fine 1 f.0 n.0).ascending;
      only = λ u h. has_points (asked p) t sound (Bytes (site.Node f n)) u h;
      all = λ u h. all (Bytes (site.Node f n)) u h within;
    }
