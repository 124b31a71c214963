-- Each fact has a number of its own.
use Rattle.std.specs.Prelude.{slice_index_or, nat_lt, unwrap_or, slice_get}
use Rattle.std.proofs.Common.{◌≡◌, ◌<◌, ◌≤◌, ◌+◌, ◌*◌, ◌++◌, ◌∙◌, ◌⊎◌, inl, inr, ℕ, zero, suc, Bool, true, false, List, [], ◌∷◌, length, Option, Some, None, refl, sym, ap, subst, arith, ⊎_elim, length-append}
use Rattle.std.proofs.lemmas.Bool.{cases_lt, cases_eq, ltb-true, lt-ltb}
use Rattle.std.proofs.lemmas.List.{get_or_past}
use Rattle.std.proofs.lemmas.Option.{slice_get_past}
use Rattle.std.proofs.Math.ListN.{get_or-append}
use Rattle.std.proofs.Math.Seq.{get_or-append_seam}
use Rattle.least.specs.Sets.{has}
use Rattle.flat_ir.specs.declared.names.FuncId.{FuncId}
use Rattle.flat_ir.specs.declared.names.Site.TheVariants as site
use Rattle.flat_ir.specs.declared.names.Location.TheVariants as location
use Rattle.flat_ir.specs.declared.program.ProgramData.{ProgramData}
use Rattle.flat_ir.specs.Machine.{func_at, regs_of, nodes_of}
use Rattle.slices.specs.Slice.{end_of}
use Rattle.slicer.specs.declared.marks.Mark.{Mark}
use Rattle.slicer.specs.declared.marks.Mark.TheVariants.{Kept, Needed, Wanted, Returns, Holds}
use Rattle.slicer.specs.declared.places.Spot.{Spot}
use Rattle.slicer.specs.Places.{spot_of, mark_at, start, AreRows, AreLaidOut, size_of, number_at, number_if, number, has_at, marked}

-- ---- the rows

start_old : (xs : List ℕ) (t i : ℕ) → i < length xs → start (xs ++ t ∷ []) i ≡ start xs i
start_old xs t i lt = get_or-append xs (t ∷ []) 0 i lt

start_new : (xs : List ℕ) (t i : ℕ) → i ≡ length xs → start (xs ++ t ∷ []) i ≡ t
start_new xs t i e = subst (λ (j : ℕ). start (xs ++ t ∷ []) j ≡ t) (sym e) (get_or-append_seam xs t [] 0)

rises_more : (xs : List ℕ) (k t : ℕ) → length xs ≡ k + 1 → ((i : ℕ) → i + 1 < length xs → start xs i ≤ start xs (i + 1)) → start xs k ≤ t
    → (i : ℕ) → i + 1 < length (xs ++ t ∷ []) → start (xs ++ t ∷ []) i ≤ start (xs ++ t ∷ []) (i + 1)
rises_more xs k t size rises last i lt =
    let longer = length-append xs (t ∷ []) in
    ⊎_elim (λ (old : i + 1 < length xs). omega (arith, rises i old, start_old xs t i (omega arith), start_old xs t (i + 1) old))
    (λ (new : length xs ≤ i + 1).
    let e : i + 1 ≡ length xs = omega (arith, longer) in
    let same : i ≡ k = omega arith in
    omega (arith, start_old xs t i (omega arith), start_new xs t (i + 1) e, last, ap (start xs) same))
    (cases_lt (i + 1) (length xs))

small_more : (xs : List ℕ) (t : ℕ) → ((i : ℕ) → start xs i ≤ 576460752303423488) → t ≤ 576460752303423488 → (i : ℕ) → start (xs ++ t ∷ []) i ≤ 576460752303423488
small_more xs t small few i =
    ⊎_elim (λ (old : i < length xs). omega (arith, small i, start_old xs t i old))
    (λ (new : length xs ≤ i). ⊎_elim (λ (e : i ≡ length xs). omega (arith, few, start_new xs t i e))
    (λ ne. let past : length (xs ++ t ∷ []) ≤ i = omega (arith, length-append xs (t ∷ []), ne) in
    let e : start (xs ++ t ∷ []) i ≡ 0 = get_or_past (xs ++ t ∷ []) i 0 past in omega (arith, e)) (cases_eq i (length xs)))
    (cases_lt i (length xs))

-- what has room in the rows so far, and in the new one, has room in all
room_more : (xs : List ℕ) (k t : ℕ) (wide : ℕ → ℕ) → length xs ≡ k + 1 → ((i : ℕ) → i < k → start xs i + wide i ≤ start xs (i + 1)) → start xs k + wide k ≤ t
    → (i : ℕ) → i < k + 1 → start (xs ++ t ∷ []) i + wide i ≤ start (xs ++ t ∷ []) (i + 1)
room_more xs k t wide size room last i lt =
    ⊎_elim (λ (old : i < k). omega (arith, room i old, start_old xs t i (omega arith), start_old xs t (i + 1) (omega arith)))
    (λ (new : k ≤ i).
    let e : i + 1 ≡ length xs = omega arith in
    let same : k ≡ i = omega arith in
    subst (λ (j : ℕ). start (xs ++ t ∷ []) j + wide j ≤ start (xs ++ t ∷ []) (j + 1)) same
    (omega (arith, start_old xs t k (omega arith), start_new xs t (k + 1) (omega arith), last)))
    (cases_lt i k)

pub rows_more : (p : ProgramData) (k : ℕ) (xs : List ℕ) (t : ℕ) → AreRows p k xs → t ≤ 576460752303423488 → start xs k + end_of p (record { 0 = k }) ≤ t
    → start xs k + length (regs_of (func_at p (record { 0 = k }))) ≤ t → AreRows p (k + 1) (xs ++ t ∷ [])
rows_more p k xs t is few nodes registers = record {
  rows = omega (arith, is.rows, length-append xs (t ∷ []));
  rises = rises_more xs k t is.rows is.rises (omega (arith, nodes));
  small = small_more xs t is.small few;
  nodes = λ f lt. room_more xs k t (λ i. end_of p (record { 0 = i })) is.rows (λ i h. is.nodes (record { 0 = i }) h) nodes f.0 lt;
  registers = λ f lt. room_more xs k t (λ i. length (regs_of (func_at p (record { 0 = i })))) is.rows (λ i h. is.registers (record { 0 = i }) h) registers f.0 lt;
}

pub no_rows : (p : ProgramData) → AreRows p 0 (0 ∷ [])
no_rows p = record {
  rows = refl;
  rises = λ i lt. absurd (omega (arith, lt));
  small = λ i. one i;
  nodes = λ f lt. absurd (omega (arith, lt));
  registers = λ f lt. absurd (omega (arith, lt));
}
  where
    one : (i : ℕ) → start (0 ∷ []) i ≤ 576460752303423488
    one zero = omega arith
    one (suc i) = omega arith

pub laid_out : (p : ProgramData) (xs : List ℕ) (t : ℕ) → AreRows p (length p.funcs) xs → t ≤ 576460752303423488
    → start xs (length p.funcs) + (length p.globals + length p.funcs + 3) ≤ t → AreLaidOut p (xs ++ t ∷ [])
laid_out p xs t is few shared = record {
  rows = omega (arith, is.rows, length-append xs (t ∷ []));
  rises = rises_more xs (length p.funcs) t is.rows is.rises (omega (arith, shared));
  small = small_more xs t is.small few;
  nodes = λ f lt. omega (arith, is.nodes f lt, is.rows, start_old xs t f.0 (omega (arith, is.rows, lt)), start_old xs t (f.0 + 1) (omega (arith, is.rows, lt)));
  registers = λ f lt. omega (arith, is.registers f lt, is.rows, start_old xs t f.0 (omega (arith, is.rows, lt)), start_old xs t (f.0 + 1) (omega (arith, is.rows, lt)));
  shared = omega (arith, shared, start_old xs t (length p.funcs) (omega (arith, is.rows)), start_new xs t (length p.funcs + 1) (omega (arith, is.rows)));
}

rise_all : (xs : List ℕ) → ((i : ℕ) → i + 1 < length xs → start xs i ≤ start xs (i + 1)) → (i j : ℕ) → i ≤ j → j < length xs → start xs i ≤ start xs j
rise_all xs rises i zero le lt = let e : i ≡ 0 = omega (arith, le) in omega (arith, ap (start xs) e)
rise_all xs rises i (suc j) le lt =
    ⊎_elim (λ (below : i < suc j).
    let next : j + 1 ≡ suc j = omega arith in
    omega (arith, rise_all xs rises i j (omega (arith, below)) (omega (arith, lt)), rises j (omega (arith, lt)), ap (start xs) next))
    (λ (at' : suc j ≤ i). let e : i ≡ suc j = omega (arith, le, at') in omega (arith, ap (start xs) e))
    (cases_lt i (suc j))

-- ---- the places of facts

pub func_within : (p : ProgramData) (f : FuncId) (n : ℕ) → n < end_of p f → f.0 < length p.funcs
func_within p f n h =
    ⊎_elim (λ lt. lt) (λ far. let e : nodes_of (func_at p f) ≡ [] = ap nodes_of (slice_get_past p.funcs f.0 far) in absurd (omega (arith, h, ap length e))) (cases_lt f.0 (length p.funcs))

regs_within : (p : ProgramData) (f : FuncId) (r : ℕ) → r < length (regs_of (func_at p f)) → f.0 < length p.funcs
regs_within p f r h =
    ⊎_elim (λ lt. lt) (λ far. let e : regs_of (func_at p f) ≡ [] = ap regs_of (slice_get_past p.funcs f.0 far) in absurd (omega (arith, h, ap length e))) (cases_lt f.0 (length p.funcs))

pub record HasRoom (starts : List ℕ) (s : Spot) : Type 0 where
  pub row : s.row + 1 < length starts
  pub there : start starts s.row + s.at < start starts (s.row + 1)

shared_room : (p : ProgramData) (starts : List ℕ) → AreLaidOut p starts → (k kind limit : ℕ) → k < length p.globals + length p.funcs + 3
    → HasRoom starts (record { kind = kind; row = length p.funcs; at = k; limit = limit })
shared_room p starts laid k kind limit lt = record { row = omega (arith, laid.rows); there = omega (arith, laid.shared, lt) }

node_room : (p : ProgramData) (starts : List ℕ) → AreLaidOut p starts → (f : FuncId) (k kind limit : ℕ) → k < end_of p f → HasRoom starts (record { kind = kind; row = f.0; at = k; limit = limit })
node_room p starts laid f k kind limit lt =
    let there = func_within p f k lt in record { row = omega (arith, laid.rows, there); there = omega (arith, laid.nodes f there, lt) }

has_room : (p : ProgramData) (starts : List ℕ) → AreLaidOut p starts → (m : Mark) → (spot_of p m).at < (spot_of p m).limit → HasRoom starts (spot_of p m)
has_room p starts laid (Kept f n) lt = node_room p starts laid f n.0 0 (end_of p f) lt
has_room p starts laid (Needed (location.Cells (site.Node f n))) lt = node_room p starts laid f n.0 1 (end_of p f) lt
has_room p starts laid (Needed (location.Life (site.Node f n))) lt = node_room p starts laid f n.0 2 (end_of p f) lt
has_room p starts laid (Wanted f r) lt =
    let there = regs_within p f r.0 lt in record { row = omega (arith, laid.rows, there); there = omega (arith, laid.registers f there, lt) }
has_room p starts laid (Needed (location.Cells (site.Global g))) lt = shared_room p starts laid g 4 (length p.globals) (omega (arith, lt))
has_room p starts laid (Needed (location.Life (site.Global g))) lt = shared_room p starts laid g 5 (length p.globals) (omega (arith, lt))
has_room p starts laid (Returns f) lt = shared_room p starts laid f.0 6 (length p.funcs) (omega (arith, lt))
has_room p starts laid (Holds f) lt = shared_room p starts laid f.0 7 (length p.funcs) (omega (arith, lt))
has_room p starts laid (Needed location.Input) lt = shared_room p starts laid 0 8 3 (omega arith)
has_room p starts laid (Needed location.Output) lt = shared_room p starts laid 1 8 3 (omega arith)
has_room p starts laid (Needed location.Result) lt = shared_room p starts laid 2 8 3 (omega arith)

kind_small : (p : ProgramData) (m : Mark) → (spot_of p m).kind < 9
kind_small p (Kept f n) = omega arith
kind_small p (Needed (location.Cells (site.Node f n))) = omega arith
kind_small p (Needed (location.Life (site.Node f n))) = omega arith
kind_small p (Wanted f r) = omega arith
kind_small p (Needed (location.Cells (site.Global g))) = omega arith
kind_small p (Needed (location.Life (site.Global g))) = omega arith
kind_small p (Returns f) = omega arith
kind_small p (Holds f) = omega arith
kind_small p (Needed location.Input) = omega arith
kind_small p (Needed location.Output) = omega arith
kind_small p (Needed location.Result) = omega arith

mark_is : (p : ProgramData) (m : Mark) → mark_at (spot_of p m).kind (spot_of p m).row (spot_of p m).at ≡ m
mark_is p (Kept f n) = refl
mark_is p (Needed (location.Cells (site.Node f n))) = refl
mark_is p (Needed (location.Life (site.Node f n))) = refl
mark_is p (Wanted f r) = refl
mark_is p (Needed (location.Cells (site.Global g))) = refl
mark_is p (Needed (location.Life (site.Global g))) = refl
mark_is p (Returns f) = refl
mark_is p (Holds f) = refl
mark_is p (Needed location.Input) = refl
mark_is p (Needed location.Output) = refl
mark_is p (Needed location.Result) = refl

if_some : (b : Bool) (j k : ℕ) → number_if b j ≡ Some k → (b ≡ true) × (j ≡ k)
if_some true j k e = (refl, cc)
if_some false j k e = absurd (cc)

-- a fact with a number is the program's
pub placed : (p : ProgramData) (starts : List ℕ) (m : Mark) (k : ℕ) → number p starts m ≡ Some k → ((spot_of p m).at < (spot_of p m).limit) × (number_at starts (spot_of p m) ≡ k)
placed p starts m k e =
    let both = if_some (nat_lt (spot_of p m).at (spot_of p m).limit) (number_at starts (spot_of p m)) k e in
    (ltb-true (spot_of p m).at (spot_of p m).limit both.0, both.1)

-- a fact of the program has one
pub numbered : (p : ProgramData) (starts : List ℕ) (m : Mark) → (spot_of p m).at < (spot_of p m).limit → number p starts m ≡ Some (number_at starts (spot_of p m))
numbered p starts m lt = ap (λ (b : Bool). number_if b (number_at starts (spot_of p m))) (lt-ltb (spot_of p m).at (spot_of p m).limit lt)

pub within_size : (p : ProgramData) (starts : List ℕ) → AreLaidOut p starts → (m : Mark) (k : ℕ) → number p starts m ≡ Some k → k < size_of p starts
within_size p starts laid m k e =
    let is = placed p starts m k e in
    let room = has_room p starts laid m is.0 in
    let up = rise_all starts laid.rises ((spot_of p m).row + 1) (length p.funcs + 1) (omega (arith, room.row, laid.rows)) (omega (arith, laid.rows)) in
    omega (arith, is.1, room.there, up, kind_small p m)

nine : (a b j k : ℕ) → j < 9 → k < 9 → 9 * a + j ≡ 9 * b + k → (a ≡ b) × (j ≡ k)
nine a b j k small few e = (omega arith, omega arith)

one_row : (xs : List ℕ) → ((i : ℕ) → i + 1 < length xs → start xs i ≤ start xs (i + 1)) → (r s a b : ℕ) → r + 1 < length xs → s + 1 < length xs
    → start xs r + a < start xs (r + 1) → start xs s + b < start xs (s + 1) → start xs r + a ≡ start xs s + b → r ≡ s
one_row xs rises r s a b there there' room room' e =
    ⊎_elim (λ (lt : r < s). absurd (omega (arith, rise_all xs rises (r + 1) s (omega (arith, lt)) (omega arith), room, room', e)))
    (λ (le : s ≤ r). ⊎_elim (λ (lt : s < r). absurd (omega (arith, rise_all xs rises (s + 1) r (omega (arith, lt)) (omega arith), room, room', e)))
    (λ (ge : r ≤ s). let same : r ≡ s = omega (arith, le, ge) in same) (cases_lt s r))
    (cases_lt r s)

-- two facts with one number are one
pub one_mark : (p : ProgramData) (starts : List ℕ) → AreLaidOut p starts → (m m' : Mark) (k : ℕ) → number p starts m ≡ Some k → number p starts m' ≡ Some k → m ≡ m'
one_mark p starts laid m m' k e e' =
    let is = placed p starts m k e in
    let is' = placed p starts m' k e' in
    let s : Spot = spot_of p m in
    let s' : Spot = spot_of p m' in
    let room = has_room p starts laid m is.0 in
    let room' = has_room p starts laid m' is'.0 in
    let same = nine (start starts s.row + s.at) (start starts s'.row + s'.at) s.kind s'.kind (kind_small p m) (kind_small p m') (is.1 ∙ sym is'.1) in
    let row : s.row ≡ s'.row = one_row starts laid.rises s.row s'.row s.at s'.at room.row room'.row room.there room'.there same.0 in
    let at' : s.at ≡ s'.at = omega (arith, same.0, ap (start starts) row) in
    let kind : s.kind ≡ s'.kind = same.1 in
    sym (mark_is p m) ∙ ap (λ (j : ℕ). mark_at j s.row s.at) kind ∙ ap (λ (j : ℕ). mark_at s'.kind j s.at) row ∙ ap (λ (j : ℕ). mark_at s'.kind s'.row j) at' ∙ mark_is p m'

pub start_at_end : (xs : List ℕ) (k t : ℕ) → length xs ≡ k → start (xs ++ t ∷ []) k ≡ t
start_at_end xs k t e = start_new xs t k (sym e)
