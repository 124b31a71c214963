-- The rounds of a slice, from what is asked to the slice.
use Rattle.std.specs.Prelude.{slice_get, ◌==◌, ◌||◌}
use Rattle.std.proofs.Common.{◌≡◌, ◌≢◌, ◌<◌, ◌≤◌, ◌∙◌, ◌⊎◌, inl, inr, ℕ, zero, suc, Bool, true, false, List, [], ◌∷◌, length, Option, Some, None, refl, sym, ap, subst, arith, ⊎_elim}
use Rattle.std.specs.List.{flat_map}
use Rattle.least.specs.Sets.{has, Within, Exactly}
use Rattle.least.proofs.Bits.{members}
use Rattle.flat_ir.specs.declared.names.FuncId.{FuncId}
use Rattle.flat_ir.specs.declared.names.NodeId.{NodeId}
use Rattle.flat_ir.specs.declared.names.Location.{Location}
use Rattle.flat_ir.specs.declared.names.Location.TheVariants as location
use Rattle.flat_ir.specs.declared.program.ProgramData.{ProgramData}
use Rattle.flat_ir.specs.Whole.{IsWhole}
use Rattle.points_to.specs.Rows.{Tables}
use Rattle.slices.specs.Slice.{Item, Items, Keep, Need, Looks, Slices, ends, round, IsSlice, IsClosedSlice}
use Rattle.slices.specs.Slice as slice
use Rattle.slicer.specs.declared.marks.Mark.{Mark}
use Rattle.slicer.specs.declared.marks.Mark.TheVariants.{Kept, Needed, Wanted, Returns, Holds}
use Rattle.slicer.specs.declared.reaching.Arrow.{Arrow}
use Rattle.slicer.specs.Facts.{func, Means, IsMeant, AreGiven, Grows, ClosesOnce}
use Rattle.slicer.specs.Locations.{IsLocationOf}
use Rattle.slicer.specs.Places.{AreLaidOut, number, number_at, spot_of, has_at, marked, items_of, size_of}
use Rattle.slicer.specs.Reached.{Reached}
use Rattle.slicer.specs.Closing.{MarksIf}
use Rattle.slicer.specs.Settling.{nothing, is_result, IsReady, IsOnTheWay, IsFound}
use Rattle.slicer.proofs.Numbers.{numbered}
use Rattle.slicer.proofs.Complete.{cells_own, lives_own, IsOwn, grown_looks}
use Rattle.slicer.proofs.Grows.{grows, marked_at, closing_round, is_closed, given_again}

-- ---- what is asked

location_own : (p : ProgramData) (l : Location) → IsLocationOf p l → IsOwn p (Needed l)
location_own p (location.Cells s) h = cells_own p s h
location_own p (location.Life s) h = lives_own p s h
location_own p _ h = omega arith

result_is : (l : Location) → is_result l ≡ true → l ≡ location.Result
result_is location.Result h = refl
result_is _ h = absurd (cc)

returns_mean : (p : ProgramData) (f : FuncId) (l : Location) → l ≡ location.Result → Means p f l nothing (Returns f)
returns_mean p f l e = λ k ret. slice.returns k e ret

pub asked_given : (p : ProgramData) (f : FuncId) (l : Location) (starts : List ℕ) (old mid new : List Bool) → AreLaidOut p starts → f.0 < length p.funcs → IsLocationOf p l
    → ((k : ℕ) → has old k ≡ true → ⊥) → length new ≡ size_of p starts → ((k : ℕ) → has mid k ≡ true → (has old k ≡ true) ⊎ (number p starts (Needed l) ≡ Some k))
    → ((k : ℕ) → number p starts (Needed l) ≡ Some k → has mid k ≡ true) → MarksIf p starts (is_result l) (Returns f) mid new → AreGiven p f l starts nothing new
asked_given p f l starts old mid new laid there own none size only marked' marks = record {
  size = size;
  sound = λ k h. ⊎_elim
      (λ before. ⊎_elim (λ h'. absurd (none k h')) (λ e. record { mark = Needed l; number_is = e; means = slice.asked }) (only k before))
      (λ now. record { mark = Returns f; number_is = now.1; means = returns_mean p f l (result_is l now.0) })
      (marks.only k h);
  all = λ i h. absurd (cc);
  asked =
      let e = numbered p starts (Needed l) (location_own p l own) in
      marked_at p starts new (Needed l) (number_at starts (spot_of p (Needed l))) e (marks.grows (number_at starts (spot_of p (Needed l))) (marked' (number_at starts (spot_of p (Needed l))) e));
  returns = λ is.
      let e = numbered p starts (Returns f) there in
      marked_at p starts new (Returns f) (number_at starts (spot_of p (Returns f))) e
      (marks.all (ap is_result is) (number_at starts (spot_of p (Returns f))) e);
  looks = λ g n h. absurd (cc);
}

-- ---- the rounds

pub on_the_way : (p : ProgramData) (f : FuncId) (l : Location) (starts : List ℕ) (set : List Bool) → AreGiven p f l starts nothing set → IsOnTheWay p f l starts set
on_the_way p f l starts set given = record { base = nothing; given = given; rounds = λ end h. h }

module _ (p : ProgramData) (whole : IsWhole p) (t : Tables) (f : FuncId) (l : Location) (starts : List ℕ) (laid : AreLaidOut p starts) (looked : List Bool) (arrows : List Arrow)
    (ready : IsReady p t f starts looked arrows) (set grown closed : List Bool) (way : IsOnTheWay p f l starts set) (reach : Exactly (Reached arrows (has set)) (has grown))
    (closes : ClosesOnce p starts looked grown closed) where
  it_grows : Grows p f l starts way.base set grown
  it_grows =
      grows p whole t ready.points f l starts laid looked ready.exactly way.base set grown way.given
      (subst (λ (xs : List Arrow). Exactly (Reached xs (has set)) (has grown)) ready.arrows_are reach)

  -- one round further
  pub further : length closed ≡ size_of p starts → IsOnTheWay p f l starts closed
  further size = record {
    base = items_of p starts closed;
    given = given_again p f starts laid looked ready.exactly grown closed closes l way.base set way.given it_grows size;
    rounds = λ end h. way.rounds end (round way.base (items_of p starts grown) (items_of p starts closed) end it_grows.grown_is
        (closing_round p f starts laid looked ready.exactly grown closed closes) h);
  }

  -- the last round
  pub found : length grown ≡ length closed → members closed ≡ members grown → IsFound p f l starts grown
  found size same =
      let is = is_closed p f starts laid looked ready.exactly grown closed closes size same in
      record {
        slice = way.rounds (items_of p starts grown) (ends way.base (items_of p starts grown) it_grows.grown_is is);
        closed = is;
        looks = λ g n h. grown_looks p f l way.base way.given.looks (Keep g n) ((it_grows.grown_is (Keep g n)).0 h);
      }
