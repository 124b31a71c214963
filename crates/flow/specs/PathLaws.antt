-- Laws of walks.
use Rattle.std.proofs.Common.{◌≡◌, ◌<◌, ℕ, Bool, true, List, length, refl, [], ⊎_elim, subst, arith}
use Rattle.std.specs.Prelude.{slice_index_or}
use Rattle.std.specs.List.{Contains}
use Rattle.std.proofs.lemmas.List.{get_or_past}
use Rattle.std.proofs.lemmas.Bool.{cases_lt}
use Rattle.flat_ir.specs.declared.names.RegId.{RegId}
use Rattle.least.specs.Sets.{Within}
use Rattle.flow.specs.Paths.{HasEdge, Comes, starts, goes_on, FiresAt}

pub Fires-more : (rows : List (List ℕ)) (results : List (List RegId)) (r : RegId) (n : ℕ) (S T U V : ℕ → Bool) →
    FiresAt rows results r n T U → Within S T → Within U V → FiresAt rows results r n S V
Fires-more rows results r n S T U V f s u = record {
  starts = λ e. u n (f.starts e);
  goes_on = λ h unset m edge. u m (f.goes_on (s n h) unset m edge);
}

none_there : (m : ℕ) → Contains [] m → ⊥
none_there m h = omega (arith, h.1)

-- an edge leads from a node
pub from_node : (rows : List (List ℕ)) (n m : ℕ) → HasEdge rows n m → n < length rows
from_node rows n m edge =
    ⊎_elim (λ h. h) (λ past. let e : slice_index_or rows n [] ≡ [] = get_or_past rows n [] past in
    let P : List ℕ → Type 0 = λ row. Contains row m in absurd (none_there m (subst P e edge))) (cases_lt n (length rows))

pub Comes-least : (rows : List (List ℕ)) (results : List (List RegId)) (r : RegId) (S : ℕ → Bool) →
    ((n : ℕ) → n < length rows → FiresAt rows results r n S S) → 0 < length rows → (n : ℕ) → Comes rows results r n → S n ≡ true
Comes-least rows results r S fires within n starts = (fires 0 within).starts refl
Comes-least rows results r S fires within m (goes_on n p unset edge) =
    (fires n (from_node rows n m edge)).goes_on (Comes-least rows results r S fires within n p) unset m edge
