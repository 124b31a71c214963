-- Results of calls, the newest last.
use Rattle.std.proofs.Common.{◌≡◌, List, [], ◌∷◌, ◌++◌, refl, ap}
use Rattle.sym_bytes.specs.Value.{SymValue}
use Rattle.skip_records.specs.Snapshots.{Snapshot}
use Rattle.sym_states.specs.Terms.{with_result, resolved}

-- the newest result is put first
pub resolved_last : (older : List Snapshot) (s : Snapshot) (v : SymValue) → resolved (older ++ s ∷ []) v ≡ resolved older (with_result s v)
resolved_last [] s v = refl
resolved_last (t ∷ older) s v = ap (with_result t) (resolved_last older s v)
