use Rattle.std.proofs.Common.{◌<◌, ◌≤◌, ◌-◌, ℕ, length}
use Rattle.points_to.specs.Points.{rank, site_at}
use Rattle.points_to.proofs.rows.place_of.Given as goal

abbrev pub invariant-halves : goal.invariant-halves
invariant-halves l = record {
  order : l.low ≤ l.high;
  within : l.high ≤ length l.row;
  below : (k : ℕ) → k < l.low → rank (site_at l.row k) < l.wanted;
  above : (k : ℕ) → l.high ≤ k → k < length l.row → l.wanted ≤ rank (site_at l.row k);
}

abbrev pub decreases-halves : goal.decreases-halves
decreases-halves l = l.high - l.low
