use Rattle.std.proofs.Common.{◌≡◌, ◌<◌, ◌≤◌, ℕ, true, List, length, sym, subst}
use Rattle.std.proofs.lemmas.Bool.{both_ways}
use Rattle.flat_ir.specs.declared.names.Site.{Site}
use Rattle.points_to.specs.Points.{rank, site_at}
use Rattle.points_to.specs.Rows.{IsRow, AddsToRow}
use Rattle.points_to.proofs.Inserting.{put_in}
use Rattle.points_to.proofs.rows.Row.add.Goals as goal

pub returns : goal.returns
returns c =
    let items : List Site = c.self.inside.sites.items in
    let at = c.place_of-at.result in
    let s = c.args.site in
    let within = subst (λ (xs : List Site). at ≤ length xs) c.as_slice.ensures.value c.place_of-at.ensures.within in
    let below = subst (λ (xs : List Site). (k : ℕ) → k < at → rank (site_at xs k) < rank s) c.as_slice.ensures.value c.place_of-at.ensures.below in
    let above = subst (λ (xs : List Site). (k : ℕ) → at ≤ k → k < length xs → rank s ≤ rank (site_at xs k)) c.as_slice.ensures.value c.place_of-at.ensures.above in
    let tells = subst (λ (xs : List Site). (at < length xs) × (site_at xs at ≡ s) → c.stands_at.result ≡ true) c.as_slice-2.ensures.value c.stands_at.ensures.1 in
    subst (λ (old : List Site). AddsToRow old s true c.insert.new.self.items) c.self.view_is
    (subst (λ (new : List Site). AddsToRow items s true new) (sym c.in_ok-insert.ensures.items)
    (put_in items at s (subst (λ (xs : List Site). IsRow xs) (sym c.self.view_is) c.requires.row) c.requires.small within below above
    (λ w. both_ways c.stands_at.result c.if-stands_at.false (tells w))))
