use Rattle.std.specs.Prelude.{slice_get}
use Rattle.std.proofs.Common.{◌≡◌, ℕ, List, Bool, Some, [], ◌∷◌, length, arith, ap, sym, subst, length-append}
use Rattle.flat_ir.specs.declared.residual.Kept.{Kept}
use Rattle.slicer.specs.Facts.{func}
use Rattle.slicer.specs.Keeping.{IsKeptBy}
use Rattle.slicer.proofs.ClosesThem.{pushed_each}
use Rattle.slicer.proofs.Residuals.{is_residual}
use Rattle.slicer.proofs.keeping.kept.Goals as goal

pub each-preserved : goal.each-preserved
each-preserved c =
    let p = c.args.places.now.program.now in
    let starts : List ℕ = c.args.places.now.starts.items in
    let set : List Bool = c.args.set.now in
    let items = c.in_ok-push.ensures.ok in
    record {
      count_is = omega (arith, ap length items, length-append c.each.kept (c.in_ok-kept_of.field-0 ∷ []), c.each.invariant.count_is);
      each = subst (λ (xs : List Kept). (k : ℕ) (x : Kept) → slice_get xs k ≡ Some x → IsKeptBy p starts set (func k) x) (sym items)
          (pushed_each (λ k x. IsKeptBy p starts set (func k) x) c.each.kept c.each.f c.in_ok-kept_of.field-0 c.each.invariant.count_is c.each.invariant.each c.in_ok-kept_of.ensures);
    }
