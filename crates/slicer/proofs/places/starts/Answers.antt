use Rattle.std.specs.Prelude.{slice_get}
use Rattle.std.proofs.Common.{◌≡◌, ◌≤◌, get_or, ◌+◌, ◌++◌, ◌∙◌, ℕ, List, [], ◌∷◌, Some, Option, length, arith, subst, sym, ap}
use Rattle.std.proofs.lemmas.Option.{slice_get_read}
use Rattle.flat_ir.specs.declared.program.Func.{Func}
use Rattle.flat_ir.specs.Machine.{func_at, nodes_of, regs_of}
use Rattle.slices.specs.Slice.{end_of}
use Rattle.slicer.specs.Places.{AreRows, AreLaidOut, start}
use Rattle.slicer.proofs.Numbers.{no_rows, rows_more, laid_out, start_at_end}
use Rattle.slicer.proofs.Complete.{grown_looks}
use Rattle.slicer.proofs.places.starts.Goals as goal

pub each-preserved : goal.each-preserved
each-preserved c =
    let p = c.args.program.now in
    let xs : List ℕ = c.each.starts.items in
    let t : ℕ = c.in_ok-total.total in
    let there : slice_get p.funcs c.each.f ≡ Some c.index-funcs-f.result =
    slice_get_read p.funcs (length p.funcs) c.each.f c.index-funcs-f.result (omega arith) (omega (arith, ap length c.as_slice-funcs.ensures, c.each-test.true))
    (c.index-funcs-f.is ∙ ap (λ (fs : List Func). get_or fs c.each.f c.index-funcs-f.result) c.as_slice-funcs.ensures) in
    let nodes : end_of p (record { 0 = c.each.f }) ≡ length c.index-funcs-f.result.nodes = ap (λ (o : Option Func). length (nodes_of o)) there in
    let regs : length (regs_of (func_at p (record { 0 = c.each.f }))) ≡ length c.index-funcs-f.result.regs = ap (λ (o : Option Func). length (regs_of o)) there in
    let items : c.push-in-each.new.self.items ≡ xs ++ t ∷ [] = c.in_ok-push-2.ensures.items in
    record {
      rows = subst (λ (ys : List ℕ). AreRows p (c.each.f + 1) ys) (sym items)
          (rows_more p c.each.f xs t c.each.invariant.rows c.in_ok-total.ensures.small
          (omega (arith, nodes, c.each.invariant.last, c.in_ok-total.ensures.sum, c.width.ensures.nodes))
          (omega (arith, regs, c.each.invariant.last, c.in_ok-total.ensures.sum, c.width.ensures.registers)));
      last = subst (λ (ys : List ℕ). start ys (c.each.f + 1) ≡ t) (sym items) (start_at_end xs (c.each.f + 1) t c.each.invariant.rows.rows);
    }

pub returns : goal.returns
returns c =
    let p = c.args.program.now in
    let done : c.each.f ≡ length p.funcs = omega (arith, ap length c.as_slice-funcs.ensures) in
    let rows : AreRows p (length p.funcs) c.each.starts.items = subst (λ (k : ℕ). AreRows p k c.each.starts.items) done c.each.invariant.rows in
    let last : start c.each.starts.items (length p.funcs) ≡ c.each.total = subst (λ (k : ℕ). start c.each.starts.items k ≡ c.each.total) done c.each.invariant.last in
    subst (λ (xs : List ℕ). AreLaidOut p xs) (sym c.in_ok-push-3.ensures.items)
    (laid_out p c.each.starts.items c.in_ok-total-4.total rows c.in_ok-total-4.ensures.small
    (omega (arith, last, c.in_ok-total-2.ensures.sum, c.in_ok-total-3.ensures.sum, c.in_ok-total-4.ensures.sum, c.len.ensures, c.len-2.ensures)))
