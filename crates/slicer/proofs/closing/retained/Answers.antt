use Rattle.std.proofs.Common.{◌≡◌, ◌<◌, ◌+◌, ◌++◌, ◌∙◌, ℕ, Bool, true, List, [], ◌∷◌, length, arith, ap, sym, subst, length-append}
use Rattle.least.specs.Sets.{has}
use Rattle.slices.specs.Slice.{end_of, retained}
use Rattle.slicer.specs.declared.marks.Mark.TheVariants.{Kept}
use Rattle.slicer.specs.Closing.{node}
use Rattle.slicer.specs.Places.{marked, items_of}
use Rattle.slicer.proofs.ClosesThem.{bits_more, bits_retained, graph_size}
use Rattle.slicer.proofs.closing.retained.Goals as goal

pub each-preserved : goal.each-preserved
each-preserved c =
    let M : ℕ → Bool = λ k. marked c.args.places.now.program.now c.args.places.now.starts.items c.args.set.now (Kept c.args.func (node k)) in
    let items = c.in_ok-push.ensures.items in
    record {
      size = omega (arith, ap length items, length-append c.each.bits.items (c.is_marked.result ∷ []), c.each.invariant.size);
      bits = subst (λ (xs : List Bool). (k : ℕ) → k < c.each.n + 1 → has xs k ≡ M k) (sym items)
          (bits_more M c.each.bits.items c.each.n c.is_marked.result c.each.invariant.size c.each.invariant.bits c.is_marked.ensures);
    }

pub returns : goal.returns
returns c =
    let p = c.args.places.now.program.now in
    let starts : List ℕ = c.args.places.now.starts.items in
    let items = c.in_ok-push-2.ensures.items in
    let done : c.each.n ≡ end_of p c.args.func = omega (arith, ap length c.nodes_of-n-end.ensures) in
    let size : length c.each.bits.items ≡ end_of p c.args.func = c.each.invariant.size ∙ done in
    let M : ℕ → Bool = λ k. marked p starts c.args.set.now (Kept c.args.func (node k)) in
    let all : (k : ℕ) → k < end_of p c.args.func → has c.each.bits.items k ≡ M k =
    subst (λ (n : ℕ). (k : ℕ) → k < n → has c.each.bits.items k ≡ M k) done c.each.invariant.bits in
    record {
      len = omega (arith, ap length items, length-append c.each.bits.items (true ∷ []), size, graph_size p c.args.func);
      bits = subst (λ (xs : List Bool). (n : ℕ) → has xs n ≡ retained p c.args.func (items_of p starts c.args.set.now) n) (sym items)
          (bits_retained p starts c.args.set.now c.args.func c.each.bits.items size all);
    }
