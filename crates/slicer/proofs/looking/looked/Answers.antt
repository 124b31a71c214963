use Rattle.std.specs.Prelude.{slice_set}
use Rattle.std.proofs.Common.{◌≡◌, ◌∙◌, List, Bool, true, false, length, replicate, arith, ap, sym, subst}
use Rattle.std.proofs.lemmas.Result.{IfOk-weaker}
use Rattle.std.proofs.lemmas.List.{length-replicate, length-set}
use Rattle.least.specs.Sets.{has, Exactly}
use Rattle.slices.specs.Slice.{Looks}
use Rattle.slicer.specs.declared.reaching.Arrow.{Arrow}
use Rattle.slicer.specs.Calls.{calls_by_funcs}
use Rattle.slicer.specs.Facts.{func}
use Rattle.slicer.specs.Reached.{Reached, AreWithin}
use Rattle.slicer.proofs.CalledFuncs.{looked_exactly, calls_within}
use Rattle.slicer.proofs.looking.looked.Goals as goal

pub reached-requires : goal.reached-requires
reached-requires c =
    let p = c.args.program.now in
    let calls : c.as_slice-2.result.now ≡ calls_by_funcs 0 p.funcs = c.as_slice-2.ensures ∙ c.in_ok-calls.ensures in
    let size : length c.as_slice.result.now ≡ length p.funcs =
    omega (arith, ap length c.as_slice.ensures.value, length-set c.in_ok-first.first.items c.args.f.0 true, ap length c.in_ok-first.ensures, length-replicate c.len.result false, c.len.ensures) in
    subst (λ (xs : List Arrow). AreWithin (length c.as_slice.result.now) xs) (sym calls)
    (subst (λ n. AreWithin n (calls_by_funcs 0 p.funcs)) (sym size) (calls_within p c.requires.whole))

pub returns-clause-exact : goal.returns-clause-exact
returns-clause-exact c =
    let p = c.args.program.now in
    let given : List Bool = c.as_slice.result.now in
    let calls : c.as_slice-2.result.now ≡ calls_by_funcs 0 p.funcs = c.as_slice-2.ensures ∙ c.in_ok-calls.ensures in
    let first : given ≡ slice_set (replicate (length p.funcs) false) c.args.f.0 true =
    c.as_slice.ensures.value ∙ ap (λ (xs : List Bool). slice_set xs c.args.f.0 true) (c.in_ok-first.ensures ∙ ap (λ n. replicate n false) c.len.ensures) in
    IfOk-weaker c.reached.result (λ set. Exactly (Reached c.as_slice-2.result.now (has given)) (has set.items)) (λ set. Exactly (λ k. Looks p c.args.f (func k)) (has set.items))
    (λ set h. looked_exactly p c.args.f given set.items c.requires.func first (subst (λ (xs : List Arrow). Exactly (Reached xs (has given)) (has set.items)) calls h))
    c.reached.ensures.exact
