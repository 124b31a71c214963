use Rattle.std.proofs.Common.{◌≡◌, ◌∙◌, ℕ, List, Bool, length, sym, subst, ap}
use Rattle.std.specs.List.{flat_map}
use Rattle.least.specs.Sets.{has, Exactly}
use Rattle.flat_ir.specs.declared.program.ProgramData.{ProgramData}
use Rattle.points_to.specs.Sets.{ArePointsTo}
use Rattle.slices.specs.Nexts.{IsResidual}
use Rattle.slices.specs.Slice.{Looks}
use Rattle.slicer.specs.declared.marks.Link.{Link}
use Rattle.slicer.specs.declared.reaching.Arrow.{Arrow}
use Rattle.slicer.specs.Facts.{func, AreGiven}
use Rattle.slicer.specs.Keeping.{AreKept}
use Rattle.slicer.specs.Links.{links}
use Rattle.slicer.specs.Places.{arrow_of, size_of}
use Rattle.slicer.specs.Reached.{AreWithin}
use Rattle.slicer.specs.Settling.{nothing, IsReady, IsFound}
use Rattle.slicer.proofs.Grows.{arrows_within}
use Rattle.slicer.proofs.Residuals.{is_residual}
use Rattle.slicer.proofs.slicing.sliced.Goals as goal

pub settled-requires-clause-within : goal.settled-requires-clause-within
settled-requires-clause-within c =
    let p = c.in_ok-places.places.program.now in
    let starts : List ℕ = c.in_ok-places.places.starts.items in
    subst (λ (xs : List Arrow). AreWithin (size_of p starts) xs) (sym (c.as_slice-5.ensures ∙ c.in_ok-arrows.ensures))
    (arrows_within p starts c.in_ok-places.places.laid_out c.as_slice-2.result.now)

pub returns : goal.returns
returns c =
    let p : ProgramData = c.in_ok-places.places.program.now in
    let q : ProgramData = c.args.parts.now in
    let starts : List ℕ = c.in_ok-places.places.starts.items in
    let t = c.args.sets.now in
    let looked : List Bool = c.as_slice-4.result.now in
    let arrows : List Arrow = c.as_slice-5.result.now in
    let set : List Bool = c.as_slice-8.result.now in
    let one : p ≡ q = c.in_ok-places.ensures in
    let points : ArePointsTo p t = subst (λ (x : ProgramData). ArePointsTo x t) (sym one) c.requires.sets in
    let exactly : Exactly (λ k. Looks p c.args.f (func k)) (has looked) =
    subst (λ (x : ProgramData). Exactly (λ k. Looks x c.args.f (func k)) (has looked)) (sym one)
    (subst (λ (xs : List Bool). Exactly (λ k. Looks q c.args.f (func k)) (has xs)) (sym c.as_slice-4.ensures.value) c.in_ok-looked.ensures.exact) in
    let first : c.as_slice.result.now ≡ looked = c.as_slice.ensures.value ∙ sym c.as_slice-4.ensures.value in
    let all : c.as_slice-2.result.now ≡ links p t looked =
    c.as_slice-2.ensures ∙ c.in_ok-links.ensures ∙ ap (λ (xs : List Bool). links q t xs) first ∙ ap (λ (x : ProgramData). links x t looked) (sym one) in
    let arrows_are : arrows ≡ flat_map (arrow_of p starts) (links p t looked) =
    c.as_slice-5.ensures ∙ c.in_ok-arrows.ensures ∙ ap (λ (xs : List Link). flat_map (arrow_of p starts) xs) all in
    let ready : IsReady p t c.args.f starts looked arrows = record { points = points; exactly = exactly; arrows_are = arrows_are } in
    let given : AreGiven p c.args.f c.args.at starts nothing c.as_slice-6.result.now =
    subst (λ (xs : List Bool). AreGiven p c.args.f c.args.at starts nothing xs) (sym c.as_slice-6.ensures.value) c.in_ok-asked.ensures in
    let found : IsFound p c.args.f c.args.at starts set =
    subst (λ (xs : List Bool). IsFound p c.args.f c.args.at starts xs) (sym c.as_slice-8.ensures.value) (c.in_ok-set.ensures t c.args.f c.args.at ready given) in
    subst (λ (x : ProgramData). IsResidual x c.args.f c.args.at (record { funcs = c.in_ok-funcs.funcs })) one
    (is_residual p c.args.f c.args.at starts set c.in_ok-funcs.funcs found c.in_ok-funcs.ensures)
