use Rattle.std.proofs.Common.{◌≡◌, ◌∙◌, List, Bor, map, sym, ap, subst}
use Rattle.std.specs.List.{flat_map}
use Rattle.std.specs.Prelude.{IfOk}
use Rattle.ir_programs.specs.declared.refusals.Cause.TheVariants.{UnknownName, DuplicateName, ObjectTooLarge, RecursiveType}
use Rattle.ir_tree.specs.declared.types.IrType.{IrType}
use Rattle.ir_tree.specs.declared.module.TypeDefinition.{TypeDefinition}
use Rattle.tree_types.specs.Asked.{told_with, unknown_at, large_at, twice_at, recursive_at}
use Rattle.tree_types.proofs.Telling.{whole_told}
use Rattle.tree_types.proofs.told.types_told.Goals as goal

pub returns : goal.returns
returns c =
    let is = c.as_slice-definitions.ensures in
    let rs = c.as_slice.result.now in
    let more = c.as_slice-2.result.now in
    let u = c.unknowns_told-unknowns.result in
    let d = c.duplicates_told-duplicates.result in
    let l = c.larges_told-larges.result in
    whole_told c.args.tree.now rs more c.args.told u d l c.recursions_told.result
    (ap (λ (xs : List (Bor IrType)). map (λ (x : Bor IrType). x.now) xs) c.as_slice.ensures.value ∙ c.in_ok-types.ensures)
    (c.as_slice-2.ensures.value ∙ sym c.as_slice.ensures.value)
    (c.unknowns_told-unknowns.ensures ∙ ap (λ (ds : List TypeDefinition). told_with c.args.told UnknownName (flat_map (λ (x : Bor IrType). unknown_at ds x.now) rs)) is)
    (c.duplicates_told-duplicates.ensures ∙ ap (λ (ds : List TypeDefinition). told_with u DuplicateName (flat_map (λ (x : TypeDefinition). twice_at ds x.name) ds)) is)
    (c.larges_told-larges.ensures ∙ ap (λ (ds : List TypeDefinition). told_with d ObjectTooLarge (flat_map (λ (x : Bor IrType). large_at ds x.now) more)) is)
    (subst (λ (ds : List TypeDefinition). IfOk c.recursions_told.result (λ now. now ≡ told_with l RecursiveType (flat_map (recursive_at ds) ds))) is c.recursions_told.ensures)
