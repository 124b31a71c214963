use Rattle.std.proofs.Common.{arith, length, [], Bool, refl}
use Rattle.std.proofs.lemmas.Result.{IfOk-weaker}
use Rattle.std.specs.List.{Contains, sum_by}
use Rattle.points_to.specs.Rows.{InList, PlaceList, EachOk, AnyPlace, AreRows, IsTable, AddsToTable, most}
use Rattle.points_to.proofs.Growing.{nowhere, fine_at, lifted_at}
use Rattle.points_to.proofs.tables.Tables.add_at.Goals as goal

pub add-requires-clause-table : goal.add-requires-clause-table
add-requires-clause-table c =
    let kinds = c.args.self.now.kinds.items in
    fine_at IsTable [] kinds kinds c.args.place.kind c.index_mut.result.now refl (omega (arith, c.if-place-len.true, c.len.ensures)) c.index_mut.ensures.value c.requires.tables

pub returns-then-place-len-clause-added : goal.returns-then-place-len-clause-added
returns-then-place-len-clause-added c =
    let kinds = c.args.self.now.kinds.items in
    let old = c.index_mut.result.now in
    let new = c.add.new.self in
    IfOk-weaker c.add.result (λ (added : Bool). AddsToTable old (c.args.place.part, (c.args.place.at, c.args.site)) added new) _
    (λ added a. lifted_at (InList [] (InList [] Contains)) (PlaceList [] (PlaceList [] AnyPlace)) IsTable (sum_by (sum_by length)) (sum_by (sum_by most)) [] kinds kinds
    c.args.place.kind (c.args.place.part, (c.args.place.at, c.args.site)) added old new refl (omega (arith, c.if-place-len.true, c.len.ensures)) c.index_mut.ensures.value c.requires.tables a)
    c.add.ensures

pub returns-clause-added : goal.returns-clause-added
returns-clause-added c =
    nowhere (InList [] (InList [] Contains)) (PlaceList [] (PlaceList [] AnyPlace)) (EachOk [] AreRows) (sum_by (sum_by length)) (sum_by (sum_by most)) [] c.args.self.now.kinds.items
    c.args.place.kind (c.args.place.part, (c.args.place.at, c.args.site)) (omega (arith, c.if-place-len.false, c.len.ensures)) c.requires.tables
