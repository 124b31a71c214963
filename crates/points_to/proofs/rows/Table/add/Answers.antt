use Rattle.std.proofs.Common.{arith, ap, length, [], Bool}
use Rattle.std.proofs.lemmas.Result.{IfOk-weaker}
use Rattle.std.specs.List.{Contains, sum_by}
use Rattle.points_to.specs.Rows.{InList, PlaceList, EachOk, AnyPlace, IsRow, AreRows, AddsToRows, most}
use Rattle.points_to.proofs.Growing.{nowhere, fine_at, lifted_at}
use Rattle.points_to.proofs.rows.Table.add.Goals as goal

pub add-requires-clause-rows : goal.add-requires-clause-rows
add-requires-clause-rows c =
    fine_at AreRows [] c.self.inside.parts.items c.args.self.now c.args.part c.index_mut.result.now c.self.view_is (omega (arith, c.if-part-len.true, c.len.ensures)) c.index_mut.ensures.value c.requires.table

pub returns-then-part-len : goal.returns-then-part-len
returns-then-part-len c =
    let items = c.self.inside.parts.items in
    let old = c.index_mut.result.now in
    let new = c.add.new.self in
    IfOk-weaker c.add.result (λ (added : Bool). AddsToRows old (c.args.at, c.args.site) added new) _
    (λ added a. lifted_at (InList [] Contains) (PlaceList [] AnyPlace) AreRows (sum_by length) (sum_by most) [] items c.args.self.now c.args.part (c.args.at, c.args.site) added old new
    c.self.view_is (omega (arith, c.if-part-len.true, c.len.ensures)) c.index_mut.ensures.value c.requires.table a)
    c.add.ensures

pub returns : goal.returns
returns c =
    nowhere (InList [] Contains) (PlaceList [] AnyPlace) (EachOk [] IsRow) (sum_by length) (sum_by most) [] c.args.self.now c.args.part (c.args.at, c.args.site)
    (omega (arith, c.if-part-len.false, c.len.ensures, ap length c.self.view_is)) c.requires.table
