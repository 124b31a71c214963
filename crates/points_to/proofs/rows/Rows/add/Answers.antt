use Rattle.std.proofs.Common.{arith, ap, length, [], Bool}
use Rattle.std.proofs.lemmas.Result.{IfOk-weaker}
use Rattle.std.specs.List.{Contains}
use Rattle.points_to.specs.Rows.{AnyPlace, IsRow, AddsToRow, most}
use Rattle.points_to.proofs.Growing.{nowhere, fine_at, lifted_at}
use Rattle.points_to.proofs.rows.Rows.add.Goals as goal

pub add-requires-clause-row : goal.add-requires-clause-row
add-requires-clause-row c =
    fine_at IsRow [] c.self.inside.rows.items c.args.self.now c.args.at c.index_mut.result.now c.self.view_is (omega (arith, c.if-at-len.true, c.len.ensures)) c.index_mut.ensures.value c.requires.rows

pub returns-then-at-len : goal.returns-then-at-len
returns-then-at-len c =
    let items = c.self.inside.rows.items in
    let old = c.index_mut.result.now in
    let new = c.add.new.self in
    IfOk-weaker c.add.result (λ (added : Bool). AddsToRow old c.args.site added new) _
    (λ added a. lifted_at Contains AnyPlace IsRow length most [] items c.args.self.now c.args.at c.args.site added old new c.self.view_is (omega (arith, c.if-at-len.true, c.len.ensures)) c.index_mut.ensures.value c.requires.rows a)
    c.add.ensures

pub returns : goal.returns
returns c = nowhere Contains AnyPlace IsRow length most [] c.args.self.now c.args.at c.args.site (omega (arith, c.if-at-len.false, c.len.ensures, ap length c.self.view_is)) c.requires.rows
