use Rattle.std.proofs.Common.{◌≡◌, ◌∙◌, rules, ap, arith, length}
use Rattle.flat_ir.specs.declared.program.ProgramData.{ProgramData}
use Rattle.mod_ref.proofs.Choosing.{here_changes, one_longer, one_list_more}
use Rattle.mod_ref.proofs.changes.mods.Goals as goal

pub each-preserved : goal.each-preserved
each-preserved c =
    let p = c.args.program.now in
    let k = c.each.f in
    let last =
    here_changes p c.parts-parts.result.now k c.in_ok-locations.locations.items c.as_slice.result.now c.as_slice-in-each.result.now c.in_ok-columns.columns.items
    c.as_slice-in-each-2.result.now c.in_ok-chosen.field-0 c.parts-parts.ensures.whole c.parts-parts.ensures.value c.in_ok-locations.ensures c.as_slice.ensures.value
    c.as_slice-in-each.ensures.value c.in_ok-columns.ensures.columns c.in_ok-columns.ensures.count c.as_slice-in-each-2.ensures.value c.in_ok-chosen.ensures in (
      one_longer c.push.new.self.items c.each.lists.items c.in_ok-chosen.field-0 k c.in_ok-push.ensures.items c.each.invariant.0,
      one_list_more p c.push.new.self.items c.each.lists.items c.in_ok-chosen.field-0 k c.in_ok-push.ensures.items c.each.invariant.0 c.each.invariant.1 last,
    )

pub returns : goal.returns
returns c =
    let size : c.each.f ≡ length c.parts-parts.result.now.funcs = search rules in
    let count : length c.each.lists.items ≡ length c.args.program.now.funcs = c.each.invariant.0 ∙ (size ∙ ap (λ (p : ProgramData). length p.funcs) c.parts-parts.ensures.value) in
    record { count = count; each = λ f lt. c.each.invariant.1 f.0 (omega (arith, lt, count, c.each.invariant.0)) }
