use Rattle.std.proofs.Common.{◌+◌, ◌-◌, ◌*◌, ap, ◌∙◌}
use Rattle.gates.specs.Bits as bit
use Rattle.nodes.proofs.GrowthLemmas.{grows_none, builds_first, builds_more, builds_last}
use Rattle.bit_gates.proofs.TermRows.{byte_more, byte_past, byte_whole}
use Rattle.bit_gates.proofs.inputs.input.Goals as goal

pub loop-i-init : goal.loop-i-init
loop-i-init c =
    builds_first c.args.table.now c.args.table.now c.new-row.result.items _ (grows_none c.args.table.now) c.new-row.ensures.items

pub loop-i-preserved : goal.loop-i-preserved
loop-i-preserved c =
    builds_more c.args.table.now c.loop-i.table c.input.new.self c.loop-i.row.items c.push.new.self.items c.in_ok-input.field-0 _ _ _ _ c.loop-i.invariant (byte_more c.args.byte c.loop-i.i c.loop-i-test.true) c.input.ensures.grows c.in_ok-input.ensures.within (c.in_ok-input.ensures.bit ∙ ap (λ n. bit.input (8 * n + 7 - c.loop-i.i)) c.from.ensures) c.in_ok-push.ensures.items

pub returns-clause-bits : goal.returns-clause-bits
returns-clause-bits c =
    builds_last c.args.table.now c.loop-i.table c.loop-i.row.items _ _ c.loop-i.invariant (byte_past c.args.byte c.loop-i.i c.loop-i-test.false) ∙ byte_whole c.args.byte
