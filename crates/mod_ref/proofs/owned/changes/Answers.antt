use Rattle.std.proofs.Common.{◌≡◌, ◌∙◌, Some, sym}
use Rattle.mod_ref.specs.Callers.{Writes}
use Rattle.mod_ref.proofs.OwnChanges.{from_change, from_write, reads_here, tells_of, tells_not, told_at_last}
use Rattle.mod_ref.proofs.owned.changes.Goals as goal

pub returns-then-is_there : goal.returns-then-is_there
returns-then-is_there c =
    from_change c.args.program.now c.args.from c.args.at c.args.node.now c.args.location c.requires.here
    (sym c.changed_by.ensures ∙ tells_of (c.changed_by.result ≡ Some c.args.location) c.is_there.result c.is_there.ensures c.if-is_there.true)

pub writes-requires-clause-operands : goal.writes-requires-clause-operands
writes-requires-clause-operands c = reads_here c.args.program.now c.requires.whole c.args.from c.args.at c.args.node.now c.requires.here

pub returns-then-writes : goal.returns-then-writes
returns-then-writes c =
    from_write c.args.program.now c.args.from c.args.at c.args.node.now c.args.location c.requires.here
    (tells_of (Writes c.args.program.now c.args.from c.args.node.now c.args.location) c.writes.result c.writes.ensures c.if-writes.true)

pub frees-requires-clause-operands : goal.frees-requires-clause-operands
frees-requires-clause-operands c = reads_here c.args.program.now c.requires.whole c.args.from c.args.at c.args.node.now c.requires.here

pub returns : goal.returns
returns c =
    told_at_last c.args.program.now c.args.from c.args.at c.args.node.now c.args.location c.frees.result c.requires.here
    (λ e. tells_not (c.changed_by.result ≡ Some c.args.location) c.is_there.result c.is_there.ensures c.if-is_there.false (c.changed_by.ensures ∙ e))
    (tells_not (Writes c.args.program.now c.args.from c.args.node.now c.args.location) c.writes.result c.writes.ensures c.if-writes.false) c.frees.ensures
