use Rattle.std.proofs.Common.{arith}
use Rattle.std.proofs.lemmas.Grind.{common_steps}
use Rattle.chop_outside.proofs.Streams.{appends-more}
use Rattle.chop_outside.proofs.whole.write_whole.Goals as goal

pub loop-at-preserved : goal.loop-at-preserved
loop-at-preserved g c =
    let state = g.S.Sink.state in
    let bytes = c.args.bytes.now in
    let at = c.loop-at.at in
    let gave = c.in_ok-at.ensures.ok in
    record {
      within = grind (arith, common_steps, gave.within);
      written = appends-more bytes at c.in_ok-at.field-0 (state c.args.sink.now) (state c.loop-at.sink) (state c.write.new.self) c.loop-at.invariant.written gave.written;
      faults = cc (gave.faults, c.loop-at.invariant.faults);
    }
