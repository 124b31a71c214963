use Rattle.std.proofs.Common.{◌∷◌, ◌++◌, [], ◌∙◌, ap, List}
use Rattle.std.specs.Prelude.{map}
use Rattle.flat_ir.specs.declared.names.CallStep.{CallStep}
use Rattle.flat_ir.specs.declared.values.ConcreteValue.{ConcreteValue}
use Rattle.flat_ir.specs.Machine.{value_in, entered}
use Rattle.concrete_machine.specs.declared.machine.Frame.{Frame}
use Rattle.concrete_machine.specs.Frames.{frame_of}
use Rattle.concrete_machine.proofs.Ended.{callers_with}
use Rattle.concrete_machine.proofs.machine.Machine.call.Goals as goal

pub returns : goal.returns
returns c register next input h events remembers =
    let m = c.args.self.now in
    let p = c.args.program.now in
    let f = frame_of m.frame in
    let name = c.in_ok-name.ensures ∙ ap (λ (s : CallStep). s ∷ m.frame.name) c.step_here-step.ensures in
    record {
      frame = ap frame_of c.replace-caller.ensures.after ∙ (c.in_ok-frame.ensures
          ∙ (ap (λ (vs : List ConcreteValue). entered p c.args.callee vs c.in_ok-name.name) c.in_ok-values.ensures
          ∙ ap (λ (n : List CallStep). entered p c.args.callee (map (value_in f) c.args.args.now) n) name));
      callers = callers_with c.push.new.self.items m.callers.items m.frame
          (c.in_ok-push.ensures.items ∙ ap (λ (g : Frame). m.callers.items ++ g ∷ []) c.replace-caller.ensures.value);
      remembers = record { memory = remembers.memory; position = remembers.position; output = remembers.output };
    }
