use Rattle.std.proofs.Common.{◌≡◌, true, List, [], ◌∷◌, Option, refl, sym, ◌∙◌, ap, subst, arith}
use Rattle.std.specs.Prelude.{slice_get, unwrap_or}
use Rattle.flat_ir.specs.declared.nodes.Node.{Node}
use Rattle.flat_ir.specs.declared.nodes.Node.TheVariants as node
use Rattle.flat_ir.specs.Machine as run
use Rattle.std.specs.Option.{option_map}
use Rattle.flat_ir.specs.declared.values.ConcreteValue.{ConcreteValue}
use Rattle.flat_ir.specs.Machine.{node_at, value_in}
use Rattle.flat_ir.specs.MadeNames.{is_alloca}
use Rattle.flat_ir.specs.Steps.{returns as spec_returns, ended, low_byte, resumed}
use Rattle.concrete_machine.specs.declared.machine.Led.TheVariants.{On, Exited}
use Rattle.concrete_machine.specs.Frames.{frame_of, callers_of, state_at}
use Rattle.concrete_machine.specs.Standing.{Leads}
use Rattle.concrete_machine.proofs.Ended.{callers_with, no_callers, remembers_ended}
use Rattle.concrete_machine.proofs.machine.Machine.ret.Goals as goal

pub end_objects-requires-clause-keeps : goal.end_objects-requires-clause-keeps
end_objects-requires-clause-keeps c =
    let keeps = c.requires.keeps in
    record {
      program = c.args.program.now;
      history = keeps.history;
      stands = keeps.stands;
      made = λ n k alloca least most.
          keeps.made n k (subst (λ (ns : List Node). is_alloca (unwrap_or (slice_get ns n.0) node.Unreachable) ≡ true) c.nodes_of-nodes.ensures alloca) least most;
    }

pub returns-in-None : goal.returns-in-None
returns-in-None c input h events remembers =
    let m = c.args.self.now in
    let new = record m { callers = c.pop.new.self; store = c.end_objects.new.store } in
    let f = frame_of m.frame in
    let remembers' = remembers_ended c.args.program.now input m new f _ _ h remembers (c.in_ok-end_objects.ensures c.args.program.now h remembers.memory) c.nodes_of-nodes.ensures refl refl in
    let none : callers_of m ≡ [] = no_callers m.callers.items (omega (arith, c.in-None.ensures.cases.0, m.callers.ok)) in
    subst (λ (cs : List run.Frame). Leads c.args.program.now input new (Exited c.low_byte.result) (spec_returns c.args.program.now (option_map (value_in f) c.args.value.now) cs (ended c.args.program.now (state_at m h events)))) (sym none)
    (ap run.Exited (c.low_byte.ensures ∙ ap low_byte c.in_ok-value.ensures), remembers'.output)

pub returns-in-Some : goal.returns-in-Some
returns-in-Some c input h events remembers =
    let p = c.args.program.now in
    let m = c.args.self.now in
    let caller = c.in-Some.caller in
    let new = record m { frame = c.resumed.result; callers = c.pop.new.self; store = c.end_objects.new.store } in
    let f = frame_of m.frame in
    let v = option_map (value_in f) c.args.value.now in
    let remembers' = remembers_ended p input m new f _ _ h remembers (c.in_ok-end_objects.ensures p h remembers.memory) c.nodes_of-nodes.ensures refl refl in
    let called : callers_of m ≡ frame_of caller ∷ callers_of new = callers_with m.callers.items c.pop.new.self.items caller c.in-Some.ensures.items in
    subst (λ (cs : List run.Frame). Leads p input new On (spec_returns p v cs (ended p (state_at m h events)))) (sym called)
    (record {
      frame = c.resumed.ensures ∙ ap (λ (w : Option ConcreteValue). resumed (node_at p caller.func caller.node) w (frame_of caller)) c.in_ok-value.ensures;
      callers = refl;
      remembers = remembers';
    })
