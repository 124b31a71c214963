use Rattle.std.specs.Prelude.{slice_index, unwrap_or}
use Rattle.std.proofs.Common.{◌≤◌, Option, ◌∙◌, ap, arith}
use Rattle.flat_ir.specs.declared.nodes.Node.{Node}
use Rattle.flat_ir.specs.declared.nodes.Node.TheVariants as node
use Rattle.flat_ir.specs.declared.program.ProgramData.{ProgramData}
use Rattle.flat_ir.specs.Machine as run
use Rattle.flat_ir.specs.Machine.{func_at, nodes_of, node_at}
use Rattle.concrete_machine.proofs.Stepped.{if_ok_on, step_leads, missing_leads}
use Rattle.concrete_machine.proofs.Suited.{running_suits, running_counts}
use Rattle.concrete_machine.proofs.machine.Machine.step.Goals as goal

pub count-requires : goal.count-requires
count-requires c =
    let few : slice_index c.args.self.now.frame.counts.items c.args.self.now.frame.node.0 ≤ c.requires.done = running_counts c.args.program.now c.args.input.now c.args.self.now c.requires in
    omega (arith, few, c.requires.few)

pub attempt-requires : goal.attempt-requires
attempt-requires c =
    let found = ap (λ (o : Option Node). unwrap_or o node.Unreachable) c.in-Some.ensures in
    let in_program = found ∙ ap (λ (p : ProgramData). node_at p c.count.new.frame.func c.count.new.frame.node) c.parts.ensures.value in
    running_suits c.args.program.now c.args.input.now c.args.self.now c.count.new.frame c.in-Some.node.now c.requires c.count.ensures
    (in_program ∙ ap (λ (f : run.Frame). node_at c.args.program.now f.func f.node) c.count.ensures)

pub returns-in-Some : goal.returns-in-Some
returns-in-Some c =
    let found = ap (λ (o : Option Node). unwrap_or o node.Unreachable) c.in-Some.ensures in
    let in_program = found ∙ ap (λ (p : ProgramData). node_at p c.count.new.frame.func c.count.new.frame.node) c.parts.ensures.value in
    if_ok_on c.attempt.result _ _ (λ led attempts. step_leads c.args.program.now c.args.input.now c.args.self.now c.attempt.new.self c.count.new.frame c.in-Some.node.now led c.count.ensures
    (in_program ∙ ap (λ (f : run.Frame). node_at c.args.program.now f.func f.node) c.count.ensures) attempts) c.attempt.ensures

pub returns-in-None : goal.returns-in-None
returns-in-None c =
    let found = ap (λ (o : Option Node). unwrap_or o node.Unreachable) c.in-None.ensures in
    let in_program = found ∙ ap (λ (p : ProgramData). node_at p c.count.new.frame.func c.count.new.frame.node) c.parts.ensures.value in
    missing_leads c.args.program.now c.args.input.now c.args.self.now c.count.new.frame c.count.ensures
    (in_program ∙ ap (λ (f : run.Frame). node_at c.args.program.now f.func f.node) c.count.ensures)
