use Rattle.std.proofs.Common.{◌∙◌, ap, subst, length, All}
use Rattle.sym_states.specs.Fitting.{InitsFit}
use Rattle.sym_machine.specs.Numbers.{AllNumbersFit}
use Rattle.sym_machine.proofs.Walked.{program-all, globals-all}
use Rattle.sym_machine.proofs.fitting.program_fits.Goals as goal

pub returns-clause-program : goal.returns-clause-program
returns-clause-program c =
    let p = c.args.program.now in
    program-all p c.parts-parts.ensures.whole c.requires (subst (All (λ f. AllNumbersFit f.nodes)) (c.as_slice.ensures ∙ ap (λ q. q.funcs) c.parts-parts.ensures.value) c.funcs_fit.ensures)

pub returns-clause-globals : goal.returns-clause-globals
returns-clause-globals c =
    let p = c.args.program.now in
    globals-all (length p.globals) p.globals (subst (All (λ g. InitsFit g.init)) (c.as_slice-2.ensures ∙ ap (λ q. q.globals) c.parts-parts.ensures.value) c.globals_fit.ensures) c.parts-parts.ensures.whole.globals
