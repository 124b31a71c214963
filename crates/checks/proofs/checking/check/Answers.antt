use Rattle.std.proofs.Common.{◌≡◌, ◌∙◌, ◌≤◌, ◌^◌, List, All, length, ap, sym, subst}
use Rattle.std.specs.Prelude.{IfOk, MatchOption}
use Rattle.flat_ir.specs.declared.program.Func.{Func}
use Rattle.flat_ir.specs.declared.program.ProgramData.{ProgramData}
use Rattle.checks.specs.Errors.{IsChecked, IsFirstOf}
use Rattle.checks.specs.Steps.{IsOwn}
use Rattle.checks.proofs.Firsts.{all_own}
use Rattle.checks.proofs.checking.check.Goals as goal

pub first_among-requires-clause-own : goal.first_among-requires-clause-own
first_among-requires-clause-own c =
    let e : c.as_slice.result.now ≡ c.args.program.now.funcs = c.as_slice.ensures ∙ ap (λ (p : ProgramData). p.funcs) c.parts.ensures.value in
    subst (λ (funcs : List Func). All IsOwn funcs) (sym e) (all_own c.args.program.now c.parts.ensures.whole)

pub first_among-requires-clause-few : goal.first_among-requires-clause-few
first_among-requires-clause-few c =
    let e : c.as_slice.result.now ≡ c.args.program.now.funcs = c.as_slice.ensures ∙ ap (λ (p : ProgramData). p.funcs) c.parts.ensures.value in
    subst (λ (funcs : List Func). length funcs ≤ 2 ^ 32) (sym e) c.parts.ensures.whole.few_funcs

pub returns : goal.returns
returns c =
    let e : c.as_slice.result.now ≡ c.args.program.now.funcs = c.as_slice.ensures ∙ ap (λ (p : ProgramData). p.funcs) c.parts.ensures.value in
    subst (λ (funcs : List Func). IfOk c.first_among.result (λ found. MatchOption found (IsChecked funcs) (IsFirstOf funcs))) e c.first_among.ensures
