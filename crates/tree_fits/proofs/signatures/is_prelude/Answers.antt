use Rattle.std.proofs.Common.{◌≡◌, ◌∙◌, Some, None, ap, sym}
use Rattle.ir_programs.specs.Calls as spec
use Rattle.tree_fits.proofs.Known.{known_at, not_known}
use Rattle.tree_fits.proofs.signatures.is_prelude.Goals as goal

pub returns-in_ok-function-in-Some : goal.returns-in_ok-function-in-Some
returns-in_ok-function-in-Some c =
    c.is_func.ensures
    ∙ sym (ap (λ s. spec.is_signature c.args.params.now c.args.returned s)
    (known_at c.args.name.now c.in-Some.index c.in_ok-function-in-Some.function (sym c.find.ensures ∙ c.in-Some.is) c.in_ok-function-in-Some.ensures))

pub returns-in-None : goal.returns-in-None
returns-in-None c = sym (ap (λ s. spec.is_signature c.args.params.now c.args.returned s) (not_known c.args.name.now (sym c.find.ensures ∙ c.in-None.is)))
