use Rattle.std.proofs.Common.{◌≡◌, ◌∙◌, ℕ, List, true, false, ap, sym}
use Rattle.std.specs.Prelude.{◌==◌}
use Rattle.std.proofs.lemmas.Bool.{ne_eqb}
use Rattle.ir_programs.specs.Steps.{texts_of}
use Rattle.ir_programs.specs.Texts.{among}
use Rattle.ir_programs.proofs.Repeating.{second_name}
use Rattle.ir_programs.proofs.repeats.repeat_told.Goals as goal

pub returns : goal.returns
returns c = λ rest.
    let l = c.args.local.now in
    let seen = texts_of c.args.seen.now in
    let again : among l.name.text seen ≡ true =
    ap (λ (t : List ℕ). among t seen) (sym c.as_slice.ensures) ∙ (sym c.is_among.ensures ∙ c.if-not-is_among.false) in
    let written : (l.name.at == c.args.at) ≡ false = ne_eqb l.name.at c.args.at c.if-local-at.false in
    second_name c.args.at c.args.told seen l rest c.noted.result again written c.noted.ensures
