use Rattle.std.proofs.Common.{◌≡◌, ◌∙◌, ℕ, List, false, ap, sym}
use Rattle.ir_programs.specs.Texts.{among}
use Rattle.ir_programs.proofs.NotKnown.{absent_name}
use Rattle.ir_programs.proofs.absences.absence_told.Goals as goal

pub returns : goal.returns
returns c = λ rest.
    let n = c.args.name.now in
    let texts = c.args.texts.now in
    let absent : among n.text texts ≡ false =
    ap (λ (t : List ℕ). among t texts) (sym c.as_slice.ensures) ∙ (sym c.is_known.ensures ∙ c.if-is_known.false) in
    absent_name c.args.cause c.args.told texts n rest c.noted.result absent c.noted.ensures
