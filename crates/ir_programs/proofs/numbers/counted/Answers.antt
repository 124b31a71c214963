use Rattle.std.proofs.Common.{◌≡◌, ◌∙◌, ℕ, List, true, false, ap, sym}
use Rattle.std.specs.Fmt.{decimal}
use Rattle.ir_grammar.specs.Numbering.{is_number}
use Rattle.ir_tree.specs.Texts.{same}
use Rattle.ir_programs.proofs.Counting.{other_number}
use Rattle.ir_programs.proofs.numbers.counted.Goals as goal

pub returns-clause-told : goal.returns-clause-told
returns-clause-told c = λ rest.
    let l = c.args.local.now in
    let n = c.args.counter.number in
    let number : is_number l.name.text ≡ true =
    ap (λ (t : List ℕ). is_number t) (sym c.as_slice-text.ensures) ∙ (sym c.is_number.ensures ∙ c.if-not-is_number.false) in
    let differs : same l.name.text (decimal n) ≡ false =
    ap (λ (t : List ℕ). same t (decimal n)) (sym c.as_slice-text.ensures) ∙ (sym c.in_ok-is_decimal.ensures ∙ c.if-branch.false) in
    other_number c.args.counter.told c.noted-told.result n l rest number differs c.noted-told.ensures
