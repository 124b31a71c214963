-- Numbers one behind the other.
use Rattle.std.proofs.Common.{◌≡◌, ◌∙◌, ◌+◌, ℕ, Bool, true, false, List, ◌∷◌, Option, Some, sym, ap}
use Rattle.std.specs.Prelude.{if◌then◌else◌}
use Rattle.std.specs.Fmt.{decimal}
use Rattle.ir_tree.specs.Texts.{same}
use Rattle.ir_grammar.specs.Numbering.{is_number}
use Rattle.ir_programs.specs.declared.locals.Local.{Local}
use Rattle.ir_programs.specs.declared.refusals.Cause.TheVariants.{WrongNumber}
use Rattle.ir_programs.specs.declared.refusals.Refusal.{Refusal}
use Rattle.ir_programs.specs.Locals.{wrong_numbers}
use Rattle.ir_programs.specs.Refusals.{merged, first, refused}
use Rattle.ir_programs.specs.Steps.{numbers_left}
use Rattle.ir_programs.proofs.Told.{merged_more}

abbrev told_with : Option Refusal → List ℕ → Option Refusal
told_with told places = merged told (first (refused WrongNumber places))

pub no_number : (told : Option Refusal) (n : ℕ) (l : Local) (ls : List Local) → is_number l.name.text ≡ false → numbers_left told n ls ≡ numbers_left told n (l ∷ ls)
no_number told n l ls e =
    sym (ap (λ (t : Bool). told_with told
    (if t then (if same l.name.text (decimal n) then wrong_numbers (n + 1) ls else l.name.at ∷ wrong_numbers (n + 1) ls) else wrong_numbers n ls)) e)

pub next_number : (told : Option Refusal) (n : ℕ) (l : Local) (ls : List Local) → is_number l.name.text ≡ true → same l.name.text (decimal n) ≡ true →
    numbers_left told (n + 1) ls ≡ numbers_left told n (l ∷ ls)
next_number told n l ls e d =
    sym (ap (λ (t : Bool). told_with told
    (if t then (if same l.name.text (decimal n) then wrong_numbers (n + 1) ls else l.name.at ∷ wrong_numbers (n + 1) ls) else wrong_numbers n ls)) e
    ∙ ap (λ (t : Bool). told_with told (if t then wrong_numbers (n + 1) ls else l.name.at ∷ wrong_numbers (n + 1) ls)) d)

pub other_number : (told now : Option Refusal) (n : ℕ) (l : Local) (ls : List Local) → is_number l.name.text ≡ true → same l.name.text (decimal n) ≡ false →
    now ≡ merged told (Some (record { at = l.name.at; cause = WrongNumber })) → numbers_left now (n + 1) ls ≡ numbers_left told n (l ∷ ls)
other_number told now n l ls e d is =
    ap (λ (o : Option Refusal). told_with o (wrong_numbers (n + 1) ls)) is
    ∙ (merged_more told (record { at = l.name.at; cause = WrongNumber }) (first (refused WrongNumber (wrong_numbers (n + 1) ls)))
    ∙ sym (ap (λ (t : Bool). told_with told
    (if t then (if same l.name.text (decimal n) then wrong_numbers (n + 1) ls else l.name.at ∷ wrong_numbers (n + 1) ls) else wrong_numbers n ls)) e
    ∙ ap (λ (t : Bool). told_with told (if t then wrong_numbers (n + 1) ls else l.name.at ∷ wrong_numbers (n + 1) ls)) d))
