use Rattle.std.proofs.Common.{◌≡◌, refl, sym, ◌∙◌, ap, subst}
use Rattle.ir_tree.specs.Places.{without_places}
use Rattle.ir_tree.specs.Printing.{lines, printed}
use Rattle.ir_grammar.specs.Tokens.{seen}
use Rattle.ir_grammar.specs.Numbering.{numbered}
use Rattle.printed_again.specs.Again.{Spell, token_texts}
use Rattle.printed_again.proofs.Law.{spelled_again}
use Rattle.printed_again.proofs.Seen.{seen_have_bytes}
use Rattle.printed_tokens.proofs.Streams.{text_lexed}
use Rattle.printed_tokens.proofs.Trees.{lines_are}
use Rattle.round_trip.proofs.a_printed_tree_is_read_again.Goals as goal

pub returns : goal.returns
returns c bytes tree h read =
    let lexed = text_lexed (lines tree) (lines_are tree) in
    let spelled = spelled_again read.spelled (seen bytes read.tokens) (seen_have_bytes bytes read.tokens h) read.is_module (seen (printed tree) lexed.0)
    (subst (λ t. Spell (seen (printed tree) lexed.0) (token_texts (lines t))) read.numbers lexed.2) in
    (numbered spelled.0, record { tokens = lexed.0; lexed = lexed.1; spelled = spelled.0; is_module = spelled.1; numbers = refl }, spelled.2 ∙ ap without_places (sym read.numbers))
