use Rattle.std.proofs.Common.{[], ◌∙◌, sym}
use Rattle.ir_grammar.specs.Words.{linkage_words}
use Rattle.ir_grammar.specs.Types.{attribute_or, attribute_starts}
use Rattle.ir_grammar.proofs.TypesExact.{ignored_exact}
use Rattle.reader_words.proofs.Turns.{skipped, skipped_fewer}
use Rattle.reader_words.proofs.ignored.ignored.Goals as goal

pub ignored-smaller : goal.ignored-smaller
ignored-smaller c = skipped_fewer (attribute_starts linkage_words) [] (attribute_or linkage_words) ignored_exact c.ignored.rest c.in_ok-rest.rest c.in_ok-rest.ensures

pub ignored-preserved : goal.ignored-preserved
ignored-preserved c =
    c.ignored.invariant
    ∙ skipped (attribute_starts linkage_words) [] (attribute_or linkage_words) ignored_exact c.ignored.rest c.in_ok-rest.rest (sym c.has_ignored.ensures ∙ c.ignored-test.true) c.in_ok-rest.ensures
