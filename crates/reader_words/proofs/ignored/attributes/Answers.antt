use Rattle.std.proofs.Common.{[], ◌∙◌, sym}
use Rattle.ir_grammar.specs.Types.{attribute_or, attribute_starts}
use Rattle.ir_grammar.proofs.TypesExact.{attribute_exact}
use Rattle.reader_words.proofs.Turns.{skipped, skipped_fewer}
use Rattle.reader_words.proofs.ignored.attributes.Goals as goal

pub attributes-smaller : goal.attributes-smaller
attributes-smaller c = skipped_fewer (attribute_starts []) [] (attribute_or []) attribute_exact c.attributes.rest c.in_ok-rest.rest c.in_ok-rest.ensures

pub attributes-preserved : goal.attributes-preserved
attributes-preserved c =
    c.attributes.invariant
    ∙ skipped (attribute_starts []) [] (attribute_or []) attribute_exact c.attributes.rest c.in_ok-rest.rest (sym c.has_attribute.ensures ∙ c.attributes-test.true) c.in_ok-rest.ensures
