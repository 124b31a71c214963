use Rattle.std.proofs.Common.{◌-◌, refl, sym, ◌∙◌, subst, arith}
use Rattle.ir_grammar.specs.Types.{mem_type}
use Rattle.ir_grammar.proofs.TypesExact.{mem_starts, mem_names, mem_type_exact}
use Rattle.reader_words.specs.Source.{pieces}
use Rattle.reader_words.specs.Gives.{Gives}
use Rattle.reader_types.proofs.Levels.{one_level, no_level}
use Rattle.reader_words.proofs.Turns.{comma_turn, comma_fewer}
use Rattle.reader_types.proofs.types.+types.Goals as goal

pub other_fields-commas-smaller : goal.other_fields-commas-smaller
other_fields-commas-smaller t c =
    comma_fewer mem_starts mem_names (mem_type c.args.inner) (mem_type_exact c.args.inner) c.commas.rest c.in_ok-after.after c.in_ok-next.after c.in_ok-next.next c.in_ok-after.ensures c.in_ok-next.ensures

pub other_fields-commas-preserved : goal.other_fields-commas-preserved
other_fields-commas-preserved t c =
    comma_turn mem_starts mem_names (mem_type c.args.inner) (mem_type_exact c.args.inner) c.commas.found c.push.new.self c.commas.rest c.in_ok-after.after c.in_ok-next.after c.in_ok-next.next _
    (sym c.has_mark.ensures ∙ c.commas-test.true) c.in_ok-after.ensures c.in_ok-next.ensures c.in_ok-push.ensures.ok c.commas.invariant

pub mem_type-returns-then-levels-gt0 : goal.mem_type-returns-then-levels-gt0
mem_type-returns-then-levels-gt0 t c =
    let plain = sym c.has_odd_integer_type.ensures ∙ c.if-has_odd_integer_type.false in
    subst (Gives c.aggregate_or_plain.result) (sym (one_level c.args.levels (c.args.levels - 1) (pieces c.args.source) refl c.if-levels-gt0.true plain)) c.aggregate_or_plain.ensures

pub mem_type-returns : goal.mem_type-returns
mem_type-returns t c =
    let plain = sym c.has_odd_integer_type.ensures ∙ c.if-has_odd_integer_type.false in
    let closed = sym c.has_opening.ensures ∙ c.if-has_opening.false in
    subst (Gives c.plain.result) (sym (no_level c.args.levels (pieces c.args.source) (omega arith) plain closed)) c.plain.ensures
