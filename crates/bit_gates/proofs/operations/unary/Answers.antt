use Rattle.std.proofs.Common.{◌*◌, take, drop, sym, ap, ◌∙◌, subst}
use Rattle.std.proofs.lemmas.Result.{IfOk-weaker}
use Rattle.nodes.specs.Names.{bits_at, AreWithin}
use Rattle.nodes.proofs.GrowthLemmas.{bits_at-take, within_take, within_drop}
use Rattle.term_bits.specs.TermBits.{bits_of_one}
use Rattle.bit_gates.proofs.TermRows.{byte_at_bits}
use Rattle.bit_gates.proofs.operations.unary.Goals as goal

pub returns-in-Trunc-clause-bits : goal.returns-in-Trunc-clause-bits
returns-in-Trunc-clause-bits c =
    let table = c.args.table.now in
    let xs = c.args.xs.now in
    IfOk-weaker c.taken.result _ _ (λ row e. ap (bits_at table) e ∙ bits_at-take table c.from.result xs ∙ ap (λ w. take w (bits_at table xs)) c.from.ensures ∙ ap (λ op. bits_of_one op (bits_at table xs)) (sym c.in-Trunc.is)) c.taken.ensures

pub returns-in-Byte-clause-within : goal.returns-in-Byte-clause-within
returns-in-Byte-clause-within c =
    let table = c.args.table.now in
    let xs = c.args.xs.now in
    IfOk-weaker c.byte.result _ _ (λ row e. subst (AreWithin table) (sym e) (within_take table 8 (drop (8 * c.from-in-Byte.result) xs) (within_drop table (8 * c.from-in-Byte.result) xs c.requires.row))) c.byte.ensures

pub returns-in-Byte-clause-bits : goal.returns-in-Byte-clause-bits
returns-in-Byte-clause-bits c =
    let table = c.args.table.now in
    let xs = c.args.xs.now in
    IfOk-weaker c.byte.result _ _ (λ row e. ap (bits_at table) e ∙ byte_at_bits table xs c.from-in-Byte.result ∙ ap (λ j. take 8 (drop (8 * j) (bits_at table xs))) c.from-in-Byte.ensures ∙ ap (λ op. bits_of_one op (bits_at table xs)) (sym c.in-Byte.is)) c.byte.ensures
