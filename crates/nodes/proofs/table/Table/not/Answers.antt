use Rattle.std.proofs.Common.{rules, ◌≡◌, Some, None, sym}
use Rattle.nodes.specs.Nodes.{bit_at}
use Rattle.nodes.specs.Folds.{constant_of, inside_not}
use Rattle.nodes.proofs.FoldLemmas.{fold_not-constant, fold_not-inside, fold_not-none, made_bit}
use Rattle.nodes.proofs.table.Table.not.Goals as goal

pub returns-in-Some-clause-bit : goal.returns-in-Some-clause-bit
returns-in-Some-clause-bit c =
    let e : constant_of (bit_at c.args.self.now c.args.a) ≡ Some c.in-Some.b = cc in
    made_bit c.place.result (λ k. bit_at c.place.new.self k) _ _ c.place.ensures.bit (sym (fold_not-constant (bit_at c.args.self.now c.args.a) c.in-Some.b e))

pub returns-in-Some-inside_not-clause-bit : goal.returns-in-Some-inside_not-clause-bit
returns-in-Some-inside_not-clause-bit c =
    sym (fold_not-inside (bit_at c.args.self.now c.args.a) _ (sym c.in-Some-inside_not.ensures.inside))

pub returns-in-None-clause-bit : goal.returns-in-None-clause-bit
returns-in-None-clause-bit c =
    let e : constant_of (bit_at c.args.self.now c.args.a) ≡ None = search rules in
    let f : inside_not (bit_at c.args.self.now c.args.a) ≡ None = sym c.in-None.ensures.inside in
    made_bit c.place-in-None.result (λ k. bit_at c.place-in-None.new.self k) _ _ c.place-in-None.ensures.bit (sym (fold_not-none (bit_at c.args.self.now c.args.a) e f))
