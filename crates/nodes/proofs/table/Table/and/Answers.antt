use Rattle.std.proofs.Common.{◌≡◌, true, false, Some, None, sym}
use Rattle.nodes.specs.Nodes.{bit_at}
use Rattle.nodes.specs.Folds.{constant_of}
use Rattle.nodes.proofs.FoldLemmas.{fold_and-left, fold_and-right, fold_and-none, made_bit}
use Rattle.nodes.proofs.table.Table.and.Goals as goal

pub returns-in-Some-true-default-clause-bit : goal.returns-in-Some-true-default-clause-bit
returns-in-Some-true-default-clause-bit c =
    let e : constant_of (bit_at c.args.self.now c.args.a) ≡ Some true = cc in sym (fold_and-left (bit_at c.args.self.now c.args.a) (bit_at c.args.self.now c.args.b) true e)

pub returns-in-Some-false-default-clause-bit : goal.returns-in-Some-false-default-clause-bit
returns-in-Some-false-default-clause-bit c =
    let e : constant_of (bit_at c.args.self.now c.args.a) ≡ Some false = cc in sym (fold_and-left (bit_at c.args.self.now c.args.a) (bit_at c.args.self.now c.args.b) false e)

pub returns-in-None-Some-true-clause-bit : goal.returns-in-None-Some-true-clause-bit
returns-in-None-Some-true-clause-bit c =
    let e : constant_of (bit_at c.args.self.now c.args.a) ≡ None = cc in
    let f : constant_of (bit_at c.args.self.now c.args.b) ≡ Some true = cc in
    sym (fold_and-right (bit_at c.args.self.now c.args.a) (bit_at c.args.self.now c.args.b) true e f)

pub returns-in-None-Some-false-clause-bit : goal.returns-in-None-Some-false-clause-bit
returns-in-None-Some-false-clause-bit c =
    let e : constant_of (bit_at c.args.self.now c.args.a) ≡ None = cc in
    let f : constant_of (bit_at c.args.self.now c.args.b) ≡ Some false = cc in
    sym (fold_and-right (bit_at c.args.self.now c.args.a) (bit_at c.args.self.now c.args.b) false e f)

pub returns-in-None-None-clause-bit : goal.returns-in-None-None-clause-bit
returns-in-None-None-clause-bit c =
    let e : constant_of (bit_at c.args.self.now c.args.a) ≡ None = cc in
    let f : constant_of (bit_at c.args.self.now c.args.b) ≡ None = cc in
    made_bit c.place.result (λ k. bit_at c.place.new.self k) _ _ c.place.ensures.bit (sym (fold_and-none (bit_at c.args.self.now c.args.a) (bit_at c.args.self.now c.args.b) e f))
