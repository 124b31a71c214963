use Rattle.std.proofs.Common.{length, sym, ap, ◌∙◌}
use Rattle.std.proofs.lemmas.List.{length-replicate}
use Rattle.cnf.specs.Cnf.{Cnf, lists_of}
use Rattle.search.specs.Walks.{walk_of}
use Rattle.search.proofs.RefutedLemmas.{refuted_has_no_model, walk_at_formula}
use Rattle.search.proofs.ModelLemmas.{model_is_least}
use Rattle.search.proofs.LogLemmas.{log_at_formula}
use Rattle.search.proofs.search.Goals as goal

pub returns-in-Found-clause-model : goal.returns-in-Found-clause-model
returns-in-Found-clause-model c =
    let f : Cnf = c.args.formula.now in
    let clauses = ap lists_of c.deref.ensures.value ∙ ap (λ (x : Cnf). x.clauses) c.formula.view_is in
    let vars = ap length (c.deref-2.ensures.value ∙ c.in_ok-assigned.ensures) ∙ length-replicate _ _ ∙ ap (λ (x : Cnf). x.vars) c.formula.view_is in
    let walked = walk_at_formula f c.args.order.now c.args.budget _ _ _ _ _ _ clauses vars (c.deref-3.ensures.value ∙ c.new-decisions.ensures.items) c.in_ok-values.ensures in
    λ determines. model_is_least f c.args.order.now c.args.budget c.in-Found.values.items c.requires.variables c.requires.order determines (sym walked ∙ ap walk_of c.in-Found.is)

pub returns-clause-refuted : goal.returns-clause-refuted
returns-clause-refuted c =
    let f : Cnf = c.args.formula.now in
    let clauses = ap lists_of c.deref.ensures.value ∙ ap (λ (x : Cnf). x.clauses) c.formula.view_is in
    let vars = ap length (c.deref-2.ensures.value ∙ c.in_ok-assigned.ensures) ∙ length-replicate _ _ ∙ ap (λ (x : Cnf). x.vars) c.formula.view_is in
    let walked = walk_at_formula f c.args.order.now c.args.budget _ _ _ _ _ _ clauses vars (c.deref-3.ensures.value ∙ c.new-decisions.ensures.items) c.in_ok-values.ensures in
    refuted_has_no_model f c.args.order.now c.args.budget c.in-Left.field-0 (sym walked ∙ ap walk_of c.in-Left.is)

pub returns-clause-log : goal.returns-clause-log
returns-clause-log c =
    let f : Cnf = c.args.formula.now in
    let clauses = ap lists_of c.deref.ensures.value ∙ ap (λ (x : Cnf). x.clauses) c.formula.view_is in
    let vars = ap length (c.deref-2.ensures.value ∙ c.in_ok-assigned.ensures) ∙ length-replicate _ _ ∙ ap (λ (x : Cnf). x.vars) c.formula.view_is in
    (log_at_formula f c.args.order.now c.args.budget c.in-Left.field-0 _ _ _ _ _ _ clauses vars (c.deref-3.ensures.value ∙ c.new-decisions.ensures.items) (ap lists_of c.new-log.ensures.items) c.in-Left.is c.in_ok-values.ensures).0

pub returns-clause-empty : goal.returns-clause-empty
returns-clause-empty c =
    let f : Cnf = c.args.formula.now in
    let clauses = ap lists_of c.deref.ensures.value ∙ ap (λ (x : Cnf). x.clauses) c.formula.view_is in
    let vars = ap length (c.deref-2.ensures.value ∙ c.in_ok-assigned.ensures) ∙ length-replicate _ _ ∙ ap (λ (x : Cnf). x.vars) c.formula.view_is in
    (log_at_formula f c.args.order.now c.args.budget c.in-Left.field-0 _ _ _ _ _ _ clauses vars (c.deref-3.ensures.value ∙ c.new-decisions.ensures.items) (ap lists_of c.new-log.ensures.items) c.in-Left.is c.in_ok-values.ensures).1
