use Rattle.std.proofs.Common.{◌≡◌, ◌<◌, false, length, List, Option, Bool, sym, ap, subst, ◌∙◌, rules, count_by, is_none}
use Rattle.std.proofs.lemmas.Bool.{true≢false}
use Rattle.cnf.specs.declared.Lit.{Lit}
use Rattle.cnf.specs.Cnf.{lists_of}
use Rattle.cnf.specs.Literals.{holds_of}
use Rattle.cnf.specs.UnitRule.{IsUnitState}
use Rattle.cnf.specs.Passes.{IsQuiet}
use Rattle.cnf.proofs.PropagateLemmas.{below_at, each_more, each_all, quiet_from_unit, false_clause_conflicts, var_below}
use Rattle.cnf.proofs.PassLemmas.{fewer_than, grows_one, fewer_one, clause_in, below_same}
use Rattle.cnf.proofs.pass_once.Goals as goal
use Rattle.cnf.proofs.pass_once.Goals.{in-Forced, in-Satisfied}

pub unit-requires : goal.unit-requires
unit-requires c =
    rw (c.deref.ensures.value, c.loop-clause.auto.assigned) (below_at (length c.args.assigned.now) c.args.clauses.now c.loop-clause.clause-index c.clause-item.result c.requires c.loop-clause-test.true c.clause-item.is)

pub returns-in-Conflict : goal.returns-in-Conflict
returns-in-Conflict c =
    false_clause_conflicts (lists_of c.args.clauses.now) (holds_of c.args.assigned.now) (holds_of c.loop-clause.assigned) c.loop-clause.invariant.grows.forced_alone c.deref.result.now (clause_in c.args.clauses.now c.loop-clause.clause-index c.clause-item.result c.deref.result.now c.loop-clause-test.true c.clause-item.is c.deref.ensures.value) c.in-Conflict.ensures

pub bounds-assigned-lit : goal.bounds-assigned-lit
bounds-assigned-lit c =
    let l : Lit = c.in-Forced.lit in
    let below = below_same (length c.loop-clause.assigned) (length c.args.assigned.now) (lists_of c.args.clauses.now) c.loop-clause.auto.assigned c.requires in
    var_below (length c.loop-clause.assigned) (lists_of c.args.clauses.now) c.deref.result.now l below (clause_in c.args.clauses.now c.loop-clause.clause-index c.clause-item.result c.deref.result.now c.loop-clause-test.true c.clause-item.is c.deref.ensures.value) c.in-Forced.ensures.stands

pub offset_bounds-assigned-lit : goal.offset_bounds-assigned-lit
offset_bounds-assigned-lit c =
    let l : Lit = c.in-Forced.lit in
    let all = below_same (length c.loop-clause.assigned) (length c.args.assigned.now) (lists_of c.args.clauses.now) c.loop-clause.auto.assigned c.requires in
    let below : l.var < length c.loop-clause.assigned = var_below (length c.loop-clause.assigned) (lists_of c.args.clauses.now) c.deref.result.now l all (clause_in c.args.clauses.now c.loop-clause.clause-index c.clause-item.result c.deref.result.now c.loop-clause-test.true c.clause-item.is c.deref.ensures.value) c.in-Forced.ensures.stands in
    search rules

pub loop-clause-preserved : goal.loop-clause-preserved
loop-clause-preserved c =
    let F = lists_of c.args.clauses.now in
    let first = c.args.assigned.now in
    let now = c.loop-clause.assigned in
    let there = clause_in c.args.clauses.now c.loop-clause.clause-index c.clause-item.result c.deref.result.now c.loop-clause-test.true c.clause-item.is c.deref.ensures.value in
    let below = below_same (length now) (length first) F c.loop-clause.auto.assigned c.requires in
    elim c.match-unit.branch [
      | in-Forced w ↦
          let l : Lit = w.in-Forced.lit in
          let grown = grows_one F first now c.deref.result.now l c.loop-clause.invariant.grows below there w.in-Forced.ensures in
          let smaller = fewer_one F now c.deref.result.now l below there w.in-Forced.ensures in
          record {
            grows = rw w.assigned-is grown;
            unchanged = λ e. absurd (true≢false (sym w.changed-is ∙ e));
            quiet = λ e. absurd (true≢false (sym w.changed-is ∙ e));
            fewer = λ e. rw w.assigned-is (fewer_than c.loop-clause.changed _ _ _ smaller c.loop-clause.invariant.fewer (λ k. ap (count_by is_none) (c.loop-clause.invariant.unchanged k)));
          }
      | in-Satisfied w ↦
          let quiet_clause = quiet_from_unit (holds_of now) c.clause-item.result.items c.unit.result (subst (λ ms. IsUnitState (holds_of now) ms c.unit.result) c.deref.ensures.value c.unit.ensures) w.in-Satisfied.is in
          record {
            grows = rw w.assigned-is c.loop-clause.invariant.grows;
            unchanged = λ e. w.assigned-is ∙ c.loop-clause.invariant.unchanged (sym w.changed-is ∙ e);
            quiet = λ e.
                let still : c.loop-clause.changed ≡ false = sym w.changed-is ∙ e in
                each_more (IsQuiet (holds_of first)) c.args.clauses.now c.loop-clause.clause-index c.clause-item.result c.loop-clause-test.true c.clause-item.is (c.loop-clause.invariant.quiet still) (subst (λ (x : List (Option Bool)). IsQuiet (holds_of x) c.clause-item.result.items) (c.loop-clause.invariant.unchanged still) quiet_clause);
            fewer = λ e. rw w.assigned-is (c.loop-clause.invariant.fewer (sym w.changed-is ∙ e));
          }
    ]

pub returns-else-changed : goal.returns-else-changed
returns-else-changed c =
    record {
      unchanged = c.loop-clause.invariant.unchanged c.if-changed.false;
      quiet = each_all (IsQuiet (holds_of c.args.assigned.now)) c.args.clauses.now c.loop-clause.clause-index c.loop-clause-test.false (c.loop-clause.invariant.quiet c.if-changed.false);
    }
