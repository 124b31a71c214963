use Rattle.std.proofs.Common.{◌≡◌, ◌∙◌, ap, sym, subst, List}
use Rattle.std.specs.List.{Contains}
use Rattle.points_to.specs.declared.holders.Inclusion.{Inclusion}
use Rattle.points_to.specs.Asked.{asked}
use Rattle.points_to.specs.Rows.{Tables, AreTables}
use Rattle.points_to.specs.Sets.{empty_tables}
use Rattle.points_to.specs.Solving.{Solves}
use Rattle.points_to.proofs.AskedIn.{asked_small}
use Rattle.points_to.proofs.Complete.{empty_tables_are, solved}
use Rattle.points_to.proofs.sets.points_to.Goals as goal

pub solve-requires-clause-tables : goal.solve-requires-clause-tables
solve-requires-clause-tables c = subst (λ (t : Tables). AreTables t) (sym c.in_ok-empty.ensures) (empty_tables_are c.parts-parts.result.now)

pub solve-requires-clause-small : goal.solve-requires-clause-small
solve-requires-clause-small c =
    let p = c.args.program.now in
    let e : c.as_slice.result.now ≡ asked p = c.as_slice.ensures ∙ c.in_ok-list.ensures ∙ ap asked c.parts-parts.ensures.value in
    λ x there. asked_small p c.parts-parts.ensures.whole x (subst (λ (list : List Inclusion). Contains list x) e there)

pub returns : goal.returns
returns c =
    let p = c.args.program.now in
    let new = c.solve.new.self.kinds.items in
    let e : c.as_slice.result.now ≡ asked p = c.as_slice.ensures ∙ c.in_ok-list.ensures ∙ ap asked c.parts-parts.ensures.value in
    let f : c.in_ok-empty.field-0.items ≡ empty_tables p = c.in_ok-empty.ensures ∙ ap empty_tables c.parts-parts.ensures.value in
    solved p new c.parts-parts.ensures.whole
    (subst (λ (old : Tables). Solves (asked p) old new) f (subst (λ (list : List Inclusion). Solves list c.in_ok-empty.field-0.items new) e c.in_ok-solve.ensures))
