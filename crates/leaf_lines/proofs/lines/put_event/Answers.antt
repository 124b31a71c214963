use Rattle.std.proofs.Common.{length, sym, ap, subst, ◌∙◌}
use Rattle.std.specs.Prelude.{IfSome}
use Rattle.leaves.specs.Events.{Event}
use Rattle.leaves.specs.Fitting.{EventFits}
use Rattle.leaves.specs.Shown.{event_of_kind}
use Rattle.leaf_lines.proofs.Fits.{shown-fits}
use Rattle.leaf_lines.proofs.lines.put_event.Goals as goal

pub put_load-requires : goal.put_load-requires
put_load-requires g c =
    rw (c.kept.ensures, c.with_results-shown.ensures, c.results.ensures)
    (shown-fits c.args.told.now.kept c.args.told.now c.in-Load.func c.in-Load.node c.in-Load.value c.requires.told
    (subst (λ (e : Event). IfSome c.args.told.now.kept (λ input. EventFits (length input) e)) (sym c.kind.ensures ∙ ap event_of_kind c.in-Load.is) c.requires.event))
