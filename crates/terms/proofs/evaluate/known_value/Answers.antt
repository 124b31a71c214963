use Rattle.terms.proofs.evaluate.known_value.Goals as goal

pub returns : goal.returns
returns g c = c.requires c.args.t.now c.in_ok-known.known.now c.in_ok-known.ensures
