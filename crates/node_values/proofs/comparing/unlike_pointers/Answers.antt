use Rattle.node_values.proofs.comparing.unlike_pointers.Goals as goal

pub not-requires : goal.not-requires
not-requires g c = c.in_ok-alike.ensures.width
