use Rattle.number_steps.proofs.going.puts.Goals as goal

pub put-requires : goal.put-requires
put-requires g c = c.in_ok-byte.ensures.width
