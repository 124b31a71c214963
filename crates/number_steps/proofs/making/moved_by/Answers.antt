use Rattle.number_steps.proofs.making.moved_by.Goals as goal

pub moved_by_index-requires : goal.moved_by_index-requires
moved_by_index-requires g c = c.requires
