use Rattle.bench_programs.proofs.solving.made_anew.Given as goal

-- the table that was just opened
abbrev pub ghosts-made : goal.ghosts-made
ghosts-made a = record { book = a.opened.seen.book }
