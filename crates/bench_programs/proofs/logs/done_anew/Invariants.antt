use Rattle.bench_programs.proofs.logs.done_anew.Given as goal

-- the table that was just opened
abbrev pub ghosts-done : goal.ghosts-done
ghosts-done a = record { book = a.opened.seen.book }
