use Rattle.std.proofs.Common.{ℕ, ◌<◌, [], ◌∷◌, arith}
use Rattle.std.proofs.lemmas.List.Elements.{All-nil, All-cons}
use Rattle.solver_tests.proofs.of_clauses.excluding.Goals as goal

pub search-requires-clause-order : goal.search-requires-clause-order
search-requires-clause-order g c =
    let P : ℕ → Type 0 = λ v. v < 2 in
    All-cons P 0 (1 ∷ []) (omega arith) (All-cons P 1 [] (omega arith) (All-nil P))
