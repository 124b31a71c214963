-- A small tree for tests.
use Rattle.std.specs.Prelude.{◌≡◌, ℕ, zero, suc, [], ◌∷◌}
use Rattle.std.proofs.Common.{refl, arith}
use Rattle.await_core.specs.declared.expansion.Expansion.{Expansion}
use Rattle.await_core.specs.declared.expansion.Expansion.TheVariants.{Leaf, Fork, Await}
use Rattle.await_core.specs.Meaning.{Meaning, IsLawful, IsLawfulAnswer}

-- node 0 forks into nodes 1 and 2; node 3 awaits them, and its rest forks into itself and 5; each other node is a leaf
abbrev pub stairs_expansion : ℕ → Expansion ℕ ℕ ℕ
stairs_expansion zero = Fork (1 ∷ 2 ∷ [])
stairs_expansion (suc (suc (suc zero))) = Await (1 ∷ 2 ∷ []) 4
stairs_expansion n = Leaf n

-- the nodes that have nodes below them
abbrev pub stairs_rank : ℕ → ℕ
stairs_rank zero = 1
stairs_rank (suc (suc (suc zero))) = 2
stairs_rank n = 0

abbrev pub stairs_meaning : Meaning ℕ ℕ ℕ
stairs_meaning =
    record {
      answers = record { expansion = stairs_expansion; resumption = λ rest lists. Fork (rest ∷ 5 ∷ []) };
      IsNode = λ node. Unit {0};
      IsRest = λ rest. rest ≡ 4;
      NodeMayGive = λ node leaves. Unit {0};
      RestMayGive = λ rest leaves. Unit {0};
      Takes = λ rest lists. Unit {0};
      node_rank = stairs_rank;
      rest_rank = λ rest. 1;
    }

stairs_node : (node : ℕ) → IsLawfulAnswer stairs_meaning (λ leaves. Unit {0}) (stairs_rank node) (stairs_rank node) (stairs_expansion node)
stairs_node zero = record { some = λ e. cc; own = (tt, (tt, tt)); below = (omega arith, (omega arith, tt)); gives = λ lists may. tt }
stairs_node (suc zero) = tt
stairs_node (suc (suc zero)) = tt
stairs_node (suc (suc (suc zero))) =
    record { some = λ e. cc; own = (tt, (tt, tt)); own_rest = refl; below = (omega arith, (omega arith, tt)); rest_below = omega arith; takes = λ lists may. tt; gives = λ leaves may. tt }
stairs_node (suc (suc (suc (suc n)))) = tt

stairs_rest : (rest : ℕ) → rest ≡ 4 → IsLawfulAnswer stairs_meaning (λ leaves. Unit {0}) 2 1 (Fork (rest ∷ 5 ∷ []))
stairs_rest rest e = rw e (record { some = λ f. cc; own = (tt, (tt, tt)); below = (omega arith, (omega arith, tt)); gives = λ lists may. tt })

pub stairs_lawful : IsLawful stairs_meaning
stairs_lawful = record { expands = λ node own. stairs_node node; resumes = λ rest lists own takes. stairs_rest rest own }
