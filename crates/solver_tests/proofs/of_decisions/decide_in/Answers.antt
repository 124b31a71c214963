use Rattle.std.proofs.Common.{◌<◌, ◌≤◌, ℕ, List, get_or, sym, subst, arith}
use Rattle.std.specs.List.{All}
use Rattle.terms.specs.Tree.{Tree, constant, input, one, two, choice}
use Rattle.terms.specs.Value.{ReadsBelow}
use Rattle.solver_tests.proofs.of_decisions.decide_in.Goals as goal

reads_further : (m n : ℕ) → m ≤ n → (t : Tree) → ReadsBelow m t → ReadsBelow n t
reads_further m n few (constant k) h = tt
reads_further m n few (input k) h = omega arith
reads_further m n few (one op a) h = reads_further m n few a h
reads_further m n few (two op a b) h = (reads_further m n few a h.0, reads_further m n few b h.1)
reads_further m n few (choice c a b) h =
    (reads_further m n few c h.0, reads_further m n few a h.1, reads_further m n few b h.2)

all_read_further : (m n : ℕ) → m ≤ n → (c : List Tree) → All (ReadsBelow m) c → All (ReadsBelow n) c
all_read_further m n few c h = λ k d low. reads_further m n few (get_or c k d) (h k d low)

pub decide-requires-clause-reads : goal.decide-requires-clause-reads
decide-requires-clause-reads g c =
    subst (All (ReadsBelow c.args.inputs)) (sym c.as_slice.ensures) (all_read_further 2 c.args.inputs c.requires.inputs_from c.in_ok-all.all c.in_ok-all.ensures.reads)
