-- What a turn of the exploration does to the children that wait and to the leaves.
use Rattle.std.specs.Prelude.{◌≡◌, ℕ, ◌≤◌, List, [], ◌∷◌, ◌++◌, length, map, reverse, None}
use Rattle.leaves.specs.declared.options.Options.{Options}
use Rattle.leaves.specs.Events.{Leaf}
use Rattle.terms.specs.Tree.{Tree}
use Rattle.sym_states.specs.Exploring.{Setting, Evaluates, all_of}
use Rattle.sym_states.specs.States.{Child}
use Rattle.sym_states.specs.Verdicts.{Sat}
use Rattle.state_laws.specs.Kept.{ProgramFits, ChildFits, ChildrenFit}
use Rattle.state_laws.specs.Skipless.{ChildHasNoCalls, ChildrenHaveNoCalls}
use Rattle.state_sides.specs.declared.states.Child as code
use Rattle.state_sides.specs.declared.states.Scope.{Scope}
use Rattle.state_sides.specs.Views.{child_seen, verdict_by}
use Rattle.sym_machine.specs.Explored.{LeavesFitAt, LeavesHaveNoCalls}

module _ {H K : Type 0} where
  -- the children that wait, the next one first; the code has it last
  abbrev pub waiting_seen : List (code.Child H K) → List Child
  waiting_seen children = reverse (map child_seen children)

-- nothing is skipped, no slice is in force, and what verdicts and the program have fits
pub record IsSetUp (c : Scope) (o : Options) : Type 0 where
  pub skips : c.skips.now ≡ []
  pub mods : c.mods.now ≡ []
  pub residual : c.residual.now ≡ None
  pub budget : c.budget ≡ o.leaves
  pub some : 1 ≤ o.leaves
  pub few : o.input ≤ 64
  pub sizes : (condition : List Tree) (n : ℕ) (input : List ℕ) → n ≤ 64 → verdict_by o.leaves condition n ≡ Sat input → length input ≡ n
  pub program : ProgramFits c.program.now

-- the child fits, at n bytes of input, and has no calls
pub record IsReady (n : ℕ) (child : Child) : Type 0 where
  pub fits : ChildFits n child
  pub no_calls : ChildHasNoCalls child

pub record AreReady (n : ℕ) (children : List Child) : Type 0 where
  pub fit : ChildrenFit n children
  pub no_calls : ChildrenHaveNoCalls children

-- evaluating the children gives these leaves in all
pub record Gives (e : Setting) (children : List Child) (leaves : List Leaf) : Type 0 where
  pub lists : List (List Leaf)
  pub tasks : ℕ
  pub evaluates : Evaluates e children lists tasks
  pub all : all_of lists ≡ leaves

-- whatever the new children give, the old ones give behind fresh leaves
pub record Turned (e : Setting) (old new : List Child) (fresh : List Leaf) : Type 0 where
  pub back : (leaves : List Leaf) → Gives e new leaves → Gives e old (fresh ++ leaves)
  pub ready : AreReady e.inputs new
  pub fit : LeavesFitAt e.inputs fresh
  pub no_calls : LeavesHaveNoCalls fresh
