-- The merge of a suspended state is that of its base, put back into the state.
use Rattle.std.specs.Prelude.{◌≡◌, List, [], ◌∷◌, map, unwrap_or}
use Rattle.leaves.specs.declared.options.Cause.TheVariants.{Shares}
use Rattle.leaves.specs.Events as leaf
use Rattle.sym_states.specs.Merging.{merged, filled_by}
use Rattle.sym_states.specs.States.{State, Context, Needed, Step, Forks, Go, Stop, told, told_with, opens}
use Rattle.sym_states.specs.States as states
use Rattle.overwrite_merge.specs.Merges.{Base, CallLeaves, leaves_of, Filling, End, Fills, Skipped, Open, Child, Merged, Children, TooMany, merge}

abbrev pub base_of : State → Base
base_of s = record { condition = s.condition; kept = s.kept; left = s.left; shares = s.shares }

abbrev pub need_of : CallLeaves → Needed
need_of c = record { call = c.call; at = c.at }

-- with what a recovery gave in its place
abbrev pub filled : State → Filling → State
filled s f = filled_by s (record { call = f.call; at = f.at }) (leaf.Done (told s) f.entries f.result)

abbrev pub filled_with : State → List Filling → State
filled_with s [] = s
filled_with s (f ∷ fs) = filled_with (filled s f) fs

-- the state with a child's condition and what is left
abbrev pub state_with : State → Child → State
state_with s c = record s { condition = c.condition; left = c.left; shares = c.shares }

abbrev pub child_by : State → Child → End → states.Child
child_by s c (Fills fs) = Go (filled_with (record (state_with s c) { kept = unwrap_or c.kept s.kept }) fs)
child_by s c (Skipped kind func node) = Stop (leaf.Skipped (told_with c.kept c.condition (state_with s c)) kind func node)
child_by s c (Open why) = Stop (leaf.Open (told_with c.kept c.condition (state_with s c)) why)

-- what a state becomes of a child
abbrev pub becomes : State → Child → states.Child
becomes s c = child_by s c c.end

abbrev pub step_of : State → Merged → Step
step_of s (Children cs) = Forks (map (becomes s) cs)
step_of s TooMany = opens Shares s

-- a state and the calls that it needs
abbrev pub MergesAreOfBases : Type 0
MergesAreOfBases = (c : Context) (s : State) (calls : List CallLeaves)
    → merged c s (map need_of calls) (leaves_of calls) ≡ step_of s (merge c.verdict (base_of s) calls)
