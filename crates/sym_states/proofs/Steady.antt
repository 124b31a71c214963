-- What a state reaches is one thing.
use Rattle.std.proofs.Common.{◌≡◌, List, sym, ap, ◌∙◌, subst}
use Rattle.leaves.specs.Events.{Leaf}
use Rattle.sym_states.specs.States.{State, Child, Step, Goes, Forks, Needs, Ends, Needed}
use Rattle.sym_states.specs.Attempts.{attempt}
use Rattle.sym_states.specs.Exploring.{Setting, context_of, Reaches, forks, needs, ends, goes}

abbrev next_of : State → Step → State
next_of s (Goes t) = t
next_of s (Forks cs) = s
next_of s (Needs t calls) = s
next_of s (Ends l) = s

-- an attempt that goes on reaches what its next state reaches
after_going : (e : Setting) (s t : State) (b : Step) → attempt (context_of e s) s ≡ Goes t → Reaches e s b → Reaches e t b
after_going e s t b is (forks _ cs other) = absurd (no_fork (sym is ∙ other))
  where
    no_fork : Goes t ≡ Forks cs → ⊥
    no_fork p = cc
after_going e s t b is (needs _ u calls other) = absurd (no_need (sym is ∙ other))
  where
    no_need : Goes t ≡ Needs u calls → ⊥
    no_need p = cc
after_going e s t b is (ends _ l other) = absurd (no_end (sym is ∙ other))
  where
    no_end : Goes t ≡ Ends l → ⊥
    no_end p = cc
after_going e s t b is (goes _ u _ other more) = subst (λ v. Reaches e v b) (ap (next_of s) (sym other ∙ is)) more

-- one that doesn't go on is what is reached
stays : (e : Setting) (s : State) (a b : Step) → attempt (context_of e s) s ≡ a → ((t : State) → a ≡ Goes t → ⊥) → Reaches e s b → a ≡ b
stays e s a b is other (forks _ cs found) = sym is ∙ found
stays e s a b is other (needs _ u calls found) = sym is ∙ found
stays e s a b is other (ends _ l found) = sym is ∙ found
stays e s a b is other (goes _ u _ found more) = absurd (other u (sym is ∙ found))

fork_stays : (cs : List Child) (t : State) → Forks cs ≡ Goes t → ⊥
fork_stays cs t p = cc

need_stays : (u : State) (calls : List Needed) (t : State) → Needs u calls ≡ Goes t → ⊥
need_stays u calls t p = cc

end_stays : (l : Leaf) (t : State) → Ends l ≡ Goes t → ⊥
end_stays l t p = cc

pub reaches_one : (e : Setting) (s : State) (a b : Step) → Reaches e s a → Reaches e s b → a ≡ b
reaches_one e s a b (forks _ cs is) other = stays e s (Forks cs) b is (fork_stays cs) other
reaches_one e s a b (needs _ u calls is) other = stays e s (Needs u calls) b is (need_stays u calls) other
reaches_one e s a b (ends _ l is) other = stays e s (Ends l) b is (end_stays l) other
reaches_one e s a b (goes _ t _ is more) other = reaches_one e t a b more (after_going e s t b is other)
