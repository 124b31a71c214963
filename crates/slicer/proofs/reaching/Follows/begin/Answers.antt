use Rattle.std.proofs.Common.{◌≡◌, ℕ, subst, sym, ⊎_elim}
use Rattle.least.specs.Sets.{has}
use Rattle.slicer.specs.Reached.{Reached, begins}
use Rattle.slicer.proofs.reaching.Follows.begin.Goals as goal

pub returns-then-self-number-clause-only : goal.returns-then-self-number-clause-only
returns-then-self-number-clause-only c = λ k h.
    let R : ℕ → Type 0 = Reached c.args.self.now.arrows.now (has c.args.self.now.given.now) in
    ⊎_elim (c.requires.only k) (λ e. subst R (sym e) (begins c.args.number c.if-self-number.true)) (c.add.ensures.only k h)
