use Rattle.std.proofs.Common.{◌≡◌, ◌<◌, ◌-◌, ℕ, List, subst, sym, arith, length, ⊎_elim}
use Rattle.std.specs.List.{Contains}
use Rattle.std.proofs.lemmas.List.Elements.{Contains-get_or}
use Rattle.least.specs.Sets.{has}
use Rattle.slicer.specs.declared.reaching.Arrow.{Arrow}
use Rattle.slicer.specs.Reached.{Reached, follows, arrow_at}
use Rattle.slicer.proofs.reaching.Follows.follow.Goals as goal

arrow_in : (arrows : List Arrow) (i : ℕ) → i < length arrows → Contains arrows (arrow_at arrows i)
arrow_in arrows i lt = let h : length arrows - 1 - i < length arrows = omega arith in Contains-get_or arrows (length arrows - 1 - i) (record { from = 0; to = 0 }) h

pub bounds-set-arrow : goal.bounds-set-arrow
bounds-set-arrow c =
    let h = c.args.self.now.within (arrow_at c.args.self.now.arrows.now c.args.at) (arrow_in c.args.self.now.arrows.now c.args.at c.requires.at) in omega (arith, h.0)

pub add-requires : goal.add-requires
add-requires c =
    let h = c.args.self.now.within (arrow_at c.args.self.now.arrows.now c.args.at) (arrow_in c.args.self.now.arrows.now c.args.at c.requires.at) in omega (arith, h.1)

pub returns-then-set-arrow-clause-only : goal.returns-then-set-arrow-clause-only
returns-then-set-arrow-clause-only c = λ k h.
    let R : ℕ → Type 0 = Reached c.args.self.now.arrows.now (has c.args.self.now.given.now) in
    let a : Arrow = arrow_at c.args.self.now.arrows.now c.args.at in
    ⊎_elim (c.requires.only k)
    (λ e. subst R (sym e) (follows a (arrow_in c.args.self.now.arrows.now c.args.at c.requires.at) (c.requires.only a.from c.if-set-arrow.true)))
    (c.add.ensures.only k h)
