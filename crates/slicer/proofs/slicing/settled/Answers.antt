use Rattle.std.proofs.Common.{◌≡◌, ◌<◌, ◌≤◌, ◌-◌, ◌∙◌, ℕ, List, Bool, length, arith, sym, subst, ap}
use Rattle.std.proofs.lemmas.List.Sums.{count_by-le-length}
use Rattle.least.specs.Sets.{has, Within, Exactly}
use Rattle.least.proofs.Bits.{members, members-within}
use Rattle.slicer.specs.Facts.{ClosesOnce}
use Rattle.slicer.specs.Places.{size_of}
use Rattle.slicer.specs.Reached.{Reached, begins}
use Rattle.slicer.proofs.Settles.{further, found}
use Rattle.slicer.proofs.slicing.settled.Goals as goal

falls : (ls lg lc s g k : ℕ) → ls ≡ lg → lg ≡ lc → s ≤ g → g ≤ k → k ≤ lc → (k ≡ g → ⊥) → lc - k < ls - s
falls ls lg lc s g k e e' up more within ne = omega (arith, e, e', up, more, within, ne)

pub rounds-preserved : goal.rounds-preserved
rounds-preserved c =
    let p = c.args.places.now.program.now in
    let starts : List ℕ = c.args.places.now.starts.items in
    let set : List Bool = c.rounds.set.items in
    let grown : List Bool = c.in_ok-grown.grown.items in
    let closed : List Bool = c.in_ok-closed.closed.items in
    let reach : Exactly (Reached c.args.arrows.now (has set)) (has grown) =
    subst (λ (xs : List Bool). Exactly (Reached c.args.arrows.now (has xs)) (has grown)) c.as_slice.ensures.value c.in_ok-grown.ensures.exact in
    let closes : ClosesOnce p starts c.args.looked.now grown closed =
    subst (λ (xs : List Bool). ClosesOnce p starts c.args.looked.now xs closed) c.as_slice-in-rounds.ensures.value c.in_ok-closed.ensures.closes in
    let size : length closed ≡ size_of p starts = omega (arith, c.in_ok-closed.ensures.len, ap length c.as_slice-in-rounds.ensures.value, c.in_ok-grown.ensures.len, ap length c.as_slice.ensures.value, c.rounds.invariant.size) in
    record {
      size = size;
      way = λ t f l ready given. further p c.requires.whole t f l starts c.args.places.now.laid_out c.args.looked.now c.args.arrows.now ready set grown closed
          (c.rounds.invariant.way t f l ready given) reach closes size;
    }

pub returns-then-count : goal.returns-then-count
returns-then-count c = λ t f l ready given.
    let p = c.args.places.now.program.now in
    let starts : List ℕ = c.args.places.now.starts.items in
    let set : List Bool = c.rounds.set.items in
    let grown : List Bool = c.in_ok-grown.grown.items in
    let closed : List Bool = c.in_ok-closed.closed.items in
    let reach : Exactly (Reached c.args.arrows.now (has set)) (has grown) =
    subst (λ (xs : List Bool). Exactly (Reached c.args.arrows.now (has xs)) (has grown)) c.as_slice.ensures.value c.in_ok-grown.ensures.exact in
    let closes : ClosesOnce p starts c.args.looked.now grown closed =
    subst (λ (xs : List Bool). ClosesOnce p starts c.args.looked.now xs closed) c.as_slice-in-rounds.ensures.value c.in_ok-closed.ensures.closes in
    let same : members closed ≡ members grown =
    sym (c.count.ensures ∙ ap members c.as_slice-in-rounds-2.ensures.value) ∙ c.if-count.true ∙ c.count-in-rounds.ensures ∙ ap members c.as_slice-in-rounds-3.ensures.value in
    found p c.requires.whole t f l starts c.args.places.now.laid_out c.args.looked.now c.args.arrows.now ready set grown closed
    (c.rounds.invariant.way t f l ready given) reach closes
    (omega (arith, c.in_ok-closed.ensures.len, ap length c.as_slice-in-rounds.ensures.value)) same

pub rounds-smaller : goal.rounds-smaller
rounds-smaller c =
    let p = c.args.places.now.program.now in
    let starts : List ℕ = c.args.places.now.starts.items in
    let set : List Bool = c.rounds.set.items in
    let grown : List Bool = c.in_ok-grown.grown.items in
    let closed : List Bool = c.in_ok-closed.closed.items in
    let reach : Exactly (Reached c.args.arrows.now (has set)) (has grown) =
    subst (λ (xs : List Bool). Exactly (Reached c.args.arrows.now (has xs)) (has grown)) c.as_slice.ensures.value c.in_ok-grown.ensures.exact in
    let closes : ClosesOnce p starts c.args.looked.now grown closed =
    subst (λ (xs : List Bool). ClosesOnce p starts c.args.looked.now xs closed) c.as_slice-in-rounds.ensures.value c.in_ok-closed.ensures.closes in
    let one : length set ≡ length grown = omega (arith, c.in_ok-grown.ensures.len, ap length c.as_slice.ensures.value) in
    let other : length grown ≡ length closed = omega (arith, c.in_ok-closed.ensures.len, ap length c.as_slice-in-rounds.ensures.value) in
    let up = members-within set grown one (λ k h. reach.all k (begins k h)) in
    let more = members-within grown closed other closes.grows in
    let told : c.count.result ≡ members closed = c.count.ensures ∙ ap members c.as_slice-in-rounds-2.ensures.value in
    let told' : c.count-in-rounds.result ≡ members grown = c.count-in-rounds.ensures ∙ ap members c.as_slice-in-rounds-3.ensures.value in
    falls (length set) (length grown) (length closed) (members set) (members grown) (members closed) one other up more (count_by-le-length (λ x. x) closed)
    (λ e. c.if-count.false (told ∙ e ∙ sym told'))
