use Rattle.std.proofs.Common.{◌≡◌, ◌∙◌, sym, subst}
use Rattle.std.specs.Prelude.{IfSome}
use Rattle.terms.specs.Tree.{Tree, width_of}
use Rattle.write_log.proofs.chains.Candidate.choose.Goals as goal

pub ite-requires-clause-condition : goal.ite-requires-clause-condition
ite-requires-clause-condition g c = c.self.invariant

pub ite-requires-clause-arms : goal.ite-requires-clause-arms
ite-requires-clause-arms g c = subst (λ o. IfSome o (λ (t : Tree). width_of t ≡ 8)) c.in-Some.is c.in_ok-int_of.ensures.width ∙ sym c.requires
