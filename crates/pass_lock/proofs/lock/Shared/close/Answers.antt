use Rattle.std.proofs.Common.{ap, subst, List, ℕ}
use Rattle.pass_lock.specs.Journal.{IsKnown, Signed}
use Rattle.pass_lock.proofs.lock.Shared.close.Goals as goal

pub returns-clause-seen : goal.returns-clause-seen
returns-clause-seen g c = subst (λ (p : List (ℕ × List g.row.S-Entry.Denot)). IsKnown g.S.Chronicled.signer (g.S.Chronicled.journal c.finish.result) p) (ap (λ k. k.parts) c.pass.view_is) c.finish.ensures.seen

pub returns-clause-signed : goal.returns-clause-signed
returns-clause-signed g c = subst (λ (p : List (ℕ × List g.row.S-Entry.Denot)). Signed g.S.Chronicled.signer p (g.S.Chronicled.journal c.finish.result)) (ap (λ k. k.parts) c.pass.view_is) c.finish.ensures.signed
