use Rattle.std.proofs.Common.{ap, sym, subst, List, ℕ, length, ◌<◌, ◌≡◌}
use Rattle.pass_lock.specs.Journal.{IsKnown, Signed}
use Rattle.pass_lock.specs.Pass.{all_parts}
use Rattle.pass_lock.proofs.Passes.{inside_after}
use Rattle.pass_lock.proofs.lock.Shared.enter.Goals as goal

pub returns-clause-seen : goal.returns-clause-seen
returns-clause-seen g c = subst (λ (p : List (ℕ × List g.row.S-Entry.Denot)). IsKnown g.S.Chronicled.signer (g.S.Chronicled.journal c.take-value.result.0) p) (ap (λ k. k.parts) c.pass.view_is) c.take-value.ensures.seen

pub invariant_of-pass : goal.invariant_of-pass
invariant_of-pass g c = let e = c.take-value.ensures in inside_after _ _ _ _ _ e.view e.slot e.number (subst (λ (p : List (ℕ × List g.row.S-Entry.Denot)). 0 < length p) (sym (ap (λ k. k.parts) c.pass.view_is)) c.requires.part)

pub returns-clause-signed : goal.returns-clause-signed
returns-clause-signed g c = subst (λ (p : List (ℕ × List g.row.S-Entry.Denot)). length p ≡ all_parts → Signed g.S.Chronicled.signer p (g.S.Chronicled.journal c.take-value.result.0)) (ap (λ k. k.parts) c.pass.view_is) c.take-value.ensures.signed
