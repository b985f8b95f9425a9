use Rattle.std.proofs.Common.{◌++◌, ap, sym, ◌∙◌, subst, List, ℕ}
use Rattle.pass_lock.specs.Journal.{Signed}
use Rattle.pass_lock.proofs.Passes.{busy_is, given-is}
use Rattle.pass_lock.proofs.lock.Shared.leave.Goals as goal

pub give-requires-clause-grew : goal.give-requires-clause-grew
give-requires-clause-grew g c = let grew = c.requires.grew in let place = c.pass.inside.place in let busy = busy_is place c.args.pass.now c.pass.view_is c.requires.inside in (
  grew.0,
  grew.1 ∙ ap (λ (l : List g.row.S-Entry.Denot). l ++ grew.0) (given-is place c.args.pass.now c.pass.view_is busy),
  subst (λ (p : List (ℕ × List g.row.S-Entry.Denot)). Signed g.S.Chronicled.signer p grew.0) (sym (ap (λ k. k.parts) c.pass.view_is)) grew.2,
)
