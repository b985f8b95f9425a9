use Rattle.std.proofs.Common.{◌≡◌, ◌∙◌, false, None, ap, subst}
use Rattle.log_server.specs.View.{View, Survives}
use Rattle.log_server.proofs.Keeping.{held_survives, not_true}
use Rattle.log_server.proofs.server.LogServer.is_up.Goals as goal

pub returns-clause-survives : goal.returns-clause-survives
returns-clause-survives g c = let i = c.self.inside in subst (λ (v : View). Survives v) c.self.view_is (held_survives i.held i.kept i.stops i.restarts c.self.invariant)

pub returns-clause-whole : goal.returns-clause-whole
returns-clause-whole g c =
    λ up. subst (λ (v : View). v.server.torn ≡ None) c.self.view_is (c.self.invariant.kept.whole (not_true c.self.inside.kept.journal.shut (ap (λ (v : View). v.server.up) c.self.view_is ∙ up)))

pub returns-clause-running : goal.returns-clause-running
returns-clause-running g c =
    λ up. subst (λ (v : View). v.disk.stopped ≡ false) c.self.view_is (c.self.invariant.kept.survives.running (not_true c.self.inside.kept.journal.shut (ap (λ (v : View). v.server.up) c.self.view_is ∙ up)))
