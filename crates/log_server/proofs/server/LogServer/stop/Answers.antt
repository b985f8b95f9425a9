use Rattle.std.proofs.Common.{ap, ◌∙◌}
use Rattle.disk_model.specs.Disk.{DiskView}
use Rattle.log_server.specs.View.{View}
use Rattle.log_server.specs.Holding.{server_with}
use Rattle.log_server.proofs.Keeping.{held_survives, not_true}
use Rattle.log_server.proofs.server.LogServer.stop.Goals as goal

pub returns-clause-survives : goal.returns-clause-survives
returns-clause-survives g c =
    let i = c.self.inside in
    held_survives i.held c.stop.new.self i.stops i.restarts (record { sound = c.self.invariant.sound; kept = c.stop.ensures.kept (server_with i.held) c.self.invariant.kept })

pub returns-clause-arms : goal.returns-clause-arms
returns-clause-arms g c =
    let i = c.self.inside in
    λ up. ap (λ (d : DiskView). d.armed) (c.stop.ensures.arms (server_with i.held) c.self.invariant.kept (not_true i.kept.journal.shut (ap (λ (v : View). v.server.up) c.self.view_is ∙ up)))
