use Rattle.log_server.specs.Holding.{server_with}
use Rattle.log_server.proofs.Servers.{more_changes}
use Rattle.log_server.proofs.held.HeldKeptValue.spell.Goals as goal

pub returns : goal.returns
returns c = record {
  follows = λ records held. more_changes c.record_of_change.result (server_with c.args.self.now) c.args.change.now c.requires.can c.record_of_change.ensures records held;
}
