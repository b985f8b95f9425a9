use Rattle.std.proofs.Common.{◌∙◌}
use Rattle.log_server.specs.Holding.{server_with}
use Rattle.log_server.proofs.Servers.{compacted_more}
use Rattle.log_server.proofs.held.HeldKeptValue.compacted.Goals as goal

pub returns : goal.returns
returns c =
    compacted_more c.in_ok-records.records.items c.push.new.self.items c.in_ok-from_slice.field-0 (server_with c.args.self.now) c.args.change.now c.in_ok-last.last
    c.in_ok-records.ensures c.requires.can c.in_ok-last.ensures (c.in_ok-from_slice.ensures.items ∙ c.as_slice.ensures) c.in_ok-push.ensures.items
