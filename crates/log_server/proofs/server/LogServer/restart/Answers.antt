use Rattle.log_server.proofs.Keeping.{reopening}
use Rattle.log_server.proofs.server.LogServer.restart.Goals as goal

pub returns-in-Ok-clause-any_crash : goal.returns-in-Ok-clause-any_crash
returns-in-Ok-clause-any_crash g c = let i = c.self.inside in reopening i.held i.kept i.stops i.restarts c.args.self.now c.reopen.new.self.journal.disk c.self.invariant c.self.view_is c.reopen.ensures.any_crash

pub returns-in-Err-Memory-clause-any_crash : goal.returns-in-Err-Memory-clause-any_crash
returns-in-Err-Memory-clause-any_crash g c = let i = c.self.inside in reopening i.held i.kept i.stops i.restarts c.args.self.now c.reopen.new.self.journal.disk c.self.invariant c.self.view_is c.reopen.ensures.any_crash

pub returns-in-Err-Disk-clause-any_crash : goal.returns-in-Err-Disk-clause-any_crash
returns-in-Err-Disk-clause-any_crash g c = let i = c.self.inside in reopening i.held i.kept i.stops i.restarts c.args.self.now c.reopen.new.self.journal.disk c.self.invariant c.self.view_is c.reopen.ensures.any_crash
