use Rattle.std.proofs.Common.{[]}
use Rattle.local_replica.proofs.replica.LocalReplicaReplica.reopen.Goals as goal

pub returns-clause-reopens : goal.returns-clause-reopens
returns-clause-reopens g c = c.reopen.ensures.reopens c.args.self.now.origin (g.E.Layers.waiting c.args.self.now.engines) c.args.self.now.stops

pub returns-clause-survives : goal.returns-clause-survives
returns-clause-survives g c = c.reopen.ensures.survives c.args.self.now.origin [] c.args.self.now.stops

pub returns-clause-any_crash : goal.returns-clause-any_crash
returns-clause-any_crash g c = c.reopen.ensures.any_crash c.args.self.now.origin [] c.args.self.now.stops
