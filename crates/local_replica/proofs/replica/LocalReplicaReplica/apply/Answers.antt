use Rattle.local_replica.proofs.replica.LocalReplicaReplica.apply.Goals as goal

pub returns-clause-takes : goal.returns-clause-takes
returns-clause-takes g c = c.apply.ensures.takes c.args.self.now.stops c.args.self.now.reopenings

pub returns-clause-survives : goal.returns-clause-survives
returns-clause-survives g c = c.apply.ensures.survives c.args.self.now.stops c.args.self.now.reopenings

pub returns-clause-any_crash : goal.returns-clause-any_crash
returns-clause-any_crash g c = c.apply.ensures.any_crash c.args.self.now.stops c.args.self.now.reopenings

pub returns-clause-posted : goal.returns-clause-posted
returns-clause-posted g c = c.apply.ensures.posted
