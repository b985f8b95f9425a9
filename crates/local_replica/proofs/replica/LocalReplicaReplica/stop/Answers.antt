use Rattle.local_replica.proofs.replica.LocalReplicaReplica.stop.Goals as goal

pub returns : goal.returns
returns g c = c.stop.ensures.shows c.args.self.now.origin (g.E.Layers.waiting c.args.self.now.engines) c.args.self.now.reopenings
