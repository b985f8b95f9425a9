use Rattle.node_workers.proofs.steps.ReadyNodeStep.run.Goals as goal

pub make_ready-requires-clause-keeps : goal.make_ready-requires-clause-keeps
make_ready-requires-clause-keeps g c = c.requires.stays tt
