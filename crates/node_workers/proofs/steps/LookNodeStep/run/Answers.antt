use Rattle.node_workers.proofs.steps.LookNodeStep.run.Goals as goal

pub look-requires-clause-keeps : goal.look-requires-clause-keeps
look-requires-clause-keeps g c = c.requires.stays tt
