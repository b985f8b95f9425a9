use Rattle.node_workers.proofs.steps.LeastNodeStep.run.Goals as goal

pub measure_least-requires-clause-keeps : goal.measure_least-requires-clause-keeps
measure_least-requires-clause-keeps g c = c.requires.stays tt
