use Rattle.node_workers.proofs.steps.CleanNodeStep.run.Goals as goal

pub measure_clean-requires-clause-keeps : goal.measure_clean-requires-clause-keeps
measure_clean-requires-clause-keeps g c = c.requires.stays tt
