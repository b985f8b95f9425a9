use Rattle.std.proofs.Common.{◌≡◌, drop}
use Rattle.world_steps.specs.Steps.{run_world}
use Rattle.world_steps.specs.Laws.{WorldLaw, any_append, any_trim}
use Rattle.world_steps.proofs.world.run_steps.Given as goal

abbrev pub invariant-loop-step : goal.invariant-loop-step
invariant-loop-step l = WorldLaw any_append any_trim l.parts × (run_world (drop l.step-index l.steps) l.parts ≡ run_world l.steps l.world)
