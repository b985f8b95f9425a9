-- What the steps of a world are in one of its cells.
use Rattle.std.specs.Prelude.{ℕ, ◌==◌, if◌then◌else◌, List, [], ◌∷◌, ◌++◌, Option, Some, None}
use Rattle.loglet_api.specs.declared.call.LogletCall.{LogletCall}
use Rattle.loglet_api.specs.declared.call.LogletAnswer.{LogletAnswer}
use Rattle.quorum_cell.specs.declared.operation.CellStep.{CellStep}
use Rattle.world_steps.specs.declared.step.WorldStep.{WorldStep}
use Rattle.world_steps.specs.Parts.{World}
use Rattle.world_steps.specs.Steps.{Deed, deed, world_step}

-- the steps of a quorum cell i that a deed is
abbrev pub step_in : ℕ → Option Deed → List CellStep
step_in i None = []
step_in i (Some d) = if d.at == i then d.steps else []

-- the steps that a quorum cell i takes, one after another
abbrev pub steps_in : ℕ → List WorldStep → World → List CellStep
steps_in i [] w = []
steps_in i (step ∷ steps) w = step_in i (deed w step) ++ steps_in i steps (world_step w step)

-- the calls of cell i that a deed is, as of a loglet
abbrev pub call_in : ℕ → Option Deed → List (LogletCall × LogletAnswer)
call_in i None = []
call_in i (Some d) = if d.at == i then d.calls else []

-- what cell i is called, and returns, one after another
abbrev pub calls_in : ℕ → List WorldStep → World → List (LogletCall × LogletAnswer)
calls_in i [] w = []
calls_in i (step ∷ steps) w = call_in i (deed w step) ++ calls_in i steps (world_step w step)
