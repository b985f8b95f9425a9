-- A run of a loglet: one step after another.
use Rattle.std.specs.Prelude.{◌≡◌, List, [], ◌∷◌}
use Rattle.loglet_api.specs.declared.call.LogletCall.{LogletCall}
use Rattle.loglet_api.specs.declared.call.LogletAnswer.{LogletAnswer}
use Rattle.loglet_api.specs.View.{LogletView}
use Rattle.loglet_api.specs.Step.{LogletStep}

-- each call, with its answer, is a step from what the one before it left
abbrev pub LogletRun : LogletView → List (LogletCall × LogletAnswer) → LogletView → Type 0
LogletRun old [] new = new ≡ old
LogletRun old (step ∷ steps) new = (mid : LogletView) × LogletStep old step.0 step.1 mid × LogletRun mid steps new
