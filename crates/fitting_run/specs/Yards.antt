-- What is read of a yard, as a view, and whether each cause came as often there as a row needs.
use Rattle.std.specs.Prelude.{Bool, true, nat_le, List, map, Option, Some, None, slice_get}
use Rattle.delos_types.specs.declared.cause.Cause.{Cause}
use Rattle.delos_types.specs.declared.cause.Cause.TheVariants as cause
use Rattle.loglet_api.specs.View.{LogletView}
use Rattle.fitting_run.specs.Answered.{Answered}
use Rattle.fitting_run.specs.Cells.{cell_of}
use Rattle.fitting_run.specs.Faults.{occasions, lacks_quorum, finds_full, lacks_of, faults_of}
use Rattle.fitting_run.specs.Registers.{register_of}
use Rattle.fitting_run.specs.Yard.{Shown}
use Rattle.fitting_run.specs.declared.faulting.YardShown.{YardShown}

abbrev pub shown : YardShown → Shown
shown y = record { cells = map cell_of y.cells.items; register = register_of y.register; disks = y.disks.items }

-- the loglet of which the cause tells lacked a quorum as often as the rows need
abbrev pub lacks_suffice : List Answered → List LogletView → Option Cause → Bool
lacks_suffice told cells None = true
lacks_suffice told cells (Some (cause.NoQuorum id unreached)) = nat_le (occasions (lacks_quorum id) told) (lacks_of (slice_get cells id))
lacks_suffice told cells (Some other) = true

-- the loglet that was full, as the cause tells, failed as often as the rows need
abbrev pub refusals_suffice : List Answered → List LogletView → Option Cause → Bool
refusals_suffice told cells None = true
refusals_suffice told cells (Some (cause.Full id)) = nat_le (occasions (finds_full id) told) (faults_of (slice_get cells id))
refusals_suffice told cells (Some other) = true
