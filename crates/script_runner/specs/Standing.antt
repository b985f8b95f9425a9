-- What stands once a run has ended, over the yard as it came back. The plan is that of the words; None where they have none.
use Rattle.std.specs.Prelude.{◌≢◌, Option}
use Rattle.script_words.specs.declared.plan.Plan.{Plan}
use Rattle.fitting_run.specs.Calm.{IsCalm}
use Rattle.fitting_run.specs.Yard.{Shown}
use Rattle.script_runner.specs.declared.ended.End.{End}
use Rattle.script_runner.specs.declared.ended.Status.TheVariants as status
use Rattle.script_runner.specs.Ends.{EndsView, Puts}

-- How a run ended, over source and sink as they were before and after: each status has what was told and put with it; and where the
-- yard counts no fault no row is open.
pub record HasEnded (plan : Option Plan) (before after : EndsView) (yard : Shown) (end : End) : Type 0 where
  pub puts : Puts plan before after yard end.status end.told end.refused
  pub calm : IsCalm yard → end.status ≢ status.Open
