-- What waits to be published: what is in the writer's log, and what is left outside it.
use Rattle.std.specs.Prelude.{◌≡◌, ℕ, List, [], ◌∷◌, ◌++◌, drop, map, Option, Some, None}
use Rattle.snap_reads.specs.declared.change.Published.{Published}
use Rattle.snap_reads.specs.declared.shown.Shown.{Shown}
use Rattle.snap_reads.specs.declared.shown.Op.{Op}
use Rattle.snap_reads.specs.declared.queue.Rest.{Rest}
use Rattle.snap_reads.specs.Tables.{IsRisingFrom}
use Rattle.snap_reads.specs.Steps.{Step, meant, says, steps_of, published_by, IsWhole}
use Rattle.snap_reads.specs.Rule.{Shows}

abbrev pub entry_of : Rest → ℕ × Published
entry_of r = (r.needless, r.of.value)

abbrev pub steps_left : Rest → List Step
steps_left r = drop r.next (steps_of (entry_of r))

abbrev pub left_of : Option Rest → List Step
left_of None = []
left_of (Some r) = steps_left r

abbrev pub queue_of : List Op → Option Rest → List Step
queue_of logged rest = map meant logged ++ left_of rest

-- what is shown is what is known, what waits is whole, and all positions rise
pub record IsSound (x : Shown) (seen : List Published) (queue : List Step) : Type 0 where
  pub shows : Shows (says x) seen
  pub whole : IsWhole queue
  pub rising : IsRisingFrom 0 (seen ++ published_by queue)
