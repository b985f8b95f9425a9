-- What the events of one user tell.
use Rattle.std.specs.Prelude.{ℕ, ◌==◌, List, filter}
use Rattle.delos_types.specs.declared.cause.Cause.{Cause}
use Rattle.legal_journal.specs.declared.events.Event.{Event}
use Rattle.journal_laws.specs.Faults.{faults_in}

-- who's events, in order
abbrev pub own : ℕ → List Event → List Event
own who events = filter (λ e. e.who == who) events

-- the faults that they tell
abbrev pub faults_of : ℕ → List Event → List Cause
faults_of who events = faults_in (own who events)
