-- What comes of a line of a session, and of the end of a phase.
use Rattle.std.specs.Prelude.{◌≡◌, ℕ, ◌+◌, ◌<◌, ◌≤◌, ◌⊎◌, List, [], ◌∷◌, length, Option, Some, None, is_none, nat_lt, ◌&&◌, Bool, true, false, if◌then◌else◌}
use Rattle.std.specs.FinMap as finmap
use Rattle.std.specs.Option.{option_or}
use Rattle.delos_types.specs.declared.entry.Entry.{Entry}
use Rattle.delos_types.specs.declared.cause.Cause.{Cause}
use Rattle.table_core.specs.declared.command.Query.{Query}
use Rattle.table_core.specs.declared.command.Found.{Found}
use Rattle.table_core.specs.Find.{find_in}
use Rattle.legal_journal.specs.Law.{Law}
use Rattle.legal_journal.specs.declared.events.Event.{Event}
use Rattle.legal_journal.specs.Journal.{state_of, tail_of}
use Rattle.virtual_log.specs.Holding.{Holds, IsTrimmed}
use Rattle.engine_api.specs.Acted.{asked_in, table_after}
use Rattle.engine_api.specs.Order.{gap_from}
use Rattle.log_laws.specs.State.{acts_in}
use Rattle.base_engine.specs.Following.{EndsBy}
use Rattle.base_engine.specs.Reading.{IsFront}
use Rattle.base_engine.specs.Settling.{cause_in}
use Rattle.base_engine.specs.Node.{NodeView}
use Rattle.node_lines.specs.declared.desk.Desk.{Desk}
use Rattle.node_lines.specs.declared.lines.Looked.{Looked}
use Rattle.node_lines.specs.declared.lines.Looked.TheVariants as looked
use Rattle.node_lines.specs.Answered.{AreAllAnswers, InFront}
use Rattle.node_lines.specs.UnderWay.{IsGiven}
use Rattle.node_lines.specs.declared.steps.Synced.{Synced}
use Rattle.node_lines.specs.declared.steps.Synced.TheVariants as synced
use Rattle.node_lines.specs.Moving.{Moves, CarriesFirst, failure_of}

-- a session has no cause, and wasn't stopped
abbrev pub IsFree : NodeView → Desk → Type 0
IsFree n d = (d.stopped ≡ None) × (cause_in d.session n.outbox.given ≡ None)

-- a sync that failed stops a session
abbrev pub stopped_by : Synced → Option Cause → Option Cause
stopped_by (synced.At tail) stopped = stopped
stopped_by (synced.Failed c) stopped = Some c

-- All was carried to its end and played. Where the session is free still, its next command is near.
pub record CatchesUp (law : Law) (old new : NodeView) (was is : Desk) : Type 0 where
  pub synced : Synced
  pub moves : Moves law old new (failure_of synced)
  pub desk : is ≡ record was { answers = is.answers; stopped = stopped_by synced was.stopped }
  pub near : IsFree new is → is.sent + 1 ≤ length is.answers.items + 64

-- A session that is ready has no cause, and its next command is near. One that isn't has a cause, or was stopped by that of
-- a sync.
pub record Readies (law : Law) (old new : NodeView) (was is : Desk) (ready : Bool) : Type 0 where
  pub others : List Cause
  pub moves : Moves law old new others
  pub desk : is ≡ record was { answers = is.answers; stopped = is.stopped }
  pub stops : ((others ≡ []) × (is.stopped ≡ was.stopped)) ⊎ ((c : Cause) × (others ≡ c ∷ []) × (was.stopped ≡ None) × (is.stopped ≡ Some c))
  pub free : ready ≡ true → IsFree new is × (is.sent + 1 ≤ length is.answers.items + 64)
  pub held : ready ≡ false → IsFree new is → ⊥

-- The table after a front of the log in which just the session's commands so far have acted answers so.
pub record Shows (seen : List Event) (s sent : ℕ) (query : Query) (after : ℕ) (found : Found) : Type 0 where
  pub log : List Entry
  pub front : IsFront Holds seen log
  pub size : length log ≡ after
  pub sees : gap_from (asked_in 0 log) s 1 ≡ sent + 1
  pub shows : found ≡ find_in (table_after finmap.empty (acts_in log)) query

-- A read saw its session's commands so far, and its position isn't below any tail that was answered before; or it was kept
-- open by the session's cause; or a sync failed. It is found, or open by the sync, only where the session has no cause once all
-- that was outstanding was carried to its end.
abbrev pub LooksSo : NodeView → NodeView → Desk → Query → List Cause → Looked → Type 0
LooksSo old new d query others (looked.Found after found) = (others ≡ []) × IsFree new d × (tail_of (state_of old.seen) ≤ after) × Shows new.seen d.session d.sent query after found × (after ≡ new.replica.cursor)
LooksSo old new d query others (looked.Kept c) = (others ≡ []) × (((d.stopped ≡ Some c)) ⊎ ((d.stopped ≡ None) × (cause_in d.session new.outbox.given ≡ Some c)))
LooksSo old new d query others (looked.Failed c) = (others ≡ c ∷ []) × IsFree new d
LooksSo old new d query others (looked.Extended x) = ⊥
LooksSo old new d query others (looked.Reported position) = ⊥
LooksSo old new d query others looked.Left = ⊥
LooksSo old new d query others (looked.Trimmed trim) = ⊥

pub record Looks (law : Law) (old new : NodeView) (d : Desk) (query : Query) (answer : Looked) : Type 0 where
  pub others : List Cause
  pub moves : Moves law old new others
  pub looks : LooksSo old new d query others answer

-- in a log, the session's first commands up to this one have acted
abbrev pub HasActedTo : ℕ → ℕ → List Entry → Type 0
HasActedTo s sent log = sent < gap_from (asked_in 0 log) s 1

abbrev pub failure_in : Option Cause → List Cause
failure_in None = []
failure_in (Some c) = c ∷ []

-- All was carried to its end and played. Where a tail was found, what comes next for the node is trimmed, or what a session was given
-- has acted, if it has no cause; and the log ends no higher than what the node has applied then, where no event of another came
-- meanwhile and nothing was trimmed above where the node was.
pub record EndsPhase (law : Law) (old new : NodeView) (failed : Option Cause) : Type 0 where
  pub moves : Moves law old new (failure_in failed)
  pub first : CarriesFirst law old new (failure_in failed)
  pub none : new.outbox.entries ≡ []
  pub unsettled : new.outbox.unsettled ≡ None
  pub kept : new.replica.kept ≡ []
  pub acted : failed ≡ None → IsTrimmed new.seen new.replica.cursor ⊎ ((s sent : ℕ) → cause_in s new.outbox.given ≡ None → IsGiven old.seen old.outbox.entries old.replica.kept s sent → InFront new.seen new.replica.cursor (HasActedTo s sent))
  pub exact : failed ≡ None → EndsBy old.who old.replica.cursor old.seen new.replica.cursor new.seen

-- a session that has commands which weren't answered is stopped, unless it was at the end of an earlier phase
abbrev pub stopped_unanswered : Option Cause → Desk → Desk
stopped_unanswered cause d =
    if is_none d.answered && nat_lt (length d.answers.items) d.asked
    then record d { stopped = cause; answered = Some (length d.answers.items) }
    else d

-- A session is stopped with a cause, so many of its commands being answered, where it has more that aren't.
pub record Stopped (n : NodeView) (failed : Option Cause) (old new : Desk) : Type 0 where
  pub first : old.answered ≡ None
  pub cause : Cause
  pub stopped : new.stopped ≡ Some cause
  pub why : option_or (option_or old.stopped (cause_in old.session n.outbox.given)) failed ≡ Some cause
  pub answered : new.answered ≡ Some (length new.answers.items)
  pub more : length new.answers.items < old.asked

pub record Closes (n : NodeView) (failed : Option Cause) (old new : Desk) : Type 0 where
  pub rest : new ≡ record old { answers = new.answers; stopped = new.stopped; answered = new.answered }
  pub all : InFront n.seen n.replica.cursor (λ log. AreAllAnswers log old.session new.answers.items)
  pub ends : Stopped n failed old new ⊎ ((new.stopped ≡ old.stopped) × (new.answered ≡ old.answered) × (old.answered ≡ None → old.asked ≤ length new.answers.items))
