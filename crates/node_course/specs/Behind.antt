-- What a node's lines come to behind its report.
use Rattle.std.specs.Prelude.{◌≡◌, ℕ, ◌+◌, ◌<◌, ◌≤◌, List, Option, Contains}
use Rattle.delos_types.specs.declared.entry.Entry.{Entry}
use Rattle.table_core.specs.declared.command.Found.{Found}
use Rattle.table_core.specs.declared.command.Query.{Query}
use Rattle.legal_journal.specs.declared.events.Event.{Event}
use Rattle.script_text.specs.declared.line.Session.{Session}
use Rattle.script_text.specs.declared.asks.NamedLine.{NamedLine}
use Rattle.script_text.specs.declared.asks.Asks.TheVariants as asks
use Rattle.node_lines.specs.Measuring.{IsCleanPoint}
use Rattle.node_lines.specs.UnderWay.{HasRank}
use Rattle.node_lines.specs.Workers.{Grows, appended_by}
use Rattle.node_lines.specs.declared.lines.Looked.{Looked}
use Rattle.node_lines.specs.declared.lines.Looked.TheVariants as looked
use Rattle.node_course.specs.Script.{asked_by}
use Rattle.node_course.specs.Moments.{NodeCourse, moment}
use Rattle.node_course.specs.Played.{Came}

-- Line i of the node, of this phase, reported so many entries. They were clean at a moment before the phase's end, at which the node had
-- appended no command but of its lines before.
pub record WasReported (lines : List NamedLine) (n : ℕ) (c : NodeCourse) (i phase position : ℕ) : Type 0 where
  pub early : List Event
  pub upto : Grows early (moment c (phase + 1))
  pub clean : IsCleanPoint early position
  pub own : (s r : ℕ) (e : Entry) → Contains (appended_by n early) e → HasRank s r e → r ≤ asked_by lines n s i

-- so many entries are clean, and no fewer than were clean before
pub record IsCleanSince (old new : List Event) (position : ℕ) : Type 0 where
  pub clean : IsCleanPoint new position
  pub most : (n : ℕ) → IsCleanPoint old n → n ≤ position

-- each of its lines that reported, and that each read behind it looked at what it reported or above, and each later report is no less; and
-- behind a read, at no less
pub record ReportsHold (lines : List NamedLine) (looks : List (Option Looked)) (n : ℕ) (c : NodeCourse) : Type 0 where
  pub each : (i : ℕ) (l : NamedLine) (position : ℕ) → Came lines looks n i l (looked.Reported position) → WasReported lines n c i l.phase position
  pub reads : (i j : ℕ) (l m : NamedLine) (position after : ℕ) (found : Found) → Came lines looks n i l (looked.Reported position) → Came lines looks n j m (looked.Found after found) → i < j → position ≤ after
  pub forward : (i j : ℕ) (l m : NamedLine) (s : Session) (query : Query) (after later : ℕ) (found next : Found) → Came lines looks n i l (looked.Found after found) → Came lines looks n j m (looked.Found later next) → l.asks ≡ asks.Look s query → i < j
      → after ≤ later
  pub again : (i j : ℕ) (l m : NamedLine) (position later : ℕ) → Came lines looks n i l (looked.Reported position) → Came lines looks n j m (looked.Reported later) → i < j → position ≤ later
