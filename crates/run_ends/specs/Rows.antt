-- The rows that a run tells once it has closed.
use Rattle.std.specs.Prelude.{◌≡◌, ℕ, ◌+◌, ◌<◌, ◌≤◌, ◌⊎◌, nat_lt, Bool, true, false, List, [], ◌∷◌, length, slice_get, Option, Some, None, IsSome}
use Rattle.delos_types.specs.declared.place.Place.{Place}
use Rattle.table_core.specs.declared.command.Reply.{Reply}
use Rattle.engine_steps.specs.declared.layout.Kept.{Kept}
use Rattle.engine_steps.specs.Replies.{reply_text}
use Rattle.script_text.specs.declared.line.Admin.TheVariants.{Extend, Alive, Retire, Trim}
use Rattle.script_text.specs.declared.asks.NamedLine.{NamedLine}
use Rattle.script_text.specs.declared.asks.Asks.{Asks}
use Rattle.script_text.specs.declared.asks.Asks.TheVariants as asks
use Rattle.row_text.specs.declared.row.Row.{Row}
use Rattle.row_text.specs.declared.row.Outcome.{Outcome}
use Rattle.row_text.specs.declared.row.Outcome.TheVariants as out
use Rattle.fitting_run.specs.Answered.{session_asking}
use Rattle.fitting_run.specs.Outcomes.{names}
use Rattle.node_lines.specs.declared.desk.Desk.{Desk}
use Rattle.node_lines.specs.declared.lines.Looked.{Looked}
use Rattle.node_lines.specs.declared.lines.Looked.TheVariants as looked
use Rattle.virtual_log.specs.declared.extend.Extension.TheVariants.{Extended, Moved, NoSpare}
use Rattle.log_laws.specs.Told.{IsTold}
use Rattle.run_laws.specs.Ended.{Played}
use Rattle.node_course.specs.Script.{failure_of_look}
use Rattle.node_course.specs.Desks.{IsOfNode}
use Rattle.run_ends.specs.Closing.{WorkerEnd}
use Rattle.run_ends.specs.Ends.{desk_in, desks_at}

-- the rank is above those that were answered as the session was stopped, if it was
abbrev pub is_behind : Option ℕ → ℕ → Bool
is_behind None r = false
is_behind (Some a) r = nat_lt a r

-- the command was placed where its answer says, with the reply that it keeps the text of
pub record TellsPlace (d : Desk) (r : ℕ) (place : Place) (reply : Option Reply) (late : Bool) : Type 0 where
  pub index : ℕ
  pub rank : r ≡ index + 1
  pub kept : Kept
  pub at : slice_get d.answers.items index ≡ Some kept
  pub place_is : place ≡ kept.place
  pub reply_is : (x : Option Reply) → IsTold x → kept.reply ≡ reply_text x → reply ≡ x
  pub late_is : late ≡ is_behind d.answered r

-- the desk of a line's session at its node; what is asked of a node itself has none
abbrev pub desk_for : List WorkerEnd → ℕ → Asks → Option Desk
desk_for workers node (asks.Logged s r command) = desk_in (desks_at workers node) s.id
desk_for workers node (asks.Look s query) = desk_in (desks_at workers node) s.id
desk_for workers node (asks.Admin a) = None

-- what a line is answered, by its session's desk, if it has one, and by what its own look came to
abbrev pub Tells : Option Desk → Option Looked → Asks → Outcome → Type 0
Tells (Some d) look (asks.Logged s r command) (out.Placed place reply late) = TellsPlace d r place reply late
Tells (Some d) look (asks.Logged s r command) (out.Open cause) = (length d.answers.items < r) × (d.stopped ≡ Some cause)
Tells (Some d) look (asks.Look s query) (out.Read after found) = look ≡ Some (looked.Found after found)
Tells (Some d) look (asks.Look s query) (out.Open cause) = (look ≡ Some (looked.Kept cause)) ⊎ (look ≡ Some (looked.Failed cause))
Tells None look (asks.Admin Extend) (out.Extended version start) = look ≡ Some (looked.Extended (Extended version start))
Tells None look (asks.Admin Extend) (out.Moved version) = look ≡ Some (looked.Extended (Moved version))
Tells None look (asks.Admin Extend) out.NoSpare = look ≡ Some (looked.Extended NoSpare)
Tells None look (asks.Admin Extend) (out.Open cause) = look ≡ Some (looked.Failed cause)
Tells None look (asks.Admin Alive) (out.Alive clean) = look ≡ Some (looked.Reported clean)
Tells None look (asks.Admin Alive) (out.Open cause) = look ≡ Some (looked.Failed cause)
Tells None look (asks.Admin Retire) out.Retired = look ≡ Some looked.Left
Tells None look (asks.Admin Retire) (out.Open cause) = look ≡ Some (looked.Failed cause)
Tells None look (asks.Admin Trim) (out.Trimmed trim) = look ≡ Some (looked.Trimmed trim)
Tells None look (asks.Admin Trim) (out.Open cause) = look ≡ Some (looked.Failed cause)
Tells desk look asked answered = ⊥

pub record IsRowOf (l : NamedLine) (d : Option Desk) (look : Option Looked) (row : Row) : Type 0 where
  pub number : row.number ≡ l.number
  pub who : names row.who l.node (session_asking l.asks) ≡ true
  pub tells : Tells d look l.asks row.outcome

-- one row for each line, by the desk of its session at its node
pub record AreRows (lines : List NamedLine) (workers : List WorkerEnd) (looks : List (Option Looked)) (rows : List Row) : Type 0 where
  pub size : length rows ≡ length lines
  pub each : (i : ℕ) (l : NamedLine) (look : Option Looked) (row : Row) → slice_get lines i ≡ Some l → slice_get looks i ≡ Some look → slice_get rows i ≡ Some row → IsRowOf l (desk_for workers l.node l.asks) look row

-- the table was looked at, or couldn't be
abbrev pub IsOfTable : Looked → Type 0
IsOfTable (looked.Found after found) = Unit {0}
IsOfTable (looked.Kept cause) = Unit {0}
IsOfTable (looked.Failed cause) = Unit {0}
IsOfTable (looked.Extended extension) = ⊥
IsOfTable (looked.Reported position) = ⊥
IsOfTable looked.Left = ⊥
IsOfTable (looked.Trimmed trim) = ⊥

-- A logged command is answered, or its session was stopped; a read was played, and so was what a node itself was asked.
abbrev pub TellsIt : Option Desk → Option Looked → Asks → Type 0
TellsIt (Some d) look (asks.Logged s r command) = (1 ≤ r) × ((r ≤ length d.answers.items) ⊎ IsSome d.stopped)
TellsIt (Some d) (Some look) (asks.Look s query) = IsOfTable look
TellsIt None (Some look) (asks.Admin a) = IsOfNode a look
TellsIt desk look asked = ⊥

-- what the row of line i is told by: the desk of its session at its node, and what its own look came to
pub record CanTellLine (workers : List WorkerEnd) (looks : List (Option Looked)) (i : ℕ) (l : NamedLine) : Type 0 where
  pub look : Option Looked
  pub look_at : slice_get looks i ≡ Some look
  pub tells : TellsIt (desk_for workers l.node l.asks) look l.asks

-- each line has what its row is told by
pub record CanTell (lines : List NamedLine) (workers : List WorkerEnd) (looks : List (Option Looked)) : Type 0 where
  pub size : length looks ≡ length lines
  pub each : (i : ℕ) (l : NamedLine) → slice_get lines i ≡ Some l → CanTellLine workers looks i l

-- each line with its row, and why its own look failed, if it did
abbrev pub played_of : List NamedLine → List Row → List (Option Looked) → List Played
played_of [] rows looks = []
played_of (l ∷ lines) [] looks = []
played_of (l ∷ lines) (row ∷ rows) [] = []
played_of (l ∷ lines) (row ∷ rows) (look ∷ looks) = record { line = l; row = row; paid = failure_of_look look } ∷ played_of lines rows looks
