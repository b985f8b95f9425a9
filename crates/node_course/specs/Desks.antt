-- What is known of a session, and of its lines that were played.
use Rattle.std.specs.Prelude.{◌≡◌, ℕ, ◌+◌, ◌<◌, ◌≤◌, ◌⊎◌, ◌==◌, ◌&&◌, true, List, length, take, count_by, slice_get, Option, Some, None, IsSome}
use Rattle.std.specs.FinMap as finmap
use Rattle.std.specs.List.{list_any}
use Rattle.delos_types.specs.declared.entry.Entry.{Entry}
use Rattle.delos_types.specs.declared.cause.Cause.{Cause}
use Rattle.table_core.specs.declared.command.Query.{Query}
use Rattle.table_core.specs.declared.command.Found.{Found}
use Rattle.table_core.specs.Find.{find_in}
use Rattle.virtual_log.specs.Holding.{Holds}
use Rattle.engine_api.specs.Acted.{asked_in, table_after}
use Rattle.engine_api.specs.Order.{gap_from}
use Rattle.log_laws.specs.State.{acts_in}
use Rattle.base_engine.specs.Reading.{IsFront}
use Rattle.script_text.specs.declared.line.Admin.{Admin}
use Rattle.script_text.specs.declared.line.Admin.TheVariants.{Extend, Alive, Retire, Trim}
use Rattle.script_text.specs.declared.asks.NamedLine.{NamedLine}
use Rattle.script_text.specs.declared.asks.Asks.{Asks}
use Rattle.script_text.specs.declared.asks.Asks.TheVariants as asks
use Rattle.fitting_run.specs.Lines.{logs_for}
use Rattle.node_lines.specs.declared.desk.Desk.{Desk}
use Rattle.node_lines.specs.declared.lines.Looked.{Looked}
use Rattle.node_lines.specs.declared.lines.Looked.TheVariants as looked
use Rattle.run_laws.specs.Ended.{CameTo, rank_in}
use Rattle.node_course.specs.Script.{asked_by}
use Rattle.node_course.specs.Reporting.{ReportedSo}
use Rattle.node_course.specs.Leaving.{LeftSo}
use Rattle.node_course.specs.Moments.{NodeCourse, tails}

-- Lines that were played

-- rank r has acted below the tail at which the next phase begins, in what the node has applied
pub record HasActed (c : NodeCourse) (cursor phase s r : ℕ) : Type 0 where
  pub log : List Entry
  pub front : IsFront Holds c.seen log
  pub within : length log ≤ cursor
  pub upto : length log ≤ tails c (phase + 1)
  pub acted : r < gap_from (asked_in 0 log) s 1

-- the rank isn't above those that were answered as the session was stopped, if it was
abbrev pub IsUpTo : Option ℕ → ℕ → Type 0
IsUpTo None r = Unit {0}
IsUpTo (Some a) r = r ≤ a

-- Of a logged command: it has acted as its phase ends, unless its session is stopped below it; and once that is stopped, no
-- more is sent. The phases below `done` have ended.
pub record LoggedSo (c : NodeCourse) (done cursor : ℕ) (d : Desk) (phase s r : ℕ) : Type 0 where
  pub acted : phase < done → IsUpTo d.answered r → HasActed c cursor phase s r
  pub unsent : (a : ℕ) → d.answered ≡ Some a → c.when s < phase → d.sent < r

-- its session wasn't stopped in an earlier phase
abbrev pub WasFree : NodeCourse → Desk → ℕ → ℕ → Type 0
WasFree c d phase s = (a : ℕ) → d.answered ≡ Some a → phase ≤ c.when s

-- the read saw just its session's commands so far, in its phase, in what the node has applied
pub record SawSo (lines : List NamedLine) (c : NodeCourse) (cursor : ℕ) (d : Desk) (i phase s : ℕ) (query : Query) (after : ℕ) (found : Found) : Type 0 where
  pub log : List Entry
  pub front : IsFront Holds c.seen log
  pub size : length log ≡ after
  pub within : after ≤ cursor
  pub sees : gap_from (asked_in 0 log) s 1 ≡ count_by (logs_for s) (take i lines) + 1
  pub shows : found ≡ find_in (table_after finmap.empty (acts_in log)) query
  pub from : tails c phase ≤ after
  pub upto : after ≤ tails c (phase + 1)
  pub free : WasFree c d phase s
  -- those were answered, if its session was stopped later
  pub answered : (a : ℕ) → d.answered ≡ Some a → count_by (logs_for s) (take i lines) ≤ a

-- a session was stopped with this cause in an earlier phase
pub record WasStopped (c : NodeCourse) (d : Desk) (phase s : ℕ) (cause : Cause) : Type 0 where
  pub answered : IsSome d.answered
  pub cause_is : d.stopped ≡ Some cause
  pub earlier : c.when s < phase

-- some line of the session before it, in its phase, is logged
abbrev pub LogsBefore : List NamedLine → ℕ → ℕ → ℕ → Type 0
LogsBefore lines i s phase = list_any (λ l. logs_for s l && (l.phase == phase)) (take i lines) ≡ true

abbrev pub LookedSo : List NamedLine → NodeCourse → ℕ → ℕ → Desk → ℕ → ℕ → ℕ → Query → Looked → Type 0
LookedSo lines c cursor n d i phase s query (looked.Found after found) = SawSo lines c cursor d i phase s query after found
LookedSo lines c cursor n d i phase s query (looked.Kept cause) = WasStopped c d phase s cause ⊎ (LogsBefore lines i s phase × CameTo c.faults cause n phase × WasFree c d phase s)
LookedSo lines c cursor n d i phase s query (looked.Failed cause) = WasFree c d phase s
LookedSo lines c cursor n d i phase s query (looked.Extended extension) = ⊥
LookedSo lines c cursor n d i phase s query (looked.Reported position) = ⊥
LookedSo lines c cursor n d i phase s query looked.Left = ⊥
LookedSo lines c cursor n d i phase s query (looked.Trimmed trim) = ⊥

-- the last loglet was replaced, or couldn't be, or the node reported, or left, or trimmed the log, as it was asked; or the log
-- failed, or the disk
abbrev pub IsOfNode : Admin → Looked → Type 0
IsOfNode Extend (looked.Extended extension) = Unit {0}
IsOfNode Extend (looked.Failed cause) = Unit {0}
IsOfNode Alive (looked.Reported position) = Unit {0}
IsOfNode Alive (looked.Failed cause) = Unit {0}
IsOfNode Retire looked.Left = Unit {0}
IsOfNode Retire (looked.Failed cause) = Unit {0}
IsOfNode Trim (looked.Trimmed trim) = Unit {0}
IsOfNode Trim (looked.Failed cause) = Unit {0}
IsOfNode admin look = ⊥

-- line i was played, at the desk of its session, or at the node itself
abbrev pub PlayedSo : List NamedLine → NodeCourse → ℕ → ℕ → ℕ → List Desk → List (Option Looked) → ℕ → ℕ → Asks → Type 0
PlayedSo lines c done cursor n desks looks i phase (asks.Logged s r command) = (d : Desk) → slice_get desks s.id ≡ Some d → LoggedSo c done cursor d phase s.id r
PlayedSo lines c done cursor n desks looks i phase (asks.Look s query) =
    (look : Looked) × (slice_get looks i ≡ Some (Some look)) × ((d : Desk) → slice_get desks s.id ≡ Some d → LookedSo lines c cursor n d i phase s.id query look)
PlayedSo lines c done cursor n desks looks i phase (asks.Admin a) =
    (look : Looked) × (slice_get looks i ≡ Some (Some look)) × IsOfNode a look × ReportedSo c.seen (tails c phase) cursor n look × LeftSo c.seen cursor n look

-- Sessions

-- the line that logs this rank, in that phase or before
pub record LogsIn (lines : List NamedLine) (s r phase : ℕ) : Type 0 where
  pub at : ℕ
  pub line : NamedLine
  pub is : slice_get lines at ≡ Some line
  pub logs : logs_for s line ≡ true
  pub rank : rank_in line.asks ≡ r
  pub early : line.phase ≤ phase

-- a session was stopped, by a fault that came to its node then; so many of its commands were answered, all those of earlier
-- phases among them
pub record WasEnded (lines : List NamedLine) (c : NodeCourse) (n done s : ℕ) (d : Desk) (a : ℕ) : Type 0 where
  pub cause : Cause
  pub is : d.stopped ≡ Some cause
  pub came : CameTo c.faults cause n (c.when s)
  pub before : c.when s < done
  pub unanswered : LogsIn lines s (a + 1) (c.when s)
  pub earlier : (i : ℕ) (l : NamedLine) → slice_get lines i ≡ Some l → logs_for s l ≡ true → l.phase < c.when s → rank_in l.asks ≤ a

-- it was stopped in the present phase, which hasn't ended, by a fault that came then; a command of it was asked in this phase
pub record IsHalted (lines : List NamedLine) (c : NodeCourse) (n from at done s : ℕ) (cause : Cause) : Type 0 where
  pub came : CameTo c.faults cause n c.phase
  pub running : done ≤ c.phase
  pub asked : asked_by lines n s from < asked_by lines n s at

-- Of a session at a node, of whose lines those up to `at` were played; the phase's lines begin at `from`.
pub record DeskAt (lines : List NamedLine) (home : ℕ → ℕ) (c : NodeCourse) (n from at done s : ℕ) (d : Desk) : Type 0 where
  pub asked : d.asked ≡ asked_by lines n s at
  pub ended : (a : ℕ) → d.answered ≡ Some a → WasEnded lines c n done s d a
  -- no session is closed but at its home
  pub here : (a : ℕ) → d.answered ≡ Some a → home s ≡ n
  pub halted : (cause : Cause) → d.answered ≡ None → d.stopped ≡ Some cause → IsHalted lines c n from at done s cause
  -- then the last of what it asked wasn't sent
  pub held : (cause : Cause) → d.answered ≡ None → d.stopped ≡ Some cause → d.sent < d.asked
