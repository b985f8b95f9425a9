-- What is known of a node with its sessions, from line to line, over what it has seen.
use Rattle.std.specs.Prelude.{◌≡◌, ℕ, ◌+◌, ◌<◌, ◌≤◌, ◌^◌, min, List, [], ◌∷◌, count_by, slice_get, Option, Some, None}
use Rattle.std.specs.List.{AllByRecursion}
use Rattle.delos_types.specs.declared.entry.Entry.{Entry}
use Rattle.replica_api.specs.Replica.{Meaning}
use Rattle.table_core.specs.Spelling.{IsSpellable, command_length}
use Rattle.engine_api.specs.Packing.{packed, session_item, alive_item, leave_item, trim_item}
use Rattle.script_text.specs.declared.line.Admin.TheVariants.{Extend, Alive, Retire, Trim}
use Rattle.script_text.specs.declared.asks.NamedLine.{NamedLine}
use Rattle.script_text.specs.declared.asks.Asks.{Asks}
use Rattle.script_text.specs.declared.asks.Asks.TheVariants as asks
use Rattle.fitting_run.specs.Faults.{lacks_store}
use Rattle.turn_scopes.specs.Seats.{SeatView, node_of}
use Rattle.node_lines.specs.declared.desk.Desk.{Desk}
use Rattle.node_lines.specs.declared.lines.Looked.{Looked}
use Rattle.node_lines.specs.Moving.{IsQuiet, strikes}
use Rattle.node_lines.specs.Workers.{HasNotLeft, IsHome, ReportsUpTo, WorkerOk}
use Rattle.run_laws.specs.Ended.{CameTo, most_faults}
use Rattle.node_course.specs.Script.{asked_by, failed_looks}
use Rattle.legal_journal.specs.Law.{Law}
use Rattle.legal_journal.specs.declared.events.Event.{Event}
use Rattle.journal_laws.specs.Changes.{TrimsUpTo}
use Rattle.node_course.specs.Moments.{NodeCourse, GoesOn}
use Rattle.node_course.specs.Course.{IsCourse}
use Rattle.node_course.specs.Desks.{DeskAt, PlayedSo}

-- Of node n: its lines up to `at` were played, of which those of the present phase begin at `from`. The phases below `done` have
-- ended there.
pub record NodeAt (law : Law) (meaning : Meaning) (lines : List NamedLine) (home : ℕ → ℕ) (nodes : ℕ) (c : NodeCourse) (looks : List (Option Looked)) (n from at done : ℕ) (seat : SeatView) (desks : List Desk) : Type 0 where
  pub ok : WorkerOk law meaning n c.seen seat desks
  pub did : IsCourse law lines nodes n c looks
  pub nodes_is : seat.node.nodes ≡ nodes
  pub order : from ≤ at
  -- no line of a phase to come was played
  pub early : (i : ℕ) (l : NamedLine) → i < at → slice_get lines i ≡ Some l → l.node ≡ n → l.phase ≤ c.phase
  pub each : (s : ℕ) (d : Desk) → slice_get desks s ≡ Some d → DeskAt lines home c n from at done s d
  -- of a session that asked nothing in this phase nothing is on its way
  pub quiet : (s : ℕ) → asked_by lines n s from ≡ asked_by lines n s at → IsQuiet (node_of seat c.seen) s
  pub given : AllByRecursion (λ g. CameTo c.faults g.cause n c.phase) seat.node.outbox.given
  pub waiting : (i : ℕ) (l : NamedLine) → at ≤ i → slice_get lines i ≡ Some l → l.node ≡ n → slice_get looks i ≡ Some None
  pub played : (i : ℕ) (l : NamedLine) → i < at → slice_get lines i ≡ Some l → l.node ≡ n → PlayedSo lines c done seat.node.replica.cursor n desks looks i l.phase l.asks
  -- it reported no more than it has applied
  pub reports : ReportsUpTo n seat.node.replica.cursor c.seen
  -- its store's count began at 1, and rose by each fault
  pub stores : min (failed_looks (lacks_store n) lines looks + count_by (λ f. lacks_store n f.node f.cause) c.faults + 1) most_faults ≤ min (strikes seat.node.replica) most_faults

-- It waits between two phases, the lines of the next one beginning at `from`.
pub record Rests (law : Law) (meaning : Meaning) (lines : List NamedLine) (home : ℕ → ℕ) (nodes : ℕ) (c : NodeCourse) (looks : List (Option Looked)) (n from done : ℕ) (seat : SeatView) (desks : List Desk) : Type 0 where
  pub node : NodeAt law meaning lines home nodes c looks n from from done seat desks
  pub none_given : seat.node.outbox.given ≡ []

-- Nothing was asked at the node, and nothing is on its way there.
pub record HasNotBegun (seat : SeatView) (desks : List Desk) : Type 0 where
  -- a store that is down failed
  pub struck : 1 ≤ strikes seat.node.replica
  pub given : seat.node.outbox.given ≡ []
  pub quiet : (s : ℕ) → IsQuiet (node_of seat []) s
  pub asked : (s : ℕ) (d : Desk) → slice_get desks s ≡ Some d → d.asked ≡ 0
  pub answered : (s : ℕ) (d : Desk) → slice_get desks s ≡ Some d → d.answered ≡ None
  pub stopped : (s : ℕ) (d : Desk) → slice_get desks s ≡ Some d → d.stopped ≡ None

-- The node's course went on by a line of its own, to what the node has seen by now.
pub record LineWent (law : Law) (meaning : Meaning) (lines : List NamedLine) (home : ℕ → ℕ) (nodes : ℕ) (c : NodeCourse) (looks : List (Option Looked)) (n from at : ℕ) (journal : List Event) (seat : SeatView) (desks : List Desk) : Type 0 where
  pub course : NodeCourse
  pub seen_is : course.seen ≡ journal
  pub goes : GoesOn c course
  pub node : NodeAt law meaning lines home nodes course looks n from at course.phase seat desks

-- It went on by the end of the phase, or by last calls after it: the phases below `done` have ended.
pub record HasRested (law : Law) (meaning : Meaning) (lines : List NamedLine) (home : ℕ → ℕ) (nodes : ℕ) (c : NodeCourse) (looks : List (Option Looked)) (n from done : ℕ) (journal : List Event) (seat : SeatView) (desks : List Desk) : Type 0 where
  pub course : NodeCourse
  pub seen_is : course.seen ≡ journal
  pub goes : GoesOn c course
  pub rests : Rests law meaning lines home nodes course looks n from done seat desks

-- What a node's line may rest on, as it is played: the log isn't trimmed above what the node has applied, and the node hasn't left,
-- and reported no more.
pub record CanPlay (n : ℕ) (journal : List Event) (seat : SeatView) : Type 0 where
  pub high : TrimsUpTo seat.node.replica.cursor journal
  pub stays : HasNotLeft n journal
  pub reports : ReportsUpTo n seat.node.replica.cursor journal

-- what the line logs, or has its node tell of itself or ask for, the node may append; of the line's session nobody else may append anything
abbrev pub CanSend : (ℕ → Entry → Type 0) → ℕ → Asks → Type 0
CanSend may who (asks.Logged s r command) = IsSpellable command × (command_length command ≤ 984) × may who (packed who (session_item s.id r command ∷ [])) × IsHome may s.id who
CanSend may who (asks.Look s query) = IsHome may s.id who
CanSend may who (asks.Admin Extend) = Unit {0}
CanSend may who (asks.Admin Alive) = (position : ℕ) → position < 2 ^ 64 → may who (packed who (alive_item who position ∷ []))
CanSend may who (asks.Admin Retire) = may who (packed who (leave_item who ∷ []))
CanSend may who (asks.Admin Trim) = (position : ℕ) → position < 2 ^ 64 → may who (packed who (trim_item position ∷ []))

-- at the desk of its session the command is the next
pub record IsNextAt (r : ℕ) (d : Desk) : Type 0 where
  pub few : d.asked < 20000
  pub rank : r ≡ d.asked + 1

-- the line is its session's next, if it has one
abbrev pub IsNext : List Desk → Asks → Type 0
IsNext desks (asks.Logged s r command) = (d : Desk) → slice_get desks s.id ≡ Some d → IsNextAt r d
IsNext desks (asks.Look s query) = Unit {0}
IsNext desks (asks.Admin a) = Unit {0}
