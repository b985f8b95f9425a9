-- All nodes of a run once they have closed.
use Rattle.std.specs.Prelude.{◌≡◌, ◌≢◌, ℕ, ◌+◌, ◌<◌, ◌≤◌, true, List, length, map, Contains, slice_get, Option, Some}
use Rattle.delos_types.specs.declared.entry.Entry.{Entry}
use Rattle.delos_types.specs.declared.chain.Chain.{Chain}
use Rattle.loglet_api.specs.View.{LogletView}
use Rattle.legal_journal.specs.Law.{Law}
use Rattle.legal_journal.specs.declared.events.Event.{Event}
use Rattle.legal_journal.specs.Journal.{IsLegal, state_of, trim_of, tail_of, log_at}
use Rattle.legal_journal.specs.Sealing.{begins_seal}
use Rattle.fabric_core.specs.Log.{virtual_log_at, virtual_tail}
use Rattle.fabric_core.specs.Runs.{HasRun, HasRegisterRun}
use Rattle.virtual_log.specs.Holding.{Holds}
use Rattle.virtual_log.specs.declared.extend.Extension.TheVariants.{Moved}
use Rattle.replica_api.specs.Replica.{Meaning}
use Rattle.base_engine.specs.Reading.{IsFront}
use Rattle.script_text.specs.declared.asks.NamedLine.{NamedLine}
use Rattle.script_text.specs.declared.faults.FaultLine.{FaultLine}
use Rattle.fitting_run.specs.Yard.{Shown}
use Rattle.fitting_run.specs.Faults.{disk_faults}
use Rattle.turn_scopes.specs.Seats.{SeatView}
use Rattle.node_lines.specs.declared.desk.Desk.{Desk}
use Rattle.node_lines.specs.Answered.{AreAllAnswers}
use Rattle.node_lines.specs.declared.lines.Looked.{Looked}
use Rattle.node_lines.specs.declared.lines.Looked.TheVariants as looked
use Rattle.node_course.specs.Script.{AreLines}
use Rattle.node_course.specs.Moments.{NodeCourse}
use Rattle.node_course.specs.FaultLines.{HasPartIn}
use Rattle.node_course.specs.Joined.{AreJoined}
use Rattle.node_course.specs.Telling.{AreBehind}
use Rattle.node_course.specs.Workers.{Rests}

-- another node has a part in the phase of this line: a line of its own, or one by which its disk is stopped
pub record HasBeside (lines : List NamedLine) (faults : List FaultLine) (l : NamedLine) : Type 0 where
  pub node : ℕ
  pub part : HasPartIn lines faults l.phase node
  pub another : node ≢ l.node

-- a node with its sessions
pub record WorkerEnd : Type 0 where
  pub seat : SeatView
  pub desks : List Desk

-- all answers of a session that asked something were taken, as far as the log was played
pub record DeskClosed (log : List Entry) (s : ℕ) (was : Desk) (desks : List Desk) : Type 0 where
  pub now : Desk
  pub is : slice_get desks s ≡ Some now
  pub rest : now ≡ record was { answers = now.answers }
  pub all : 0 < was.asked → AreAllAnswers log s now.answers.items

-- Node n rests behind the last line; no node has played the log further than `log`.
pub record WorkerClosed (law : Law) (meaning : Meaning) (lines : List NamedLine) (home : ℕ → ℕ) (nodes : ℕ) (c : NodeCourse) (looks : List (Option Looked)) (log : List Entry) (n : ℕ) (w : WorkerEnd) : Type 0 where
  pub was : List Desk
  pub rests : Rests law meaning lines home nodes c looks n (length lines) c.phase w.seat was
  pub short : w.seat.node.replica.cursor ≤ length log
  pub size : length w.desks ≡ length was
  pub each : (s : ℕ) (d : Desk) → slice_get was s ≡ Some d → DeskClosed log s d w.desks

pub record HasClosed (law : Law) (meaning : Meaning) (lines : List NamedLine) (faults : List FaultLine) (journal : List Event) (looks : List (Option Looked)) (log : List Entry) (workers : List WorkerEnd) : Type 0 where
  pub home : ℕ → ℕ
  -- the run, and each node's own course of it
  pub run : NodeCourse
  pub courses : ℕ → NodeCourse
  pub seen_is : run.seen ≡ journal
  pub lines_are : AreLines lines home (length workers)
  pub joined : AreJoined law lines home (length workers) run looks courses
  pub over : (i : ℕ) (l : NamedLine) → slice_get lines i ≡ Some l → l.phase < run.phase
  pub front : IsFront Holds journal log
  pub each : (j : ℕ) (w : WorkerEnd) → slice_get workers j ≡ Some w → WorkerClosed law meaning lines home (length workers) (courses (j + 1)) looks log (j + 1) w
  -- where a line found that another node had replaced the last loglet, another has a part in its phase
  pub beside : (i : ℕ) (l : NamedLine) (version : ℕ) → slice_get lines i ≡ Some l → slice_get looks i ≡ Some (Some (looked.Extended (Moved version))) → HasBeside lines faults l
  -- nobody but nodes began a Seal
  pub seals : (e : Event) → Contains journal e → begins_seal e ≡ true → (1 ≤ e.who) × (e.who ≤ length workers)
  -- each report stands behind what it reports, and each trim that is asked for behind its position
  pub behind : AreBehind journal

-- The yard that comes back: its loglets and its register are as the journal tells, each disk counted its node's faults.
pub record IsGivenBack (law : Law) (journal : List Event) (workers : List WorkerEnd) (chain : Chain) (yard : Shown) : Type 0 where
  pub legal : IsLegal law journal
  pub shelf_is : map (λ v. v.servers) yard.cells ≡ law.shelf
  pub runs : (i : ℕ) (v : LogletView) → slice_get yard.cells i ≡ Some v → HasRun i journal v
  pub register_runs : HasRegisterRun journal yard.register
  pub chain_is : chain ≡ (state_of journal).register.chain
  pub shows : (pos : ℕ) → trim_of (state_of journal) ≤ pos → virtual_log_at (state_of journal).register.chain yard.cells pos ≡ log_at (state_of journal) pos
  pub tail : virtual_tail (state_of journal).register.chain yard.cells ≡ tail_of (state_of journal)
  pub nodes : length yard.disks ≡ length workers
  pub disks : (j : ℕ) (w : WorkerEnd) → slice_get workers j ≡ Some w → w.seat.node.replica.faults ≤ disk_faults yard.disks (j + 1)
