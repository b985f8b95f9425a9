-- What a node did in a run, by its own course.
use Rattle.std.specs.Prelude.{◌≡◌, ℕ, ◌+◌, ◌<◌, ◌≤◌, Bool, false, List, [], length, count_by, Option, Contains}
use Rattle.std.specs.List.{AllByRecursion}
use Rattle.delos_types.specs.declared.entry.Entry.{Entry}
use Rattle.delos_types.specs.declared.cause.Cause.{Cause}
use Rattle.delos_types.specs.declared.cause.Cause.TheVariants as cause
use Rattle.legal_journal.specs.Law.{Law}
use Rattle.legal_journal.specs.Journal.{IsLegal}
use Rattle.legal_journal.specs.Sealing.{own_seals}
use Rattle.journal_laws.specs.Own.{faults_of}
use Rattle.script_text.specs.declared.asks.NamedLine.{NamedLine}
use Rattle.node_lines.specs.declared.lines.Looked.{Looked}
use Rattle.node_lines.specs.declared.lines.Looked.TheVariants as looked
use Rattle.node_lines.specs.UnderWay.{HasRank}
use Rattle.node_lines.specs.Workers.{Grows, appended_by}
use Rattle.node_course.specs.Script.{asked_before, failed_looks}
use Rattle.node_course.specs.Moments.{NodeCourse, moment, at_node}
use Rattle.node_course.specs.Played.{Came, went_further}
use Rattle.node_course.specs.Replacing.{Replaced}
use Rattle.node_course.specs.Behind.{ReportsHold}
use Rattle.node_course.specs.Telling.{AreAsked, AreTold, HasToldSo, AsksBehind, IsTrim}

-- The course of node n: each moment begins the next, and what the node appended by then lines of earlier phases ask; each fault that
-- came to it had an event of its own; what its lines did to the chain; and what it told of itself. `looks` is what each line's own
-- look came to, by the numbers of lines; of it the node's own lines' alone are meant.
pub record IsCourse (law : Law) (lines : List NamedLine) (nodes n : ℕ) (c : NodeCourse) (looks : List (Option Looked)) : Type 0 where
  pub legal : IsLegal law c.seen
  pub long : length c.begins ≡ c.phase + 1
  pub rise : (p : ℕ) → Grows (moment c p) (moment c (p + 1))
  -- as a phase began, the node had appended no command that isn't of an earlier phase
  pub began : (p s r : ℕ) (e : Entry) → p ≤ c.phase → Contains (appended_by n (moment c p)) e → HasRank s r e → r ≤ asked_before lines s p
  pub size : length looks ≡ length lines
  pub here : AllByRecursion (λ f. f.node ≡ n) c.faults
  pub events : (kind : Cause → Bool) → kind cause.Store ≡ false → failed_looks (at_node n kind) lines looks + count_by (λ f. kind f.cause) c.faults ≤ count_by kind (faults_of n c.seen)
  -- no line of a phase to come was played
  pub ahead : (i : ℕ) (l : NamedLine) (look : Looked) → Came lines looks n i l look → l.phase ≤ c.phase
  pub replaced : Replaced lines looks n c (length law.shelf)
  -- where no fault came to it, it began at most one Seal for each line of its own that found the chain further on
  pub seals : faults_of n c.seen ≡ [] → own_seals n c.seen ≤ went_further n lines looks
  -- what it told of itself lines had it tell, and what those lines came to stood in the log as the next phase began
  pub told : AreTold lines looks n c.seen
  -- as a phase began, lines of earlier phases had asked it
  pub asked : (p : ℕ) → p ≤ c.phase → AreAsked lines looks n (λ i l. l.phase < p) (moment c p)
  -- whenever it had begun to ask for a trim, the log had held a report of as much
  pub behind : AsksBehind n c.seen
  pub stand : (i : ℕ) (l : NamedLine) (look : Looked) → Came lines looks n i l look → HasToldSo (moment c (l.phase + 1)) n look
  -- what comes behind its reports stands at them or above
  pub reports : ReportsHold lines looks n c
  pub trims : (j : ℕ) (l : NamedLine) (trim : ℕ) → Came lines looks n j l (looked.Trimmed trim) → IsTrim lines looks nodes n c j l trim
