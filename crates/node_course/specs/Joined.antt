-- A run as its nodes tell it together, once all of them have seen the same.
use Rattle.std.specs.Prelude.{◌≡◌, ◌⊎◌, ℕ, zero, suc, ◌<◌, ◌≤◌, List, [], ◌++◌, Option, Contains}
use Rattle.delos_types.specs.declared.entry.Entry.{Entry}
use Rattle.legal_journal.specs.Law.{Law}
use Rattle.legal_journal.specs.declared.events.Event.{Event}
use Rattle.engine_api.specs.declared.content.Content.{Content}
use Rattle.engine_api.specs.declared.content.Content.TheVariants as content
use Rattle.engine_api.specs.declared.content.Placed.{Placed}
use Rattle.engine_api.specs.Items.{unpack}
use Rattle.script_text.specs.declared.asks.NamedLine.{NamedLine}
use Rattle.node_lines.specs.declared.lines.Looked.{Looked}
use Rattle.node_lines.specs.Measuring.{IsCleanPoint}
use Rattle.run_laws.specs.Ended.{Fault}
use Rattle.node_course.specs.Moments.{NodeCourse}
use Rattle.node_course.specs.Played.{Came}
use Rattle.node_course.specs.Telling.{IsReportedBehind, StaysBelow}
use Rattle.node_course.specs.Course.{IsCourse}

-- the faults that came to the first nodes, of which each has its own course
abbrev pub faults_to : (ℕ → NodeCourse) → ℕ → List Fault
faults_to courses zero = []
faults_to courses (suc n) = faults_to courses n ++ (courses (suc n)).faults

-- Node n has seen all of the run, phase by phase. Of the sessions that are at home there the run knows what the node does.
pub record IsPartOf (home : ℕ → ℕ) (n : ℕ) (run c : NodeCourse) : Type 0 where
  pub seen : c.seen ≡ run.seen
  pub phase : c.phase ≡ run.phase
  pub begins : c.begins ≡ run.begins
  pub when : (s : ℕ) → home s ≡ n → c.when s ≡ run.when s

-- The nodes, 1 to `nodes`, have each its own course, and together they tell the run.
pub record AreJoined (law : Law) (lines : List NamedLine) (home : ℕ → ℕ) (nodes : ℕ) (run : NodeCourse) (looks : List (Option Looked)) (courses : ℕ → NodeCourse) : Type 0 where
  pub faults : run.faults ≡ faults_to courses nodes
  pub part : (n : ℕ) → 1 ≤ n → n ≤ nodes → IsPartOf home n run (courses n)
  pub did : (n : ℕ) → 1 ≤ n → n ≤ nodes → IsCourse law lines nodes n (courses n) looks

-- only nodes append what says anything
abbrev pub AreOfNodes : (ℕ → Entry → Type 0) → ℕ → Type 0
AreOfNodes may nodes = (user : ℕ) (e : Entry) (p : Placed) → may user e → Contains (unpack 0 e) p → (1 ≤ user) × (user ≤ nodes)

-- what is reported is clean, and each report stands behind that; what is asked for as a trim is clean
abbrev pub IsClean : List Event → Content → Type 0
IsClean journal (content.Session s r c) = Unit {0}
IsClean journal (content.Alive node n) = IsReportedBehind journal node n
IsClean journal (content.Leave node) = Unit {0}
IsClean journal (content.Trim n) = IsCleanPoint journal n

-- line i is of an earlier phase than line j, or an earlier line of the same node
abbrev pub GoesFirst : ℕ → NamedLine → ℕ → NamedLine → Type 0
GoesFirst i m j l = (m.phase < l.phase) ⊎ ((m.node ≡ l.node) × (i < j))

-- line i isn't of a later phase than line j, nor a later line of the same node
abbrev pub IsNotBehind : ℕ → NamedLine → ℕ → NamedLine → Type 0
IsNotBehind j l i m = (m.phase ≤ l.phase) × (m.node ≡ l.node → i < j)

-- Before line j, which trimmed the log to this trim, some node hadn't left, and had reported no more than this.
pub record HadLowest (lines : List NamedLine) (looks : List (Option Looked)) (nodes j : ℕ) (l : NamedLine) (trim : ℕ) : Type 0 where
  pub node : ℕ
  pub least : 1 ≤ node
  pub most : node ≤ nodes
  pub each : (i : ℕ) (m : NamedLine) (look : Looked) → Came lines looks node i m look → GoesFirst i m j l → StaysBelow trim look
