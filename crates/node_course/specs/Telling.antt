-- What lines asked a node to tell of itself, what stands in the log of it, and up to where the node trimmed the log.
use Rattle.std.specs.Prelude.{◌≡◌, ℕ, ◌+◌, ◌<◌, ◌≤◌, List, Option, Some, length, slice_get, Contains}
use Rattle.delos_types.specs.declared.entry.Entry.{Entry}
use Rattle.legal_journal.specs.declared.events.Event.{Event}
use Rattle.legal_journal.specs.Journal.{state_of, trim_of}
use Rattle.journal_laws.specs.Changes.{appended}
use Rattle.virtual_log.specs.Holding.{Holds}
use Rattle.engine_api.specs.declared.content.Content.{Content}
use Rattle.engine_api.specs.declared.content.Content.TheVariants as content
use Rattle.engine_api.specs.declared.content.Placed.{Placed}
use Rattle.engine_api.specs.Items.{unpack}
use Rattle.engine_api.specs.Acted.{unpack_all}
use Rattle.engine_api.specs.Members.{least_position}
use Rattle.base_engine.specs.Reading.{IsFront}
use Rattle.script_text.specs.declared.line.Admin.{Admin}
use Rattle.script_text.specs.declared.line.Admin.TheVariants.{Alive, Retire}
use Rattle.script_text.specs.declared.asks.NamedLine.{NamedLine}
use Rattle.script_text.specs.declared.asks.Asks.TheVariants as asked
use Rattle.node_lines.specs.declared.lines.Looked.{Looked}
use Rattle.node_lines.specs.declared.lines.Looked.TheVariants as looks_of
use Rattle.node_lines.specs.Measuring.{IsCleanPoint}
use Rattle.node_lines.specs.Workers.{Grows, IsHeldReport, IsReported, appended_by}
use Rattle.node_course.specs.Moments.{NodeCourse, moment, tails}
use Rattle.node_course.specs.Played.{Came}
use Rattle.node_course.specs.Reporting.{StandsThere}

-- What stands in entries that the node appended

-- a line asked this of the node, it was played, and P holds of what it came to
pub record AskedFor (lines : List NamedLine) (looks : List (Option Looked)) (node : ℕ) (what : Admin) (P : Looked → Type 0) : Type 0 where
  pub at : ℕ
  pub line : NamedLine
  pub look : Looked
  pub came : Came lines looks node at line look
  pub asks : line.asks ≡ asked.Admin what
  pub so : P look

-- the node told this position or a later one, or it isn't known what it told
abbrev pub TellsAtLeast : ℕ → Looked → Type 0
TellsAtLeast n (looks_of.Reported m) = n ≤ m
TellsAtLeast n (looks_of.Failed c) = Unit {0}
TellsAtLeast n look = ⊥

-- so many first entries of the log are clean, and none of them says this
pub record IsSaidBehind (journal : List Event) (n : ℕ) (c : Content) : Type 0 where
  pub clean : IsCleanPoint journal n
  pub behind : (i : ℕ) (e : Entry) (p : Placed) → i < n → slice_get clean.log i ≡ Some e → Contains (unpack 0 e) p → p.content ≡ c → ⊥

-- .. that the node reports so many
abbrev pub IsReportedBehind : List Event → ℕ → ℕ → Type 0
IsReportedBehind journal node n = IsSaidBehind journal n (content.Alive node n)

-- .. that a trim of so many is asked for
abbrev pub IsAskedBehind : List Event → ℕ → Type 0
IsAskedBehind journal n = IsSaidBehind journal n (content.Trim n)

-- What a node tells it tells of itself, and a line asked it to. What it reports is clean, and the report stands behind that; what it
-- asks for as a trim some node reported.
abbrev pub ToldSo : List NamedLine → List (Option Looked) → ℕ → List Event → Content → Type 0
ToldSo lines looks n journal (content.Session s r c) = Unit {0}
ToldSo lines looks n journal (content.Alive node position) = (node ≡ n) × IsReportedBehind journal n position × AskedFor lines looks n Alive (TellsAtLeast position)
ToldSo lines looks n journal (content.Leave node) = (node ≡ n) × AskedFor lines looks n Retire (λ look. Unit {0})
ToldSo lines looks n journal (content.Trim position) = IsReported journal position

-- .. in each entry that it appended
abbrev pub AreTold : List NamedLine → List (Option Looked) → ℕ → List Event → Type 0
AreTold lines looks n journal = (e : Entry) (p : Placed) → Contains (appended_by n journal) e → Contains (unpack 0 e) p → ToldSo lines looks n journal p.content

-- a line asked this of the node, it was played, P holds of what it came to, and it is one of these
pub record AskedBy (lines : List NamedLine) (looks : List (Option Looked)) (node : ℕ) (These : ℕ → NamedLine → Type 0) (what : Admin) (P : Looked → Type 0) : Type 0 where
  pub by : AskedFor lines looks node what P
  pub these : These by.at by.line

-- what the node reports, or that it leaves, one of these lines had it tell
abbrev pub AskedSo : List NamedLine → List (Option Looked) → ℕ → (ℕ → NamedLine → Type 0) → Content → Type 0
AskedSo lines looks n These (content.Session s r c) = Unit {0}
AskedSo lines looks n These (content.Alive node position) = AskedBy lines looks n These Alive (TellsAtLeast position)
AskedSo lines looks n These (content.Leave node) = AskedBy lines looks n These Retire (λ look. Unit {0})
AskedSo lines looks n These (content.Trim position) = Unit {0}

-- .. in each entry that it appended
abbrev pub AreAsked : List NamedLine → List (Option Looked) → ℕ → (ℕ → NamedLine → Type 0) → List Event → Type 0
AreAsked lines looks n These journal = (e : Entry) (p : Placed) → Contains (appended_by n journal) e → Contains (unpack 0 e) p → AskedSo lines looks n These p.content

-- What stands in entries that anybody appended

-- it stands behind what it tells, if that is how much is clean, or up to where the log is to be trimmed
abbrev pub IsBehind : List Event → Content → Type 0
IsBehind journal (content.Session s r c) = Unit {0}
IsBehind journal (content.Alive node n) = IsReportedBehind journal node n
IsBehind journal (content.Leave node) = Unit {0}
IsBehind journal (content.Trim n) = IsAskedBehind journal n

-- .. in each entry
abbrev pub AreBehind : List Event → Type 0
AreBehind journal = (e : Entry) (p : Placed) → Contains (appended journal) e → Contains (unpack 0 e) p → IsBehind journal p.content

-- at an earlier moment than this one the log held a report of so much
pub record WasHeld (journal : List Event) (position : ℕ) : Type 0 where
  pub before : List Event
  pub grows : Grows before journal
  pub earlier : length before < length journal
  pub held : IsHeldReport before position

-- by each moment at which the node had begun to ask for a trim, the log had held a report of as much
abbrev pub AsksBehind : ℕ → List Event → Type 0
AsksBehind n journal =
    (early : List Event) (e : Entry) (p : Placed) (position : ℕ) → Grows early journal → Contains (appended_by n early) e → Contains (unpack 0 e) p → p.content ≡ content.Trim position → WasHeld early position

-- What its lines came to

-- what the node told stands in the log
abbrev pub HasToldSo : List Event → ℕ → Looked → Type 0
HasToldSo journal node (looks_of.Reported n) = StandsThere journal (content.Alive node n)
HasToldSo journal node looks_of.Left = StandsThere journal (content.Leave node)
HasToldSo journal node look = Unit {0}

-- the node didn't leave by that line, nor did it report more than this
abbrev pub StaysBelow : ℕ → Looked → Type 0
StaysBelow trim (looks_of.Reported n) = n ≤ trim
StaysBelow trim looks_of.Left = ⊥
StaysBelow trim look = Unit {0}

-- where this is said of the node, it is no leave, and no report of more
abbrev pub SaysBelow : ℕ → ℕ → Content → Type 0
SaysBelow trim node (content.Session s r c) = Unit {0}
SaysBelow trim node (content.Alive other n) = other ≡ node → n ≤ trim
SaysBelow trim node (content.Leave other) = other ≡ node → ⊥
SaysBelow trim node (content.Trim n) = Unit {0}

-- As line j of node n began, some node hadn't left by what stood in the log, and had reported no more than this there. If
-- that is n itself, so it is by its own lines before line j.
pub record IsLowest (lines : List NamedLine) (looks : List (Option Looked)) (nodes n : ℕ) (before : List Event) (j trim : ℕ) : Type 0 where
  pub node : ℕ
  pub least : 1 ≤ node
  pub most : node ≤ nodes
  pub stood : (x : Content) → StandsThere before x → SaysBelow trim node x
  pub own : node ≡ n → (i : ℕ) (m : NamedLine) (look : Looked) → Came lines looks n i m look → i < j → StaysBelow trim look

-- Line j trimmed the log to this trim: no lower than some node needs, nor than its lines before had, and the log's trim wasn't lower as it
-- ended. By then the node had told of itself what lines before it asked. An entry that asks for a trim stands in the log: to the
-- least position of a member in a front of it that reaches the phase's first tail.
pub record IsTrim (lines : List NamedLine) (looks : List (Option Looked)) (nodes n : ℕ) (c : NodeCourse) (j : ℕ) (l : NamedLine) (trim : ℕ) : Type 0 where
  -- the journal as the line began, and as it had ended
  pub before : List Event
  pub early : List Event
  pub began : Grows (moment c l.phase) before
  pub went : Grows before early
  pub ended : Grows early (moment c (l.phase + 1))
  pub lowest : IsLowest lines looks nodes n before j trim
  pub earlier : (i : ℕ) (m : NamedLine) (less : ℕ) → Came lines looks n i m (looks_of.Trimmed less) → i < j → less ≤ trim_of (state_of before)
  pub upto : trim ≤ trim_of (state_of early)
  pub asked : AreAsked lines looks n (λ i m. i < j) early
  pub position : ℕ
  pub stands : StandsThere c.seen (content.Trim position)
  pub log : List Entry
  pub front : IsFront Holds c.seen log
  pub from : tails c l.phase ≤ length log
  pub least : position ≡ least_position nodes (unpack_all 0 log)
