-- What is known of a run over nodes once it has ended: of the log, of each session, of each line, and of the faults.
use Rattle.std.specs.Prelude.{◌≡◌, ℕ, ◌+◌, ◌-◌, ◌<◌, ◌≤◌, ◌⊎◌, ◌≢◌, nat_lt, Bool, true, false, ◌&&◌, ◌==◌, List, [], ◌∷◌, ◌++◌, length, map, find, take, drop, count_by, min, Option, Some, None, IsSome, is_some, Contains, slice_get}
use Rattle.std.specs.List.{AllByRecursion, list_any}
use Rattle.std.specs.FinMap as finmap
use Rattle.delos_types.specs.declared.entry.Entry.{Entry}
use Rattle.delos_types.specs.declared.place.Place.{Place}
use Rattle.delos_types.specs.declared.cause.Cause.{Cause}
use Rattle.delos_types.specs.declared.chain.Chain.{Chain}
use Rattle.table_core.specs.declared.command.Query.{Query}
use Rattle.table_core.specs.declared.command.Found.{Found}
use Rattle.table_core.specs.declared.command.Reply.{Reply}
use Rattle.table_core.specs.Find.{find_in}
use Rattle.loglet_api.specs.View.{LogletView}
use Rattle.engine_api.specs.declared.act.Act.{Act}
use Rattle.engine_api.specs.declared.content.Content.{Content}
use Rattle.engine_api.specs.declared.content.Content.TheVariants as content
use Rattle.engine_api.specs.declared.content.Placed.{Placed}
use Rattle.engine_api.specs.Acted.{Asked, asked_in, table_after}
use Rattle.engine_api.specs.Members.{clean_position}
use Rattle.engine_api.specs.Order.{gap_from, is_clean}
use Rattle.log_laws.specs.State.{acts_in}
use Rattle.chain_map.specs.Chain.{last_id}
use Rattle.log_laws.specs.Order.{acts_below}
use Rattle.fabric_core.specs.Log.{virtual_tail, virtual_log, has_no_gap}
use Rattle.script_text.specs.declared.line.Admin.TheVariants.{Extend, Alive, Trim, Retire}
use Rattle.script_text.specs.declared.asks.NamedLine.{NamedLine}
use Rattle.script_text.specs.declared.faults.FaultLine.{FaultLine}
use Rattle.script_text.specs.declared.faults.FaultAsk.TheVariants.{Stop}
use Rattle.script_text.specs.declared.asks.Asks.{Asks}
use Rattle.script_text.specs.declared.asks.Asks.TheVariants as asks
use Rattle.row_text.specs.declared.row.Row.{Row}
use Rattle.row_text.specs.declared.row.Outcome.{Outcome}
use Rattle.row_text.specs.declared.row.Outcome.TheVariants as out
use Rattle.fitting_run.specs.declared.told.Told.{Told}
use Rattle.fitting_run.specs.Acts.{HoldsLines}
use Rattle.fitting_run.specs.Answered.{session_asking}
use Rattle.fitting_run.specs.Outcomes.{is_row_of}
use Rattle.fitting_run.specs.Lines.{logs_for, are_ranked, are_in_phase}
use Rattle.fitting_run.specs.Replacements.{version_told, begins_at, goes_by_ones}
use Rattle.fitting_run.specs.Reports.{items_of}
use Rattle.fitting_run.specs.Yard.{Shown}
use Rattle.fitting_run.specs.Faults.{stands, lacks_of, faults_of, disk_faults, lacks_quorum, finds_full, lacks_register, lacks_store}
use Rattle.fitting_run.specs.Fits.{ChainIsRegistered}

-- A line with its row; where its own look at the table failed, or what it asked of the node itself, the cause of that.
pub record Played : Type 0 where
  pub line : NamedLine
  pub row : Row
  pub paid : Option Cause

-- A fault that came to a node in a phase, and wasn't that of a line's own look, or of what it asked of the node itself.
pub record Fault : Type 0 where
  pub cause : Cause
  pub node : ℕ
  pub phase : ℕ

-- What became of a session. Where it was stopped, by a cause and in a phase, its ranks above `answered` weren't answered by the
-- end of that phase.
pub record SessionEnd : Type 0 where
  pub stopped : Option Cause
  pub when : ℕ
  pub answered : ℕ

-- The log

-- the act of rank r of session s
abbrev pub act_of_rank : List Entry → ℕ → ℕ → Option Act
act_of_rank log s r = find (λ a. (a.session == s) && (a.rank == r)) (acts_in log)

-- what is asked is to log this command
abbrev pub LogsThis : Asks → Asked → Type 0
LogsThis (asks.Logged s r c) x = (x.session ≡ s.id) × (x.rank ≡ r) × (x.command ≡ Some c)
LogsThis (asks.Look s q) x = ⊥
LogsThis (asks.Admin a) x = ⊥

pub record IsOfLine (played : List Played) (x : Asked) : Type 0 where
  pub at : ℕ
  pub turn : Played
  pub is : slice_get played at ≡ Some turn
  pub logs : LogsThis turn.line.asks x

-- the line of an earlier phase that logs this
pub record IsOfEarlier (played : List Played) (phase : ℕ) (x : Asked) : Type 0 where
  pub at : ℕ
  pub turn : Played
  pub is : slice_get played at ≡ Some turn
  pub logs : LogsThis turn.line.asks x
  pub early : turn.line.phase < phase

-- The log as far as it was played: the loglets have all of it that isn't trimmed, and what was trimmed was clean.
pub record LogStands (log : List Entry) (chain : Chain) (cells : List LogletView) : Type 0 where
  pub whole : has_no_gap chain cells ≡ true
  pub within : length log ≤ virtual_tail chain cells
  pub below : chain.trim ≤ length log
  pub entries : virtual_log chain cells chain.trim (length log) ≡ drop chain.trim log
  pub clean : is_clean (λ s. 1) (asked_in 0 (take chain.trim log)) ≡ true

-- Each line; `tails` are the tails at which phases begin

-- the command acted, at a position that isn't below its phase's first tail; late where it is above the answered ranks
pub record IsPlaced (log : List Entry) (tails : ℕ → ℕ) (e : SessionEnd) (phase s r : ℕ) (place : Place) (reply : Option Reply) (late : Bool) : Type 0 where
  pub act : Act
  pub found : act_of_rank log s r ≡ Some act
  pub place_is : place ≡ act.place
  pub reply_is : reply ≡ act.reply
  pub late_is : late ≡ nat_lt e.answered r
  pub from : tails phase ≤ act.place.pos
  pub upto : r ≤ e.answered → act.place.pos < tails (phase + 1)

-- the command didn't act, and its session was stopped
pub record IsLeft (log : List Entry) (e : SessionEnd) (s r : ℕ) (cause : Cause) : Type 0 where
  pub none : act_of_rank log s r ≡ None
  pub stopped : e.stopped ≡ Some cause
  pub above : e.answered < r

-- a read looked at the table after just the commands of its session so far, which are answered by the end of its phase
pub record HasLooked (log : List Entry) (tails : ℕ → ℕ) (e : SessionEnd) (before : List Played) (phase s : ℕ) (query : Query) (after : ℕ) (found : Found) : Type 0 where
  pub within : after ≤ length log
  pub shows : found ≡ find_in (table_after finmap.empty (acts_below after (acts_in log))) query
  pub sees : gap_from (asked_in 0 (take after log)) s 1 ≡ count_by (λ t. logs_for s t.line) before + 1
  pub from : tails phase ≤ after
  pub upto : after ≤ tails (phase + 1)
  pub answered : count_by (λ t. logs_for s t.line) before ≤ e.answered

-- so many entries are clean of a front of the log that reaches the phase's first tail, and no more than reach the next one's
pub record HasReported (log : List Entry) (tails : ℕ → ℕ) (phase clean : ℕ) : Type 0 where
  pub upto : ℕ
  pub within : upto ≤ length log
  pub from : tails phase ≤ upto
  pub by : clean ≤ tails (phase + 1)
  pub is : clean ≡ clean_position (take upto log)

-- a fault of this cause came to the node in the phase
pub record CameTo (faults : List Fault) (cause : Cause) (node phase : ℕ) : Type 0 where
  pub fault : Fault
  pub among : Contains faults fault
  pub cause_is : fault.cause ≡ cause
  pub node_is : fault.node ≡ node
  pub phase_is : fault.phase ≡ phase

-- some line of the session before it, in its phase, is logged
abbrev pub LogsBefore : List Played → ℕ → ℕ → Type 0
LogsBefore before s phase = list_any (λ t. logs_for s t.line && (t.line.phase == phase)) before ≡ true

-- a read is open: its own look failed, its session was stopped in an earlier phase, or it was given a cause in this one
abbrev pub IsUnread : List Fault → SessionEnd → List Played → Played → ℕ → Cause → Type 0
IsUnread faults e before t s cause =
    (t.paid ≡ Some cause)
    ⊎ (((e.stopped ≡ Some cause) × (e.when < t.line.phase))
    ⊎ (LogsBefore before s t.line.phase × CameTo faults cause t.line.node t.line.phase))

abbrev pub CameOf : List Entry → (ℕ → ℕ) → List Fault → (ℕ → SessionEnd) → List Played → Played → Asks → Outcome → Type 0
CameOf log tails faults ends before t (asks.Logged s r c) (out.Placed place reply late) = IsPlaced log tails (ends s.id) t.line.phase s.id r place reply late
CameOf log tails faults ends before t (asks.Logged s r c) (out.Open cause) = IsLeft log (ends s.id) s.id r cause
CameOf log tails faults ends before t (asks.Look s q) (out.Read after found) = HasLooked log tails (ends s.id) before t.line.phase s.id q after found
CameOf log tails faults ends before t (asks.Look s q) (out.Open cause) = IsUnread faults (ends s.id) before t s.id cause
CameOf log tails faults ends before t (asks.Admin a) (out.Open cause) = t.paid ≡ Some cause
CameOf log tails faults ends before t (asks.Admin Alive) (out.Alive clean) = HasReported log tails t.line.phase clean
-- a segment begins at a tail of its phase; what else these rows say is said of all of them at once, below
CameOf log tails faults ends before t (asks.Admin Extend) (out.Extended version start) = (tails t.line.phase ≤ start) × (start ≤ tails (t.line.phase + 1))
CameOf log tails faults ends before t (asks.Admin Extend) (out.Moved version) = Unit {0}
CameOf log tails faults ends before t (asks.Admin Extend) out.NoSpare = Unit {0}
CameOf log tails faults ends before t (asks.Admin Trim) (out.Trimmed trim) = Unit {0}
CameOf log tails faults ends before t (asks.Admin Retire) out.Retired = Unit {0}
CameOf log tails faults ends before t asked answered = ⊥

-- the session of the line; what is asked of a node itself is of none
abbrev pub session_in : Asks → ℕ
session_in (asks.Logged s r c) = s.id
session_in (asks.Look s q) = s.id
session_in (asks.Admin a) = 0

-- the rank that the line logs was answered by its phase's end, or its session was stopped then or before
abbrev pub IsStoppedBy : SessionEnd → ℕ → Asks → Type 0
IsStoppedBy e phase (asks.Logged s r c) = e.answered < r → IsSome e.stopped × (e.when ≤ phase)
IsStoppedBy e phase (asks.Look s q) = Unit {0}
IsStoppedBy e phase (asks.Admin a) = Unit {0}

pub record LineEnded (log : List Entry) (tails : ℕ → ℕ) (faults : List Fault) (ends : ℕ → SessionEnd) (before : List Played) (t : Played) : Type 0 where
  pub row : is_row_of (record { line = t.line; row = t.row }) ≡ true
  pub came : CameOf log tails faults ends before t t.line.asks t.row.outcome
  pub missed : IsStoppedBy (ends (session_in t.line.asks)) t.line.phase t.line.asks
  -- nothing is tried after the phase in which its session was stopped: its cause is told
  pub stopped : IsSome (session_asking t.line.asks) → (cause : Cause) → (ends (session_in t.line.asks)).stopped ≡ Some cause → (ends (session_in t.line.asks)).when < t.line.phase → t.row.outcome ≡ out.Open cause

-- each element, behind those before it
abbrev pub AllAfter : {A : Type 0} → (List A → A → Type 0) → List A → List A → Type 0
AllAfter P before [] = Unit {0}
AllAfter P before (x ∷ xs) = P before x × AllAfter P (before ++ x ∷ []) xs

-- Each session

abbrev pub rank_in : Asks → ℕ
rank_in (asks.Logged s r c) = r
rank_in (asks.Look s q) = 0
rank_in (asks.Admin a) = 0

-- the line that logs this rank, in that phase or before
pub record LogsRank (played : List Played) (s r phase : ℕ) : Type 0 where
  pub at : ℕ
  pub turn : Played
  pub is : slice_get played at ≡ Some turn
  pub logs : logs_for s turn.line ≡ true
  pub rank : rank_in turn.line.asks ≡ r
  pub early : turn.line.phase ≤ phase

pub record SessionEnded (played : List Played) (faults : List Fault) (home : ℕ → ℕ) (s : ℕ) (e : SessionEnd) : Type 0 where
  -- it was stopped since a rank wasn't answered, by a fault that came to its node then
  pub unanswered : IsSome e.stopped → LogsRank played s (e.answered + 1) e.when
  pub fault : (cause : Cause) → e.stopped ≡ Some cause → CameTo faults cause (home s) e.when

-- a session's lines are at its home; a node itself may be asked anywhere
abbrev pub IsAtHome : (ℕ → ℕ) → ℕ → Asks → Type 0
IsAtHome home node (asks.Logged s r c) = node ≡ home s.id
IsAtHome home node (asks.Look s q) = node ≡ home s.id
IsAtHome home node (asks.Admin a) = Unit {0}

-- a played line that is so, with its row
pub record SomeTurn (played : List Played) (P : Played → Type 0) : Type 0 where
  pub at : ℕ
  pub turn : Played
  pub is : slice_get played at ≡ Some turn
  pub so : P turn

-- Replacements of the loglet

-- what the chain at the end has of a row
abbrev pub IsReplaced : ℕ → Chain → ℕ → Outcome → Type 0
IsReplaced version chain shelf (out.Extended v s) = (v ≤ version) × (begins_at chain s ≡ true)
IsReplaced version chain shelf (out.Moved v) = v ≤ version
IsReplaced version chain shelf out.NoSpare = last_id chain + 1 ≡ shelf
IsReplaced version chain shelf answered = Unit {0}

-- rows of any two lines: the lower version begins no higher
abbrev pub IsApart : Outcome → Outcome → Type 0
IsApart (out.Extended v s) (out.Extended w r) = ((v < w) × (s ≤ r)) ⊎ ((w < v) × (r ≤ s))
IsApart answered other = Unit {0}

-- rows of two lines, the first of an earlier phase than the other, or of an earlier line of the same node
abbrev pub Precedes : Outcome → Outcome → Type 0
Precedes (out.Extended v s) (out.Extended w r) = v < w
Precedes (out.Extended v s) (out.Moved w) = v < w
Precedes (out.Moved v) (out.Extended w r) = v < w
Precedes (out.Moved v) (out.Moved w) = v < w
Precedes out.NoSpare (out.Extended w r) = ⊥
Precedes out.NoSpare (out.Moved w) = ⊥
Precedes answered other = Unit {0}

-- the line is the node's, and its row tells the version of a chain
abbrev pub tells_version : ℕ → Played → Bool
tells_version node t = (t.line.node == node) && is_some (version_told t.row.outcome)

-- u is another node's line, in the phase of t
pub record IsBeside (t u : Played) : Type 0 where
  pub phase_is : u.line.phase ≡ t.line.phase
  pub another : u.line.node ≢ t.line.node

-- a fault line stops the disk of another node, in the phase of t
pub record IsStoppedBeside (fault_lines : List FaultLine) (t : Played) : Type 0 where
  pub at : ℕ
  pub line : FaultLine
  pub is : slice_get fault_lines at ≡ Some line
  pub phase_is : line.phase ≡ t.line.phase
  pub node : ℕ
  pub after : ℕ
  pub asks_is : line.asks ≡ Stop node after
  pub another : node ≢ t.line.node

pub record Replacements (played : List Played) (fault_lines : List FaultLine) (version : ℕ) (chain : Chain) (shelf : ℕ) : Type 0 where
  pub each : (i : ℕ) (t : Played) → slice_get played i ≡ Some t → IsReplaced version chain shelf t.row.outcome
  -- each that a node made, or found, took an id of its own
  pub ids : (i : ℕ) (t : Played) → slice_get played i ≡ Some t → count_by (tells_version t.line.node) played ≤ last_id chain
  pub apart : (i j : ℕ) (t u : Played) → slice_get played i ≡ Some t → slice_get played j ≡ Some u → i < j → IsApart t.row.outcome u.row.outcome
  pub order : (i j : ℕ) (t u : Played) → slice_get played i ≡ Some t → slice_get played j ≡ Some u → i < j
      → (t.line.phase < u.line.phase) ⊎ (t.line.node ≡ u.line.node) → Precedes t.row.outcome u.row.outcome
  -- each version is of one loglet more, or trimmed the log
  pub counts : goes_by_ones version chain ≡ true
  -- what a line found another node had made, that has a line in its phase or is stopped in it; the first chain nobody had
  pub found : (i : ℕ) (t : Played) (version : ℕ) → slice_get played i ≡ Some t → t.row.outcome ≡ out.Moved version → (2 ≤ version) × (SomeTurn played (IsBeside t) ⊎ IsStoppedBeside fault_lines t)

-- Trims

-- what the row says stands at this position or above; and what it reports is no less
abbrev pub StandsFrom : ℕ → Outcome → Type 0
StandsFrom n (out.Placed place reply late) = n ≤ place.pos
StandsFrom n (out.Read after found) = n ≤ after
StandsFrom n (out.Alive clean) = n ≤ clean
StandsFrom n answered = Unit {0}

-- the row isn't that of a node that left, and reports no more than this
abbrev pub TellsUpto : ℕ → Outcome → Type 0
TellsUpto trim (out.Alive clean) = clean ≤ trim
TellsUpto trim out.Retired = ⊥
TellsUpto trim answered = Unit {0}

-- the line asks its node to report, and the row tells that it reported so much, or is open
abbrev pub TellsFrom : ℕ → Asks → Outcome → Type 0
TellsFrom n (asks.Admin Alive) (out.Alive clean) = n ≤ clean
TellsFrom n (asks.Admin Alive) (out.Open cause) = Unit {0}
TellsFrom n asked answered = ⊥

-- .. of this node
pub record MayReport (node n : ℕ) (t : Played) : Type 0 where
  pub node_is : t.line.node ≡ node
  pub tells : TellsFrom n t.line.asks t.row.outcome

-- A line asks the node to leave, or had it report so much, as far as its row tells. It is behind the j-th, t, neither as a line of a later
-- phase nor as a later line of the same node.
pub record MayHaveAllowed (played : List Played) (j : ℕ) (t : Played) (trim node : ℕ) : Type 0 where
  pub at : ℕ
  pub turn : Played
  pub is : slice_get played at ≡ Some turn
  pub node_is : turn.line.node ≡ node
  pub how : (turn.line.asks ≡ asks.Admin Retire) ⊎ TellsFrom trim turn.line.asks turn.row.outcome
  pub phase : turn.line.phase ≤ t.line.phase
  pub own : turn.line.node ≡ t.line.node → at < j

-- The j-th line, t, trimmed the log so far: it is trimmed as far at the end; and some node hadn't left by its rows of earlier phases,
-- and of earlier lines if it is the node of t, and reported no more in them. No trim of those lines went further; and each node may have
-- allowed this one by then.
pub record LineTrimmed (played : List Played) (nodes end_trim j : ℕ) (t : Played) (trim : ℕ) : Type 0 where
  pub upto : trim ≤ end_trim
  pub node : ℕ
  pub least : 1 ≤ node
  pub most : node ≤ nodes
  pub told : (i : ℕ) (u : Played) → slice_get played i ≡ Some u → i < j → u.line.node ≡ node → (u.line.phase < t.line.phase) ⊎ (u.line.node ≡ t.line.node)
      → TellsUpto trim u.row.outcome
  pub rises : (i : ℕ) (u : Played) (less : ℕ) → slice_get played i ≡ Some u → i < j → (u.line.phase < t.line.phase) ⊎ (u.line.node ≡ t.line.node) → u.row.outcome ≡ out.Trimmed less → less ≤ trim
  pub allowed : (k : ℕ) → 1 ≤ k → k ≤ nodes → (trim ≡ 0) ⊎ MayHaveAllowed played j t trim k

-- the log that the loglets have says this, at this position or above, where it isn't trimmed
pub record SaysFrom (chain : Chain) (cells : List LogletView) (from : ℕ) (c : Content) : Type 0 where
  pub placed : Placed
  pub among : Contains (items_of chain cells) placed
  pub content_is : placed.content ≡ c
  pub above : from ≤ placed.place.pos

-- it says that a trim was asked for that goes so far, or further
pub record SaysTrim (chain : Chain) (cells : List LogletView) (trim : ℕ) : Type 0 where
  pub position : ℕ
  pub above : trim ≤ position
  pub says : SaysFrom chain cells trim (content.Trim position)

-- .. and that the node reported so much, or more
pub record SaysReport (chain : Chain) (cells : List LogletView) (trim node : ℕ) : Type 0 where
  pub position : ℕ
  pub above : trim ≤ position
  pub says : SaysFrom chain cells trim (content.Alive node position)

-- a line had the node report so much, as far as its row tells, and the log says that it did
pub record IsReported (played : List Played) (chain : Chain) (cells : List LogletView) (trim node : ℕ) : Type 0 where
  pub line : SomeTurn played (MayReport node trim)
  pub says : SaysReport chain cells trim node

-- a line asks the node to leave
pub record IsToLeave (node : ℕ) (t : Played) : Type 0 where
  pub node_is : t.line.node ≡ node
  pub asks : t.line.asks ≡ asks.Admin Retire

-- How far lines trimmed the log, and how far it is trimmed at the end. The nodes are 1 to `nodes`.
pub record TrimsEnded (played : List Played) (nodes : ℕ) (chain : Chain) (cells : List LogletView) (end : ℕ) : Type 0 where
  pub each : (j : ℕ) (t : Played) (trim : ℕ) → slice_get played j ≡ Some t → t.row.outcome ≡ out.Trimmed trim → LineTrimmed played nodes chain.trim j t trim
  pub within : chain.trim ≤ end
  -- where nothing is trimmed, the log that the loglets have says that a trim was asked for
  pub stand : (j : ℕ) (t : Played) (trim : ℕ) → slice_get played j ≡ Some t → t.row.outcome ≡ out.Trimmed trim → chain.trim ≡ 0
      → SaysTrim chain cells 0
  -- where something is, the log that they have from there on says that as much was asked for
  pub rests : chain.trim ≢ 0 → SaysTrim chain cells chain.trim
  -- by a line
  pub asked : chain.trim ≢ 0 → SomeTurn played (λ t. t.line.asks ≡ asks.Admin Trim)
  -- and that some node reported as much, and each that isn't to leave
  pub some : chain.trim ≢ 0 → (node : ℕ) × IsReported played chain cells chain.trim node
  pub kept : (node : ℕ) → 1 ≤ node → node ≤ nodes → chain.trim ≢ 0 → SomeTurn played (IsToLeave node) ⊎ IsReported played chain cells chain.trim node

-- Faults

abbrev pub pays : (Cause → Bool) → Option Cause → Bool
pays by None = false
pays by (Some c) = by c

abbrev pub paid_by : (ℕ → Cause → Bool) → Played → Bool
paid_by by t = pays (by t.line.node) t.paid

-- how many faults came by such causes
abbrev pub counted : (ℕ → Cause → Bool) → List Played → List Fault → ℕ
counted by played faults = count_by (paid_by by) played + count_by (λ f. by f.node f.cause) faults

abbrev pub PaidStands : Shown → Played → Type 0
PaidStands yard t = (cause : Cause) → t.paid ≡ Some cause → stands yard t.line.node cause ≡ true

-- a count of faults goes no further than its type's end
abbrev pub most_faults : ℕ
most_faults = 18446744073709551615

-- each stands in the yard, and as often as they came they were counted
pub record FaultsCame (played : List Played) (faults : List Fault) (yard : Shown) : Type 0 where
  pub stand : AllByRecursion (λ f. stands yard f.node f.cause ≡ true) faults
  pub paid : AllByRecursion (PaidStands yard) played
  -- the nodes are those of the disks
  pub nodes : AllByRecursion (λ f. (1 ≤ f.node) × (f.node ≤ length yard.disks)) faults
  pub lacks : (cell : ℕ) → counted (lacks_quorum cell) played faults ≤ lacks_of (slice_get yard.cells cell)
  pub refusals : (cell : ℕ) → min (counted (finds_full cell) played faults) most_faults ≤ faults_of (slice_get yard.cells cell)
  pub register : min (counted lacks_register played faults) most_faults ≤ yard.register.faults
  -- a store that fails is opened again: it is a cause where the disk fails once more then
  pub stores : (node : ℕ) → min (counted (lacks_store node) played faults) (most_faults - 1) ≤ disk_faults yard.disks node - 1

-- All of it

pub record RunEnded (played : List Played) (fault_lines : List FaultLine) (o : Told) (yard : Shown) : Type 0 where
  pub log : List Entry
  pub tails : ℕ → ℕ
  pub faults : List Fault
  pub ends : ℕ → SessionEnd
  -- at which node each session's lines are
  pub home : ℕ → ℕ
  pub few : length played ≤ 20000
  pub rows : o.rows ≡ map (λ t. t.row) played
  pub end : o.end ≡ length log
  pub ranked : are_ranked [] (map (λ t. t.line) played) ≡ true
  pub phases : are_in_phase 0 (map (λ t. t.line) played) ≡ true
  pub at_home : AllByRecursion (λ t. IsAtHome home t.line.node t.line.asks) played
  pub rise : (phase : ℕ) → tails phase ≤ tails (phase + 1)
  pub stands : LogStands log o.chain yard.cells
  -- each entry of the log, and of what the loglets have behind it, holds what lines ask of the node that proposed it
  pub asked : AllByRecursion (HoldsLines (map (λ t. t.line) played)) (log ++ virtual_log o.chain yard.cells (length log) (virtual_tail o.chain yard.cells))
  -- each command in the log is a line's
  pub sent : (x : Asked) → Contains (asked_in 0 log) x → IsOfLine played x
  -- and where it stood there when a phase began, of an earlier phase
  pub early : (phase : ℕ) (x : Asked) → Contains (asked_in 0 (take (tails phase) log)) x → IsOfEarlier played phase x
  pub lines : AllAfter (LineEnded log tails faults ends) [] played
  -- where the log isn't trimmed above it, each report of a node stands in the log that the loglets have, no lower than that
  pub reported : (i : ℕ) (t : Played) (clean : ℕ) → slice_get played i ≡ Some t → t.row.outcome ≡ out.Alive clean → o.chain.trim ≤ clean → SaysFrom o.chain yard.cells clean (content.Alive t.line.node clean)
  -- where nothing is trimmed, so does each leave
  pub left : (i : ℕ) (t : Played) → slice_get played i ≡ Some t → t.row.outcome ≡ out.Retired → o.chain.trim ≡ 0 → SaysFrom o.chain yard.cells 0 (content.Leave t.line.node)
  -- what a node's later lines tell stands at its report or above
  pub above : (i j : ℕ) (t u : Played) (clean : ℕ) → slice_get played i ≡ Some t → slice_get played j ≡ Some u → i < j → t.line.node ≡ u.line.node → t.row.outcome ≡ out.Alive clean → StandsFrom clean u.row.outcome
  -- a node's later reads looked at no lower position
  pub forward : (i j : ℕ) (t u : Played) (after later : ℕ) (found next : Found) → slice_get played i ≡ Some t → slice_get played j ≡ Some u → i < j → t.line.node ≡ u.line.node
      → t.row.outcome ≡ out.Read after found → u.row.outcome ≡ out.Read later next → after ≤ later
  pub trims : TrimsEnded played (length yard.disks) o.chain yard.cells o.end
  pub sessions : (s : ℕ) → SessionEnded played faults home s (ends s)
  pub replacements : Replacements played fault_lines o.version o.chain (length yard.cells)
  pub came : FaultsCame played faults yard
  pub registered : ChainIsRegistered o yard.register
