-- What holds of a node with its sessions between two of its turns.
use Rattle.std.specs.Prelude.{All, ◌≡◌, ℕ, ◌+◌, ◌<◌, ◌≤◌, ◌⊎◌, ◌==◌, false, List, [], ◌∷◌, ◌++◌, length, map, get_or, Contains, Some, slice_get, slice_set}
use Rattle.std.specs.List.{AllByRecursion}
use Rattle.delos_types.specs.declared.entry.Entry.{Entry}
use Rattle.delos_types.specs.declared.cause.Cause.{Cause}
use Rattle.delos_types.specs.declared.item.Item.{Item}
use Rattle.legal_journal.specs.Law.{Law}
use Rattle.legal_journal.specs.declared.events.Event.{Event}
use Rattle.replica_api.specs.Replica.{Meaning}
use Rattle.virtual_log.specs.Holding.{Holds}
use Rattle.turn_scopes.specs.Floors.{FloorIs}
use Rattle.base_engine.specs.Node.{NodeView}
use Rattle.node_lines.specs.declared.desk.Desk.{Desk}
use Rattle.node_lines.specs.UnderWay.{HasRank}
use Rattle.turn_scopes.specs.Seats.{SeatView, SeatOk, node_of}
use Rattle.node_lines.specs.Moving.{CanPack, Goes, StaysGiven, StaysQuiet}
use Rattle.node_lines.specs.Desks.{DesksOk, MayJoin}
use Rattle.node_lines.specs.Measuring.{IsCleanPoint}
use Rattle.node_lines.specs.declared.lines.Looked.{Looked}
use Rattle.node_lines.specs.declared.lines.Looked.TheVariants as looked
use Rattle.journal_laws.specs.Changes.{TrimsUpTo, appended}
use Rattle.journal_laws.specs.Own.{own}
use Rattle.engine_api.specs.declared.content.Content.{Content}
use Rattle.engine_api.specs.declared.content.Content.TheVariants.{Session, Alive, Leave, Trim}
use Rattle.engine_api.specs.declared.content.Placed.{Placed}
use Rattle.engine_api.specs.Items.{content_of, unpack}

-- how many commands of a session were sent, by this list of counts
abbrev pub sent_of : List ℕ → ℕ → ℕ
sent_of counts s = get_or counts s 0

-- how many of them a node sent, by the desks of its sessions
abbrev pub sent_by : List Desk → List ℕ
sent_by desks = map (λ d. d.sent) desks

-- who may append what, of which no rank is above those that were sent
abbrev pub Within : (ℕ → Entry → Type 0) → List ℕ → ℕ → Entry → Type 0
Within may counts who e = may who e × ((s r : ℕ) → HasRank s r e → r ≤ sent_of counts s)

-- .. where this binds one of them alone
abbrev pub OwnWithin : ℕ → (ℕ → Entry → Type 0) → List ℕ → ℕ → Entry → Type 0
OwnWithin me may counts user e = may user e × (user ≡ me → (s r : ℕ) → HasRank s r e → r ≤ sent_of counts s)

-- who alone may append ranks of this session
abbrev pub IsHome : (ℕ → Entry → Type 0) → ℕ → ℕ → Type 0
IsHome may s who = (user r : ℕ) (e : Entry) → may user e → HasRank s r e → user ≡ who

-- the content is a command of a session
abbrev pub IsCommand : Content → Type 0
IsCommand (Session s r c) = Unit {0}
IsCommand (Alive node position) = ⊥
IsCommand (Leave node) = ⊥
IsCommand (Trim position) = ⊥

-- the item says a command of a session, if anything
abbrev pub IsOfSession : Item → Type 0
IsOfSession item = (c : Content) → content_of item ≡ Some c → IsCommand c

-- the entry says nothing but commands of sessions
abbrev pub IsOfSessions : Entry → Type 0
IsOfSessions e = AllByRecursion (λ p. IsCommand p.content) (unpack 0 e)

-- the entry says this, and nothing else
abbrev pub SaysAlone : Content → Entry → Type 0
SaysAlone c e = map (λ p. p.content) (unpack 0 e) ≡ c ∷ []

-- the entries that who began to append, in order
abbrev pub appended_by : ℕ → List Event → List Entry
appended_by who events = appended (own who events)

-- of what who began to append since, each entry is one that it began to append before, or such a one
abbrev pub OwnAdds : ℕ → (Entry → Type 0) → List Event → List Event → Type 0
OwnAdds who P old new = (e : Entry) → Contains (appended_by who new) e → Contains (appended_by who old) e ⊎ P e

-- .. of which what it hadn't appended yet says nothing but commands of sessions
abbrev pub Sends : ℕ → (ℕ → Entry → Type 0) → List ℕ → List Event → ℕ → Entry → Type 0
Sends me may counts journal user e = OwnWithin me may counts user e × (user ≡ me → Contains (appended_by me journal) e ⊎ IsOfSessions e)

-- .. or is this one
abbrev pub SendsToo : ℕ → (ℕ → Entry → Type 0) → List ℕ → List Event → Entry → ℕ → Entry → Type 0
SendsToo me may counts journal told user e = OwnWithin me may counts user e × (user ≡ me → Contains (appended_by me journal) e ⊎ (IsOfSessions e ⊎ (e ≡ told)))

-- all events of before are there still
abbrev pub Grows : List Event → List Event → Type 0
Grows old new = (more : List Event) × (new ≡ old ++ more)

-- A node and its sessions, by whom its events are. It appended no rank of a session above those that its desk of the session sent, and
-- of a session without a desk none. What waits at it is of sessions, and nobody else may append the commands of those that asked
-- something here.
pub record WorkerOk (law : Law) (meaning : Meaning) (who : ℕ) (journal : List Event) (seat : SeatView) (desks : List Desk) : Type 0 where
  pub who_is : seat.who ≡ who
  pub origin : seat.node.replica.origin ≡ who
  pub ok : SeatOk (record law { may = Sends who law.may (sent_by desks) journal }) meaning journal seat
  pub packs : CanPack seat.node.replica.kept
  pub waits : All IsOfSession seat.node.replica.kept
  pub size : length desks ≡ 64
  pub each : DesksOk (node_of seat journal) desks
  pub home : (s : ℕ) (d : Desk) → slice_get desks s ≡ Some d → 0 < d.asked → IsHome law.may s who

-- What the rules of a run allow: items may be packed together, the log is trimmed no further than it goes, and nobody reports or
-- leaves for another node.
pub record MayRun (law : Law) : Type 0 where
  pub low : (log : List Entry) (n : ℕ) → law.floor log n → n ≤ length log
  pub join : (who : ℕ) → MayJoin law.may who who
  pub reports : (user node n : ℕ) (e : Entry) (p : Placed) → law.may user e → Contains (unpack 0 e) p → p.content ≡ Alive node n → user ≡ node
  pub leaves : (user node : ℕ) (e : Entry) (p : Placed) → law.may user e → Contains (unpack 0 e) p → p.content ≡ Leave node → user ≡ node

-- an entry that was appended says it
pub record IsSaid (journal : List Event) (c : Content) : Type 0 where
  pub entry : Entry
  pub appended_is : Contains (appended journal) entry
  pub placed : Placed
  pub among : Contains (unpack 0 entry) placed
  pub is : placed.content ≡ c

-- a node reported this position, or it is none
abbrev pub IsReported : List Event → ℕ → Type 0
IsReported journal n = (n ≡ 0) ⊎ ((node : ℕ) × IsSaid journal (Alive node n))

-- an entry that the log holds says it
pub record IsHeld (journal : List Event) (c : Content) : Type 0 where
  pub at : ℕ
  pub entry : Entry
  pub held : Holds journal at entry
  pub placed : Placed
  pub among : Contains (unpack 0 entry) placed
  pub is : placed.content ≡ c

-- the log holds a report of this position, or it is none
abbrev pub IsHeldReport : List Event → ℕ → Type 0
IsHeldReport journal n = (n ≡ 0) ⊎ ((node : ℕ) × IsHeld journal (Alive node n))

-- What the node's report added of its own: entries of sessions, and one that reports a clean position, of which the node has the state.
-- What says this report among the entries below that position, the node had appended before.
pub record ReportAdds (who cursor : ℕ) (old new : List Event) (answer : Looked) : Type 0 where
  pub position : ℕ
  pub clean : IsCleanPoint new position
  pub before : (i : ℕ) (e : Entry) (p : Placed) → i < position → slice_get clean.log i ≡ Some e → Contains (unpack 0 e) p → p.content ≡ Alive who position → Contains (appended_by who old) e
  pub low : position ≤ cursor
  pub is : (n : ℕ) → answer ≡ looked.Reported n → n ≡ position
  pub adds : OwnAdds who (λ e. IsOfSessions e ⊎ SaysAlone (Alive who position) e) old new

-- What its leave added: entries of sessions, and the leave.
abbrev pub LeaveAdds : ℕ → List Event → List Event → Type 0
LeaveAdds who old new = OwnAdds who (λ e. IsOfSessions e ⊎ SaysAlone (Leave who) e) old new

-- What its trim added: entries of sessions, and one that asks for a trim to a position that a node reported. Before that one was
-- appended, the log held such a report.
pub record TrimAdds (who : ℕ) (old new : List Event) : Type 0 where
  pub position : ℕ
  pub reported : IsReported new position
  pub adds : OwnAdds who (λ e. IsOfSessions e ⊎ SaysAlone (Trim position) e) old new
  pub before : List Event
  pub later : Grows before new
  pub none : OwnAdds who IsOfSessions old before
  pub held : IsHeldReport before position

-- As long as a node is a member and reports no more, nobody trims the log behind it.

-- no leave of the node was appended
abbrev pub HasNotLeft : ℕ → List Event → Type 0
HasNotLeft who journal = (e : Entry) (p : Placed) → Contains (appended journal) e → Contains (unpack 0 e) p → p.content ≡ Leave who → ⊥

-- no report of the node was appended above this position
abbrev pub ReportsUpTo : ℕ → ℕ → List Event → Type 0
ReportsUpTo who m journal = (e : Entry) (p : Placed) → Contains (appended journal) e → Contains (unpack 0 e) p → (position : ℕ) → p.content ≡ Alive who position → position ≤ m

-- The node is one of those that may be members; it hasn't left, and reported no position above m.
pub record KeepsLog (floor : List Entry → ℕ → Type 0) (who nodes m : ℕ) (journal : List Event) : Type 0 where
  pub goes_by : FloorIs floor nodes
  pub least : 1 ≤ who
  pub most : who ≤ nodes
  pub stays : HasNotLeft who journal
  pub upto : ReportsUpTo who m journal

-- if anybody is beside the node, it keeps the log from where it is
abbrev pub KeepsBeside : (ℕ → ℕ → Type 0) → (List Entry → ℕ → Type 0) → SeatView → List Event → Type 0
KeepsBeside beside floor s journal = (user : ℕ) → beside s.who user → KeepsLog floor s.who s.node.nodes s.node.replica.cursor journal

-- The log is kept from where the node is: it isn't trimmed above that; and if anybody is beside the node, it keeps it from there.
pub record IsKept (beside : ℕ → ℕ → Type 0) (floor : List Entry → ℕ → Type 0) (s : SeatView) (journal : List Event) : Type 0 where
  pub high : TrimsUpTo s.node.replica.cursor journal
  pub keeps : KeepsBeside beside floor s journal

-- the content is no leave, and no report above m
abbrev pub TellsLow : ℕ → Content → Type 0
TellsLow m (Session s r c) = Unit {0}
TellsLow m (Alive node n) = n ≤ m
TellsLow m (Leave node) = ⊥
TellsLow m (Trim n) = Unit {0}

-- .. and is so once this item is told: if anybody is beside the node, it is no leave, and no report above where the node is
pub record StaysKept (beside : ℕ → ℕ → Type 0) (floor : List Entry → ℕ → Type 0) (s : SeatView) (journal : List Event) (item : Item) : Type 0 where
  pub kept : IsKept beside floor s journal
  pub low : (user : ℕ) → beside s.who user → (c : Content) → content_of item ≡ Some c → TellsLow s.node.replica.cursor c

-- The session's command was asked, and sent, or not. Of no other session a command is lost, and one of which
-- nothing was on its way is given no cause; each fault that the node came across came of its own. Where the session is stopped
-- then, it was before, or is by one of the other causes; and then the command wasn't sent. `counts` are the commands that the node
-- sent by then.
pub record LogsIt (law : Law) (counts : List ℕ) (old new : NodeView) (s : ℕ) (was is : Desk) : Type 0 where
  pub others : List Cause
  pub goes : Goes (record law { may = OwnWithin old.who law.may counts }) old new others
  pub stays : (t : ℕ) → (s == t) ≡ false → StaysGiven old new t
  pub quiet : (t : ℕ) → (s == t) ≡ false → StaysQuiet old new t
  pub asked : is.asked ≡ was.asked + 1
  pub session : is.session ≡ was.session
  pub answered : is.answered ≡ was.answered
  pub stopped : (c : Cause) → was.stopped ≡ Some c → is.stopped ≡ Some c
  pub stops : (c : Cause) → is.stopped ≡ Some c → (was.stopped ≡ Some c) ⊎ Contains others c
  pub held : (c : Cause) → is.stopped ≡ Some c → is.sent ≡ was.sent
  pub more : was.sent ≤ is.sent
  pub most : is.sent ≤ was.sent + 1

-- so it is of a worker, at whose other desks nothing is sent
pub record Logs (law : Law) (old new : NodeView) (s : ℕ) (was is : List Desk) : Type 0 where
  pub before : Desk
  pub was_at : slice_get was s ≡ Some before
  pub after : Desk
  pub is_at : is ≡ slice_set was s after
  pub logs : LogsIt law (sent_by is) old new s before after
