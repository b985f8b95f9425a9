-- Up to where a node trims its log.
use Rattle.std.specs.Prelude.{◌≡◌, ◌⊎◌, ℕ, Bool, not, List, [], ◌∷◌, ◌++◌, length, Contains, map, filter, min, Option, None, Some}
use Rattle.delos_types.specs.Spaces.{SpaceMap}
use Rattle.delos_types.specs.declared.cause.Cause.{Cause}
use Rattle.delos_types.specs.declared.entry.Entry.{Entry}
use Rattle.delos_types.specs.declared.item.Item.{Item}
use Rattle.engine_api.specs.Members.{least}
use Rattle.engine_api.specs.Order.{numbers}
use Rattle.engine_api.specs.Packing.{packed, trim_item}
use Rattle.engine_steps.specs.Layout as layout
use Rattle.legal_journal.specs.Law.{Law}
use Rattle.legal_journal.specs.declared.events.Event.{Event}
use Rattle.legal_journal.specs.Journal.{state_of, IsLegal}
use Rattle.virtual_log.specs.Truncating.{IsPrefixTrimmed}
use Rattle.virtual_log.specs.Turning.{IsAbove}
use Rattle.replica_api.specs.Replica.{ReplicaView, saved_in}
use Rattle.base_engine.specs.declared.fault.Fault.{Fault}
use Rattle.base_engine.specs.declared.fault.Fault.TheVariants.{Because, Memory}
use Rattle.base_engine.specs.Following.{IsStateAt, IsAt}
use Rattle.base_engine.specs.Settling.{OutboxView, Landed, Meets, Settled, Answers}
use Rattle.base_engine.specs.Proposing.{with_sent}

-- a node is a member where it hasn't left
abbrev pub is_member_in : SpaceMap → ℕ → Bool
is_member_in m node = not (layout.has_left_in m node)

-- the least of the positions that the members among the nodes 1 to `nodes` reported, 0 where none is a member
abbrev pub least_of : ℕ → SpaceMap → ℕ
least_of nodes m = least (map (layout.reported_of m) (filter (is_member_in m) (numbers 1 nodes)))

-- entries that led to a space may be trimmed to the lesser of its trim point and the least position in it, as far as they go
abbrev pub IsFloor : (List Entry → SpaceMap → Type 0) → (List Entry → ℕ → Type 0) → ℕ → Type 0
IsFloor state floor nodes = (log : List Entry) (m : SpaceMap) → state log m → floor log (min (length log) (min (layout.trim_of m) (least_of nodes m)))

-- by each legal journal, the log shows what it holds, or did before it was trimmed
abbrev pub ShowsAll : Law → (List Event → ℕ → Entry → Type 0) → Type 0
ShowsAll law holds =
    (seen : List Event) (pos : ℕ) (e : Entry) → IsLegal law seen → holds seen pos e → (state_of seen).shown pos ≡ Some e

-- up to where the log is trimmed: the lesser of the trim point and the least position of a member, and no further than
-- the entries that were applied
abbrev pub trim_to : ℕ → ReplicaView → ℕ
trim_to nodes v = min v.cursor (min (layout.trim_of v.contents) (least_of nodes v.contents))

-- a tail was found, the replica has the state that the log's entries below it lead to, and this is the least position of
-- a member in it
pub record IsLeastAtTail (holds : List Event → ℕ → Entry → Type 0) (state : List Entry → SpaceMap → Type 0) (nodes who : ℕ) (old new : List Event) (v : ReplicaView) (n : ℕ) : Type 0 where
  pub tail : ℕ
  pub above : IsAbove who old tail new
  pub at : IsAt tail v new
  pub led : IsStateAt holds state new (saved_in v)
  pub is : n ≡ least_of nodes v.contents

-- the entry was appended at a moment since old: it stands at its position and is held there, above each one that was answered before
pub record IsAppended (holds : List Event → ℕ → Entry → Type 0) (who : ℕ) (old : List Event) (e : Entry) (new : List Event) : Type 0 where
  pub before : List Event
  pub since : (more : List Event) × (before ≡ old ++ more)
  pub position : ℕ
  pub after : List Event
  pub met : Meets holds who before e (Landed position) after
  pub rest : (more : List Event) × (new ≡ after ++ more)

-- an entry with the item was appended
pub record HasLanded (holds : List Event → ℕ → Entry → Type 0) (who origin : ℕ) (old : List Event) (item : Item) (new : List Event) : Type 0 where
  pub items : List Item
  pub among : Contains items item
  pub appended : IsAppended holds who old (packed origin items) new

-- the log was played to its end, as far as it is known, and trimmed
pub record TrimsBelow (nodes who : ℕ) (old new : List Event) (v : ReplicaView) (known trim : ℕ) : Type 0 where
  pub played : List Event
  pub since : (more : List Event) × (played ≡ old ++ more)
  pub at : IsAt known v played
  pub trimmed : IsPrefixTrimmed who played (trim_to nodes v) trim new

-- The least position of a member, in the state at a tail, was asked for: an entry with that trim was appended. Then the
-- log was played and trimmed.
pub record Trims (holds : List Event → ℕ → Entry → Type 0) (state : List Entry → SpaceMap → Type 0) (nodes who origin : ℕ) (old new : List Event) (v : ReplicaView) (known trim : ℕ) : Type 0 where
  pub there : ReplicaView
  pub synced : List Event
  pub position : ℕ
  pub found : IsLeastAtTail holds state nodes who old synced there position
  pub asked : List Event
  pub landed : HasLanded holds who origin synced (trim_item position) asked
  pub below : TrimsBelow nodes who asked new v known trim

-- An item went down with what waited, in one entry; or it waits too; or it didn't go down.
abbrev pub GoesDown : ℕ → List Item → Item → List Entry → List Item → Type 0
GoesDown origin kept item sent kept' =
    ((sent ≡ packed origin (kept ++ item ∷ []) ∷ []) × (kept' ≡ [])) ⊎ (((sent ≡ []) × (kept' ≡ kept ++ item ∷ [])) ⊎ ((sent ≡ []) × (kept' ≡ kept)))

-- All that was outstanding, and behind it the item with what waited, in one entry, was carried to its end, and this cause
-- answers it. Nothing waits any more.
pub record GoesThrough (holds : List Event → ℕ → Entry → Type 0) (who origin : ℕ) (old : List Event) (was : OutboxView) (kept : List Item) (item : Item) (cause : Option Cause) (new : List Event) (is : OutboxView) (kept' : List Item) : Type 0 where
  pub answered : Answers holds who old (with_sent was (packed origin (kept ++ item ∷ []) ∷ [])) cause new is
  pub none : kept' ≡ []

-- .. or the first of that was, and the others are outstanding still
pub record StopsShort (holds : List Event → ℕ → Entry → Type 0) (who origin : ℕ) (old : List Event) (was : OutboxView) (kept : List Item) (item : Item) (new : List Event) (is : OutboxView) (kept' : List Item) : Type 0 where
  pub sent : List Entry
  pub down : GoesDown origin kept item sent kept'
  pub settled : Settled holds who old (with_sent was sent) new is

-- a push of an item fails for the cause that answers it, or stops short
abbrev pub Unpushed : (List Event → ℕ → Entry → Type 0) → ℕ → ℕ → List Event → OutboxView → List Item → Item → Fault → List Event → OutboxView → List Item → Type 0
Unpushed holds who origin old was kept item Memory new is kept' = StopsShort holds who origin old was kept item new is kept'
Unpushed holds who origin old was kept item (Because cause) new is kept' = GoesThrough holds who origin old was kept item (Some cause) new is kept'

-- The request for a trim to some position went through, with this answer.
pub record AsksThrough (holds : List Event → ℕ → Entry → Type 0) (who origin : ℕ) (old : List Event) (was : OutboxView) (kept : List Item) (cause : Option Cause) (new : List Event) (is : OutboxView) (kept' : List Item) : Type 0 where
  pub position : ℕ
  pub through : GoesThrough holds who origin old was kept (trim_item position) cause new is kept'

-- What a trim that failed leaves of what was sent down. Without memory it may stop anywhere. For another cause: no tail was
-- found, and nothing was sent or settled; or that cause answers what was outstanding and the request; or they were all
-- appended, and the log was not trimmed.
abbrev pub Untrimmed : (List Event → ℕ → Entry → Type 0) → ℕ → ℕ → List Event → OutboxView → List Item → Fault → List Event → OutboxView → List Item → Type 0
Untrimmed holds who origin old was kept Memory new is kept' = (position : ℕ) × StopsShort holds who origin old was kept (trim_item position) new is kept'
Untrimmed holds who origin old was kept (Because cause) new is kept' =
    ((is ≡ was) × (kept' ≡ kept)) ⊎ (AsksThrough holds who origin old was kept (Some cause) new is kept' ⊎ AsksThrough holds who origin old was kept None new is kept')

-- the fault is the cause that waited for a settling
abbrev pub IsEarlier : Option Cause → Fault → Type 0
IsEarlier None f = ⊥
IsEarlier (Some cause) f = f ≡ Because cause
