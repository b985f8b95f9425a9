-- How items go down.
use Rattle.std.specs.Prelude.{◌≡◌, ℕ, ◌+◌, ◌<◌, ◌≤◌, ◌⊎◌, Bool, true, false, List, [], ◌∷◌, ◌++◌, length, Option, Some, None}
use Rattle.delos_types.specs.Spaces.{SpaceMap}
use Rattle.delos_types.specs.declared.entry.Entry.{Entry}
use Rattle.delos_types.specs.declared.item.Item.{Item}
use Rattle.delos_types.specs.declared.cause.Cause.{Cause}
use Rattle.legal_journal.specs.declared.events.Event.{Event}
use Rattle.engine_api.specs.declared.content.Content.{Content}
use Rattle.engine_api.specs.declared.content.Content.TheVariants as content
use Rattle.engine_steps.specs.Layout as layout
use Rattle.engine_steps.specs.Words.{under}
use Rattle.virtual_log.specs.Turning.{IsAbove}
use Rattle.base_engine.specs.declared.fault.Fault.{Fault}
use Rattle.base_engine.specs.declared.fault.Fault.TheVariants.{Because, Memory}
use Rattle.replica_api.specs.Replica.{ReplicaView, Queues}
use Rattle.base_engine.specs.Following.{IsAt}
use Rattle.base_engine.specs.Settling.{OutboxView, Settled}

-- an entry that was packed is outstanding
abbrev pub with_entry : OutboxView → Option Entry → OutboxView
with_entry o None = o
with_entry o (Some e) = record { entries = o.entries ++ e ∷ []; given = o.given; unsettled = o.unsettled }

-- these entries are outstanding behind the others
abbrev pub with_sent : OutboxView → List Entry → OutboxView
with_sent o es = record { entries = o.entries ++ es; given = o.given; unsettled = o.unsettled }

-- The oldest entry is carried to its end where there is no room for one more; what comes out then is outstanding.
pub record Sent (holds : List Event → ℕ → Entry → Type 0) (who : ℕ) (old : List Event) (was : OutboxView) (queued : Option Entry → Type 0) (new : List Event) (is : OutboxView) : Type 0 where
  pub mid : OutboxView
  pub settled : Settled holds who old was new mid
  pub room : length mid.entries ≤ 3
  pub packed : Option Entry
  pub out : queued packed
  pub is_with : is ≡ with_entry mid packed

-- a rank of a session is at most 64 above the last that acted
abbrev pub IsNearAt : SpaceMap → Option Content → Type 0
IsNearAt m (Some (content.Session s r command)) = r ≤ layout.last_of m s + 64
IsNearAt m word = Unit {0}

abbrev pub IsFarAt : SpaceMap → Option Content → Type 0
IsFarAt m (Some (content.Session s r command)) = layout.last_of m s + 64 < r
IsFarAt m word = ⊥

-- whether a rank of a session is near
abbrev pub IsNearBy : SpaceMap → ℕ → ℕ → Bool → Type 0
IsNearBy m s r true = r ≤ layout.last_of m s + 64
IsNearBy m s r false = layout.last_of m s + 64 < r

abbrev pub IsNear : SpaceMap → Item → Type 0
IsNear m item = IsNearAt m (under 2 item)

abbrev pub IsFar : SpaceMap → Item → Type 0
IsFar m item = IsFarAt m (under 2 item)

-- All was carried to its end, and the replica then has the state at a tail that was found after that.
pub record CaughtUp (holds : List Event → ℕ → Entry → Type 0) (who : ℕ) (old : List Event) (was : OutboxView) (new : List Event) (is : OutboxView) (v : ReplicaView) : Type 0 where
  pub settled : Settled holds who old was new is
  pub none : is.entries ≡ []
  pub mid : List Event
  pub since : (more : List Event) × (mid ≡ settled.moment ++ more)
  pub tail : ℕ
  pub above : IsAbove who mid tail new
  pub at : IsAt tail v new

-- The item may go down: its rank isn't too high, or isn't any more once all was carried to its end and played. It may
-- not where its rank is too high still.
abbrev pub Readied : (List Event → ℕ → Entry → Type 0) → ℕ → List Event → OutboxView → Item → Bool → List Event → OutboxView → ReplicaView → Type 0
Readied holds who old was item true new is v' = (((new ≡ old) × (is ≡ was)) ⊎ CaughtUp holds who old was new is v') × IsNear v'.contents item
Readied holds who old was item false new is v' = CaughtUp holds who old was new is v' × IsFar v'.contents item

-- The item went down; or it was left out, since its rank was too high still once all was carried to its end and played.
abbrev pub Proposed : (List Event → ℕ → Entry → Type 0) → ℕ → List Event → OutboxView → ReplicaView → Item → List Event → OutboxView → ReplicaView → Type 0
Proposed holds who old was v item new is v' =
    (Sent holds who old was (λ packed. Queues v.origin v.kept item packed v'.kept) new is × IsNear v'.contents item)
    ⊎ (CaughtUp holds who old was new is v' × IsFar v'.contents item × (v'.kept ≡ v.kept))

-- A session was given the fault of the sync, once all was carried to its end.
pub record SyncFailed (holds : List Event → ℕ → Entry → Type 0) (who : ℕ) (old : List Event) (was : OutboxView) (session : ℕ) (cause : Cause) (new : List Event) (is : OutboxView) : Type 0 where
  pub mid : OutboxView
  pub settled : Settled holds who old was new mid
  pub none : mid.entries ≡ []
  pub gave : is ≡ record { entries = []; given = mid.given ++ record { sessions = session ∷ []; cause = cause } ∷ []; unsettled = mid.unsettled }

abbrev pub GaveUp : (List Event → ℕ → Entry → Type 0) → ℕ → List Event → OutboxView → ℕ → Fault → List Event → OutboxView → Type 0
GaveUp holds who old was session Memory new is = Settled holds who old was new is
GaveUp holds who old was session (Because cause) new is = SyncFailed holds who old was session cause new is

abbrev pub GaveUpAt : (List Event → ℕ → Entry → Type 0) → ℕ → List Event → OutboxView → Option Content → Fault → List Event → OutboxView → Type 0
GaveUpAt holds who old was (Some (content.Session s r command)) f new is = GaveUp holds who old was s f new is
GaveUpAt holds who old was word Memory new is = Settled holds who old was new is
GaveUpAt holds who old was word (Because cause) new is = ⊥

-- The item didn't go down, for want of memory, or since the sync failed: then its session was given that cause.
abbrev pub Refused : (List Event → ℕ → Entry → Type 0) → ℕ → List Event → OutboxView → Item → Fault → List Event → OutboxView → Type 0
Refused holds who old was item f new is = GaveUpAt holds who old was (under 2 item) f new is
