-- What a call of a node keeps of all its sessions, and which faults it came across.
use Rattle.std.specs.Prelude.{◌≡◌, ℕ, ◌+◌, ◌^◌, ◌-◌, ◌≤◌, min, max, if◌then◌else◌, Bool, true, false, ◌==◌, List, [], ◌∷◌, ◌++◌, length, map, count_by, All, None}
use Rattle.delos_types.specs.declared.entry.Entry.{Entry}
use Rattle.delos_types.specs.declared.item.Item.{Item}
use Rattle.delos_types.specs.declared.cause.Cause.{Cause}
use Rattle.delos_types.specs.declared.cause.Cause.TheVariants as cause
use Rattle.legal_journal.specs.Law.{Law}
use Rattle.legal_journal.specs.declared.events.Event.{Event}
use Rattle.journal_laws.specs.Own.{faults_of}
use Rattle.engine_api.specs.Packing.{IsProposable}
use Rattle.replica_api.specs.Replica.{ReplicaView}
use Rattle.base_engine.specs.declared.outbox.Given.{Given}
use Rattle.base_engine.specs.Arming.{LeavesArming}
use Rattle.base_engine.specs.Settling.{sessions_in, has_session, cause_in}
use Rattle.base_engine.specs.Node.{NodeView, Keeps}
use Rattle.node_lines.specs.UnderWay.{IsGiven, ranks_in}
use Rattle.node_lines.specs.declared.steps.Synced.{Synced}
use Rattle.node_lines.specs.declared.steps.Synced.TheVariants as synced

-- Faults

abbrev pub is_store : Cause → Bool
is_store cause.Store = true
is_store other = false

-- a count that rose so often, up to its type's end
abbrev pub Rises : ℕ → ℕ → ℕ → Type 0
Rises n before after = min (before + n) (2 ^ 64 - 1) ≤ min after (2 ^ 64 - 1)

-- The faults of a replica's disk, to which each cause `store` adds one. The first fault of a store that is up takes it down, and is
-- no cause: the count begins at 1 there.
abbrev pub strikes : ReplicaView → ℕ
strikes r = if r.down then r.faults else max r.faults 1

-- Each of these causes came of its own: those of the log by as many events of who since old, those of the disk by a count that rose as often.
pub record Spends (who : ℕ) (old new : List Event) (before after : ℕ) (causes : List Cause) : Type 0 where
  pub more : List Event
  pub seen : new ≡ old ++ more
  pub events : (P : Cause → Bool) → P cause.Store ≡ false → count_by P causes ≤ count_by P (faults_of who more)
  pub disk : Rises (count_by is_store causes) before after

-- A node's calls

-- what waits can be packed
pub record CanPack (kept : List Item) : Type 0 where
  pub each : All IsProposable kept
  pub few : length kept ≤ 15

-- the causes that were given since, and others that these calls came across
abbrev pub causes_of : List Given → List Cause → List Cause
causes_of given others = map (λ g. g.cause) given ++ others

-- the cause of a sync that failed
abbrev pub failure_of : Synced → List Cause
failure_of (synced.At tail) = []
failure_of (synced.Failed c) = c ∷ []

-- what a node's call keeps, whatever it does: each cause that it gives, or answers, came of its own, and nothing but a stop arms its disk
pub record Goes (law : Law) (old new : NodeView) (others : List Cause) : Type 0 where
  pub keeps : Keeps law old new
  pub given : List Given
  pub gained : new.outbox.given ≡ old.outbox.given ++ given
  pub spends : Spends old.who old.seen new.seen (strikes old.replica) (strikes new.replica) (causes_of given others)
  pub packs : CanPack old.replica.kept → CanPack new.replica.kept
  pub arming : LeavesArming 0 old.replica new.replica

-- the commands of session s that were given are so still, where it has no cause
abbrev pub StaysGiven : NodeView → NodeView → ℕ → Type 0
StaysGiven old new s =
    (sent : ℕ) → cause_in s new.outbox.given ≡ None → IsGiven old.seen old.outbox.entries old.replica.kept s sent → IsGiven new.seen new.outbox.entries new.replica.kept s sent

-- .. and one more
abbrev pub GainsNext : NodeView → NodeView → ℕ → ℕ → Type 0
GainsNext old new s sent =
    cause_in s new.outbox.given ≡ None → IsGiven old.seen old.outbox.entries old.replica.kept s sent → IsGiven new.seen new.outbox.entries new.replica.kept s (sent + 1)

-- no item of the entry is of session s
abbrev pub HasNoneOf : ℕ → Entry → Type 0
HasNoneOf s e = has_session s (sessions_in e) ≡ false

-- nothing of session s is on its way: no item of it is outstanding, none waits to be packed, and it has no cause
pub record IsQuiet (n : NodeView) (s : ℕ) : Type 0 where
  pub outstanding : All (HasNoneOf s) n.outbox.entries
  pub waiting : ranks_in s n.replica.kept ≡ []
  pub free : cause_in s n.outbox.given ≡ None

-- a session of which nothing was on its way was given no cause, and nothing of it went down
abbrev pub StaysQuiet : NodeView → NodeView → ℕ → Type 0
StaysQuiet old new s = IsQuiet old s → IsQuiet new s

-- of no session a command goes down
pub record Moves (law : Law) (old new : NodeView) (others : List Cause) : Type 0 where
  pub goes : Goes law old new others
  pub stays : (s : ℕ) → StaysGiven old new s
  pub quiet : (s : ℕ) → StaysQuiet old new s

-- What waited was packed, and all that was outstanding was carried to its end.
pub record CarriesAll (law : Law) (old new : NodeView) : Type 0 where
  pub moves : Moves law old new []
  pub none : new.outbox.entries ≡ []
  pub kept : new.replica.kept ≡ []

-- All was carried to its end first; these causes came behind that, each of its own.
pub record CarriesFirst (law : Law) (old new : NodeView) (others : List Cause) : Type 0 where
  pub settled : NodeView
  pub carries : CarriesAll law old settled
  pub since : Moves law settled new others

-- of session s the next command after so many goes down
pub record HandsIn (law : Law) (old new : NodeView) (s sent : ℕ) : Type 0 where
  pub goes : Goes law old new []
  pub own : GainsNext old new s sent
  pub stays : (t : ℕ) → (s == t) ≡ false → StaysGiven old new t
  pub quiet : (t : ℕ) → (s == t) ≡ false → StaysQuiet old new t
