-- A store, and what waits in the engines over it, as one replica.
use Rattle.std.specs.Prelude.{◌≡◌, if◌then◌else◌, ℕ, Bool, true, false, List, Some}
use Rattle.std.specs.Option.{option_map}
use Rattle.delos_types.specs.declared.item.Item.{Item}
use Rattle.journal_pair.specs.Records.{records_of}
use Rattle.store_records.specs.Spelled.{committed, saved_of}
use Rattle.store_records.specs.Spelled as spelled
use Rattle.local_store.specs.View as store
use Rattle.log_laws.specs.State.{IsStateOf}
use Rattle.replica_api.specs.Replica.{Meaning, Saved, ReplicaView}
use Rattle.replica_api.specs.declared.replica.Applied.{Applied}
use Rattle.replica_api.specs.declared.replica.Applied.TheVariants as applied
use Rattle.replica_api.specs.declared.replica.Reopened.{Reopened}
use Rattle.replica_api.specs.declared.replica.Reopened.TheVariants as reopened

-- what a store keeps
abbrev pub pair_of : spelled.Saved → Saved
pair_of s = record { cursor = s.cursor; contents = s.contents }

-- The store of a node, what waits in its lowest engine, and how many stops and reopenings it was told. What the disk failed
-- to keep is what the transaction led to; the disk's count is shown while the store is up.
abbrev pub shown : store.View → ℕ → List Item → ℕ → ℕ → ReplicaView
shown v origin waiting stops reopenings = record {
  cursor = v.cursor;
  contents = v.contents;
  asked = option_map (λ c. pair_of (committed (store.saved_in v) c)) v.asked;
  stands = v.stands;
  down = v.down;
  disk = v.disk.timeline;
  faults = v.disk.faults;
  origin = origin;
  kept = waiting;
  armed = if v.down then 0 else v.disk.armed;
  word = v.disk.word;
  stops = stops;
  reopenings = reopenings;
}

-- the records of a disk with these bytes spell this cursor and this space
abbrev pub Spells : List ℕ → Saved → Type 0
Spells image s = saved_of (records_of image) ≡ Some (record { cursor = s.cursor; contents = s.contents })

-- what the log and the disk of a local replica mean
abbrev pub local_meaning : Meaning
local_meaning = record { state = IsStateOf; spells = Spells }

-- memory ran out before the entry was kept
abbrev pub lacks_memory : Applied → Bool
lacks_memory applied.Memory = true
lacks_memory answer = false

-- a reopening found the store up, or opened it
abbrev pub is_up : Reopened → Bool
is_up reopened.Done = true
is_up answer = false
