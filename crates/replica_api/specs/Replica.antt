-- A replica: the space that a log's entries led to, the cursor, and the store on a disk that keeps both.
use Rattle.std.specs.Prelude.{◌≡◌, ◌≢◌, ℕ, ◌+◌, ◌≤◌, ◌⊎◌, nat_lt, if◌then◌else◌, Bool, true, false, List, [], ◌∷◌, ◌++◌, length, Option, Some, None}
use Rattle.delos_types.specs.Spaces.{SpaceMap}
use Rattle.delos_types.specs.declared.entry.Entry.{Entry}
use Rattle.delos_types.specs.Spelling.{IsSpellable}
use Rattle.engine_api.specs.Packing.{packed}
use Rattle.delos_types.specs.declared.item.Item.{Item}
use Rattle.disk_model.specs.Disk.{Timeline, Rose, bumped}
use Rattle.disk_model.specs.Armed.{Spends, TakesRecord}
use Rattle.disk_model.specs.Crash.{Leaves}
use Rattle.replica_api.specs.declared.replica.Applied.{Applied}
use Rattle.replica_api.specs.declared.replica.Applied.TheVariants as applied
use Rattle.replica_api.specs.declared.replica.Reopened.{Reopened}
use Rattle.replica_api.specs.declared.replica.Reopened.TheVariants as reopened

-- a cursor and a space that a store keeps together
pub record Saved : Type 0 where
  pub cursor : ℕ
  pub contents : SpaceMap

-- what a replica's log and its disk mean: these entries, from position 0 on, lead to this space; these bytes spell this
-- cursor and this space
pub record Meaning : Type 1 where
  pub state : List Entry → SpaceMap → Type 0
  pub spells : List ℕ → Saved → Type 0

-- what it shows; what the disk failed to keep, and a crash may have kept; whether the record of that stands, so that a
-- reopening finds it; whether it is down; its disk and the counted faults; the node of its entries; the items that wait to
-- be packed; which of the next writes of its disk stops inside itself, counted from 1 (0 for none, and while the replica is
-- down); the word by which its disk was reopened last; and how many stops and reopenings were asked for
pub record ReplicaView : Type 0 where
  pub cursor : ℕ
  pub contents : SpaceMap
  pub asked : Option Saved
  pub stands : Bool
  pub down : Bool
  pub disk : Timeline
  pub faults : ℕ
  pub origin : ℕ
  pub kept : List Item
  pub armed : ℕ
  pub word : ℕ
  pub stops : ℕ
  pub reopenings : ℕ

-- its write of this number from now on is to stop inside itself, and 0 takes that back; a stop of one that is down is counted
-- alone
abbrev pub armed_by : ReplicaView → ℕ → ReplicaView
armed_by v after = record v { armed = if v.down then 0 else after; stops = bumped v.stops }

abbrev pub saved_in : ReplicaView → Saved
saved_in v = record { cursor = v.cursor; contents = v.contents }

-- a reopening may find this
abbrev pub MayFind : ReplicaView → Saved → Type 0
MayFind v s = (s ≡ saved_in v) ⊎ (v.asked ≡ Some s)

-- an image spells a pair that has P
abbrev pub SpellsOne : (List ℕ → Saved → Type 0) → (Saved → Type 0) → List ℕ → Type 0
SpellsOne spells P image = (s : Saved) × spells image s × P s

-- a crash now leaves one of the pairs that a reopening may find
abbrev pub Survives : (List ℕ → Saved → Type 0) → ReplicaView → Type 0
Survives spells v = Leaves v.disk.now (SpellsOne spells (MayFind v))

-- whatever entries led to the old space, these and e lead to the new one
abbrev pub Advances : (List Entry → SpaceMap → Type 0) → SpaceMap → ℕ → Entry → SpaceMap → Type 0
Advances state m pos e m' = (log : List Entry) → length log ≡ pos → state log m → state (log ++ e ∷ []) m'

-- the entry was applied, and its space is kept with the next cursor
pub record Advanced (state : List Entry → SpaceMap → Type 0) (old : ReplicaView) (e : Entry) (new : ReplicaView) : Type 0 where
  pub was_up : old.down ≡ false
  pub led : Advances state old.contents old.cursor e new.contents
  pub cursor : new.cursor ≡ old.cursor + 1
  pub none_asked : new.asked ≡ None
  pub settled : new.stands ≡ false
  pub up : new.down ≡ false
  pub faults : new.faults ≡ old.faults
  pub origin : new.origin ≡ old.origin
  pub kept : new.kept ≡ old.kept
  pub armed : TakesRecord 4 old.armed new.armed
  pub word : new.word ≡ old.word
  pub stops : new.stops ≡ old.stops
  pub reopenings : new.reopenings ≡ old.reopenings

-- the disk failed: the replica is down, and shows what it showed
pub record Failed (state : List Entry → SpaceMap → Type 0) (old : ReplicaView) (e : Entry) (new : ReplicaView) : Type 0 where
  pub was_up : old.down ≡ false
  pub next : SpaceMap
  pub led : Advances state old.contents old.cursor e next
  pub is : new ≡ record old { asked = Some (record { cursor = old.cursor + 1; contents = next }); stands = new.stands; down = true; armed = 0; disk = new.disk; faults = bumped old.faults }
  pub counts : old.faults ≤ new.faults

-- an entry comes up at the cursor
abbrev pub Takes : (List Entry → SpaceMap → Type 0) → ReplicaView → Entry → Applied → ReplicaView → Type 0
Takes state old e applied.Done new = Advanced state old e new
Takes state old e applied.DiskFault new = Failed state old e new
Takes state old e applied.Down new = (old.down ≡ true) × (new ≡ old)
Takes state old e applied.Memory new = Spends 1 old.armed new.armed × (new ≡ record old { disk = new.disk; armed = new.armed })

-- a crash inside it leaves what one before it may leave, or what the entry leads to
abbrev pub MayFindDuring : (List Entry → SpaceMap → Type 0) → ReplicaView → Entry → Saved → Type 0
MayFindDuring state v e s = MayFind v s ⊎ ((s.cursor ≡ v.cursor + 1) × Advances state v.contents v.cursor e s.contents)

-- The replica is up, with one of the pairs that a reopening may find, and no fault came. Where it was down its disk was
-- reopened by the word; where it was up nothing is done.
pub record Recovered (word : ℕ) (old new : ReplicaView) : Type 0 where
  pub found : MayFind old (saved_in new)
  pub standing : old.stands ≡ true → old.asked ≡ Some (saved_in new)
  pub settled : new.stands ≡ false
  pub none_asked : new.asked ≡ None
  pub up : new.down ≡ false
  pub faults : new.faults ≡ old.faults
  pub origin : new.origin ≡ old.origin
  pub kept : new.kept ≡ old.kept
  pub armed : new.armed ≡ old.armed
  pub word_is : old.down ≡ true → new.word ≡ word
  pub stops : new.stops ≡ old.stops
  pub reopenings : new.reopenings ≡ bumped old.reopenings
  pub idle : old.down ≡ false → new ≡ record old { reopenings = bumped old.reopenings }

-- the disk was reopened by this word, or refused
abbrev pub Tries : ℕ → ReplicaView → ReplicaView → Type 0
Tries word old new = (old.down ≡ true) × ((new.word ≡ word) ⊎ (new.word ≡ old.word))

-- it is down still, and its disk failed again
pub record StaysDown (word : ℕ) (old new : ReplicaView) : Type 0 where
  pub tries : Tries word old new
  pub is : new ≡ record old { disk = new.disk; faults = bumped old.faults; word = new.word; reopenings = bumped old.reopenings }
  pub counts : old.faults ≤ new.faults

-- without memory it shows what it showed, but for the disk's bytes, and its word where it was reopened
abbrev pub Reopens : ReplicaView → ℕ → Reopened → ReplicaView → Type 0
Reopens old word reopened.Done new = Recovered word old new
Reopens old word reopened.DiskFault new = StaysDown word old new
Reopens old word reopened.Memory new = (new ≡ record old { disk = new.disk }) ⊎ (Tries word old new × (new ≡ record old { disk = new.disk; word = new.word }))

-- Its disk is armed where it was, by a count that only fell, or failed, and the replica is down.
abbrev pub ArmedAsBefore : ReplicaView → ReplicaView → Type 0
ArmedAsBefore old new = ((new.armed ≤ old.armed) × (nat_lt 0 new.armed ≡ nat_lt 0 old.armed)) ⊎ ((new.armed ≡ 0) × Rose old.faults new.faults)

-- The way down

-- these items are packed
pub record Packs (origin : ℕ) (items : List Item) (e : Entry) : Type 0 where
  pub entry : e ≡ packed origin items
  pub spelled : IsSpellable e

-- an item waits with up to 14 others, or is packed with the 15 that waited
abbrev pub Queues : ℕ → List Item → Item → Option Entry → List Item → Type 0
Queues origin kept item None kept' = (kept' ≡ kept ++ item ∷ []) × (length kept' ≤ 15)
Queues origin kept item (Some e) kept' = (length kept ≡ 15) × Packs origin (kept ++ item ∷ []) e × (kept' ≡ [])

-- what waits is packed; none where nothing waits
abbrev pub Flushes : ℕ → List Item → Option Entry → List Item → Type 0
Flushes origin kept None kept' = (kept ≡ []) × (kept' ≡ [])
Flushes origin kept (Some e) kept' = (kept ≢ []) × Packs origin kept e × (kept' ≡ [])
