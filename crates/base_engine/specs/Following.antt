-- A replica follows its log.
use Rattle.std.specs.Prelude.{◌≡◌, ℕ, ◌+◌, ◌≤◌, ◌⊎◌, true, false, List, ◌++◌, length, slice_get, Some, max}
use Rattle.delos_types.specs.Spaces.{SpaceMap}
use Rattle.delos_types.specs.declared.entry.Entry.{Entry}
use Rattle.legal_journal.specs.declared.events.Event.{Event}
use Rattle.base_engine.specs.declared.play.Played.{Played}
use Rattle.base_engine.specs.declared.play.Played.TheVariants as played
use Rattle.legal_journal.specs.Journal.{state_of, tail_of, trim_of}
use Rattle.virtual_log.specs.Turning.{OnlyOwn}
use Rattle.virtual_log.specs.Holding.{IsTrimmed}
use Rattle.base_engine.specs.Reading.{IsFront}
use Rattle.base_engine.specs.Arming.{repaired}
use Rattle.replica_api.specs.Replica.{Meaning, Saved, ReplicaView, saved_in, Survives, Advances}

-- the space is what the log's first entries lead to, so many as the cursor says
pub record IsStateAt (holds : List Event → ℕ → Entry → Type 0) (state : List Entry → SpaceMap → Type 0) (seen : List Event) (s : Saved) : Type 0 where
  pub log : List Entry
  pub size : length log ≡ s.cursor
  pub front : IsFront holds seen log
  pub led : state log s.contents

-- what the disk failed to keep is one entry further, by the one that the log holds there
pub record IsAsked (holds : List Event → ℕ → Entry → Type 0) (state : List Entry → SpaceMap → Type 0) (seen : List Event) (now s : Saved) : Type 0 where
  pub entry : Entry
  pub held : holds seen now.cursor entry
  pub led : Advances state now.contents now.cursor entry s.contents
  pub next : s.cursor ≡ now.cursor + 1

-- It went on from where it was by these entries, which the log holds at their positions, one behind another: whatever led to the old space leads with
-- them to the new one.
pub record GoesOn (holds : List Event → ℕ → Entry → Type 0) (state : List Entry → SpaceMap → Type 0) (seen : List Event) (old new : Saved) : Type 0 where
  pub entries : List Entry
  pub size : new.cursor ≡ old.cursor + length entries
  pub held : (k : ℕ) (e : Entry) → slice_get entries k ≡ Some e → holds seen (old.cursor + k) e
  pub led : (log : List Entry) → length log ≡ old.cursor → state log old.contents → state (log ++ entries) new.contents

-- a crash may leave this: the state of some of the log's first entries, and of no fewer than so many
pub record IsFound (holds : List Event → ℕ → Entry → Type 0) (state : List Entry → SpaceMap → Type 0) (seen : List Event) (cursor : ℕ) (s : Saved) : Type 0 where
  pub at : IsStateAt holds state seen s
  pub forward : cursor ≤ s.cursor

-- The replica has the state of the log's first `cursor` entries, now and after any crash.
pub record Follows (holds : List Event → ℕ → Entry → Type 0) (meaning : Meaning) (seen : List Event) (v : ReplicaView) : Type 0 where
  pub now : IsStateAt holds meaning.state seen (saved_in v)
  pub asked : (s : Saved) → v.asked ≡ Some s → IsAsked holds meaning.state seen (saved_in v) s
  pub survives : Survives meaning.spells v

-- the log is known up to the cursor, and up to that of what the disk failed to keep
pub record IsKnown (known : ℕ) (v : ReplicaView) : Type 0 where
  pub now : v.cursor ≤ known
  pub asked : (s : Saved) → v.asked ≡ Some s → s.cursor ≤ known

-- one entry was applied; or its position is trimmed; or the disk failed, or had failed before
abbrev pub Plays : Played → ReplicaView → ReplicaView → List Event → Type 0
Plays played.Applied old new seen = (new.cursor ≡ old.cursor + 1) × (new.faults ≡ old.faults) × (new.down ≡ false) × (old.down ≡ false)
Plays played.Trimmed old new seen = (new ≡ old) × IsTrimmed seen old.cursor
Plays played.Broken old new seen = (new.cursor ≡ old.cursor) × (old.faults ≤ new.faults) × (new.faults ≡ repaired old)

-- The cursor is the greater of what it was and `to`, or stands below the trim.
abbrev pub Reaches : ℕ → ReplicaView → ReplicaView → List Event → Type 0
Reaches to old new seen = (new.cursor ≡ max old.cursor to) ⊎ IsTrimmed seen new.cursor

-- the cursor is that tail, or stands below the trim
abbrev pub IsAt : ℕ → ReplicaView → List Event → Type 0
IsAt tail v seen = (v.cursor ≡ tail) ⊎ IsTrimmed seen v.cursor

-- Where each event since is who's, and the log isn't trimmed above the position, its tail is as it was.
abbrev pub KeepsTail : ℕ → ℕ → List Event → List Event → Type 0
KeepsTail who pos old new = trim_of (state_of new) ≤ pos → OnlyOwn who old new → tail_of (state_of new) ≡ tail_of (state_of old)

-- where each event since is who's, and the log isn't trimmed above the position, it ends no higher than this
abbrev pub EndsBy : ℕ → ℕ → List Event → ℕ → List Event → Type 0
EndsBy who pos old tail new = trim_of (state_of new) ≤ pos → OnlyOwn who old new → tail_of (state_of new) ≤ tail
