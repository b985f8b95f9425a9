-- What the calls of a node leave of what a stop chose: the count that the disk is armed with, the word by which it was reopened
-- last, and how often the disk failed.
use Rattle.std.specs.Prelude.{◌≡◌, ◌≢◌, ◌⊎◌, ℕ, ◌+◌, ◌-◌, ◌^◌, ◌<◌, ◌≤◌, true, false, min, if◌then◌else◌}
use Rattle.delos_types.specs.declared.cause.Cause.TheVariants as cause
use Rattle.disk_model.specs.Disk.{Rose, bumped}
use Rattle.replica_api.specs.Replica.{ReplicaView, StaysDown, ArmedAsBefore, Tries}
use Rattle.base_engine.specs.declared.fault.Fault.{Fault}
use Rattle.base_engine.specs.declared.fault.Fault.TheVariants.{Because, Memory}

-- The disk is armed where it was, by a count that only fell, or failed. A reopening in between was given this word; there was one
-- where the replica was down, or its disk failed, and it is up now. Where it is down now, it was before, or its disk failed. No
-- stop was asked for.
pub record LeavesArming (word : ℕ) (old new : ReplicaView) : Type 0 where
  pub armed : ArmedAsBefore old new
  pub word_is : (new.word ≡ old.word) ⊎ (new.word ≡ word)
  pub opened : new.down ≡ false → (old.down ≡ true) ⊎ (old.faults < new.faults) → new.word ≡ word
  pub down : new.down ≡ true → (old.down ≡ true) ⊎ Rose old.faults new.faults
  pub counts : old.faults ≤ new.faults
  pub stops : new.stops ≡ old.stops

-- the count of faults rose by n at least, as far as a word holds it
abbrev pub RoseBy : ℕ → ℕ → ℕ → Type 0
RoseBy n before now = min (before + n) (2 ^ 64 - 1) ≤ now

-- The disk failed twice: once more after a reopening, or once in the reopening of a replica that was down.
abbrev pub FailsTwice : ReplicaView → ReplicaView → Type 0
FailsTwice old new = RoseBy 2 old.faults new.faults ⊎ ((old.down ≡ true) × RoseBy 1 old.faults new.faults)

-- a call gives up for its store only then
abbrev pub StoreTwice : ReplicaView → Fault → ReplicaView → Type 0
StoreTwice old f new = f ≡ Because cause.Store → FailsTwice old new

-- the count of a call that recovers its store: with the fault that made it go down, where it was up before
abbrev pub repaired : ReplicaView → ℕ
repaired old = if old.down then old.faults else bumped old.faults

-- A call that recovers its store at most once counts no fault, or just the one that it recovered from ..
abbrev pub FailsOnce : ReplicaView → ReplicaView → Type 0
FailsOnce old new = (new.faults ≡ old.faults) ⊎ (new.faults ≡ repaired old)

-- .. and where it gives up for its store just one more
abbrev pub RecoversOnce : ReplicaView → Fault → ReplicaView → Type 0
RecoversOnce old (Because cause.Store) new = new.faults ≡ bumped (repaired old)
RecoversOnce old (Because (cause.NoQuorum id unreached)) new = FailsOnce old new
RecoversOnce old (Because (cause.Full id)) new = FailsOnce old new
RecoversOnce old (Because cause.Meta) new = FailsOnce old new
RecoversOnce old Memory new = FailsOnce old new

-- A reopening that failed: all but the disk, its count, its word and how often it was reopened is as it was.
pub record StaysShut (old new : ReplicaView) : Type 0 where
  pub is : new ≡ record old { disk = new.disk; faults = new.faults; word = new.word; reopenings = new.reopenings }
  pub counts : old.faults ≤ new.faults

-- for its store it fails only where the disk failed again; without memory only the disk's bytes and word may be others
abbrev pub FailsToOpen : ℕ → ReplicaView → Fault → ReplicaView → Type 0
FailsToOpen word old Memory new = (new ≡ record old { disk = new.disk }) ⊎ (Tries word old new × (new ≡ record old { disk = new.disk; word = new.word }))
FailsToOpen word old (Because cause.Store) new = StaysDown word old new
FailsToOpen word old (Because (cause.NoQuorum id unreached)) new = ⊥
FailsToOpen word old (Because (cause.Full id)) new = ⊥
FailsToOpen word old (Because cause.Meta) new = ⊥
