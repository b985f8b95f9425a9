-- A node's state machine at first.
use Rattle.std.specs.Prelude.{◌≡◌, ◌⊎◌, ℕ, ◌+◌, ◌≤◌, if◌then◌else◌, true, false, List, slice_get, Some}
use Rattle.disk_model.specs.Disk.{DiskView, bumped}
use Rattle.disk_model.specs.Armed.{Spends}
use Rattle.replica_api.specs.Replica.{ReplicaView}
use Rattle.local_replica.specs.Shown.{local_meaning}
use Rattle.replica_api.specs.Fresh.{IsFreshReplica}

-- a replica is down just where a fault of its disk was counted: one
abbrev pub IsCounted : ReplicaView → Type 0
IsCounted v = v.faults ≡ (if v.down then 1 else 0)

-- the replicas of these nodes have applied nothing, and are numbered from 1
abbrev pub AreFreshReplicas : {A : Type 0} → (A → ReplicaView) → List A → Type 0
AreFreshReplicas {A} shows nodes = (j : ℕ) (n : A) → slice_get nodes j ≡ Some n → IsFreshReplica local_meaning (j + 1) (shows n)

-- The replica of a node whose disk was this. While it is up at most four of the writes that the disk is armed with were made,
-- and not the last: it is armed where it was. One that is down shows no armed disk. The disk wasn't reopened.
pub record IsArmedAs (disk : DiskView) (v : ReplicaView) : Type 0 where
  pub up : v.down ≡ false → Spends 4 disk.armed v.armed
  pub down : v.down ≡ true → v.armed ≡ 0
  pub word : v.word ≡ disk.word

-- so are the replicas of these nodes, by the disks of these parts, in their order
abbrev pub AreArmedAs : {A B : Type 0} → (A → ReplicaView) → (B → DiskView) → List A → List B → Type 0
AreArmedAs {A} {B} shows disk nodes parts = (j : ℕ) (n : A) → slice_get nodes j ≡ Some n → (k : B) → slice_get parts j ≡ Some k → IsArmedAs (disk k) (shows n)

-- What an opening leaves of a disk. Without a fault at most four of the writes that it is armed with were made, and not the
-- last. One fault is counted where it failed, and it may have failed in the armed write. It wasn't reopened.
pub record IsLeftOf (old new : DiskView) : Type 0 where
  pub word : new.word ≡ old.word
  pub left : ((new.faults ≡ old.faults) × Spends 4 old.armed new.armed)
      ⊎ ((new.faults ≡ bumped old.faults) × (old.armed ≤ new.armed + 4))

-- so it leaves the disks of these, which were the disks of these parts, in their order
abbrev pub AreLeftOf : {A B : Type 0} → (A → DiskView) → (B → DiskView) → List A → List B → Type 0
AreLeftOf {A} {B} now disk nodes parts = (j : ℕ) (n : A) → slice_get nodes j ≡ Some n → (k : B) → slice_get parts j ≡ Some k → IsLeftOf (disk k) (now n)
