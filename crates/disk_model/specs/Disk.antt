-- What a disk holds, at one moment and from moment to moment.
use Rattle.std.specs.Prelude.{◌≡◌, ◌⊎◌, ℕ, ◌+◌, ◌-◌, ◌^◌, ◌<◌, min, List, [], ◌∷◌, ◌++◌, length, take, drop, replicate, Bool, false}

-- what was asked of a disk: to hold these bytes from an offset on, or to end at a length
pub data Change : Type 0 where
  Written : ℕ → List ℕ → Change
  CutTo : ℕ → Change

-- the first bytes, so many; zeros where there are none
abbrev pub padded : ℕ → List ℕ → List ℕ
padded at old = take at old ++ replicate (at - length old) 0

-- the bytes after a change
abbrev pub changed : Change → List ℕ → List ℕ
changed (Written at bytes) old = padded at old ++ (bytes ++ drop (at + length bytes) old)
changed (CutTo n) old = take n old

-- the bytes after several, the first of them first
abbrev pub replayed : List Change → List ℕ → List ℕ
replayed [] bytes = bytes
replayed (c ∷ cs) bytes = replayed cs (changed c bytes)

-- The disk at one moment: the bytes of its last sync, and the changes since, one that was stopped included.
pub record Moment : Type 0 where
  pub synced : List ℕ
  pub changes : List Change

-- what a read gives
abbrev pub content : Moment → List ℕ
content m = replayed m.changes m.synced

-- one change more
abbrev pub with_change : Moment → Change → Moment
with_change m c = record { synced = m.synced; changes = m.changes ++ c ∷ [] }

-- these bytes, and nothing pending
abbrev pub at_rest : List ℕ → Moment
at_rest bytes = record { synced = bytes; changes = [] }

-- The moments of a disk so far, in order, and the present one.
pub record Timeline : Type 0 where
  pub past : List Moment
  pub now : Moment

-- a moment more
abbrev pub followed : Timeline → Moment → Timeline
followed line m = record { past = line.past ++ line.now ∷ []; now = m }

-- a call left the disk as it was, or led to this moment
abbrev pub OneStep : Timeline → Moment → Timeline → Type 0
OneStep old m new = (new ≡ old) ⊎ (new ≡ followed old m)

-- A disk as contracts see it: its moments, how often it has failed, whether it was stopped inside a change and not
-- reopened since, which of the next changes will stop inside itself, counted from 1 (0 for none), and the word by which
-- it was reopened last (0 before any).
pub record DiskView : Type 0 where
  pub timeline : Timeline
  pub faults : ℕ
  pub stopped : Bool
  pub armed : ℕ
  pub word : ℕ

-- what a read gives
abbrev pub reads : DiskView → List ℕ
reads v = content v.timeline.now

-- nothing is pending: a crash leaves what a read gives
abbrev pub IsSynced : DiskView → Type 0
IsSynced v = v.timeline.now.changes ≡ []

-- one more; a count that is at its greatest stays there
abbrev pub bumped : ℕ → ℕ
bumped n = min (2 ^ 64 - 1) (n + 1)

-- a count of faults rose over some calls; one that is at its greatest stays there
abbrev pub Rose : ℕ → ℕ → Type 0
Rose before now = (before < now) ⊎ (before ≡ 2 ^ 64 - 1)

-- nothing has happened yet
abbrev pub fresh : DiskView
fresh = record { timeline = record { past = []; now = at_rest [] }; faults = 0; stopped = false; armed = 0; word = 0 }
