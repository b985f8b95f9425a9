-- How what a journal tells goes on from one moment to a later one.
use Rattle.std.specs.Prelude.{◌≡◌, ℕ, ◌+◌, ◌<◌, ◌≤◌, true, List, ◌++◌, slice_get, Some, Contains, ◌⊎◌}
use Rattle.delos_types.specs.declared.entry.Entry.{Entry}
use Rattle.delos_types.specs.declared.chain.Segment.{Segment}
use Rattle.delos_types.specs.declared.chain.Chain.{Chain}
use Rattle.legal_journal.specs.Journal.{CellState, State, log_at, trim_of, tail_of, last_segment}

-- a cell goes on: its answers reach no less, it has its entries and maybe more at their end, each sealed tail stays
-- answered, and it stays sealed
pub record Goes (old new : CellState) : Type 0 where
  pub reach : old.told.reach ≤ new.told.reach
  pub firm : old.told.firm ≤ new.told.firm
  pub begun : old.told.begun ≤ new.told.begun
  pub longer : (more : List Entry) × (new.entries ≡ old.entries ++ more)
  pub ends : (t : ℕ) → Contains old.ends t → Contains new.ends t
  pub sealed : old.told.sealed ≡ true → new.told.sealed ≡ true
  -- who began a ticket stays
  pub owner : (t : ℕ) → t < old.told.begun → new.owner t ≡ old.owner t

-- The later log has what the earlier one has, but for what was trimmed since; the tail never goes back; a chain that was
-- given under a version is the only one.
pub record Continues (old new : State) : Type 0 where
  pub trim : trim_of old ≤ trim_of new
  pub entries : (pos : ℕ) (e : Entry) → log_at old pos ≡ Some e → trim_of new ≤ pos → log_at new pos ≡ Some e
  pub tail : tail_of old ≤ tail_of new
  pub shown : (pos : ℕ) (e : Entry) → old.shown pos ≡ Some e → new.shown pos ≡ Some e
  pub cell : (i : ℕ) → Goes (old.cells i) (new.cells i)
  pub starts : (i s : ℕ) → old.starts i ≡ Some s → new.starts i ≡ Some s
  pub version : old.register.version ≤ new.register.version
  pub given : (v : ℕ) (c : Chain) → old.register.given v ≡ Some c → new.register.given v ≡ Some c
  pub last : (last_segment old).id ≤ (last_segment new).id

-- the entry stands at the position, or was trimmed there
abbrev pub Stands : State → ℕ → Entry → Type 0
Stands w pos e = (pos < trim_of w) ⊎ (log_at w pos ≡ Some e)

-- the position is above each one that was answered, and not below any tail that was
abbrev pub Clears : State → ℕ → Type 0
Clears w pos = (i s : ℕ) → w.starts i ≡ Some s → s + (w.cells i).told.reach ≤ pos

-- each closed segment of the chain ends at a sealed tail that its cell answered
abbrev pub IsClosedAtTails : State → Chain → Type 0
IsClosedAtTails w c =
    (k end : ℕ) (s : Segment) → slice_get c.segments k ≡ Some s → s.end ≡ Some end
    → (t : ℕ) × (end ≡ s.start + t) × Contains (w.cells s.id).ends t
