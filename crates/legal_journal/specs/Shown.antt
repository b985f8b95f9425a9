-- The log that a chain of cells shows, by how far the answers of each cell reach and by the entries that it took.
use Rattle.std.specs.Prelude.{ℕ, ◌+◌, ◌-◌, Bool, ◌&&◌, if◌then◌else◌, List, [], ◌∷◌, slice_get, nat_lt, nat_le, Option, None, unwrap_or}
use Rattle.delos_types.specs.declared.entry.Entry.{Entry}
use Rattle.delos_types.specs.declared.chain.Segment.{Segment}
use Rattle.delos_types.specs.declared.chain.Chain.{Chain}

-- where a segment ends: the open one where the answers of its cell reach
abbrev pub end_of : (ℕ → ℕ) → Segment → ℕ
end_of reach s = unwrap_or s.end (s.start + reach s.id)

abbrev pub is_within : ℕ → ℕ → ℕ → Bool
is_within a b pos = nat_le a pos && nat_lt pos b

-- the entry at a position of these segments
abbrev pub entry_in : (ℕ → ℕ) → (ℕ → List Entry) → List Segment → ℕ → Option Entry
entry_in reach entries [] pos = None
entry_in reach entries (s ∷ ss) pos =
    if is_within s.start (end_of reach s) pos
    then slice_get (entries s.id) (pos - s.start)
    else entry_in reach entries ss pos

-- the entry at a position of the log, which goes from the chain's trim up to the tail
abbrev pub entry_of : (ℕ → ℕ) → (ℕ → List Entry) → Chain → ℕ → Option Entry
entry_of reach entries chain pos =
    if nat_lt pos chain.trim then None else entry_in reach entries chain.segments pos
