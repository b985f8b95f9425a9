-- The virtual log: what a chain of loglets shows, position by position (OSDI 2020).
use Rattle.std.specs.Prelude.{ℕ, zero, suc, ◌+◌, ◌-◌, ◌&&◌, Bool, nat_lt, nat_le, if◌then◌else◌, List, [], ◌∷◌, slice_get, Option, Some, None, filter_map, is_some, unwrap_or}
use Rattle.std.specs.Option.{option_and_then}
use Rattle.std.specs.List.{list_all}
use Rattle.delos_types.specs.declared.entry.Entry.{Entry}
use Rattle.delos_types.specs.declared.chain.Segment.{Segment}
use Rattle.delos_types.specs.declared.chain.Chain.{Chain}
use Rattle.chain_map.specs.Chain.{last_segment}
use Rattle.loglet_api.specs.View.{LogletView}

-- n numbers from a on
abbrev pub numbers : ℕ → ℕ → List ℕ
numbers a zero = []
numbers a (suc n) = a ∷ numbers (a + 1) n

-- the length that the answers of a loglet reach
abbrev pub reach_of : Option LogletView → ℕ
reach_of None = 0
reach_of (Some v) = v.reach

-- where a segment ends: the open one where the answers of its loglet reach
abbrev pub end_of : List LogletView → Segment → ℕ
end_of cells s = unwrap_or s.end (s.start + reach_of (slice_get cells s.id))

-- the tail: no entry stands at it or above
abbrev pub virtual_tail : Chain → List LogletView → ℕ
virtual_tail chain cells = end_of cells (last_segment chain)

-- the entry at an index of a loglet, if it isn't trimmed
abbrev pub entry_of_cell : ℕ → LogletView → Option Entry
entry_of_cell i v = if nat_le v.cut i then slice_get v.log (i - v.cut) else None

abbrev pub entry_in : List LogletView → List Segment → ℕ → Option Entry
entry_in cells [] pos = None
entry_in cells (s ∷ ss) pos =
    if nat_le s.start pos && nat_lt pos (end_of cells s)
    then option_and_then (entry_of_cell (pos - s.start)) (slice_get cells s.id)
    else entry_in cells ss pos

-- the entry at a position of the log
abbrev pub virtual_log_at : Chain → List LogletView → ℕ → Option Entry
virtual_log_at chain cells pos = entry_in cells chain.segments pos

-- no position from the trim up to the tail lacks its entry
abbrev pub has_no_gap : Chain → List LogletView → Bool
has_no_gap chain cells =
    list_all (λ pos. is_some (virtual_log_at chain cells pos)) (numbers chain.trim (virtual_tail chain cells - chain.trim))

-- the entries of the log from one position up to another, in order
abbrev pub virtual_log : Chain → List LogletView → ℕ → ℕ → List Entry
virtual_log chain cells from end = filter_map (virtual_log_at chain cells) (numbers from (end - from))
