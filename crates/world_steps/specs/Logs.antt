-- The log that the chain joins, as it was given last, and what nodes make of it.
use Rattle.std.specs.Prelude.{◌≡◌, ◌⊎◌, ℕ, zero, suc, ◌+◌, ◌<◌, List, [], ◌∷◌, Option, None, Some}
use Rattle.std.specs.FinMap as finmap
use Rattle.delos_types.specs.declared.entry.Entry.{Entry}
use Rattle.chain_map.specs.Chain.{last_of_segments}
use Rattle.legal_journal.specs.Shown.{entry_of, end_of}
use Rattle.legal_journal.specs.Journal as journal
use Rattle.engine_api.specs.declared.act.Act.{Act}
use Rattle.engine_api.specs.Acted.{acted_log}
use Rattle.world_steps.specs.Cells.{view_of, entries_of}
use Rattle.world_steps.specs.Parts.{World, Node, cell_at, last_given}

abbrev pub reach_in : World → ℕ → ℕ
reach_in w i = (view_of (cell_at w.cells i)).reach

abbrev pub entries_in : World → ℕ → List Entry
entries_in w i = entries_of (cell_at w.cells i)

abbrev pub trim_of : World → ℕ
trim_of w = (last_given w.register).trim

-- the entry at a position, from the trim up to the tail
abbrev pub log_at : World → ℕ → Option Entry
log_at w pos = entry_of (reach_in w) (entries_in w) (last_given w.register) pos

-- where the open segment ends: as far as its cell's answers reach
abbrev pub tail_of : World → ℕ
tail_of w = end_of (reach_in w) (last_of_segments (last_given w.register).segments)

-- the entry stands at the position, or was trimmed there
abbrev pub Stands : World → ℕ → Entry → Type 0
Stands w pos e = (pos < trim_of w) ⊎ (log_at w pos ≡ Some e)

-- the entry that is shown at a position, or was before it was trimmed, as the events tell
abbrev pub shown_in : World → ℕ → Option Entry
shown_in w pos = (journal.state_of w.events).shown pos

abbrev pub before : Option Entry → List Entry → List Entry
before None rest = []
before (Some e) rest = e ∷ rest

-- the entries that are shown from a position on, at most so many, up to the first position at which none is
abbrev pub front_from : (ℕ → Option Entry) → ℕ → ℕ → List Entry
front_from shown pos zero = []
front_from shown pos (suc n) = before (shown pos) (front_from shown (pos + 1) n)

-- the whole log from position 0 on: what it shows, and what it showed before that was trimmed
abbrev pub whole_log : World → List Entry
whole_log w = front_from (shown_in w) 0 (tail_of w)

-- what acts in these entries from position 0 on, with the replies of the table
abbrev pub acts_in : List Entry → List Act
acts_in entries = acted_log finmap.empty (λ s. 1) 0 entries

-- the state of a node: what acted in the entries that it applied
abbrev pub state_of : Node → List Act
state_of n = acts_in n.applied
