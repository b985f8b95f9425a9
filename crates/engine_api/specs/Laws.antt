-- Laws of session order and of what a log does.
use Rattle.std.specs.Prelude.{◌≡◌, ℕ, ◌+◌, List, ◌++◌, length, IsTrue}
use Rattle.delos_types.specs.declared.entry.Entry.{Entry}
use Rattle.table_core.specs.Table.{TableMap}
use Rattle.engine_api.specs.Order.{acted_after, in_turn}
use Rattle.engine_api.specs.Acted.{replied, table_after, asked_in, acted_log}

-- where the ranks of each session come one after another, each acts where it stands
abbrev pub ActsWhereItStands : Type 0
ActsWhereItStands =
    (m : TableMap) (start : ℕ → ℕ) (pos : ℕ) (entries : List Entry)
    → IsTrue (in_turn start (asked_in pos entries)) → acted_log m start pos entries ≡ replied m (asked_in pos entries)

-- what more entries do comes behind what those before them do, and changes nothing of it
abbrev pub GrowsAtItsEnd : Type 0
GrowsAtItsEnd =
    (m : TableMap) (start : ℕ → ℕ) (pos : ℕ) (entries more : List Entry)
    → acted_log m start pos (entries ++ more)
    ≡ acted_log m start pos entries
    ++ replied (table_after m (acted_log m start pos entries)) (acted_after start (asked_in pos entries) (asked_in (pos + length entries) more))
