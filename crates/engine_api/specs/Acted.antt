-- What the entries of a log do.
use Rattle.std.specs.Prelude.{ℕ, ◌+◌, List, [], ◌∷◌, ◌++◌, Option, Some, None, fold, filter_map}
use Rattle.delos_types.specs.declared.entry.Entry.{Entry}
use Rattle.delos_types.specs.declared.place.Place.{Place}
use Rattle.table_core.specs.declared.command.Command.{Command}
use Rattle.table_core.specs.declared.command.Reply.{Reply}
use Rattle.table_core.specs.Table.{TableMap, act}
use Rattle.engine_api.specs.declared.act.Act.{Act}
use Rattle.engine_api.specs.declared.appearance.Appearance.{Appearance}
use Rattle.engine_api.specs.declared.content.Content.{Content}
use Rattle.engine_api.specs.declared.content.Content.TheVariants.{Session, Alive, Leave, Trim}
use Rattle.engine_api.specs.declared.content.Placed.{Placed}
use Rattle.engine_api.specs.Items.{unpack}
use Rattle.engine_api.specs.Order.{acted_from}

-- a command of the table, or bytes that spell none
abbrev pub Asked : Type 0
Asked = Appearance (Option Command)

-- the table after a command, and the reply; bytes that spell no command change nothing and have no reply
abbrev pub act_on : TableMap → Option Command → TableMap × Option Reply
act_on m None = (m, None)
act_on m (Some c) = ((act m c).0, Some (act m c).1)

-- these commands one after another, each with its reply
abbrev pub replied : TableMap → List Asked → List Act
replied m [] = []
replied m (x ∷ xs) =
    let done = act_on m x.command in
    record { place = x.place; session = x.session; rank = x.rank; command = x.command; reply = done.1 } ∷ replied done.0 xs

-- the table after these acts
abbrev pub table_after : TableMap → List Act → TableMap
table_after m acts = fold (λ t a. (act_on t a.command).0) m acts

abbrev pub appearance_of : Place → Content → Option Asked
appearance_of place (Session s r c) = Some (record { place = place; session = s; rank = r; command = c })
appearance_of place (Alive node position) = None
appearance_of place (Leave node) = None
appearance_of place (Trim position) = None

-- the ranks of sessions that stand there
abbrev pub appearances : List Placed → List Asked
appearances placed = filter_map (λ p. appearance_of p.place p.content) placed

-- all items of these entries, which stand at one position after another from `pos` on
abbrev pub unpack_all : ℕ → List Entry → List Placed
unpack_all pos [] = []
unpack_all pos (e ∷ es) = unpack pos e ++ unpack_all (pos + 1) es

-- the ranks of sessions that stand in these entries
abbrev pub asked_in : ℕ → List Entry → List Asked
asked_in pos entries = appearances (unpack_all pos entries)

-- what acts in these entries, from a table and a first rank for each session
abbrev pub acted_log : TableMap → (ℕ → ℕ) → ℕ → List Entry → List Act
acted_log m start pos entries = replied m (acted_from start (asked_in pos entries))
