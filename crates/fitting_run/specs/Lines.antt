-- What holds of the lines of every script.
use Rattle.std.specs.Prelude.{ℕ, ◌+◌, ◌≤◌, ◌==◌, nat_le, ◌&&◌, Bool, true, false, not, List, [], ◌∷◌, ◌++◌, count_by}
use Rattle.table_core.specs.Spelling.{IsSpellable, command_length}
use Rattle.script_text.specs.declared.asks.NamedLine.{NamedLine}
use Rattle.script_text.specs.declared.asks.Asks.{Asks}
use Rattle.script_text.specs.declared.asks.Asks.TheVariants as asks
use Rattle.script_text.specs.declared.line.Admin.TheVariants.{Retire}
use Rattle.fitting_run.specs.Tests.{◌⇒◌, each_pair}

-- the line logs a command of the session
abbrev pub is_of : ℕ → Asks → Bool
is_of s (asks.Logged t r c) = t.id == s
is_of s (asks.Look t q) = false
is_of s (asks.Admin a) = false

abbrev pub logs_for : ℕ → NamedLine → Bool
logs_for s l = is_of s l.asks

-- a command's rank is its number among its session's logged lines
abbrev pub has_rank : List NamedLine → Asks → Bool
has_rank before (asks.Logged s r c) = r == (count_by (logs_for s.id) before + 1)
has_rank before (asks.Look s q) = true
has_rank before (asks.Admin a) = true

abbrev pub are_ranked : List NamedLine → List NamedLine → Bool
are_ranked before [] = true
are_ranked before (l ∷ ls) = has_rank before l.asks && are_ranked (before ++ l ∷ []) ls

-- the phases of these lines don't fall, from this one on
abbrev pub are_in_phase : ℕ → List NamedLine → Bool
are_in_phase phase [] = true
are_in_phase phase (l ∷ ls) = nat_le phase l.phase && are_in_phase l.phase ls

-- the node is to leave
abbrev pub asks_to_leave : Asks → Bool
asks_to_leave (asks.Admin Retire) = true
asks_to_leave asked = false

-- where the line asks its node to leave, the later one names another
abbrev pub names_another : NamedLine → NamedLine → Bool
names_another l later = asks_to_leave l.asks ⇒ not (l.node == later.node)

-- no line names a node that an earlier line asks to leave
abbrev pub are_not_retired : List NamedLine → Bool
are_not_retired lines = each_pair names_another lines

-- an entry may hold the command
abbrev pub CanLog : Asks → Type 0
CanLog (asks.Logged s r c) = IsSpellable c × (command_length c ≤ 984)
CanLog (asks.Look s q) = Unit {0}
CanLog (asks.Admin a) = Unit {0}
