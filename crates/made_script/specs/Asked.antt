-- What the lines of a made script ask of their nodes.
use Rattle.std.specs.Prelude.{ℕ, pos, ◌≤ℤ◌, Bool, true, false}
use Rattle.table_core.specs.declared.command.Command.TheVariants.{Add}
use Rattle.script_text.specs.declared.line.Admin.TheVariants.{Extend}
use Rattle.script_text.specs.declared.asks.NamedLine.{NamedLine}
use Rattle.script_text.specs.declared.asks.Asks.{Asks}
use Rattle.script_text.specs.declared.asks.Asks.TheVariants.{Logged, Look, Admin}

abbrev pub logs : Asks → Bool
logs (Logged s rank command) = true
logs (Look s query) = false
logs (Admin admin) = false

-- a session's command is to be logged
abbrev pub logs_something : NamedLine → Bool
logs_something l = logs l.asks

abbrev pub asks_to_extend : Asks → Bool
asks_to_extend (Admin Extend) = true
asks_to_extend _ = false

-- the node is to extend the chain
abbrev pub extends : NamedLine → Bool
extends l = asks_to_extend l.asks

abbrev pub added_by : Asks → ℕ
added_by (Logged s rank (Add key (pos amount))) = amount
added_by _ = 0

-- what the line adds to a key, where it isn't below 0
abbrev pub added : NamedLine → ℕ
added l = added_by l.asks

-- an amount of 0 to 99 is added to a key, or the chain is extended
abbrev pub AddsOrExtends : Asks → Type 0
AddsOrExtends (Logged s rank (Add key amount)) = (pos 0 ≤ℤ amount) × (amount ≤ℤ pos 99)
AddsOrExtends (Admin Extend) = Unit {0}
AddsOrExtends _ = ⊥
