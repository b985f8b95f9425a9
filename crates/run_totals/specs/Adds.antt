-- Lines that log small adds alone, and what they add up to.
use Rattle.std.specs.Prelude.{◌≡◌, ◌≤◌, true, if◌then◌else◌, List, [], fold, ℤ, pos, ◌+ℤ◌, ◌≤ℤ◌}
use Rattle.std.specs.List.{AllByRecursion}
use Rattle.table_core.specs.declared.command.Command.{Command}
use Rattle.table_core.specs.declared.command.Command.TheVariants.{Add}
use Rattle.script_text.specs.declared.asks.NamedLine.{NamedLine}
use Rattle.script_text.specs.declared.asks.Asks.{Asks}
use Rattle.script_text.specs.declared.asks.Asks.TheVariants as asks
use Rattle.fitting_run.specs.declared.answered.Answered.{Answered}
use Rattle.fitting_run.specs.Lines.{are_ranked}
use Rattle.run_totals.specs.Totals.{commands_in, is_placed}

-- What lines add

-- what a command adds; one that is no add adds 0
abbrev pub amount_in : Command → ℤ
amount_in (Add key amount) = amount
amount_in other = pos 0

abbrev pub amount_asked : Asks → ℤ
amount_asked (asks.Logged s r c) = amount_in c
amount_asked (asks.Look s q) = pos 0
amount_asked (asks.Admin a) = pos 0

-- the sum of what the lines add
abbrev pub amounts_in : List NamedLine → ℤ
amounts_in lines = fold (λ s l. s +ℤ amount_asked l.asks) (pos 0) lines

abbrev pub amount_placed : Answered → ℤ
amount_placed a = if is_placed a.row.outcome then amount_asked a.line.asks else pos 0

-- the sum of what the lines add whose rows are placed
abbrev pub amounts_placed : List Answered → ℤ
amounts_placed told = fold (λ s a. s +ℤ amount_placed a) (pos 0) told

-- Small adds

abbrev pub IsSmallAdd : Command → Type 0
IsSmallAdd (Add key amount) = (pos 0 ≤ℤ amount) × (amount ≤ℤ pos 99)
IsSmallAdd other = ⊥

-- what it logs is an add of 0 to 99
abbrev pub AsksSmallAdd : Asks → Type 0
AsksSmallAdd (asks.Logged s r c) = IsSmallAdd c
AsksSmallAdd (asks.Look s q) = Unit {0}
AsksSmallAdd (asks.Admin a) = Unit {0}

-- lines of a script that logs small adds alone, at most 20,000 of them
pub record AreSmallAdds (lines : List NamedLine) : Type 0 where
  -- a command's rank is its number among its session's logged lines
  pub ranked : are_ranked [] lines ≡ true
  pub small : AllByRecursion (λ l. AsksSmallAdd l.asks) lines
  pub few : commands_in lines ≤ 20000
