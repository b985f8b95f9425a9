-- What came of a run, in four numbers, and their text.
use Rattle.std.specs.Prelude.{ℕ, Bool, true, false, List, ◌++◌, codes, length, count_by, fold, unwrap_or, ℤ, pos, ◌+ℤ◌}
use Rattle.std.specs.Fmt.{decimal, signed_decimal}
use Rattle.std.specs.FinMap as finmap
use Rattle.delos_types.specs.Spaces.{Text}
use Rattle.table_core.specs.Table.{TableMap, amount_of}
use Rattle.engine_api.specs.Acted.{table_after}
use Rattle.script_text.specs.declared.asks.NamedLine.{NamedLine}
use Rattle.row_text.specs.declared.row.Row.{Row}
use Rattle.row_text.specs.declared.row.Outcome.{Outcome}
use Rattle.row_text.specs.declared.row.Outcome.TheVariants as out
use Rattle.fitting_run.specs.declared.told.Told.{Told}
use Rattle.fitting_run.specs.Answered.{logs}
use Rattle.fitting_run.specs.Acts.{placed_acts}
use Rattle.fitting_run.specs.Fits.{told_of}
use Rattle.run_totals.specs.declared.totals.Totals.{Totals}

-- how many lines log a command
abbrev pub commands_in : List NamedLine → ℕ
commands_in lines = count_by (λ l. logs l.asks) lines

-- the command acted, in its phase or late
abbrev pub is_placed : Outcome → Bool
is_placed (out.Placed p reply late) = true
is_placed other = false

-- how many rows are placed
abbrev pub acted_in : List Row → ℕ
acted_in rows = count_by (λ r. is_placed r.outcome) rows

-- the table after all placed rows, in the order of their places, and at one place of their ranks
abbrev pub table_told : List NamedLine → Told → TableMap
table_told lines o = table_after finmap.empty (placed_acts (told_of lines o))

-- the number of which the value is the decimal text; a value that is none counts 0
abbrev pub number_in : Text → ℤ
number_in value = unwrap_or (amount_of value) (pos 0)

abbrev pub sum_of_table : TableMap → ℤ
sum_of_table m = fold (λ s e. s +ℤ number_in e.1) (pos 0) (finmap.entries m)

-- how many segments the chain has that was told
abbrev pub segments_in : Told → ℕ
segments_in o = length o.chain.segments

-- how many lines log a command; how many rows are placed; the sum of the numbers in the table after all of these, in the order of their
-- places, and at one place of their ranks; and how many segments the chain has that was told
abbrev pub totals_of : List NamedLine → Told → Totals
totals_of lines o = record { commands = count_by (λ l. logs l.asks) lines; acted = count_by (λ r. is_placed r.outcome) o.rows; sum = sum_of_table (table_after finmap.empty (placed_acts (told_of lines o))); segments = length o.chain.segments }

-- a line of the text: a label, a blank and a number
abbrev pub total_line : Text → Text → Text
total_line label number = label ++ codes " " ++ number ++ codes "\n"

abbrev pub totals_text : Totals → Text
totals_text t =
    total_line (codes "commands") (decimal t.commands)
    ++ total_line (codes "acted") (decimal t.acted)
    ++ total_line (codes "sum") (signed_decimal t.sum)
    ++ total_line (codes "segments") (decimal t.segments)
