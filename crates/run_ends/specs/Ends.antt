-- How each session has ended.
use Rattle.std.specs.Prelude.{ℕ, ◌-◌, List, length, slice_get, Option, Some, None}
use Rattle.script_text.specs.declared.asks.NamedLine.{NamedLine}
use Rattle.node_lines.specs.declared.desk.Desk.{Desk}
use Rattle.run_laws.specs.Ended.{SessionEnd}
use Rattle.run_ends.specs.Closing.{WorkerEnd}

-- the desk of a session at its node
abbrev pub desks_at : List WorkerEnd → ℕ → Option WorkerEnd
desks_at workers n = slice_get workers (n - 1)

-- how many entries of the log a node has applied
abbrev pub cursor_at : Option WorkerEnd → ℕ
cursor_at None = 0
cursor_at (Some w) = w.seat.node.replica.cursor

abbrev pub cursor_of : List WorkerEnd → ℕ → ℕ
cursor_of workers n = cursor_at (desks_at workers n)

abbrev pub desk_in : Option WorkerEnd → ℕ → Option Desk
desk_in None s = None
desk_in (Some w) s = slice_get w.desks s

-- a session that wasn't stopped has all its ranks answered: none is above the number of lines
abbrev pub answered_of : List NamedLine → Option ℕ → ℕ
answered_of lines None = length lines
answered_of lines (Some a) = a

abbrev pub end_at : List NamedLine → ℕ → Option Desk → SessionEnd
end_at lines when None = record { stopped = None; when = 0; answered = length lines }
end_at lines when (Some d) = record { stopped = d.stopped; when = when; answered = answered_of lines d.answered }

abbrev pub end_of : List NamedLine → List WorkerEnd → (ℕ → ℕ) → (ℕ → ℕ) → ℕ → SessionEnd
end_of lines workers home when s = end_at lines (when s) (desk_in (desks_at workers (home s)) s)
