-- How a script is walked, line by line, to name its lines.
use Rattle.std.specs.Prelude.{ℕ, ◌+◌, ◌-◌, ◌^◌, ◌<◌, List, Option, Some, None, min, slice_index, slice_set}
use Rattle.script_text.specs.declared.line.Line.{Line}
use Rattle.script_text.specs.declared.line.Line.TheVariants as line
use Rattle.script_text.specs.declared.line.Session.{Session}
use Rattle.script_text.specs.declared.line.Ask.{Ask}
use Rattle.script_text.specs.declared.line.Ask.TheVariants as ask
use Rattle.script_text.specs.declared.asks.NamedLine.{NamedLine}
use Rattle.script_text.specs.declared.asks.Asks.{Asks}
use Rattle.script_text.specs.declared.asks.Asks.TheVariants as asks
use Rattle.script_text.specs.declared.asks.Walk.{Walk}

-- one more, up to the type's end
abbrev pub one_more : ℕ → ℕ
one_more n = min (n + 1) (2 ^ 64 - 1)

abbrev pub asks_now : List ℕ → Session → Ask → Asks
asks_now logged s (ask.Log command) = asks.Logged s (one_more (slice_index logged s.id)) command
asks_now logged s (ask.Look query) = asks.Look s query

abbrev pub logged_now : List ℕ → Session → Ask → List ℕ
logged_now logged s (ask.Log command) = slice_set logged s.id (one_more (slice_index logged s.id))
logged_now logged s (ask.Look query) = logged

-- a logged line's session is one of 64
abbrev pub IsCounted : Session → Ask → Type 0
IsCounted s (ask.Log command) = s.id < 64
IsCounted s (ask.Look query) = Unit {0}

abbrev pub IsCountedLine : Line → Type 0
IsCountedLine (line.Session node s a) = IsCounted s a
IsCountedLine _ = Unit {0}

abbrev pub walked : Walk → Line → Walk
walked w (line.Session node s a) = record { number = one_more w.number; phase = w.phase; logged = logged_now w.logged s a }
walked w line.Barrier = record { number = one_more w.number; phase = one_more w.phase; logged = w.logged }
walked w _ = record { number = one_more w.number; phase = w.phase; logged = w.logged }

abbrev pub named_now : Walk → Line → Option NamedLine
named_now w (line.Session node s a) = Some (record { number = one_more w.number; phase = w.phase; node = node; asks = asks_now w.logged s a })
named_now w (line.Admin node a) = Some (record { number = one_more w.number; phase = w.phase; node = node; asks = asks.Admin a })
named_now w _ = None
