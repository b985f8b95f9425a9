-- The lines of a script with their rows.
use Rattle.std.specs.Prelude.{ℕ, Bool, true, false, ◌&&◌, ◌||◌, ◌==◌, nat_lt, nat_le, if◌then◌else◌, List, map, filter, Option, Some, None, is_some}
use Rattle.std.specs.List.{zip}
use Rattle.delos_types.specs.declared.place.Place.{Place}
use Rattle.delos_types.specs.declared.cause.Cause.{Cause}
use Rattle.delos_types.specs.declared.cause.Cause.TheVariants as cause
use Rattle.script_text.specs.declared.asks.NamedLine.{NamedLine}
use Rattle.script_text.specs.declared.line.Session.{Session}
use Rattle.script_text.specs.declared.asks.Asks.{Asks}
use Rattle.script_text.specs.declared.asks.Asks.TheVariants as asks
use Rattle.row_text.specs.declared.row.Row.{Row}
use Rattle.row_text.specs.declared.row.Outcome.{Outcome}
use Rattle.row_text.specs.declared.row.Outcome.TheVariants as out
pub use Rattle.fitting_run.specs.declared.answered.Answered.{Answered}
use Rattle.fitting_run.specs.Tests.{where_some, some_is}

-- What a line asks

abbrev pub session_asking : Asks → Option Session
session_asking (asks.Logged s r c) = Some s
session_asking (asks.Look s q) = Some s
session_asking (asks.Admin a) = None

abbrev pub logs : Asks → Bool
logs (asks.Logged s r c) = true
logs (asks.Look s q) = false
logs (asks.Admin a) = false

-- it is an `on` line, which has a row
abbrev pub has_row : Asks → Bool
has_row (asks.Logged s r c) = true
has_row (asks.Look s q) = true
has_row (asks.Admin a) = true

-- What a row answers

-- the place of a row that is placed in its phase
abbrev pub place_on_time : Outcome → Option Place
place_on_time (out.Placed p reply late) = if late then None else Some p
place_on_time other = None

-- the position after which a read looked
abbrev pub looked_at : Outcome → Option ℕ
looked_at (out.Read after found) = Some after
looked_at other = None

abbrev pub cause_of : Outcome → Option Cause
cause_of (out.Open c) = Some c
cause_of other = None

abbrev pub same_cause : Cause → Cause → Bool
same_cause (cause.NoQuorum l u) (cause.NoQuorum m v) = (l == m) && (u == v)
same_cause (cause.Full l) (cause.Full m) = l == m
same_cause cause.Meta cause.Meta = true
same_cause cause.Store cause.Store = true
same_cause c d = false

abbrev pub is_open : Outcome → Bool
is_open o = is_some (cause_of o)

-- placed, but after its phase
abbrev pub is_late : Outcome → Bool
is_late (out.Placed p reply late) = late
is_late other = false

-- Lines with their rows

-- each `on` line with its row, in order
abbrev pub answered_lines : List NamedLine → List Row → List Answered
answered_lines lines rows = map (λ x. record { line = x.0; row = x.1 }) (zip (filter (λ l. has_row l.asks) lines) rows)

abbrev pub session_of : Answered → Option Session
session_of a = session_asking a.line.asks

-- both are lines of one session; what is asked of a node itself is of none
abbrev pub same_session : Answered → Answered → Bool
same_session a b = some_is (session_of a) (λ s. some_is (session_of b) (λ t. s.id == t.id))

-- a barrier stands between them, a first
abbrev pub before_barrier : Answered → Answered → Bool
before_barrier a b = nat_lt a.line.phase b.line.phase

abbrev pub is_logged : Answered → Bool
is_logged a = logs a.line.asks

abbrev pub is_placed_on_time : Answered → Bool
is_placed_on_time a = is_some (place_on_time a.row.outcome)

-- where it is placed in its phase
abbrev pub on_time : Outcome → (Place → Bool) → Bool
on_time o test = where_some (place_on_time o) test

-- where it is a read that was answered
abbrev pub on_read : Outcome → (ℕ → Bool) → Bool
on_read o test = where_some (looked_at o) test

abbrev pub place_le : Place → Place → Bool
place_le p q = nat_lt p.pos q.pos || ((p.pos == q.pos) && nat_le p.sub q.sub)
