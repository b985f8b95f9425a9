-- One row for each line, and the order of sessions and barriers.
use Rattle.std.specs.Prelude.{◌≡◌, ℕ, Bool, true, false, not, ◌&&◌, ◌||◌, nat_lt, nat_le, nat_eq, ◌==◌, if◌then◌else◌, List, length, filter, Option, Some, None}
use Rattle.std.specs.Cmp.Lexicographic.{pointwise}
use Rattle.std.specs.List.{list_all, list_any, filter_map}
use Rattle.delos_types.specs.declared.cause.Cause.{Cause}
use Rattle.script_text.specs.declared.asks.NamedLine.{NamedLine}
use Rattle.script_text.specs.declared.line.Session.{Session}
use Rattle.script_text.specs.declared.line.Admin.TheVariants.{Extend, Alive, Trim, Retire}
use Rattle.script_text.specs.declared.asks.Asks.{Asks}
use Rattle.script_text.specs.declared.asks.Asks.TheVariants as asks
use Rattle.row_text.specs.declared.row.Row.{Row}
use Rattle.row_text.specs.declared.row.Who.{Who}
use Rattle.row_text.specs.declared.row.Who.TheVariants as who
use Rattle.row_text.specs.declared.row.Outcome.{Outcome}
use Rattle.row_text.specs.declared.row.Outcome.TheVariants as out
use Rattle.fitting_run.specs.Tests.{◌⇒◌, where_some, each_pair}
use Rattle.fitting_run.specs.Answered.{Answered, has_row, session_asking, same_session, before_barrier, is_logged, is_placed_on_time, is_open, on_time, place_le, answered_lines, cause_of, same_cause}
use Rattle.fitting_run.specs.Faults.{stops}

-- One row for each `on` line, in order, with its number and who asked

abbrev pub names : Who → ℕ → Option Session → Bool
names (who.Session name) node (Some s) = pointwise nat_eq name s.name
names (who.Node n) node None = n == node
names w node session = false

-- the kind of answer that this kind of line has; each may be open
abbrev pub answers : Asks → Outcome → Bool
answers (asks.Logged s r c) (out.Placed p reply late) = true
answers (asks.Look s q) (out.Read after found) = true
answers (asks.Admin Extend) (out.Extended v s) = true
answers (asks.Admin Extend) (out.Moved v) = true
answers (asks.Admin Extend) out.NoSpare = true
answers (asks.Admin Alive) (out.Alive d) = true
answers (asks.Admin Trim) (out.Trimmed t) = true
answers (asks.Admin Retire) out.Retired = true
answers asked (out.Open c) = true
answers asked answered = false

abbrev pub is_row_of : Answered → Bool
is_row_of a =
    (a.row.number == a.line.number)
    && names a.row.who a.line.node (session_asking a.line.asks)
    && answers a.line.asks a.row.outcome

-- there are as many rows as `on` lines, and each is a row of its line
pub record OneRowEach (lines : List NamedLine) (rows : List Row) : Type 0 where
  pub as_many : length rows ≡ length (filter (λ l. has_row l.asks) lines)
  pub each : list_all is_row_of (answered_lines lines rows) ≡ true

-- Session order, rows without `late`

-- b's place isn't below a's, where they are of one session
abbrev pub rises : Answered → Answered → Bool
rises a b = same_session a b ⇒ on_time a.row.outcome (λ p. on_time b.row.outcome (λ q. place_le p q))

-- where a is a logged row that isn't placed in its phase, b is open, if it is of a's session and a later phase
abbrev pub is_stopped_by : Answered → Answered → Bool
is_stopped_by a b = (same_session a b && before_barrier a b && is_logged a && not (is_placed_on_time a)) ⇒ is_open b.row.outcome

-- the cause that b tells for the stop of the session of a: b is an open command of it, or an open row of a later phase than one that stopped it
abbrev pub stop_cause : List Answered → Answered → Answered → Option Cause
stop_cause told a b = if same_session a b && (is_logged b || list_any (stops b) told) then cause_of b.row.outcome else None

-- places in a session don't fall, and a session that was stopped stays so, with the cause that it was stopped by
pub record KeepsSessionOrder (told : List Answered) : Type 0 where
  pub places : each_pair rises told ≡ true
  pub stopped : each_pair is_stopped_by told ≡ true
  pub causes : list_all (λ a. each_pair same_cause (filter_map (stop_cause told a) told)) told ≡ true

-- Barriers

-- what this row says came below the position: a place, unless it is late, where a read looked, where a segment begins
abbrev pub comes_below : Outcome → ℕ → Bool
comes_below (out.Placed p reply late) position = late || nat_lt p.pos position
comes_below (out.Read after found) position = nat_le after position
comes_below (out.Extended v start) position = nat_le start position
comes_below other position = true

-- the log had no entry from there on as the row's phase began
abbrev pub begins_upto : Outcome → Option ℕ
begins_upto (out.Placed p reply late) = Some p.pos
begins_upto (out.Read after found) = Some after
begins_upto (out.Extended v start) = Some start
begins_upto other = None

abbrev pub keeps_barrier : Answered → Answered → Bool
keeps_barrier a b = before_barrier a b ⇒ where_some (begins_upto b.row.outcome) (comes_below a.row.outcome)

-- what is asked behind a barrier comes after all that was placed in its phase before it, or looked at
abbrev pub keeps_barriers : List Answered → Bool
keeps_barriers told = each_pair keeps_barrier told
