-- How far lines trimmed the log, and how far it is trimmed at the end.
use Rattle.std.specs.Prelude.{◌≡◌, ◌≤◌, ℕ, Bool, true, false, not, ◌&&◌, ◌||◌, ◌==◌, nat_lt, nat_le, List, [], ◌++◌, filter, Option, Some, None, is_some}
use Rattle.std.specs.List.{list_all, list_any}
use Rattle.engine_api.specs.declared.content.Placed.{Placed}
use Rattle.engine_api.specs.Members.{report_of, trim_asked}
use Rattle.engine_api.specs.Order.{numbers}
use Rattle.script_text.specs.declared.asks.NamedLine.{NamedLine}
use Rattle.script_text.specs.declared.asks.Asks.{Asks}
use Rattle.script_text.specs.declared.asks.Asks.TheVariants as asks
use Rattle.script_text.specs.declared.line.Admin.TheVariants.{Alive, Trim}
use Rattle.row_text.specs.declared.row.Outcome.{Outcome}
use Rattle.row_text.specs.declared.row.Outcome.TheVariants as out
use Rattle.fitting_run.specs.Tests.{◌⇒◌, where_some, some_is, each_pair, each_amid}
use Rattle.fitting_run.specs.Answered.{Answered, is_open}
use Rattle.fitting_run.specs.Lines.{asks_to_leave}
use Rattle.fitting_run.specs.Replacements.{is_behind}
use Rattle.fitting_run.specs.Reports.{reported, is_retired}

-- What a line asks

abbrev pub asks_to_report : Asks → Bool
asks_to_report (asks.Admin Alive) = true
asks_to_report asked = false

abbrev pub asks_to_trim : Asks → Bool
asks_to_trim (asks.Admin Trim) = true
asks_to_trim asked = false

-- What a row tells

-- up to where the log was trimmed then
abbrev pub trimmed : Outcome → Option ℕ
trimmed (out.Trimmed trim) = Some trim
trimmed other = None

-- at the end it is trimmed at least as far
abbrev pub is_upto : ℕ → Answered → Bool
is_upto trim b = where_some (trimmed b.row.outcome) (λ t. nat_le t trim)

-- its node reported so much, or it isn't known how much: the row is open
abbrev pub may_report : ℕ → Answered → Bool
may_report n a = some_is (reported a.row.outcome) (nat_le n) || (asks_to_report a.line.asks && is_open a.row.outcome)

-- What a trim waits for

-- each node, 1 to `nodes`, has a row among these that passes the test
abbrev pub each_node : ℕ → (Answered → Bool) → List Answered → Bool
each_node nodes test rows = list_all (λ node. list_any (λ a. (a.line.node == node) && test a) rows) (numbers 1 nodes)

-- in an earlier phase than b, or as an earlier line of its node, the node of a left, or reported more than t
abbrev pub went_past : ℕ → Answered → Answered → Bool
went_past t b a = is_behind a b && (is_retired a.row.outcome || some_is (reported a.row.outcome) (nat_lt t))

-- the node of a is to leave, or may have reported so much
abbrev pub may_allow : ℕ → Answered → Bool
may_allow n a = asks_to_leave a.line.asks || may_report n a

-- A trim goes no less far than all nodes allowed before it: not each of them went past it. And no further than each may have allowed
-- by a row that isn't behind it.
abbrev pub is_as_allowed : ℕ → List Answered → Answered → List Answered → Bool
is_as_allowed nodes above b below =
    where_some (trimmed b.row.outcome) (λ t.
    not (each_node nodes (went_past t b) above)
    && ((t == 0) || each_node nodes (may_allow t) (above ++ filter (λ a. not (is_behind b a)) below)))

-- behind a trim none goes less far
abbrev pub rises_to : Answered → Answered → Bool
rises_to a b = is_behind a b ⇒ where_some (trimmed a.row.outcome) (λ t. where_some (trimmed b.row.outcome) (nat_le t))

-- The end, with the log: its items up to its tail, but for what was trimmed

-- where a line trimmed the log, or it is trimmed, the log has that as much was asked for as is trimmed
abbrev pub has_trim : List Answered → ℕ → List Placed → Bool
has_trim told trim items =
    (not (trim == 0) || list_any (λ b. is_some (trimmed b.row.outcome)) told) ⇒ list_any (λ p. some_is (trim_asked p.content) (nat_le trim)) items

-- the row's node may have reported so much, and the log has that it did
abbrev pub is_reported : ℕ → List Placed → Answered → Bool
is_reported n items a = may_report n a && list_any (λ p. some_is (report_of a.line.node p.content) (nat_le n)) items

-- Where anything is trimmed, a line asks for it, some node reported as much, and so did each that isn't to leave.
abbrev pub is_allowed : List NamedLine → List Answered → ℕ → ℕ → List Placed → Bool
is_allowed lines told nodes trim items =
    (trim == 0)
    || (list_any (λ l. asks_to_trim l.asks) lines
    && (list_any (is_reported trim items) told && each_node nodes (λ a. asks_to_leave a.line.asks || is_reported trim items a) told))

-- What the lines of a script were answered that asked for a trim, and how far the log is trimmed, which has these items from there on.
-- The nodes are 1 to `nodes`.
pub record TrimsStand (lines : List NamedLine) (told : List Answered) (nodes trim : ℕ) (items : List Placed) (end : ℕ) : Type 0 where
  pub upto : list_all (is_upto trim) told ≡ true
  pub within : trim ≤ end
  pub each : each_amid (is_as_allowed nodes) [] told ≡ true
  pub rise : each_pair rises_to told ≡ true
  pub stand : has_trim told trim items ≡ true
  pub allowed : is_allowed lines told nodes trim items ≡ true
