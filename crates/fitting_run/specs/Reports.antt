-- What nodes report of the log: how many of its first entries are clean; and that they leave.
use Rattle.std.specs.Prelude.{◌≡◌, ℕ, Bool, true, false, ◌&&◌, ◌==◌, nat_lt, nat_le, List, Option, Some, None}
use Rattle.std.specs.List.{list_all, list_any}
use Rattle.delos_types.specs.declared.chain.Chain.{Chain}
use Rattle.loglet_api.specs.View.{LogletView}
use Rattle.engine_api.specs.declared.content.Content.{Content}
use Rattle.engine_api.specs.declared.content.Content.TheVariants.{Alive}
use Rattle.engine_api.specs.declared.content.Placed.{Placed}
use Rattle.engine_api.specs.Acted.{unpack_all}
use Rattle.engine_api.specs.Members.{has_left}
use Rattle.fabric_core.specs.Log.{virtual_tail, virtual_log}
use Rattle.row_text.specs.declared.row.Outcome.{Outcome}
use Rattle.row_text.specs.declared.row.Outcome.TheVariants as out
use Rattle.fitting_run.specs.Tests.{◌⇒◌, where_some, each_pair}
use Rattle.fitting_run.specs.Answered.{Answered, before_barrier, is_logged, is_placed_on_time, on_time}
use Rattle.fitting_run.specs.Replacements.{is_behind}

-- how many of the log's first entries are clean, as the row reports
abbrev pub reported : Outcome → Option ℕ
reported (out.Alive clean) = Some clean
reported other = None

-- no more than the log has
abbrev pub is_within : ℕ → Answered → Bool
is_within end b = where_some (reported b.row.outcome) (λ d. nat_le d end)

-- a is placed in its phase, where it is a logged row of an earlier phase than b
abbrev pub is_done : Answered → Answered → Bool
is_done b a = (is_logged a && before_barrier a b) ⇒ is_placed_on_time a

-- a's place is below d, where it is of an earlier phase than b
abbrev pub lies_below : Answered → ℕ → Answered → Bool
lies_below b d a = before_barrier a b ⇒ on_time a.row.outcome (λ p. nat_lt p.pos d)

-- where each command of earlier phases is placed in its phase, the report is above all their places
abbrev pub reports_all : List Answered → Answered → Bool
reports_all told b = where_some (reported b.row.outcome) (λ d. list_all (is_done b) told ⇒ list_all (lies_below b d) told)

-- Behind a report

-- what this row says stands at this position or above, a late place too; and what it reports is no less
abbrev pub is_from : ℕ → Outcome → Bool
is_from d (out.Placed p reply late) = nat_le d p.pos
is_from d (out.Read after found) = nat_le d after
is_from d (out.Alive clean) = nat_le d clean
is_from d other = true

-- where a reports, b stands there or above, if it is a later line of its node or of a later phase
abbrev pub stays_above : Answered → Answered → Bool
stays_above a b = is_behind a b ⇒ where_some (reported a.row.outcome) (λ d. is_from d b.row.outcome)

-- With the log: its items up to its tail, but for what was trimmed

abbrev pub items_of : Chain → List LogletView → List Placed
items_of chain cells = unpack_all chain.trim (virtual_log chain cells chain.trim (virtual_tail chain cells))

-- it says that the node reports this position
abbrev pub is_alive_at : ℕ → ℕ → Content → Bool
is_alive_at node position (Alive n p) = (n == node) && (p == position)
is_alive_at node position other = false

-- an item is the node's report of this position, no lower than that
abbrev pub says_alive : ℕ → ℕ → Placed → Bool
says_alive node position p = is_alive_at node position p.content && nat_le position p.place.pos

-- where the log isn't trimmed above what the row reports, it has the report, no lower than that
abbrev pub stands_in_log : ℕ → List Placed → Answered → Bool
stands_in_log trim items b = where_some (reported b.row.outcome) (λ d. nat_le trim d ⇒ list_any (says_alive b.line.node d) items)

-- the node left, as the row says
abbrev pub is_retired : Outcome → Bool
is_retired out.Retired = true
is_retired other = false

-- where nothing is trimmed, the log has that the node leaves
abbrev pub has_leave : ℕ → List Placed → Answered → Bool
has_leave trim items b = is_retired b.row.outcome ⇒ ((trim == 0) ⇒ has_left items b.line.node)

-- What nodes were answered that were asked to report, or to leave. The log is trimmed so far, and has these items from there on.
pub record ReportsStand (told : List Answered) (trim : ℕ) (items : List Placed) (end : ℕ) : Type 0 where
  pub within : list_all (is_within end) told ≡ true
  pub all : list_all (reports_all told) told ≡ true
  -- what comes behind a report stands at it or above, a later report too
  pub above : each_pair stays_above told ≡ true
  pub stand : list_all (stands_in_log trim items) told ≡ true
  pub left : list_all (has_leave trim items) told ≡ true
