-- What the placed rows say was done, and the log that lets it act.
use Rattle.std.specs.Prelude.{◌≡◌, ◌≤◌, ℕ, true, nat_lt, List, [], ◌∷◌, ◌++◌, length, map, fold, filter, flat_map, drop, take, Some}
use Rattle.std.specs.Ordering.{nat_cmp, ordering_then}
use Rattle.std.specs.declared.cmp.Ordering.{Ordering}
use Rattle.std.specs.FinMap as finmap
use Rattle.std.specs.List.{AllByRecursion, Any}
use Rattle.delos_types.specs.declared.chain.Chain.{Chain}
use Rattle.delos_types.specs.declared.entry.Entry.{Entry}
use Rattle.loglet_api.specs.View.{LogletView}
use Rattle.engine_api.specs.declared.act.Act.{Act}
use Rattle.engine_api.specs.declared.content.Content.{Content}
use Rattle.engine_api.specs.declared.content.Content.TheVariants as content
use Rattle.engine_api.specs.Items.{unpack}
use Rattle.engine_api.specs.Acted.{asked_in, acted_log}
use Rattle.engine_api.specs.Order.{is_clean}
use Rattle.fabric_core.specs.Log.{virtual_tail, virtual_log, has_no_gap}
use Rattle.script_text.specs.declared.line.Admin.TheVariants.{Alive, Retire, Trim}
use Rattle.script_text.specs.declared.asks.NamedLine.{NamedLine}
use Rattle.script_text.specs.declared.asks.Asks.{Asks}
use Rattle.script_text.specs.declared.asks.Asks.TheVariants as asks
use Rattle.row_text.specs.declared.row.Outcome.{Outcome}
use Rattle.row_text.specs.declared.row.Outcome.TheVariants as out
use Rattle.fitting_run.specs.Answered.{Answered}

-- What the rows say

-- what a placed row says acted
abbrev pub act_of : Asks → Outcome → List Act
act_of (asks.Logged s r c) (out.Placed p reply late) = record { place = p; session = s.id; rank = r; command = Some c; reply = reply } ∷ []
act_of asked answered = []

-- by place, and what acted at one place by rank
abbrev pub act_order : Act → Act → Ordering
act_order a b =
    ordering_then (nat_cmp a.place.pos b.place.pos) (ordering_then (nat_cmp a.place.sub b.place.sub) (ordering_then (nat_cmp a.rank b.rank) (nat_cmp a.session b.session)))

abbrev pub in_order : List Act → List Act
in_order acts = map (λ e. e.1) (fold (λ es a. finmap.put act_order a a es) [] acts)

-- what the placed rows say acted, in order
abbrev pub placed_acts : List Answered → List Act
placed_acts told = in_order (flat_map (λ a. act_of a.line.asks a.row.outcome) told)

abbrev pub acts_below : ℕ → List Act → List Act
acts_below pos acts = filter (λ a. nat_lt a.place.pos pos) acts

-- What the log holds

-- the line asks its node to log this
abbrev pub AsksFor : ℕ → Asks → Content → Type 0
AsksFor node (asks.Logged s r c) (content.Session session rank command) = (session ≡ s.id) × (rank ≡ r) × (command ≡ Some c)
AsksFor node (asks.Admin Alive) (content.Alive n position) = n ≡ node
AsksFor node (asks.Admin Retire) (content.Leave n) = n ≡ node
AsksFor node (asks.Admin Trim) (content.Trim position) = Unit {0}
AsksFor node asked said = ⊥

-- each item of an entry is what a line asks of the node that proposed it
abbrev pub HoldsLines : List NamedLine → Entry → Type 0
HoldsLines lines e = AllByRecursion (λ p. Any (λ l. (l.node ≡ e.origin) × AsksFor l.node l.asks p.content) lines) (unpack 0 e)

-- Each command acts once, with the table's reply: the placed rows, late ones too, are what one log lets act, from the empty table on,
-- of which the loglets have all that isn't trimmed.
pub record ActsOnce (lines : List NamedLine) (told : List Answered) (chain : Chain) (cells : List LogletView) (end : ℕ) : Type 0 where
  pub log : List Entry
  pub size : length log ≡ end
  -- each entry of it, and of what the loglets have behind it
  pub holds : AllByRecursion (HoldsLines lines) (log ++ virtual_log chain cells end (virtual_tail chain cells))
  pub acts : placed_acts told ≡ acted_log finmap.empty (λ s. 1) 0 log
  pub shown : virtual_log chain cells chain.trim end ≡ drop chain.trim log
  -- each rank that stood below the trim acted there
  pub clean : is_clean (λ s. 1) (asked_in 0 (take chain.trim log)) ≡ true
  -- no position from the trim up to the tail lacks its entry
  pub whole : has_no_gap chain cells ≡ true
  pub within : end ≤ virtual_tail chain cells
