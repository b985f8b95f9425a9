-- How what placed rows say acted is put in order, and counted for each session; and what of it can be told without the entries that
-- were trimmed.
use Rattle.std.specs.Prelude.{◌≡◌, ℕ, ◌+◌, Bool, true, ◌&&◌, nat_lt, nat_le, ◌==◌, if◌then◌else◌, List, map, filter, flat_map, fold, sum_by, slice_index}
use Rattle.std.specs.BTreeMap.{insert_entry}
use Rattle.std.specs.Ordering.{nat_cmp, ordering_then}
use Rattle.std.specs.declared.cmp.Ordering.{Ordering}
use Rattle.std.specs.FinMap as finmap
use Rattle.std.specs.List.{AllByRecursion, list_all}
use Rattle.delos_types.specs.declared.chain.Chain.{Chain}
use Rattle.loglet_api.specs.View.{LogletView}
use Rattle.table_core.specs.Find.{find_in}
use Rattle.engine_api.specs.declared.act.Act.{Act}
use Rattle.engine_api.specs.Acted.{Asked, replied, acted_log, table_after}
use Rattle.fabric_core.specs.Log.{virtual_tail, virtual_log, has_no_gap}
use Rattle.script_text.specs.declared.asks.NamedLine.{NamedLine}
use Rattle.script_text.specs.declared.asks.Asks.{Asks}
use Rattle.script_text.specs.declared.asks.Asks.TheVariants as asks
use Rattle.row_text.specs.declared.row.Outcome.{Outcome}
use Rattle.row_text.specs.declared.row.Outcome.TheVariants as out
use Rattle.fitting_run.specs.Tests.{◌⇒◌, each_pair}
use Rattle.fitting_run.specs.Answered.{Answered}
use Rattle.fitting_run.specs.Acts.{act_of, placed_acts, acts_below, HoldsLines}
use Rattle.fitting_run.specs.declared.acting.Turn.{Turn}

-- by place, and what acted at one place by rank
abbrev pub turn_cmp : Turn → Turn → Ordering
turn_cmp a b =
    ordering_then (ordering_then (nat_cmp a.place.pos b.place.pos) (nat_cmp a.place.sub b.place.sub)) (ordering_then (nat_cmp a.rank b.rank) (nat_cmp a.session b.session))

abbrev pub turn_of : Act → Turn
turn_of a = record { place = a.place; rank = a.rank; session = a.session }

-- these acts, each put in its turn
abbrev pub with_acts : List (Turn × Act) → List Act → List (Turn × Act)
with_acts turns acts = fold (λ es a. insert_entry turn_cmp es (turn_of a) a) turns acts

-- what the placed rows say acted, in the order of the lines
abbrev pub acts_told : List Answered → List Act
acts_told told = flat_map (λ a. act_of a.line.asks a.row.outcome) told

-- What can be told without the entries that were trimmed

abbrev pub acts_from : ℕ → List Act → List Act
acts_from pos acts = filter (λ a. nat_le pos a.place.pos) acts

abbrev pub number_of : ℕ → List Act → ℕ
number_of s acts = sum_by (λ a. if a.session == s then 1 else 0) acts

-- the first rank of each session that these acts leave to do
abbrev pub next_rank : List Act → ℕ → ℕ
next_rank acts s = number_of s acts + 1

-- an act, without what it was answered
abbrev pub asked : Act → Asked
asked a = record { place = a.place; session = a.session; rank = a.rank; command = a.command }

-- each rank of these acts is at most the number of its session's
abbrev pub has_first_ranks : List Act → Bool
has_first_ranks acts = list_all (λ a. nat_le 1 a.rank && nat_le a.rank (number_of a.session acts)) acts

-- of one session the earlier act has the lower rank
abbrev pub rises_in_rank : Act → Act → Bool
rises_in_rank a b = (a.session == b.session) ⇒ nat_lt a.rank b.rank

-- two acts of different sessions have different places
abbrev pub stand_apart : Act → Act → Bool
stand_apart a b = ((a.place.pos == b.place.pos) && (a.place.sub == b.place.sub)) ⇒ (a.session == b.session)

-- The placed rows are what the log between trim and end lets act, behind what was trimmed.
pub record ActsAreShown (lines : List NamedLine) (told : List Answered) (chain : Chain) (cells : List LogletView) (end : ℕ) : Type 0 where
  pub whole : has_no_gap chain cells ≡ true
  pub within : nat_le end (virtual_tail chain cells) ≡ true
  pub holds : AllByRecursion (HoldsLines lines) (virtual_log chain cells chain.trim (virtual_tail chain cells))
  -- the placed rows of each session are its first ranks, in the order of their places
  pub first_ranks : has_first_ranks (placed_acts told) ≡ true
  pub ranks_rise : each_pair rises_in_rank (placed_acts told) ≡ true
  pub apart : each_pair stand_apart (placed_acts told) ≡ true
  -- those placed below the trim have the replies of the table, from the empty one on
  pub trimmed :
      let below = acts_below chain.trim (placed_acts told) in
      below ≡ replied finmap.empty (map asked below)
  -- those placed at or above the trim are what the log lets act there, with places and replies
  pub shown :
      let below = acts_below chain.trim (placed_acts told) in
      acts_from chain.trim (placed_acts told)
      ≡ acted_log (table_after finmap.empty below) (next_rank below) chain.trim (virtual_log chain cells chain.trim end)

-- how many of the acts are of each session
abbrev pub AreNumbers : List ℕ → List Act → Type 0
AreNumbers numbers acts = (s : ℕ) → slice_index numbers s ≡ number_of s acts

-- a read's answer is that of the table after those of these acts that are below it
abbrev pub ShowsAfter : List Act → Asks → Outcome → Type 0
ShowsAfter acts (asks.Look s q) (out.Read after answer) = answer ≡ find_in (table_after finmap.empty (acts_below after acts)) q
ShowsAfter acts asked answered = Unit {0}
