-- Reads are current: each shows the table after all that was placed below it.
use Rattle.std.specs.Prelude.{◌≡◌, ℕ, Bool, true, not, ◌&&◌, ◌==◌, nat_lt, nat_le, List, is_some}
use Rattle.std.specs.List.{list_all, AllByRecursion}
use Rattle.table_core.specs.Find.{find_in}
use Rattle.script_text.specs.declared.asks.Asks.{Asks}
use Rattle.script_text.specs.declared.asks.Asks.TheVariants as asks
use Rattle.row_text.specs.declared.row.Outcome.{Outcome}
use Rattle.row_text.specs.declared.row.Outcome.TheVariants as out
use Rattle.fitting_run.specs.Tests.{◌⇒◌, each_pair}
use Rattle.fitting_run.specs.Answered.{Answered, same_session, is_logged, is_placed_on_time, looked_at, on_time, on_read}
use Rattle.engine_api.specs.Acted.{table_after}
use Rattle.std.specs.FinMap as finmap
use Rattle.fitting_run.specs.Acts.{placed_acts, acts_below}

-- a read's answer is that of the table after all rows placed at positions below, late ones included
abbrev pub Shows : List Answered → Asks → Outcome → Type 0
Shows told (asks.Look s q) (out.Read after answer) = answer ≡ find_in (table_after finmap.empty (acts_below after (placed_acts told))) q
Shows told asked answered = Unit {0}

-- a read and a placed row of one session stand in the order of their lines, rows without `late`
abbrev pub looks_in_order : Answered → Answered → Bool
looks_in_order a b = same_session a b ⇒ (
    on_time a.row.outcome (λ p. on_read b.row.outcome (λ after. nat_lt p.pos after))
    && on_read a.row.outcome (λ after. on_time b.row.outcome (λ q. nat_le after q.pos))
    )

-- of two reads of one node the later looked at no lower position
abbrev pub looks_forward : Answered → Answered → Bool
looks_forward a b = (a.line.node == b.line.node) ⇒ on_read a.row.outcome (λ after. on_read b.row.outcome (λ later. nat_le after later))

-- b isn't a read that was answered, where a is an earlier command of its session that isn't placed in its phase
abbrev pub is_kept_open : Answered → Answered → Bool
is_kept_open a b = (same_session a b && is_logged a && not (is_placed_on_time a)) ⇒ not (is_some (looked_at b.row.outcome))

pub record ReadsAreCurrent (told : List Answered) (end : ℕ) : Type 0 where
  -- a read looked at a position up to the end
  pub within : list_all (λ a. on_read a.row.outcome (λ after. nat_le after end)) told ≡ true
  pub shows : AllByRecursion (λ a. Shows told a.line.asks a.row.outcome) told
  -- it stands above its session's earlier places, and not above the later ones
  pub order : each_pair looks_in_order told ≡ true
  -- nor below the earlier reads of its node
  pub forward : each_pair looks_forward told ≡ true
  -- and none is answered whose session was stopped before
  pub kept : each_pair is_kept_open told ≡ true
