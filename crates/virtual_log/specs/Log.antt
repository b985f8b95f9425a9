-- What a virtual log shows, and what holds of it.
use Rattle.std.specs.Prelude.{◌≡◌, ℕ, ◌+◌, ◌≤◌, List, length, Some}
use Rattle.delos_types.specs.declared.chain.Chain.{Chain}
use Rattle.chain_map.specs.Chain.{last_segment}
use Rattle.legal_journal.specs.Law.{Law}
use Rattle.legal_journal.specs.declared.events.Event.{Event}
use Rattle.legal_journal.specs.Journal.{State, state_of, IsLegal}

-- by whom its events are, the journal as far as it was seen, the greatest position + 1 or tail that it was answered, and
-- the chain that it goes by, with its version; and where its chooser stands, on which the words that it gives depend
pub record LogView : Type 0 where
  pub who : ℕ
  pub seen : List Event
  pub known : ℕ
  pub version : ℕ
  pub chain : Chain
  pub words : List ℕ

-- what is left of it without its turns
pub record RestedView : Type 0 where
  pub known : ℕ
  pub version : ℕ
  pub chain : Chain
  pub shelf_len : ℕ
  pub words : List ℕ

-- the register gave this chain, and the answers of its last loglet reach what is known
pub record GoesBy (w : State) (version : ℕ) (chain : Chain) (known : ℕ) : Type 0 where
  pub given : w.register.given version ≡ Some chain
  pub reached : known ≤ (last_segment chain).start + (w.cells (last_segment chain).id).told.reach

pub record LogOk (law : Law) (v : LogView) (shelf_len : ℕ) : Type 0 where
  pub count : shelf_len ≡ length law.shelf
  pub legal : IsLegal law v.seen
  pub goes_by : GoesBy (state_of v.seen) v.version v.chain v.known
