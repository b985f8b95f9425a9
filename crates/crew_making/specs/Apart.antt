-- What comes back as a run is taken apart.
use Rattle.std.specs.Prelude.{◌≡◌, ℕ, ◌≤◌, List, map, slice_get, Some}
use Rattle.loglet_api.specs.View.{LogletView}
use Rattle.register_api.specs.View.{RegisterView}
use Rattle.legal_journal.specs.Law.{Law}
use Rattle.legal_journal.specs.declared.events.Event.{Event}
use Rattle.legal_journal.specs.Journal.{IsLegal, state_of, log_at, trim_of, tail_of}
use Rattle.fabric_core.specs.Log.{virtual_log_at, virtual_tail}
use Rattle.fabric_core.specs.Runs.{HasRun, HasRegisterRun}
use Rattle.fabric_core.specs.Fabric.{IsRegisterAsTold}

-- The loglets and their register are as the journal tells: its events are a run of each from a fresh one, and what they show
-- is what it tells.
pub record AreAsTold (law : Law) (journal : List Event) (cells : List LogletView) (register : RegisterView) : Type 0 where
  pub legal : IsLegal law journal
  pub shelf_is : map (λ v. v.servers) cells ≡ law.shelf
  pub runs : (i : ℕ) (v : LogletView) → slice_get cells i ≡ Some v → HasRun i journal v
  pub register_runs : HasRegisterRun journal register
  pub register_is : IsRegisterAsTold (state_of journal).register register
  pub shows : (pos : ℕ) → trim_of (state_of journal) ≤ pos → virtual_log_at (state_of journal).register.chain cells pos ≡ log_at (state_of journal) pos
  pub tail : virtual_tail (state_of journal).register.chain cells ≡ tail_of (state_of journal)
