-- What a read of a virtual log says.
use Rattle.std.specs.Prelude.{◌≡◌, ℕ, ◌<◌, ◌≤◌, max, List, ◌++◌}
use Rattle.legal_journal.specs.declared.events.Event.{Event}
use Rattle.legal_journal.specs.Journal.{state_of}
use Rattle.legal_journal.specs.Laws.{Stands}
use Rattle.virtual_log.specs.declared.calls.Next.{Next}
use Rattle.virtual_log.specs.declared.calls.Next.TheVariants.{Nothing, Trimmed, Found}

-- this was so at a moment since old
pub record WasThere (old new : List Event) (P : List Event → Type 0) : Type 0 where
  pub moment : List Event
  pub since : (more : List Event) × (moment ≡ old ++ more)
  pub rest : (more : List Event) × (new ≡ moment ++ more)
  pub so : P moment

-- From position min on and below m, with this trim: nothing is left to read exactly where m isn't above min; all of it is
-- trimmed exactly where the trim isn't below m; else this is the first entry that isn't trimmed, as the log had it.
abbrev pub IsNext : List Event → List Event → ℕ → ℕ → ℕ → Next → Type 0
IsNext old new min m trim Nothing = m ≤ min
IsNext old new min m trim (Trimmed t) = (min < m) × (m ≤ trim) × (t ≡ trim)
IsNext old new min m trim (Found pos e) =
    (min < m) × (trim < m) × (pos ≡ max min trim) × WasThere old new (λ es. Stands (state_of es) pos e)
