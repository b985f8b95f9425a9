-- What a log holds, whether it is trimmed or not, and what a read tells of it.
use Rattle.std.specs.Prelude.{◌≡◌, ℕ, ◌<◌, ◌≤◌, List, ◌++◌, Some, ◌⊎◌}
use Rattle.delos_types.specs.declared.entry.Entry.{Entry}
use Rattle.delos_types.specs.declared.chain.Chain.{Chain}
use Rattle.legal_journal.specs.Law.{Law}
use Rattle.legal_journal.specs.declared.events.Event.{Event}
use Rattle.legal_journal.specs.Shown.{entry_in}
use Rattle.legal_journal.specs.Journal.{state_of, IsLegal, reach, entries}
use Rattle.virtual_log.specs.declared.calls.Next.{Next}
use Rattle.virtual_log.specs.declared.calls.Next.TheVariants.{Nothing, Trimmed, Found}

-- By a chain that the register gave, a loglet has the entry at the position. The log may have been trimmed there before it
-- showed the entry.
pub record Holds (seen : List Event) (pos : ℕ) (e : Entry) : Type 0 where
  pub version : ℕ
  pub chain : Chain
  pub given : (state_of seen).register.given version ≡ Some chain
  pub entry : entry_in (reach (state_of seen).cells) (entries (state_of seen).cells) chain.segments pos ≡ Some e

-- a chain that the register gave is trimmed above the position
pub record IsTrimmed (seen : List Event) (pos : ℕ) : Type 0 where
  pub version : ℕ
  pub chain : Chain
  pub given : (state_of seen).register.given version ≡ Some chain
  pub below : pos < chain.trim

-- From position least on and below m: nothing is left to read exactly where m isn't above it; else the position is
-- trimmed, or this is its entry; an entry further on comes only where it is trimmed.
abbrev pub Reads : (List Event → ℕ → Entry → Type 0) → List Event → ℕ → ℕ → Next → Type 0
Reads holds seen least m Nothing = m ≤ least
Reads holds seen least m (Trimmed t) = (least < m) × IsTrimmed seen least
Reads holds seen least m (Found pos e) = (least < m) × (IsTrimmed seen least ⊎ (pos ≡ least)) × holds seen pos e

-- what a log holds it holds for good
abbrev pub Stays : Law → (List Event → ℕ → Entry → Type 0) → Type 0
Stays law holds =
    (early more : List Event) (pos : ℕ) (e : Entry) → IsLegal law (early ++ more) → holds early pos e → holds (early ++ more) pos e
