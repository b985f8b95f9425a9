-- Writes of a chain, and how it goes on between two moments.
use Rattle.std.specs.Prelude.{ℕ, ◌+◌, ◌<◌, ◌≤◌}
use Rattle.delos_types.specs.declared.chain.Chain.{Chain}
use Rattle.chain_map.specs.Chain.{last_id}
use Rattle.legal_journal.specs.declared.events.Event.{Event}
use Rattle.legal_journal.specs.declared.events.FabricCall.TheVariants.{WriteChain}
use Rattle.legal_journal.specs.declared.events.FabricAnswer.TheVariants.{Written, Conflict}
use Rattle.legal_journal.specs.Journal.{RegisterState}

-- who's write in place of the chain of the expected version, which stands under this version
abbrev pub write : ℕ → ℕ → Chain → ℕ → Event
write who expected chain version = record { who = who; call = WriteChain expected chain; answer = Written version }

-- .. which was refused, as another chain stands under another version
abbrev pub refusal : ℕ → ℕ → Chain → ℕ → Chain → Event
refusal who expected asked version chain = record { who = who; call = WriteChain expected asked; answer = Conflict version chain }

-- the version is above the one of before and no later than the one of now, and the last id has risen
pub record IsFurther (old new : RegisterState) (version : ℕ) : Type 0 where
  pub above : old.version < version
  pub within : version ≤ new.version
  pub next : last_id old.chain + 1 ≤ last_id new.chain
