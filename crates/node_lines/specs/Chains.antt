-- How the chain of a log goes on.
use Rattle.std.specs.Prelude.{ℕ, ◌+◌, ◌<◌, ◌≤◌, ◌⊎◌, map, Contains}
use Rattle.delos_types.specs.declared.chain.Segment.{Segment}
use Rattle.delos_types.specs.declared.chain.Chain.{Chain}
use Rattle.chain_map.specs.Chain.{first_start, last_id}
use Rattle.legal_journal.specs.Journal.{RegisterState}

-- a segment of the chain starts there, or one did that was dropped
abbrev pub HasStarted : Chain → ℕ → Type 0
HasStarted c pos = Contains (map (λ (s : Segment). s.start) c.segments) pos ⊎ (pos < first_start c)

-- A chain of this version came, which goes on in a later loglet from this position on.
pub record GoesFurther (old new : RegisterState) (version start : ℕ) : Type 0 where
  pub above : old.version < version
  pub within : version ≤ new.version
  pub next : last_id old.chain + 1 ≤ last_id new.chain
  pub started : HasStarted new.chain start
