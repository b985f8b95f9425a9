-- Where a position of the log lies.
use Rattle.std.specs.Prelude.{◌≡◌, ◌+◌, ◌<◌, ◌≤◌, ℕ, Any, IfSome}
use Rattle.delos_types.specs.declared.chain.Segment.{Segment}
use Rattle.delos_types.specs.declared.chain.Chain.{Chain}
use Rattle.chain_map.specs.declared.place.Located.{Located}
use Rattle.chain_map.specs.declared.place.Located.TheVariants.{Inside, Below}

-- the segment holds the position
pub record Holds (s : Segment) (pos : ℕ) : Type 0 where
  pub above : s.start ≤ pos
  pub below : IfSome s.end (λ end. pos < end)

-- a position below the trim is gone; another is the place `index` of the loglet that holds it
abbrev pub Locates : Chain → ℕ → Located → Type 0
Locates chain pos (Below trim) = (pos < chain.trim) × (trim ≡ chain.trim)
Locates chain pos (Inside id index) = (chain.trim ≤ pos) × Any (λ s. Holds s pos × (s.id ≡ id) × (s.start + index ≡ pos)) chain.segments
