-- How a chain is changed (OSDI 2020): its last loglet is replaced, or its trim is raised.
use Rattle.std.specs.Prelude.{◌≡◌, ◌+◌, ◌<◌, ◌⊎◌, ℕ, List, [], ◌∷◌, Some, None, not, filter, nat_le}
use Rattle.delos_types.specs.declared.chain.Segment.{Segment}
use Rattle.delos_types.specs.declared.chain.Chain.{Chain}
use Rattle.chain_map.specs.Chain.{ends_where}

-- the last segment is closed `t` positions above its start, and the next loglet holds what follows
abbrev pub extended_segments : List Segment → ℕ → List Segment
extended_segments [] t = []
extended_segments (s ∷ []) t = record s { end = Some (s.start + t) } ∷ record { id = s.id + 1; start = s.start + t; end = None } ∷ []
extended_segments (s ∷ r ∷ rs) t = s ∷ extended_segments (r ∷ rs) t

abbrev pub extended : Chain → ℕ → Chain
extended chain t = record chain { segments = extended_segments chain.segments t }

-- the trim is n, and the segments that end at or below it are gone
abbrev pub dropped_below : Chain → ℕ → Chain
dropped_below chain n = record { trim = n; segments = filter (λ s. not (ends_where (λ end. nat_le end n) s)) chain.segments }

-- one write of a chain over the one before it
abbrev pub ChainStep : Chain → Chain → Type 0
ChainStep old new = ((t : ℕ) × (new ≡ extended old t)) ⊎ ((n : ℕ) × (old.trim < n) × (new ≡ dropped_below old n))
