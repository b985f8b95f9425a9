-- How a chain is spelled in bytes. Numbers are spelled with the highest byte first.
-- A chain: version 1 (1 byte), trim (8), number of segments (2), the segments.
-- A segment: id (4), start (8), then a byte 0 where it is open, and a byte 1 and its end (8) where it is closed.
use Rattle.std.specs.Prelude.{◌≡◌, ◌<◌, ◌^◌, ℕ, List, [], ◌∷◌, ◌++◌, Option, Some, None, length, flat_map, IfSome}
use Rattle.std.specs.List.{AllByRecursion}
use Rattle.delos_types.specs.Numbers.{u16_bytes, u32_bytes, u64_bytes}
use Rattle.delos_types.specs.declared.chain.Segment.{Segment}
use Rattle.delos_types.specs.declared.chain.Chain.{Chain}
use Rattle.chain_map.specs.Chain.{IsChain}

abbrev pub end_bytes : Option ℕ → List ℕ
end_bytes None = 0 ∷ []
end_bytes (Some end) = 1 ∷ u64_bytes end

abbrev pub segment_bytes : Segment → List ℕ
segment_bytes s = u32_bytes s.id ++ (u64_bytes s.start ++ end_bytes s.end)

-- their number, and the segments one after another
abbrev pub segments_bytes : List Segment → List ℕ
segments_bytes ss = u16_bytes (length ss) ++ flat_map segment_bytes ss

abbrev pub chain_bytes : Chain → List ℕ
chain_bytes chain = 1 ∷ (u64_bytes chain.trim ++ segments_bytes chain.segments)

-- positions are numbers of 64 bits
abbrev pub HasPositions : Segment → Type 0
HasPositions s = (s.start < 2 ^ 64) × IfSome s.end (λ end. end < 2 ^ 64)

-- the bytes are the chain's
pub record SpellsChain (bytes : List ℕ) (chain : Chain) : Type 0 where
  pub spelled : bytes ≡ chain_bytes chain
  pub joined : IsChain chain
  pub trim : chain.trim < 2 ^ 64
  pub positions : AllByRecursion HasPositions chain.segments
