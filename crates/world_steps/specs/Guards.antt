-- What is possible, by the rules of a legal journal: of who may append what, and of how far a log may be trimmed, nothing
-- is said here.
use Rattle.std.specs.Prelude.{ℕ, ◌+◌, ◌^◌, ◌<◌, Bool, true, false, ◌&&◌, ◌==◌, nat_lt, nat_le, length}
use Rattle.std.specs.List.{list_any}
use Rattle.delos_types.specs.declared.chain.Segment.{Segment}
use Rattle.delos_types.specs.declared.chain.Chain.{Chain}
use Rattle.chain_map.specs.Chain.{last_id, last_segment}
use Rattle.chain_map.specs.Step.{extended, dropped_below}
use Rattle.loglet_api.specs.declared.call.Op.{Op}
use Rattle.loglet_api.specs.declared.call.Op.TheVariants.{Seal, Trim}
use Rattle.world_steps.specs.declared.step.ChainChange.{ChainChange}
use Rattle.world_steps.specs.declared.step.ChainChange.TheVariants.{Extend, Raise}
use Rattle.world_steps.specs.Parts.{Register, World, last_given}
use Rattle.world_steps.specs.Events.{was_sealed_at}

-- in this chain cell i has a segment, whose first n positions are below the trim
abbrev pub is_below : ℕ → ℕ → ℕ → Chain → Bool
is_below trim i n c = list_any (λ (s : Segment). (s.id == i) && nat_le (s.start + n) trim) c.segments

-- the first n positions of cell i are trimmed
abbrev pub is_trimmed : Register → ℕ → ℕ → Bool
is_trimmed r i n = list_any (is_below (last_given r).trim i n) r.given

-- the last cell isn't sealed, and a trim of a cell lets go of what is trimmed in the log
abbrev pub may_begin : World → ℕ → Op → Bool
may_begin w i Seal = nat_lt (i + 1) (length w.cells)
may_begin w i (Trim n) = is_trimmed w.register i n
may_begin w i op = true

-- the chain that a writer asks for
abbrev pub changed : Chain → ChainChange → Chain
changed c (Extend t) = extended c t
changed c (Raise n) = dropped_below c n

-- it has numbers that words have: an extended chain ends within a word and in one of 64 cells
abbrev pub ChangeFits : Chain → ChainChange → Type 0
ChangeFits c (Extend t) = ((last_segment c).start + t < 2 ^ 64) × (last_id c + 1 < 64)
ChangeFits c (Raise n) = c.trim < n

-- The last segment is closed at a sealed tail that its cell told, where there is a next cell; or the trim is raised.
abbrev pub may_follow : World → Chain → ChainChange → Bool
may_follow w c (Extend t) = nat_lt (last_id c + 1) (length w.cells) && was_sealed_at w.events (last_id c) t
may_follow w c (Raise n) = nat_lt c.trim n && nat_le n (2 ^ 38)
