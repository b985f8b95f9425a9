-- The chain of loglets that a virtual log joins (OSDI 2020), and which lists of segments are one.
use Rattle.std.specs.Prelude.{◌==◌, ◌&&◌, ℕ, Bool, false, List, [], ◌∷◌, None, nat_lt, nat_le, is_none, IsTrue}
use Rattle.std.specs.Option.{option_map_or}
use Rattle.delos_types.specs.declared.chain.Segment.{Segment}
use Rattle.delos_types.specs.declared.chain.Chain.{Chain}

-- stands where there is no segment
abbrev pub no_segment : Segment
no_segment = record { id = 0; start = 0; end = None }

abbrev pub first_of_segments : List Segment → Segment
first_of_segments [] = no_segment
first_of_segments (s ∷ ss) = s

abbrev pub last_of_segments : List Segment → Segment
last_of_segments [] = no_segment
last_of_segments (s ∷ []) = s
last_of_segments (s ∷ r ∷ rs) = last_of_segments (r ∷ rs)

-- the first position that a segment of the chain holds
abbrev pub first_start : Chain → ℕ
first_start chain = (first_of_segments chain.segments).start

-- the last segment, which is open
abbrev pub last_segment : Chain → Segment
last_segment chain = last_of_segments chain.segments

abbrev pub last_id : Chain → ℕ
last_id chain = (last_of_segments chain.segments).id

-- the segment is closed, at a position that passes the test
abbrev pub ends_where : (ℕ → Bool) → Segment → Bool
ends_where test s = option_map_or test s.end false

-- s is closed at or after its start, and t begins where s ends, with a greater id
abbrev pub goes_on : Segment → Segment → Bool
goes_on s t = nat_lt s.id t.id && ends_where (λ end. nat_le s.start end && (end == t.start)) s

-- each segment goes on in the next, and the last is open; ids are below 64
abbrev pub is_linked : List Segment → Bool
is_linked [] = false
is_linked (s ∷ []) = nat_lt s.id 64 && is_none s.end
is_linked (s ∷ t ∷ ts) = goes_on s t && is_linked (t ∷ ts)

-- the segments join without gap, the last is open, and no position from the trim on lies before the first
abbrev pub is_chain : Chain → Bool
is_chain chain = is_linked chain.segments && nat_le (first_start chain) chain.trim

abbrev pub IsChain : Chain → Type 0
IsChain chain = IsTrue (is_chain chain)

-- the first chain of all: one open loglet, from position 0 on
abbrev pub first_chain : Chain
first_chain = record { trim = 0; segments = record { id = 0; start = 0; end = None } ∷ [] }
