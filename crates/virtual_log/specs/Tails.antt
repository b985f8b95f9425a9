-- What a tail that was found says.
use Rattle.std.specs.Prelude.{◌≡◌, ℕ, ◌+◌, ◌≤◌, true, List, Contains, length}
use Rattle.delos_types.specs.declared.chain.Segment.{Segment}
use Rattle.legal_journal.specs.declared.events.Event.{Event}
use Rattle.legal_journal.specs.Journal.{state_of, tail_of}
use Rattle.virtual_log.specs.declared.operation.FoundTail.{FoundTail}
use Rattle.virtual_log.specs.declared.operation.FoundTail.TheVariants.{Open, Sealed}
use Rattle.virtual_log.specs.Turning.{OnlyOwn, FirstTurn, IsAbove}

-- an open tail is no higher than the log's, above each position and not below any tail that was answered before, and it is
-- the log's where nobody else's event came meanwhile; a sealed one was answered by the loglet
abbrev pub IsFound : ℕ → List Event → Segment → List Event → FoundTail → Type 0
IsFound who old s new (Open pos) =
    (pos ≤ tail_of (state_of new)) × IsAbove who old pos new × (pos ≤ s.start + ((state_of new).cells s.id).told.reach)
    × (OnlyOwn who old new → tail_of (state_of new) ≤ pos)
IsFound who old s new (Sealed length) =
    Contains ((state_of new).cells s.id).ends length × (((state_of new).cells s.id).told.sealed ≡ true) × FirstTurn who old new

abbrev pub IsSealedTail : FoundTail → Type 0
IsSealedTail (Open pos) = ⊥
IsSealedTail (Sealed length) = Unit {0}
