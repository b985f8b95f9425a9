-- A front of a log ends below its tail.
use Rattle.std.proofs.Common.{◌≡◌, refl, ℕ, zero, suc, ◌≤◌, List, length, arith}
use Rattle.delos_types.specs.declared.entry.Entry.{Entry}
use Rattle.legal_journal.specs.Law.{Law}
use Rattle.legal_journal.specs.declared.events.Event.{Event}
use Rattle.legal_journal.specs.Journal.{IsLegal, state_of, tail_of}
use Rattle.fabric_core.proofs.OneLoglet.{at}
use Rattle.virtual_log.specs.Holding.{Holds}
use Rattle.virtual_log.proofs.Holding.{holds_stands}
use Rattle.base_engine.specs.Reading.{IsFront}
use Rattle.turn_scopes.proofs.Bounds.{stands_below}

-- where nothing is trimmed that wasn't shown
pub front_low : (law : Law) → ((log : List Entry) (n : ℕ) → law.floor log n → n ≤ length log) → (seen : List Event) (log : List Entry) → IsLegal law seen → IsFront Holds seen log → length log ≤ tail_of (state_of seen)
front_low law low seen log legal front = by_length (length log) refl
  where
    by_length : (n : ℕ) → length log ≡ n → length log ≤ tail_of (state_of seen)
    by_length zero is = omega (arith, is)
    by_length (suc n) is =
        let last = at log n (omega (arith, is)) in
        let stands = holds_stands law seen n last.element legal (front n last.element last.is) in
        omega (arith, is, stands_below law low seen n last.element legal stands)
