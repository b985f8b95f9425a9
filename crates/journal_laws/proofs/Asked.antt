-- A Seal was begun on each loglet that told a sealed tail.
use Rattle.std.specs.Prelude.{ℕ, ◌<◌, List, length, Contains}
use Rattle.legal_journal.specs.Law.{Law}
use Rattle.legal_journal.specs.declared.events.Event.{Event}
use Rattle.legal_journal.specs.Journal.{State, state_of, ends, IsLegal}
use Rattle.legal_journal.proofs.Sound.{StateOk}
use Rattle.legal_journal.proofs.Legal.{sound}

-- a sealed tail is answered where a Seal was begun
asked_at : (cells : ℕ) (w : State) (i t : ℕ) → StateOk cells w → Contains (ends w.cells i) t → 0 < (w.cells i).told.seals
asked_at cells w i t ok h =
    let c = ok.cell i in
    let end = c.ends t h in
    c.seals (c.cap end.0 end.1).1

pub tail_asked : (law : Law) (events : List Event) (i tail : ℕ) → IsLegal law events → Contains (ends (state_of events).cells i) tail → 0 < ((state_of events).cells i).told.seals
tail_asked law events i tail legal h = asked_at (length law.shelf) (state_of events) i tail (sound law events legal) h
