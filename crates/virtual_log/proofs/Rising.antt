-- The chain that a virtual log goes by ends no earlier than before.
use Rattle.std.proofs.Common.{ℕ, ◌≤◌, List, ap, arith}
use Rattle.delos_types.specs.declared.chain.Chain.{Chain}
use Rattle.chain_map.specs.Chain.{last_segment, last_of_segments}
use Rattle.legal_journal.specs.Law.{Law}
use Rattle.legal_journal.specs.declared.events.Event.{Event}
use Rattle.legal_journal.specs.Journal.{state_of}
use Rattle.legal_journal.proofs.Legal.{sound}
use Rattle.virtual_log.specs.Turning.{Later, Looked}
use Rattle.virtual_log.specs.Log.{GoesBy}
use Rattle.virtual_log.proofs.Going.{goes_later}

-- the chain that the register gives now ends no earlier than one that it gave
pub rises_now : (law : Law) (who v k n : ℕ) (c d : Chain) (a b : List Event) → Later law a b → GoesBy (state_of a) v c k → Looked who a n d b → (last_segment c).id ≤ (last_segment d).id
rises_now law who v k n c d a b later g l =
    let ok = sound law b later.legal in
    let on = goes_later law a b v k c later g in
    omega (arith, (ok.olds v c on.given).last, ap (λ (x : Chain). (last_of_segments x.segments).id) l.chain_is)
