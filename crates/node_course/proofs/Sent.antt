-- What a node's desks sent bounds what can have acted.
use Rattle.std.proofs.Common.{◌≡◌, refl, ap, ℕ, zero, suc, ◌+◌, ◌≤◌, List, [], ◌∷◌, Some, slice_get, arith}
use Rattle.delos_types.specs.declared.entry.Entry.{Entry}
use Rattle.legal_journal.specs.Law.{Law}
use Rattle.legal_journal.specs.declared.events.Event.{Event}
use Rattle.legal_journal.specs.Journal.{IsLegal}
use Rattle.virtual_log.specs.Holding.{Holds}
use Rattle.engine_api.specs.Acted.{asked_in}
use Rattle.engine_api.specs.Order.{gap_from}
use Rattle.base_engine.specs.Reading.{IsFront}
use Rattle.node_lines.specs.declared.desk.Desk.{Desk}
use Rattle.node_lines.specs.Workers.{IsHome, OwnWithin, sent_of, sent_by}
use Rattle.node_lines.proofs.Catching.{acted_sent}

-- so many the node sent of a session, by its desk
pub sent_is : (desks : List Desk) (s : ℕ) (d : Desk) → slice_get desks s ≡ Some d → sent_of (sent_by desks) s ≡ d.sent
sent_is [] s d at = absurd (cc)
sent_is (x ∷ desks) zero d at = let same : x ≡ d = cc in ap (λ (y : Desk). y.sent) same
sent_is (x ∷ desks) (suc s) d at = sent_is desks s d at

-- where each desk sent no more than this
pub sent_low : (desks : List Desk) (s most : ℕ) → ((d : Desk) → slice_get desks s ≡ Some d → d.sent ≤ most) → sent_of (sent_by desks) s ≤ most
sent_low [] s most each = omega arith
sent_low (d ∷ desks) zero most each = each d refl
sent_low (d ∷ desks) (suc s) most each = sent_low desks s most (λ x at. each x at)

-- Where a session is at home, no more of it has acted in a front of the log than its desk sent.
pub acted_low : (law : Law) (n : ℕ) (desks : List Desk) (journal : List Event) → IsLegal (record law { may = OwnWithin n law.may (sent_by desks) }) journal
    → (s : ℕ) (d : Desk) → slice_get desks s ≡ Some d → IsHome law.may s n → (log : List Entry) → IsFront Holds journal log → gap_from (asked_in 0 log) s 1 ≤ d.sent + 1
acted_low law n desks journal legal s d at home log front =
    acted_sent (record law { may = OwnWithin n law.may (sent_by desks) }) journal log s d.sent legal front
    (λ who e r allowed has. let low = allowed.1 (home who r e allowed.0 has) s r has in omega (arith, low, sent_is desks s d at))
