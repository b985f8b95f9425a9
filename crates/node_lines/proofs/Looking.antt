-- What a read sees of its session.
use Rattle.std.proofs.Common.{◌≡◌, refl, sym, ap, ◌∙◌, subst, ℕ, zero, suc, ◌+◌, ◌-◌, ◌≤◌, List, [], Option, Some, None, length, arith}
use Rattle.std.specs.Prelude.{All}
use Rattle.delos_types.specs.declared.entry.Entry.{Entry}
use Rattle.delos_types.specs.declared.item.Item.{Item}
use Rattle.delos_types.specs.declared.cause.Cause.{Cause}
use Rattle.legal_journal.specs.Law.{Law}
use Rattle.legal_journal.specs.declared.events.Event.{Event}
use Rattle.legal_journal.specs.Journal.{IsLegal}
use Rattle.virtual_log.specs.Holding.{Holds}
use Rattle.virtual_log.specs.Turning.{IsAbove}
use Rattle.engine_api.specs.Acted.{asked_in}
use Rattle.engine_api.specs.Order.{gap_from, numbers}
use Rattle.engine_api.specs.Packing.{IsProposable}
use Rattle.replica_api.specs.Replica.{Flushes}
use Rattle.base_engine.specs.Reading.{IsFront}
use Rattle.base_engine.specs.Settling.{OutboxView, Settled, Answers, cause_in}
use Rattle.base_engine.specs.Proposing.{Sent}
use Rattle.node_lines.specs.UnderWay.{HasLanded, HasRank, ranks_in, IsGiven}
use Rattle.node_lines.proofs.Settling.{Extends, extends-trans, settles-extends, none-front, settled_landed, front_of}
use Rattle.node_lines.proofs.Queueing.{flushed_given}
use Rattle.node_lines.proofs.Catching.{acted_sent}
use Rattle.node_lines.proofs.Proposed.{above_extends, found_acted}

settled_extends : (who : ℕ) (old new : List Event) (was is : OutboxView) → Settled Holds who old was new is → Extends old new
settled_extends who old new was is h = extends-trans old h.moment new (settles-extends who old h.moment h.done h.given was.unsettled is.unsettled h.fates) h.rest

-- nothing waits any more
none_kept : (origin : ℕ) (kept kept' : List Item) (packed : Option Entry) → Flushes origin kept packed kept' → kept' ≡ []
none_kept origin kept kept' None h = h.1
none_kept origin kept kept' (Some e) h = h.2

none_queued : (a n : ℕ) → [] ≡ numbers a n → n ≡ 0
none_queued a zero h = refl
none_queued a (suc n) h = absurd (cc)

module _ (law : Law) (low : (log : List Entry) (n : ℕ) → law.floor log n → n ≤ length log) where
  -- All that a session asked was flushed and settled, and it was given no cause. In the state at a tail that was found then
  -- just that has acted.
  pub looks_whole : (who origin s sent tail : ℕ) (old flushed settled seen : List Event) (o was is : OutboxView) (cause : Option Cause) (kept kept' : List Item) (log : List Entry) → IsLegal law seen
      → All IsProposable kept → length kept ≤ 15 → IsGiven old o.entries kept s sent
      → Sent Holds who old o (λ packed. Flushes origin kept packed kept') flushed was → Answers Holds who flushed was cause settled is → cause_in s is.given ≡ None
      → IsAbove who settled tail seen → length log ≡ tail → IsFront Holds seen log → ((user : ℕ) (e : Entry) (r : ℕ) → law.may user e → HasRank s r e → r ≤ sent)
      → gap_from (asked_in 0 log) s 1 ≡ sent + 1
  looks_whole who origin s sent tail old flushed settled seen o was is cause kept kept' log legal all few g sends answers none above size front bound =
      let now : OutboxView = record { entries = is.entries; given = is.given; unsettled = cause } in
      let on = above_extends law who tail settled seen above in
      let legal_settled = front_of law low settled seen legal on in
      let legal_flushed = front_of law low flushed settled legal_settled (settled_extends who flushed settled was now answers.settled) in
      let none_then = none-front s was.given answers.settled.given (subst (λ x. cause_in s x ≡ None) answers.settled.gained none) in
      let given = flushed_given law low who origin s sent old flushed o was kept kept' legal_flushed none_then all few sends g in
      let empty = none_kept origin kept kept' sends.packed sends.out in
      let queued : given.queued ≡ 0 = none_queued (sent - given.queued + 1) given.queued (sym (ap (λ k. ranks k) empty) ∙ given.waiting) in
      let landed : (r : ℕ) → 1 ≤ r → r ≤ sent → HasLanded settled s r = λ r first last.
      settled_landed law low who s r flushed settled was now legal_settled none answers.none answers.settled (given.under_way r first (omega (arith, last, queued))) in
      let least = found_acted law who s sent tail settled seen log legal above size front landed in
      let most = acted_sent law seen log s sent legal front bound in
      omega (arith, least, most)
    where
      ranks : List Item → List ℕ
      ranks k = ranks_in s k
