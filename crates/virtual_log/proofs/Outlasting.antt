-- What is underway outlasts calls that carry and close what they began alone.
use Rattle.std.proofs.Common.{◌≡◌, ⊎_elim, ℕ, ◌<◌, ◌≤◌, List, [], ◌∷◌, ◌++◌, length, Option, None, Some, sym, ap, ◌∙◌, subst, arith}
use Rattle.delos_types.specs.declared.chain.Chain.{Chain}
use Rattle.chain_map.specs.Chain.{last_segment}
use Rattle.legal_journal.specs.Law.{Law}
use Rattle.legal_journal.specs.declared.events.Event.{Event}
use Rattle.legal_journal.specs.declared.events.FabricCall.{FabricCall}
use Rattle.legal_journal.specs.declared.events.FabricCall.TheVariants.{Begin, Carry, Forget, ReadChain, WriteChain}
use Rattle.legal_journal.specs.declared.events.FabricAnswer.{FabricAnswer}
use Rattle.legal_journal.specs.declared.events.FabricAnswer.TheVariants as fabric
use Rattle.legal_journal.specs.Moves.{move, move_of}
use Rattle.legal_journal.specs.Journal.{State, after, state_of, start, IsAllowed, IsLegalFrom, IsLegal}
use Rattle.legal_journal.proofs.Sound.{StateOk, step_ok}
use Rattle.legal_journal.proofs.Legal.{sound, legal_front, IsLegalFrom-split}
use Rattle.virtual_log.specs.declared.underway.Going.{Going}
use Rattle.virtual_log.specs.Turning.{Later}
use Rattle.virtual_log.specs.Underway.{IsGoing, Leaves, LeaveTicket}
use Rattle.virtual_log.specs.Operating.{Operation, Hands, HandsEach, Operates}
use Rattle.virtual_log.proofs.Sparing.{going_later, ticket_begun}

-- the operation at hand isn't the one of this ticket
abbrev IsElse : Option Operation → ℕ → ℕ → Type 0
IsElse None i t = Unit {0}
IsElse (Some o) i t = o.loglet ≡ i → o.ticket ≡ t → ⊥

-- who's event leaves a ticket that isn't at hand
hand_leaves : (before next : Option Operation) (i t : ℕ) (call : FabricCall) (answer : FabricAnswer) → Hands before call answer next → IsElse before i t → Leaves i t call
hand_leaves None next i t (Carry j u w) answer h k = absurd h
hand_leaves None next i t (Forget j u) answer h k = absurd h
hand_leaves None next i t call answer h k = tt
hand_leaves (Some o) next i t (Carry j u w) (fabric.Done a) h k = λ e f. k (sym h.0 ∙ e) (sym h.1 ∙ f)
hand_leaves (Some o) next i t (Carry j u w) answer h k = λ e f. k (sym h.0 ∙ e) (sym h.1 ∙ f)
hand_leaves (Some o) next i t (Forget j u) answer h k = λ e f. k (sym h.0 ∙ e) (sym h.1 ∙ f)
hand_leaves (Some o) next i t call answer h k = absurd h

-- .. and it is at hand no more than before, if it was begun by then
next_else : (w : State) (law : Law) (by : ℕ) (before next : Option Operation) (i t : ℕ) (call : FabricCall) (answer : FabricAnswer) → Hands before call answer next → IsElse before i t → t < (w.cells i).told.begun → IsAllowed w law by (move_of call answer) → IsElse next i t
next_else w law by None next i t (Begin j op) (fabric.Begun u) h k low a =
    subst (λ o. IsElse o i t) (sym h) (λ e f. absurd (omega (arith, low, a.2, f, ap (λ n. (w.cells n).told.begun) e)))
next_else w law by None next i t (Begin j op) answer h k low a = subst (λ o. IsElse o i t) (sym h) tt
next_else w law by None next i t ReadChain answer h k low a = subst (λ o. IsElse o i t) (sym h) tt
next_else w law by None next i t (WriteChain x c) answer h k low a = subst (λ o. IsElse o i t) (sym h) tt
next_else w law by (Some o) next i t (Carry j u word) (fabric.Done x) h k low a = subst (λ o. IsElse o i t) (sym h.2) tt
next_else w law by (Some o) next i t (Carry j u word) answer h k low a = subst (λ o. IsElse o i t) (sym h.2) k
next_else w law by (Some o) next i t (Forget j u) answer h k low a = subst (λ o. IsElse o i t) (sym h.2) tt
next_else w law by before next i t call answer h k low a = absurd h

-- who's events leave a ticket that was begun before them
old_spared : (law : Law) (who i t : ℕ) (w : State) (before last : Option Operation) (es : List Event) → StateOk (length law.shelf) w → IsLegalFrom w law es → HandsEach who before es last → IsElse before i t → t < (w.cells i).told.begun → LeaveTicket who i t es
old_spared law who i t w before last [] ok legal h k low = tt
old_spared law who i t w before last (e ∷ es) ok legal h k low =
    let step = step_ok law w e.who (move e) ok legal.0.allowed in (
      λ same.
          ⊎_elim
          (λ (x : (e.who ≡ who) × Hands before e.call e.answer h.0). hand_leaves before h.0 i t e.call e.answer x.1 k)
          (λ (x : (e.who ≡ who → ⊥) × (h.0 ≡ before)). absurd (x.0 same))
          h.1,
      old_spared law who i t (after w e.who (move e)) h.0 last es step.0 legal.1 h.2
          (⊎_elim
          (λ (x : (e.who ≡ who) × Hands before e.call e.answer h.0). next_else w law e.who before h.0 i t e.call e.answer x.1 k low legal.0.allowed)
          (λ (x : (e.who ≡ who → ⊥) × (h.0 ≡ before)). subst (λ o. IsElse o i t) (sym x.1) k)
          h.1)
          (omega (arith, low, (step.1.cell i).begun)),
    )

pub going_outlasts : (law : Law) (who : ℕ) (early old new : List Event) (c d : Chain) (left : Option Operation) (g : Going) → Later law old new → (last_segment c).id ≤ (last_segment d).id → Operates who None left old new → IsGoing law.may who early old c g → IsGoing law.may who early new d g
going_outlasts law who early old new c d left g later up does h =
    let legal = subst (IsLegal law) does.seen later.legal in
    let ok = sound law old (legal_front law old does.more legal) in
    let steps = (IsLegalFrom-split law start old does.more legal.steps).1 in
    subst (λ es. IsGoing law.may who early es d g) (sym does.seen)
    (going_later law who early old does.more c d g legal up
    (λ i t has. old_spared law who i t (state_of old) None left does.more ok steps does.hands tt (ticket_begun (length law.shelf) who (early ++ h.first.others) old g.entry g.step i t ok h.at has))
    h)
