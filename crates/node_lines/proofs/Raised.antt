-- A trim that was answered isn't above the log's.
use Rattle.std.proofs.Common.{◌≡◌, sym, ap, ◌∙◌, subst, ⊎_elim, ℕ, ◌≤◌, List, [], ◌∷◌, ◌++◌, arith, append_assoc}
use Rattle.delos_types.specs.declared.chain.Chain.{Chain}
use Rattle.chain_map.specs.Step.{dropped_below}
use Rattle.legal_journal.specs.Law.{Law}
use Rattle.legal_journal.specs.declared.events.Event.{Event}
use Rattle.legal_journal.specs.declared.events.FabricCall.{FabricCall}
use Rattle.legal_journal.specs.declared.events.FabricCall.TheVariants.{ReadChain, WriteChain}
use Rattle.legal_journal.specs.declared.events.FabricAnswer.{FabricAnswer}
use Rattle.legal_journal.specs.declared.events.FabricAnswer.TheVariants.{At, Written, Conflict}
use Rattle.legal_journal.specs.Moves.{move, move_of}
use Rattle.legal_journal.specs.Journal.{State, state_of, start, after, trim_of, IsLegal}
use Rattle.legal_journal.proofs.Legal.{after_all-append, goes_on}
use Rattle.virtual_log.specs.Turning.{HasEvent}
use Rattle.virtual_log.specs.Truncating.{Tells, IsTold, IsRaised, IsHigh, IsPrefixTrimmed}

-- after a chain was told the log has its trim
trim_told : (w : State) (who version : ℕ) (c : Chain) (call : FabricCall) (answer : FabricAnswer) → Tells version c call answer → trim_of (after w who (move_of call answer)) ≡ c.trim
trim_told w who version c ReadChain (At v k) h = ap (λ (x : Chain). x.trim) h.1
trim_told w who version c (WriteChain x asked) (Conflict v k) h = ap (λ (x : Chain). x.trim) h.1
trim_told w who version c call answer h = absurd h

module _ (law : Law) where
  -- what the trim was after one of the events it is at the end, or more
  trim_since : (P : Event → Type 0) (old new : List Event) (n : ℕ) → IsLegal law new → (h : HasEvent old P new) → ((w : State) → n ≤ trim_of (after w h.event.who (move h.event))) → n ≤ trim_of (state_of new)
  trim_since P old new n legal h low =
      let mid : List Event = (old ++ h.before) ++ h.event ∷ [] in
      let is : new ≡ mid ++ h.after = h.seen ∙ sym (append_assoc (old ++ h.before) (h.event ∷ []) h.after) in
      let on = goes_on law mid h.after (subst (IsLegal law) is legal) in
      let at : state_of mid ≡ after (state_of (old ++ h.before)) h.event.who (move h.event) = after_all-append start (old ++ h.before) (h.event ∷ []) in
      let there : n ≤ trim_of (state_of mid) = subst (λ w. n ≤ trim_of w) (sym at) (low (state_of (old ++ h.before))) in
      let later : trim_of (state_of mid) ≤ trim_of (state_of new) = subst (λ es. trim_of (state_of mid) ≤ trim_of (state_of es)) (sym is) on.trim in
      omega (arith, there, later)

  pub trim_upto : (who : ℕ) (old new : List Event) (n trim : ℕ) → IsLegal law new → IsPrefixTrimmed who old n trim new → trim ≤ trim_of (state_of new)
  trim_upto who old new n trim legal h = ⊎_elim by_own by_told h.truncated.how
    where
      by_own : (IsRaised who old n h.written new × (trim ≡ n)) → trim ≤ trim_of (state_of new)
      by_own r =
          let e = r.0.event in
          trim_since (λ x. x ≡ record { who = who; call = WriteChain r.0.expected (dropped_below r.0.before n); answer = Written h.written }) old new trim legal e (λ w. subst (λ x. trim ≤ trim_of (after w x.who (move x))) (sym e.is) (omega (arith, r.1)))

      by_told : IsHigh who old n h.written trim new → trim ≤ trim_of (state_of new)
      by_told r =
          let e = r.event in
          trim_since (IsTold who h.written r.chain) old new trim legal e (λ w. omega (arith, r.trim_is, trim_told w e.event.who h.written r.chain e.event.call e.event.answer e.is.1))
