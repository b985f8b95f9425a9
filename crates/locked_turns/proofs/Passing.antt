-- What a turn under the lock adds.
use Rattle.std.proofs.Common.{◌≡◌, ◌≢◌, ◌⊎◌, inl, inr, ℕ, List, [], ◌∷◌, ◌++◌, refl, sym, subst, arith}
use Rattle.std.specs.List.{All, Contains}
use Rattle.std.proofs.lemmas.List.Elements.{All-head, All-tail, All-nil, All-cons}
use Rattle.legal_journal.specs.Law.{Law}
use Rattle.legal_journal.specs.declared.events.FabricCall.{FabricCall}
use Rattle.legal_journal.specs.declared.events.FabricAnswer.{FabricAnswer}
use Rattle.legal_journal.specs.declared.events.Event.{Event}
use Rattle.legal_journal.specs.Journal.{IsLegal}
use Rattle.legal_journal.specs.Turns.{AreOthers, OwnEvents, MayTurn, IsTurn}
use Rattle.legal_journal.proofs.Sealing.{one_or_none}
use Rattle.pass_lock.specs.Journal.{Part, Signed, numbers}
use Rattle.turn_scopes.specs.Beside.{AreBeside, MayTake, IsTaken}

-- events that another part signed are of those beside
pub besides : (who : ℕ) (es : List Event) → All (λ (e : Event). e.who ≢ who) es → AreBeside (λ user. user ≢ who) es
besides who [] h = tt
besides who (e ∷ es) h = (All-head (λ (x : Event). x.who ≢ who) e es h, besides who es (All-tail (λ (x : Event). x.who ≢ who) e es h))

-- what a call adds is signed by the part that makes it
pub own_signed : (who : ℕ) (call : FabricCall) (answer : FabricAnswer) (own : List Event) (seen : List Event) → OwnEvents who call answer own → Signed (λ (e : Event). e.who) ((who, seen) ∷ []) own
own_signed who call answer own seen h = by (one_or_none who call answer own h)
  where
    has : Contains (numbers {E = Event} ((who, seen) ∷ [])) who
    has = (0, omega arith, refl)

    by : (own ≡ []) ⊎ (own ≡ record { who = who; call = call; answer = answer } ∷ []) → Signed (λ (e : Event). e.who) ((who, seen) ∷ []) own
    by (inl none) = subst (λ (es : List Event). Signed (λ (e : Event). e.who) ((who, seen) ∷ []) es) (sym none) (All-nil (λ (e : Event). Contains (numbers {E = Event} ((who, seen) ∷ [])) e.who))
    by (inr one) = subst (λ (es : List Event). Signed (λ (e : Event). e.who) ((who, seen) ∷ []) es) (sym one)
        (All-cons (λ (e : Event). Contains (numbers {E = Event} ((who, seen) ∷ [])) e.who) (record { who = who; call = call; answer = answer }) [] has (All-nil (λ (e : Event). Contains (numbers {E = Event} ((who, seen) ∷ [])) e.who)))

are_others : (who : ℕ) (es : List Event) → AreBeside (λ user. user ≢ who) es → AreOthers who es
are_others who [] h = tt
are_others who (e ∷ es) h = (h.0, are_others who es h.1)

module _ (law : Law) (who : ℕ) (old : List Event) (call : FabricCall) where
  -- beside all others, a turn may be made where one may be taken
  pub may_take : MayTurn law who old call → MayTake law (λ user. user ≢ who) who old call
  may_take h = record { behind = λ others between legal. h others (are_others who others between) legal }

  pub is_turn : (answer : FabricAnswer) (new : List Event) → IsTaken law (λ user. user ≢ who) who old call answer new → IsTurn law who old call answer new
  is_turn answer new t = record { others = t.others; own = t.own; apart = are_others who t.others t.between; event = t.event; seen = t.seen; legal = t.legal }
