-- What others beside do keeps to a scope, as far as it is bound by what its user did.
use Rattle.std.proofs.Common.{◌≡◌, ◌≢◌, ◌⊎◌, inl, inr, ⊎_elim, ℕ, false, List, [], ◌∷◌, ◌++◌, length, refl, sym, ap, ◌∙◌, subst, append_assoc, append-nil}
use Rattle.delos_types.specs.declared.chain.Chain.{Chain}
use Rattle.loglet_api.specs.declared.call.Op.{Op}
use Rattle.loglet_api.specs.declared.call.Op.TheVariants.{Append, Settle, Tail, Seal, Read, Trim}
use Rattle.legal_journal.specs.Law.{Law}
use Rattle.legal_journal.specs.declared.events.FabricCall.{FabricCall}
use Rattle.legal_journal.specs.declared.events.FabricCall.TheVariants.{Begin, Carry, Forget, ReadChain, WriteChain, Stop, Mend, Stray, StopMeta, MendMeta}
use Rattle.legal_journal.specs.declared.events.FabricAnswer.{FabricAnswer}
use Rattle.legal_journal.specs.declared.events.Event.{Event}
use Rattle.legal_journal.specs.Moves.{CellMove, Begins, Carries, Answers, Drops, Misses, RegisterMove, Gives, Conflicts, Writes, Faults, Fails, Mends, Move, OnCell, OnRegister, Nothing, Never, move}
use Rattle.legal_journal.specs.Journal.{State, state_of, start, after, MayBegin, MayFollow, IsFree, CellAllowed, RegisterAllowed, IsAllowed, Exists, MayHappen, IsLegalFrom, IsLegal}
use Rattle.legal_journal.specs.FaultCalls.{is_fault, MakesNone, NoneBy}
use Rattle.legal_journal.specs.Turns.{AreOthers, HasRight}
use Rattle.legal_journal.proofs.Legal.{IsLegalFrom-split, IsLegalFrom-join, after_all-append}
use Rattle.turn_scopes.specs.Beside.{AreBeside, AreAmong, Since, OthersMay, OthersTrim}

module _ (law scope : Law) (same : scope.shelf ≡ law.shelf) (beside : ℕ → Type 0) (others : OthersMay beside law scope) (trims : OthersTrim beside law scope) where
  as_many : length law.shelf ≡ length scope.shelf
  as_many = ap length (sym same)

  begin_beside : (w : State) (cells who i : ℕ) (op : Op) → beside who → MayBegin w law.may cells who i op → MayBegin w scope.may cells who i op
  begin_beside w cells who i (Append e) b h = (h.0, others who e b h.1)
  begin_beside w cells who i (Settle n) b h = h
  begin_beside w cells who i Tail b h = h
  begin_beside w cells who i Seal b h = h
  begin_beside w cells who i (Read p) b h = h
  begin_beside w cells who i (Trim n) b h = h

  cell_beside : (w : State) (cells who i : ℕ) (m : CellMove) → beside who → CellAllowed w law.may cells who i m → CellAllowed w scope.may cells who i m
  cell_beside w cells who i (Begins op t) b h = (begin_beside w cells who i op b h.0, h.1, h.2)
  cell_beside w cells who i (Carries t) b h = h
  cell_beside w cells who i (Answers t x) b h = h
  cell_beside w cells who i (Drops t) b h = h
  cell_beside w cells who i (Misses t) b h = h

  follow_beside : (w : State) (cells : ℕ) (old new : Chain) → ((n : ℕ) → IsFree w.shown law.floor n → IsFree w.shown scope.floor n) → MayFollow w law.floor cells old new → MayFollow w scope.floor cells old new
  follow_beside w cells old new free (inl h) = inl h
  follow_beside w cells old new free (inr h) = inr (h.0, free new.trim h.1)

  register_beside : (w : State) (cells : ℕ) (m : RegisterMove) → ((n : ℕ) → IsFree w.shown law.floor n → IsFree w.shown scope.floor n) → RegisterAllowed w law.floor cells m → RegisterAllowed w scope.floor cells m
  register_beside w cells (Gives v c) free h = h
  register_beside w cells (Conflicts x v c) free h = h
  register_beside w cells (Writes x c v) free h = (h.0, h.1, follow_beside w cells w.register.chain c free h.2, h.3)
  register_beside w cells (Faults x c) free h = (h.0, h.1, follow_beside w cells w.register.chain c free h.2)
  register_beside w cells Fails free h = h
  register_beside w cells (Mends x) free h = h

  allowed_beside : (w : State) (who : ℕ) (m : Move) → beside who → ((n : ℕ) → IsFree w.shown law.floor n → IsFree w.shown scope.floor n) → IsAllowed w law who m → IsAllowed w scope who m
  allowed_beside w who (OnCell i m) b free h = subst (λ cells. CellAllowed w scope.may cells who i m) as_many (cell_beside w (length law.shelf) who i m b h)
  allowed_beside w who (OnRegister m) b free h = subst (λ cells. RegisterAllowed w scope.floor cells m) as_many (register_beside w (length law.shelf) m free h)
  allowed_beside w who Nothing b free h = h
  allowed_beside w who Never b free h = h

  event_beside : (seen : List Event) (e : Event) → beside e.who → IsLegal scope seen → MayHappen (state_of seen) law e → IsLegal scope (seen ++ e ∷ [])
  event_beside seen e b legal h = record {
    least = legal.least;
    most = legal.most;
    steps = IsLegalFrom-join scope start seen (e ∷ []) legal.steps
        (record { there = subst (λ shelf. Exists shelf e.call) (sym same) h.there; allowed = allowed_beside (state_of seen) e.who (move e) b (λ n free. trims e.who b seen n legal free) h.allowed }, tt);
  }

  others_legal : (es seen : List Event) → AreBeside beside es → IsLegal scope seen → IsLegalFrom (state_of seen) law es → IsLegal scope (seen ++ es)
  others_legal [] seen b legal h = subst (IsLegal scope) (sym (append-nil seen)) legal
  others_legal (e ∷ es) seen b legal h =
      let step = event_beside seen e b.0 legal h.0 in
      let now : state_of (seen ++ e ∷ []) ≡ after (state_of seen) e.who (move e) = after_all-append start seen (e ∷ []) in
      subst (IsLegal scope) (append_assoc seen (e ∷ []) es)
      (others_legal es (seen ++ e ∷ []) b.1 step (subst (λ (w : State). IsLegalFrom w law es) (sym now) h.1))

  -- A journal that is legal by the scope stays so, whatever those beside add to it by the rules.
  pub legal_beside : (seen es : List Event) → AreBeside beside es → IsLegal scope seen → IsLegal law (seen ++ es) → IsLegal scope (seen ++ es)
  legal_beside seen es b legal h = others_legal es seen b legal (IsLegalFrom-split law start seen es h.steps).1

-- those beside are others
pub are_others : (who : ℕ) (beside : ℕ → Type 0) → ((user : ℕ) → beside user → user ≢ who) → (es : List Event) → AreBeside beside es → AreOthers who es
are_others who beside apart [] b = tt
are_others who beside apart (e ∷ es) b = (apart e.who b.0, are_others who beside apart es b.1)

among-append : (who : ℕ) (beside : ℕ → Type 0) (xs ys : List Event) → AreAmong who beside xs → AreAmong who beside ys → AreAmong who beside (xs ++ ys)
among-append who beside [] ys h k = k
among-append who beside (x ∷ xs) ys h k = (h.0, among-append who beside xs ys h.1 k)

beside_among : (who : ℕ) (beside : ℕ → Type 0) (es : List Event) → AreBeside beside es → AreAmong who beside es
beside_among who beside [] b = tt
beside_among who beside (e ∷ es) b = (inr b.0, beside_among who beside es b.1)

-- what one may make by right is no fault
pub no_fault_by_right : (seals : ℕ → Type 0) (who : ℕ) (call : FabricCall) → HasRight seals who call → is_fault call ≡ false
no_fault_by_right seals who (Begin i op) h = refl
no_fault_by_right seals who (Carry i t word) h = refl
no_fault_by_right seals who (Forget i t) h = refl
no_fault_by_right seals who ReadChain h = refl
no_fault_by_right seals who (WriteChain x c) h = refl
no_fault_by_right seals who (Stop i server n) h = absurd h
no_fault_by_right seals who (Mend i server word) h = absurd h
no_fault_by_right seals who (Stray i word) h = absurd h
no_fault_by_right seals who (StopMeta n) h = absurd h
no_fault_by_right seals who (MendMeta word) h = absurd h

own_among : (who : ℕ) (beside : ℕ → Type 0) (call : FabricCall) (answer : FabricAnswer) (own : List Event) → is_fault call ≡ false → (own ≡ []) ⊎ (own ≡ record { who = who; call = call; answer = answer } ∷ []) → AreAmong who beside own
own_among who beside call answer own right (inl none) = subst (AreAmong who beside) (sym none) tt
own_among who beside call answer own right (inr one) = subst (AreAmong who beside) (sym one) (inl (refl, right), tt)

pub since_more : (who : ℕ) (beside : ℕ → Type 0) (call : FabricCall) (answer : FabricAnswer) (old seen others own new : List Event) → Since who beside old seen → AreBeside beside others → is_fault call ≡ false → (own ≡ []) ⊎ (own ≡ record { who = who; call = call; answer = answer } ∷ []) → new ≡ (seen ++ others) ++ own → Since who beside old new
since_more who beside call answer old seen others own new h b right event is = record {
  more = h.more ++ (others ++ own);
  seen = is ∙ (append_assoc seen others own ∙ (ap (λ (l : List Event). l ++ (others ++ own)) h.seen ∙ append_assoc old h.more (others ++ own)));
  among = among-append who beside h.more (others ++ own) h.among (among-append who beside others own (beside_among who beside others b) (own_among who beside call answer own right event));
}

none_among : (who : ℕ) (beside : ℕ → Type 0) → ((user : ℕ) → beside user → user ≢ who) → (es : List Event) → AreAmong who beside es → NoneBy who es
none_among who beside apart [] h = tt
none_among who beside apart (e ∷ es) h = (
  λ own. ⊎_elim (λ (k : (e.who ≡ who) × (is_fault e.call ≡ false)). k.1) (λ (k : beside e.who). absurd (apart e.who k own)) h.0,
  none_among who beside apart es h.1,
)

-- who made no fault since
pub makes_none : (who : ℕ) (beside : ℕ → Type 0) → ((user : ℕ) → beside user → user ≢ who) → (old new : List Event) → Since who beside old new → MakesNone who old new
makes_none who beside apart old new h = record { more = h.more; seen = h.seen; none = none_among who beside apart h.more h.among }

pub since_none : (who : ℕ) (beside : ℕ → Type 0) (old new : List Event) → old ≡ new → Since who beside old new
since_none who beside old new is = record { more = []; seen = sym is ∙ sym (append-nil old); among = tt }

-- one scope after another
pub since_both : (who : ℕ) (beside : ℕ → Type 0) (a b c : List Event) → Since who beside a b → Since who beside b c → Since who beside a c
since_both who beside a b c h k = record {
  more = h.more ++ k.more;
  seen = k.seen ∙ (ap (λ (l : List Event). l ++ k.more) h.seen ∙ append_assoc a h.more k.more);
  among = among-append who beside h.more k.more h.among k.among;
}
