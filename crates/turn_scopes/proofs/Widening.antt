-- Rules that allow more, and what stays legal by rules that allow less.
use Rattle.std.proofs.Common.{◌≡◌, ◌⊎◌, inl, inr, ℕ, List, [], ◌∷◌, ◌++◌, length, Some, true, refl, sym, ap, ◌∙◌, subst, arith}
use Rattle.delos_types.specs.declared.entry.Entry.{Entry}
use Rattle.delos_types.specs.declared.chain.Chain.{Chain}
use Rattle.loglet_api.specs.declared.call.Op.{Op}
use Rattle.loglet_api.specs.declared.call.Op.TheVariants.{Append, Settle, Tail, Seal, Read, Trim}
use Rattle.legal_journal.specs.Law.{Law}
use Rattle.legal_journal.specs.declared.events.FabricCall.{FabricCall}
use Rattle.legal_journal.specs.declared.events.FabricCall.TheVariants.{Begin, Carry, Forget, ReadChain, WriteChain, Stop, Mend, Stray, StopMeta, MendMeta}
use Rattle.legal_journal.specs.declared.events.FabricAnswer.{FabricAnswer}
use Rattle.legal_journal.specs.declared.events.FabricAnswer.TheVariants.{Begun, Full, Done, Going, NoTicket, Gone, At, Down, Written, Conflict, MetaFault, Set, Memory}
use Rattle.legal_journal.specs.declared.events.Event.{Event}
use Rattle.legal_journal.specs.Moves.{CellMove, Begins, Carries, Answers, Drops, Misses, RegisterMove, Gives, Conflicts, Writes, Faults, Fails, Mends, Move, OnCell, OnRegister, Nothing, Never, move_of, move}
use Rattle.legal_journal.specs.Journal.{State, state_of, start, after, MayBegin, MayFollow, CellAllowed, RegisterAllowed, IsAllowed, Exists, IsLegalFrom, IsLegal}
use Rattle.legal_journal.specs.Turns.{MayAsk, MayCall, OwnEvents}
use Rattle.legal_journal.proofs.Legal.{IsLegalFrom-split, IsLegalFrom-join, sound}
use Rattle.turn_scopes.specs.Beside.{IsNarrower}

-- whatever the scope allows, the law does
module _ (scope law : Law) (narrow : IsNarrower scope law) where
  as_many : length scope.shelf ≡ length law.shelf
  as_many = ap length narrow.shelf

  begin_wider : (w : State) (cells who i : ℕ) (op : Op) → MayBegin w scope.may cells who i op → MayBegin w law.may cells who i op
  begin_wider w cells who i (Append e) h = (h.0, narrow.may who e h.1)
  begin_wider w cells who i (Settle n) h = h
  begin_wider w cells who i Tail h = h
  begin_wider w cells who i Seal h = h
  begin_wider w cells who i (Read p) h = h
  begin_wider w cells who i (Trim n) h = h

  cell_wider : (w : State) (cells who i : ℕ) (m : CellMove) → CellAllowed w scope.may cells who i m → CellAllowed w law.may cells who i m
  cell_wider w cells who i (Begins op t) h = (begin_wider w cells who i op h.0, h.1, h.2)
  cell_wider w cells who i (Carries t) h = h
  cell_wider w cells who i (Answers t x) h = h
  cell_wider w cells who i (Drops t) h = h
  cell_wider w cells who i (Misses t) h = h

  follow_wider : (w : State) (cells : ℕ) (old new : Chain) → MayFollow w scope.floor cells old new → MayFollow w law.floor cells old new
  follow_wider w cells old new (inl h) = inl h
  follow_wider w cells old new (inr h) = inr (h.0, record { log = h.1.log; shows = h.1.shows; free = narrow.floor h.1.log new.trim h.1.free })

  register_wider : (w : State) (cells : ℕ) (m : RegisterMove) → RegisterAllowed w scope.floor cells m → RegisterAllowed w law.floor cells m
  register_wider w cells (Gives v c) h = h
  register_wider w cells (Conflicts x v c) h = h
  register_wider w cells (Writes x c v) h = (h.0, h.1, follow_wider w cells w.register.chain c h.2, h.3)
  register_wider w cells (Faults x c) h = (h.0, h.1, follow_wider w cells w.register.chain c h.2)
  register_wider w cells Fails h = h
  register_wider w cells (Mends x) h = h

  allowed_wider : (w : State) (who : ℕ) (m : Move) → IsAllowed w scope who m → IsAllowed w law who m
  allowed_wider w who (OnCell i m) h = subst (λ cells. CellAllowed w law.may cells who i m) as_many (cell_wider w (length scope.shelf) who i m h)
  allowed_wider w who (OnRegister m) h = subst (λ cells. RegisterAllowed w law.floor cells m) as_many (register_wider w (length scope.shelf) m h)
  allowed_wider w who Nothing h = h
  allowed_wider w who Never h = h

  from_wider : (w : State) (es : List Event) → IsLegalFrom w scope es → IsLegalFrom w law es
  from_wider w [] h = h
  from_wider w (e ∷ es) h = (
    record { there = subst (λ shelf. Exists shelf e.call) narrow.shelf h.0.there; allowed = allowed_wider w e.who (move e) h.0.allowed },
    from_wider (after w e.who (move e)) es h.1,
  )

  -- a journal stays legal
  pub legal_lower : (es : List Event) → IsLegal scope es → IsLegal law es
  legal_lower es h = record { least = omega (arith, as_many, h.least); most = omega (arith, as_many, h.most); steps = from_wider start es h.steps }

  ask_wider : (w : State) (who : ℕ) (call : FabricCall) → MayAsk w scope who call → MayAsk w law who call
  ask_wider w who (Begin i op) h = subst (λ cells. MayBegin w law.may cells who i op) as_many (begin_wider w (length scope.shelf) who i op h)
  ask_wider w who (Carry i t x) h = h
  ask_wider w who (Forget i t) h = h
  ask_wider w who ReadChain h = h
  ask_wider w who (WriteChain x c) h = (h.0, h.1, subst (λ cells. MayFollow w law.floor cells h.0 c) as_many (follow_wider w (length scope.shelf) h.0 c h.2))
  ask_wider w who (Stop i s n) h = h
  ask_wider w who (Mend i s x) h = h
  ask_wider w who (Stray i x) h = h
  ask_wider w who (StopMeta n) h = h
  ask_wider w who (MendMeta x) h = h

  -- what may be called may be called
  pub call_wider : (w : State) (who : ℕ) (call : FabricCall) → MayCall w scope who call → MayCall w law who call
  call_wider w who call h = record { there = subst (λ shelf. Exists shelf call) narrow.shelf h.there; asks = ask_wider w who call h.asks }

  -- the chain that was given with the version that stands is the one that stands
  follow_now : (w : State) (cells x : ℕ) (new : Chain) → w.register.given w.register.version ≡ Some w.register.chain → x ≡ w.register.version → ((old : Chain) × (w.register.given x ≡ Some old) × MayFollow w scope.floor cells old new) → MayFollow w scope.floor cells w.register.chain new
  follow_now w cells x new given is h =
      let same : Some h.0 ≡ Some w.register.chain = sym h.1 ∙ (ap w.register.given is ∙ given) in
      let one : h.0 ≡ w.register.chain = cc in
      subst (λ old. MayFollow w scope.floor cells old new) one h.2

  -- an event that the law allows, by a call that the scope allows
  allowed_within : (w : State) (who : ℕ) (call : FabricCall) (answer : FabricAnswer) → w.register.given w.register.version ≡ Some w.register.chain → MayAsk w scope who call → IsAllowed w law who (move_of call answer) → IsAllowed w scope who (move_of call answer)
  allowed_within w who (Begin i op) (Begun t) given ask h = (ask, h.1, h.2)
  allowed_within w who (Begin i op) Full given ask h = h
  allowed_within w who (Carry i t x) Going given ask h = h
  allowed_within w who (Carry i t x) (Done y) given ask h = h
  allowed_within w who (Carry i t x) Memory given ask h = h
  allowed_within w who (Carry i t x) NoTicket given ask h = h
  allowed_within w who (Forget i t) Gone given ask h = h
  allowed_within w who (Forget i t) NoTicket given ask h = h
  allowed_within w who ReadChain (At v c) given ask h = h
  allowed_within w who ReadChain Down given ask h = h
  allowed_within w who (WriteChain x c) (Written v) given ask h = (h.0, h.1, follow_now w (length scope.shelf) x c given h.1 ask, h.3)
  allowed_within w who (WriteChain x c) (Conflict v d) given ask h = h
  allowed_within w who (WriteChain x c) MetaFault given ask h = (h.0, h.1, follow_now w (length scope.shelf) x c given h.1 ask)
  allowed_within w who (WriteChain x c) Down given ask h = h
  allowed_within w who (MendMeta x) (Set y) given ask h = h
  allowed_within w who (Stop i s n) (Set true) given ask h = h
  allowed_within w who (Mend i s x) (Set y) given ask h = h
  allowed_within w who (Stray i x) (Set true) given ask h = h
  allowed_within w who (StopMeta n) (Set true) given ask h = h
  allowed_within w who call answer given ask h = absurd h

  -- the events of a call
  pub own_cases : (who : ℕ) (call : FabricCall) (answer : FabricAnswer) (own : List Event) → OwnEvents who call answer own → (own ≡ []) ⊎ (own ≡ record { who = who; call = call; answer = answer } ∷ [])
  own_cases who (Carry i t x) Memory own h = h
  own_cases who call Memory own h = inl h
  own_cases who call answer own h = inr h

  nil : (xs : List Event) → xs ++ [] ≡ xs
  nil [] = refl
  nil (x ∷ xs) = ap (λ l. x ∷ l) (nil xs)

  -- A call that the scope allows, of a journal that is legal by it: what comes of it is.
  pub legal_within : (who : ℕ) (call : FabricCall) (answer : FabricAnswer) (old own new : List Event) → IsLegal scope old → MayCall (state_of old) scope who call → OwnEvents who call answer own → new ≡ old ++ own → IsLegal law new → IsLegal scope new
  legal_within who call answer old own new was may event is now = by_own (own_cases who call answer own event)
    where
      by_own : (own ≡ []) ⊎ (own ≡ record { who = who; call = call; answer = answer } ∷ []) → IsLegal scope new
      by_own (inl none) = subst (IsLegal scope) (sym (is ∙ (ap (λ l. old ++ l) none ∙ nil old))) was
      by_own (inr one) =
          let e : Event = record { who = who; call = call; answer = answer } in
          let whole : IsLegal law (old ++ e ∷ []) = subst (IsLegal law) (is ∙ ap (λ l. old ++ l) one) now in
          let parts = IsLegalFrom-split law start old (e ∷ []) whole.steps in
          let step = allowed_within (state_of old) who call answer (sound scope old was).given may.asks parts.1.0.allowed in
          subst (IsLegal scope) (sym (is ∙ ap (λ l. old ++ l) one)) (record {
            least = was.least;
            most = was.most;
            steps = IsLegalFrom-join scope start old (e ∷ []) was.steps (record { there = subst (λ shelf. Exists shelf e.call) (sym narrow.shelf) parts.1.0.there; allowed = step }, tt);
          })

-- but for who may append what, by the same law
pub legal_wider : (law : Law) (a b : ℕ → Entry → Type 0) → ((who : ℕ) (e : Entry) → a who e → b who e) → (es : List Event) → IsLegal (record law { may = a }) es → IsLegal (record law { may = b }) es
legal_wider law a b wider es h = legal_lower (record law { may = a }) (record law { may = b }) (record { may = wider; floor = λ log n k. k; shelf = refl }) es h
