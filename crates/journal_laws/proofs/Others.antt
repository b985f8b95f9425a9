-- Other rules by which a legal journal is legal too.
use Rattle.std.proofs.Common.{◌≡◌, inl, inr, refl, ℕ, List, [], ◌∷◌, length, Some, true}
use Rattle.std.specs.Prelude.{Contains}
use Rattle.delos_types.specs.declared.entry.Entry.{Entry}
use Rattle.delos_types.specs.declared.chain.Chain.{Chain}
use Rattle.loglet_api.specs.declared.call.Op.{Op}
use Rattle.loglet_api.specs.declared.call.Op.TheVariants.{Append, Settle, Tail, Seal, Read, Trim}
use Rattle.legal_journal.specs.Law.{Law}
use Rattle.legal_journal.specs.declared.events.FabricCall.{FabricCall}
use Rattle.legal_journal.specs.declared.events.FabricCall.TheVariants.{Begin, Carry, Forget, ReadChain, WriteChain, Stop, Mend, Stray, StopMeta, MendMeta}
use Rattle.legal_journal.specs.declared.events.FabricAnswer.{FabricAnswer}
use Rattle.legal_journal.specs.declared.events.FabricAnswer.TheVariants.{Begun, Full, Done, Going, NoTicket, Gone, At, Down, Written, Conflict, MetaFault, Set, Memory}
use Rattle.legal_journal.specs.declared.events.Event.{Event}
use Rattle.legal_journal.specs.Moves.{move, move_of}
use Rattle.legal_journal.specs.Journal.{State, state_of, start, after, after_all, MayBegin, MayFollow, Shows, IsAllowed, IsLegalFrom, IsLegal}
use Rattle.legal_journal.proofs.Sound.{StateOk, step_ok}
use Rattle.legal_journal.proofs.Legal.{start_ok, legal_ok}
use Rattle.journal_laws.specs.Changes.{entry_begun, appended, trim_written, raised}
use Rattle.journal_laws.proofs.Places.{at_first, at_later, shows_later}

module _ (law : Law) (may' : ℕ → Entry → Type 0) (floor' : List Entry → ℕ → Type 0) where
  begin_by : (w : State) (cells who i t : ℕ) (op : Op) → ((e : Entry) → entry_begun (Begin i op) (Begun t) ≡ Some e → law.may who e → may' who e) → MayBegin w law.may cells who i op → MayBegin w may' cells who i op
  begin_by w cells who i t (Append e) f h = (h.0, f e refl h.1)
  begin_by w cells who i t (Settle n) f h = h
  begin_by w cells who i t Tail f h = h
  begin_by w cells who i t Seal f h = h
  begin_by w cells who i t (Read p) f h = h
  begin_by w cells who i t (Trim n) f h = h

  follow_by : (w : State) (cells : ℕ) (c : Chain) → ((log : List Entry) → Shows w.shown log → law.floor log c.trim → floor' log c.trim) → MayFollow w law.floor cells w.register.chain c → MayFollow w floor' cells w.register.chain c
  follow_by w cells c f (inl x) = inl x
  follow_by w cells c f (inr x) = inr (x.0, record { log = x.1.log; shows = x.1.shows; free = f x.1.log x.1.shows x.1.free })

  -- what one event appends and raises, the other rules allow
  allowed_by : (w : State) (who : ℕ) (call : FabricCall) (answer : FabricAnswer) → ((e : Entry) → entry_begun call answer ≡ Some e → law.may who e → may' who e)
      → ((log : List Entry) (n : ℕ) → trim_written call answer ≡ Some n → Shows w.shown log → law.floor log n → floor' log n)
      → IsAllowed w law who (move_of call answer) → IsAllowed w (record law { may = may'; floor = floor' }) who (move_of call answer)
  allowed_by w who (Begin i op) (Begun t) f g h = (begin_by w (length law.shelf) who i t op f h.0, h.1, h.2)
  allowed_by w who (Begin i op) Full f g h = h
  allowed_by w who (Carry i t x) Going f g h = h
  allowed_by w who (Carry i t x) (Done y) f g h = h
  allowed_by w who (Carry i t x) Memory f g h = h
  allowed_by w who (Carry i t x) NoTicket f g h = h
  allowed_by w who (Forget i t) Gone f g h = h
  allowed_by w who (Forget i t) NoTicket f g h = h
  allowed_by w who ReadChain (At v c) f g h = h
  allowed_by w who ReadChain Down f g h = h
  allowed_by w who (WriteChain x c) (Written v) f g h = (h.0, h.1, follow_by w (length law.shelf) c (λ log. g log c.trim refl) h.2, h.3)
  allowed_by w who (WriteChain x c) (Conflict v d) f g h = h
  allowed_by w who (WriteChain x c) MetaFault f g h = (h.0, h.1, follow_by w (length law.shelf) c (λ log. g log c.trim refl) h.2)
  allowed_by w who (WriteChain x c) Down f g h = h
  allowed_by w who (MendMeta x) (Set y) f g h = h
  allowed_by w who (Stop i s n) (Set true) f g h = h
  allowed_by w who (Mend i s x) (Set y) f g h = h
  allowed_by w who (Stray i x) (Set true) f g h = h
  allowed_by w who (StopMeta n) (Set true) f g h = h
  allowed_by w who call answer f g h = absurd h

  from_by : (w : State) (es : List Event) → StateOk (length law.shelf) w → ((who : ℕ) (e : Entry) → Contains (appended es) e → law.may who e → may' who e)
      → ((log : List Entry) (n : ℕ) → Contains (raised es) n → Shows (after_all w es).shown log → law.floor log n → floor' log n)
      → IsLegalFrom w law es → IsLegalFrom w (record law { may = may'; floor = floor' }) es
  from_by w [] ok f g h = tt
  from_by w (e ∷ es) ok f g h =
      let step = step_ok law w e.who (move e) ok h.0.allowed in
      let rest = legal_ok law w (e ∷ es) ok h in (
        record {
          there = h.0.there;
          allowed = allowed_by w e.who e.call e.answer
              (λ x is. f e.who x (at_first (λ (y : Event). entry_begun y.call y.answer) e es x is))
              (λ log n is shows. g log n (at_first (λ (y : Event). trim_written y.call y.answer) e es n is) (shows_later w (after_all w (e ∷ es)) log rest.1 shows))
              h.0.allowed;
        },
        from_by (after w e.who (move e)) es step.0
            (λ who x c. f who x (at_later (λ (y : Event). entry_begun y.call y.answer) e es x c))
            (λ log n c. g log n (at_later (λ (y : Event). trim_written y.call y.answer) e es n c)) h.1,
      )

  -- A journal is legal by other rules too, where they let who appended an entry append it, and the log be trimmed where it was.
  pub other_legal : (events : List Event) → IsLegal law events → ((who : ℕ) (e : Entry) → Contains (appended events) e → law.may who e → may' who e)
      → ((log : List Entry) (n : ℕ) → Contains (raised events) n → Shows (state_of events).shown log → law.floor log n → floor' log n)
      → IsLegal (record law { may = may'; floor = floor' }) events
  other_legal events h f g = record { least = h.least; most = h.most; steps = from_by start events (start_ok (length law.shelf) h.least h.most) f g h.steps }
