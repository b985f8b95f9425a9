-- Where only such trims may be written, each trim that is written, or given by the register, is none or such a one.
use Rattle.std.proofs.Common.{◌≡◌, ◌⊎◌, inl, inr, refl, sym, ap, subst, ⊎_elim, ℕ, List, [], ◌∷◌, length, Some, None}
use Rattle.std.specs.Prelude.{Contains}
use Rattle.delos_types.specs.declared.entry.Entry.{Entry}
use Rattle.delos_types.specs.declared.chain.Chain.{Chain}
use Rattle.legal_journal.specs.Law.{Law}
use Rattle.legal_journal.specs.declared.events.FabricCall.{FabricCall}
use Rattle.legal_journal.specs.declared.events.FabricCall.TheVariants.{WriteChain}
use Rattle.legal_journal.specs.declared.events.FabricAnswer.{FabricAnswer}
use Rattle.legal_journal.specs.declared.events.FabricAnswer.TheVariants.{Written, MetaFault}
use Rattle.legal_journal.specs.declared.events.Event.{Event}
use Rattle.legal_journal.specs.Moves.{RegisterMove, Gives, Conflicts, Writes, Faults, Fails, Mends, Move, OnCell, OnRegister, Nothing, Never, move, move_of}
use Rattle.legal_journal.specs.Journal.{RegisterState, State, known, state_of, start, after, after_all, register_after, trim_of, IsCurrent, MayFollow, RegisterAllowed, IsAllowed, IsLegalFrom, IsLegal}
use Rattle.legal_journal.proofs.Cells.{put_cases}
use Rattle.journal_laws.specs.Changes.{trim_written, raised}
use Rattle.journal_laws.proofs.Places.{none_in, first_or_later}

module _ (P : ℕ → Type 0) where
  -- the trim is none, or such a one
  abbrev pub IsSuch : ℕ → Type 0
  IsSuch n = (n ≡ 0) ⊎ P n

  -- the floor of rules by which the log may be trimmed so, whatever it shows
  abbrev pub such : List Entry → ℕ → Type 0
  such log n = P n

  record AllSuch (r : RegisterState) : Type 0 where
    pub now : IsSuch r.chain.trim
    pub asked : (c : Chain) → r.asked ≡ Some c → IsSuch c.trim
    pub given : (v : ℕ) (c : Chain) → r.given v ≡ Some c → IsSuch c.trim

  module _ (w : State) (law : Law) (a : AllSuch w.register) where
    follows : (c : Chain) → MayFollow w such (length law.shelf) w.register.chain c → IsSuch c.trim
    follows c (inl x) = subst IsSuch (sym (ap (λ (k : Chain). k.trim) x.is)) a.now
    follows c (inr x) = inr x.1.free

    current : (v : ℕ) (c : Chain) → IsCurrent w.register v c → IsSuch c.trim
    current v c (inl x) = subst IsSuch (sym (ap (λ (k : Chain). k.trim) x.1)) a.now
    current v c (inr x) = a.asked c x.1

    known_such : (v : ℕ) (c : Chain) → IsSuch c.trim → AllSuch (known w.register v c)
    known_such v c is = record {
      now = is;
      asked = λ d h. absurd (cc);
      given = λ u d. put_cases (λ o. o ≡ Some d → IsSuch d.trim) w.register.given v (Some c) u
          (λ _ h. let same : c ≡ d = cc in subst (λ (k : Chain). IsSuch k.trim) same is)
          (λ _ h. a.given u d h);
    }

    register_such : (m : RegisterMove) → RegisterAllowed w such (length law.shelf) m → AllSuch (register_after w.register m)
    register_such (Gives v c) h = known_such v c (current v c h.1)
    register_such (Conflicts x v c) h = known_such v c (current v c h.1)
    register_such (Writes x c v) h = known_such v c (follows c h.2)
    register_such (Faults x c) h = record {
      now = a.now;
      asked = λ d is. let same : c ≡ d = cc in subst (λ (k : Chain). IsSuch k.trim) same (follows c h.2);
      given = a.given;
    }
    register_such Fails h = a
    register_such (Mends b) h = record { now = a.now; asked = a.asked; given = a.given }

    move_such : (who : ℕ) (m : Move) → IsAllowed w (record law { floor = such }) who m → AllSuch (after w who m).register
    move_such who (OnCell i m) h = a
    move_such who (OnRegister m) h = register_such m h
    move_such who Nothing h = a
    move_such who Never h = absurd h

    written_such : (who n : ℕ) (call : FabricCall) (answer : FabricAnswer) → IsAllowed w (record law { floor = such }) who (move_of call answer) → trim_written call answer ≡ Some n → IsSuch n
    written_such who n (WriteChain x c) (Written v) h is = let same : c.trim ≡ n = cc in subst IsSuch same (follows c h.2)
    written_such who n (WriteChain x c) MetaFault h is = let same : c.trim ≡ n = cc in subst IsSuch same (follows c h.2)
    written_such who n call answer h is = absurd (cc)

  module _ (law : Law) where
    after_such : (w : State) (es : List Event) → AllSuch w.register → IsLegalFrom w (record law { floor = such }) es → AllSuch (after_all w es).register
    after_such w [] a h = a
    after_such w (e ∷ es) a h = after_such (after w e.who (move e)) es (move_such w law a e.who (move e) h.0.allowed) h.1

    raised_from : (w : State) (es : List Event) (n : ℕ) → AllSuch w.register → IsLegalFrom w (record law { floor = such }) es → Contains (raised es) n → IsSuch n
    raised_from w [] n a h c = absurd (none_in n c)
    raised_from w (e ∷ es) n a h c =
        ⊎_elim
        (λ (is : trim_written e.call e.answer ≡ Some n). written_such w law a e.who n e.call e.answer h.0.allowed is)
        (λ (later : Contains (raised es) n). raised_from (after w e.who (move e)) es n (move_such w law a e.who (move e) h.0.allowed) h.1 later)
        (first_or_later (λ (y : Event). trim_written y.call y.answer) e es n c)

    start_such : AllSuch start.register
    start_such = record {
      now = inl refl;
      asked = λ c is. absurd (cc);
      given = λ v c. put_cases (λ o. o ≡ Some c → IsSuch c.trim) (λ _. None) 1 (Some start.register.chain) v
          (λ _ h. let same : start.register.chain ≡ c = cc in subst (λ (k : Chain). IsSuch k.trim) same (inl refl))
          (λ _ h. absurd (cc));
    }

    -- each trim that was written, or may have been
    pub raised_such : (es : List Event) (n : ℕ) → IsLegal (record law { floor = such }) es → Contains (raised es) n → IsSuch n
    raised_such es n legal c = raised_from start es n start_such legal.steps c

    -- the trim of each chain that the register gave
    pub given_such : (es : List Event) (version : ℕ) (chain : Chain) → IsLegal (record law { floor = such }) es → (state_of es).register.given version ≡ Some chain → IsSuch chain.trim
    given_such es version chain legal h = (after_such start es start_such legal.steps).given version chain h

    -- the trim of the log
    pub trim_such : (es : List Event) → IsLegal (record law { floor = such }) es → IsSuch (trim_of (state_of es))
    trim_such es legal = (after_such start es start_such legal.steps).now
