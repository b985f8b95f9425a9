-- Each entry of a loglet, and each that a log shows, was somebody's to append.
use Rattle.std.proofs.Common.{◌≡◌, ◌⊎◌, inl, inr, refl, sym, ap, ◌∙◌, subst, ⊎_elim, ℕ, zero, suc, List, [], ◌∷◌, ◌++◌, length, Option, Some, None}
use Rattle.std.specs.Prelude.{slice_get, Contains}
use Rattle.delos_types.specs.declared.entry.Entry.{Entry}
use Rattle.loglet_api.specs.declared.call.Op.{Op}
use Rattle.loglet_api.specs.declared.call.Op.TheVariants.{Append, Settle, Tail, Seal, Read, Trim}
use Rattle.loglet_api.specs.Step.{entries_of}
use Rattle.legal_journal.specs.Law.{Law}
use Rattle.legal_journal.specs.declared.events.FabricCall.{FabricCall}
use Rattle.legal_journal.specs.declared.events.FabricCall.TheVariants.{Begin}
use Rattle.legal_journal.specs.declared.events.FabricAnswer.{FabricAnswer}
use Rattle.legal_journal.specs.declared.events.FabricAnswer.TheVariants.{Begun}
use Rattle.legal_journal.specs.declared.events.Event.{Event}
use Rattle.legal_journal.specs.Moves.{CellMove, Begins, Carries, Answers, Drops, Misses, Move, OnCell, OnRegister, Nothing, Never, move, move_of}
use Rattle.legal_journal.specs.Told.{put}
use Rattle.legal_journal.specs.Journal.{CellState, RegisterState, State, make, state_of, start, after, after_all, cell_after, register_after, entries, reach, log_of, now_or_before, MayBegin, CellAllowed, IsAllowed, IsLegalFrom, IsLegal}
use Rattle.legal_journal.proofs.Cells.{put_cases}
use Rattle.legal_journal.proofs.Sound.{log_from}
use Rattle.virtual_log.specs.Holding.{Holds}
use Rattle.virtual_log.proofs.Holding.{found_in}
use Rattle.journal_laws.specs.Changes.{entry_begun, appended}
use Rattle.journal_laws.proofs.Places.{none_in, first_or_later}

last_of : (xs : List Entry) (x e : Entry) (n : ℕ) → slice_get (xs ++ x ∷ []) n ≡ Some e → (slice_get xs n ≡ Some e) ⊎ (x ≡ e)
last_of [] x e zero h = inr (cc)
last_of [] x e (suc n) h = absurd (cc)
last_of (y ∷ ys) x e zero h = inl h
last_of (y ∷ ys) x e (suc n) h = last_of ys x e n h

nil : (xs : List Entry) → xs ++ [] ≡ xs
nil [] = refl
nil (x ∷ xs) = ap (λ l. x ∷ l) (nil xs)

now_or : (o before : Option Entry) (e : Entry) → now_or_before o before ≡ Some e → (o ≡ Some e) ⊎ (before ≡ Some e)
now_or None before e h = inr h
now_or (Some x) before e h = inl h

module _ (law : Law) where
  -- whoever appended the entry was allowed to
  abbrev IsSent : Entry → Type 0
  IsSent e = (who : ℕ) × law.may who e

  -- each entry of each loglet was somebody's to append
  abbrev AreSent : (ℕ → CellState) → Type 0
  AreSent cells = (i n : ℕ) (e : Entry) → slice_get (cells i).entries n ≡ Some e → IsSent e

  -- and so was each entry that the log shows, or did
  record AllSent (w : State) : Type 0 where
    pub cells : AreSent w.cells
    pub shown : (pos : ℕ) (e : Entry) → w.shown pos ≡ Some e → IsSent e

  make_sent : (cells : ℕ → CellState) (r : RegisterState) (starts : ℕ → Option ℕ) (shown : ℕ → Option Entry) → AreSent cells → ((pos : ℕ) (e : Entry) → shown pos ≡ Some e → IsSent e) → AllSent (make cells r starts shown)
  make_sent cells r starts shown all was = record {
    cells = all;
    shown = λ pos e h. ⊎_elim
        (λ (k : log_of cells r.chain pos ≡ Some e).
        let f = found_in (reach cells) (entries cells) r.chain.segments pos e (log_from (reach cells) (entries cells) r.chain pos e k).1 in
        all f.segment.id _ e f.entry)
        (λ (k : shown pos ≡ Some e). was pos e k)
        (now_or (log_of cells r.chain pos) (shown pos) e h);
  }

  begun_sent : (w : State) (cells who i n : ℕ) (op : Op) (xs : List Entry) (e : Entry) → ((k : ℕ) (x : Entry) → slice_get xs k ≡ Some x → IsSent x) → MayBegin w law.may cells who i op → slice_get (xs ++ entries_of op) n ≡ Some e → IsSent e
  begun_sent w cells who i n (Append x) xs e f a h = ⊎_elim (λ (k : slice_get xs n ≡ Some e). f n e k) (λ (k : x ≡ e). (who, subst (law.may who) k a.1)) (last_of xs x e n h)
  begun_sent w cells who i n (Settle k) xs e f a h = f n e (ap (λ l. slice_get l n) (sym (nil xs)) ∙ h)
  begun_sent w cells who i n Tail xs e f a h = f n e (ap (λ l. slice_get l n) (sym (nil xs)) ∙ h)
  begun_sent w cells who i n Seal xs e f a h = f n e (ap (λ l. slice_get l n) (sym (nil xs)) ∙ h)
  begun_sent w cells who i n (Read k) xs e f a h = f n e (ap (λ l. slice_get l n) (sym (nil xs)) ∙ h)
  begun_sent w cells who i n (Trim k) xs e f a h = f n e (ap (λ l. slice_get l n) (sym (nil xs)) ∙ h)

  cell_sent : (w : State) (cells who i n : ℕ) (m : CellMove) (e : Entry) → AreSent w.cells → CellAllowed w law.may cells who i m → slice_get (cell_after who (w.cells i) m).entries n ≡ Some e → IsSent e
  cell_sent w cells who i n (Begins op t) e f a h = begun_sent w cells who i n op (w.cells i).entries e (f i) a.0 h
  cell_sent w cells who i n (Carries t) e f a h = f i n e h
  cell_sent w cells who i n (Answers t x) e f a h = f i n e h
  cell_sent w cells who i n (Drops t) e f a h = f i n e h
  cell_sent w cells who i n (Misses t) e f a h = f i n e h

  step_sent : (w : State) (who : ℕ) (m : Move) → AllSent w → IsAllowed w law who m → AllSent (after w who m)
  step_sent w who (OnCell i m) f a =
      let new = cell_after who (w.cells i) m in
      make_sent (put w.cells i new) w.register w.starts w.shown
      (λ j n e h.
      put_cases (λ (c : CellState). slice_get c.entries n ≡ Some e → IsSent e) w.cells i new j
      (λ same k. cell_sent w (length law.shelf) who i n m e f.cells a k)
      (λ apart k. f.cells j n e k) h)
      f.shown
  step_sent w who (OnRegister m) f a = make_sent w.cells (register_after w.register m) _ w.shown f.cells f.shown
  step_sent w who Nothing f a = f
  step_sent w who Never f a = f

  all_sent : (w : State) (es : List Event) → AllSent w → IsLegalFrom w law es → AllSent (after_all w es)
  all_sent w [] f h = f
  all_sent w (e ∷ es) f h = all_sent (after w e.who (move e)) es (step_sent w e.who (move e) f h.0.allowed) h.1

  sent : (es : List Event) → IsLegal law es → AllSent (state_of es)
  sent es legal = all_sent start es (record { cells = λ i n x k. absurd (cc); shown = λ pos x k. absurd (cc) }) legal.steps

  -- what a log holds was somebody's to append
  pub held_sent : (es : List Event) (pos : ℕ) (e : Entry) → IsLegal law es → Holds es pos e → (who : ℕ) × law.may who e
  held_sent es pos e legal h =
      let w = state_of es in
      let f = found_in (reach w.cells) (entries w.cells) h.chain.segments pos e h.entry in
      (sent es legal).cells f.segment.id _ e f.entry

  -- and so was what it shows, or did
  pub shown_sent : (es : List Event) (pos : ℕ) (e : Entry) → IsLegal law es → (state_of es).shown pos ≡ Some e → (who : ℕ) × law.may who e
  shown_sent es pos e legal h = (sent es legal).shown pos e h

  -- what one event appended its user was allowed to
  begun_may : (w : State) (who : ℕ) (call : FabricCall) (answer : FabricAnswer) (e : Entry) → IsAllowed w law who (move_of call answer) → entry_begun call answer ≡ Some e → law.may who e
  begun_may w who (Begin i (Append x)) (Begun t) e h is = let same : x ≡ e = cc in subst (law.may who) same h.0.1
  begun_may w who call answer e h is = absurd (cc)

  appended_from : (w : State) (es : List Event) (e : Entry) → IsLegalFrom w law es → Contains (appended es) e → IsSent e
  appended_from w [] e h c = absurd (none_in e c)
  appended_from w (x ∷ xs) e h c =
      ⊎_elim
      (λ (is : entry_begun x.call x.answer ≡ Some e). (x.who, begun_may w x.who x.call x.answer e h.0.allowed is))
      (λ (later : Contains (appended xs) e). appended_from (after w x.who (move x)) xs e h.1 later)
      (first_or_later (λ (y : Event). entry_begun y.call y.answer) x xs e c)

  -- what was appended was somebody's to append
  pub appended_sent : (es : List Event) (e : Entry) → IsLegal law es → Contains (appended es) e → (who : ℕ) × law.may who e
  appended_sent es e legal c = appended_from start es e legal.steps c
