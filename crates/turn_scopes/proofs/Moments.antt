-- What stood in a log at an earlier moment, and who appended it.
use Rattle.std.proofs.Common.{◌≡◌, ◌⊎◌, inl, inr, ℕ, zero, suc, ◌<◌, ◌≤◌, List, [], ◌∷◌, ◌++◌, length, Some, refl, sym, ap, ◌∙◌, subst, ⊎_elim}
use Rattle.std.specs.Prelude.{slice_get}
use Rattle.delos_types.specs.declared.entry.Entry.{Entry}
use Rattle.loglet_api.specs.declared.call.Op.{Op}
use Rattle.loglet_api.specs.declared.call.Op.TheVariants.{Append, Settle, Tail, Seal, Read, Trim}
use Rattle.loglet_api.specs.Step.{entries_of}
use Rattle.legal_journal.specs.Law.{Law}
use Rattle.legal_journal.specs.declared.events.Event.{Event}
use Rattle.legal_journal.specs.Moves.{CellMove, Begins, Carries, Answers, Drops, Misses, Move, OnCell, OnRegister, Nothing, Never, move}
use Rattle.legal_journal.specs.Journal.{CellState, State, state_of, start, after, after_all, cell_after, entries, reach, tail_of, MayBegin, CellAllowed, IsAllowed, IsLegalFrom, IsLegal}
use Rattle.legal_journal.proofs.Cells.{put_cases}
use Rattle.legal_journal.proofs.Legal.{legal_front, goes_on}
use Rattle.virtual_log.specs.Holding.{Holds}
use Rattle.virtual_log.proofs.Holding.{found_in, holds_later}
use Rattle.virtual_log.proofs.Agreeing.{holds_agree}
use Rattle.base_engine.proofs.Showing.{held_below}

last_of : (xs : List Entry) (x e : Entry) (n : ℕ) → slice_get (xs ++ x ∷ []) n ≡ Some e → (slice_get xs n ≡ Some e) ⊎ (x ≡ e)
last_of [] x e zero h = inr (cc)
last_of [] x e (suc n) h = absurd (cc)
last_of (y ∷ ys) x e zero h = inl h
last_of (y ∷ ys) x e (suc n) h = last_of ys x e n h

nil : (xs : List Entry) → xs ++ [] ≡ xs
nil [] = refl
nil (x ∷ xs) = ap (λ l. x ∷ l) (nil xs)

module _ (law : Law) where
  -- whoever appended the entry was allowed to
  abbrev IsSent : Entry → Type 0
  IsSent e = (who : ℕ) × law.may who e

  -- each entry of each loglet was somebody's to append
  abbrev AllSent : State → Type 0
  AllSent w = (i n : ℕ) (e : Entry) → slice_get (w.cells i).entries n ≡ Some e → IsSent e

  begun_sent : (w : State) (cells who i n : ℕ) (op : Op) (xs : List Entry) (e : Entry) → ((k : ℕ) (x : Entry) → slice_get xs k ≡ Some x → IsSent x) → MayBegin w law.may cells who i op → slice_get (xs ++ entries_of op) n ≡ Some e → IsSent e
  begun_sent w cells who i n (Append x) xs e f a h = ⊎_elim (λ (k : slice_get xs n ≡ Some e). f n e k) (λ (k : x ≡ e). (who, subst (law.may who) k a.1)) (last_of xs x e n h)
  begun_sent w cells who i n (Settle k) xs e f a h = f n e (ap (λ l. slice_get l n) (sym (nil xs)) ∙ h)
  begun_sent w cells who i n Tail xs e f a h = f n e (ap (λ l. slice_get l n) (sym (nil xs)) ∙ h)
  begun_sent w cells who i n Seal xs e f a h = f n e (ap (λ l. slice_get l n) (sym (nil xs)) ∙ h)
  begun_sent w cells who i n (Read k) xs e f a h = f n e (ap (λ l. slice_get l n) (sym (nil xs)) ∙ h)
  begun_sent w cells who i n (Trim k) xs e f a h = f n e (ap (λ l. slice_get l n) (sym (nil xs)) ∙ h)

  cell_sent : (w : State) (cells who i n : ℕ) (m : CellMove) (e : Entry) → AllSent w → CellAllowed w law.may cells who i m → slice_get (cell_after who (w.cells i) m).entries n ≡ Some e → IsSent e
  cell_sent w cells who i n (Begins op t) e f a h = begun_sent w cells who i n op (w.cells i).entries e (f i) a.0 h
  cell_sent w cells who i n (Carries t) e f a h = f i n e h
  cell_sent w cells who i n (Answers t x) e f a h = f i n e h
  cell_sent w cells who i n (Drops t) e f a h = f i n e h
  cell_sent w cells who i n (Misses t) e f a h = f i n e h

  step_sent : (w : State) (who : ℕ) (m : Move) → AllSent w → IsAllowed w law who m → AllSent (after w who m)
  step_sent w who (OnCell i m) f a = λ j n e h.
      put_cases (λ (c : CellState). slice_get c.entries n ≡ Some e → IsSent e) w.cells i (cell_after who (w.cells i) m) j
      (λ same k. cell_sent w (length law.shelf) who i n m e f a k)
      (λ apart k. f j n e k) h
  step_sent w who (OnRegister m) f a = f
  step_sent w who Nothing f a = f
  step_sent w who Never f a = f

  all_sent : (w : State) (es : List Event) → AllSent w → IsLegalFrom w law es → AllSent (after_all w es)
  all_sent w [] f h = f
  all_sent w (e ∷ es) f h = all_sent (after w e.who (move e)) es (step_sent w e.who (move e) f h.0.allowed) h.1

  -- what a log holds was somebody's to append
  pub held_sent : (es : List Event) (pos : ℕ) (e : Entry) → IsLegal law es → Holds es pos e → (who : ℕ) × law.may who e
  held_sent es pos e legal h =
      let w = state_of es in
      let f = found_in (reach w.cells) (entries w.cells) h.chain.segments pos e h.entry in
      all_sent start es (λ i n x k. absurd (cc)) legal.steps f.segment.id _ e f.entry

module _ (law : Law) (low : (log : List Entry) (n : ℕ) → law.floor log n → n ≤ length log) where
  -- what a log holds below the tail of an earlier moment it held then
  pub held_before : (early late : List Event) (pos : ℕ) (e : Entry) → IsLegal law (early ++ late) → pos < tail_of (state_of early) → Holds (early ++ late) pos e → Holds early pos e
  held_before early late pos e legal below h =
      let front = legal_front law early late legal in
      let x = held_below law low early pos front below in
      let later = holds_later law early (early ++ late) pos x.0 front (goes_on law early late legal) x.1 in
      subst (Holds early pos) (holds_agree law (early ++ late) pos x.0 e legal later h) x.1
