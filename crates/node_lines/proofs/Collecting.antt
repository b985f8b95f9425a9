-- What a node tells of a session's commands that have acted.
use Rattle.std.proofs.Common.{◌≡◌, refl, sym, ap, ◌∙◌, subst, ◌⊎◌, inl, inr, ⊎_elim, ℕ, zero, suc, ◌+◌, ◌<◌, ◌≤◌, Bool, true, false, cond, List, [], ◌∷◌, ◌++◌, Option, Some, None, is_some, length, arith}
use Rattle.std.specs.Prelude.{◌==◌, ◌&&◌, nat_lt, nat_le, slice_get, find}
use Rattle.std.specs.List.{list_any}
use Rattle.std.specs.Option.{option_map}
use Rattle.std.specs.FinMap as finmap
use Rattle.std.proofs.lemmas.Bool.Decides.{nat_tests}
use Rattle.delos_types.specs.Spaces.{SpaceMap}
use Rattle.delos_types.specs.declared.entry.Entry.{Entry}
use Rattle.legal_journal.specs.Law.{Law}
use Rattle.legal_journal.specs.declared.events.Event.{Event}
use Rattle.legal_journal.specs.Journal.{IsLegal}
use Rattle.virtual_log.specs.Holding.{Holds}
use Rattle.virtual_log.proofs.Agreeing.{holds_agree}
use Rattle.engine_api.specs.declared.act.Act.{Act}
use Rattle.engine_api.specs.Acted.{asked_in}
use Rattle.engine_api.specs.Order.{gap_from}
use Rattle.engine_steps.specs.declared.layout.Kept.{Kept}
use Rattle.engine_steps.specs.Layout.{reply_of}
use Rattle.engine_steps.specs.Replies.{reply_text}
use Rattle.log_laws.specs.State.{acts_in, kept_reply, IsStateOf}
use Rattle.log_laws.proofs.Replies.{InTurn, log_turn}
use Rattle.base_engine.specs.Reading.{IsFront}
use Rattle.node_lines.specs.Answered.{ActedSo, AreAnswers, AreAllAnswers, InFront}

-- Two lists of one length that agree wherever both have an element are one.
lists_agree : (a b : List Entry) → length a ≡ length b → ((p : ℕ) (x y : Entry) → slice_get a p ≡ Some x → slice_get b p ≡ Some y → x ≡ y) → a ≡ b
lists_agree [] [] h f = refl
lists_agree [] (y ∷ ys) h f = absurd (omega (arith, h))
lists_agree (x ∷ xs) [] h f = absurd (omega (arith, h))
lists_agree (x ∷ xs) (y ∷ ys) h f = ap (λ z. z ∷ xs) (f 0 x y refl refl) ∙ ap (λ l. y ∷ l) (lists_agree xs ys (omega (arith, h)) (λ p u v i j. f (suc p) u v i j))

-- what holds of one front of the log holds of each of its length
pub in_front : (law : Law) (seen : List Event) (cursor : ℕ) (P : List Entry → Type 0) (log : List Entry)
    → IsLegal law seen → length log ≡ cursor → IsFront Holds seen log → P log → InFront seen cursor P
in_front law seen cursor P log legal size front h = λ other is at.
    subst P (lists_agree log other (size ∙ sym is) (λ p x y i j. holds_agree law seen p x y legal (front p x i) (at p y j))) h

-- One more answer

at_end : (xs : List Kept) (x k : Kept) (i : ℕ) → slice_get (xs ++ x ∷ []) i ≡ Some k → (slice_get xs i ≡ Some k) ⊎ ((i ≡ length xs) × (x ≡ k))
at_end [] x k zero h = inr (refl, cc)
at_end [] x k (suc i) h = absurd (cc)
at_end (y ∷ ys) x k zero h = inl h
at_end (y ∷ ys) x k (suc i) h = ⊎_elim (λ (l : slice_get ys i ≡ Some k). inl l) (λ (l : (i ≡ length ys) × (x ≡ k)). inr (ap suc l.0, l.1)) (at_end ys x k i h)

pub length-snoc : (xs : List Kept) (x : Kept) → length (xs ++ x ∷ []) ≡ length xs + 1
length-snoc [] x = refl
length-snoc (y ∷ ys) x = ap suc (length-snoc ys x) ∙ (let e : suc (length ys + 1) ≡ length (y ∷ ys) + 1 = omega arith in e)

abbrev of_rank : ℕ → ℕ → Act → Bool
of_rank s r a = (a.session == s) && (a.rank == r)

turns : (log : List Entry) → InTurn (acts_in log) (λ s. gap_from (asked_in 0 log) s 1)
turns log = log_turn finmap.empty (asked_in 0 log)

-- a kept reply is that of an act, which is found
kept_found : (acts : List Act) (s r : ℕ) (k : Kept) → kept_reply acts s r ≡ Some k → (a : Act) × (find (of_rank s r) acts ≡ Some a) × (k ≡ record { place = a.place; reply = reply_text a.reply })
kept_found acts s r k h = by_above (list_any (λ (a : Act). (a.session == s) && nat_le (r + 64) a.rank) acts) (find (of_rank s r) acts) refl h
  where
    by_above : (b : Bool) (o : Option Act) → find (of_rank s r) acts ≡ o → option_map (λ (a : Act). record { place = a.place; reply = reply_text a.reply }) (cond b None o) ≡ Some k → (a : Act) × (find (of_rank s r) acts ≡ Some a) × (k ≡ record { place = a.place; reply = reply_text a.reply })
    by_above true o e h = absurd (cc)
    by_above false None e h = absurd (cc)
    by_above false (Some a) e h = (a, e, let same : k ≡ record { place = a.place; reply = reply_text a.reply } = cc in same)

-- none is kept: none has acted, or one 64 or more above it
none_kept : (acts : List Act) (s r : ℕ) → kept_reply acts s r ≡ None → (is_some (find (of_rank s r) acts) ≡ false) ⊎ (list_any (λ (a : Act). (a.session == s) && nat_le (r + 64) a.rank) acts ≡ true)
none_kept acts s r h = by_above (list_any (λ (a : Act). (a.session == s) && nat_le (r + 64) a.rank) acts) refl (find (of_rank s r) acts) refl h
  where
    by_above : (b : Bool) → list_any (λ (a : Act). (a.session == s) && nat_le (r + 64) a.rank) acts ≡ b → (o : Option Act) → find (of_rank s r) acts ≡ o
        → option_map {U = Kept} (λ (a : Act). record { place = a.place; reply = reply_text a.reply }) (cond b None o) ≡ None → (is_some (find (of_rank s r) acts) ≡ false) ⊎ (list_any (λ (a : Act). (a.session == s) && nat_le (r + 64) a.rank) acts ≡ true)
    by_above true t o e h = inr t
    by_above false t None e h = inl (ap is_some e)
    by_above false t (Some a) e h = absurd (cc)

module _ (log : List Entry) (m : SpaceMap) (s : ℕ) (answers : List Kept) (state : IsStateOf log m) (low : s ≤ 63) (is : AreAnswers log s answers) where
  pub one_more : (k : Kept) → reply_of m s (length answers + 1) ≡ Some k → AreAnswers log s (answers ++ k ∷ [])
  one_more k h =
      let found = kept_found (acts_in log) s (length answers + 1) k (sym (state.replies.at s (length answers + 1) low (omega arith)) ∙ h) in
      let acted : nat_lt (length answers + 1) (gap_from (asked_in 0 log) s 1) ≡ true = sym ((turns log).acted s (length answers + 1) (omega arith)) ∙ ap is_some found.1 in
      record {
        each = λ i x at. ⊎_elim
            (λ (l : slice_get answers i ≡ Some x). is.each i x l)
            (λ (l : (i ≡ length answers) × (k ≡ x)). subst (λ (y : Kept). ActedSo log s (i + 1) y) l.1 (subst (λ n. ActedSo log s (n + 1) k) (sym l.0) (record { act = found.0; found = found.1; is = found.2 })))
            (at_end answers k x i at);
        below = let b : length answers + 1 < gap_from (asked_in 0 log) s 1 = grind (arith, nat_tests) in omega (arith, b, length-snoc answers k);
      }

  -- where none is told, there is no more: none is so far above that it could hide one
  pub no_more : (sent : ℕ) → reply_of m s (length answers + 1) ≡ None → gap_from (asked_in 0 log) s 1 ≤ sent + 1 → sent ≤ length answers + 64 → AreAllAnswers log s answers
  no_more sent h bound near = record {
    each = is.each;
    all = ⊎_elim
        (λ (l : is_some (find (of_rank s (length answers + 1)) (acts_in log)) ≡ false).
        let t : nat_lt (length answers + 1) (gap_from (asked_in 0 log) s 1) ≡ false = sym ((turns log).acted s (length answers + 1) (omega arith)) ∙ l in
        let high : gap_from (asked_in 0 log) s 1 ≤ length answers + 1 = grind (arith, nat_tests) in
        omega (arith, high, is.below))
        (λ (l : list_any (λ (a : Act). (a.session == s) && nat_le (length answers + 1 + 64) a.rank) (acts_in log) ≡ true).
        let t : nat_lt (length answers + 1 + 64) (gap_from (asked_in 0 log) s 1) ≡ true = sym ((turns log).above s (length answers + 1 + 64) (omega arith)) ∙ l in
        let far : length answers + 1 + 64 < gap_from (asked_in 0 log) s 1 = grind (arith, nat_tests) in
        absurd (omega (arith, far, bound, near)))
        (none_kept (acts_in log) s (length answers + 1) (sym (state.replies.at s (length answers + 1) low (omega arith)) ∙ h));
  }
