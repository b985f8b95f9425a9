-- What entries say, and which first entries of the log are clean.
use Rattle.std.proofs.Common.{◌≡◌, refl, sym, ap, ◌∙◌, subst, ⊎_elim, ◌⊎◌, inl, inr, ℕ, zero, suc, ◌+◌, ◌≤◌, ◌<◌, cond, Bool, true, false, List, [], ◌∷◌, ◌++◌, length, get_or, take, drop, Some, arith, append-nil}
use Rattle.std.specs.Prelude.{max, filter, slice_get, Contains}
use Rattle.std.proofs.lemmas.Bool.{cases_lt}
use Rattle.std.proofs.lemmas.List.{take-append-le}
use Rattle.std.proofs.lemmas.List.Elements.{All-from_recursion, Contains-push_cases}
use Rattle.delos_types.specs.declared.entry.Entry.{Entry}
use Rattle.legal_journal.specs.Law.{Law}
use Rattle.legal_journal.specs.declared.events.Event.{Event}
use Rattle.legal_journal.specs.Journal.{IsLegal, state_of, tail_of}
use Rattle.journal_laws.specs.Changes.{appended}
use Rattle.journal_laws.proofs.Changes.{held_appended}
use Rattle.virtual_log.specs.Holding.{Holds}
use Rattle.virtual_log.proofs.Agreeing.{holds_agree}
use Rattle.virtual_log.proofs.Holding.{holds_stands}
use Rattle.engine_api.specs.declared.content.Content.{Content}
use Rattle.engine_api.specs.declared.content.Placed.{Placed}
use Rattle.engine_api.specs.Items.{placed_from, unpack}
use Rattle.engine_api.specs.Members.{greatest, clean_at, clean_position}
use Rattle.engine_api.specs.Order.{numbers}
use Rattle.base_engine.specs.Reading.{IsFront}
use Rattle.turn_scopes.proofs.Bounds.{stands_below}
use Rattle.node_lines.specs.Measuring.{IsCleanPoint}
use Rattle.node_lines.proofs.Fronts.{splits}
use Rattle.node_lines.specs.Workers.{IsCommand, IsOfSessions}

-- What an entry says

-- what an entry of sessions says is a command
pub says_command : (e : Entry) (p : Placed) → IsOfSessions e → Contains (unpack 0 e) p → IsCommand p.content
says_command e p h c = subst (λ (q : Placed). IsCommand q.content) c.2 (All-from_recursion (λ (q : Placed). IsCommand q.content) (unpack 0 e) h c.0 p c.1)

-- what an entry says alone is all that it says
pub says_that : (e : Entry) (c : Content) (p : Placed) → unpack 0 e ≡ placed_from 0 0 (c ∷ []) → Contains (unpack 0 e) p → p.content ≡ c
says_that e c p is h =
    let it : Placed = record { place = record { pos = 0; sub = 0 }; content = c } in
    ⊎_elim
    (λ (none : Contains [] p). absurd (omega (arith, none.1)))
    (λ (same : it ≡ p). ap (λ (q : Placed). q.content) (sym same))
    (Contains-push_cases [] it p (subst (λ ps. Contains ps p) is h))

-- an entry of a log stands at some index of it
pub at_index : (log : List Entry) (k : ℕ) (e : Entry) → k < length log → get_or log k e ≡ e → slice_get log k ≡ Some e
at_index [] k e low same = absurd (omega (arith, low))
at_index (x ∷ xs) zero e low same = ap (λ y. Some y) same
at_index (x ∷ xs) (suc k) e low same = at_index xs k e (omega (arith, low)) same

-- Fronts of the log

module _ (law : Law) where
  -- what stands in a front was appended
  pub front_appended : (seen : List Event) (log : List Entry) → IsLegal law seen → IsFront Holds seen log → (e : Entry) → Contains log e → Contains (appended seen) e
  front_appended seen log legal front e h = held_appended law seen h.0 e legal (front h.0 e (at_index log h.0 e h.1 h.2))

  -- Two fronts of one log

  module _ (seen : List Event) (a b : List Entry) (legal : IsLegal law seen) (one : IsFront Holds seen a) (other : IsFront Holds seen b) where
    pub begins_with : length a ≤ length b → a ++ drop (length a) b ≡ b
    begins_with longer = splits a b longer (λ p x y i j. holds_agree law seen p x y legal (one p x i) (other p y j))

    pub same_front : length a ≡ length b → a ≡ b
    same_front size =
        sym (append-nil a) ∙ (ap (λ l. a ++ l) (sym (dropped b)) ∙ (ap (λ n. a ++ drop n b) (sym size) ∙ begins_with (omega (arith, size))))
      where
        dropped : (xs : List Entry) → drop (length xs) xs ≡ []
        dropped [] = refl
        dropped (x ∷ xs) = dropped xs

  pub same_beginning : (seen : List Event) (a b : List Entry) (n : ℕ) → IsLegal law seen → IsFront Holds seen a → IsFront Holds seen b → n ≤ length a → n ≤ length b → take n a ≡ take n b
  same_beginning seen a b n legal one other within also =
      ⊎_elim
      (λ (h : length a < length b). sym (take-append-le n a (drop (length a) b) within) ∙ ap (take n) (begins_with seen a b legal one other (omega (arith, h))))
      (λ (h : length b ≤ length a). sym (sym (take-append-le n b (drop (length b) a) also) ∙ ap (take n) (begins_with seen b a legal other one h)))
      (cases_lt (length a) (length b))

  module _ (low : (log : List Entry) (n : ℕ) → law.floor log n → n ≤ length log) where
    -- each entry of a front stands in the log, below its tail
    pub front_within : (seen : List Event) (log : List Entry) → IsLegal law seen → IsFront Holds seen log → length log ≤ tail_of (state_of seen)
    front_within seen log legal front = by (cases_lt (tail_of (state_of seen)) (length log))
      where
        some_at : (xs : List Entry) (n : ℕ) → n < length xs → (e : Entry) × (slice_get xs n ≡ Some e)
        some_at [] n h = absurd (omega (arith, h))
        some_at (x ∷ xs) zero h = (x, refl)
        some_at (x ∷ xs) (suc n) h = some_at xs n (omega (arith, h))

        by : (tail_of (state_of seen) < length log) ⊎ (length log ≤ tail_of (state_of seen)) → length log ≤ tail_of (state_of seen)
        by (inr h) = h
        by (inl h) =
            let t = tail_of (state_of seen) in
            let x = some_at log t h in
            absurd (omega (arith, stands_below law low seen t x.0 legal (holds_stands law seen t x.0 legal (front t x.0 x.1))))

-- Nothing is clean at once.
pub clean_none : (seen : List Event) → IsCleanPoint seen 0
clean_none seen = record { log = []; front = λ pos e at. absurd (cc); within = omega arith; clean = refl }

-- The greatest of the numbers that pass is none, or passes.
greatest_passes : (p : ℕ → Bool) (a n : ℕ) → (greatest (filter p (numbers a n)) ≡ 0) ⊎ ((p (greatest (filter p (numbers a n))) ≡ true) × (greatest (filter p (numbers a n)) < a + n))
greatest_passes p a zero = inl refl
greatest_passes p a (suc n) = by (p a) refl (greatest_passes p (a + 1) n)
  where
    by : (b : Bool) → p a ≡ b → (greatest (filter p (numbers (a + 1) n)) ≡ 0) ⊎ ((p (greatest (filter p (numbers (a + 1) n))) ≡ true) × (greatest (filter p (numbers (a + 1) n)) < a + 1 + n))
        → (greatest (cond b (a ∷ filter p (numbers (a + 1) n)) (filter p (numbers (a + 1) n))) ≡ 0)
        ⊎ ((p (greatest (cond b (a ∷ filter p (numbers (a + 1) n)) (filter p (numbers (a + 1) n)))) ≡ true) × (greatest (cond b (a ∷ filter p (numbers (a + 1) n)) (filter p (numbers (a + 1) n))) < a + suc n))
    by false e (inl z) = inl z
    by false e (inr h) = inr (h.0, omega (arith, h.1))
    by true e (inl z) = let same : a ≡ max a (greatest (filter p (numbers (a + 1) n))) = omega (arith, z) in inr (subst (λ k. p k ≡ true) same e, omega (arith, z))
    by true e (inr h) = ⊎_elim
        (λ (k : a < greatest (filter p (numbers (a + 1) n))). let same : greatest (filter p (numbers (a + 1) n)) ≡ max a (greatest (filter p (numbers (a + 1) n))) = omega (arith, k) in inr (subst (λ k. p k ≡ true) same h.0, omega (arith, h.1)))
        (λ (k : greatest (filter p (numbers (a + 1) n)) ≤ a). let same : a ≡ max a (greatest (filter p (numbers (a + 1) n))) = omega (arith, k) in inr (subst (λ k. p k ≡ true) same e, omega (arith, k)))
        (cases_lt a (greatest (filter p (numbers (a + 1) n))))

-- so many of its first entries are clean
pub position_clean : (log : List Entry) → clean_at log (clean_position log) ≡ true
position_clean log =
    ⊎_elim
    (λ (z : clean_position log ≡ 0). subst (λ n. clean_at log n ≡ true) (sym z) (none log))
    (λ (h : (clean_at log (clean_position log) ≡ true) × (clean_position log < 0 + (length log + 1))). h.0)
    (greatest_passes (clean_at log) 0 (length log + 1))
  where
    none : (l : List Entry) → clean_at l 0 ≡ true
    none [] = refl
    none (e ∷ es) = refl

pub position_low : (log : List Entry) → clean_position log ≤ length log
position_low log =
    ⊎_elim
    (λ (z : clean_position log ≡ 0). omega (arith, z))
    (λ (h : (clean_at log (clean_position log) ≡ true) × (clean_position log < 0 + (length log + 1))). omega (arith, h.1))
    (greatest_passes (clean_at log) 0 (length log + 1))
