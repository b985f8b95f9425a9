-- What holds of whole journals.
use Rattle.std.proofs.Common.{◌≡◌, ◌≢◌, ◌⊎◌, inl, inr, ℕ, zero, suc, ◌+◌, ◌-◌, ◌*◌, ◌<◌, ◌≤◌, ◌^◌, List, [], ◌∷◌, ◌++◌, length, Option, Some, None, Bool, true, false, cond, refl, sym, ap, ◌∙◌, subst, ⊎_elim, arith, IsSome}
use Rattle.std.specs.Prelude.{slice_get, ◌==◌, nat_lt}
use Rattle.std.proofs.lemmas.Bool.Decides.{nat_tests}
use Rattle.delos_types.specs.declared.entry.Entry.{Entry}
use Rattle.delos_types.specs.declared.chain.Segment.{Segment}
use Rattle.legal_journal.specs.Law.{Law}
use Rattle.legal_journal.specs.declared.events.Event.{Event}
use Rattle.chain_map.specs.Chain.{last_of_segments, no_segment, first_chain}
use Rattle.legal_journal.specs.Shown.{entry_in, end_of, is_within}
use Rattle.legal_journal.specs.Moves.{move}
use Rattle.legal_journal.specs.Told.{put}
use Rattle.legal_journal.specs.Journal.{CellState, State, log_at, trim_of, tail_of, last_segment, reach, entries, ends, after, after_all, state_of, start, IsLegalFrom, IsLegal}
use Rattle.legal_journal.specs.Laws.{Goes, Continues, Stands, Clears}
use Rattle.legal_journal.proofs.Log.{Joined, HasStart, entry_in-at, within_cases, end_closed, end_open}
use Rattle.legal_journal.proofs.Cells.{CellOk, put_cases, put_same, put_other, fresh_ok}
use Rattle.legal_journal.proofs.Sound.{StateOk, Given, IsBelow, step_ok, continues_refl, log_to, log_from, reach_le_end, open_tail}

append_more : (xs ys zs : List Entry) → (xs ++ ys) ++ zs ≡ xs ++ (ys ++ zs)
append_more [] ys zs = refl
append_more (x ∷ xs) ys zs = ap (λ l. x ∷ l) (append_more xs ys zs)

pub goes_trans : (a b c : CellState) → Goes a b → Goes b c → Goes a c
goes_trans a b c f g = record {
  reach = omega (arith, f.reach, g.reach);
  firm = omega (arith, f.firm, g.firm);
  begun = omega (arith, f.begun, g.begun);
  owner = λ t h. g.owner t (omega (arith, f.begun)) ∙ f.owner t h;
  longer = (f.longer.0 ++ g.longer.0, g.longer.1 ∙ (ap (λ l. l ++ g.longer.0) f.longer.1 ∙ append_more a.entries f.longer.0 g.longer.0));
  ends = λ t h. g.ends t (f.ends t h);
  sealed = λ h. g.sealed (f.sealed h);
}

pub continues_trans : (a b c : State) → Continues a b → Continues b c → Continues a c
continues_trans a b c f g = record {
  trim = omega (arith, f.trim, g.trim);
  entries = λ pos e h up. g.entries pos e (f.entries pos e h (omega (arith, g.trim))) up;
  tail = omega (arith, f.tail, g.tail);
  shown = λ pos e h. g.shown pos e (f.shown pos e h);
  cell = λ i. goes_trans (a.cells i) (b.cells i) (c.cells i) (f.cell i) (g.cell i);
  starts = λ i s h. g.starts i s (f.starts i s h);
  version = omega (arith, f.version, g.version);
  given = λ v x h. g.given v x (f.given v x h);
  last = omega (arith, f.last, g.last);
}

first_given : Given (λ _. []) (put (λ _. None) 0 (Some 0)) first_chain first_chain
first_given = record {
  id = 0;
  from = 0;
  joined = (refl, refl, refl);
  low = omega arith;
  start = at;
  closed = λ x n h e. inl h;
  trim = omega arith;
  last = omega arith;
}
  where
    at : (i s : ℕ) → HasStart (no_segment ∷ []) i s → put (λ _. None) 0 (Some 0) i ≡ Some s
    at i s (inl x) = subst (λ k. put (λ _. None) 0 (Some 0) k ≡ Some s) x.0 (put_same (λ _. None) 0 (Some 0) ∙ ap (λ n. Some n) x.1)
    at i s (inr x) = absurd x

pub start_ok : (cells : ℕ) → 0 < cells → cells ≤ 64 → StateOk cells start
start_ok cells h most = record {
  few = most;
  cuts = λ i. inl refl;
  cell = λ i. fresh_ok;
  spare = λ i l. absurd (omega arith);
  id = 0;
  from = 0;
  joined = (refl, refl, refl);
  low = omega arith;
  asked = λ c e. absurd (cc);
  given = put_same (λ _. None) 1 (Some first_chain);
  unborn = λ v l. put_other (λ _. None) 1 (Some first_chain) v (λ e. absurd (omega arith));
  start = λ i s. put_cases (λ o. o ≡ Some s → HasStart (no_segment ∷ []) i s ⊎ IsBelow [] s 0) (λ _. None) 0 (Some 0) i (λ e k. let at : 0 ≡ s = cc in inl (inl (sym e, at))) (λ _ k. absurd (cc));
  order = λ i j s u l a. put_cases (λ o. o ≡ Some u → IsBelow [] s u) (λ _. None) 0 (Some 0) j (λ e k. absurd (omega arith)) (λ _ k. absurd (cc));
  last = put_same (λ _. None) 0 (Some 0);
  ids = λ i s. put_cases (λ o. o ≡ Some s → i ≤ 0) (λ _. None) 0 (Some 0) i (λ e k. omega arith) (λ _ k. absurd (cc));
  shelf = h;
  rooms = λ i s. put_cases (λ o. o ≡ Some s → s ≤ i * 2 ^ 32) (λ _. None) 0 (Some 0) i (λ e k. let at : 0 ≡ s = cc in omega arith) (λ _ k. absurd (cc));
  version = omega arith;
  trim = omega arith;
  olds = λ v c. put_cases (λ o. o ≡ Some c → Given (λ _. []) (put (λ _. None) 0 (Some 0)) first_chain c) (λ _. None) 1 (Some first_chain) v
      (λ _ k. let same : first_chain ≡ c = cc in subst (Given (λ _. []) (put (λ _. None) 0 (Some 0)) first_chain) same first_given)
      (λ _ k. absurd (cc));
  was_shown = λ pos e k. absurd (cc);
}

pub legal_ok : (law : Law) (w : State) (es : List Event) → StateOk (length law.shelf) w → IsLegalFrom w law es → StateOk (length law.shelf) (after_all w es) × Continues w (after_all w es)
legal_ok law w [] ok h = (ok, continues_refl w)
legal_ok law w (e ∷ es) ok h =
    let one = step_ok law w e.who (move e) ok h.0.allowed in
    let all = legal_ok law (after w e.who (move e)) es one.0 h.1 in
    (all.0, continues_trans w (after w e.who (move e)) (after_all (after w e.who (move e)) es) one.1 all.1)

pub after_all-append : (w : State) (xs ys : List Event) → after_all w (xs ++ ys) ≡ after_all (after_all w xs) ys
after_all-append w [] ys = refl
after_all-append w (x ∷ xs) ys = after_all-append (after w x.who (move x)) xs ys

pub IsLegalFrom-split : (law : Law) (w : State) (xs ys : List Event) → IsLegalFrom w law (xs ++ ys) → IsLegalFrom w law xs × IsLegalFrom (after_all w xs) law ys
IsLegalFrom-split law w [] ys h = (tt, h)
IsLegalFrom-split law w (x ∷ xs) ys h =
    let r = IsLegalFrom-split law (after w x.who (move x)) xs ys h.1 in ((h.0, r.0), r.1)

pub IsLegalFrom-join : (law : Law) (w : State) (xs ys : List Event) → IsLegalFrom w law xs → IsLegalFrom (after_all w xs) law ys → IsLegalFrom w law (xs ++ ys)
IsLegalFrom-join law w [] ys h k = k
IsLegalFrom-join law w (x ∷ xs) ys h k = (h.0, IsLegalFrom-join law (after w x.who (move x)) xs ys h.1 k)

pub sound : (law : Law) (es : List Event) → IsLegal law es → StateOk (length law.shelf) (state_of es)
sound law es h = (legal_ok law start es (start_ok (length law.shelf) h.least h.most) h.steps).0

pub legal_front : (law : Law) (xs ys : List Event) → IsLegal law (xs ++ ys) → IsLegal law xs
legal_front law xs ys h = record { least = h.least; most = h.most; steps = (IsLegalFrom-split law start xs ys h.steps).0 }

-- The log goes on from any moment of a legal journal to any later one.
pub goes_on : (law : Law) (xs ys : List Event) → IsLegal law (xs ++ ys) → Continues (state_of xs) (state_of (xs ++ ys))
goes_on law xs ys h =
    let parts = IsLegalFrom-split law start xs ys h.steps in
    let ok = sound law xs (legal_front law xs ys h) in
    subst (λ (w : State). Continues (state_of xs) w) (sym (after_all-append start xs ys)) (legal_ok law (state_of xs) ys ok parts.1).1

pub agrees : (a b : State) (pos : ℕ) (e f : Entry) → Continues a b → log_at a pos ≡ Some e → log_at b pos ≡ Some f → e ≡ f
agrees a b pos e f c h k =
    let up = (log_from (reach b.cells) (entries b.cells) b.register.chain pos f k).0 in
    let same : Some e ≡ Some f = sym (c.entries pos e h up) ∙ k in cc

pub stands_on : (a b : State) (pos : ℕ) (e : Entry) → Continues a b → Stands a pos e → Stands b pos e
stands_on a b pos e c (inl x) = inl (omega (arith, c.trim))
stands_on a b pos e c (inr x) = by_test (nat_lt pos (trim_of b)) refl
  where
    by_test : (t : Bool) → nat_lt pos (trim_of b) ≡ t → Stands b pos e
    by_test true t = inl (grind (arith, nat_tests))
    by_test false t = let up : trim_of b ≤ pos = grind (arith, nat_tests) in inr (c.entries pos e x up)

pub clears_on : (a b : State) (pos : ℕ) → Continues a b → Clears b pos → Clears a pos
clears_on a b pos c h i s k = omega (arith, h i s (c.starts i s k), (c.cell i).reach)

-- what a cell's answers reach stands in the log
pub reached_stands : (cells : ℕ) (w : State) (i s p : ℕ) (e : Entry) → StateOk cells w → w.starts i ≡ Some s → p < reach w.cells i → slice_get (entries w.cells i) p ≡ Some e → Stands w (s + p) e
reached_stands cells w i s p e ok at l is =
    ⊎_elim
    (λ (x : HasStart w.register.chain.segments i s). by_test x (nat_lt (s + p) (trim_of w)) refl)
    (λ (x : IsBelow (ends w.cells i) s (trim_of w)). let far = reach_le_end (w.cells i) x.0 (ok.cell i) x.1 in inl (omega (arith, x.2)))
    (ok.start i s at)
  where
    by_test : HasStart w.register.chain.segments i s → (t : Bool) → nat_lt (s + p) (trim_of w) ≡ t → Stands w (s + p) e
    by_test x true t = inl (grind (arith, nat_tests))
    by_test x false t =
        let up : trim_of w ≤ s + p = grind (arith, nat_tests) in
        inr (log_to (reach w.cells) (entries w.cells) w.register.chain (s + p) (Some e) up
        (entry_in-at (reach w.cells) (entries w.cells) (ends w.cells) ok.id ok.from w.register.chain.segments i s p ok.joined x (λ t h. reach_le_end (w.cells i) t (ok.cell i) h) l ∙ is))

-- a position in the last cell that isn't below its reach is above all that was answered
pub last_clears : (cells : ℕ) (w : State) (pos : ℕ) → StateOk cells w → tail_of w ≤ pos → Clears w pos
last_clears cells w pos ok h i s k = by_test (i == (last_segment w).id) refl
  where
    by_test : (t : Bool) → (i == (last_segment w).id) ≡ t → s + (w.cells i).told.reach ≤ pos
    by_test true t =
        let same : i ≡ (last_segment w).id = grind (arith, nat_tests) in
        let at : Some s ≡ Some (last_segment w).start = sym k ∙ (ap w.starts same ∙ ok.last) in
        let s_is : s ≡ (last_segment w).start = cc in
        omega (arith, open_tail cells w ok, s_is, ap (reach w.cells) same)
    by_test false t =
        let apart : i ≢ (last_segment w).id = grind (arith, nat_tests) in
        let x = ok.order i (last_segment w).id s (last_segment w).start (omega (arith, ok.ids i s k)) k ok.last in
        omega (arith, x.2, reach_le_end (w.cells i) x.0 (ok.cell i) x.1, open_tail cells w ok)

-- The log has an entry at each position from the trim up to the tail.

front : (xs : List Entry) (n : ℕ) → n < length xs → IsSome (slice_get xs n)
front [] n h = absurd (omega arith)
front (x ∷ xs) zero h = refl
front (x ∷ xs) (suc n) h = front xs n (omega arith)

some_in : (a b pos : ℕ) (x y : Option Entry) → (a ≤ pos → pos < b → IsSome x) → (b ≤ pos → IsSome y) → a ≤ pos → IsSome (cond (is_within a b pos) x y)
some_in a b pos x y f g h =
    ⊎_elim
    (λ (w : (is_within a b pos ≡ true) × ((a ≤ pos) × (pos < b))). subst (λ t. IsSome (cond t x y)) (sym w.0) (f w.1.0 w.1.1))
    (λ (w : (is_within a b pos ≡ false) × ((pos < a) ⊎ (b ≤ pos))). subst (λ t. IsSome (cond t x y)) (sym w.0) (⊎_elim (λ (l : pos < a). absurd (omega arith)) (λ (l : b ≤ pos). g l) w.1))
    (within_cases a b pos)

pub entry_in-whole : (cells : ℕ → CellState) (i a : ℕ) (ss : List Segment) (pos : ℕ) → ((k : ℕ) → CellOk (cells k)) → Joined (ends cells) i a ss → a ≤ pos → pos < end_of (reach cells) (last_of_segments ss) → IsSome (entry_in (reach cells) (entries cells) ss pos)
entry_in-whole cells i a [] pos ok j h l = absurd j
entry_in-whole cells i a (s ∷ []) pos ok j h l =
    some_in s.start (end_of (reach cells) s) pos _ None
    (λ up low. front (entries cells s.id) (pos - s.start) (omega (arith, end_open (reach cells) s j.2, (ok s.id).reach, (ok s.id).firm)))
    (λ far. absurd (omega arith)) (omega arith)
entry_in-whole cells i a (s ∷ r ∷ rs) pos ok j h l =
    let end = (ok i).ends j.2.0 j.2.2 in
    some_in s.start (end_of (reach cells) s) pos _ (entry_in (reach cells) (entries cells) (r ∷ rs) pos)
    (λ up low. front (entries cells s.id) (pos - s.start) (omega (arith, end_closed (reach cells) s _ j.2.1, end.3, (ok i).firm, ap (λ k. length (entries cells k)) j.0)))
    (λ far. entry_in-whole cells (i + 1) (a + j.2.0) (r ∷ rs) pos ok j.2.3 (omega (arith, end_closed (reach cells) s _ j.2.1)) l)
    (omega arith)

pub whole : (cells : ℕ) (w : State) (pos : ℕ) → StateOk cells w → trim_of w ≤ pos → pos < tail_of w → IsSome (log_at w pos)
whole cells w pos ok h l =
    let t : nat_lt pos (trim_of w) ≡ false = grind (arith, nat_tests) in
    subst (λ b. IsSome (cond b None (entry_in (reach w.cells) (entries w.cells) w.register.chain.segments pos))) (sym t)
    (entry_in-whole w.cells ok.id ok.from w.register.chain.segments pos ok.cell ok.joined (omega (arith, ok.low)) l)
