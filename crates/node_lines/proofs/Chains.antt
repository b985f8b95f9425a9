-- The chain of a log at a later moment.
use Rattle.std.proofs.Common.{◌≡◌, refl, sym, ap, ◌∙◌, subst, inl, inr, ⊎_elim, ℕ, ◌+◌, ◌<◌, ◌≤◌, List, [], ◌∷◌, ◌++◌, Some, map, length, arith}
use Rattle.std.specs.Prelude.{Contains}
use Rattle.std.proofs.lemmas.Bool.{cases_lt}
use Rattle.std.proofs.lemmas.List.Elements.{Contains-append_left, Contains-append_right, Contains-append_cases, Contains-push, Contains-push_cases}
use Rattle.delos_types.specs.declared.chain.Segment.{Segment}
use Rattle.delos_types.specs.declared.chain.Chain.{Chain}
use Rattle.chain_map.specs.Chain.{first_start, first_of_segments, last_of_segments, last_id}
use Rattle.chain_map.specs.Step.{extended_segments}
use Rattle.legal_journal.specs.Law.{Law}
use Rattle.legal_journal.specs.declared.events.Event.{Event}
use Rattle.legal_journal.specs.Moves.{RegisterMove, Gives, Conflicts, Writes, Faults, Fails, Mends, Move, OnCell, OnRegister, Nothing, Never, move}
use Rattle.legal_journal.specs.Journal.{State, MayFollow, IsCurrent, RegisterAllowed, IsAllowed, register_after, after, after_all, state_of, start, ends, IsLegal, IsLegalFrom}
use Rattle.legal_journal.proofs.Log.{kept, Joined, HasStart, HasStart-kept_was, start_above, rest_of}
use Rattle.legal_journal.proofs.Sound.{StateOk, Follows, step_ok}
use Rattle.legal_journal.proofs.Legal.{sound, legal_front, goes_on, IsLegalFrom-split, after_all-append}
use Rattle.node_lines.specs.Chains.{HasStarted}

abbrev start_of : Segment → ℕ
start_of s = s.start

-- Starts

is_among : (ss : List Segment) (i pos : ℕ) → HasStart ss i pos → Contains (map start_of ss) pos
is_among [] i pos h = absurd h
is_among (s ∷ ss) i pos (inl h) = subst (Contains (map start_of (s ∷ ss))) h.1 (Contains-append_left (s.start ∷ []) (map start_of ss) s.start (Contains-push [] s.start))
is_among (s ∷ ss) i pos (inr h) = Contains-append_right (s.start ∷ []) (map start_of ss) pos (is_among ss i pos h)

among_is : (ss : List Segment) (pos : ℕ) → Contains (map start_of ss) pos → (i : ℕ) × HasStart ss i pos
among_is [] pos h = absurd (omega (arith, h.1))
among_is (s ∷ ss) pos h =
    ⊎_elim
    (λ (x : Contains (s.start ∷ []) pos). ⊎_elim (λ (y : Contains [] pos). absurd (omega (arith, y.1))) (λ (y : s.start ≡ pos). (s.id, inl (refl, y))) (Contains-push_cases [] s.start pos x))
    (λ (x : Contains (map start_of ss) pos). let r = among_is ss pos x in (r.0, inr r.1))
    (Contains-append_cases (s.start ∷ []) (map start_of ss) pos h)

first_starts : (es : ℕ → List ℕ) (i a : ℕ) (ss : List Segment) → Joined es i a ss → HasStart ss i a
first_starts es i a [] j = absurd j
first_starts es i a (s ∷ []) j = inl (j.0, j.1)
first_starts es i a (s ∷ r ∷ rs) j = inl (j.0, j.1)

first_at : (es : ℕ → List ℕ) (i a : ℕ) (ss : List Segment) → Joined es i a ss → (first_of_segments ss).start ≡ a
first_at es i a [] j = absurd j
first_at es i a (s ∷ []) j = j.1
first_at es i a (s ∷ r ∷ rs) j = j.1

-- each loglet from the first to the last has a segment
has_start : (es : ℕ → List ℕ) (i a : ℕ) (ss : List Segment) (k : ℕ) → Joined es i a ss → i ≤ k → k ≤ (last_of_segments ss).id → (b : ℕ) × HasStart ss k b
has_start es i a [] k j up low = absurd j
has_start es i a (s ∷ []) k j up low = (s.start, inl (let same : s.id ≡ k = omega (arith, up, low, j.0) in same, refl))
has_start es i a (s ∷ r ∷ rs) k j up low =
    ⊎_elim
    (λ (x : i < k). let q = has_start es (i + 1) (a + j.2.0) (r ∷ rs) k j.2.3 (omega (arith, x)) low in (q.0, inr q.1))
    (λ (x : k ≤ i). (s.start, inl (let same : s.id ≡ k = omega (arith, x, up, j.0) in same, refl)))
    (cases_lt i k)

module _ (law : Law) (w : State) (ok : StateOk (length law.shelf) w) where
  first_is : first_start w.register.chain ≡ ok.from
  first_is = first_at (ends w.cells) ok.id ok.from w.register.chain.segments ok.joined

  -- what is in the chain has started
  begun_in : (i pos : ℕ) → HasStart w.register.chain.segments i pos → w.starts i ≡ Some pos
  begun_in i pos h = (ok.olds w.register.version w.register.chain ok.given).start i pos h

  -- what has started is in the chain, or was dropped
  pub begun_stands : (i pos : ℕ) → w.starts i ≡ Some pos → HasStarted w.register.chain pos
  begun_stands i pos at =
      ⊎_elim
      (λ (x : i < ok.id).
      let below = ok.order i ok.id pos ok.from x at (begun_in ok.id ok.from (first_starts (ends w.cells) ok.id ok.from w.register.chain.segments ok.joined)) in
      ⊎_elim
      (λ (y : pos < ok.from). inr (omega (arith, y, first_is)))
      (λ (y : ok.from ≤ pos).
      let same : pos ≡ ok.from = omega (arith, y, below.2) in
      inl (subst (Contains (map start_of w.register.chain.segments)) (sym same) (is_among w.register.chain.segments ok.id ok.from (first_starts (ends w.cells) ok.id ok.from w.register.chain.segments ok.joined))))
      (cases_lt pos ok.from))
      (λ (x : ok.id ≤ i).
      let h = has_start (ends w.cells) ok.id ok.from w.register.chain.segments i ok.joined x (ok.ids i pos at) in
      let both : Some h.0 ≡ Some pos = sym (begun_in i h.0 h.1) ∙ at in
      let same : h.0 ≡ pos = cc in
      inl (subst (Contains (map start_of w.register.chain.segments)) same (is_among w.register.chain.segments i h.0 h.1)))
      (cases_lt i ok.id)

-- The first position

first_extended : (ss : List Segment) (t : ℕ) → (first_of_segments (extended_segments ss t)).start ≡ (first_of_segments ss).start
first_extended [] t = refl
first_extended (s ∷ []) t = refl
first_extended (s ∷ r ∷ rs) t = refl

first_kept : (es : ℕ → List ℕ) (n i a : ℕ) (ss : List Segment) → Joined es i a ss → (first_of_segments ss).start ≤ (first_of_segments (kept n ss)).start
first_kept es n i a ss j =
    let r = rest_of es n i a ss j in
    let up = start_above es i a ss r.id r.from j (HasStart-kept_was n ss r.id r.from (first_starts es r.id r.from (kept n ss) r.joined)) in
    omega (arith, up, first_at es i a ss j, first_at es r.id r.from (kept n ss) r.joined)

module _ (law : Law) (w : State) (ok : StateOk (length law.shelf) w) where
  by_extending : (c : Chain) (t : ℕ) → c.segments ≡ extended_segments w.register.chain.segments t → first_start w.register.chain ≤ first_start c
  by_extending c t is = omega (arith, ap (λ ss. (first_of_segments ss).start) is, first_extended w.register.chain.segments t)

  by_dropping : (c : Chain) (n : ℕ) → c.segments ≡ kept n w.register.chain.segments → first_start w.register.chain ≤ first_start c
  by_dropping c n is = omega (arith, ap (λ ss. (first_of_segments ss).start) is, first_kept (ends w.cells) n ok.id ok.from w.register.chain.segments ok.joined)

  by_following : (c : Chain) → Follows (ends w.cells) (length law.shelf) w.register.chain c → first_start w.register.chain ≤ first_start c
  by_following c (inl x) = by_extending c x.at x.segments
  by_following c (inr x) = by_dropping c c.trim x.segments

  by_writing : (c : Chain) → MayFollow w law.floor (length law.shelf) w.register.chain c → first_start w.register.chain ≤ first_start c
  by_writing c (inl x) = by_extending c x.at (ap (λ (d : Chain). d.segments) x.is)
  by_writing c (inr x) = by_dropping c x.0.trim (ap (λ (d : Chain). d.segments) x.0.is)

  by_telling : (v : ℕ) (c : Chain) → IsCurrent w.register v c → first_start w.register.chain ≤ first_start c
  by_telling v c (inl x) = omega (arith, ap first_start x.1)
  by_telling v c (inr x) = by_following c (ok.asked c x.1)

  register_first : (m : RegisterMove) → RegisterAllowed w law.floor (length law.shelf) m → first_start w.register.chain ≤ first_start (register_after w.register m).chain
  register_first (Gives v c) a = by_telling v c a.1
  register_first (Conflicts x v c) a = by_telling v c a.1
  register_first (Writes x c v) a = by_writing c a.2
  register_first (Faults x c) a = omega arith
  register_first Fails a = omega arith
  register_first (Mends b) a = omega arith

  move_first : (who : ℕ) (m : Move) → IsAllowed w law who m → first_start w.register.chain ≤ first_start (after w who m).register.chain
  move_first who (OnCell i m) a = omega arith
  move_first who (OnRegister m) a = register_first m a
  move_first who Nothing a = omega arith
  move_first who Never a = omega arith

module _ (law : Law) where
  all_first : (w : State) (es : List Event) → StateOk (length law.shelf) w → IsLegalFrom w law es → first_start w.register.chain ≤ first_start (after_all w es).register.chain
  all_first w [] ok legal = omega arith
  all_first w (e ∷ es) ok legal =
      let here = move_first law w ok e.who (move e) legal.0.allowed in
      let rest = all_first (after w e.who (move e)) es (step_ok law w e.who (move e) ok legal.0.allowed).0 legal.1 in
      omega (arith, here, rest)

  pub first_rises : (early late : List Event) → IsLegal law (early ++ late) → first_start (state_of early).register.chain ≤ first_start (state_of (early ++ late)).register.chain
  first_rises early late legal =
      let parts = IsLegalFrom-split law start early late legal.steps in
      subst (λ (w : State). first_start (state_of early).register.chain ≤ first_start w.register.chain) (sym (after_all-append start early late))
      (all_first (state_of early) late (sound law early (legal_front law early late legal)) parts.1)

  pub started_stays : (early late : List Event) (pos : ℕ) → IsLegal law (early ++ late) → HasStarted (state_of early).register.chain pos → HasStarted (state_of (early ++ late)).register.chain pos
  started_stays early late pos legal (inl h) =
      let x = among_is (state_of early).register.chain.segments pos h in
      let was = begun_in law (state_of early) (sound law early (legal_front law early late legal)) x.0 pos x.1 in
      begun_stands law (state_of (early ++ late)) (sound law (early ++ late) legal) x.0 pos ((goes_on law early late legal).starts x.0 pos was)
  started_stays early late pos legal (inr h) = inr (omega (arith, h, first_rises early late legal))

  pub last_within : (seen : List Event) → IsLegal law seen → last_id (state_of seen).register.chain + 1 ≤ length law.shelf
  last_within seen legal = omega (arith, (sound law seen legal).shelf)
