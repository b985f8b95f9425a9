-- Two chains that were given have the same entry at a position.
use Rattle.std.proofs.Common.{◌≡◌, ◌⊎◌, inl, inr, ℕ, ◌+◌, ◌-◌, ◌<◌, ◌≤◌, List, [], ◌∷◌, length, Some, None, Bool, true, false, refl, sym, ap, ◌∙◌, ⊎_elim, arith}
use Rattle.std.specs.Prelude.{slice_get, nat_lt, ◌==◌, Contains}
use Rattle.std.proofs.lemmas.Bool.Decides.{nat_tests}
use Rattle.delos_types.specs.declared.entry.Entry.{Entry}
use Rattle.delos_types.specs.declared.chain.Segment.{Segment}
use Rattle.delos_types.specs.declared.chain.Chain.{Chain}
use Rattle.chain_map.specs.Chain.{last_of_segments}
use Rattle.legal_journal.specs.Law.{Law}
use Rattle.legal_journal.specs.declared.events.Event.{Event}
use Rattle.legal_journal.specs.Shown.{end_of}
use Rattle.legal_journal.specs.Journal.{State, state_of, IsLegal, entries, reach, ends}
use Rattle.legal_journal.proofs.Log.{Joined, IsIn, HasStart, HasStart-in, closed_or_last, last_open, end_closed, end_open}
use Rattle.legal_journal.proofs.Sound.{StateOk, reach_le_end}
use Rattle.legal_journal.proofs.Legal.{sound}
use Rattle.virtual_log.specs.Holding.{Holds}
use Rattle.virtual_log.proofs.Holding.{Found, found_in}

head_is : (es : ℕ → List ℕ) (i a : ℕ) (s : Segment) (ss : List Segment) → Joined es i a (s ∷ ss) → (s.id ≡ i) × (s.start ≡ a)
head_is es i a s [] j = (j.0, j.1)
head_is es i a s (r ∷ rs) j = (j.0, j.1)

-- behind a closed segment the next loglet starts
follower : (es : ℕ → List ℕ) (i a : ℕ) (ss : List Segment) (x : Segment) (n : ℕ) → Joined es i a ss → IsIn x ss → x.end ≡ Some n → HasStart ss (x.id + 1) n
follower es i a [] x n j h e = absurd j
follower es i a (s ∷ []) x n j (inl h) e = let no : None ≡ Some n = sym j.2 ∙ (ap (λ (y : Segment). y.end) (sym h) ∙ e) in absurd (cc)
follower es i a (s ∷ []) x n j (inr h) e = absurd h
follower es i a (s ∷ r ∷ rs) x n j (inl h) e =
    let first = head_is es (i + 1) (a + j.2.0) r rs j.2.3 in
    let both : Some (a + j.2.0) ≡ Some n = sym j.2.1 ∙ (ap (λ (y : Segment). y.end) (sym h) ∙ e) in
    let at : a + j.2.0 ≡ n = cc in
    let id_is : x.id ≡ s.id = ap (λ (y : Segment). y.id) h in
    inr (inl (omega (arith, first.0, j.0, id_is), first.1 ∙ at))
follower es i a (s ∷ r ∷ rs) x n j (inr h) e = inr (follower es (i + 1) (a + j.2.0) (r ∷ rs) x n j.2.3 h e)

-- a segment of a chain that was given ends where a later loglet starts, or before
ends_before : (cells : ℕ) (w : State) (v j u : ℕ) (c : Chain) (x : Segment) → StateOk cells w → w.register.given v ≡ Some c → IsIn x c.segments → x.id < j → w.starts j ≡ Some u → end_of (reach w.cells) x ≤ u
ends_before cells w v j u c x ok was inside low at =
    let given = ok.olds v c was in
    ⊎_elim
    (λ (y : x ≡ last_of_segments c.segments).
    let is_open = ap (λ (s : Segment). s.end) y ∙ last_open (ends w.cells) given.id given.from c.segments given.joined in
    let below = ok.order x.id j x.start u low (given.start x.id x.start (HasStart-in x c.segments inside)) at in
    let far = reach_le_end (w.cells x.id) below.0 (ok.cell x.id) below.1 in
    omega (arith, far, below.2, end_open (reach w.cells) x is_open))
    (λ (y : (t : ℕ) × (x.end ≡ Some (x.start + t)) × Contains (ends w.cells x.id) t).
    let n = x.start + y.0 in
    let next : w.starts (x.id + 1) ≡ Some n = given.start (x.id + 1) n (follower (ends w.cells) given.id given.from c.segments x n given.joined inside y.1) in
    let is = end_closed (reach w.cells) x n y.1 in
    by_test n next is (j == x.id + 1) refl)
    (closed_or_last (ends w.cells) given.id given.from c.segments x given.joined inside)
  where
    by_test : (n : ℕ) → w.starts (x.id + 1) ≡ Some n → end_of (reach w.cells) x ≡ n → (b : Bool) → (j == x.id + 1) ≡ b → end_of (reach w.cells) x ≤ u
    by_test n next is true b =
        let same : j ≡ x.id + 1 = grind (arith, nat_tests) in
        let both : Some n ≡ Some u = sym next ∙ (ap w.starts (sym same) ∙ at) in
        let here : n ≡ u = cc in omega (arith, is, here)
    by_test n next is false b =
        let above : x.id + 1 < j = grind (arith, nat_tests) in
        let below = ok.order (x.id + 1) j n u above next at in
        omega (arith, is, below.2)

-- what is held at a position is one entry
pub holds_agree : (law : Law) (es : List Event) (pos : ℕ) (e f : Entry) → IsLegal law es → Holds es pos e → Holds es pos f → e ≡ f
holds_agree law es pos e f legal h k = first (nat_lt x.segment.id y.segment.id) refl
  where
    w : State
    w = state_of es

    ok : StateOk (length law.shelf) w
    ok = sound law es legal

    x : Found (reach w.cells) (entries w.cells) h.chain.segments pos e
    x = found_in (reach w.cells) (entries w.cells) h.chain.segments pos e h.entry

    y : Found (reach w.cells) (entries w.cells) k.chain.segments pos f
    y = found_in (reach w.cells) (entries w.cells) k.chain.segments pos f k.entry

    x_at : w.starts x.segment.id ≡ Some x.segment.start
    x_at = (ok.olds h.version h.chain h.given).start x.segment.id x.segment.start (HasStart-in x.segment h.chain.segments x.inside)

    y_at : w.starts y.segment.id ≡ Some y.segment.start
    y_at = (ok.olds k.version k.chain k.given).start y.segment.id y.segment.start (HasStart-in y.segment k.chain.segments y.inside)

    same : x.segment.id ≡ y.segment.id → e ≡ f
    same id_is =
        let both : Some x.segment.start ≡ Some y.segment.start = sym x_at ∙ (ap w.starts id_is ∙ y_at) in
        let start_is : x.segment.start ≡ y.segment.start = cc in
        let one : Some e ≡ Some f = sym x.entry ∙ (ap (λ i. slice_get (entries w.cells i) (pos - x.segment.start)) id_is ∙ (ap (λ s. slice_get (entries w.cells y.segment.id) (pos - s)) start_is ∙ y.entry)) in cc

    second : (b : Bool) → nat_lt y.segment.id x.segment.id ≡ b → y.segment.id ≤ x.segment.id → x.segment.id ≤ y.segment.id ⊎ (y.segment.id < x.segment.id)
    second true b low = inr (grind (arith, nat_tests))
    second false b low = inl (grind (arith, nat_tests))

    first : (b : Bool) → nat_lt x.segment.id y.segment.id ≡ b → e ≡ f
    first true b =
        let low : x.segment.id < y.segment.id = grind (arith, nat_tests) in
        absurd (omega (arith, x.below, y.above, ends_before (length law.shelf) w h.version y.segment.id y.segment.start h.chain x.segment ok h.given x.inside low y_at))
    first false b =
        let low : y.segment.id ≤ x.segment.id = grind (arith, nat_tests) in
        ⊎_elim
        (λ (z : x.segment.id ≤ y.segment.id). same (omega (arith, z, low)))
        (λ (z : y.segment.id < x.segment.id). absurd (omega (arith, y.below, x.above, ends_before (length law.shelf) w k.version x.segment.id x.segment.start k.chain y.segment ok k.given y.inside z x_at)))
        (second (nat_lt y.segment.id x.segment.id) refl low)
