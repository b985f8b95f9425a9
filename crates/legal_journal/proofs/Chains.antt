-- Joined segments are a chain.
use Rattle.std.proofs.Common.{◌≡◌, inl, inr, ℕ, zero, suc, ◌+◌, ◌<◌, ◌≤◌, Bool, true, false, ◌&&◌, List, [], ◌∷◌, Some, None, sym, ap, ◌∙◌, ⊎_elim, arith}
use Rattle.std.specs.Prelude.{slice_get, Contains, nat_lt, nat_le, is_none, ◌==◌}
use Rattle.std.specs.Option.{option_map_or}
use Rattle.std.proofs.lemmas.Bool.Decides.{nat_tests}
use Rattle.delos_types.specs.declared.chain.Segment.{Segment}
use Rattle.delos_types.specs.declared.chain.Chain.{Chain}
use Rattle.chain_map.specs.Chain.{last_of_segments, first_of_segments, first_start, goes_on, is_linked, is_chain}
use Rattle.legal_journal.specs.Journal.{State, ends}
use Rattle.legal_journal.specs.Laws.{IsClosedAtTails}
use Rattle.legal_journal.proofs.Log.{Joined, IsIn, closed_or_last, last_open}
use Rattle.legal_journal.proofs.Sound.{StateOk}

both : (a b : Bool) → a ≡ true → b ≡ true → (a && b) ≡ true
both a b h k = ap (λ x. x && b) h ∙ k

-- the first segment has this id and start
head_is : (es : ℕ → List ℕ) (i a : ℕ) (s : Segment) (ss : List Segment) → Joined es i a (s ∷ ss) → (s.id ≡ i) × (s.start ≡ a)
head_is es i a s [] j = (j.0, j.1)
head_is es i a s (r ∷ rs) j = (j.0, j.1)

pub linked : (es : ℕ → List ℕ) (i a : ℕ) (ss : List Segment) → Joined es i a ss → (last_of_segments ss).id < 64 → is_linked ss ≡ true
linked es i a [] j h = absurd j
linked es i a (s ∷ []) j h =
    let low : nat_lt s.id 64 ≡ true = grind (arith, nat_tests) in
    both (nat_lt s.id 64) (is_none s.end) low (ap is_none j.2)
linked es i a (s ∷ r ∷ rs) j h =
    let next = head_is es (i + 1) (a + j.2.0) r rs j.2.3 in
    let rises : s.id < r.id = omega (arith, j.0, next.0) in
    let up : s.start ≤ a + j.2.0 = omega (arith, j.1) in
    let at : a + j.2.0 ≡ r.start = sym next.1 in
    let id_test : nat_lt s.id r.id ≡ true = grind (arith, nat_tests) in
    let up_test : nat_le s.start (a + j.2.0) ≡ true = grind (arith, nat_tests) in
    let at_test : ((a + j.2.0) == r.start) ≡ true = grind (arith, nat_tests) in
    let end_test : option_map_or (λ end. nat_le s.start end && (end == r.start)) s.end false ≡ true =
    ap (λ o. option_map_or (λ end. nat_le s.start end && (end == r.start)) o false) j.2.1 ∙ both _ _ up_test at_test in
    both (goes_on s r) (is_linked (r ∷ rs)) (both _ _ id_test end_test) (linked es (i + 1) (a + j.2.0) (r ∷ rs) j.2.3 h)

first_at : (es : ℕ → List ℕ) (i a : ℕ) (ss : List Segment) → Joined es i a ss → (first_of_segments ss).start ≡ a
first_at es i a [] j = absurd j
first_at es i a (s ∷ []) j = j.1
first_at es i a (s ∷ r ∷ rs) j = j.1

pub chain_ok : (cells : ℕ) (w : State) (v : ℕ) (c : Chain) → StateOk cells w → w.register.given v ≡ Some c → is_chain c ≡ true
chain_ok cells w v c ok given =
    let g = ok.olds v c given in
    let first = first_at (ends w.cells) g.id g.from c.segments g.joined in
    let low : first_start c ≤ c.trim = omega (arith, first, g.low) in
    let test : nat_le (first_start c) c.trim ≡ true = grind (arith, nat_tests) in
    both (is_linked c.segments) _ (linked (ends w.cells) g.id g.from c.segments g.joined (omega (arith, g.last, ok.shelf, ok.few))) test

pub is_in_at : (ss : List Segment) (k : ℕ) (x : Segment) → slice_get ss k ≡ Some x → IsIn x ss
is_in_at [] k x h = absurd (cc)
is_in_at (s ∷ ss) zero x h = let same : x ≡ s = cc in inl same
is_in_at (s ∷ ss) (suc k) x h = inr (is_in_at ss k x h)

pub closed_at : (cells : ℕ) (w : State) (v : ℕ) (c : Chain) → StateOk cells w → w.register.given v ≡ Some c → IsClosedAtTails w c
closed_at cells w v c ok given k end s at is =
    let g = ok.olds v c given in
    ⊎_elim
    (λ (x : s ≡ last_of_segments c.segments).
    let no : Some end ≡ None = sym is ∙ (ap (λ (y : Segment). y.end) x ∙ last_open (ends w.cells) g.id g.from c.segments g.joined) in absurd (cc))
    (λ (x : (t : ℕ) × (s.end ≡ Some (s.start + t)) × Contains (ends w.cells s.id) t).
    let both_are : Some end ≡ Some (s.start + x.0) = sym is ∙ x.1 in
    let same : end ≡ s.start + x.0 = cc in
    (x.0, same, x.2))
    (closed_or_last (ends w.cells) g.id g.from c.segments s g.joined (is_in_at c.segments k s at))
