-- What a log shows, and what was trimmed, lies below its tail.
use Rattle.std.proofs.Common.{◌≡◌, inl, inr, ℕ, zero, suc, ◌+◌, ◌<◌, ◌≤◌, List, [], ◌∷◌, length, Some, refl, ap, ◌∙◌, subst, ⊎_elim, arith}
use Rattle.std.specs.Prelude.{slice_get}
use Rattle.delos_types.specs.declared.entry.Entry.{Entry}
use Rattle.delos_types.specs.declared.chain.Segment.{Segment}
use Rattle.delos_types.specs.declared.chain.Chain.{Chain}
use Rattle.chain_map.specs.Chain.{last_of_segments}
use Rattle.legal_journal.specs.Law.{Law}
use Rattle.legal_journal.specs.declared.events.Event.{Event}
use Rattle.legal_journal.specs.Moves.{Move, RegisterMove, OnCell, OnRegister, Nothing, Never, Gives, Conflicts, Writes, Faults, Fails, Mends, move}
use Rattle.legal_journal.specs.Shown.{end_of}
use Rattle.legal_journal.specs.Journal.{State, state_of, start, after, after_all, register_after, entries, reach, ends, log_at, trim_of, tail_of, IsCurrent, MayFollow, IsAllowed, RegisterAllowed, IsLegalFrom, IsLegal}
use Rattle.legal_journal.specs.Laws.{Stands}
use Rattle.legal_journal.proofs.Log.{Joined, IsIn, end_closed, end_open}
use Rattle.legal_journal.proofs.Sound.{StateOk, step_ok, log_from}
use Rattle.legal_journal.proofs.Legal.{start_ok, sound}
use Rattle.virtual_log.proofs.Holding.{found_in}

-- The ends of joined segments rise.

pub start_low : (r : ℕ → ℕ) (es : ℕ → List ℕ) (i a : ℕ) (ss : List Segment) → Joined es i a ss → a ≤ end_of r (last_of_segments ss)
start_low r es i a [] j = absurd j
start_low r es i a (s ∷ []) j = omega (arith, j.1, end_open r s j.2)
start_low r es i a (s ∷ x ∷ xs) j = let h = start_low r es (i + 1) (a + j.2.0) (x ∷ xs) j.2.3 in omega arith

pub ends_rise : (r : ℕ → ℕ) (es : ℕ → List ℕ) (i a : ℕ) (ss : List Segment) (x : Segment) → Joined es i a ss → IsIn x ss → end_of r x ≤ end_of r (last_of_segments ss)
ends_rise r es i a [] x j h = absurd j
ends_rise r es i a (s ∷ []) x j (inl h) = let same : end_of r x ≡ end_of r s = ap (end_of r) h in omega (arith, same)
ends_rise r es i a (s ∷ []) x j (inr h) = absurd h
ends_rise r es i a (s ∷ y ∷ ys) x j (inl h) =
    let low = start_low r es (i + 1) (a + j.2.0) (y ∷ ys) j.2.3 in
    let same : end_of r x ≡ end_of r s = ap (end_of r) h in
    omega (arith, same, end_closed r s (a + j.2.0) j.2.1, low)
ends_rise r es i a (s ∷ y ∷ ys) x j (inr h) = ends_rise r es (i + 1) (a + j.2.0) (y ∷ ys) x j.2.3 h

-- what a log shows lies below its tail
pub shown_below : (cells : ℕ) (w : State) (pos : ℕ) (e : Entry) → StateOk cells w → log_at w pos ≡ Some e → pos < tail_of w
shown_below cells w pos e ok h =
    let f = found_in (reach w.cells) (entries w.cells) w.register.chain.segments pos e (log_from (reach w.cells) (entries w.cells) w.register.chain pos e h).1 in
    let up = ends_rise (reach w.cells) (ends w.cells) ok.id ok.from w.register.chain.segments f.segment ok.joined f.inside in
    omega (arith, f.below, up)

-- The trim isn't above the tail, nor is that of a write of which it isn't known whether it stands.
record Trimmed (w : State) : Type 0 where
  pub now : trim_of w ≤ tail_of w
  pub asked : (c : Chain) → w.register.asked ≡ Some c → c.trim ≤ tail_of w

some_at : (log : List Entry) (n : ℕ) → n < length log → (e : Entry) × (slice_get log n ≡ Some e)
some_at [] n h = absurd (omega arith)
some_at (x ∷ xs) zero h = (x, refl)
some_at (x ∷ xs) (suc n) h = some_at xs n (omega arith)

module _ (law : Law) (low : (log : List Entry) (n : ℕ) → law.floor log n → n ≤ length log) where
  follows_trimmed : (w : State) (c : Chain) → StateOk (length law.shelf) w → Trimmed w → MayFollow w law.floor (length law.shelf) w.register.chain c → c.trim ≤ tail_of w
  follows_trimmed w c ok t (inl x) = omega (arith, t.now, ap (λ (k : Chain). k.trim) x.is)
  follows_trimmed w c ok t (inr x) = by_number c.trim refl
    where
      by_number : (n : ℕ) → c.trim ≡ n → c.trim ≤ tail_of w
      by_number zero is = omega (arith, is)
      by_number (suc n) is =
          let free = x.1 in
          let inside : n < length free.log = omega (arith, is, low free.log c.trim free.free) in
          let e = some_at free.log n inside in
          ⊎_elim
          (λ (h : n < trim_of w). omega (arith, is, h, t.now))
          (λ (h : log_at w n ≡ Some e.0). let b = shown_below (length law.shelf) w n e.0 ok h in omega (arith, is, b))
          (ok.was_shown n e.0 (free.shows n inside ∙ e.1))

  current_trimmed : (w : State) (v : ℕ) (c : Chain) → Trimmed w → IsCurrent w.register v c → c.trim ≤ tail_of w
  current_trimmed w v c t (inl x) = omega (arith, t.now, ap (λ (k : Chain). k.trim) x.1)
  current_trimmed w v c t (inr x) = t.asked c x.1

  register_now : (w : State) (m : RegisterMove) → StateOk (length law.shelf) w → Trimmed w → RegisterAllowed w law.floor (length law.shelf) m → (register_after w.register m).chain.trim ≤ tail_of w
  register_now w (Gives v c) ok t a = current_trimmed w v c t a.1
  register_now w (Conflicts x v c) ok t a = current_trimmed w v c t a.1
  register_now w (Writes x c v) ok t a = follows_trimmed w c ok t a.2
  register_now w (Faults x c) ok t a = t.now
  register_now w Fails ok t a = t.now
  register_now w (Mends b) ok t a = t.now

  register_asked : (w : State) (m : RegisterMove) → StateOk (length law.shelf) w → Trimmed w → RegisterAllowed w law.floor (length law.shelf) m → (c : Chain) → (register_after w.register m).asked ≡ Some c → c.trim ≤ tail_of w
  register_asked w (Gives v k) ok t a c is = absurd (cc)
  register_asked w (Conflicts x v k) ok t a c is = absurd (cc)
  register_asked w (Writes x k v) ok t a c is = absurd (cc)
  register_asked w (Faults x k) ok t a c is = let same : k ≡ c = cc in subst (λ (y : Chain). y.trim ≤ tail_of w) same (follows_trimmed w k ok t a.2)
  register_asked w Fails ok t a c is = t.asked c is
  register_asked w (Mends b) ok t a c is = t.asked c is

  step_trimmed : (w : State) (who : ℕ) (m : Move) → StateOk (length law.shelf) w → Trimmed w → IsAllowed w law who m → Trimmed (after w who m)
  step_trimmed w who (OnCell i m) ok t a =
      let on = (step_ok law w who (OnCell i m) ok a).1 in
      record { now = omega (arith, t.now, on.tail); asked = λ c is. let h = t.asked c is in omega (arith, h, on.tail) }
  step_trimmed w who (OnRegister m) ok t a =
      let on = (step_ok law w who (OnRegister m) ok a).1 in
      let h = register_now w m ok t a in
      record { now = omega (arith, h, on.tail); asked = λ c is. let k = register_asked w m ok t a c is in omega (arith, k, on.tail) }
  step_trimmed w who Nothing ok t a = t
  step_trimmed w who Never ok t a = absurd a

all_trimmed : (law : Law) (low : (log : List Entry) (n : ℕ) → law.floor log n → n ≤ length log) (w : State) (es : List Event) → StateOk (length law.shelf) w → Trimmed w → IsLegalFrom w law es → Trimmed (after_all w es)
all_trimmed law low w [] ok t h = t
all_trimmed law low w (e ∷ es) ok t h =
    all_trimmed law low (after w e.who (move e)) es (step_ok law w e.who (move e) ok h.0.allowed).0 (step_trimmed law low w e.who (move e) ok t h.0.allowed) h.1

module _ (law : Law) (low : (log : List Entry) (n : ℕ) → law.floor log n → n ≤ length log) where
  pub trim_below : (es : List Event) → IsLegal law es → trim_of (state_of es) ≤ tail_of (state_of es)
  trim_below es legal = (all_trimmed law low start es (start_ok (length law.shelf) legal.least legal.most) (record { now = omega arith; asked = λ c is. absurd (cc) }) legal.steps).now

  -- an entry that stands at a position stands below the tail
  pub stands_below : (es : List Event) (pos : ℕ) (e : Entry) → IsLegal law es → Stands (state_of es) pos e → pos < tail_of (state_of es)
  stands_below es pos e legal h = ⊎_elim
      (λ (k : pos < trim_of (state_of es)). let t = trim_below es legal in omega (arith, k, t))
      (λ (k : log_at (state_of es) pos ≡ Some e). shown_below (length law.shelf) (state_of es) pos e (sound law es legal) k)
      h
