-- A front of what a log holds is what its loglets show, from the trim on.
use Rattle.std.proofs.Common.{◌≡◌, refl, sym, ap, ◌∙◌, ℕ, zero, suc, ◌+◌, ◌-◌, ◌<◌, ◌≤◌, Bool, true, List, [], ◌∷◌, length, drop, Option, Some, ⊎_elim, arith, add-one, filter_map, is_some}
use Rattle.std.specs.Prelude.{slice_get}
use Rattle.std.specs.List.{list_all}
use Rattle.delos_types.specs.declared.entry.Entry.{Entry}
use Rattle.loglet_api.specs.View.{LogletView}
use Rattle.legal_journal.specs.Law.{Law}
use Rattle.legal_journal.specs.declared.events.Event.{Event}
use Rattle.legal_journal.specs.Journal.{IsLegal, state_of, log_at, trim_of, tail_of}
use Rattle.legal_journal.proofs.Legal.{sound, whole}
use Rattle.fabric_core.specs.Log.{numbers, virtual_log, virtual_log_at, virtual_tail, has_no_gap}
use Rattle.fabric_core.proofs.OneLoglet.{at}
use Rattle.virtual_log.specs.Holding.{Holds}
use Rattle.virtual_log.proofs.Holding.{holds_stands}
use Rattle.base_engine.specs.Reading.{IsFront}
use Rattle.turn_scopes.proofs.Bounds.{stands_below}

all_pass : (p : ℕ → Bool) (a k : ℕ) → ((pos : ℕ) → a ≤ pos → pos < a + k → p pos ≡ true) → list_all p (numbers a k) ≡ true
all_pass p a zero each = refl
all_pass p a (suc k) each = rw (each a (omega arith) (omega arith)) (all_pass p (a + 1) k (λ pos up low. each pos (omega arith) (omega arith)))

nothing_left : (log : List Entry) (a : ℕ) → a ≡ length log → [] ≡ drop a log
nothing_left [] zero end = refl
nothing_left [] (suc a) end = absurd (omega arith)
nothing_left (x ∷ xs) zero end = absurd (omega arith)
nothing_left (x ∷ xs) (suc a) end = nothing_left xs a (omega arith)

-- the entries that are read from a position up to the end
read_on : (f : ℕ → Option Entry) (log : List Entry) (a k : ℕ) → ((pos : ℕ) → a ≤ pos → pos < a + k → f pos ≡ slice_get log pos) → a + k ≡ length log → filter_map f (numbers a k) ≡ drop a log
read_on f log a zero each end = nothing_left log a (omega arith)
read_on f log a (suc k) each end =
    let here = at log a (omega arith) in
    let more = read_on f log (a + 1) k (λ pos up low. each pos (omega arith) (omega arith)) (omega arith) in
    let next : drop (a + 1) log ≡ drop (suc a) log = ap (λ i. drop i log) (add-one a) in
    rw (each a (omega arith) (omega arith), here.is, here.rest, more, next) refl

module _ (law : Law) (seen : List Event) (legal : IsLegal law seen) where
  -- at a position that isn't trimmed a journal tells the entry of each front
  front_at : (log : List Entry) (pos : ℕ) → IsFront Holds seen log → trim_of (state_of seen) ≤ pos → pos < length log → log_at (state_of seen) pos ≡ slice_get log pos
  front_at log pos front up low =
      let here = at log pos low in
      ⊎_elim
      (λ (under : pos < trim_of (state_of seen)). absurd (omega arith))
      (λ (is : log_at (state_of seen) pos ≡ Some here.element). is ∙ sym here.is)
      (holds_stands law seen pos here.element legal (front pos here.element here.is))

  -- where nothing is trimmed that wasn't shown, a front goes no further than the tail
  pub front_below : ((log : List Entry) (n : ℕ) → law.floor log n → n ≤ length log) → (log : List Entry) → IsFront Holds seen log → length log ≤ tail_of (state_of seen)
  front_below low log front = by_length (length log) refl
    where
      by_length : (n : ℕ) → length log ≡ n → length log ≤ tail_of (state_of seen)
      by_length zero is = omega (arith, is)
      by_length (suc n) is =
          let here = at log n (omega (arith, is)) in
          let stands = holds_stands law seen n here.element legal (front n here.element here.is) in
          omega (arith, is, stands_below law low seen n here.element legal stands)

  module _ (cells : List LogletView) (shows : (pos : ℕ) → trim_of (state_of seen) ≤ pos → virtual_log_at (state_of seen).register.chain cells pos ≡ log_at (state_of seen) pos) where
    pub no_gap : virtual_tail (state_of seen).register.chain cells ≡ tail_of (state_of seen) → has_no_gap (state_of seen).register.chain cells ≡ true
    no_gap tail =
        let w = state_of seen in
        all_pass (λ pos. is_some (virtual_log_at w.register.chain cells pos)) (trim_of w) (virtual_tail w.register.chain cells - trim_of w)
        (λ pos up low. ap is_some (shows pos up) ∙ whole (length law.shelf) w pos (sound law seen legal) up (omega (arith, tail)))

    pub front_shown : (log : List Entry) → IsFront Holds seen log → trim_of (state_of seen) ≤ length log → virtual_log (state_of seen).register.chain cells (trim_of (state_of seen)) (length log) ≡ drop (trim_of (state_of seen)) log
    front_shown log front high =
        let w = state_of seen in
        read_on (virtual_log_at w.register.chain cells) log (trim_of w) (length log - trim_of w)
        (λ pos up low. shows pos up ∙ front_at log pos front up (omega arith))
        (omega arith)
