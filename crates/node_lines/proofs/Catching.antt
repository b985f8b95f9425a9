-- What has landed below a front of the log has acted in it, and nothing that wasn't given.
use Rattle.std.proofs.Common.{◌≡◌, refl, sym, ap, ◌∙◌, subst, ℕ, zero, suc, ◌+◌, ◌<◌, ◌≤◌, Bool, true, false, cond, List, [], ◌∷◌, ◌++◌, Option, Some, None, is_some, length, arith}
use Rattle.std.specs.Prelude.{◌==◌, ◌&&◌, ◌||◌, nat_lt, slice_get}
use Rattle.std.specs.Option.{option_or, option_and_then}
use Rattle.std.proofs.lemmas.Bool.Decides.{nat_tests}
use Rattle.std.proofs.lemmas.List.Folds.{find-append}
use Rattle.delos_types.specs.declared.entry.Entry.{Entry}
use Rattle.legal_journal.specs.Law.{Law}
use Rattle.legal_journal.specs.declared.events.Event.{Event}
use Rattle.legal_journal.specs.Journal.{state_of, tail_of, IsLegal}
use Rattle.virtual_log.specs.Holding.{Holds}
use Rattle.legal_journal.proofs.Legal.{legal_front, goes_on}
use Rattle.virtual_log.proofs.Holding.{holds_later}
use Rattle.virtual_log.proofs.Agreeing.{holds_agree}
use Rattle.engine_api.specs.declared.content.Content.{Content}
use Rattle.engine_api.specs.declared.content.Content.TheVariants.{Session, Alive, Leave, Trim}
use Rattle.engine_api.specs.Items.{contents_of, items_of, unpack, placed_at, placed_from}
use Rattle.engine_api.specs.Acted.{Asked, appearances, unpack_all, asked_in}
use Rattle.engine_api.specs.Order.{first_of, gap_from, top_rank}
use Rattle.engine_api.proofs.Appends.{appearances-append}
use Rattle.engine_api.proofs.Gaps.{gap-run, gap-absent, gap-low}
use Rattle.base_engine.specs.Reading.{IsFront}
use Rattle.turn_scopes.proofs.Moments.{held_sent}
use Rattle.node_lines.specs.UnderWay.{HasRank, IsHeld, HasLanded}
use Rattle.node_lines.proofs.Settling.{Extends}

true_not_false : {A : Type 0} → true ≡ false → A
true_not_false e = absurd (cc)

-- where an entry stands doesn't matter to which ranks it has
same-placed : (s r p q sub : ℕ) (cs : List Content) → is_some (first_of (appearances (placed_from p sub cs)) s r) ≡ is_some (first_of (appearances (placed_from q sub cs)) s r)
same-placed s r p q sub [] = refl
same-placed s r p q sub (c ∷ cs) = by_content c (same-placed s r p q (sub + 1) cs)
  where
    by_content : (c : Content) → is_some (first_of (appearances (placed_from p (sub + 1) cs)) s r) ≡ is_some (first_of (appearances (placed_from q (sub + 1) cs)) s r)
        → is_some (first_of (appearances (placed_from p sub (c ∷ cs))) s r) ≡ is_some (first_of (appearances (placed_from q sub (c ∷ cs))) s r)
    by_content (Alive n k) rest = rest
    by_content (Leave n) rest = rest
    by_content (Trim k) rest = rest
    by_content (Session t k c) rest = by_test ((t == s) && (k == r)) rest
      where
        by_test : (b : Bool) → is_some (first_of (appearances (placed_from p (sub + 1) cs)) s r) ≡ is_some (first_of (appearances (placed_from q (sub + 1) cs)) s r)
            → is_some (cond b (Some (record { place = record { pos = p; sub = sub }; session = t; rank = k; command = c })) (first_of (appearances (placed_from p (sub + 1) cs)) s r))
            ≡ is_some (cond b (Some (record { place = record { pos = q; sub = sub }; session = t; rank = k; command = c })) (first_of (appearances (placed_from q (sub + 1) cs)) s r))
        by_test true rest = refl
        by_test false rest = rest

same-at : (s r p q : ℕ) (o : Option (List Content)) → is_some (first_of (appearances (placed_at p o)) s r) ≡ is_some (first_of (appearances (placed_at q o)) s r)
same-at s r p q None = refl
same-at s r p q (Some cs) = same-placed s r p q 0 cs

is_some-or : {A : Type 0} (o p : Option A) → is_some (option_or o p) ≡ (is_some o || is_some p)
is_some-or None p = refl
is_some-or (Some x) p = refl

or_left : (a b : Bool) → a ≡ true → (a || b) ≡ true
or_left a b h = ap (λ x. x || b) h

or_right : (a b : Bool) → b ≡ true → (a || b) ≡ true
or_right true b h = refl
or_right false b h = h

-- a rank of an entry of a log appears in it
pub rank-in_log : (s r pos p : ℕ) (es : List Entry) (e : Entry) → slice_get es p ≡ Some e → HasRank s r e → is_some (first_of (asked_in pos es) s r) ≡ true
rank-in_log s r pos p [] e at h = absurd (cc)
rank-in_log s r pos zero (x ∷ xs) e at h =
    let same : x ≡ e = cc in
    ap (λ l. is_some (first_of l s r)) (appearances-append (unpack pos x) (unpack_all (pos + 1) xs))
    ∙ ap is_some (find-append _ (appearances (unpack pos x)) (asked_in (pos + 1) xs)) ∙ is_some-or (first_of (appearances (unpack pos x)) s r) (first_of (asked_in (pos + 1) xs) s r)
    ∙ or_left (is_some (first_of (appearances (unpack pos x)) s r)) (is_some (first_of (asked_in (pos + 1) xs) s r))
    (same-at s r pos 0 (option_and_then contents_of (items_of x)) ∙ subst (HasRank s r) (sym same) h)
rank-in_log s r pos (suc p) (x ∷ xs) e at h =
    ap (λ l. is_some (first_of l s r)) (appearances-append (unpack pos x) (unpack_all (pos + 1) xs))
    ∙ ap is_some (find-append _ (appearances (unpack pos x)) (asked_in (pos + 1) xs)) ∙ is_some-or (first_of (appearances (unpack pos x)) s r) (first_of (asked_in (pos + 1) xs) s r)
    ∙ or_right (is_some (first_of (appearances (unpack pos x)) s r)) (is_some (first_of (asked_in (pos + 1) xs) s r)) (rank-in_log s r (pos + 1) p xs e at h)

-- where the first ranks appear, the gap is behind them
pub gap_behind : (xs : List Asked) (s n : ℕ) → ((r : ℕ) → 1 ≤ r → r ≤ n → is_some (first_of xs s r) ≡ true) → n < gap_from xs s 1
gap_behind xs s n all = by_test (nat_lt n (gap_from xs s 1)) refl
  where
    by_test : (b : Bool) → nat_lt n (gap_from xs s 1) ≡ b → n < gap_from xs s 1
    by_test true t = grind (arith, nat_tests)
    by_test false t =
        let g = gap_from xs s 1 in
        let low : g ≤ n = grind (arith, nat_tests) in
        let absent : is_some (first_of xs s g) ≡ false = gap-absent xs s 1 (top_rank xs + 1) (omega arith) in
        true_not_false (sym (all g (gap-low xs s 1 (top_rank xs + 1)) low) ∙ absent)

some_at : (log : List Entry) (n : ℕ) → n < length log → (e : Entry) × (slice_get log n ≡ Some e)
some_at [] n h = absurd (omega arith)
some_at (x ∷ xs) zero h = (x, refl)
some_at (x ∷ xs) (suc n) h = some_at xs n (omega arith)

module _ (law : Law) where
  -- an entry that was held at a moment stands in a later front that reaches that moment's tail
  pub held_stands : (early seen : List Event) (log : List Entry) (e : Entry) → IsLegal law seen → Extends early seen → tail_of (state_of early) ≤ length log → IsFront Holds seen log → IsHeld early e → (p : ℕ) × (slice_get log p ≡ Some e)
  held_stands early seen log e legal on reached front h =
      let whole = subst (IsLegal law) on.1 legal in
      let moved = subst (λ es. Holds es h.pos e) (sym on.1) (holds_later law early (early ++ on.0) h.pos e (legal_front law early on.0 whole) (goes_on law early on.0 whole) h.held) in
      let x = some_at log h.pos (omega (arith, h.below, reached)) in
      let same = holds_agree law seen h.pos x.0 e legal (front h.pos x.0 x.1) moved in
      (h.pos, x.1 ∙ ap (λ y. Some y) same)

  -- What had landed at a moment has acted in each later front that reaches that moment's tail.
  pub landed_acted : (early seen : List Event) (log : List Entry) (s n : ℕ) → IsLegal law seen → Extends early seen → tail_of (state_of early) ≤ length log → IsFront Holds seen log
      → ((r : ℕ) → 1 ≤ r → r ≤ n → HasLanded early s r) → n < gap_from (asked_in 0 log) s 1
  landed_acted early seen log s n legal on reached front all = gap_behind (asked_in 0 log) s n (λ r first last.
      let h = all r first last in
      let at = held_stands early seen log h.entry legal on reached front h.held in
      rank-in_log s r 0 at.0 log h.entry at.1 h.rank)

  -- each rank that appears in a log is one of an entry of it
  pub appears_in : (s r pos : ℕ) (es : List Entry) → is_some (first_of (asked_in pos es) s r) ≡ true → (p : ℕ) × (e : Entry) × (slice_get es p ≡ Some e) × HasRank s r e
  appears_in s r pos [] h = true_not_false (sym h)
  appears_in s r pos (x ∷ xs) h =
      let parts = sym (is_some-or (first_of (appearances (unpack pos x)) s r) (first_of (asked_in (pos + 1) xs) s r)) ∙ (sym (ap is_some (find-append _ (appearances (unpack pos x)) (asked_in (pos + 1) xs))) ∙ (sym (ap (λ l. is_some (first_of l s r)) (appearances-append (unpack pos x) (unpack_all (pos + 1) xs))) ∙ h)) in
      by_first (is_some (first_of (appearances (unpack pos x)) s r)) refl parts (appears_in s r (pos + 1) xs)
    where
      by_first : (b : Bool) → is_some (first_of (appearances (unpack pos x)) s r) ≡ b → (is_some (first_of (appearances (unpack pos x)) s r) || is_some (first_of (asked_in (pos + 1) xs) s r)) ≡ true
          → (is_some (first_of (asked_in (pos + 1) xs) s r) ≡ true → (p : ℕ) × (e : Entry) × (slice_get xs p ≡ Some e) × HasRank s r e) → (p : ℕ) × (e : Entry) × (slice_get (x ∷ xs) p ≡ Some e) × HasRank s r e
      by_first true t h rest = (0, x, refl, same-at s r 0 pos (option_and_then contents_of (items_of x)) ∙ t)
      by_first false t h rest = let k = rest (sym (ap (λ b. b || is_some (first_of (asked_in (pos + 1) xs) s r)) t) ∙ h) in (suc k.0, k.1, k.2, k.3)

  -- Where nobody may append a rank above n, none has acted.
  pub acted_sent : (seen : List Event) (log : List Entry) (s n : ℕ) → IsLegal law seen → IsFront Holds seen log
      → ((who : ℕ) (e : Entry) (r : ℕ) → law.may who e → HasRank s r e → r ≤ n) → gap_from (asked_in 0 log) s 1 ≤ n + 1
  acted_sent seen log s n legal front bound = by_test (nat_lt (n + 1) (gap_from (asked_in 0 log) s 1)) refl
    where
      by_test : (b : Bool) → nat_lt (n + 1) (gap_from (asked_in 0 log) s 1) ≡ b → gap_from (asked_in 0 log) s 1 ≤ n + 1
      by_test false t = grind (arith, nat_tests)
      by_test true t =
          let high : n + 1 < gap_from (asked_in 0 log) s 1 = grind (arith, nat_tests) in
          let x = appears_in s (n + 1) 0 log (gap-run (asked_in 0 log) s 1 (top_rank (asked_in 0 log) + 1) (n + 1) (omega arith) high) in
          let sent = held_sent law seen x.0 x.1 legal (front x.0 x.1 x.2) in
          absurd (omega (arith, bound sent.0 x.1 (n + 1) sent.1 x.3))
