-- What becomes of a session's commands as items go down, and are packed.
use Rattle.std.proofs.Common.{◌≡◌, ◌≢◌, refl, sym, ap, ◌∙◌, subst, ◌⊎◌, inl, inr, ⊎_elim, ℕ, suc, ◌+◌, ◌-◌, ◌<◌, ◌≤◌, Bool, true, false, List, [], ◌∷◌, ◌++◌, Option, Some, None, length, arith, append-nil}
use Rattle.std.specs.Prelude.{nat_le, All}
use Rattle.std.proofs.lemmas.Bool.Decides.{nat_tests}
use Rattle.std.proofs.lemmas.List.Elements.{All-nil, All-cons, All-append}
use Rattle.delos_types.specs.declared.entry.Entry.{Entry}
use Rattle.delos_types.specs.declared.item.Item.{Item}
use Rattle.legal_journal.specs.Law.{Law}
use Rattle.legal_journal.specs.declared.events.Event.{Event}
use Rattle.legal_journal.specs.Journal.{IsLegal}
use Rattle.virtual_log.specs.Holding.{Holds}
use Rattle.engine_api.specs.Items.{content_of}
use Rattle.engine_api.specs.Order.{numbers}
use Rattle.engine_api.specs.Packing.{packed, IsProposable, IsBatch}
use Rattle.replica_api.specs.Replica.{Queues, Flushes}
use Rattle.base_engine.specs.Settling.{OutboxView, cause_in}
use Rattle.base_engine.specs.Proposing.{Sent, with_entry}
use Rattle.node_lines.specs.UnderWay.{Among, HasRank, IsUnderWay, rank_under, ranks_in, IsGiven}
use Rattle.node_lines.proofs.Ranks.{numbers-snoc, among-numbers, rank-packed, ranks-append, ranks-own, ranks-other}
use Rattle.node_lines.proofs.Settling.{settled_given}

low_or_high : (a b : ℕ) → (a ≤ b) ⊎ (b < a)
low_or_high a b = by (nat_le a b) refl
  where
    by : (t : Bool) → nat_le a b ≡ t → (a ≤ b) ⊎ (b < a)
    by true t = inl (grind (arith, nat_tests))
    by false t = inr (grind (arith, nat_tests))

among-left : (e : Entry) (xs ys : List Entry) → Among e xs → Among e (xs ++ ys)
among-left e [] ys h = absurd h
among-left e (x ∷ xs) ys (inl h) = inl h
among-left e (x ∷ xs) ys (inr h) = inr (among-left e xs ys h)

among-end : (e : Entry) (xs : List Entry) → Among e (xs ++ e ∷ [])
among-end e [] = inl refl
among-end e (x ∷ xs) = inr (among-end e xs)

under_way_more : (seen : List Event) (entries more : List Entry) (s r : ℕ) → IsUnderWay seen entries s r → IsUnderWay seen (entries ++ more) s r
under_way_more seen entries more s r (inl h) = inl h
under_way_more seen entries more s r (inr h) = inr (record { entry = h.entry; among = among-left h.entry entries more h.among; rank = h.rank })

-- items wait on
pub kept_given : (seen : List Event) (entries : List Entry) (kept : List Item) (item : Item) (s sent : ℕ) → rank_under s (content_of item) ≡ Some (sent + 1) → IsGiven seen entries kept s sent → IsGiven seen entries (kept ++ item ∷ []) s (sent + 1)
kept_given seen entries kept item s sent own g = record {
  queued = g.queued + 1;
  few = omega (arith, g.few);
  waiting =
      ranks-append s kept (item ∷ []) ∙ ap (λ l. l ++ ranks_in s (item ∷ [])) g.waiting ∙ ap (λ l. numbers (sent - g.queued + 1) g.queued ++ l) (ranks-own s (sent + 1) item own)
      ∙ ap (λ n. numbers (sent - g.queued + 1) g.queued ++ n ∷ []) (let e : sent + 1 ≡ sent - g.queued + 1 + g.queued = omega (arith, g.few) in e)
      ∙ numbers-snoc (sent - g.queued + 1) g.queued
      ∙ ap (λ n. numbers n (suc g.queued)) (let e : sent - g.queued + 1 ≡ sent + 1 - (g.queued + 1) + 1 = omega (arith, g.few) in e)
      ∙ ap (numbers (sent + 1 - (g.queued + 1) + 1)) (let e : suc g.queued ≡ g.queued + 1 = omega arith in e);
  under_way = λ r first last. g.under_way r first (omega (arith, last));
}

pub kept_other : (seen : List Event) (entries : List Entry) (kept : List Item) (item : Item) (s sent : ℕ) → rank_under s (content_of item) ≡ None → IsGiven seen entries kept s sent → IsGiven seen entries (kept ++ item ∷ []) s sent
kept_other seen entries kept item s sent other g = record {
  queued = g.queued;
  few = g.few;
  waiting = ranks-append s kept (item ∷ []) ∙ ap (λ l. l ++ ranks_in s (item ∷ [])) g.waiting ∙ ap (λ l. numbers (sent - g.queued + 1) g.queued ++ l) (ranks-other s item other) ∙ append-nil _;
  under_way = g.under_way;
}

-- all that waits is packed
pub packed_given : (seen : List Event) (entries : List Entry) (kept : List Item) (origin s sent : ℕ) (e : Entry) → IsBatch kept → e ≡ packed origin kept → IsGiven seen entries kept s sent → IsGiven seen (entries ++ e ∷ []) [] s sent
packed_given seen entries kept origin s sent e batch is g = record {
  queued = 0;
  few = omega arith;
  waiting = refl;
  under_way = λ r first last. ⊎_elim
      (λ (low : r + g.queued ≤ sent). under_way_more seen entries (e ∷ []) s r (g.under_way r first low))
      (λ (high : sent < r + g.queued).
      let here = among-numbers (sent - g.queued + 1) g.queued r (omega (arith, high, g.few)) (omega (arith, last, g.few)) in
      inr (record { entry = e; among = among-end e entries; rank = subst (HasRank s r) (sym is) (rank-packed origin s r kept batch (subst (Among r) (sym g.waiting) here)) }))
      (low_or_high (r + g.queued) sent);
}

given_of : (mid : OutboxView) (p : Option Entry) → (with_entry mid p).given ≡ mid.given
given_of mid None = refl
given_of mid (Some e) = refl

all-snoc : (xs : List Item) (x : Item) → All IsProposable xs → IsProposable x → All IsProposable (xs ++ x ∷ [])
all-snoc xs x h k = All-append IsProposable xs (x ∷ []) h (All-cons IsProposable x [] k (All-nil IsProposable))

length-snoc : (xs : List Item) (x : Item) → length (xs ++ x ∷ []) ≡ length xs + 1
length-snoc [] x = refl
length-snoc (y ∷ ys) x = ap suc (length-snoc ys x) ∙ (let e : suc (length ys + 1) ≡ length (y ∷ ys) + 1 = omega arith in e)

module _ (law : Law) (low : (log : List Entry) (n : ℕ) → law.floor log n → n ≤ length log) where
  -- The next command of a session went down, and the session was given no cause.
  pub sent_given : (who origin s sent : ℕ) (old new : List Event) (was is : OutboxView) (kept kept' : List Item) (item : Item) → IsLegal law new → cause_in s is.given ≡ None
      → All IsProposable kept → IsProposable item → rank_under s (content_of item) ≡ Some (sent + 1)
      → Sent Holds who old was (λ packed. Queues origin kept item packed kept') new is → IsGiven old was.entries kept s sent → IsGiven new is.entries kept' s (sent + 1)
  sent_given who origin s sent old new was is kept kept' item legal none all fine own h g = by_packed h.packed h.is_with h.out
    where
      by_packed : (p : Option Entry) → is ≡ with_entry h.mid p → Queues origin kept item p kept' → IsGiven new is.entries kept' s (sent + 1)
      by_packed p with_is out =
          let mid_none : cause_in s h.mid.given ≡ None = subst (λ x. cause_in s x ≡ None) (ap (λ (o : OutboxView). o.given) with_is ∙ given_of h.mid p) none in
          let there = settled_given law low who s sent old new was h.mid kept legal mid_none h.settled g in
          let longer = kept_given new h.mid.entries kept item s sent own there in
          cases p with_is out longer
        where
          cases : (p : Option Entry) → is ≡ with_entry h.mid p → Queues origin kept item p kept' → IsGiven new h.mid.entries (kept ++ item ∷ []) s (sent + 1) → IsGiven new is.entries kept' s (sent + 1)
          cases None e out longer =
              subst (λ (o : OutboxView). IsGiven new o.entries kept' s (sent + 1)) (sym e) (subst (λ k. IsGiven new h.mid.entries k s (sent + 1)) (sym out.0) longer)
          cases (Some x) e out longer =
              let batch : IsBatch (kept ++ item ∷ []) = record { some = omega (arith, length-snoc kept item); few = omega (arith, length-snoc kept item, out.0); each = all-snoc kept item all fine } in
              subst (λ (o : OutboxView). IsGiven new o.entries kept' s (sent + 1)) (sym e)
              (subst (λ k. IsGiven new (h.mid.entries ++ x ∷ []) k s (sent + 1)) (sym out.2) (packed_given new h.mid.entries (kept ++ item ∷ []) origin s (sent + 1) x batch out.1.entry longer))

  -- An item that is no command of the session went down.
  pub sent_other : (who origin s sent : ℕ) (old new : List Event) (was is : OutboxView) (kept kept' : List Item) (item : Item) → IsLegal law new → cause_in s is.given ≡ None
      → All IsProposable kept → IsProposable item → rank_under s (content_of item) ≡ None
      → Sent Holds who old was (λ packed. Queues origin kept item packed kept') new is → IsGiven old was.entries kept s sent → IsGiven new is.entries kept' s sent
  sent_other who origin s sent old new was is kept kept' item legal none all fine other h g = by_packed h.packed h.is_with h.out
    where
      by_packed : (p : Option Entry) → is ≡ with_entry h.mid p → Queues origin kept item p kept' → IsGiven new is.entries kept' s sent
      by_packed p with_is out =
          let mid_none : cause_in s h.mid.given ≡ None = subst (λ x. cause_in s x ≡ None) (ap (λ (o : OutboxView). o.given) with_is ∙ given_of h.mid p) none in
          let there = settled_given law low who s sent old new was h.mid kept legal mid_none h.settled g in
          let longer = kept_other new h.mid.entries kept item s sent other there in
          cases p with_is out longer
        where
          cases : (p : Option Entry) → is ≡ with_entry h.mid p → Queues origin kept item p kept' → IsGiven new h.mid.entries (kept ++ item ∷ []) s sent → IsGiven new is.entries kept' s sent
          cases None e out longer =
              subst (λ (o : OutboxView). IsGiven new o.entries kept' s sent) (sym e) (subst (λ k. IsGiven new h.mid.entries k s sent) (sym out.0) longer)
          cases (Some x) e out longer =
              let batch : IsBatch (kept ++ item ∷ []) = record { some = omega (arith, length-snoc kept item); few = omega (arith, length-snoc kept item, out.0); each = all-snoc kept item all fine } in
              subst (λ (o : OutboxView). IsGiven new o.entries kept' s sent) (sym e)
              (subst (λ k. IsGiven new (h.mid.entries ++ x ∷ []) k s sent) (sym out.2) (packed_given new h.mid.entries (kept ++ item ∷ []) origin s sent x batch out.1.entry longer))

  some_of : (xs : List Item) → xs ≢ [] → 1 ≤ length xs
  some_of [] h = absurd (h refl)
  some_of (x ∷ xs) h = omega arith

  -- What waited was packed.
  pub flushed_given : (who origin s sent : ℕ) (old new : List Event) (was is : OutboxView) (kept kept' : List Item) → IsLegal law new → cause_in s is.given ≡ None
      → All IsProposable kept → length kept ≤ 15
      → Sent Holds who old was (λ packed. Flushes origin kept packed kept') new is → IsGiven old was.entries kept s sent → IsGiven new is.entries kept' s sent
  flushed_given who origin s sent old new was is kept kept' legal none all few h g = by_packed h.packed h.is_with h.out
    where
      by_packed : (p : Option Entry) → is ≡ with_entry h.mid p → Flushes origin kept p kept' → IsGiven new is.entries kept' s sent
      by_packed p with_is out =
          let mid_none : cause_in s h.mid.given ≡ None = subst (λ x. cause_in s x ≡ None) (ap (λ (o : OutboxView). o.given) with_is ∙ given_of h.mid p) none in
          cases p with_is out (settled_given law low who s sent old new was h.mid kept legal mid_none h.settled g)
        where
          cases : (p : Option Entry) → is ≡ with_entry h.mid p → Flushes origin kept p kept' → IsGiven new h.mid.entries kept s sent → IsGiven new is.entries kept' s sent
          cases None e out there =
              subst (λ (o : OutboxView). IsGiven new o.entries kept' s sent) (sym e) (subst (λ k. IsGiven new h.mid.entries k s sent) (out.0 ∙ sym out.1) there)
          cases (Some x) e out there =
              let batch : IsBatch kept = record { some = some_of kept out.0; few = omega (arith, few); each = all } in
              subst (λ (o : OutboxView). IsGiven new o.entries kept' s sent) (sym e)
              (subst (λ k. IsGiven new (h.mid.entries ++ x ∷ []) k s sent) (sym out.2) (packed_given new h.mid.entries kept origin s sent x batch out.1.entry there))
