-- What a node sent, by the desks of its sessions.
use Rattle.std.proofs.Common.{◌≡◌, ◌≢◌, refl, sym, ap, ◌∙◌, ◌⊎◌, inl, inr, ℕ, zero, suc, ◌<◌, ◌≤◌, List, [], ◌∷◌, Option, Some, length, arith}
use Rattle.std.specs.Prelude.{slice_get, slice_set}
use Rattle.std.proofs.lemmas.Bool.{cases_lt}
use Rattle.std.proofs.lemmas.Option.{same_Some}
use Rattle.delos_types.specs.declared.cause.Cause.{Cause}
use Rattle.base_engine.specs.Node.{NodeView}
use Rattle.node_lines.specs.declared.desk.Desk.{Desk}
use Rattle.node_lines.specs.Turns.{ClosesIt, ClosesAll, IsAnswered}
use Rattle.node_lines.specs.Workers.{sent_by, sent_of}
use Rattle.node_lines.proofs.Turning.{same_at}

-- Counts

-- of no session above the last one
pub none_sent : (counts : List ℕ) (s : ℕ) → length counts ≤ s → sent_of counts s ≡ 0
none_sent [] s low = refl
none_sent (x ∷ counts) zero low = absurd (omega arith)
none_sent (x ∷ counts) (suc s) low = none_sent counts s (omega arith)

-- where one session's is set
pub set_sent : (counts : List ℕ) (s n : ℕ) → s < length counts → sent_of (slice_set counts s n) s ≡ n
set_sent [] s n low = absurd (omega arith)
set_sent (x ∷ counts) zero n low = refl
set_sent (x ∷ counts) (suc s) n low = set_sent counts s n (omega arith)

pub other_sent : (counts : List ℕ) (s t n : ℕ) → t ≢ s → sent_of (slice_set counts s n) t ≡ sent_of counts t
other_sent [] s t n apart = refl
other_sent (x ∷ counts) zero zero n apart = absurd (apart refl)
other_sent (x ∷ counts) zero (suc t) n apart = refl
other_sent (x ∷ counts) (suc s) zero n apart = refl
other_sent (x ∷ counts) (suc s) (suc t) n apart = other_sent counts s t n (λ e. apart (ap suc e))

-- .. to what it was
pub still_sent : (counts : List ℕ) (s n : ℕ) → n ≡ sent_of counts s → slice_set counts s n ≡ counts
still_sent [] s n is = refl
still_sent (x ∷ counts) zero n is = ap (λ k. k ∷ counts) is
still_sent (x ∷ counts) (suc s) n is = ap (λ cs. x ∷ cs) (still_sent counts s n is)

pub set_rises : (counts : List ℕ) (s n : ℕ) → sent_of counts s ≤ n → (t : ℕ) → sent_of counts t ≤ sent_of (slice_set counts s n) t
set_rises [] s n low t = omega arith
set_rises (x ∷ counts) zero n low zero = low
set_rises (x ∷ counts) zero n low (suc t) = omega arith
set_rises (x ∷ counts) (suc s) n low zero = omega arith
set_rises (x ∷ counts) (suc s) n low (suc t) = set_rises counts s n low t

-- Desks

pub sent_size : (desks : List Desk) → length (sent_by desks) ≡ length desks
sent_size [] = refl
sent_size (x ∷ desks) = ap suc (sent_size desks)

pub sent_at : (desks : List Desk) (s : ℕ) (d : Desk) → slice_get desks s ≡ Some d → sent_of (sent_by desks) s ≡ d.sent
sent_at [] s d at = absurd (cc)
sent_at (x ∷ desks) zero d at = ap (λ (y : Desk). y.sent) (same_Some x d at)
sent_at (x ∷ desks) (suc s) d at = sent_at desks s d at

pub sent_set : (desks : List Desk) (s : ℕ) (d : Desk) → sent_by (slice_set desks s d) ≡ slice_set (sent_by desks) s d.sent
sent_set [] s d = refl
sent_set (x ∷ desks) zero d = refl
sent_set (x ∷ desks) (suc s) d = ap (λ cs. x.sent ∷ cs) (sent_set desks s d)

-- no more than so many of each session that has a desk
pub sent_within : (desks : List Desk) (counts : List ℕ) → ((s : ℕ) (d : Desk) → slice_get desks s ≡ Some d → d.sent ≤ sent_of counts s) → (s : ℕ) → sent_of (sent_by desks) s ≤ sent_of counts s
sent_within [] counts each s = omega arith
sent_within (x ∷ desks) [] each zero = each zero x refl
sent_within (x ∷ desks) (c ∷ counts) each zero = each zero x refl
sent_within (x ∷ desks) [] each (suc s) = sent_within desks [] (λ t d at. each (suc t) d at) s
sent_within (x ∷ desks) (c ∷ counts) each (suc s) = sent_within desks counts (λ t d at. each (suc t) d at) s

-- desks that sent the same
same_sent : (was is : List Desk) → length is ≡ length was → ((s : ℕ) (x d : Desk) → slice_get was s ≡ Some x → slice_get is s ≡ Some d → d.sent ≡ x.sent) → sent_by is ≡ sent_by was
same_sent [] [] size each = refl
same_sent [] (d ∷ is) size each = absurd (omega (arith, size))
same_sent (x ∷ was) [] size each = absurd (omega (arith, size))
same_sent (x ∷ was) (d ∷ is) size each =
    let first = each zero x d refl refl in
    ap (λ n. n ∷ sent_by is) first ∙ ap (λ cs. x.sent ∷ cs) (same_sent was is (omega (arith, size)) (λ s y e at there. each (suc s) y e at there))

-- the end of a phase sends nothing
pub ends_sent : (n : NodeView) (failed : Option Cause) (was is : List Desk) → ClosesAll n failed was is → sent_by is ≡ sent_by was
ends_sent n failed was is h = same_sent was is h.size (λ s x d at there.
    let one = h.each s x at in
    ap (λ (y : Desk). y.sent) (sym (same_at is s one.desk d one.is there)) ∙ by x one.desk one.closes (cases_lt 0 x.asked))
  where
    by : (x y : Desk) → ClosesIt n failed x y → (0 < x.asked) ⊎ (x.asked ≤ 0) → y.sent ≡ x.sent
    by x y c (inl some) = ap (λ (z : Desk). z.sent) (c.asked some).rest
    by x y c (inr low) = ap (λ (z : Desk). z.sent) (c.none (let none : x.asked ≡ 0 = omega (arith, low) in none))

-- nor does the taking of answers
pub answered_sent : (was is : List Desk) → length is ≡ length was → IsAnswered was is → sent_by is ≡ sent_by was
answered_sent was is size takes = same_sent was is size (λ s x d at there.
    let y = takes s d there in
    ap (λ (z : Desk). z.sent) y.2 ∙ ap (λ (z : Desk). z.sent) (same_at was s y.0 x y.1 at))
