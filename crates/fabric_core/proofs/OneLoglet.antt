-- The log of a chain of one open segment, from position 0, is that of its loglet.
use Rattle.std.proofs.Common.{◌≡◌, refl, ap, ◌∙◌, ℕ, zero, suc, ◌+◌, ◌-◌, ◌<◌, ◌≤◌, nat_lt, nat_le, true, List, [], ◌∷◌, length, take, drop, Option, Some, arith, add-one, slice_get, filter_map, is_some}
use Rattle.std.specs.List.{list_all}
use Rattle.std.proofs.lemmas.Grind.{common_steps}
use Rattle.std.proofs.lemmas.Bool.Decides.{nat_tests}
use Rattle.delos_types.specs.declared.entry.Entry.{Entry}
use Rattle.loglet_api.specs.View.{LogletView}
use Rattle.fabric_core.specs.Log.{numbers, virtual_log_at, virtual_log, virtual_tail, has_no_gap}
use Rattle.chain_map.specs.Chain.{first_chain}

-- an element, and the list from it on
pub record IsAt {A : Type 0} (xs : List A) (i : ℕ) : Type 0 where
  pub element : A
  pub is : slice_get xs i ≡ Some element
  pub rest : drop i xs ≡ element ∷ drop (suc i) xs

pub at : {A : Type 0} (xs : List A) (i : ℕ) → i < length xs → IsAt xs i
at [] i low = absurd (omega arith)
at (x ∷ xs) zero low = record { element = x; is = refl; rest = refl }
at (x ∷ xs) (suc i) low = let more = at xs i (omega arith) in record { element = more.element; is = more.is; rest = more.rest }

runs : (f : ℕ → Option Entry) (log : List Entry) (a k : ℕ) → ((p : ℕ) → p < a + k → f p ≡ slice_get log p) → a + k ≤ length log → filter_map f (numbers a k) ≡ take k (drop a log)
runs f log a zero each fits = refl
runs f log a (suc k) each fits =
    let here = at log a (omega arith) in
    let more = runs f log (a + 1) k (λ p low. each p (omega arith)) (omega arith) in
    let next : drop (a + 1) log ≡ drop (suc a) log = ap (λ i. drop i log) (add-one a) in
    rw (each a (omega arith), here.is, here.rest, more, next) refl

all_there : (f : ℕ → Option Entry) (log : List Entry) (a k : ℕ) → ((p : ℕ) → p < a + k → f p ≡ slice_get log p) → a + k ≤ length log → list_all (λ p. is_some (f p)) (numbers a k) ≡ true
all_there f log a zero each fits = refl
all_there f log a (suc k) each fits =
    let here = at log a (omega arith) in
    rw (each a (omega arith), here.is) (all_there f log (a + 1) k (λ p low. each p (omega arith)) (omega arith))

from_zero : (p : ℕ) → nat_le 0 p ≡ true
from_zero p = grind (arith, nat_tests)

below : (p n : ℕ) → p < n → nat_lt p n ≡ true
below p n low = grind (arith, nat_tests)

minus_zero : (n : ℕ) → n - 0 ≡ n
minus_zero n = omega arith

plus_zero : (n : ℕ) → 0 + n ≡ n
plus_zero n = omega arith

shown_at : (v : LogletView) (p : ℕ) → v.cut ≡ 0 → p < v.reach → virtual_log_at first_chain (v ∷ []) p ≡ slice_get v.log p
shown_at v p uncut low = rw (from_zero p, plus_zero v.reach, below p v.reach low, minus_zero p, uncut, from_zero p, minus_zero p) refl

-- nothing is trimmed, and all entries are answered for
pub log-whole : (v : LogletView) → v.cut ≡ 0 → v.reach ≡ length v.log → virtual_log first_chain (v ∷ []) 0 v.reach ≡ v.log
log-whole v uncut whole =
    let n : v.reach - 0 ≡ v.reach = minus_zero v.reach in
    let some = runs (virtual_log_at first_chain (v ∷ [])) v.log 0 v.reach (λ p low. shown_at v p uncut (omega arith)) (omega arith) in
    ap (λ k. filter_map (virtual_log_at first_chain (v ∷ [])) (numbers 0 k)) n ∙ some ∙ ap (λ k. take k v.log) whole ∙ take_all v.log
  where
    take_all : (log : List Entry) → take (length log) log ≡ log
    take_all log = grind (arith, common_steps)

pub tail-first_chain : (v : LogletView) → virtual_tail first_chain (v ∷ []) ≡ v.reach
tail-first_chain v = plus_zero v.reach

pub gap-whole : (v : LogletView) → v.cut ≡ 0 → v.reach ≡ length v.log → has_no_gap first_chain (v ∷ []) ≡ true
gap-whole v uncut whole =
    let n : virtual_tail first_chain (v ∷ []) - 0 ≡ v.reach = minus_zero _ ∙ plus_zero v.reach in
    ap (λ k. list_all (λ p. is_some (virtual_log_at first_chain (v ∷ []) p)) (numbers 0 k)) n
    ∙ all_there (virtual_log_at first_chain (v ∷ [])) v.log 0 v.reach (λ p low. shown_at v p uncut (omega arith)) (omega arith)
