-- The log of a striped loglet, which stands in its stripes.
use Rattle.std.proofs.Common.{◌≡◌, inl, inr, ℕ, zero, suc, ◌+◌, ◌-◌, ◌*◌, ◌/◌, ◌%◌, ◌<◌, ◌≤◌, List, [], ◌∷◌, ◌++◌, length, drop, Option, Some, None, refl, sym, ap, ◌∙◌, arith}
use Rattle.std.specs.Prelude.{◌⊎◌, slice_get}
use Rattle.std.proofs.Math.Nat.{div-add-mod, mod-lt, mul-le-mul_left}
use Rattle.std.proofs.lemmas.Bool.{cases_lt}
use Rattle.delos_types.specs.declared.entry.Entry.{Entry}
use Rattle.loglet_api.specs.View.{LogletView}
use Rattle.stripe_rule.specs.Stripes.{covered, share}
use Rattle.stripe_rule.proofs.Shares.{share_covers, share_least}
use Rattle.striped_loglet.specs.Views.{entry_in, entry_at, listed, joined}
use Rattle.striped_loglet.specs.State.{State, count_of}
use Rattle.striped_loglet.specs.Going.{IsStriped}
use Rattle.striped_loglet.proofs.Lists.{some_at}

-- each position of a range has its entry
abbrev pub HasAll : List LogletView → ℕ → ℕ → Type 0
HasAll views p n = (q : ℕ) → p ≤ q → q < p + n → (e : Entry) × (entry_at views q ≡ Some e)

pub joined_length : (views : List LogletView) (p n : ℕ) → HasAll views p n → length (joined views p n) ≡ n
joined_length views p zero h = refl
joined_length views p (suc n) h =
    let here = h p (omega arith) (omega arith) in
    let more : length (joined views (suc p) n) ≡ n = joined_length views (suc p) n (λ q a b. h q (omega arith) (omega arith)) in
    rw here.1 (omega (arith, more))

pub joined_at : (views : List LogletView) (p n i : ℕ) → HasAll views p n → i < n → slice_get (joined views p n) i ≡ entry_at views (p + i)
joined_at views p zero i h l = absurd (omega arith)
joined_at views p (suc n) zero h l =
    let here = h p (omega arith) (omega arith) in
    let e : p + 0 ≡ p = omega arith in
    rw e (let first : listed (entry_at views p) ≡ here.0 ∷ [] = ap listed here.1 in ap (λ (es : List Entry). slice_get (es ++ joined views (suc p) n) 0) first ∙ sym here.1)
joined_at views p (suc n) (suc i) h l =
    let here = h p (omega arith) (omega arith) in
    let first : listed (entry_at views p) ≡ here.0 ∷ [] = ap listed here.1 in
    let e : suc p + i ≡ p + suc i = omega arith in
    ap (λ (es : List Entry). slice_get (es ++ joined views (suc p) n) (suc i)) first
    ∙ joined_at views (suc p) n i (λ q a b. h q (omega arith) (omega arith)) (omega arith) ∙ ap (λ k. entry_at views k) e

pub joined_same : (views more : List LogletView) (p n : ℕ) → ((q : ℕ) → p ≤ q → q < p + n → entry_at more q ≡ entry_at views q) → joined more p n ≡ joined views p n
joined_same views more p zero h = refl
joined_same views more p (suc n) h =
    let here : entry_at more p ≡ entry_at views p = h p (omega arith) (omega arith) in
    let rest : joined more (suc p) n ≡ joined views (suc p) n = joined_same views more (suc p) n (λ q a b. h q (omega arith) (omega arith)) in
    ap (λ x. listed x ++ joined more (suc p) n) here ∙ ap (λ es. listed (entry_at views p) ++ es) rest

pub joined_more : (views : List LogletView) (p n : ℕ) → joined views p (suc n) ≡ joined views p n ++ listed (entry_at views (p + n))
joined_more views p zero = let e : p + 0 ≡ p = omega arith in rw e (nil_right (listed (entry_at views p)))
  where
    nil_right : (xs : List Entry) → xs ++ [] ≡ xs
    nil_right [] = refl
    nil_right (x ∷ xs) = ap (λ ys. x ∷ ys) (nil_right xs)
joined_more views p (suc n) =
    let e : suc p + n ≡ p + suc n = omega arith in
    ap (λ es. listed (entry_at views p) ++ es) (joined_more views (suc p) n ∙ ap (λ k. joined views (suc p) n ++ listed (entry_at views k)) e)
    ∙ assoc (listed (entry_at views p)) (joined views (suc p) n) (listed (entry_at views (p + suc n)))
  where
    assoc : (xs ys zs : List Entry) → xs ++ (ys ++ zs) ≡ (xs ++ ys) ++ zs
    assoc [] ys zs = refl
    assoc (x ∷ xs) ys zs = ap (λ es. x ∷ es) (assoc xs ys zs)

-- a log from a later cut on
pub joined_drop : (views : List LogletView) (p k n : ℕ) → HasAll views p (k + n) → drop k (joined views p (k + n)) ≡ joined views (p + k) n
joined_drop views p zero n h = let e : p + 0 ≡ p = omega arith in let f : 0 + n ≡ n = omega arith in rw (e, f) refl
joined_drop views p (suc k) n h =
    let here = h p (omega arith) (omega arith) in
    let first : listed (entry_at views p) ≡ here.0 ∷ [] = ap listed here.1 in
    let f : suc k + n ≡ suc (k + n) = omega arith in
    let e : suc p + k ≡ p + suc k = omega arith in
    rw f (ap (λ (es : List Entry). drop (suc k) (es ++ joined views (suc p) (k + n))) first ∙ joined_drop views (suc p) k n (λ q a b. h q (omega arith) (omega arith)) ∙ ap (λ x. joined views x n) e)

pub joined_has : (views : List LogletView) (p n i : ℕ) (e : Entry) → slice_get (joined views p n) i ≡ Some e → (q : ℕ) × (entry_at views q ≡ Some e)
joined_has views p zero i e h = absurd (cc)
joined_has views p (suc n) i e h = by (entry_at views p) refl i h (λ k g. joined_has views (suc p) n k e g)
  where
    by : (x : Option Entry) → entry_at views p ≡ x → (i : ℕ) → slice_get (listed (entry_at views p) ++ joined views (suc p) n) i ≡ Some e
        → ((k : ℕ) → slice_get (joined views (suc p) n) k ≡ Some e → (q : ℕ) × (entry_at views q ≡ Some e)) → (q : ℕ) × (entry_at views q ≡ Some e)
    by None is i h more = more i (rw is at h)
    by (Some f) is zero h more = (p, is ∙ (rw is at h))
    by (Some f) is (suc i) h more = more i (rw is at h)

-- which entry of a stripe a position is
pub parts : (m p : ℕ) → m * (p / m) + p % m ≡ p
parts m p = div-add-mod p m

pub own_below : (m p : ℕ) → 0 < m → p % m < m
own_below m p some = mod-lt p some

-- a stripe has the entry of each position of the log that is its own
pub index_within : (m p size : ℕ) → 0 < m → p < size → p / m < share m (p % m) size
index_within m p size some l =
    let e : m * (p / m) + p % m ≡ p = parts m p in
    let c : size ≤ covered m (p % m) (share m (p % m) size) = share_covers m (p % m) size (own_below m p some) in
    strictly m (p / m) (share m (p % m) size) (omega (arith, e, c, l))
  where
    strictly : (m a b : ℕ) → m * a < m * b → a < b
    strictly m a b h = by (cases_lt a b)
      where
        by : ((a < b) ⊎ (b ≤ a)) → a < b
        by (inl l) = l
        by (inr l) = absurd (omega (arith, mul-le-mul_left m l))

pub index_behind : (m p cut : ℕ) → 0 < m → cut ≤ p → share m (p % m) cut ≤ p / m
index_behind m p cut some l = let e : m * (p / m) + p % m ≡ p = parts m p in share_least m (p % m) cut (p / m) (own_below m p some) (omega (arith, e))

pub entry_there : (s : State) → IsStriped s → (p : ℕ) → s.marks.cut ≤ p → p < s.marks.size → (e : Entry) × (entry_at s.views p ≡ Some e)
entry_there s h p le lt =
    let m = count_of s in
    let some : 0 < m = omega (arith, h.shaped.count.0) in
    let at = some_at s.views (p % m) (own_below m p some) in
    let v = at.0 in
    let ok = h.stripes (p % m) v at.1 in
    let low : share m (p % m) s.marks.cut ≤ p / m = index_behind m p s.marks.cut some le in
    let high : p / m < share m (p % m) s.marks.size = index_within m p s.marks.size some lt in
    let entry = some_at v.log (p / m - v.cut) (omega (arith, ok.cut, ok.size, low, high)) in
    (entry.0, ap (λ x. entry_in x (p / m)) at.1 ∙ entry.1)

pub log_there : (s : State) → IsStriped s → HasAll s.views s.marks.cut (s.marks.size - s.marks.cut)
log_there s h q a b = entry_there s h q a (omega (arith, h.cut, h.reach, h.firm))
