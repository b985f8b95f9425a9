-- Lists of which one item changes, sums over them and over tickets.
use Rattle.std.proofs.Common.{◌≡◌, ◌≢◌, ◌||◌, inl, inr, ℕ, zero, suc, ◌+◌, ◌*◌, ◌<◌, ◌≤◌, List, [], ◌∷◌, length, map, set, Option, Some, None, is_some, Bool, true, false, nat_eq, refl, sym, ap, ◌∙◌, arith}
use Rattle.std.specs.Prelude.{◌⊎◌, slice_get, if◌then◌else◌}
use Rattle.std.proofs.lemmas.Bool.Decides.{nat_tests}
use Rattle.std.proofs.lemmas.Bool.{cases_Bool, cases_lt}
use Rattle.std.proofs.Math.Nat.{mul-le-mul_left}
use Rattle.std.specs.Map.{lookup}
use Rattle.loglet_api.specs.View.{LogletView}
use Rattle.stripe_rule.specs.Stripes.{covered}
use Rattle.striped_loglet.specs.Views.{total, any_shut, least_of}
use Rattle.striped_loglet.specs.State.{open_below, put_first, sum_below}

pub map_get : {A C : Type 0} (g : A → C) (xs : List A) (i : ℕ) (x : A) → slice_get xs i ≡ Some x → slice_get (map g xs) i ≡ Some (g x)
map_get g [] i x h = absurd (cc)
map_get g (y ∷ ys) zero x h = let same : y ≡ x = cc in ap (λ z. Some (g z)) same
map_get g (y ∷ ys) (suc i) x h = map_get g ys i x h

pub map_set : {A C : Type 0} (g : A → C) (xs : List A) (i : ℕ) (x : A) → map g (set xs i x) ≡ set (map g xs) i (g x)
map_set g [] i x = refl
map_set g (y ∷ ys) zero x = refl
map_set g (y ∷ ys) (suc i) x = ap (λ zs. g y ∷ zs) (map_set g ys i x)

pub some_at : {A : Type 0} (xs : List A) (i : ℕ) → i < length xs → (x : A) × (slice_get xs i ≡ Some x)
some_at [] i h = absurd (omega arith)
some_at (x ∷ xs) zero h = (x, refl)
some_at (x ∷ xs) (suc i) h = some_at xs i (omega arith)

pub within : {A : Type 0} (xs : List A) (i : ℕ) (x : A) → slice_get xs i ≡ Some x → i < length xs
within [] i x h = absurd (cc)
within (y ∷ ys) zero x h = omega arith
within (y ∷ ys) (suc i) x h = let l : i < length ys = within ys i x h in omega arith

pub length_set : {A : Type 0} (xs : List A) (i : ℕ) (x : A) → length (set xs i x) ≡ length xs
length_set [] i x = refl
length_set (y ∷ ys) zero x = refl
length_set (y ∷ ys) (suc i) x = ap suc (length_set ys i x)

pub set_back : {A : Type 0} (xs : List A) (i : ℕ) (x : A) → slice_get xs i ≡ Some x → set xs i x ≡ xs
set_back [] i x h = absurd (cc)
set_back (y ∷ ys) zero x h = let same : x ≡ y = cc in ap (λ z. z ∷ ys) same
set_back (y ∷ ys) (suc i) x h = ap (λ zs. y ∷ zs) (set_back ys i x h)

pub set_here : {A : Type 0} (xs : List A) (i : ℕ) (x y : A) → slice_get xs i ≡ Some x → slice_get (set xs i y) i ≡ Some y
set_here [] i x y h = absurd (cc)
set_here (z ∷ zs) zero x y h = refl
set_here (z ∷ zs) (suc i) x y h = set_here zs i x y h

pub set_there : {A : Type 0} (xs : List A) (i j : ℕ) (y : A) → i ≢ j → slice_get (set xs i y) j ≡ slice_get xs j
set_there [] i j y n = refl
set_there (z ∷ zs) zero zero y n = absurd (n refl)
set_there (z ∷ zs) zero (suc j) y n = refl
set_there (z ∷ zs) (suc i) zero y n = refl
set_there (z ∷ zs) (suc i) (suc j) y n = set_there zs i j y (λ e. n (ap suc e))

same_or_not : (i j : ℕ) → (i ≡ j) ⊎ (i ≢ j)
same_or_not i j = elim (cases_Bool (nat_eq i j)) [ inl t ↦ inl (grind (arith, nat_tests)) | inr f ↦ inr (λ e. absurd (grind (arith, nat_tests))) ]

pub either : (i j : ℕ) → (i ≡ j) ⊎ (i ≢ j)
either = same_or_not

some_same : {A : Type 0} (x y : A) → Some x ≡ Some y → x ≡ y
some_same x y h = cc

-- an item of the changed list is the new one, or stood there before
pub set_get : {A : Type 0} (xs : List A) (i j : ℕ) (x y z : A) → slice_get xs i ≡ Some x → slice_get (set xs i y) j ≡ Some z → ((i ≡ j) × (y ≡ z)) ⊎ ((i ≢ j) × (slice_get xs j ≡ Some z))
set_get xs i j x y z at h = by (same_or_not i j)
  where
    by : ((i ≡ j) ⊎ (i ≢ j)) → ((i ≡ j) × (y ≡ z)) ⊎ ((i ≢ j) × (slice_get xs j ≡ Some z))
    by (inl e) = inl (e, some_same y z (sym (set_here xs i x y at) ∙ ap (λ k. slice_get (set xs i y) k) e ∙ h))
    by (inr n) = inr (n, sym (set_there xs i j y n) ∙ h)

pub total_set : (f : LogletView → ℕ) (xs : List LogletView) (i : ℕ) (x y : LogletView) → slice_get xs i ≡ Some x → total f (set xs i y) + f x ≡ total f xs + f y
total_set f [] i x y h = absurd (cc)
total_set f (z ∷ zs) zero x y h = let same : f z ≡ f x = ap f (some_same z x h) in omega arith
total_set f (z ∷ zs) (suc i) x y h = let more : total f (set zs i y) + f x ≡ total f zs + f y = total_set f zs i x y h in omega (arith, more)

pub total_at : (f : LogletView → ℕ) (xs : List LogletView) (i : ℕ) (x : LogletView) → slice_get xs i ≡ Some x → f x ≤ total f xs
total_at f [] i x h = absurd (cc)
total_at f (z ∷ zs) zero x h = let same : f z ≡ f x = ap f (some_same z x h) in omega arith
total_at f (z ∷ zs) (suc i) x h = let more : f x ≤ total f zs = total_at f zs i x h in omega (arith, more)

pub total_below : (f g : LogletView → ℕ) (xs : List LogletView) → ((i : ℕ) (x : LogletView) → slice_get xs i ≡ Some x → f x ≤ g x) → total f xs ≤ total g xs
total_below f g [] h = omega arith
total_below f g (z ∷ zs) h = let more : total f zs ≤ total g zs = total_below f g zs (λ i x e. h (suc i) x e) in let here : f z ≤ g z = h 0 z refl in omega (arith, more, here)

pub map_same : {C : Type 0} (f : LogletView → C) (xs : List LogletView) (i : ℕ) (x y : LogletView) → slice_get xs i ≡ Some x → f y ≡ f x → map f (set xs i y) ≡ map f xs
map_same f xs i x y h e = map_set f xs i y ∙ ap (λ z. set (map f xs) i z) e ∙ set_back (map f xs) i (f x) (map_get f xs i x h)

pub least_at : (f : LogletView → ℕ) (xs : List LogletView) (i : ℕ) (x : LogletView) → slice_get xs i ≡ Some x → least_of (map f xs) ≤ f x
least_at f [] i x h = absurd (cc)
least_at f (z ∷ []) zero x h = let same : f z ≡ f x = ap f (some_same z x h) in omega arith
least_at f (z ∷ []) (suc i) x h = absurd (cc)
least_at f (z ∷ y ∷ zs) zero x h = let same : f z ≡ f x = ap f (some_same z x h) in omega arith
least_at f (z ∷ y ∷ zs) (suc i) x h = let more : least_of (map f (y ∷ zs)) ≤ f x = least_at f (y ∷ zs) i x h in omega (arith, more)

pub least_some : (f : LogletView → ℕ) (xs : List LogletView) → 0 < length xs → ((i : ℕ) (x : LogletView) → slice_get xs i ≡ Some x → 1 ≤ f x) → 1 ≤ least_of (map f xs)
least_some f [] some h = absurd (omega arith)
least_some f (z ∷ []) some h = h 0 z refl
least_some f (z ∷ y ∷ zs) some h = let more : 1 ≤ least_of (map f (y ∷ zs)) = least_some f (y ∷ zs) (omega arith) (λ i x e. h (suc i) x e) in let here : 1 ≤ f z = h 0 z refl in omega (arith, more, here)

or_right : (a b : Bool) → b ≡ true → (a || b) ≡ true
or_right true b h = refl
or_right false b h = h

pub shut_any : (xs : List LogletView) (i : ℕ) (x : LogletView) → slice_get xs i ≡ Some x → x.shut ≡ true → any_shut xs ≡ true
shut_any [] i x h s = absurd (cc)
shut_any (z ∷ zs) zero x h s = let same : z.shut ≡ true = ap (λ v. v.shut) (some_same z x h) ∙ s in rw same refl
shut_any (z ∷ zs) (suc i) x h s = or_right z.shut (any_shut zs) (shut_any zs i x h s)

pub any_shut_at : (xs : List LogletView) → any_shut xs ≡ true → (i : ℕ) × (x : LogletView) × (slice_get xs i ≡ Some x) × (x.shut ≡ true)
any_shut_at [] s = absurd (cc)
any_shut_at (z ∷ zs) s =
    elim (cases_Bool z.shut) [
      | inl t ↦ (0, z, refl, t)
      | inr f ↦ (let more = any_shut_at zs (rw f at s) in (suc more.0, more.1, more.2, more.3))
    ]

pub none_shut : (xs : List LogletView) → ((i : ℕ) (x : LogletView) → slice_get xs i ≡ Some x → x.shut ≡ false) → any_shut xs ≡ false
none_shut [] h = refl
none_shut (z ∷ zs) h = let here : z.shut ≡ false = h 0 z refl in rw here (none_shut zs (λ i x e. h (suc i) x e))

-- a greater length covers more
pub covered_later : (m k i a b t : ℕ) → k ≡ m → a ≤ b → t ≤ covered m i a → t ≤ covered k i b
covered_later m k i a b t e le h = let more : m * a ≤ m * b = mul-le-mul_left m le in rw e (omega (arith, more, h))

pub sum_below_same : (f g : ℕ → ℕ) (n : ℕ) → ((q : ℕ) → q < n → g q ≡ f q) → sum_below g n ≡ sum_below f n
sum_below_same f g zero h = refl
sum_below_same f g (suc n) h = let here : g n ≡ f n = h n (omega arith) in let more : sum_below g n ≡ sum_below f n = sum_below_same f g n (λ q l. h q (omega arith)) in omega (arith, here, more)

pub sum_below_put : (f g : ℕ → ℕ) (t n : ℕ) → t < n → ((q : ℕ) → t ≢ q → g q ≡ f q) → sum_below g n + f t ≡ sum_below f n + g t
sum_below_put f g t zero l h = absurd (omega arith)
sum_below_put f g t (suc n) l h =
    elim (same_or_not t n) [
      | inl e ↦ (let rest : sum_below g n ≡ sum_below f n = sum_below_same f g n (λ q lt. h q (λ same. absurd (omega arith))) in rw e (omega (arith, rest)))
      | inr d ↦ (let here : g n ≡ f n = h n d in
          let more : sum_below g n + f t ≡ sum_below f n + g t = sum_below_put f g t n (omega (arith, d)) h in omega (arith, here, more))
    ]

pub sum_below_at : (f : ℕ → ℕ) (t n : ℕ) → t < n → f t ≤ sum_below f n
sum_below_at f t zero l = absurd (omega arith)
sum_below_at f t (suc n) l =
    elim (same_or_not t n) [
      | inl e ↦ rw e (omega arith)
      | inr d ↦ (let more : f t ≤ sum_below f n = sum_below_at f t n (omega (arith, d)) in omega (arith, more))
    ]

-- what a look-up finds among the open operations
module _ {A : Type 0} where
  found_first : (q t : ℕ) (o : Option A) (rest : List (ℕ × A)) → lookup (nat_eq q) (put_first t o rest) ≡ (if nat_eq q t then (if is_some o then o else lookup (nat_eq q) rest) else lookup (nat_eq q) rest)
  found_first q t None rest = elim (cases_Bool (nat_eq q t)) [ inl s ↦ rw s refl | inr d ↦ rw d refl ]
  found_first q t (Some o) rest = elim (cases_Bool (nat_eq q t)) [ inl s ↦ rw s refl | inr d ↦ rw d refl ]

  pub open_above : (f : ℕ → Option A) (n q : ℕ) → n ≤ q → lookup (nat_eq q) (open_below f n) ≡ None
  open_above f zero q l = refl
  open_above f (suc n) q l = let d : nat_eq q n ≡ false = grind (arith, nat_tests) in found_first q n (f n) (open_below f n) ∙ rw d (open_above f n q (omega arith))

  some_else : (o : Option A) (x : Option A) → x ≡ None → (if is_some o then o else x) ≡ o
  some_else None x e = e
  some_else (Some o) x e = refl

  open_within : (f : ℕ → Option A) (n q : ℕ) → q < n → lookup (nat_eq q) (open_below f n) ≡ f q
  open_within f zero q l = absurd (omega arith)
  open_within f (suc n) q l =
      elim (same_or_not q n) [
        | inl e ↦ (let s : nat_eq q n ≡ true = grind (arith, nat_tests) in
            found_first q n (f n) (open_below f n) ∙ rw s (some_else (f n) (lookup (nat_eq q) (open_below f n)) (open_above f n q (omega arith))) ∙ ap f (sym e))
        | inr d ↦ (let s : nat_eq q n ≡ false = grind (arith, nat_tests) in
            found_first q n (f n) (open_below f n) ∙ rw s (open_within f n q (omega (arith, d))))
      ]

  pub open_is : (f : ℕ → Option A) (n q : ℕ) → ((t : ℕ) → n ≤ t → f t ≡ None) → lookup (nat_eq q) (open_below f n) ≡ f q
  open_is f n q none = elim (cases_lt q n) [ inl l ↦ open_within f n q l | inr l ↦ open_above f n q l ∙ sym (none q l) ]

pub total_same : (f : LogletView → ℕ) (xs : List LogletView) (i : ℕ) (x y : LogletView) → slice_get xs i ≡ Some x → f y ≡ f x → total f (set xs i y) ≡ total f xs
total_same f xs i x y h e = let all : total f (set xs i y) + f x ≡ total f xs + f y = total_set f xs i x y h in omega (arith, all, e)

pub same_shut : (xs : List LogletView) (i : ℕ) (x y : LogletView) → slice_get xs i ≡ Some x → y.shut ≡ x.shut → any_shut (set xs i y) ≡ any_shut xs
same_shut [] i x y h e = absurd (cc)
same_shut (z ∷ zs) zero x y h e = let same : y.shut ≡ z.shut = e ∙ ap (λ (v : LogletView). v.shut) (sym (some_same z x h)) in rw same refl
same_shut (z ∷ zs) (suc i) x y h e = let rest : any_shut (set zs i y) ≡ any_shut zs = same_shut zs i x y h e in rw rest refl

-- where one stripe has a server up, one of all is
pub total_less : (xs : List LogletView) (i : ℕ) (x : LogletView) → slice_get xs i ≡ Some x → ((k : ℕ) (v : LogletView) → slice_get xs k ≡ Some v → v.down ≤ v.servers) → x.down < x.servers → total (λ v. v.down) xs < total (λ v. v.servers) xs
total_less [] i x h all l = absurd (cc)
total_less (z ∷ zs) zero x h all l =
    let same : z ≡ x = some_same z x h in
    let rest : total (λ v. v.down) zs ≤ total (λ v. v.servers) zs = total_below (λ v. v.down) (λ v. v.servers) zs (λ k v e. all (suc k) v e) in
    let here : z.down < z.servers = rw same l in
    omega (arith, rest, here)
total_less (z ∷ zs) (suc i) x h all l =
    let rest : total (λ v. v.down) zs < total (λ v. v.servers) zs = total_less zs i x h (λ k v e. all (suc k) v e) l in
    let here : z.down ≤ z.servers = all 0 z refl in
    omega (arith, rest, here)
