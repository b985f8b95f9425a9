-- Stripes by their places.
use Rattle.std.proofs.Common.{◌≡◌, ◌≢◌, ℕ, zero, suc, ◌+◌, ◌<◌, ◌≤◌, List, [], ◌∷◌, length, map, take, drop, get_or, Some, refl, sym, ap, ◌∙◌, arith, min}
use Rattle.std.specs.Prelude.{slice_get}
use Rattle.loglet_api.specs.declared.call.Kind.TheVariants.{Striped}
use Rattle.loglet_api.specs.View.{LogletView}
use Rattle.striped_loglet.specs.Views.{total, least_of}
use Rattle.striped_loglet.specs.Shapes.{HasServer, kind_of_two, kind_by}
use Rattle.striped_loglet.proofs.Lists.{map_get, some_at}

pub got_at : {A : Type 0} (xs : List A) (i : ℕ) (x : A) → i < length xs → x ≡ get_or xs i x → slice_get xs i ≡ Some x
got_at [] i x l e = absurd (omega arith)
got_at (y ∷ ys) zero x l e = ap Some (sym e)
got_at (y ∷ ys) (suc i) x l e = got_at ys i x (omega arith) e

pub view_at : {A : Type 0} (view : A → LogletView) (xs : List A) (i : ℕ) (x : A) → i < length xs → x ≡ get_or xs i x → slice_get (map view xs) i ≡ Some (view x)
view_at view xs i x l e = map_get view xs i x (got_at xs i x l e)

pub length_view : {A : Type 0} (view : A → LogletView) (xs : List A) → length (map view xs) ≡ length xs
length_view view [] = refl
length_view view (x ∷ xs) = ap suc (length_view view xs)

total_drop' : (f : LogletView → ℕ) (vs : List LogletView) (i : ℕ) (v : LogletView) → slice_get vs i ≡ Some v → total f (drop i vs) ≡ f v + total f (drop (suc i) vs)
total_drop' f [] i v h = absurd (cc)
total_drop' f (w ∷ vs) zero v h = let same : w ≡ v = cc in rw same refl
total_drop' f (w ∷ vs) (suc i) v h = total_drop' f vs i v h

pub total_drop : {A : Type 0} (f : LogletView → ℕ) (view : A → LogletView) (xs : List A) (i : ℕ) (x : A) → i < length xs → x ≡ get_or xs i x → total f (drop i (map view xs)) ≡ f (view x) + total f (drop (i + 1) (map view xs))
total_drop f view xs i x l e = let n : i + 1 ≡ suc i = omega arith in rw n (total_drop' f (map view xs) i (view x) (view_at view xs i x l e))

drop_all : (f : LogletView → ℕ) (vs : List LogletView) (n : ℕ) → length vs ≤ n → total f (drop n vs) ≡ 0
drop_all f [] zero l = refl
drop_all f [] (suc n) l = refl
drop_all f (v ∷ vs) zero l = absurd (omega arith)
drop_all f (v ∷ vs) (suc n) l = drop_all f vs n (omega arith)

pub total_end : {A : Type 0} (f : LogletView → ℕ) (view : A → LogletView) (xs : List A) (n : ℕ) → length xs ≤ n → total f (drop n (map view xs)) ≡ 0
total_end f view xs n l = drop_all f (map view xs) n (let e : length (map view xs) ≡ length xs = length_view view xs in omega (arith, e, l))

total_take' : (f : LogletView → ℕ) (vs : List LogletView) (i : ℕ) (v : LogletView) → slice_get vs i ≡ Some v → total f (take (suc i) vs) ≡ total f (take i vs) + f v
total_take' f [] i v h = absurd (cc)
total_take' f (w ∷ vs) zero v h = let same : w ≡ v = cc in rw same (omega arith)
total_take' f (w ∷ vs) (suc i) v h = let more : total f (take (suc i) vs) ≡ total f (take i vs) + f v = total_take' f vs i v h in omega (arith, more)

pub total_take : {A : Type 0} (f : LogletView → ℕ) (view : A → LogletView) (xs : List A) (i : ℕ) (x : A) → i < length xs → x ≡ get_or xs i x → total f (take (i + 1) (map view xs)) ≡ total f (take i (map view xs)) + f (view x)
total_take f view xs i x l e = let n : i + 1 ≡ suc i = omega arith in rw n (total_take' f (map view xs) i (view x) (view_at view xs i x l e))

-- the last stripe has what is left
pub last : {A : Type 0} (view : A → LogletView) (xs : List A) (server i rest : ℕ) → i < length xs → length xs ≤ i + 1 → rest < total (λ v. v.servers) (drop i (map view xs)) → server ≡ total (λ v. v.servers) (take i (map view xs)) + rest → HasServer (map view xs) server i rest
last view xs server i rest l e below number =
    let at = some_at xs i l in
    let here : slice_get (map view xs) i ≡ Some (view at.0) = map_get view xs i at.0 at.1 in
    let split : total (λ v. v.servers) (drop i (map view xs)) ≡ (view at.0).servers + total (λ v. v.servers) (drop (suc i) (map view xs)) = total_drop' (λ v. v.servers) (map view xs) i (view at.0) here in
    let none : total (λ v. v.servers) (drop (suc i) (map view xs)) ≡ 0 = total_end (λ v. v.servers) view xs (suc i) (omega (arith, e)) in
    record { view = view at.0; is = here; below = omega (arith, below, split, none); number = number }

-- what is left of a list once one more of it is seen
drop_at : (vs : List LogletView) (i : ℕ) (v : LogletView) → slice_get vs i ≡ Some v → drop i vs ≡ v ∷ drop (suc i) vs
drop_at [] i v h = absurd (cc)
drop_at (w ∷ vs) zero v h = let same : w ≡ v = cc in ap (λ x. x ∷ vs) same
drop_at (w ∷ vs) (suc i) v h = drop_at vs i v h

pub drop_view : {A : Type 0} (view : A → LogletView) (xs : List A) (i : ℕ) (x : A) → i < length xs → x ≡ get_or xs i x → drop i (map view xs) ≡ view x ∷ drop (i + 1) (map view xs)
drop_view view xs i x l e = let n : i + 1 ≡ suc i = omega arith in rw n (drop_at (map view xs) i (view x) (view_at view xs i x l e))

drop_end : (vs : List LogletView) (n : ℕ) → length vs ≤ n → drop n vs ≡ []
drop_end [] zero l = refl
drop_end [] (suc n) l = refl
drop_end (v ∷ vs) zero l = absurd (omega arith)
drop_end (v ∷ vs) (suc n) l = drop_end vs n (omega arith)

pub end_view : {A : Type 0} (view : A → LogletView) (xs : List A) (n : ℕ) → length xs ≤ n → drop n (map view xs) ≡ []
end_view view xs n l = drop_end (map view xs) n (let e : length (map view xs) ≡ length xs = length_view view xs in omega (arith, e, l))

-- the least of a list, seen one number after another
pub least_again : (ns : List ℕ) (n : ℕ) → slice_get ns 0 ≡ Some n → least_of (n ∷ ns) ≡ least_of ns
least_again [] n h = absurd (cc)
least_again (k ∷ []) n h = let same : k ≡ n = cc in omega (arith, same)
least_again (k ∷ j ∷ ns) n h = let same : k ≡ n = cc in omega (arith, same)

pub least_step : (l x : ℕ) (ns : List ℕ) → least_of (min x l ∷ ns) ≡ least_of (l ∷ x ∷ ns)
least_step l x [] = omega arith
least_step l x (y ∷ ys) = omega arith

-- the kind of stripes
kind_of_more : (vs : List LogletView) → length vs ≢ 2 → kind_by vs ≡ Striped (length vs)
kind_of_more [] n = refl
kind_of_more (v ∷ []) n = refl
kind_of_more (v ∷ w ∷ []) n = absurd (n refl)
kind_of_more (v ∷ w ∷ x ∷ vs) n = refl

pub kind_of_many : {A : Type 0} (view : A → LogletView) (xs : List A) (n : ℕ) → n ≡ length xs → n ≢ 2 → Striped n ≡ kind_by (map view xs)
kind_of_many view xs n e many =
    let k : n ≡ length (map view xs) = e ∙ sym (length_view view xs) in
    ap (λ m. Striped m) k ∙ sym (kind_of_more (map view xs) (λ t. many (k ∙ t)))

kind_of_pair : (vs : List LogletView) (v w : LogletView) → length vs ≡ 2 → slice_get vs 0 ≡ Some v → slice_get vs 1 ≡ Some w → kind_of_two v.kind w.kind ≡ kind_by vs
kind_of_pair [] v w l a b = absurd (cc)
kind_of_pair (x ∷ []) v w l a b = absurd (cc)
kind_of_pair (x ∷ y ∷ []) v w l a b = let e : x ≡ v = cc in let f : y ≡ w = cc in rw (e, f) refl
kind_of_pair (x ∷ y ∷ z ∷ vs) v w l a b = absurd (omega (arith, l))

pub kind_of_both : {A : Type 0} (view : A → LogletView) (xs : List A) (a b : A) → length xs ≡ 2 → a ≡ get_or xs 0 a → b ≡ get_or xs 1 b → kind_of_two (view a).kind (view b).kind ≡ kind_by (map view xs)
kind_of_both view xs a b l ea eb = kind_of_pair (map view xs) (view a) (view b) (length_view view xs ∙ l) (view_at view xs 0 a (omega (arith, l)) ea) (view_at view xs 1 b (omega (arith, l)) eb)
