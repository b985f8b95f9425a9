-- Lists whose first element is taken out, and lists that are put together again.
use Rattle.std.proofs.Common.{◌≡◌, refl, sym, ap, ◌∙◌, subst, ℕ, zero, suc, ◌+◌, ◌<◌, List, [], ◌∷◌, ◌++◌, Some, length, map, slice_index_or, append-nil, append_assoc, get_or, drop, replicate, arith}
use Rattle.std.specs.Prelude.{slice_get, remove}
use Rattle.std.proofs.lemmas.List.{map-append, length-map}

-- what is left stands behind the element that was taken
pub taken_first : {A : Type 0} (xs : List A) (x : A) → 0 < length xs → x ≡ slice_index_or xs 0 x → xs ≡ x ∷ remove xs 0
taken_first [] x some is = absurd (omega (arith, some))
taken_first (y ∷ ys) x some is = ap (λ z. z ∷ ys) (sym is)

pub first_is : {A : Type 0} (xs ys : List A) (x : A) → xs ≡ x ∷ ys → slice_get xs 0 ≡ Some x
first_is xs ys x is = ap (λ l. slice_get l 0) is

pub next_is : {A : Type 0} (xs ys : List A) (x y : A) (j : ℕ) → xs ≡ x ∷ ys → slice_get ys j ≡ Some y → slice_get xs (j + 1) ≡ Some y
next_is xs ys x y j is at =
    let one : j + 1 ≡ suc j = omega arith in
    ap (λ l. slice_get l (j + 1)) is ∙ (ap (slice_get (x ∷ ys)) one ∙ at)

-- the last of the first ones is the first of the others
pub moves : {A B C : Type 0} (f : A → C) (g : B → C) (done : List A) (rest : List B) (x : A) (y : B) → f x ≡ g y → map f (done ++ x ∷ []) ++ map g rest ≡ map f done ++ map g (y ∷ rest)
moves f g done rest x y same =
    ap (λ l. l ++ map g rest) (map-append f done (x ∷ []))
    ∙ (append_assoc (map f done) (f x ∷ []) (map g rest)
    ∙ ap (λ z. map f done ++ z ∷ map g rest) same)

-- one element goes from the rest to what was done
pub goes_over : {A B C : Type 0} (f : A → C) (g : B → C) (done : List A) (rest rest' : List B) (x : A) (y : B) (all : List C) → f x ≡ g y → rest ≡ y ∷ rest' → map f done ++ map g rest ≡ all → map f (done ++ x ∷ []) ++ map g rest' ≡ all
goes_over f g done rest rest' x y all same is before = moves f g done rest' x y same ∙ (ap (λ l. map f done ++ map g l) (sym is) ∙ before)

-- .. and back
pub goes_back : {A B C : Type 0} (f : A → C) (g : B → C) (done done' : List A) (rest rest' : List B) (x : A) (y : B) (all : List C) → g y ≡ f x → done ≡ done' ++ x ∷ [] → rest' ≡ y ∷ rest → map f done ++ map g rest ≡ all → map f done' ++ map g rest' ≡ all
goes_back f g done done' rest rest' x y all same was is before =
    ap (λ l. map f done' ++ map g l) is
    ∙ (sym (moves f g done' rest x y (sym same)) ∙ (ap (λ l. map f l ++ map g rest) (sym was) ∙ before))

-- all of them are there
pub all_there : {A B C : Type 0} (f : A → C) (g : B → C) (done : List A) (rest : List B) (all : List C) → done ≡ [] → map f done ++ map g rest ≡ all → map g rest ≡ all
all_there f g done rest all none before = ap (λ l. map f l ++ map g rest) (sym none) ∙ before

-- none is left
pub all_over : {A B C : Type 0} (f : A → C) (g : B → C) (done : List A) (rest : List B) (all : List C) → rest ≡ [] → map f done ++ map g rest ≡ all → map f done ≡ all
all_over f g done rest all none before = sym (append-nil (map f done)) ∙ (ap (λ l. map f done ++ map g l) (sym none) ∙ before)

-- of each element by its number, the one that was added included
pub each_push : {A : Type 0} (P : ℕ → A → Type 0) (xs : List A) (x : A) → ((j : ℕ) (w : A) → slice_get xs j ≡ Some w → P j w) → P (length xs) x → (j : ℕ) (w : A) → slice_get (xs ++ x ∷ []) j ≡ Some w → P j w
each_push P [] x h p zero w at = let same : x ≡ w = cc in subst (P 0) same p
each_push P [] x h p (suc j) w at = absurd (cc)
each_push P (y ∷ ys) x h p zero w at = h zero w at
each_push P (y ∷ ys) x h p (suc j) w at = each_push (λ k v. P (suc k) v) ys x (λ k v e. h (suc k) v e) p j w at

-- of each element and the one beside it in another list, by their number, the one that was added included
pub pairs_push : {A B : Type 0} (R : A → B → Type 0) (xs : List A) (x : A) (ys : List B) (y : B) → ((j : ℕ) (a : A) → slice_get xs j ≡ Some a → (b : B) → slice_get ys j ≡ Some b → R a b)
    → slice_get ys (length xs) ≡ Some y → R x y → (j : ℕ) (a : A) → slice_get (xs ++ x ∷ []) j ≡ Some a → (b : B) → slice_get ys j ≡ Some b → R a b
pairs_push {A} {B} R xs x ys y before at here =
    each_push (λ j a. (b : B) → slice_get ys j ≡ Some b → R a b) xs x before
    (λ b has.
    let both : Some y ≡ Some b = sym at ∙ has in
    let same : y ≡ b = cc in
    subst (R x) same here)

-- the first of those that are left, and the others
pub drop_first : {A : Type 0} (i : ℕ) (xs ys : List A) (y : A) → y ∷ ys ≡ drop i xs → (slice_get xs i ≡ Some y) × (ys ≡ drop (i + 1) xs)
drop_first zero [] ys y is = absurd (cc)
drop_first zero (x ∷ xs) ys y is = let same : y ≡ x = cc in let rest : ys ≡ xs = cc in (ap Some (sym same), rest)
drop_first (suc i) [] ys y is = absurd (cc)
drop_first (suc i) (x ∷ xs) ys y is =
    let next = drop_first i xs ys y is in
    let one : suc i + 1 ≡ suc (i + 1) = omega arith in
    (next.0, next.1 ∙ ap (λ k. drop k (x ∷ xs)) (sym one))

-- Lists that show the same

pub as_long : {A B C : Type 0} (f : A → C) (g : B → C) (xs : List A) (ys : List B) → map f xs ≡ map g ys → length xs ≡ length ys
as_long f g xs ys same = sym (length-map xs f) ∙ (ap length same ∙ length-map ys g)

twice : {A B C : Type 0} (f : A → B) (g : B → C) (xs : List A) → map g (map f xs) ≡ map (λ x. g (f x)) xs
twice f g [] = refl
twice f g (x ∷ xs) = ap (λ l. g (f x) ∷ l) (twice f g xs)

pub shown_same : {A B C D : Type 0} (f : A → C) (g : B → C) (show : C → D) (xs : List A) (ys : List B) → map f xs ≡ map g ys → map (λ x. show (f x)) xs ≡ map (λ y. show (g y)) ys
shown_same f g show xs ys same = sym (twice f show xs) ∙ (ap (map show) same ∙ twice g show ys)

pub all_zero : (n s : ℕ) → ◌≡◌ {A = ℕ} (get_or {A = ℕ} (replicate n 0) s 0) 0
all_zero zero s = refl
all_zero (suc n) zero = refl
all_zero (suc n) (suc s) = all_zero n s

-- nothing stood behind
pub none_behind : {A B C : Type 0} (f : A → C) (g : B → C) (front : List A) (rest : List B) (made : List C) → made ≡ map f front ++ map g rest → rest ≡ [] → made ≡ map f front
none_behind f g front rest made is none = is ∙ (ap (λ l. map f front ++ map g l) none ∙ append-nil (map f front))

-- what was taken came back, or the like of it
pub put_back : {A B C : Type 0} (f : A → C) (g : B → C) (done : List A) (rest rest' back : List B) (x y : B) (all made : List C) → made ≡ map f done ++ map g back → back ≡ y ∷ rest' → g y ≡ g x → rest ≡ x ∷ rest' → map f done ++ map g rest ≡ all → made ≡ all
put_back f g done rest rest' back x y all made is stands same was before =
    is
    ∙ (ap (λ l. map f done ++ map g l) stands
    ∙ (ap (λ z. map f done ++ z ∷ map g rest') same
    ∙ (ap (λ l. map f done ++ map g l) (sym was) ∙ before)))

-- Elements of two lists that stand at the same place

-- R holds of each pair of them
abbrev pub Beside : {D : Type 0} → (D → D → Type 0) → List D → List D → Type 0
Beside {D} R olds news = (j : ℕ) (x : D) → slice_get olds j ≡ Some x → (y : D) → slice_get news j ≡ Some y → R x y

beside_itself : {D : Type 0} (R : D → D → Type 0) (xs : List D) → ((x : D) → R x x) → Beside R xs xs
beside_itself R xs same j x at y at' =
    let both : Some x ≡ Some y = sym at ∙ at' in
    let one : x ≡ y = cc in
    subst (R x) one (same x)

-- the first of some were made others, the next one shows d now, and those behind it stayed
pub each_beside : {A B D : Type 0} (R : D → D → Type 0) (f : B → D) (g : A → D) (all : List B) (done : List A) (rest : List B) (k : B) (d : D) → ((x : D) → R x x)
    → ((j : ℕ) (n : A) → slice_get done j ≡ Some n → (b : B) → slice_get all j ≡ Some b → R (f b) (g n)) → k ∷ rest ≡ drop (length done) all → R (f k) d → Beside R (map f all) (map g done ++ d ∷ map f rest)
each_beside R f g [] [] rest k d same h is r j x at y at' = absurd (cc)
each_beside R f g [] (n ∷ ns) rest k d same h is r j x at y at' = absurd (cc)
each_beside R f g (a ∷ bs) [] rest k d same h is r zero x at y at' =
    let first : k ≡ a = cc in
    let old : f a ≡ x = cc in
    let new : d ≡ y = cc in
    subst (λ z. R z y) (ap f first ∙ old) (subst (R (f k)) new r)
each_beside R f g (a ∷ bs) [] rest k d same h is r (suc j) x at y at' =
    let behind : rest ≡ bs = cc in
    beside_itself R (map f bs) same j x at y (ap (λ l. slice_get (map f l) j) (sym behind) ∙ at')
each_beside R f g (a ∷ bs) (n ∷ ns) rest k d same h is r zero x at y at' =
    let old : f a ≡ x = cc in
    let new : g n ≡ y = cc in
    subst (λ z. R z y) old (subst (R (f a)) new (h zero n refl a refl))
each_beside R f g (a ∷ bs) (n ∷ ns) rest k d same h is r (suc j) x at y at' = each_beside R f g bs ns rest k d same (λ i m e b e'. h (suc i) m e b e') is r j x at y at'

get_map : {A B : Type 0} (f : A → B) (xs : List A) (j : ℕ) (x : A) → slice_get xs j ≡ Some x → slice_get (map f xs) j ≡ Some (f x)
get_map f [] j x at = absurd (cc)
get_map f (y ∷ ys) zero x at = let same : y ≡ x = cc in ap (λ z. Some (f z)) same
get_map f (y ∷ ys) (suc j) x at = get_map f ys j x at

-- so of the elements that show them
pub beside_by : {B D : Type 0} (R : D → D → Type 0) (f : B → D) (olds news : List B) (shows : List D) → Beside R (map f olds) shows → map f news ≡ shows → (j : ℕ) (k : B) → slice_get olds j ≡ Some k → (k' : B) → slice_get news j ≡ Some k' → R (f k) (f k')
beside_by R f olds news shows h is j k at k' at' = h j (f k) (get_map f olds j k at) (f k') (ap (λ l. slice_get l j) (sym is) ∙ get_map f news j k' at')
