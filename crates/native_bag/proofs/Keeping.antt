-- What a bag shows once a copy was kept or dropped.
use Rattle.std.proofs.Common.{◌≡◌, ℕ, zero, suc, ◌+◌, ◌-◌, take, ◌<◌, ◌≤◌, Bool, true, false, refl, sym, ◌∙◌, ap, subst, arith, List, [], ◌∷◌, ◌++◌, length, length-append, get_or, Option, Some, None}
use Rattle.std.specs.Prelude.{Result, Ok, Err, OnOk, OnErr, IsSome, is_some, is_ok, nat_lt, slice_get, slice_index_or, if◌then◌else◌}
use Rattle.std.specs.List.{AllByRecursion}
use Rattle.std.proofs.lemmas.Bool.{false≢true, lt-ltb, ltb-true}
use Rattle.std.proofs.lemmas.List.Elements.{filter_map-append}
use Rattle.std.proofs.Math.Seq.{take-append_seam}
use Rattle.slab.specs.Slab.{Slab, get, Updates}
use Rattle.native_bag.specs.Bags.{most_strays, kept_with}
use Rattle.native_bag.specs.Keys.{AreApart, kept_of, IsSound, Stands}

-- what holds in any case holds after a failure
pub err_of : {T E P : Type 0} (r : Result T E) → P → OnErr r P
err_of (Ok x) p = tt
err_of (Err e) p = p

-- and what holds in both cases holds
pub in_both : {T E P : Type 0} (r : Result T E) → OnOk r P → OnErr r P → P
in_both (Ok x) p q = p
in_both (Err e) p q = q

pub ok_then : {T E P Q : Type 0} (r : Result T E) → (P → Q) → OnOk r P → OnOk r Q
ok_then (Ok x) f p = f p
ok_then (Err e) f p = tt

pub err_then : {T E P Q : Type 0} (r : Result T E) → (P → Q) → OnErr r P → OnErr r Q
err_then (Ok x) f p = tt
err_then (Err e) f p = f p

pub pushed : {T E : Type 0} (r : Result T E) (x : T) → r ≡ Ok x → (new all old : List ℕ) → new ≡ (if is_ok r then all else old) → new ≡ all
pushed r x e new all old h = rw e at h

all_push : {X : Type 0} (P : X → Type 0) (xs : List X) (x : X) → AllByRecursion P xs → P x → AllByRecursion P (xs ++ x ∷ [])
all_push P [] x h k = (k, tt)
all_push P (y ∷ xs) x h k = (h.0, all_push P xs x h.1 k)

last_of : (P : ℕ → Type 0) (rest : List ℕ) (key : ℕ) → AllByRecursion P (rest ++ key ∷ []) → AllByRecursion P rest × P key
last_of P [] key h = (tt, h.0)
last_of P (k ∷ rest) key h = (let more = last_of P rest key h.1 in ((h.0, more.0), more.1))

-- a full bag keeps no more
pub full_keeps : {M : Type 0} (copy : M) (xs : List M) → most_strays ≤ length xs → xs ≡ kept_with copy xs
full_keeps copy xs full = by (nat_lt (length xs) most_strays) refl
  where
    by : (b : Bool) → nat_lt (length xs) most_strays ≡ b → xs ≡ (if b then xs ++ copy ∷ [] else xs)
    by true e = absurd (let under : length xs < most_strays = ltb-true _ _ e in omega (arith, under, full))
    by false e = refl

pub room_keeps : {M : Type 0} (copy : M) (xs : List M) → length xs < most_strays → kept_with copy xs ≡ xs ++ copy ∷ []
room_keeps copy xs room = rw (lt-ltb (length xs) most_strays room) refl

module _ {M : Type 0} where
  abbrev pub Same : Slab M → Slab M → ℕ → Type 0
  Same s z k = get z k ≡ get s k

  there_same : (s z : Slab M) (ks : List ℕ) → AllByRecursion (Same s z) ks → AllByRecursion (λ k. IsSome (get s k)) ks → AllByRecursion (λ k. IsSome (get z k)) ks
  there_same s z [] h t = tt
  there_same s z (k ∷ ks) h t = (rw h.0 t.0, there_same s z ks h.1 t.1)

  kept_same : (s z : Slab M) (ks : List ℕ) → AllByRecursion (Same s z) ks → kept_of z ks ≡ kept_of s ks
  kept_same s z [] h = refl
  kept_same s z (k ∷ ks) h = rw (h.0, kept_same s z ks h.1) refl

  -- each keeps what it had where another key was vacant
  none_there : (s : Slab M) (k key : ℕ) → get s key ≡ None → IsSome (get s k) → k ≡ key → ⊥
  none_there s k key vacant some same = (let has : IsSome (get s key) = subst (λ (j : ℕ). IsSome (get s j)) same some in false≢true (sym (ap is_some vacant) ∙ has))

  all_vacant : (s z : Slab M) (key : ℕ) (slot : Option M) (ks : List ℕ) → get s key ≡ None → Updates s z key slot → AllByRecursion (λ k. IsSome (get s k)) ks → AllByRecursion (Same s z) ks
  all_vacant s z key slot [] vacant up h = tt
  all_vacant s z key slot (k ∷ ks) vacant up h = (up.others k (none_there s k key vacant h.0), all_vacant s z key slot ks vacant up h.1)

  apart_push : (s : Slab M) (ks : List ℕ) (key : ℕ) → get s key ≡ None → AllByRecursion (λ k. IsSome (get s k)) ks → AreApart ks → AreApart (ks ++ key ∷ [])
  apart_push s [] key vacant h a = (tt, tt)
  apart_push s (k ∷ ks) key vacant h a = (all_push (λ j. j ≡ k → ⊥) ks key a.0 (λ same. none_there s k key vacant h.0 (sym same)), apart_push s ks key vacant h.1 a.1)

  -- nor does it where room was made
  all_slots : (s z : Slab M) (ks : List ℕ) → z.slots ≡ s.slots → AllByRecursion (Same s z) ks
  all_slots s z [] e = tt
  all_slots s z (k ∷ ks) e = (ap (λ (xs : List (Option M)). slice_index_or xs k None) e, all_slots s z ks e)

  -- one copy more
  pub keeps_in : (key : ℕ) (m : M) (s z y : Slab M) (ks all : List ℕ) → length ks < most_strays → z.slots ≡ s.slots → get z key ≡ None → Updates z y key (Some m) → all ≡ ks ++ key ∷ [] → IsSound s ks → Stands y all (kept_of s ks ++ m ∷ [])
  keeps_in key m s z y ks all room slots vacant up is h =
      let before : AllByRecursion (λ k. get z k ≡ get s k) ks = all_slots s z ks slots in
      let held : AllByRecursion (λ k. IsSome (get z k)) ks = there_same s z ks before h.there in
      let same : AllByRecursion (Same z y) ks = all_vacant z y key (Some m) ks vacant up held in
      let many : length all ≡ length ks + 1 = ap (λ (xs : List ℕ). length xs) is ∙ length-append ks (key ∷ []) in
      record {
        sound = record { there = rw is (all_push (λ k. IsSome (get y k)) ks key (there_same z y ks same held) (ap is_some up.changed)); apart = rw is (apart_push z ks key vacant held h.apart); few = omega (arith, room, many) };
        are = rw is (filter_map-append (get y) ks (key ∷ []) ∙ rw (up.changed, kept_same z y ks same, kept_same s z ks before) refl);
      }

  -- and one copy less
  firsts_apart : (s z : Slab M) (key : ℕ) (slot : Option M) (rest : List ℕ) → Updates s z key slot → AreApart (rest ++ key ∷ []) → AllByRecursion (Same s z) rest × AreApart rest
  firsts_apart s z key slot [] up a = (tt, tt)
  firsts_apart s z key slot (k ∷ rest) up a =
      let more = firsts_apart s z key slot rest up a.1 in
      let now = last_of (λ j. j ≡ k → ⊥) rest key a.0 in
      ((up.others k (λ same. now.1 (sym same)), more.0), (now.0, more.1))

  kept_firsts : (s : Slab M) (rest : List ℕ) (key : ℕ) (slot : Option M) → get s key ≡ slot → IsSome slot → take (length (kept_of s (rest ++ key ∷ [])) - 1) (kept_of s (rest ++ key ∷ [])) ≡ kept_of s rest
  kept_firsts s rest key None e some = absurd (false≢true some)
  kept_firsts s rest key (Some m) e some =
      let all : kept_of s (rest ++ key ∷ []) ≡ kept_of s rest ++ m ∷ [] = filter_map-append (get s) rest (key ∷ []) ∙ rw e refl in
      let long : length (kept_of s rest ++ m ∷ []) - 1 ≡ length (kept_of s rest) = rw (length-append (kept_of s rest) (m ∷ [])) (omega arith) in
      rw (all, long) (take-append_seam (kept_of s rest) (m ∷ []))

  pub drops_in : (key : ℕ) (s z : Slab M) (rest ks : List ℕ) → ks ≡ rest ++ key ∷ [] → Updates s z key None → IsSound s ks → Stands z rest (take (length (kept_of s ks) - 1) (kept_of s ks))
  drops_in key s z rest ks is up h =
      let there = last_of (λ k. IsSome (get s k)) rest key (subst (AllByRecursion (λ k. IsSome (get s k))) is h.there) in
      let firsts = firsts_apart s z key None rest up (subst AreApart is h.apart) in
      let many : length ks ≡ length rest + 1 = ap (λ (xs : List ℕ). length xs) is ∙ length-append rest (key ∷ []) in
      record {
        sound = record { there = there_same s z rest firsts.0 there.0; apart = firsts.1; few = omega (arith, h.few, many) };
        are = kept_same s z rest firsts.0 ∙ sym (rw is (kept_firsts s rest key (get s key) refl there.1));
      }

  pub none_drops : (s : Slab M) (ks : List ℕ) → ks ≡ [] → IsSound s ks → Stands s ks (take (length (kept_of s ks) - 1) (kept_of s ks))
  none_drops s ks none h = record { sound = h; are = rw none refl }

  pub stands_same : (s z : Slab M) (ks all : List ℕ) → z.slots ≡ s.slots → all ≡ ks → IsSound s ks → Stands z all (kept_of s ks)
  stands_same s z ks all slots is h =
      let same : AllByRecursion (Same s z) ks = all_slots s z ks slots in
      rw is (record { sound = record { there = there_same s z ks same h.there; apart = h.apart; few = h.few }; are = kept_same s z ks same })

  ---- the copies by number

  pub kept_length : (s : Slab M) (ks : List ℕ) → AllByRecursion (λ k. IsSome (get s k)) ks → length (kept_of s ks) ≡ length ks
  kept_length s [] h = refl
  kept_length s (k ∷ ks) h = by (get s k) refl h.0 (kept_length s ks h.1)
    where
      by : (slot : Option M) → get s k ≡ slot → IsSome slot → length (kept_of s ks) ≡ length ks → length (kept_of s (k ∷ ks)) ≡ suc (length ks)
      by None e some is = absurd (false≢true some)
      by (Some m) e some is = rw e (omega (arith, is))

  pub kept_at : (s : Slab M) (ks : List ℕ) (j d : ℕ) → AllByRecursion (λ k. IsSome (get s k)) ks → j < length ks → slice_get (kept_of s ks) j ≡ get s (get_or ks j d)
  kept_at s [] j d h l = absurd (omega (arith, l))
  kept_at s (q ∷ ks) j d h l = by (get s q) refl h.0 j l (λ i. kept_at s ks i d h.1)
    where
      by : (slot : Option M) → get s q ≡ slot → IsSome slot → (j : ℕ) → j < length (q ∷ ks) → ((i : ℕ) → i < length ks → slice_get (kept_of s ks) i ≡ get s (get_or ks i d)) → slice_get (kept_of s (q ∷ ks)) j ≡ get s (get_or (q ∷ ks) j d)
      by None e some j l more = absurd (false≢true some)
      by (Some m) e some zero l more = rw e refl
      by (Some m) e some (suc j) l more = rw e (more j (omega (arith, l)))
