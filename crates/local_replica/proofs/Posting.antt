-- What engines are told of what is kept, and what they know then.
use Rattle.std.proofs.Common.{◌≡◌, refl, sym, ap, subst, ◌∙◌, ℕ, suc, ◌+◌, ◌<◌, ◌≤◌, Bool, true, false, cond, List, [], ◌∷◌, ◌++◌, length, map, get_or, take, Option, Some, None, arith, append_assoc, append-nil, add-one, inl, inr}
use Rattle.std.specs.Prelude.{◌==◌, ◌&&◌}
use Rattle.std.specs.List.{AllByRecursion, dedup, dedup_from}
use Rattle.std.proofs.lemmas.Bool.Decides.{nat_tests}
use Rattle.std.proofs.lemmas.List.{take_all}
use Rattle.std.proofs.Math.Seq.{take-suc}
use Rattle.delos_types.specs.Spaces.{SpaceMap}
use Rattle.delos_types.specs.declared.entry.Entry.{Entry}
use Rattle.delos_types.specs.declared.place.Place.{Place}
use Rattle.local_store.specs.View as store
use Rattle.local_store.specs.View.{TxnView, contents_of}
use Rattle.log_laws.specs.Appearing.{IsNotAfter}
use Rattle.log_laws.specs.Order.{Precedes, EachPair}
use Rattle.log_laws.specs.State.{IsStateOf, Grows}
use Rattle.log_laws.specs.declared.rising.Acted.{Acted}
use Rattle.log_laws.proofs.Pairs.{all-imply}
use Rattle.replica_api.specs.declared.replica.Applied.{Applied}
use Rattle.replica_api.specs.declared.replica.Applied.TheVariants as applied
use Rattle.store_records.specs.Changing as changing
use Rattle.local_replica.specs.Posted.{same_place, places_of, is_last_place, new_place, is_done, told_of, Posts}

-- Place by place

same_number : (a b : ℕ) → (a == b) ≡ true → a ≡ b
same_number a b e = grind (arith, nat_tests)

both_true : (a b : Bool) → (a && b) ≡ true → (a ≡ true) × (b ≡ true)
both_true true b e = (refl, e)
both_true false b e = absurd (cc)

same_is : (p q : Place) → same_place p q ≡ true → p ≡ q
same_is p q e =
    let h = both_true (p.pos == q.pos) (p.sub == q.sub) e in
    let with : ℕ → ℕ → Place = λ pos sub. record { pos = pos; sub = sub } in
    ap (λ n. with n p.sub) (same_number p.pos q.pos h.0) ∙ ap (λ n. with q.pos n) (same_number p.sub q.sub h.1)

abbrev last_from : Place → List Place → Place
last_from k [] = k
last_from k (x ∷ xs) = last_from x xs

-- the last of these
abbrev pub last_place : List Place → Option Place
last_place [] = None
last_place (x ∷ xs) = Some (last_from x xs)

push : (c : Bool) (k y : Place) (d : List Place) → k ∷ cond c d (d ++ y ∷ []) ≡ cond c (k ∷ d) (k ∷ (d ++ y ∷ []))
push true k y d = refl
push false k y d = refl

-- what one place more does to a list behind this one
abbrev OneMore : Place → List Place → Place → Type 0
OneMore k xs y = dedup_from same_place k (xs ++ y ∷ []) ≡ cond (same_place y (last_from k xs)) (dedup_from same_place k xs) (dedup_from same_place k xs ++ y ∷ [])

snoc_from : (k : Place) (xs : List Place) (y : Place) → OneMore k xs y
snoc_from k [] y = refl
snoc_from k (x ∷ xs) y = at (same_place x k) refl (snoc_from k xs y) (snoc_from x xs y)
  where
    at : (b : Bool) → same_place x k ≡ b → OneMore k xs y → OneMore x xs y
        → cond b (dedup_from same_place k (xs ++ y ∷ [])) (k ∷ dedup_from same_place x (xs ++ y ∷ []))
        ≡ cond (same_place y (last_from x xs)) (cond b (dedup_from same_place k xs) (k ∷ dedup_from same_place x xs)) (cond b (dedup_from same_place k xs) (k ∷ dedup_from same_place x xs) ++ y ∷ [])
    at true e same other =
        subst (λ (z : Place). dedup_from same_place k (xs ++ y ∷ []) ≡ cond (same_place y (last_from z xs)) (dedup_from same_place k xs) (dedup_from same_place k xs ++ y ∷ [])) (sym (same_is x k e)) same
    at false e same other = ap (λ (l : List Place). k ∷ l) other ∙ push (same_place y (last_from x xs)) k y (dedup_from same_place x xs)

-- one place more
dedup-snoc : (xs : List Place) (y : Place) → dedup same_place (xs ++ y ∷ []) ≡ dedup same_place xs ++ new_place (last_place xs) y
dedup-snoc [] y = refl
dedup-snoc (x ∷ xs) y = snoc_from x xs y ∙ at (same_place y (last_from x xs)) (dedup_from same_place x xs)
  where
    at : (c : Bool) (d : List Place) → cond c d (d ++ y ∷ []) ≡ d ++ cond c [] (y ∷ [])
    at true d = sym (append-nil d)
    at false d = refl

last-snoc : (xs : List Place) (y : Place) → last_place (xs ++ y ∷ []) ≡ Some y
last-snoc [] y = refl
last-snoc (x ∷ xs) y = from x xs
  where
    from : (k : Place) (zs : List Place) → Some (last_from k (zs ++ y ∷ [])) ≡ Some y
    from k [] = refl
    from k (z ∷ zs) = from z zs

abbrev place_of : Acted → Place
place_of a = a.place

map-snoc : (xs : List Acted) (a : Acted) → map place_of (xs ++ a ∷ []) ≡ map place_of xs ++ a.place ∷ []
map-snoc [] a = refl
map-snoc (x ∷ xs) a = ap (λ (l : List Place). x.place ∷ l) (map-snoc xs a)

take_one : (acted : List Acted) (i : ℕ) (a : Acted) → i < length acted → a ≡ get_or acted i a → take (i + 1) acted ≡ take i acted ++ a ∷ []
take_one acted i a h is = ap (λ n. take n acted) (add-one i) ∙ take-suc acted i a h ∙ ap (λ x. take i acted ++ x ∷ []) (sym is)

-- the last place of those that were gone through
pub last_one : (acted : List Acted) (i : ℕ) (a : Acted) → i < length acted → a ≡ get_or acted i a → Some a.place ≡ last_place (map place_of (take (i + 1) acted))
last_one acted i a h is = sym (ap (λ l. last_place (map place_of l)) (take_one acted i a h is) ∙ ap last_place (map-snoc (take i acted) a) ∙ last-snoc (map place_of (take i acted)) a.place)

pub none_more : (told : List (List Place)) → map (λ (places : List Place). places ++ []) told ≡ told
none_more [] = refl
none_more (t ∷ ts) = ap (λ (x : List Place). x ∷ map (λ (places : List Place). places ++ []) ts) (append-nil t) ∙ ap (λ (l : List (List Place)). t ∷ l) (none_more ts)

-- the last place again, and another one
pub new_none : (last : Option Place) (place : Place) → is_last_place last place ≡ true → (told : List (List Place)) → map (λ (places : List Place). places ++ new_place last place) told ≡ told
new_none last place e told = ap (λ (b : Bool). map (λ (places : List Place). places ++ cond b [] (place ∷ [])) told) e ∙ none_more told

pub new_one : (last : Option Place) (place : Place) → is_last_place last place ≡ false → new_place last place ≡ place ∷ []
new_one last place e = ap (λ (b : Bool). cond b [] (place ∷ [])) e

twice : (a b : List Place) (told : List (List Place)) → map (λ (places : List Place). places ++ b) (map (λ (places : List Place). places ++ a) told) ≡ map (λ (places : List Place). places ++ (a ++ b)) told
twice a b [] = refl
twice a b (t ∷ ts) = ap (λ (x : List Place). x ∷ map (λ (places : List Place). places ++ b) (map (λ (places : List Place). places ++ a) ts)) (append_assoc t a b) ∙ ap (λ (l : List (List Place)). (t ++ (a ++ b)) ∷ l) (twice a b ts)

-- one more that acted was gone through
pub one_posted : (acted : List Acted) (i : ℕ) (a : Acted) (last : Option Place) → last ≡ last_place (map place_of (take i acted)) → i < length acted → a ≡ get_or acted i a → (told : List (List Place))
    → map (λ (places : List Place). places ++ new_place last a.place) (map (λ (places : List Place). places ++ places_of (take i acted)) told) ≡ map (λ (places : List Place). places ++ places_of (take (i + 1) acted)) told
one_posted acted i a last so_far h is told =
    twice (places_of (take i acted)) (new_place last a.place) told
    ∙ ap (λ (ds : List Place). map (λ (places : List Place). places ++ ds) told)
    (ap (λ (o : Option Place). places_of (take i acted) ++ new_place o a.place) so_far
    ∙ sym (dedup-snoc (map place_of (take i acted)) a.place)
    ∙ ap (dedup same_place) (sym (map-snoc (take i acted) a))
    ∙ ap (λ (l : List Acted). places_of l) (sym (take_one acted i a h is)))

-- all were
pub all_posted : (acted : List Acted) (i : ℕ) → length acted ≤ i → places_of (take i acted) ≡ places_of acted
all_posted acted i most = ap (λ (l : List Acted). places_of l) (take_all i acted most)

-- Each place once

precedes_by : (p q r : Place) → Precedes p q → IsNotAfter q r → Precedes p r
precedes_by p q r (inl a) (inl (inl b)) = inl (omega arith)
precedes_by p q r (inl a) (inl (inr b)) = inl (omega (arith, b.0))
precedes_by p q r (inr a) (inl (inl b)) = inl (omega (arith, a.0))
precedes_by p q r (inr a) (inl (inr b)) = inr (a.0 ∙ b.0, omega (arith, a.1, b.1))
precedes_by p q r h (inr e) = subst (Precedes p) e h

same_itself : (p : Place) → same_place p p ≡ true
same_itself p = ap (λ b. b && (p.sub == p.sub)) (itself p.pos) ∙ itself p.sub
  where
    itself : (n : ℕ) → (n == n) ≡ true
    itself n = grind (arith, nat_tests)

apart : (p q : Place) → IsNotAfter p q → same_place q p ≡ false → Precedes p q
apart p q (inl h) e = h
apart p q (inr same) e = let off : true ≡ false = sym (same_itself p) ∙ ap (λ (z : Place). same_place z p) same ∙ e in absurd (cc)

dedup-all : (P : Place → Type 0) (k : Place) (xs : List Place) → P k → AllByRecursion P xs → AllByRecursion P (dedup_from same_place k xs)
dedup-all P k [] here h = (here, tt)
dedup-all P k (x ∷ xs) here h = at (same_place x k) (dedup-all P k xs here h.1) (dedup-all P x xs h.0 h.1)
  where
    at : (b : Bool) → AllByRecursion P (dedup_from same_place k xs) → AllByRecursion P (dedup_from same_place x xs) → AllByRecursion P (cond b (dedup_from same_place k xs) (k ∷ dedup_from same_place x xs))
    at true same other = same
    at false same other = (here, other)

dedup-rises : (k : Place) (xs : List Place) → AllByRecursion (IsNotAfter k) xs → EachPair IsNotAfter xs → EachPair Precedes (dedup_from same_place k xs)
dedup-rises k [] h pairs = (tt, tt)
dedup-rises k (x ∷ xs) h pairs = at (same_place x k) refl (dedup-rises k xs h.1 pairs.1) (dedup-rises x xs pairs.0 pairs.1)
  where
    at : (b : Bool) → same_place x k ≡ b → EachPair Precedes (dedup_from same_place k xs) → EachPair Precedes (dedup_from same_place x xs) → EachPair Precedes (cond b (dedup_from same_place k xs) (k ∷ dedup_from same_place x xs))
    at true e same other = same
    at false e same other =
        let first : Precedes k x = apart k x h.0 e in
        (dedup-all (Precedes k) x xs first (all-imply (IsNotAfter x) (Precedes k) xs (λ y n. precedes_by k x y first n) pairs.0), other)

map-all : (P : Place → Type 0) (acts : List Acted) → AllByRecursion (λ a. P a.place) acts → AllByRecursion P (map place_of acts)
map-all P [] h = tt
map-all P (a ∷ acts) h = (h.0, map-all P acts h.1)

map-pairs : (acts : List Acted) → EachPair (λ a b. IsNotAfter a.place b.place) acts → EachPair IsNotAfter (map place_of acts)
map-pairs [] h = tt
map-pairs (a ∷ acts) h = (map-all (IsNotAfter a.place) acts h.0, map-pairs acts h.1)

places_rise : (acted : List Acted) → EachPair (λ a b. IsNotAfter a.place b.place) acted → EachPair Precedes (places_of acted)
places_rise [] h = tt
places_rise (a ∷ acts) h = dedup-rises a.place (map place_of acts) (map-all (IsNotAfter a.place) acts h.0) (map-pairs acts h.1)

-- where it is kept

pub posts_by : (has : List (List Place) → Type 0) (told : List (List Place)) (m made m' : SpaceMap) (pos : ℕ) (e : Entry) (a : Applied) (acted : List Acted) → ((log : List Entry) → length log ≡ pos → IsStateOf log m → Grows log e acted made) → EachPair (λ x y. IsNotAfter x.place y.place) acted → (is_done a ≡ true → m' ≡ made) → has (told_of a acted told) → Posts has told m pos e a m'
posts_by has told m made m' pos e applied.Done acted grows stands keeps h = record { acted = acted; grows = λ log len state. subst (λ (n : SpaceMap). Grows log e acted n) (sym (keeps refl)) (grows log len state); once = places_rise acted stands; heard = h }
posts_by has told m made m' pos e applied.DiskFault acted grows stands keeps h = h
posts_by has told m made m' pos e applied.Down acted grows stands keeps h = h
posts_by has told m made m' pos e applied.Memory acted grows stands keeps h = h

-- what holds of the space of a transaction that began with what the store shows
pub made_by : (P : SpaceMap → Type 0) (v : store.View) (start txn : TxnView) → start ≡ record { base = v.contents; changes = [] } → txn.base ≡ start.base → P (contents_of txn) → P (changing.applied v.contents txn.changes)
made_by P v start txn begun base h = subst (λ (m : SpaceMap). P (changing.applied m txn.changes)) (base ∙ ap (λ (t : TxnView). t.base) begun) h

-- what acted grows the log, as the store shows its state
pub grows_by : (v : store.View) (start txn : TxnView) (e : Entry) (acted : List Acted) → start ≡ record { base = v.contents; changes = [] } → txn.base ≡ start.base → ((log : List Entry) → length log ≡ v.cursor → IsStateOf log (contents_of start) → Grows log e acted (contents_of txn)) → (log : List Entry) → length log ≡ v.cursor → IsStateOf log v.contents → Grows log e acted (changing.applied v.contents txn.changes)
grows_by v start txn e acted begun base grows log len state =
    made_by (λ m. Grows log e acted m) v start txn begun base (grows log len (subst (λ (t : TxnView). IsStateOf log (contents_of t)) (sym begun) state))
