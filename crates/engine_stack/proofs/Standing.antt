-- What acts in an entry stands in the order of its places.
use Rattle.std.proofs.Common.{◌≡◌, refl, sym, ap, subst, ◌∙◌, ℕ, ◌+◌, ◌<◌, ◌≤◌, List, [], ◌∷◌, ◌++◌, map, Option, Some, None, arith, inl, inr, ◌⊎◌}
use Rattle.std.specs.List.{AllByRecursion, cons_option}
use Rattle.std.proofs.lemmas.Bool.{cases_lt}
use Rattle.delos_types.specs.Spaces.{SpaceMap, Text}
use Rattle.delos_types.specs.declared.entry.Entry.{Entry}
use Rattle.delos_types.specs.declared.item.Item.{Item}
use Rattle.delos_types.specs.declared.place.Place.{Place}
use Rattle.engine_api.specs.declared.content.Content.{Content}
use Rattle.engine_api.specs.declared.content.Content.TheVariants.{Session, Alive, Leave, Trim}
use Rattle.engine_steps.specs.declared.engine.Up.{Up}
use Rattle.engine_steps.specs.declared.engine.Up.TheVariants.{Pass, Stop, Answer}
use Rattle.engine_steps.specs.Layout.{last_of}
use Rattle.engine_steps.specs.Steps.{UpStep, RankStep, SessionAt, ViewAt, TrimAt, opening}
use Rattle.engine_steps.specs.Words.{under, opened_items}
use Rattle.log_laws.specs.Appearing.{IsNotAfter}
use Rattle.log_laws.specs.Order.{EachPair}
use Rattle.log_laws.specs.Rises.{Applies, Level, Rises, passed, answered, at_place, placed_items, acted_in, acted_word}
use Rattle.log_laws.specs.declared.rising.Acted.{Acted}
use Rattle.log_laws.specs.declared.rising.Rising.{Rising}
use Rattle.log_laws.specs.declared.rising.Told.{Told}

-- they stand at this position, at numbers from `low` on that don't fall
abbrev FromOn : {A : Type 0} → (A → Place) → ℕ → ℕ → List A → Type 0
FromOn place pos low [] = Unit {0}
FromOn place pos low (x ∷ xs) = ((place x).pos ≡ pos) × ((low ≤ (place x).sub) × FromOn place pos (place x).sub xs)

lower : {A : Type 0} (place : A → Place) (pos low high : ℕ) (xs : List A) → low ≤ high → FromOn place pos high xs → FromOn place pos low xs
lower place pos low high [] le h = tt
lower place pos low high (x ∷ xs) le h = (h.0, (omega (arith, h.1.0), h.1.1))

abbrev at_rising : Rising → Place
at_rising x = x.place

abbrev at_told : Told → Place
at_told t = t.place

abbrev at_acted : Acted → Place
at_acted a = a.place

placed-on : (pos sub : ℕ) (items : List Item) → FromOn at_rising pos sub (placed_items pos sub items)
placed-on pos sub [] = tt
placed-on pos sub (i ∷ is) = (refl, (omega arith, lower at_rising pos sub (sub + 1) (placed_items pos (sub + 1) is) (omega arith) (placed-on pos (sub + 1) is)))

behind-on : (pos : ℕ) (p : Place) (bs : List Item) (more : List Rising) → p.pos ≡ pos → FromOn at_rising pos p.sub more → FromOn at_rising pos p.sub (map (at_place p) bs ++ more)
behind-on pos p [] more at h = h
behind-on pos p (b ∷ bs) more at h = (at, (omega arith, behind-on pos p bs more at h))

-- what one item makes of it
passed-on : (pos low : ℕ) (x : Rising) (up : Up) (more : List Rising) → x.place.pos ≡ pos → low ≤ x.place.sub → FromOn at_rising pos x.place.sub more → FromOn at_rising pos low (passed x up ++ more)
passed-on pos low x (Pass behind) more at le h = (at, (le, behind-on pos x.place behind more at h))
passed-on pos low x Stop more at le h = lower at_rising pos low x.place.sub more le h
passed-on pos low x (Answer reply) more at le h = lower at_rising pos low x.place.sub more le h

answered-on : (pos low : ℕ) (x : Rising) (up : Up) (more : List Told) → x.place.pos ≡ pos → low ≤ x.place.sub → FromOn at_told pos x.place.sub more → FromOn at_told pos low (answered x up ++ more)
answered-on pos low x (Pass behind) more at le h = lower at_told pos low x.place.sub more le h
answered-on pos low x Stop more at le h = lower at_told pos low x.place.sub more le h
answered-on pos low x (Answer reply) more at le h = (at, (le, h))

outs-on : (k pos low : ℕ) (m : SpaceMap) (xs outs : List Rising) (told : List Told) (m' : SpaceMap) → Level k m xs outs told m' → FromOn at_rising pos low xs → FromOn at_rising pos low outs
outs-on k pos low m [] outs told m' l h = subst (FromOn at_rising pos low) (sym l.0) tt
outs-on k pos low m (x ∷ xs) outs told m' l h =
    subst (FromOn at_rising pos low) (sym l.6) (passed-on pos low x l.0 l.2 h.0 h.1.0 (outs-on k pos x.place.sub l.1 xs l.2 l.3 m' l.5 h.1.1))

told-on : (k pos low : ℕ) (m : SpaceMap) (xs outs : List Rising) (told : List Told) (m' : SpaceMap) → Level k m xs outs told m' → FromOn at_rising pos low xs → FromOn at_told pos low told
told-on k pos low m [] outs told m' l h = subst (FromOn at_told pos low) (sym l.1) tt
told-on k pos low m (x ∷ xs) outs told m' l h =
    subst (FromOn at_told pos low) (sym l.7) (answered-on pos low x l.0 l.3 h.0 h.1.0 (told-on k pos x.place.sub l.1 xs l.2 l.3 m' l.5 h.1.1))

-- The table engine alone answers

rank_silent : (x : Rising) (m : SpaceMap) (s r : ℕ) (payload : Text) (up : Up) (m' : SpaceMap) → RankStep m s r payload up m' → answered x up ≡ []
rank_silent x m s r payload up m' step =
    elim (cases_lt (last_of m s) r) [
      | inr le ↦ ap (answered x) (step.early le).0
      | inl lt ↦ elim (cases_lt (last_of m s + 1) r) [
        | inl far ↦ ap (answered x) (step.later far).0
        | inr near ↦ ap (answered x) (step.next (omega arith)).goes_on
      ]
    ]

session_silent : (x : Rising) (m : SpaceMap) (payload : Text) (w : Option Content) (up : Up) (m' : SpaceMap) → SessionAt m payload w up m' → answered x up ≡ []
session_silent x m payload None up m' h = ap (answered x) h.0
session_silent x m payload (Some (Session s r c)) up m' h = rank_silent x m s r payload up m' h
session_silent x m payload (Some (Alive n z)) up m' h = ap (answered x) h.0
session_silent x m payload (Some (Leave n)) up m' h = ap (answered x) h.0
session_silent x m payload (Some (Trim z)) up m' h = ap (answered x) h.0

view_silent : (x : Rising) (m : SpaceMap) (w : Option Content) (up : Up) (m' : SpaceMap) → ViewAt m w up m' → answered x up ≡ []
view_silent x m None up m' h = ap (answered x) h.0
view_silent x m (Some (Session s r c)) up m' h = ap (answered x) h.0
view_silent x m (Some (Alive n z)) up m' h = ap (answered x) h.1
view_silent x m (Some (Leave n)) up m' h = ap (answered x) h.0
view_silent x m (Some (Trim z)) up m' h = ap (answered x) h.0

trim_silent : (x : Rising) (m : SpaceMap) (w : Option Content) (up : Up) (m' : SpaceMap) → TrimAt m w up m' → answered x up ≡ []
trim_silent x m None up m' h = ap (answered x) h.0
trim_silent x m (Some (Session s r c)) up m' h = ap (answered x) h.0
trim_silent x m (Some (Alive n z)) up m' h = ap (answered x) h.0
trim_silent x m (Some (Leave n)) up m' h = ap (answered x) h.0
trim_silent x m (Some (Trim z)) up m' h = ap (answered x) h.1

abbrev IsSilent : ℕ → Type 0
IsSilent k = (x : Rising) (m : SpaceMap) (up : Up) (m' : SpaceMap) → UpStep k m x.place x.item up m' → answered x up ≡ []

silent_2 : IsSilent 2
silent_2 x m up m' h = session_silent x (opening m x.place) x.item.payload (under 2 x.item) up m' (h.session refl)

silent_3 : IsSilent 3
silent_3 x m up m' h = view_silent x m (under 3 x.item) up m' (h.view refl)

silent_4 : IsSilent 4
silent_4 x m up m' h = trim_silent x m (under 4 x.item) up m' (h.trim refl)

none-told : (k : ℕ) → IsSilent k → (m : SpaceMap) (xs outs : List Rising) (told : List Told) (m' : SpaceMap) → Level k m xs outs told m' → told ≡ []
none-told k silent m [] outs told m' l = l.1
none-told k silent m (x ∷ xs) outs told m' l = l.7 ∙ ap (λ (t : List Told). t ++ l.3) (silent x m l.0 l.1 l.4) ∙ none-told k silent l.1 xs l.2 l.3 m' l.5

-- engines that answer nothing, and those above them
above-on : (k : ℕ) (ks : List ℕ) (pos low : ℕ) → IsSilent k → ((m : SpaceMap) (xs : List Rising) (told : List Told) (m' : SpaceMap) → Rises ks m xs told m' → FromOn at_rising pos low xs → FromOn at_told pos low told)
    → (m : SpaceMap) (xs : List Rising) (told : List Told) (m' : SpaceMap) → Rises (k ∷ ks) m xs told m' → FromOn at_rising pos low xs → FromOn at_told pos low told
above-on k ks pos low silent above m xs told m' r h =
    subst (FromOn at_told pos low) (sym (r.6 ∙ ap (λ (t : List Told). t ++ r.3) (none-told k silent m xs r.0 r.2 r.1 r.4))) (above r.1 r.0 r.3 m' r.5 (outs-on k pos low m xs r.0 r.2 r.1 r.4 h))

table-on : (pos low : ℕ) (m : SpaceMap) (xs : List Rising) (told : List Told) (m' : SpaceMap) → Rises (5 ∷ []) m xs told m' → FromOn at_rising pos low xs → FromOn at_told pos low told
table-on pos low m xs told m' r h =
    subst (FromOn at_told pos low) (sym (r.6 ∙ ap (λ (t : List Told). r.2 ++ t) r.5.0)) (more r.2 (told-on 5 pos low m xs r.0 r.2 r.1 r.4 h))
  where
    more : (ts : List Told) → FromOn at_told pos low ts → FromOn at_told pos low (ts ++ [])
    more ts g = from low ts g
      where
        from : (n : ℕ) (us : List Told) → FromOn at_told pos n us → FromOn at_told pos n (us ++ [])
        from n [] g = tt
        from n (u ∷ us) g = (g.0, (g.1.0, from u.place.sub us g.1.1))

rises-on : (pos low : ℕ) (m : SpaceMap) (xs : List Rising) (told : List Told) (m' : SpaceMap) → Rises (2 ∷ 3 ∷ 4 ∷ 5 ∷ []) m xs told m' → FromOn at_rising pos low xs → FromOn at_told pos low told
rises-on pos low = above-on 2 (3 ∷ 4 ∷ 5 ∷ []) pos low silent_2 (above-on 3 (4 ∷ 5 ∷ []) pos low silent_3 (above-on 4 (5 ∷ []) pos low silent_4 (table-on pos low)))

-- What acts

word-on : (pos low : ℕ) (t : Told) (w : Option Content) (more : List Acted) → t.place.pos ≡ pos → low ≤ t.place.sub → FromOn at_acted pos t.place.sub more → FromOn at_acted pos low (cons_option (acted_word t w) more)
word-on pos low t None more at le h = lower at_acted pos low t.place.sub more le h
word-on pos low t (Some (Session s r c)) more at le h = (at, (le, h))
word-on pos low t (Some (Alive n z)) more at le h = lower at_acted pos low t.place.sub more le h
word-on pos low t (Some (Leave n)) more at le h = lower at_acted pos low t.place.sub more le h
word-on pos low t (Some (Trim z)) more at le h = lower at_acted pos low t.place.sub more le h

acted-on : (pos low : ℕ) (ts : List Told) → FromOn at_told pos low ts → FromOn at_acted pos low (acted_in ts)
acted-on pos low [] h = tt
acted-on pos low (t ∷ ts) h = word-on pos low t (under 2 t.item) (acted_in ts) h.0 h.1.0 (acted-on pos t.place.sub ts h.1.1)

later : (pos low : ℕ) (a : Acted) → a.place.pos ≡ pos → (acts : List Acted) (n : ℕ) → a.place.sub ≤ n → FromOn at_acted pos n acts → AllByRecursion (λ b. IsNotAfter a.place b.place) acts
later pos low a at [] n le h = tt
later pos low a at (b ∷ bs) n le h = (stands (cases_lt a.place.sub b.place.sub), later pos low a at bs b.place.sub (omega (arith, h.1.0)) h.1.1)
  where
    stands : (a.place.sub < b.place.sub) ⊎ (b.place.sub ≤ a.place.sub) → IsNotAfter a.place b.place
    stands (inl lt) = inl (inr (at ∙ sym h.0, lt))
    stands (inr ge) =
        let place : ℕ → ℕ → Place = λ pos sub. record { pos = pos; sub = sub } in
        let same : a.place.sub ≡ b.place.sub = omega (arith, h.1.0) in
        inr (ap (λ n. place n a.place.sub) (at ∙ sym h.0) ∙ ap (λ n. place b.place.pos n) same)

in-pairs : (pos low : ℕ) (acts : List Acted) → FromOn at_acted pos low acts → EachPair (λ a b. IsNotAfter a.place b.place) acts
in-pairs pos low [] h = tt
in-pairs pos low (a ∷ acts) h = (later pos low a h.0 acts a.place.sub (omega arith) h.1.1, in-pairs pos a.place.sub acts h.1.1)

-- of what acts in an entry none stands before one that acted earlier
pub in_order : (m : SpaceMap) (pos : ℕ) (e : Entry) (acted : List Acted) (m' : SpaceMap) → Applies m pos e acted m' → EachPair (λ a b. IsNotAfter a.place b.place) acted
in_order m pos e acted m' a =
    subst (EachPair (λ x y. IsNotAfter x.place y.place)) (sym a.acts)
    (in-pairs pos 0 (acted_in a.told) (acted-on pos 0 a.told (rises-on pos 0 m (placed_items pos 0 (opened_items e)) a.told a.mid a.rises (placed-on pos 0 (opened_items e)))))
