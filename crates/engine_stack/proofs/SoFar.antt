-- The states of the stack's loops.
use Rattle.std.proofs.Common.{◌≡◌, ◌≢◌, ℕ, ◌+◌, ◌-◌, ◌<◌, ◌≤◌, ◌++◌, ◌∷◌, [], List, length, drop, map, get_or, set, zero, suc, arith, refl, sym, ap, subst, ◌∙◌, append_assoc, append-nil, add-one, drop-cons, Option, Some, None}
use Rattle.std.specs.Prelude.{option_to_list}
use Rattle.std.specs.List.{cons_option}
use Rattle.std.proofs.lemmas.List.{length-map}
use Rattle.std.proofs.lemmas.List.Elements.{filter_map-append}
use Rattle.delos_types.specs.Spaces.{SpaceMap}
use Rattle.delos_types.specs.declared.item.Item.{Item}
use Rattle.engine_steps.specs.Steps.{UpStep, BackStep}
use Rattle.engine_steps.specs.Words.{under}
use Rattle.engine_steps.specs.declared.engine.Up.{Up}
use Rattle.delos_types.specs.declared.entry.Entry.{Entry}
use Rattle.engine_steps.specs.Words.{opened_items}
use Rattle.log_laws.specs.State.{IsStateOf, Grows}
use Rattle.log_laws.proofs.Whole.{grows}
use Rattle.std.proofs.Common.{◌^◌}
use Rattle.log_laws.specs.Rises.{Level, Rises, Hears, Sinks, Applies, passed, answered, placed_items, at_place, acted_in, acted_word}
use Rattle.log_laws.specs.declared.rising.Rising.{Rising}
use Rattle.log_laws.specs.declared.rising.Told.{Told}
use Rattle.log_laws.specs.declared.rising.Acted.{Acted}

-- an engine of kind k took all of `xs` but `left`, and gave `outs` and `more`
abbrev pub PassedSoFar : ℕ → SpaceMap → List Rising → List Rising → List Rising → List Told → SpaceMap → Type 0
PassedSoFar k start xs left outs more now = (o : List Rising) (t : List Told) (m : SpaceMap) → Level k now left o t m → Level k start xs (outs ++ o) (more ++ t) m

-- engines took the items, and those of the kinds `left` are still to take `items`
abbrev pub RisenSoFar : List ℕ → SpaceMap → List Rising → List ℕ → List Rising → List Told → SpaceMap → Type 0
RisenSoFar kinds start xs left items more now = (t : List Told) (m : SpaceMap) → Rises left now items t m → Rises kinds start xs (more ++ t) m

-- an engine of kind k was told all but `left`
abbrev pub HeardSoFar : ℕ → SpaceMap → List Told → List Told → SpaceMap → Type 0
HeardSoFar k start all left now = (m : SpaceMap) → Hears k now left m → Hears k start all m

pub next_of : {A : Type 0} (xs : List A) (i : ℕ) (x : A) → i < length xs → x ≡ get_or xs i x → drop i xs ≡ x ∷ drop (i + 1) xs
next_of xs i x h is = drop-cons xs i x h ∙ ap (λ y. y ∷ drop (suc i) xs) (sym is) ∙ ap (λ n. x ∷ drop n xs) (sym (add-one i))

-- one more item was taken
pub passed_more : (k : ℕ) (start now mid : SpaceMap) (xs left rest outs outs' : List Rising) (more : List Told) (x : Rising) (up : Up) → left ≡ x ∷ rest → PassedSoFar k start xs left outs more now → UpStep k now x.place x.item up mid → outs' ≡ outs ++ passed x up → PassedSoFar k start xs rest outs' (more ++ answered x up) mid
passed_more k start now mid xs left rest outs outs' more x up is so_far step grown o t m level =
    let all : Level k start xs (outs ++ (passed x up ++ o)) (more ++ (answered x up ++ t)) m =
    so_far _ _ m (subst (λ (l : List Rising). Level k now l (passed x up ++ o) (answered x up ++ t) m) (sym is) (up, mid, o, t, step, level, refl, refl)) in
    subst (λ (l : List Told). Level k start xs (outs' ++ o) l m) (sym (append_assoc more (answered x up) t))
    (subst (λ (l : List Rising). Level k start xs l (more ++ (answered x up ++ t)) m) (sym (ap (λ (l : List Rising). l ++ o) grown ∙ append_assoc outs (passed x up) o)) all)

-- all items were taken
pub passed_all : (k : ℕ) (start now : SpaceMap) (xs left outs : List Rising) (more : List Told) → left ≡ [] → PassedSoFar k start xs left outs more now → Level k start xs outs more now
passed_all k start now xs left outs more none so_far =
    let all : Level k start xs (outs ++ []) (more ++ []) now = so_far [] [] now (subst (λ (l : List Rising). Level k now l [] [] now) (sym none) (refl, refl, refl)) in
    subst (λ (l : List Told). Level k start xs outs l now) (append-nil more) (subst (λ (l : List Rising). Level k start xs l (more ++ []) now) (append-nil outs) all)

pub told_more : (before told told' more new : List Told) → told ≡ before ++ more → told' ≡ told ++ new → told' ≡ before ++ (more ++ new)
told_more before told told' more new a b = b ∙ ap (λ (l : List Told). l ++ new) a ∙ append_assoc before more new

-- one more reply was told
pub heard_more : (k : ℕ) (start now mid : SpaceMap) (all left rest : List Told) (t : Told) → left ≡ t ∷ rest → HeardSoFar k start all left now → BackStep k now t.place t.item t.reply mid → HeardSoFar k start all rest mid
heard_more k start now mid all left rest t is so_far step m rest_heard = so_far m (subst (λ (l : List Told). Hears k now l m) (sym is) (mid, step, rest_heard))

pub heard_all : (k : ℕ) (start now : SpaceMap) (all left : List Told) → left ≡ [] → HeardSoFar k start all left now → Hears k start all now
heard_all k start now all left none so_far = so_far now (subst (λ (l : List Told). Hears k now l now) (sym none) refl)

-- an element that looks the same by f is put in its place
pub map_set_same : {A B : Type 0} (f : A → B) (xs : List A) (k : ℕ) (old new : A) → k < length xs → old ≡ get_or xs k old → f new ≡ f old → map f (set xs k new) ≡ map f xs
map_set_same f [] k old new h is same = refl
map_set_same f (x ∷ xs) zero old new h is same = ap (λ n. n ∷ map f xs) (same ∙ ap f is)
map_set_same f (x ∷ xs) (suc k) old new h is same = ap (λ l. f x ∷ l) (map_set_same f xs k old new (omega arith) is same)

next_by : {A : Type 0} (f : A → ℕ) (xs : List A) (k : ℕ) (old : A) → k < length xs → old ≡ get_or xs k old → drop k (map f xs) ≡ f old ∷ drop (suc k) (map f xs)
next_by f [] k old h is = absurd (omega arith)
next_by f (x ∷ xs) zero old h is = ap (λ y. f y ∷ map f xs) (sym is)
next_by f (x ∷ xs) (suc k) old h is = next_by f xs k old (omega arith) is

-- the next of what f sees
pub next_map : {A : Type 0} (f : A → ℕ) (xs ys : List A) (k : ℕ) (old : A) → map f xs ≡ map f ys → k < length xs → old ≡ get_or xs k old → drop k (map f ys) ≡ f old ∷ drop (k + 1) (map f ys)
next_map f xs ys k old e h is = ap (drop k) (sym e) ∙ next_by f xs k old h is ∙ ap (λ n. f old ∷ drop n (map f xs)) (sym (add-one k)) ∙ ap (λ (l : List ℕ). f old ∷ drop (k + 1) l) e

-- the one before
pub next_down : {A : Type 0} (f : A → ℕ) (xs ys : List A) (k : ℕ) (old : A) → map f xs ≡ map f ys → 0 < k → k - 1 < length xs → old ≡ get_or xs (k - 1) old → drop (k - 1) (map f ys) ≡ f old ∷ drop k (map f ys)
next_down f xs ys k old e pos h is = next_map f xs ys (k - 1) old e h is ∙ ap (λ n. f old ∷ drop n (map f ys)) (let same : k - 1 + 1 ≡ k = omega arith in same)

pub same_length : {A B : Type 0} (f : A → B) (xs ys : List A) → map f xs ≡ map f ys → length xs ≡ length ys
same_length f xs ys e = sym (length-map xs f) ∙ ap length e ∙ length-map ys f

-- what f sees of the element at k
pub seen_at : {A : Type 0} (f : A → ℕ) (xs : List A) (k d : ℕ) (old : A) → k < length xs → old ≡ get_or xs k old → f old ≡ get_or (map f xs) k d
seen_at f [] k d old h is = absurd (omega arith)
seen_at f (x ∷ xs) zero d old h is = ap f is
seen_at f (x ∷ xs) (suc k) d old h is = seen_at f xs k d old (omega arith) is

-- one more engine took the items
pub risen_more : (kinds left rest : List ℕ) (k : ℕ) (start now mid : SpaceMap) (xs items outs : List Rising) (more here : List Told) → left ≡ k ∷ rest → RisenSoFar kinds start xs left items more now → Level k now items outs here mid → RisenSoFar kinds start xs rest outs (more ++ here) mid
risen_more kinds left rest k start now mid xs items outs more here is so_far level t m above =
    subst (λ (l : List Told). Rises kinds start xs l m) (sym (append_assoc more here t)) (so_far (here ++ t) m (subst (λ (l : List ℕ). Rises l now items (here ++ t) m) (sym is) (outs, mid, here, t, level, above, refl)))

-- all engines took the items
pub risen_all : (kinds left : List ℕ) (start now : SpaceMap) (xs items : List Rising) (more : List Told) → left ≡ [] → RisenSoFar kinds start xs left items more now → Rises kinds start xs more now
risen_all kinds left start now xs items more none so_far =
    subst (λ (l : List Told). Rises kinds start xs l now) (append-nil more) (so_far [] now (subst (λ (l : List ℕ). Rises l now items [] now) (sym none) (refl, refl)))

-- one more engine heard the replies
pub sunk_more : (left above : List ℕ) (k : ℕ) (start now mid : SpaceMap) (told : List Told) → left ≡ k ∷ above → Sinks above start told now → Hears k now told mid → Sinks left start told mid
sunk_more left above k start now mid told is so_far heard = subst (λ (l : List ℕ). Sinks l start told mid) (sym is) (now, so_far, heard)

-- the items at one position, the last of them at the end
placed_items-snoc : (pos sub : ℕ) (is : List Item) (i : Item) → placed_items pos sub (is ++ i ∷ []) ≡ placed_items pos sub is ++ at_place (record { pos = pos; sub = sub + length is }) i ∷ []
placed_items-snoc pos sub [] i = ap (λ n. at_place (record { pos = pos; sub = n }) i ∷ []) (let same : sub ≡ sub + 0 = omega arith in same)
placed_items-snoc pos sub (j ∷ is) i =
    ap (λ l. at_place (record { pos = pos; sub = sub }) j ∷ l) (placed_items-snoc pos (sub + 1) is i
    ∙ ap (λ n. placed_items pos (sub + 1) is ++ at_place (record { pos = pos; sub = n }) i ∷ []) (let same : sub + 1 + length is ≡ sub + suc (length is) = omega arith in same))

-- the last of the items that are left is placed
pub placed_more : (pos n : ℕ) (items left : List Item) (i : Item) (rising all : List Rising) → items ≡ left ++ i ∷ [] → n ≡ length left → placed_items pos 0 items ++ rising ≡ all → placed_items pos 0 left ++ (at_place (record { pos = pos; sub = n }) i ∷ rising) ≡ all
placed_more pos n items left i rising all is at e =
    ap (λ k. placed_items pos 0 left ++ (at_place (record { pos = pos; sub = k }) i ∷ rising)) (at ∙ (let same : length left ≡ 0 + length left = omega arith in same))
    ∙ sym (append_assoc (placed_items pos 0 left) (at_place (record { pos = pos; sub = 0 + length left }) i ∷ []) rising)
    ∙ ap (λ l. l ++ rising) (sym (placed_items-snoc pos 0 left i)) ∙ ap (λ l. placed_items pos 0 l ++ rising) (sym is) ∙ e

-- one more that acted
pub acted_more : (ts : List Told) (t : Told) → acted_in (ts ++ t ∷ []) ≡ acted_in ts ++ option_to_list (acted_word t (under 2 t.item))
acted_more ts t = filter_map-append (λ (u : Told). acted_word u (under 2 u.item)) ts (t ∷ []) ∙ ap (λ l. acted_in ts ++ l) (one (acted_word t (under 2 t.item)))
  where
    one : (o : Option Acted) → cons_option o [] ≡ option_to_list o
    one None = refl
    one (Some a) = refl

-- what was passed on, behind the item itself
pub passed_on : (x : Rising) (outs outs' outs'' : List Rising) (behind : List Item) → outs' ≡ outs ++ x ∷ [] → outs'' ≡ outs' ++ map (at_place x.place) behind → outs'' ≡ outs ++ (x ∷ map (at_place x.place) behind)
passed_on x outs outs' outs'' behind a b = b ∙ ap (λ l. l ++ map (at_place x.place) behind) a ∙ append_assoc outs (x ∷ []) (map (at_place x.place) behind)

-- nothing more acted
pub acted_none : (ts : List Told) (t : Told) (acted : List Acted) → acted ≡ acted_in ts → acted_word t (under 2 t.item) ≡ None → acted ≡ acted_in (ts ++ t ∷ [])
acted_none ts t acted so_far none = so_far ∙ sym (append-nil (acted_in ts)) ∙ ap (λ o. acted_in ts ++ option_to_list o) (sym none) ∙ sym (acted_more ts t)

pub acted_one : (ts : List Told) (t : Told) (a : Acted) (acted acted' : List Acted) → acted ≡ acted_in ts → acted' ≡ acted ++ a ∷ [] → acted_word t (under 2 t.item) ≡ Some a → acted' ≡ acted_in (ts ++ t ∷ [])
acted_one ts t a acted acted' so_far more word = more ∙ ap (λ l. l ++ a ∷ []) so_far ∙ ap (λ o. acted_in ts ++ option_to_list o) (sym word) ∙ sym (acted_more ts t)

-- no engine above the lowest is of kind 1
pub not_lowest : (kinds : List ℕ) (k : ℕ) → kinds ≡ 1 ∷ 2 ∷ 3 ∷ 4 ∷ 5 ∷ [] → 1 ≤ k → k < length kinds → (n : ℕ) → n ≡ get_or kinds k 0 → n ≢ 1
not_lowest kinds k is low high n at e = above k low (subst (λ (l : List ℕ). k < length l) is high) (sym (ap (λ (l : List ℕ). get_or l k 0) is) ∙ sym at ∙ e)
  where
    above : (j : ℕ) → 1 ≤ j → j < 5 → ◌≡◌ {A = ℕ} (get_or (1 ∷ 2 ∷ 3 ∷ 4 ∷ 5 ∷ []) j 0) 1 → ⊥
    above zero l h f = absurd (omega arith)
    above (suc zero) l h f = absurd (omega arith)
    above (suc (suc zero)) l h f = absurd (omega arith)
    above (suc (suc (suc zero))) l h f = absurd (omega arith)
    above (suc (suc (suc (suc zero)))) l h f = absurd (omega arith)
    above (suc (suc (suc (suc (suc j))))) l h f = absurd (omega arith)

pub no_items : {A : Type 0} (xs : List A) → length xs ≡ 0 → xs ≡ []
no_items [] e = refl
no_items (x ∷ xs) e = absurd (omega arith)

-- the entry comes up, and its replies go down
pub applies_by : (kinds kinds' : List ℕ) (m mid m' : SpaceMap) (pos : ℕ) (e : Entry) (items : List Item) (rising : List Rising) (told told' : List Told) (acted : List Acted) → kinds ≡ 1 ∷ 2 ∷ 3 ∷ 4 ∷ 5 ∷ [] → kinds' ≡ kinds → items ≡ opened_items e → rising ≡ placed_items pos 0 items → told' ≡ told
    → Rises (drop 1 kinds) m rising told mid → Sinks kinds' mid told' m' → acted ≡ acted_in told → Applies m pos e acted m'
applies_by kinds kinds' m mid m' pos e items rising told told' acted five same opened placed lent rises sinks acts = record {
  told = told;
  mid = mid;
  rises = subst (λ (l : List Rising). Rises (2 ∷ 3 ∷ 4 ∷ 5 ∷ []) m l told mid) (placed ∙ ap (placed_items pos 0) opened) (subst (λ (l : List ℕ). Rises (drop 1 l) m rising told mid) five rises);
  sinks = subst (λ (l : List Told). Sinks (1 ∷ 2 ∷ 3 ∷ 4 ∷ 5 ∷ []) mid l m') lent (subst (λ (l : List ℕ). Sinks l mid told' m') (same ∙ five) sinks);
  acts = acts;
}

pub applied_grows : (m m' : SpaceMap) (pos : ℕ) (e : Entry) (acted : List Acted) → pos < 2 ^ 64 → Applies m pos e acted m' → (log : List Entry) → length log ≡ pos → IsStateOf log m → Grows log e acted m'
applied_grows m m' pos e acted small applies log at state =
    let low : length log < 2 ^ 64 = omega arith in grows log e m m' acted low state (subst (λ n. Applies m n e acted m') (sym at) applies)

pub has_first : {A : Type 0} (f : A → ℕ) (xs : List A) (k : ℕ) (ks : List ℕ) → map f xs ≡ k ∷ ks → 0 < length xs
has_first f [] k ks e = absurd (cc)
has_first f (x ∷ xs) k ks e = omega arith
