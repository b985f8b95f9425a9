-- What an engine changes in a space is of its own kind, so what the space has of another kind stays.
use Rattle.std.proofs.Common.{◌≡◌, ◌≢◌, refl, sym, ap, subst, ◌∙◌, ℕ, zero, suc, ◌+◌, ◌<◌, ◌≤◌, Bool, true, false, cond, List, [], ◌∷◌, Option, Some, None, arith, inl, inr, not}
use Rattle.std.specs.Prelude.{◌==◌, ◌&&◌, nat_lt}
use Rattle.std.proofs.lemmas.Bool.{cases_lt}
use Rattle.std.proofs.lemmas.Bool.Decides.{nat_tests}
use Rattle.std.specs.FinMap as map
use Rattle.std.specs.FinMap.{get-retain_keys, same_map}
use Rattle.delos_types.specs.Numbers.{u64_bytes}
use Rattle.delos_types.specs.Spaces.{SpaceMap, Text}
use Rattle.delos_types.specs.declared.item.Item.{Item}
use Rattle.delos_types.specs.declared.place.Place.{Place}
use Rattle.engine_api.specs.declared.content.Content.{Content}
use Rattle.engine_api.specs.declared.content.Content.TheVariants.{Session, Alive, Leave, Trim}
use Rattle.engine_steps.specs.declared.engine.Up.{Up}
use Rattle.engine_steps.specs.Hearing.{own}
use Rattle.engine_steps.specs.Layout.{clean_key, last_of, last_key, held_of, held_key, is_holding, is_left, number_at, view_key, view_of, trim_key, trim_of, value_of}
use Rattle.engine_steps.specs.Steps.{UpStep, BackStep, Passes, opening, Frees, Acts, waits, RankStep, SessionAt, ViewAt, TrimAt, TableAt, TableDoes, with_value, RepliesAt}
use Rattle.engine_steps.specs.Words.{under}
use Rattle.log_laws.specs.Rises.{Level, Hears}
use Rattle.log_laws.specs.declared.rising.Rising.{Rising}
use Rattle.log_laws.specs.declared.rising.Told.{Told}
use Rattle.log_laws.proofs.Keys.{space_total, space_exact, get_put_other, get_del_other, other_kind}
use Rattle.log_laws.proofs.Firsts.{same_or_not}

same_number : (a b : ℕ) → (a == b) ≡ true → a ≡ b
same_number a b e = grind (arith, nat_tests)

-- what is read under a kind is what the space has of it
own_by : (j : ℕ) (m m' : SpaceMap) → ((key : Text) → map.get m' (j, key) ≡ map.get m (j, key)) → own j m' ≡ own j m
own_by j m m' same = same_map space_total space_exact _ _ (λ q. seen m' q ∙ at q (q.0 == j) refl ∙ sym (seen m q))
  where
    seen : (n : SpaceMap) (q : ℕ × Text) → map.get (own j n) q ≡ cond (q.0 == j) (map.get n q) None
    seen n q = get-retain_keys n (λ k. k.0 == j) q (λ x e. ap (λ (k : ℕ × Text). k.0 == j) (sym (space_exact q x e)))

    at : (q : ℕ × Text) (b : Bool) → (q.0 == j) ≡ b → cond b (map.get m' q) None ≡ cond b (map.get m q) None
    at q false e = refl
    at q true e = subst (λ (n : ℕ). map.get m' (n, q.1) ≡ map.get m (n, q.1)) (sym (same_number q.0 j e)) (same q.1)

own_put : (j k : ℕ) (m : SpaceMap) (key v : Text) → j ≢ k → own j (map.insert m (k, key) v) ≡ own j m
own_put j k m key v ne = own_by j m _ (λ q. get_put_other m _ _ v (other_kind j k q key ne))

own_del : (j k : ℕ) (m : SpaceMap) (key : Text) → j ≢ k → own j (map.remove m (k, key)) ≡ own j m
own_del j k m key ne = own_by j m _ (λ q. get_del_other m _ _ (other_kind j k q key ne))

own_if : (j k : ℕ) (m : SpaceMap) (key v : Text) (b : Bool) → j ≢ k → own j (cond b (map.insert m (k, key) v) m) ≡ own j m
own_if j k m key v true ne = own_put j k m key v ne
own_if j k m key v false ne = refl

-- The session engine

freed_own : (j : ℕ) → j ≢ 2 → (m : SpaceMap) (s n : ℕ) (xs : List Item) (mid : SpaceMap) → Frees m s n xs mid → own j mid ≡ own j m
freed_own j ne m s n [] mid h = ap (own j) h.1
freed_own j ne m s n (x ∷ xs) mid h = freed_own j ne (map.remove m (2, held_key s n)) s (n + 1) xs mid h.3 ∙ own_del j 2 m (held_key s n) ne

waits_own : (j : ℕ) → j ≢ 2 → (m : SpaceMap) (s r : ℕ) (payload : Text) (o : Option Text) → own j (waits m s r payload o) ≡ own j m
waits_own j ne m s r payload None = own_put j 2 m _ payload ne
waits_own j ne m s r payload (Some earlier) = refl

acts_own : (j : ℕ) → j ≢ 2 → (m : SpaceMap) (s r : ℕ) (up : Up) (m' : SpaceMap) → Acts m s r up m' → own j m' ≡ own j m
acts_own j ne m s r up m' a = ap (own j) a.last ∙ own_put j 2 a.mid _ _ ne ∙ freed_own j ne m s (r + 1) a.freed a.mid a.frees

rank_own : (j : ℕ) → j ≢ 2 → (m : SpaceMap) (s r : ℕ) (payload : Text) (up : Up) (m' : SpaceMap) → RankStep m s r payload up m' → own j m' ≡ own j m
rank_own j ne m s r payload up m' step =
    elim (cases_lt (last_of m s) r) [
      | inr le ↦ ap (own j) (step.early le).1
      | inl lt ↦ elim (cases_lt (last_of m s + 1) r) [
        | inl far ↦ ap (own j) (step.later far).1 ∙ waits_own j ne m s r payload (held_of m s r)
        | inr near ↦ acts_own j ne m s r up m' (step.next (omega arith))
      ]
    ]

session_own : (j : ℕ) → j ≢ 2 → (m : SpaceMap) (payload : Text) (w : Option Content) (up : Up) (m' : SpaceMap) → SessionAt m payload w up m' → own j m' ≡ own j m
session_own j ne m payload None up m' h = ap (own j) h.1
session_own j ne m payload (Some (Session s r c)) up m' h = rank_own j ne m s r payload up m' h
session_own j ne m payload (Some (Alive n z)) up m' h = ap (own j) h.1
session_own j ne m payload (Some (Leave n)) up m' h = ap (own j) h.1
session_own j ne m payload (Some (Trim z)) up m' h = ap (own j) h.1

-- The view, trim and table engines

view_own : (j : ℕ) → j ≢ 3 → (m : SpaceMap) (w : Option Content) (up : Up) (m' : SpaceMap) → ViewAt m w up m' → own j m' ≡ own j m
view_own j ne m None up m' h = ap (own j) h.1
view_own j ne m (Some (Session s r c)) up m' h = ap (own j) h.1
view_own j ne m (Some (Alive n z)) up m' h = ap (own j) h.2 ∙ own_if j 3 m (view_key n) (u64_bytes z) (not (is_left (view_of m n)) && nat_lt (number_at (view_of m n)) z) ne
view_own j ne m (Some (Leave n)) up m' h = ap (own j) h.1 ∙ own_put j 3 m (view_key n) [] ne
view_own j ne m (Some (Trim z)) up m' h = ap (own j) h.1

trim_own : (j : ℕ) → j ≢ 4 → (m : SpaceMap) (w : Option Content) (up : Up) (m' : SpaceMap) → TrimAt m w up m' → own j m' ≡ own j m
trim_own j ne m None up m' h = ap (own j) h.1
trim_own j ne m (Some (Session s r c)) up m' h = ap (own j) h.1
trim_own j ne m (Some (Alive n z)) up m' h = ap (own j) h.1
trim_own j ne m (Some (Leave n)) up m' h = ap (own j) h.1
trim_own j ne m (Some (Trim z)) up m' h = ap (own j) h.2 ∙ own_if j 4 m trim_key (u64_bytes z) (nat_lt (trim_of m) z) ne

value_own : (j : ℕ) → j ≢ 5 → (m : SpaceMap) (key : Text) (v : Option Text) → own j (with_value m key v) ≡ own j m
value_own j ne m key None = own_del j 5 m key ne
value_own j ne m key (Some v) = own_put j 5 m key v ne

table_own : (j : ℕ) → j ≢ 5 → (m : SpaceMap) (w : Option Content) (up : Up) (m' : SpaceMap) → TableAt m w up m' → own j m' ≡ own j m
table_own j ne m None up m' h = ap (own j) h.1
table_own j ne m (Some (Session s r c)) up m' h =
    elim c as (λ o. TableDoes m o up m' → own j m' ≡ own j m) [ None ↦ λ does. ap (own j) does.1 | Some d ↦ λ does. ap (own j) does.1 ∙ value_own j ne m _ _ ] h
table_own j ne m (Some (Alive n z)) up m' h = ap (own j) h.1
table_own j ne m (Some (Leave n)) up m' h = ap (own j) h.1
table_own j ne m (Some (Trim z)) up m' h = ap (own j) h.1

-- One of the five engines takes an item, or hears a reply

up_own : (k : ℕ) → 1 ≤ k → k ≤ 5 → (j : ℕ) → j ≢ k → (m : SpaceMap) (place : Place) (item : Item) (up : Up) (m' : SpaceMap) → UpStep k m place item up m' → own j m' ≡ own j m
up_own zero low high j ne m place item up m' h = absurd (omega arith)
up_own (suc zero) low high j ne m place item up m' h = ap (own j) (h.batch refl).1
up_own (suc (suc zero)) low high j ne m place item up m' h =
    session_own j ne (opening m place) item.payload (under 2 item) up m' (h.session refl) ∙ own_if j 2 m clean_key (u64_bytes place.pos) ((place.sub == 0) && not (is_holding m)) ne
up_own (suc (suc (suc zero))) low high j ne m place item up m' h = view_own j ne m (under 3 item) up m' (h.view refl)
up_own (suc (suc (suc (suc zero)))) low high j ne m place item up m' h = trim_own j ne m (under 4 item) up m' (h.trim refl)
up_own (suc (suc (suc (suc (suc zero))))) low high j ne m place item up m' h = table_own j ne m (under 2 item) up m' (h.table refl)
up_own (suc (suc (suc (suc (suc (suc k)))))) low high j ne m place item up m' h = absurd (omega arith)

reply_own : (j : ℕ) → j ≢ 2 → (m : SpaceMap) (place : Place) (w : Option Content) (reply : Text) (m' : SpaceMap) → RepliesAt m place w reply m' → own j m' ≡ own j m
reply_own j ne m place None reply m' h = ap (own j) h
reply_own j ne m place (Some (Session s r c)) reply m' h = ap (own j) h.4 ∙ own_put j 2 m _ _ ne
reply_own j ne m place (Some (Alive n z)) reply m' h = ap (own j) h
reply_own j ne m place (Some (Leave n)) reply m' h = ap (own j) h
reply_own j ne m place (Some (Trim z)) reply m' h = ap (own j) h

back_own : (k j : ℕ) → j ≢ k → (m : SpaceMap) (place : Place) (item : Item) (reply : Text) (m' : SpaceMap) → BackStep k m place item reply m' → own j m' ≡ own j m
back_own k j ne m place item reply m' h =
    elim (same_or_not k 2) [
      | inl e ↦ reply_own j (λ two. ne (two ∙ sym e)) m place (under 2 item) reply m' (h.session e)
      | inr other ↦ ap (own j) (h.other other)
    ]

-- an engine takes all items of a level
pub level_own : (k : ℕ) → 1 ≤ k → k ≤ 5 → (j : ℕ) → j ≢ k → (m : SpaceMap) (xs outs : List Rising) (told : List Told) (m' : SpaceMap) → Level k m xs outs told m' → own j m' ≡ own j m
level_own k low high j ne m [] outs told m' l = ap (own j) l.2
level_own k low high j ne m (x ∷ xs) outs told m' l = level_own k low high j ne l.1 xs l.2 l.3 m' l.5 ∙ up_own k low high j ne m x.place x.item l.0 l.1 l.4

-- an engine hears all replies
pub hears_own : (k j : ℕ) → j ≢ k → (m : SpaceMap) (told : List Told) (m' : SpaceMap) → Hears k m told m' → own j m' ≡ own j m
hears_own k j ne m [] m' h = ap (own j) h
hears_own k j ne m (t ∷ ts) m' h = hears_own k j ne h.0 ts m' h.2 ∙ back_own k j ne m t.place t.item t.reply h.0 h.1
