-- Whether some rank waits, and what that says of the log.
use Rattle.std.proofs.Common.{◌≡◌, refl, sym, ap, subst, ◌∙◌, ℕ, ◌+◌, ◌<◌, ◌≤◌, ◌^◌, Bool, true, false, cond, List, [], ◌∷◌, ◌++◌, Option, Some, None, arith, is_some, inl, inr, not}
use Rattle.std.specs.Prelude.{◌==◌, ◌&&◌, nat_lt, find}
use Rattle.std.specs.List.{list_all}
use Rattle.std.specs.Option.{option_map}
use Rattle.std.proofs.Common.{append_assoc}
use Rattle.std.specs.Ordering.{is_lt, is_eq}
use Rattle.std.proofs.lemmas.Bool.{cases_lt}
use Rattle.std.proofs.lemmas.Bool.Decides.{nat_tests}
use Rattle.std.proofs.lemmas.Cmp.{tied_itself}
use Rattle.std.specs.FinMap as finmap
use Rattle.std.specs.FinMap.{get-retain_keys, get-entries, entries, retain_keys, same_map}
use Rattle.delos_types.specs.Numbers.{u16_bytes, u64_bytes}
use Rattle.delos_types.specs.Spaces.{SpaceMap, Text, space_cmp, text_cmp, first_key}
use Rattle.table_core.specs.Reading.{command_of}
use Rattle.engine_api.specs.Acted.{Asked}
use Rattle.engine_api.specs.Order.{first_of, gap_from, is_clean}
use Rattle.engine_steps.specs.Layout.{last_of, held_of, held_key, is_holding}
use Rattle.engine_steps.proofs.Held.{held_of_fits}
use Rattle.log_laws.specs.State.{HoldsRanks, KnownSessions, Tracks}
use Rattle.log_laws.proofs.Keys.{space_total, space_exact}
use Rattle.log_laws.proofs.Firsts.{absent, same_or_not}
use Rattle.log_laws.proofs.Ranks.{commands, ones}

-- the keys among which a waiting rank is sought
abbrev pub sought : ℕ × Text → Bool
sought k = (k.0 == 2) && not (is_lt (text_cmp k.1 (4 ∷ [])))

sought_get : (m : SpaceMap) (q : ℕ × Text) → finmap.get (retain_keys m sought) q ≡ cond (sought q) (finmap.get m q) None
sought_get m q = get-retain_keys m sought q (λ x tie. ap sought (sym (space_exact q x tie)))

not_below_nothing : (rest : Text) → is_lt (text_cmp rest []) ≡ false
not_below_nothing [] = refl
not_below_nothing (b ∷ bs) = refl

-- the key of a waiting rank is sought
sought_held : (s r : ℕ) → sought (2, held_key s r) ≡ true
sought_held s r = ap not (not_below_nothing (u16_bytes s ++ u64_bytes r))

-- nothing is found where nothing is sought
found_none : (m : SpaceMap) (es : List ((ℕ × Text) × Text)) (q : ℕ × Text) → entries (retain_keys m sought) ≡ es → is_some (first_key es) ≡ false → sought q ≡ true → finmap.get m q ≡ None
found_none m [] q is none yes_it_is =
    sym (ap (λ b. cond b (finmap.get m q) None) yes_it_is) ∙ sym (sought_get m q) ∙ get-entries (retain_keys m sought) q ∙ ap (λ es. finmap.find space_cmp q es) is
found_none m (e ∷ es) q is none yes_it_is = absurd (cc)

-- what is found is sought and there
record Found (m : SpaceMap) : Type 0 where
  key : ℕ × Text
  value : Text
  wanted : sought key ≡ true
  there : finmap.get m key ≡ Some value

taken : (b : Bool) (o : Option Text) (v : Text) → cond b o None ≡ Some v → (b ≡ true) × (o ≡ Some v)
taken true o v e = (refl, e)
taken false o v e = let off : None ≡ Some v = e in absurd (cc)

found_some : (m : SpaceMap) (es : List ((ℕ × Text) × Text)) → entries (retain_keys m sought) ≡ es → is_some (first_key es) ≡ true → Found m
found_some m [] is some = absurd (cc)
found_some m (e ∷ es) is some =
    let here : finmap.get (retain_keys m sought) e.0 ≡ Some e.1 = get-entries (retain_keys m sought) e.0 ∙ ap (λ l. finmap.find space_cmp e.0 l) is ∙ ap (λ b. cond b (Some e.1) (finmap.find space_cmp e.0 es)) (ap is_eq (tied_itself space_total e.0)) in
    let got = taken (sought e.0) (finmap.get m e.0) e.1 (sym (sought_get m e.0) ∙ here) in
    record { key = e.0; value = e.1; wanted = got.0; there = got.1 }

-- no rank waits where none is found
pub holding_none : (m : SpaceMap) (s q : ℕ) → is_holding m ≡ false → held_of m s q ≡ None
holding_none m s q e = none_of (nat_lt q (2 ^ 64)) (found_none m (entries (retain_keys m sought)) (2, held_key s q) refl e (sought_held s q))
  where
    none_of : (b : Bool) → finmap.get m (2, held_key s q) ≡ None → cond b (finmap.get m (2, held_key s q)) None ≡ None
    none_of true f = f
    none_of false f = refl

left_true : (a b : Bool) → (a && b) ≡ true → a ≡ true
left_true true b e = refl
left_true false b e = e

right_true : (a b : Bool) → (a && b) ≡ true → b ≡ true
right_true true b e = e
right_true false b e = absurd (cc)

same_number : (a b : ℕ) → (a == b) ≡ true → a ≡ b
same_number a b e = grind (arith, nat_tests)

not_true : (b : Bool) → not b ≡ true → b ≡ false
not_true true e = absurd (cc)
not_true false e = refl

-- some rank waits where one is found
pub record Waiting (m : SpaceMap) : Type 0 where
  pub session : ℕ
  pub rank : ℕ
  pub known : session ≤ 63
  pub waits : is_some (held_of m session rank) ≡ true

pub holding_some : (m : SpaceMap) → HoldsRanks m → is_holding m ≡ true → Waiting m
holding_some m h e =
    let f = found_some m (entries (retain_keys m sought)) refl e in
    let kind : f.key.0 ≡ 2 = same_number _ _ (left_true _ _ f.wanted) in
    let high : is_lt (text_cmp f.key.1 (4 ∷ [])) ≡ false = not_true _ (right_true _ _ f.wanted) in
    let there : finmap.get m (2, f.key.1) ≡ Some f.value = subst (λ (a : ℕ). finmap.get m (a, f.key.1) ≡ Some f.value) kind f.there in
    let k = h.key f.key.1 f.value high there in
    record {
      session = k.0;
      rank = k.1;
      known = k.2;
      waits = ap is_some (held_of_fits m k.0 k.1 k.3 ∙ ap (λ (l : Text). finmap.get m (2, l)) (sym k.4) ∙ there);
    }

-- the same keys of waiting ranks, the same answer
pub holding_same : (m m' : SpaceMap) → ((k : Text) → is_lt (text_cmp k (4 ∷ [])) ≡ false → finmap.get m' (2, k) ≡ finmap.get m (2, k)) → is_holding m' ≡ is_holding m
holding_same m m' same = ap (λ (z : SpaceMap). is_some (first_key (entries z))) (same_map space_total space_exact _ _ (λ q. sought_get m' q ∙ alike q (sought q) refl ∙ sym (sought_get m q)))
  where
    alike : (q : ℕ × Text) (b : Bool) → sought q ≡ b → cond b (finmap.get m' q) None ≡ cond b (finmap.get m q) None
    alike q true e =
        let kind : 2 ≡ q.0 = sym (same_number _ _ (left_true _ _ e)) in
        subst (λ (a : ℕ). finmap.get m' (a, q.1) ≡ finmap.get m (a, q.1)) kind (same q.1 (not_true _ (right_true _ _ e)))
    alike q false e = refl

-- The log is clean where no rank waits

-- what is found in a list is in it
find_fails : (p t : Asked → Bool) (xs : List Asked) (x : Asked) → find p xs ≡ Some x → ((y : Asked) → p y ≡ true → t y ≡ false) → list_all t xs ≡ false
find_fails p t [] x e h = let off : None ≡ Some x = e in absurd (cc)
find_fails p t (y ∷ ys) x e h =
    elim (p y) as (λ b. p y ≡ b → cond b (Some y) (find p ys) ≡ Some x → (t y && list_all t ys) ≡ false) [
      | true ↦ λ is f. ap (λ b. b && list_all t ys) (h y is)
      | false ↦ λ is f. ap (λ b. t y && b) (find_fails p t ys x f h) ∙ and_false (t y)
    ] refl e
  where
    and_false : (b : Bool) → (b && false) ≡ false
    and_false true = refl
    and_false false = refl

some_is : {A : Type 0} (o : Option A) → is_some o ≡ true → (x : A) × (o ≡ Some x)
some_is None e = absurd (cc)
some_is (Some x) e = (x, refl)

first_is : (o : Option Text) (f : Option Asked) → option_map command_of o ≡ commands f → is_some o ≡ true → is_some f ≡ true
first_is None f e h = absurd (cc)
first_is (Some p) None e h = absurd (cc)
first_is (Some p) (Some f) e h = refl

held_first : (o : Option Text) (f : Option Asked) → option_map command_of o ≡ commands f → o ≡ None → is_some f ≡ false
held_first o None e h = refl
held_first o (Some f) e h = let off : None ≡ Some f.command = ap (option_map command_of) (sym h) ∙ e in absurd (cc)

not_below : (a b : ℕ) → b ≤ a → nat_lt a b ≡ false
not_below a b h = grind (arith, nat_tests)

is_below : (a b : ℕ) → a < b → nat_lt a b ≡ true
is_below a b h = grind (arith, nat_tests)

-- a waiting rank is above its session's gap
pub unclean : (xs : List Asked) (m : SpaceMap) → Tracks xs m → is_holding m ≡ true → is_clean ones xs ≡ false
unclean xs m t e =
    let w = holding_some m t.waiting e in
    let own = t.sessions w.session w.known in
    let far : last_of m w.session + 1 < w.rank = elim (cases_lt (last_of m w.session + 1) w.rank) [
      | inl h ↦ h
      | inr h ↦ absurd (none_some (held_of m w.session w.rank) (own.none w.rank h) w.waits)
    ] in
    let f = some_is (first_of xs w.session w.rank) (first_is (held_of m w.session w.rank) _ (own.held w.rank far) w.waits) in
    find_fails (λ x. (x.session == w.session) && (x.rank == w.rank)) (λ x. nat_lt x.rank (gap_from xs x.session (ones x.session))) xs f.0 f.1 (λ y is.
    let here : y.session ≡ w.session = same_number _ _ (left_true _ _ is) in
    let rank : y.rank ≡ w.rank = same_number _ _ (right_true _ _ is) in
    let gap : gap_from xs y.session 1 ≡ last_of m w.session + 1 = subst (λ z. gap_from xs z 1 ≡ last_of m w.session + 1) (sym here) own.gap in
    not_below y.rank (gap_from xs y.session 1) (omega arith))
  where
    none_some : (o : Option Text) → o ≡ None → is_some o ≡ true → ⊥
    none_some o e h = let off : false ≡ true = sym (ap is_some e) ∙ h in absurd (cc)

-- each that appears is found
appears_at : (xs : List Asked) (y : Asked) (zs : List Asked) → is_some (first_of (xs ++ y ∷ zs) y.session y.rank) ≡ true
appears_at [] y zs = let t : ((y.session == y.session) && (y.rank == y.rank)) ≡ true = grind (arith, nat_tests) in ap (λ b. is_some (cond b (Some y) (first_of zs y.session y.rank))) t
appears_at (x ∷ xs) y zs =
    elim ((x.session == y.session) && (x.rank == y.rank)) as (λ b. is_some (cond b (Some x) (first_of (xs ++ y ∷ zs) y.session y.rank)) ≡ true) [ true ↦ refl | false ↦ appears_at xs y zs ]

all_below : (t : Asked → Bool) (done xs : List Asked) → ((front : List Asked) (y : Asked) (rest : List Asked) → done ++ xs ≡ front ++ y ∷ rest → t y ≡ true) → list_all t xs ≡ true
all_below t done [] h = refl
all_below t done (x ∷ xs) h =
    ap (λ b. b && list_all t xs) (h done x xs refl) ∙ all_below t (done ++ x ∷ []) xs (λ front y rest e. h front y rest (sym (append_assoc done (x ∷ []) xs) ∙ e))

known_at : (front : List Asked) (y : Asked) (rest : List Asked) → KnownSessions (front ++ y ∷ rest) → y.session ≤ 63
known_at [] y rest h = h.0
known_at (x ∷ front) y rest h = known_at front y rest h.1

-- with no rank waiting, each that appeared has acted
pub clean : (xs : List Asked) (m : SpaceMap) → Tracks xs m → is_holding m ≡ false → is_clean ones xs ≡ true
clean xs m t e = all_below (λ x. nat_lt x.rank (gap_from xs x.session (ones x.session))) [] xs (λ front y rest is.
    let low : y.session ≤ 63 = known_at front y rest (subst KnownSessions is t.known) in
    let own = t.sessions y.session low in
    let there : is_some (first_of xs y.session y.rank) ≡ true = subst (λ (l : List Asked). is_some (first_of l y.session y.rank) ≡ true) (sym is) (appears_at front y rest) in
    let gap : gap_from xs y.session 1 ≡ last_of m y.session + 1 = own.gap in
    is_below y.rank (gap_from xs y.session 1) (elim (cases_lt y.rank (gap_from xs y.session 1)) [
      | inl h ↦ h
      | inr h ↦ elim (same_or_not y.rank (last_of m y.session + 1)) [
        | inl at ↦ absurd (off there (subst (λ z. is_some (first_of xs y.session z) ≡ false) (sym at) (absent xs y.session _ gap)))
        | inr ne ↦ absurd (off there (held_first (held_of m y.session y.rank) _ (own.held y.rank (omega arith)) (holding_none m y.session y.rank e)))
      ]
    ]))
  where
    off : {b : Bool} → b ≡ true → b ≡ false → ⊥
    off p q = let z : true ≡ false = sym p ∙ q in absurd (cc)
