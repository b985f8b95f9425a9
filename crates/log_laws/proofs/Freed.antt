-- What a space has after waiting ranks were taken out, or one was put in.
use Rattle.std.proofs.Common.{◌≡◌, ◌≢◌, sym, ap, subst, ◌∙◌, ℕ, ◌+◌, ◌<◌, ◌≤◌, ◌^◌, ◌⊎◌, Bool, true, false, cond, List, [], ◌∷◌, length, Some, None, arith, is_some, inl, inr}
use Rattle.std.specs.Prelude.{nat_lt, ◌==◌}
use Rattle.std.specs.Ordering.{eq_by_cmp}
use Rattle.std.proofs.lemmas.Bool.{cases_lt, le-ltb}
use Rattle.std.specs.FinMap as map
use Rattle.std.specs.FinMap.{get-remove}
use Rattle.delos_types.specs.Numbers.{u64_bytes, u64_of}
use Rattle.delos_types.proofs.NumberLaws.{length-u64_bytes, u64_of-u64_bytes}
use Rattle.delos_types.specs.Spaces.{SpaceMap, Text, space_cmp}
use Rattle.delos_types.specs.declared.item.Item.{Item}
use Rattle.engine_steps.specs.Layout.{held_of, held_key, number_at}
use Rattle.engine_steps.specs.Steps.{Frees}
use Rattle.engine_steps.proofs.Held.{held_of_fits}
use Rattle.log_laws.proofs.Keys.{space_total, get_put_other, get_del_same, get_del_other, other_kind, other_key, other_head, held_sessions, held_ranks}
use Rattle.log_laws.proofs.Firsts.{same_or_not}

pub number_text : (n : ℕ) → n < 2 ^ 64 → number_at (Some (u64_bytes n)) ≡ n
number_text n small = ap (λ b. cond b (u64_of (u64_bytes n)) 0) (eight n) ∙ u64_of-u64_bytes n small
  where
    eight : (k : ℕ) → (length (u64_bytes k) == 8) ≡ true
    eight k = ap (λ z. z == 8) (length-u64_bytes k)

pub none_past : (m : SpaceMap) (s r : ℕ) → 2 ^ 64 ≤ r → held_of m s r ≡ None
none_past m s r h = ap (λ b. cond b (map.get m (2, held_key s r)) None) (le-ltb r (2 ^ 64) h)

pub held_fits : (m : SpaceMap) (s r : ℕ) (p : Text) → held_of m s r ≡ Some p → r < 2 ^ 64
held_fits m s r p e = elim (cases_lt r (2 ^ 64)) [ inl h ↦ h | inr past ↦ let off : None ≡ Some p = sym (none_past m s r past) ∙ e in absurd (cc) ]

-- the same look-up, the same waiting rank
pub held_same : (m m' : SpaceMap) (s q : ℕ) → map.get m' (2, held_key s q) ≡ map.get m (2, held_key s q) → held_of m' s q ≡ held_of m s q
held_same m m' s q e = ap (λ o. cond (nat_lt q (2 ^ 64)) o None) e

-- another session or another rank
abbrev pub Apart : ℕ → ℕ → ℕ → ℕ → Type 0
Apart s r t q = (t ≢ s) ⊎ (q ≢ r)

apart_keys : (s r t q : ℕ) → s ≤ 63 → t ≤ 63 → r < 2 ^ 64 → q < 2 ^ 64 → Apart s r t q → held_key t q ≢ held_key s r
apart_keys s r t q hs ht hr hq (inl ne) e = ne (held_sessions t s q r ht hs e)
apart_keys s r t q hs ht hr hq (inr ne) e = ne (held_ranks t s q r hq hr e)

pub held_put_other : (m : SpaceMap) (s r t q : ℕ) (p : Text) → s ≤ 63 → t ≤ 63 → r < 2 ^ 64 → Apart s r t q → held_of (map.insert m (2, held_key s r) p) t q ≡ held_of m t q
held_put_other m s r t q p hs ht hr ne =
    elim (cases_lt q (2 ^ 64)) [
      | inl hq ↦ held_same m _ t q (get_put_other m _ _ p (other_key 2 2 _ _ (apart_keys s r t q hs ht hr hq ne)))
      | inr past ↦ none_past _ t q past ∙ sym (none_past m t q past)
    ]

pub held_del_other : (m : SpaceMap) (s r t q : ℕ) → s ≤ 63 → t ≤ 63 → r < 2 ^ 64 → Apart s r t q → held_of (map.remove m (2, held_key s r)) t q ≡ held_of m t q
held_del_other m s r t q hs ht hr ne =
    elim (cases_lt q (2 ^ 64)) [
      | inl hq ↦ held_same m _ t q (get_del_other m _ _ (other_key 2 2 _ _ (apart_keys s r t q hs ht hr hq ne)))
      | inr past ↦ none_past _ t q past ∙ sym (none_past m t q past)
    ]

pub held_put_low : (m : SpaceMap) (b : ℕ) (k v : Text) (t q : ℕ) → b ≢ 4 → held_of (map.insert m (2, b ∷ k) v) t q ≡ held_of m t q
held_put_low m b k v t q ne = held_same m _ t q (get_put_other m _ _ v (other_key 2 2 _ _ (other_head 4 b _ _ (λ e. ne (sym e)))))

-- what is there after a removal was there
pub del_fewer : (m : SpaceMap) (k q : ℕ × Text) (v : Text) → map.get (map.remove m k) q ≡ Some v → map.get m q ≡ Some v
del_fewer m k q v e = was (eq_by_cmp space_cmp q k) (sym (get-remove space_total m k q) ∙ e)
  where
    was : (b : Bool) → cond b None (map.get m q) ≡ Some v → map.get m q ≡ Some v
    was true f = let off : None ≡ Some v = f in absurd (cc)
    was false f = f

-- the waiting ranks of s from n on that were taken out
pub record Freed (m : SpaceMap) (s n : ℕ) (xs : List Item) (mid : SpaceMap) : Type 0 where
  pub found : (q : ℕ) → n ≤ q → q < n + length xs → is_some (held_of m s q) ≡ true
  pub ends : (q : ℕ) → q ≡ n + length xs → held_of m s q ≡ None
  pub gone : (q : ℕ) → n ≤ q → q < n + length xs → held_of mid s q ≡ None
  pub stays : (t q : ℕ) → t ≤ 63 → (t ≢ s) ⊎ ((q < n) ⊎ (n + length xs ≤ q)) → held_of mid t q ≡ held_of m t q
  pub others : (b : ℕ) (k : Text) → b ≢ 4 → map.get mid (2, b ∷ k) ≡ map.get m (2, b ∷ k)
  pub fewer : (k v : Text) → map.get mid (2, k) ≡ Some v → map.get m (2, k) ≡ Some v
  pub kinds : (a : ℕ) (k : Text) → a ≢ 2 → map.get mid (a, k) ≡ map.get m (a, k)
  pub fits : n ≤ 2 ^ 64 → n + length xs ≤ 2 ^ 64

pub freed : (s : ℕ) → s ≤ 63 → (m mid : SpaceMap) (n : ℕ) (xs : List Item) → Frees m s n xs mid → Freed m s n xs mid
freed s hs m mid n [] f = record {
  found = λ q l h. absurd (omega arith);
  ends = λ q e. subst (λ z. held_of m s z ≡ None) (let same : n ≡ q = omega arith in same) f.0;
  gone = λ q l h. absurd (omega arith);
  stays = λ t q ht k. ap (λ z. held_of z t q) f.1;
  others = λ b k ne. ap (λ (z : SpaceMap). map.get z (2, b ∷ k)) f.1;
  fewer = λ k v e. ap (λ (z : SpaceMap). map.get z (2, k)) (sym f.1) ∙ e;
  kinds = λ a k ne. ap (λ (z : SpaceMap). map.get z (a, k)) f.1;
  fits = λ h. omega arith;
}
freed s hs m mid n (x ∷ xs) f =
    let cut = map.remove m (2, held_key s n) in
    let hn : n < 2 ^ 64 = held_fits m s n f.0 f.1 in
    let ih = freed s hs cut mid (n + 1) xs f.3 in
    let away : (t q : ℕ) → t ≤ 63 → Apart s n t q → held_of cut t q ≡ held_of m t q = (λ t q ht ne. held_del_other m s n t q hs ht hn ne) in
    record {
      found = λ q l h. elim (same_or_not q n) [
        | inl e ↦ subst (λ z. is_some (held_of m s z) ≡ true) (sym e) (ap is_some f.1)
        | inr ne ↦ sym (ap is_some (away s q hs (inr ne))) ∙ ih.found q (omega arith) (omega arith)
      ];
      ends = λ q e. let ne : q ≢ n = (λ z. absurd (omega arith)) in sym (away s q hs (inr ne)) ∙ ih.ends q (omega arith);
      gone = λ q l h. elim (same_or_not q n) [
        | inl e ↦ subst (λ z. held_of mid s z ≡ None) (sym e) (ih.stays s n hs (inr (inl (omega arith))) ∙ held_of_fits cut s n hn ∙ get_del_same m (2, held_key s n))
        | inr ne ↦ ih.gone q (omega arith) (omega arith)
      ];
      stays = λ t q ht k. elim k [
        | inl ne ↦ ih.stays t q ht (inl ne) ∙ away t q ht (inl ne)
        | inr sides ↦ elim sides [
          | inl below ↦ let ne : q ≢ n = (λ z. absurd (omega arith)) in ih.stays t q ht (inr (inl (omega arith))) ∙ away t q ht (inr ne)
          | inr above ↦ let ne : q ≢ n = (λ z. absurd (omega arith)) in ih.stays t q ht (inr (inr (omega arith))) ∙ away t q ht (inr ne)
        ]
      ];
      others = λ b k ne. ih.others b k ne ∙ get_del_other m _ _ (other_key 2 2 _ _ (other_head b 4 _ _ ne));
      fewer = λ k v e. del_fewer m (2, held_key s n) (2, k) v (ih.fewer k v e);
      kinds = λ a k ne. ih.kinds a k ne ∙ get_del_other m _ _ (other_kind a 2 _ _ ne);
      fits = λ h. let g = ih.fits (omega arith) in omega arith;
    }
