-- The state of the loop that frees waiting ranks.
use Rattle.std.proofs.Common.{cond, ◌≤◌, ◌^◌, ◌≡◌, ℕ, ◌+◌, ◌++◌, ◌∷◌, [], List, length, Option, Some, None, refl, ap, subst, sym, ◌∙◌, arith, append_assoc, append-nil, length-append}
use Rattle.delos_types.specs.declared.item.Item.{Item}
use Rattle.delos_types.specs.Numbers.{u64_bytes}
use Rattle.delos_types.specs.Spaces.{SpaceMap, Text}
use Rattle.std.specs.FinMap as map
use Rattle.engine_steps.specs.Steps.{Frees, Acts, waits}
use Rattle.engine_steps.specs.Words.{ranked_item}
use Rattle.engine_steps.specs.Layout.{held_of, held_key, last_key}
use Rattle.engine_steps.specs.declared.engine.Up.TheVariants.{Pass}
use Rattle.std.proofs.lemmas.Bool.{le-ltb}

-- since `start`, the ranks behind `rank` were freed up to `last`, and went to the end of `out`
pub record FreedSoFar (start : SpaceMap) (s rank : ℕ) (before freed : List Item) (now : SpaceMap) (last : ℕ) (out : List Item) : Type 0 where
  pub out_is : out ≡ before ++ freed
  pub last_is : last ≡ rank + length freed
  pub goes_on : (xs : List Item) (m : SpaceMap) → Frees now s (last + 1) xs m → Frees start s (rank + 1) (freed ++ xs) m

one_more : (rank last n : ℕ) → last ≡ rank + n → last + 1 ≡ rank + (n + 1)
one_more rank last n e = omega arith

-- one more waiting rank is taken out
pub freed_more : {start : SpaceMap} {s rank : ℕ} {before freed : List Item} {now : SpaceMap} {last : ℕ} {out : List Item} → FreedSoFar start s rank before freed now last out → (p : Text) → held_of now s (last + 1) ≡ Some p → FreedSoFar start s rank before (freed ++ ranked_item s (last + 1) p ∷ []) (map.remove now (2, held_key s (last + 1))) (last + 1) (out ++ ranked_item s (last + 1) p ∷ [])
freed_more {start} {s} {rank} {before} {freed} {now} {last} {out} h p is = record {
  out_is = ap (λ o. o ++ ranked_item s (last + 1) p ∷ []) h.out_is ∙ append_assoc before freed _;
  last_is = one_more rank last (length freed) h.last_is ∙ ap (λ n. rank + n) (sym (length-append freed (ranked_item s (last + 1) p ∷ [])));
  goes_on = λ xs m f. subst (λ (l : List Item). Frees start s (rank + 1) l m) (sym (append_assoc freed (ranked_item s (last + 1) p ∷ []) xs)) (h.goes_on (ranked_item s (last + 1) p ∷ xs) m (p, is, refl, f));
}

-- there is nothing more to take out
pub freed_all : {start : SpaceMap} {s rank : ℕ} {before freed : List Item} {now : SpaceMap} {last : ℕ} {out : List Item} → FreedSoFar start s rank before freed now last out → held_of now s (last + 1) ≡ None → (x : List Item) × Frees start s (rank + 1) x now × (out ≡ before ++ x) × (last ≡ rank + length x)
freed_all {start} {s} {rank} {before} {freed} {now} {last} {out} h is = (freed ++ [], h.goes_on [] now (is, refl), subst (λ (l : List Item). out ≡ before ++ l) (sym (append-nil freed)) h.out_is, subst (λ (l : List Item). last ≡ rank + length l) (sym (append-nil freed)) h.last_is)

-- no rank past the last of 64 bits waits
pub none_past : (m : SpaceMap) (s r : ℕ) → 2 ^ 64 ≤ r → held_of m s r ≡ None
none_past m s r h = ap (λ b. cond b (map.get m (2, held_key s r)) None) (le-ltb r (2 ^ 64) h)

-- a later rank that didn't wait does now
pub held_new : (m m' : SpaceMap) (s r : ℕ) (c p key : Text) (o : Option Text) → o ≡ held_of m s r → o ≡ None → m' ≡ map.insert m (2, key) p → key ≡ held_key s r → p ≡ c → m' ≡ waits m s r c (held_of m s r)
held_new m m' s r c p key o is none put k v =
    subst (λ x. m' ≡ waits m s r c x) is (subst (λ x. m' ≡ waits m s r c x) (sym none) (put ∙ ap (λ x. map.insert m (2, x) p) k ∙ ap (λ x. map.insert m (2, held_key s r) x) v))

-- a rank acts, with those that it frees
pub acted : (m mid m' : SpaceMap) (s r last : ℕ) (before out : List Item) (key number : Text) → before ≡ [] → ((freed : List Item) × Frees m s (r + 1) freed mid × (out ≡ before ++ freed) × (last ≡ r + length freed)) → m' ≡ map.insert mid (2, key) number → key ≡ last_key s → number ≡ u64_bytes last → Acts m s r (Pass out) m'
acted m mid m' s r last before out key number first h put k v = record {
  freed = h.0;
  mid = mid;
  frees = h.1;
  goes_on = ap Pass (h.2 ∙ ap (λ (l : List Item). l ++ h.0) first);
  last = put ∙ ap (λ x. map.insert mid (2, x) number) k ∙ ap (λ x. map.insert mid (2, last_key s) x) (v ∙ ap u64_bytes h.3);
}
