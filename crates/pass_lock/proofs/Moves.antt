-- A split and a join keep the rule of the lock's table.
use Rattle.std.proofs.Common.{◌≡◌, ◌≢◌, ℕ, zero, suc, ◌+◌, ◌<◌, ◌≤◌, eqb, length-append, List, [], ◌∷◌, ◌++◌, length, set, take, drop, sym, refl, ap, ◌∙◌, subst, ⊎_elim, arith, cond, Option}
use mathlib.Core.Option.{some}
use lib.ListN.{get_elem?}
use Rattle.std.proofs.lemmas.List.Elements.{All-weaker, All-nil, All-append, All-take, All-drop}
use Rattle.atomic_table.specs.Table.{State, Splits, Joins}
use Rattle.atomic_table.proofs.Lists.{at_set, set_else, at_snoc}
use Rattle.pass_lock.specs.declared.view.View.{View}
use Rattle.pass_lock.specs.Journal.{total, is_number, Follows}
use Rattle.pass_lock.specs.Rule.{parts_with, part_count, in_turn, Fits, Kept}
use Rattle.pass_lock.specs.Steps.{remaining, moving, joined, spent}
use Rattle.pass_lock.proofs.Sums.{total-append, total-set, total-take_drop}
use Rattle.pass_lock.proofs.Kept.{still, fits_outside, placed_more}
use Rattle.pass_lock.proofs.Turned.{turned_still, turned_snoc, turned_both}

length-take_drop : {A : Type 0} (k : ℕ) (l : List A) → length (take k l) + length (drop k l) ≡ length l
length-take_drop zero l = omega arith
length-take_drop (suc k) [] = refl
length-take_drop (suc k) (x ∷ xs) = omega (arith, length-take_drop k xs)

length-take_le : {A : Type 0} (k : ℕ) (l : List A) → length (take k l) ≤ k
length-take_le zero l = omega arith
length-take_le (suc k) [] = omega arith
length-take_le (suc k) (x ∷ xs) = omega (arith, length-take_le k xs)

-- a seat in a turn is one of the old ones
in_old : {E : Type 0} (vs : List (View E)) (id : ℕ) (l m : View E) (j : ℕ) (u : View E) → l.stage ≡ 0 → m.stage ≡ 0 → get_elem? (set vs id l ++ m ∷ []) j ≡ some u → 0 < u.stage → get_elem? vs j ≡ some u
in_old {E} vs id l m j u zl zm e in' = ⊎_elim (λ (t : get_elem? (set vs id l) j ≡ some u).
    ⊎_elim (λ (y : (j ≡ id) × (l ≡ u)). let a : l.stage ≡ u.stage = ap (λ (z : View E). z.stage) y.1 in absurd (omega arith)) (λ (y : (j ≢ id) × (get_elem? vs j ≡ some u)). y.1) (at_set vs id j l u t))
    (λ (t : m ≡ u). let a : m.stage ≡ u.stage = ap (λ (z : View E). z.stage) t in absurd (omega arith)) (at_snoc (set vs id l) m u j e)

in_old' : {E : Type 0} (vs : List (View E)) (id : ℕ) (l : View E) (other : ℕ) (m : View E) (j : ℕ) (u : View E) → l.stage ≡ 0 → m.stage ≡ 0 → get_elem? (set (set vs id l) other m) j ≡ some u → 0 < u.stage → get_elem? vs j ≡ some u
in_old' {E} vs id l other m j u zl zm e in' = ⊎_elim (λ (y : (j ≡ other) × (m ≡ u)). let a : m.stage ≡ u.stage = ap (λ (z : View E). z.stage) y.1 in absurd (omega arith))
    (λ (t : (j ≢ other) × (get_elem? (set vs id l) j ≡ some u)).
    ⊎_elim (λ (y : (j ≡ id) × (l ≡ u)). let a : l.stage ≡ u.stage = ap (λ (z : View E). z.stage) y.1 in absurd (omega arith)) (λ (y : (j ≢ id) × (get_elem? vs j ≡ some u)). y.1) (at_set vs id j l u t.1)) (at_set (set vs id l) other j m u e)

module _ {S E : Type 0} (journal : S → List E) (signer : E → ℕ) (count : ℕ) where
  abbrev St : Type 0
  St = State (Option S) (View E)

  abbrev Rule : St → Type 0
  Rule = Kept journal signer count

  -- the seat id goes from v to w, both outside a turn, and a new seat comes
  pub splits : (id k : ℕ) (v : View E) → v.stage ≡ 0 → k < length v.parts → Splits Rule id v (remaining k v) (moving k v)
  splits id k v idle enough s r at = let l : View E = remaining k v in let m : View E = moving k v in let f = r.fits id v at in let vs : List (View E) = set s.views id l in
      let out : in_turn v ≡ 0 = ap (λ (k : ℕ). cond (eqb k 0) 0 1) idle in
      record {
        drawn = r.drawn;
        served = r.served;
        raised = r.raised;
        log = r.log;
        words = r.words;
        turns = let a = r.turns in let b = total-set in_turn s.views id v l at in let c = total-append in_turn vs (m ∷ []) in omega arith;
        parts = let a = r.parts in let b = total-set part_count s.views id v l at in let c = total-append part_count vs (m ∷ []) in let d = length-take_drop k v.parts in omega arith;
        once = λ n. let a = r.once n in let b = total-set (parts_with n) s.views id v l at in let c = total-append (parts_with n) vs (m ∷ []) in let d = total-take_drop (is_number n) k v.parts in omega arith;
        signed = All-weaker (λ (e : E). 0 < total (parts_with (signer e)) s.views) (λ (e : E). 0 < total (parts_with (signer e)) (vs ++ m ∷ []))
            (λ e pos. let n : ℕ = signer e in let b = total-set (parts_with n) s.views id v l at in let c = total-append (parts_with n) vs (m ∷ []) in let d = total-take_drop (is_number n) k v.parts in omega arith) r.log r.signed;
        fits = λ j u e. ⊎_elim (λ (t : get_elem? vs j ≡ some u).
            ⊎_elim (λ (y : (j ≡ id) × (l ≡ u)). subst (Fits signer r.log r.drawn r.served r.raised) y.1 (fits_outside journal signer count r.log r.drawn r.served r.raised l refl (All-drop (λ p. Follows signer p.0 p.1 r.log) k v.parts f.known)))
            (λ (y : (j ≢ id) × (get_elem? s.views j ≡ some u)). r.fits j u y.1) (at_set s.views id j l u t))
            (λ (t : m ≡ u). subst (Fits signer r.log r.drawn r.served r.raised) t (fits_outside journal signer count r.log r.drawn r.served r.raised m refl (All-take (λ p. Follows signer p.0 p.1 r.log) k v.parts f.known))) (at_snoc vs m u j e);
        apart = λ i j a b ea eb sa sb. r.apart i j a b (in_old s.views id l m i a refl refl ea sa) (in_old s.views id l m j b refl refl eb sb) sa sb;
        placed = placed_more journal signer count r.log r.served r.raised s.homes vs m (omega arith) (still journal signer count r.log r.served r.raised s.homes s.views id v l at (omega arith) (omega arith) r.placed);
        turned = turned_snoc r.log r.raised vs (turned_still r.log r.raised s.views r.turned id v l at refl (λ h. let c = length-take_drop k v.parts in let d = length-take_le k v.parts in omega arith)) m refl;
      }

  -- a seat takes in the parts of another, and the other keeps none
  pub joins : (id : ℕ) (v : View E) (other : ℕ) (u : View E) → v.stage ≡ 0 → u.stage ≡ 0 → Joins Rule id v other u (joined v u) spent
  joins id v other u idle idle' s r at apart there = let b : View E = joined v u in let o : View E = spent in let vs : List (View E) = set s.views id b in let f = r.fits id v at in
      let old : get_elem? s.views other ≡ some u = sym (set_else s.views id other b apart) ∙ there in let g = r.fits other u old in
      let out : in_turn v ≡ 0 = ap (λ (k : ℕ). cond (eqb k 0) 0 1) idle in let out' : in_turn u ≡ 0 = ap (λ (k : ℕ). cond (eqb k 0) 0 1) idle' in
      record {
        drawn = r.drawn;
        served = r.served;
        raised = r.raised;
        log = r.log;
        words = r.words;
        turns = let a = r.turns in let c = total-set in_turn s.views id v b at in let d = total-set in_turn vs other u o there in omega arith;
        parts = let a = r.parts in let c = total-set part_count s.views id v b at in let d = total-set part_count vs other u o there in let e = length-append u.parts v.parts in omega arith;
        once = λ n. let a = r.once n in let c = total-set (parts_with n) s.views id v b at in let d = total-set (parts_with n) vs other u o there in let e = total-append (is_number n) u.parts v.parts in omega arith;
        signed = All-weaker (λ (e : E). 0 < total (parts_with (signer e)) s.views) (λ (e : E). 0 < total (parts_with (signer e)) (set vs other o))
            (λ e pos. let n : ℕ = signer e in let c = total-set (parts_with n) s.views id v b at in let d = total-set (parts_with n) vs other u o there in let e' = total-append (is_number n) u.parts v.parts in omega arith) r.log r.signed;
        fits = λ j x e. ⊎_elim (λ (y : (j ≡ other) × (o ≡ x)). subst (Fits signer r.log r.drawn r.served r.raised) y.1 (fits_outside journal signer count r.log r.drawn r.served r.raised o refl (All-nil (λ p. Follows signer p.0 p.1 r.log))))
            (λ (t : (j ≢ other) × (get_elem? vs j ≡ some x)). ⊎_elim (λ (y : (j ≡ id) × (b ≡ x)). subst (Fits signer r.log r.drawn r.served r.raised) y.1 (fits_outside journal signer count r.log r.drawn r.served r.raised b refl (All-append (λ p. Follows signer p.0 p.1 r.log) u.parts v.parts g.known f.known)))
            (λ (y : (j ≢ id) × (get_elem? s.views j ≡ some x)). r.fits j x y.1) (at_set s.views id j b x t.1)) (at_set vs other j o x e);
        apart = λ i j a c ea ec sa sc. r.apart i j a c (in_old' s.views id b other o i a refl refl ea sa) (in_old' s.views id b other o j c refl refl ec sc) sa sc;
        placed = still journal signer count r.log r.served r.raised s.homes vs other u o there (omega arith) (omega arith) (still journal signer count r.log r.served r.raised s.homes s.views id v b at (omega arith) (omega arith) r.placed);
        turned = turned_both r.log r.raised s.views r.turned id other v u b o at old there refl refl (λ h. let c = length-append u.parts v.parts in (omega arith, omega arith));
      }
