-- The steps of the loops that look for a greatest and a least number.
use Rattle.std.proofs.Common.{◌≡◌, refl, sym, ap, ◌∙◌, ℕ, suc, ◌+◌, ◌-◌, ◌<◌, ◌≤◌, Bool, true, false, cond, List, [], ◌∷◌, Option, Some, None, arith, min, max}
use Rattle.std.specs.Prelude.{filter, map, unwrap_or}
use Rattle.std.specs.Option.{option_map}
use Rattle.engine_api.specs.Order.{numbers}
use Rattle.engine_api.specs.Members.{greatest, least}

numbers-from : (n total : ℕ) → n < total → numbers n (total - n) ≡ n ∷ numbers (n + 1) (total - (n + 1))
numbers-from n total below = ap (numbers n) (let e : total - n ≡ suc (total - (n + 1)) = omega arith in e)

numbers-none : (n total : ℕ) → total ≤ n → numbers n (total - n) ≡ []
numbers-none n total over = ap (numbers n) (let e : total - n ≡ 0 = omega arith in e)

filter-passes : (p : ℕ → Bool) (n : ℕ) (ns : List ℕ) → p n ≡ true → filter p (n ∷ ns) ≡ n ∷ filter p ns
filter-passes p n ns e = ap (λ b. cond b (n ∷ filter p ns) (filter p ns)) e

filter-drops : (p : ℕ → Bool) (n : ℕ) (ns : List ℕ) → p n ≡ false → filter p (n ∷ ns) ≡ filter p ns
filter-drops p n ns e = ap (λ b. cond b (n ∷ filter p ns) (filter p ns)) e

pub greatest-passes : (p : ℕ → Bool) (best n total r : ℕ) → best ≤ n → n < total → p n ≡ true → max best (greatest (filter p (numbers n (total - n)))) ≡ r → max n (greatest (filter p (numbers (n + 1) (total - (n + 1))))) ≡ r
greatest-passes p best n total r low below e h =
    let rest = greatest (filter p (numbers (n + 1) (total - (n + 1)))) in
    let front : greatest (filter p (numbers n (total - n))) ≡ max n rest = ap (λ l. greatest (filter p l)) (numbers-from n total below) ∙ ap greatest (filter-passes p n _ e) in
    let over : max best (max n rest) ≡ max n rest = omega arith in
    sym over ∙ sym (ap (max best) front) ∙ h

pub greatest-drops : (p : ℕ → Bool) (best n total r : ℕ) → n < total → p n ≡ false → max best (greatest (filter p (numbers n (total - n)))) ≡ r → max best (greatest (filter p (numbers (n + 1) (total - (n + 1))))) ≡ r
greatest-drops p best n total r below e h = sym (ap (λ l. max best (greatest (filter p l))) (numbers-from n total below) ∙ ap (λ l. max best (greatest l)) (filter-drops p n _ e)) ∙ h

pub greatest-ends : (p : ℕ → Bool) (best n total r : ℕ) → total ≤ n → max best (greatest (filter p (numbers n (total - n)))) ≡ r → best ≡ r
greatest-ends p best n total r over h =
    let none : max best (greatest (filter p (numbers n (total - n)))) ≡ max best 0 = ap (λ l. max best (greatest (filter p l))) (numbers-none n total over) in
    let same : best ≡ max best 0 = omega arith in
    same ∙ sym none ∙ h

-- the least so far, in front of the others
abbrev pub with_least : Option ℕ → List ℕ → List ℕ
with_least None ns = ns
with_least (Some q) ns = q ∷ ns

least-two : (q p : ℕ) (ns : List ℕ) → least (q ∷ p ∷ ns) ≡ least (min q p ∷ ns)
least-two q p [] = refl
least-two q p (n ∷ ns) = omega arith

least-joins : (o : Option ℕ) (p : ℕ) (ns : List ℕ) → least (with_least o (p ∷ ns)) ≡ least (with_least (Some (unwrap_or (option_map (λ q. min q p) o) p)) ns)
least-joins None p ns = refl
least-joins (Some q) p ns = least-two q p ns

pub least-passes : (f : ℕ → ℕ) (p : ℕ → Bool) (o : Option ℕ) (n total r : ℕ) → n < total → p n ≡ true → least (with_least o (map f (filter p (numbers n (total - n))))) ≡ r
    → least (with_least (Some (unwrap_or (option_map (λ q. min q (f n)) o) (f n))) (map f (filter p (numbers (n + 1) (total - (n + 1)))))) ≡ r
least-passes f p o n total r below e h =
    sym (ap (λ l. least (with_least o (map f (filter p l)))) (numbers-from n total below) ∙ ap (λ l. least (with_least o (map f l))) (filter-passes p n _ e) ∙ least-joins o (f n) _) ∙ h

pub least-drops : (f : ℕ → ℕ) (p : ℕ → Bool) (o : Option ℕ) (n total r : ℕ) → n < total → p n ≡ false → least (with_least o (map f (filter p (numbers n (total - n))))) ≡ r
    → least (with_least o (map f (filter p (numbers (n + 1) (total - (n + 1)))))) ≡ r
least-drops f p o n total r below e h =
    sym (ap (λ l. least (with_least o (map f (filter p l)))) (numbers-from n total below) ∙ ap (λ l. least (with_least o (map f l))) (filter-drops p n _ e)) ∙ h

least-alone : (o : Option ℕ) → least (with_least o []) ≡ unwrap_or o 0
least-alone None = refl
least-alone (Some q) = refl

pub least-ends : (f : ℕ → ℕ) (p : ℕ → Bool) (o : Option ℕ) (n total r : ℕ) → total ≤ n → least (with_least o (map f (filter p (numbers n (total - n))))) ≡ r → unwrap_or o 0 ≡ r
least-ends f p o n total r over h = sym (least-alone o) ∙ sym (ap (λ l. least (with_least o (map f (filter p l)))) (numbers-none n total over)) ∙ h
