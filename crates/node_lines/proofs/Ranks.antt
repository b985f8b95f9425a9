-- The ranks of items, and those of the entry that they are packed into.
use Rattle.std.proofs.Common.{◌≡◌, refl, ap, ◌∙◌, ◌⊎◌, inl, inr, ℕ, zero, suc, ◌+◌, ◌<◌, ◌≤◌, Bool, true, false, cond, List, [], ◌∷◌, ◌++◌, Option, Some, None, is_some, arith}
use Rattle.std.specs.Prelude.{◌==◌, ◌&&◌, filter_map}
use Rattle.std.specs.List.{cons_option}
use Rattle.std.proofs.lemmas.Bool.Decides.{nat_tests}
use Rattle.std.proofs.lemmas.List.Elements.{filter_map-append}
use Rattle.delos_types.specs.declared.item.Item.{Item}
use Rattle.engine_api.specs.declared.content.Content.{Content}
use Rattle.engine_api.specs.declared.content.Content.TheVariants.{Session, Alive, Leave, Trim}
use Rattle.engine_api.specs.Items.{content_of, placed_from}
use Rattle.engine_api.specs.Acted.{Asked, appearances}
use Rattle.engine_api.specs.Order.{first_of, numbers}
use Rattle.engine_api.specs.Packing.{packed, IsBatch}
use Rattle.engine_api.proofs.Packed.{unpack-packed}
use Rattle.node_lines.specs.UnderWay.{Among, HasRank, rank_under, ranks_in}

is_same : (a b : ℕ) → a ≡ b → (a == b) ≡ true
is_same a b e = grind (arith, nat_tests)

same_number : (a b : ℕ) → (a == b) ≡ true → a ≡ b
same_number a b e = grind (arith, nat_tests)

pub numbers-snoc : (a n : ℕ) → numbers a n ++ (a + n) ∷ [] ≡ numbers a (suc n)
numbers-snoc a zero = ap (λ k. k ∷ []) (let e : a + 0 ≡ a = omega arith in e)
numbers-snoc a (suc n) = ap (λ l. a ∷ l) (ap (λ k. numbers (a + 1) n ++ k ∷ []) (let e : a + suc n ≡ a + 1 + n = omega arith in e) ∙ numbers-snoc (a + 1) n)

pub among-numbers : (a n r : ℕ) → a ≤ r → r < a + n → Among r (numbers a n)
among-numbers a zero r low high = absurd (omega arith)
among-numbers a (suc n) r low high = by_test (a == r) refl (λ l. among-numbers (a + 1) n r l (omega arith))
  where
    by_test : (b : Bool) → (a == r) ≡ b → (a + 1 ≤ r → Among r (numbers (a + 1) n)) → (a ≡ r) ⊎ Among r (numbers (a + 1) n)
    by_test true t rest = inl (same_number a r t)
    by_test false t rest = inr (rest (let l : a + 1 ≤ r = grind (arith, nat_tests) in l))

-- what items say is among what stands there
rank-placed : (s r pos sub : ℕ) (items : List Item) → Among r (ranks_in s items) → is_some (first_of (appearances (placed_from pos sub (filter_map content_of items))) s r) ≡ true
rank-placed s r pos sub [] h = absurd h
rank-placed s r pos sub (i ∷ is) h = by_content (content_of i) (λ n k. rank-placed s r pos n is k) h
  where
    by_content : (o : Option Content) → ((n : ℕ) → Among r (ranks_in s is) → is_some (first_of (appearances (placed_from pos n (filter_map content_of is))) s r) ≡ true) → Among r (cons_option (rank_under s o) (ranks_in s is)) → is_some (first_of (appearances (placed_from pos sub (cons_option o (filter_map content_of is)))) s r) ≡ true
    by_content None rest k = rest sub k
    by_content (Some (Alive n p)) rest k = rest (sub + 1) k
    by_content (Some (Leave n)) rest k = rest (sub + 1) k
    by_content (Some (Trim p)) rest k = rest (sub + 1) k
    by_content (Some (Session t q c)) rest k = by_session (t == s) refl k
      where
        later : List Asked
        later = appearances (placed_from pos (sub + 1) (filter_map content_of is))

        here : Asked
        here = record { place = record { pos = pos; sub = sub }; session = t; rank = q; command = c }

        by_rank : (b : Bool) → (is_some (first_of later s r) ≡ true) → is_some (cond b (Some here) (first_of later s r)) ≡ true
        by_rank true h = refl
        by_rank false h = h

        by_session : (b : Bool) → (t == s) ≡ b → Among r (cons_option (cond b (Some q) None) (ranks_in s is)) → is_some (cond ((t == s) && (q == r)) (Some here) (first_of later s r)) ≡ true
        by_session true e (inl own) = ap (λ (b : Bool). is_some (cond (b && (q == r)) (Some here) (first_of later s r))) e ∙ ap (λ (b : Bool). is_some (cond b (Some here) (first_of later s r))) (is_same q r own)
        by_session true e (inr k) = by_rank ((t == s) && (q == r)) (rest (sub + 1) k)
        by_session false e k = by_rank ((t == s) && (q == r)) (rest (sub + 1) k)

pub rank-packed : (origin s r : ℕ) (items : List Item) → IsBatch items → Among r (ranks_in s items) → HasRank s r (packed origin items)
rank-packed origin s r items b h = ap (λ l. is_some (first_of (appearances l) s r)) (unpack-packed origin items 0 b) ∙ rank-placed s r 0 0 items h

pub ranks-append : (s : ℕ) (xs ys : List Item) → ranks_in s (xs ++ ys) ≡ ranks_in s xs ++ ranks_in s ys
ranks-append s xs ys = filter_map-append (λ (i : Item). rank_under s (content_of i)) xs ys

-- an item of rank r of session s
pub ranks-own : (s r : ℕ) (i : Item) → rank_under s (content_of i) ≡ Some r → ranks_in s (i ∷ []) ≡ r ∷ []
ranks-own s r i h = ap (λ o. cons_option o []) h

-- one that is none of session s
pub ranks-other : (s : ℕ) (i : Item) → rank_under s (content_of i) ≡ None → ranks_in s (i ∷ []) ≡ []
ranks-other s i h = ap (λ o. cons_option o []) h
