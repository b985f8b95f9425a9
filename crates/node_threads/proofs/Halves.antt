-- What a closure did at the elements of two halves it did at all.
use Rattle.std.proofs.Common.{refl, sym, subst, ◌-◌, ◌<◌, ◌≤◌, List, ◌++◌, length, length-append, slice_index_or, arith}
use denote.Ref.{MutBor}
use denote.Param.Members.{Shared}
use mathlib.Core.Logic.{⊎_elim}
use Rattle.std.proofs.lemmas.Bool.{cases_lt}
use Rattle.std.proofs.lemmas.List.{get_or_append_left, get_or-append_right}
use Rattle.node_threads.specs.Each.{Changes, ChangesAll}

module _ {F T : Type 0} (g : Shared F (MutBor T × Unit {0}) (Unit {0} × (MutBor T × Unit {0}))) (f : F) where
  pub both : (xs ys xs' ys' : List T) → ChangesAll g f xs xs' → ChangesAll g f ys ys' → ChangesAll g f (xs ++ ys) (xs' ++ ys')
  both xs ys xs' ys' a b = record {
    len = let old = length-append xs ys in let new = length-append xs' ys' in omega (arith, old, new, a.len, b.len);
    each = λ i d within. ⊎_elim
        (λ (low : i < length xs).
        subst (λ x. Changes g f x (slice_index_or (xs' ++ ys') i d)) (sym (get_or_append_left xs ys d i low))
        (subst (Changes g f (slice_index_or xs i d)) (sym (get_or_append_left xs' ys' d i (omega (arith, low, a.len)))) (a.each i d low)))
        (λ (high : length xs ≤ i).
        subst (λ x. Changes g f x (slice_index_or (xs' ++ ys') i d)) (sym (get_or-append_right xs ys (length xs) i d refl high))
        (subst (Changes g f (slice_index_or ys (i - length xs) d)) (sym (get_or-append_right xs' ys' (length xs) i d a.len high))
        (b.each (i - length xs) d (omega (arith, within, high, length-append xs ys)))))
        (cases_lt i (length xs));
  }
