-- Bytes that move in several calls.
use Rattle.std.proofs.Common.{◌≡◌, ◌+◌, ◌≤◌, length, take, drop, arith, ℕ, List, ◌++◌, Option, Some, None, Result, Ok, Err, sym, ap, ◌∙◌, append_assoc}
use Rattle.std.specs.Prelude.{OnErr}
use Rattle.std.proofs.lemmas.List.{take_at, length-take, take-append-drop, drop-drop}
use Rattle.outside_ends.specs.Sinks.{Gains}
use Rattle.outside_ends.specs.Sources.{Leaves}
use Rattle.outside_ends.specs.Whole.{LosesFront}

pub Gains-then : (a b c : Option (List ℕ)) (x y : List ℕ) → Gains a b x → Gains b c y → Gains a c (x ++ y)
Gains-then None b c x y p q = go b p q
  where
    go : (b : Option (List ℕ)) → b ≡ None → Gains b c y → c ≡ None
    go None p q = q
    go (Some d) p q = absurd cc
Gains-then (Some a) None c x y p q = absurd cc
Gains-then (Some a) (Some b) c x y p q = let e : b ≡ a ++ x = cc in q ∙ ap (λ (t : List ℕ). Some (t ++ y)) e ∙ ap (λ (t : List ℕ). Some t) (append_assoc a x y)

pub Leaves-then : (a b c : Option (List ℕ)) (x y : List ℕ) → Leaves a b x → Leaves b c y → Leaves a c (x ++ y)
Leaves-then None None c x y p q = q
Leaves-then None (Some b) c x y p q = absurd cc
Leaves-then (Some a) None c x y p q = absurd p
Leaves-then (Some a) (Some b) None x y p q = absurd q
Leaves-then (Some a) (Some b) (Some c) x y p q = p ∙ ap (λ (t : List ℕ). x ++ t) q ∙ sym (append_assoc x y c)

-- an error in a later call leaves an end of what was left
pub loses_more : {T E : Type 0} (r : Result T E) (a b c : Option (List ℕ)) (x : List ℕ) → Leaves a b x → LosesFront b c → OnErr r (LosesFront a c)
loses_more (Ok _) a b c x p q = tt
loses_more (Err _) a b c x p q = (x ++ q.0, Leaves-then a b c x q.0 p q.1)

-- n bytes from `at` on, copied to the front of a buffer
pub front_moved : (bytes buf copied : List ℕ) (at n : ℕ) → copied ≡ take n (drop at bytes) → n ≤ length (drop at bytes)
    → drop at bytes ≡ take n (copied ++ drop n buf) ++ drop (at + n) bytes
front_moved bytes buf copied at n is fits =
    let len : length copied ≡ n = ap length is ∙ omega (arith, length-take n (drop at bytes)) in
    rw (take_at copied (drop n buf) n len, is, ← drop-drop n at bytes) (sym (take-append-drop n (drop at bytes)))
