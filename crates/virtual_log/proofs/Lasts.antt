-- The last segment of a list.
use Rattle.std.proofs.Common.{◌≡◌, ℕ, zero, suc, ◌-◌, List, [], ◌∷◌, length, Some, refl, ap, ◌∙◌, arith}
use Rattle.std.specs.Prelude.{slice_get}
use Rattle.delos_types.specs.declared.chain.Segment.{Segment}
use Rattle.chain_map.specs.Chain.{last_of_segments}

last_at : (xs : List Segment) (n : ℕ) (x : Segment) → length xs ≡ suc n → Some x ≡ slice_get xs n → x ≡ last_of_segments xs
last_at [] n x l h = absurd (omega arith)
last_at (y ∷ []) zero x l h = cc
last_at (y ∷ []) (suc n) x l h = absurd (omega arith)
last_at (y ∷ z ∷ zs) zero x l h = absurd (omega arith)
last_at (y ∷ z ∷ zs) (suc n) x l h = last_at (z ∷ zs) n x (omega arith) h

pub last_is : (xs : List Segment) (x : Segment) → Some x ≡ slice_get xs (length xs - 1) → x ≡ last_of_segments xs
last_is [] x h = absurd (cc)
last_is (y ∷ ys) x h = let e : length (y ∷ ys) - 1 ≡ length ys = omega arith in last_at (y ∷ ys) (length ys) x refl (h ∙ ap (slice_get (y ∷ ys)) e)
