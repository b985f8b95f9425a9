-- Of two lists that have the same elements wherever both have one, the one that isn't longer is how the other begins.
use Rattle.std.proofs.Common.{◌≡◌, refl, ap₂, ℕ, suc, ◌≤◌, List, [], ◌∷◌, length, take, Some, arith}
use Rattle.std.specs.Prelude.{slice_get}
use Rattle.delos_types.specs.declared.entry.Entry.{Entry}

pub begins : (xs ys : List Entry) → ((pos : ℕ) (x y : Entry) → slice_get xs pos ≡ Some x → slice_get ys pos ≡ Some y → x ≡ y) → length xs ≤ length ys → xs ≡ take (length xs) ys
begins [] ys same short = refl
begins (x ∷ xs) [] same short = absurd (omega arith)
begins (x ∷ xs) (y ∷ ys) same short =
    ap₂ (λ a as'. a ∷ as') (same 0 x y refl refl) (begins xs ys (λ pos a b h k. same (suc pos) a b h k) (omega arith))
