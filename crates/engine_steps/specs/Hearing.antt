-- What an engine knows of its space, and what engines one by one were told.
use Rattle.std.specs.Prelude.{ℕ, ◌==◌, List, [], ◌∷◌}
use Rattle.std.specs.FinMap.{retain_keys}
use Rattle.delos_types.specs.Spaces.{SpaceMap}

-- what a space has of this kind
abbrev pub own : ℕ → SpaceMap → SpaceMap
own kind m = retain_keys m (λ k. k.0 == kind)

-- the elements of two lists of one length, one by one
abbrev pub Each : {A B : Type 0} → (A → B → Type 0) → List A → List B → Type 0
Each R [] [] = Unit {0}
Each R (x ∷ xs) (y ∷ ys) = R x y × Each R xs ys
Each R xs ys = ⊥
