-- Where the copies of a bag stand: each under a key of its own. No public clause cites this module.
use Rattle.std.specs.Prelude.{◌≡◌, ⊤, ℕ, ◌≤◌, List, [], ◌∷◌, length, IsSome}
use Rattle.std.specs.List.{AllByRecursion, filter_map}
use Rattle.slab.specs.Slab.{Slab, get}
use Rattle.native_bag.specs.Bags.{most_strays}

-- no two copies stand under one key
abbrev pub AreApart : List ℕ → Type 0
AreApart [] = ⊤
AreApart (k ∷ ks) = AllByRecursion (λ j. j ≡ k → ⊥) ks × AreApart ks

module _ {M : Type 0} where
  -- the copies under these keys
  abbrev pub kept_of : Slab M → List ℕ → List M
  kept_of s ks = filter_map (get s) ks

  pub record IsSound (s : Slab M) (ks : List ℕ) : Type 0 where
    pub there : AllByRecursion (λ k. IsSome (get s k)) ks
    pub apart : AreApart ks
    pub few : length ks ≤ most_strays

  -- the copies stand under these keys, and are these
  pub record Stands (s : Slab M) (ks : List ℕ) (ms : List M) : Type 0 where
    pub sound : IsSound s ks
    pub are : kept_of s ks ≡ ms
