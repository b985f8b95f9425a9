-- Positions in stripes: of m stripes, position p is index p / m of stripe p % m.
use Rattle.std.specs.Prelude.{◌≡◌, ℕ, zero, suc, ◌+◌, ◌-◌, ◌*◌, ◌/◌, ◌%◌, ◌<◌, ◌≤◌, ◌==◌, if◌then◌else◌, min, List, [], ◌∷◌, length, get_or}

-- the length up to which stripe j's first n entries cover all of its positions
abbrev pub covered : ℕ → ℕ → ℕ → ℕ
covered m j n = m * n + j

-- how many of the positions below a length stripe j has
unfoldable pub share : ℕ → ℕ → ℕ → ℕ
share m j length = (length + (m - suc j)) / m

-- how many positions below a length stand in stripe j of m, one after another
abbrev pub standing : ℕ → ℕ → ℕ → ℕ
standing m j zero = 0
standing m j (suc n) = standing m j n + (if n % m == j then 1 else 0)

-- the greatest length that stripes j, j + 1, .. of these lengths cover, of m in all
abbrev pub covered_from : ℕ → ℕ → List ℕ → ℕ
covered_from m j [] = 0
covered_from m j (n ∷ []) = covered m j n
covered_from m j (n ∷ k ∷ ns) = min (covered m j n) (covered_from m (suc j) (k ∷ ns))

-- the tail of a striped loglet whose stripes have these tails
abbrev pub striped : List ℕ → ℕ
striped tails = covered_from (length tails) 0 tails

-- each stripe's tail covers the stripe's positions below t
abbrev pub Covers : List ℕ → ℕ → Type 0
Covers tails t = (p : ℕ) → p < t → p / length tails < get_or tails (p % length tails) 0

-- the lengths of one list are at most those of the other, stripe by stripe
abbrev pub AllAtMost : List ℕ → List ℕ → Type 0
AllAtMost ns ks = (length ns ≡ length ks) × ((j : ℕ) → get_or ns j 0 ≤ get_or ks j 0)
