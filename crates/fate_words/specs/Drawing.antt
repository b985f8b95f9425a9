-- Which words a chooser gives, one after another.
use Rattle.std.specs.Prelude.{◌≡◌, ◌<◌, ◌^◌, ℕ, List, [], ◌∷◌}
use Rattle.rand_pcg.specs.Lcg.{Lcg}
use Rattle.rand_pcg.specs.Pcg.{pcg64}

-- A chooser tells in numbers of its own where it stands. It gives these words, each of 64 bits, one after another and no other
-- between them, from where it stands before to where it stands after.
abbrev pub Draws : (List ℕ → ℕ → List ℕ → Type 0) → List ℕ → List ℕ → List ℕ → Type 0
Draws gives before [] after = after ≡ before
Draws gives before (word ∷ words) after = (next : List ℕ) × gives before word next × (word < 2 ^ 64) × Draws gives next words after

-- this word alone, wherever it stands, which stays
abbrev pub GivesAlone : ℕ → List ℕ → ℕ → List ℕ → Type 0
GivesAlone one before word after = (word ≡ one) × (after ≡ before)

-- the number where it stands, which stays
abbrev pub GivesItself : List ℕ → ℕ → List ℕ → Type 0
GivesItself before word after = (before ≡ word ∷ []) × (after ≡ before)

-- where a PCG generator stands
abbrev pub pcg_at : Lcg → List ℕ
pcg_at g = g.state ∷ g.increment ∷ []

-- the next word of the generator that stands there
abbrev pub GivesNext : List ℕ → ℕ → List ℕ → Type 0
GivesNext before word after = (g next : Lcg) × (before ≡ pcg_at g) × (after ≡ pcg_at next) × ((word, next) ≡ pcg64 g)
