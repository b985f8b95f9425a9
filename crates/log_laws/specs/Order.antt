-- In which order what acts in a log comes.
use Rattle.std.specs.Prelude.{◌≡◌, ℕ, ◌<◌, ◌⊎◌, nat_lt, List, [], ◌∷◌, filter}
use Rattle.std.specs.List.{AllByRecursion}
use Rattle.delos_types.specs.declared.place.Place.{Place}
use Rattle.engine_api.specs.declared.act.Act.{Act}

-- an earlier place
abbrev pub Precedes : Place → Place → Type 0
Precedes p q = (p.pos < q.pos) ⊎ ((p.pos ≡ q.pos) × (p.sub < q.sub))

-- rank r of session s at p comes before rank u of session t at q
abbrev pub Before : Place → ℕ → ℕ → Place → ℕ → ℕ → Type 0
Before p s r q t u = Precedes p q ⊎ ((p ≡ q) × (s ≡ t) × (r < u))

abbrev pub ActsBefore : Act → Act → Type 0
ActsBefore a b = Before a.place a.session a.rank b.place b.session b.rank

-- each element stands so to each later one
abbrev pub EachPair : {A : Type 0} → (A → A → Type 0) → List A → Type 0
EachPair R [] = Unit {0}
EachPair R (x ∷ xs) = AllByRecursion (R x) xs × EachPair R xs

-- what acts at the positions below this one
abbrev pub acts_below : ℕ → List Act → List Act
acts_below pos acts = filter (λ a. nat_lt a.place.pos pos) acts
