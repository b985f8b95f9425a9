-- A rank of 64 bits is looked up as it is.
use Rattle.std.proofs.Common.{◌≡◌, ℕ, ◌<◌, ◌^◌, ap, cond, None}
use Rattle.std.proofs.lemmas.Bool.{lt-ltb}
use Rattle.std.specs.FinMap as map
use Rattle.delos_types.specs.Spaces.{SpaceMap}
use Rattle.engine_steps.specs.Layout.{held_of, held_key}

pub held_of_fits : (m : SpaceMap) (s r : ℕ) → r < 2 ^ 64 → held_of m s r ≡ map.get m (2, held_key s r)
held_of_fits m s r h = ap (λ b. cond b (map.get m (2, held_key s r)) None) (lt-ltb r (2 ^ 64) h)
