-- Fresh replicas.
use Rattle.std.proofs.Common.{◌≡◌, subst, ℕ, suc, ◌+◌, List, [], ◌∷◌, Some, refl, map, arith}
use Rattle.std.specs.Prelude.{slice_get}
use Rattle.replica_api.specs.Replica.{Meaning, ReplicaView}
use Rattle.crew_making.specs.Fresh.{AreFreshFrom, IsNewReplica}

pub fresh_from : {A : Type 0} (meaning : Meaning) (f : A → ReplicaView) (n : ℕ) (xs : List A) → ((j : ℕ) (x : A) → slice_get xs j ≡ Some x → IsNewReplica meaning (j + n) (f x)) → AreFreshFrom meaning n (map f xs)
fresh_from meaning f n [] h = tt
fresh_from meaning f n (x ∷ xs) h = (
  let here : 0 + n ≡ n = omega arith in subst (λ k. IsNewReplica meaning k (f x)) here (h 0 x refl),
  fresh_from meaning f (n + 1) xs (λ j y at. let on : suc j + n ≡ j + (n + 1) = omega arith in subst (λ k. IsNewReplica meaning k (f y)) on (h (suc j) y at)),
)
