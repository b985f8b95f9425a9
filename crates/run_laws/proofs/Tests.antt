-- Tests that are passed.
use Rattle.std.proofs.Common.{◌≡◌, refl, Bool, true, false, List, [], ◌∷◌, Option, Some, None, map}
use Rattle.std.specs.List.{list_all}
use Rattle.std.proofs.lemmas.Bool.{and_from}
use Rattle.fitting_run.specs.Tests.{◌⇒◌, each_pair, where_some}
use Rattle.log_laws.specs.Order.{EachPair}
use Rattle.run_laws.proofs.Members.{all-test}

pub where_some-from : {A : Type 0} (o : Option A) (test : A → Bool) → ((x : A) → o ≡ Some x → test x ≡ true) → where_some o test ≡ true
where_some-from None test f = refl
where_some-from (Some x) test f = f x refl

pub implies-from : (t u : Bool) → (t ≡ true → u ≡ true) → (t ⇒ u) ≡ true
implies-from true u f = f refl
implies-from false u f = refl

pub each_pair-from : {A B : Type 0} (f : A → B) (r : B → B → Bool) (xs : List A) → EachPair (λ x y. r (f x) (f y) ≡ true) xs → each_pair r (map f xs) ≡ true
each_pair-from f r [] h = refl
each_pair-from f r (x ∷ xs) h = and_from (list_all (r (f x)) (map f xs)) (each_pair r (map f xs)) (all-test f (r (f x)) xs h.0) (each_pair-from f r xs h.1)
