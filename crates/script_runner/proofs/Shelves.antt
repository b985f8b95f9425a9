-- Fresh shelves, and engines that come back.
use Rattle.std.proofs.Common.{◌≡◌, refl, ap, ◌∙◌, sym, ℕ, zero, suc, ◌<◌, List, [], ◌∷◌, length, map, arith, slice_index_or}
use Rattle.std.specs.List.{AllByRecursion}
use Rattle.delos_types.specs.declared.item.Item.{Item}
use Rattle.disk_model.specs.Disk.{DiskView}
use Rattle.loglet_api.specs.View.{LogletView, IsFresh}
use Rattle.fitting_run.specs.Fresh.{IsFreshNode, five_kinds}

-- what holds of what each shows holds of each
pub each_fresh : {A : Type 0} (view : A → LogletView) (xs : List A) → AllByRecursion IsFresh (map view xs) → (k : ℕ) (d : A) → k < length xs → IsFresh (view (slice_index_or xs k d))
each_fresh view [] h k d low = absurd (omega (arith, low))
each_fresh view (x ∷ xs) h zero d low = h.0
each_fresh view (x ∷ xs) h (suc k) d low = each_fresh view xs h.1 k d (omega (arith, low))

-- as many nodes, each with the five engines
pub same_kinds : {K : Type 0} (kinds : K → List ℕ) (waiting : K → List Item) (disk : K → DiskView) (xs ys : List K) → length xs ≡ length ys
    → AllByRecursion (λ k. kinds k ≡ five_kinds) xs → AllByRecursion (λ k. IsFreshNode (kinds k) (waiting k) (disk k)) ys → map kinds xs ≡ map kinds ys
same_kinds kinds waiting disk [] [] size h k = refl
same_kinds kinds waiting disk [] (y ∷ ys) size h k = absurd (omega (arith, size))
same_kinds kinds waiting disk (x ∷ xs) [] size h k = absurd (omega (arith, size))
same_kinds kinds waiting disk (x ∷ xs) (y ∷ ys) size h k =
    let here : kinds x ≡ kinds y = h.0 ∙ sym k.0.kinds_are in
    let rest = same_kinds kinds waiting disk xs ys (omega (arith, size)) h.1 k.1 in
    ap (λ z. z ∷ map kinds xs) here ∙ ap (λ zs. kinds y ∷ zs) rest

-- the kinds of these engines
pub kinds_of_engines : {K E : Type 0} (engines : K → E) (kinds : E → List ℕ) (xs ys : List K) → map engines xs ≡ map engines ys → map (λ k. kinds (engines k)) xs ≡ map (λ k. kinds (engines k)) ys
kinds_of_engines {K} {E} engines kinds xs ys same = one xs ∙ (ap (map kinds) same ∙ sym (one ys))
  where
    one : (zs : List K) → map (λ k. kinds (engines k)) zs ≡ map kinds (map engines zs)
    one [] = refl
    one (z ∷ zs) = ap (λ l. kinds (engines z) ∷ l) (one zs)
