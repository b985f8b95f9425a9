-- Each pair of a list.
use Rattle.std.proofs.Common.{◌≡◌, refl, sym, ◌∙◌, subst, inl, inr, ◌⊎◌, List, [], ◌∷◌}
use Rattle.log_laws.specs.Order.{EachPair}
use Rattle.log_laws.proofs.Pairs.{all-imply}
use Rattle.run_laws.proofs.Members.{Among, all-at, all-both, all-of}

pub pairs-imply : {A : Type 0} (R S : A → A → Type 0) (xs : List A) → ((x y : A) → R x y → S x y) → EachPair R xs → EachPair S xs
pairs-imply R S [] f h = tt
pairs-imply R S (x ∷ xs) f h = (all-imply (R x) (S x) xs (f x) h.0, pairs-imply R S xs f h.1)

pub pairs-both : {A : Type 0} (R S : A → A → Type 0) (xs : List A) → EachPair R xs → EachPair S xs → EachPair (λ x y. R x y × S x y) xs
pairs-both R S [] h k = tt
pairs-both R S (x ∷ xs) h k = (all-both (R x) (S x) xs h.0 k.0, pairs-both R S xs h.1 k.1)

-- what any two are to one another
pub pairs-any : {A : Type 0} (R : A → A → Type 0) (xs : List A) → ((x y : A) → Among xs x → Among xs y → R x y) → EachPair R xs
pairs-any R [] f = tt
pairs-any R (x ∷ xs) f = (all-of (R x) xs (λ y m. f x y (inl refl) (inr m)), pairs-any R xs (λ y z m n. f y z (inr m) (inr n)))

-- one is another, or stands before it or behind it
pub pair-at : {A : Type 0} (R : A → A → Type 0) (xs : List A) (x y : A) → EachPair R xs → Among xs x → Among xs y → (x ≡ y) ⊎ (R x y ⊎ R y x)
pair-at R [] x y h m n = absurd m
pair-at R (z ∷ zs) x y h m n =
    elim m [
      | inl e ↦ elim n [
        | inl f ↦ inl (sym e ∙ f)
        | inr later ↦ inr (inl (subst (λ w. R w y) e (all-at (R z) zs y h.0 later)))
      ]
      | inr behind ↦ elim n [
        | inl f ↦ inr (inr (subst (λ w. R w x) f (all-at (R z) zs x h.0 behind)))
        | inr later ↦ pair-at R zs x y h.1 behind later
      ]
    ]
