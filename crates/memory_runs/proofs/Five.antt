-- What is read off a list of five boxes.
use Rattle.std.proofs.Common.{◌≡◌, ℕ, List, [], ◌∷◌, ◌++◌, map, ap, sym, subst, ◌∙◌}
use Rattle.delos_types.specs.declared.item.Item.{Item}
use Rattle.log_laws.specs.Rises.{lowest}

-- five pushes, one after another
pub five : {A : Type 0} (a b c d e : A) (l0 l1 l2 l3 l4 l5 : List A) → l0 ≡ [] → l1 ≡ l0 ++ a ∷ [] → l2 ≡ l1 ++ b ∷ [] → l3 ≡ l2 ++ c ∷ [] → l4 ≡ l3 ++ d ∷ [] → l5 ≡ l4 ++ e ∷ [] → l5 ≡ a ∷ b ∷ c ∷ d ∷ e ∷ []
five a b c d e l0 l1 l2 l3 l4 l5 none one two three four all =
    all ∙ ap (λ l. l ++ e ∷ []) (four ∙ ap (λ l. l ++ d ∷ []) (three ∙ ap (λ l. l ++ c ∷ []) (two ∙ ap (λ l. l ++ b ∷ []) (one ∙ ap (λ l. l ++ a ∷ []) none))))

pub kinds_are : {A : Type 0} (kind : A → ℕ) (a b c d e : A) (l : List A) → l ≡ a ∷ b ∷ c ∷ d ∷ e ∷ [] → kind a ≡ 1 → kind b ≡ 2 → kind c ≡ 3 → kind d ≡ 4 → kind e ≡ 5 → map kind l ≡ 1 ∷ 2 ∷ 3 ∷ 4 ∷ 5 ∷ []
kinds_are kind a b c d e l is one two three four five = ap (map kind) is ∙ cc

pub nothing_waits : {A : Type 0} (kept : A → List Item) (a b c d e : A) (l : List A) → l ≡ a ∷ b ∷ c ∷ d ∷ e ∷ [] → kept a ≡ [] → lowest (map kept l) ≡ []
nothing_waits kept a b c d e l is none = ap (λ x. lowest (map kept x)) is ∙ none

-- what is the same of each value at a place is so of the value at a place that is that one
pub read_at : {X : Type 0} {D : X → Type 0} (read : (i : X) → D i → ℕ) (i j : X) (y : D i) (k : ℕ) → i ≡ j → ((z : D j) → read j z ≡ k) → read i y ≡ k
read_at {X} {D} read i j y k at each = subst (λ (n : X). (z : D n) → read n z ≡ k) (sym at) each y
