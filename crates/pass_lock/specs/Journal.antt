-- What was seen of a journal, who signed its entries, and the turns that it is made of.
use Rattle.std.specs.Prelude.{◌≡◌, ◌≢◌, ℕ, List, [], ◌∷◌, ◌++◌, map, cond, length, ◌+◌, ◌≤◌, ◌==◌}
use Rattle.std.specs.List.{All, Contains}
use mathlib.Core.Option.{some}
use lib.ListN.{get_elem?}

-- the sum of f over a list
abbrev pub total : {A : Type 0} → (A → ℕ) → List A → ℕ
total f [] = 0
total f (x ∷ xs) = f x + total f xs

-- the lists one after another
abbrev pub concat : {E : Type 0} → List (List E) → List E
concat [] = []
concat (x ∷ xs) = x ++ concat xs

-- the number of a part of a pass, and the journal that was seen with that part
abbrev pub Part : Type 0 → Type 0
Part E = ℕ × List E

-- the number of a turn, and the piece that was added to the journal in that turn
abbrev pub Turn : Type 0 → Type 0
Turn E = ℕ × List E

module _ {E : Type 0} where
  -- 1 where the number is n, and 0 elsewhere
  abbrev pub is_number : ℕ → ℕ × List E → ℕ
  is_number n x = cond (x.0 == n) 1 0

  -- how many elements have the number n
  abbrev pub times : ℕ → List (ℕ × List E) → ℕ
  times n xs = total (is_number n) xs

  abbrev pub numbers : List (ℕ × List E) → List ℕ
  numbers xs = map (λ x. x.0) xs

  module _ (signer : E → ℕ) where
    -- the journal is what was seen, and then entries that part k did not sign
    abbrev pub Follows : ℕ → List E → List E → Type 0
    Follows k seen journal = (later : List E) × (journal ≡ seen ++ later) × All (λ e. signer e ≢ k) later

    -- the journal begins with all that was seen with each of these parts, and what a part signed was seen with it
    abbrev pub IsKnown : List E → List (Part E) → Type 0
    IsKnown journal parts = All (λ p. Follows p.0 p.1 journal) parts

    -- each entry is signed by one of the parts
    abbrev pub Signed : List (Part E) → List E → Type 0
    Signed parts entries = All (λ e. Contains (numbers parts) (signer e)) entries

  -- the journal is the pieces of the turns 0, 1, 2, .. up to `count`, one after another; `made` are some of these turns, each once, with its piece
  pub record InTurns (count : ℕ) (journal : List E) (made : List (Turn E)) : Type 0 where
    pub pieces : List (List E)
    pub counted : length pieces ≡ count
    pub whole : journal ≡ concat pieces
    pub told : All (λ t. get_elem? pieces t.0 ≡ some t.1) made
    pub once : (turn : ℕ) → times turn made ≤ 1
