-- Session order: each rank of a session acts once, in order, with the command of its first appearance.
use Rattle.std.specs.Prelude.{ℕ, zero, suc, ◌+◌, ◌-◌, Bool, ◌&&◌, ◌==◌, nat_lt, count_by, true, if◌then◌else◌, List, [], ◌∷◌, ◌++◌, Option, find, filter_map, is_some, max}
use Rattle.std.specs.Option.{option_map}
use Rattle.std.specs.List.{list_all}
use Rattle.engine_api.specs.declared.appearance.Appearance.{Appearance}

-- the first appearance of rank r of session s
abbrev pub first_of : {C : Type 0} → List (Appearance C) → ℕ → ℕ → Option (Appearance C)
first_of xs s r = find (λ x. (x.session == s) && (x.rank == r)) xs

-- the first of the n ranks of session s from r on that doesn't appear, else the one after them
abbrev pub gap_within : {C : Type 0} → List (Appearance C) → ℕ → ℕ → ℕ → ℕ
gap_within xs s r zero = r
gap_within xs s r (suc n) = if is_some (first_of xs s r) then gap_within xs s (r + 1) n else r

-- the greatest rank that appears
abbrev pub top_rank : {C : Type 0} → List (Appearance C) → ℕ
top_rank [] = 0
top_rank (x ∷ xs) = max x.rank (top_rank xs)

-- the first rank of session s from r on that doesn't appear: those from r up to it have acted
abbrev pub gap_from : {C : Type 0} → List (Appearance C) → ℕ → ℕ → ℕ
gap_from xs s r = gap_within xs s r (top_rank xs + 1)

-- rank r of the session of x, at the place of x, with the command of its first appearance
abbrev pub act_at : {C : Type 0} → List (Appearance C) → Appearance C → ℕ → Option (Appearance C)
act_at xs x r = option_map (λ f. record { place = x.place; session = x.session; rank = r; command = f.command }) (first_of xs x.session r)

-- n numbers from a on
abbrev pub numbers : ℕ → ℕ → List ℕ
numbers a zero = []
numbers a (suc n) = a ∷ numbers (a + 1) n

-- what acts at the place of x: the ranks that x frees, in order
abbrev pub acts_of : {C : Type 0} → (ℕ → ℕ) → List (Appearance C) → Appearance C → List (Appearance C)
acts_of start before x =
    let xs = before ++ x ∷ [] in
    let from = gap_from before x.session (start x.session) in
    filter_map (act_at xs x) (numbers from (gap_from xs x.session (start x.session) - from))

-- all that acts, place by place, where `before` stood earlier
abbrev pub acted_after : {C : Type 0} → (ℕ → ℕ) → List (Appearance C) → List (Appearance C) → List (Appearance C)
acted_after start before [] = []
acted_after start before (x ∷ xs) = acts_of start before x ++ acted_after start (before ++ x ∷ []) xs

-- all that acts, where each session begins with its rank `start`
abbrev pub acted_from : {C : Type 0} → (ℕ → ℕ) → List (Appearance C) → List (Appearance C)
acted_from start xs = acted_after start [] xs

-- each rank that appears has acted, or is below its session's start
abbrev pub is_clean : {C : Type 0} → (ℕ → ℕ) → List (Appearance C) → Bool
is_clean start xs = list_all (λ x. nat_lt x.rank (gap_from xs x.session (start x.session))) xs

-- how many of these are of session s
abbrev pub count_of : {C : Type 0} → List (Appearance C) → ℕ → ℕ
count_of xs s = count_by (λ x. x.session == s) xs

-- each is the next rank of its session, where `before` stood earlier
abbrev pub in_turn_after : {C : Type 0} → (ℕ → ℕ) → List (Appearance C) → List (Appearance C) → Bool
in_turn_after start before [] = true
in_turn_after start before (x ∷ xs) = (x.rank == (start x.session + count_of before x.session)) && in_turn_after start (before ++ x ∷ []) xs

-- the ranks of each session come one after another from its start, each once
abbrev pub in_turn : {C : Type 0} → (ℕ → ℕ) → List (Appearance C) → Bool
in_turn start xs = in_turn_after start [] xs
