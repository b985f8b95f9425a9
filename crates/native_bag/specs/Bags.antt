-- What a bag shows: its copies, in the order in which they were kept.
use Rattle.std.specs.Prelude.{ℕ, if◌then◌else◌, nat_lt, length, List, [], ◌∷◌, ◌++◌}

-- at most so many copies are kept
abbrev pub most_strays : ℕ
most_strays = 64

-- one copy more, where there is room for it
abbrev pub kept_with : {M : Type 0} → M → List M → List M
kept_with copy kept = if nat_lt (length kept) most_strays then kept ++ copy ∷ [] else kept
