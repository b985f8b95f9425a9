-- How bytes come off a source.
use Rattle.std.specs.Prelude.{◌≡◌, ◌≤◌, ℕ, Bool, true, false, List, [], ◌++◌, Option, Some, None, take}
use Rattle.outside_ends.specs.declared.source.Taken.{Taken}
use Rattle.outside_ends.specs.declared.source.Taken.TheVariants.{Took, End, Failed}

abbrev pub has_failed : Taken → Bool
has_failed Failed = true
has_failed _ = false

-- at least one byte, and no more than there is room for
abbrev pub TakesSome : Taken → ℕ → Type 0
TakesSome (Took n) room = (1 ≤ n) × (n ≤ room)
TakesSome _ room = Unit {0}

-- the bytes come off the front of what was left; a source that told goes on telling
abbrev pub LeavesBehind : List ℕ → Option (List ℕ) → List ℕ → Type 0
LeavesBehind before (Some after) bytes = before ≡ bytes ++ after
LeavesBehind before None bytes = ⊥

-- the bytes came off what was left, where that is told
abbrev pub Leaves : Option (List ℕ) → Option (List ℕ) → List ℕ → Type 0
Leaves None after bytes = after ≡ None
Leaves (Some before) after bytes = LeavesBehind before after bytes

-- where told, nothing was left
abbrev pub IsAtEnd : Option (List ℕ) → Option (List ℕ) → Type 0
IsAtEnd None after = after ≡ None
IsAtEnd (Some before) after = (before ≡ []) × (after ≡ Some [])

-- what a call takes off what was left; the end comes only where nothing is, and a failure takes nothing
abbrev pub TakesFrom : Option (List ℕ) → Option (List ℕ) → Taken → List ℕ → Type 0
TakesFrom before after (Took n) buf = Leaves before after (take n buf)
TakesFrom before after End buf = IsAtEnd before after
TakesFrom before after Failed buf = after ≡ before
