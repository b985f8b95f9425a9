-- How bytes come to a sink.
use Rattle.std.specs.Prelude.{◌≡◌, ◌≤◌, ◌<◌, ℕ, Bool, true, false, List, ◌++◌, Option, Some, None, take}
use Rattle.outside_ends.specs.declared.sink.Written.{Written}
use Rattle.outside_ends.specs.declared.sink.Written.TheVariants.{Put, Failed}

abbrev pub has_failed : Written → Bool
has_failed Failed = true
has_failed _ = false

-- at least one byte of bytes that aren't empty
abbrev pub PutsSome : Written → ℕ → Type 0
PutsSome (Put n) len = (0 < len → 1 ≤ n) × (n ≤ len)
PutsSome Failed len = Unit {0}

-- what is held grows by the bytes, where that is told
abbrev pub Gains : Option (List ℕ) → Option (List ℕ) → List ℕ → Type 0
Gains None after bytes = after ≡ None
Gains (Some before) after bytes = after ≡ Some (before ++ bytes)

-- what is held grows by what a call put, and by nothing where it failed
abbrev pub PutsTo : Option (List ℕ) → Option (List ℕ) → Written → List ℕ → Type 0
PutsTo before after (Put n) bytes = Gains before after (take n bytes)
PutsTo before after Failed bytes = after ≡ before
