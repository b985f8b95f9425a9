-- How many faults came.
use Rattle.std.specs.Prelude.{ℕ, ◌+◌, ◌-◌, ◌^◌, ◌%◌, ◌==◌, ◌||◌, nat_lt, min, Bool, true, false}

-- once a fault more came, or none
abbrev pub faults_after : Bool → ℕ → ℕ
faults_after true n = min (n + 1) (2 ^ 64 - 1)
faults_after false n = n

-- Whether a carry by this word counts a fault: its message is lost, or the disk of the server that it came to failed, which
-- is down from then on.
abbrev pub is_failed : ℕ → ℕ → ℕ → Bool
is_failed word before now = (word % 8 == 7) || nat_lt before now
