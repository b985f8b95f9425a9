-- One cut of a disk on which nothing is pending.
use Rattle.std.specs.Prelude.{◌≡◌, ℕ, ◌≤◌, min, List, length, take}

-- A crash inside a cut to a length: the bytes below it are the same, and as many more as there were, or fewer, of any value.
pub record IsCut (old : List ℕ) (n : ℕ) (image : List ℕ) : Type 0 where
  pub no_shorter : min n (length old) ≤ length image
  pub no_longer : length image ≤ length old
  pub before : take n image ≡ take n old
