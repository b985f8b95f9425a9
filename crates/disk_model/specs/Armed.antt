-- What is left of the count that a disk is armed with.
use Rattle.std.specs.Prelude.{◌≡◌, ◌≢◌, ℕ, ◌+◌, ◌-◌, ◌≤◌, nat_lt}

-- at most so many writes were taken of it, and not the last: a disk is armed where it was
pub record Spends (most old new : ℕ) : Type 0 where
  pub fewer : new ≤ old
  pub at_most : old ≤ new + most
  pub still : nat_lt 0 new ≡ nat_lt 0 old

-- the two writes of a record were taken of it, with so many more at most, and not the last
pub record TakesRecord (more old new : ℕ) : Type 0 where
  pub first : old ≢ 1
  pub second : old ≢ 2
  pub taken : new ≤ old - 2
  pub at_most : old ≤ new + (2 + more)
  pub still : nat_lt 0 new ≡ nat_lt 0 old
