-- What stands in a native loglet once it was answered.
use Rattle.std.specs.Prelude.{◌≡◌, ℕ, ◌-◌, ◌<◌, ◌≤◌, nat_lt, true, slice_get, length, Some}
use Rattle.delos_types.specs.declared.entry.Entry.{Entry}
use Rattle.majority_rule.specs.Majority.{is_majority}
use Rattle.quorum_cell.specs.Servers.{length_of}
use Rattle.native_loglet.specs.Natives.{Native}
use Rattle.native_loglet.specs.Moving.{server_at}

-- the entry stands at the position: the loglet keeps it there, unless it was trimmed; more than half of the servers have the position, and each that still keeps it has this entry there
pub record Stands (a : Native) (p : ℕ) (e : Entry) : Type 0 where
  pub entry : a.marks.cut ≤ p → slice_get a.entries (p - a.marks.cut) ≡ Some e
  pub majority : is_majority (length a.replicas) (λ i. nat_lt p (length_of (server_at a.replicas i))) ≡ true
  pub copies : (i : ℕ) → (server_at a.replicas i).base ≤ p → p < length_of (server_at a.replicas i) → slice_get (server_at a.replicas i).entries (p - (server_at a.replicas i).base) ≡ Some e
