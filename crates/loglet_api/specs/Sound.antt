-- What holds of a loglet at every moment.
use Rattle.std.specs.Prelude.{◌≡◌, ℕ, ◌*◌, ◌^◌, ◌<◌, ◌≤◌, true, Some, slice_get}
use Rattle.std.specs.Option.{ForSome}
use Rattle.delos_types.specs.declared.entry.Entry.{Entry}
use Rattle.delos_types.specs.Spelling.{IsSpellable}
use Rattle.loglet_api.specs.View.{Operation, LogletView, size_of, operation_at}

-- what holds of an open operation: no number that it noted as it began has gone back since
pub record IsSoundOperation (v : LogletView) (t : ℕ) (o : Operation) : Type 0 where
  pub ticket : t < v.begun
  pub rounds : o.left.0 ≤ v.rounds
  pub steps : o.left.1 < 2 ^ 53 * v.servers
  pub size : o.size ≤ size_of v
  pub reach : o.reach ≤ v.reach
  pub firm : o.firm ≤ v.firm
  pub shut : o.shut ≡ true → v.shut ≡ true
  pub faults : o.faults ≤ v.faults

-- what holds of the numbers that never change
pub record IsShape (v : LogletView) : Type 0 where
  pub servers : v.servers ≤ 64
  pub quorum : (1 ≤ v.quorum) × (v.quorum ≤ v.servers)
  pub room : (1 ≤ v.room) × (v.room ≤ 2 ^ 32)
  pub rounds : v.rounds < 2 ^ 32
  pub limit : v.limit ≤ 2 ^ 62

pub record IsSound (v : LogletView) : Type 0 where
  pub shape : IsShape v
  pub cut : v.cut ≤ v.reach
  pub reach : v.reach ≤ v.firm
  pub firm : v.firm ≤ size_of v
  pub size : size_of v ≤ v.room
  pub cap : ForSome v.cap (λ t. (v.shut ≡ true) × ((v.reach ≤ t) × (t ≤ v.firm)))
  -- a loglet is shut only where a Seal was begun
  pub sealing : v.shut ≡ true → 1 ≤ v.seals
  pub begun : v.begun ≤ v.limit
  pub seals : v.seals ≤ v.begun
  pub lacks : v.lacks ≤ v.begun
  pub down : v.down ≤ v.servers
  pub faults : v.faults < 2 ^ 64
  pub spelled : (i : ℕ) (e : Entry) → slice_get v.log i ≡ Some e → IsSpellable e
  pub operations : (t : ℕ) (o : Operation) → operation_at v.operations t ≡ Some o → IsSoundOperation v t o
