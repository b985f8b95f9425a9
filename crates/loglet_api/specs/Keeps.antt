-- What a loglet keeps from one moment to a later one.
use Rattle.std.specs.Prelude.{◌≡◌, ℕ, ◌+◌, ◌-◌, ◌*◌, ◌^◌, ◌<◌, ◌≤◌, true, Some, slice_get}
use Rattle.std.specs.Option.{ForSome}
use Rattle.loglet_api.specs.View.{LogletView, size_of}

pub record Keeps (old new : LogletView) : Type 0 where
  -- these never change
  pub kind : new.kind ≡ old.kind
  pub servers : new.servers ≡ old.servers
  pub quorum : new.quorum ≡ old.quorum
  pub room : new.room ≡ old.room
  pub rounds : new.rounds ≡ old.rounds
  pub limit : new.limit ≡ old.limit
  -- these never go back
  pub cut : old.cut ≤ new.cut
  pub size : size_of old ≤ size_of new
  pub reach : old.reach ≤ new.reach
  pub firm : old.firm ≤ new.firm
  pub shut : old.shut ≡ true → new.shut ≡ true
  pub faults : old.faults ≤ new.faults
  pub begun : old.begun ≤ new.begun
  pub seals : old.seals ≤ new.seals
  pub lacks : old.lacks ≤ new.lacks
  -- the cap stays, and never rises
  pub cap : ForSome old.cap (λ c. (d : ℕ) × (new.cap ≡ Some d) × (d ≤ c))
  -- an entry stays where it is, until it is trimmed
  pub entries : (p : ℕ) → new.cut ≤ p → p < size_of old → slice_get new.log (p - new.cut) ≡ slice_get old.log (p - old.cut)

-- what is left to do as one number, which falls where the pair does: the second part stays below 2 ^ 59
abbrev pub work_of : ℕ × ℕ → ℕ
work_of left = left.0 * 2 ^ 59 + left.1
