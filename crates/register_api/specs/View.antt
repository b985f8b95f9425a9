-- What a register shows.
use Rattle.std.specs.Prelude.{◌≡◌, ℕ, ◌+◌, ◌-◌, ◌^◌, ◌≤◌, min, Bool, false, if◌then◌else◌, Option, None}
use Rattle.std.specs.Option.{ForSome}
use Rattle.delos_types.specs.declared.chain.Chain.{Chain}
use Rattle.chain_map.specs.Chain.{IsChain, first_chain}

pub record RegisterView : Type 0 where
  -- what stands
  pub version : ℕ
  pub chain : Chain
  -- what the last At, Written or Conflict gave
  pub given : ℕ
  pub given_chain : Chain
  -- the chain of a write in which it failed, which a reopening finds done or not
  pub asked : Option Chain
  -- the record of that write stands, so that a reopening finds it done
  pub stands : Bool
  pub down : Bool
  pub faults : ℕ
  -- how many reopenings failed
  pub misses : ℕ
  -- which of the next writes of its disk stops inside itself, counted from 1: 0 for none, and while the register is down
  pub armed : ℕ
  -- the word by which its disk was reopened last
  pub word : ℕ
  -- how many stops and reopenings were asked for
  pub stops : ℕ
  pub reopenings : ℕ

-- what holds of a register at every moment
pub record IsSound (v : RegisterView) : Type 0 where
  pub least : 1 ≤ v.version
  pub chain : IsChain v.chain
  pub given : (1 ≤ v.given) × (v.given ≤ v.version)
  pub given_chain : IsChain v.given_chain
  -- what was given last is what stands, where their versions are one
  pub same : v.given ≡ v.version → v.given_chain ≡ v.chain
  pub asked : v.down ≡ false → v.asked ≡ None
  pub settled : v.down ≡ false → v.stands ≡ false
  pub asked_chain : ForSome v.asked IsChain

-- nothing was written, and nothing failed
pub record IsFresh (v : RegisterView) : Type 0 where
  pub version : v.version ≡ 1
  pub chain : v.chain ≡ first_chain
  pub given : v.given ≡ 1
  pub given_chain : v.given_chain ≡ first_chain
  pub asked : v.asked ≡ None
  pub down : v.down ≡ false
  pub faults : v.faults ≡ 0
  pub misses : v.misses ≡ 0
  pub armed : v.armed ≡ 0

-- one more, up to the end of the count's type
abbrev pub bumped : ℕ → ℕ
bumped n = min (n + 1) (2 ^ 64 - 1)

-- its next so-manieth change of a disk is to stop inside itself; 0 takes that back, and a stop of one that is down is counted alone
abbrev pub armed_by : RegisterView → ℕ → RegisterView
armed_by v after = record v { armed = if v.down then 0 else after; stops = bumped v.stops }
