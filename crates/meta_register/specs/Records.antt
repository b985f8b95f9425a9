-- The records of a register: one for a write, its version in eight bytes, the highest first, and the chain's bytes. The
-- first may have any version from 2 on, and each later one the next; version 1, the first chain of all, isn't written.
use Rattle.std.specs.Prelude.{◌≡◌, ℕ, ◌+◌, ◌<◌, ◌^◌, ◌==◌, nat_lt, Bool, if◌then◌else◌, List, [], ◌++◌, length, take, drop, fold, slice_index_or, Option, Some, None, option_map}
use Rattle.std.specs.Result.{result_ok}
use Rattle.delos_types.specs.Numbers.{u64_bytes, u64_of}
use Rattle.chain_map.specs.Chain.{first_chain}
use Rattle.chain_map.specs.Format.{SpellsChain}
use Rattle.chain_map.specs.Reading.{chain_read}
use Rattle.meta_register.specs.declared.standing.Standing.{Standing}

-- what stands in a register to which nothing was written
abbrev pub first_standing : Standing
first_standing = record { version = 1; chain = first_chain }

-- the bytes are the record of what stands
pub record SpellsStanding (bytes : List ℕ) (s : Standing) : Type 0 where
  pub version : s.version < 2 ^ 64
  pub rest : List ℕ
  pub is : bytes ≡ u64_bytes s.version ++ rest
  pub chain : SpellsChain rest s.chain

-- what the bytes spell, if anything
unfoldable pub standing_in : List ℕ → Option Standing
standing_in bytes =
    if nat_lt (length bytes) 8 then None
    else option_map (λ chain. record { version = u64_of (take 8 bytes); chain = chain }) (result_ok (chain_read (drop 8 bytes)))

-- a record follows where its version is the next, or is the first of all
abbrev pub follows : Standing → Standing → Bool
follows s r = if s.version == 1 then nat_lt 1 r.version else r.version == s.version + 1

abbrev pub standing_next : Standing → Option Standing → Option Standing
standing_next s None = None
standing_next s (Some r) = if follows s r then Some r else None

abbrev pub standing_after : Option Standing → List ℕ → Option Standing
standing_after None bytes = None
standing_after (Some s) bytes = standing_next s (standing_in bytes)

-- what the records spell, one after another
abbrev pub standing_of : List (List ℕ) → Option Standing
standing_of records = fold standing_after (Some first_standing) records

-- the records before this one spell what stands, and this one is none of a register's or doesn't follow
pub record IsFirstBad (records : List (List ℕ)) (index : ℕ) : Type 0 where
  pub within : index < length records
  pub before : Standing
  pub good : standing_of (take index records) ≡ Some before
  pub bad : standing_after (Some before) (slice_index_or records index []) ≡ None
