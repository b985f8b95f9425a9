-- What a register keeps in memory, and how that and what keeps it belong together.
use Rattle.std.specs.Prelude.{ℕ, ◌+◌, ◌^◌, ◌<◌, ◌≤◌, nat_lt, if◌then◌else◌, Option, Some, unwrap_or}
use Rattle.std.specs.Option.{ForSome}
use Rattle.delos_types.specs.declared.chain.Chain.{Chain}
use Rattle.chain_map.specs.Chain.{IsChain}
use Rattle.kept_value.specs.View.{Kind}
use Rattle.kept_value.specs.View as value
use Rattle.kept_value.specs.Keeping as keeping
use Rattle.meta_register.specs.declared.counts.Counts.{Counts}
use Rattle.meta_register.specs.declared.standing.Standing.{Standing}
use Rattle.meta_register.specs.Records.{standing_of}
use Rattle.meta_register.specs.View.{View, counted, most_records}

-- what was given last is what stands, or an older write
abbrev pub given_of : Standing → Option Standing → Standing
given_of s older = unwrap_or older s

-- what callers see
abbrev pub view_of : Standing → Option Standing → Counts → value.View Chain → View
view_of s older counts k = record {
  register = record {
    version = s.version;
    chain = s.chain;
    given = (given_of s older).version;
    given_chain = (given_of s older).chain;
    asked = k.asked;
    stands = k.stands;
    down = k.journal.shut;
    faults = counted k.journal.disk.faults counts.downs;
    misses = counts.misses;
    armed = if k.journal.shut then 0 else k.journal.disk.armed;
    word = k.journal.disk.word;
    stops = counts.stops;
    reopenings = counts.reopenings;
  };
  downs = counts.downs;
  disk = k.journal.disk;
}

-- the next chain stands
abbrev pub advanced : Standing → Chain → Standing
advanced s chain = record { version = s.version + 1; chain = chain }

-- a chain that may be written
pub record CanWrite (s : Standing) (chain : Chain) : Type 0 where
  pub small : s.version < 2 ^ 48
  pub joined : IsChain chain

-- how a standing is kept
abbrev pub standing_kind : Kind Chain
standing_kind = record {
  State = Standing;
  spelled = standing_of;
  CanChange = CanWrite;
  changed = advanced;
  compacts = λ chain records. nat_lt most_records records;
}

pub record IsWhole (s : Standing) : Type 0 where
  pub least : 1 ≤ s.version
  pub joined : IsChain s.chain

pub record IsOlder (s o : Standing) : Type 0 where
  pub least : 1 ≤ o.version
  pub below : o.version < s.version
  pub joined : IsChain o.chain

-- what stands, and what keeps it
pub record IsKept (s : Standing) (older : Option Standing) (k : value.View Chain) : Type 0 where
  pub whole : IsWhole s
  pub before : ForSome older (IsOlder s)
  pub kept : keeping.IsKept standing_kind s k

-- what was given last, where that isn't what stands now
abbrev pub older_after : Standing → Option Standing → Standing → Option Standing
older_after before older now = if nat_lt before.version now.version then Some (given_of before older) else older
