-- What is left of the count that a disk is armed with, over one call after another.
use Rattle.std.proofs.Common.{◌≡◌, ℕ, ◌≤◌, ltb, ◌∙◌, ap, refl, arith}
use Rattle.disk_model.specs.Disk.{DiskView}
use Rattle.disk_model.specs.Armed.{Spends, TakesRecord}
use Rattle.journal_pair.specs.Journal as pair
use Rattle.kept_value.specs.View.{Spares, TakesWrite}

-- nothing was written
pub spends_none : (most a b : ℕ) → b ≡ a → Spends most a b
spends_none most a b same = record { fewer = omega (arith, same); at_most = omega (arith, same); still = ap (λ n. ltb 0 n) same }

pub spends_more : (few most a b : ℕ) → few ≤ most → Spends few a b → Spends most a b
spends_more few most a b fewer s = record { fewer = s.fewer; at_most = omega (arith, fewer, s.at_most); still = s.still }

pub spares_none : (most : ℕ) (d : DiskView) → Spares most d d
spares_none most d = record { faults = refl; word = refl; spends = spends_none most d.armed d.armed refl }

-- a record was written, and its journal compacted
pub takes_more : (more a b c : ℕ) → TakesRecord 0 a b → Spends more b c → TakesRecord more a c
takes_more more a b c taken behind = record {
  first = taken.first;
  second = taken.second;
  taken = omega (arith, taken.taken, behind.fewer);
  at_most = omega (arith, taken.at_most, behind.at_most);
  still = behind.still ∙ taken.still;
}

pub written_behind : (old mid new : DiskView) → mid.faults ≡ old.faults → mid.word ≡ old.word → TakesRecord 0 old.armed mid.armed → Spares 4 mid new → TakesWrite 4 old new
written_behind old mid new faults word taken behind = record {
  faults = behind.faults ∙ faults;
  word = behind.word ∙ word;
  taken = takes_more 4 old.armed mid.armed new.armed taken behind.spends;
}
