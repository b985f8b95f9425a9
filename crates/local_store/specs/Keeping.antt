-- What a store and a transaction keep in memory, and how that and what keeps it belong together.
use Rattle.std.specs.Prelude.{◌≡◌, ◌≤◌, ℕ, nat_lt, true, Option, Some, None, IsSome}
use Rattle.std.specs.List.Sorted.{IsStrictlySortedBy}
use Rattle.std.specs.Map.{keys_of}
use Rattle.kept_value.specs.View.{Kind}
use Rattle.kept_value.specs.View as value
use Rattle.kept_value.specs.Keeping as keeping
use Rattle.store_records.specs.declared.change.Commit.{Commit}
use Rattle.store_records.specs.Spelled.{Saved, committed, saved_of}
use Rattle.local_store.specs.declared.asked.Asked.{Asked}
use Rattle.local_store.specs.declared.base.Base.{Base}
use Rattle.local_store.specs.Keys.{key_cmp}
use Rattle.local_store.specs.Slots.{Entries, held, changes_of, AreShort, AreFit}
use Rattle.local_store.specs.View.{TxnView, View, most_records}

-- ---- a transaction

abbrev pub txn_view_of : Entries → Entries → TxnView
txn_view_of base changes = record { base = held base; changes = changes_of changes }

pub record IsTxn (base changes : Entries) : Type 0 where
  pub short : AreShort base
  pub fit : AreFit changes
  pub ordered : IsStrictlySortedBy key_cmp (keys_of changes)

-- ---- a store

abbrev pub commit_of_asked : Asked → Commit
commit_of_asked a = record { cursor = a.cursor; changes = changes_of a.changes.entries }

abbrev pub asked_of : Option Asked → Option Commit
asked_of None = None
asked_of (Some a) = Some (commit_of_asked a)

abbrev pub saved_with : Entries → ℕ → Saved
saved_with base cursor = record { cursor = cursor; contents = held base }

abbrev pub saved_by : Base → Saved
saved_by b = saved_with b.slots.entries b.cursor

-- a transaction that may be committed
pub record CanCommit (s : Saved) (a : Asked) : Type 0 where
  pub rises : s.cursor ≤ a.cursor
  pub fit : AreFit a.changes.entries

-- how a space and its cursor are kept
abbrev pub base_kind : Kind Asked
base_kind = record {
  State = Saved;
  spelled = saved_of;
  CanChange = CanCommit;
  changed = λ s a. committed s (commit_of_asked a);
  compacts = λ a records. nat_lt most_records records;
}

-- what callers see
abbrev pub view_of : Base → value.View Asked → View
view_of b k = record { cursor = b.cursor; contents = held b.slots.entries; asked = asked_of k.asked; stands = k.stands; down = k.journal.shut; disk = k.journal.disk }

-- the space and the cursor, and what keeps them
pub record IsKept (b : Base) (k : value.View Asked) : Type 0 where
  pub fit : AreFit b.slots.entries
  pub standing : k.stands ≡ true → IsSome k.asked
  pub kept : keeping.IsKept base_kind (saved_by b) k
