-- How a transaction of a store is spelled in bytes. Numbers are spelled with the highest byte first.
-- A transaction: its cursor (8 bytes), the number of its changes (8), the changes.
-- A change: the engine's kind (1), length of the key (2), key, and then a byte 0 where the key is removed, or a byte 1,
-- the length of the value (4) and the value that it gets.
use Rattle.std.specs.Prelude.{◌≡◌, ℕ, ◌^◌, ◌<◌, List, [], ◌∷◌, ◌++◌, length, flat_map, Option, Some, None, IfSome}
use Rattle.std.specs.List.{AllByRecursion}
use Rattle.delos_types.specs.Numbers.{u64_bytes, short_text, long_text}
use Rattle.delos_types.specs.Spaces.{Text}
use Rattle.store_records.specs.declared.change.Change.{Change}
use Rattle.store_records.specs.declared.change.Commit.{Commit}

abbrev pub value_bytes : Option Text → List ℕ
value_bytes None = 0 ∷ []
value_bytes (Some v) = 1 ∷ long_text v

abbrev pub change_bytes : Change → List ℕ
change_bytes c = c.kind ∷ (short_text c.key ++ value_bytes c.value)

abbrev pub head_bytes : ℕ → ℕ → List ℕ
head_bytes cursor count = u64_bytes cursor ++ u64_bytes count

abbrev pub commit_bytes : Commit → List ℕ
commit_bytes c = head_bytes c.cursor (length c.changes) ++ flat_map change_bytes c.changes

-- some bytes spell the change
pub record IsSpellableChange (c : Change) : Type 0 where
  pub kind : c.kind < 256
  pub key : length c.key < 2 ^ 16
  pub value : IfSome c.value (λ v. length v < 2 ^ 32)

-- the bytes are the transaction's
pub record SpellsCommit (bytes : List ℕ) (c : Commit) : Type 0 where
  pub spelled : bytes ≡ commit_bytes c
  pub cursor : c.cursor < 2 ^ 64
  pub count : length c.changes < 2 ^ 64
  pub changes : AllByRecursion IsSpellableChange c.changes
