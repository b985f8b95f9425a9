-- The transaction that some bytes spell, read from left to right. Where they break a rule they spell none.
use Rattle.std.specs.Prelude.{◌≡◌, ◌==◌, ℕ, zero, suc, List, [], ◌∷◌, Option, Some, None, Result, Ok, Err, if◌then◌else◌}
use Rattle.std.specs.Result.{result_ok}
use Rattle.delos_types.specs.Fields.{◌>>=◌, u8_field, u64_field, short_text_field, long_text_field, ended}
use Rattle.delos_types.specs.Spaces.{Text}
use Rattle.store_records.specs.declared.change.Change.{Change}
use Rattle.store_records.specs.declared.change.Commit.{Commit}
use Rattle.store_records.specs.declared.fields.Stop.{Stop}
use Rattle.store_records.specs.declared.fields.Stop.TheVariants as stop

-- the value that a flag announces, and what stands behind it
unfoldable pub flagged : ℕ → List ℕ → Result (Option Text × List ℕ) Stop
flagged flag bytes =
    if flag == 0 then Ok (None, bytes)
    else (if flag == 1 then (long_text_field stop.NoCommit bytes >>= λ value. Ok (Some value.0, value.1)) else Err stop.NoCommit)

unfoldable pub change_field : List ℕ → Result (Change × List ℕ) Stop
change_field bytes = do
  kind ← u8_field stop.NoCommit bytes
  key ← short_text_field stop.NoCommit kind.1
  flag ← u8_field stop.NoCommit key.1
  value ← flagged flag.0 flag.1
  Ok (record { kind = kind.0; key = key.0; value = value.0 }, value.1)

-- so many changes
unfoldable pub changes_from : ℕ → List ℕ → Result (List Change × List ℕ) Stop
changes_from zero bytes = Ok ([], bytes)
changes_from (suc count) bytes = do
  first ← change_field bytes
  others ← changes_from count first.1
  Ok (first.0 ∷ others.0, others.1)

-- the fields of a transaction, in order; nothing is left over
unfoldable pub commit_fields : List ℕ → Result Commit Stop
commit_fields bytes = do
  cursor ← u64_field stop.NoCommit bytes
  count ← u64_field stop.NoCommit cursor.1
  changes ← changes_from count.0 count.1
  ended stop.NoCommit changes.1 (record { cursor = cursor.0; changes = changes.0 })

-- the transaction that all of the bytes spell, if they spell one
abbrev pub commit_of : List ℕ → Option Commit
commit_of bytes = result_ok (commit_fields bytes)

-- What a function returned, seen by view, is what reading gives, unless memory ran out.
abbrev pub Fails : {Y : Type 0} → Stop → Result Y Stop → Type 0
Fails stop.Memory read = Unit {0}
Fails stop.NoCommit read = read ≡ Err stop.NoCommit

abbrev pub GivesBy : {X Y : Type 0} → (X → Y) → Result X Stop → Result Y Stop → Type 0
GivesBy view (Ok x) read = read ≡ Ok (view x)
GivesBy view (Err e) read = Fails e read

abbrev pub Gives : {X : Type 0} → Result X Stop → Result X Stop → Type 0
Gives (Ok x) read = read ≡ Ok x
Gives (Err e) read = Fails e read
