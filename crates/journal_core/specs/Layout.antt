-- Where the records end in the bytes.
use Rattle.std.specs.Prelude.{◌≡◌, ◌≢◌, ◌⊎◌, ℕ, ◌+◌, ◌-◌, ◌<◌, ◌≤◌, Some, None, List, [], ◌∷◌, ◌++◌, length, drop, slice_index}
use Rattle.std.specs.Int.{w64, to_be_bytes}
use Rattle.journal_core.specs.Records.{first_record, records_of}

-- the bytes begin with these records, whole, which end there
abbrev pub Whole : List (List ℕ) → ℕ → List ℕ → Type 0
Whole [] end bytes = end ≡ 0
Whole (p ∷ ps) end bytes = (first_record bytes ≡ Some p) × (9 + length p ≤ end) × Whole ps (end - (9 + length p)) (drop (9 + length p) bytes)

-- the first records, so many of them, end there
pub record IsWalked (count end : ℕ) (bytes : List ℕ) : Type 0 where
  pub records : List (List ℕ)
  pub counted : length records ≡ count
  pub whole : Whole records end bytes

-- all records end there
pub record IsEnd (end : ℕ) (bytes : List ℕ) : Type 0 where
  pub whole : Whole (records_of bytes) end bytes
  pub inside : end ≤ length bytes
  pub none : first_record (drop end bytes) ≡ None

-- these are the records, and a closed gate stands where they end
pub record EndsAt (ps : List (List ℕ)) (end : ℕ) (bytes : List ℕ) : Type 0 where
  pub whole : Whole ps end bytes
  pub inside : end < length bytes
  pub closed : slice_index bytes end ≢ 1

-- what stands behind the gate: length, payload, next gate
abbrev pub framed : List ℕ → List ℕ
framed payload = to_be_bytes w64 (length payload) ++ (payload ++ 0 ∷ [])

-- the records of before, with one more or without
abbrev pub BeforeOrWith : List (List ℕ) → List ℕ → List ℕ → Type 0
BeforeOrWith before payload bytes = (records_of bytes ≡ before) ⊎ (records_of bytes ≡ before ++ payload ∷ [])
