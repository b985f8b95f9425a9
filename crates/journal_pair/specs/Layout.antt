-- Where the areas lie in the bytes.
use Rattle.std.specs.Prelude.{◌≡◌, ◌⊎◌, ℕ, ◌+◌, ◌≤◌, ◌<◌, Bool, false, not, None, List, [], ◌∷◌, ◌++◌, length, drop, slice_index}
use Rattle.std.specs.Int.{w64, to_be_bytes}
use Rattle.journal_core.specs.Layout.{Whole, EndsAt}
use Rattle.journal_core.specs.Records.{first_record}
use Rattle.journal_pair.specs.Records.{second_selected, base_in, records_of}
use Rattle.journal_pair.specs.declared.area.Area.{Area}

-- this area has these records, selected or not: its slot has its base, and its last gate, which is closed, stands at its length
pub record Lies (ps : List (List ℕ)) (a : Area) (bytes : List ℕ) : Type 0 where
  pub base : base_in a.second bytes ≡ a.base
  pub behind : 18 ≤ a.base
  pub ends : EndsAt ps a.len (drop a.base bytes)

-- and it is the one that is selected
pub record Stands (ps : List (List ℕ)) (a : Area) (bytes : List ℕ) : Type 0 where
  pub ready : slice_index bytes 0 ≡ 1
  pub selected : second_selected bytes ≡ a.second
  pub lies : Lies ps a bytes

-- two areas: either may be selected
pub record BothLie (ps : List (List ℕ)) (a : Area) (rs : List (List ℕ)) (b : Area) (bytes : List ℕ) : Type 0 where
  pub ready : slice_index bytes 0 ≡ 1
  pub slots : b.second ≡ not a.second
  pub here : Lies ps a bytes
  pub there : Lies rs b bytes

-- an area of n bytes lies before this one or right behind it
abbrev pub IsFree : Area → ℕ → ℕ → Type 0
IsFree a base n = ((base ≡ 18) × (18 + n ≤ a.base)) ⊎ (base ≡ a.base + (a.len + 1))

-- The bytes of an area: gates and records in turn. Every gate is open but the last.
abbrev pub spelled : List (List ℕ) → List ℕ
spelled [] = 0 ∷ []
spelled (p ∷ ps) = 1 ∷ (to_be_bytes w64 (length p) ++ (p ++ spelled ps))

-- The slot of a ready disk that is selected, and the base in it.
pub record Selects (second : Bool) (base : ℕ) (bytes : List ℕ) : Type 0 where
  pub ready : slice_index bytes 0 ≡ 1
  pub selected : second_selected bytes ≡ second
  pub base_is : base_in second bytes ≡ base
  pub behind : 18 ≤ base
  pub inside : base < length bytes

-- The selected area has these records, and behind them a gate that is open or isn't there.
pub record IsOpenAt (ps : List (List ℕ)) (a : Area) (bytes : List ℕ) : Type 0 where
  pub selects : Selects a.second a.base bytes
  pub whole : Whole ps a.len (drop a.base bytes)
  pub inside : a.base + a.len ≤ length bytes
  pub opened : a.base + a.len < length bytes → slice_index bytes (a.base + a.len) ≡ 1
  pub all : first_record (drop (a.base + a.len) bytes) ≡ None

-- the records of before, with one more or without
abbrev pub BeforeOrWith : List (List ℕ) → List ℕ → List ℕ → Type 0
BeforeOrWith before payload bytes = (records_of bytes ≡ before) ⊎ (records_of bytes ≡ before ++ payload ∷ [])

-- the area of a disk that was made ready
abbrev pub first_area : Area
first_area = record { second = false; base = 18; len = 0 }
