-- A pass as contracts see it.
use Rattle.std.specs.Prelude.{◌≡◌, ℕ, zero, suc, List, [], ◌∷◌, ◌++◌, map, drop, length, Option, Some, None}
use Rattle.atomic_table.specs.Seated.{TableId}
use Rattle.pass_lock.specs.Journal.{Part, Turn, Signed}

-- which lock it is
abbrev pub LockId : Type 0
LockId = TableId

-- no lock: the name for turns that are taken with none
abbrev pub nowhere : LockId
nowhere = record { words = 0; slots = 0; views_name = 0; atom = 0; block = 0; offset = 0; slot_names = [] }

-- of which lock it is, its parts, the turns that were made with it, and, in a turn, the number of the turn and the journal that `enter` gave
pub record Known (E : Type 0) : Type 0 where
  pub lock : LockId
  pub parts : List (Part E)
  pub made : List (Turn E)
  pub turn : Option (ℕ × List E)

-- how many parts all passes of a lock have together
abbrev pub all_parts : ℕ
all_parts = 65536

-- n parts from number k on, with which nothing was seen
unfoldable pub numbered : {E : Type 0} → ℕ → ℕ → List (Part E)
numbered k zero = []
numbered k (suc n) = (k, []) ∷ numbered (suc k) n

module _ {E : Type 0} where
  -- the first pass of a lock
  abbrev pub whole : LockId → Known E
  whole lock = record { lock = lock; parts = numbered 0 all_parts; made = []; turn = None }

  -- a pass outside a turn with one part
  abbrev pub one_part : LockId → ℕ → List E → List (Turn E) → Known E
  one_part lock k seen made = record { lock = lock; parts = (k, seen) ∷ []; made = made; turn = None }

  -- what was seen with the first part
  abbrev pub first_seen : List (Part E) → List E
  first_seen [] = []
  first_seen (p ∷ ps) = p.1

  -- the same parts, with which the journal was seen
  abbrev pub brought : List E → List (Part E) → List (Part E)
  brought journal parts = map (λ p. (p.0, journal)) parts

  -- the number of the turn, 0 outside a turn
  abbrev pub turn_number : Option (ℕ × List E) → ℕ
  turn_number None = 0
  turn_number (Some t) = t.0

  -- the journal that the turn began with, empty outside a turn
  abbrev pub given : Option (ℕ × List E) → List E
  given None = []
  given (Some t) = t.1

  -- what a journal has after its beginning `was`
  abbrev pub added : List E → List E → List E
  added was journal = drop (length was) journal

  -- the journal is the one that the turn began with, and then a piece that the pass's parts signed
  abbrev pub Grows : (E → ℕ) → Known E → List E → Type 0
  Grows signer pass journal = (piece : List E) × (journal ≡ given pass.turn ++ piece) × Signed signer pass.parts piece
