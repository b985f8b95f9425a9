-- What each step at the lock's table tells, and what a pass keeps between calls.
use Rattle.std.specs.Prelude.{◌≡◌, ◌≢◌, ℕ, ◌%◌, ◌^◌, ◌<◌, ◌==◌, cond, List, [], ◌∷◌, ◌++◌, length, take, drop, Option, Some, None}
use Rattle.atomic_table.specs.Table.{Me, Step}
use Rattle.atomic_table.specs.Seated.{TableId}
use Rattle.atomic_table.specs.declared.shared.Seat.{Seat}
use Rattle.pass_lock.specs.declared.view.View.{View}
use Rattle.pass_lock.specs.Journal.{IsKnown, Signed, InTurns}
use Rattle.pass_lock.specs.Pass.{Known, all_parts, brought, first_seen}
use Rattle.pass_lock.specs.Rule.{seeing, outside, waiting, inside, leaving}

-- a table of three words and one slot, with all parts as its key
pub record IsLock (table : TableId) (key : ℕ) : Type 0 where
  pub words : table.words ≡ 3
  pub slots : table.slots ≡ 1
  pub key_is : key ≡ all_parts

abbrev pub IsSameSeat : {S V : Type 0} → Seat S V → Seat S V → Type 0
IsSameSeat s t = (t.table_id ≡ s.table_id) × (t.id ≡ s.id)

-- a seat's view, and the slots that it holds
abbrev pub Held : Type 0 → Type 0 → Type 0
Held S E = Me (Option S) (View E)

module _ {E : Type 0} where
  -- what a pass keeps, and what the other gets, where k parts move
  abbrev pub remaining : ℕ → View E → View E
  remaining k v = seeing (drop k v.parts) v.made outside 0

  abbrev pub moving : ℕ → View E → View E
  moving k v = seeing (take k v.parts) [] outside 0

  -- the parts and the turns of both, those of the second first
  abbrev pub joined : View E → View E → View E
  joined v w = seeing (w.parts ++ v.parts) (w.made ++ v.made) outside 0

  -- what is left of the second
  abbrev pub spent : View E
  spent = seeing [] [] outside 0

module _ {S E : Type 0} where
  -- outside a turn, with no slot
  abbrev pub IsIdle : Held S E → Type 0
  IsIdle m = (m.0.stage ≡ outside) × (m.1 ≡ [])

  -- inside the turn whose number the word has, with the empty slot, and the same journal was seen with all parts
  pub record IsInside (m : Held S E) (word : ℕ) : Type 0 where
    pub stage : m.0.stage ≡ inside
    pub slot : m.1 ≡ (0, None) ∷ []
    pub number : word ≡ m.0.ticket % 2 ^ 64
    pub some_part : 0 < length m.0.parts
    pub seen : m.0.parts ≡ brought (first_seen m.0.parts) m.0.parts

  -- between calls a pass is outside a turn or inside
  pub record Rests (m : Held S E) (word : ℕ) : Type 0 where
    pub idle : m.0.stage ≢ inside → IsIdle m
    pub busy : m.0.stage ≡ inside → IsInside m word

  -- a pass as contracts see it
  abbrev pub pass_of : Seat (Option S) (View E) → Known E
  pass_of s = record { lock = s.table_id; parts = s.me.0.parts; made = s.me.0.made; turn = cond (s.me.0.stage == inside) (Some (s.me.0.ticket, first_seen s.me.0.parts)) None }

  -- a ticket was drawn
  abbrev pub drew : Step (Option S) → Held S E → ℕ → Held S E → Type 0
  drew st m n m' = (m'.0 ≡ seeing m.0.parts m.0.made waiting m'.0.ticket) × (n ≡ m'.0.ticket % 2 ^ 64) × (m'.1 ≡ m.1)

  -- a ticket was drawn where the word is what was said, and else nothing happened
  abbrev pub tried : Step (Option S) → Held S E → ℕ → Held S E → Type 0
  tried st m n m' = (n ≡ st.first → drew st m n m') × (n ≢ st.first → m' ≡ m)

  -- the value was given back, and the turn ended
  abbrev pub advanced : Step (Option S) → Held S E → ℕ → Held S E → Type 0
  advanced st m n m' = (m'.1 ≡ []) × (m'.0 ≡ seeing m.0.parts m.0.made outside m.0.ticket)

  module _ (journal : S → List E) where
    -- at the drawn turn the value was taken, and its journal seen, which begins with all that was seen, and which the parts signed, where these are all
    abbrev pub looked : (E → ℕ) → Step (Option S) → Held S E → ℕ → Held S E → Type 0
    looked signer st m n m' =
        (n ≡ m.0.ticket % 2 ^ 64 → (x : S) × (m'.1 ≡ (0, Some x) ∷ []) × (m'.0 ≡ seeing (brought (journal x) m.0.parts) m.0.made inside m.0.ticket) × IsKnown signer (journal x) m.0.parts × InTurns m.0.ticket (journal x) m.0.made × (length m.0.parts ≡ all_parts → Signed signer m.0.parts (journal x)))
        × (n ≢ m.0.ticket % 2 ^ 64 → m' ≡ m)

    -- the value's journal became the history
    abbrev pub raised : Step (Option S) → Held S E → ℕ → Held S E → Type 0
    raised st m n m' = (x : S) (was piece : List E) → m.1 ≡ (0, Some x) ∷ [] → m.0.parts ≡ brought was m.0.parts → journal x ≡ was ++ piece
        → (m'.1 ≡ m.1) × (m'.0 ≡ seeing (brought (journal x) m.0.parts) (m.0.made ++ (m.0.ticket, piece) ∷ []) leaving m.0.ticket)
