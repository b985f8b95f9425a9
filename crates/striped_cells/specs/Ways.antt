-- Kinds of cells: what cells show, and what steps do to them.
use Rattle.std.specs.Prelude.{◌≡◌, ℕ, ◌++◌, Bool, true, false, List, length, Option, Some}
use Rattle.delos_types.specs.declared.entry.Entry.{Entry}
use Rattle.loglet_api.specs.declared.call.Op.{Op}
use Rattle.loglet_api.specs.declared.call.Answer.{Answer}
use Rattle.loglet_api.specs.View.{LogletView, Operation, size_of, operation_at, IsOpen}
use Rattle.loglet_api.specs.Sound.{IsSound}
use Rattle.loglet_api.specs.Step.{CanBegin, IsFull, Begins, TakesAnswer, Forgets, Moves, entries_of, bumped}
use Rattle.quorum_cell.specs.Cells.{Cell}
use Rattle.quorum_cell.specs.Law.{IsLawful}
use Rattle.striped_cells.specs.declared.motion.Motion.{Motion}
use Rattle.striped_cells.specs.declared.cell.Numbers.{Numbers}

-- What the cells of a kind show, and what becomes of them.
pub record Ways (C : Type 0) : Type 1 where
  -- as every loglet shows it
  pub view : C → LogletView
  -- the entry of every append begun, trimmed ones too
  pub entries : C → List Entry
  -- what holds of every cell that steps lead to
  pub is_lawful : C → Type 0
  -- there is no room for the operation's entry, or no ticket left
  pub is_full : C → Op → Bool
  -- an operation begins, or is refused
  pub begin : C → Op → C
  -- how much is left to do of the operation of a ticket
  pub left : C → ℕ → ℕ × ℕ
  -- what the client of an open operation that came to its end is told
  pub answer : C → ℕ → Option Answer
  -- it is told so, and the operation is closed
  pub take : C → ℕ → C
  pub is_open : C → ℕ → Bool
  pub forget : C → ℕ → C
  -- something moves at the end of a path of stripes that is nobody's call
  pub stir : C → List ℕ → Motion → C
  -- the quorum cell at the end of a path of stripes
  pub quorum_at : C → List ℕ → Option Cell

-- the numbers that a cell shows of itself
abbrev pub numbers_of : LogletView → Numbers
numbers_of v = record { kind = v.kind; servers = v.servers; room = v.room; rounds = v.rounds; limit = v.limit; shut = v.shut; faults = v.faults; down = v.down }

module _ {C : Type 0} (k : Ways C) where
  -- the cell is lawful now, has these entries, and went on so
  pub record GoesOn (new : C) (entries : List Entry) (so : Type 0) : Type 0 where
    pub lawful : k.is_lawful new
    pub does : so
    pub keeps : k.entries new ≡ entries

  -- What each step does to a lawful cell is, as its clients see it, a step of a loglet.
  pub record IsKind : Type 0 where
    pub sound : (c : C) → k.is_lawful c → IsSound (k.view c)
    pub whole : (c : C) → k.is_lawful c → length (k.entries c) ≡ size_of (k.view c)
    pub left : (c : C) (t : ℕ) (o : Operation) → k.is_lawful c → operation_at (k.view c).operations t ≡ Some o → k.left c t ≡ o.left
    pub opens : (c : C) (t : ℕ) (o : Operation) → k.is_lawful c → operation_at (k.view c).operations t ≡ Some o → k.is_open c t ≡ true
    pub begins : (c : C) (op : Op) → k.is_lawful c → CanBegin op → k.is_full c op ≡ false → GoesOn (k.begin c op) (k.entries c ++ entries_of op) (Begins (k.view c) op (k.view c).begun (k.view (k.begin c op)))
    pub refuses : (c : C) (op : Op) → k.is_lawful c → CanBegin op → k.is_full c op ≡ true → GoesOn (k.begin c op) (k.entries c) (IsFull (k.view c) op × (k.view (k.begin c op) ≡ record (k.view c) { faults = bumped (k.view c).faults }))
    pub takes : (c : C) (t : ℕ) (a : Answer) → k.is_lawful c → k.answer c t ≡ Some a → GoesOn (k.take c t) (k.entries c) (TakesAnswer (k.view c) t a (k.view (k.take c t)))
    pub forgets : (c : C) (t : ℕ) → k.is_lawful c → k.is_open c t ≡ true → GoesOn (k.forget c t) (k.entries c) (IsOpen (k.view c) t × Forgets (k.view c) t (k.view (k.forget c t)))
    pub stirs : (c : C) (path : List ℕ) (m : Motion) → k.is_lawful c → GoesOn (k.stir c path m) (k.entries c) (Moves (k.view c) (k.view (k.stir c path m)))
    pub quorums : (c : C) (path : List ℕ) (q : Cell) → k.is_lawful c → k.quorum_at c path ≡ Some q → IsLawful q
