-- The cells of a world are a lawful kind.
use Rattle.std.proofs.Common.{◌≡◌, ℕ, ◌<◌, true, false, List, Some, ◌++◌, length, get_or, sym, ◌∙◌, subst}
use Rattle.std.specs.Prelude.{slice_get}
use Rattle.std.proofs.lemmas.List.{get_or_default}
use Rattle.std.proofs.lemmas.Option.{get_or_from_slice_get}
use Rattle.delos_types.specs.declared.entry.Entry.{Entry}
use Rattle.loglet_api.specs.declared.call.Op.{Op}
use Rattle.loglet_api.specs.declared.call.Answer.{Answer}
use Rattle.loglet_api.specs.View.{Operation, operation_at, size_of, IsOpen}
use Rattle.loglet_api.specs.Sound.{IsSound}
use Rattle.loglet_api.specs.Step.{CanBegin, IsFull, Begins, TakesAnswer, Forgets, Moves, bumped, entries_of as entries_by}
use Rattle.quorum_cell.specs.Cells.{Cell}
use Rattle.quorum_cell.specs.Law.{IsLawful}
use Rattle.striped_cells.specs.declared.motion.Motion.{Motion}
use Rattle.striped_cells.specs.Ways.{GoesOn, IsKind}
use Rattle.striped_cells.specs.Quorums.{quorum_ways}
use Rattle.striped_cells.specs.Striped.{Striped as Stripes}
use Rattle.striped_cells.proofs.Quorate.{quorum_kind}
use Rattle.striped_cells.proofs.Striping.{striped_kind}
use Rattle.world_steps.specs.declared.cell.WorldCell.{WorldCell}
use Rattle.world_steps.specs.declared.cell.WorldCell.TheVariants.{Quorum, Striped, Nested}
use Rattle.world_steps.specs.Parts.{World, no_cell}
use Rattle.world_steps.specs.Laws.{WorldLaw}
use Rattle.world_steps.specs.Cells.{once, twice, view_of, entries_of, IsLawfulCell, is_full, begun, left_of, answer_of, taken, is_open, forgotten, stirred, quorum_of, cell_ways}

pub once_kind : IsKind once
once_kind = striped_kind quorum_ways

pub twice_kind : IsKind twice
twice_kind = striped_kind once

as_quorum : (new : Cell) (entries : List Entry) (so : Type 0) → GoesOn quorum_ways new entries so → GoesOn cell_ways (Quorum new) entries so
as_quorum new entries so g = record { lawful = g.lawful; does = g.does; keeps = g.keeps }

as_striped : (new : Stripes Cell) (entries : List Entry) (so : Type 0) → GoesOn once new entries so → GoesOn cell_ways (Striped new) entries so
as_striped new entries so g = record { lawful = g.lawful; does = g.does; keeps = g.keeps }

as_nested : (new : Stripes (Stripes Cell)) (entries : List Entry) (so : Type 0) → GoesOn twice new entries so → GoesOn cell_ways (Nested new) entries so
as_nested new entries so g = record { lawful = g.lawful; does = g.does; keeps = g.keeps }

sound_all : (c : WorldCell) → IsLawfulCell c → IsSound (view_of c)
sound_all (Quorum c) h = quorum_kind.sound c h
sound_all (Striped c) h = once_kind.sound c h
sound_all (Nested c) h = twice_kind.sound c h

whole_all : (c : WorldCell) → IsLawfulCell c → length (entries_of c) ≡ size_of (view_of c)
whole_all (Quorum c) h = quorum_kind.whole c h
whole_all (Striped c) h = once_kind.whole c h
whole_all (Nested c) h = twice_kind.whole c h

left_all : (c : WorldCell) (t : ℕ) (o : Operation) → IsLawfulCell c → operation_at (view_of c).operations t ≡ Some o → left_of c t ≡ o.left
left_all (Quorum c) t o h e = quorum_kind.left c t o h e
left_all (Striped c) t o h e = once_kind.left c t o h e
left_all (Nested c) t o h e = twice_kind.left c t o h e

opens_all : (c : WorldCell) (t : ℕ) (o : Operation) → IsLawfulCell c → operation_at (view_of c).operations t ≡ Some o → is_open c t ≡ true
opens_all (Quorum c) t o h e = quorum_kind.opens c t o h e
opens_all (Striped c) t o h e = once_kind.opens c t o h e
opens_all (Nested c) t o h e = twice_kind.opens c t o h e

begins_all : (c : WorldCell) (op : Op) → IsLawfulCell c → CanBegin op → is_full c op ≡ false → GoesOn cell_ways (begun c op) (entries_of c ++ entries_by op) (Begins (view_of c) op (view_of c).begun (view_of (begun c op)))
begins_all (Quorum c) op h can e = as_quorum _ _ _ (quorum_kind.begins c op h can e)
begins_all (Striped c) op h can e = as_striped _ _ _ (once_kind.begins c op h can e)
begins_all (Nested c) op h can e = as_nested _ _ _ (twice_kind.begins c op h can e)

refuses_all : (c : WorldCell) (op : Op) → IsLawfulCell c → CanBegin op → is_full c op ≡ true → GoesOn cell_ways (begun c op) (entries_of c) (IsFull (view_of c) op × (view_of (begun c op) ≡ record (view_of c) { faults = bumped (view_of c).faults }))
refuses_all (Quorum c) op h can e = as_quorum _ _ _ (quorum_kind.refuses c op h can e)
refuses_all (Striped c) op h can e = as_striped _ _ _ (once_kind.refuses c op h can e)
refuses_all (Nested c) op h can e = as_nested _ _ _ (twice_kind.refuses c op h can e)

takes_all : (c : WorldCell) (t : ℕ) (a : Answer) → IsLawfulCell c → answer_of c t ≡ Some a → GoesOn cell_ways (taken c t) (entries_of c) (TakesAnswer (view_of c) t a (view_of (taken c t)))
takes_all (Quorum c) t a h e = as_quorum _ _ _ (quorum_kind.takes c t a h e)
takes_all (Striped c) t a h e = as_striped _ _ _ (once_kind.takes c t a h e)
takes_all (Nested c) t a h e = as_nested _ _ _ (twice_kind.takes c t a h e)

forgets_all : (c : WorldCell) (t : ℕ) → IsLawfulCell c → is_open c t ≡ true → GoesOn cell_ways (forgotten c t) (entries_of c) (IsOpen (view_of c) t × Forgets (view_of c) t (view_of (forgotten c t)))
forgets_all (Quorum c) t h e = as_quorum _ _ _ (quorum_kind.forgets c t h e)
forgets_all (Striped c) t h e = as_striped _ _ _ (once_kind.forgets c t h e)
forgets_all (Nested c) t h e = as_nested _ _ _ (twice_kind.forgets c t h e)

stirs_all : (c : WorldCell) (path : List ℕ) (m : Motion) → IsLawfulCell c → GoesOn cell_ways (stirred c path m) (entries_of c) (Moves (view_of c) (view_of (stirred c path m)))
stirs_all (Quorum c) path m h = as_quorum _ _ _ (quorum_kind.stirs c path m h)
stirs_all (Striped c) path m h = as_striped _ _ _ (once_kind.stirs c path m h)
stirs_all (Nested c) path m h = as_nested _ _ _ (twice_kind.stirs c path m h)

quorums_all : (c : WorldCell) (path : List ℕ) (q : Cell) → IsLawfulCell c → quorum_of c path ≡ Some q → IsLawful q
quorums_all (Quorum c) path q h e = quorum_kind.quorums c path q h e
quorums_all (Striped c) path q h e = once_kind.quorums c path q h e
quorums_all (Nested c) path q h e = twice_kind.quorums c path q h e

pub cell_kind : IsKind cell_ways
cell_kind = record {
  sound = sound_all;
  whole = whole_all;
  left = left_all;
  opens = opens_all;
  begins = begins_all;
  refuses = refuses_all;
  takes = takes_all;
  forgets = forgets_all;
  stirs = stirs_all;
  quorums = quorums_all;
}

-- a cell of a lawful world is lawful
pub lawful_at : (may : ℕ → Entry → Type 0) (floor : List Entry → ℕ → Type 0) (w : World) → WorldLaw may floor w → (i : ℕ) (x : WorldCell) → i < length w.cells → x ≡ get_or w.cells i x → IsLawfulCell x
lawful_at may floor w law i x low is = subst IsLawfulCell (get_or_default w.cells i no_cell x low ∙ sym is) (law.cells i).lawful

pub lawful_in : (may : ℕ → Entry → Type 0) (floor : List Entry → ℕ → Type 0) (w : World) → WorldLaw may floor w → (i : ℕ) (x : WorldCell) → slice_get w.cells i ≡ Some x → IsLawfulCell x
lawful_in may floor w law i x is = subst IsLawfulCell (get_or_from_slice_get w.cells i x no_cell is) (law.cells i).lawful
