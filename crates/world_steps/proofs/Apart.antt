-- What moves in a quorum cell, at the end of a path of stripes, is a step of that cell.
use Rattle.std.proofs.Common.{◌≡◌, ℕ, zero, suc, ◌<◌, ◌≤◌, Bool, true, false, refl, sym, ◌∙◌, ap, subst, arith, List, [], ◌∷◌, length, set, Option, Some, None, get_or-set_same}
use Rattle.std.specs.Prelude.{nat_lt, if◌then◌else◌, slice_get}
use Rattle.std.proofs.lemmas.Bool.{false≢true}
use Rattle.std.proofs.lemmas.Bool.Decides.{nat_tests}
use Rattle.std.proofs.lemmas.Option.{none-some}
use Rattle.loglet_api.specs.declared.call.LogletCall.TheVariants.{Stray as CallStray}
use Rattle.loglet_api.specs.declared.call.LogletAnswer.TheVariants.{Strayed}
use Rattle.quorum_cell.specs.declared.operation.CellStep.{CellStep}
use Rattle.quorum_cell.specs.declared.operation.CellStep.TheVariants as cell
use Rattle.quorum_cell.specs.Cells.{Cell}
use Rattle.quorum_cell.specs.Steps.{cell_step}
use Rattle.cell_views.specs.Views.{IsStray}
use Rattle.cell_steps.specs.Telling.{Came, moved, IsTold}
use Rattle.cell_steps.proofs.Telling.{step_tells}
use Rattle.striped_cells.specs.declared.motion.Motion.TheVariants.{Servers}
use Rattle.striped_cells.specs.Motions.{is_inner}
use Rattle.striped_cells.specs.Ways.{Ways}
use Rattle.striped_cells.specs.Quorums.{quorum_ways}
use Rattle.striped_cells.specs.Striped.{Striped as Stripes, striped_ways, stirred as stirred_on, quorum_in}
use Rattle.world_steps.specs.declared.cell.WorldCell.{WorldCell}
use Rattle.world_steps.specs.declared.cell.WorldCell.TheVariants.{Quorum, Striped, Nested}
use Rattle.world_steps.specs.declared.step.WorldStep.TheVariants.{Inside}
use Rattle.world_steps.specs.Cells.{once, twice, quorum_of, stirred}
use Rattle.world_steps.specs.Parts.{World, no_cell, cell_at}
use Rattle.world_steps.specs.Steps.{Deed, inner_steps, done, world_step}

-- a step inside the quorum cell at the end of a path is its step
abbrev StirsThere : {C : Type 0} → Ways C → Type 0
StirsThere {C} k = (x : C) (path : List ℕ) (q : Cell) (s : CellStep) → is_inner s ≡ true → k.quorum_at x path ≡ Some q → k.quorum_at (k.stir x path (Servers s)) path ≡ Some (cell_step q s)

quorum_there : StirsThere quorum_ways
quorum_there x [] q s inner at = ap (λ b. Some (if b then cell_step x s else x)) inner ∙ ap (λ (o : Option Cell). stepped o) at
  where
    stepped : Option Cell → Option Cell
    stepped None = None
    stepped (Some y) = Some (cell_step y s)
quorum_there x (i ∷ path) q s inner at = absurd (none-some q at)

set_there : {A : Type 0} (xs : List A) (i : ℕ) (x y : A) → slice_get xs i ≡ Some x → slice_get (set xs i y) i ≡ Some y
set_there [] i x y h = absurd (cc)
set_there (z ∷ xs) zero x y h = refl
set_there (z ∷ xs) (suc i) x y h = set_there xs i x y h

module _ {C : Type 0} (k : Ways C) (there : StirsThere k) where
  striped_there : StirsThere (striped_ways k)
  striped_there x [] q s inner at = absurd (none-some q at)
  striped_there x (i ∷ path) q s inner at = by (slice_get x.stripes i) refl at
    where
      by : (o : Option C) → slice_get x.stripes i ≡ o → quorum_in k o path ≡ Some q → quorum_in k (slice_get (stirred_on k x i path (Servers s) o).stripes i) path ≡ Some (cell_step q s)
      by None e h = absurd (none-some q h)
      by (Some y) e h = ap (λ (o : Option C). quorum_in k o path) (set_there x.stripes i y (k.stir y path (Servers s)) e) ∙ there y path q s inner h

once_there : StirsThere once
once_there = striped_there quorum_ways quorum_there

twice_there : StirsThere twice
twice_there = striped_there once once_there

cell_there : (x : WorldCell) (path : List ℕ) (q : Cell) (s : CellStep) → is_inner s ≡ true → quorum_of x path ≡ Some q → quorum_of (stirred x path (Servers s)) path ≡ Some (cell_step q s)
cell_there (Quorum x) path q s inner at = quorum_there x path q s inner at
cell_there (Striped x) path q s inner at = once_there x path q s inner at
cell_there (Nested x) path q s inner at = twice_there x path q s inner at

inner_stray : (s : CellStep) → is_inner s ≡ true → IsStray s
inner_stray (cell.Begin aim) h = absurd (false≢true h)
inner_stray (cell.Take t) h = absurd (false≢true h)
inner_stray (cell.Forget t) h = absurd (false≢true h)
inner_stray s h = tt

pub told_there : (w : World) (i : ℕ) (path : List ℕ) (s : CellStep) (came : Came) (q : Cell) → i < length w.cells → is_inner s ≡ true → quorum_of (cell_at w.cells i) path ≡ Some q
    → let new = cell_step q s in (quorum_of (cell_at (world_step w (Inside i path (Servers s))).cells i) path ≡ Some new) × IsTold q (moved q came s) new
told_there w i path s came q here inner at = (by (nat_lt i (length w.cells)) refl, step_tells q came s (inner_stray s inner))
  where
    does : Option Deed
    does = Some (record { at = i; cell = stirred (cell_at w.cells i) path (Servers s); steps = inner_steps path (Servers s); calls = (CallStray 0, Strayed) ∷ []; event = [] })

    left : nat_lt i (length w.cells) ≡ true → cell_at (world_step w (Inside i path (Servers s))).cells i ≡ stirred (cell_at w.cells i) path (Servers s)
    left e = ap (λ b. cell_at (done w (if b then does else None)).cells i) e ∙ get_or-set_same w.cells i (stirred (cell_at w.cells i) path (Servers s)) no_cell here

    by : (b : Bool) → nat_lt i (length w.cells) ≡ b → quorum_of (cell_at (world_step w (Inside i path (Servers s))).cells i) path ≡ Some (cell_step q s)
    by true e = subst (λ (c : WorldCell). quorum_of c path ≡ Some (cell_step q s)) (sym (left e)) (cell_there (cell_at w.cells i) path q s inner at)
    by false e = let far : length w.cells ≤ i = grind (arith, nat_tests) in absurd (omega (arith, here, far))
