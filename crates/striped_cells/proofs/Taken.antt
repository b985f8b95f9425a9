-- The operation of a ticket, and what its client is told.
use Rattle.std.proofs.Common.{◌≡◌, ℕ, zero, suc, Bool, true, false, refl, sym, ap, subst, List, [], ◌∷◌, get_or, Option, Some, None}
use Rattle.std.specs.Prelude.{not, if◌then◌else◌, slice_get}
use Rattle.loglet_api.specs.declared.call.Answer.{Answer}
use Rattle.quorum_cell.specs.Cells.{Cell, Operation, operation, no_operation}
use Rattle.cell_views.specs.Views.{taken, left_of}
use Rattle.striped_cells.specs.Quorums.{answer_of}

not_there : (os : List Operation) (t : ℕ) → slice_get os t ≡ None → get_or os t no_operation ≡ no_operation
not_there [] t h = refl
not_there (o ∷ os) zero h = absurd (cc)
not_there (o ∷ os) (suc t) h = not_there os t h

there : (os : List Operation) (t : ℕ) (o : Operation) → slice_get os t ≡ Some o → get_or os t no_operation ≡ o
there [] t o h = absurd (cc)
there (x ∷ os) zero o h = cc
there (x ∷ os) (suc t) o h = there os t o h

pub closed_none : (c : Cell) (t : ℕ) → slice_get c.operations t ≡ None → true ≡ (operation c t).closed
closed_none c t h = sym (ap (λ (o : Operation). o.closed) (not_there c.operations t h))

pub answer_none : (c : Cell) (t : ℕ) → slice_get c.operations t ≡ None → ◌≡◌ {A = Option Answer} None (answer_of c t)
answer_none c t h = subst (λ (o : Operation). ◌≡◌ {A = Option Answer} None (if o.closed then None else taken c.cut o o.decided)) (sym (not_there c.operations t h)) refl

pub answer_closed : (c : Cell) (t : ℕ) (o : Operation) → slice_get c.operations t ≡ Some o → o.closed ≡ true → ◌≡◌ {A = Option Answer} None (answer_of c t)
answer_closed c t o h k =
    subst (λ (x : Operation). ◌≡◌ {A = Option Answer} None (if x.closed then None else taken c.cut x x.decided)) (sym (there c.operations t o h))
    (sym (ap (λ (b : Bool). if b then None else taken c.cut o o.decided) k))

pub answer_open : (c : Cell) (t : ℕ) (o : Operation) → slice_get c.operations t ≡ Some o → o.closed ≡ false → taken c.cut o o.decided ≡ answer_of c t
answer_open c t o h k =
    subst (λ (x : Operation). taken c.cut o o.decided ≡ (if x.closed then None else taken c.cut x x.decided)) (sym (there c.operations t o h))
    (sym (ap (λ (b : Bool). if b then None else taken c.cut o o.decided) k))

pub open_none : (c : Cell) (t : ℕ) → slice_get c.operations t ≡ None → false ≡ not (operation c t).closed
open_none c t h = ap not (closed_none c t h)

pub open_there : (c : Cell) (t : ℕ) (o : Operation) → slice_get c.operations t ≡ Some o → not o.closed ≡ not (operation c t).closed
open_there c t o h = sym (ap (λ (x : Operation). not x.closed) (there c.operations t o h))

pub left_none : (c : Cell) (t : ℕ) → slice_get c.operations t ≡ None → (0, 1) ≡ left_of (operation c t).decided (0, 1)
left_none c t h = sym (ap (λ (x : Operation). left_of x.decided (0, 1)) (not_there c.operations t h))

pub left_there : (c : Cell) (t : ℕ) (o : Operation) → slice_get c.operations t ≡ Some o → left_of o.decided (0, 1) ≡ left_of (operation c t).decided (0, 1)
left_there c t o h = sym (ap (λ (x : Operation). left_of x.decided (0, 1)) (there c.operations t o h))
