-- The open operations of a cell, by ticket.
use Rattle.std.proofs.Common.{◌≡◌, ℕ, zero, suc, ◌+◌, ◌<◌, Bool, true, false, refl, ◌∙◌, subst, arith, List, [], ◌∷◌, get_or, Option, Some, None}
use Rattle.std.specs.Prelude.{if◌then◌else◌}
use Rattle.std.proofs.lemmas.Bool.{ne_eqb, eq-eqb}
use Rattle.loglet_api.specs.View.{operation_at, Operation as OpenOperation}
use Rattle.quorum_cell.specs.Cells.{Operation, no_operation}
use Rattle.cell_views.specs.Views.{operation_view, open_from}

-- what stands at a ticket whose operation is this
abbrev pub opened : ℕ → (ℕ → ℕ × ℕ) → ℕ → Operation → Option OpenOperation
opened n left t o = if o.closed then None else Some (operation_view n o (left t))

-- no ticket is below the first
none_below : (n : ℕ) (left : ℕ → ℕ × ℕ) (t q : ℕ) (os : List Operation) → q < t → operation_at (open_from n left t os) q ≡ None
none_below n left t q [] h = refl
none_below n left t q (o ∷ os) h = by o.closed (none_below n left (suc t) q os (omega (arith, h)))
  where
    by : (b : Bool) → operation_at (open_from n left (suc t) os) q ≡ None → operation_at (if b then open_from n left (suc t) os else (t, operation_view n o (left t)) ∷ open_from n left (suc t) os) q ≡ None
    by true rest = rest
    by false rest = rw (ne_eqb q t (λ e. omega (arith, h, e))) rest

opened_here : (n : ℕ) (left : ℕ → ℕ × ℕ) (t : ℕ) (o : Operation) (os : List Operation) → operation_at (open_from n left t (o ∷ os)) t ≡ opened n left t o
opened_here n left t o os = by o.closed (none_below n left (suc t) t os (omega arith))
  where
    by : (b : Bool) → operation_at (open_from n left (suc t) os) t ≡ None →
        operation_at (if b then open_from n left (suc t) os else (t, operation_view n o (left t)) ∷ open_from n left (suc t) os) t ≡ (if b then None else Some (operation_view n o (left t)))
    by true rest = rest
    by false rest = rw (eq-eqb t t refl) refl

opened_past : (n : ℕ) (left : ℕ → ℕ × ℕ) (t q : ℕ) (o : Operation) (os : List Operation) → t < q → operation_at (open_from n left t (o ∷ os)) q ≡ operation_at (open_from n left (suc t) os) q
opened_past n left t q o os h = by o.closed
  where
    by : (b : Bool) → operation_at (if b then open_from n left (suc t) os else (t, operation_view n o (left t)) ∷ open_from n left (suc t) os) q ≡ operation_at (open_from n left (suc t) os) q
    by true = refl
    by false = rw (ne_eqb q t (λ e. omega (arith, h, e))) refl

pub opened_at : (n : ℕ) (left : ℕ → ℕ × ℕ) (t k : ℕ) (os : List Operation) → operation_at (open_from n left t os) (t + k) ≡ opened n left (t + k) (get_or os k no_operation)
opened_at n left t k [] = refl
opened_at n left t zero (o ∷ os) = let here : t + 0 ≡ t = omega arith in rw here (opened_here n left t o os)
opened_at n left t (suc k) (o ∷ os) =
    let next : t + suc k ≡ suc t + k = omega arith in
    opened_past n left t (t + suc k) o os (omega arith) ∙ rw next (opened_at n left (suc t) k os)

-- the operation of a ticket
pub opened_is : (n : ℕ) (left : ℕ → ℕ × ℕ) (t : ℕ) (os : List Operation) → operation_at (open_from n left 0 os) t ≡ opened n left t (get_or os t no_operation)
opened_is n left t os =
    let e : 0 + t ≡ t = omega arith in
    subst (λ k. operation_at (open_from n left 0 os) k ≡ opened n left k (get_or os t no_operation)) e (opened_at n left 0 t os)
