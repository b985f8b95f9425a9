-- The operations of a cell in stripes, by ticket.
use Rattle.std.proofs.Common.{◌≡◌, ◌≢◌, inl, inr, ℕ, zero, suc, Bool, true, false, nat_eq, List, [], ◌∷◌, ◌++◌, length, set, Option, Some, None, refl, sym, ap, ◌∙◌, subst, arith}
use Rattle.std.specs.Prelude.{◌⊎◌, slice_get, if◌then◌else◌}
use Rattle.std.specs.Option.{option_map}
use Rattle.std.proofs.lemmas.Bool.Decides.{nat_tests}
use Rattle.std.proofs.lemmas.Option.{none-some, same_Some}
use Rattle.striped_loglet.proofs.Lists.{either, set_here, set_there}
use Rattle.striped_loglet.proofs.Carried.{Puts}
use Rattle.striped_cells.specs.Pursuits.{Pursuit, plain_of, if_open, open_at, plain_at}
use Rattle.striped_cells.proofs.Weaving.{get_last}

-- the operation of a ticket that is open
pub record IsThere (operations : List Pursuit) (t : ℕ) (p : Pursuit) : Type 0 where
  pub is : slice_get operations t ≡ Some p
  pub open_still : p.closed ≡ false

opened : (x : Option Pursuit) (p : Pursuit) → if_open x ≡ Some p → (x ≡ Some p) × (p.closed ≡ false)
opened None p h = absurd (none-some p h)
opened (Some q) p h = by q.closed refl h
  where
    by : (b : Bool) → q.closed ≡ b → (if b then None else Some q) ≡ Some p → (Some q ≡ Some p) × (p.closed ≡ false)
    by true e k = absurd (none-some p k)
    by false e k = (k, sym (ap (λ (z : Pursuit). z.closed) (same_Some _ _ k)) ∙ e)

pub there : (operations : List Pursuit) (t : ℕ) (p : Pursuit) → open_at operations t ≡ Some p → IsThere operations t p
there operations t p h = let k = opened (slice_get operations t) p h in record { is = k.0; open_still = k.1 }

pub at_there : (operations : List Pursuit) (t : ℕ) (p : Pursuit) → open_at operations t ≡ Some p → plain_at operations t ≡ Some (plain_of p)
at_there operations t p h = ap (option_map plain_of) h

-- what is put at a ticket
pub put_puts : (operations : List Pursuit) (t : ℕ) (old new : Pursuit) → slice_get operations t ≡ Some old → Puts (plain_at operations) t (option_map plain_of (if_open (Some new))) (plain_at (set operations t new))
put_puts operations t old new is q = by (either t q)
  where
    by : ((t ≡ q) ⊎ (t ≢ q)) → plain_at (set operations t new) q ≡ (if nat_eq t q then option_map plain_of (if_open (Some new)) else plain_at operations q)
    by (inl same) =
        let e : nat_eq t q ≡ true = grind (arith, nat_tests) in
        let here : slice_get (set operations t new) q ≡ Some new = subst (λ k. slice_get (set operations t new) k ≡ Some new) same (set_here operations t old new is) in
        rw e (ap (λ x. option_map plain_of (if_open x)) here)
    by (inr other) =
        let e : nat_eq t q ≡ false = grind (arith, nat_tests) in
        rw e (ap (λ x. option_map plain_of (if_open x)) (set_there operations t q new other))

pub put_open : (operations : List Pursuit) (t : ℕ) (old new : Pursuit) → slice_get operations t ≡ Some old → new.closed ≡ false → Puts (plain_at operations) t (Some (plain_of new)) (plain_at (set operations t new))
put_open operations t old new is still = subst (λ (b : Bool). Puts (plain_at operations) t (option_map plain_of (if b then None else Some new)) (plain_at (set operations t new))) still (put_puts operations t old new is)

-- what is added has the next ticket
pub push_at : (operations : List Pursuit) (new : Pursuit) (t q : ℕ) → length operations ≡ t → plain_at (operations ++ new ∷ []) q ≡ (if nat_eq t q then option_map plain_of (if_open (Some new)) else plain_at operations q)
push_at operations new t q count = by (either t q)
  where
    past : (k : ℕ) → t ≢ k → slice_get (operations ++ new ∷ []) k ≡ slice_get operations k
    past k other = rest operations k (λ e. other (sym count ∙ sym e))
      where
        rest : (os : List Pursuit) (j : ℕ) → j ≢ length os → slice_get (os ++ new ∷ []) j ≡ slice_get os j
        rest [] zero d = absurd (d refl)
        rest [] (suc j) d = refl
        rest (o ∷ os) zero d = refl
        rest (o ∷ os) (suc j) d = rest os j (λ e. d (omega (arith, e)))

    by : ((t ≡ q) ⊎ (t ≢ q)) → plain_at (operations ++ new ∷ []) q ≡ (if nat_eq t q then option_map plain_of (if_open (Some new)) else plain_at operations q)
    by (inl same) =
        let e : nat_eq t q ≡ true = grind (arith, nat_tests) in
        rw e (ap (λ x. option_map plain_of (if_open x)) (get_last operations new q (omega (arith, same, count))))
    by (inr other) =
        let e : nat_eq t q ≡ false = grind (arith, nat_tests) in
        rw e (ap (λ x. option_map plain_of (if_open x)) (past q other))
