-- Which disks a call touches.
use Rattle.std.proofs.Common.{◌≡◌, ℕ, zero, suc, ◌<◌, sym, ◌∙◌, ap, subst, arith, List, [], ◌∷◌, ◌++◌, length, get_or, set, take, drop, Some, inl, inr}
use Rattle.std.proofs.Math.Seq.{take-append_seam}
use Rattle.std.specs.Prelude.{◌⊎◌, slice_get}
use Rattle.std.proofs.lemmas.Option.{none-some, same_Some}
use Rattle.log_server.specs.View.{View, Survives}
use Rattle.native_loglet.specs.Disks.{armed_by, KeepDisks}

pub same_disks : (vs : List View) → KeepDisks vs vs
same_disks vs = λ i v h. inl h

-- one server was put in its own place
pub put_disks : (vs : List View) (i : ℕ) (w : View) → Survives w → KeepDisks vs (set vs i w)
put_disks vs i w s = λ j v h. at vs i j v h
  where
    at : (xs : List View) (k j : ℕ) (v : View) → slice_get (set xs k w) j ≡ Some v → (slice_get xs j ≡ Some v) ⊎ Survives v
    at [] k j v h = inl h
    at (x ∷ xs) zero zero v h = inr (subst Survives (same_Some w v h) s)
    at (x ∷ xs) zero (suc j) v h = inl h
    at (x ∷ xs) (suc k) zero v h = inl h
    at (x ∷ xs) (suc k) (suc j) v h = at xs k j v h

-- the servers that were lent come back
pub lent_back : (count : ℕ) (vs ws : List View) → count ≡ length vs → length ws ≡ length vs → take count (ws ++ drop (length ws) vs) ≡ ws
lent_back count vs ws many same = ap (λ n. take n (ws ++ drop (length ws) vs)) (many ∙ sym same) ∙ take-append_seam ws (drop (length ws) vs)

-- the disk of a server was armed in its place
pub armed_there : (vs : List View) (i after : ℕ) (was is v : View) → i < length vs → was ≡ get_or vs i was → is ≡ armed_by after was → slice_get vs i ≡ Some v → slice_get (set vs i is) i ≡ Some (armed_by after v)
armed_there [] i after was is v here at armed there = absurd (none-some v there)
armed_there (x ∷ xs) zero after was is v here at armed there = ap (λ (w : View). Some w) (armed ∙ ap (armed_by after) (at ∙ same_Some x v there))
armed_there (x ∷ xs) (suc i) after was is v here at armed there = armed_there xs i after was is v (omega (arith, here)) at armed there
