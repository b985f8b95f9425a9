-- Fresh cells in stripes.
use Rattle.std.proofs.Common.{◌≡◌, ℕ, zero, suc, ◌+◌, ◌*◌, ◌<◌, ◌≤◌, List, length, map, Some, refl, sym, ap, ◌∙◌, subst, arith}
use Rattle.std.specs.Prelude.{replicate, slice_get}
use Rattle.std.proofs.Math.Nat.{mul-le-mul_right, div-add-mod}
use Rattle.delos_types.specs.declared.entry.Entry.{Entry}
use Rattle.loglet_api.specs.View.{LogletView, IsFresh, size_of}
use Rattle.stripe_rule.specs.Stripes.{share}
use Rattle.stripe_rule.proofs.Shares.{share_least}
use Rattle.striped_loglet.specs.Views.{total}
use Rattle.striped_loglet.specs.State.{loglet_of}
use Rattle.striped_loglet.specs.Going.{IsStripe}
use Rattle.striped_loglet.proofs.Lists.{within, none_shut}
use Rattle.striped_cells.specs.Ways.{Ways}
use Rattle.striped_cells.specs.Striped.{state_of, IsLawfulStriped, MayStripe, stripes_like}

fresh_size : (v : LogletView) → IsFresh v → size_of v ≡ 0
fresh_size v h = let a = h.cut in let b : length v.log ≡ 0 = ap (λ (es : List Entry). length es) h.log in omega (arith, a, b)

module _ {C : Type 0} (k : Ways C) (x : C) where
  same_cell : (m i : ℕ) (y : C) → slice_get (replicate m x) i ≡ Some y → x ≡ y
  same_cell zero i y e = absurd (cc)
  same_cell (suc m) zero y e = cc
  same_cell (suc m) (suc i) y e = same_cell m i y e

  same_shown : (m i : ℕ) (v : LogletView) → slice_get (map k.view (replicate m x)) i ≡ Some v → k.view x ≡ v
  same_shown zero i v e = absurd (cc)
  same_shown (suc m) zero v e = cc
  same_shown (suc m) (suc i) v e = same_shown m i v e

  so_many : (m : ℕ) → length (map k.view (replicate m x)) ≡ m
  so_many zero = refl
  so_many (suc m) = ap suc (so_many m)

  total_like : (f : LogletView → ℕ) (m : ℕ) → total f (map k.view (replicate m x)) ≡ m * f (k.view x)
  total_like f zero = omega arith
  total_like f (suc m) = (let a = total_like f m in let e : suc m * f (k.view x) ≡ f (k.view x) + m * f (k.view x) = omega arith in omega (arith, a, e))

  total_none : (f : LogletView → ℕ) (m : ℕ) → f (k.view x) ≡ 0 → total f (map k.view (replicate m x)) ≡ 0
  total_none f zero e = refl
  total_none f (suc m) e = (let a = total_none f m e in omega (arith, a, e))

  module _ (m : ℕ) (h : MayStripe k m x) where
    pub fresh_lawful : IsLawfulStriped k (stripes_like k m x)
    fresh_lawful =
        let v = k.view x in
        let sound = h.kind.sound x h.lawful in
        let many = so_many m in
        let some : 1 * v.room ≤ m * v.room = mul-le-mul_right v.room (let a = h.count.0 in omega (arith, a)) in
        record {
          kind = h.kind;
          stripes = λ i y e. subst k.is_lawful (same_cell m i y e) h.lawful;
          tickets = refl;
          striped = record {
            shaped = record {
              count = (let a = h.count.0 in omega (arith, a, many), let a = h.count.1 in omega (arith, a, many));
              servers = sym (total_like (λ w. w.servers) m);
              few = h.servers;
              room = (let a = sound.shape.room.0 in omega (arith, a, some), h.room);
              rounds = ap (λ n. (3 * n + 1) * (v.rounds + 2)) (sym many);
              turn = (let a = h.rounds in omega (arith, a));
            };
            stripes = λ i w e. subst (λ (z : LogletView). IsStripe (state_of k (stripes_like k m x)) i z) (same_shown m i w e) (each i (within (map k.view (replicate m x)) i w e));
            cut = omega arith;
            reach = omega arith;
            firm = omega arith;
            size = omega arith;
            cap = λ c e. absurd (cc);
            begun = omega arith;
            seals = omega arith;
            lacks = omega arith;
            pending = λ t p e. absurd (cc);
            apart = λ t u p q a b ep eq ea eb es et. absurd (cc);
          };
        }
      where
        each : (i : ℕ) → i < length (map k.view (replicate m x)) → IsStripe (state_of k (stripes_like k m x)) i (k.view x)
        each i low =
            let v = k.view x in
            let f = h.fresh in
            let quarter = div-add-mod v.limit 4 in
            record {
              sound = h.kind.sound x h.lawful;
              room = ap (λ n. n * v.room) (so_many m);
              rounds = omega arith;
              limit = omega (arith, quarter);
              size = (let a = fresh_size v f in let b : share (length (map k.view (replicate m x))) i 0 ≤ 0 = share_least (length (map k.view (replicate m x))) i 0 0 low (omega arith) in omega (arith, a, b));
              cut = (let a = f.cut in omega (arith, a));
              reach = omega arith;
              firm = omega arith;
              begun = (let a = f.begun in omega (arith, a));
              seals = λ z. absurd (let a = f.seals in omega (arith, a, z));
            }

    pub fresh_shown : IsFresh (loglet_of (state_of k (stripes_like k m x)))
    fresh_shown =
        let faults = total_none (λ w. w.faults) m h.fresh.faults in
        let down = total_none (λ w. w.down) m h.fresh.down in
        record {
          cut = refl;
          log = refl;
          reach = refl;
          cap = refl;
          firm = refl;
          shut = none_shut (map k.view (replicate m x)) (λ i w e. sym (ap (λ (z : LogletView). z.shut) (same_shown m i w e)) ∙ h.fresh.shut);
          operations = refl;
          faults = omega (arith, faults);
          down = down;
          begun = refl;
          seals = refl;
          lacks = refl;
        }
