-- A fresh striped loglet.
use Rattle.std.proofs.Common.{◌≡◌, ℕ, suc, ◌+◌, ◌*◌, ◌^◌, ◌≤◌, List, [], ◌∷◌, length, map, Some, None, nat_eq, refl, sym, ap, ◌∙◌, arith}
use Rattle.std.specs.Prelude.{slice_get}
use Rattle.std.specs.Option.{option_map}
use Rattle.std.specs.Map.{lookup}
use Rattle.std.proofs.Math.Nat.{mul-le-mul_right}
use Rattle.delos_types.specs.declared.entry.Entry.{Entry}
use Rattle.loglet_api.specs.View.{LogletView, IsFresh, size_of}
use Rattle.loglet_api.specs.Sound.{IsSound}
use Rattle.stripe_rule.specs.Stripes.{share}
use Rattle.stripe_rule.proofs.Shares.{share_least}
use Rattle.striped_loglet.specs.declared.marks.Marks.{Marks}
use Rattle.striped_loglet.specs.declared.shape.Shape.{Shape}
use Rattle.striped_loglet.specs.Shapes.{IsShapeOf, most_of}
use Rattle.striped_loglet.specs.Views.{total}
use Rattle.striped_loglet.specs.State.{PendingMap, plain_of, plain_at, state_of, loglet_of}
use Rattle.striped_loglet.specs.Going.{IsStriped}
use Rattle.striped_loglet.proofs.Lists.{within, some_at, none_shut, least_at}
use Rattle.striped_loglet.proofs.Places.{length_view}

-- nothing was asked
abbrev pub no_marks : Marks
no_marks = record { size = 0; cut = 0; reach = 0; firm = 0; cap = None; begun = 0; seals = 0; lacks = 0; refusals = 0 }

-- what is asked of the stripes
pub record AreFresh (views : List LogletView) : Type 0 where
  pub count : (2 ≤ length views) × (length views ≤ 8)
  pub fresh : (i : ℕ) (v : LogletView) → slice_get views i ≡ Some v → IsFresh v
  pub sound : (i : ℕ) (v : LogletView) → slice_get views i ≡ Some v → IsSound v
  pub servers : total (λ v. v.servers) views ≤ 64
  pub room : (i j : ℕ) (v w : LogletView) → slice_get views i ≡ Some v → slice_get views j ≡ Some w → v.room ≡ w.room
  pub small : (i : ℕ) (v : LogletView) → slice_get views i ≡ Some v → length views * v.room ≤ 2 ^ 32

none_total : (f : LogletView → ℕ) (views : List LogletView) → ((i : ℕ) (v : LogletView) → slice_get views i ≡ Some v → f v ≡ 0) → total f views ≡ 0
none_total f [] h = refl
none_total f (v ∷ vs) h = let a : f v ≡ 0 = h 0 v refl in let b : total f vs ≡ 0 = none_total f vs (λ i w e. h (suc i) w e) in omega (arith, a, b)

fresh_size : (v : LogletView) → IsFresh v → size_of v ≡ 0
fresh_size v h = let a = h.cut in let b : length v.log ≡ 0 = ap (λ (es : List Entry). length es) h.log in omega (arith, a, b)

module _ {L : Type 0} (view : L → LogletView) where
  none_at : (m : PendingMap L) → m.entries ≡ [] → (q : ℕ) → plain_at view m q ≡ None
  none_at m e q = ap (λ es. option_map (plain_of view) (lookup (nat_eq q) es)) e

  pub fresh_striped : (shape : Shape) (xs : List L) (m : PendingMap L) → AreFresh (map view xs) → IsShapeOf (map view xs) shape → m.entries ≡ [] → IsStriped (state_of view shape xs no_marks m)
  fresh_striped shape xs m h k e =
      let views = map view xs in
      let count = length views in
      let first = some_at views 0 (let a = h.count.0 in omega (arith, a)) in
      let room : shape.room ≡ count * first.0.room = k.room first.0 first.1 in
      let some : 1 * first.0.room ≤ count * first.0.room = mul-le-mul_right first.0.room (let a = h.count.0 in omega (arith, a)) in
      record {
        shaped = record {
          count = h.count;
          servers = k.servers;
          few = (let a = h.servers in let b = k.servers in omega (arith, a, b));
          room = ((let a = (h.sound 0 first.0 first.1).shape.room.0 in omega (arith, a, some, room)), (let a = h.small 0 first.0 first.1 in omega (arith, a, room)));
          rounds = k.rounds;
          turn = k.turn;
        };
        stripes = λ i v is. (let f = h.fresh i v is in record {
          sound = h.sound i v is;
          room = (let same : v.room ≡ first.0.room = h.room i 0 v first.0 is first.1 in ap (λ r. count * r) same ∙ sym room);
          rounds = k.turns i v is;
          limit = (let a = k.limit in let b = least_at (λ w. w.limit) views i v is in omega (arith, a, b));
          size = (let a = fresh_size v f in let b : share count i 0 ≤ 0 = share_least count i 0 0 (within views i v is) (omega arith) in omega (arith, a, b));
          cut = (let a = f.cut in omega (arith, a));
          reach = omega arith;
          firm = omega arith;
          begun = (let a = f.begun in omega (arith, a));
          seals = λ z. absurd (let a = f.seals in omega (arith, a, z));
        });
        cut = omega arith;
        reach = omega arith;
        firm = omega arith;
        size = omega arith;
        cap = λ c is. absurd (cc);
        begun = omega arith;
        seals = omega arith;
        lacks = omega arith;
        pending = λ t p is. absurd (let n = none_at m e t in let clash : None ≡ Some p = sym n ∙ is in cc);
        apart = λ t u p q x y ep eq ex ey es et. absurd (let n = none_at m e t in let clash : None ≡ Some p = sym n ∙ ep in cc);
      }

  pub fresh_view : (shape : Shape) (xs : List L) (m : PendingMap L) → AreFresh (map view xs) → IsFresh (loglet_of (state_of view shape xs no_marks m))
  fresh_view shape xs m h =
      let views = map view xs in
      let faults : total (λ v. v.faults) views ≡ 0 = none_total (λ v. v.faults) views (λ i v is. (h.fresh i v is).faults) in
      let down : total (λ v. v.down) views ≡ 0 = none_total (λ v. v.down) views (λ i v is. (h.fresh i v is).down) in
      record {
        cut = refl;
        log = refl;
        reach = refl;
        cap = refl;
        firm = refl;
        shut = none_shut views (λ i v is. (h.fresh i v is).shut);
        operations = refl;
        faults = omega (arith, faults);
        down = down;
        begun = refl;
        seals = refl;
        lacks = refl;
      }

  pub are_fresh : (xs : List L) → (2 ≤ length xs) × (length xs ≤ 8) → ((i : ℕ) (v : LogletView) → slice_get (map view xs) i ≡ Some v → IsFresh v) → ((i : ℕ) (v : LogletView) → slice_get (map view xs) i ≡ Some v → IsSound v) → total (λ v. v.servers) (map view xs) ≤ 64
      → ((i j : ℕ) (v w : LogletView) → slice_get (map view xs) i ≡ Some v → slice_get (map view xs) j ≡ Some w → v.room ≡ w.room) → ((i : ℕ) (v : LogletView) → slice_get (map view xs) i ≡ Some v → length xs * v.room ≤ 2 ^ 32) → AreFresh (map view xs)
  are_fresh xs count fresh sound servers room small =
      let e = length_view view xs in
      record { count = rw e count; fresh = fresh; sound = sound; servers = servers; room = room; small = λ i v is. rw e (small i v is) }

  pub fresh_room : (shape : Shape) (xs : List L) → AreFresh (map view xs) → IsShapeOf (map view xs) shape → (i : ℕ) (v : LogletView) → slice_get (map view xs) i ≡ Some v → shape.room ≡ length xs * v.room
  fresh_room shape xs h k i v is =
      let first = some_at (map view xs) 0 (let a = h.count.0 in omega (arith, a)) in
      k.room first.0 first.1 ∙ ap (λ r. length (map view xs) * r) (h.room 0 i first.0 v first.1 is) ∙ ap (λ n. n * v.room) (length_view view xs)

  pub fresh_rounds : (shape : Shape) (xs : List L) → IsShapeOf (map view xs) shape → shape.rounds ≡ (3 * length xs + 1) * (most_of (λ v. v.rounds) (map view xs) + 2)
  fresh_rounds shape xs k = k.rounds ∙ ap (λ n. (3 * n + 1) * shape.turn) (length_view view xs) ∙ ap (λ n. (3 * length xs + 1) * n) k.most
