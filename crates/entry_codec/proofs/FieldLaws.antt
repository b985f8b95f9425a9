-- The fields of an entry that have a test of their own: what is read is spelled so, and what is spelled so is read.
use Rattle.std.proofs.Common.{◌≡◌, ℕ, ◌-◌, ◌<◌, ◌≤◌, false, cond, ltb, eqb, List, [], ◌∷◌, length, Ok, Err, refl, subst, arith}
use Rattle.std.proofs.lemmas.Bool.{ltb-false, le-ltb, eqb-true}
use Rattle.delos_types.specs.Numbers.{IsBytes}
use Rattle.delos_types.specs.Fields.{u8_field}
use Rattle.delos_types.proofs.FieldLaws.{bind_ok, guard_ok, passed_ok, wanted_ok, Takes, u8_takes, u8_again}
use Rattle.entry_codec.specs.declared.fault.Rule.TheVariants.{Version, Origin, Kind}
use Rattle.entry_codec.specs.Reading.{fault, short, version_field, origin_in, kind_field}

pub version_takes : (size : ℕ) (bytes : List ℕ) (n : ℕ) (rest : List ℕ) → IsBytes bytes → version_field size bytes ≡ Ok (n, rest) → Takes bytes (1 ∷ []) rest
unfolding version_field
version_takes size bytes n rest fits e =
    let a = bind_ok (u8_field (short size) bytes) (λ version. cond (eqb version.0 1) (Ok version) (Err (fault 0 Version))) (n, rest) e in
    let w = wanted_ok (eqb a.0.0 1) (fault 0 Version) a.0 (n, rest) a.2 in
    let t = u8_takes (short size) bytes a.0.0 a.0.1 fits a.1 in
    let one : a.0.0 ≡ 1 = eqb-true _ _ w.0 in
    subst (λ (x : ℕ × List ℕ). Takes bytes (1 ∷ []) x.1) w.1 (subst (λ (k : ℕ). Takes bytes (k ∷ []) a.0.1) one t.0)

pub version_again : (size : ℕ) (rest : List ℕ) → version_field size (1 ∷ rest) ≡ Ok (1, rest)
unfolding version_field
version_again size rest = rw (u8_again (short size) 1 rest) refl

pub origin_takes : (n m : ℕ) → origin_in n ≡ Ok m → (n ≡ m) × (1 ≤ m) × (m ≤ 8)
unfolding origin_in
origin_takes n m e =
    let a = passed_ok (ltb n 1) (fault 1 Origin) (cond (ltb 8 n) (Err (fault 1 Origin)) (Ok n)) m e in
    let b = guard_ok (ltb 8 n) (fault 1 Origin) n m a.1 in
    let low : 1 ≤ n = ltb-false _ _ a.0 in
    let high : n ≤ 8 = ltb-false _ _ b.0 in
    (b.1, omega (arith, low, b.1), omega (arith, high, b.1))

pub origin_again : (n : ℕ) → 1 ≤ n → n ≤ 8 → origin_in n ≡ Ok n
unfolding origin_in
origin_again n least most =
    let low : ltb n 1 ≡ false = le-ltb _ _ least in
    let high : ltb 8 n ≡ false = le-ltb _ _ most in
    rw (low, high) refl

pub kind_takes : (size least : ℕ) (bytes : List ℕ) (n : ℕ) (rest : List ℕ) → IsBytes bytes → kind_field size least bytes ≡ Ok (n, rest) → Takes bytes (n ∷ []) rest × (least ≤ n) × (n < 256)
unfolding kind_field
kind_takes size least bytes n rest fits e =
    let a = bind_ok (u8_field (short size) bytes) (λ kind. cond (ltb kind.0 least) (Err (fault (size - length bytes) Kind)) (Ok kind)) (n, rest) e in
    let g = guard_ok (ltb a.0.0 least) (fault (size - length bytes) Kind) a.0 (n, rest) a.2 in
    let t = u8_takes (short size) bytes a.0.0 a.0.1 fits a.1 in
    subst (λ (x : ℕ × List ℕ). Takes bytes (x.0 ∷ []) x.1 × (least ≤ x.0) × (x.0 < 256)) g.1 (t.0, ltb-false _ _ g.0, t.1)

pub kind_again : (size least n : ℕ) (rest : List ℕ) → least ≤ n → kind_field size least (n ∷ rest) ≡ Ok (n, rest)
unfolding kind_field
kind_again size least n rest le =
    let rises : ltb n least ≡ false = le-ltb _ _ le in
    rw (u8_again (short size) n rest, rises) refl
