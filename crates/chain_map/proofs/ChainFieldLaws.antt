-- The fields of a chain that have a test of their own: what is read is spelled so, and what is spelled so is read.
use Rattle.std.proofs.Common.{◌≡◌, ℕ, ◌-◌, ◌^◌, ◌<◌, ◌≤◌, true, false, cond, ltb, eqb, List, [], ◌∷◌, ◌++◌, length, Option, Some, None, Ok, Err, refl, sym, ap, subst, ◌∙◌, arith}
use Rattle.std.proofs.lemmas.Bool.{ltb-false, le-ltb, ltb-true, lt-ltb, eqb-true}
use Rattle.delos_types.specs.Numbers.{IsBytes, u16_bytes, u32_bytes, u64_bytes}
use Rattle.delos_types.specs.Fields.{u8_field, u16_field, u32_field, u64_field}
use Rattle.delos_types.proofs.FieldLaws.{bind_ok, guard_ok, passed_ok, wanted_ok, Takes, u8_takes, u8_again, u16_takes, u16_again, u32_takes, u32_again, u64_takes, u64_again}
use Rattle.chain_map.specs.declared.fault.Rule.TheVariants as rule
use Rattle.chain_map.specs.Reading.{fault, short, version_field, count_field, id_field, start_field, flag_field, end_field}

eqb-same : (n : ℕ) → eqb n n ≡ true
eqb-same n = grind arith

pub version_takes : (size : ℕ) (bytes : List ℕ) (n : ℕ) (rest : List ℕ) → IsBytes bytes → version_field size bytes ≡ Ok (n, rest) → Takes bytes (1 ∷ []) rest
unfolding version_field
version_takes size bytes n rest fits e =
    let a = bind_ok (u8_field (short size) bytes) (λ version. cond (eqb version.0 1) (Ok version) (Err (fault 0 rule.Version))) (n, rest) e in
    let w = wanted_ok (eqb a.0.0 1) (fault 0 rule.Version) a.0 (n, rest) a.2 in
    let t = u8_takes (short size) bytes a.0.0 a.0.1 fits a.1 in
    let one : a.0.0 ≡ 1 = eqb-true _ _ w.0 in
    subst (λ (x : ℕ × List ℕ). Takes bytes (1 ∷ []) x.1) w.1 (subst (λ (k : ℕ). Takes bytes (k ∷ []) a.0.1) one t.0)

pub version_again : (size : ℕ) (rest : List ℕ) → version_field size (1 ∷ rest) ≡ Ok (1, rest)
unfolding version_field
version_again size rest = rw (u8_again (short size) 1 rest) refl

pub count_takes : (size : ℕ) (bytes : List ℕ) (n : ℕ) (rest : List ℕ) → IsBytes bytes → count_field size bytes ≡ Ok (n, rest) → Takes bytes (u16_bytes n) rest × (1 ≤ n) × (n ≤ 64)
unfolding count_field
count_takes size bytes n rest fits e =
    let a = bind_ok (u16_field (short size) bytes) (λ count. cond (ltb count.0 1) (Err (fault 9 rule.Count)) (cond (ltb 64 count.0) (Err (fault 9 rule.Count)) (Ok count))) (n, rest) e in
    let p = passed_ok (ltb a.0.0 1) (fault 9 rule.Count) (cond (ltb 64 a.0.0) (Err (fault 9 rule.Count)) (Ok a.0)) (n, rest) a.2 in
    let g = guard_ok (ltb 64 a.0.0) (fault 9 rule.Count) a.0 (n, rest) p.1 in
    let t = u16_takes (short size) bytes a.0.0 a.0.1 fits a.1 in
    subst (λ (x : ℕ × List ℕ). Takes bytes (u16_bytes x.0) x.1 × (1 ≤ x.0) × (x.0 ≤ 64)) g.1 (t.0, ltb-false _ _ p.0, ltb-false _ _ g.0)

pub count_again : (size n : ℕ) (rest : List ℕ) → 1 ≤ n → n ≤ 64 → count_field size (u16_bytes n ++ rest) ≡ Ok (n, rest)
unfolding count_field
count_again size n rest least most =
    let low : ltb n 1 ≡ false = le-ltb _ _ least in
    let high : ltb 64 n ≡ false = le-ltb _ _ most in
    rw (u16_again (short size) n rest (omega (arith, most)), low, high) refl

pub id_takes : (size least : ℕ) (bytes : List ℕ) (n : ℕ) (rest : List ℕ) → IsBytes bytes → id_field size least bytes ≡ Ok (n, rest) → Takes bytes (u32_bytes n) rest × (least ≤ n) × (n < 64)
unfolding id_field
id_takes size least bytes n rest fits e =
    let broken = fault (size - length bytes) rule.Id in
    let a = bind_ok (u32_field (short size) bytes) (λ id. cond (ltb id.0 least) (Err broken) (cond (ltb id.0 64) (Ok id) (Err broken))) (n, rest) e in
    let p = passed_ok (ltb a.0.0 least) broken (cond (ltb a.0.0 64) (Ok a.0) (Err broken)) (n, rest) a.2 in
    let w = wanted_ok (ltb a.0.0 64) broken a.0 (n, rest) p.1 in
    let t = u32_takes (short size) bytes a.0.0 a.0.1 fits a.1 in
    subst (λ (x : ℕ × List ℕ). Takes bytes (u32_bytes x.0) x.1 × (least ≤ x.0) × (x.0 < 64)) w.1 (t.0, ltb-false _ _ p.0, ltb-true _ _ w.0)

pub id_again : (size least n : ℕ) (rest : List ℕ) → least ≤ n → n < 64 → id_field size least (u32_bytes n ++ rest) ≡ Ok (n, rest)
unfolding id_field
id_again size least n rest le lt =
    let rises : ltb n least ≡ false = le-ltb _ _ le in
    let small : ltb n 64 ≡ true = lt-ltb _ _ lt in
    rw (u32_again (short size) n rest (omega (arith, lt)), rises, small) refl

-- where a segment may start: at the former end, and the first at most at the trim
abbrev pub MayStart : ℕ → Option ℕ → ℕ → Type 0
MayStart trim None start = start ≤ trim
MayStart trim (Some former) start = start ≡ former

pub start_takes : (size trim : ℕ) (former : Option ℕ) (bytes : List ℕ) (n : ℕ) (rest : List ℕ) → IsBytes bytes → start_field size trim former bytes ≡ Ok (n, rest)
    → Takes bytes (u64_bytes n) rest × MayStart trim former n × (n < 2 ^ 64)
unfolding start_field
start_takes size trim None bytes n rest fits e =
    let a = bind_ok (u64_field (short size) bytes) (λ start. cond (ltb trim start.0) (Err (fault 1 rule.Trim)) (Ok start)) (n, rest) e in
    let g = guard_ok (ltb trim a.0.0) (fault 1 rule.Trim) a.0 (n, rest) a.2 in
    let t = u64_takes (short size) bytes a.0.0 a.0.1 fits a.1 in
    subst (λ (x : ℕ × List ℕ). Takes bytes (u64_bytes x.0) x.1 × (x.0 ≤ trim) × (x.0 < 2 ^ 64)) g.1 (t.0, ltb-false _ _ g.0, t.1)
start_takes size trim (Some former) bytes n rest fits e =
    let broken = fault (size - length bytes) rule.Start in
    let a = bind_ok (u64_field (short size) bytes) (λ start. cond (eqb start.0 former) (Ok start) (Err broken)) (n, rest) e in
    let w = wanted_ok (eqb a.0.0 former) broken a.0 (n, rest) a.2 in
    let t = u64_takes (short size) bytes a.0.0 a.0.1 fits a.1 in
    subst (λ (x : ℕ × List ℕ). Takes bytes (u64_bytes x.0) x.1 × (x.0 ≡ former) × (x.0 < 2 ^ 64)) w.1 (t.0, eqb-true _ _ w.0, t.1)

pub start_again : (size trim : ℕ) (former : Option ℕ) (n : ℕ) (rest : List ℕ) → MayStart trim former n → n < 2 ^ 64 → start_field size trim former (u64_bytes n ++ rest) ≡ Ok (n, rest)
unfolding start_field
start_again size trim None n rest le lt =
    let low : ltb trim n ≡ false = le-ltb _ _ le in
    rw (u64_again (short size) n rest lt, low) refl
start_again size trim (Some former) n rest is lt =
    let same : eqb n former ≡ true = ap (eqb n) (sym is) ∙ eqb-same n in
    rw (u64_again (short size) n rest lt, same) refl

pub flag_takes : (size wanted : ℕ) (bytes : List ℕ) (n : ℕ) (rest : List ℕ) → IsBytes bytes → flag_field size wanted bytes ≡ Ok (n, rest) → Takes bytes (wanted ∷ []) rest
unfolding flag_field
flag_takes size wanted bytes n rest fits e =
    let broken = fault (size - length bytes) rule.Flag in
    let a = bind_ok (u8_field (short size) bytes) (λ flag. cond (eqb flag.0 wanted) (Ok flag) (Err broken)) (n, rest) e in
    let w = wanted_ok (eqb a.0.0 wanted) broken a.0 (n, rest) a.2 in
    let t = u8_takes (short size) bytes a.0.0 a.0.1 fits a.1 in
    let is : a.0.0 ≡ wanted = eqb-true _ _ w.0 in
    subst (λ (x : ℕ × List ℕ). Takes bytes (wanted ∷ []) x.1) w.1 (subst (λ (k : ℕ). Takes bytes (k ∷ []) a.0.1) is t.0)

pub flag_again : (size wanted : ℕ) (rest : List ℕ) → flag_field size wanted (wanted ∷ rest) ≡ Ok (wanted, rest)
unfolding flag_field
flag_again size wanted rest = rw (u8_again (short size) wanted rest, eqb-same wanted) refl

pub end_takes : (size start : ℕ) (bytes : List ℕ) (n : ℕ) (rest : List ℕ) → IsBytes bytes → end_field size start bytes ≡ Ok (n, rest) → Takes bytes (u64_bytes n) rest × (start ≤ n) × (n < 2 ^ 64)
unfolding end_field
end_takes size start bytes n rest fits e =
    let broken = fault (size - length bytes) rule.End in
    let a = bind_ok (u64_field (short size) bytes) (λ end. cond (ltb end.0 start) (Err broken) (Ok end)) (n, rest) e in
    let g = guard_ok (ltb a.0.0 start) broken a.0 (n, rest) a.2 in
    let t = u64_takes (short size) bytes a.0.0 a.0.1 fits a.1 in
    subst (λ (x : ℕ × List ℕ). Takes bytes (u64_bytes x.0) x.1 × (start ≤ x.0) × (x.0 < 2 ^ 64)) g.1 (t.0, ltb-false _ _ g.0, t.1)

pub end_again : (size start n : ℕ) (rest : List ℕ) → start ≤ n → n < 2 ^ 64 → end_field size start (u64_bytes n ++ rest) ≡ Ok (n, rest)
unfolding end_field
end_again size start n rest le lt =
    let above : ltb n start ≡ false = le-ltb _ _ le in
    rw (u64_again (short size) n rest lt, above) refl
