-- Words that are numbers.
use Rattle.std.proofs.Common.{◌≡◌, ◌==◌, ◌<◌, ◌^◌, ◌&&◌, ℕ, ℤ, pos, negsuc, suc, Bool, true, false, List, [], ◌∷◌, length, Some, None, Result, Ok, refl, ap, subst, ◌∙◌, cond, arith}
use Rattle.std.specs.Prelude.{FitsSigned, neg_ℤ}
use Rattle.std.specs.List.{list_all}
use Rattle.std.specs.Int.{w64}
use Rattle.std.proofs.lemmas.Int.{ints}
use lib.Signed.{mag}
use Rattle.std.specs.Cmp.Lexicographic.{pointwise_decides}
use Rattle.std.specs.Str.Parse.{AllDigits, digits_value, signed_digits_value}
use Rattle.std.specs.Fmt.{decimal, signed_decimal}
use Rattle.std.proofs.lemmas.Bool.{ltb-true, lt-ltb}
use Rattle.std.proofs.lemmas.Bool.Decides.{nat_tests, Decides-eqb}
use Rattle.std.proofs.lemmas.Str.Parse.{digit_from_value}
use Rattle.std.proofs.lemmas.Fmt.{decimal_is_IsNumeral}
use Rattle.table_core.specs.Table.{same_bytes, is_i64}
use Rattle.script_text.specs.declared.line.Rule.{Rule}
use Rattle.script_text.specs.Words.{Word}
use Rattle.script_text.specs.Fields.{number_from, number_of}
use Rattle.script_text.specs.Spelling.{is_print}

both : (a b : Bool) → (a && b) ≡ true → (a ≡ true) × (b ≡ true)
both true b e = (refl, e)
both false b e = absurd cc

fits_test : (z : ℤ) → FitsSigned w64 z → is_i64 z ≡ true
fits_test (pos n) h = lt-ltb n (2 ^ 63) (omega (arith, ints))
fits_test (negsuc n) h = lt-ltb n (2 ^ 63) (omega (arith, ints))

fits_tested : (z : ℤ) → is_i64 z ≡ true → FitsSigned w64 z
fits_tested (pos n) h = let k = ltb-true n (2 ^ 63) h in omega (arith, ints)
fits_tested (negsuc n) h = let k = ltb-true n (2 ^ 63) h in omega (arith, ints)

mag_fits : (z : ℤ) → FitsSigned w64 z → mag z < 2 ^ 63
mag_fits (pos n) h = omega (arith, ints)
mag_fits (negsuc n) h = omega (arith, ints)

abbrev read : ℤ → Result ℤ Rule
read z = Ok z

same_number : (y z : ℤ) → read y ≡ read z → y ≡ z
same_number y z e = cc

-- a word that is read as a number is its decimal text
pub number_takes : (w : Word) (z : ℤ) → number_of w ≡ Ok z → (w ≡ signed_decimal z) × FitsSigned w64 z
unfolding number_of
number_takes w z e = go (signed_digits_value 10 w) (same_bytes w (signed_decimal (signed_digits_value 10 w)) && is_i64 (signed_digits_value 10 w)) refl e
  where
    go : (y : ℤ) (t : Bool) → (same_bytes w (signed_decimal y) && is_i64 y) ≡ t → number_from (cond t (Some y) None) ≡ Ok z → (w ≡ signed_decimal z) × FitsSigned w64 z
    go y true is h =
        let k = both (same_bytes w (signed_decimal y)) (is_i64 y) is in
        let same : y ≡ z = same_number y z h in
        (subst (λ x. w ≡ signed_decimal x) same ((pointwise_decides Decides-eqb w (signed_decimal y)).0 k.0), subst (FitsSigned w64) same (fits_tested y k.1))
    go y false is h = absurd cc

plain_value : (ds : List ℕ) → 0 < length ds → AllDigits 10 ds → signed_digits_value 10 ds ≡ pos (digits_value 10 ds)
plain_value [] some h = absurd (omega arith)
plain_value (d ∷ ds) some h =
    let r = digit_from_value d h.0 in
    let minus : (d == 45) ≡ false = grind (arith, nat_tests, r) in
    let plus : (d == 43) ≡ false = grind (arith, nat_tests, r) in
    rw (minus, plus) refl

signed_value : (z : ℤ) → FitsSigned w64 z → signed_digits_value 10 (signed_decimal z) ≡ z
signed_value (pos n) fits =
    let h = decimal_is_IsNumeral n (omega (arith, mag_fits (pos n) fits)) in
    plain_value (decimal n) h.0.0 h.0.1 ∙ ap (λ (k : ℕ). pos k) h.1
signed_value (negsuc n) fits =
    let h = decimal_is_IsNumeral (suc n) (omega (arith, mag_fits (negsuc n) fits)) in
    ap (λ (k : ℕ). neg_ℤ (pos k)) h.1

-- the decimal text of a number is read as it
pub number_again : (z : ℤ) → FitsSigned w64 z → number_of (signed_decimal z) ≡ Ok z
unfolding number_of
number_again z fits = go (signed_digits_value 10 (signed_decimal z)) (signed_value z fits)
  where
    go : (y : ℤ) → y ≡ z → number_from (cond (same_bytes (signed_decimal z) (signed_decimal y) && is_i64 y) (Some y) None) ≡ Ok z
    go y is =
        let same : same_bytes (signed_decimal z) (signed_decimal z) ≡ true = (pointwise_decides Decides-eqb (signed_decimal z) (signed_decimal z)).1 refl in
        rw (is, same, fits_test z fits) refl

-- ---- digits can be printed

digit_prints : (d : ℕ) (ds : List ℕ) → AllDigits 10 (d ∷ ds) → is_print d ≡ true
digit_prints d ds h = let r = digit_from_value d h.0 in grind (arith, nat_tests, r)

digits_print : (ds : List ℕ) → AllDigits 10 ds → list_all is_print ds ≡ true
digits_print [] h = refl
digits_print (d ∷ ds) h = rw (digit_prints d ds h) (digits_print ds h.1)

pub number_prints : (z : ℤ) → FitsSigned w64 z → (0 < length (signed_decimal z)) × (list_all is_print (signed_decimal z) ≡ true)
number_prints (pos n) fits =
    let h = decimal_is_IsNumeral n (omega (arith, mag_fits (pos n) fits)) in
    (h.0.0, digits_print (decimal n) h.0.1)
number_prints (negsuc n) fits =
    let h = decimal_is_IsNumeral (suc n) (omega (arith, mag_fits (negsuc n) fits)) in
    (omega arith, digits_print (decimal (suc n)) h.0.1)
