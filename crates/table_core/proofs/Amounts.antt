-- Which texts are decimal texts of an i64.
use Rattle.std.proofs.Common.{◌≡◌, ◌≢◌, ◌<◌, ◌≤◌, ◌^◌, ℕ, zero, suc, Bool, true, false, cond, not, eqb, ◌&&◌, [], ◌∷◌, length, get_or, drop, Some, None, Ok, Err, ℤ, pos, negsuc, neg_ℤ, refl, sym, ap, subst, ◌∙◌, arith, lit<}
use Rattle.std.specs.Int.{w64}
use Rattle.std.specs.Cmp.Lexicographic.{pointwise_decides}
use Rattle.std.specs.Fmt.{decimal, signed_decimal}
use Rattle.std.specs.Str.{IsUtf8}
use Rattle.std.specs.Str.Parse.{AllDigits, digits_value, signed_digits_value, starts_with_minus, without_leading_plus, without_leading_sign, IsNumeral, ParsesSigned}
use Rattle.std.specs.Int.RustNames.{FitsSigned}
use Rattle.std.proofs.lemmas.Bool.{ltb-true, eqb-true}
use Rattle.std.proofs.lemmas.Bool.Decides.{Decides-eqb, nat_tests}
use Rattle.std.proofs.lemmas.Str.{IsUtf8-from_ascii}
use Rattle.std.proofs.lemmas.Fmt.{IsAscii-signed, parse-signed_decimal, decimal_is_IsNumeral, decimal_digit, first_decimal, decimal-digits_value}
use Rattle.std.proofs.lemmas.Str.Parse.{IsNumeralModel, numerals_by_value, tells_digits, digit_at, without_leading_plus_none}
use lib.Signed.{mag}
use Rattle.delos_types.specs.Spaces.{Text}
use Rattle.table_core.specs.Table.{amount_of, same_bytes, is_i64}
use Rattle.table_core.specs.Printed.{is_printed}

pub same_bytes-true : (a b : Text) → same_bytes a b ≡ true → a ≡ b
same_bytes-true a b e = (pointwise_decides Decides-eqb a b).0 e

left_true : (a b : Bool) → (a && b) ≡ true → a ≡ true
left_true true b e = refl
left_true false b e = e

right_true : (a b : Bool) → (a && b) ≡ true → b ≡ true
right_true true b e = e
right_true false b e = absurd (cc)

small : (z : ℤ) → is_i64 z ≡ true → mag z < 2 ^ 63
small (pos n) e = ltb-true n (2 ^ 63) e
small (negsuc n) e = ltb-true n (2 ^ 63) e

none_unless : (v : Text) (z : ℤ) (b : Bool) → (b ≡ true → ⊥) → cond b (Some z) None ≡ None
none_unless v z true never = absurd (never refl)
none_unless v z false never = refl

amount_none : (v : Text) → ((z : ℤ) → v ≡ signed_decimal z → mag z < 2 ^ 63 → ⊥) → amount_of v ≡ None
amount_none v never =
    let z = signed_digits_value 10 v in
    none_unless v z (same_bytes v (signed_decimal z) && is_i64 z) (λ e. never z (same_bytes-true v (signed_decimal z) (left_true _ _ e)) (small z (right_true _ _ e)))

pub amount-no_text : (v : Text) → ¬ (IsUtf8 v) → amount_of v ≡ None
amount-no_text v never = amount_none v (λ z e f. never (subst IsUtf8 (sym e) (IsUtf8-from_ascii _ (IsAscii-signed z f))))

pub amount-no_parse : {E : Type 0} (v : Text) (x : E) → ParsesSigned w64 10 v (Err x) → amount_of v ≡ None
amount-no_parse v x h = amount_none v (λ z e f. let r : Err x ≡ Ok z = parse-signed_decimal w64 z v (Err x) (record { sfits = f }) f e h in absurd (cc))

-- ---- the text of a number as it is printed

own : IsNumeralModel (AllDigits 10) (digits_value 10)
own = numerals_by_value (AllDigits 10) tells_digits

never_equal : (b : Bool) → b ≡ true → b ≡ false → ⊥
never_equal b t f = cc

plain_tests : (x y l : ℕ) → 48 < x → x ≤ 57 → cond (eqb x 45) (not (eqb y 48)) (cond (eqb x 48) (eqb l 1) (not (eqb x 43))) ≡ true
plain_tests x y l low high = grind (arith, nat_tests)

minus_test : (y : ℕ) → 48 < y → not (eqb y 48) ≡ true
minus_test y low = grind (arith, nat_tests)

first_digit : (n : ℕ) → n < 2 ^ 64 → get_or (decimal n) 0 0 ≤ 57
first_digit n small =
    let numeral = (decimal_is_IsNumeral n small).0 in
    (digit_at (decimal n) 0 numeral.1 numeral.0).1

is_printed-signed_decimal : (z : ℤ) → mag z < 2 ^ 63 → is_printed (signed_decimal z) ≡ true
is_printed-signed_decimal (pos zero) small = subst (λ (t : Text). is_printed t ≡ true) (sym (decimal_digit 0 (lit< tt))) refl
is_printed-signed_decimal (pos (suc n)) small =
    let fits : suc n < 2 ^ 64 = omega (arith, small) in
    let text = decimal (suc n) in
    plain_tests (get_or text 0 0) (get_or text 1 0) (length text) (first_decimal (suc n) (omega arith) fits) (first_digit (suc n) fits)
is_printed-signed_decimal (negsuc n) small =
    let fits : suc n < 2 ^ 64 = omega (arith, small) in
    minus_test (get_or (decimal (suc n)) 0 0) (first_decimal (suc n) (omega arith) fits)

pub amount-not_printed : (v : Text) → is_printed v ≡ false → amount_of v ≡ None
amount-not_printed v unprinted = amount_none v (λ z e f. never_equal (is_printed v) (subst (λ (t : Text). is_printed t ≡ true) (sym e) (is_printed-signed_decimal z f)) unprinted)

-- digits without a sign
alone : (x y l : ℕ) → cond (eqb x 45) (not (eqb y 48)) (cond (eqb x 48) (eqb l 1) (not (eqb x 43))) ≡ true → x ≡ 48 → l ≡ 1
alone x y l printed e = grind (arith, nat_tests)

no_plus : (x y l : ℕ) → eqb x 45 ≡ false → cond (eqb x 45) (not (eqb y 48)) (cond (eqb x 48) (eqb l 1) (not (eqb x 43))) ≡ true → x ≢ 43
no_plus x y l plain printed e = grind (arith, nat_tests)

plain_text : (v : Text) → is_printed v ≡ true → IsNumeral 10 v → digits_value 10 v < 2 ^ 64 → decimal (digits_value 10 v) ≡ v
plain_text v printed numeral small = decimal-digits_value own v numeral.1 numeral.0 (λ first. alone (get_or v 0 0) (get_or v 1 0) (length v) printed first) small

-- digits behind a minus sign
negative_small : (n : ℕ) → mag (neg_ℤ (pos n)) < 2 ^ 63 → n < 2 ^ 64
negative_small zero h = lit< tt
negative_small (suc m) h = omega (arith, h)

negative : (n : ℕ) (ds : Text) → decimal n ≡ ds → (get_or ds 0 0 ≡ 48 → ⊥) → signed_decimal (neg_ℤ (pos n)) ≡ 45 ∷ ds
negative zero ds e never = absurd (never (ap (λ (t : Text). get_or t 0 0) (sym e) ∙ ap (λ (t : Text). get_or t 0 0) (decimal_digit 0 (lit< tt))))
negative (suc m) ds e never = ap (λ (t : Text). 45 ∷ t) e

no_zero : (y : ℕ) → not (eqb y 48) ≡ true → y ≡ 48 → ⊥
no_zero y h e = grind (arith, nat_tests)

abbrev IsOwnText : Text → Type 0
IsOwnText v = is_printed v ≡ true → IsNumeral 10 (without_leading_sign v) → FitsSigned w64 (signed_digits_value 10 v) → signed_decimal (signed_digits_value 10 v) ≡ v

minus_text : (ds : Text) → IsOwnText (45 ∷ ds)
minus_text ds printed numeral fits =
    let never = no_zero (get_or ds 0 0) printed in
    negative (digits_value 10 ds) ds
    (decimal-digits_value own ds numeral.1 numeral.0 (λ first. absurd (never first)) (negative_small (digits_value 10 ds) fits.sfits)) never

unsigned_text : (v : Text) → starts_with_minus v ≡ false → IsOwnText v
unsigned_text v plain printed numeral fits =
    let same : without_leading_sign v ≡ v =
    ap (λ b. cond b (drop 1 v) (without_leading_plus v)) plain ∙ without_leading_plus_none v (no_plus (get_or v 0 0) (get_or v 1 0) (length v) plain printed) in
    let value : signed_digits_value 10 v ≡ pos (digits_value 10 v) =
    ap (λ b. cond b (neg_ℤ (pos (digits_value 10 (without_leading_sign v)))) (pos (digits_value 10 (without_leading_sign v)))) plain ∙ ap (λ (t : Text). pos (digits_value 10 t)) same in
    let small : FitsSigned w64 (pos (digits_value 10 v)) = subst (λ z. FitsSigned w64 z) value fits in
    ap signed_decimal value ∙ plain_text v printed (subst (λ (t : Text). IsNumeral 10 t) same numeral) (omega (arith, small.sfits))

own_text : (v : Text) (b : Bool) → starts_with_minus v ≡ b → IsOwnText v
own_text v false e = unsigned_text v e
own_text [] true e = absurd (cc)
own_text (c ∷ ds) true e = subst (λ x. IsOwnText (x ∷ ds)) (sym (eqb-true c 45 e)) (minus_text ds)

fits_i64 : (z : ℤ) → mag z < 2 ^ 63 → is_i64 z ≡ true
fits_i64 (pos n) h = grind (arith, nat_tests)
fits_i64 (negsuc n) h = grind (arith, nat_tests)

some_when : (z : ℤ) (a b : Bool) → a ≡ true → b ≡ true → cond (a && b) (Some z) None ≡ Some z
some_when z true true p q = refl
some_when z true false p q = absurd (cc)
some_when z false b p q = absurd (cc)

pub amount-printed : (v : Text) (z : ℤ) → IsNumeral 10 (without_leading_sign v) → FitsSigned w64 (signed_digits_value 10 v) → z ≡ signed_digits_value 10 v → is_printed v ≡ true → amount_of v ≡ Some z
amount-printed v z numeral fits is printed =
    let value = signed_digits_value 10 v in
    let text : signed_decimal value ≡ v = own_text v (starts_with_minus v) refl printed numeral fits in
    some_when value (same_bytes v (signed_decimal value)) (is_i64 value) ((pointwise_decides Decides-eqb v (signed_decimal value)).1 (sym text)) (fits_i64 value fits.sfits) ∙ ap Some (sym is)
