-- A number's decimal text is the text of that number.
use Rattle.std.proofs.Common.{◌≡◌, refl, ap, ◌∙◌, ℕ, ◌^◌, ◌<◌, true, false, cond, ◌&&◌, ◌==◌, [], ◌∷◌, drop, unwrap_or, Some, None, pos, neg_ℤ, nat_lt, arith}
use Rattle.std.specs.Cmp.Lexicographic.{pointwise_decides}
use Rattle.std.specs.Fmt.{decimal, signed_decimal}
use Rattle.std.specs.Str.Parse.{IsNumeral, digits_value, signed_digits_value, without_leading_plus}
use Rattle.std.proofs.lemmas.Bool.{lt-ltb}
use Rattle.std.proofs.lemmas.Bool.Decides.{Decides-eqb, nat_tests}
use Rattle.std.proofs.lemmas.Fmt.{decimal_is_IsNumeral}
use Rattle.std.proofs.lemmas.Str.Parse.{digit_from_value}
use Rattle.delos_types.specs.Spaces.{Text}
use Rattle.table_core.specs.Table.{amount_of, is_i64, same_bytes}
use Rattle.run_totals.specs.Totals.{number_in}

-- digits with no sign are the text of what they are worth
unsigned : (bs : Text) → IsNumeral 10 bs → signed_digits_value 10 bs ≡ pos (digits_value 10 bs)
unsigned [] h = let some = h.0 in absurd (omega arith)
unsigned (c ∷ cs) h =
    let digit = digit_from_value c h.1.0 in
    let minus : (c == 45) ≡ false = grind (arith, nat_tests) in
    let plus : (c == 43) ≡ false = grind (arith, nat_tests) in
    ap (λ b. cond b (neg_ℤ (pos (digits_value 10 (cond b cs (without_leading_plus (c ∷ cs)))))) (pos (digits_value 10 (cond b cs (without_leading_plus (c ∷ cs)))))) minus
    ∙ ap (λ b. pos (digits_value 10 (drop (cond b 1 0) (c ∷ cs)))) plus

same : (v : Text) → same_bytes v v ≡ true
same v = (pointwise_decides Decides-eqb v v).1 refl

pub amount-decimal : (n : ℕ) → n < 2 ^ 63 → amount_of (decimal n) ≡ Some (pos n)
amount-decimal n h =
    let numeral = decimal_is_IsNumeral n (omega arith) in
    let value : signed_digits_value 10 (decimal n) ≡ pos n = unsigned (decimal n) numeral.0 ∙ ap pos numeral.1 in
    ap (λ z. cond (same_bytes (decimal n) (signed_decimal z) && is_i64 z) (Some z) None) value
    ∙ ap (λ b. cond (b && nat_lt n (2 ^ 63)) (Some (pos n)) None) (same (decimal n))
    ∙ ap (λ b. cond b (Some (pos n)) None) (lt-ltb n (2 ^ 63) h)

pub number-decimal : (n : ℕ) → n < 2 ^ 63 → number_in (decimal n) ≡ pos n
number-decimal n h = ap (λ o. unwrap_or o (pos 0)) (amount-decimal n h)
