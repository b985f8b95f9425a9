-- What is read is the reply whose text it is.
use Rattle.std.proofs.Common.{◌≡◌, ℕ, zero, suc, ◌<◌, ◌%◌, ◌^◌, true, false, cond, [], ◌∷◌, ◌++◌, length, get_or, Option, Some, None, refl, sym, ap, subst, ◌∙◌, arith}
use Rattle.std.specs.Prelude.{◌==◌, FitsSigned, ℤ, Result, Ok, Err, IfOk}
use Rattle.std.specs.Int.{to_be_bytes, from_be_bytes, cast_unsigned, cast_signed, w16, w64}
use Rattle.std.proofs.lemmas.Nat.{from_be_bytes-to_be_bytes_2, from_be_bytes-to_be_bytes_8, be_bytes_2, be_bytes_8}
use Rattle.std.proofs.lemmas.Int.{to_z-of_z, of_z-to_z}
use Rattle.std.proofs.Math.Facts.{Fits-of_z, Fits-lt-pow, sfits_to_z, Fits-of_lt}
use Rattle.std.proofs.lemmas.Bool.Decides.{nat_tests}
use Rattle.delos_types.specs.Numbers.{IsBytes, u16_bytes}
use Rattle.delos_types.specs.Spaces.{Text}
use Rattle.table_core.specs.declared.command.Reply.{Reply}
use Rattle.table_core.specs.declared.command.Reply.TheVariants.{Done, Absent, Was, Number, Full, NotNumber}
use Rattle.engine_steps.specs.Replies.{reply_text}
use Rattle.log_laws.specs.Told.{IsTold, IsTextOf}
use Rattle.log_laws.specs.Reading.{if_whole, was_of, number_of, reply_with}

-- the reply whose text the bytes are, if they are one's
abbrev pub reply_of : Text → Option Reply
reply_of [] = None
reply_of (tag ∷ bytes) = reply_with tag bytes

same_number : (a b : ℕ) → (a == b) ≡ true → a ≡ b
same_number a b e = grind (arith, nat_tests)

is_same : (a b : ℕ) → a ≡ b → (a == b) ≡ true
is_same a b e = grind (arith, nat_tests)

-- from the reply to what is read of its text

was-whole : (value : Text) → was_of (u16_bytes (length value % 65536) ++ value) ≡ Some (Was value)
unfolding u16_bytes
was-whole value =
    let small : length value % 65536 < 2 ^ 16 = omega arith in
    ap (λ t. cond t (Some (Was value)) None) (is_same (from_be_bytes w16 (to_be_bytes w16 (length value % 65536))) (length value % 65536) (from_be_bytes-to_be_bytes_2 (length value % 65536) small))

number-whole : (z : ℤ) → FitsSigned w64 z → number_of (to_be_bytes w64 (cast_unsigned w64 z)) ≡ Some (Number z)
number-whole z h =
    ap (λ n. Some (Number (cast_signed w64 n))) (from_be_bytes-to_be_bytes_8 (cast_unsigned w64 z) (Fits-lt-pow (Fits-of_z h)))
    ∙ ap (λ i. Some (Number i)) (to_z-of_z w64 z h)

reply_of-text : (r : Option Reply) → IsTold r → reply_of (reply_text r) ≡ r
reply_of-text None h = refl
reply_of-text (Some Done) h = refl
reply_of-text (Some Absent) h = refl
reply_of-text (Some (Was value)) h = was-whole value
reply_of-text (Some (Number n)) h = number-whole n h
reply_of-text (Some Full) h = refl
reply_of-text (Some NotNumber) h = refl

pub told_by : {E : Type 0} (text : Text) (read : Option Reply) (result : Result (Option Reply) E) → reply_of text ≡ read → IfOk result (λ r. r ≡ read) → (r : Option Reply) → IsTold r → text ≡ reply_text r → IfOk result (λ reply. reply ≡ r)
told_by text read (Ok x) is e r told own = e ∙ sym is ∙ ap reply_of own ∙ reply_of-text r told
told_by text read (Err x) is e r told own = tt

-- from what is read to the text

whole-text : (tag : ℕ) (reply : Reply) (bytes : Text) → IsTold (Some reply) → tag ∷ [] ≡ reply_text (Some reply) → IsTextOf (tag ∷ bytes) (if_whole reply bytes)
whole-text tag reply [] told own = (told, own)
whole-text tag reply (b ∷ bs) told own = tt

two_bytes : (a b : ℕ) → a < 256 → b < 256 → to_be_bytes w16 (from_be_bytes w16 (a ∷ b ∷ [])) ≡ a ∷ b ∷ []
two_bytes a b small_a small_b = be_bytes_2 (a ∷ b ∷ []) _ refl each refl
  where
    each : (i : ℕ) → get_or (a ∷ b ∷ []) i 0 < 256
    each zero = small_a
    each (suc zero) = small_b
    each (suc (suc i)) = omega arith

was-text : (bytes : Text) → IsBytes bytes → IsTextOf (3 ∷ bytes) (was_of bytes)
unfolding u16_bytes
was-text [] h = tt
was-text (a ∷ []) h = tt
was-text (a ∷ b ∷ value) h =
    elim (from_be_bytes w16 (a ∷ b ∷ []) == (length value % 65536)) as (λ t. (from_be_bytes w16 (a ∷ b ∷ []) == (length value % 65536)) ≡ t → IsTextOf (3 ∷ a ∷ b ∷ value) (cond t (Some (Was value)) None)) [
      | true ↦ λ e. (tt, ap (λ (l : Text). 3 ∷ (l ++ value)) (sym (two_bytes a b (h 0) (h 1)) ∙ ap (to_be_bytes w16) (same_number _ _ e)))
      | false ↦ λ _. tt
    ] refl

small_number : (bytes : Text) → IsBytes bytes → from_be_bytes w64 bytes < 2 ^ 64
small_number bytes h = omega (arith, h 0, h 1, h 2, h 3, h 4, h 5, h 6, h 7)

number-text : (bytes : Text) → IsBytes bytes → IsTextOf (4 ∷ bytes) (number_of bytes)
number-text bytes h =
    elim (length bytes == 8) as (λ t. (length bytes == 8) ≡ t → IsTextOf (4 ∷ bytes) (cond t (Some (Number (cast_signed w64 (from_be_bytes w64 bytes)))) None)) [
      | true ↦ λ e. (sfits_to_z {w = w64} (Fits-of_lt {w = w64} (small_number bytes h)), ap (λ (l : Text). 4 ∷ l) (sym (ap (to_be_bytes w64) (of_z-to_z w64 (from_be_bytes w64 bytes) (small_number bytes h)) ∙ be_bytes_8 bytes _ (same_number _ _ e) h refl)))
      | false ↦ λ _. tt
    ] refl

-- what is read where the tag is none of the first ones
abbrev after_6 : ℕ → Text → Option Reply
after_6 tag bytes = cond (tag == 6) (if_whole NotNumber bytes) None

abbrev after_5 : ℕ → Text → Option Reply
after_5 tag bytes = cond (tag == 5) (if_whole Full bytes) (after_6 tag bytes)

abbrev after_4 : ℕ → Text → Option Reply
after_4 tag bytes = cond (tag == 4) (number_of bytes) (after_5 tag bytes)

abbrev after_3 : ℕ → Text → Option Reply
after_3 tag bytes = cond (tag == 3) (was_of bytes) (after_4 tag bytes)

abbrev after_2 : ℕ → Text → Option Reply
after_2 tag bytes = cond (tag == 2) (if_whole Absent bytes) (after_3 tag bytes)

-- by whether this is the tag
by_tag : (tag here : ℕ) (bytes : Text) (mine others : Option Reply) → IsTextOf (here ∷ bytes) mine → IsTextOf (tag ∷ bytes) others → IsTextOf (tag ∷ bytes) (cond (tag == here) mine others)
by_tag tag here bytes mine others m o =
    elim (tag == here) as (λ t. (tag == here) ≡ t → IsTextOf (tag ∷ bytes) (cond t mine others)) [
      | true ↦ λ e. subst (λ n. IsTextOf (n ∷ bytes) mine) (sym (same_number tag here e)) m
      | false ↦ λ _. o
    ] refl

with-text : (tag : ℕ) (bytes : Text) → IsBytes bytes → IsTextOf (tag ∷ bytes) (reply_with tag bytes)
with-text tag bytes h =
    by_tag tag 1 bytes (if_whole Done bytes) (after_2 tag bytes) (whole-text 1 Done bytes tt refl)
    (by_tag tag 2 bytes (if_whole Absent bytes) (after_3 tag bytes) (whole-text 2 Absent bytes tt refl)
    (by_tag tag 3 bytes (was_of bytes) (after_4 tag bytes) (was-text bytes h)
    (by_tag tag 4 bytes (number_of bytes) (after_5 tag bytes) (number-text bytes h)
    (by_tag tag 5 bytes (if_whole Full bytes) (after_6 tag bytes) (whole-text 5 Full bytes tt refl)
    (by_tag tag 6 bytes (if_whole NotNumber bytes) None (whole-text 6 NotNumber bytes tt refl) tt)))))

text-of : (text : Text) → IsBytes text → IsTextOf text (reply_of text)
text-of [] h = tt
text-of (tag ∷ bytes) h = with-text tag bytes (λ i. h (suc i))

pub only_by : {E : Type 0} (text : Text) (read : Option Reply) (result : Result (Option Reply) E) → IsBytes text → reply_of text ≡ read → IfOk result (λ r. r ≡ read) → IfOk result (IsTextOf text)
only_by text read (Ok x) h is e = subst (IsTextOf text) (is ∙ sym e) (text-of text h)
only_by text read (Err x) h is e = tt
