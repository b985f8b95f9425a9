-- What is read is what is spelled.
use Rattle.std.proofs.Common.{◌≡◌, ℕ, zero, suc, ◌+◌, ◌<◌, ◌≤◌, ◌^◌, Bool, true, false, cond, ◌&&◌, [], ◌∷◌, ◌++◌, length, take, drop, get_or, Option, Some, None, MatchOption, refl, sym, ap, subst, ◌∙◌, arith}
use Rattle.std.specs.Prelude.{nat_le, ◌==◌, FitsSigned, ℤ, ⊤, Result, Ok, Err, IfOk}
use Rattle.std.specs.List.{AllByRecursion}
use Rattle.std.specs.Int.{to_be_bytes, from_be_bytes, cast_unsigned, cast_signed, w16, w64}
use Rattle.std.proofs.lemmas.Nat.{from_be_bytes-to_be_bytes_2, from_be_bytes-to_be_bytes_8, be_bytes_2, be_bytes_8}
use Rattle.std.proofs.lemmas.Int.{to_z-of_z, of_z-to_z}
use Rattle.std.proofs.Math.Facts.{Fits-of_z, Fits-lt-pow, sfits_to_z, Fits-of_lt}
use Rattle.std.proofs.lemmas.Bool.{leb-true}
use Rattle.std.proofs.lemmas.Bool.Decides.{nat_tests}
use Rattle.std.proofs.Math.Seq.{take-append_seam, drop-append_seam}
use Rattle.std.proofs.lemmas.List.{take-append-drop, length-take-le, append-nil, get_or-drop, length-append}
use Rattle.delos_types.specs.Spaces.{Text}
use Rattle.table_core.specs.Spelling.{command_length, Spells, Reads, IsKey, IsValue, IsSpellable, key_text, value_text, command_text}
use Rattle.table_core.specs.Reading.{split_front, split_key, split_value, is_printable, printable_front, if_whole, put_of, cas_of, cas_from, add_of, command_with, command_from, command_of}
use Rattle.table_core.specs.declared.command.Command.{Command}
use Rattle.table_core.specs.declared.command.Command.TheVariants.{Put, Del, Cas, Add}

-- each number is a byte
abbrev IsBytes : Text → Type 0
IsBytes bytes = (i : ℕ) → get_or bytes i 0 < 256

-- from what is spelled to what is read

fits_front : (a b : Text) → nat_le (length a) (length (a ++ b)) ≡ true
fits_front [] b = grind (arith, nat_tests)
fits_front (x ∷ a) b = let h = fits_front a b in grind (arith, nat_tests)

split_front-append : (a b : Text) → split_front (length a) (a ++ b) ≡ Some (a, b)
split_front-append a b =
    ap (λ t. cond t (Some (take (length a) (a ++ b), drop (length a) (a ++ b))) None) (fits_front a b)
    ∙ ap (λ x. Some (x, drop (length a) (a ++ b))) (take-append_seam a b) ∙ ap (λ y. Some (a, y)) (drop-append_seam a b)

in_range : (b : ℕ) → 33 ≤ b → b ≤ 126 → (nat_le 33 b && nat_le b 126) ≡ true
in_range b low high = grind (arith, nat_tests)

printable : (key : Text) → AllByRecursion (λ b. (33 ≤ b) × (b ≤ 126)) key → is_printable key ≡ true
printable [] h = refl
printable (b ∷ bs) h = ap (λ t. t && is_printable bs) (in_range b h.0.0 h.0.1) ∙ printable bs h.1

split_key-append : (key rest : Text) → IsKey key → split_key (length key ∷ (key ++ rest)) ≡ Some (key, rest)
split_key-append key rest h =
    ap printable_front (split_front-append key rest) ∙ ap (λ t. cond t (Some (key, rest)) None) (printable key h.1)

split_value-append : (value rest : Text) → IsValue value → split_value (value_text value ++ rest) ≡ Some (value, rest)
split_value-append value rest h =
    ap (λ n. split_front n (value ++ rest)) (from_be_bytes-to_be_bytes_2 (length value) h) ∙ split_front-append value rest

split_value-whole : (value : Text) → IsValue value → split_value (value_text value) ≡ Some (value, [])
split_value-whole value h = ap split_value (sym (append-nil (value_text value))) ∙ split_value-append value [] h

signed_back : (z : ℤ) → FitsSigned w64 z → cast_signed w64 (cast_unsigned w64 z) ≡ z
signed_back z h = to_z-of_z w64 z h

add-whole : (key : Text) (z : ℤ) → FitsSigned w64 z → add_of key (to_be_bytes w64 (cast_unsigned w64 z)) ≡ Some (Add key z)
add-whole key z h =
    ap (λ n. Some (Add key (cast_signed w64 n))) (from_be_bytes-to_be_bytes_8 (cast_unsigned w64 z) (Fits-lt-pow (Fits-of_z h))) ∙ ap (λ i. Some (Add key i)) (signed_back z h)

pub command_of-text : (c : Command) → IsSpellable c → command_of (command_text c) ≡ Some c
command_of-text (Put key value) h = ap (command_from 1) (split_key-append key (value_text value) h.0) ∙ ap (put_of key) (split_value-whole value h.1)
command_of-text (Del key) h = ap (λ (t : Text). command_from 2 (split_key (length key ∷ t))) (sym (append-nil key)) ∙ ap (command_from 2) (split_key-append key [] h)
command_of-text (Cas key old new) h =
    ap (command_from 3) (split_key-append key (value_text old ++ value_text new) h.0) ∙ ap (cas_from key) (split_value-append old (value_text new) h.1)
    ∙ ap (cas_of key old) (split_value-whole new h.2)
command_of-text (Add key amount) h = ap (command_from 4) (split_key-append key (to_be_bytes w64 (cast_unsigned w64 amount)) h.0) ∙ add-whole key amount h.1

-- from what is read to what is spelled

record IsFront (n : ℕ) (bytes : Text) (p : Text × Text) : Type 0 where
  pub whole : bytes ≡ p.0 ++ p.1
  pub long : length p.0 ≡ n
  pub small : IsBytes bytes → IsBytes p.1

bytes_behind : (n : ℕ) (bytes : Text) → IsBytes bytes → IsBytes (drop n bytes)
bytes_behind n bytes h i = rw get_or-drop (h (n + i))

front : (n : ℕ) (bytes : Text) → MatchOption (split_front n bytes) ⊤ (IsFront n bytes)
front n bytes =
    elim (nat_le n (length bytes)) as (λ t. nat_le n (length bytes) ≡ t → MatchOption (cond t (Some (take n bytes, drop n bytes)) None) ⊤ (IsFront n bytes)) [
      | true ↦ λ e. record { whole = sym (take-append-drop n bytes); long = length-take-le n bytes (leb-true n (length bytes) e); small = bytes_behind n bytes }
      | false ↦ λ e. tt
    ] refl

record IsKeyFront (bytes : Text) (p : Text × Text) : Type 0 where
  pub whole : bytes ≡ key_text p.0 ++ p.1
  pub key : IsKey p.0
  pub small : IsBytes p.1

left_true : (a b : Bool) → (a && b) ≡ true → a ≡ true
left_true true b e = refl
left_true false b e = e

right_true : (a b : Bool) → (a && b) ≡ true → b ≡ true
right_true true b e = e
right_true false b e = absurd (cc)

all_printable : (key : Text) → is_printable key ≡ true → AllByRecursion (λ b. (33 ≤ b) × (b ≤ 126)) key
all_printable [] e = tt
all_printable (b ∷ bs) e =
    let here : (nat_le 33 b && nat_le b 126) ≡ true = left_true _ _ e in
    ((leb-true 33 b (left_true _ _ here), leb-true b 126 (right_true _ _ here)), all_printable bs (right_true _ _ e))

printed : (n : ℕ) (rest : Text) (o : Option (Text × Text)) → n < 256 → IsBytes rest → MatchOption o ⊤ (IsFront n rest) → MatchOption (printable_front o) ⊤ (IsKeyFront (n ∷ rest))
printed n rest None small bytes h = tt
printed n rest (Some p) small bytes h =
    elim (is_printable p.0) as (λ t. is_printable p.0 ≡ t → MatchOption (cond t (Some p) None) ⊤ (IsKeyFront (n ∷ rest))) [
      | true ↦ λ e. record { whole = ap (λ m. m ∷ rest) (sym h.long) ∙ ap (λ t. length p.0 ∷ t) h.whole; key = (subst (λ m. m < 256) (sym h.long) small, all_printable p.0 e); small = h.small bytes }
      | false ↦ λ e. tt
    ] refl

key_front : (bytes : Text) → IsBytes bytes → MatchOption (split_key bytes) ⊤ (IsKeyFront bytes)
key_front [] h = tt
key_front (n ∷ rest) h = let behind : IsBytes rest = λ i. h (suc i) in printed n rest (split_front n rest) (h 0) behind (front n rest)

record IsValueFront (bytes : Text) (p : Text × Text) : Type 0 where
  pub whole : bytes ≡ value_text p.0 ++ p.1
  pub value : IsValue p.0
  pub small : IsBytes p.1

two_bytes : (a b : ℕ) → a < 256 → b < 256 → to_be_bytes w16 (from_be_bytes w16 (a ∷ b ∷ [])) ≡ a ∷ b ∷ []
two_bytes a b small_a small_b = be_bytes_2 (a ∷ b ∷ []) _ refl each refl
  where
    each : (i : ℕ) → get_or (a ∷ b ∷ []) i 0 < 256
    each zero = small_a
    each (suc zero) = small_b
    each (suc (suc i)) = omega arith

valued : (a b : ℕ) (rest : Text) (o : Option (Text × Text)) → a < 256 → b < 256 → IsBytes rest → MatchOption o ⊤ (IsFront (from_be_bytes w16 (a ∷ b ∷ [])) rest) → MatchOption o ⊤ (IsValueFront (a ∷ b ∷ rest))
valued a b rest None small_a small_b bytes h = tt
valued a b rest (Some p) small_a small_b bytes h =
    let n = from_be_bytes w16 (a ∷ b ∷ []) in
    let spelled : to_be_bytes w16 (length p.0) ≡ a ∷ b ∷ [] = ap (to_be_bytes w16) h.long ∙ two_bytes a b small_a small_b in
    record {
      whole = ap (λ t. a ∷ b ∷ t) h.whole ∙ ap (λ l. l ++ (p.0 ++ p.1)) (sym spelled);
      value = subst (λ m. m < 2 ^ 16) (sym h.long) (omega arith);
      small = h.small bytes;
    }

value_front : (bytes : Text) → IsBytes bytes → MatchOption (split_value bytes) ⊤ (IsValueFront bytes)
value_front [] h = tt
value_front (a ∷ []) h = tt
value_front (a ∷ b ∷ rest) h = valued a b rest (split_front (from_be_bytes w16 (a ∷ b ∷ [])) rest) (h 0) (h 1) (λ i. h (suc (suc i))) (front _ rest)

abbrev SpelledAfter : ℕ → Text → Text → Option Command → Type 0
SpelledAfter tag key rest read = MatchOption read ⊤ (Spells (tag ∷ (key_text key ++ rest)))

spelled_put : (key rest : Text) (o : Option (Text × Text)) → IsKey key → MatchOption o ⊤ (IsValueFront rest) → SpelledAfter 1 key rest (put_of key o)
spelled_put key rest None k h = tt
spelled_put key rest (Some (v, [])) k h = record { text = ap (λ t. 1 ∷ (key_text key ++ t)) (h.whole ∙ append-nil (value_text v)); spellable = (k, h.value) }
spelled_put key rest (Some (v, b ∷ bs)) k h = tt

spelled_cas_of : (key rest old middle : Text) (o : Option (Text × Text)) → IsKey key → IsValue old → rest ≡ value_text old ++ middle → MatchOption o ⊤ (IsValueFront middle) → SpelledAfter 3 key rest (cas_of key old o)
spelled_cas_of key rest old middle None k fits e h = tt
spelled_cas_of key rest old middle (Some (v, [])) k fits e h =
    record { text = ap (λ t. 3 ∷ (key_text key ++ t)) (e ∙ ap (λ t. value_text old ++ t) (h.whole ∙ append-nil (value_text v))); spellable = (k, fits, h.value) }
spelled_cas_of key rest old middle (Some (v, b ∷ bs)) k fits e h = tt

spelled_cas : (key rest : Text) (o : Option (Text × Text)) → IsKey key → MatchOption o ⊤ (IsValueFront rest) → SpelledAfter 3 key rest (cas_from key o)
spelled_cas key rest None k h = tt
spelled_cas key rest (Some (v, middle)) k h = spelled_cas_of key rest v middle (split_value middle) k h.value h.whole (value_front middle h.small)

spelled_del : (key rest : Text) → IsKey key → SpelledAfter 2 key rest (if_whole (Del key) rest)
spelled_del key [] k = record { text = ap (λ (t : Text). 2 ∷ t) (append-nil (key_text key)); spellable = k }
spelled_del key (b ∷ bs) k = tt

same_number : (a b : ℕ) → (a == b) ≡ true → a ≡ b
same_number a b e = grind (arith, nat_tests)

small_number : (bytes : Text) → IsBytes bytes → from_be_bytes w64 bytes < 2 ^ 64
small_number bytes h = omega (arith, h 0, h 1, h 2, h 3, h 4, h 5, h 6, h 7)

eight_bytes : (bytes : Text) → IsBytes bytes → length bytes ≡ 8 → to_be_bytes w64 (cast_unsigned w64 (cast_signed w64 (from_be_bytes w64 bytes))) ≡ bytes
eight_bytes bytes h e =
    ap (to_be_bytes w64) (of_z-to_z w64 (from_be_bytes w64 bytes) (small_number bytes h)) ∙ be_bytes_8 bytes _ e h refl

spelled_add : (key rest : Text) → IsKey key → IsBytes rest → SpelledAfter 4 key rest (add_of key rest)
spelled_add key rest k h =
    elim (length rest == 8) as (λ t. (length rest == 8) ≡ t → SpelledAfter 4 key rest (cond t (Some (Add key (cast_signed w64 (from_be_bytes w64 rest)))) None)) [
      | true ↦ λ e. record { text = ap (λ (t : Text). 4 ∷ (key_text key ++ t)) (sym (eight_bytes rest h (same_number _ _ e))); spellable = (k, signed_fits rest h) }
      | false ↦ λ e. tt
    ] refl
  where
    signed_fits : (bytes : Text) → IsBytes bytes → FitsSigned w64 (cast_signed w64 (from_be_bytes w64 bytes))
    signed_fits bytes h = sfits_to_z {w = w64} (Fits-of_lt {w = w64} (small_number bytes h))

spelled_with : (tag : ℕ) (key rest : Text) → IsKey key → IsBytes rest → SpelledAfter tag key rest (command_with tag key rest)
spelled_with tag key rest k h =
    elim (tag == 1) as (λ t. (tag == 1) ≡ t → SpelledAfter tag key rest (cond t (put_of key (split_value rest)) (cond (tag == 2) (if_whole (Del key) rest) (cond (tag == 3) (cas_from key (split_value rest)) (cond (tag == 4) (add_of key rest) None))))) [
      | true ↦ λ e. subst (λ n. SpelledAfter n key rest (put_of key (split_value rest))) (sym (same_number tag 1 e)) (spelled_put key rest (split_value rest) k (value_front rest h))
      | false ↦ λ _. elim (tag == 2) as (λ t. (tag == 2) ≡ t → SpelledAfter tag key rest (cond t (if_whole (Del key) rest) (cond (tag == 3) (cas_from key (split_value rest)) (cond (tag == 4) (add_of key rest) None)))) [
        | true ↦ λ e. subst (λ n. SpelledAfter n key rest (if_whole (Del key) rest)) (sym (same_number tag 2 e)) (spelled_del key rest k)
        | false ↦ λ _. elim (tag == 3) as (λ t. (tag == 3) ≡ t → SpelledAfter tag key rest (cond t (cas_from key (split_value rest)) (cond (tag == 4) (add_of key rest) None))) [
          | true ↦ λ e. subst (λ n. SpelledAfter n key rest (cas_from key (split_value rest))) (sym (same_number tag 3 e)) (spelled_cas key rest (split_value rest) k (value_front rest h))
          | false ↦ λ _. elim (tag == 4) as (λ t. (tag == 4) ≡ t → SpelledAfter tag key rest (cond t (add_of key rest) None)) [
            | true ↦ λ e. subst (λ n. SpelledAfter n key rest (add_of key rest)) (sym (same_number tag 4 e)) (spelled_add key rest k h)
            | false ↦ λ _. tt
          ] refl
        ] refl
      ] refl
    ] refl

spelled_from : (tag : ℕ) (rest : Text) (o : Option (Text × Text)) → MatchOption o ⊤ (IsKeyFront rest) → MatchOption (command_from tag o) ⊤ (Spells (tag ∷ rest))
spelled_from tag rest None h = tt
spelled_from tag rest (Some p) h = subst (λ (t : Text). MatchOption (command_with tag p.0 p.1) ⊤ (Spells (tag ∷ t))) (sym h.whole) (spelled_with tag p.0 p.1 h.key h.small)

spelled_whole : (bytes : Text) → IsBytes bytes → MatchOption (command_of bytes) ⊤ (Spells bytes)
spelled_whole [] h = tt
spelled_whole (tag ∷ rest) h = let behind : IsBytes rest = λ i. h (suc i) in spelled_from tag rest (split_key rest) (key_front rest behind)

-- where nothing is read nothing is spelled
pub none_is_spelled : (bytes : Text) (c : Command) → command_of bytes ≡ None → Spells bytes c → ⊥
none_is_spelled bytes c e s = let read : command_of bytes ≡ Some c = ap command_of s.text ∙ command_of-text c s.spellable in none_or_some (sym e ∙ read)
  where
    none_or_some : {A : Type 0} {x : A} → None ≡ Some x → ⊥
    none_or_some e = cc

-- what is read is what is spelled, and nothing is read where nothing is spelled
pub reads-command_of : (bytes : Text) → ((i : ℕ) → get_or bytes i 0 < 256) → Reads bytes (command_of bytes)
reads-command_of bytes h =
    elim (command_of bytes) as (λ o. command_of bytes ≡ o → MatchOption o ⊤ (Spells bytes) → Reads bytes o) [
      | None ↦ λ e s c. none_is_spelled bytes c e
      | Some c ↦ λ e s. s
    ] refl (spelled_whole bytes h)

pub reads-read : {E : Type 0} (bytes : Text) (w : Option Command) (r : Result (Option Command) E) → ((i : ℕ) → get_or bytes i 0 < 256) → command_of bytes ≡ w → IfOk r (λ read. read ≡ w) → IfOk r (Reads bytes)
reads-read bytes w (Ok read) h is e = subst (Reads bytes) (is ∙ sym e) (reads-command_of bytes h)
reads-read bytes w (Err x) h is e = tt

-- how many bytes spell a command
pub length-command_text : (c : Command) → length (command_text c) ≡ command_length c
length-command_text (Put key value) = omega (arith, length-append key (value_text value))
length-command_text (Del key) = omega arith
length-command_text (Cas key old new) = omega (arith, length-append key (value_text old ++ value_text new), length-append old (value_text new))
length-command_text (Add key amount) = omega (arith, length-append key (to_be_bytes w64 (cast_unsigned w64 amount)))
