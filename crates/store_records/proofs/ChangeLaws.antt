-- Changes that are read are spelled so, and what is spelled so is read again. How a loop reads them.
use Rattle.std.proofs.Common.{◌≡◌, ℕ, zero, suc, ◌+◌, ◌-◌, ◌^◌, ◌<◌, ◌≤◌, Bool, true, false, cond, eqb, List, [], ◌∷◌, ◌++◌, length, Option, Some, None, Result, Ok, Err, refl, sym, ap, subst, ◌∙◌, append_assoc, arith}
use Rattle.std.specs.Prelude.{IfSome}
use Rattle.std.specs.List.{flat_map, AllByRecursion}
use Rattle.std.proofs.lemmas.Bool.{eqb-true}
use Rattle.std.proofs.lemmas.List.{append-nil}
use Rattle.std.proofs.lemmas.List.Concat.{flat_map-cons}
use Rattle.delos_types.specs.Numbers.{IsBytes, short_text, long_text}
use Rattle.delos_types.specs.Spaces.{Text}
use Rattle.delos_types.specs.Fields.{◌>>=◌, u8_field, short_text_field, long_text_field}
use Rattle.delos_types.proofs.FieldLaws.{bind_ok, ok_is, Takes, Takes-then, takes_nothing, u8_takes, u8_again, short_takes, short_again, long_takes, long_again}
use Rattle.store_records.specs.declared.change.Change.{Change}
use Rattle.store_records.specs.declared.fields.Stop.{Stop}
use Rattle.store_records.specs.declared.fields.Stop.TheVariants as stop
use Rattle.store_records.specs.Format.{value_bytes, change_bytes, IsSpellableChange}
use Rattle.store_records.specs.Reading.{Fails, flagged, change_field, changes_from}

-- ---- values

-- a flag, and the value that it announces
pub record TakesValue (flag : ℕ) (bytes : List ℕ) (x : Option Text × List ℕ) : Type 0 where
  pub rest_fits : IsBytes x.1
  pub parts : flag ∷ bytes ≡ value_bytes x.0 ++ x.1
  pub small : IfSome x.0 (λ v. length v < 2 ^ 32)

value_of_flag : (flag : ℕ) (bytes : List ℕ) (x : Option Text × List ℕ) (zeroth first : Bool) → eqb flag 0 ≡ zeroth → eqb flag 1 ≡ first → IsBytes bytes
    → cond zeroth (Ok (None, bytes)) (cond first (long_text_field stop.NoCommit bytes >>= λ value. Ok (Some value.0, value.1)) (Err stop.NoCommit)) ≡ Ok x → TakesValue flag bytes x
value_of_flag flag bytes x true first is is' fits e =
    let zero_flag : flag ≡ 0 = eqb-true _ _ is in
    subst (λ (y : Option Text × List ℕ). TakesValue flag bytes y) (ok_is {E = Stop} (None, bytes) x e) (record { rest_fits = fits; parts = ap (λ (n : ℕ). n ∷ bytes) zero_flag; small = tt })
value_of_flag flag bytes x false true is is' fits e =
    let one_flag : flag ≡ 1 = eqb-true _ _ is' in
    let a = bind_ok (long_text_field stop.NoCommit bytes) (λ value. Ok (Some value.0, value.1)) x e in
    let taken = long_takes stop.NoCommit bytes a.0 fits a.1 in
    let made : Option Text × List ℕ = (Some a.0.0, a.0.1) in
    subst (λ (y : Option Text × List ℕ). TakesValue flag bytes y) {x = made} (ok_is {E = Stop} made x a.2)
    (record { rest_fits = taken.0.rest_fits; parts = ap (λ (n : ℕ). n ∷ bytes) one_flag ∙ ap (λ (l : List ℕ). 1 ∷ l) taken.0.parts; small = taken.1 })
value_of_flag flag bytes x false false is is' fits e = absurd cc

value_takes : (flag : ℕ) (bytes : List ℕ) (x : Option Text × List ℕ) → IsBytes bytes → flagged flag bytes ≡ Ok x → TakesValue flag bytes x
unfolding flagged
value_takes flag bytes x fits e = value_of_flag flag bytes x (eqb flag 0) (eqb flag 1) refl refl fits e

-- the flag of a value, and what stands behind the flag
abbrev flag_of : Option Text → ℕ
flag_of None = 0
flag_of (Some v) = 1

abbrev behind_flag : Option Text → List ℕ → List ℕ
behind_flag None rest = rest
behind_flag (Some v) rest = long_text v ++ rest

value_parts : (o : Option Text) (rest : List ℕ) → value_bytes o ++ rest ≡ flag_of o ∷ behind_flag o rest
value_parts None rest = refl
value_parts (Some v) rest = refl

value_again : (o : Option Text) (rest : List ℕ) → IfSome o (λ v. length v < 2 ^ 32) → flagged (flag_of o) (behind_flag o rest) ≡ Ok (o, rest)
unfolding flagged
value_again None rest small = refl
value_again (Some v) rest small = rw (long_again stop.NoCommit v rest small) refl

-- ---- one change

pub change_takes : (bytes : List ℕ) (x : Change × List ℕ) → IsBytes bytes → change_field bytes ≡ Ok x → Takes bytes (change_bytes x.0) x.1 × IsSpellableChange x.0
unfolding change_field
change_takes bytes x fits e =
    let a = bind_ok (u8_field stop.NoCommit bytes) (λ kind. short_text_field stop.NoCommit kind.1 >>= λ key. u8_field stop.NoCommit key.1 >>= λ flag. flagged flag.0 flag.1 >>= λ value. Ok (record { kind = kind.0; key = key.0; value = value.0 }, value.1)) x e in
    let b = bind_ok (short_text_field stop.NoCommit a.0.1) (λ key. u8_field stop.NoCommit key.1 >>= λ flag. flagged flag.0 flag.1 >>= λ value. Ok (record { kind = a.0.0; key = key.0; value = value.0 }, value.1)) x a.2 in
    let f = bind_ok (u8_field stop.NoCommit b.0.1) (λ flag. flagged flag.0 flag.1 >>= λ value. Ok (record { kind = a.0.0; key = b.0.0; value = value.0 }, value.1)) x b.2 in
    let v = bind_ok (flagged f.0.0 f.0.1) (λ value. Ok (record { kind = a.0.0; key = b.0.0; value = value.0 }, value.1)) x f.2 in
    let kind = u8_takes stop.NoCommit bytes a.0.0 a.0.1 fits a.1 in
    let key = short_takes stop.NoCommit a.0.1 b.0 kind.0.rest_fits b.1 in
    let flag = u8_takes stop.NoCommit b.0.1 f.0.0 f.0.1 key.0.rest_fits f.1 in
    let value = value_takes f.0.0 f.0.1 v.0 flag.0.rest_fits v.1 in
    let valued : Takes b.0.1 (value_bytes v.0.0) v.0.1 = record { parts = flag.0.parts ∙ value.parts; rest_fits = value.rest_fits } in
    let keyed = Takes-then a.0.1 (short_text b.0.0) b.0.1 (value_bytes v.0.0) v.0.1 key.0 valued in
    let whole = Takes-then bytes (a.0.0 ∷ []) a.0.1 (short_text b.0.0 ++ value_bytes v.0.0) v.0.1 kind.0 keyed in
    let made : Change × List ℕ = (record { kind = a.0.0; key = b.0.0; value = v.0.0 }, v.0.1) in
    subst (λ (y : Change × List ℕ). Takes bytes (change_bytes y.0) y.1 × IsSpellableChange y.0) {x = made} (ok_is {E = Stop} made x v.2)
    (whole, record { kind = kind.1; key = key.1; value = value.small })

pub change_again : (c : Change) (rest : List ℕ) → IsSpellableChange c → change_field (change_bytes c ++ rest) ≡ Ok (c, rest)
unfolding change_field
change_again c rest s =
    let regrouped : change_bytes c ++ rest ≡ c.kind ∷ (short_text c.key ++ (flag_of c.value ∷ behind_flag c.value rest)) =
    ap (λ (l : List ℕ). c.kind ∷ l) (append_assoc (short_text c.key) (value_bytes c.value) rest ∙ ap (λ (l : List ℕ). short_text c.key ++ l) (value_parts c.value rest)) in
    ap change_field regrouped
    ∙ rw (u8_again stop.NoCommit c.kind (short_text c.key ++ (flag_of c.value ∷ behind_flag c.value rest)), short_again stop.NoCommit c.key (flag_of c.value ∷ behind_flag c.value rest) s.key, u8_again stop.NoCommit (flag_of c.value) (behind_flag c.value rest), value_again c.value rest s.value) refl

-- ---- several changes

pub from_takes : (count : ℕ) (bytes : List ℕ) (x : List Change × List ℕ) → IsBytes bytes → changes_from count bytes ≡ Ok x
    → Takes bytes (flat_map change_bytes x.0) x.1 × (length x.0 ≡ count) × AllByRecursion IsSpellableChange x.0
unfolding changes_from
from_takes zero bytes x fits e =
    subst (λ (y : List Change × List ℕ). Takes bytes (flat_map change_bytes y.0) y.1 × (length y.0 ≡ 0) × AllByRecursion IsSpellableChange y.0) (ok_is {E = Stop} ([], bytes) x e)
    (takes_nothing bytes fits, refl, tt)
from_takes (suc count) bytes x fits e =
    let a = bind_ok (change_field bytes) (λ first. changes_from count first.1 >>= λ others. Ok (first.0 ∷ others.0, others.1)) x e in
    let b = bind_ok (changes_from count a.0.1) (λ others. Ok (a.0.0 ∷ others.0, others.1)) x a.2 in
    let first = change_takes bytes a.0 fits a.1 in
    let others = from_takes count a.0.1 b.0 first.0.rest_fits b.1 in
    let both = Takes-then bytes (change_bytes a.0.0) a.0.1 (flat_map change_bytes b.0.0) b.0.1 first.0 others.0 in
    let made : List Change × List ℕ = (a.0.0 ∷ b.0.0, b.0.1) in
    subst (λ (y : List Change × List ℕ). Takes bytes (flat_map change_bytes y.0) y.1 × (length y.0 ≡ suc count) × AllByRecursion IsSpellableChange y.0) {x = made} (ok_is {E = Stop} made x b.2)
    (rw flat_map-cons both, ap suc others.1, (first.1, others.2))

pub from_again : (cs : List Change) (rest : List ℕ) → AllByRecursion IsSpellableChange cs → changes_from (length cs) (flat_map change_bytes cs ++ rest) ≡ Ok (cs, rest)
unfolding changes_from
from_again [] rest fits = refl
from_again (c ∷ cs) rest fits =
    let regrouped : flat_map change_bytes (c ∷ cs) ++ rest ≡ change_bytes c ++ (flat_map change_bytes cs ++ rest) = ap (λ (x : List ℕ). x ++ rest) (flat_map-cons change_bytes c cs) ∙ append_assoc (change_bytes c) (flat_map change_bytes cs) rest in
    ap (changes_from (suc (length cs))) regrouped
    ∙ rw (change_again c (flat_map change_bytes cs ++ rest) fits.0, from_again cs rest fits.1) refl

-- ---- the loop

-- what was read before, and what is still read
abbrev pub with_front : List Change → Result (List Change × List ℕ) Stop → Result (List Change × List ℕ) Stop
with_front front read = read >>= λ x. Ok (front ++ x.0, x.1)

regroup : (front : List Change) (c : Change) (read : Result (List Change × List ℕ) Stop) → with_front front (read >>= λ x. Ok (c ∷ x.0, x.1)) ≡ with_front (front ++ c ∷ []) read
regroup front c (Ok x) = ap (λ (cs : List Change). Ok (cs, x.1)) (simp append_assoc)
regroup front c (Err b) = refl

pub begins : (read : Result (List Change × List ℕ) Stop) → with_front [] read ≡ read
begins (Ok x) = refl
begins (Err b) = refl

pub goes_on : (front : List Change) (count i : ℕ) (bytes : List ℕ) (c : Change) (after : List ℕ) (total : Result (List Change × List ℕ) Stop) → i < count → change_field bytes ≡ Ok (c, after)
    → with_front front (changes_from (count - i) bytes) ≡ total → with_front (front ++ c ∷ []) (changes_from (count - (i + 1)) after) ≡ total
unfolding changes_from
goes_on front count i bytes c after total lt e so_far =
    let k : count - i ≡ suc (count - (i + 1)) = omega arith in
    let one : with_front front (changes_from (count - i) bytes) ≡ with_front (front ++ c ∷ []) (changes_from (count - (i + 1)) after) = rw (k, e) (regroup front c (changes_from (count - (i + 1)) after)) in
    sym one ∙ so_far

pub ends : (e : Stop) (front : List Change) (count i : ℕ) (bytes : List ℕ) (total : Result (List Change × List ℕ) Stop) → i < count → Fails e (change_field bytes)
    → with_front front (changes_from (count - i) bytes) ≡ total → Fails e total
unfolding changes_from
ends stop.Memory front count i bytes total lt f so_far = tt
ends stop.NoCommit front count i bytes total lt f so_far =
    let k : count - i ≡ suc (count - (i + 1)) = omega arith in
    let one : with_front front (changes_from (count - i) bytes) ≡ Err stop.NoCommit = rw (k, f) refl in
    sym so_far ∙ one

pub is_done : (front : List Change) (count i : ℕ) (bytes : List ℕ) (total : Result (List Change × List ℕ) Stop) → count ≤ i → with_front front (changes_from (count - i) bytes) ≡ total → total ≡ Ok (front, bytes)
unfolding changes_from
is_done front count i bytes total le so_far =
    let k : count - i ≡ 0 = omega arith in
    let one : with_front front (changes_from (count - i) bytes) ≡ Ok (front, bytes) = rw k (ap (λ (cs : List Change). Ok (cs, bytes)) (append-nil front)) in
    sym so_far ∙ one
