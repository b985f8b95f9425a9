-- Records, one behind the other.
use Rattle.std.proofs.Common.{◌≡◌, ◌≢◌, inl, inr, ℕ, zero, suc, ◌+◌, ◌-◌, ◌<◌, ◌≤◌, Option, Some, None, List, [], ◌∷◌, ◌++◌, length, get_or, take, drop, refl, sym, ◌∙◌, ap, subst, arith, length-append, length-take, length-drop}
use Rattle.std.proofs.lemmas.List.{get_or-take, get_or-drop, get_or_at, take-take, drop-take, drop-drop, append-nil}
use Rattle.std.proofs.lemmas.Bool.{cases_eq, cases_lt}
use Rattle.std.proofs.lemmas.Bool.Decides.{nat_tests}
use Rattle.journal_core.specs.Records.{number, size, first_record, records_within, records_of}
use Rattle.journal_core.specs.Layout.{Whole, IsWalked, IsEnd, EndsAt}

pub record IsFirst (bytes p : List ℕ) : Type 0 where
  pub opened : get_or bytes 0 0 ≡ 1
  pub size_is : size bytes ≡ length p
  pub fits : 9 + length p < length bytes
  pub payload : take (length p) (drop 9 bytes) ≡ p

pub none_closed : (bytes : List ℕ) → get_or bytes 0 0 ≢ 1 → first_record bytes ≡ None
none_closed bytes shut = grind (arith, nat_tests)

pub none_short : (bytes : List ℕ) → length bytes ≤ 9 + size bytes → first_record bytes ≡ None
none_short bytes short = grind (arith, nat_tests)

pub some_open : (bytes : List ℕ) → get_or bytes 0 0 ≡ 1 → 9 + size bytes < length bytes → first_record bytes ≡ Some (take (size bytes) (drop 9 bytes))
some_open bytes opened fits = grind (arith, nat_tests)

pub from_first : (bytes p : List ℕ) → IsFirst bytes p → first_record bytes ≡ Some p
from_first bytes p first =
    some_open bytes first.opened (omega (arith, first.size_is, first.fits))
    ∙ ap (λ (n : ℕ). Some (take n (drop 9 bytes))) first.size_is ∙ ap (λ (l : List ℕ). Some l) first.payload

pub to_first : (bytes p : List ℕ) → first_record bytes ≡ Some p → IsFirst bytes p
to_first bytes p is = elim (cases_eq (get_or bytes 0 0) 1) [
  | inl opened ↦ elim (cases_lt (9 + size bytes) (length bytes)) [
    | inl fits ↦
        let one = some_open bytes opened fits in
        let same : take (size bytes) (drop 9 bytes) ≡ p = cc (one, is) in
        let long : size bytes ≡ length p = omega (arith, ap length same, length-take (size bytes) (drop 9 bytes), length-drop 9 bytes, fits) in
        record { opened = opened; size_is = long; fits = omega (arith, fits, long); payload = subst (λ (n : ℕ). take n (drop 9 bytes) ≡ p) long same }
    | inr short ↦ let none = none_short bytes short in cc (none, is)
  ]
  | inr shut ↦ let none = none_closed bytes shut in cc (none, is)
]

-- a part of equal fronts
pub same_part : (e n m : ℕ) (a b : List ℕ) → take e a ≡ take e b → n + m ≤ e → take m (drop n a) ≡ take m (drop n b)
same_part e n m a b same le =
    sym (drop-take n m a) ∙ ap (λ (l : List ℕ). drop n l) (sym (take-take (n + m) e a le)) ∙ ap (λ (l : List ℕ). drop n (take (n + m) l)) same
    ∙ ap (λ (l : List ℕ). drop n l) (take-take (n + m) e b le) ∙ drop-take n m b

pub same_at : (e i : ℕ) (a b : List ℕ) → take e a ≡ take e b → i < e → get_or a i 0 ≡ get_or b i 0
same_at e i a b same lt = sym (get_or-take e a i 0 lt) ∙ ap (λ (l : List ℕ). get_or l i 0) same ∙ get_or-take e b i 0 lt

same_first : (e : ℕ) (a b p : List ℕ) → take e a ≡ take e b → 9 + length p ≤ e → 9 + length p < length a → IsFirst b p → IsFirst a p
same_first e a b p same le long first = record {
  opened = same_at e 0 a b same (omega (arith, le)) ∙ first.opened;
  size_is = ap number (same_part e 1 8 a b same (omega (arith, le))) ∙ first.size_is;
  fits = long;
  payload = same_part e 9 (length p) a b same le ∙ first.payload;
}

-- what begins alike has the same records_of there
pub whole_keeps : (ps : List (List ℕ)) (e : ℕ) (a b : List ℕ) → take e a ≡ take e b → e < length a → Whole ps e b → Whole ps e a
whole_keeps [] e a b same long whole = whole
whole_keeps (p ∷ ps) e a b same long whole =
    let k = 9 + length p in
    let rest : take (e - k) (drop k a) ≡ take (e - k) (drop k b) = same_part e k (e - k) a b same (omega (arith, whole.1)) in (
      from_first a p (same_first e a b p same whole.1 (omega (arith, whole.1, long)) (to_first b p whole.0)),
      whole.1,
      whole_keeps ps (e - k) (drop k a) (drop k b) rest (omega (arith, whole.1, long, length-drop k a)) whole.2,
    )

pub whole_count : (ps : List (List ℕ)) (e : ℕ) (bytes : List ℕ) → Whole ps e bytes → length ps ≤ e
whole_count [] e bytes whole = omega arith
whole_count (p ∷ ps) e bytes whole = omega (arith, whole.1, whole_count ps (e - (9 + length p)) (drop (9 + length p) bytes) whole.2)

pub whole_push : (ps : List (List ℕ)) (e : ℕ) (bytes p : List ℕ) → Whole ps e bytes → first_record (drop e bytes) ≡ Some p → Whole (ps ++ p ∷ []) (e + (9 + length p)) bytes
whole_push [] e bytes p whole first =
    let here : first_record bytes ≡ Some p = subst (λ (n : ℕ). first_record (drop n bytes) ≡ Some p) whole first in
    (here, omega arith, omega (arith, whole))
whole_push (q ∷ qs) e bytes p whole first =
    let k = 9 + length q in
    let there : k + (e - k) ≡ e = omega (arith, whole.1) in
    let behind : first_record (drop (e - k) (drop k bytes)) ≡ Some p = ap first_record (drop-drop (e - k) k bytes ∙ ap (λ (n : ℕ). drop n bytes) there) ∙ first in
    let end_is : (e - k) + (9 + length p) ≡ (e + (9 + length p)) - k = omega (arith, whole.1) in (
      whole.0,
      omega (arith, whole.1),
      subst (λ (n : ℕ). Whole (qs ++ p ∷ []) n (drop k bytes)) end_is (whole_push qs (e - k) (drop k bytes) p whole.2 behind),
    )

none_within : (n : ℕ) (bytes : List ℕ) → first_record bytes ≡ None → records_within n bytes ≡ []
none_within zero bytes none = refl
none_within (suc n) bytes none = ap (λ (o : Option (List ℕ)). elim o as (λ _. List (List ℕ)) [ None ↦ [] | Some payload ↦ payload ∷ records_within n (drop (9 + length payload) bytes) ]) none

walk : (ps : List (List ℕ)) (e : ℕ) (bytes : List ℕ) (n m : ℕ) → m ≡ length ps + n → Whole ps e bytes → records_within m bytes ≡ ps ++ records_within n (drop e bytes)
walk [] e bytes n m is whole =
    let same : m ≡ n = omega (arith, is) in
    ap (λ (k : ℕ). records_within k bytes) same ∙ ap (λ (k : ℕ). records_within n (drop k bytes)) (sym whole)
walk (p ∷ ps) e bytes n zero is whole = absurd (omega (arith, is))
walk (p ∷ ps) e bytes n (suc m) is whole =
    let k = 9 + length p in
    let less : m ≡ length ps + n = omega (arith, is) in
    let there : k + (e - k) ≡ e = omega (arith, whole.1) in
    ap (λ (o : Option (List ℕ)). elim o as (λ _. List (List ℕ)) [ None ↦ [] | Some payload ↦ payload ∷ records_within m (drop (9 + length payload) bytes) ]) whole.0
    ∙ ap (λ (l : List (List ℕ)). p ∷ l) (walk ps (e - k) (drop k bytes) n m less whole.2)
    ∙ ap (λ (l : List ℕ). p ∷ (ps ++ records_within n l)) (drop-drop (e - k) k bytes ∙ ap (λ (i : ℕ). drop i bytes) there)

-- these are all the records_of
pub whole_all : (ps : List (List ℕ)) (e : ℕ) (bytes : List ℕ) → Whole ps e bytes → e ≤ length bytes → first_record (drop e bytes) ≡ None → records_of bytes ≡ ps
whole_all ps e bytes whole le none =
    let n = length bytes - length ps in
    let counts : length bytes ≡ length ps + n = omega (arith, whole_count ps e bytes whole, le) in
    walk ps e bytes n (length bytes) counts whole ∙ ap (λ (l : List (List ℕ)). ps ++ l) (none_within n (drop e bytes) none) ∙ append-nil ps

pub none_at : (e : ℕ) (bytes : List ℕ) → get_or bytes e 0 ≢ 1 → first_record (drop e bytes) ≡ None
none_at e bytes shut = none_closed (drop e bytes) (λ is. shut (sym (get_or-drop e bytes 0 0 ∙ ap (λ (i : ℕ). get_or bytes i 0) (omega arith)) ∙ is))

pub ends_records : (ps : List (List ℕ)) (e : ℕ) (bytes : List ℕ) → EndsAt ps e bytes → records_of bytes ≡ ps
ends_records ps e bytes ends = whole_all ps e bytes ends.whole (omega (arith, ends.inside)) (none_at e bytes ends.closed)

-- ---- counting

pub walked_none : (bytes : List ℕ) → IsWalked 0 0 bytes
walked_none bytes = record { records = []; counted = refl; whole = refl }

pub walked_few : (count e : ℕ) (bytes : List ℕ) → IsWalked count e bytes → count ≤ e
walked_few count e bytes walked = omega (arith, walked.counted, whole_count walked.records e bytes walked.whole)

-- one more
pub walked_more : (count e n : ℕ) (bytes p : List ℕ) → IsWalked count e bytes → first_record (drop e bytes) ≡ Some p → length p ≡ n → IsWalked (count + 1) (e + (9 + n)) bytes
walked_more count e n bytes p walked first long = record {
  records = walked.records ++ p ∷ [];
  counted = omega (arith, length-append walked.records (p ∷ []), walked.counted);
  whole = subst (λ (k : ℕ). Whole (walked.records ++ p ∷ []) (e + (9 + k)) bytes) long (whole_push walked.records e bytes p walked.whole first);
}

-- no more
pub walked_all : (count e : ℕ) (bytes : List ℕ) → IsWalked count e bytes → e ≤ length bytes → first_record (drop e bytes) ≡ None → count ≡ length (records_of bytes)
walked_all count e bytes walked le none = sym walked.counted ∙ ap length (sym (whole_all walked.records e bytes walked.whole le none))

pub whole_end : (ps : List (List ℕ)) (e : ℕ) (bytes : List ℕ) → Whole ps e bytes → e ≤ length bytes → first_record (drop e bytes) ≡ None → IsEnd e bytes
whole_end ps e bytes whole le none = record {
  whole = subst (λ (qs : List (List ℕ)). Whole qs e bytes) (sym (whole_all ps e bytes whole le none)) whole;
  inside = le;
  none = none;
}

pub walked_end : (count e : ℕ) (bytes : List ℕ) → IsWalked count e bytes → e ≤ length bytes → first_record (drop e bytes) ≡ None → IsEnd e bytes
walked_end count e bytes walked = whole_end walked.records e bytes walked.whole

-- the next is that record
pub walked_at : (i e : ℕ) (bytes p : List ℕ) → IsWalked i e bytes → first_record (drop e bytes) ≡ Some p → get_or (records_of bytes) i [] ≡ p
walked_at i e bytes p walked first =
    let long : 0 < length (drop e bytes) = omega (arith, (to_first (drop e bytes) p first).fits) in
    let n = length bytes - (length walked.records + 1) in
    let counts : length bytes ≡ length walked.records + suc n = omega (arith, whole_count walked.records e bytes walked.whole, length-drop e bytes, long) in
    let all : records_of bytes ≡ walked.records ++ records_within (suc n) (drop e bytes) = walk walked.records e bytes (suc n) (length bytes) counts walked.whole in
    let one : records_within (suc n) (drop e bytes) ≡ p ∷ records_within n (drop (9 + length p) (drop e bytes)) =
    ap (λ (o : Option (List ℕ)). elim o as (λ _. List (List ℕ)) [ None ↦ [] | Some payload ↦ payload ∷ records_within n (drop (9 + length payload) (drop e bytes)) ]) first in
    ap (λ (l : List (List ℕ)). get_or l i []) (all ∙ ap (λ (l : List (List ℕ)). walked.records ++ l) one)
    ∙ get_or_at walked.records p (records_within n (drop (9 + length p) (drop e bytes))) [] i walked.counted
