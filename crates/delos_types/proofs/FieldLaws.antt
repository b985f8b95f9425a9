-- A field that is read is spelled so, and what is spelled so is read again.
use Rattle.std.proofs.Common.{◌≡◌, ℕ, suc, ◌+◌, ◌^◌, ◌<◌, ◌≤◌, Bool, true, false, cond, ltb, eqb, List, [], ◌∷◌, ◌++◌, length, take, drop, Result, Ok, Err, refl, sym, ap, subst, ◌∙◌, append_assoc, arith, inl, inr}
use Rattle.std.proofs.lemmas.Bool.{ltb-false, le-ltb, eqb-true, cases_lt}
use Rattle.std.proofs.lemmas.List.{take_at, drop_at, take-append-drop, append-nil, length-append, length-take, get_or-drop, get_or-take, get_or_past, nil_from_length}
use Rattle.delos_types.specs.Numbers.{IsBytes, u16_bytes, u32_bytes, u64_bytes, u16_of, u32_of, u64_of, short_text, long_text}
use Rattle.delos_types.specs.Fields.{◌>>=◌, u8_field, u16_field, u32_field, u64_field, text_field, short_text_field, long_text_field, ended}
use Rattle.delos_types.proofs.NumberLaws.{length-u16_bytes, u16_of-u16_bytes, u16_bytes-u16_of, u16_of-below, length-u32_bytes, u32_of-u32_bytes, u32_bytes-u32_of, u32_of-below, length-u64_bytes, u64_of-u64_bytes, u64_bytes-u64_of, u64_of-below}

-- ---- steps of reading

-- the value of a step that did not fail
pub bind_ok : {A B E : Type 0} (r : Result A E) (f : A → Result B E) (y : B) → (r >>= f) ≡ Ok y → (x : A) × (r ≡ Ok x) × (f x ≡ Ok y)
bind_ok (Ok x) f y e = (x, refl, e)
bind_ok (Err b) f y e = absurd cc

-- a test that did not fail
pub guard_ok : {A E : Type 0} (t : Bool) (fault : E) (x y : A) → cond t (Err fault) (Ok x) ≡ Ok y → (t ≡ false) × (x ≡ y)
guard_ok true fault x y e = absurd cc
guard_ok false fault x y e = (refl, cc)

pub passed_ok : {A E : Type 0} (t : Bool) (fault : E) (r : Result A E) (y : A) → cond t (Err fault) r ≡ Ok y → (t ≡ false) × (r ≡ Ok y)
passed_ok true fault r y e = absurd cc
passed_ok false fault r y e = (refl, e)

-- a test that had to hold
pub wanted_ok : {A E : Type 0} (t : Bool) (fault : E) (x y : A) → cond t (Ok x) (Err fault) ≡ Ok y → (t ≡ true) × (x ≡ y)
wanted_ok true fault x y e = (refl, cc)
wanted_ok false fault x y e = absurd cc

abbrev done : {A E : Type 0} → A → Result A E
done x = Ok x

pub ok_is : {A E : Type 0} (x y : A) → done {E = E} x ≡ done y → x ≡ y
ok_is x y e = cc

-- ---- what a reader took from the front

IsBytes-drop : (n : ℕ) (bytes : List ℕ) → IsBytes bytes → IsBytes (drop n bytes)
IsBytes-drop n bytes h i = rw get_or-drop (h (n + i))

IsBytes-take : (n : ℕ) (bytes : List ℕ) → IsBytes bytes → IsBytes (take n bytes)
IsBytes-take n bytes h i =
    elim (cases_lt i n) [
      | inl lt ↦ rw (get_or-take n bytes i 0 lt) (h i)
      | inr le ↦ rw (get_or_past (take n bytes) i 0 (omega (arith, length-take n bytes))) (omega arith)
    ]

pub record Takes (bytes text rest : List ℕ) : Type 0 where
  pub parts : bytes ≡ text ++ rest
  pub rest_fits : IsBytes rest

pub Takes-then : (a x b y c : List ℕ) → Takes a x b → Takes b y c → Takes a (x ++ y) c
Takes-then a x b y c p q = record { parts = p.parts ∙ ap (λ (t : List ℕ). x ++ t) q.parts ∙ sym (append_assoc x y c); rest_fits = q.rest_fits }

pub takes_nothing : (bytes : List ℕ) → IsBytes bytes → Takes bytes [] bytes
takes_nothing bytes fits = record { parts = refl; rest_fits = fits }

pub takes_all : (bytes text rest : List ℕ) → Takes bytes text rest → rest ≡ [] → bytes ≡ text
takes_all bytes text rest taken none = taken.parts ∙ ap (λ (r : List ℕ). text ++ r) none ∙ append-nil text

-- ---- numbers

pub u8_takes : {E : Type 0} (short : E) (bytes : List ℕ) (n : ℕ) (rest : List ℕ) → IsBytes bytes → u8_field short bytes ≡ Ok (n, rest) → Takes bytes (n ∷ []) rest × (n < 256)
unfolding u8_field
u8_takes short [] n rest fits e = absurd cc
u8_takes {E = E} short (b ∷ bytes) n rest fits e =
    subst (λ (x : ℕ × List ℕ). Takes (b ∷ bytes) (x.0 ∷ []) x.1 × (x.0 < 256)) (ok_is {E = E} (b, bytes) (n, rest) e) (record { parts = refl; rest_fits = λ i. fits (suc i) }, fits 0)

pub u8_again : {E : Type 0} (short : E) (n : ℕ) (rest : List ℕ) → u8_field short (n ∷ rest) ≡ Ok (n, rest)
unfolding u8_field
u8_again short n rest = refl

pub u16_takes : {E : Type 0} (short : E) (bytes : List ℕ) (n : ℕ) (rest : List ℕ) → IsBytes bytes → u16_field short bytes ≡ Ok (n, rest) → Takes bytes (u16_bytes n) rest × (n < 2 ^ 16)
unfolding u16_field
u16_takes short bytes n rest fits e =
    let g = guard_ok (ltb (length bytes) 2) short (u16_of (take 2 bytes), drop 2 bytes) (n, rest) e in
    let long : 2 ≤ length bytes = ltb-false _ _ g.0 in
    let front = IsBytes-take 2 bytes fits in
    let text : u16_bytes (u16_of (take 2 bytes)) ≡ take 2 bytes = u16_bytes-u16_of (take 2 bytes) (omega (arith, length-take 2 bytes)) front in
    let taken : Takes bytes (u16_bytes (u16_of (take 2 bytes))) (drop 2 bytes) = record { parts = rw text (sym (take-append-drop 2 bytes)); rest_fits = IsBytes-drop 2 bytes fits } in
    subst (λ (x : ℕ × List ℕ). Takes bytes (u16_bytes x.0) x.1 × (x.0 < 2 ^ 16)) g.1 (taken, u16_of-below (take 2 bytes) front)

pub u16_again : {E : Type 0} (short : E) (n : ℕ) (rest : List ℕ) → n < 2 ^ 16 → u16_field short (u16_bytes n ++ rest) ≡ Ok (n, rest)
unfolding u16_field
u16_again short n rest lt =
    let long : ltb (length (u16_bytes n ++ rest)) 2 ≡ false = le-ltb _ _ (omega (arith, length-append (u16_bytes n) rest, length-u16_bytes n)) in
    rw (long, take_at (u16_bytes n) rest 2 (length-u16_bytes n), drop_at (u16_bytes n) rest 2 (length-u16_bytes n), u16_of-u16_bytes n lt) refl

pub u32_takes : {E : Type 0} (short : E) (bytes : List ℕ) (n : ℕ) (rest : List ℕ) → IsBytes bytes → u32_field short bytes ≡ Ok (n, rest) → Takes bytes (u32_bytes n) rest × (n < 2 ^ 32)
unfolding u32_field
u32_takes short bytes n rest fits e =
    let g = guard_ok (ltb (length bytes) 4) short (u32_of (take 4 bytes), drop 4 bytes) (n, rest) e in
    let long : 4 ≤ length bytes = ltb-false _ _ g.0 in
    let front = IsBytes-take 4 bytes fits in
    let text : u32_bytes (u32_of (take 4 bytes)) ≡ take 4 bytes = u32_bytes-u32_of (take 4 bytes) (omega (arith, length-take 4 bytes)) front in
    let taken : Takes bytes (u32_bytes (u32_of (take 4 bytes))) (drop 4 bytes) = record { parts = rw text (sym (take-append-drop 4 bytes)); rest_fits = IsBytes-drop 4 bytes fits } in
    subst (λ (x : ℕ × List ℕ). Takes bytes (u32_bytes x.0) x.1 × (x.0 < 2 ^ 32)) g.1 (taken, u32_of-below (take 4 bytes) front)

pub u32_again : {E : Type 0} (short : E) (n : ℕ) (rest : List ℕ) → n < 2 ^ 32 → u32_field short (u32_bytes n ++ rest) ≡ Ok (n, rest)
unfolding u32_field
u32_again short n rest lt =
    let long : ltb (length (u32_bytes n ++ rest)) 4 ≡ false = le-ltb _ _ (omega (arith, length-append (u32_bytes n) rest, length-u32_bytes n)) in
    rw (long, take_at (u32_bytes n) rest 4 (length-u32_bytes n), drop_at (u32_bytes n) rest 4 (length-u32_bytes n), u32_of-u32_bytes n lt) refl

pub u64_takes : {E : Type 0} (short : E) (bytes : List ℕ) (n : ℕ) (rest : List ℕ) → IsBytes bytes → u64_field short bytes ≡ Ok (n, rest) → Takes bytes (u64_bytes n) rest × (n < 2 ^ 64)
unfolding u64_field
u64_takes short bytes n rest fits e =
    let g = guard_ok (ltb (length bytes) 8) short (u64_of (take 8 bytes), drop 8 bytes) (n, rest) e in
    let long : 8 ≤ length bytes = ltb-false _ _ g.0 in
    let front = IsBytes-take 8 bytes fits in
    let text : u64_bytes (u64_of (take 8 bytes)) ≡ take 8 bytes = u64_bytes-u64_of (take 8 bytes) (omega (arith, length-take 8 bytes)) front in
    let taken : Takes bytes (u64_bytes (u64_of (take 8 bytes))) (drop 8 bytes) = record { parts = rw text (sym (take-append-drop 8 bytes)); rest_fits = IsBytes-drop 8 bytes fits } in
    subst (λ (x : ℕ × List ℕ). Takes bytes (u64_bytes x.0) x.1 × (x.0 < 2 ^ 64)) g.1 (taken, u64_of-below (take 8 bytes) front)

pub u64_again : {E : Type 0} (short : E) (n : ℕ) (rest : List ℕ) → n < 2 ^ 64 → u64_field short (u64_bytes n ++ rest) ≡ Ok (n, rest)
unfolding u64_field
u64_again short n rest lt =
    let long : ltb (length (u64_bytes n ++ rest)) 8 ≡ false = le-ltb _ _ (omega (arith, length-append (u64_bytes n) rest, length-u64_bytes n)) in
    rw (long, take_at (u64_bytes n) rest 8 (length-u64_bytes n), drop_at (u64_bytes n) rest 8 (length-u64_bytes n), u64_of-u64_bytes n lt) refl

-- ---- texts

pub text_takes : {E : Type 0} (short : E) (len : ℕ) (bytes text rest : List ℕ) → IsBytes bytes → text_field short len bytes ≡ Ok (text, rest) → Takes bytes text rest × (length text ≡ len)
unfolding text_field
text_takes short len bytes text rest fits e =
    let g = guard_ok (ltb (length bytes) len) short (take len bytes, drop len bytes) (text, rest) e in
    let long : len ≤ length bytes = ltb-false _ _ g.0 in
    let taken : Takes bytes (take len bytes) (drop len bytes) = record { parts = sym (take-append-drop len bytes); rest_fits = IsBytes-drop len bytes fits } in
    subst (λ (x : List ℕ × List ℕ). Takes bytes x.0 x.1 × (length x.0 ≡ len)) g.1 (taken, omega (arith, length-take len bytes))

pub text_again : {E : Type 0} (short : E) (text rest : List ℕ) → text_field short (length text) (text ++ rest) ≡ Ok (text, rest)
unfolding text_field
text_again short text rest =
    let long : ltb (length (text ++ rest)) (length text) ≡ false = le-ltb _ _ (omega (arith, length-append text rest)) in
    rw (long, take_at text rest (length text) refl, drop_at text rest (length text) refl) refl

-- a text behind two bytes of length

pub length-short_text : (text : List ℕ) → length (short_text text) ≡ 2 + length text
length-short_text text = omega (arith, length-append (u16_bytes (length text)) text, length-u16_bytes (length text))

pub short_takes : {E : Type 0} (short : E) (bytes : List ℕ) (t : List ℕ × List ℕ) → IsBytes bytes → short_text_field short bytes ≡ Ok t → Takes bytes (short_text t.0) t.1 × (length t.0 < 2 ^ 16)
unfolding short_text_field
short_takes short bytes t fits e =
    let n = bind_ok (u16_field short bytes) (λ len. text_field short len.0 len.1) t e in
    let first = u16_takes short bytes n.0.0 n.0.1 fits n.1 in
    let second = text_takes short n.0.0 n.0.1 t.0 t.1 first.0.rest_fits n.2 in
    let both = Takes-then bytes (u16_bytes n.0.0) n.0.1 t.0 t.1 first.0 second.0 in
    (subst (λ (k : ℕ). Takes bytes (u16_bytes k ++ t.0) t.1) (sym second.1) both, omega (arith, first.1, second.1))

pub short_again : {E : Type 0} (short : E) (text rest : List ℕ) → length text < 2 ^ 16 → short_text_field short (short_text text ++ rest) ≡ Ok (text, rest)
unfolding short_text_field
short_again short text rest lt =
    ap (short_text_field short) (append_assoc (u16_bytes (length text)) text rest) ∙ rw (u16_again short (length text) (text ++ rest) lt, text_again short text rest) refl

pub short_whole : {E : Type 0} (short : E) (text : List ℕ) → length text < 2 ^ 16 → short_text_field short (short_text text) ≡ Ok (text, [])
short_whole short text lt = ap (short_text_field short) (sym (append-nil (short_text text))) ∙ short_again short text [] lt

-- a text behind four bytes of length

pub length-long_text : (text : List ℕ) → length (long_text text) ≡ 4 + length text
length-long_text text = omega (arith, length-append (u32_bytes (length text)) text, length-u32_bytes (length text))

pub long_takes : {E : Type 0} (short : E) (bytes : List ℕ) (t : List ℕ × List ℕ) → IsBytes bytes → long_text_field short bytes ≡ Ok t → Takes bytes (long_text t.0) t.1 × (length t.0 < 2 ^ 32)
unfolding long_text_field
long_takes short bytes t fits e =
    let n = bind_ok (u32_field short bytes) (λ len. text_field short len.0 len.1) t e in
    let first = u32_takes short bytes n.0.0 n.0.1 fits n.1 in
    let second = text_takes short n.0.0 n.0.1 t.0 t.1 first.0.rest_fits n.2 in
    let both = Takes-then bytes (u32_bytes n.0.0) n.0.1 t.0 t.1 first.0 second.0 in
    (subst (λ (k : ℕ). Takes bytes (u32_bytes k ++ t.0) t.1) (sym second.1) both, omega (arith, first.1, second.1))

pub long_again : {E : Type 0} (short : E) (text rest : List ℕ) → length text < 2 ^ 32 → long_text_field short (long_text text ++ rest) ≡ Ok (text, rest)
unfolding long_text_field
long_again short text rest lt =
    ap (long_text_field short) (append_assoc (u32_bytes (length text)) text rest) ∙ rw (u32_again short (length text) (text ++ rest) lt, text_again short text rest) refl

pub long_whole : {E : Type 0} (short : E) (text : List ℕ) → length text < 2 ^ 32 → long_text_field short (long_text text) ≡ Ok (text, [])
long_whole short text lt = ap (long_text_field short) (sym (append-nil (long_text text))) ∙ long_again short text [] lt

-- ---- the end

pub ended_ok : {A E : Type 0} (long : E) (rest : List ℕ) (x y : A) → ended long rest x ≡ Ok y → (rest ≡ []) × (x ≡ y)
unfolding ended
ended_ok long rest x y e =
    let w = wanted_ok (eqb (length rest) 0) long x y e in
    (nil_from_length rest (eqb-true _ _ w.0), w.1)

pub ended_again : {A E : Type 0} (long : E) (x : A) → ended long [] x ≡ Ok x
unfolding ended
ended_again long x = refl
