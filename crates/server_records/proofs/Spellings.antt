-- What is read is spelled so, and what is spelled so is read.
use Rattle.std.proofs.Common.{◌≡◌, ℕ, zero, suc, ◌+◌, ◌^◌, ◌<◌, ◌≤◌, Bool, true, false, cond, ◌&&◌, ltb, leb, eqb, List, [], ◌∷◌, ◌++◌, length, take, drop, Option, Some, None, Result, Ok, Err, refl, sym, ap, subst, ◌∙◌, arith}
use Rattle.std.specs.Prelude.{option_map, IfOk, IfSome}
use Rattle.std.specs.Result.{result_ok}
use Rattle.std.specs.Option.{ForSome}
use Rattle.std.proofs.lemmas.Bool.{ltb-false, ltb-true, le-ltb, leb-true, eqb-true}
use Rattle.std.proofs.lemmas.Bool.Decides.{nat_tests}
use Rattle.std.proofs.Math.Seq.{take-append_seam, drop-append_seam}
use Rattle.std.proofs.lemmas.List.{take-append-drop, length-take-le, length-append, append-nil, get_or-drop, nil_from_length}
use Rattle.delos_types.specs.Numbers.{IsBytes, u64_bytes, u64_of}
use Rattle.delos_types.proofs.NumberLaws.{length-u64_bytes, u64_of-u64_bytes, u64_bytes-u64_of}
use Rattle.delos_types.specs.declared.entry.Entry.{Entry}
use Rattle.delos_types.specs.Spelling.{IsSpellable}
use Rattle.entry_codec.specs.declared.fault.BadEntry.{BadEntry}
use Rattle.entry_codec.specs.Format.{entry_bytes}
use Rattle.entry_codec.specs.Reading.{entry_read}
use Rattle.entry_codec.proofs.Spellings.{entry_takes, entry_again}
use Rattle.server_records.specs.declared.record.Record.{Record}
use Rattle.server_records.specs.declared.record.Record.TheVariants.{Stored, Sealed, Trimmed, Compacted}
use Rattle.server_records.specs.Format.{seal_bytes, record_bytes, IsSpellableRecord, SpellsRecord}
use Rattle.server_records.specs.Reading.{split_position, stored_by, sealed_by, last_position, trimmed_by, flagged, seal_by, compacted_by, record_with, record_of}

-- ---- what is spelled is read

split_again : (p : ℕ) (rest : List ℕ) → p < 2 ^ 64 → split_position (u64_bytes p ++ rest) ≡ Some (p, rest)
split_again p rest small =
    let long : 8 ≤ length (u64_bytes p ++ rest) = omega (arith, length-append (u64_bytes p) rest, length-u64_bytes p) in
    let test : ltb (length (u64_bytes p ++ rest)) 8 ≡ false = le-ltb _ _ long in
    let front : take 8 (u64_bytes p ++ rest) ≡ u64_bytes p = ap (λ n. take n (u64_bytes p ++ rest)) (sym (length-u64_bytes p)) ∙ take-append_seam (u64_bytes p) rest in
    let back : drop 8 (u64_bytes p ++ rest) ≡ rest = ap (λ n. drop n (u64_bytes p ++ rest)) (sym (length-u64_bytes p)) ∙ drop-append_seam (u64_bytes p) rest in
    let value : u64_of (take 8 (u64_bytes p ++ rest)) ≡ p = ap u64_of front ∙ u64_of-u64_bytes p small in
    ap (λ t. cond t None (Some (u64_of (take 8 (u64_bytes p ++ rest)), drop 8 (u64_bytes p ++ rest)))) test
    ∙ ap (λ n. Some (n, drop 8 (u64_bytes p ++ rest))) value
    ∙ ap (λ (t : List ℕ). Some (p, t)) back

split_again_alone : (p : ℕ) → p < 2 ^ 64 → split_position (u64_bytes p) ≡ Some (p, [])
split_again_alone p small = ap split_position (sym (append-nil (u64_bytes p))) ∙ split_again p [] small

stored_again : (p : ℕ) (e : Entry) → p < 2 ^ 32 → IsSpellable e → stored_by (Some (p, entry_bytes e)) ≡ Some (Stored p e)
stored_again p e small spellable =
    let below : ltb p 4294967296 ≡ true = grind (arith, nat_tests) in
    let read : entry_read (entry_bytes e) ≡ Ok e = entry_again (entry_bytes e) e (refl, spellable) in
    ap (λ t. cond t (option_map (Stored p) (result_ok (entry_read (entry_bytes e)))) None) below
    ∙ ap (λ (r : Result Entry BadEntry). option_map (Stored p) (result_ok r)) read

last_again : (n : ℕ) → n ≤ 2 ^ 32 → last_position (Some (n, [])) ≡ Some n
last_again n small =
    let below : leb n 4294967296 ≡ true = grind (arith, nat_tests) in
    ap (λ t. cond (t && true) (Some n) None) below

seal_again : (o : Option ℕ) → ForSome o (λ n. n ≤ 2 ^ 32) → seal_by (seal_bytes o) ≡ Some o
seal_again None small = ap (λ (split : Option (ℕ × List ℕ)). flagged 0 (last_position split)) (split_again_alone 0 (omega arith))
seal_again (Some n) small =
    let below : n ≤ 2 ^ 32 = small n refl in
    ap (λ (split : Option (ℕ × List ℕ)). flagged 1 (last_position split)) (split_again_alone n (omega (arith, below))) ∙ ap (flagged 1) (last_again n below)

compacted_again : (base : ℕ) (o : Option ℕ) → base ≤ 2 ^ 32 → ForSome o (λ n. n ≤ 2 ^ 32) → compacted_by (Some (base, seal_bytes o)) ≡ Some (Compacted base o)
compacted_again base o small sealed =
    let below : leb base 4294967296 ≡ true = grind (arith, nat_tests) in
    ap (λ t. cond t (option_map (Compacted base) (seal_by (seal_bytes o))) None) below ∙ ap (option_map (Compacted base)) (seal_again o sealed)

again : (r : Record) → IsSpellableRecord r → record_of (record_bytes r) ≡ Some r
unfolding record_of
again (Stored p e) s = ap stored_by (split_again p (entry_bytes e) (omega (arith, s.0))) ∙ stored_again p e s.0 s.1
again Sealed s = refl
again (Trimmed n) s = ap trimmed_by (split_again_alone n (omega (arith, s))) ∙ ap (option_map Trimmed) (last_again n s)
again (Compacted base o) s = ap compacted_by (split_again base (seal_bytes o) (omega (arith, s.0))) ∙ compacted_again base o s.0 s.1

pub record_again : (bytes : List ℕ) (r : Record) → SpellsRecord bytes r → record_of bytes ≡ Some r
record_again bytes r s = ap record_of s.0 ∙ again r s.1

-- ---- what is read is spelled so

record IsFront (bytes : List ℕ) (p : ℕ × List ℕ) : Type 0 where
  pub parts : bytes ≡ u64_bytes p.0 ++ p.1
  pub fits : IsBytes p.1

bytes_behind : (n : ℕ) (bytes : List ℕ) → IsBytes bytes → IsBytes (drop n bytes)
bytes_behind n bytes h i = rw get_or-drop (h (n + i))

bytes_of_front : (n : ℕ) (bytes : List ℕ) → IsBytes bytes → IsBytes (take n bytes)
bytes_of_front zero bytes h i = omega arith
bytes_of_front (suc n) [] h i = omega arith
bytes_of_front (suc n) (b ∷ bs) h zero = h 0
bytes_of_front (suc n) (b ∷ bs) h (suc i) = bytes_of_front n bs (λ j. h (suc j)) i

front_of_eight : (bytes : List ℕ) → IsBytes bytes → 8 ≤ length bytes → IsFront bytes (u64_of (take 8 bytes), drop 8 bytes)
front_of_eight bytes fits long =
    let whole : u64_bytes (u64_of (take 8 bytes)) ≡ take 8 bytes = u64_bytes-u64_of (take 8 bytes) (length-take-le 8 bytes long) (bytes_of_front 8 bytes fits) in
    record { parts = sym (take-append-drop 8 bytes) ∙ ap (λ (t : List ℕ). t ++ drop 8 bytes) (sym whole); fits = bytes_behind 8 bytes fits }

split_takes : (bytes : List ℕ) (p : ℕ × List ℕ) → IsBytes bytes → split_position bytes ≡ Some p → IsFront bytes p
split_takes bytes p fits =
    elim (ltb (length bytes) 8) as (λ t. ltb (length bytes) 8 ≡ t → cond t None (Some (u64_of (take 8 bytes), drop 8 bytes)) ≡ Some p → IsFront bytes p) [
      | true ↦ λ test e. absurd (cc)
      | false ↦ λ test e. let same : (u64_of (take 8 bytes), drop 8 bytes) ≡ p = cc in subst (λ (x : ℕ × List ℕ). IsFront bytes x) same (front_of_eight bytes fits (ltb-false _ _ test))
    ] refl

-- what a read of an entry gave is the record's
stored_from : (p : ℕ) (rest : List ℕ) (read : Result Entry BadEntry) (r : Record) → entry_read rest ≡ read → IsBytes rest → p < 2 ^ 32 → option_map (Stored p) (result_ok read) ≡ Some r → SpellsRecord (1 ∷ (u64_bytes p ++ rest)) r
stored_from p rest (Ok e) r is fits small given =
    let spelled = entry_takes rest e fits is in
    let same : Stored p e ≡ r = cc in
    subst (λ (x : Record). SpellsRecord (1 ∷ (u64_bytes p ++ rest)) x) same (ap (λ (t : List ℕ). 1 ∷ (u64_bytes p ++ t)) spelled.0, (small, spelled.1))
stored_from p rest (Err b) r is fits small given = absurd (cc)

stored_takes : (bytes : List ℕ) (o : Option (ℕ × List ℕ)) (r : Record) → IsBytes bytes → split_position bytes ≡ o → stored_by o ≡ Some r → SpellsRecord (1 ∷ bytes) r
stored_takes bytes None r fits is given = absurd (cc)
stored_takes bytes (Some p) r fits is given =
    let front = split_takes bytes p fits is in
    let spelled : SpellsRecord (1 ∷ (u64_bytes p.0 ++ p.1)) r =
    elim (ltb p.0 4294967296) as (λ t. ltb p.0 4294967296 ≡ t → cond t (option_map (Stored p.0) (result_ok (entry_read p.1))) None ≡ Some r → SpellsRecord (1 ∷ (u64_bytes p.0 ++ p.1)) r) [
      | true ↦ λ test e. let below : p.0 < 4294967296 = ltb-true _ _ test in stored_from p.0 p.1 (entry_read p.1) r refl front.fits (omega (arith, below)) e
      | false ↦ λ test e. absurd (cc)
    ] refl given in
    subst (λ (t : List ℕ). SpellsRecord (1 ∷ t) r) (sym front.parts) spelled

sealed_takes : (bytes : List ℕ) (r : Record) → sealed_by bytes ≡ Some r → SpellsRecord (2 ∷ bytes) r
sealed_takes [] r given = let same : Sealed ≡ r = cc in subst (λ (x : Record). SpellsRecord (2 ∷ []) x) same (refl, tt)
sealed_takes (b ∷ bs) r given = absurd (cc)

left_true : (a b : Bool) → (a && b) ≡ true → a ≡ true
left_true true b e = refl
left_true false b e = e

right_true : (a b : Bool) → (a && b) ≡ true → b ≡ true
right_true true b e = e
right_true false b e = absurd (cc)

-- the bytes are a number's, at most 2^32
record IsLast (bytes : List ℕ) (n : ℕ) : Type 0 where
  pub spelled : bytes ≡ u64_bytes n
  pub small : n ≤ 2 ^ 32

last_takes : (bytes : List ℕ) (o : Option (ℕ × List ℕ)) (n : ℕ) → IsBytes bytes → split_position bytes ≡ o → last_position o ≡ Some n → IsLast bytes n
last_takes bytes None n fits is given = absurd (cc)
last_takes bytes (Some p) n fits is given =
    let front = split_takes bytes p fits is in
    let test = leb p.0 4294967296 && eqb (length p.1) 0 in
    elim test as (λ t. test ≡ t → cond t (Some p.0) None ≡ Some n → IsLast bytes n) [
      | true ↦ λ holds e.
          let below : p.0 ≤ 4294967296 = leb-true _ _ (left_true _ _ holds) in
          let none : p.1 ≡ [] = nil_from_length p.1 (eqb-true _ _ (right_true _ _ holds)) in
          let same : p.0 ≡ n = cc in
          subst (λ (x : ℕ). IsLast bytes x) same
          (record { spelled = front.parts ∙ ap (λ (t : List ℕ). u64_bytes p.0 ++ t) none ∙ append-nil (u64_bytes p.0); small = omega (arith, below) })
      | false ↦ λ holds e. absurd (cc)
    ] refl given

trimmed_takes : (bytes : List ℕ) (o : Option ℕ) (r : Record) → IsBytes bytes → last_position (split_position bytes) ≡ o → option_map Trimmed o ≡ Some r → SpellsRecord (3 ∷ bytes) r
trimmed_takes bytes None r fits is given = absurd (cc)
trimmed_takes bytes (Some n) r fits is given =
    let last = last_takes bytes (split_position bytes) n fits refl is in
    let same : Trimmed n ≡ r = cc in
    subst (λ (x : Record). SpellsRecord (3 ∷ bytes) x) same (ap (λ (t : List ℕ). 3 ∷ t) last.spelled, last.small)

-- the bytes say at which length a server is sealed, if it is
record SaysSeal (bytes : List ℕ) (sealed : Option ℕ) : Type 0 where
  pub spelled : bytes ≡ seal_bytes sealed
  pub small : ForSome sealed (λ n. n ≤ 2 ^ 32)

flagged_takes : (flag : ℕ) (bytes : List ℕ) (o : Option ℕ) (sealed : Option ℕ) → IsBytes bytes → last_position (split_position bytes) ≡ o → flagged flag o ≡ Some sealed → SaysSeal (flag ∷ bytes) sealed
flagged_takes flag bytes None sealed fits is given = absurd (cc)
flagged_takes flag bytes (Some n) sealed fits is given =
    let last = last_takes bytes (split_position bytes) n fits refl is in
    let whole : (f : ℕ) → flag ≡ f → flag ∷ bytes ≡ f ∷ u64_bytes n = λ f e. ap (λ (x : ℕ). x ∷ bytes) e ∙ ap (λ (t : List ℕ). f ∷ t) last.spelled in
    elim (eqb flag 1) as (λ t. eqb flag 1 ≡ t → cond t (Some (Some n)) (cond (eqb flag 0 && eqb n 0) (Some None) None) ≡ Some sealed → SaysSeal (flag ∷ bytes) sealed) [
      | true ↦ λ one e.
          let same : Some n ≡ sealed = cc in
          subst (λ (x : Option ℕ). SaysSeal (flag ∷ bytes) x) same (record { spelled = whole 1 (eqb-true _ _ one); small = λ x at. let there : n ≡ x = cc in omega (arith, there, last.small) })
      | false ↦ λ one.
          elim (eqb flag 0 && eqb n 0) as (λ t. (eqb flag 0 && eqb n 0) ≡ t → cond t (Some None) None ≡ Some sealed → SaysSeal (flag ∷ bytes) sealed) [
            | true ↦ λ zeros e.
                let none : Option ℕ = None in
                let same : none ≡ sealed = cc in
                let nought : n ≡ 0 = eqb-true _ _ (right_true _ _ zeros) in
                subst (λ (x : Option ℕ). SaysSeal (flag ∷ bytes) x) same
                (record { spelled = whole 0 (eqb-true _ _ (left_true _ _ zeros)) ∙ ap (λ (k : ℕ). 0 ∷ u64_bytes k) nought; small = λ x at. absurd (cc) })
            | false ↦ λ zeros e. absurd (cc)
          ] refl
    ] refl given

seal_takes : (bytes : List ℕ) (sealed : Option ℕ) → IsBytes bytes → seal_by bytes ≡ Some sealed → SaysSeal bytes sealed
seal_takes [] sealed fits given = absurd (cc)
seal_takes (flag ∷ rest) sealed fits given = flagged_takes flag rest (last_position (split_position rest)) sealed (λ i. fits (suc i)) refl given

compacted_from : (base : ℕ) (rest : List ℕ) (o : Option (Option ℕ)) (r : Record) → seal_by rest ≡ o → IsBytes rest → base ≤ 2 ^ 32 → option_map (Compacted base) o ≡ Some r → SpellsRecord (4 ∷ (u64_bytes base ++ rest)) r
compacted_from base rest None r is fits small given = absurd (cc)
compacted_from base rest (Some sealed) r is fits small given =
    let seal = seal_takes rest sealed fits is in
    let same : Compacted base sealed ≡ r = cc in
    subst (λ (x : Record). SpellsRecord (4 ∷ (u64_bytes base ++ rest)) x) same (ap (λ (t : List ℕ). 4 ∷ (u64_bytes base ++ t)) seal.spelled, (small, seal.small))

compacted_takes : (bytes : List ℕ) (o : Option (ℕ × List ℕ)) (r : Record) → IsBytes bytes → split_position bytes ≡ o → compacted_by o ≡ Some r → SpellsRecord (4 ∷ bytes) r
compacted_takes bytes None r fits is given = absurd (cc)
compacted_takes bytes (Some p) r fits is given =
    let front = split_takes bytes p fits is in
    let spelled : SpellsRecord (4 ∷ (u64_bytes p.0 ++ p.1)) r =
    elim (leb p.0 4294967296) as (λ t. leb p.0 4294967296 ≡ t → cond t (option_map (Compacted p.0) (seal_by p.1)) None ≡ Some r → SpellsRecord (4 ∷ (u64_bytes p.0 ++ p.1)) r) [
      | true ↦ λ test e. let below : p.0 ≤ 4294967296 = leb-true _ _ test in compacted_from p.0 p.1 (seal_by p.1) r refl front.fits (omega (arith, below)) e
      | false ↦ λ test e. absurd (cc)
    ] refl given in
    subst (λ (t : List ℕ). SpellsRecord (4 ∷ t) r) (sym front.parts) spelled

-- a tag, and what stands behind it
tagged : (tag : ℕ) (bytes : List ℕ) (r : Record) → IsBytes bytes → record_with tag bytes ≡ Some r → SpellsRecord (tag ∷ bytes) r
tagged tag bytes r fits =
    let Goal : ℕ → Type 0 = λ n. SpellsRecord (n ∷ bytes) r in
    elim (eqb tag 1) as (λ t. eqb tag 1 ≡ t → cond t (stored_by (split_position bytes)) (cond (eqb tag 2) (sealed_by bytes) (cond (eqb tag 3) (trimmed_by (split_position bytes)) (cond (eqb tag 4) (compacted_by (split_position bytes)) None))) ≡ Some r → Goal tag) [
      | true ↦ λ one e. subst Goal (sym (eqb-true _ _ one)) (stored_takes bytes (split_position bytes) r fits refl e)
      | false ↦ λ one.
          elim (eqb tag 2) as (λ t. eqb tag 2 ≡ t → cond t (sealed_by bytes) (cond (eqb tag 3) (trimmed_by (split_position bytes)) (cond (eqb tag 4) (compacted_by (split_position bytes)) None)) ≡ Some r → Goal tag) [
            | true ↦ λ two e. subst Goal (sym (eqb-true _ _ two)) (sealed_takes bytes r e)
            | false ↦ λ two.
                elim (eqb tag 3) as (λ t. eqb tag 3 ≡ t → cond t (trimmed_by (split_position bytes)) (cond (eqb tag 4) (compacted_by (split_position bytes)) None) ≡ Some r → Goal tag) [
                  | true ↦ λ three e. subst Goal (sym (eqb-true _ _ three)) (trimmed_takes bytes (last_position (split_position bytes)) r fits refl e)
                  | false ↦ λ three.
                      elim (eqb tag 4) as (λ t. eqb tag 4 ≡ t → cond t (compacted_by (split_position bytes)) None ≡ Some r → Goal tag) [
                        | true ↦ λ four e. subst Goal (sym (eqb-true _ _ four)) (compacted_takes bytes (split_position bytes) r fits refl e)
                        | false ↦ λ four e. absurd (cc)
                      ] refl
                ] refl
          ] refl
    ] refl

pub record_takes : (bytes : List ℕ) (r : Record) → IsBytes bytes → record_of bytes ≡ Some r → SpellsRecord bytes r
unfolding record_of
record_takes [] r fits given = absurd (cc)
record_takes (tag ∷ bytes) r fits given = tagged tag bytes r (λ i. fits (suc i)) given

-- ---- what a function returned

pub found_by : {E : Type 0} (bytes : List ℕ) (read : Result (Option Record) E) → IsBytes bytes → IfOk read (λ o. o ≡ record_of bytes) → IfOk read (λ o. IfSome o (SpellsRecord bytes))
found_by bytes (Ok (Some r)) fits given = record_takes bytes r fits (sym given)
found_by bytes (Ok None) fits given = tt
found_by bytes (Err e) fits given = tt

pub only_by : {E : Type 0} (bytes : List ℕ) (r : Record) (read : Result (Option Record) E) → SpellsRecord bytes r → IfOk read (λ o. o ≡ record_of bytes) → IfOk read (λ o. o ≡ Some r)
only_by bytes r (Ok o) spelled given = given ∙ record_again bytes r spelled
only_by bytes r (Err e) spelled given = tt
