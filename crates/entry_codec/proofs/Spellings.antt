-- What is read is spelled so, and what is spelled so is read.
use Rattle.std.proofs.Common.{◌≡◌, ℕ, ◌-◌, ◌^◌, ◌<◌, ◌≤◌, false, List, [], ◌∷◌, ◌++◌, length, Result, Ok, Err, ltb, refl, sym, ap, subst, ◌∙◌, arith}
use Rattle.std.specs.Result.{IfOk}
use Rattle.std.proofs.lemmas.Bool.{ltb-false, le-ltb}
use Rattle.std.proofs.lemmas.List.Elements.{All-from_recursion, recursion_from_All}
use Rattle.delos_types.specs.Numbers.{IsBytes, short_text, long_text}
use Rattle.delos_types.specs.Spelling.{IsSpellable, IsSpellableItem, spelled_length}
use Rattle.delos_types.specs.declared.item.Item.{Item}
use Rattle.delos_types.specs.declared.entry.Entry.{Entry}
use Rattle.entry_codec.specs.declared.fault.DecodeError.{DecodeError}
use Rattle.entry_codec.specs.declared.fault.Rule.TheVariants.{Size, Long}
use Rattle.entry_codec.specs.Format.{headers_bytes, item_bytes, entry_bytes, SpellsItem, SpellsEntry}
use Rattle.entry_codec.specs.Reading.{Gives, fault, short, version_field, origin_in, headers_field, item_fields, item_read, entry_fields, entry_read}
use Rattle.delos_types.specs.Fields.{◌>>=◌, u8_field, short_text_field, long_text_field, ended}
use Rattle.delos_types.proofs.FieldLaws.{bind_ok, passed_ok, ok_is, Takes-then, takes_all, u8_takes, u8_again, short_takes, short_whole, long_takes, long_whole, ended_ok, ended_again}
use Rattle.entry_codec.proofs.FieldLaws.{version_takes, version_again, origin_takes, origin_again}
use Rattle.entry_codec.proofs.Headers.{bodies-entry}
use Rattle.entry_codec.proofs.HeaderLaws.{headers_takes, headers_again, length-entry_bytes}

-- ---- items

pub item_takes : (bytes : List ℕ) (i : Item) → IsBytes bytes → item_read bytes ≡ Ok i → SpellsItem bytes i
unfolding item_read item_fields
item_takes bytes i fits e =
    let size = length bytes in
    let a = bind_ok (headers_field size bytes) (λ headers. short_text_field (short size) headers.1 >>= λ payload. ended (fault (size - length payload.1) Long) payload.1 (record { headers = headers.0; payload = payload.0 })) i e in
    let b = bind_ok (short_text_field (short size) a.0.1) (λ payload. ended (fault (size - length payload.1) Long) payload.1 (record { headers = a.0.0; payload = payload.0 })) i a.2 in
    let end = ended_ok (fault (size - length b.0.1) Long) b.0.1 (record { headers = a.0.0; payload = b.0.0 }) i b.2 in
    let headers = headers_takes size bytes a.0 fits a.1 in
    let payload = short_takes (short size) a.0.1 b.0 headers.0.rest_fits b.1 in
    let whole = Takes-then bytes (headers_bytes a.0.0) a.0.1 (short_text b.0.0) b.0.1 headers.0 payload.0 in
    subst (λ (j : Item). SpellsItem bytes j) {x = record { headers = a.0.0; payload = b.0.0 }} end.1 (takes_all bytes (headers_bytes a.0.0 ++ short_text b.0.0) b.0.1 whole end.0, record { rising = headers.1; bodies = All-from_recursion (λ h. length h.body < 2 ^ 16) a.0.0 headers.2; payload = payload.1 })

item_again_of : (size : ℕ) (i : Item) → IsSpellableItem i → item_fields size (item_bytes i) ≡ Ok i
unfolding item_fields
item_again_of size i s =
    rw (headers_again size i.headers (short_text i.payload) s.rising (recursion_from_All (λ h. length h.body < 2 ^ 16) i.headers s.bodies), short_whole (short size) i.payload s.payload) (ended_again (fault (size - 0) Long) i)

pub item_again : (bytes : List ℕ) (i : Item) → SpellsItem bytes i → item_read bytes ≡ Ok i
unfolding item_read
item_again bytes i s = ap (item_fields (length bytes)) s.0 ∙ item_again_of (length bytes) i s.1

pub item_found : (bytes : List ℕ) (r : Result Item DecodeError) → IsBytes bytes → Gives r (item_read bytes) → IfOk r (SpellsItem bytes)
item_found bytes (Ok i) fits given = item_takes bytes i fits given
item_found bytes (Err e) fits given = tt

-- ---- entries

entry_takes_of : (size : ℕ) (bytes : List ℕ) (e : Entry) → IsBytes bytes → entry_fields size bytes ≡ Ok e → (bytes ≡ entry_bytes e) × (spelled_length e ≤ 16384 → IsSpellable e)
unfolding entry_fields
entry_takes_of size bytes e fits read =
    let v = bind_ok (version_field size bytes) (λ version. u8_field (short size) version.1 >>= λ number. origin_in number.0 >>= λ origin. headers_field size number.1 >>= λ headers. long_text_field (short size) headers.1 >>= λ payload. ended (fault (size - length payload.1) Long) payload.1 (record { origin = origin; headers = headers.0; payload = payload.0 })) e read in
    let n = bind_ok (u8_field (short size) v.0.1) (λ number. origin_in number.0 >>= λ origin. headers_field size number.1 >>= λ headers. long_text_field (short size) headers.1 >>= λ payload. ended (fault (size - length payload.1) Long) payload.1 (record { origin = origin; headers = headers.0; payload = payload.0 })) e v.2 in
    let o = bind_ok (origin_in n.0.0) (λ origin. headers_field size n.0.1 >>= λ headers. long_text_field (short size) headers.1 >>= λ payload. ended (fault (size - length payload.1) Long) payload.1 (record { origin = origin; headers = headers.0; payload = payload.0 })) e n.2 in
    let a = bind_ok (headers_field size n.0.1) (λ headers. long_text_field (short size) headers.1 >>= λ payload. ended (fault (size - length payload.1) Long) payload.1 (record { origin = o.0; headers = headers.0; payload = payload.0 })) e o.2 in
    let b = bind_ok (long_text_field (short size) a.0.1) (λ payload. ended (fault (size - length payload.1) Long) payload.1 (record { origin = o.0; headers = a.0.0; payload = payload.0 })) e a.2 in
    let end = ended_ok (fault (size - length b.0.1) Long) b.0.1 (record { origin = o.0; headers = a.0.0; payload = b.0.0 }) e b.2 in
    let version = version_takes size bytes v.0.0 v.0.1 fits v.1 in
    let number = u8_takes (short size) v.0.1 n.0.0 n.0.1 version.rest_fits n.1 in
    let origin = origin_takes n.0.0 o.0 o.1 in
    let headers = headers_takes size n.0.1 a.0 number.0.rest_fits a.1 in
    let payload = long_takes (short size) a.0.1 b.0 headers.0.rest_fits b.1 in
    let later = Takes-then n.0.1 (headers_bytes a.0.0) a.0.1 (long_text b.0.0) b.0.1 headers.0 payload.0 in
    let named = Takes-then v.0.1 (n.0.0 ∷ []) n.0.1 (headers_bytes a.0.0 ++ long_text b.0.0) b.0.1 number.0 later in
    let whole = Takes-then bytes (1 ∷ []) v.0.1 (n.0.0 ∷ (headers_bytes a.0.0 ++ long_text b.0.0)) b.0.1 version named in
    let spelled : bytes ≡ 1 ∷ n.0.0 ∷ (headers_bytes a.0.0 ++ long_text b.0.0) = takes_all bytes (1 ∷ n.0.0 ∷ (headers_bytes a.0.0 ++ long_text b.0.0)) b.0.1 whole end.0 in
    subst (λ (f : Entry). (bytes ≡ entry_bytes f) × (spelled_length f ≤ 16384 → IsSpellable f)) {x = record { origin = o.0; headers = a.0.0; payload = b.0.0 }} end.1
    (subst (λ (k : ℕ). bytes ≡ 1 ∷ k ∷ (headers_bytes a.0.0 ++ long_text b.0.0)) {x = n.0.0} origin.0 spelled, λ small. record { origin = (origin.1, origin.2); rising = headers.1; small = small })

pub entry_takes : (bytes : List ℕ) (e : Entry) → IsBytes bytes → entry_read bytes ≡ Ok e → SpellsEntry bytes e
unfolding entry_read
entry_takes bytes e fits read =
    let p = passed_ok (ltb 16384 (length bytes)) (fault 16384 Size) (entry_fields (length bytes) bytes) e read in
    let few : length bytes ≤ 16384 = ltb-false _ _ p.0 in
    let t = entry_takes_of (length bytes) bytes e fits p.1 in
    (t.0, t.1 (omega (arith, few, ap length t.0, length-entry_bytes e)))

entry_again_of : (size : ℕ) (e : Entry) → IsSpellable e → entry_fields size (entry_bytes e) ≡ Ok e
unfolding entry_fields
entry_again_of size e s =
    rw (version_again size (e.origin ∷ (headers_bytes e.headers ++ long_text e.payload)), u8_again (short size) e.origin (headers_bytes e.headers ++ long_text e.payload), origin_again e.origin s.origin.0 s.origin.1, headers_again size e.headers (long_text e.payload) s.rising (recursion_from_All (λ h. length h.body < 2 ^ 16) e.headers (bodies-entry e s)), long_whole (short size) e.payload (omega (arith, s.small))) (ended_again (fault (size - 0) Long) e)

pub entry_again : (bytes : List ℕ) (e : Entry) → SpellsEntry bytes e → entry_read bytes ≡ Ok e
unfolding entry_read
entry_again bytes e s =
    let few : ltb 16384 (length bytes) ≡ false = le-ltb _ _ (omega (arith, ap length s.0, length-entry_bytes e, s.1.small)) in
    rw few (ap (entry_fields (length bytes)) s.0 ∙ entry_again_of (length bytes) e s.1)

pub entry_found : (bytes : List ℕ) (r : Result Entry DecodeError) → IsBytes bytes → Gives r (entry_read bytes) → IfOk r (SpellsEntry bytes)
entry_found bytes (Ok e) fits given = entry_takes bytes e fits given
entry_found bytes (Err e) fits given = tt

-- ---- no two values are spelled alike

pub item_alike : (i j : Item) → IsSpellableItem i → IsSpellableItem j → item_bytes i ≡ item_bytes j → i ≡ j
item_alike i j s t e = ok_is i j (sym (item_again (item_bytes i) i (refl, s)) ∙ item_again (item_bytes i) j (e, t))

pub entry_alike : (e f : Entry) → IsSpellable e → IsSpellable f → entry_bytes e ≡ entry_bytes f → e ≡ f
entry_alike e f s t same = ok_is e f (sym (entry_again (entry_bytes e) e (refl, s)) ∙ entry_again (entry_bytes e) f (same, t))
