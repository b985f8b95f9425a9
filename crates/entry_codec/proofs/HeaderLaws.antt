-- Headers that are read are spelled so, and what is spelled so is read again.
use Rattle.std.proofs.Common.{◌≡◌, ℕ, zero, suc, ◌+◌, ◌^◌, ◌<◌, ◌≤◌, List, [], ◌∷◌, ◌++◌, length, Ok, refl, sym, ap, subst, ◌∙◌, append_assoc, arith}
use Rattle.std.specs.List.{flat_map, AllByRecursion}
use Rattle.std.proofs.lemmas.List.{length-append}
use Rattle.std.proofs.lemmas.List.Concat.{flat_map-cons}
use Rattle.delos_types.specs.Numbers.{IsBytes, short_text, long_text}
use Rattle.delos_types.specs.Spelling.{IsRisingFrom, headers_length, item_length, spelled_length}
use Rattle.delos_types.specs.declared.item.Header.{Header}
use Rattle.delos_types.specs.declared.item.Item.{Item}
use Rattle.delos_types.specs.declared.entry.Entry.{Entry}
use Rattle.delos_types.specs.Fields.{◌>>=◌, u8_field, short_text_field}
use Rattle.delos_types.proofs.FieldLaws.{bind_ok, ok_is, Takes, Takes-then, takes_nothing, u8_takes, u8_again, short_takes, short_again, length-short_text, length-long_text}
use Rattle.entry_codec.specs.Format.{header_bytes, headers_bytes, item_bytes, entry_bytes}
use Rattle.entry_codec.specs.Reading.{short, kind_field, header_field, headers_from, headers_field}
use Rattle.entry_codec.proofs.FieldLaws.{kind_takes, kind_again}

pub header_takes : (size least : ℕ) (bytes : List ℕ) (x : Header × List ℕ) → IsBytes bytes → header_field size least bytes ≡ Ok x
    → Takes bytes (header_bytes x.0) x.1 × (least ≤ x.0.kind) × (x.0.kind < 256) × (length x.0.body < 2 ^ 16)
unfolding header_field
header_takes size least bytes x fits e =
    let a = bind_ok (kind_field size least bytes) (λ kind. short_text_field (short size) kind.1 >>= λ body. Ok (record { kind = kind.0; body = body.0 }, body.1)) x e in
    let b = bind_ok (short_text_field (short size) a.0.1) (λ body. Ok (record { kind = a.0.0; body = body.0 }, body.1)) x a.2 in
    let kind = kind_takes size least bytes a.0.0 a.0.1 fits a.1 in
    let body = short_takes (short size) a.0.1 b.0 kind.0.rest_fits b.1 in
    let made : Header × List ℕ = (record { kind = a.0.0; body = b.0.0 }, b.0.1) in
    subst (λ (y : Header × List ℕ). Takes bytes (header_bytes y.0) y.1 × (least ≤ y.0.kind) × (y.0.kind < 256) × (length y.0.body < 2 ^ 16)) {x = made} (ok_is made x b.2)
    (Takes-then bytes (a.0.0 ∷ []) a.0.1 (short_text b.0.0) b.0.1 kind.0 body.0, kind.1, kind.2, body.1)

pub header_again : (size least : ℕ) (h : Header) (rest : List ℕ) → least ≤ h.kind → length h.body < 2 ^ 16 → header_field size least (header_bytes h ++ rest) ≡ Ok (h, rest)
unfolding header_field
header_again size least h rest le lt =
    rw (kind_again size least h.kind (short_text h.body ++ rest) le, short_again (short size) h.body rest lt) refl

abbrev pub AreShort : List Header → Type 0
AreShort hs = AllByRecursion (λ h. length h.body < 2 ^ 16) hs

pub from_takes : (size least count : ℕ) (bytes : List ℕ) (x : List Header × List ℕ) → IsBytes bytes → headers_from size least count bytes ≡ Ok x
    → Takes bytes (flat_map header_bytes x.0) x.1 × (length x.0 ≡ count) × IsRisingFrom least x.0 × AreShort x.0
unfolding headers_from
from_takes size least zero bytes x fits e =
    subst (λ (y : List Header × List ℕ). Takes bytes (flat_map header_bytes y.0) y.1 × (length y.0 ≡ 0) × IsRisingFrom least y.0 × AreShort y.0) (ok_is ([], bytes) x e)
    (takes_nothing bytes fits, refl, tt, tt)
from_takes size least (suc count) bytes x fits e =
    let a = bind_ok (header_field size least bytes) (λ first. headers_from size (first.0.kind + 1) count first.1 >>= λ others. Ok (first.0 ∷ others.0, others.1)) x e in
    let b = bind_ok (headers_from size (a.0.0.kind + 1) count a.0.1) (λ others. Ok (a.0.0 ∷ others.0, others.1)) x a.2 in
    let first = header_takes size least bytes a.0 fits a.1 in
    let others = from_takes size (a.0.0.kind + 1) count a.0.1 b.0 first.0.rest_fits b.1 in
    let both = Takes-then bytes (header_bytes a.0.0) a.0.1 (flat_map header_bytes b.0.0) b.0.1 first.0 others.0 in
    let made : List Header × List ℕ = (a.0.0 ∷ b.0.0, b.0.1) in
    subst (λ (y : List Header × List ℕ). Takes bytes (flat_map header_bytes y.0) y.1 × (length y.0 ≡ suc count) × IsRisingFrom least y.0 × AreShort y.0) (ok_is made x b.2)
    (rw flat_map-cons both, ap suc others.1, (first.1, first.2, others.2), (first.3, others.3))

pub from_again : (size least : ℕ) (hs : List Header) (rest : List ℕ) → IsRisingFrom least hs → AreShort hs → headers_from size least (length hs) (flat_map header_bytes hs ++ rest) ≡ Ok (hs, rest)
unfolding headers_from
from_again size least [] rest rising few = refl
from_again size least (h ∷ hs) rest rising few =
    let regrouped : flat_map header_bytes (h ∷ hs) ++ rest ≡ header_bytes h ++ (flat_map header_bytes hs ++ rest) = ap (λ (x : List ℕ). x ++ rest) (flat_map-cons header_bytes h hs) ∙ append_assoc (header_bytes h) (flat_map header_bytes hs) rest in
    ap (headers_from size least (suc (length hs))) regrouped
    ∙ rw (header_again size least h (flat_map header_bytes hs ++ rest) rising.0 few.0, from_again size (h.kind + 1) hs rest rising.2 few.1) refl

pub headers_takes : (size : ℕ) (bytes : List ℕ) (x : List Header × List ℕ) → IsBytes bytes → headers_field size bytes ≡ Ok x
    → Takes bytes (headers_bytes x.0) x.1 × IsRisingFrom 1 x.0 × AreShort x.0
unfolding headers_field
headers_takes size bytes x fits e =
    let a = bind_ok (u8_field (short size) bytes) (λ count. headers_from size 1 count.0 count.1) x e in
    let count = u8_takes (short size) bytes a.0.0 a.0.1 fits a.1 in
    let each = from_takes size 1 a.0.0 a.0.1 x count.0.rest_fits a.2 in
    let both = Takes-then bytes (a.0.0 ∷ []) a.0.1 (flat_map header_bytes x.0) x.1 count.0 each.0 in
    (subst (λ (k : ℕ). Takes bytes (k ∷ flat_map header_bytes x.0) x.1) (sym each.1) both, each.2, each.3)

pub headers_again : (size : ℕ) (hs : List Header) (rest : List ℕ) → IsRisingFrom 1 hs → AreShort hs → headers_field size (headers_bytes hs ++ rest) ≡ Ok (hs, rest)
unfolding headers_field
headers_again size hs rest rising few =
    rw (u8_again (short size) (length hs) (flat_map header_bytes hs ++ rest)) (from_again size 1 hs rest rising few)

pub length-headers : (hs : List Header) → length (flat_map header_bytes hs) ≡ headers_length hs
length-headers [] = refl
length-headers (h ∷ hs) =
    let parts : length (flat_map header_bytes (h ∷ hs)) ≡ length (header_bytes h) + length (flat_map header_bytes hs) = ap length (flat_map-cons header_bytes h hs) ∙ length-append (header_bytes h) (flat_map header_bytes hs) in
    omega (arith, parts, length-headers hs, length-short_text h.body)

pub length-item_bytes : (i : Item) → length (item_bytes i) ≡ item_length i
length-item_bytes i =
    omega (arith, length-append (flat_map header_bytes i.headers) (short_text i.payload), length-headers i.headers, length-short_text i.payload)

pub length-entry_bytes : (e : Entry) → length (entry_bytes e) ≡ spelled_length e
length-entry_bytes e =
    omega (arith, length-append (flat_map header_bytes e.headers) (long_text e.payload), length-headers e.headers, length-long_text e.payload)
