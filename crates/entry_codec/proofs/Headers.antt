-- Lists of headers: how many there may be, how long they are, and how a loop reads them.
use Rattle.std.proofs.Common.{◌≡◌, ℕ, suc, ◌+◌, ◌-◌, ◌*◌, ◌^◌, ◌≤◌, ◌<◌, List, [], ◌∷◌, ◌++◌, length, All, Result, Ok, Err, refl, sym, ap, ◌∙◌, append_assoc, arith}
use Rattle.std.specs.List.{AllByRecursion}
use Rattle.std.proofs.lemmas.List.{append-nil}
use Rattle.std.proofs.lemmas.List.Elements.{All-from_recursion, recursion_from_All}
use Rattle.delos_types.specs.Spelling.{IsRisingFrom, IsSpellable, IsSpellableItem, headers_length}
use Rattle.delos_types.specs.declared.item.Header.{Header}
use Rattle.delos_types.specs.declared.item.Item.{Item}
use Rattle.delos_types.specs.declared.entry.Entry.{Entry}
use Rattle.entry_codec.specs.declared.fault.BadEntry.{BadEntry}
use Rattle.entry_codec.specs.declared.fault.DecodeError.{DecodeError}
use Rattle.entry_codec.specs.declared.fault.DecodeError.TheVariants as decode
use Rattle.delos_types.specs.Fields.{◌>>=◌}
use Rattle.entry_codec.specs.Reading.{Fails, header_field, headers_from}

-- kinds are bytes, so there are fewer than 256 of them
pub length-rising : (least : ℕ) (hs : List Header) → least ≤ 256 → IsRisingFrom least hs → length hs + least ≤ 256
length-rising least [] most rising = omega arith
length-rising least (h ∷ hs) most rising = let rest : length hs + (h.kind + 1) ≤ 256 = length-rising (h.kind + 1) hs (omega (arith, rising.1)) rising.2 in omega (arith, rest, rising.0)

most_bytes : (hs : List Header) → AllByRecursion (λ h. length h.body < 2 ^ 16) hs → headers_length hs ≤ 65538 * length hs
most_bytes [] bodies = omega arith
most_bytes (h ∷ hs) bodies = let rest : headers_length hs ≤ 65538 * length hs = most_bytes hs bodies.1 in omega (arith, rest, bodies.0)

-- an item's headers are less than 2^24 bytes
pub headers_length-item : (i : Item) → IsSpellableItem i → headers_length i.headers < 2 ^ 24
headers_length-item i s =
    let most : headers_length i.headers ≤ 65538 * length i.headers = most_bytes i.headers (recursion_from_All (λ h. length h.body < 2 ^ 16) i.headers s.bodies) in
    omega (arith, most, length-rising 1 i.headers (omega arith) s.rising)

small_bodies : (hs : List Header) → headers_length hs < 2 ^ 16 → AllByRecursion (λ h. length h.body < 2 ^ 16) hs
small_bodies [] small = tt
small_bodies (h ∷ hs) small = (omega (arith, small), small_bodies hs (omega (arith, small)))

-- an entry's bodies are short, since the entry is
pub bodies-entry : (e : Entry) → IsSpellable e → All (λ h. length h.body < 2 ^ 16) e.headers
bodies-entry e s = All-from_recursion (λ h. length h.body < 2 ^ 16) e.headers (small_bodies e.headers (omega (arith, s.small)))

-- what was read before, and what is still read
abbrev pub with_front : List Header → Result (List Header × List ℕ) BadEntry → Result (List Header × List ℕ) BadEntry
with_front front read = read >>= λ x. Ok (front ++ x.0, x.1)

regroup : (front : List Header) (h : Header) (read : Result (List Header × List ℕ) BadEntry) → with_front front (read >>= λ x. Ok (h ∷ x.0, x.1)) ≡ with_front (front ++ h ∷ []) read
regroup front h (Ok x) = ap (λ (hs : List Header). Ok (hs, x.1)) (simp append_assoc)
regroup front h (Err b) = refl

pub begins : (read : Result (List Header × List ℕ) BadEntry) → with_front [] read ≡ read
begins (Ok x) = refl
begins (Err b) = refl

pub goes_on : (size least : ℕ) (front : List Header) (count i : ℕ) (bytes : List ℕ) (h : Header) (after : List ℕ) (total : Result (List Header × List ℕ) BadEntry) → i < count → header_field size least bytes ≡ Ok (h, after)
    → with_front front (headers_from size least (count - i) bytes) ≡ total → with_front (front ++ h ∷ []) (headers_from size (h.kind + 1) (count - (i + 1)) after) ≡ total
unfolding headers_from
goes_on size least front count i bytes h after total lt e so_far =
    let k : count - i ≡ suc (count - (i + 1)) = omega arith in
    let one : with_front front (headers_from size least (count - i) bytes) ≡ with_front (front ++ h ∷ []) (headers_from size (h.kind + 1) (count - (i + 1)) after) = rw (k, e) (regroup front h (headers_from size (h.kind + 1) (count - (i + 1)) after)) in
    sym one ∙ so_far

pub ends : (e : DecodeError) (size least : ℕ) (front : List Header) (count i : ℕ) (bytes : List ℕ) (total : Result (List Header × List ℕ) BadEntry) → i < count → Fails e (header_field size least bytes)
    → with_front front (headers_from size least (count - i) bytes) ≡ total → Fails e total
unfolding headers_from
ends decode.Memory size least front count i bytes total lt f so_far = tt
ends (decode.Bad b) size least front count i bytes total lt f so_far =
    let k : count - i ≡ suc (count - (i + 1)) = omega arith in
    let one : with_front front (headers_from size least (count - i) bytes) ≡ Err b = rw (k, f) refl in
    sym so_far ∙ one

pub is_done : (size least : ℕ) (front : List Header) (count i : ℕ) (bytes : List ℕ) (total : Result (List Header × List ℕ) BadEntry) → count ≤ i → with_front front (headers_from size least (count - i) bytes) ≡ total → total ≡ Ok (front, bytes)
unfolding headers_from
is_done size least front count i bytes total le so_far =
    let k : count - i ≡ 0 = omega arith in
    let one : with_front front (headers_from size least (count - i) bytes) ≡ Ok (front, bytes) = rw k (ap (λ (hs : List Header). Ok (hs, bytes)) (append-nil front)) in
    sym so_far ∙ one
