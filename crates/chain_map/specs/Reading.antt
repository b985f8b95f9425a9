-- Reading a chain from left to right. Each field is tested as soon as it is read, so a fault is the first rule that
-- the bytes break, with the place at which they do.
use Rattle.std.specs.Prelude.{◌≡◌, ◌==◌, ◌+◌, ◌-◌, ℕ, zero, suc, List, [], ◌∷◌, length, Option, Some, None, Result, Ok, Err, nat_lt, if◌then◌else◌}
use Rattle.delos_types.specs.Fields.{◌>>=◌, u8_field, u16_field, u32_field, u64_field, ended}
use Rattle.delos_types.specs.declared.chain.Segment.{Segment}
use Rattle.delos_types.specs.declared.chain.Chain.{Chain}
use Rattle.chain_map.specs.declared.fault.BadChain.{BadChain}
use Rattle.chain_map.specs.declared.fault.DecodeError.{DecodeError}
use Rattle.chain_map.specs.declared.fault.DecodeError.TheVariants as decode
use Rattle.chain_map.specs.declared.fault.Rule.{Rule}
use Rattle.chain_map.specs.declared.fault.Rule.TheVariants as rule

abbrev pub fault : ℕ → Rule → BadChain
fault at broken = record { at = at; rule = broken }

-- `size` is how many bytes there are in all. Where they end inside a field, they break the rule `short` there, and
-- the next byte of `bytes` stands at the place `size - length bytes`.
abbrev pub short : ℕ → BadChain
short size = fault size rule.Short

unfoldable pub version_field : ℕ → List ℕ → Result (ℕ × List ℕ) BadChain
version_field size bytes = do
  version ← u8_field (short size) bytes
  if version.0 == 1 then Ok version else Err (fault 0 rule.Version)

-- how many segments there are, 1 to 64; the number stands at the place 9
unfoldable pub count_field : ℕ → List ℕ → Result (ℕ × List ℕ) BadChain
count_field size bytes = do
  count ← u16_field (short size) bytes
  if nat_lt count.0 1 then Err (fault 9 rule.Count) else (if nat_lt 64 count.0 then Err (fault 9 rule.Count) else Ok count)

-- an id below 64, which is at least this
unfoldable pub id_field : ℕ → ℕ → List ℕ → Result (ℕ × List ℕ) BadChain
id_field size least bytes = do
  id ← u32_field (short size) bytes
  if nat_lt id.0 least then Err (fault (size - length bytes) rule.Id) else (if nat_lt id.0 64 then Ok id else Err (fault (size - length bytes) rule.Id))

-- the start of the first segment is at most the trim, which stands at the place 1; another's is the former end
unfoldable pub start_field : ℕ → ℕ → Option ℕ → List ℕ → Result (ℕ × List ℕ) BadChain
start_field size trim None bytes = do
  start ← u64_field (short size) bytes
  if nat_lt trim start.0 then Err (fault 1 rule.Trim) else Ok start
start_field size trim (Some former) bytes = do
  start ← u64_field (short size) bytes
  if start.0 == former then Ok start else Err (fault (size - length bytes) rule.Start)

-- 0 at the last segment, which is open; 1 at each one before it, which is closed
unfoldable pub flag_field : ℕ → ℕ → List ℕ → Result (ℕ × List ℕ) BadChain
flag_field size wanted bytes = do
  flag ← u8_field (short size) bytes
  if flag.0 == wanted then Ok flag else Err (fault (size - length bytes) rule.Flag)

-- an end, which is at least the start
unfoldable pub end_field : ℕ → ℕ → List ℕ → Result (ℕ × List ℕ) BadChain
end_field size start bytes = do
  end ← u64_field (short size) bytes
  if nat_lt end.0 start then Err (fault (size - length bytes) rule.End) else Ok end

unfoldable pub closed_field : ℕ → ℕ → Option ℕ → ℕ → List ℕ → Result (Segment × List ℕ) BadChain
closed_field size trim former least bytes = do
  id ← id_field size least bytes
  start ← start_field size trim former id.1
  flag ← flag_field size 1 start.1
  end ← end_field size start.0 flag.1
  Ok (record { id = id.0; start = start.0; end = Some end.0 }, end.1)

unfoldable pub open_field : ℕ → ℕ → Option ℕ → ℕ → List ℕ → Result (Segment × List ℕ) BadChain
open_field size trim former least bytes = do
  id ← id_field size least bytes
  start ← start_field size trim former id.1
  flag ← flag_field size 0 start.1
  Ok (record { id = id.0; start = start.0; end = None }, flag.1)

-- so many closed segments, and the open one
unfoldable pub segments_from : ℕ → ℕ → Option ℕ → ℕ → ℕ → List ℕ → Result (List Segment × List ℕ) BadChain
segments_from size trim former least zero bytes = do
  last ← open_field size trim former least bytes
  Ok (last.0 ∷ [], last.1)
segments_from size trim former least (suc closed) bytes = do
  first ← closed_field size trim former least bytes
  others ← segments_from size trim first.0.end (first.0.id + 1) closed first.1
  Ok (first.0 ∷ others.0, others.1)

-- the fields of a chain, in order
unfoldable pub chain_fields : ℕ → List ℕ → Result Chain BadChain
chain_fields size bytes = do
  version ← version_field size bytes
  trim ← u64_field (short size) version.1
  count ← count_field size trim.1
  segments ← segments_from size trim.0 None 0 (count.0 - 1) count.1
  ended (fault (size - length segments.1) rule.Long) segments.1 (record { trim = trim.0; segments = segments.0 })

-- the chain that all of the bytes spell
unfoldable pub chain_read : List ℕ → Result Chain BadChain
chain_read bytes = chain_fields (length bytes) bytes

-- What a function returned, seen by view, is what reading gives, unless memory ran out.
abbrev pub Fails : {Y : Type 0} → DecodeError → Result Y BadChain → Type 0
Fails decode.Memory read = Unit {0}
Fails (decode.Bad b) read = read ≡ Err b

abbrev pub GivesBy : {X Y : Type 0} → (X → Y) → Result X DecodeError → Result Y BadChain → Type 0
GivesBy view (Ok x) read = read ≡ Ok (view x)
GivesBy view (Err e) read = Fails e read

abbrev pub Gives : {X : Type 0} → Result X DecodeError → Result X BadChain → Type 0
Gives (Ok x) read = read ≡ Ok x
Gives (Err e) read = Fails e read
