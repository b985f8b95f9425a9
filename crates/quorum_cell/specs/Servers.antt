-- A log server: what it holds, what it answers, and what it holds afterwards.
use Rattle.std.specs.Prelude.{ℕ, ◌+◌, ◌-◌, max, Bool, true, false, not, ◌&&◌, ◌==◌, nat_lt, if◌then◌else◌, List, [], ◌∷◌, ◌++◌, length, drop, slice_get, is_some, unwrap_or, Option, Some, None}
use Rattle.delos_types.specs.declared.entry.Entry.{Entry}
use Rattle.quorum_cell.specs.declared.message.Ask.{Ask}
use Rattle.quorum_cell.specs.declared.message.Ask.TheVariants.{Store, Seal, Tail, Repair, Read, Trim}
use Rattle.quorum_cell.specs.declared.message.Told.{Told}
use Rattle.quorum_cell.specs.declared.message.Told.TheVariants.{Down, Sealed, Unsealed, Behind, Ack, Cut, Short, Got, Trimmed}

pub record Server : Type 0 where
  pub base : ℕ
  pub entries : List Entry  -- those at base, base + 1, ..
  pub sealed_at : Option ℕ  -- the length at which it was sealed
  pub up : Bool
  pub torn : Option Ask  -- the write inside which it stopped: a restart finds it done or not

abbrev pub length_of : Server → ℕ
length_of s = s.base + length s.entries

abbrev pub is_sealed : Server → Bool
is_sealed s = is_some s.sealed_at

-- the greatest length that it had before it was sealed
abbrev pub unsealed_length : Server → ℕ
unsealed_length s = unwrap_or s.sealed_at (length_of s)

-- the answer at place p of a server that takes this entry
abbrev pub told_place : ℕ → ℕ → Told
told_place p len = if nat_lt len p then Behind len else (if nat_lt p len then Ack len else Ack (len + 1))

abbrev pub told_entry : ℕ → Option Entry → Told
told_entry len None = Short len
told_entry len (Some e) = Got e

-- the answer of a server that is up
abbrev pub told_up : Server → Ask → Told
told_up s (Store p e) = if is_sealed s then Sealed (length_of s) else told_place p (length_of s)
told_up s Seal = Sealed (length_of s)
told_up s Tail = if is_sealed s then Sealed (length_of s) else Unsealed (length_of s)
told_up s (Repair p e) = if is_sealed s then told_place p (length_of s) else Unsealed (length_of s)
told_up s (Read p) = if nat_lt p s.base then Cut s.base else told_entry (length_of s) (slice_get s.entries (p - s.base))
told_up s (Trim n) = Trimmed (max n s.base)

abbrev pub told : Server → Ask → Told
told s ask = if s.up then told_up s ask else Down

-- whether the answer wants a write first
abbrev pub writes : Server → Ask → Bool
writes s (Store p e) = not (is_sealed s) && (p == length_of s)
writes s Seal = not (is_sealed s)
writes s Tail = false
writes s (Repair p e) = is_sealed s && (p == length_of s)
writes s (Read p) = false
writes s (Trim n) = nat_lt s.base n

-- what the server holds after that write
abbrev pub wrote : Server → Ask → Server
wrote s (Store p e) = record s { entries = s.entries ++ e ∷ [] }
wrote s Seal = record s { sealed_at = Some (length_of s) }
wrote s Tail = s
wrote s (Repair p e) = record s { entries = s.entries ++ e ∷ [] }
wrote s (Read p) = s
wrote s (Trim n) = record s { base = n; entries = drop (n - s.base) s.entries }

abbrev pub written : Server → Ask → Server
written s ask = if writes s ask then wrote s ask else s

-- a server that comes up again; `kept` says whether the write inside which it stopped was done
abbrev pub restarted : Server → Bool → Option Ask → Server
restarted s kept None = record s { up = true }
restarted s kept (Some ask) = let whole = record s { up = true; torn = None } in if kept then written whole ask else whole
