-- The quorum law: what holds of every cell that steps lead to.
use Rattle.std.specs.Prelude.{◌≡◌, ℕ, min, ◌+◌, ◌^◌, ◌<◌, ◌≤◌, Bool, true, false, not, ◌&&◌, ◌||◌, ◌==◌, nat_le, List, length, drop, slice_get, Some, None, All, Contains, ⊤}
use Rattle.std.specs.List.{list_any}
use Rattle.delos_types.specs.declared.entry.Entry.{Entry}
use Rattle.quorum_cell.specs.declared.operation.Aim.TheVariants.{Append as AimAppend, Settle as AimSettle, Trim as AimTrim}
use Rattle.quorum_cell.specs.declared.operation.Outcome.{Outcome}
use Rattle.quorum_cell.specs.declared.message.Ask.{Ask}
use Rattle.quorum_cell.specs.declared.message.Ask.TheVariants.{Store, Seal, Repair, Read, Trim}
use Rattle.quorum_cell.specs.declared.message.Told.TheVariants.{Got, Trimmed}
use Rattle.quorum_cell.specs.declared.message.Request.{Request}
use Rattle.quorum_cell.specs.declared.message.Reply.{Reply}
use Rattle.majority_rule.specs.Majority.{is_majority}
use Rattle.quorum_cell.specs.Servers.{Server, length_of, is_sealed, unsealed_length}
use Rattle.quorum_cell.specs.declared.operation.Loss.{Loss}
use Rattle.quorum_cell.specs.Cells.{Cell, Operation, server, operation, server_before, seals, is_seal}
use Rattle.quorum_cell.specs.Tallies.{says_sealed, fails, open_told, sealed_told, mended_told, may_decide}

-- a server only grows: it keeps where it was sealed, and is sealed at no less than the length that it had
pub record Grows (old new : Server) : Type 0 where
  pub base : old.base ≤ new.base
  pub longer : length_of old ≤ length_of new
  pub sealed : is_sealed old ≡ true → new.sealed_at ≡ old.sealed_at
  pub unsealed : unsealed_length old ≤ unsealed_length new

-- whether server i had a fault among those that are not the first `before`
abbrev pub faulted : List ℕ → ℕ → ℕ → Bool
faulted faults before i = list_any (λ s. s == i) (drop before faults)

-- whether server i was down as the operation began or had a fault since
abbrev pub failed_since : Cell → Operation → ℕ → Bool
failed_since c o i = not (server_before o i).up || faulted c.faults o.faults_before i

-- what a message asks is the cell's own
abbrev pub IsOurs : Cell → Ask → Type 0
IsOurs c (Store p e) = slice_get c.entries p ≡ Some e
IsOurs c (Repair p e) = slice_get c.entries p ≡ Some e
IsOurs c (Trim n) = n ≤ c.cut
IsOurs c _ = ⊤

pub record ServerHolds (c : Cell) (s : Server) : Type 0 where
  pub same : (k : ℕ) → k < length s.entries → slice_get s.entries k ≡ slice_get c.entries (s.base + k)
  pub trimmed : s.base ≤ c.cut
  pub within : length_of s ≤ length c.entries
  pub sealed : (n : ℕ) → s.sealed_at ≡ Some n → n ≤ length_of s
  pub torn : (ask : Ask) → s.torn ≡ Some ask → IsOurs c ask

pub record RequestHolds (c : Cell) (q : Request) : Type 0 where
  pub known : q.ticket < length c.operations
  pub ours : IsOurs c q.ask

-- what a reply ever sent says of its server, now and as its operation began
pub record ReplyHolds (c : Cell) (r : Reply) : Type 0 where
  pub known : r.ticket < length c.operations
  pub opened : (n : ℕ) → open_told r.ask r.told ≡ Some n →
      (n ≤ unsealed_length (server c r.server)) × (is_sealed (server_before (operation c r.ticket) r.server) ≡ false) × (length_of (server_before (operation c r.ticket) r.server) ≤ n)
  pub sealed : (n : ℕ) → sealed_told r.told ≡ Some n →
      (is_sealed (server c r.server) ≡ true) × (unsealed_length (server c r.server) ≤ n) × (n ≤ length_of (server c r.server))
  pub mended : (n : ℕ) → mended_told r.ask r.told ≡ Some n → (is_sealed (server c r.server) ≡ true) × (n ≤ length_of (server c r.server))
  pub got : (p : ℕ) (e : Entry) → r.ask ≡ Read p → r.told ≡ Got e → slice_get c.entries p ≡ Some e
  pub trimmed : (n : ℕ) → r.told ≡ Trimmed n → n ≤ (server c r.server).base
  pub failed : fails r.told ≡ true → failed_since c (operation c r.ticket) r.server ≡ true

-- a reply that came to operation t was sent for it
abbrev pub SentFor : Cell → ℕ → Reply → Type 0
SentFor c t r = (r.ticket ≡ t) × Contains c.replies r

pub record OperationHolds (c : Cell) (t : ℕ) (o : Operation) : Type 0 where
  pub since : (i : ℕ) → Grows (server_before o i) (server c i)
  pub heard : All (SentFor c t) o.heard
  pub reach_before : is_majority (length c.servers) (λ i. nat_le o.reach_before (unsealed_length (server_before o i))) ≡ true
  pub faults : o.faults_before ≤ length c.faults
  pub down : (i : ℕ) → (server c i).up ≡ false → failed_since c o i ≡ true
  pub lost : All (λ (l : Loss). faulted c.faults o.faults_before l.server ≡ true) o.lost
  pub size : o.size_before ≤ length c.entries
  pub reached : o.reach_before ≤ c.reach
  pub firm : o.firm_before ≤ c.firm
  pub placed : (e : Entry) → o.aim ≡ AimAppend e → (o.want ≡ o.size_before + 1) × (slice_get c.entries o.size_before ≡ Some e)
  pub settled : (n : ℕ) → o.aim ≡ AimSettle n → o.want ≡ min n o.size_before
  pub trimmed : (n : ℕ) → o.aim ≡ AimTrim n → min n o.reach_before ≤ o.want
  pub ungiven : o.closed ≡ false → o.given ≡ None
  pub justified : (a : Outcome) → o.decided ≡ Some a → may_decide (length c.servers) c.cut o o.aim a ≡ true

-- the quorum law
pub record QuorumLaw (c : Cell) : Type 0 where
  pub some : 0 < length c.servers
  pub servers : (i : ℕ) → ServerHolds c (server c i)
  pub requests : All (RequestHolds c) c.requests
  pub replies : All (ReplyHolds c) c.replies
  pub operations : (t : ℕ) → OperationHolds c t (operation c t)
  pub fits : length c.entries ≤ c.room
  pub tickets : length c.operations ≤ c.limit
  pub cut : c.cut ≤ c.reach
  pub ordered : c.reach ≤ c.firm
  pub cap_shown : (t : ℕ) → c.cap ≡ Some t → t ≤ c.firm
  pub reached : is_majority (length c.servers) (λ i. nat_le c.reach (unsealed_length (server c i))) ≡ true
  pub firm : is_majority (length c.servers) (λ i. nat_le c.firm (length_of (server c i))) ≡ true
  pub capped : (t : ℕ) → c.cap ≡ Some t → is_majority (length c.servers) (λ i. is_sealed (server c i) && nat_le (unsealed_length (server c i)) t) ≡ true

-- nothing of the cell is of a seal
pub record IsUnsealed (c : Cell) : Type 0 where
  pub servers : (i : ℕ) → (is_sealed (server c i) ≡ false) × ((server c i).torn ≡ Some Seal → ⊥)
  pub requests : All (λ (q : Request). q.ask ≡ Seal → ⊥) c.requests
  pub replies : All (λ r. says_sealed r ≡ false) c.replies
  pub operations : (t : ℕ) → (is_seal (operation c t).aim ≡ false) × All (λ r. says_sealed r ≡ false) (operation c t).heard

-- the whole law of a cell: the quorum law, and that nothing is sealed where no seal was begun
pub record CellLaw (c : Cell) : Type 0 where
  pub quorum : QuorumLaw c
  pub unsealed : seals c ≡ 0 → IsUnsealed c

-- a cell has 1 to 64 servers, room for 1 to 2^32 entries, and at most 2^62 tickets
pub record IsShape (c : Cell) : Type 0 where
  pub servers : (1 ≤ length c.servers) × (length c.servers ≤ 64)
  pub room : (1 ≤ c.room) × (c.room ≤ 2 ^ 32)
  pub limit : c.limit ≤ 2 ^ 62

-- the law holds of the cell, as of every cell that steps lead to from one of this shape
pub record IsLawful (c : Cell) : Type 0 where
  pub shape : IsShape c
  pub law : CellLaw c

-- a cell that steps may lead to from an earlier one
pub record Later (old new : Cell) : Type 0 where
  pub most : new.room ≡ old.room
  pub limit : new.limit ≡ old.limit
  pub servers : length new.servers ≡ length old.servers
  pub grows : (i : ℕ) → Grows (server old i) (server new i)
  pub entries : (k : ℕ) (e : Entry) → slice_get old.entries k ≡ Some e → slice_get new.entries k ≡ Some e
  pub room : length old.entries ≤ length new.entries
  pub cut : old.cut ≤ new.cut
  pub reach : old.reach ≤ new.reach
  pub firm : old.firm ≤ new.firm
  pub cap : (t : ℕ) → old.cap ≡ Some t → (u : ℕ) × (new.cap ≡ Some u) × (u ≤ t)
  pub tickets : length old.operations ≤ length new.operations
  pub seals : seals old ≤ seals new
  pub before : (t : ℕ) → t < length old.operations → (operation new t).servers_before ≡ (operation old t).servers_before
  pub faults_before : (t : ℕ) → t < length old.operations → (operation new t).faults_before ≡ (operation old t).faults_before
  pub faults : length old.faults ≤ length new.faults
  pub faulted_still : (before i : ℕ) → before ≤ length old.faults → faulted old.faults before i ≡ true → faulted new.faults before i ≡ true
