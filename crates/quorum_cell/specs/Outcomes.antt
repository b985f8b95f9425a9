-- What each outcome of an operation says of its cell, and what it rests on.
use Rattle.std.specs.Prelude.{◌≡◌, ◌⊎◌, ℕ, min, ◌+◌, ◌-◌, ◌<◌, ◌≤◌, Bool, true, false, not, ◌&&◌, ◌==◌, nat_le, length, slice_get, Some, ⊤}
use Rattle.std.specs.List.{list_any}
use Rattle.delos_types.specs.declared.entry.Entry.{Entry}
use Rattle.quorum_cell.specs.declared.message.Reply.{Reply}
use Rattle.quorum_cell.specs.declared.operation.Aim.TheVariants.{Append as AimAppend, Read as AimRead, Trim as AimTrim}
use Rattle.quorum_cell.specs.declared.operation.Outcome.{Outcome}
use Rattle.quorum_cell.specs.declared.operation.Outcome.TheVariants.{Reached, OpenTail, SealedTail, Shut, Found, Gone, Beyond, TrimDone, NoQuorum}
use Rattle.majority_rule.specs.Majority.{is_majority, majority, votes_below}
use Rattle.quorum_cell.specs.Servers.{is_sealed, length_of}
use Rattle.quorum_cell.specs.Cells.{Cell, Operation, server, server_before, is_shut}
use Rattle.quorum_cell.specs.Law.{failed_since}
use Rattle.quorum_cell.specs.Tallies.{open_to, sealed_within, sealed_at, trimmed_to, failed_reply, heard_from, lost_to, unreached, entry_heard}

-- whether more than half of the servers were sealed as the operation began
abbrev pub shut_before : Cell → Operation → Bool
shut_before c o = is_majority (length c.servers) (λ i. is_sealed (server_before o i))

-- how many servers were down as the operation began
abbrev pub down_before : Cell → Operation → ℕ
down_before c o = votes_below (length c.servers) (λ i. not (server_before o i).up)

-- more than half of the servers have all entries below n
abbrev pub IsHeld : Cell → ℕ → Type 0
IsHeld c n = is_majority (length c.servers) (λ i. nat_le n (length_of (server c i))) ≡ true

-- more than half of the servers have let go of all entries below n
abbrev pub IsLetGo : Cell → ℕ → Type 0
IsLetGo c n = is_majority (length c.servers) (λ i. nat_le n (server c i).base) ≡ true

-- a trim waits for no less than its position, as far as that had been reached as it began
pub record IsTrimmed (c : Cell) (o : Operation) : Type 0 where
  pub position : ℕ
  pub aim : o.aim ≡ AimTrim position
  pub far : min position o.reach_before ≤ o.want
  pub gone : IsLetGo c o.want

-- an append's entry is the cell's, at the place that the append has
abbrev pub IsPlaced : Cell → Operation → Type 0
IsPlaced c o = (e : Entry) → o.aim ≡ AimAppend e → (o.want ≡ o.size_before + 1) × (slice_get c.entries o.size_before ≡ Some e)

-- more than half of the servers are unreached, and no more than were down as the operation began or had a fault since
pub record IsLacking (c : Cell) (o : Operation) (u : ℕ) : Type 0 where
  pub many : majority (length c.servers) ≤ u
  pub servers : u ≤ length c.servers
  pub cause : u ≤ down_before c o + (length c.faults - o.faults_before)

abbrev pub OutcomeHolds : Cell → Operation → Outcome → Type 0
OutcomeHolds c o Reached = (shut_before c o ≡ false) × IsHeld c o.want × IsPlaced c o
OutcomeHolds c o (OpenTail t) = (shut_before c o ≡ false) × (o.reach_before ≤ t) × IsHeld c t
OutcomeHolds c o (SealedTail t) = (is_shut c ≡ true) × (c.reach ≤ t) × IsHeld c t
OutcomeHolds c o Shut = is_shut c ≡ true
OutcomeHolds c o Found = (p : ℕ) × (o.aim ≡ AimRead p) × (p < o.firm_before) × ((e : Entry) × (entry_heard p o.heard ≡ Some e) × (slice_get c.entries p ≡ Some e))
OutcomeHolds c o Gone = (p : ℕ) × (o.aim ≡ AimRead p) × (p < c.cut)
OutcomeHolds c o Beyond = (p : ℕ) × (o.aim ≡ AimRead p) × (o.firm_before ≤ p)
OutcomeHolds c o TrimDone = IsTrimmed c o
OutcomeHolds c o (NoQuorum u) = IsLacking c o u × ((p : ℕ) → o.aim ≡ AimRead p → p < o.firm_before)

-- whether server i ever sent the cell a reply that passes
abbrev pub sent_by : (Reply → Bool) → Cell → ℕ → Bool
sent_by test c i = list_any (λ r. (r.server == i) && test r) c.replies

-- an outcome that reaches n rests on a majority that sent unsealed lengths or acknowledgements of stores of at least n
abbrev pub RestsOnOpen : Cell → ℕ → Type 0
RestsOnOpen c n = is_majority (length c.servers) (sent_by (open_to n) c) ≡ true

-- a sealed tail t rests on a majority that sent sealed lengths of which t is the greatest, and on a sealed majority of length at least t
pub record RestsOnSealed (c : Cell) (t : ℕ) : Type 0 where
  pub within : is_majority (length c.servers) (sent_by (sealed_within t) c) ≡ true
  pub greatest : list_any (sealed_at t) c.replies ≡ true
  pub long : is_majority (length c.servers) (λ i. is_sealed (server c i) && nat_le t (length_of (server c i))) ≡ true

-- why server i is given up: an answer of it came that it was down or that its disk failed, or eight tries of one message to it were lost
abbrev pub HasCause : Cell → Operation → ℕ → Type 0
HasCause c o i = ((heard_from failed_reply o i ≡ true) × (sent_by failed_reply c i ≡ true)) ⊎ (lost_to o i ≡ true)

-- that there is no quorum rests on just so many servers, more than half, each of which is given up for a cause, and was down as the operation began or had a fault since
pub record RestsOnCauses (c : Cell) (o : Operation) (u : ℕ) : Type 0 where
  pub many : majority (length c.servers) ≤ u
  pub exact : u ≡ votes_below (length c.servers) (unreached o)
  pub causes : (i : ℕ) → unreached o i ≡ true → HasCause c o i
  pub failed : (i : ℕ) → unreached o i ≡ true → failed_since c o i ≡ true

-- what the outcomes that reach a length, the sealed tails, the trims and the lacks of a quorum rest on
abbrev pub RestsOn : Cell → Operation → Outcome → Type 0
RestsOn c o Reached = RestsOnOpen c o.want
RestsOn c o (OpenTail t) = RestsOnOpen c t
RestsOn c o (SealedTail t) = RestsOnSealed c t
RestsOn c o TrimDone = is_majority (length c.servers) (sent_by (trimmed_to o.want) c) ≡ true
RestsOn c o (NoQuorum u) = RestsOnCauses c o u
RestsOn c o _ = ⊤
