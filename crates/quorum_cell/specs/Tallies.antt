-- What a tally of replies shows, and what an operation may come to by it.
use Rattle.std.specs.Prelude.{ℕ, Bool, true, false, ◌&&◌, ◌||◌, ◌==◌, nat_lt, nat_le, if◌then◌else◌, List, [], ◌∷◌, count_by, is_some, Option, Some, None}
use Rattle.std.specs.List.{list_any}
use Rattle.delos_types.specs.declared.entry.Entry.{Entry}
use Rattle.quorum_cell.specs.declared.message.Ask.{Ask}
use Rattle.quorum_cell.specs.declared.message.Ask.TheVariants.{Store, Repair, Read}
use Rattle.quorum_cell.specs.declared.message.Told.{Told}
use Rattle.quorum_cell.specs.declared.message.Told.TheVariants.{Down, Sealed, Unsealed, Ack, Got, Trimmed, DiskFault}
use Rattle.quorum_cell.specs.declared.message.Reply.{Reply}
use Rattle.quorum_cell.specs.declared.operation.Aim.{Aim}
use Rattle.quorum_cell.specs.declared.operation.Aim.TheVariants.{Append as AimAppend, Settle as AimSettle, Tail as AimTail, Seal as AimSeal, Read as AimRead, Trim as AimTrim}
use Rattle.quorum_cell.specs.declared.operation.Outcome.{Outcome}
use Rattle.quorum_cell.specs.declared.operation.Outcome.TheVariants.{Reached, OpenTail, SealedTail, Shut, Found, Gone, Beyond, TrimDone, NoQuorum}
use Rattle.majority_rule.specs.Majority.{is_majority, majority, votes_below}
use Rattle.quorum_cell.specs.declared.operation.Loss.{Loss}
use Rattle.quorum_cell.specs.Cells.{Operation}

---- what a reply says

abbrev pub is_store : Ask → Bool
is_store (Store p e) = true
is_store _ = false

abbrev pub is_repair : Ask → Bool
is_repair (Repair p e) = true
is_repair _ = false

-- the length of a server that was not sealed as it answered
abbrev pub open_told : Ask → Told → Option ℕ
open_told ask (Unsealed n) = Some n
open_told ask (Ack n) = if is_store ask then Some n else None
open_told ask _ = None

-- the length of a server that was sealed as it answered
abbrev pub sealed_told : Told → Option ℕ
sealed_told (Sealed n) = Some n
sealed_told _ = None

-- the same, where a repair is answered too
abbrev pub mended_told : Ask → Told → Option ℕ
mended_told ask (Sealed n) = Some n
mended_told ask (Ack n) = if is_repair ask then Some n else None
mended_told ask _ = None

abbrev pub at_least : ℕ → Option ℕ → Bool
at_least n None = false
at_least n (Some m) = nat_le n m

abbrev pub at_most : ℕ → Option ℕ → Bool
at_most n None = false
at_most n (Some m) = nat_le m n

abbrev pub exactly : ℕ → Option ℕ → Bool
exactly n None = false
exactly n (Some m) = n == m

abbrev pub open_to : ℕ → Reply → Bool
open_to n r = at_least n (open_told r.ask r.told)

abbrev pub open_within : ℕ → Reply → Bool
open_within n r = at_most n (open_told r.ask r.told)

abbrev pub open_at : ℕ → Reply → Bool
open_at n r = exactly n (open_told r.ask r.told)

abbrev pub says_sealed : Reply → Bool
says_sealed r = is_some (sealed_told r.told)

abbrev pub sealed_within : ℕ → Reply → Bool
sealed_within n r = at_most n (sealed_told r.told)

abbrev pub sealed_at : ℕ → Reply → Bool
sealed_at n r = exactly n (sealed_told r.told)

abbrev pub mended_to : ℕ → Reply → Bool
mended_to n r = at_least n (mended_told r.ask r.told)

abbrev pub told_trim : ℕ → Told → Bool
told_trim n (Trimmed m) = nat_le n m
told_trim n _ = false

abbrev pub trimmed_to : ℕ → Reply → Bool
trimmed_to n r = told_trim n r.told

-- the entry that a read of place p was given
abbrev pub told_entry_at : ℕ → Ask → Told → Option Entry
told_entry_at p (Read q) (Got e) = if p == q then Some e else None
told_entry_at p _ _ = None

abbrev pub gives_entry : ℕ → Reply → Bool
gives_entry p r = is_some (told_entry_at p r.ask r.told)

abbrev pub fails : Told → Bool
fails Down = true
fails DiskFault = true
fails _ = false

abbrev pub failed_reply : Reply → Bool
failed_reply r = fails r.told

---- what a tally shows

-- whether the operation heard from server i a reply that passes
abbrev pub heard_from : (Reply → Bool) → Operation → ℕ → Bool
heard_from test o i = list_any (λ r. (r.server == i) && test r) o.heard

-- the first entry that was heard for place p
abbrev pub first_entry : Option Entry → Option Entry → Option Entry
first_entry None later = later
first_entry (Some e) later = Some e

abbrev pub entry_heard : ℕ → List Reply → Option Entry
entry_heard p [] = None
entry_heard p (r ∷ rs) = first_entry (told_entry_at p r.ask r.told) (entry_heard p rs)

-- how many tries of a message were lost
abbrev pub tries_lost : Operation → ℕ → ℕ
tries_lost o k = count_by (λ (l : Loss). l.message == k) o.lost

-- whether a message to server i was lost 8 times
abbrev pub lost_to : Operation → ℕ → Bool
lost_to o i = list_any (λ (l : Loss). (l.server == i) && nat_le 8 (tries_lost o l.message)) o.lost

-- whether the operation gives server i up: it was down, its disk failed, or a message to it was lost 8 times
abbrev pub unreached : Operation → ℕ → Bool
unreached o i = heard_from failed_reply o i || lost_to o i

---- what an operation may come to, in a cell of n servers with this cut

-- exactly u servers are unreached, more than half
abbrev pub lacks_quorum : ℕ → Operation → ℕ → Bool
lacks_quorum n o u = nat_le (majority n) u && (u == votes_below n (unreached o))

-- a read of a place that no answer had spoken of wants no server
abbrev pub may_give_up : ℕ → Operation → Aim → ℕ → Bool
may_give_up n o (AimRead p) u = nat_lt p o.firm_before && lacks_quorum n o u
may_give_up n o aim u = lacks_quorum n o u

abbrev pub may_decide : ℕ → ℕ → Operation → Aim → Outcome → Bool
may_decide n cut o aim (NoQuorum u) = may_give_up n o aim u
may_decide n cut o (AimAppend e) Reached = is_majority n (heard_from (open_to o.want) o)
may_decide n cut o (AimAppend e) Shut = is_majority n (heard_from says_sealed o)
may_decide n cut o (AimSettle m) Reached = is_majority n (heard_from (open_to o.want) o)
may_decide n cut o (AimSettle m) Shut = is_majority n (heard_from says_sealed o)
-- t is the greatest unsealed length that some majority told, and a majority is brought to it
may_decide n cut o AimTail (OpenTail t) = is_majority n (heard_from (open_within t) o) && is_majority n (heard_from (open_to t) o) && list_any (open_at t) o.heard
-- t is the greatest sealed length that some majority told, and a majority is repaired up to it
may_decide n cut o AimTail (SealedTail t) = is_majority n (heard_from (sealed_within t) o) && is_majority n (heard_from (mended_to t) o) && list_any (sealed_at t) o.heard
may_decide n cut o AimSeal Shut = is_majority n (heard_from says_sealed o)
may_decide n cut o (AimRead p) Found = nat_lt p o.firm_before && list_any (gives_entry p) o.heard
may_decide n cut o (AimRead p) Gone = nat_lt p cut
may_decide n cut o (AimRead p) Beyond = nat_le o.firm_before p
may_decide n cut o (AimTrim m) TrimDone = is_majority n (heard_from (trimmed_to o.want) o)
may_decide n cut o aim _ = false
