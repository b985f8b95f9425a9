-- What an operation knows of one server.
use Rattle.std.specs.Prelude.{ℕ, ◌+◌, ◌-◌, ◌*◌, max, Bool, true, false, ◌&&◌, ◌==◌, nat_le, nat_lt, if◌then◌else◌, List, [], ◌∷◌, Option, Some, None, is_some, unwrap_or}
use Rattle.quorum_cell.specs.declared.message.Told.{Told}
use Rattle.quorum_cell.specs.declared.message.Told.TheVariants.{Down, Sealed, Unsealed, Ack, Short, Trimmed, Got, DiskFault}
use Rattle.native_plan.specs.declared.member.Member.{Member}
use Rattle.native_plan.specs.declared.message.Errand.{Errand}
use Rattle.native_plan.specs.declared.message.Errand.TheVariants.{Store, Seal, Repair, Trim}
use Rattle.delos_types.specs.declared.entry.Entry.{Entry}
use Rattle.native_plan.specs.declared.message.Turn.{Turn}
use Rattle.native_plan.specs.declared.message.Turn.TheVariants.{Asks, Tells, Rests}
use Rattle.native_plan.specs.declared.message.Message.{Message}
use Rattle.native_plan.specs.declared.message.Message.TheVariants.{Asked, Told as Answered}

abbrev pub new_member : ℕ → Member
new_member at = record { at = at; opened = None; sealed = None; passed = false; unreached = false; losses = 0; message = None }

-- what stands at a number that names no server
abbrev pub no_member : Member
no_member = new_member 0

abbrev pub is_out : Member → Bool
is_out m = is_some m.message

abbrev pub is_opened : Member → Bool
is_opened m = is_some m.opened

abbrev pub at_least : ℕ → Option ℕ → Bool
at_least n None = false
at_least n (Some k) = nat_le n k

abbrev pub is_opened_to : ℕ → Member → Bool
is_opened_to n m = at_least n m.opened

abbrev pub is_found_sealed : Member → Bool
is_found_sealed m = is_some m.sealed

abbrev pub is_mended_to : ℕ → Member → Bool
is_mended_to n m = is_some m.sealed && nat_le n m.at

abbrev pub is_passed : Member → Bool
is_passed m = m.passed

abbrev pub is_unreached : Member → Bool
is_unreached m = m.unreached

abbrev pub opened_of : Member → ℕ
opened_of m = unwrap_or m.opened 0

abbrev pub sealed_of : Member → ℕ
sealed_of m = unwrap_or m.sealed 0

-- an answer comes, to an operation that wants this length; a server that let go is to say anew whether it is sealed, since nothing that it told while it was speaks of the length that it has now
abbrev pub acknowledged : Errand → ℕ → Member → Member
acknowledged (Store p) n m = record m { opened = Some n; at = max m.at n }
acknowledged e n m = record m { at = max m.at n }

abbrev pub noted : ℕ → Errand → Told → Member → Member
noted want e Down m = record m { unreached = true }
noted want e DiskFault m = record m { unreached = true }
noted want e (Sealed n) m = record m { sealed = Some n; at = max m.at n }
noted want e (Unsealed n) m = record m { opened = Some n; at = max m.at n }
noted want e (Ack n) m = acknowledged e n m
noted want e (Trimmed n) m = record m { passed = nat_le want n; at = max m.at n; sealed = None }
noted want e (Short n) m = record m { passed = true }
noted want e _ m = m

abbrev pub heard_by : ℕ → Errand → Told → Member → Member
heard_by want e told m = noted want e told (record m { message = None })

-- a position below the cut: a server that is to take an entry there lets go first, in its place
abbrev pub due_of : ℕ → Errand → Errand
due_of cut (Store p) = if nat_lt p cut then Trim else Store p
due_of cut (Repair p) = if nat_lt p cut then Trim else Repair p
due_of cut e = e

-- a sealed server may then be repaired
abbrev pub more_after : Errand → ℕ
more_after Seal = 20
more_after e = 0

-- what a message may still bring about: it moves twice, and each loss counts; so do the two messages by which a server comes nearer
abbrev pub left_with : ℕ → ℕ → Option Message → ℕ
left_with way losses None = 0
left_with way losses (Some (Asked e)) = way + more_after e + 20 - losses
left_with way losses (Some (Answered e told)) = way + more_after e + 10 - losses

abbrev pub left_to : ℕ → Member → ℕ
left_to end m = left_with (40 * (end - m.at)) m.losses m.message

-- so many tries of one message may be lost, and then its server is given up
abbrev pub most_tries : ℕ
most_tries = 8

-- a message was lost once more
abbrev pub tried : Member → Member
tried m = if m.losses + 1 == most_tries then record m { losses = m.losses + 1; unreached = true; message = None } else record m { losses = m.losses + 1 }

-- the entry that an answer gives
abbrev pub got_of : Told → Option Entry
got_of (Got x) = Some x
got_of _ = None

abbrev pub turn_of : Option Message → Turn
turn_of None = Rests
turn_of (Some (Asked e)) = Asks e
turn_of (Some (Answered e told)) = Tells

-- which member has the message that comes after so many others
abbrev pub nth_out : ℕ → List Member → ℕ
nth_out skip [] = 0
nth_out skip (m ∷ ms) = if is_out m then (if skip == 0 then 0 else nth_out (skip - 1) ms + 1) else nth_out skip ms + 1
