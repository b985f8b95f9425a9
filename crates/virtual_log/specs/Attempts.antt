-- How often a call begins an append.
use Rattle.std.specs.Prelude.{◌≡◌, ◌⊎◌, ℕ, ◌+◌, ◌==◌, ◌&&◌, Bool, true, false, List, [], ◌∷◌, ◌++◌, count_by}
use Rattle.delos_types.specs.declared.entry.Entry.{Entry}
use Rattle.loglet_api.specs.declared.call.Op.{Op}
use Rattle.loglet_api.specs.declared.call.Op.TheVariants.{Append}
use Rattle.loglet_api.specs.declared.call.Answer.{Answer}
use Rattle.loglet_api.specs.declared.call.Answer.TheVariants.{Sealed}
use Rattle.legal_journal.specs.declared.events.Event.{Event}
use Rattle.legal_journal.specs.declared.events.FabricCall.{FabricCall}
use Rattle.legal_journal.specs.declared.events.FabricCall.TheVariants.{Begin}
use Rattle.legal_journal.specs.declared.events.FabricAnswer.{FabricAnswer}
use Rattle.legal_journal.specs.declared.events.FabricAnswer.TheVariants.{Begun, Done}
use Rattle.virtual_log.specs.declared.fault.Fault.{Fault}
use Rattle.virtual_log.specs.declared.fault.Fault.TheVariants.{NoQuorum, Full, Meta, Memory}

-- an append was begun
abbrev pub is_begun : FabricCall → FabricAnswer → Bool
is_begun (Begin i (Append e)) (Begun t) = true
is_begun call answer = false

-- an append was answered that its loglet is sealed, which has no entry of it then
abbrev pub is_refused : FabricAnswer → Bool
is_refused (Done Sealed) = true
is_refused answer = false

-- how many appends who began among these events
abbrev pub own_begun : ℕ → List Event → ℕ
own_begun who events = count_by (λ e. is_begun e.call e.answer && (e.who == who)) events

-- .. and how many of who's were refused
abbrev pub own_refused : ℕ → List Event → ℕ
own_refused who events = count_by (λ e. is_refused e.answer && (e.who == who)) events

-- what is appended is this entry
abbrev pub IsOf : Entry → FabricCall → Type 0
IsOf entry (Begin i (Append e)) = e ≡ entry
IsOf entry call = Unit {0}

-- .. by each event of who's
abbrev pub AreOf : ℕ → Entry → List Event → Type 0
AreOf who entry [] = Unit {0}
AreOf who entry (e ∷ es) = (e.who ≡ who → IsOf entry e.call) × AreOf who entry es

-- Of who's appends of this entry, and of no other, so many may have placed it before and so many after: one more for each that
-- was begun since old, and one fewer for each that was refused.
pub record Attempts (who : ℕ) (entry : Entry) (before after : ℕ) (old new : List Event) : Type 0 where
  pub more : List Event
  pub seen : new ≡ old ++ more
  pub count : before + own_begun who more ≡ own_refused who more + after
  pub only : AreOf who entry more

-- who began as many appends since old as were refused, and one more, all of this entry
abbrev pub AppendsOnce : ℕ → Entry → List Event → List Event → Type 0
AppendsOnce who entry old new = Attempts who entry 0 1 old new

-- .. or no more than were refused
abbrev pub AppendsNone : ℕ → Entry → List Event → List Event → Type 0
AppendsNone who entry old new = Attempts who entry 0 0 old new

-- who began no append since old: all that it began are of each entry
abbrev pub Idles : ℕ → List Event → List Event → Type 0
Idles who old new = (entry : Entry) → AppendsNone who entry old new

-- Where a loglet had no room, or the register failed, none may have placed the entry. Else one may.
abbrev pub AppendsAtMostOnce : ℕ → Entry → List Event → Fault → List Event → Type 0
AppendsAtMostOnce who entry old (NoQuorum id unreached) new = AppendsNone who entry old new ⊎ AppendsOnce who entry old new
AppendsAtMostOnce who entry old (Full id) new = AppendsNone who entry old new
AppendsAtMostOnce who entry old Meta new = AppendsNone who entry old new
AppendsAtMostOnce who entry old Memory new = AppendsNone who entry old new ⊎ AppendsOnce who entry old new

-- how many appends an operation is
abbrev pub appends_in : Op → ℕ
appends_in (Append e) = 1
appends_in op = 0

-- how many an answer refuses
abbrev pub refused_by : Answer → ℕ
refused_by Sealed = 1
refused_by answer = 0
