-- What clients' events tell.
use Rattle.std.specs.Prelude.{ℕ, Bool, false, ◌&&◌, ◌==◌, List}
use Rattle.std.specs.List.{list_any}
use Rattle.loglet_api.specs.declared.call.Answer.{Answer}
use Rattle.loglet_api.specs.declared.call.Answer.TheVariants.{Placed, SealedTail}
use Rattle.legal_journal.specs.declared.events.FabricCall.{FabricCall}
use Rattle.legal_journal.specs.declared.events.FabricCall.TheVariants.{Begin, Carry}
use Rattle.legal_journal.specs.declared.events.FabricAnswer.{FabricAnswer}
use Rattle.legal_journal.specs.declared.events.FabricAnswer.TheVariants.{Begun, Done}
use Rattle.legal_journal.specs.declared.events.Event.{Event}

-- the operation of this ticket was begun on cell i
abbrev pub begins : ℕ → ℕ → FabricCall → FabricAnswer → Bool
begins i t (Begin j op) (Begun u) = (j == i) && (u == t)
begins i t call answer = false

-- by who
abbrev pub is_begin_of : ℕ → ℕ → ℕ → Event → Bool
is_begin_of who i t e = begins i t e.call e.answer && (e.who == who)

-- who began the operation of this ticket on cell i
abbrev pub is_owner : List Event → ℕ → ℕ → ℕ → Bool
is_owner events who i t = list_any (is_begin_of who i t) events

abbrev pub is_tail : ℕ → Answer → Bool
is_tail n (SealedTail t) = t == n
is_tail n answer = false

-- a client of cell i was told this sealed tail
abbrev pub ends : ℕ → ℕ → FabricCall → FabricAnswer → Bool
ends i n (Carry j t word) (Done answer) = (j == i) && is_tail n answer
ends i n call answer = false

abbrev pub was_sealed_at : List Event → ℕ → ℕ → Bool
was_sealed_at events i n = list_any (λ (e : Event). ends i n e.call e.answer) events

abbrev pub is_place : ℕ → Answer → Bool
is_place p (Placed q) = q == p
is_place p answer = false

-- a client of cell i was told that its entry is placed here
abbrev pub places : ℕ → ℕ → FabricCall → FabricAnswer → Bool
places i p (Carry j t word) (Done answer) = (j == i) && is_place p answer
places i p call answer = false

abbrev pub was_placed_at : List Event → ℕ → ℕ → Bool
was_placed_at events i p = list_any (λ (e : Event). places i p e.call e.answer) events
