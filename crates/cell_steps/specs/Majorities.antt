-- What the outcomes of a quorum cell rest on: messages that its servers sent for the operations that came to them.
use Rattle.std.specs.Prelude.{◌≡◌, ℕ, ◌≤◌, ◌&&◌, ◌==◌, Bool, true, nat_le, length, Some, ⊤}
use Rattle.std.specs.List.{list_any}
use Rattle.quorum_cell.specs.declared.message.Reply.{Reply}
use Rattle.quorum_cell.specs.declared.operation.Aim.TheVariants.{Read as AimRead}
use Rattle.quorum_cell.specs.declared.operation.Outcome.{Outcome}
use Rattle.quorum_cell.specs.declared.operation.Outcome.TheVariants.{Reached, OpenTail, SealedTail, Shut, Found, TrimDone, NoQuorum}
use Rattle.majority_rule.specs.Majority.{is_majority}
use Rattle.quorum_cell.specs.Servers.{is_sealed, length_of}
use Rattle.quorum_cell.specs.Cells.{Cell, Operation, server, operation}
use Rattle.quorum_cell.specs.Tallies.{open_to, open_within, open_at, says_sealed, sealed_within, sealed_at, mended_to, trimmed_to, gives_entry}
use Rattle.quorum_cell.specs.Steps.{reached, given_outcome}
use Rattle.quorum_cell.specs.Outcomes.{OutcomeHolds, RestsOnCauses}
use Rattle.loglet_api.specs.declared.call.Answer.{Answer}
use Rattle.cell_views.specs.Views.{answer_of, taken}

-- whether server i sent the operation of ticket t a reply that passes
abbrev pub sent_for : (Reply → Bool) → Cell → ℕ → ℕ → Bool
sent_for test c t i = list_any (λ r. (r.ticket == t) && ((r.server == i) && test r)) c.replies

-- more than half of the servers sent it one
abbrev pub MajoritySent : (Reply → Bool) → Cell → ℕ → Type 0
MajoritySent test c t = is_majority (length c.servers) (sent_for test c t) ≡ true

-- some server sent it one
abbrev pub AnySent : (Reply → Bool) → Cell → ℕ → Type 0
AnySent test c t = list_any (λ r. (r.ticket == t) && test r) c.replies ≡ true

-- an open tail of n rests on a majority that sent unsealed lengths of which n is the greatest, and on a majority that sent one, or acknowledged a store, of at least n
pub record RestsOnOpen (c : Cell) (t n : ℕ) : Type 0 where
  pub within : MajoritySent (open_within n) c t
  pub greatest : AnySent (open_at n) c t
  pub long : MajoritySent (open_to n) c t

-- a sealed tail of n rests on a majority that sent sealed lengths of which n is the greatest, on a majority that sent one, or acknowledged a repair, of at least n,
-- and so on a sealed majority that is no shorter
pub record RestsOnSealed (c : Cell) (t n : ℕ) : Type 0 where
  pub within : MajoritySent (sealed_within n) c t
  pub greatest : AnySent (sealed_at n) c t
  pub mended : MajoritySent (mended_to n) c t
  pub long : is_majority (length c.servers) (λ i. is_sealed (server c i) && nat_le n (length_of (server c i))) ≡ true

-- a server gave the entry of the place that is read
pub record RestsOnEntry (c : Cell) (t : ℕ) (o : Operation) : Type 0 where
  pub place : ℕ
  pub aim : o.aim ≡ AimRead place
  pub given : AnySent (gives_entry place) c t

-- What an outcome of the operation of ticket t rests on: for a length, a seal and a trim on what a majority sent for it, for an entry on what one server sent, for the want of a
-- quorum on a majority that it gave up, each for its cause. That a place is trimmed, or past every length that was answered, the cell says itself.
abbrev pub RestsOnSent : Cell → ℕ → Operation → Outcome → Type 0
RestsOnSent c t o Reached = MajoritySent (open_to o.want) c t
RestsOnSent c t o (OpenTail n) = RestsOnOpen c t n
RestsOnSent c t o (SealedTail n) = RestsOnSealed c t n
RestsOnSent c t o Shut = MajoritySent says_sealed c t
RestsOnSent c t o Found = RestsOnEntry c t o
RestsOnSent c t o TrimDone = MajoritySent (trimmed_to o.want) c t
RestsOnSent c t o (NoQuorum u) = RestsOnCauses c o u
RestsOnSent c t o _ = ⊤

-- Each outcome rests on what was sent for it and says what it says of the cell; a client is told nothing but the outcome of its operation; and no sealed tail is below a length
-- that was reached, earlier or later.
pub record OutcomesRest (c : Cell) : Type 0 where
  pub rest : (t : ℕ) (a : Outcome) → (operation c t).decided ≡ Some a → RestsOnSent c t (operation c t) a
  pub hold : (t : ℕ) (a : Outcome) → (operation c t).decided ≡ Some a → OutcomeHolds c (operation c t) a
  pub told : (t : ℕ) (x : Answer) → taken c.cut (operation c t) (operation c t).decided ≡ Some x → (a : Outcome) × ((operation c t).decided ≡ Some a) × (answer_of c.cut (operation c t) (operation c t).aim (given_outcome c.cut (operation c t).aim a) ≡ Some x)
  pub bound : (t u n : ℕ) (a : Outcome) → (operation c t).decided ≡ Some a → (operation c u).decided ≡ Some (SealedTail n) → reached (operation c t) a ≤ n
