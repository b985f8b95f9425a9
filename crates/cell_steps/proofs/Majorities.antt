-- Outcomes rest on messages that were sent for them.
use Rattle.std.proofs.Common.{◌≡◌, ℕ, zero, suc, ◌<◌, refl, sym, ◌∙◌, ap, arith, List, [], ◌∷◌, length, get_or, Bool, true, false, Option, Some, None}
use Rattle.std.specs.Prelude.{◌&&◌, ◌==◌, Contains}
use Rattle.std.specs.List.{list_any}
use Rattle.std.proofs.lemmas.Bool.{false≢true, and_from, and_parts, or_left, or_right, eq-eqb}
use Rattle.quorum_cell.specs.declared.operation.Aim.{Aim}
use Rattle.quorum_cell.specs.declared.operation.Aim.TheVariants.{Append as AimAppend, Settle as AimSettle, Tail as AimTail, Seal as AimSeal, Read as AimRead, Trim as AimTrim}
use Rattle.quorum_cell.specs.declared.operation.Outcome.{Outcome}
use Rattle.quorum_cell.specs.declared.operation.Outcome.TheVariants.{Reached, OpenTail, SealedTail, Shut, Found, Gone, Beyond, TrimDone, NoQuorum}
use Rattle.quorum_cell.specs.declared.message.Reply.{Reply}
use Rattle.majority_rule.specs.Majority.{is_majority}
use Rattle.quorum_cell.specs.Cells.{Cell, operation}
use Rattle.quorum_cell.specs.Steps.{given_outcome}
use Rattle.quorum_cell.specs.Tallies.{may_decide, heard_from, open_to, open_within, open_at, says_sealed, sealed_within, sealed_at, mended_to, trimmed_to, gives_entry}
use Rattle.quorum_cell.specs.Law.{SentFor, QuorumLaw, IsLawful}
use Rattle.quorum_cell.specs.Outcomes.{RestsOn}
use Rattle.majority_rule.proofs.Majorities.{majority_stays}
use Rattle.quorum_cell.proofs.Lists.{one_of}
use Rattle.quorum_cell.proofs.Conclusions.{outcome_holds, tails_bound}
use Rattle.quorum_cell.proofs.Grounds.{outcome_rests}
use Rattle.quorum_cell.proofs.Votes.{three_parts}
use Rattle.loglet_api.specs.declared.call.Answer.{Answer}
use Rattle.cell_views.specs.Views.{taken, answer_of}
use Rattle.cell_steps.specs.Majorities.{sent_for, MajoritySent, AnySent, RestsOnSent, OutcomesRest}

-- an element that passes is found
any_there : {X : Type 0} (test : X → Bool) (xs : List X) (k : ℕ) (x d : X) → k < length xs → get_or xs k d ≡ x → test x ≡ true → list_any test xs ≡ true
any_there test [] k x d l e h = absurd (omega arith)
any_there test (y ∷ xs) zero x d l e h = or_left _ _ (ap test e ∙ h)
any_there test (y ∷ xs) (suc k) x d l e h = or_right _ _ (any_there test xs k x d (omega arith) e h)

module _ (c : Cell) (law : QuorumLaw c) (t : ℕ) where
  -- what an operation heard was sent for it
  any_sent : (test : Reply → Bool) → list_any test (operation c t).heard ≡ true → AnySent test c t
  any_sent test h =
      let found : (r : Reply) × SentFor c t r × (test r ≡ true) = one_of (SentFor c t) test (operation c t).heard (law.operations t).heard h in
      let r : Reply = found.0 in
      let there : Contains c.replies r = found.1.1 in
      any_there (λ (x : Reply). (x.ticket == t) && test x) c.replies there.0 r r there.1 there.2 (and_from (r.ticket == t) (test r) (eq-eqb _ _ found.1.0) found.2)

  majority_sent : (test : Reply → Bool) → is_majority (length c.servers) (heard_from test (operation c t)) ≡ true → MajoritySent test c t
  majority_sent test h = majority_stays (length c.servers) (heard_from test (operation c t)) (sent_for test c t) (λ i _ e. any_sent (λ r. (r.server == i) && test r) e) h

  sent_at : (aim : Aim) → (operation c t).aim ≡ aim → (a : Outcome) → may_decide (length c.servers) c.cut (operation c t) aim a ≡ true → RestsOn c (operation c t) a → RestsOnSent c t (operation c t) a
  sent_at (AimAppend e) is Reached h old = majority_sent (open_to (operation c t).want) h
  sent_at (AimSettle m) is Reached h old = majority_sent (open_to (operation c t).want) h
  sent_at aim is Reached h old = absurd (false≢true h)
  sent_at AimTail is (OpenTail n) h old =
      let parts = three_parts _ _ _ h in
      record { within = majority_sent (open_within n) parts.0; greatest = any_sent (open_at n) parts.2; long = majority_sent (open_to n) parts.1 }
  sent_at aim is (OpenTail n) h old = absurd (false≢true h)
  sent_at AimTail is (SealedTail n) h old =
      let parts = three_parts _ _ _ h in
      record { within = majority_sent (sealed_within n) parts.0; greatest = any_sent (sealed_at n) parts.2; mended = majority_sent (mended_to n) parts.1; long = old.long }
  sent_at aim is (SealedTail n) h old = absurd (false≢true h)
  sent_at AimSeal is Shut h old = majority_sent says_sealed h
  sent_at (AimAppend e) is Shut h old = majority_sent says_sealed h
  sent_at (AimSettle m) is Shut h old = majority_sent says_sealed h
  sent_at aim is Shut h old = absurd (false≢true h)
  sent_at (AimRead p) is Found h old = record { place = p; aim = is; given = any_sent (gives_entry p) (and_parts _ _ h).1 }
  sent_at aim is Found h old = absurd (false≢true h)
  sent_at aim is Gone h old = tt
  sent_at aim is Beyond h old = tt
  sent_at (AimTrim m) is TrimDone h old = majority_sent (trimmed_to (operation c t).want) h
  sent_at aim is TrimDone h old = absurd (false≢true h)
  sent_at aim is (NoQuorum u) h old = old

-- a client is told what its operation came to
told_so : (c : Cell) (t : ℕ) (x : Answer) → taken c.cut (operation c t) (operation c t).decided ≡ Some x → (a : Outcome) × ((operation c t).decided ≡ Some a) × (answer_of c.cut (operation c t) (operation c t).aim (given_outcome c.cut (operation c t).aim a) ≡ Some x)
told_so c t x = by (operation c t).decided
  where
    by : (z : Option Outcome) → taken c.cut (operation c t) z ≡ Some x → (a : Outcome) × (z ≡ Some a) × (answer_of c.cut (operation c t) (operation c t).aim (given_outcome c.cut (operation c t).aim a) ≡ Some x)
    by None h = absurd (cc)
    by (Some a) h = (a, refl, h)

pub outcomes_rest : (c : Cell) → IsLawful c → OutcomesRest c
outcomes_rest c lawful =
    let law : QuorumLaw c = lawful.law.quorum in
    record {
      rest = λ t a z. sent_at c law t (operation c t).aim refl a ((law.operations t).justified a z) (outcome_rests c law t a z);
      told = λ t x z. told_so c t x z;
      hold = λ t a z. outcome_holds c law t a z;
      bound = λ t u n a z y. tails_bound c law t u a n z y;
    }
