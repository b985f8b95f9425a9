-- What answers rest on: replies that a majority sent.
use Rattle.std.proofs.Common.{◌≡◌, ℕ, zero, suc, ◌<◌, ◌≤◌, Bool, true, ap, ◌∙◌, subst, arith, List, [], ◌∷◌, length, get_or, Some, inl, inr}
use Rattle.std.specs.Prelude.{◌⊎◌, ◌&&◌, ◌==◌, nat_le, nat_lt, Contains}
use Rattle.std.specs.List.{list_any}
use Rattle.std.proofs.lemmas.Bool.{le-leb, leb-true, eqb-true, false≢true, and_from, and_parts, or_cases, or_left, or_right}
use Rattle.quorum_cell.specs.declared.operation.Aim.{Aim}
use Rattle.quorum_cell.specs.declared.operation.Aim.TheVariants.{Append as AimAppend, Settle as AimSettle, Tail as AimTail, Seal as AimSeal, Read as AimRead, Trim as AimTrim}
use Rattle.quorum_cell.specs.declared.operation.Outcome.{Outcome}
use Rattle.quorum_cell.specs.declared.operation.Outcome.TheVariants.{Reached, OpenTail, SealedTail, Shut, Found, Gone, Beyond, TrimDone, NoQuorum}
use Rattle.quorum_cell.specs.declared.message.Reply.{Reply}
use Rattle.majority_rule.specs.Majority.{is_majority, majority, votes_below}
use Rattle.quorum_cell.specs.Servers.{length_of, is_sealed}
use Rattle.quorum_cell.specs.Cells.{Cell, Operation, server, operation}
use Rattle.quorum_cell.specs.Tallies.{may_decide, may_give_up, lacks_quorum, unreached, lost_to, failed_reply, trimmed_to, heard_from, open_to, sealed_within, sealed_at, mended_to, mended_told}
use Rattle.quorum_cell.specs.Law.{ReplyHolds, SentFor, QuorumLaw}
use Rattle.quorum_cell.specs.Outcomes.{RestsOn, RestsOnCauses, HasCause, sent_by}
use Rattle.majority_rule.proofs.Majorities.{majority_stays}
use Rattle.quorum_cell.proofs.Lists.{one_of}
use Rattle.quorum_cell.proofs.Conclusions.{given_up}
use Rattle.quorum_cell.proofs.Votes.{voted, told_at_least, three_parts}

-- an element that passes is found
any_there : {X : Type 0} (test : X → Bool) (xs : List X) (k : ℕ) (x d : X) → k < length xs → get_or xs k d ≡ x → test x ≡ true → list_any test xs ≡ true
any_there test [] k x d l e h = absurd (omega arith)
any_there test (y ∷ xs) zero x d l e h = or_left _ _ (ap test e ∙ h)
any_there test (y ∷ xs) (suc k) x d l e h = or_right _ _ (any_there test xs k x d (omega arith) e h)

any_of_contained : {X : Type 0} (test : X → Bool) (xs : List X) (x : X) → Contains xs x → test x ≡ true → list_any test xs ≡ true
any_of_contained test xs x c h = any_there test xs c.0 x x c.1 c.2 h

-- what an operation heard was sent
heard_is_sent : (c : Cell) → QuorumLaw c → (t : ℕ) (test : Reply → Bool) → list_any test (operation c t).heard ≡ true → list_any test c.replies ≡ true
heard_is_sent c law t test h =
    let found : (r : Reply) × SentFor c t r × (test r ≡ true) = one_of (SentFor c t) test (operation c t).heard (law.operations t).heard h in
    any_of_contained test c.replies found.0 found.1.1 found.2

majority_sent : (c : Cell) → QuorumLaw c → (t : ℕ) (test : Reply → Bool) → is_majority (length c.servers) (heard_from test (operation c t)) ≡ true → is_majority (length c.servers) (sent_by test c) ≡ true
majority_sent c law t test h = majority_stays (length c.servers) (heard_from test (operation c t)) (sent_by test c) (λ i _ e. heard_is_sent c law t (λ r. (r.server == i) && test r) e) h

-- a server that a repaired length is heard from is sealed, and as long
mended_server : (c : Cell) → QuorumLaw c → (t n i : ℕ) → heard_from (mended_to n) (operation c t) i ≡ true → (is_sealed (server c i) && nat_le n (length_of (server c i))) ≡ true
mended_server c law t n i h =
    let v : (r : Reply) × ReplyHolds c r × (r.server ≡ i) × (r.ticket ≡ t) × (mended_to n r ≡ true) = voted c law t (mended_to n) i h in
    let r : Reply = v.0 in
    let m : (m : ℕ) × (mended_told r.ask r.told ≡ Some m) × (n ≤ m) = told_at_least n (mended_told r.ask r.told) v.4 in
    let says = v.1.mended m.0 m.1 in
    subst (λ j. (is_sealed (server c j) && nat_le n (length_of (server c j))) ≡ true) v.2 (and_from _ _ says.0 (le-leb _ _ (omega (arith, says.1, m.2))))

lacks_of : (n : ℕ) (o : Operation) (aim : Aim) (u : ℕ) → may_give_up n o aim u ≡ true → lacks_quorum n o u ≡ true
lacks_of n o (AimRead p) u h = (and_parts (nat_lt p o.firm_before) (lacks_quorum n o u) h).1
lacks_of n o (AimAppend e) u h = h
lacks_of n o (AimSettle m) u h = h
lacks_of n o AimTail u h = h
lacks_of n o AimSeal u h = h
lacks_of n o (AimTrim m) u h = h

has_cause : (c : Cell) → QuorumLaw c → (t i : ℕ) → unreached (operation c t) i ≡ true → HasCause c (operation c t) i
has_cause c law t i h = by (or_cases _ _ h)
  where
    by : ((heard_from failed_reply (operation c t) i ≡ true) ⊎ (lost_to (operation c t) i ≡ true)) → HasCause c (operation c t) i
    by (inl e) = inl (e, heard_is_sent c law t (λ r. (r.server == i) && failed_reply r) e)
    by (inr e) = inr e

rests_on_causes : (c : Cell) → QuorumLaw c → (t u : ℕ) → lacks_quorum (length c.servers) (operation c t) u ≡ true → RestsOnCauses c (operation c t) u
rests_on_causes c law t u h =
    let parts : (nat_le (majority (length c.servers)) u ≡ true) × ((u == votes_below (length c.servers) (unreached (operation c t))) ≡ true) = and_parts _ _ h in
    record {
      many = leb-true _ _ parts.0;
      exact = eqb-true _ _ parts.1;
      causes = λ i e. has_cause c law t i e;
      failed = λ i e. given_up c law t i e;
    }

at_rest : (c : Cell) → QuorumLaw c → (t : ℕ) (aim : Aim) (a : Outcome) → may_decide (length c.servers) c.cut (operation c t) aim a ≡ true → RestsOn c (operation c t) a
at_rest c law t (AimAppend e) Reached h = majority_sent c law t (open_to (operation c t).want) h
at_rest c law t (AimSettle m) Reached h = majority_sent c law t (open_to (operation c t).want) h
at_rest c law t aim Reached h = absurd (false≢true h)
at_rest c law t AimTail (OpenTail x) h = majority_sent c law t (open_to x) (three_parts _ _ _ h).1
at_rest c law t aim (OpenTail x) h = absurd (false≢true h)
at_rest c law t AimTail (SealedTail x) h =
    let parts : (is_majority (length c.servers) (heard_from (sealed_within x) (operation c t)) ≡ true) × (is_majority (length c.servers) (heard_from (mended_to x) (operation c t)) ≡ true) × (list_any (sealed_at x) (operation c t).heard ≡ true) = three_parts _ _ _ h in
    record {
      within = majority_sent c law t (sealed_within x) parts.0;
      greatest = heard_is_sent c law t (sealed_at x) parts.2;
      long = majority_stays (length c.servers) (heard_from (mended_to x) (operation c t)) (λ i. is_sealed (server c i) && nat_le x (length_of (server c i))) (λ i _ e. mended_server c law t x i e) parts.1;
    }
at_rest c law t aim (SealedTail x) h = absurd (false≢true h)
at_rest c law t aim Shut h = tt
at_rest c law t aim Found h = tt
at_rest c law t aim Gone h = tt
at_rest c law t aim Beyond h = tt
at_rest c law t (AimTrim m) TrimDone h = majority_sent c law t (trimmed_to (operation c t).want) h
at_rest c law t aim TrimDone h = absurd (false≢true h)
at_rest c law t aim (NoQuorum u) h = rests_on_causes c law t u (lacks_of (length c.servers) (operation c t) aim u h)

pub outcome_rests : (c : Cell) → QuorumLaw c → (t : ℕ) (a : Outcome) → (operation c t).decided ≡ Some a → RestsOn c (operation c t) a
outcome_rests c law t a z = at_rest c law t (operation c t).aim a ((law.operations t).justified a z)
