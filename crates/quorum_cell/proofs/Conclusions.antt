-- What the quorum law says of answers and views.
use Rattle.std.proofs.Common.{◌≡◌, ℕ, ◌+◌, ◌-◌, ◌<◌, ◌≤◌, Bool, true, false, refl, ap, sym, ◌∙◌, subst, arith, List, [], ◌∷◌, length, drop, Option, Some, None, inl, inr, length-drop}
use Rattle.std.specs.Prelude.{if◌then◌else◌, ◌⊎◌, ◌&&◌, ◌||◌, ◌==◌, not, nat_le, nat_lt, is_some, unwrap_or, slice_get, All}
use Rattle.std.specs.List.{list_any}
use Rattle.std.proofs.lemmas.Bool.{leb-true, le-leb, ltb-true, false≢true, and_parts, eqb-true, or_cases, or_right, cases_Bool}
use Rattle.std.proofs.lemmas.Option.{none-some, same_Some}
use Rattle.std.proofs.lemmas.List.Elements.{All-contains, All-head, All-tail}
use Rattle.delos_types.specs.declared.entry.Entry.{Entry}
use Rattle.quorum_cell.specs.declared.operation.Aim.{Aim}
use Rattle.quorum_cell.specs.declared.operation.Aim.TheVariants.{Append as AimAppend, Settle as AimSettle, Tail as AimTail, Seal as AimSeal, Read as AimRead, Trim as AimTrim}
use Rattle.quorum_cell.specs.declared.operation.Outcome.{Outcome}
use Rattle.quorum_cell.specs.declared.operation.Outcome.TheVariants.{Reached, OpenTail, SealedTail, Shut, Found, Gone, Beyond, TrimDone, NoQuorum}
use Rattle.quorum_cell.specs.declared.message.Ask.{Ask}
use Rattle.quorum_cell.specs.declared.message.Ask.TheVariants.{Read}
use Rattle.quorum_cell.specs.declared.message.Told.{Told}
use Rattle.quorum_cell.specs.declared.message.Told.TheVariants.{Got, Trimmed}
use Rattle.quorum_cell.specs.declared.message.Reply.{Reply}
use Rattle.majority_rule.specs.Majority.{is_majority, majority, votes_below}
use Rattle.quorum_cell.specs.Servers.{Server, length_of, is_sealed, unsealed_length}
use Rattle.quorum_cell.specs.declared.operation.Loss.{Loss}
use Rattle.quorum_cell.specs.Cells.{Cell, Operation, server, operation, server_before, is_shut}
use Rattle.quorum_cell.specs.Tallies.{may_decide, heard_from, unreached, failed_reply, fails, open_to, open_within, says_sealed, tries_lost, told_entry_at, gives_entry, entry_heard, first_entry, may_give_up, lacks_quorum, told_trim, trimmed_to}
use Rattle.quorum_cell.specs.Steps.{reached}
use Rattle.quorum_cell.specs.Law.{ReplyHolds, SentFor, QuorumLaw, Later, faulted, failed_since}
use Rattle.quorum_cell.specs.Outcomes.{OutcomeHolds, IsLacking, IsLetGo, shut_before, down_before}
use Rattle.majority_rule.proofs.Majorities.{votes_within, majorities_meet, majority_stays, votes_more, votes_either, votes_listed}
use Rattle.quorum_cell.proofs.Lists.{one_of}
use Rattle.quorum_cell.proofs.Laters.{capped_later, firm_later}
use Rattle.quorum_cell.proofs.Steps.{unsealed_within}
use Rattle.quorum_cell.proofs.Votes.{voted, open_to_vote, open_within_vote, sealed_vote, IsOpenTo, IsLongTo, IsSealedWithin, reached_at, shown_at, capped_at, open_below_sealed, three_parts}

---- an answer given by a majority that was open

-- where a majority of the servers answered open, no majority was sealed before
not_shut_before : (c : Cell) → QuorumLaw c → (t n : ℕ) → is_majority (length c.servers) (heard_from (open_to n) (operation c t)) ≡ true → shut_before c (operation c t) ≡ false
not_shut_before c law t n h = by (cases_Bool (shut_before c (operation c t)))
  where
    by : ((shut_before c (operation c t) ≡ true) ⊎ (shut_before c (operation c t) ≡ false)) → shut_before c (operation c t) ≡ false
    by (inl k) =
        let met : (i : ℕ) × (i < length c.servers) × (heard_from (open_to n) (operation c t) i ≡ true) × (is_sealed (server_before (operation c t) i) ≡ true) = majorities_meet (length c.servers) (heard_from (open_to n) (operation c t)) (λ i. is_sealed (server_before (operation c t) i)) h k in
        absurd (false≢true (sym (open_to_vote c law t n met.0 met.2).1 ∙ met.3))
    by (inr k) = k

-- an open tail covers what was reached before
covers : (c : Cell) → QuorumLaw c → (t x : ℕ) → is_majority (length c.servers) (heard_from (open_within x) (operation c t)) ≡ true → (operation c t).reach_before ≤ x
covers c law t x h =
    let o : Operation = operation c t in
    let met : (i : ℕ) × (i < length c.servers) × (heard_from (open_within x) o i ≡ true) × (nat_le o.reach_before (unsealed_length (server_before o i)) ≡ true) = majorities_meet (length c.servers) (heard_from (open_within x) o) (λ i. nat_le o.reach_before (unsealed_length (server_before o i))) h (law.operations t).reach_before in
    let i : ℕ = met.0 in
    let vote : (is_sealed (server_before o i) ≡ false) × (length_of (server_before o i) ≤ x) = open_within_vote c law t x i met.2 in
    omega (arith, leb-true _ _ met.3, open_length (server_before o i) vote.0, vote.1)
  where
    open_length : (s : Server) → is_sealed s ≡ false → unsealed_length s ≡ length_of s
    open_length s e = at s.sealed_at e
      where
        at : (z : Option ℕ) → is_some z ≡ false → unwrap_or z (length_of s) ≡ length_of s
        at None k = refl
        at (Some m) k = absurd (false≢true (sym k))

shut_by : (c : Cell) → QuorumLaw c → (t : ℕ) → is_majority (length c.servers) (heard_from says_sealed (operation c t)) ≡ true → is_shut c ≡ true
shut_by c law t h = majority_stays (length c.servers) (heard_from says_sealed (operation c t)) (λ i. is_sealed (server c i)) (λ i _ e. sealed_vote c law t i e) h

pub capped_is_shut : (c : Cell) (x : ℕ) → IsSealedWithin c x → is_shut c ≡ true
capped_is_shut c x h = majority_stays (length c.servers) (λ i. is_sealed (server c i) && nat_le (unsealed_length (server c i)) x) (λ i. is_sealed (server c i)) (λ i _ e. (and_parts _ _ e).0) h

-- a length that a majority has is one of the entries'
pub long_within : (c : Cell) → QuorumLaw c → (n : ℕ) → IsLongTo c n → n ≤ length c.entries
long_within c law n h =
    let met : (i : ℕ) × (i < length c.servers) × (nat_le n (length_of (server c i)) ≡ true) × (nat_le n (length_of (server c i)) ≡ true) = majorities_meet (length c.servers) _ _ h h in
    omega (arith, leb-true _ _ met.2, (law.servers met.0).within)

open_within_entries : (c : Cell) → QuorumLaw c → (n : ℕ) → IsOpenTo c n → n ≤ length c.entries
open_within_entries c law n h =
    let met : (i : ℕ) × (i < length c.servers) × (nat_le n (unsealed_length (server c i)) ≡ true) × (nat_le n (unsealed_length (server c i)) ≡ true) = majorities_meet (length c.servers) _ _ h h in
    let i : ℕ = met.0 in
    omega (arith, leb-true _ _ met.2, unsealed_within c (server c i) (law.servers i), (law.servers i).within)

---- reads

-- the entry that a tally gives for a place is the cell's
entry_told : (p : ℕ) (ask : Ask) (t : Told) (e : Entry) → told_entry_at p ask t ≡ Some e → (ask ≡ Read p) × (t ≡ Got e)
entry_told p (Read q) (Got f) e h = at (p == q) refl h
  where
    at : (b : Bool) → (p == q) ≡ b → (if b then Some f else None) ≡ Some e → (Read q ≡ Read p) × (Got f ≡ Got e)
    at true k z = (ap Read (sym (eqb-true p q k)), ap Got (same_Some f e z))
    at false k z = absurd (none-some e z)
entry_told p _ _ e h = absurd (none-some e h)

entry_is : (c : Cell) → (p : ℕ) (r : Reply) (e : Entry) → ReplyHolds c r → told_entry_at p r.ask r.told ≡ Some e → slice_get c.entries p ≡ Some e
entry_is c p r e says h = let told : (r.ask ≡ Read p) × (r.told ≡ Got e) = entry_told p r.ask r.told e h in says.got p e told.0 told.1

pub found_entry : (c : Cell) (t p : ℕ) (rs : List Reply) → All (ReplyHolds c) c.replies → All (SentFor c t) rs → list_any (gives_entry p) rs ≡ true → (e : Entry) × (entry_heard p rs ≡ Some e) × (slice_get c.entries p ≡ Some e)
found_entry c t p [] says all h = absurd (false≢true h)
found_entry c t p (r ∷ rs) says all h = at (told_entry_at p r.ask r.told) refl h (found_entry c t p rs says (All-tail (SentFor c t) r rs all))
  where
    here : ReplyHolds c r
    here = All-contains (ReplyHolds c) c.replies r says (All-head (SentFor c t) r rs all).1

    at : (z : Option Entry) → told_entry_at p r.ask r.told ≡ z → (is_some z || list_any (gives_entry p) rs) ≡ true → (list_any (gives_entry p) rs ≡ true → (e : Entry) × (entry_heard p rs ≡ Some e) × (slice_get c.entries p ≡ Some e)) →
        (e : Entry) × (first_entry z (entry_heard p rs) ≡ Some e) × (slice_get c.entries p ≡ Some e)
    at (Some e) k z more = (e, refl, entry_is c p r e here k)
    at None k z more = more z

---- no quorum

pub given_up : (c : Cell) → QuorumLaw c → (t i : ℕ) → unreached (operation c t) i ≡ true → failed_since c (operation c t) i ≡ true
given_up c law t i h = by (or_cases _ _ h)
  where
    by : ((heard_from failed_reply (operation c t) i ≡ true) ⊎ (list_any (λ (l : Loss). (l.server == i) && nat_le 8 (tries_lost (operation c t) l.message)) (operation c t).lost ≡ true)) → failed_since c (operation c t) i ≡ true
    by (inl e) =
        let v : (r : Reply) × ReplyHolds c r × (r.server ≡ i) × (r.ticket ≡ t) × (fails r.told ≡ true) = voted c law t failed_reply i e in
        let there : failed_since c (operation c v.0.ticket) i ≡ true = subst (λ j. failed_since c (operation c v.0.ticket) j ≡ true) v.2 (v.1.failed v.4) in
        subst (λ k. failed_since c (operation c k) i ≡ true) v.3 there
    by (inr e) =
        let found : (l : Loss) × (faulted c.faults (operation c t).faults_before l.server ≡ true) × (((l.server == i) && nat_le 8 (tries_lost (operation c t) l.message)) ≡ true) = one_of (λ (l : Loss). faulted c.faults (operation c t).faults_before l.server ≡ true) (λ (l : Loss). (l.server == i) && nat_le 8 (tries_lost (operation c t) l.message)) (operation c t).lost (law.operations t).lost e in
        or_right _ _ (subst (λ j. faulted c.faults (operation c t).faults_before j ≡ true) (eqb-true _ _ (and_parts _ _ found.2).0) found.1)

unreached_few : (c : Cell) → QuorumLaw c → (t : ℕ) → votes_below (length c.servers) (unreached (operation c t)) ≤ down_before c (operation c t) + (length c.faults - (operation c t).faults_before)
unreached_few c law t =
    let o : Operation = operation c t in
    let newer : List ℕ = drop o.faults_before c.faults in
    omega (
      arith,
      votes_more (length c.servers) (unreached o) (failed_since c o) (λ i _ e. given_up c law t i e),
      votes_either (length c.servers) (λ i. not (server_before o i).up) (λ i. faulted c.faults o.faults_before i),
      votes_listed (length c.servers) newer,
      length-drop o.faults_before c.faults,
    )

---- a trim

let_go_by : (n : ℕ) (told : Told) → told_trim n told ≡ true → (m : ℕ) × (told ≡ Trimmed m) × (n ≤ m)
let_go_by n (Trimmed m) h = (m, refl, leb-true n m h)
let_go_by n _ h = absurd (false≢true h)

let_go_vote : (c : Cell) → QuorumLaw c → (t n i : ℕ) → heard_from (trimmed_to n) (operation c t) i ≡ true → nat_le n (server c i).base ≡ true
let_go_vote c law t n i h =
    let v : (r : Reply) × ReplyHolds c r × (r.server ≡ i) × (r.ticket ≡ t) × (trimmed_to n r ≡ true) = voted c law t (trimmed_to n) i h in
    let m : (m : ℕ) × (v.0.told ≡ Trimmed m) × (n ≤ m) = let_go_by n v.0.told v.4 in
    subst (λ j. nat_le n (server c j).base ≡ true) v.2 (le-leb _ _ (omega (arith, v.1.trimmed m.0 m.1, m.2)))

let_go : (c : Cell) → QuorumLaw c → (t n : ℕ) → is_majority (length c.servers) (heard_from (trimmed_to n) (operation c t)) ≡ true → IsLetGo c n
let_go c law t n h = majority_stays (length c.servers) (heard_from (trimmed_to n) (operation c t)) (λ i. nat_le n (server c i).base) (λ i _ e. let_go_vote c law t n i e) h

---- every outcome

lacking : (c : Cell) → QuorumLaw c → (t u : ℕ) → lacks_quorum (length c.servers) (operation c t) u ≡ true → IsLacking c (operation c t) u
lacking c law t u h =
    let parts : (nat_le (majority (length c.servers)) u ≡ true) × ((u == votes_below (length c.servers) (unreached (operation c t))) ≡ true) = and_parts _ _ h in
    let same : u ≡ votes_below (length c.servers) (unreached (operation c t)) = eqb-true _ _ parts.1 in
    record {
      many = leb-true _ _ parts.0;
      servers = omega (arith, same, votes_within (length c.servers) (unreached (operation c t)));
      cause = omega (arith, same, unreached_few c law t);
    }

given_up_so : (c : Cell) → QuorumLaw c → (t : ℕ) (aim : Aim) (u : ℕ) → may_give_up (length c.servers) (operation c t) aim u ≡ true → IsLacking c (operation c t) u × ((p : ℕ) → aim ≡ AimRead p → p < (operation c t).firm_before)
given_up_so c law t (AimRead p) u h =
    let parts : (nat_lt p (operation c t).firm_before ≡ true) × (lacks_quorum (length c.servers) (operation c t) u ≡ true) = and_parts _ _ h in
    let below : p < (operation c t).firm_before = ltb-true _ _ parts.0 in
    (lacking c law t u parts.1, λ q e. let same : p ≡ q = cc in omega arith)
given_up_so c law t (AimAppend e) u h = (lacking c law t u h, λ q z. absurd (cc))
given_up_so c law t (AimSettle m) u h = (lacking c law t u h, λ q z. absurd (cc))
given_up_so c law t AimTail u h = (lacking c law t u h, λ q z. absurd (cc))
given_up_so c law t AimSeal u h = (lacking c law t u h, λ q z. absurd (cc))
given_up_so c law t (AimTrim m) u h = (lacking c law t u h, λ q z. absurd (cc))

reached_so : (c : Cell) → QuorumLaw c → (t : ℕ) → is_majority (length c.servers) (heard_from (open_to (operation c t).want) (operation c t)) ≡ true → IsLongTo c (operation c t).want → OutcomeHolds c (operation c t) Reached
reached_so c law t h long = (not_shut_before c law t _ h, long, λ e z. (law.operations t).placed e z)

at_outcome : (c : Cell) → QuorumLaw c → (t : ℕ) (aim : Aim) → (operation c t).aim ≡ aim → (a : Outcome) → may_decide (length c.servers) c.cut (operation c t) aim a ≡ true → OutcomeHolds c (operation c t) a
at_outcome c law t (AimAppend e) is Reached h = reached_so c law t h (shown_at c law t (AimAppend e) Reached h)
at_outcome c law t (AimSettle m) is Reached h = reached_so c law t h (shown_at c law t (AimSettle m) Reached h)
at_outcome c law t aim is Reached h = absurd (false≢true h)
at_outcome c law t AimTail is (OpenTail x) h = (not_shut_before c law t x (three_parts _ _ _ h).1, covers c law t x (three_parts _ _ _ h).0, shown_at c law t AimTail (OpenTail x) h)
at_outcome c law t aim is (OpenTail x) h = absurd (false≢true h)
at_outcome c law t aim is (SealedTail x) h = let both : IsSealedWithin c x × IsLongTo c x = capped_at c law t aim x h in (capped_is_shut c x both.0, open_below_sealed c c.reach x law.reached both.0, both.1)
at_outcome c law t AimSeal is Shut h = shut_by c law t h
at_outcome c law t (AimAppend e) is Shut h = shut_by c law t h
at_outcome c law t (AimSettle m) is Shut h = shut_by c law t h
at_outcome c law t aim is Shut h = absurd (false≢true h)
at_outcome c law t (AimRead p) is Found h =
    let parts : (nat_lt p (operation c t).firm_before ≡ true) × (list_any (gives_entry p) (operation c t).heard ≡ true) = and_parts _ _ h in
    (p, is, ltb-true _ _ parts.0, found_entry c t p (operation c t).heard law.replies (law.operations t).heard parts.1)
at_outcome c law t aim is Found h = absurd (false≢true h)
at_outcome c law t (AimRead p) is Gone h = (p, is, ltb-true _ _ h)
at_outcome c law t aim is Gone h = absurd (false≢true h)
at_outcome c law t (AimRead p) is Beyond h = (p, is, leb-true _ _ h)
at_outcome c law t aim is Beyond h = absurd (false≢true h)
at_outcome c law t (AimTrim m) is TrimDone h = record { position = m; aim = is; far = (law.operations t).trimmed m is; gone = let_go c law t (operation c t).want h }
at_outcome c law t aim is TrimDone h = absurd (false≢true h)
at_outcome c law t aim is (NoQuorum u) h = let both = given_up_so c law t aim u h in (both.0, λ p e. both.1 p (sym is ∙ e))

pub outcome_holds : (c : Cell) → QuorumLaw c → (t : ℕ) (a : Outcome) → (operation c t).decided ≡ Some a → OutcomeHolds c (operation c t) a
outcome_holds c law t a z = at_outcome c law t (operation c t).aim refl a ((law.operations t).justified a z)

-- every length reached, earlier or later, is at most every sealed tail
pub tails_bound : (c : Cell) → QuorumLaw c → (t u : ℕ) (a : Outcome) (x : ℕ) → (operation c t).decided ≡ Some a → (operation c u).decided ≡ Some (SealedTail x) → reached (operation c t) a ≤ x
tails_bound c law t u a x z y = open_below_sealed c (reached (operation c t) a) x (reached_at c law t (operation c t).aim a ((law.operations t).justified a z)) (capped_at c law u (operation c u).aim x ((law.operations u).justified (SealedTail x) y)).0

---- earlier and later moments

-- no length that is given goes past a sealed tail that was given
pub reach_stays : (c d : Cell) → QuorumLaw c → QuorumLaw d → Later c d → (x : ℕ) → c.cap ≡ Some x → d.reach ≤ x
reach_stays c d law dlaw l x z = open_below_sealed d d.reach x dlaw.reached (capped_later c d l x (law.capped x z))

-- what an append that reached its length stands on stays
pub append_stands : (c d : Cell) → QuorumLaw c → Later c d → (t : ℕ) (e : Entry) → (operation c t).aim ≡ AimAppend e → (operation c t).decided ≡ Some Reached →
    IsLongTo d ((operation c t).size_before + 1) × (slice_get d.entries (operation c t).size_before ≡ Some e)
append_stands c d law l t e is z =
    let placed : ((operation c t).want ≡ (operation c t).size_before + 1) × (slice_get c.entries (operation c t).size_before ≡ Some e) = (law.operations t).placed e is in
    let long : IsLongTo c (operation c t).want = shown_at c law t (operation c t).aim Reached ((law.operations t).justified Reached z) in
    (subst (IsLongTo d) placed.0 (firm_later c d l (operation c t).want long), l.entries (operation c t).size_before e placed.1)
