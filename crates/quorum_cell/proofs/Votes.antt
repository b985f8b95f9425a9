-- What a majority of an operation's tally says, and what follows for its answer.
use Rattle.std.proofs.Common.{◌≡◌, ℕ, ◌<◌, ◌≤◌, Bool, true, false, refl, sym, subst, arith, length, Option, Some, None, inl, inr}
use Rattle.std.specs.Prelude.{if◌then◌else◌, ◌⊎◌, ◌&&◌, ◌==◌, nat_le, is_some, min, max}
use Rattle.std.proofs.lemmas.Bool.{leb-true, le-leb, false≢true, and_parts, and_from, cases_lt, eqb-true}
use Rattle.std.proofs.lemmas.Option.{none-some, same_Some}
use Rattle.std.proofs.lemmas.List.Elements.{All-contains}
use Rattle.quorum_cell.specs.declared.operation.Aim.{Aim}
use Rattle.quorum_cell.specs.declared.operation.Aim.TheVariants.{Append as AimAppend, Settle as AimSettle, Tail as AimTail}
use Rattle.quorum_cell.specs.declared.operation.Outcome.{Outcome}
use Rattle.quorum_cell.specs.declared.operation.Outcome.TheVariants.{Reached, OpenTail, SealedTail, Shut, Found, Gone, Beyond, TrimDone, NoQuorum}
use Rattle.quorum_cell.specs.declared.message.Reply.{Reply}
use Rattle.majority_rule.specs.Majority.{is_majority}
use Rattle.quorum_cell.specs.Servers.{length_of, is_sealed, unsealed_length}
use Rattle.quorum_cell.specs.Cells.{Cell, Operation, server, operation, server_before}
use Rattle.quorum_cell.specs.Tallies.{open_told, sealed_told, mended_told, open_to, open_within, sealed_within, mended_to, says_sealed, at_least, at_most, heard_from, may_decide}
use Rattle.quorum_cell.specs.Steps.{reached, shown, cap_after, given_outcome, give, take_outcome}
use Rattle.quorum_cell.specs.Law.{ReplyHolds, SentFor, QuorumLaw}
use Rattle.majority_rule.proofs.Majorities.{majority_stays, majorities_meet}
use Rattle.quorum_cell.proofs.Lists.{one_of}
use Rattle.quorum_cell.proofs.Steps.{unsealed_within}
use Rattle.majority_rule.proofs.Majorities.{all_is_majority}
use Rattle.quorum_cell.proofs.Tallies.{tallied_keeps}

---- one vote

-- a reply that a vote rests on
pub voted : (c : Cell) → QuorumLaw c → (t : ℕ) (test : Reply → Bool) (i : ℕ) → heard_from test (operation c t) i ≡ true → (r : Reply) × ReplyHolds c r × (r.server ≡ i) × (r.ticket ≡ t) × (test r ≡ true)
voted c law t test i h =
    let found : (r : Reply) × SentFor c t r × (((r.server == i) && test r) ≡ true) = one_of (SentFor c t) (λ r. (r.server == i) && test r) (operation c t).heard (law.operations t).heard h in
    let parts : ((found.0.server == i) ≡ true) × (test found.0 ≡ true) = and_parts _ _ found.2 in
    (found.0, All-contains (ReplyHolds c) c.replies found.0 law.replies found.1.1, eqb-true _ _ parts.0, found.1.0, parts.1)

pub told_at_least : (n : ℕ) (z : Option ℕ) → at_least n z ≡ true → (m : ℕ) × (z ≡ Some m) × (n ≤ m)
told_at_least n None h = absurd (false≢true h)
told_at_least n (Some m) h = (m, refl, leb-true n m h)

told_at_most : (n : ℕ) (z : Option ℕ) → at_most n z ≡ true → (m : ℕ) × (z ≡ Some m) × (m ≤ n)
told_at_most n None h = absurd (false≢true h)
told_at_most n (Some m) h = (m, refl, leb-true m n h)

told_some : (z : Option ℕ) → is_some z ≡ true → (m : ℕ) × (z ≡ Some m)
told_some None h = absurd (false≢true h)
told_some (Some m) h = (m, refl)

pub open_to_vote : (c : Cell) → QuorumLaw c → (t n i : ℕ) → heard_from (open_to n) (operation c t) i ≡ true → (n ≤ unsealed_length (server c i)) × (is_sealed (server_before (operation c t) i) ≡ false)
open_to_vote c law t n i h =
    let v : (r : Reply) × ReplyHolds c r × (r.server ≡ i) × (r.ticket ≡ t) × (open_to n r ≡ true) = voted c law t (open_to n) i h in
    let r : Reply = v.0 in
    let m : (m : ℕ) × (open_told r.ask r.told ≡ Some m) × (n ≤ m) = told_at_least n (open_told r.ask r.told) v.4 in
    let says = v.1.opened m.0 m.1 in
    let there : m.0 ≤ unsealed_length (server c i) = subst (λ j. m.0 ≤ unsealed_length (server c j)) v.2 says.0 in
    let was : is_sealed (server_before (operation c r.ticket) i) ≡ false = subst (λ j. is_sealed (server_before (operation c r.ticket) j) ≡ false) v.2 says.1 in
    (omega (arith, there, m.2), subst (λ k. is_sealed (server_before (operation c k) i) ≡ false) v.3 was)

pub open_within_vote : (c : Cell) → QuorumLaw c → (t n i : ℕ) → heard_from (open_within n) (operation c t) i ≡ true → (is_sealed (server_before (operation c t) i) ≡ false) × (length_of (server_before (operation c t) i) ≤ n)
open_within_vote c law t n i h =
    let v : (r : Reply) × ReplyHolds c r × (r.server ≡ i) × (r.ticket ≡ t) × (open_within n r ≡ true) = voted c law t (open_within n) i h in
    let r : Reply = v.0 in
    let m : (m : ℕ) × (open_told r.ask r.told ≡ Some m) × (m ≤ n) = told_at_most n (open_told r.ask r.told) v.4 in
    let says = v.1.opened m.0 m.1 in
    let was : is_sealed (server_before (operation c r.ticket) i) ≡ false = subst (λ j. is_sealed (server_before (operation c r.ticket) j) ≡ false) v.2 says.1 in
    let long : length_of (server_before (operation c r.ticket) i) ≤ m.0 = subst (λ j. length_of (server_before (operation c r.ticket) j) ≤ m.0) v.2 says.2 in
    let long_t : length_of (server_before (operation c t) i) ≤ m.0 = subst (λ k. length_of (server_before (operation c k) i) ≤ m.0) v.3 long in
    (subst (λ k. is_sealed (server_before (operation c k) i) ≡ false) v.3 was, omega (arith, long_t, m.2))

sealed_within_vote : (c : Cell) → QuorumLaw c → (t n i : ℕ) → heard_from (sealed_within n) (operation c t) i ≡ true → (is_sealed (server c i) && nat_le (unsealed_length (server c i)) n) ≡ true
sealed_within_vote c law t n i h =
    let v : (r : Reply) × ReplyHolds c r × (r.server ≡ i) × (r.ticket ≡ t) × (sealed_within n r ≡ true) = voted c law t (sealed_within n) i h in
    let r : Reply = v.0 in
    let m : (m : ℕ) × (sealed_told r.told ≡ Some m) × (m ≤ n) = told_at_most n (sealed_told r.told) v.4 in
    let says = v.1.sealed m.0 m.1 in
    subst (λ j. (is_sealed (server c j) && nat_le (unsealed_length (server c j)) n) ≡ true) v.2 (and_from _ _ says.0 (le-leb _ _ (omega (arith, says.1, m.2))))

mended_to_vote : (c : Cell) → QuorumLaw c → (t n i : ℕ) → heard_from (mended_to n) (operation c t) i ≡ true → nat_le n (length_of (server c i)) ≡ true
mended_to_vote c law t n i h =
    let v : (r : Reply) × ReplyHolds c r × (r.server ≡ i) × (r.ticket ≡ t) × (mended_to n r ≡ true) = voted c law t (mended_to n) i h in
    let r : Reply = v.0 in
    let m : (m : ℕ) × (mended_told r.ask r.told ≡ Some m) × (n ≤ m) = told_at_least n (mended_told r.ask r.told) v.4 in
    let says = v.1.mended m.0 m.1 in
    subst (λ j. nat_le n (length_of (server c j)) ≡ true) v.2 (le-leb _ _ (omega (arith, says.1, m.2)))

pub sealed_vote : (c : Cell) → QuorumLaw c → (t i : ℕ) → heard_from says_sealed (operation c t) i ≡ true → is_sealed (server c i) ≡ true
sealed_vote c law t i h =
    let v : (r : Reply) × ReplyHolds c r × (r.server ≡ i) × (r.ticket ≡ t) × (says_sealed r ≡ true) = voted c law t says_sealed i h in
    let r : Reply = v.0 in
    let m : (m : ℕ) × (sealed_told r.told ≡ Some m) = told_some (sealed_told r.told) v.4 in
    subst (λ j. is_sealed (server c j) ≡ true) v.2 (v.1.sealed m.0 m.1).0

---- three tests

pub three_parts : (x y z : Bool) → (x && y && z) ≡ true → (x ≡ true) × (y ≡ true) × (z ≡ true)
three_parts true true true h = (refl, refl, refl)
three_parts true true false h = absurd (false≢true h)
three_parts true false z h = absurd (false≢true h)
three_parts false y z h = absurd (false≢true h)

---- what an answer rests on

-- a majority of the servers had the length while they were open
abbrev pub IsOpenTo : Cell → ℕ → Type 0
IsOpenTo c n = is_majority (length c.servers) (λ i. nat_le n (unsealed_length (server c i))) ≡ true

abbrev pub IsLongTo : Cell → ℕ → Type 0
IsLongTo c n = is_majority (length c.servers) (λ i. nat_le n (length_of (server c i))) ≡ true

-- a majority of the servers is sealed, at no more than the length
abbrev pub IsSealedWithin : Cell → ℕ → Type 0
IsSealedWithin c n = is_majority (length c.servers) (λ i. is_sealed (server c i) && nat_le (unsealed_length (server c i)) n) ≡ true

open_majority : (c : Cell) → QuorumLaw c → (t n m : ℕ) → m ≤ n → is_majority (length c.servers) (heard_from (open_to n) (operation c t)) ≡ true → IsOpenTo c m
open_majority c law t n m le h = majority_stays (length c.servers) (heard_from (open_to n) (operation c t)) (λ i. nat_le m (unsealed_length (server c i))) (λ i _ e. le-leb _ _ (omega (arith, (open_to_vote c law t n i e).0, le))) h

nothing_reached : (c : Cell) → QuorumLaw c → IsOpenTo c 0
nothing_reached c law = all_is_majority (length c.servers) (λ i. nat_le 0 (unsealed_length (server c i))) law.some (λ i. le-leb _ _ (omega arith))

pub reached_at : (c : Cell) → QuorumLaw c → (t : ℕ) (aim : Aim) (a : Outcome) → may_decide (length c.servers) c.cut (operation c t) aim a ≡ true → IsOpenTo c (reached (operation c t) a)
reached_at c law t (AimAppend e) Reached h = open_majority c law t (operation c t).want (operation c t).want (omega arith) h
reached_at c law t (AimSettle m) Reached h = open_majority c law t (operation c t).want (operation c t).want (omega arith) h
reached_at c law t aim Reached h = absurd (false≢true h)
reached_at c law t AimTail (OpenTail x) h = open_majority c law t x x (omega arith) (three_parts _ _ _ h).1
reached_at c law t aim (OpenTail x) h = absurd (false≢true h)
reached_at c law t aim (SealedTail x) h = nothing_reached c law
reached_at c law t aim Shut h = nothing_reached c law
reached_at c law t aim Found h = nothing_reached c law
reached_at c law t aim Gone h = nothing_reached c law
reached_at c law t aim Beyond h = nothing_reached c law
reached_at c law t aim TrimDone h = nothing_reached c law
reached_at c law t aim (NoQuorum u) h = nothing_reached c law

pub capped_at : (c : Cell) → QuorumLaw c → (t : ℕ) (aim : Aim) (x : ℕ) → may_decide (length c.servers) c.cut (operation c t) aim (SealedTail x) ≡ true → IsSealedWithin c x × IsLongTo c x
capped_at c law t AimTail x h = (
  majority_stays (length c.servers) (heard_from (sealed_within x) (operation c t)) _ (λ i _ e. sealed_within_vote c law t x i e) (three_parts _ _ _ h).0,
  majority_stays (length c.servers) (heard_from (mended_to x) (operation c t)) _ (λ i _ e. mended_to_vote c law t x i e) (three_parts _ _ _ h).1,
)
capped_at c law t aim x h = absurd (false≢true h)

-- a length that a majority had while open is at most each at which a majority was sealed
pub open_below_sealed : (c : Cell) (n x : ℕ) → IsOpenTo c n → IsSealedWithin c x → n ≤ x
open_below_sealed c n x h k =
    let met : (i : ℕ) × (i < length c.servers) × (nat_le n (unsealed_length (server c i)) ≡ true) × ((is_sealed (server c i) && nat_le (unsealed_length (server c i)) x) ≡ true) = majorities_meet (length c.servers) _ _ h k in
    let i : ℕ = met.0 in
    let parts : (is_sealed (server c i) ≡ true) × (nat_le (unsealed_length (server c i)) x ≡ true) = and_parts _ _ met.3 in
    omega (arith, leb-true _ _ met.2, leb-true _ _ parts.1)

---- an answer is given

-- a greater of two lengths
open_to_either : (c : Cell) (m n : ℕ) → IsOpenTo c m → IsOpenTo c n → IsOpenTo c (max m n)
open_to_either c m n h k = by (cases_lt m n)
  where
    by : ((m < n) ⊎ (n ≤ m)) → IsOpenTo c (max m n)
    by (inl l) = let e : max m n ≡ n = omega arith in rw e k
    by (inr l) = let e : max m n ≡ m = omega arith in rw e h

long_to_either : (c : Cell) (m n : ℕ) → IsLongTo c m → IsLongTo c n → IsLongTo c (max m n)
long_to_either c m n h k = by (cases_lt m n)
  where
    by : ((m < n) ⊎ (n ≤ m)) → IsLongTo c (max m n)
    by (inl l) = let e : max m n ≡ n = omega arith in rw e k
    by (inr l) = let e : max m n ≡ m = omega arith in rw e h

open_is_long : (c : Cell) → QuorumLaw c → (n : ℕ) → IsOpenTo c n → IsLongTo c n
open_is_long c law n h = majority_stays (length c.servers) (λ i. nat_le n (unsealed_length (server c i))) (λ i. nat_le n (length_of (server c i))) (λ i _ e. le-leb _ _ (omega (arith, leb-true _ _ e, unsealed_within c (server c i) (law.servers i)))) h

pub shown_at : (c : Cell) → QuorumLaw c → (t : ℕ) (aim : Aim) (a : Outcome) → may_decide (length c.servers) c.cut (operation c t) aim a ≡ true → IsLongTo c (shown (operation c t) a)
shown_at c law t aim (SealedTail x) h = (capped_at c law t aim x h).1
shown_at c law t aim Reached h = open_is_long c law _ (reached_at c law t aim Reached h)
shown_at c law t aim (OpenTail x) h = open_is_long c law _ (reached_at c law t aim (OpenTail x) h)
shown_at c law t aim Shut h = open_is_long c law _ (nothing_reached c law)
shown_at c law t aim Found h = open_is_long c law _ (nothing_reached c law)
shown_at c law t aim Gone h = open_is_long c law _ (nothing_reached c law)
shown_at c law t aim Beyond h = open_is_long c law _ (nothing_reached c law)
shown_at c law t aim TrimDone h = open_is_long c law _ (nothing_reached c law)
shown_at c law t aim (NoQuorum u) h = open_is_long c law _ (nothing_reached c law)

cap_min : (c : Cell) (u x : ℕ) → IsSealedWithin c u → IsSealedWithin c x → IsSealedWithin c (min u x)
cap_min c u x h k = by (cases_lt u x)
  where
    by : ((u < x) ⊎ (x ≤ u)) → IsSealedWithin c (min u x)
    by (inl l) = let e : min u x ≡ u = omega arith in rw e h
    by (inr l) = let e : min u x ≡ x = omega arith in rw e k

cap_given : (c : Cell) → QuorumLaw c → (t : ℕ) (aim : Aim) (cap : Option ℕ) → ((n : ℕ) → cap ≡ Some n → IsSealedWithin c n) → (a : Outcome) → may_decide (length c.servers) c.cut (operation c t) aim a ≡ true → (n : ℕ) → cap_after cap a ≡ Some n → IsSealedWithin c n
cap_given c law t aim None old (SealedTail x) h n z = subst (IsSealedWithin c) (same_Some _ _ z) (capped_at c law t aim x h).0
cap_given c law t aim (Some u) old (SealedTail x) h n z = subst (IsSealedWithin c) (same_Some _ _ z) (cap_min c u x (old u refl) (capped_at c law t aim x h).0)
cap_given c law t aim None old _ h n z = old n z
cap_given c law t aim (Some u) old _ h n z = old n z

reached_is_shown : (o : Operation) (a : Outcome) → reached o a ≤ shown o a
reached_is_shown o (SealedTail x) = omega arith
reached_is_shown o _ = omega arith

cap_is_shown : (o : Operation) (cap : Option ℕ) (firm : ℕ) (a : Outcome) → ((n : ℕ) → cap ≡ Some n → n ≤ firm) → (n : ℕ) → cap_after cap a ≡ Some n → n ≤ max firm (shown o a)
cap_is_shown o None firm (SealedTail x) old n z = let e : x ≡ n = same_Some _ _ z in omega arith
cap_is_shown o (Some u) firm (SealedTail x) old n z = let e : min u x ≡ n = same_Some _ _ z in let l : u ≤ firm = old u refl in omega arith
cap_is_shown o None firm _ old n z = absurd (none-some n z)
cap_is_shown o (Some u) firm _ old n z = let e : u ≡ n = same_Some _ _ z in let l : u ≤ firm = old u refl in omega arith

pub cap_lowers : (cap : Option ℕ) (a : Outcome) (n : ℕ) → cap ≡ Some n → (u : ℕ) × (cap_after cap a ≡ Some u) × (u ≤ n)
cap_lowers None a n z = absurd (none-some n z)
cap_lowers (Some u) (SealedTail x) n z = let e : u ≡ n = same_Some _ _ z in (min u x, refl, omega arith)
cap_lowers (Some u) _ n z = let e : u ≡ n = same_Some _ _ z in (u, refl, omega arith)

give_keeps : (c : Cell) → QuorumLaw c → (t : ℕ) (a : Option Outcome) → (operation c t).decided ≡ a → QuorumLaw (give c t (operation c t) a)
give_keeps c law t None z = law
give_keeps c law t (Some a) z =
    let may : may_decide (length c.servers) c.cut (operation c t) (operation c t).aim a ≡ true = (law.operations t).justified a z in
    tallied_keeps c t (record (operation c t) { given = Some (given_outcome c.cut (operation c t).aim a); closed = true }) (max c.reach (reached (operation c t) a)) (max c.firm (shown (operation c t) a)) (cap_after c.cap a) law refl refl refl (omega arith) (omega arith) (cap_lowers c.cap a)
    (record { since = (law.operations t).since; heard = (law.operations t).heard; reach_before = (law.operations t).reach_before; size = (law.operations t).size; reached = (law.operations t).reached; firm = (law.operations t).firm; settled = (law.operations t).settled; trimmed = (law.operations t).trimmed; ungiven = λ e. absurd (false≢true (sym e)); placed = (law.operations t).placed; faults = (law.operations t).faults; down = (law.operations t).down; lost = (law.operations t).lost; justified = (law.operations t).justified })
    (omega (arith, law.cut))
    (omega (arith, law.ordered, reached_is_shown (operation c t) a))
    (cap_is_shown (operation c t) c.cap c.firm a law.cap_shown)
    (open_to_either c c.reach _ law.reached (reached_at c law t (operation c t).aim a may))
    (long_to_either c c.firm _ law.firm (shown_at c law t (operation c t).aim a may))
    (cap_given c law t (operation c t).aim c.cap law.capped a may)

pub take_keeps : (c : Cell) (t : ℕ) → QuorumLaw c → QuorumLaw (take_outcome c t)
take_keeps c t law = by (operation c t).closed
  where
    by : (b : Bool) → QuorumLaw (if b then c else give c t (operation c t) (operation c t).decided)
    by true = law
    by false = give_keeps c law t (operation c t).decided refl
