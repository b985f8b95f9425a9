-- The operations' steps keep the quorum law.
use Rattle.std.proofs.Common.{cond, ◌≡◌, ℕ, ◌+◌, ◌<◌, ◌≤◌, Bool, true, false, refl, ap, sym, ◌∙◌, subst, arith, [], ◌∷◌, ◌++◌, length, set, Option, Some, None, inl, inr, length-append}
use Rattle.std.specs.Prelude.{if◌then◌else◌, ◌⊎◌, ◌&&◌, ◌||◌, ◌==◌, not, nat_le, nat_lt, is_some, slice_get, option_map, min}
use Rattle.std.proofs.lemmas.Bool.{false≢true, and_parts, cases_lt, or_parts, not-true, or_left, not_from_false, eq-eqb}
use Rattle.std.proofs.lemmas.Option.{none-some, same_Some}
use Rattle.std.proofs.lemmas.List.Sums.{sum_by-set, sum_by-append}
use Rattle.std.proofs.lemmas.List.{length-set, set_past, get_or_past, get_or_append_left}
use Rattle.std.proofs.lemmas.List.Elements.{All-weaker, All-push, All-nil}
use Rattle.delos_types.specs.declared.entry.Entry.{Entry}
use Rattle.quorum_cell.specs.declared.operation.Aim.{Aim}
use Rattle.quorum_cell.specs.declared.operation.Aim.TheVariants.{Append as AimAppend, Read as AimRead, Trim as AimTrim, Settle as AimSettle}
use Rattle.quorum_cell.specs.declared.operation.Outcome.{Outcome}
use Rattle.quorum_cell.specs.declared.message.Ask.{Ask}
use Rattle.quorum_cell.specs.declared.message.Request.{Request}
use Rattle.quorum_cell.specs.declared.message.Reply.{Reply}
use Rattle.quorum_cell.specs.declared.message.Ask.TheVariants.{Store, Seal, Tail, Repair, Read, Trim}
use Rattle.quorum_cell.specs.declared.operation.Wish.{Wish}
use Rattle.quorum_cell.specs.declared.operation.Wish.TheVariants.{Store as WishStore, Seal as WishSeal, Tail as WishTail, Repair as WishRepair, Read as WishRead, Trim as WishTrim}
use Rattle.majority_rule.specs.Majority.{is_majority}
use Rattle.quorum_cell.specs.Servers.{length_of, is_sealed, unsealed_length}
use Rattle.quorum_cell.specs.declared.operation.Loss.{Loss}
use Rattle.quorum_cell.specs.Cells.{Cell, Operation, server, operation, no_operation, seals, is_seal}
use Rattle.quorum_cell.specs.Tallies.{may_decide}
use Rattle.quorum_cell.specs.Steps.{ask_read, waits, reply_comes, lose, decide, begun, admit, begin, is_append, is_full, with_fault, put_operation, forget, entries_after, cut_after, wanted, sent, send, ask_for, reached}
use Rattle.quorum_cell.specs.Law.{IsOurs, RequestHolds, ReplyHolds, SentFor, OperationHolds, QuorumLaw, Later, faulted}
use Rattle.quorum_cell.proofs.Growing.{grows_same}
use Rattle.quorum_cell.proofs.Lists.{at_set, at_push, contained, slice_get_more, slice_get_push_new, faulted_now}
use Rattle.quorum_cell.proofs.Laters.{server_later, request_later, reply_later, operation_later, cap_stays}
use Rattle.quorum_cell.proofs.Steps.{faults_known, fault_keeps, down_stays}

---- an operation changes

-- an operation put in the place of t, and the numbers of the view
abbrev pub tallied : Cell → ℕ → Operation → ℕ → ℕ → Option ℕ → Cell
tallied c t o reach firm cap = record c { operations = set c.operations t o; reach = reach; firm = firm; cap = cap }

pub seals_put : (c : Cell) (t : ℕ) (o : Operation) → t < length c.operations → o.aim ≡ (operation c t).aim → seals (put_operation c t o) ≡ seals c
seals_put c t o lt same = omega (arith, sum_by-set (λ (x : Operation). cond (is_seal x.aim) 1 0) c.operations t o no_operation lt, ap {B = ℕ} (λ a. cond (is_seal a) 1 0) same)

pub tallied_later : (c : Cell) (t : ℕ) (o : Operation) (reach firm : ℕ) (cap : Option ℕ) → o.aim ≡ (operation c t).aim → o.servers_before ≡ (operation c t).servers_before → o.faults_before ≡ (operation c t).faults_before → c.reach ≤ reach → c.firm ≤ firm → ((n : ℕ) → c.cap ≡ Some n → (u : ℕ) × (cap ≡ Some u) × (u ≤ n)) → Later c (tallied c t o reach firm cap)
tallied_later c t o reach firm cap aim same base more_reach more_firm less_cap = record {
  most = refl;
  limit = refl;
  servers = refl;
  grows = λ i. grows_same (server c i);
  entries = λ k e h. h;
  room = omega arith;
  cut = omega arith;
  reach = more_reach;
  firm = more_firm;
  cap = less_cap;
  tickets = omega (arith, length-set c.operations t o);
  seals = by (cases_lt t (length c.operations));
  before = λ k _. at_set (λ j (new : Operation). new.servers_before ≡ (operation c j).servers_before) c.operations t o no_operation (λ j. refl) (λ _. same) k;
  faults_before = λ k _. at_set (λ j (new : Operation). new.faults_before ≡ (operation c j).faults_before) c.operations t o no_operation (λ j. refl) (λ _. base) k;
  faults = omega arith;
  faulted_still = λ b i _ h. h;
}
  where
    by : ((t < length c.operations) ⊎ (length c.operations ≤ t)) → seals c ≤ seals (tallied c t o reach firm cap)
    by (inl lt) = omega (arith, seals_put c t o lt aim)
    by (inr past) = rw (set_past c.operations t o past) (omega arith)

pub tallied_keeps : (c : Cell) (t : ℕ) (o : Operation) (reach firm : ℕ) (cap : Option ℕ) → QuorumLaw c →
    o.aim ≡ (operation c t).aim → o.servers_before ≡ (operation c t).servers_before → o.faults_before ≡ (operation c t).faults_before → c.reach ≤ reach → c.firm ≤ firm → ((n : ℕ) → c.cap ≡ Some n → (u : ℕ) × (cap ≡ Some u) × (u ≤ n)) → OperationHolds c t o → c.cut ≤ reach → reach ≤ firm → ((n : ℕ) → cap ≡ Some n → n ≤ firm) →
    is_majority (length c.servers) (λ i. nat_le reach (unsealed_length (server c i))) ≡ true →
    is_majority (length c.servers) (λ i. nat_le firm (length_of (server c i))) ≡ true →
    ((n : ℕ) → cap ≡ Some n → is_majority (length c.servers) (λ i. is_sealed (server c i) && nat_le (unsealed_length (server c i)) n) ≡ true) →
    QuorumLaw (tallied c t o reach firm cap)
tallied_keeps c t o reach firm cap law aim same base more_reach more_firm less_cap oh cut ordered cap_shown reached firmly capped =
    let d : Cell = tallied c t o reach firm cap in
    let l : Later c d = tallied_later c t o reach firm cap aim same base more_reach more_firm less_cap in
    record {
      some = law.some;
      servers = λ i. server_later c d l (server c i) (law.servers i);
      requests = All-weaker (RequestHolds c) (RequestHolds d) (request_later c d l) c.requests law.requests;
      replies = All-weaker (ReplyHolds c) (ReplyHolds d) (reply_later c d l (faults_known c law)) c.replies law.replies;
      operations = at_set (λ j new. OperationHolds d j new) c.operations t o no_operation (λ j. operation_later c d l (λ r h. h) j (operation c j) (down_stays c d l refl j (operation c j) (law.operations j)) (law.operations j)) (λ _. operation_later c d l (λ r h. h) t o (down_stays c d l refl t o oh) oh);
      fits = law.fits;
      tickets = omega (arith, law.tickets, length-set c.operations t o);
      cut = cut;
      ordered = ordered;
      cap_shown = cap_shown;
      reached = reached;
      firm = firmly;
      capped = capped;
    }

-- while it waits, it has no answer
waits_open : (o : Operation) (a : Outcome) → waits o ≡ true → o.decided ≡ Some a → ⊥
waits_open o a w z = by o.decided z (or_parts _ _ (not-true _ w)).1
  where
    by : (d : Option Outcome) → d ≡ Some a → is_some d ≡ false → ⊥
    by None e f = none-some a e
    by (Some b) e f = false≢true (sym f)

pub reply_comes_keeps : (c : Cell) (k : ℕ) (r : Reply) → QuorumLaw c → slice_get c.replies k ≡ Some r → QuorumLaw (reply_comes c (Some r))
reply_comes_keeps c k r law at = by (waits (operation c r.ticket)) refl
  where
    by : (b : Bool) → waits (operation c r.ticket) ≡ b → QuorumLaw (if b then put_operation c r.ticket (record (operation c r.ticket) { heard = (operation c r.ticket).heard ++ r ∷ [] }) else c)
    by false w = law
    by true w = tallied_keeps c r.ticket (record (operation c r.ticket) { heard = (operation c r.ticket).heard ++ r ∷ [] }) c.reach c.firm c.cap law refl refl refl (omega arith) (omega arith) (cap_stays c.cap)
        (record {
          since = (law.operations r.ticket).since;
          heard = All-push (SentFor c r.ticket) (operation c r.ticket).heard r (law.operations r.ticket).heard (refl, contained c.replies k r at);
          reach_before = (law.operations r.ticket).reach_before;
          size = (law.operations r.ticket).size;
          reached = (law.operations r.ticket).reached;
          firm = (law.operations r.ticket).firm;
          settled = (law.operations r.ticket).settled;
          trimmed = (law.operations r.ticket).trimmed;
          ungiven = (law.operations r.ticket).ungiven;
          placed = (law.operations r.ticket).placed;
          faults = (law.operations r.ticket).faults;
          down = (law.operations r.ticket).down;
          lost = (law.operations r.ticket).lost;
          justified = λ a z. absurd (waits_open (operation c r.ticket) a w z);
        })
        law.cut law.ordered law.cap_shown law.reached law.firm law.capped

-- an operation that lost one more try of message k to server i
abbrev pub lost_more : Operation → ℕ → ℕ → Operation
lost_more o k i = record o { lost = o.lost ++ record { message = k; server = i } ∷ [] }

pub lose_keeps : (c : Cell) (k : ℕ) (q : Request) → QuorumLaw c → QuorumLaw (lose c k (Some q))
lose_keeps c k q law = by (waits (operation c q.ticket)) refl
  where
    by : (b : Bool) → waits (operation c q.ticket) ≡ b → QuorumLaw (if b then put_operation (with_fault c q.server) q.ticket (lost_more (operation c q.ticket) k q.server) else c)
    by false w = law
    by true w =
        let d : Cell = with_fault c q.server in
        let dlaw : QuorumLaw d = fault_keeps c q.server law in
        tallied_keeps d q.ticket (lost_more (operation c q.ticket) k q.server) c.reach c.firm c.cap dlaw refl refl refl (omega arith) (omega arith) (cap_stays c.cap)
        (record {
          since = (dlaw.operations q.ticket).since;
          heard = (dlaw.operations q.ticket).heard;
          reach_before = (dlaw.operations q.ticket).reach_before;
          size = (dlaw.operations q.ticket).size;
          reached = (dlaw.operations q.ticket).reached;
          firm = (dlaw.operations q.ticket).firm;
          settled = (dlaw.operations q.ticket).settled;
          trimmed = (dlaw.operations q.ticket).trimmed;
          ungiven = (dlaw.operations q.ticket).ungiven;
          placed = (dlaw.operations q.ticket).placed;
          faults = (dlaw.operations q.ticket).faults;
          down = (dlaw.operations q.ticket).down;
          lost = All-push
              (λ (l : Loss). faulted d.faults (operation c q.ticket).faults_before l.server ≡ true)
              (operation c q.ticket).lost
              (record { message = k; server = q.server })
              (dlaw.operations q.ticket).lost
              (faulted_now c.faults (operation c q.ticket).faults_before q.server (faults_known c law q.ticket));
          justified = λ a z. absurd (waits_open (operation c q.ticket) a w z);
        })
        dlaw.cut dlaw.ordered dlaw.cap_shown dlaw.reached dlaw.firm dlaw.capped

pub decide_keeps : (c : Cell) (t : ℕ) (a : Outcome) → QuorumLaw c → QuorumLaw (decide c t a)
decide_keeps c t a law = by (waits (operation c t) && may_decide (length c.servers) c.cut (operation c t) (operation c t).aim a) refl
  where
    by : (b : Bool) → (waits (operation c t) && may_decide (length c.servers) c.cut (operation c t) (operation c t).aim a) ≡ b → QuorumLaw (if b then put_operation c t (record (operation c t) { decided = Some a }) else c)
    by false w = law
    by true w = tallied_keeps c t (record (operation c t) { decided = Some a }) c.reach c.firm c.cap law refl refl refl (omega arith) (omega arith) (cap_stays c.cap)
        (record {
          since = (law.operations t).since;
          heard = (law.operations t).heard;
          reach_before = (law.operations t).reach_before;
          size = (law.operations t).size;
          reached = (law.operations t).reached;
          firm = (law.operations t).firm;
          settled = (law.operations t).settled;
          trimmed = (law.operations t).trimmed;
          ungiven = (law.operations t).ungiven;
          placed = (law.operations t).placed;
          faults = (law.operations t).faults;
          down = (law.operations t).down;
          lost = (law.operations t).lost;
          justified = λ b z. subst (λ x. may_decide (length c.servers) c.cut (operation c t) (operation c t).aim x ≡ true) (same_Some _ _ z) (and_parts _ _ w).1;
        })
        law.cut law.ordered law.cap_shown law.reached law.firm law.capped

---- an operation sends

pub sent_keeps : (c : Cell) (t i : ℕ) (ask : Option Ask) → QuorumLaw c → t < length c.operations → ((a : Ask) → ask ≡ Some a → IsOurs c a) → QuorumLaw (sent c t i ask)
sent_keeps c t i None law known ours = law
sent_keeps c t i (Some ask) law known ours =
    let q : Request = record { ticket = t; server = i; ask = ask } in
    let d : Cell = record c { requests = c.requests ++ q ∷ [] } in
    let l : Later c d = record { most = refl; limit = refl; servers = refl; grows = λ j. grows_same (server c j); entries = λ k e h. h; room = omega arith; cut = omega arith; reach = omega arith; firm = omega arith; cap = cap_stays c.cap; tickets = omega arith; seals = omega arith; before = λ k _. refl; faults_before = λ k _. refl; faults = omega arith; faulted_still = λ b i _ h. h } in
    record {
      some = law.some;
      servers = λ j. server_later c d l (server c j) (law.servers j);
      requests = All-push (RequestHolds d) c.requests q (All-weaker (RequestHolds c) (RequestHolds d) (request_later c d l) c.requests law.requests) (request_later c d l q (record { known = known; ours = ours ask refl }));
      replies = All-weaker (ReplyHolds c) (ReplyHolds d) (reply_later c d l (faults_known c law)) c.replies law.replies;
      operations = λ k. operation_later c d l (λ r h. h) k (operation c k) (down_stays c d l refl k (operation c k) (law.operations k)) (law.operations k);
      fits = law.fits;
      tickets = law.tickets;
      cut = law.cut;
      ordered = law.ordered;
      cap_shown = law.cap_shown;
      reached = law.reached;
      firm = law.firm;
      capped = law.capped;
    }

asked_is_ours : (c : Cell) (o : Operation) (wish : Wish) (a : Ask) → ask_for c o wish ≡ Some a → IsOurs c a
asked_is_ours c o (WishStore p) a z = at (slice_get c.entries p) refl z
  where
    at : (e : Option Entry) → slice_get c.entries p ≡ e → option_map (λ x. Store p x) e ≡ Some a → IsOurs c a
    at None i y = absurd (none-some a y)
    at (Some e) i y = subst (IsOurs c) (same_Some _ _ y) i
asked_is_ours c o WishSeal a z = at _ z
  where
    at : (b : Bool) → (if b then Some Seal else None) ≡ Some a → IsOurs c a
    at true y = subst (IsOurs c) (same_Some Seal a y) tt
    at false y = absurd (none-some a y)
asked_is_ours c o WishTail a z = subst (IsOurs c) (same_Some Tail a z) tt
asked_is_ours c o (WishRepair p) a z = at (slice_get c.entries p) refl z
  where
    at : (e : Option Entry) → slice_get c.entries p ≡ e → option_map (λ x. Repair p x) e ≡ Some a → IsOurs c a
    at None i y = absurd (none-some a y)
    at (Some e) i y = subst (IsOurs c) (same_Some _ _ y) i
asked_is_ours c o WishRead a z = at o.aim z
  where
    at : (aim : Aim) → ask_read aim ≡ Some a → IsOurs c a
    at (AimRead p) y = subst (IsOurs c) (same_Some (Read p) a y) tt
    at _ y = absurd (none-some a y)
asked_is_ours c o WishTrim a z = subst (IsOurs c) (same_Some (Trim c.cut) a z) (omega arith)

is_known : (c : Cell) (t : ℕ) → not (operation c t).closed ≡ true → t < length c.operations
is_known c t w = by (cases_lt t (length c.operations))
  where
    by : ((t < length c.operations) ⊎ (length c.operations ≤ t)) → t < length c.operations
    by (inl l) = l
    by (inr l) = absurd (false≢true (ap (λ (o : Operation). not o.closed) (sym (get_or_past c.operations t no_operation l)) ∙ w))

pub send_keeps : (c : Cell) (t i : ℕ) (wish : Wish) → QuorumLaw c → QuorumLaw (send c t i wish)
send_keeps c t i wish law = by (not (operation c t).closed && nat_lt i (length c.servers)) refl
  where
    by : (b : Bool) → (not (operation c t).closed && nat_lt i (length c.servers)) ≡ b → QuorumLaw (if b then sent c t i (ask_for c (operation c t) wish) else c)
    by false w = law
    by true w = sent_keeps c t i (ask_for c (operation c t) wish) law (is_known c t (and_parts _ _ w).0) (asked_is_ours c (operation c t) wish)

---- an operation begins

cut_rises : (c : Cell) (aim : Aim) → c.cut ≤ cut_after c aim
cut_rises c (AimTrim n) = omega arith
cut_rises c _ = omega arith

cut_reached : (c : Cell) (aim : Aim) → c.cut ≤ c.reach → cut_after c aim ≤ c.reach
cut_reached c (AimTrim n) h = omega arith
cut_reached c _ h = h

entries_stay : (c : Cell) (aim : Aim) (k : ℕ) (e : Entry) → slice_get c.entries k ≡ Some e → slice_get (entries_after c aim) k ≡ Some e
entries_stay c (AimAppend x) k e h = slice_get_more c.entries x k e h
entries_stay c _ k e h = h

entries_more : (c : Cell) (aim : Aim) → length c.entries ≤ length (entries_after c aim)
entries_more c (AimAppend x) = omega (arith, length-append c.entries (x ∷ []))
entries_more c _ = omega arith

begun_placed : (c : Cell) (aim : Aim) (e : Entry) → aim ≡ AimAppend e → (wanted c aim ≡ length c.entries + 1) × (slice_get (entries_after c aim) (length c.entries) ≡ Some e)
begun_placed c (AimAppend x) e z = let same : x ≡ e = cc in (refl, slice_get_push_new c.entries x (length c.entries) refl ∙ ap Some same)
begun_placed c _ e z = absurd (cc)

begun_settled : (c : Cell) (aim : Aim) (n : ℕ) → aim ≡ AimSettle n → wanted c aim ≡ min n (length c.entries)
begun_settled c (AimSettle m) n z = let same : m ≡ n = cc in ap (λ k. min k (length c.entries)) same
begun_settled c _ n z = absurd (cc)

begun_trimmed : (c : Cell) (aim : Aim) (n : ℕ) → aim ≡ AimTrim n → min n c.reach ≤ wanted c aim
begun_trimmed c (AimTrim m) n z = let same : m ≡ n = cc in rw same (omega arith)
begun_trimmed c _ n z = absurd (cc)

less_than : (a b : ℕ) → a ≤ b → (a == b) ≡ false → a < b
less_than a b le h = by (cases_lt a b)
  where
    by : ((a < b) ⊎ (b ≤ a)) → a < b
    by (inl l) = l
    by (inr l) = let e : a ≡ b = omega arith in absurd (false≢true (sym h ∙ eq-eqb a b e))

entries_fit : (c : Cell) (aim : Aim) → length c.entries ≤ c.room → (is_append aim && (length c.entries == c.room)) ≡ false → length (entries_after c aim) ≤ c.room
entries_fit c (AimAppend x) le h = omega (arith, less_than _ _ le h, length-append c.entries (x ∷ []))
entries_fit c _ le h = le

begun_down : (c : Cell) (i : ℕ) → (server c i).up ≡ false → (not (server c i).up || faulted c.faults (length c.faults) i) ≡ true
begun_down c i e = or_left _ _ (not_from_false _ e)

pub admit_later : (c : Cell) (aim : Aim) → Later c (admit c aim)
admit_later c aim = record {
  most = refl;
  limit = refl;
  servers = refl;
  grows = λ j. grows_same (server c j);
  entries = entries_stay c aim;
  room = entries_more c aim;
  cut = cut_rises c aim;
  reach = omega arith;
  firm = omega arith;
  cap = cap_stays c.cap;
  tickets = omega (arith, length-append c.operations (begun c aim ∷ []));
  seals = omega (arith, sum_by-append (λ (x : Operation). cond (is_seal x.aim) 1 0) c.operations (begun c aim ∷ []));
  before = λ k lt. ap (λ (x : Operation). x.servers_before) (get_or_append_left c.operations (begun c aim ∷ []) no_operation k lt);
  faults_before = λ k lt. ap (λ (x : Operation). x.faults_before) (get_or_append_left c.operations (begun c aim ∷ []) no_operation k lt);
  faults = omega arith;
  faulted_still = λ b i _ h. h;
}

admit_keeps : (c : Cell) (aim : Aim) → is_full c aim ≡ false → QuorumLaw c → QuorumLaw (admit c aim)
admit_keeps c aim space law =
    let d : Cell = admit c aim in
    let left : ((is_append aim && (length c.entries == c.room)) ≡ false) × ((length c.operations == c.limit) ≡ false) = or_parts _ _ space in
    let o : Operation = begun c aim in
    let l : Later c d = admit_later c aim in
    record {
      some = law.some;
      servers = λ j. server_later c d l (server c j) (law.servers j);
      requests = All-weaker (RequestHolds c) (RequestHolds d) (request_later c d l) c.requests law.requests;
      replies = All-weaker (ReplyHolds c) (ReplyHolds d) (reply_later c d l (faults_known c law)) c.replies law.replies;
      operations = at_push (λ j new. OperationHolds d j new) c.operations o no_operation (λ j. operation_later c d l (λ r h. h) j (operation c j) (down_stays c d l refl j (operation c j) (law.operations j)) (law.operations j))
          (record { since = λ i. grows_same (server c i); heard = All-nil (SentFor d (length c.operations)); reach_before = law.reached; size = entries_more c aim; reached = omega arith; firm = omega arith; settled = λ n z. begun_settled c aim n z; trimmed = λ n z. begun_trimmed c aim n z; ungiven = λ _. refl; placed = begun_placed c aim; faults = omega arith; down = λ i e. begun_down c i e; lost = All-nil (λ (l : Loss). faulted c.faults (length c.faults) l.server ≡ true); justified = λ a z. absurd (none-some a z) });
      fits = entries_fit c aim law.fits left.0;
      tickets = omega (arith, less_than _ _ law.tickets left.1, length-append c.operations (o ∷ []));
      cut = cut_reached c aim law.cut;
      ordered = law.ordered;
      cap_shown = law.cap_shown;
      reached = law.reached;
      firm = law.firm;
      capped = law.capped;
    }

pub begin_keeps : (c : Cell) (aim : Aim) → QuorumLaw c → QuorumLaw (begin c aim)
begin_keeps c aim law = by (is_full c aim) refl
  where
    by : (b : Bool) → is_full c aim ≡ b → QuorumLaw (if b then with_fault c (length c.servers) else admit c aim)
    by true _ = fault_keeps c (length c.servers) law
    by false space = admit_keeps c aim space law

---- an operation is closed

pub forget_keeps : (c : Cell) (t : ℕ) → QuorumLaw c → QuorumLaw (forget c t)
forget_keeps c t law = by (operation c t).closed
  where
    by : (b : Bool) → QuorumLaw (if b then c else put_operation c t (record (operation c t) { closed = true }))
    by true = law
    by false = tallied_keeps c t (record (operation c t) { closed = true }) c.reach c.firm c.cap law refl refl refl (omega arith) (omega arith) (cap_stays c.cap)
        (record {
          since = (law.operations t).since;
          heard = (law.operations t).heard;
          reach_before = (law.operations t).reach_before;
          size = (law.operations t).size;
          reached = (law.operations t).reached;
          firm = (law.operations t).firm;
          settled = (law.operations t).settled;
          trimmed = (law.operations t).trimmed;
          ungiven = λ e. absurd (false≢true (sym e));
          placed = (law.operations t).placed;
          faults = (law.operations t).faults;
          down = (law.operations t).down;
          lost = (law.operations t).lost;
          justified = (law.operations t).justified;
        })
        law.cut law.ordered law.cap_shown law.reached law.firm law.capped
