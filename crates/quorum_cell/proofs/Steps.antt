-- Each step keeps the quorum law.
use Rattle.std.proofs.Common.{length-append, ◌≡◌, ℕ, ◌<◌, ◌≤◌, Bool, true, false, refl, ap, sym, ◌∙◌, subst, arith, [], ◌∷◌, length, get_or, set, Option, Some, None, inl, inr}
use Rattle.std.specs.Prelude.{if◌then◌else◌, ◌⊎◌, ◌&&◌, not, nat_lt, unwrap_or}
use Rattle.std.proofs.lemmas.Bool.{or_right}
use Rattle.std.proofs.lemmas.Bool.{leb-true, false≢true, cases_lt}
use Rattle.std.proofs.lemmas.Option.{none-some, same_Some}
use Rattle.std.proofs.lemmas.List.{length-set, get_or-set_same, get_or_past}
use Rattle.std.proofs.lemmas.List.Elements.{All-weaker, All-push, Contains-append_left}
use Rattle.quorum_cell.specs.declared.message.Ask.{Ask}
use Rattle.quorum_cell.specs.declared.message.Told.{Told}
use Rattle.quorum_cell.specs.declared.message.Told.TheVariants.{Down, DiskFault}
use Rattle.quorum_cell.specs.declared.message.Request.{Request}
use Rattle.quorum_cell.specs.declared.message.Reply.{Reply}
use Rattle.quorum_cell.specs.Servers.{Server, length_of, unsealed_length, told_up, writes, written, restarted}
use Rattle.quorum_cell.specs.Cells.{Cell, Operation, server, operation, server_before, no_server}
use Rattle.quorum_cell.specs.Steps.{answered, request_comes, request_stops, restart, restart_fails, with_fault}
use Rattle.quorum_cell.specs.Law.{Grows, IsOurs, ServerHolds, RequestHolds, ReplyHolds, OperationHolds, QuorumLaw, Later, failed_since}
use Rattle.majority_rule.proofs.Majorities.{majorities_meet}
use Rattle.quorum_cell.proofs.Growing.{grows_same, written_grows, restarted_grows}
use Rattle.quorum_cell.proofs.Lists.{at_set, faulted_more, faulted_now}
use Rattle.quorum_cell.proofs.Table.{Fits, answer_fits, answer_got, answer_trimmed, written_holds, aside_holds, restarted_holds, up_not_failed, written_up, restarted_up}
use Rattle.quorum_cell.proofs.Laters.{server_later, request_later, reply_later, operation_later, reached_later, firm_later, capped_later, was_open, cap_stays, down_later}

---- what follows at once

-- no server is longer than the entries begun
pub unsealed_within : (c : Cell) (s : Server) → ServerHolds c s → unsealed_length s ≤ length_of s
unsealed_within c s h = at s.sealed_at refl
  where
    at : (z : Option ℕ) → s.sealed_at ≡ z → unwrap_or z (length_of s) ≤ length_of s
    at None e = omega arith
    at (Some n) e = h.sealed n e

pub reach_within : (c : Cell) → QuorumLaw c → c.reach ≤ length c.entries
reach_within c law =
    let some_one = majorities_meet (length c.servers) _ _ law.reached law.reached in
    let i : ℕ = some_one.0 in
    omega (arith, leb-true _ _ some_one.2, unsealed_within c (server c i) (law.servers i), (law.servers i).within)

pub cut_within : (c : Cell) → QuorumLaw c → c.cut ≤ length c.entries
cut_within c law = omega (arith, law.cut, reach_within c law)

pub is_there : (c : Cell) (i : ℕ) → (server c i).up ≡ true → i < length c.servers
is_there c i up = by (cases_lt i (length c.servers))
  where
    by : ((i < length c.servers) ⊎ (length c.servers ≤ i)) → i < length c.servers
    by (inl l) = l
    by (inr l) = absurd (false≢true (ap (λ (s : Server). s.up) (sym (get_or_past c.servers i no_server l)) ∙ up))

---- a server answers

pub answered_later : (c : Cell) (q : Request) (s : Server) (t : Told) → Grows (server c q.server) s → Later c (answered c q s t)
answered_later c q s t g = record {
  most = refl;
  limit = refl;
  servers = length-set c.servers q.server s;
  grows = at_set (λ j new. Grows (server c j) new) c.servers q.server s no_server (λ j. grows_same (server c j)) (λ _. g);
  entries = λ k e h. h;
  room = omega arith;
  cut = omega arith;
  tickets = omega arith;
  reach = omega arith;
  firm = omega arith;
  cap = cap_stays c.cap;
  seals = omega arith;
  before = λ t _. refl;
  faults_before = λ t _. refl;
  faults = omega arith;
  faulted_still = λ b i _ h. h;
}

-- a server that is down was down or failed since, and so is the one put in the place of i
pub down_put : (c d : Cell) → Later c d → (i : ℕ) (s : Server) → d.servers ≡ set c.servers i s → (t : ℕ) (o : Operation) → OperationHolds c t o → (s.up ≡ false → failed_since c o i ≡ true) →
    (j : ℕ) → (server d j).up ≡ false → failed_since d o j ≡ true
down_put c d l i s is t o h new j e =
    at_set (λ k (x : Server). x.up ≡ false → failed_since d o k ≡ true) c.servers i s no_server (λ k e. down_later c d l o k h.faults (h.down k e)) (λ _ e. down_later c d l o i h.faults (new e)) j (subst (λ ss. (get_or ss j no_server).up ≡ false) is e)

pub down_stays : (c d : Cell) → Later c d → d.servers ≡ c.servers → (t : ℕ) (o : Operation) → OperationHolds c t o → (j : ℕ) → (server d j).up ≡ false → failed_since d o j ≡ true
down_stays c d l same t o h j e = down_later c d l o j h.faults (h.down j (subst (λ ss. (get_or ss j no_server).up ≡ false) same e))

-- each operation began with no more faults than there are
pub faults_known : (c : Cell) → QuorumLaw c → (t : ℕ) → (operation c t).faults_before ≤ length c.faults
faults_known c law t = (law.operations t).faults

pub answered_keeps : (c : Cell) (q : Request) (s : Server) (t : Told) → QuorumLaw c → Grows (server c q.server) s → ServerHolds c s →
    ((k : ℕ) → s.up ≡ false → failed_since c (operation c k) q.server ≡ true) →
    ReplyHolds (answered c q s t) (record { ticket = q.ticket; server = q.server; ask = q.ask; told = t }) → QuorumLaw (answered c q s t)
answered_keeps c q s t law g sh dn rh =
    let d : Cell = answered c q s t in
    let r : Reply = record { ticket = q.ticket; server = q.server; ask = q.ask; told = t } in
    let l : Later c d = answered_later c q s t g in
    record {
      some = omega (arith, law.some, l.servers);
      servers = at_set (λ j new. ServerHolds d new) c.servers q.server s no_server (λ j. server_later c d l (server c j) (law.servers j)) (λ _. server_later c d l s sh);
      requests = All-weaker (RequestHolds c) (RequestHolds d) (request_later c d l) c.requests law.requests;
      replies = All-push (ReplyHolds d) c.replies r (All-weaker (ReplyHolds c) (ReplyHolds d) (reply_later c d l (faults_known c law)) c.replies law.replies) rh;
      operations = λ k. operation_later c d l (Contains-append_left c.replies (r ∷ [])) k (operation c k) (down_put c d l q.server s refl k (operation c k) (law.operations k) (dn k)) (law.operations k);
      fits = law.fits;
      tickets = law.tickets;
      cut = law.cut;
      ordered = law.ordered;
      cap_shown = law.cap_shown;
      reached = reached_later c d l c.reach law.reached;
      firm = firm_later c d l c.firm law.firm;
      capped = λ n z. capped_later c d l n (law.capped n z);
    }

-- a server that is up answers by the table
reply_up : (c : Cell) (q : Request) → QuorumLaw c → RequestHolds c q → (server c q.server).up ≡ true →
    ReplyHolds (answered c q (written (server c q.server) q.ask) (told_up (server c q.server) q.ask)) (record { ticket = q.ticket; server = q.server; ask = q.ask; told = told_up (server c q.server) q.ask })
reply_up c q law rh up =
    let i : ℕ = q.server in
    let s : Server = server c i in
    let t : Told = told_up s q.ask in
    let new : Server = written s q.ask in
    let there : i < length c.servers = is_there c i up in
    let here : get_or (set c.servers i new) i no_server ≡ new = get_or-set_same c.servers i new no_server there in
    let fits : Fits s new q.ask t = answer_fits s q.ask (law.servers i).sealed in
    let g : Grows (server_before (operation c q.ticket) i) s = (law.operations q.ticket).since i in
    record {
      known = rh.known;
      opened = λ n z. (rw here (fits.opened n z).2, was_open _ s g (fits.opened n z).0, omega (arith, g.longer, (fits.opened n z).1));
      sealed = λ n z. rw here (fits.sealed n z);
      mended = λ n z. rw here (fits.mended n z);
      got = λ p e is_read is_got. answer_got c s q.ask p e (law.servers i) is_read is_got;
      trimmed = λ n z. rw here (answer_trimmed s q.ask n z);
      failed = λ z. absurd (up_not_failed s q.ask z);
    }

-- an answer that tells nothing but a failure
down_tells : (d : Cell) (q : Request) → q.ticket < length d.operations → failed_since d (operation d q.ticket) q.server ≡ true → ReplyHolds d (record { ticket = q.ticket; server = q.server; ask = q.ask; told = Down })
down_tells d q known failed = record { known = known; opened = λ n z. absurd (none-some n z); sealed = λ n z. absurd (none-some n z); mended = λ n z. absurd (none-some n z); got = λ p e i j. absurd (cc); trimmed = λ n z. absurd (cc); failed = λ _. failed }

fault_tells : (d : Cell) (q : Request) → q.ticket < length d.operations → failed_since d (operation d q.ticket) q.server ≡ true → ReplyHolds d (record { ticket = q.ticket; server = q.server; ask = q.ask; told = DiskFault })
fault_tells d q known failed = record { known = known; opened = λ n z. absurd (none-some n z); sealed = λ n z. absurd (none-some n z); mended = λ n z. absurd (none-some n z); got = λ p e i j. absurd (cc); trimmed = λ n z. absurd (cc); failed = λ _. failed }

pub request_comes_keeps : (c : Cell) (q : Request) → QuorumLaw c → RequestHolds c q → QuorumLaw (request_comes c (Some q))
request_comes_keeps c q law rh = by (server c q.server).up refl
  where
    by : (b : Bool) → (server c q.server).up ≡ b → QuorumLaw (answered c q (if b then written (server c q.server) q.ask else server c q.server) (if b then told_up (server c q.server) q.ask else Down))
    by true up = answered_keeps c q _ _ law (written_grows (server c q.server) q.ask) (written_holds c (server c q.server) q.ask (cut_within c law) rh.ours (law.servers q.server))
        (λ k e. absurd (false≢true (sym e ∙ written_up (server c q.server) q.ask ∙ up))) (reply_up c q law rh up)
    by false down = answered_keeps c q _ _ law (grows_same (server c q.server)) (law.servers q.server) (λ k e. (law.operations k).down q.server e) (down_tells _ q rh.known ((law.operations q.ticket).down q.server down))

---- a fault is counted

pub fault_later : (c : Cell) (i : ℕ) → Later c (with_fault c i)
fault_later c i = record {
  most = refl;
  limit = refl;
  servers = refl;
  grows = λ j. grows_same (server c j);
  entries = λ k e h. h;
  room = omega arith;
  cut = omega arith;
  reach = omega arith;
  firm = omega arith;
  cap = cap_stays c.cap;
  tickets = omega arith;
  seals = omega arith;
  before = λ t _. refl;
  faults_before = λ t _. refl;
  faults = omega (arith, length-append c.faults (i ∷ []));
  faulted_still = λ b j _ h. faulted_more c.faults b j i h;
}

pub fault_keeps : (c : Cell) (i : ℕ) → QuorumLaw c → QuorumLaw (with_fault c i)
fault_keeps c i law =
    let d : Cell = with_fault c i in
    let l : Later c d = fault_later c i in
    record {
      some = law.some;
      servers = λ j. server_later c d l (server c j) (law.servers j);
      requests = All-weaker (RequestHolds c) (RequestHolds d) (request_later c d l) c.requests law.requests;
      replies = All-weaker (ReplyHolds c) (ReplyHolds d) (reply_later c d l (faults_known c law)) c.replies law.replies;
      operations = λ k. operation_later c d l (λ r h. h) k (operation c k) (down_stays c d l refl k (operation c k) (law.operations k)) (law.operations k);
      fits = law.fits;
      tickets = law.tickets;
      cut = law.cut;
      ordered = law.ordered;
      cap_shown = law.cap_shown;
      reached = law.reached;
      firm = law.firm;
      capped = law.capped;
    }

-- a server stops inside a write
pub stopped_grows : (s : Server) (w : Option Ask) → Grows s (record s { up = false; torn = w })
stopped_grows s w = record { base = omega arith; longer = omega arith; sealed = λ e. refl; unsealed = omega arith }

pub request_stops_keeps : (c : Cell) (q : Request) → QuorumLaw c → RequestHolds c q → QuorumLaw (request_stops c (Some q))
request_stops_keeps c q law rh = by ((server c q.server).up && writes (server c q.server) q.ask)
  where
    by : (b : Bool) → QuorumLaw (if b then answered (with_fault c q.server) q (record (server c q.server) { up = false; torn = Some q.ask }) DiskFault else c)
    by true =
        let d : Cell = with_fault c q.server in
        let dlaw : QuorumLaw d = fault_keeps c q.server law in
        let now : (k : ℕ) → failed_since d (operation d k) q.server ≡ true = λ k. or_right _ _ (faulted_now c.faults (operation c k).faults_before q.server (faults_known c law k)) in
        answered_keeps d q _ _ dlaw (stopped_grows (server c q.server) (Some q.ask)) (aside_holds d (server c q.server) false (Some q.ask) (λ ask z. subst (IsOurs d) (same_Some _ _ z) (request_later c d (fault_later c q.server) q rh).ours) (dlaw.servers q.server))
        (λ k _. now k) (fault_tells _ q rh.known (now q.ticket))
    by false = law

---- a server comes up again

pub replaced_later : (c : Cell) (i : ℕ) (s : Server) → Grows (server c i) s → Later c (record c { servers = set c.servers i s })
replaced_later c i s g = record {
  most = refl;
  limit = refl;
  servers = length-set c.servers i s;
  grows = at_set (λ j new. Grows (server c j) new) c.servers i s no_server (λ j. grows_same (server c j)) (λ _. g);
  entries = λ k e h. h;
  room = omega arith;
  cut = omega arith;
  reach = omega arith;
  firm = omega arith;
  cap = cap_stays c.cap;
  tickets = omega arith;
  seals = omega arith;
  before = λ t _. refl;
  faults_before = λ t _. refl;
  faults = omega arith;
  faulted_still = λ b i _ h. h;
}

pub replaced_keeps : (c : Cell) (i : ℕ) (s : Server) → QuorumLaw c → Grows (server c i) s → ServerHolds c s → s.up ≡ true → QuorumLaw (record c { servers = set c.servers i s })
replaced_keeps c i s law g sh up =
    let d : Cell = record c { servers = set c.servers i s } in
    let l : Later c d = replaced_later c i s g in
    record {
      some = omega (arith, law.some, l.servers);
      servers = at_set (λ j new. ServerHolds d new) c.servers i s no_server (λ j. server_later c d l (server c j) (law.servers j)) (λ _. server_later c d l s sh);
      requests = All-weaker (RequestHolds c) (RequestHolds d) (request_later c d l) c.requests law.requests;
      replies = All-weaker (ReplyHolds c) (ReplyHolds d) (reply_later c d l (faults_known c law)) c.replies law.replies;
      operations = λ k. operation_later c d l (λ r h. h) k (operation c k) (down_put c d l i s refl k (operation c k) (law.operations k) (λ e. absurd (false≢true (sym e ∙ up)))) (law.operations k);
      fits = law.fits;
      tickets = law.tickets;
      cut = law.cut;
      ordered = law.ordered;
      cap_shown = law.cap_shown;
      reached = reached_later c d l c.reach law.reached;
      firm = firm_later c d l c.firm law.firm;
      capped = λ n z. capped_later c d l n (law.capped n z);
    }

pub restart_keeps : (c : Cell) (i : ℕ) (kept : Bool) → QuorumLaw c → QuorumLaw (restart c i kept)
restart_keeps c i kept law = by (server c i).up
  where
    by : (b : Bool) → QuorumLaw (if b then c else record c { servers = set c.servers i (restarted (server c i) kept (server c i).torn) })
    by true = law
    by false = replaced_keeps c i _ law (restarted_grows (server c i) kept (server c i).torn) (restarted_holds c (server c i) kept (server c i).torn (cut_within c law) (law.servers i).torn (law.servers i)) (restarted_up (server c i) kept (server c i).torn)

pub restart_fails_keeps : (c : Cell) (i : ℕ) → QuorumLaw c → QuorumLaw (restart_fails c i)
restart_fails_keeps c i law = by (nat_lt i (length c.servers) && not (server c i).up)
  where
    by : (b : Bool) → QuorumLaw (if b then with_fault c i else c)
    by true = fault_keeps c i law
    by false = law
