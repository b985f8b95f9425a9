-- The quorum law over every list of steps, and what follows.
use Rattle.std.proofs.Common.{◌≡◌, ℕ, zero, suc, ◌<◌, ◌≤◌, Bool, true, false, refl, ◌∙◌, arith, List, [], ◌∷◌, ◌++◌, length, get_or, set, Option, Some, None, replicate}
use Rattle.std.specs.Prelude.{if◌then◌else◌, ◌&&◌, not, nat_le, nat_lt, slice_get, max}
use Rattle.std.proofs.lemmas.Bool.{le-leb, false≢true}
use Rattle.std.proofs.lemmas.Option.{none-some}
use Rattle.std.proofs.lemmas.List.{length-replicate}
use Rattle.std.proofs.lemmas.List.Elements.{All-nil}
use Rattle.quorum_cell.specs.declared.operation.Aim.{Aim}
use Rattle.quorum_cell.specs.declared.operation.Outcome.{Outcome}
use Rattle.quorum_cell.specs.declared.message.Request.{Request}
use Rattle.quorum_cell.specs.declared.message.Reply.{Reply}
use Rattle.quorum_cell.specs.declared.operation.CellStep.{CellStep}
use Rattle.quorum_cell.specs.declared.operation.CellStep.TheVariants.{Begin, Send, RequestComes, RequestStops, ReplyComes, Lose, Restart, RestartFails, Decide, Take, Forget}
use Rattle.quorum_cell.specs.Servers.{Server, length_of, unsealed_length}
use Rattle.quorum_cell.specs.declared.operation.Loss.{Loss}
use Rattle.quorum_cell.specs.Cells.{Cell, server, operation, server_before, no_server, no_operation, start}
use Rattle.quorum_cell.specs.Tallies.{may_decide}
use Rattle.quorum_cell.specs.Steps.{request_comes, request_stops, reply_comes, lose, cell_step, run_cell, reached, answered, restart, waits, decide, give, shown, cap_after, take_outcome, sent, send, ask_for, is_full, begin, admit, with_fault, put_operation, restart_fails, forget, given_outcome}
use Rattle.quorum_cell.specs.Law.{Grows, ServerHolds, RequestHolds, ReplyHolds, SentFor, QuorumLaw, Later, faulted}
use Rattle.majority_rule.proofs.Majorities.{all_is_majority}
use Rattle.quorum_cell.proofs.Growing.{grows_same, grows_twice, written_grows, restarted_grows}
use Rattle.quorum_cell.proofs.Lists.{contained}
use Rattle.quorum_cell.specs.declared.message.Ask.{Ask}
use Rattle.quorum_cell.specs.declared.message.Told.TheVariants.{Down, DiskFault}
use Rattle.quorum_cell.specs.declared.operation.Wish.{Wish}
use Rattle.quorum_cell.specs.Servers.{told_up, writes, written, restarted}
use Rattle.quorum_cell.proofs.Steps.{answered_later, fault_later, replaced_later, stopped_grows, request_comes_keeps, request_stops_keeps, restart_keeps, restart_fails_keeps}
use Rattle.quorum_cell.proofs.Tallies.{reply_comes_keeps, lose_keeps, decide_keeps, send_keeps, begin_keeps, forget_keeps, admit_later, tallied_later, lost_more}
use Rattle.quorum_cell.proofs.Votes.{take_keeps, cap_lowers}
use Rattle.quorum_cell.proofs.Laters.{cap_stays}
use Rattle.std.proofs.lemmas.List.Elements.{All-contains}

---- the first cell

at_replicate : {X : Type 0} (P : X → Type 0) (n : ℕ) (x d : X) → P x → P d → (i : ℕ) → P (get_or (replicate n x) i d)
at_replicate P zero x d p q i = q
at_replicate P (suc n) x d p q zero = p
at_replicate P (suc n) x d p q (suc i) = at_replicate P n x d p q i

empty_holds : (c : Cell) (up : Bool) → ServerHolds c (record no_server { up = up })
empty_holds c up = record { same = λ k l. absurd (omega arith); trimmed = omega arith; within = omega arith; sealed = λ n z. absurd (none-some n z); torn = λ a z. absurd (none-some a z) }

-- nothing is sealed, and each length is at least 0
no_operation_grows : (s : Server) → Grows no_server s
no_operation_grows s = record { base = omega arith; longer = omega arith; sealed = λ e. absurd (false≢true e); unsealed = omega arith }

pub start_keeps : (n room limit : ℕ) → 0 < n → QuorumLaw (start n room limit)
start_keeps n room limit some =
    let c : Cell = start n room limit in
    let count : length c.servers ≡ n = length-replicate n (record no_server { up = true }) in
    record {
      some = omega (arith, count);
      servers = at_replicate (ServerHolds c) n (record no_server { up = true }) no_server (empty_holds c true) (empty_holds c false);
      requests = All-nil (RequestHolds c);
      replies = All-nil (ReplyHolds c);
      operations = λ t. record {
        since = λ i. no_operation_grows (server c i);
        heard = All-nil (SentFor c t);
        reach_before = all_is_majority (length c.servers) (λ i. nat_le 0 (unsealed_length (server_before no_operation i))) (omega (arith, count)) (λ i. le-leb 0 (unsealed_length (server_before no_operation i)) (omega arith));
        size = omega arith;
        reached = omega arith;
        firm = omega arith;
        settled = λ n z. absurd (cc);
        trimmed = λ n z. absurd (cc);
        ungiven = λ _. refl;
        placed = λ e z. absurd (cc);
        faults = omega arith;
        down = λ i e. refl;
        lost = All-nil (λ (l : Loss). faulted [] 0 l.server ≡ true);
        justified = λ a z. absurd (none-some a z);
      };
      fits = omega arith;
      tickets = omega arith;
      cut = omega arith;
      ordered = omega arith;
      cap_shown = λ t z. absurd (none-some t z);
      reached = all_is_majority (length c.servers) (λ i. nat_le 0 (unsealed_length (server c i))) (omega (arith, count)) (λ i. le-leb _ _ (omega arith));
      firm = all_is_majority (length c.servers) (λ i. nat_le 0 (length_of (server c i))) (omega (arith, count)) (λ i. le-leb _ _ (omega arith));
      capped = λ t z. absurd (none-some t z);
    }

---- every step

pub step_keeps : (c : Cell) (step : CellStep) → QuorumLaw c → QuorumLaw (cell_step c step)
step_keeps c (Begin aim) law = begin_keeps c aim law
step_keeps c (Send t i wish) law = send_keeps c t i wish law
step_keeps c (RequestComes k) law = at (slice_get c.requests k) refl
  where
    at : (q : Option Request) → slice_get c.requests k ≡ q → QuorumLaw (request_comes c q)
    at None e = law
    at (Some q) e = request_comes_keeps c q law (All-contains (RequestHolds c) c.requests q law.requests (contained c.requests k q e))
step_keeps c (RequestStops k) law = at (slice_get c.requests k) refl
  where
    at : (q : Option Request) → slice_get c.requests k ≡ q → QuorumLaw (request_stops c q)
    at None e = law
    at (Some q) e = request_stops_keeps c q law (All-contains (RequestHolds c) c.requests q law.requests (contained c.requests k q e))
step_keeps c (ReplyComes k) law = at (slice_get c.replies k) refl
  where
    at : (r : Option Reply) → slice_get c.replies k ≡ r → QuorumLaw (reply_comes c r)
    at None e = law
    at (Some r) e = reply_comes_keeps c k r law e
step_keeps c (Lose k) law = at (slice_get c.requests k)
  where
    at : (q : Option Request) → QuorumLaw (lose c k q)
    at None = law
    at (Some q) = lose_keeps c k q law
step_keeps c (Restart i kept) law = restart_keeps c i kept law
step_keeps c (RestartFails i) law = restart_fails_keeps c i law
step_keeps c (Decide t a) law = decide_keeps c t a law
step_keeps c (Take t) law = take_keeps c t law
step_keeps c (Forget t) law = forget_keeps c t law

pub run_keeps : (steps : List CellStep) (c : Cell) → QuorumLaw c → QuorumLaw (run_cell steps c)
run_keeps [] c law = law
run_keeps (step ∷ steps) c law = run_keeps steps (cell_step c step) (step_keeps c step law)

pub quorum_law : (n room limit : ℕ) (steps : List CellStep) → 0 < n → QuorumLaw (run_cell steps (start n room limit))
quorum_law n room limit steps some = run_keeps steps (start n room limit) (start_keeps n room limit some)

---- a step leads to a later cell

pub later_same : (c : Cell) → Later c c
later_same c = record { most = refl; limit = refl; servers = refl; grows = λ i. grows_same (server c i); entries = λ k e h. h; room = omega arith; cut = omega arith; reach = omega arith; firm = omega arith; cap = cap_stays c.cap; tickets = omega arith; seals = omega arith; before = λ t _. refl; faults_before = λ t _. refl; faults = omega arith; faulted_still = λ b i _ h. h }

pub later_twice : (a b c : Cell) → Later a b → Later b c → Later a c
later_twice a b c l m = record {
  most = m.most ∙ l.most;
  limit = m.limit ∙ l.limit;
  servers = m.servers ∙ l.servers;
  grows = λ i. grows_twice (server a i) (server b i) (server c i) (l.grows i) (m.grows i);
  entries = λ k e h. m.entries k e (l.entries k e h);
  room = omega (arith, l.room, m.room);
  cut = omega (arith, l.cut, m.cut);
  reach = omega (arith, l.reach, m.reach);
  firm = omega (arith, l.firm, m.firm);
  cap = λ t e. let u : (u : ℕ) × (b.cap ≡ Some u) × (u ≤ t) = l.cap t e in let v : (v : ℕ) × (c.cap ≡ Some v) × (v ≤ u.0) = m.cap u.0 u.1 in (v.0, v.1, omega (arith, u.2, v.2));
  tickets = omega (arith, l.tickets, m.tickets);
  seals = omega (arith, l.seals, m.seals);
  before = λ t h. m.before t (omega (arith, h, l.tickets)) ∙ l.before t h;
  faults_before = λ t h. m.faults_before t (omega (arith, h, l.tickets)) ∙ l.faults_before t h;
  faults = omega (arith, l.faults, m.faults);
  faulted_still = λ b i le h. m.faulted_still b i (omega (arith, le, l.faults)) (l.faulted_still b i le h);
}

comes_later : (c : Cell) (q : Option Request) → Later c (request_comes c q)
comes_later c None = later_same c
comes_later c (Some q) = by (server c q.server).up
  where
    by : (b : Bool) → Later c (answered c q (if b then written (server c q.server) q.ask else server c q.server) (if b then told_up (server c q.server) q.ask else Down))
    by true = answered_later c q (written (server c q.server) q.ask) (told_up (server c q.server) q.ask) (written_grows (server c q.server) q.ask)
    by false = answered_later c q (server c q.server) Down (grows_same (server c q.server))

stops_later : (c : Cell) (q : Option Request) → Later c (request_stops c q)
stops_later c None = later_same c
stops_later c (Some q) = by ((server c q.server).up && writes (server c q.server) q.ask)
  where
    by : (b : Bool) → Later c (if b then answered (with_fault c q.server) q (record (server c q.server) { up = false; torn = Some q.ask }) DiskFault else c)
    by true = let d : Cell = with_fault c q.server in
        later_twice c d _ (fault_later c q.server) (answered_later d q (record (server c q.server) { up = false; torn = Some q.ask }) DiskFault (stopped_grows (server c q.server) (Some q.ask)))
    by false = later_same c

restart_later : (c : Cell) (i : ℕ) (kept : Bool) → Later c (restart c i kept)
restart_later c i kept = by (server c i).up
  where
    by : (b : Bool) → Later c (if b then c else record c { servers = set c.servers i (restarted (server c i) kept (server c i).torn) })
    by true = later_same c
    by false = replaced_later c i (restarted (server c i) kept (server c i).torn) (restarted_grows (server c i) kept (server c i).torn)

reply_later_cell : (c : Cell) (r : Option Reply) → Later c (reply_comes c r)
reply_later_cell c None = later_same c
reply_later_cell c (Some r) = by (waits (operation c r.ticket))
  where
    by : (b : Bool) → Later c (if b then put_operation c r.ticket (record (operation c r.ticket) { heard = (operation c r.ticket).heard ++ r ∷ [] }) else c)
    by true = tallied_later c r.ticket (record (operation c r.ticket) { heard = (operation c r.ticket).heard ++ r ∷ [] }) c.reach c.firm c.cap refl refl refl (omega arith) (omega arith) (cap_stays c.cap)
    by false = later_same c

lose_later : (c : Cell) (k : ℕ) (q : Option Request) → Later c (lose c k q)
lose_later c k None = later_same c
lose_later c k (Some q) = by (waits (operation c q.ticket))
  where
    by : (b : Bool) → Later c (if b then put_operation (with_fault c q.server) q.ticket (lost_more (operation c q.ticket) k q.server) else c)
    by true = let d : Cell = with_fault c q.server in
        later_twice c d _ (fault_later c q.server) (tallied_later d q.ticket (lost_more (operation c q.ticket) k q.server) c.reach c.firm c.cap refl refl refl (omega arith) (omega arith) (cap_stays c.cap))
    by false = later_same c

decide_later : (c : Cell) (t : ℕ) (a : Outcome) → Later c (decide c t a)
decide_later c t a = by (waits (operation c t) && may_decide (length c.servers) c.cut (operation c t) (operation c t).aim a)
  where
    by : (b : Bool) → Later c (if b then put_operation c t (record (operation c t) { decided = Some a }) else c)
    by true = tallied_later c t (record (operation c t) { decided = Some a }) c.reach c.firm c.cap refl refl refl (omega arith) (omega arith) (cap_stays c.cap)
    by false = later_same c

give_later : (c : Cell) (t : ℕ) (a : Option Outcome) → Later c (give c t (operation c t) a)
give_later c t None = later_same c
give_later c t (Some a) = tallied_later c t (record (operation c t) { given = Some (given_outcome c.cut (operation c t).aim a); closed = true }) (max c.reach (reached (operation c t) a)) (max c.firm (shown (operation c t) a)) (cap_after c.cap a) refl refl refl (omega arith) (omega arith) (cap_lowers c.cap a)

take_later : (c : Cell) (t : ℕ) → Later c (take_outcome c t)
take_later c t = by (operation c t).closed
  where
    by : (b : Bool) → Later c (if b then c else give c t (operation c t) (operation c t).decided)
    by true = later_same c
    by false = give_later c t (operation c t).decided

sent_later : (c : Cell) (t i : ℕ) (ask : Option Ask) → Later c (sent c t i ask)
sent_later c t i None = later_same c
sent_later c t i (Some ask) = record { most = refl; limit = refl; servers = refl; grows = λ j. grows_same (server c j); entries = λ k e h. h; room = omega arith; cut = omega arith; reach = omega arith; firm = omega arith; cap = cap_stays c.cap; tickets = omega arith; seals = omega arith; before = λ k _. refl; faults_before = λ k _. refl; faults = omega arith; faulted_still = λ b i _ h. h }

send_later : (c : Cell) (t i : ℕ) (wish : Wish) → Later c (send c t i wish)
send_later c t i wish = by (not (operation c t).closed && nat_lt i (length c.servers))
  where
    by : (b : Bool) → Later c (if b then sent c t i (ask_for c (operation c t) wish) else c)
    by true = sent_later c t i (ask_for c (operation c t) wish)
    by false = later_same c

begin_later : (c : Cell) (aim : Aim) → Later c (begin c aim)
begin_later c aim = by (is_full c aim)
  where
    by : (b : Bool) → Later c (if b then with_fault c (length c.servers) else admit c aim)
    by true = fault_later c (length c.servers)
    by false = admit_later c aim

restart_fails_later : (c : Cell) (i : ℕ) → Later c (restart_fails c i)
restart_fails_later c i = by (nat_lt i (length c.servers) && not (server c i).up)
  where
    by : (b : Bool) → Later c (if b then with_fault c i else c)
    by true = fault_later c i
    by false = later_same c

forget_later : (c : Cell) (t : ℕ) → Later c (forget c t)
forget_later c t = by (operation c t).closed
  where
    by : (b : Bool) → Later c (if b then c else put_operation c t (record (operation c t) { closed = true }))
    by true = later_same c
    by false = tallied_later c t (record (operation c t) { closed = true }) c.reach c.firm c.cap refl refl refl (omega arith) (omega arith) (cap_stays c.cap)

pub step_later : (c : Cell) (step : CellStep) → Later c (cell_step c step)
step_later c (Begin aim) = begin_later c aim
step_later c (Send t i wish) = send_later c t i wish
step_later c (RequestComes k) = comes_later c (slice_get c.requests k)
step_later c (RequestStops k) = stops_later c (slice_get c.requests k)
step_later c (ReplyComes k) = reply_later_cell c (slice_get c.replies k)
step_later c (Lose k) = lose_later c k (slice_get c.requests k)
step_later c (Restart i kept) = restart_later c i kept
step_later c (RestartFails i) = restart_fails_later c i
step_later c (Decide t a) = decide_later c t a
step_later c (Take t) = take_later c t
step_later c (Forget t) = forget_later c t

pub run_later : (steps : List CellStep) (c : Cell) → Later c (run_cell steps c)
run_later [] c = later_same c
run_later (step ∷ steps) c = later_twice c (cell_step c step) (run_cell steps (cell_step c step)) (step_later c step) (run_later steps (cell_step c step))

pub run_cell-append : (xs ys : List CellStep) (c : Cell) → run_cell (xs ++ ys) c ≡ run_cell ys (run_cell xs c)
run_cell-append [] ys c = refl
run_cell-append (x ∷ xs) ys c = run_cell-append xs ys (cell_step c x)
