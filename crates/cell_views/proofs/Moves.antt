-- What a step that is nobody's call changes of what clients see.
use Rattle.std.proofs.Common.{◌≡◌, ℕ, zero, suc, ◌+◌, ◌-◌, ◌<◌, ◌≤◌, Bool, true, false, cond, refl, sym, ◌∙◌, ap, subst, arith, List, [], ◌∷◌, ◌++◌, length, drop, get_or, set, Option, Some, None, inl, inr, length-append}
use Rattle.std.specs.Prelude.{◌⊎◌, ◌&&◌, ◌||◌, ◌==◌, if◌then◌else◌, not, nat_lt, slice_get, count_by}
use Rattle.std.proofs.lemmas.Bool.{false≢true, cases_lt, not-true, not_from_false, eq-eqb, or_left, or_right}
use Rattle.std.proofs.lemmas.List.{length-set, set_past}
use Rattle.std.proofs.lemmas.List.Sums.{sum_by-set}
use Rattle.loglet_api.specs.View.{operation_at}
use Rattle.loglet_api.specs.Step.{Moves, Advances, IsAtMost}
use Rattle.quorum_cell.specs.declared.message.Ask.{Ask}
use Rattle.quorum_cell.specs.declared.message.Told.TheVariants.{Down, DiskFault}
use Rattle.quorum_cell.specs.declared.message.Request.{Request}
use Rattle.quorum_cell.specs.declared.message.Reply.{Reply}
use Rattle.quorum_cell.specs.declared.operation.Outcome.{Outcome}
use Rattle.quorum_cell.specs.declared.operation.CellStep.{CellStep}
use Rattle.quorum_cell.specs.declared.operation.CellStep.TheVariants.{Begin, Send, RequestComes, RequestStops, ReplyComes, Lose, Restart, RestartFails, Decide, Take, Forget}
use Rattle.majority_rule.specs.Majority.{majority, votes_below}
use Rattle.quorum_cell.specs.Servers.{Server, is_sealed, told_up, writes, written, restarted}
use Rattle.quorum_cell.specs.Cells.{Cell, Operation, server, operation, no_server, no_operation, is_shut, is_seal, is_lack, seals, lacks, down}
use Rattle.quorum_cell.specs.Tallies.{may_decide}
use Rattle.quorum_cell.specs.Steps.{cell_step, with_fault, sent, ask_for, answered, request_comes, request_stops, waits, put_operation, reply_comes, lose, restart, decide}
use Rattle.quorum_cell.specs.Law.{Later}
use Rattle.quorum_cell.proofs.Lists.{at_set}
use Rattle.majority_rule.proofs.Majorities.{majority_stays, votes_more, votes_either, votes_for_one}
use Rattle.quorum_cell.proofs.Laters.{still_sealed}
use Rattle.quorum_cell.proofs.Table.{written_up, restarted_up}
use Rattle.quorum_cell.proofs.Runs.{step_later}
use Rattle.cell_views.specs.Views.{Manner, IsNearer, IsStray, cell_view, operation_view, open_from, left_of, counted}
use Rattle.cell_views.proofs.Opened.{opened, opened_is}

---- counts over operations

pub count_same : (f : Operation → Bool) (os : List Operation) (t : ℕ) (o : Operation) → f o ≡ f (get_or os t no_operation) → count_by f (set os t o) ≡ count_by f os
count_same f os t o same = by (cases_lt t (length os))
  where
    by : ((t < length os) ⊎ (length os ≤ t)) → count_by f (set os t o) ≡ count_by f os
    by (inl l) = omega (arith, sum_by-set (λ (x : Operation). cond (f x) 1 0) os t o no_operation l, ap {B = ℕ} (λ b. cond b 1 0) same)
    by (inr past) = ap (count_by f) (set_past os t o past)

---- what stays

-- what such a step leaves as it was; servers fall only with faults, and operations come nearer to their end
pub record Stirs (left next : ℕ → ℕ × ℕ) (c d : Cell) : Type 0 where
  pub servers : length d.servers ≡ length c.servers
  pub room : d.room ≡ c.room
  pub limit : d.limit ≡ c.limit
  pub cut : d.cut ≡ c.cut
  pub entries : d.entries ≡ c.entries
  pub reach : d.reach ≡ c.reach
  pub cap : d.cap ≡ c.cap
  pub firm : d.firm ≡ c.firm
  pub begun : length d.operations ≡ length c.operations
  pub seals : seals d ≡ seals c
  pub lacks : lacks d ≡ lacks c
  pub falls : down d ≤ down c + (length d.faults - length c.faults)
  pub advances : (q : ℕ) → Advances (opened (length c.servers) left q (operation c q)) (opened (length c.servers) next q (operation d q))

shut_later : (c d : Cell) → Later c d → is_shut c ≡ true → is_shut d ≡ true
shut_later c d l h = rw l.servers (majority_stays (length c.servers) (λ i. is_sealed (server c i)) (λ i. is_sealed (server d i)) (λ i _ e. still_sealed _ _ (l.grows i) e) h)

pub stirs_moves : (m : Manner) (next : ℕ → ℕ × ℕ) (c d : Cell) → Later c d → Stirs m.left next c d → Moves (cell_view m c) (cell_view (record m { left = next }) d)
stirs_moves m next c d l s = record {
  rest = λ i. record {
    kind = m.kind;
    servers = s.servers i;
    quorum = majority (s.servers i);
    room = s.room i;
    rounds = m.rounds;
    limit = s.limit i;
    cut = s.cut i;
    log = drop (s.cut i) (s.entries i);
    reach = s.reach i;
    cap = s.cap i;
    firm = s.firm i;
    shut = is_shut d;
    operations = open_from (length d.servers) next 0 d.operations;
    faults = counted (length d.faults);
    down = down d;
    begun = s.begun i;
    seals = s.seals i;
    lacks = s.lacks i;
  };
  shut = shut_later c d l;
  faults = omega (arith, l.faults);
  down = omega (arith, l.faults, s.falls);
  operations = λ q. subst (λ n. Advances (operation_at (open_from (length c.servers) m.left 0 c.operations) q) (operation_at (open_from n next 0 d.operations) q)) (sym s.servers) (advances_at q);
}
  where
    advances_at : (q : ℕ) → Advances (operation_at (open_from (length c.servers) m.left 0 c.operations) q) (operation_at (open_from (length c.servers) next 0 d.operations) q)
    advances_at q = rw (opened_is (length c.servers) m.left q c.operations, opened_is (length c.servers) next q d.operations) (s.advances q)

---- operations come nearer to their end

nearer_left : (z : Option Outcome) (a b : ℕ × ℕ) → IsAtMost b a → IsAtMost (left_of z b) (left_of z a)
nearer_left None a b h = h
nearer_left (Some x) a b h = inr (refl, omega arith)

-- an operation whose view differs in nothing but what is left
advances_by : (n : ℕ) (left next : ℕ → ℕ × ℕ) (q : ℕ) (o p : Operation) → p.closed ≡ o.closed → operation_view n p (next q) ≡ record (operation_view n o (left q)) { left = left_of p.decided (next q) } → IsAtMost (left_of p.decided (next q)) (left_of o.decided (left q)) → Advances (opened n left q o) (opened n next q p)
advances_by n left next q o p closed same less = by o.closed p.closed closed
  where
    by : (b e : Bool) → e ≡ b → Advances (if b then None else Some (operation_view n o (left q))) (if e then None else Some (operation_view n p (next q)))
    by true true _ = tt
    by true false z = absurd (false≢true z)
    by false true z = absurd (false≢true (sym z))
    by false false _ = (same, less)

advances_same : (n : ℕ) (left next : ℕ → ℕ × ℕ) (q : ℕ) (o : Operation) → IsNearer left next → Advances (opened n left q o) (opened n next q o)
advances_same n left next q o h = advances_by n left next q o o refl refl (nearer_left o.decided (left q) (next q) (h q))

least_left : (a : ℕ × ℕ) → IsAtMost (0, 0) a
least_left a = by a.0 refl
  where
    by : (k : ℕ) → a.0 ≡ k → IsAtMost (0, 0) a
    by zero e = inr (sym e, omega arith)
    by (suc k) e = inl (omega (arith, e))

---- nothing changes, a fault is counted, a message is sent

pub stirs_same : (left next : ℕ → ℕ × ℕ) (c : Cell) → IsNearer left next → Stirs left next c c
stirs_same left next c h = record { servers = refl; room = refl; limit = refl; cut = refl; entries = refl; reach = refl; cap = refl; firm = refl; begun = refl; seals = refl; lacks = refl; falls = omega arith; advances = λ q. advances_same (length c.servers) left next q (operation c q) h }

pub stirs_fault : (left next : ℕ → ℕ × ℕ) (c : Cell) (i : ℕ) → IsNearer left next → Stirs left next c (with_fault c i)
stirs_fault left next c i h = record { servers = refl; room = refl; limit = refl; cut = refl; entries = refl; reach = refl; cap = refl; firm = refl; begun = refl; seals = refl; lacks = refl; falls = omega arith; advances = λ q. advances_same (length c.servers) left next q (operation c q) h }

stirs_sent : (left next : ℕ → ℕ × ℕ) (c : Cell) (t i : ℕ) (ask : Option Ask) → IsNearer left next → Stirs left next c (sent c t i ask)
stirs_sent left next c t i None h = stirs_same left next c h
stirs_sent left next c t i (Some ask) h = record { servers = refl; room = refl; limit = refl; cut = refl; entries = refl; reach = refl; cap = refl; firm = refl; begun = refl; seals = refl; lacks = refl; falls = omega arith; advances = λ q. advances_same (length c.servers) left next q (operation c q) h }

---- an operation is put in the place of t

pub stirs_put : (left next : ℕ → ℕ × ℕ) (c : Cell) (t : ℕ) (o : Operation) (faults : List ℕ) → IsNearer left next → o.aim ≡ (operation c t).aim → o.given ≡ (operation c t).given →
    Advances (opened (length c.servers) left t (operation c t)) (opened (length c.servers) next t o) → Stirs left next c (record c { operations = set c.operations t o; faults = faults })
stirs_put left next c t o faults h aim given moved = record {
  servers = refl;
  room = refl;
  limit = refl;
  cut = refl;
  entries = refl;
  reach = refl;
  cap = refl;
  firm = refl;
  begun = length-set c.operations t o;
  seals = count_same (λ (x : Operation). is_seal x.aim) c.operations t o (ap is_seal aim);
  lacks = count_same (λ (x : Operation). is_lack x.given) c.operations t o (ap is_lack given);
  falls = omega arith;
  advances = at_set (λ q (x : Operation). Advances (opened (length c.servers) left q (operation c q)) (opened (length c.servers) next q x)) c.operations t o no_operation (λ q. advances_same (length c.servers) left next q (operation c q) h) (λ _. moved);
}

---- a server is put in the place of i

-- each server that is down then was down before, or is that one
down_at_most : (c : Cell) (i : ℕ) (s : Server) → (s.up ≡ false → (server c i).up ≡ false) → votes_below (length (set c.servers i s)) (λ j. not (get_or (set c.servers i s) j no_server).up) ≤ down c
down_at_most c i s keeps =
    let count : length (set c.servers i s) ≡ length c.servers = length-set c.servers i s in
    rw count (votes_more (length c.servers) (λ j. not (get_or (set c.servers i s) j no_server).up) (λ j. not (server c j).up) (λ j _ e. not_from_false _ (still_down j (not-true _ e))))
  where
    still_down : (j : ℕ) → (get_or (set c.servers i s) j no_server).up ≡ false → (server c j).up ≡ false
    still_down = at_set (λ j (x : Server). x.up ≡ false → (server c j).up ≡ false) c.servers i s no_server (λ j e. e) (λ _. keeps)

down_one_more : (c : Cell) (i : ℕ) (s : Server) → votes_below (length (set c.servers i s)) (λ j. not (get_or (set c.servers i s) j no_server).up) ≤ down c + 1
down_one_more c i s =
    let count : length (set c.servers i s) ≡ length c.servers = length-set c.servers i s in
    let more = votes_more (length c.servers) (λ j. not (get_or (set c.servers i s) j no_server).up) (λ j. (i == j) || not (server c j).up) (λ j _ e. or_there j (not-true _ e)) in
    rw count (omega (arith, more, votes_either (length c.servers) (λ j. i == j) (λ j. not (server c j).up), votes_for_one (length c.servers) i))
  where
    or_there : (j : ℕ) → (get_or (set c.servers i s) j no_server).up ≡ false → ((i == j) || not (server c j).up) ≡ true
    or_there = at_set (λ j (x : Server). x.up ≡ false → ((i == j) || not (server c j).up) ≡ true) c.servers i s no_server (λ j e. or_right (i == j) _ (not_from_false _ e)) (λ _ _. or_left _ _ (eq-eqb i i refl))

stirs_server : (left next : ℕ → ℕ × ℕ) (c d : Cell) (i : ℕ) (s : Server) → IsNearer left next → d.servers ≡ set c.servers i s → d.room ≡ c.room → d.limit ≡ c.limit → d.cut ≡ c.cut → d.entries ≡ c.entries → d.reach ≡ c.reach → d.cap ≡ c.cap → d.firm ≡ c.firm → d.operations ≡ c.operations →
    down d ≤ down c + (length d.faults - length c.faults) → Stirs left next c d
stirs_server left next c d i s h servers room limit cut entries reach cap firm operations falls = record {
  servers = ap (λ (ss : List Server). length ss) servers ∙ length-set c.servers i s;
  room = room;
  limit = limit;
  cut = cut;
  entries = entries;
  reach = reach;
  cap = cap;
  firm = firm;
  begun = ap (λ (os : List Operation). length os) operations;
  seals = ap (count_by (λ (x : Operation). is_seal x.aim)) operations;
  lacks = ap (count_by (λ (x : Operation). is_lack x.given)) operations;
  falls = falls;
  advances = λ q. subst (λ (os : List Operation). Advances (opened (length c.servers) left q (operation c q)) (opened (length c.servers) next q (get_or os q no_operation))) (sym operations) (advances_same (length c.servers) left next q (operation c q) h);
}

stirs_comes : (left next : ℕ → ℕ × ℕ) (c : Cell) (q : Option Request) → IsNearer left next → Stirs left next c (request_comes c q)
stirs_comes left next c None h = stirs_same left next c h
stirs_comes left next c (Some q) h = by (server c q.server).up refl
  where
    by : (b : Bool) → (server c q.server).up ≡ b → Stirs left next c (answered c q (if b then written (server c q.server) q.ask else server c q.server) (if b then told_up (server c q.server) q.ask else Down))
    by true up = stirs_server left next c _ q.server (written (server c q.server) q.ask) h refl refl refl refl refl refl refl refl refl (omega (arith, down_at_most c q.server (written (server c q.server) q.ask) (λ e. sym (written_up (server c q.server) q.ask) ∙ e)))
    by false e = stirs_server left next c _ q.server (server c q.server) h refl refl refl refl refl refl refl refl refl (omega (arith, down_at_most c q.server (server c q.server) (λ e. e)))

stirs_stops : (left next : ℕ → ℕ × ℕ) (c : Cell) (q : Option Request) → IsNearer left next → Stirs left next c (request_stops c q)
stirs_stops left next c None h = stirs_same left next c h
stirs_stops left next c (Some q) h = by ((server c q.server).up && writes (server c q.server) q.ask)
  where
    by : (b : Bool) → Stirs left next c (if b then answered (with_fault c q.server) q (record (server c q.server) { up = false; torn = Some q.ask }) DiskFault else c)
    by true = stirs_server left next c _ q.server (record (server c q.server) { up = false; torn = Some q.ask }) h refl refl refl refl refl refl refl refl refl (omega (arith, down_one_more c q.server (record (server c q.server) { up = false; torn = Some q.ask }), length-append c.faults (q.server ∷ [])))
    by false = stirs_same left next c h

pub stirs_restart : (left next : ℕ → ℕ × ℕ) (c : Cell) (i : ℕ) (kept : Bool) → IsNearer left next → Stirs left next c (restart c i kept)
stirs_restart left next c i kept h = by (server c i).up
  where
    by : (b : Bool) → Stirs left next c (if b then c else record c { servers = set c.servers i (restarted (server c i) kept (server c i).torn) })
    by true = stirs_same left next c h
    by false = stirs_server left next c _ i (restarted (server c i) kept (server c i).torn) h refl refl refl refl refl refl refl refl refl (omega (arith, down_at_most c i (restarted (server c i) kept (server c i).torn) (λ e. absurd (false≢true (sym e ∙ restarted_up (server c i) kept (server c i).torn)))))

---- messages come and are lost, and an operation comes to its end

stirs_hears : (left next : ℕ → ℕ × ℕ) (c : Cell) (r : Option Reply) → IsNearer left next → Stirs left next c (reply_comes c r)
stirs_hears left next c None h = stirs_same left next c h
stirs_hears left next c (Some r) h = by (waits (operation c r.ticket))
  where
    by : (b : Bool) → Stirs left next c (if b then put_operation c r.ticket (record (operation c r.ticket) { heard = (operation c r.ticket).heard ++ r ∷ [] }) else c)
    by true = stirs_put left next c r.ticket (record (operation c r.ticket) { heard = (operation c r.ticket).heard ++ r ∷ [] }) c.faults h refl refl (advances_by (length c.servers) left next r.ticket (operation c r.ticket) (record (operation c r.ticket) { heard = (operation c r.ticket).heard ++ r ∷ [] }) refl refl (nearer_left (operation c r.ticket).decided (left r.ticket) (next r.ticket) (h r.ticket)))
    by false = stirs_same left next c h

stirs_loses : (left next : ℕ → ℕ × ℕ) (c : Cell) (k : ℕ) (q : Option Request) → IsNearer left next → Stirs left next c (lose c k q)
stirs_loses left next c k None h = stirs_same left next c h
stirs_loses left next c k (Some q) h = by (waits (operation c q.ticket))
  where
    by : (b : Bool) → Stirs left next c (if b then put_operation (with_fault c q.server) q.ticket (record (operation c q.ticket) { lost = (operation c q.ticket).lost ++ record { message = k; server = q.server } ∷ [] }) else c)
    by true = stirs_put left next c q.ticket (record (operation c q.ticket) { lost = (operation c q.ticket).lost ++ record { message = k; server = q.server } ∷ [] }) (c.faults ++ q.server ∷ []) h refl refl (advances_by (length c.servers) left next q.ticket (operation c q.ticket) (record (operation c q.ticket) { lost = (operation c q.ticket).lost ++ record { message = k; server = q.server } ∷ [] }) refl refl (nearer_left (operation c q.ticket).decided (left q.ticket) (next q.ticket) (h q.ticket)))
    by false = stirs_same left next c h

stirs_decides : (left next : ℕ → ℕ × ℕ) (c : Cell) (t : ℕ) (a : Outcome) → IsNearer left next → Stirs left next c (decide c t a)
stirs_decides left next c t a h = by (waits (operation c t) && may_decide (length c.servers) c.cut (operation c t) (operation c t).aim a)
  where
    by : (b : Bool) → Stirs left next c (if b then put_operation c t (record (operation c t) { decided = Some a }) else c)
    by true = stirs_put left next c t (record (operation c t) { decided = Some a }) c.faults h refl refl (advances_by (length c.servers) left next t (operation c t) (record (operation c t) { decided = Some a }) refl refl (least_left (left_of (operation c t).decided (left t))))
    by false = stirs_same left next c h

pub step_stirs : (left next : ℕ → ℕ × ℕ) (c : Cell) (step : CellStep) → IsStray step → IsNearer left next → Stirs left next c (cell_step c step)
step_stirs left next c (Begin aim) stray h = absurd stray
step_stirs left next c (Send t i wish) stray h = by (not (operation c t).closed && nat_lt i (length c.servers))
  where
    by : (b : Bool) → Stirs left next c (if b then sent c t i (ask_for c (operation c t) wish) else c)
    by true = stirs_sent left next c t i (ask_for c (operation c t) wish) h
    by false = stirs_same left next c h
step_stirs left next c (RequestComes k) stray h = stirs_comes left next c (slice_get c.requests k) h
step_stirs left next c (RequestStops k) stray h = stirs_stops left next c (slice_get c.requests k) h
step_stirs left next c (ReplyComes k) stray h = stirs_hears left next c (slice_get c.replies k) h
step_stirs left next c (Lose k) stray h = stirs_loses left next c k (slice_get c.requests k) h
step_stirs left next c (Restart i kept) stray h = stirs_restart left next c i kept h
step_stirs left next c (RestartFails i) stray h = by (nat_lt i (length c.servers) && not (server c i).up)
  where
    by : (b : Bool) → Stirs left next c (if b then with_fault c i else c)
    by true = stirs_fault left next c i h
    by false = stirs_same left next c h
step_stirs left next c (Decide t a) stray h = stirs_decides left next c t a h
step_stirs left next c (Take t) stray h = absurd stray
step_stirs left next c (Forget t) stray h = absurd stray

pub step_moves : (m : Manner) (next : ℕ → ℕ × ℕ) (c : Cell) (step : CellStep) → IsStray step → IsNearer m.left next → Moves (cell_view m c) (cell_view (record m { left = next }) (cell_step c step))
step_moves m next c step stray h = stirs_moves m next c (cell_step c step) (step_later c step) (step_stirs m.left next c step stray h)
