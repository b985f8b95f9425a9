-- A request of an operation comes to its server.
use Rattle.std.proofs.Common.{◌≡◌, ℕ, ◌+◌, ◌-◌, ◌<◌, ◌≤◌, Bool, true, false, refl, sym, ◌∙◌, ap, subst, arith, List, [], ◌∷◌, ◌++◌, length, drop, get_or, set, Option, Some, None, inl, inr, max}
use Rattle.std.specs.Prelude.{◌⊎◌, ◌&&◌, nat_lt, is_some, slice_get, if◌then◌else◌}
use Rattle.std.proofs.lemmas.Bool.{false≢true, cases_eq, ltb-true, ltb-false}
use Rattle.std.proofs.lemmas.Option.{none-some}
use Rattle.std.proofs.lemmas.List.{length-set, get_or-set_same, get_or-set_other}
use Rattle.delos_types.specs.declared.entry.Entry.{Entry}
use Rattle.quorum_cell.specs.declared.message.Ask.{Ask}
use Rattle.quorum_cell.specs.declared.message.Ask.TheVariants as ask
use Rattle.quorum_cell.specs.declared.message.Request.{Request}
use Rattle.quorum_cell.specs.declared.message.Reply.{Reply}
use Rattle.quorum_cell.specs.declared.message.Told.{Told}
use Rattle.quorum_cell.specs.declared.message.Told.TheVariants.{Down, DiskFault, Sealed, Unsealed, Behind, Ack, Got, Short, Cut, Trimmed}
use Rattle.quorum_cell.specs.declared.operation.Outcome.TheVariants.{Found}
use Rattle.quorum_cell.specs.declared.operation.CellStep.{CellStep}
use Rattle.quorum_cell.specs.declared.operation.CellStep.TheVariants.{Send, RequestComes, RequestStops}
use Rattle.quorum_cell.specs.Servers.{Server, told, told_entry, length_of, is_sealed, writes, written}
use Rattle.quorum_cell.specs.Cells.{Cell, operation, server, server_before, no_server}
use Rattle.quorum_cell.specs.Tallies.{sealed_at, sealed_told, exactly}
use Rattle.quorum_cell.specs.Steps.{ask_for, send, answered, run_cell}
use Rattle.quorum_cell.specs.Law.{QuorumLaw, Later, ReplyHolds}
use Rattle.quorum_cell.proofs.Lists.{slice_get_push_new, slice_get_more}
use Rattle.quorum_cell.proofs.Runs.{run_later}
use Rattle.quorum_cell.proofs.Votes.{voted}
use Rattle.native_plan.specs.declared.member.Member.{Member}
use Rattle.native_plan.specs.declared.pending.Pending.{Pending}
use Rattle.native_plan.specs.declared.message.Errand.{Errand}
use Rattle.native_plan.specs.declared.message.Errand.TheVariants as Errands
use Rattle.native_plan.specs.declared.message.Message.{Message}
use Rattle.native_plan.specs.declared.message.Message.TheVariants.{Asked, Told as Answered}
use Rattle.native_plan.specs.declared.message.Phase.{Phase}
use Rattle.native_plan.specs.declared.message.Phase.TheVariants.{Filling, Asking, Opening, Shutting, Sealing, Mending, Reading, Trimming}
use Rattle.native_plan.specs.Members.{no_member, due_of}
use Rattle.native_plan.specs.Plans.{is_done, place_of}
use Rattle.native_plan.specs.Pendings.{aims_of, Answers}
use Rattle.native_plan.specs.Course.{Knows, IsOnCourse, IsAskOf, ToldWell}
use Rattle.native_ties.specs.Parts.{IsCarried, OnItsWay, ToldSo, HasReply, Goes, IsPartOf, Extends, wish_of, AnswersBy}
use Rattle.native_ties.specs.Steps.{IsRequest, IsStop, AnswersAs}
use Rattle.native_ties.proofs.Parts.{part_later}
use Rattle.native_ties.proofs.Resending.{planned_as, due_way}
use Rattle.native_ties.proofs.Hearing.{read_reads}
use Rattle.native_ties.proofs.Sending.{sent_is, asks_well, course_message}

-- a message changes nothing of what is wanted
pub done_message : (ph : Phase) (want i : ℕ) (m : Member) (z : Option Message) → is_done ph want i (record m { message = z }) ≡ is_done ph want i m
done_message Filling want i m z = refl
done_message Asking want i m z = refl
done_message (Opening t) want i m z = refl
done_message Shutting want i m z = refl
done_message Sealing want i m z = refl
done_message (Mending t) want i m z = refl
done_message (Reading j) want i m z = refl
done_message Trimming want i m z = refl

told_as : (before : Server) (cut : ℕ) (ph : Phase) (want : ℕ) (m : Member) (x : Option Message) (e : Errand) (z : Told) → ToldWell before cut ph want m e z → ToldWell before cut ph want (record m { message = x }) e z
told_as before cut ph want m x e z h = told_of e z h
  where
    told_of : (f : Errand) (y : Told) → ToldWell before cut ph want m f y → ToldWell before cut ph want (record m { message = x }) f y
    told_of f Down h = tt
    told_of f DiskFault h = tt
    told_of (Errands.Store p) (Sealed n) h = h
    told_of (Errands.Store p) (Ack n) h = h
    told_of Errands.Tail (Sealed n) h = h
    told_of Errands.Tail (Unsealed n) h = h
    told_of Errands.Seal (Sealed n) h = h
    told_of (Errands.Repair p) (Ack n) h = h
    told_of (Errands.Read p) (Got y) h = h
    told_of (Errands.Read p) (Short n) h = h
    told_of (Errands.Read p) (Cut b) h = h
    told_of Errands.Trim (Trimmed n) h = h
    told_of f y h = absurd h

told_goes : (d : Cell) (t i : ℕ) (p new : Pending) (w : Errand) (z : Told) → Goes d t p → i < length d.servers → (get_or p.members.items i no_member).message ≡ Some (Asked w) → HasReply d t i (due_of d.cut w) z → ToldWell (server_before (operation d t) i) d.cut p.phase p.want (get_or p.members.items i no_member) (due_of d.cut w) z → Answers i (due_of d.cut w) z p new →
    Goes d t (record p { members = new.members })
told_goes d t i p new w z g here message reply well a = record {
  course = subst (λ (ms : List Member). IsOnCourse d (operation d t) (aims_of d.cut p) ms) (sym a.members) (course_message d (operation d t) (aims_of d.cut p) p.members.items i (Some (Answered (due_of d.cut w) z)) among g.course);
  carried = λ j l. subst (λ (ms : List Member). IsCarried d (operation d t) t j (aims_of d.cut p) (get_or ms j no_member) (get_or ms j no_member).message) (sym a.members) (carried j l (cases_eq j i));
  losses = g.losses;
  ungot = g.ungot;
  trimming = g.trimming;
  wanted = λ all. g.wanted (λ j l. sym (done j) ∙ all j (omega (arith, l, length-set p.members.items i now, ap (λ (ms : List Member). length ms) a.members)));
}
  where
    m : Member
    m = get_or p.members.items i no_member

    now : Member
    now = record (get_or p.members.items i no_member) { message = Some (Answered (due_of d.cut w) z) }

    among : i < length p.members.items
    among = omega (arith, here, g.course.all)

    way : OnItsWay d (operation d t) t i (aims_of d.cut p) (get_or p.members.items i no_member) (due_of d.cut w)
    way = due_way d (operation d t) t i (aims_of d.cut p) (get_or p.members.items i no_member) w (subst (IsCarried d (operation d t) t i (aims_of d.cut p) (get_or p.members.items i no_member)) message (g.carried i here))

    told_now : ToldSo d (operation d t) t i (aims_of d.cut p) (record (get_or p.members.items i no_member) { message = Some (Answered (due_of d.cut w) z) }) (due_of d.cut w) z
    told_now = record {
      way = record {
        planned = planned_as p.phase d.cut p.want (place_of p.task) (get_or p.members.items i no_member).losses (Some (Answered (due_of d.cut w) z)) (get_or p.members.items i no_member) (due_of d.cut w) way.planned;
        unmet = done_message p.phase p.want i (get_or p.members.items i no_member) (Some (Answered (due_of d.cut w) z)) ∙ way.unmet;
        few = way.few;
        pooled = way.pooled;
      };
      reply = reply;
      well = told_as (server_before (operation d t) i) d.cut p.phase p.want (get_or p.members.items i no_member) (Some (Answered (due_of d.cut w) z)) (due_of d.cut w) z well;
    }

    carried : (j : ℕ) → j < length d.servers → (j ≡ i) ⊎ (j ≡ i → ⊥) → IsCarried d (operation d t) t j (aims_of d.cut p) (get_or (set p.members.items i (record (get_or p.members.items i no_member) { message = Some (Answered (due_of d.cut w) z) })) j no_member) (get_or (set p.members.items i (record (get_or p.members.items i no_member) { message = Some (Answered (due_of d.cut w) z) })) j no_member).message
    carried j l (inl same) = rw (same, get_or-set_same p.members.items i now no_member among) told_now
    carried j l (inr other) = rw (get_or-set_other p.members.items i j now no_member other) (g.carried j l)

    done : (j : ℕ) → is_done p.phase p.want j (get_or new.members.items j no_member) ≡ is_done p.phase p.want j (get_or p.members.items j no_member)
    done j = ap (λ (ms : List Member). is_done p.phase p.want j (get_or ms j no_member)) a.members ∙ by (cases_eq j i)
      where
        by : (j ≡ i) ⊎ (j ≡ i → ⊥) → is_done p.phase p.want j (get_or (set p.members.items i (record (get_or p.members.items i no_member) { message = Some (Answered (due_of d.cut w) z) })) j no_member) ≡ is_done p.phase p.want j (get_or p.members.items j no_member)
        by (inl same) = rw (same, get_or-set_same p.members.items i now no_member among) (done_message p.phase p.want i (get_or p.members.items i no_member) (Some (Answered (due_of d.cut w) z)))
        by (inr other) = rw (get_or-set_other p.members.items i j now no_member other) refl

told_part : (d : Cell) (t i : ℕ) (p new : Pending) (w : Errand) (z : Told) → IsPartOf d t p → p.outcome ≡ None → i < length d.servers → (get_or p.members.items i no_member).message ≡ Some (Asked w) → HasReply d t i (due_of d.cut w) z → ToldWell (server_before (operation d t) i) d.cut p.phase p.want (get_or p.members.items i no_member) (due_of d.cut w) z → Answers i (due_of d.cut w) z p new → IsPartOf d t new
told_part d t i p new w z part waiting here message reply well a = subst (IsPartOf d t) (sym a.rest) (record {
  shows = record { is_open = part.shows.is_open; task = part.shows.task; size = part.shows.size; reach = part.shows.reach; firm = part.shows.firm; shut = part.shows.shut; faults = part.shows.faults; down = part.shows.down };
  outcome = part.outcome;
  goes = λ _. told_goes d t i p new w z (part.goes waiting) here message reply well a;
  found = λ f. absurd (none-some Found (sym waiting ∙ f));
})

---- how far a server let go is no more than its length

longer_by : (s : Server) (k : ℕ) → max k s.base ≤ length_of (written s (ask.Trim k))
longer_by s k = by (nat_lt s.base k) refl
  where
    by : (b : Bool) → nat_lt s.base k ≡ b → max k s.base ≤ length_of (if b then record s { base = k; entries = drop (k - s.base) s.entries } else s)
    by true e = (let under : s.base < k = ltb-true _ _ e in omega arith)
    by false e = (let over : k ≤ s.base = ltb-false _ _ e in omega arith)

trimmed_is : (a n : ℕ) → Trimmed a ≡ Trimmed n → a ≡ n
trimmed_is a n h = cc

lets : (s : Server) (a : Ask) (n : ℕ) → told s a ≡ Trimmed n → n ≤ length_of (if s.up then written s a else s)
lets s (ask.Trim k) n h = by s.up h
  where
    by : (u : Bool) → (if u then Trimmed (max k s.base) else Down) ≡ Trimmed n → n ≤ length_of (if u then written s (ask.Trim k) else s)
    by true e = (let is : max k s.base ≡ n = trimmed_is _ _ e in omega (arith, is, longer_by s k))
    by false e = absurd (cc)
lets s (ask.Store p x) n h = absurd (by s.up (is_sealed s) (nat_lt (length_of s) p) (nat_lt p (length_of s)) h)
  where
    by : (u z b d : Bool) → (if u then (if z then Sealed (length_of s) else (if b then Behind (length_of s) else (if d then Ack (length_of s) else Ack (length_of s + 1)))) else Down) ≡ Trimmed n → ⊥
    by false z b d e = cc
    by true true b d e = cc
    by true false true d e = cc
    by true false false true e = cc
    by true false false false e = cc
lets s (ask.Repair p x) n h = absurd (by s.up (is_sealed s) (nat_lt (length_of s) p) (nat_lt p (length_of s)) h)
  where
    by : (u z b d : Bool) → (if u then (if z then (if b then Behind (length_of s) else (if d then Ack (length_of s) else Ack (length_of s + 1))) else Unsealed (length_of s)) else Down) ≡ Trimmed n → ⊥
    by false z b d e = cc
    by true false b d e = cc
    by true true true d e = cc
    by true true false true e = cc
    by true true false false e = cc
lets s ask.Seal n h = absurd (by s.up h)
  where
    by : (u : Bool) → (if u then Sealed (length_of s) else Down) ≡ Trimmed n → ⊥
    by false e = cc
    by true e = cc
lets s ask.Tail n h = absurd (by s.up (is_sealed s) h)
  where
    by : (u z : Bool) → (if u then (if z then Sealed (length_of s) else Unsealed (length_of s)) else Down) ≡ Trimmed n → ⊥
    by false z e = cc
    by true false e = cc
    by true true e = cc
lets s (ask.Read p) n h = absurd (by s.up (nat_lt p s.base) (slice_get s.entries (p - s.base)) h)
  where
    by : (u b : Bool) (z : Option Entry) → (if u then (if b then Cut s.base else told_entry (length_of s) z) else Down) ≡ Trimmed n → ⊥
    by false b z e = cc
    by true true z e = cc
    by true false None e = cc
    by true false (Some x) e = cc

---- the steps

heard_sealed : (c : Cell) (t i : ℕ) (m : Member) → QuorumLaw c → Knows (server c i) (operation c t) i m → is_some m.sealed ≡ true → is_sealed (server c i) ≡ true
heard_sealed c t i m law k h = by m.sealed refl h
  where
    by : (z : Option ℕ) → m.sealed ≡ z → is_some z ≡ true → is_sealed (server c i) ≡ true
    by None e given = absurd (false≢true given)
    by (Some n) e given =
        let v : (r : Reply) × ReplyHolds c r × (r.server ≡ i) × (r.ticket ≡ t) × (sealed_at n r ≡ true) = voted c law t (sealed_at n) i (k.sealed n e) in
        let r : Reply = v.0 in
        let told_some : (l : ℕ) × (sealed_told r.told ≡ Some l) = some_told (sealed_told r.told) v.4 in
        subst (λ j. is_sealed (server c j) ≡ true) v.2 (v.1.sealed told_some.0 told_some.1).0
      where
        some_told : (z : Option ℕ) → exactly n z ≡ true → (l : ℕ) × (z ≡ Some l)
        some_told None h = absurd (false≢true h)
        some_told (Some l) h = (l, refl)

module _ (c : Cell) (t i : ℕ) (p new : Pending) (w : Errand) (a : Ask) (law : QuorumLaw c) (part : IsPartOf c t p) (waiting : p.outcome ≡ None) (here : i < length c.servers)
    (message : (get_or p.members.items i no_member).message ≡ Some (Asked w)) (asks : ask_for c (operation c t) (wish_of (due_of c.cut w)) ≡ Some a) where
  abbrev e : Errand
  e = due_of c.cut w

  way_now : OnItsWay c (operation c t) t i (aims_of c.cut p) (get_or p.members.items i no_member) e
  way_now = due_way c (operation c t) t i (aims_of c.cut p) (get_or p.members.items i no_member) w (subst (IsCarried c (operation c t) t i (aims_of c.cut p) (get_or p.members.items i no_member)) message ((part.goes waiting).carried i here))

  known : Knows (server c i) (operation c t) i (get_or p.members.items i no_member)
  known = (part.goes waiting).course.knows i here

  well_now : (IsAskOf e a) × ToldWell (server_before (operation c t) i) c.cut p.phase p.want (get_or p.members.items i no_member) e (told (server c i) a)
  well_now = asks_well c t i (aims_of c.cut p) p.members.items (get_or p.members.items i no_member) e a law known way_now.planned (heard_sealed c t i (get_or p.members.items i no_member) law known)
      (read_reads p.phase c.cut p.want (place_of p.task) (operation c t).aim (get_or p.members.items i no_member) e (part.goes waiting).course.aims_at way_now.planned) asks

  request : Request
  request = record { ticket = t; server = i; ask = a }

  sends : Cell
  sends = record c { requests = c.requests ++ request ∷ [] }

  is_sent : send c t i (wish_of e) ≡ record c { requests = c.requests ++ record { ticket = t; server = i; ask = a } ∷ [] }
  is_sent = sent_is c t i (wish_of e) a part.shows.is_open here asks

  found_request : slice_get (c.requests ++ record { ticket = t; server = i; ask = a } ∷ []) (length c.requests) ≡ Some (record { ticket = t; server = i; ask = a })
  found_request = slice_get_push_new c.requests (record { ticket = t; server = i; ask = a }) (length c.requests) refl

  -- what is there once the request came, whatever the server tells and is then
  after : List ℕ → Server → Told → Cell
  after faults s z = answered (record (record c { requests = c.requests ++ record { ticket = t; server = i; ask = a } ∷ [] }) { faults = faults }) (record { ticket = t; server = i; ask = a }) s z

  extends : (faults : List ℕ) (s : Server) (z : Told) → Extends c (answered (record (record c { requests = c.requests ++ record { ticket = t; server = i; ask = a } ∷ [] }) { faults = faults }) (record { ticket = t; server = i; ask = a }) s z)
  extends faults s z = record { requests = λ k q h. slice_get_more c.requests _ k q h; replies = λ k r h. slice_get_more c.replies _ k r h }

  has_reply : (faults : List ℕ) (s : Server) (z : Told) → ((n : ℕ) → z ≡ Trimmed n → n ≤ length_of s) → HasReply (answered (record (record c { requests = c.requests ++ record { ticket = t; server = i; ask = a } ∷ [] }) { faults = faults }) (record { ticket = t; server = i; ask = a }) s z) t i e z
  has_reply faults s z let_go = record {
    number = length c.replies;
    reply = record { ticket = t; server = i; ask = a; told = z };
    is = slice_get_push_new c.replies (record { ticket = t; server = i; ask = a; told = z }) (length c.replies) refl;
    ticket = refl;
    of_server = refl;
    told_is = refl;
    asked = well_now.0;
    let_go = λ n h. rw (get_or-set_same c.servers i s no_server here) (let_go n h);
  }

  answered_by : (faults : List ℕ) (s : Server) (z : Told) (step : CellStep) → (step ≡ RequestComes (length c.requests)) ⊎ (step ≡ RequestStops (length c.requests)) →
      run_cell (Send t i (wish_of e) ∷ step ∷ []) c ≡ answered (record (record c { requests = c.requests ++ record { ticket = t; server = i; ask = a } ∷ [] }) { faults = faults }) (record { ticket = t; server = i; ask = a }) s z →
      ((n : ℕ) → z ≡ Trimmed n → n ≤ length_of s) → ToldWell (server_before (operation c t) i) c.cut p.phase p.want (get_or p.members.items i no_member) e z → Answers i e z p new → AnswersBy c t i s faults new
  answered_by faults s z step which is let_go well answers =
      let d : Cell = answered (record (record c { requests = c.requests ++ record { ticket = t; server = i; ask = a } ∷ [] }) { faults = faults }) (record { ticket = t; server = i; ask = a }) s z in
      let later : Later c d = subst (Later c) is (run_later (Send t i (wish_of e) ∷ step ∷ []) c) in
      let stays : IsPartOf d t p = part_later c d t p later (extends faults s z) refl part in
      record {
        steps = Send t i (wish_of e) ∷ step ∷ [];
        strays = (tt, (stray step which, tt));
        part = subst (λ (x : Cell). IsPartOf x t new) (sym is) (told_part d t i p new w z stays waiting (omega (arith, here, length-set c.servers i s)) message (has_reply faults s z let_go) well answers);
        others = λ q. ap (λ (x : Cell). operation x q) is;
        servers = ap (λ (x : Cell). x.servers) is;
        faults_are = ap (λ (x : Cell). x.faults) is;
      }
    where
      stray : (x : CellStep) → (x ≡ RequestComes (length c.requests)) ⊎ (x ≡ RequestStops (length c.requests)) → Rattle.cell_views.specs.Views.IsStray x
      stray x (inl h) = subst Rattle.cell_views.specs.Views.IsStray (sym h) tt
      stray x (inr h) = subst Rattle.cell_views.specs.Views.IsStray (sym h) tt

  -- the server answers by its table
  pub comes : Answers i e (told (server c i) a) p new → AnswersBy c t i (if (server c i).up then written (server c i) a else server c i) c.faults new
  comes answers = answered_by c.faults (if (server c i).up then written (server c i) a else server c i) (told (server c i) a) (RequestComes (length c.requests)) (inl refl) (rw (is_sent, found_request) refl) (lets (server c i) a) well_now.1 answers

  -- its disk fails in the write that the table wants
  pub stops : ((server c i).up && writes (server c i) a) ≡ true → Answers i e DiskFault p new → AnswersBy c t i (record (server c i) { up = false; torn = Some a }) (c.faults ++ i ∷ []) new
  stops wanted answers = answered_by (c.faults ++ i ∷ []) (record (server c i) { up = false; torn = Some a }) DiskFault (RequestStops (length c.requests)) (inr refl) (rw (is_sent, found_request, wanted) refl) (λ n h. absurd (cc)) tt answers

  pub comes_as : Answers i e (told (server c i) a) p new → AnswersAs c t i (if (server c i).up then written (server c i) a else server c i) c.faults new (IsRequest c t i e)
  unfolding comes answered_by
  comes_as answers = (comes answers, refl)

  pub stops_as : ((server c i).up && writes (server c i) a) ≡ true → Answers i e DiskFault p new → AnswersAs c t i (record (server c i) { up = false; torn = Some a }) (c.faults ++ i ∷ []) new (IsStop c t i e)
  unfolding stops answered_by
  stops_as wanted answers = (stops wanted answers, refl)
