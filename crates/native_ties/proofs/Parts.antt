-- What an open operation is in its cell it is in each later one.
use Rattle.std.proofs.Common.{◌≡◌, ℕ, ◌≤◌, refl, sym, ◌∙◌, ap, arith, List, get_or, Option, Some, None, inl, inr}
use Rattle.std.specs.Prelude.{All}
use Rattle.std.proofs.lemmas.List.Elements.{All-weaker}
use Rattle.quorum_cell.specs.declared.message.Told.{Told}
use Rattle.quorum_cell.specs.declared.message.Told.TheVariants.{Down, DiskFault, Sealed, Unsealed, Ack, Got, Short, Cut, Trimmed}
use Rattle.quorum_cell.specs.declared.operation.Loss.{Loss}
use Rattle.quorum_cell.specs.Servers.{Server, length_of}
use Rattle.quorum_cell.specs.Cells.{Cell, Operation, operation, server, server_before}
use Rattle.quorum_cell.specs.Law.{Later}
use Rattle.native_plan.specs.declared.member.Member.{Member}
use Rattle.native_plan.specs.declared.aims.Aims.{Aims}
use Rattle.native_plan.specs.declared.pending.Pending.{Pending}
use Rattle.native_plan.specs.declared.message.Errand.{Errand}
use Rattle.native_plan.specs.declared.message.Errand.TheVariants.{Store, Seal, Tail, Repair, Read, Trim}
use Rattle.native_plan.specs.declared.message.Message.{Message}
use Rattle.native_plan.specs.declared.message.Message.TheVariants.{Asked, Told as Answered}
use Rattle.native_plan.specs.declared.message.Phase.{Phase}
use Rattle.native_plan.specs.declared.message.Phase.TheVariants.{Filling, Asking, Opening, Shutting, Sealing, Mending, Reading, Trimming}
use Rattle.native_plan.specs.Members.{no_member}
use Rattle.native_plan.specs.Pendings.{aims_of}
use Rattle.native_plan.specs.Course.{Knows, PhaseFits, IsOnCourse, IsPlanned, FillsTo, MendsTo, ToldWell}
use Rattle.native_ties.specs.Parts.{IsPooled, HasReply, OnItsWay, IsCarried, NamesRequest, Goes, Shows, IsPartOf, Extends}

fills_later : (goal cut next : ℕ) (m : Member) (e : Errand) → cut ≤ next → FillsTo goal cut m e → FillsTo goal next m e
fills_later goal cut next m Tail l h = h
fills_later goal cut next m Trim l h = (h.0, omega (arith, h.1, l))
fills_later goal cut next m (Store p) l h = h
fills_later goal cut next m Seal l h = h
fills_later goal cut next m (Repair p) l h = h
fills_later goal cut next m (Read p) l h = h

mends_later : (t cut next : ℕ) (m : Member) (e : Errand) → cut ≤ next → MendsTo t cut m e → MendsTo t next m e
mends_later t cut next m Seal l h = h
mends_later t cut next m Trim l h = (h.0, omega (arith, h.1, l), h.2)
mends_later t cut next m (Repair p) l h = h
mends_later t cut next m (Store p) l h = h
mends_later t cut next m Tail l h = h
mends_later t cut next m (Read p) l h = h

planned_later : (ph : Phase) (cut next want place : ℕ) (m : Member) (e : Errand) → cut ≤ next → IsPlanned ph cut want place m e → IsPlanned ph next want place m e
planned_later Filling cut next want place m e l h = fills_later want cut next m e l h
planned_later Asking cut next want place m e l h = h
planned_later (Opening t) cut next want place m e l h = fills_later t cut next m e l h
planned_later Shutting cut next want place m e l h = h
planned_later Sealing cut next want place m e l h = h
planned_later (Mending t) cut next want place m e l h = mends_later t cut next m e l h
planned_later (Reading j) cut next want place m e l h = h
planned_later Trimming cut next want place m e l h = (h.0, omega (arith, h.1, l))

told_later : (before : Server) (cut next : ℕ) (ph : Phase) (want : ℕ) (m : Member) (e : Errand) (told : Told) → cut ≤ next → ToldWell before cut ph want m e told → ToldWell before next ph want m e told
told_later before cut next ph want m e Down l h = tt
told_later before cut next ph want m e DiskFault l h = tt
told_later before cut next ph want m (Read p) (Cut b) l h = omega (arith, h, l)
told_later before cut next ph want m (Store p) (Sealed n) l h = h
told_later before cut next ph want m (Store p) (Ack n) l h = h
told_later before cut next ph want m Tail (Sealed n) l h = h
told_later before cut next ph want m Tail (Unsealed n) l h = h
told_later before cut next ph want m Seal (Sealed n) l h = h
told_later before cut next ph want m (Repair p) (Ack n) l h = h
told_later before cut next ph want m (Read p) (Got x) l h = h
told_later before cut next ph want m (Read p) (Short n) l h = h
told_later before cut next ph want m Trim (Trimmed n) l h = h
told_later before cut next ph want m e told l h = absurd h

pooled_later : (c d : Cell) (o : Operation) (t i losses : ℕ) → Extends c d → IsPooled c o t i losses → IsPooled d o t i losses
pooled_later c d o t i losses x (inl none) = inl none
pooled_later c d o t i losses x (inr l) = inr (record { message = l.message; request = l.request; is = x.requests l.message l.request l.is; ticket = l.ticket; to_server = l.to_server; tries = l.tries })

reply_later : (c d : Cell) (t i : ℕ) (e : Errand) (told : Told) → Later c d → Extends c d → HasReply c t i e told → HasReply d t i e told
reply_later c d t i e told l x h = record {
  number = h.number;
  reply = h.reply;
  is = x.replies h.number h.reply h.is;
  ticket = h.ticket;
  of_server = h.of_server;
  told_is = h.told_is;
  asked = h.asked;
  let_go = λ n z. (let had = h.let_go n z in let grown = (l.grows i).longer in omega arith);
}

way_later : (c d : Cell) (o : Operation) (t i : ℕ) (aims next : Aims) (m : Member) (e : Errand) → next ≡ record aims { cut = next.cut } → Later c d → Extends c d → OnItsWay c o t i aims m e → OnItsWay d o t i next m e
way_later c d o t i aims next m e same l x h = rw same (record {
  planned = planned_later aims.phase c.cut d.cut aims.want aims.place m e l.cut h.planned;
  unmet = h.unmet;
  few = h.few;
  pooled = pooled_later c d o t i m.losses x h.pooled;
})

pub carried_later : (c d : Cell) (o : Operation) (t i : ℕ) (p : Pending) (m : Member) (z : Option Message) → Later c d → Extends c d → IsCarried c o t i (aims_of c.cut p) m z → IsCarried d o t i (aims_of d.cut p) m z
carried_later c d o t i p m None l x h = h
carried_later c d o t i p m (Some (Asked e)) l x h = way_later c d o t i (aims_of c.cut p) (aims_of d.cut p) m e refl l x h
carried_later c d o t i p m (Some (Answered e told)) l x h = record {
  way = way_later c d o t i (aims_of c.cut p) (aims_of d.cut p) m e refl l x h.way;
  reply = reply_later c d t i e told l x h.reply;
  well = told_later (server_before o i) c.cut d.cut p.phase p.want m e told l.cut h.well;
}

knows_later : (s z : Server) (o : Operation) (i : ℕ) (m : Member) → length_of s ≤ length_of z → Knows s o i m → Knows z o i m
knows_later s z o i m l k = record { opened = k.opened; sealed = k.sealed; mended = k.mended; opened_within = k.opened_within; sealed_within = k.sealed_within; trimmed = k.trimmed; missed = k.missed; untrimmed = k.untrimmed; unreached_is = k.unreached_is; long = omega (arith, l, k.long) }

phase_later : (c d : Cell) (o : Operation) (ms : List Member) (ph : Phase) → Later c d → PhaseFits c o ms ph → PhaseFits d o ms ph
phase_later c d o ms (Opening t) l h = record { within = rw l.servers h.within; told = h.told; there = omega (arith, h.there, l.room) }
phase_later c d o ms (Mending t) l h = record { within = rw l.servers h.within; told = h.told; there = omega (arith, h.there, l.room) }
phase_later c d o ms Filling l h = h
phase_later c d o ms Asking l h = h
phase_later c d o ms Shutting l h = h
phase_later c d o ms Sealing l h = h
phase_later c d o ms (Reading j) l h = h
phase_later c d o ms Trimming l h = h

pub course_later : (c d : Cell) (o : Operation) (p : Pending) → Later c d → IsOnCourse c o (aims_of c.cut p) p.members.items → IsOnCourse d o (aims_of d.cut p) p.members.items
course_later c d o p l f = record {
  odd = (f.odd.0, l.servers ∙ f.odd.1);
  few = omega (arith, l.servers, f.few);
  all = f.all ∙ sym l.servers;
  knows = λ i h. knows_later (server c i) (server d i) o i (get_or p.members.items i no_member) (l.grows i).longer (f.knows i (omega (arith, h, l.servers)));
  want = f.want;
  cut = refl;
  firm = f.firm;
  held = rw l.servers f.held;
  want_there = λ h. (let there = f.want_there h in omega (arith, there, l.room));
  aims_at = f.aims_at;
  phase = phase_later c d o p.members.items p.phase l f.phase;
}

lost_later : (c d : Cell) → Extends c d → (ls : List Loss) → All (NamesRequest c) ls → All (NamesRequest d) ls
lost_later c d x ls h = All-weaker (NamesRequest c) (NamesRequest d) (λ l n. (n.0, x.requests l.message n.0 n.1, n.2)) ls h

goes_later : (c d : Cell) (t : ℕ) (p : Pending) → Later c d → Extends c d → operation d t ≡ operation c t → Goes c t p → Goes d t p
goes_later c d t p l x same g =
    record {
      course = rw same (course_later c d (operation c t) p l g.course);
      carried = λ i h. rw same (carried_later c d (operation c t) t i p (get_or p.members.items i no_member) (get_or p.members.items i no_member).message l x (g.carried i (omega (arith, h, l.servers))));
      losses = rw same (lost_later c d x (operation c t).lost g.losses);
      ungot = g.ungot;
      trimming = λ z. (let small = g.trimming z in omega (arith, small, l.cut));
      wanted = g.wanted;
    }

-- what an operation is stays, where the cell goes on and leaves it alone
pub shows_later : (c d : Cell) (t : ℕ) (p : Pending) → Later c d → operation d t ≡ operation c t → Shows c t p → Shows d t p
shows_later c d t p l same h = record {
  is_open = rw same h.is_open;
  task = rw same h.task;
  size = rw same h.size;
  reach = rw same h.reach;
  firm = rw same h.firm;
  shut = rw (same, l.servers) h.shut;
  faults = rw same h.faults;
  down = rw (same, l.servers) h.down;
}

pub part_later : (c d : Cell) (t : ℕ) (p : Pending) → Later c d → Extends c d → operation d t ≡ operation c t → IsPartOf c t p → IsPartOf d t p
part_later c d t p l x same h = record {
  shows = shows_later c d t p l same h.shows;
  outcome = rw same h.outcome;
  goes = λ z. goes_later c d t p l x same (h.goes z);
  found = λ z. (let f = h.found z in record { entry = f.entry; got = f.got; is = λ q a. l.entries q f.entry (f.is q (sym (ap (λ (o : Operation). o.aim) same) ∙ a)) });
}
