-- An answer comes to an operation that doesn't wait for it.
use Rattle.std.proofs.Common.{◌≡◌, ℕ, ◌<◌, ◌≤◌, Bool, true, false, refl, sym, ◌∙◌, ap, subst, arith, List, [], ◌∷◌, length, get_or, set, Option, Some, None, inl, inr}
use Rattle.std.specs.Prelude.{◌⊎◌, ◌&&◌, ◌||◌, ◌==◌, not, nat_le, is_some, slice_get, if◌then◌else◌}
use Rattle.std.specs.List.{list_any}
use Rattle.std.proofs.lemmas.Bool.{false≢true, cases_eq, leb-true, eqb-true, eq-eqb, and_parts, or_left, or_right}
use Rattle.std.proofs.lemmas.Option.{none-some, same_Some}
use Rattle.std.proofs.lemmas.List.{length-set, get_or-set_same, get_or-set_other}
use Rattle.std.proofs.lemmas.List.Folds.{list_any-append}
use Rattle.std.proofs.lemmas.List.Elements.{All-contains}
use Rattle.delos_types.specs.declared.entry.Entry.{Entry}
use Rattle.quorum_cell.specs.declared.message.Ask.TheVariants as ask
use Rattle.quorum_cell.specs.declared.message.Reply.{Reply}
use Rattle.quorum_cell.specs.declared.message.Told.{Told}
use Rattle.quorum_cell.specs.declared.message.Told.TheVariants.{Down, DiskFault, Sealed, Unsealed, Ack, Got, Short, Cut, Trimmed}
use Rattle.quorum_cell.specs.declared.operation.Aim.TheVariants.{Read as AimRead}
use Rattle.quorum_cell.specs.declared.operation.CellStep.TheVariants.{ReplyComes}
use Rattle.quorum_cell.specs.Servers.{Server, length_of}
use Rattle.quorum_cell.specs.Cells.{Cell, Operation, operation, server, server_before, is_seal}
use Rattle.quorum_cell.specs.Tallies.{gives_entry, told_entry_at, says_sealed}
use Rattle.quorum_cell.specs.Steps.{put_operation, cell_step, run_cell}
use Rattle.quorum_cell.specs.Law.{QuorumLaw, ReplyHolds}
use Rattle.quorum_cell.proofs.Lists.{contained}
use Rattle.quorum_cell.proofs.Runs.{step_keeps}
use Rattle.quorum_cell.proofs.Steps.{unsealed_within}
use Rattle.cell_views.proofs.Sounds.{open_known}
use Rattle.native_plan.specs.declared.member.Member.{Member}
use Rattle.native_plan.specs.declared.aims.Aims.{Aims}
use Rattle.native_plan.specs.declared.pending.Pending.{Pending}
use Rattle.native_plan.specs.declared.message.Errand.{Errand}
use Rattle.native_plan.specs.declared.message.Errand.TheVariants.{Store, Seal, Tail, Repair, Read, Trim}
use Rattle.native_plan.specs.declared.message.Message.{Message}
use Rattle.native_plan.specs.declared.message.Message.TheVariants.{Asked, Told as Answered}
use Rattle.native_plan.specs.declared.message.Phase.{Phase}
use Rattle.native_plan.specs.declared.message.Phase.TheVariants.{Filling, Asking, Opening, Shutting, Sealing, Mending, Reading, Trimming}
use Rattle.native_plan.specs.declared.judge.Verdict.TheVariants.{Go}
use Rattle.native_plan.specs.Members.{no_member, is_out, is_found_sealed}
use Rattle.native_plan.specs.Plans.{is_done, place_of, judged}
use Rattle.native_plan.specs.Pendings.{newer_of, aims_of, verdict_of}
use Rattle.native_plan.specs.Course.{Knows, AimsAt, PhaseFits, HaveTurned, IsOnCourse, IsAskOf, IsPlanned, FillsTo, MendsTo, ToldWell, LetsGo, with_reply}
use Rattle.native_plan.specs.Strays.{news_of, learned_in, is_due, heard_anew, is_read_at, given_to, entry_of, is_asked, NotesAgain, HearsNews, HearsAgain, HearsIf}
use Rattle.native_plan.proofs.Hears.{knows_other}
use Rattle.native_ties.specs.Parts.{IsCarried, OnItsWay, Goes, IsPartOf}
use Rattle.native_ties.specs.Steps.{IsEnd, GoesAs}
use Rattle.native_ties.specs.Strays.{HearsBy, IsReply, GoesAgain}
use Rattle.native_ties.proofs.Hearing.{put_there, put_other, comes_is, any_more, many_more, either_more}
use Rattle.native_ties.proofs.Hearers.{carried_put, newer_none, some_of, read_ends, read_ask}
use Rattle.native_ties.proofs.Settling.{Noted, settles_as}
use Rattle.native_ties.proofs.Learning.{Speaks, Grown, knows_anew, grown_in, turned_anew}

---- a message that stays is what it was

fills_like : (goal cut : ℕ) (m now : Member) (e : Errand) → now.at ≡ m.at → FillsTo goal cut m e → FillsTo goal cut now e
fills_like goal cut m now Tail s h = omega (arith, s, h)
fills_like goal cut m now Trim s h = (omega (arith, s, h.0), omega (arith, s, h.1))
fills_like goal cut m now (Store p) s h = (h.0 ∙ sym s, omega (arith, s, h.1))
fills_like goal cut m now Seal s h = h
fills_like goal cut m now (Repair p) s h = h
fills_like goal cut m now (Read p) s h = h

mends_like : (t cut : ℕ) (m now : Member) (e : Errand) → now.at ≡ m.at → is_some now.sealed ≡ is_some m.sealed → MendsTo t cut m e → MendsTo t cut now e
mends_like t cut m now Seal s z h = z ∙ h
mends_like t cut m now (Repair p) s z h = (h.0 ∙ sym s, omega (arith, s, h.1), z ∙ h.2)
mends_like t cut m now (Store p) s z h = h
mends_like t cut m now Tail s z h = h
mends_like t cut m now (Read p) s z h = h
mends_like t cut m now Trim s z h = (omega (arith, s, h.0), omega (arith, s, h.1), z ∙ h.2)

planned_like : (ph : Phase) (cut want place : ℕ) (m now : Member) (e : Errand) → now.at ≡ m.at → is_some now.sealed ≡ is_some m.sealed → IsPlanned ph cut want place m e → IsPlanned ph cut want place now e
planned_like Filling cut want place m now e s z h = fills_like want cut m now e s h
planned_like Asking cut want place m now e s z h = h
planned_like (Opening t) cut want place m now e s z h = fills_like t cut m now e s h
planned_like Shutting cut want place m now e s z h = h
planned_like Sealing cut want place m now e s z h = h
planned_like (Mending t) cut want place m now e s z h = mends_like t cut m now e s z h
planned_like (Reading j) cut want place m now e s z h = h
planned_like Trimming cut want place m now e s z h = h

lets_like : (ph : Phase) (want a b n : ℕ) → b ≡ a → LetsGo ph want a n → LetsGo ph want b n
lets_like ph want a b n s h = subst (λ (l : ℕ). LetsGo ph want l n) (sym s) h

told_like : (before : Server) (cut : ℕ) (ph : Phase) (want : ℕ) (m now : Member) (e : Errand) (z : Told) → now.at ≡ m.at → ToldWell before cut ph want m e z → ToldWell before cut ph want now e z
told_like before cut ph want m now e Down s h = tt
told_like before cut ph want m now e DiskFault s h = tt
told_like before cut ph want m now (Store p) (Sealed n) s h = omega (arith, s, h)
told_like before cut ph want m now (Store p) (Ack n) s h = omega (arith, s, h)
told_like before cut ph want m now Tail (Sealed n) s h = omega (arith, s, h)
told_like before cut ph want m now Tail (Unsealed n) s h = omega (arith, s, h)
told_like before cut ph want m now Seal (Sealed n) s h = omega (arith, s, h)
told_like before cut ph want m now (Repair p) (Ack n) s h = omega (arith, s, h)
told_like before cut ph want m now (Read p) (Got y) s h = h
told_like before cut ph want m now (Read p) (Short n) s h = h
told_like before cut ph want m now (Read p) (Cut b) s h = h
told_like before cut ph want m now Trim (Trimmed n) s h = lets_like ph want m.at now.at n s h
told_like before cut ph want m now e z s h = absurd h

way_like : (c : Cell) (o : Operation) (t i : ℕ) (aims : Aims) (m now : Member) (e : Errand) → now.at ≡ m.at → is_some now.sealed ≡ is_some m.sealed → now.losses ≡ m.losses → is_done aims.phase aims.want i now ≡ false → OnItsWay c o t i aims m e → OnItsWay c o t i aims now e
way_like c o t i aims m now e s z l d h = record {
  planned = planned_like aims.phase c.cut aims.want aims.place m now e s z h.planned;
  unmet = d;
  few = omega (arith, l, h.few);
  pooled = rw l h.pooled;
}

carried_like : (c : Cell) (o : Operation) (t i : ℕ) (aims : Aims) (m now : Member) (x : Option Message) → now.at ≡ m.at → is_some now.sealed ≡ is_some m.sealed → now.losses ≡ m.losses → is_done aims.phase aims.want i now ≡ false → is_some x ≡ true → IsCarried c o t i aims m x → IsCarried c o t i aims now x
carried_like c o t i aims m now None s z l d out h = absurd (false≢true out)
carried_like c o t i aims m now (Some (Asked e)) s z l d out h = way_like c o t i aims m now e s z l d h
carried_like c o t i aims m now (Some (Answered e y)) s z l d out h = record {
  way = way_like c o t i aims m now e s z l d h.way;
  reply = h.reply;
  well = told_like (server_before o i) c.cut aims.phase aims.want m now e y s h.well;
}

pub not_true : (b : Bool) → not b ≡ true → b ≡ false
not_true true h = absurd (false≢true h)
not_true false h = refl

pub seal_like : (a b : Bool) → (a ≡ true → b ≡ true) → (a || not b) ≡ true → b ≡ a
seal_like true b keep h = keep refl
seal_like false b keep h = not_true b h

---- it is on course

-- the servers that a Read has asked are those up to the one that it asks
turned_news : (ms : List Member) (j i : ℕ) (now : Member) → i < length ms → nat_le i j ≡ true → (((get_or ms i no_member).passed || (get_or ms i no_member).unreached) ≡ true → (now.passed || now.unreached) ≡ true) → HaveTurned ms j → HaveTurned (set ms i now) j
turned_news ms j i now among asked keep h = record {
  here = rw (length-set ms i now) h.here;
  after = λ q l. rw (get_or-set_other ms i q now no_member (λ e. (let up = leb-true i j asked in omega (arith, up, l, e)))) (h.after q l);
  before = λ q l. by q l (cases_eq q i);
}
  where
    by : (q : ℕ) → q < j → (q ≡ i) ⊎ (q ≡ i → ⊥) → ((get_or (set ms i now) q no_member).passed || (get_or (set ms i now) q no_member).unreached) ≡ true
    by q l (inl same) = rw (same, get_or-set_same ms i now no_member among) (keep (subst (λ (x : ℕ). ((get_or ms x no_member).passed || (get_or ms x no_member).unreached) ≡ true) same (h.before q l)))
    by q l (inr other) = rw (get_or-set_other ms i q now no_member other) (h.before q l)

news_fits : (c : Cell) (t i : ℕ) (o : Operation) (r : Reply) (ms : List Member) (ph : Phase) (now : Member) → i < length ms → is_asked ph i ≡ true → (((get_or ms i no_member).passed || (get_or ms i no_member).unreached) ≡ true → (now.passed || now.unreached) ≡ true) → PhaseFits c o ms ph → PhaseFits (put_operation c t (with_reply o r)) (with_reply o r) (set ms i now) ph
news_fits c t i o r ms Filling now among asked keep h = tt
news_fits c t i o r ms Asking now among asked keep h = tt
news_fits c t i o r ms (Opening g) now among asked keep h = record { within = many_more (length c.servers) _ o r h.within; told = any_more _ o r h.told; there = h.there }
news_fits c t i o r ms Shutting now among asked keep h = either_more (is_seal o.aim) (list_any says_sealed o.heard) (list_any says_sealed (with_reply o r).heard) (any_more says_sealed o r) h
news_fits c t i o r ms Sealing now among asked keep h = any_more says_sealed o r h
news_fits c t i o r ms (Mending g) now among asked keep h = record { within = many_more (length c.servers) _ o r h.within; told = any_more _ o r h.told; there = h.there }
news_fits c t i o r ms (Reading j) now among asked keep h = turned_news ms j i now among asked keep h
news_fits c t i o r ms Trimming now among asked keep h = tt

-- what a reply of the cell speaks of
speaks : (c : Cell) (k t i : ℕ) (e : Errand) (z : Told) → QuorumLaw c → (h : IsReply c k t i e z) → Speaks (server c i) (operation c t) i h.reply
speaks c k t i e z law h =
    let r : Reply = h.reply in
    let holds : ReplyHolds c h.reply = All-contains (ReplyHolds c) c.replies h.reply law.replies (contained c.replies k h.reply h.is) in
    record {
      opened = λ n x. (let most = (holds.opened n x).0 in let within = unsealed_within c (server c h.reply.server) (law.servers h.reply.server) in subst (λ (j : ℕ). n ≤ length_of (server c j)) h.of_server (omega (arith, most, within)));
      mended = λ n x. subst (λ (j : ℕ). n ≤ length_of (server c j)) h.of_server (holds.mended n x).1;
    }

-- only a Read is given an entry
given_read : (ph : Phase) (place : ℕ) (e : Errand) (z : Told) (x : Entry) → entry_of ph place e z ≡ Some x → (j : ℕ) × (ph ≡ Reading j) × (given_to place e z ≡ Some x)
given_read (Reading j) place e z x h = (j, refl, h)
given_read Filling place e z x h = absurd (none-some x h)
given_read Asking place e z x h = absurd (none-some x h)
given_read (Opening t) place e z x h = absurd (none-some x h)
given_read Shutting place e z x h = absurd (none-some x h)
given_read Sealing place e z x h = absurd (none-some x h)
given_read (Mending t) place e z x h = absurd (none-some x h)
given_read Trimming place e z x h = absurd (none-some x h)

read_at : (place : ℕ) (e : Errand) → is_read_at place e ≡ true → e ≡ Read place
read_at place (Read p) h = ap Read (sym (eqb-true place p h))
read_at place (Store p) h = absurd (false≢true h)
read_at place Seal h = absurd (false≢true h)
read_at place Tail h = absurd (false≢true h)
read_at place (Repair p) h = absurd (false≢true h)
read_at place Trim h = absurd (false≢true h)

given_is : (place : ℕ) (e : Errand) (z : Told) (x : Entry) → given_to place e z ≡ Some x → (e ≡ Read place) × (z ≡ Got x)
given_is place e (Got y) x h = by (is_read_at place e) refl h
  where
    by : (b : Bool) → is_read_at place e ≡ b → (if b then Some y else None) ≡ Some x → (e ≡ Read place) × (Got y ≡ Got x)
    by true w g = (read_at place e w, ap Got (same_Some y x g))
    by false w g = absurd (none-some x g)
given_is place e z x h = absurd (none-some x h)

gives_is : (place : ℕ) (r : Reply) (x : Entry) → r.ask ≡ ask.Read place → r.told ≡ Got x → gives_entry place r ≡ true
gives_is place r x a y = by r.ask r.told a y
  where
    by : (b : Rattle.quorum_cell.specs.declared.message.Ask.Ask) (z : Told) → b ≡ ask.Read place → z ≡ Got x → is_some (told_entry_at place b z) ≡ true
    by b z e h = rw (e, h, eq-eqb place place refl) refl

module _ (c : Cell) (k t i : ℕ) (e : Errand) (z : Told) (p b : Pending) (law : QuorumLaw c) (part : IsPartOf c t p) (waiting : p.outcome ≡ None) (here : i < length c.servers)
    (reply : IsReply c k t i e z) (asked : is_asked p.phase i ≡ true) (notes : NotesAgain i e z p b) where
  goes : Goes c t p
  goes = part.goes waiting

  abbrev r : Reply
  r = reply.reply

  abbrev m : Member
  m = get_or p.members.items i no_member

  abbrev now : Member
  now = heard_anew p.phase p.want i (news_of (place_of p.task) e z) m

  abbrev o : Operation
  o = with_reply (operation c t) r

  abbrev d : Cell
  d = put_operation c t o

  known : t < length c.operations
  known = open_known c t part.shows.is_open

  there : operation d t ≡ o
  there = put_there c t o known

  among : i < length p.members.items
  among = omega (arith, here, goes.course.all)

  knows_now : Knows (server c i) o i now
  knows_now = knows_anew (server c i) (operation c t) i m r (goes.course.knows i here) reply.of_server (speaks c k t i e z law reply) (place_of p.task) p.want p.phase e z goes.course.want goes.course.aims_at reply.asked reply.short reply.told_is

  knows_all : (q : ℕ) → q < length c.servers → Knows (server c q) o q (get_or (set p.members.items i now) q no_member)
  knows_all q l = by (cases_eq q i)
    where
      by : (q ≡ i) ⊎ (q ≡ i → ⊥) → Knows (server c q) o q (get_or (set p.members.items i now) q no_member)
      by (inl same) = rw (same, get_or-set_same p.members.items i now no_member among) knows_now
      by (inr other) = rw (get_or-set_other p.members.items i q now no_member other) (knows_other (server c q) (operation c t) r q (get_or p.members.items q no_member) (λ x. other (sym x ∙ reply.of_server)) (goes.course.knows q l))

  course_now : IsOnCourse d o (aims_of c.cut p) (set p.members.items i now)
  course_now = record {
    odd = goes.course.odd;
    few = goes.course.few;
    all = length-set p.members.items i now ∙ goes.course.all;
    knows = knows_all;
    want = goes.course.want;
    cut = goes.course.cut;
    firm = goes.course.firm;
    held = goes.course.held;
    want_there = goes.course.want_there;
    aims_at = goes.course.aims_at;
    phase = news_fits c t i (operation c t) r p.members.items p.phase now among asked (turned_anew p.phase p.want i (news_of (place_of p.task) e z) m) goes.course.phase;
  }

  -- its message stays as it was, where it stays
  carried_here : is_out now ≡ true → IsCarried c (operation c t) t i (aims_of c.cut p) now now.message
  carried_here = by (is_due p.phase p.want i m (learned_in p.phase p.want (news_of (place_of p.task) e z) m)) refl
    where
      was : Member
      was = get_or p.members.items i no_member

      is : Member
      is = learned_in p.phase p.want (news_of (place_of p.task) e z) (get_or p.members.items i no_member)

      grown : Grown m (learned_in p.phase p.want (news_of (place_of p.task) e z) m)
      grown = grown_in p.phase p.want (news_of (place_of p.task) e z) m

      stays : (x : Member) → Grown was x → is_due p.phase p.want i was x ≡ true → is_out x ≡ true → IsCarried c (operation c t) t i (aims_of c.cut p) x x.message
      stays x g due out =
          let first : (not (is_done p.phase p.want i x) ≡ true) × (((x.at == was.at) && (is_found_sealed was || not (is_found_sealed x))) ≡ true) = and_parts _ _ due in
          let second : ((x.at == was.at) ≡ true) × ((is_found_sealed was || not (is_found_sealed x)) ≡ true) = and_parts _ _ first.1 in
          let at : x.at ≡ was.at = eqb-true _ _ second.0 in
          let sealed : is_some x.sealed ≡ is_some was.sealed = seal_like (is_some was.sealed) (is_some x.sealed) g.sealed second.1 in
          subst (λ (y : Option Message). IsCarried c (operation c t) t i (aims_of c.cut p) x y) (sym g.message)
          (carried_like c (operation c t) t i (aims_of c.cut p) was x was.message at sealed g.losses (not_true _ first.0) (sym (ap (λ (y : Option Message). is_some y) g.message) ∙ out) (goes.carried i here))

      by : (v : Bool) → is_due p.phase p.want i was is ≡ v → is_out (if v then is else record is { message = None }) ≡ true → IsCarried c (operation c t) t i (aims_of c.cut p) (if v then is else record is { message = None }) (if v then is else record is { message = None }).message
      by true due out = stays is grown due out
      by false due out = absurd (false≢true out)

  carried_on : (j : ℕ) → j < length c.servers → is_out (get_or (set p.members.items i now) j no_member) ≡ true →
      IsCarried d o t j (aims_of c.cut p) (get_or (set p.members.items i now) j no_member) (get_or (set p.members.items i now) j no_member).message
  carried_on j l out = by (cases_eq j i)
    where
      put : (x : Member) → IsCarried c (operation c t) t j (aims_of c.cut p) x x.message → IsCarried d o t j (aims_of c.cut p) x x.message
      put x h = carried_put c t j t (operation c t) o (aims_of c.cut p) x x.message refl refl h

      by : (j ≡ i) ⊎ (j ≡ i → ⊥) → IsCarried d o t j (aims_of c.cut p) (get_or (set p.members.items i now) j no_member) (get_or (set p.members.items i now) j no_member).message
      by (inl same) =
          let is : get_or (set p.members.items i now) j no_member ≡ now = ap (λ (x : ℕ). get_or (set p.members.items i now) x no_member) same ∙ get_or-set_same p.members.items i now no_member among in
          put (get_or (set p.members.items i now) j no_member) (subst (λ (x : Member). IsCarried c (operation c t) t j (aims_of c.cut p) x x.message) (sym is) (subst (λ (x : ℕ). IsCarried c (operation c t) t x (aims_of c.cut p) now now.message) (sym same) (carried_here (sym (ap is_out is) ∙ out))))
      by (inr other) = put (get_or (set p.members.items i now) j no_member) (subst (λ (x : Member). IsCarried c (operation c t) t j (aims_of c.cut p) x x.message) (sym (get_or-set_other p.members.items i j now no_member other)) (goes.carried j l))

  got_is : newer_of (entry_of p.phase (place_of p.task) e z) p.got ≡ entry_of p.phase (place_of p.task) e z
  got_is = rw goes.ungot (newer_none (entry_of p.phase (place_of p.task) e z))

  reads : (x : Entry) → entry_of p.phase (place_of p.task) e z ≡ Some x → ((operation c t).aim ≡ AimRead (place_of p.task)) × (given_to (place_of p.task) e z ≡ Some x)
  reads x g = (let w : (j : ℕ) × (p.phase ≡ Reading j) × (given_to (place_of p.task) e z ≡ Some x) = given_read p.phase (place_of p.task) e z x g in
      (subst (λ (ph : Phase). AimsAt (place_of p.task) (operation c t).aim ph) w.1 goes.course.aims_at, w.2))

  -- it was asked so, and gave this
  gave : (x : Entry) → entry_of p.phase (place_of p.task) e z ≡ Some x → (r.ask ≡ ask.Read (place_of p.task)) × (r.told ≡ Got x)
  gave x g = (let is : (e ≡ Read (place_of p.task)) × (z ≡ Got x) = given_is (place_of p.task) e z x (reads x g).1 in
      (read_ask (place_of p.task) r.ask (subst (λ (f : Errand). IsAskOf f r.ask) is.0 reply.asked), reply.told_is ∙ is.1))

  told_so : (x : Entry) → entry_of p.phase (place_of p.task) e z ≡ Some x → list_any (gives_entry (place_of p.task)) o.heard ≡ true
  told_so x g =
      let given : gives_entry (place_of p.task) r ≡ true = gives_is (place_of p.task) r x (gave x g).0 (gave x g).1 in
      list_any-append (gives_entry (place_of p.task)) (operation c t).heard (r ∷ []) ∙ or_right (list_any (gives_entry (place_of p.task)) (operation c t).heard) (gives_entry (place_of p.task) r || false) (or_left (gives_entry (place_of p.task) r) false given)

  noted : Noted d t (record p { members = b.members; got = newer_of (entry_of p.phase (place_of p.task) e z) p.got })
  noted = record {
    shows = record { is_open = rw there part.shows.is_open; task = rw there part.shows.task; size = rw there part.shows.size; reach = rw there part.shows.reach; firm = rw there part.shows.firm; shut = rw there part.shows.shut; faults = rw there part.shows.faults; down = rw there part.shows.down };
    undecided = rw there (part.outcome ∙ waiting);
    waits = waiting;
    course = rw there (subst (λ (ms : List Member). IsOnCourse d o (aims_of c.cut p) ms) (sym notes.members) course_now);
    carried = λ j l out. rw there (subst (λ (ms : List Member). is_out (get_or ms j no_member) ≡ true → IsCarried d o t j (aims_of c.cut p) (get_or ms j no_member) (get_or ms j no_member).message) (sym notes.members) (carried_on j l) out);
    losses = rw there goes.losses;
    told = λ some. (let x : (x : Entry) × (newer_of (entry_of p.phase (place_of p.task) e z) p.got ≡ Some x) = some_of _ some in rw there (told_so x.0 (sym got_is ∙ x.1)));
    got = λ ph v. ended (entry_of p.phase (place_of p.task) e z) refl ph v;
    there = λ x y q w. found x (sym got_is ∙ y) q (sym (ap (λ (w : Operation). w.aim) there) ∙ w);
    trimming = goes.trimming;
  }
    where
      ended : (y : Option Entry) → entry_of p.phase (place_of p.task) e z ≡ y → (ph : Phase) → verdict_of c.cut (record p { members = b.members; got = newer_of (entry_of p.phase (place_of p.task) e z) p.got }) ≡ Go ph → newer_of (entry_of p.phase (place_of p.task) e z) p.got ≡ None
      ended None g ph v = got_is ∙ g
      ended (Some x) g ph v =
          let some : is_some (newer_of (entry_of p.phase (place_of p.task) e z) p.got) ≡ true = ap is_some (got_is ∙ g) in
          absurd (read_ends p.phase p.want c.cut p.firm (place_of p.task) (place_of p.task) (operation c t).aim b.members.items ph goes.course.aims_at (reads x g).0 (subst (λ (y : Bool). judged p.phase p.want c.cut p.firm (place_of p.task) y b.members.items ≡ Go ph) some v))

      found : (x : Entry) → entry_of p.phase (place_of p.task) e z ≡ Some x → (q : ℕ) → (operation c t).aim ≡ AimRead q → slice_get c.entries q ≡ Some x
      found x g q w =
          let aims_same : AimRead (place_of p.task) ≡ AimRead q = sym (reads x g).0 ∙ w in
          let same : place_of p.task ≡ q = cc in
          let h : ReplyHolds c r = All-contains (ReplyHolds c) c.replies r law.replies (contained c.replies k r reply.is) in
          subst (λ (y : ℕ). slice_get c.entries y ≡ Some x) same (h.got (place_of p.task) x (gave x g).0 (gave x g).1)

-- what it is once the answer came, before it comes to anything
pub again_noted : (c : Cell) (k t i : ℕ) (e : Errand) (z : Told) (p b : Pending) → QuorumLaw c → IsPartOf c t p → p.outcome ≡ None → i < length c.servers → IsReply c k t i e z → is_asked p.phase i ≡ true → NotesAgain i e z p b → (d : Cell) × QuorumLaw d × Noted d t b × (d.cut ≡ c.cut)
again_noted c k t i e z p b law part waiting here reply asked notes =
    let r : Reply = reply.reply in
    let is : cell_step c (ReplyComes k) ≡ put_operation c t (with_reply (operation c t) r) = comes_is c t k r reply.is reply.ticket part.shows.is_open (part.outcome ∙ waiting) in
    (put_operation c t (with_reply (operation c t) r), subst QuorumLaw is (step_keeps c (ReplyComes k) law), subst (Noted (put_operation c t (with_reply (operation c t) r)) t) (sym notes.rest) (noted c k t i e z p b law part waiting here reply asked notes), refl)

-- the steps: the reply comes, and then it may be decided
pub again : (c : Cell) (k t i : ℕ) (e : Errand) (z : Told) (p new : Pending) → QuorumLaw c → IsPartOf c t p → p.outcome ≡ None → i < length c.servers → IsReply c k t i e z → is_asked p.phase i ≡ true → HearsNews c.cut i e z p new → GoesAgain c k t new
again c k t i e z p new law part waiting here reply asked h =
    let r : Reply = reply.reply in
    let is : cell_step c (ReplyComes k) ≡ put_operation c t (with_reply (operation c t) r) = comes_is c t k r reply.is reply.ticket part.shows.is_open (part.outcome ∙ waiting) in
    let kept : QuorumLaw (put_operation c t (with_reply (operation c t) r)) = subst QuorumLaw is (step_keeps c (ReplyComes k) law) in
    let then_noted : Noted (put_operation c t (with_reply (operation c t) r)) t h.between = subst (Noted (put_operation c t (with_reply (operation c t) r)) t) (sym h.notes.rest) (noted c k t i e z p h.between law part waiting here reply asked h.notes) in
    let s : GoesAs (put_operation c t (with_reply (operation c t) r)) t c.faults new (IsEnd t) = settles_as (put_operation c t (with_reply (operation c t) r)) t h.between new kept then_noted h.settles in
    record {
      steps = s.0.steps;
      ends = s.1;
      strays = s.0.strays;
      part = subst (λ (x : Cell). IsPartOf (run_cell s.0.steps x) t new) (sym is) s.0.part;
      others = λ q n. ap (λ (x : Cell). operation (run_cell s.0.steps x) q) is ∙ s.0.others q n ∙ put_other c t q (with_reply (operation c t) r) n;
      servers = ap (λ (x : Cell). (run_cell s.0.steps x).servers) is ∙ s.0.servers;
      faults_are = ap (λ (x : Cell). (run_cell s.0.steps x).faults) is ∙ s.0.faults_are;
    }

heard_if : (v : Bool) (cut i : ℕ) (e : Errand) (z : Told) (old new : Pending) → v ≡ true → HearsIf v cut i e z old new → HearsNews cut i e z old new
heard_if true cut i e z old new v h = h
heard_if false cut i e z old new v h = absurd (false≢true v)

pub heard_again : (c : Cell) (k t i : ℕ) (e : Errand) (z : Told) (p new : Pending) → QuorumLaw c → IsPartOf c t p → p.outcome ≡ None → i < length c.servers → IsReply c k t i e z → is_asked p.phase i ≡ true → HearsAgain c.cut i e z p new → GoesAgain c k t new
heard_again c k t i e z p new law part waiting here reply asked h = again c k t i e z p new law part waiting here reply asked (heard_if (is_asked p.phase i) c.cut i e z p new asked h)

pub goes_as_again : (c : Cell) (k t i : ℕ) (e : Errand) (z : Told) (p new : Pending) → QuorumLaw c → IsPartOf c t p → p.outcome ≡ None → i < length c.servers → IsReply c k t i e z → HearsAgain c.cut i e z p new → GoesAs c t c.faults new (HearsBy (is_asked p.phase i) t k)
goes_as_again c k t i e z p new law part waiting here reply h = by (is_asked p.phase i) refl h
  where
    by : (v : Bool) → is_asked p.phase i ≡ v → HearsIf v c.cut i e z p new → GoesAs c t c.faults new (HearsBy v t k)
    by true y x = (let g : GoesAgain c k t new = again c k t i e z p new law part waiting here reply y x in
        (record { steps = ReplyComes k ∷ g.steps; strays = (tt, g.strays); part = g.part; others = g.others; servers = g.servers; faults_are = g.faults_are }, (g.steps, g.ends, refl)))
    by false y x = (record { steps = []; strays = tt; part = subst (IsPartOf c t) (sym x) part; others = λ q n. refl; servers = refl; faults_are = refl }, refl)
