-- An answer comes to an operation, which then comes to what it comes to.
use Rattle.std.proofs.Common.{◌≡◌, ℕ, ◌<◌, Bool, true, false, refl, sym, ◌∙◌, ap, subst, arith, List, [], ◌∷◌, length, get_or, set, Option, Some, None, inl, inr}
use Rattle.std.specs.Prelude.{◌⊎◌, ◌||◌, nat_le, nat_lt, is_some, slice_get, if◌then◌else◌}
use Rattle.std.specs.List.{list_any}
use Rattle.std.proofs.lemmas.Bool.{false≢true, cases_eq, eq-eqb, or_left, or_right}
use Rattle.std.proofs.lemmas.Option.{none-some, same_Some}
use Rattle.std.proofs.lemmas.List.{get_or-set_same, get_or-set_other}
use Rattle.std.proofs.lemmas.List.Folds.{list_any-append}
use Rattle.std.proofs.lemmas.List.Elements.{All-contains}
use Rattle.delos_types.specs.declared.entry.Entry.{Entry}
use Rattle.quorum_cell.specs.declared.message.Ask.{Ask}
use Rattle.quorum_cell.specs.declared.message.Ask.TheVariants as ask
use Rattle.quorum_cell.specs.declared.message.Reply.{Reply}
use Rattle.quorum_cell.specs.declared.message.Told.{Told}
use Rattle.quorum_cell.specs.declared.message.Told.TheVariants.{Down, DiskFault, Sealed, Unsealed, Behind, Ack, Got, Short, Cut, Trimmed}
use Rattle.quorum_cell.specs.declared.operation.Aim.{Aim}
use Rattle.quorum_cell.specs.declared.operation.Aim.TheVariants.{Tail as AimTail, Read as AimRead, Trim as AimTrim}
use Rattle.quorum_cell.specs.declared.operation.CellStep.TheVariants.{ReplyComes}
use Rattle.quorum_cell.specs.Servers.{Server}
use Rattle.quorum_cell.specs.Cells.{Cell, Operation, operation, server_before}
use Rattle.quorum_cell.specs.Tallies.{gives_entry}
use Rattle.quorum_cell.specs.Steps.{put_operation, cell_step, run_cell}
use Rattle.quorum_cell.specs.Law.{QuorumLaw, ReplyHolds}
use Rattle.quorum_cell.proofs.Lists.{contained}
use Rattle.quorum_cell.proofs.Runs.{step_keeps}
use Rattle.cell_views.proofs.Sounds.{open_known}
use Rattle.native_plan.specs.declared.member.Member.{Member}
use Rattle.native_plan.specs.declared.aims.Aims.{Aims}
use Rattle.native_plan.specs.declared.pending.Pending.{Pending}
use Rattle.native_plan.specs.declared.message.Errand.{Errand}
use Rattle.native_plan.specs.declared.message.Errand.TheVariants.{Store, Seal, Tail, Repair, Read, Trim}
use Rattle.native_plan.specs.declared.message.Message.{Message}
use Rattle.native_plan.specs.declared.message.Message.TheVariants.{Asked, Told as Answered}
use Rattle.native_plan.specs.declared.message.Phase.{Phase}
use Rattle.native_plan.specs.declared.message.Phase.TheVariants.{Filling, Asking, Opening, Shutting, Sealing, Mending, Reading, Trimming}
use Rattle.native_plan.specs.declared.judge.Verdict.TheVariants.{Done, Go}
use Rattle.native_plan.specs.Members.{no_member, is_out, heard_by, got_of}
use Rattle.native_plan.specs.Plans.{place_of, judged, judged_reading}
use Rattle.native_plan.specs.Pendings.{newer_of, aims_of, verdict_of, Notes, Hears}
use Rattle.native_plan.specs.Course.{Fills, Shuts, AimsAt, IsOnCourse, IsAskOf, ToldWell, with_reply}
use Rattle.native_ties.specs.Parts.{IsCarried, OnItsWay, ToldSo, IsPooled, Goes, IsPartOf, GoesBy}
use Rattle.native_ties.specs.Steps.{IsEnd, IsAnswer, GoesAs}
use Rattle.native_ties.proofs.Hearing.{put_there, put_other, comes_is, heard_course, read_reads}
use Rattle.native_ties.proofs.Settling.{Noted, settles_as}

-- a member that heard has no message
pub silent : (want : ℕ) (e : Errand) (told : Told) (m : Member) → is_out (heard_by want e told m) ≡ false
silent want e Down m = refl
silent want e DiskFault m = refl
silent want e (Sealed n) m = refl
silent want e (Unsealed n) m = refl
silent want e (Trimmed n) m = refl
silent want e (Short n) m = refl
silent want e (Got x) m = refl
silent want e (Cut b) m = refl
silent want e (Behind n) m = refl
silent want (Store p) (Ack n) m = refl
silent want Seal (Ack n) m = refl
silent want Tail (Ack n) m = refl
silent want (Repair p) (Ack n) m = refl
silent want (Read p) (Ack n) m = refl
silent want Trim (Ack n) m = refl

-- only a Read is given an entry
given_read : (before : Server) (cut : ℕ) (ph : Phase) (want : ℕ) (m : Member) (e : Errand) (told : Told) (x : Entry) → ToldWell before cut ph want m e told → got_of told ≡ Some x → (p : ℕ) × (e ≡ Read p)
given_read before cut ph want m e Down x h g = absurd (none-some x g)
given_read before cut ph want m e DiskFault x h g = absurd (none-some x g)
given_read before cut ph want m e (Sealed n) x h g = absurd (none-some x g)
given_read before cut ph want m e (Unsealed n) x h g = absurd (none-some x g)
given_read before cut ph want m e (Trimmed n) x h g = absurd (none-some x g)
given_read before cut ph want m e (Short n) x h g = absurd (none-some x g)
given_read before cut ph want m e (Cut b) x h g = absurd (none-some x g)
given_read before cut ph want m e (Behind n) x h g = absurd (none-some x g)
given_read before cut ph want m e (Ack n) x h g = absurd (none-some x g)
given_read before cut ph want m (Read p) (Got y) x h g = (p, refl)
given_read before cut ph want m (Store p) (Got y) x h g = absurd h
given_read before cut ph want m Seal (Got y) x h g = absurd h
given_read before cut ph want m Tail (Got y) x h g = absurd h
given_read before cut ph want m (Repair p) (Got y) x h g = absurd h
given_read before cut ph want m Trim (Got y) x h g = absurd h

is_got : (told : Told) (x : Entry) → got_of told ≡ Some x → told ≡ Got x
is_got (Got y) x g = ap Got (same_Some y x g)
is_got Down x g = absurd (none-some x g)
is_got DiskFault x g = absurd (none-some x g)
is_got (Sealed n) x g = absurd (none-some x g)
is_got (Unsealed n) x g = absurd (none-some x g)
is_got (Trimmed n) x g = absurd (none-some x g)
is_got (Short n) x g = absurd (none-some x g)
is_got (Cut b) x g = absurd (none-some x g)
is_got (Behind n) x g = absurd (none-some x g)
is_got (Ack n) x g = absurd (none-some x g)

pub read_ask : (p : ℕ) (a : Ask) → IsAskOf (Read p) a → a ≡ ask.Read p
read_ask p (ask.Read q) h = ap ask.Read (sym h)
read_ask p (ask.Store q x) h = absurd h
read_ask p ask.Seal h = absurd h
read_ask p ask.Tail h = absurd h
read_ask p (ask.Repair q x) h = absurd h
read_ask p (ask.Trim q) h = absurd h

pub place_is : (place : ℕ) (aim : Aim) (ph : Phase) (p : ℕ) → AimsAt place aim ph → aim ≡ AimRead p → p ≡ place
place_is place aim Filling p a e = absurd (subst Fills e a)
place_is place aim Asking p a e = (let x : AimTail ≡ AimRead p = sym a ∙ e in absurd (cc))
place_is place aim (Opening t) p a e = (let x : AimTail ≡ AimRead p = sym a ∙ e in absurd (cc))
place_is place aim Shutting p a e = absurd (subst Shuts e a)
place_is place aim Sealing p a e = (let x : AimTail ≡ AimRead p = sym a ∙ e in absurd (cc))
place_is place aim (Mending t) p a e = (let x : AimTail ≡ AimRead p = sym a ∙ e in absurd (cc))
place_is place aim (Reading j) p a e = (let x : AimRead p ≡ AimRead place = sym e ∙ a in cc)
place_is place aim Trimming p a e = (let x : AimTrim a.0 ≡ AimRead p = sym a.1 ∙ e in absurd (cc))

-- a Read that got its entry goes on no more
read_done : (cut firm place j : ℕ) (ms : List Member) (next : Phase) → judged_reading cut firm place j true ms ≡ Go next → ⊥
read_done cut firm place j ms next = by (nat_le firm place) (nat_lt place cut)
  where
    by : (a b : Bool) → (if a then Done Rattle.quorum_cell.specs.declared.operation.Outcome.TheVariants.Beyond else (if b then Done Rattle.quorum_cell.specs.declared.operation.Outcome.TheVariants.Gone else Done Rattle.quorum_cell.specs.declared.operation.Outcome.TheVariants.Found)) ≡ Go next → ⊥
    by true b h = cc
    by false true h = cc
    by false false h = cc

pub read_ends : (ph : Phase) (want cut firm place p : ℕ) (aim : Aim) (ms : List Member) (next : Phase) → AimsAt place aim ph → aim ≡ AimRead p → judged ph want cut firm place true ms ≡ Go next → ⊥
read_ends (Reading j) want cut firm place p aim ms next a e h = read_done cut firm place j ms next h
read_ends Filling want cut firm place p aim ms next a e h = subst Fills e a
read_ends Asking want cut firm place p aim ms next a e h = (let x : AimTail ≡ AimRead p = sym a ∙ e in cc)
read_ends (Opening t) want cut firm place p aim ms next a e h = (let x : AimTail ≡ AimRead p = sym a ∙ e in cc)
read_ends Shutting want cut firm place p aim ms next a e h = subst Shuts e a
read_ends Sealing want cut firm place p aim ms next a e h = (let x : AimTail ≡ AimRead p = sym a ∙ e in cc)
read_ends (Mending t) want cut firm place p aim ms next a e h = (let x : AimTail ≡ AimRead p = sym a ∙ e in cc)
read_ends Trimming want cut firm place p aim ms next a e h = (let x : AimTrim a.0 ≡ AimRead p = sym a.1 ∙ e in cc)

-- what another server's message is stays, whatever the operation heard or lost of others
pooled_put : (c : Cell) (t i q losses : ℕ) (o z : Operation) → z.lost ≡ o.lost → IsPooled c o t i losses → IsPooled (put_operation c q z) z t i losses
pooled_put c t i q losses o z same (inl none) = inl none
pooled_put c t i q losses o z same (inr l) = inr (record { message = l.message; request = l.request; is = l.is; ticket = l.ticket; to_server = l.to_server; tries = rw same l.tries })

pub way_put : (c : Cell) (t i q : ℕ) (o z : Operation) (aims : Aims) (m : Member) (e : Errand) → z.lost ≡ o.lost → OnItsWay c o t i aims m e → OnItsWay (put_operation c q z) z t i aims m e
way_put c t i q o z aims m e same h = record { planned = h.planned; unmet = h.unmet; few = h.few; pooled = pooled_put c t i q m.losses o z same h.pooled }

pub carried_put : (c : Cell) (t i q : ℕ) (o z : Operation) (aims : Aims) (m : Member) (x : Option Message) → z.lost ≡ o.lost → z.servers_before ≡ o.servers_before → IsCarried c o t i aims m x → IsCarried (put_operation c q z) z t i aims m x
carried_put c t i q o z aims m None same before h = h
carried_put c t i q o z aims m (Some (Asked e)) same before h = way_put c t i q o z aims m e same h
carried_put c t i q o z aims m (Some (Answered e told)) same before h = record {
  way = way_put c t i q o z aims m e same h.way;
  reply = record { number = h.reply.number; reply = h.reply.reply; is = h.reply.is; ticket = h.reply.ticket; of_server = h.reply.of_server; told_is = h.reply.told_is; asked = h.reply.asked; let_go = h.reply.let_go };
  well = rw before h.well;
}

pub newer_none : (z : Option Entry) → newer_of z None ≡ z
newer_none None = refl
newer_none (Some x) = refl

pub some_of : (z : Option Entry) → is_some z ≡ true → (x : Entry) × (z ≡ Some x)
some_of None h = absurd (false≢true h)
some_of (Some x) h = (x, refl)

module _ (c : Cell) (t i : ℕ) (p b : Pending) (e : Errand) (told : Told) (law : QuorumLaw c) (part : IsPartOf c t p) (waiting : p.outcome ≡ None) (here : i < length c.servers)
    (message : (get_or p.members.items i no_member).message ≡ Some (Answered e told)) (notes : Notes i e told p b) where
  goes : Goes c t p
  goes = part.goes waiting

  so : ToldSo c (operation c t) t i (aims_of c.cut p) (get_or p.members.items i no_member) e told
  so = subst (IsCarried c (operation c t) t i (aims_of c.cut p) (get_or p.members.items i no_member)) message (goes.carried i here)

  r : Reply
  r = so.reply.reply

  d : Cell
  d = put_operation c t (with_reply (operation c t) so.reply.reply)

  known : t < length c.operations
  known = open_known c t part.shows.is_open

  there : operation (put_operation c t (with_reply (operation c t) so.reply.reply)) t ≡ with_reply (operation c t) so.reply.reply
  there = put_there c t (with_reply (operation c t) so.reply.reply) known

  undecided : (operation c t).decided ≡ None
  undecided = part.outcome ∙ waiting

  -- the operation as it was, with its new members and what it got
  mid : Pending
  mid = record p { members = b.members; got = newer_of (got_of told) p.got }

  got_is : newer_of (got_of told) p.got ≡ got_of told
  got_is = rw goes.ungot (newer_none (got_of told))

  gave : (x : Entry) → got_of told ≡ Some x → (q : ℕ) × (e ≡ Read q) × ((operation c t).aim ≡ AimRead q) × (so.reply.reply.ask ≡ ask.Read q)
  gave x g =
      let read : (q : ℕ) × (e ≡ Read q) = given_read (server_before (operation c t) i) c.cut p.phase p.want (get_or p.members.items i no_member) e told x so.well g in
      let asked : IsAskOf (Read read.0) so.reply.reply.ask = subst (λ (k : Errand). IsAskOf k so.reply.reply.ask) read.1 so.reply.asked in
      (read.0, read.1, read_reads p.phase c.cut p.want (place_of p.task) (operation c t).aim (get_or p.members.items i no_member) e goes.course.aims_at so.way.planned read.0 read.1, read_ask read.0 so.reply.reply.ask asked)

  told_so : (x : Entry) → got_of told ≡ Some x → list_any (gives_entry (place_of p.task)) (with_reply (operation c t) so.reply.reply).heard ≡ true
  told_so x g =
      let z : (q : ℕ) × (e ≡ Read q) × ((operation c t).aim ≡ AimRead q) × (so.reply.reply.ask ≡ ask.Read q) = gave x g in
      let place : z.0 ≡ place_of p.task = place_is (place_of p.task) (operation c t).aim p.phase z.0 goes.course.aims_at z.2 in
      let says : so.reply.reply.told ≡ Got x = so.reply.told_is ∙ is_got told x g in
      let given : gives_entry (place_of p.task) so.reply.reply ≡ true = rw (z.3, says, eq-eqb (place_of p.task) z.0 (sym place)) refl in
      list_any-append (gives_entry (place_of p.task)) (operation c t).heard (so.reply.reply ∷ []) ∙ or_right (list_any (gives_entry (place_of p.task)) (operation c t).heard) (gives_entry (place_of p.task) so.reply.reply || false) (or_left (gives_entry (place_of p.task) so.reply.reply) false given)

  carried_on : (j : ℕ) → j < length c.servers → is_out (get_or (set p.members.items i (heard_by p.want e told (get_or p.members.items i no_member))) j no_member) ≡ true →
      IsCarried (put_operation c t (with_reply (operation c t) so.reply.reply)) (with_reply (operation c t) so.reply.reply) t j (aims_of c.cut p) (get_or (set p.members.items i (heard_by p.want e told (get_or p.members.items i no_member))) j no_member) (get_or (set p.members.items i (heard_by p.want e told (get_or p.members.items i no_member))) j no_member).message
  carried_on j l out = by (cases_eq j i)
    where
      now : Member
      now = heard_by p.want e told (get_or p.members.items i no_member)

      by : (j ≡ i) ⊎ (j ≡ i → ⊥) → IsCarried (put_operation c t (with_reply (operation c t) so.reply.reply)) (with_reply (operation c t) so.reply.reply) t j (aims_of c.cut p) (get_or (set p.members.items i (heard_by p.want e told (get_or p.members.items i no_member))) j no_member) (get_or (set p.members.items i (heard_by p.want e told (get_or p.members.items i no_member))) j no_member).message
      by (inl same) = absurd (false≢true (sym (silent p.want e told (get_or p.members.items i no_member)) ∙ sym (ap is_out (get_or-set_same p.members.items i now no_member (omega (arith, here, goes.course.all)))) ∙ ap (λ k. is_out (get_or (set p.members.items i now) k no_member)) (sym same) ∙ out))
      by (inr other) = subst (λ (m : Member). IsCarried (put_operation c t (with_reply (operation c t) so.reply.reply)) (with_reply (operation c t) so.reply.reply) t j (aims_of c.cut p) m m.message) (sym (get_or-set_other p.members.items i j now no_member other))
          (carried_put c t j t (operation c t) (with_reply (operation c t) so.reply.reply) (aims_of c.cut p) (get_or p.members.items j no_member) (get_or p.members.items j no_member).message refl refl (goes.carried j l))

  noted : Noted (put_operation c t (with_reply (operation c t) so.reply.reply)) t (record p { members = b.members; got = newer_of (got_of told) p.got })
  noted = record {
    shows = record { is_open = rw there part.shows.is_open; task = rw there part.shows.task; size = rw there part.shows.size; reach = rw there part.shows.reach; firm = rw there part.shows.firm; shut = rw there part.shows.shut; faults = rw there part.shows.faults; down = rw there part.shows.down };
    undecided = rw there undecided;
    waits = waiting;
    course = rw there (subst (λ (ms : List Member). IsOnCourse (put_operation c t (with_reply (operation c t) so.reply.reply)) (with_reply (operation c t) so.reply.reply) (aims_of c.cut p) ms) (sym notes.members) (heard_course c t i (aims_of c.cut p) p.members.items e told law goes.course refl here so));
    carried = λ j l out. rw there (subst (λ (ms : List Member). is_out (get_or ms j no_member) ≡ true → IsCarried (put_operation c t (with_reply (operation c t) so.reply.reply)) (with_reply (operation c t) so.reply.reply) t j (aims_of c.cut p) (get_or ms j no_member) (get_or ms j no_member).message) (sym notes.members) (carried_on j l) out);
    losses = rw there goes.losses;
    told = λ some. (let x : (x : Entry) × (newer_of (got_of told) p.got ≡ Some x) = some_of _ some in rw there (told_so x.0 (sym got_is ∙ x.1)));
    got = λ ph v. ended (got_of told) refl ph v;
    there = λ x z q a. found x (sym got_is ∙ z) q (sym (ap (λ (o : Operation). o.aim) there) ∙ a);
    trimming = goes.trimming;
  }
    where
      ended : (z : Option Entry) → got_of told ≡ z → (ph : Phase) → verdict_of c.cut (record p { members = b.members; got = newer_of (got_of told) p.got }) ≡ Go ph → newer_of (got_of told) p.got ≡ None
      ended None g ph v = got_is ∙ g
      ended (Some x) g ph v =
          let z : (q : ℕ) × (e ≡ Read q) × ((operation c t).aim ≡ AimRead q) × (so.reply.reply.ask ≡ ask.Read q) = gave x g in
          let some : is_some (newer_of (got_of told) p.got) ≡ true = ap is_some (got_is ∙ g) in
          absurd (read_ends p.phase p.want c.cut p.firm (place_of p.task) z.0 (operation c t).aim b.members.items ph goes.course.aims_at z.2 (subst (λ (k : Bool). judged p.phase p.want c.cut p.firm (place_of p.task) k b.members.items ≡ Go ph) some v))

      found : (x : Entry) → got_of told ≡ Some x → (q : ℕ) → (operation c t).aim ≡ AimRead q → slice_get c.entries q ≡ Some x
      found x g q a =
          let z : (q : ℕ) × (e ≡ Read q) × ((operation c t).aim ≡ AimRead q) × (so.reply.reply.ask ≡ ask.Read q) = gave x g in
          let aims_same : AimRead z.0 ≡ AimRead q = sym z.2 ∙ a in
          let same : z.0 ≡ q = cc in
          let h : ReplyHolds c so.reply.reply = All-contains (ReplyHolds c) c.replies so.reply.reply law.replies (contained c.replies so.reply.number so.reply.reply so.reply.is) in
          subst (λ k. slice_get c.entries k ≡ Some x) same (h.got z.0 x z.3 (so.reply.told_is ∙ is_got told x g))

-- what it is once the answer came, before it comes to anything
pub hears_noted : (c : Cell) (t i : ℕ) (p b : Pending) (e : Errand) (told : Told) → QuorumLaw c → IsPartOf c t p → p.outcome ≡ None → i < length c.servers → (get_or p.members.items i no_member).message ≡ Some (Answered e told) → Notes i e told p b → (d : Cell) × QuorumLaw d × Noted d t b × (d.cut ≡ c.cut)
hears_noted c t i p b e told law part waiting here message notes =
    let so_reply : ToldSo c (operation c t) t i (aims_of c.cut p) (get_or p.members.items i no_member) e told = so c t i p b e told law part waiting here message notes in
    let r : Reply = so_reply.reply.reply in
    let is : cell_step c (ReplyComes so_reply.reply.number) ≡ put_operation c t (with_reply (operation c t) r) = comes_is c t so_reply.reply.number r so_reply.reply.is so_reply.reply.ticket part.shows.is_open (part.outcome ∙ waiting) in
    (put_operation c t (with_reply (operation c t) r), subst QuorumLaw is (step_keeps c (ReplyComes so_reply.reply.number) law), subst (Noted (put_operation c t (with_reply (operation c t) r)) t) (sym notes.rest) (noted c t i p b e told law part waiting here message notes), refl)

-- the steps: the answer comes, and then it may be decided
pub hears_as : (c : Cell) (t i : ℕ) (p new : Pending) (e : Errand) (told : Told) → QuorumLaw c → IsPartOf c t p → p.outcome ≡ None → i < length c.servers → (get_or p.members.items i no_member).message ≡ Some (Answered e told) → Hears c.cut i e told p new → GoesAs c t c.faults new (IsAnswer c t i e told)
hears_as c t i p new e told law part waiting here message h =
    let b : Pending = h.between in
    let so_reply : ToldSo c (operation c t) t i (aims_of c.cut p) (get_or p.members.items i no_member) e told = so c t i p b e told law part waiting here message h.notes in
    let r : Reply = so_reply.reply.reply in
    let is : cell_step c (ReplyComes so_reply.reply.number) ≡ put_operation c t (with_reply (operation c t) r) = comes_is c t so_reply.reply.number r so_reply.reply.is so_reply.reply.ticket part.shows.is_open (part.outcome ∙ waiting) in
    let kept : QuorumLaw (put_operation c t (with_reply (operation c t) r)) = subst QuorumLaw is (step_keeps c (ReplyComes so_reply.reply.number) law) in
    let then_noted : Noted (put_operation c t (with_reply (operation c t) r)) t b = subst (Noted (put_operation c t (with_reply (operation c t) r)) t) (sym h.notes.rest) (noted c t i p b e told law part waiting here message h.notes) in
    let s : GoesAs (put_operation c t (with_reply (operation c t) r)) t c.faults new (IsEnd t) = settles_as (put_operation c t (with_reply (operation c t) r)) t b new kept then_noted h.settles in (
      record {
        steps = ReplyComes so_reply.reply.number ∷ s.0.steps;
        strays = (tt, s.0.strays);
        part = subst (λ (x : Cell). IsPartOf (run_cell s.0.steps x) t new) (sym is) s.0.part;
        others = λ q n. ap (λ (x : Cell). operation (run_cell s.0.steps x) q) is ∙ s.0.others q n ∙ put_other c t q (with_reply (operation c t) r) n;
        servers = ap (λ (x : Cell). (run_cell s.0.steps x).servers) is ∙ s.0.servers;
        faults_are = ap (λ (x : Cell). (run_cell s.0.steps x).faults) is ∙ s.0.faults_are;
      },
      record { reply = so_reply.reply; ending = s.0.steps; ends = s.1; takes = refl },
    )

pub hears : (c : Cell) (t i : ℕ) (p new : Pending) (e : Errand) (told : Told) → QuorumLaw c → IsPartOf c t p → p.outcome ≡ None → i < length c.servers → (get_or p.members.items i no_member).message ≡ Some (Answered e told) → Hears c.cut i e told p new → GoesBy c t c.faults new
hears c t i p new e told law part waiting here message h = (hears_as c t i p new e told law part waiting here message h).0
