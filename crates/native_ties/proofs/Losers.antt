-- A try of a message of an operation is lost, and then the operation comes to what it comes to.
use Rattle.std.proofs.Common.{◌≡◌, ℕ, zero, suc, ◌+◌, ◌<◌, ◌≤◌, Bool, true, false, refl, sym, ◌∙◌, ap, subst, arith, List, [], ◌∷◌, ◌++◌, length, drop, get_or, set, Option, Some, None, inl, inr}
use Rattle.std.specs.Prelude.{◌⊎◌, ◌&&◌, ◌||◌, ◌==◌, nat_le, is_some, slice_get, if◌then◌else◌, All, count_by}
use Rattle.std.specs.List.{list_any}
use Rattle.std.proofs.lemmas.Bool.{false≢true, cases_eq, eq-eqb, ne_eqb, eqb-true, leb-true, le-leb, or_left, or_right, or_from, or_parts, and_parts, and_from, false_from_ne_true}
use Rattle.std.proofs.lemmas.Option.{none-some, same_Some}
use Rattle.std.proofs.lemmas.List.{length-set, get_or-set_same, get_or-set_other}
use Rattle.std.proofs.lemmas.List.Folds.{list_any-append}
use Rattle.std.proofs.lemmas.List.Elements.{All-head, All-tail, All-append}
use Rattle.quorum_cell.specs.declared.message.Ask.{Ask}
use Rattle.quorum_cell.specs.declared.message.Request.{Request}
use Rattle.quorum_cell.specs.declared.message.Told.{Told}
use Rattle.quorum_cell.specs.declared.message.Told.TheVariants.{Down, DiskFault, Sealed, Unsealed, Ack, Got, Short, Cut, Trimmed}
use Rattle.quorum_cell.specs.declared.operation.Loss.{Loss}
use Rattle.quorum_cell.specs.declared.operation.CellStep.{CellStep}
use Rattle.quorum_cell.specs.declared.operation.CellStep.TheVariants.{Send, Lose}
use Rattle.quorum_cell.specs.Servers.{Server}
use Rattle.quorum_cell.specs.Cells.{Cell, Operation, operation, server, server_before}
use Rattle.quorum_cell.specs.Tallies.{tries_lost, lost_to, unreached, heard_from, failed_reply}
use Rattle.quorum_cell.specs.Steps.{put_operation, with_fault, waits, cell_step, run_cell, ask_for}
use Rattle.quorum_cell.specs.Law.{QuorumLaw, Later}
use Rattle.quorum_cell.proofs.Lists.{slice_get_push_new, slice_get_more}
use Rattle.quorum_cell.proofs.Runs.{step_keeps, step_later}
use Rattle.cell_views.proofs.Sounds.{open_known}
use Rattle.native_plan.specs.declared.member.Member.{Member}
use Rattle.native_plan.specs.declared.aims.Aims.{Aims}
use Rattle.native_plan.specs.declared.pending.Pending.{Pending}
use Rattle.native_plan.specs.declared.message.Errand.{Errand}
use Rattle.native_plan.specs.declared.message.Errand.TheVariants as Errands
use Rattle.native_plan.specs.declared.message.Message.{Message}
use Rattle.native_plan.specs.declared.message.Message.TheVariants.{Asked, Told as Answered}
use Rattle.native_plan.specs.declared.message.Phase.{Phase}
use Rattle.native_plan.specs.declared.message.Phase.TheVariants.{Filling, Asking, Opening, Shutting, Sealing, Mending, Reading, Trimming}
use Rattle.native_plan.specs.Members.{no_member, is_out, tried}
use Rattle.native_plan.specs.Plans.{is_done}
use Rattle.native_plan.specs.Pendings.{aims_of, NotesLoss, Loses}
use Rattle.native_plan.specs.Course.{Knows, PhaseFits, IsOnCourse, ToldWell}
use Rattle.native_ties.specs.Parts.{LostSo, IsPooled, OnItsWay, IsCarried, NamesRequest, Goes, IsPartOf, GoesBy, wish_of, asked_by}
use Rattle.native_ties.specs.Steps.{IsEnd, IsLoss, GoesAs, errand_of}
use Rattle.native_ties.proofs.Parts.{part_later}
use Rattle.native_ties.proofs.Resending.{planned_as}
use Rattle.native_ties.proofs.Hearing.{put_there, put_other, turned_heard}
use Rattle.native_ties.proofs.Sending.{sent_is}
use Rattle.native_ties.proofs.Losing.{with_loss, one_more, no_more, few_all, none_yet}
use Rattle.native_ties.proofs.Asking.{IsDue, can_ask}
use Rattle.native_ties.proofs.Settling.{Noted, settles_as}

pub within : {X : Type 0} (xs : List X) (k : ℕ) (x : X) → slice_get xs k ≡ Some x → k < length xs
within [] k x h = absurd (none-some x h)
within (y ∷ xs) zero x h = omega arith
within (y ∷ xs) (suc k) x h = omega (arith, within xs k x h)

all_of_one : (P : Loss → Type 0) (l : Loss) → P l → All P (l ∷ [])
all_of_one P l h zero d k = h
all_of_one P l h (suc n) d k = absurd (omega (arith, k))

-- no try names a message that wasn't sent
none_named : (c : Cell) (ls : List Loss) → All (NamesRequest c) ls → count_by (λ (l : Loss). l.message == length c.requests) ls ≡ 0
none_named c [] h = refl
none_named c (l ∷ ls) h =
    let named : NamesRequest c l = All-head (NamesRequest c) l ls h in
    let there : l.message < length c.requests = within c.requests l.message named.0 named.1 in
    let other : (l.message == length c.requests) ≡ false = ne_eqb l.message (length c.requests) (λ e. omega (arith, there, e)) in
    rw other (none_named c ls (All-tail (NamesRequest c) l ls h))

---- who is given up

-- the server that the message is for: after eight tries
unreached_here : (o : Operation) (k i losses : ℕ) → tries_lost o k ≡ losses → losses < 8 → unreached o i ≡ false → unreached (with_loss o k i) i ≡ (losses + 1 == 8)
unreached_here o k i losses tries few reached = by (losses + 1 == 8) refl
  where
    parts : (heard_from failed_reply o i ≡ false) × (lost_to o i ≡ false)
    parts = or_parts (heard_from failed_reply o i) (lost_to o i) reached

    here : tries_lost (with_loss o k i) k ≡ losses + 1
    here = one_more o k i ∙ ap (λ n. n + 1) tries

    is : lost_to (with_loss o k i) i ≡ (list_any (λ (l : Loss). (l.server == i) && nat_le 8 (tries_lost (with_loss o k i) l.message)) o.lost || (((i == i) && nat_le 8 (tries_lost (with_loss o k i) k)) || false))
    is = list_any-append (λ (l : Loss). (l.server == i) && nat_le 8 (tries_lost (with_loss o k i) l.message)) o.lost (record { message = k; server = i } ∷ [])

    by : (b : Bool) → (losses + 1 == 8) ≡ b → unreached (with_loss o k i) i ≡ b
    by true e = or_right (heard_from failed_reply o i) (lost_to (with_loss o k i) i) (is ∙ or_right _ _ (or_left _ _ (and_from (i == i) _ (eq-eqb i i refl) (le-leb 8 (tries_lost (with_loss o k i) k) (let eight = eqb-true (losses + 1) 8 e in omega (arith, here, eight))))))
    by false e =
        let fewer : losses + 1 < 8 = (let no : losses + 1 ≡ 8 → ⊥ = (λ x. false≢true (sym e ∙ eq-eqb (losses + 1) 8 x)) in omega (arith, few, no)) in
        let none : list_any (λ (l : Loss). (l.server == i) && nat_le 8 (tries_lost (with_loss o k i) l.message)) o.lost ≡ false = none_yet o k i i o.lost (omega (arith, tries, fewer)) (few_all o i o.lost parts.1) in
        let last : ((i == i) && nat_le 8 (tries_lost (with_loss o k i) k)) ≡ false = false_from_ne_true _ (λ x. (let many : 8 ≤ tries_lost (with_loss o k i) k = leb-true _ _ (and_parts _ _ x).1 in omega (arith, many, here, fewer))) in
        or_from (heard_from failed_reply o i) (lost_to (with_loss o k i) i) parts.0 (is ∙ or_from _ _ none (or_from _ _ last refl))

-- the others: what they were
same_tries : (c : Cell) (o : Operation) (k i j : ℕ) (q : Request) → (j ≡ i → ⊥) → slice_get c.requests k ≡ Some q → q.server ≡ i → (ls : List Loss) → All (NamesRequest c) ls →
    list_any (λ (l : Loss). (l.server == j) && nat_le 8 (tries_lost (with_loss o k i) l.message)) ls ≡ list_any (λ (l : Loss). (l.server == j) && nat_le 8 (tries_lost o l.message)) ls
same_tries c o k i j q other is to_server [] h = refl
same_tries c o k i j q other is to_server (l ∷ ls) h = both (l.server == j) refl (same_tries c o k i j q other is to_server ls (All-tail (NamesRequest c) l ls h))
  where
    named : NamesRequest c l
    named = All-head (NamesRequest c) l ls h

    both : (b : Bool) → (l.server == j) ≡ b → list_any (λ (x : Loss). (x.server == j) && nat_le 8 (tries_lost (with_loss o k i) x.message)) ls ≡ list_any (λ (x : Loss). (x.server == j) && nat_le 8 (tries_lost o x.message)) ls → ((b && nat_le 8 (tries_lost (with_loss o k i) l.message)) || list_any (λ (x : Loss). (x.server == j) && nat_le 8 (tries_lost (with_loss o k i) x.message)) ls) ≡ ((b && nat_le 8 (tries_lost o l.message)) || list_any (λ (x : Loss). (x.server == j) && nat_le 8 (tries_lost o x.message)) ls)
    both false e rest = rest
    both true e rest =
        let apart : k ≡ l.message → ⊥ = (λ z. other (sym (eqb-true l.server j e) ∙ sym named.2 ∙ ap (λ (r : Request). r.server) (same_Some _ _ (sym named.1 ∙ sym (ap (slice_get c.requests) z) ∙ is)) ∙ to_server)) in
        let same : tries_lost (with_loss o k i) l.message ≡ tries_lost o l.message = no_more o k i l.message apart in
        rw (same, rest) refl

unreached_other : (c : Cell) (o : Operation) (k i j : ℕ) (q : Request) → (j ≡ i → ⊥) → slice_get c.requests k ≡ Some q → q.server ≡ i → All (NamesRequest c) o.lost → unreached (with_loss o k i) j ≡ unreached o j
unreached_other c o k i j q other is to_server h =
    let apart : (i == j) ≡ false = ne_eqb i j (λ e. other (sym e)) in
    let last : list_any (λ (l : Loss). (l.server == j) && nat_le 8 (tries_lost (with_loss o k i) l.message)) (record { message = k; server = i } ∷ []) ≡ false = rw apart refl in
    let is_same : lost_to (with_loss o k i) j ≡ lost_to o j = list_any-append (λ (l : Loss). (l.server == j) && nat_le 8 (tries_lost (with_loss o k i) l.message)) o.lost (record { message = k; server = i } ∷ []) ∙ rw last (rw (same_tries c o k i j q other is to_server o.lost h) (or_none (lost_to o j))) in
    ap (λ b. heard_from failed_reply o j || b) is_same
  where
    or_none : (b : Bool) → (b || false) ≡ b
    or_none true = refl
    or_none false = refl

---- what is known

knows_tried : (s : Server) (o : Operation) (k i : ℕ) (m : Member) → m.unreached ≡ false → unreached (with_loss o k i) i ≡ (m.losses + 1 == 8) → Knows s o i m → Knows s (with_loss o k i) i (tried m)
knows_tried s o k i m reached is h = by (m.losses + 1 == 8) is
  where
    by : (b : Bool) → unreached (with_loss o k i) i ≡ b → Knows s (with_loss o k i) i (if b then record m { losses = m.losses + 1; unreached = true; message = None } else record m { losses = m.losses + 1 })
    by true e = record { opened = h.opened; sealed = h.sealed; mended = h.mended; opened_within = h.opened_within; sealed_within = h.sealed_within; trimmed = h.trimmed; missed = h.missed; untrimmed = h.untrimmed; unreached_is = e; long = h.long }
    by false e = record { opened = h.opened; sealed = h.sealed; mended = h.mended; opened_within = h.opened_within; sealed_within = h.sealed_within; trimmed = h.trimmed; missed = h.missed; untrimmed = h.untrimmed; unreached_is = e ∙ sym reached; long = h.long }

knows_else : (s : Server) (o : Operation) (k i j : ℕ) (m : Member) → unreached (with_loss o k i) j ≡ unreached o j → Knows s o j m → Knows s (with_loss o k i) j m
knows_else s o k i j m same h = record { opened = h.opened; sealed = h.sealed; mended = h.mended; opened_within = h.opened_within; sealed_within = h.sealed_within; trimmed = h.trimmed; missed = h.missed; untrimmed = h.untrimmed; unreached_is = same ∙ h.unreached_is; long = h.long }

lost_fits : (c d : Cell) (k i : ℕ) (o : Operation) (ms : List Member) (ph : Phase) (want : ℕ) (m now : Member) → d.servers ≡ c.servers → d.entries ≡ c.entries → is_done ph want i m ≡ false → PhaseFits c o ms ph → PhaseFits d (with_loss o k i) (set ms i now) ph
lost_fits c d k i o ms Filling want m now s x done h = tt
lost_fits c d k i o ms Asking want m now s x done h = tt
lost_fits c d k i o ms (Opening g) want m now s x done h = record { within = rw s h.within; told = h.told; there = rw x h.there }
lost_fits c d k i o ms Shutting want m now s x done h = h
lost_fits c d k i o ms Sealing want m now s x done h = h
lost_fits c d k i o ms (Mending g) want m now s x done h = record { within = rw s h.within; told = h.told; there = rw x h.there }
lost_fits c d k i o ms (Reading j) want m now s x done h = turned_heard ms j i want 0 m now done h
lost_fits c d k i o ms Trimming want m now s x done h = tt

not_done : (ph : Phase) (want i : ℕ) (m : Member) → is_done ph want i m ≡ false → m.unreached ≡ false
not_done ph want i m h = (or_parts m.unreached _ h).0

pub way_with : (c : Cell) (o : Operation) (t i : ℕ) (aims : Aims) (m : Member) (x : Option Message) → m.message ≡ x → is_some x ≡ true → IsCarried c o t i aims m x → (e : Errand) × OnItsWay c o t i aims m e × (errand_of m.message ≡ Some e)
way_with c o t i aims m None is out h = absurd (false≢true out)
way_with c o t i aims m (Some (Asked e)) is out h = (e, h, ap errand_of is)
way_with c o t i aims m (Some (Answered e told)) is out h = (e, h.way, ap errand_of is)

pub way_of : (c : Cell) (o : Operation) (t i : ℕ) (aims : Aims) (m : Member) (x : Option Message) → m.message ≡ x → is_some x ≡ true → IsCarried c o t i aims m x → (e : Errand) × OnItsWay c o t i aims m e
way_of c o t i aims m None is out h = absurd (false≢true out)
way_of c o t i aims m (Some (Asked e)) is out h = (e, h)
way_of c o t i aims m (Some (Answered e told)) is out h = (e, h.way)

-- what was told fits the member, however often its message was lost
told_tried : (before : Server) (cut : ℕ) (ph : Phase) (want : ℕ) (m : Member) (losses : ℕ) (x : Option Message) (e : Errand) (z : Told) → ToldWell before cut ph want m e z → ToldWell before cut ph want (record m { losses = losses; message = x }) e z
told_tried before cut ph want m losses x e z h = told_of e z h
  where
    told_of : (f : Errand) (y : Told) → ToldWell before cut ph want m f y → ToldWell before cut ph want (record m { losses = losses; message = x }) f y
    told_of f Down h = tt
    told_of f DiskFault h = tt
    told_of (Errands.Store p) (Sealed n) h = h
    told_of (Errands.Store p) (Ack n) h = h
    told_of Errands.Tail (Sealed n) h = h
    told_of Errands.Tail (Unsealed n) h = h
    told_of Errands.Seal (Sealed n) h = h
    told_of (Errands.Repair p) (Ack n) h = h
    told_of (Errands.Read p) (Got y) h = h
    told_of (Errands.Read p) (Short n) h = h
    told_of (Errands.Read p) (Cut b) h = h
    told_of Errands.Trim (Trimmed n) h = h
    told_of f y h = absurd h

---- a message that was sent is lost

module _ (c : Cell) (t i : ℕ) (p b : Pending) (law : QuorumLaw c) (part : IsPartOf c t p) (waiting : p.outcome ≡ None) (here : i < length c.servers)
    (l : LostSo c (operation c t) t i (get_or p.members.items i no_member).losses) (e : Errand) (way : OnItsWay c (operation c t) t i (aims_of c.cut p) (get_or p.members.items i no_member) e) (notes : NotesLoss i p b) where
  goes : Goes c t p
  goes = part.goes waiting

  after : Cell
  after = put_operation (with_fault c i) t (with_loss (operation c t) l.message i)

  known : t < length c.operations
  known = open_known c t part.shows.is_open

  there : operation (put_operation (with_fault c i) t (with_loss (operation c t) l.message i)) t ≡ with_loss (operation c t) l.message i
  there = put_there (with_fault c i) t (with_loss (operation c t) l.message i) known

  pub is_lost : cell_step c (Lose l.message) ≡ put_operation (with_fault c i) t (with_loss (operation c t) l.message i)
  is_lost =
      let waiting_now : waits (operation c t) ≡ true = rw (part.shows.is_open, part.outcome ∙ waiting) refl in
      rw (l.is, l.ticket, l.to_server, waiting_now) refl

  reached : (get_or p.members.items i no_member).unreached ≡ false
  reached = not_done p.phase p.want i (get_or p.members.items i no_member) way.unmet

  many_here : i < length p.members.items
  many_here = omega (arith, here, goes.course.all)

  unreached_now : unreached (with_loss (operation c t) l.message i) i ≡ ((get_or p.members.items i no_member).losses + 1 == 8)
  unreached_now = unreached_here (operation c t) l.message i (get_or p.members.items i no_member).losses l.tries way.few ((goes.course.knows i here).unreached_is ∙ reached)

  knows_now : (j : ℕ) → j < length c.servers → Knows (server c j) (with_loss (operation c t) l.message i) j (get_or (set p.members.items i (tried (get_or p.members.items i no_member))) j no_member)
  knows_now j h = by (cases_eq j i)
    where
      by : (j ≡ i) ⊎ (j ≡ i → ⊥) → Knows (server c j) (with_loss (operation c t) l.message i) j (get_or (set p.members.items i (tried (get_or p.members.items i no_member))) j no_member)
      by (inl same) = rw (same, get_or-set_same p.members.items i (tried (get_or p.members.items i no_member)) no_member many_here) (knows_tried (server c i) (operation c t) l.message i (get_or p.members.items i no_member) reached unreached_now (goes.course.knows i here))
      by (inr other) = rw (get_or-set_other p.members.items i j (tried (get_or p.members.items i no_member)) no_member other) (knows_else (server c j) (operation c t) l.message i j (get_or p.members.items j no_member) (unreached_other c (operation c t) l.message i j l.request other l.is l.to_server goes.losses) (goes.course.knows j h))

  course_now : IsOnCourse (put_operation (with_fault c i) t (with_loss (operation c t) l.message i)) (with_loss (operation c t) l.message i) (aims_of c.cut p) (set p.members.items i (tried (get_or p.members.items i no_member)))
  course_now = record {
    odd = goes.course.odd;
    few = goes.course.few;
    all = length-set p.members.items i (tried (get_or p.members.items i no_member)) ∙ goes.course.all;
    knows = knows_now;
    want = goes.course.want;
    cut = goes.course.cut;
    firm = goes.course.firm;
    held = goes.course.held;
    want_there = goes.course.want_there;
    aims_at = goes.course.aims_at;
    phase = lost_fits c (put_operation (with_fault c i) t (with_loss (operation c t) l.message i)) l.message i (operation c t) p.members.items p.phase p.want (get_or p.members.items i no_member) (tried (get_or p.members.items i no_member)) refl refl way.unmet goes.course.phase;
  }

  tries_now : tries_lost (with_loss (operation c t) l.message i) l.message ≡ (get_or p.members.items i no_member).losses + 1
  tries_now = one_more (operation c t) l.message i ∙ ap (λ n. n + 1) l.tries

  -- the message of another server
  pooled_else : (j losses : ℕ) → (j ≡ i → ⊥) → IsPooled c (operation c t) t j losses → IsPooled (put_operation (with_fault c i) t (with_loss (operation c t) l.message i)) (with_loss (operation c t) l.message i) t j losses
  pooled_else j losses other (inl none) = inl none
  pooled_else j losses other (inr z) =
      let apart : l.message ≡ z.message → ⊥ = (λ w. other (sym z.to_server ∙ ap (λ (r : Request). r.server) (same_Some _ _ (sym z.is ∙ sym (ap (slice_get c.requests) w) ∙ l.is)) ∙ l.to_server)) in
      inr (record { message = z.message; request = z.request; is = z.is; ticket = z.ticket; to_server = z.to_server; tries = no_more (operation c t) l.message i z.message apart ∙ z.tries })

  carried_else : (j : ℕ) (m : Member) (x : Option Message) → (j ≡ i → ⊥) → IsCarried c (operation c t) t j (aims_of c.cut p) m x → IsCarried (put_operation (with_fault c i) t (with_loss (operation c t) l.message i)) (with_loss (operation c t) l.message i) t j (aims_of c.cut p) m x
  carried_else j m None other h = h
  carried_else j m (Some (Asked f)) other h = record { planned = h.planned; unmet = h.unmet; few = h.few; pooled = pooled_else j m.losses other h.pooled }
  carried_else j m (Some (Answered f told)) other h = record {
    way = record { planned = h.way.planned; unmet = h.way.unmet; few = h.way.few; pooled = pooled_else j m.losses other h.way.pooled };
    reply = record { number = h.reply.number; reply = h.reply.reply; is = h.reply.is; ticket = h.reply.ticket; of_server = h.reply.of_server; told_is = h.reply.told_is; asked = h.reply.asked; let_go = h.reply.let_go };
    well = h.well;
  }

  -- the message itself, while it wasn't lost eight times
  way_again : (f : Errand) (x : Option Message) → (get_or p.members.items i no_member).losses + 1 < 8 → OnItsWay c (operation c t) t i (aims_of c.cut p) (get_or p.members.items i no_member) f →
      OnItsWay (put_operation (with_fault c i) t (with_loss (operation c t) l.message i)) (with_loss (operation c t) l.message i) t i (aims_of c.cut p) (record (get_or p.members.items i no_member) { losses = (get_or p.members.items i no_member).losses + 1; message = x }) f
  way_again f x fewer h = record {
    planned = planned_as p.phase c.cut p.want _ ((get_or p.members.items i no_member).losses + 1) x (get_or p.members.items i no_member) f h.planned;
    unmet = done_as p.phase p.want i (get_or p.members.items i no_member) ((get_or p.members.items i no_member).losses + 1) x ∙ h.unmet;
    few = fewer;
    pooled = inr (record { message = l.message; request = l.request; is = l.is; ticket = l.ticket; to_server = l.to_server; tries = tries_now });
  }
    where
      done_as : (ph : Phase) (want j : ℕ) (m : Member) (losses : ℕ) (z : Option Message) → is_done ph want j (record m { losses = losses; message = z }) ≡ is_done ph want j m
      done_as Filling want j m losses z = refl
      done_as Asking want j m losses z = refl
      done_as (Opening g) want j m losses z = refl
      done_as Shutting want j m losses z = refl
      done_as Sealing want j m losses z = refl
      done_as (Mending g) want j m losses z = refl
      done_as (Reading q) want j m losses z = refl
      done_as Trimming want j m losses z = refl

  carried_same : (x : Option Message) → (get_or p.members.items i no_member).losses + 1 < 8 → is_some x ≡ true → IsCarried c (operation c t) t i (aims_of c.cut p) (get_or p.members.items i no_member) x →
      IsCarried (put_operation (with_fault c i) t (with_loss (operation c t) l.message i)) (with_loss (operation c t) l.message i) t i (aims_of c.cut p) (record (get_or p.members.items i no_member) { losses = (get_or p.members.items i no_member).losses + 1; message = x }) x
  carried_same None fewer out h = absurd (false≢true out)
  carried_same (Some (Asked f)) fewer out h = way_again f (Some (Asked f)) fewer h
  carried_same (Some (Answered f told)) fewer out h = record {
    way = way_again f (Some (Answered f told)) fewer h.way;
    reply = record { number = h.reply.number; reply = h.reply.reply; is = h.reply.is; ticket = h.reply.ticket; of_server = h.reply.of_server; told_is = h.reply.told_is; asked = h.reply.asked; let_go = h.reply.let_go };
    well = told_tried (server_before (operation c t) i) c.cut p.phase p.want (get_or p.members.items i no_member) ((get_or p.members.items i no_member).losses + 1) (Some (Answered f told)) f told h.well;
  }

  carried_here : is_out (tried (get_or p.members.items i no_member)) ≡ true → IsCarried (put_operation (with_fault c i) t (with_loss (operation c t) l.message i)) (with_loss (operation c t) l.message i) t i (aims_of c.cut p) (tried (get_or p.members.items i no_member)) (tried (get_or p.members.items i no_member)).message
  carried_here out = by ((get_or p.members.items i no_member).losses + 1 == 8) refl out
    where
      m : Member
      m = get_or p.members.items i no_member

      by : (z : Bool) → ((get_or p.members.items i no_member).losses + 1 == 8) ≡ z → is_out (if z then record (get_or p.members.items i no_member) { losses = (get_or p.members.items i no_member).losses + 1; unreached = true; message = None } else record (get_or p.members.items i no_member) { losses = (get_or p.members.items i no_member).losses + 1 }) ≡ true →
          IsCarried (put_operation (with_fault c i) t (with_loss (operation c t) l.message i)) (with_loss (operation c t) l.message i) t i (aims_of c.cut p) (if z then record (get_or p.members.items i no_member) { losses = (get_or p.members.items i no_member).losses + 1; unreached = true; message = None } else record (get_or p.members.items i no_member) { losses = (get_or p.members.items i no_member).losses + 1 })
          (if z then record (get_or p.members.items i no_member) { losses = (get_or p.members.items i no_member).losses + 1; unreached = true; message = None } else record (get_or p.members.items i no_member) { losses = (get_or p.members.items i no_member).losses + 1 }).message
      by true z o = absurd (false≢true o)
      by false z o =
          let few : (get_or p.members.items i no_member).losses < 8 = way.few in
          let fewer : (get_or p.members.items i no_member).losses + 1 < 8 = (let no : (get_or p.members.items i no_member).losses + 1 ≡ 8 → ⊥ = (λ x. false≢true (sym z ∙ eq-eqb _ 8 x)) in omega (arith, few, no)) in
          carried_same (get_or p.members.items i no_member).message fewer o (goes.carried i here)

  carried_now : (j : ℕ) → j < length c.servers → is_out (get_or (set p.members.items i (tried (get_or p.members.items i no_member))) j no_member) ≡ true →
      IsCarried (put_operation (with_fault c i) t (with_loss (operation c t) l.message i)) (with_loss (operation c t) l.message i) t j (aims_of c.cut p) (get_or (set p.members.items i (tried (get_or p.members.items i no_member))) j no_member) (get_or (set p.members.items i (tried (get_or p.members.items i no_member))) j no_member).message
  carried_now j h out = by (cases_eq j i)
    where
      now : Member
      now = tried (get_or p.members.items i no_member)

      by : (j ≡ i) ⊎ (j ≡ i → ⊥) → IsCarried (put_operation (with_fault c i) t (with_loss (operation c t) l.message i)) (with_loss (operation c t) l.message i) t j (aims_of c.cut p) (get_or (set p.members.items i (tried (get_or p.members.items i no_member))) j no_member) (get_or (set p.members.items i (tried (get_or p.members.items i no_member))) j no_member).message
      by (inl same) =
          let put : get_or (set p.members.items i (tried (get_or p.members.items i no_member))) j no_member ≡ tried (get_or p.members.items i no_member) = ap (λ k. get_or (set p.members.items i (tried (get_or p.members.items i no_member))) k no_member) same ∙ get_or-set_same p.members.items i (tried (get_or p.members.items i no_member)) no_member many_here in
          rw (put, same) (carried_here (sym (ap is_out put) ∙ out))
      by (inr other) = rw (get_or-set_other p.members.items i j (tried (get_or p.members.items i no_member)) no_member other) (carried_else j (get_or p.members.items j no_member) (get_or p.members.items j no_member).message other (goes.carried j h))

  noted : Noted (put_operation (with_fault c i) t (with_loss (operation c t) l.message i)) t (record p { members = b.members })
  noted = record {
    shows = record { is_open = rw there part.shows.is_open; task = rw there part.shows.task; size = rw there part.shows.size; reach = rw there part.shows.reach; firm = rw there part.shows.firm; shut = rw there part.shows.shut; faults = rw there part.shows.faults; down = rw there part.shows.down };
    undecided = rw there (part.outcome ∙ waiting);
    waits = waiting;
    course = rw (there, notes.members) course_now;
    carried = λ j h out. rw there (subst (λ (ms : List Member). is_out (get_or ms j no_member) ≡ true → IsCarried (put_operation (with_fault c i) t (with_loss (operation c t) l.message i)) (with_loss (operation c t) l.message i) t j (aims_of c.cut p) (get_or ms j no_member) (get_or ms j no_member).message) (sym notes.members) (carried_now j h) out);
    losses = rw there (All-append (NamesRequest c) (operation c t).lost (record { message = l.message; server = i } ∷ []) goes.losses (all_of_one (NamesRequest c) (record { message = l.message; server = i }) (l.request, l.is, l.to_server)));
    told = λ some. absurd (false≢true (sym (ap is_some goes.ungot) ∙ some));
    got = λ ph v. goes.ungot;
    there = λ x z q a. absurd (none-some x (sym goes.ungot ∙ z));
    trimming = goes.trimming;
  }

-- a try of message k is lost, and then the operation is decided or goes on
abbrev LosesOne : ℕ → ℕ → List CellStep → Type 0
LosesOne t k steps = (ending : List CellStep) × IsEnd t ending × (steps ≡ Lose k ∷ ending)

-- one more try of a message that was sent
lost_known : (c : Cell) (t i : ℕ) (p new : Pending) → QuorumLaw c → IsPartOf c t p → p.outcome ≡ None → i < length c.servers → (l : LostSo c (operation c t) t i (get_or p.members.items i no_member).losses) → (e : Errand) → OnItsWay c (operation c t) t i (aims_of c.cut p) (get_or p.members.items i no_member) e → Loses c.cut i p new → GoesAs c t (c.faults ++ i ∷ []) new (LosesOne t l.message)
lost_known c t i p new law part waiting here l e way h =
    let b : Pending = h.between in
    let is : cell_step c (Lose l.message) ≡ put_operation (with_fault c i) t (with_loss (operation c t) l.message i) = is_lost c t i p b law part waiting here l e way h.notes in
    let kept : QuorumLaw (put_operation (with_fault c i) t (with_loss (operation c t) l.message i)) = subst QuorumLaw is (step_keeps c (Lose l.message) law) in
    let then_noted : Noted (put_operation (with_fault c i) t (with_loss (operation c t) l.message i)) t b = subst (Noted (put_operation (with_fault c i) t (with_loss (operation c t) l.message i)) t) (sym h.notes.rest) (noted c t i p b law part waiting here l e way h.notes) in
    let s : GoesAs (put_operation (with_fault c i) t (with_loss (operation c t) l.message i)) t (c.faults ++ i ∷ []) new (IsEnd t) = settles_as (put_operation (with_fault c i) t (with_loss (operation c t) l.message i)) t b new kept then_noted h.settles in (
      record {
        steps = Lose l.message ∷ s.0.steps;
        strays = (tt, s.0.strays);
        part = subst (λ (x : Cell). IsPartOf (run_cell s.0.steps x) t new) (sym is) s.0.part;
        others = λ q n. ap (λ (x : Cell). operation (run_cell s.0.steps x) q) is ∙ s.0.others q n ∙ put_other (with_fault c i) t q (with_loss (operation c t) l.message i) n;
        servers = ap (λ (x : Cell). (run_cell s.0.steps x).servers) is ∙ s.0.servers;
        faults_are = ap (λ (x : Cell). (run_cell s.0.steps x).faults) is ∙ s.0.faults_are;
      },
      (s.0.steps, s.1, refl),
    )

-- the first try of a message: it was sent
lost_first : (c : Cell) (t i : ℕ) (p new : Pending) → QuorumLaw c → IsPartOf c t p → p.outcome ≡ None → i < length c.servers → (get_or p.members.items i no_member).losses ≡ 0 → (e : Errand) → OnItsWay c (operation c t) t i (aims_of c.cut p) (get_or p.members.items i no_member) e → errand_of (get_or p.members.items i no_member).message ≡ Some e → Loses c.cut i p new → GoesAs c t (c.faults ++ i ∷ []) new (IsLoss c t i (get_or p.members.items i no_member))
lost_first c t i p new law part waiting here none e way errand h =
    let goes : Goes c t p = part.goes waiting in
    let a : (a : Ask) × (IsDue c.cut e → asked_by (drop c.cut c.entries) c.cut e ≡ Some a) × (ask_for c (operation c t) (wish_of e) ≡ Some a) = can_ask c (operation c t) (aims_of c.cut p) p.members.items (get_or p.members.items i no_member) e goes.course way.planned in
    let d : Cell = record c { requests = c.requests ++ record { ticket = t; server = i; ask = a.0 } ∷ [] } in
    let is : cell_step c (Send t i (wish_of e)) ≡ record c { requests = c.requests ++ record { ticket = t; server = i; ask = a.0 } ∷ [] } = sent_is c t i (wish_of e) a.0 part.shows.is_open here a.2 in
    let later : Later c (record c { requests = c.requests ++ record { ticket = t; server = i; ask = a.0 } ∷ [] }) = subst (Later c) is (step_later c (Send t i (wish_of e))) in
    let kept : QuorumLaw (record c { requests = c.requests ++ record { ticket = t; server = i; ask = a.0 } ∷ [] }) = subst QuorumLaw is (step_keeps c (Send t i (wish_of e)) law) in
    let stays : IsPartOf (record c { requests = c.requests ++ record { ticket = t; server = i; ask = a.0 } ∷ [] }) t p = part_later c _ t p later (record { requests = λ k q x. slice_get_more c.requests _ k q x; replies = λ k r x. x }) refl part in
    let tried_none : tries_lost (operation c t) (length c.requests) ≡ 0 = none_named c (operation c t).lost goes.losses in
    let l : LostSo (record c { requests = c.requests ++ record { ticket = t; server = i; ask = a.0 } ∷ [] }) (operation c t) t i (get_or p.members.items i no_member).losses = record {
      message = length c.requests;
      request = record { ticket = t; server = i; ask = a.0 };
      is = slice_get_push_new c.requests (record { ticket = t; server = i; ask = a.0 }) (length c.requests) refl;
      ticket = refl;
      to_server = refl;
      tries = tried_none ∙ sym none;
    } in
    let s : GoesAs (record c { requests = c.requests ++ record { ticket = t; server = i; ask = a.0 } ∷ [] }) t (c.faults ++ i ∷ []) new (LosesOne t (length c.requests)) =
    lost_known (record c { requests = c.requests ++ record { ticket = t; server = i; ask = a.0 } ∷ [] }) t i p new kept stays waiting here l e (record { planned = way.planned; unmet = way.unmet; few = way.few; pooled = inl none }) h in (
      record {
        steps = Send t i (wish_of e) ∷ s.0.steps;
        strays = (tt, s.0.strays);
        part = subst (λ (x : Cell). IsPartOf (run_cell s.0.steps x) t new) (sym is) s.0.part;
        others = λ q n. ap (λ (x : Cell). operation (run_cell s.0.steps x) q) is ∙ s.0.others q n;
        servers = ap (λ (x : Cell). (run_cell s.0.steps x).servers) is ∙ s.0.servers;
        faults_are = ap (λ (x : Cell). (run_cell s.0.steps x).faults) is ∙ s.0.faults_are;
      },
      record { ending = s.1.0; ends = s.1.1; loses = inl (record { errand = e; is = errand; none = none; takes = ap (λ (xs : List CellStep). Send t i (wish_of e) ∷ xs) s.1.2 }) },
    )

pub loses_as : (c : Cell) (t i : ℕ) (p new : Pending) → QuorumLaw c → IsPartOf c t p → p.outcome ≡ None → i < length c.servers → is_out (get_or p.members.items i no_member) ≡ true → Loses c.cut i p new → GoesAs c t (c.faults ++ i ∷ []) new (IsLoss c t i (get_or p.members.items i no_member))
loses_as c t i p new law part waiting here out h = by way.1.pooled
  where
    way : (e : Errand) × OnItsWay c (operation c t) t i (aims_of c.cut p) (get_or p.members.items i no_member) e × (errand_of (get_or p.members.items i no_member).message ≡ Some e)
    way = way_with c (operation c t) t i (aims_of c.cut p) (get_or p.members.items i no_member) (get_or p.members.items i no_member).message refl out ((part.goes waiting).carried i here)

    by : IsPooled c (operation c t) t i (get_or p.members.items i no_member).losses → GoesAs c t (c.faults ++ i ∷ []) new (IsLoss c t i (get_or p.members.items i no_member))
    by (inl none) = lost_first c t i p new law part waiting here none way.0 way.1 way.2 h
    by (inr l) =
        let s : GoesAs c t (c.faults ++ i ∷ []) new (LosesOne t l.message) = lost_known c t i p new law part waiting here l way.0 way.1 h in
        (s.0, record { ending = s.1.0; ends = s.1.1; loses = inr (record { lost = l; takes = s.1.2 }) })

pub loses : (c : Cell) (t i : ℕ) (p new : Pending) → QuorumLaw c → IsPartOf c t p → p.outcome ≡ None → i < length c.servers → is_out (get_or p.members.items i no_member) ≡ true → Loses c.cut i p new → GoesBy c t (c.faults ++ i ∷ []) new
loses c t i p new law part waiting here out h = (loses_as c t i p new law part waiting here out h).0

---- what it is once the message was lost, before it comes to anything

known_noted : (c : Cell) (t i : ℕ) (p b : Pending) → QuorumLaw c → IsPartOf c t p → p.outcome ≡ None → i < length c.servers → LostSo c (operation c t) t i (get_or p.members.items i no_member).losses → (e : Errand) → OnItsWay c (operation c t) t i (aims_of c.cut p) (get_or p.members.items i no_member) e → NotesLoss i p b → (d : Cell) × QuorumLaw d × Noted d t b × (d.cut ≡ c.cut)
known_noted c t i p b law part waiting here l e way notes =
    let is : cell_step c (Lose l.message) ≡ put_operation (with_fault c i) t (with_loss (operation c t) l.message i) = is_lost c t i p b law part waiting here l e way notes in
    (put_operation (with_fault c i) t (with_loss (operation c t) l.message i), subst QuorumLaw is (step_keeps c (Lose l.message) law), subst (Noted (put_operation (with_fault c i) t (with_loss (operation c t) l.message i)) t) (sym notes.rest) (noted c t i p b law part waiting here l e way notes), refl)

pub loses_noted : (c : Cell) (t i : ℕ) (p b : Pending) → QuorumLaw c → IsPartOf c t p → p.outcome ≡ None → i < length c.servers → is_out (get_or p.members.items i no_member) ≡ true → NotesLoss i p b → (d : Cell) × QuorumLaw d × Noted d t b × (d.cut ≡ c.cut)
loses_noted c t i p b law part waiting here out notes = by way.1.pooled
  where
    way : (e : Errand) × OnItsWay c (operation c t) t i (aims_of c.cut p) (get_or p.members.items i no_member) e
    way = way_of c (operation c t) t i (aims_of c.cut p) (get_or p.members.items i no_member) (get_or p.members.items i no_member).message refl out ((part.goes waiting).carried i here)

    by : IsPooled c (operation c t) t i (get_or p.members.items i no_member).losses → (d : Cell) × QuorumLaw d × Noted d t b × (d.cut ≡ c.cut)
    by (inr l) = known_noted c t i p b law part waiting here l way.0 way.1 notes
    by (inl none) =
        let goes : Goes c t p = part.goes waiting in
        let a : (a : Ask) × (IsDue c.cut way.0 → asked_by (drop c.cut c.entries) c.cut way.0 ≡ Some a) × (ask_for c (operation c t) (wish_of way.0) ≡ Some a) = can_ask c (operation c t) (aims_of c.cut p) p.members.items (get_or p.members.items i no_member) way.0 goes.course way.1.planned in
        let is : cell_step c (Send t i (wish_of way.0)) ≡ record c { requests = c.requests ++ record { ticket = t; server = i; ask = a.0 } ∷ [] } = sent_is c t i (wish_of way.0) a.0 part.shows.is_open here a.2 in
        let later : Later c (record c { requests = c.requests ++ record { ticket = t; server = i; ask = a.0 } ∷ [] }) = subst (Later c) is (step_later c (Send t i (wish_of way.0))) in
        let kept : QuorumLaw (record c { requests = c.requests ++ record { ticket = t; server = i; ask = a.0 } ∷ [] }) = subst QuorumLaw is (step_keeps c (Send t i (wish_of way.0)) law) in
        let stays : IsPartOf (record c { requests = c.requests ++ record { ticket = t; server = i; ask = a.0 } ∷ [] }) t p = part_later c _ t p later (record { requests = λ k q x. slice_get_more c.requests _ k q x; replies = λ k r x. x }) refl part in
        let tried_none : tries_lost (operation c t) (length c.requests) ≡ 0 = none_named c (operation c t).lost goes.losses in
        let l : LostSo (record c { requests = c.requests ++ record { ticket = t; server = i; ask = a.0 } ∷ [] }) (operation c t) t i (get_or p.members.items i no_member).losses = record {
          message = length c.requests;
          request = record { ticket = t; server = i; ask = a.0 };
          is = slice_get_push_new c.requests (record { ticket = t; server = i; ask = a.0 }) (length c.requests) refl;
          ticket = refl;
          to_server = refl;
          tries = tried_none ∙ sym none;
        } in
        known_noted (record c { requests = c.requests ++ record { ticket = t; server = i; ask = a.0 } ∷ [] }) t i p b kept stays waiting here l way.0 (record { planned = way.1.planned; unmet = way.1.unmet; few = way.1.few; pooled = inl none }) notes
