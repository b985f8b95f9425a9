-- With each message of an operation less is left to do.
use Rattle.std.proofs.Common.{◌≡◌, ℕ, zero, suc, ◌+◌, ◌-◌, ◌*◌, ◌<◌, ◌≤◌, Bool, true, false, refl, sym, ◌∙◌, ap, subst, arith, List, [], ◌∷◌, length, get_or, set, Option, Some, None, inl, inr}
use Rattle.std.specs.Prelude.{◌⊎◌, ◌||◌, ◌==◌, nat_lt, nat_le, is_some, sum_by, if◌then◌else◌}
use Rattle.std.proofs.lemmas.Bool.{false≢true, true≢false, cases_eq, lt-ltb, eq-eqb}
use Rattle.std.proofs.lemmas.List.{length-set, get_or-set_same, get_or-set_other}
use Rattle.std.proofs.lemmas.List.Sums.{sum_by-cons}
use Rattle.loglet_api.specs.Step.{IsBelow}
use Rattle.quorum_cell.specs.declared.message.Told.{Told}
use Rattle.quorum_cell.specs.declared.message.Told.TheVariants.{Down, DiskFault, Sealed, Unsealed, Behind, Ack, Got, Short, Cut, Trimmed}
use Rattle.quorum_cell.specs.declared.operation.Aim.{Aim}
use Rattle.quorum_cell.specs.declared.operation.Aim.TheVariants.{Tail as AimTail, Read as AimRead, Trim as AimTrim}
use Rattle.quorum_cell.specs.declared.operation.Outcome.TheVariants as outcomes
use Rattle.quorum_cell.specs.Cells.{Cell, operation, server_before}
use Rattle.quorum_cell.specs.Law.{QuorumLaw}
use Rattle.native_plan.specs.declared.member.Member.{Member}
use Rattle.native_plan.specs.declared.pending.Pending.{Pending}
use Rattle.native_plan.specs.declared.message.Errand.{Errand}
use Rattle.native_plan.specs.declared.message.Errand.TheVariants.{Store, Seal, Tail, Repair, Read, Trim}
use Rattle.native_plan.specs.declared.message.Message.{Message}
use Rattle.native_plan.specs.declared.message.Message.TheVariants.{Asked, Told as Answered}
use Rattle.native_plan.specs.declared.message.Phase.{Phase}
use Rattle.native_plan.specs.declared.message.Phase.TheVariants.{Filling, Asking, Opening, Shutting, Sealing, Mending, Reading, Trimming}
use Rattle.native_plan.specs.declared.judge.Verdict.{Verdict}
use Rattle.native_plan.specs.declared.judge.Verdict.TheVariants.{Done, Go}
use Rattle.native_plan.specs.Members.{no_member, is_out, heard_by, tried, left_with, left_to, more_after, due_of, got_of}
use Rattle.native_plan.specs.Plans.{is_done, place_of, end_of, rank_of, errand_of, sent_on, resent, Resends, judged, judged_reading}
use Rattle.native_plan.specs.Pendings.{aims_of, plan_left, left_now, verdict_of, newer_of, Settles, Answers, Hears, Loses}
use Rattle.native_plan.specs.Course.{Fills, Shuts, AimsAt, ToldWell, EndsRead, IsAllowed}
use Rattle.native_plan.proofs.Falls.{plain_mend, falls, less_of_all}
use Rattle.native_plan.proofs.Verdicts.{verdict_allowed}
use Rattle.native_ties.specs.Parts.{IsCarried, OnItsWay, ToldSo, Goes, IsPartOf}
use Rattle.native_ties.proofs.Settling.{Noted}
use Rattle.native_ties.proofs.Hearing.{read_reads}
use Rattle.native_ties.proofs.Hearers.{silent, read_ends, place_is, hears_noted}
use Rattle.native_ties.proofs.Losers.{loses_noted, way_of}

---- what is on its way counts

pos_after : (k l : ℕ) → l < 8 → 0 < k + 20 - l
pos_after k l h = omega (arith, h)

pos_told : (k l : ℕ) → l < 8 → 0 < k + 10 - l
pos_told k l h = omega (arith, h)

pub out_left : (w l : ℕ) (z : Option Message) → l < 8 → is_some z ≡ true → 0 < left_with w l z
out_left w l None f h = absurd (false≢true h)
out_left w l (Some (Asked e)) f h = pos_after (w + more_after e) l f
out_left w l (Some (Answered e told)) f h = pos_told (w + more_after e) l f

pub in_sum : (f : Member → ℕ) (ms : List Member) (i : ℕ) → i < length ms → f (get_or ms i no_member) ≤ sum_by f ms
in_sum f [] i h = absurd (omega (arith, h))
in_sum f (m ∷ ms) zero h = omega (arith, sum_by-cons f m ms)
in_sum f (m ∷ ms) (suc i) h = (let more = in_sum f ms i (omega (arith, h)) in omega (arith, sum_by-cons f m ms, more))

below_some : (a b : ℕ) → 0 < b → IsBelow (0, 0) (a, b)
below_some zero b h = inr (refl, h)
below_some (suc a) b h = inl (omega arith)

---- it comes to what it comes to

pub kept_at_most : (ph : Phase) (cut want place j end : ℕ) (m : Member) → (is_out m ≡ false → is_done ph want j m ≡ true) → left_to end (resent ph cut want place true j m) ≤ left_to end m
kept_at_most ph cut want place j end m h = by (is_out m) refl
  where
    by : (b : Bool) → is_out m ≡ b → left_to end (if b then m else sent_on (is_done ph want j m) (errand_of ph cut want place m) m) ≤ left_to end m
    by true e = omega arith
    by false e = rw (h e) (omega arith)

settle_less : (d : Cell) (t i : ℕ) (p b new : Pending) → QuorumLaw d → Noted d t b → Settles d.cut b (verdict_of d.cut b) new
    → p.outcome ≡ None → b.phase ≡ p.phase → b.want ≡ p.want
    → length b.members.items ≡ length p.members.items → i < length p.members.items
    → ((j : ℕ) → (j ≡ i → ⊥) → get_or b.members.items j no_member ≡ get_or p.members.items j no_member)
    → ((j : ℕ) → j < length p.members.items → is_out (get_or p.members.items j no_member) ≡ false → is_done p.phase p.want j (get_or p.members.items j no_member) ≡ true)
    → 0 < left_to (end_of p.phase p.want) (get_or p.members.items i no_member)
    → (verdict_of d.cut b ≡ Go p.phase → left_to (end_of p.phase p.want) (resent p.phase d.cut p.want (place_of b.task) true i (get_or b.members.items i no_member)) < left_to (end_of p.phase p.want) (get_or p.members.items i no_member))
    → IsBelow (left_now new) (left_now p)
settle_less d t i p b new law h s waiting phase want as_many here others idle some less =
    rw waiting (by (verdict_of d.cut b) refl (verdict_allowed d (operation d t) (aims_of d.cut b) b.members.items (is_some b.got) law h.course h.told) s)
  where
    end : ℕ
    end = end_of p.phase p.want

    sum_some : 0 < sum_by (left_to (end_of p.phase p.want)) p.members.items
    sum_some = (let most = in_sum (left_to (end_of p.phase p.want)) p.members.items i here in omega (arith, most, some))

    falls_in : (members : List Member) → verdict_of d.cut b ≡ Go p.phase → Resends p.phase d.cut p.want (place_of b.task) true b.members.items members → sum_by (left_to (end_of p.phase p.want)) members < sum_by (left_to (end_of p.phase p.want)) p.members.items
    falls_in members e r = less_of_all (left_to (end_of p.phase p.want)) p.members.items members i (r.as_many ∙ as_many) each here now
      where
        now : left_to (end_of p.phase p.want) (get_or members i no_member) < left_to (end_of p.phase p.want) (get_or p.members.items i no_member)
        now = rw (r.each i (omega (arith, here, as_many))) (less e)

        each : (j : ℕ) → j < length p.members.items → left_to (end_of p.phase p.want) (get_or members j no_member) ≤ left_to (end_of p.phase p.want) (get_or p.members.items j no_member)
        each j l = at (cases_eq j i)
          where
            at : (j ≡ i) ⊎ (j ≡ i → ⊥) → left_to (end_of p.phase p.want) (get_or members j no_member) ≤ left_to (end_of p.phase p.want) (get_or p.members.items j no_member)
            at (inl same) = rw same (omega (arith, now))
            at (inr other) = rw (r.each j (omega (arith, l, as_many)), others j other) (kept_at_most p.phase d.cut p.want (place_of b.task) j (end_of p.phase p.want) (get_or p.members.items j no_member) (idle j l))

    by : (v : Verdict) → verdict_of d.cut b ≡ v → IsAllowed d (operation d t) (aims_of d.cut b) b.members.items (is_some b.got) v → Settles d.cut b v new → IsBelow (left_now new) (plan_left p)
    by (Done a) e allowed z = rw z (below_some (rank_of p.phase) _ sum_some)
    by (Go ph) e allowed z = goes allowed.nearer
      where
        is : left_now new ≡ (rank_of ph, sum_by (left_to (end_of ph b.want)) new.members.items)
        is = ap left_now z.0 ∙ rw h.waits refl

        goes : (rank_of ph < rank_of b.phase) ⊎ (ph ≡ b.phase) → IsBelow (left_now new) (plan_left p)
        goes (inl l) = rw is (inl (omega (arith, l, ap rank_of phase)))
        goes (inr same) =
            let ph_is : ph ≡ p.phase = same ∙ phase in
            let keep : (rank_of ph == rank_of b.phase) ≡ true = eq-eqb (rank_of ph) (rank_of b.phase) (ap rank_of same) in
            let r : Resends p.phase d.cut p.want (place_of b.task) true b.members.items new.members.items = rw (← ph_is, ← want, ← keep) z.1 in
            rw (is, ph_is, want) (inr (refl, falls_in new.members.items (e ∙ ap Go ph_is) r))

---- a request comes to its server

-- no seal follows in its place
due_more : (cut : ℕ) (e : Errand) → more_after (due_of cut e) ≡ more_after e
due_more cut (Store p) = by (nat_lt p cut)
  where
    by : (b : Bool) → more_after (if b then Trim else Store p) ≡ 0
    by true = refl
    by false = refl
due_more cut (Repair p) = plain_mend cut p
due_more cut Seal = refl
due_more cut Tail = refl
due_more cut (Read p) = refl
due_more cut Trim = refl

pub answered_less : (c : Cell) (t i : ℕ) (p new : Pending) (e : Errand) (told : Told) → IsPartOf c t p → p.outcome ≡ None → i < length c.servers → (get_or p.members.items i no_member).message ≡ Some (Asked e) → Answers i (due_of c.cut e) told p new → IsBelow (left_now new) (left_now p)
answered_less c t i p new e told part waiting here message a =
    let goes : Goes c t p = part.goes waiting in
    let way : OnItsWay c (operation c t) t i (aims_of c.cut p) (get_or p.members.items i no_member) e = subst (IsCarried c (operation c t) t i (aims_of c.cut p) (get_or p.members.items i no_member)) message (goes.carried i here) in
    let few : (get_or p.members.items i no_member).losses < 8 = way.few in
    let among : i < length p.members.items = omega (arith, here, goes.course.all) in
    let now : Member = record (get_or p.members.items i no_member) { message = Some (Answered (due_of c.cut e) told) } in
    let less : left_to (end_of p.phase p.want) (record (get_or p.members.items i no_member) { message = Some (Answered (due_of c.cut e) told) }) < left_to (end_of p.phase p.want) (get_or p.members.items i no_member) = rw (message, due_more c.cut e) (moved (40 * (end_of p.phase p.want - (get_or p.members.items i no_member).at) + more_after e) (get_or p.members.items i no_member).losses few) in
    let all_less : sum_by (left_to (end_of p.phase p.want)) (set p.members.items i (record (get_or p.members.items i no_member) { message = Some (Answered (due_of c.cut e) told) })) < sum_by (left_to (end_of p.phase p.want)) p.members.items =
    less_of_all (left_to (end_of p.phase p.want)) p.members.items (set p.members.items i (record (get_or p.members.items i no_member) { message = Some (Answered (due_of c.cut e) told) })) i (length-set p.members.items i _) (each (record (get_or p.members.items i no_member) { message = Some (Answered (due_of c.cut e) told) }) among less) among (rw (get_or-set_same p.members.items i now no_member among) less) in
    rw (a.rest, waiting) (inr (refl, rw a.members all_less))
  where
    moved : (k l : ℕ) → l < 8 → k + 10 - l < k + 20 - l
    moved k l h = omega (arith, h)

    each : (now : Member) → i < length p.members.items → left_to (end_of p.phase p.want) now < left_to (end_of p.phase p.want) (get_or p.members.items i no_member) → (j : ℕ) → j < length p.members.items → left_to (end_of p.phase p.want) (get_or (set p.members.items i now) j no_member) ≤ left_to (end_of p.phase p.want) (get_or p.members.items j no_member)
    each now among less j l = at (cases_eq j i)
      where
        at : (j ≡ i) ⊎ (j ≡ i → ⊥) → left_to (end_of p.phase p.want) (get_or (set p.members.items i now) j no_member) ≤ left_to (end_of p.phase p.want) (get_or p.members.items j no_member)
        at (inl same) = rw (same, get_or-set_same p.members.items i now no_member among) (omega (arith, less))
        at (inr other) = rw (get_or-set_other p.members.items i j now no_member other) (omega arith)

-- a member without a message has done what is wanted
pub idle_done : (c : Cell) (t : ℕ) (p : Pending) → Goes c t p → (j : ℕ) → j < length p.members.items → is_out (get_or p.members.items j no_member) ≡ false → is_done p.phase p.want j (get_or p.members.items j no_member) ≡ true
idle_done c t p g j l out = by (get_or p.members.items j no_member).message out (g.carried j (omega (arith, l, g.course.all)))
  where
    by : (z : Option Message) → is_some z ≡ false → IsCarried c (operation c t) t j (aims_of c.cut p) (get_or p.members.items j no_member) z → is_done p.phase p.want j (get_or p.members.items j no_member) ≡ true
    by None e h = h
    by (Some x) e h = absurd (true≢false e)

---- an answer comes

gone_done : (cut firm place j : ℕ) (got : Bool) (ms : List Member) (next : Phase) → place < cut → judged_reading cut firm place j got ms ≡ Go next → ⊥
gone_done cut firm place j got ms next l = by (nat_le firm place) (nat_lt place cut) (lt-ltb place cut l)
  where
    by : (a b : Bool) → b ≡ true → (if a then Done outcomes.Beyond else (if b then Done outcomes.Gone else (if got then Done outcomes.Found else Rattle.native_plan.specs.Plans.lacking ms (if Rattle.native_plan.specs.Plans.is_met (Reading j) 0 j (get_or ms j no_member) || Rattle.native_plan.specs.Members.is_unreached (get_or ms j no_member) then Rattle.native_plan.specs.Plans.judged_next j ms else Go (Reading j))))) ≡ Go next → ⊥
    by true b e h = cc
    by false true e h = cc
    by false false e h = false≢true e

gone_ends : (ph : Phase) (want cut firm place p : ℕ) (got : Bool) (aim : Aim) (ms : List Member) (next : Phase) → AimsAt place aim ph → aim ≡ AimRead p → place < cut → judged ph want cut firm place got ms ≡ Go next → ⊥
gone_ends (Reading j) want cut firm place p got aim ms next a e l h = gone_done cut firm place j got ms next l h
gone_ends Filling want cut firm place p got aim ms next a e l h = subst Fills e a
gone_ends Asking want cut firm place p got aim ms next a e l h = (let x : AimTail ≡ AimRead p = sym a ∙ e in cc)
gone_ends (Opening t) want cut firm place p got aim ms next a e l h = (let x : AimTail ≡ AimRead p = sym a ∙ e in cc)
gone_ends Shutting want cut firm place p got aim ms next a e l h = subst Shuts e a
gone_ends Sealing want cut firm place p got aim ms next a e l h = (let x : AimTail ≡ AimRead p = sym a ∙ e in cc)
gone_ends (Mending t) want cut firm place p got aim ms next a e l h = (let x : AimTail ≡ AimRead p = sym a ∙ e in cc)
gone_ends Trimming want cut firm place p got aim ms next a e l h = (let x : AimTrim a.0 ≡ AimRead p = sym a.1 ∙ e in cc)

-- an answer that ends a Read lets it go on no more
no_end : (c : Cell) (t i : ℕ) (p b : Pending) (e : Errand) (told : Told) (next : Phase) → Goes c t p → OnItsWay c (operation c t) t i (aims_of c.cut p) (get_or p.members.items i no_member) e → ToldWell (server_before (operation c t) i) c.cut p.phase p.want (get_or p.members.items i no_member) e told →
    b.phase ≡ p.phase → b.want ≡ p.want → b.firm ≡ p.firm → b.task ≡ p.task → b.got ≡ newer_of (got_of told) p.got → verdict_of c.cut b ≡ Go next → EndsRead e told → ⊥
no_end c t i p b (Read q) (Got x) next g way well phase want firm task got v h =
    let aim = read_reads p.phase c.cut p.want (place_of p.task) (operation c t).aim (get_or p.members.items i no_member) (Read q) g.course.aims_at way.planned q refl in
    read_ends p.phase p.want c.cut p.firm (place_of p.task) q (operation c t).aim b.members.items next g.course.aims_at aim (rw (← phase, ← want, ← firm, ← task) (sym (ap (λ z. judged b.phase b.want c.cut b.firm (place_of b.task) (is_some z) b.members.items) got) ∙ v))
no_end c t i p b (Read q) (Cut y) next g way well phase want firm task got v h =
    let aim = read_reads p.phase c.cut p.want (place_of p.task) (operation c t).aim (get_or p.members.items i no_member) (Read q) g.course.aims_at way.planned q refl in
    let place : q ≡ place_of p.task = place_is (place_of p.task) (operation c t).aim p.phase q g.course.aims_at aim in
    gone_ends p.phase p.want c.cut p.firm (place_of p.task) q (is_some b.got) (operation c t).aim b.members.items next g.course.aims_at aim (omega (arith, place, well)) (rw (← phase, ← want, ← firm, ← task) v)
no_end c t i p b (Read q) Down next g way well phase want firm task got v h = h
no_end c t i p b (Read q) DiskFault next g way well phase want firm task got v h = h
no_end c t i p b (Read q) (Sealed n) next g way well phase want firm task got v h = h
no_end c t i p b (Read q) (Unsealed n) next g way well phase want firm task got v h = h
no_end c t i p b (Read q) (Behind n) next g way well phase want firm task got v h = h
no_end c t i p b (Read q) (Ack n) next g way well phase want firm task got v h = h
no_end c t i p b (Read q) (Short n) next g way well phase want firm task got v h = h
no_end c t i p b (Read q) (Trimmed n) next g way well phase want firm task got v h = h
no_end c t i p b (Store q) told next g way well phase want firm task got v h = h
no_end c t i p b Seal told next g way well phase want firm task got v h = h
no_end c t i p b Tail told next g way well phase want firm task got v h = h
no_end c t i p b (Repair q) told next g way well phase want firm task got v h = h
no_end c t i p b Trim told next g way well phase want firm task got v h = h

pub heard_less : (c : Cell) (t i : ℕ) (p new : Pending) (e : Errand) (told : Told) → QuorumLaw c → IsPartOf c t p → p.outcome ≡ None → i < length c.servers → (get_or p.members.items i no_member).message ≡ Some (Answered e told) → Hears c.cut i e told p new → IsBelow (left_now new) (left_now p)
heard_less c t i p new e told law part waiting here message h =
    let goes : Goes c t p = part.goes waiting in
    let so : ToldSo c (operation c t) t i (aims_of c.cut p) (get_or p.members.items i no_member) e told = subst (IsCarried c (operation c t) t i (aims_of c.cut p) (get_or p.members.items i no_member)) message (goes.carried i here) in
    let n = hears_noted c t i p h.between e told law part waiting here message h.notes in
    let among : i < length p.members.items = omega (arith, here, goes.course.all) in
    let b : Pending = h.between in
    let phase : h.between.phase ≡ p.phase = ap (λ (x : Pending). x.phase) h.notes.rest in
    let want : h.between.want ≡ p.want = ap (λ (x : Pending). x.want) h.notes.rest in
    let now_is : get_or h.between.members.items i no_member ≡ heard_by p.want e told (get_or p.members.items i no_member) = ap (λ (ms : List Member). get_or ms i no_member) h.notes.members ∙ get_or-set_same p.members.items i (heard_by p.want e told (get_or p.members.items i no_member)) no_member among in
    settle_less n.0 t i p h.between new n.1 n.2 (subst (λ k. Settles k h.between (verdict_of k h.between) new) (sym n.3) h.settles) waiting phase want
    (ap (λ (ms : List Member). length ms) h.notes.members ∙ length-set p.members.items i _) among
    (λ j other. ap (λ (ms : List Member). get_or ms j no_member) h.notes.members ∙ get_or-set_other p.members.items i j _ no_member other)
    (idle_done c t p goes)
    (rw message (pos_told (40 * (end_of p.phase p.want - (get_or p.members.items i no_member).at) + more_after e) (get_or p.members.items i no_member).losses so.way.few))
    (λ v. rw (now_is, silent p.want e told (get_or p.members.items i no_member), ap (λ (x : Pending). place_of x.task) h.notes.rest) (falls (server_before (operation c t) i) c.cut p.want (place_of p.task) i (get_or p.members.items i no_member) p.phase n.0.cut e told message so.way.few so.way.planned so.well
    (no_end c t i p h.between e told p.phase goes so.way so.well phase want (ap (λ (x : Pending). x.firm) h.notes.rest) (ap (λ (x : Pending). x.task) h.notes.rest) (ap (λ (x : Pending). x.got) h.notes.rest) (subst (λ k. verdict_of k h.between ≡ Go p.phase) n.3 v))))

---- a message is lost

tried_less : (ph : Phase) (cut want place i end : ℕ) (m : Member) → m.losses < 8 → is_out m ≡ true → left_to end (resent ph cut want place true i (tried m)) < left_to end m
tried_less ph cut want place i end m few out = by (m.losses + 1 == 8) refl
  where
    some : 0 < left_to end m
    some = out_left (40 * (end - m.at)) m.losses m.message few out

    less : (w l : ℕ) (z : Option Message) → is_some z ≡ true → l + 1 < 8 → left_with w (l + 1) z < left_with w l z
    less w l None o f = absurd (false≢true o)
    less w l (Some (Asked e)) o f = less_asked (w + more_after e) l f
      where
        less_asked : (k l : ℕ) → l + 1 < 8 → k + 20 - (l + 1) < k + 20 - l
        less_asked k l f = omega (arith, f)
    less w l (Some (Answered e told)) o f = less_told (w + more_after e) l f
      where
        less_told : (k l : ℕ) → l + 1 < 8 → k + 10 - (l + 1) < k + 10 - l
        less_told k l f = omega (arith, f)

    by : (b : Bool) → (m.losses + 1 == 8) ≡ b → left_to end (resent ph cut want place true i (if b then record m { losses = m.losses + 1; unreached = true; message = None } else record m { losses = m.losses + 1 })) < left_to end m
    by true e = some
    by false e =
        let fewer : m.losses + 1 < 8 = (let no : m.losses + 1 ≡ 8 → ⊥ = (λ x. false≢true (sym e ∙ eq-eqb (m.losses + 1) 8 x)) in omega (arith, few, no)) in
        rw out (less (40 * (end - m.at)) m.losses m.message out fewer)

pub lost_less : (c : Cell) (t i : ℕ) (p new : Pending) → QuorumLaw c → IsPartOf c t p → p.outcome ≡ None → i < length c.servers → is_out (get_or p.members.items i no_member) ≡ true → Loses c.cut i p new → IsBelow (left_now new) (left_now p)
lost_less c t i p new law part waiting here out h =
    let goes : Goes c t p = part.goes waiting in
    let way : (e : Errand) × OnItsWay c (operation c t) t i (aims_of c.cut p) (get_or p.members.items i no_member) e = way_of c (operation c t) t i (aims_of c.cut p) (get_or p.members.items i no_member) (get_or p.members.items i no_member).message refl out (goes.carried i here) in
    let n = loses_noted c t i p h.between law part waiting here out h.notes in
    let among : i < length p.members.items = omega (arith, here, goes.course.all) in
    let phase : h.between.phase ≡ p.phase = ap (λ (x : Pending). x.phase) h.notes.rest in
    let want : h.between.want ≡ p.want = ap (λ (x : Pending). x.want) h.notes.rest in
    let now_is : get_or h.between.members.items i no_member ≡ tried (get_or p.members.items i no_member) = ap (λ (ms : List Member). get_or ms i no_member) h.notes.members ∙ get_or-set_same p.members.items i (tried (get_or p.members.items i no_member)) no_member among in
    settle_less n.0 t i p h.between new n.1 n.2 (subst (λ k. Settles k h.between (verdict_of k h.between) new) (sym n.3) h.settles) waiting phase want
    (ap (λ (ms : List Member). length ms) h.notes.members ∙ length-set p.members.items i _) among
    (λ j other. ap (λ (ms : List Member). get_or ms j no_member) h.notes.members ∙ get_or-set_other p.members.items i j _ no_member other)
    (idle_done c t p goes)
    (out_left (40 * (end_of p.phase p.want - (get_or p.members.items i no_member).at)) (get_or p.members.items i no_member).losses (get_or p.members.items i no_member).message way.1.few out)
    (λ v. rw now_is (tried_less p.phase n.0.cut p.want (place_of h.between.task) i (end_of p.phase p.want) (get_or p.members.items i no_member) way.1.few out))
