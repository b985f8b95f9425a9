-- An operation that goes on sends what is wanted.
use Rattle.std.proofs.Common.{◌≡◌, ℕ, zero, suc, ◌<◌, ◌≤◌, Bool, true, false, refl, sym, ◌∙◌, ap, subst, arith, List, [], ◌∷◌, length, get_or, Option, Some, None, inl, inr}
use Rattle.std.specs.Prelude.{◌⊎◌, ◌&&◌, ◌||◌, nat_le, nat_lt, is_some, if◌then◌else◌}
use Rattle.std.proofs.lemmas.Bool.{true≢false, leb-true, leb-false, ltb-true, or_parts, cases_lt}
use Rattle.quorum_cell.specs.Servers.{Server}
use Rattle.quorum_cell.specs.Cells.{Cell, Operation, server}
use Rattle.native_plan.specs.declared.member.Member.{Member}
use Rattle.native_plan.specs.declared.aims.Aims.{Aims}
use Rattle.native_plan.specs.declared.message.Errand.{Errand}
use Rattle.native_plan.specs.declared.message.Errand.TheVariants.{Store, Seal, Tail, Repair, Read, Trim}
use Rattle.native_plan.specs.declared.message.Message.{Message}
use Rattle.native_plan.specs.declared.message.Message.TheVariants.{Asked}
use Rattle.native_plan.specs.declared.message.Phase.{Phase}
use Rattle.native_plan.specs.declared.message.Phase.TheVariants.{Filling, Asking, Opening, Shutting, Sealing, Mending, Reading, Trimming}
use Rattle.native_plan.specs.Members.{no_member, is_out, is_found_sealed, is_mended_to, due_of}
use Rattle.native_plan.specs.Plans.{is_done, fill_of, errand_of, sent_on, resent, Resends}
use Rattle.native_plan.specs.Course.{Knows, PhaseFits, HaveTurned, IsOnCourse, GoesOn, IsPlanned, FillsTo, MendsTo}
use Rattle.native_ties.specs.Parts.{OnItsWay, IsCarried}

-- what is sent is planned

fill_planned : (goal cut : ℕ) (m : Member) → FillsTo goal cut m (fill_of goal cut m.at)
fill_planned goal cut m = by (nat_le goal m.at) refl (nat_lt m.at cut) refl
  where
    by : (a : Bool) → nat_le goal m.at ≡ a → (b : Bool) → nat_lt m.at cut ≡ b → FillsTo goal cut m (if a then Tail else (if b then Trim else Store m.at))
    by true e b f = leb-true _ _ e
    by false e true f = (leb-false _ _ e, ltb-true _ _ f)
    by false e false f = (refl, leb-false _ _ e)

short_of : (t : ℕ) (m : Member) → is_some m.sealed ≡ true → is_mended_to t m ≡ false → m.at < t
short_of t m sealed h = by (nat_le t m.at) refl
  where
    by : (b : Bool) → nat_le t m.at ≡ b → m.at < t
    by true e = absurd (true≢false (sym (rw (sealed, e) refl) ∙ h))
    by false e = leb-false _ _ e

mend_planned : (t cut : ℕ) (m : Member) → is_mended_to t m ≡ false → MendsTo t cut m (if is_found_sealed m then due_of cut (Repair m.at) else Seal)
mend_planned t cut m h = by (is_some m.sealed) refl (nat_lt m.at cut) refl
  where
    by : (b : Bool) → is_some m.sealed ≡ b → (d : Bool) → nat_lt m.at cut ≡ d → MendsTo t cut m (if b then (if d then Trim else Repair m.at) else Seal)
    by true e true f = (short_of t m e h, ltb-true _ _ f, e)
    by true e false f = (refl, short_of t m e h, e)
    by false e d f = e

pub planned_of : (ph : Phase) (cut want place i : ℕ) (m : Member) → (ph ≡ Trimming → want ≤ cut) → is_done ph want i m ≡ false → IsPlanned ph cut want place m (errand_of ph cut want place m)
planned_of Filling cut want place i m t h = fill_planned want cut m
planned_of Asking cut want place i m t h = refl
planned_of (Opening g) cut want place i m t h = fill_planned g cut m
planned_of Shutting cut want place i m t h = refl
planned_of Sealing cut want place i m t h = refl
planned_of (Mending g) cut want place i m t h = mend_planned g cut m (or_parts m.unreached (is_mended_to g m) h).1
planned_of (Reading j) cut want place i m t h = refl
planned_of Trimming cut want place i m t h = (refl, t refl)

fills_as : (goal cut losses : ℕ) (z : Option Message) (m : Member) (e : Errand) → FillsTo goal cut m e → FillsTo goal cut (record m { losses = losses; message = z }) e
fills_as goal cut losses z m Tail h = h
fills_as goal cut losses z m Trim h = h
fills_as goal cut losses z m (Store p) h = h
fills_as goal cut losses z m Seal h = h
fills_as goal cut losses z m (Repair p) h = h
fills_as goal cut losses z m (Read p) h = h

mends_as : (t cut losses : ℕ) (z : Option Message) (m : Member) (e : Errand) → MendsTo t cut m e → MendsTo t cut (record m { losses = losses; message = z }) e
mends_as t cut losses z m Tail h = h
mends_as t cut losses z m Trim h = h
mends_as t cut losses z m (Store p) h = h
mends_as t cut losses z m Seal h = h
mends_as t cut losses z m (Repair p) h = h
mends_as t cut losses z m (Read p) h = h

pub planned_as : (ph : Phase) (cut want place losses : ℕ) (z : Option Message) (m : Member) (e : Errand) → IsPlanned ph cut want place m e → IsPlanned ph cut want place (record m { losses = losses; message = z }) e
planned_as Filling cut want place losses z m e h = fills_as want cut losses z m e h
planned_as Asking cut want place losses z m e h = h
planned_as (Opening t) cut want place losses z m e h = fills_as t cut losses z m e h
planned_as Shutting cut want place losses z m e h = h
planned_as Sealing cut want place losses z m e h = h
planned_as (Mending t) cut want place losses z m e h = mends_as t cut losses z m e h
planned_as (Reading j) cut want place losses z m e h = h
planned_as Trimming cut want place losses z m e h = h

-- and so is, below the cut, that a server lets go first

store_trim : (ph : Phase) (cut want place : ℕ) (m : Member) (p : ℕ) → p < cut → IsPlanned ph cut want place m (Store p) → IsPlanned ph cut want place m Trim
store_trim Filling cut want place m p l h = (h.1, omega (arith, h.0, l))
store_trim (Opening t) cut want place m p l h = (h.1, omega (arith, h.0, l))
store_trim Asking cut want place m p l h = absurd (cc)
store_trim Shutting cut want place m p l h = absurd (cc)
store_trim Sealing cut want place m p l h = absurd (cc)
store_trim (Mending t) cut want place m p l h = absurd h
store_trim (Reading j) cut want place m p l h = absurd (cc)
store_trim Trimming cut want place m p l h = (let x = h.0 in absurd (cc))

repair_trim : (ph : Phase) (cut want place : ℕ) (m : Member) (p : ℕ) → p < cut → IsPlanned ph cut want place m (Repair p) → IsPlanned ph cut want place m Trim
repair_trim (Mending t) cut want place m p l h = (h.1, omega (arith, h.0, l), h.2)
repair_trim Filling cut want place m p l h = absurd h
repair_trim (Opening t) cut want place m p l h = absurd h
repair_trim Asking cut want place m p l h = absurd (cc)
repair_trim Shutting cut want place m p l h = absurd (cc)
repair_trim Sealing cut want place m p l h = absurd (cc)
repair_trim (Reading j) cut want place m p l h = absurd (cc)
repair_trim Trimming cut want place m p l h = (let x = h.0 in absurd (cc))

due_planned : (ph : Phase) (cut want place : ℕ) (m : Member) (e : Errand) → IsPlanned ph cut want place m e → IsPlanned ph cut want place m (due_of cut e)
due_planned ph cut want place m (Store p) h = by (nat_lt p cut) refl
  where
    by : (b : Bool) → nat_lt p cut ≡ b → IsPlanned ph cut want place m (if b then Trim else Store p)
    by true e = store_trim ph cut want place m p (ltb-true _ _ e) h
    by false e = h
due_planned ph cut want place m (Repair p) h = by (nat_lt p cut) refl
  where
    by : (b : Bool) → nat_lt p cut ≡ b → IsPlanned ph cut want place m (if b then Trim else Repair p)
    by true e = repair_trim ph cut want place m p (ltb-true _ _ e) h
    by false e = h
due_planned ph cut want place m Seal h = h
due_planned ph cut want place m Tail h = h
due_planned ph cut want place m (Read p) h = h
due_planned ph cut want place m Trim h = h

pub due_way : (c : Cell) (o : Operation) (t i : ℕ) (aims : Aims) (m : Member) (e : Errand) → OnItsWay c o t i aims m e → OnItsWay c o t i aims m (due_of c.cut e)
due_way c o t i aims m e h = record { planned = due_planned aims.phase c.cut aims.want aims.place m e h.planned; unmet = h.unmet; few = h.few; pooled = h.pooled }

-- a message that is sent or kept leaves alone what is known

pub knows_as : (s : Server) (o : Operation) (i losses : ℕ) (z : Option Message) (m : Member) → Knows s o i m → Knows s o i (record m { losses = losses; message = z })
knows_as s o i losses z m k = record { opened = k.opened; sealed = k.sealed; mended = k.mended; opened_within = k.opened_within; sealed_within = k.sealed_within; trimmed = k.trimmed; missed = k.missed; untrimmed = k.untrimmed; unreached_is = k.unreached_is; long = k.long }

knows_sent : (s : Server) (o : Operation) (i : ℕ) (b : Bool) (e : Errand) (m : Member) → Knows s o i m → Knows s o i (sent_on b e m)
knows_sent s o i true e m k = knows_as s o i 0 None m k
knows_sent s o i false e m k = knows_as s o i 0 (Some (Asked e)) m k

knows_resent : (s : Server) (o : Operation) (ph : Phase) (cut want place : ℕ) (keep : Bool) (i : ℕ) (m : Member) → Knows s o i m → Knows s o i (resent ph cut want place keep i m)
knows_resent s o ph cut want place keep i m k = by (keep && is_out m)
  where
    by : (b : Bool) → Knows s o i (if b then m else sent_on (is_done ph want i m) (errand_of ph cut want place m) m)
    by true = k
    by false = knows_sent s o i (is_done ph want i m) (errand_of ph cut want place m) m k

turned_sent : (b : Bool) (e : Errand) (m : Member) → ((sent_on b e m).passed || (sent_on b e m).unreached) ≡ (m.passed || m.unreached)
turned_sent true e m = refl
turned_sent false e m = refl

turned_resent : (ph : Phase) (cut want place : ℕ) (keep : Bool) (i : ℕ) (m : Member) → ((resent ph cut want place keep i m).passed || (resent ph cut want place keep i m).unreached) ≡ (m.passed || m.unreached)
turned_resent ph cut want place keep i m = by (keep && is_out m)
  where
    by : (b : Bool) → ((if b then m else sent_on (is_done ph want i m) (errand_of ph cut want place m) m).passed || (if b then m else sent_on (is_done ph want i m) (errand_of ph cut want place m) m).unreached) ≡ (m.passed || m.unreached)
    by true = refl
    by false = turned_sent (is_done ph want i m) (errand_of ph cut want place m) m

done_sent : (b : Bool) (e : Errand) (m : Member) (ph : Phase) (want i : ℕ) → is_done ph want i (sent_on b e m) ≡ is_done ph want i m
done_sent true e m Filling want i = refl
done_sent true e m Asking want i = refl
done_sent true e m (Opening t) want i = refl
done_sent true e m Shutting want i = refl
done_sent true e m Sealing want i = refl
done_sent true e m (Mending t) want i = refl
done_sent true e m (Reading j) want i = refl
done_sent true e m Trimming want i = refl
done_sent false e m Filling want i = refl
done_sent false e m Asking want i = refl
done_sent false e m (Opening t) want i = refl
done_sent false e m Shutting want i = refl
done_sent false e m Sealing want i = refl
done_sent false e m (Mending t) want i = refl
done_sent false e m (Reading j) want i = refl
done_sent false e m Trimming want i = refl

pub done_resent : (ph : Phase) (cut want place : ℕ) (keep : Bool) (i : ℕ) (m : Member) → is_done ph want i (resent ph cut want place keep i m) ≡ is_done ph want i m
done_resent ph cut want place keep i m = by (keep && is_out m)
  where
    by : (b : Bool) → is_done ph want i (if b then m else sent_on (is_done ph want i m) (errand_of ph cut want place m) m) ≡ is_done ph want i m
    by true = refl
    by false = done_sent (is_done ph want i m) (errand_of ph cut want place m) m ph want i

past_none : (xs ys : List Member) (i : ℕ) → length ys ≡ length xs → length xs ≤ i → get_or ys i no_member ≡ get_or xs i no_member
past_none [] [] i e l = refl
past_none [] (y ∷ ys) i e l = absurd (omega (arith, e))
past_none (x ∷ xs) [] i e l = absurd (omega (arith, e))
past_none (x ∷ xs) (y ∷ ys) zero e l = absurd (omega (arith, l))
past_none (x ∷ xs) (y ∷ ys) (suc i) e l = past_none xs ys i (omega (arith, e)) (omega (arith, l))

-- who was asked stays
pub turned_again : (ph : Phase) (cut want place : ℕ) (keep : Bool) (old new : List Member) (j : ℕ) → Resends ph cut want place keep old new → HaveTurned old j → HaveTurned new j
turned_again ph cut want place keep old new j r h = record {
  here = omega (arith, h.here, r.as_many);
  after = λ i l. same i ∙ h.after i l;
  before = λ i l. same i ∙ h.before i l;
}
  where
    same : (i : ℕ) → ((get_or new i no_member).passed || (get_or new i no_member).unreached) ≡ ((get_or old i no_member).passed || (get_or old i no_member).unreached)
    same i = by (cases_lt i (length old))
      where
        by : (i < length old) ⊎ (length old ≤ i) → ((get_or new i no_member).passed || (get_or new i no_member).unreached) ≡ ((get_or old i no_member).passed || (get_or old i no_member).unreached)
        by (inl l) = rw (r.each i l) (turned_resent ph cut want place keep i (get_or old i no_member))
        by (inr l) = ap (λ (m : Member). m.passed || m.unreached) (past_none old new i r.as_many l)

fits_again : (c : Cell) (o : Operation) (to : Phase) (ph : Phase) (cut want place : ℕ) (keep : Bool) (old new : List Member) → Resends ph cut want place keep old new → PhaseFits c o old to → PhaseFits c o new to
fits_again c o (Opening t) ph cut want place keep old new r h = h
fits_again c o (Mending t) ph cut want place keep old new r h = h
fits_again c o Filling ph cut want place keep old new r h = h
fits_again c o Asking ph cut want place keep old new r h = h
fits_again c o Shutting ph cut want place keep old new r h = h
fits_again c o Sealing ph cut want place keep old new r h = h
fits_again c o (Reading j) ph cut want place keep old new r h = turned_again ph cut want place keep old new j r h
fits_again c o Trimming ph cut want place keep old new r h = h

-- it is on course in the phase in which it goes on
pub course_again : (c : Cell) (o : Operation) (aims : Aims) (old new : List Member) (ph : Phase) (keep : Bool) → (ph ≡ Filling → aims.phase ≡ Filling) → IsOnCourse c o aims old → GoesOn c o aims old ph → Resends ph aims.cut aims.want aims.place keep old new → IsOnCourse c o (record aims { phase = ph }) new
course_again c o aims old new ph keep first f g r = record {
  odd = f.odd;
  few = f.few;
  all = r.as_many ∙ f.all;
  knows = λ i l. (let here : i < length old = omega (arith, l, f.all) in rw (r.each i here) (knows_resent (server c i) o ph aims.cut aims.want aims.place keep i (get_or old i no_member) (f.knows i l)));
  want = f.want;
  cut = f.cut;
  firm = f.firm;
  held = f.held;
  want_there = λ e. f.want_there (first e);
  aims_at = g.aims_at;
  phase = fits_again c o ph ph aims.cut aims.want aims.place keep old new r g.fits;
}

-- what a member sends is carried: it is kept in the same phase, or sent now
pub carried_again : (c : Cell) (o : Operation) (t i : ℕ) (aims : Aims) (ph : Phase) (keep : Bool) (m : Member) → (ph ≡ Trimming → aims.want ≤ aims.cut) → aims.cut ≡ c.cut → (keep ≡ true → ph ≡ aims.phase) → (is_out m ≡ true → IsCarried c o t i aims m m.message) → IsCarried c o t i (record aims { phase = ph }) (resent ph aims.cut aims.want aims.place keep i m) (resent ph aims.cut aims.want aims.place keep i m).message
carried_again c o t i aims ph keep m trims cut same h = by keep refl (is_out m) refl
  where
    sent : (d : Bool) → is_done ph aims.want i m ≡ d → IsCarried c o t i (record aims { phase = ph }) (sent_on d (errand_of ph aims.cut aims.want aims.place m) m) (sent_on d (errand_of ph aims.cut aims.want aims.place m) m).message
    sent true e = done_sent true (errand_of ph aims.cut aims.want aims.place m) m ph aims.want i ∙ e
    sent false e = record {
      planned = subst (λ (k : ℕ). IsPlanned ph k aims.want aims.place (sent_on false (errand_of ph aims.cut aims.want aims.place m) m) (errand_of ph aims.cut aims.want aims.place m)) cut (planned_as ph aims.cut aims.want aims.place 0 (Some (Asked (errand_of ph aims.cut aims.want aims.place m))) m (errand_of ph aims.cut aims.want aims.place m) (planned_of ph aims.cut aims.want aims.place i m trims e));
      unmet = done_sent false (errand_of ph aims.cut aims.want aims.place m) m ph aims.want i ∙ e;
      few = omega arith;
      pooled = inl refl;
    }

    by : (k : Bool) → keep ≡ k → (b : Bool) → is_out m ≡ b → IsCarried c o t i (record aims { phase = ph }) (if k && b then m else sent_on (is_done ph aims.want i m) (errand_of ph aims.cut aims.want aims.place m) m) (if k && b then m else sent_on (is_done ph aims.want i m) (errand_of ph aims.cut aims.want aims.place m) m).message
    by true e true out = subst (λ (p : Phase). IsCarried c o t i (record aims { phase = p }) m m.message) (sym (same e)) (h out)
    by true e false out = sent (is_done ph aims.want i m) refl
    by false e b out = sent (is_done ph aims.want i m) refl
