-- An operation comes to what it comes to.
use Rattle.std.proofs.Common.{◌≡◌, ℕ, ◌<◌, ◌≤◌, true, false, refl, sym, ◌∙◌, ap, subst, arith, [], ◌∷◌, length, get_or, Option, Some, None, inl, inr}
use Rattle.std.specs.Prelude.{◌⊎◌, ◌==◌, is_some, slice_get, All}
use Rattle.std.specs.List.{list_any}
use Rattle.std.proofs.lemmas.Bool.{false≢true, eqb-true}
use Rattle.std.proofs.lemmas.Option.{none-some}
use Rattle.delos_types.specs.declared.entry.Entry.{Entry}
use Rattle.quorum_cell.specs.declared.operation.Aim.{Aim}
use Rattle.quorum_cell.specs.declared.operation.Aim.TheVariants.{Tail as AimTail, Read as AimRead, Trim as AimTrim}
use Rattle.quorum_cell.specs.declared.operation.Outcome.{Outcome}
use Rattle.quorum_cell.specs.declared.operation.Outcome.TheVariants.{Found}
use Rattle.quorum_cell.specs.declared.operation.CellStep.TheVariants.{Decide}
use Rattle.quorum_cell.specs.Cells.{Cell, Operation, operation}
use Rattle.quorum_cell.specs.Tallies.{gives_entry, may_decide}
use Rattle.quorum_cell.specs.Steps.{put_operation, decide, waits}
use Rattle.quorum_cell.specs.Law.{QuorumLaw}
use Rattle.cell_views.proofs.Sounds.{open_known}
use Rattle.native_plan.specs.declared.member.Member.{Member}
use Rattle.native_plan.specs.declared.pending.Pending.{Pending}
use Rattle.native_plan.specs.declared.message.Phase.{Phase}
use Rattle.native_plan.specs.declared.message.Phase.TheVariants.{Filling, Asking, Opening, Shutting, Sealing, Mending, Reading, Trimming}
use Rattle.native_plan.specs.declared.judge.Verdict.{Verdict}
use Rattle.native_plan.specs.declared.judge.Verdict.TheVariants.{Done, Go}
use Rattle.native_plan.specs.Members.{no_member, is_out}
use Rattle.native_plan.specs.Plans.{is_done, rank_of, place_of, Resends}
use Rattle.native_plan.specs.Pendings.{aims_of, verdict_of, Settles}
use Rattle.native_plan.specs.Course.{Fills, AimsAt, IsOnCourse, GoesOn, IsAllowed}
use Rattle.native_plan.proofs.Verdicts.{verdict_allowed}
use Rattle.native_ties.specs.Parts.{IsCarried, NamesRequest, Goes, Shows, IsPartOf, GoesBy}
use Rattle.native_ties.specs.Steps.{IsEnd, GoesAs}
use Rattle.native_ties.proofs.Resending.{course_again, carried_again, done_resent}
use Rattle.native_ties.proofs.Hearing.{put_there, put_other}

-- an operation that has just noted something, before it comes to anything
pub record Noted (d : Cell) (t : ℕ) (b : Pending) : Type 0 where
  pub shows : Shows d t b
  pub undecided : (operation d t).decided ≡ None
  pub waits : b.outcome ≡ None
  pub course : IsOnCourse d (operation d t) (aims_of d.cut b) b.members.items
  pub carried : (i : ℕ) → i < length d.servers → is_out (get_or b.members.items i no_member) ≡ true → IsCarried d (operation d t) t i (aims_of d.cut b) (get_or b.members.items i no_member) (get_or b.members.items i no_member).message
  pub losses : All (NamesRequest d) (operation d t).lost
  pub told : is_some b.got ≡ true → list_any (gives_entry (place_of b.task)) (operation d t).heard ≡ true
  pub got : (ph : Phase) → verdict_of d.cut b ≡ Go ph → b.got ≡ None
  pub there : (x : Entry) → b.got ≡ Some x → (q : ℕ) → (operation d t).aim ≡ AimRead q → slice_get d.entries q ≡ Some x
  pub trimming : b.phase ≡ Trimming → b.want ≤ d.cut

no_tail_fills : (aim : Aim) → aim ≡ AimTail → Fills aim → ⊥
no_tail_fills aim e h = subst Fills e h

first_is : (place : ℕ) (aim : Aim) (ph : Phase) → AimsAt place aim ph → Fills aim → (1 < rank_of ph) ⊎ (Filling ≡ ph) → ph ≡ Filling
first_is place aim ph a h (inr e) = sym e
first_is place aim Filling a h (inl l) = refl
first_is place aim Asking a h (inl l) = absurd (no_tail_fills aim a h)
first_is place aim (Opening t) a h (inl l) = absurd (no_tail_fills aim a h)
first_is place aim Shutting a h (inl l) = absurd (omega (arith, l))
first_is place aim Sealing a h (inl l) = absurd (no_tail_fills aim a h)
first_is place aim (Mending t) a h (inl l) = absurd (no_tail_fills aim a h)
first_is place aim (Reading j) a h (inl l) = absurd (subst Fills a h)
first_is place aim Trimming a h (inl l) = absurd (subst Fills a.1 h)

trim_is : (place : ℕ) (aim : Aim) (ph : Phase) → AimsAt place aim ph → (n : ℕ) → aim ≡ AimTrim n → ph ≡ Trimming
trim_is place aim Filling a n e = absurd (subst Fills e a)
trim_is place aim Asking a n e = (let x : AimTail ≡ AimTrim n = sym a ∙ e in absurd (cc))
trim_is place aim (Opening t) a n e = (let x : AimTail ≡ AimTrim n = sym a ∙ e in absurd (cc))
trim_is place aim Shutting a n e = absurd (subst shuts e a)
  where
    shuts : Aim → Type 0
    shuts x = Rattle.native_plan.specs.Course.Shuts x
trim_is place aim Sealing a n e = (let x : AimTail ≡ AimTrim n = sym a ∙ e in absurd (cc))
trim_is place aim (Mending t) a n e = (let x : AimTail ≡ AimTrim n = sym a ∙ e in absurd (cc))
trim_is place aim (Reading j) a n e = (let x : AimRead place ≡ AimTrim n = sym a ∙ e in absurd (cc))
trim_is place aim Trimming a n e = refl

some_got : (z : Option Entry) → is_some z ≡ true → (x : Entry) × (z ≡ Some x)
some_got None h = absurd (false≢true h)
some_got (Some x) h = (x, refl)

-- it is decided

decided_is : (d : Cell) (t : ℕ) (a : Outcome) → (operation d t).closed ≡ false → (operation d t).decided ≡ None → may_decide (length d.servers) d.cut (operation d t) (operation d t).aim a ≡ true → decide d t a ≡ put_operation d t (record (operation d t) { decided = Some a })
decided_is d t a is_open undecided may =
    let waiting : waits (operation d t) ≡ true = rw (is_open, undecided) refl in
    rw (waiting, may) refl

-- what it shows is not changed by what it comes to
shows_put : (d : Cell) (t : ℕ) (b : Pending) (a : Outcome) → t < length d.operations → Shows d t b → Shows (put_operation d t (record (operation d t) { decided = Some a })) t (record b { outcome = Some a })
shows_put d t b a known h =
    let there = put_there d t (record (operation d t) { decided = Some a }) known in
    record { is_open = rw there h.is_open; task = rw there h.task; size = rw there h.size; reach = rw there h.reach; firm = rw there h.firm; shut = rw there h.shut; faults = rw there h.faults; down = rw there h.down }

done_part : (d : Cell) (t : ℕ) (b new : Pending) (a : Outcome) → Noted d t b → may_decide (length d.servers) d.cut (operation d t) (operation d t).aim a ≡ true → (a ≡ Found → is_some b.got ≡ true) → new ≡ record b { outcome = Some a } → GoesBy d t d.faults new
done_part d t b new a h may found same =
    let known : t < length d.operations = open_known d t h.shows.is_open in
    let is : decide d t a ≡ put_operation d t (record (operation d t) { decided = Some a }) = decided_is d t a h.shows.is_open h.undecided may in
    let there : operation (put_operation d t (record (operation d t) { decided = Some a })) t ≡ record (operation d t) { decided = Some a } = put_there d t (record (operation d t) { decided = Some a }) known in
    let part : IsPartOf (put_operation d t (record (operation d t) { decided = Some a })) t (record b { outcome = Some a }) = record {
      shows = shows_put d t b a known h.shows;
      outcome = ap (λ (o : Operation). o.decided) there;
      goes = λ z. absurd (cc);
      found = λ z. (let is_found : a ≡ Found = cc in let x : (x : Entry) × (b.got ≡ Some x) = some_got b.got (found is_found) in
          record { entry = x.0; got = x.1; is = λ q e. h.there x.0 x.1 q (sym (ap (λ (o : Operation). o.aim) there) ∙ e) });
    } in
    record {
      steps = Decide t a ∷ [];
      strays = (tt, tt);
      part = subst (λ (c : Cell). IsPartOf c t new) (sym is) (subst (λ (p : Pending). IsPartOf (put_operation d t (record (operation d t) { decided = Some a })) t p) (sym same) part);
      others = λ q n. ap (λ (c : Cell). operation c q) is ∙ put_other d t q (record (operation d t) { decided = Some a }) n;
      servers = ap (λ (c : Cell). c.servers) is;
      faults_are = ap (λ (c : Cell). c.faults) is;
    }

-- it goes on

go_goes : (d : Cell) (t : ℕ) (b q : Pending) (ph : Phase) → Noted d t b → verdict_of d.cut b ≡ Go ph → GoesOn d (operation d t) (aims_of d.cut b) b.members.items ph → Resends ph d.cut b.want (place_of b.task) (rank_of ph == rank_of b.phase) b.members.items q.members.items → Goes d t (record b { phase = ph; members = q.members })
go_goes d t b q ph h verdict g r = record {
  course = course_again d (operation d t) (aims_of d.cut b) b.members.items q.members.items ph (rank_of ph == rank_of b.phase) first h.course g r;
  carried = λ i l. (let here : i < length b.members.items = omega (arith, l, h.course.all) in
      subst (λ (m : Member). IsCarried d (operation d t) t i (record (aims_of d.cut b) { phase = ph }) m m.message) (sym (r.each i here))
      (carried_again d (operation d t) t i (aims_of d.cut b) ph (rank_of ph == rank_of b.phase) (get_or b.members.items i no_member) trims refl kept (h.carried i l)));
  losses = h.losses;
  ungot = h.got ph verdict;
  trimming = trims;
  wanted = λ all. g.wanted (λ i l. sym (done_resent ph d.cut b.want (place_of b.task) (rank_of ph == rank_of b.phase) i (get_or b.members.items i no_member)) ∙ ap (is_done ph b.want i) (sym (r.each i l)) ∙ all i (omega (arith, l, r.as_many)));
}
  where
    first : ph ≡ Filling → b.phase ≡ Filling
    first e = first_is (place_of b.task) (operation d t).aim b.phase h.course.aims_at (subst (λ (x : Phase). AimsAt (place_of b.task) (operation d t).aim x) e g.aims_at) (side g.nearer)
      where
        side : (rank_of ph < rank_of b.phase) ⊎ (ph ≡ b.phase) → (1 < rank_of b.phase) ⊎ (Filling ≡ b.phase)
        side (inl l) = inl (omega (arith, l, ap rank_of e))
        side (inr s) = inr (sym e ∙ s)

    trims : ph ≡ Trimming → b.want ≤ d.cut
    trims e = let aim : (n : ℕ) × ((operation d t).aim ≡ AimTrim n) = subst (λ (x : Phase). AimsAt (place_of b.task) (operation d t).aim x) e g.aims_at in h.trimming (trim_is (place_of b.task) (operation d t).aim b.phase h.course.aims_at aim.0 aim.1)

    kept : (rank_of ph == rank_of b.phase) ≡ true → ph ≡ b.phase
    kept e = by g.nearer
      where
        by : (rank_of ph < rank_of b.phase) ⊎ (ph ≡ b.phase) → ph ≡ b.phase
        by (inl l) = absurd (let same : rank_of ph ≡ rank_of b.phase = eqb-true (rank_of ph) (rank_of b.phase) e in omega (arith, l, same))
        by (inr s) = s

go_part : (d : Cell) (t : ℕ) (b new : Pending) (ph : Phase) → Noted d t b → verdict_of d.cut b ≡ Go ph → GoesOn d (operation d t) (aims_of d.cut b) b.members.items ph → (new ≡ record b { phase = ph; members = new.members }) × Resends ph d.cut b.want (place_of b.task) (rank_of ph == rank_of b.phase) b.members.items new.members.items → GoesBy d t d.faults new
go_part d t b new ph h verdict g s =
    let part : IsPartOf d t (record b { phase = ph; members = new.members }) = record {
      shows = record { is_open = h.shows.is_open; task = h.shows.task; size = h.shows.size; reach = h.shows.reach; firm = h.shows.firm; shut = h.shows.shut; faults = h.shows.faults; down = h.shows.down };
      outcome = h.undecided ∙ sym h.waits;
      goes = λ z. go_goes d t b new ph h verdict g s.1;
      found = λ z. absurd (none-some _ (sym h.waits ∙ z));
    } in
    record { steps = []; strays = tt; part = subst (IsPartOf d t) (sym s.0) part; others = λ q n. refl; servers = refl; faults_are = refl }

-- whatever it comes to
pub settles_as : (d : Cell) (t : ℕ) (b new : Pending) → QuorumLaw d → Noted d t b → Settles d.cut b (verdict_of d.cut b) new → GoesAs d t d.faults new (IsEnd t)
unfolding done_part go_part
settles_as d t b new law h s = by (verdict_of d.cut b) refl (verdict_allowed d (operation d t) (aims_of d.cut b) b.members.items (is_some b.got) law h.course h.told) s
  where
    by : (v : Verdict) → verdict_of d.cut b ≡ v → IsAllowed d (operation d t) (aims_of d.cut b) b.members.items (is_some b.got) v → Settles d.cut b v new → GoesAs d t d.faults new (IsEnd t)
    by (Done a) e allowed z = (done_part d t b new a h allowed.0 allowed.1 z, inr (a, refl))
    by (Go ph) e allowed z = (go_part d t b new ph h e allowed z, inl refl)

pub settled : (d : Cell) (t : ℕ) (b new : Pending) → QuorumLaw d → Noted d t b → Settles d.cut b (verdict_of d.cut b) new → GoesBy d t d.faults new
settled d t b new law h s = (settles_as d t b new law h s).0
