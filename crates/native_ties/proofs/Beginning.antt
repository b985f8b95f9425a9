-- An operation begins as a part of its cell.
use Rattle.std.proofs.Common.{◌≡◌, ℕ, zero, suc, ◌+◌, ◌*◌, ◌<◌, ◌≤◌, true, false, refl, sym, ◌∙◌, ap, arith, List, [], ◌∷◌, ◌++◌, length, get_or, inl, inr}
use Rattle.std.specs.Prelude.{◌⊎◌, ◌||◌}
use Rattle.std.proofs.lemmas.Bool.{false≢true, true≢false, cases_lt}
use Rattle.std.proofs.lemmas.Option.{none-some}
use Rattle.std.proofs.lemmas.List.{length-append}
use Rattle.quorum_cell.specs.declared.operation.Aim.{Aim}
use Rattle.quorum_cell.specs.declared.operation.Aim.TheVariants.{Append as AimAppend, Settle as AimSettle, Tail as AimTail, Seal as AimSeal, Read as AimRead, Trim as AimTrim}
use Rattle.quorum_cell.specs.declared.operation.Outcome.TheVariants.{Found}
use Rattle.quorum_cell.specs.Servers.{Server, length_of}
use Rattle.quorum_cell.specs.Cells.{Cell, Operation, operation, server, no_operation}
use Rattle.quorum_cell.specs.Steps.{admit, begun, wanted, entries_after, cut_after}
use Rattle.quorum_cell.specs.Law.{QuorumLaw}
use Rattle.loglet_api.specs.Step.{task_of}
use Rattle.cell_views.specs.Views.{op_of}
use Rattle.native_plan.specs.declared.member.Member.{Member}
use Rattle.native_plan.specs.declared.aims.Aims.{Aims}
use Rattle.native_plan.specs.declared.pending.Pending.{Pending}
use Rattle.native_plan.specs.declared.pending.Start.{Start}
use Rattle.native_plan.specs.declared.message.Phase.TheVariants.{Filling, Trimming}
use Rattle.native_plan.specs.Members.{no_member, new_member, is_out}
use Rattle.native_plan.specs.Plans.{is_done, place_of, first_phase}
use Rattle.native_plan.specs.Pendings.{aims_of, Begins}
use Rattle.native_plan.specs.Course.{Knows, AimsAt, PhaseFits, HaveTurned, IsOnCourse, GoesOn}
use Rattle.native_ties.specs.Parts.{IsPartOf, StartsIn, AreKnown}
use Rattle.native_ties.proofs.Resending.{course_again, carried_again, done_resent}

-- what begins stands behind the others
begun_at : (os : List Operation) (o : Operation) → get_or (os ++ o ∷ []) (length os) no_operation ≡ o
begun_at [] o = refl
begun_at (x ∷ os) o = begun_at os o

none_past : (ms : List Member) (i : ℕ) → length ms ≤ i → get_or ms i no_member ≡ no_member
none_past [] i h = refl
none_past (m ∷ ms) zero h = absurd (omega (arith, h))
none_past (m ∷ ms) (suc i) h = none_past ms i (omega (arith, h))

knows_new : (s : Server) (c : Cell) (aim : Aim) (i at : ℕ) → at ≤ length_of s → Knows s (begun c aim) i (new_member at)
knows_new s c aim i at h = record {
  opened = λ k e. absurd (none-some k e);
  sealed = λ k e. absurd (none-some k e);
  mended = λ k e. absurd (none-some k e);
  opened_within = λ k e. absurd (none-some k e);
  sealed_within = λ k e. absurd (none-some k e);
  trimmed = λ n a e. absurd (false≢true e);
  missed = λ q a e. absurd (false≢true e);
  untrimmed = λ n a. refl;
  unreached_is = refl;
  long = h;
}

first_aims : (aim : Aim) → AimsAt (place_of (task_of (op_of aim))) aim (first_phase (op_of aim))
first_aims (AimAppend e) = tt
first_aims (AimSettle n) = tt
first_aims AimTail = refl
first_aims AimSeal = tt
first_aims (AimRead p) = refl
first_aims (AimTrim n) = (n, refl)

first_undone : (aim : Aim) (want at : ℕ) → is_done (first_phase (op_of aim)) want 0 (new_member at) ≡ false
first_undone (AimAppend e) want at = refl
first_undone (AimSettle n) want at = refl
first_undone AimTail want at = refl
first_undone AimSeal want at = refl
first_undone (AimRead p) want at = refl
first_undone (AimTrim n) want at = refl

want_there : (c : Cell) (aim : Aim) → first_phase (op_of aim) ≡ Filling → wanted c aim ≤ length (entries_after c aim)
want_there c (AimAppend e) h = omega (arith, length-append c.entries (e ∷ []))
want_there c (AimSettle n) h = omega arith
want_there c AimTail h = absurd (cc)
want_there c AimSeal h = absurd (cc)
want_there c (AimRead p) h = absurd (cc)
want_there c (AimTrim n) h = absurd (cc)

trim_want : (c : Cell) (aim : Aim) → first_phase (op_of aim) ≡ Trimming → wanted c aim ≤ cut_after c aim
trim_want c (AimTrim n) h = omega arith
trim_want c (AimAppend e) h = absurd (cc)
trim_want c (AimSettle n) h = absurd (cc)
trim_want c AimTail h = absurd (cc)
trim_want c AimSeal h = absurd (cc)
trim_want c (AimRead p) h = absurd (cc)

module _ (c : Cell) (aim : Aim) (start : Start) (known : List Member) (law : QuorumLaw c) (k : ℕ) (odd : length c.servers ≡ 2 * k + 1) (few : length c.servers ≤ 7) (s : StartsIn c aim start) (h : AreKnown c known) where
  aims : Aims
  aims = record { phase = first_phase (op_of aim); want = start.want; cut = cut_after c aim; place = place_of (task_of (op_of aim)); firm = start.firm }

  none_turned : (i : ℕ) → ((get_or known i no_member).passed || (get_or known i no_member).unreached) ≡ false
  none_turned i = by (cases_lt i (length known))
    where
      by : (i < length known) ⊎ (length known ≤ i) → ((get_or known i no_member).passed || (get_or known i no_member).unreached) ≡ false
      by (inl l) = ap (λ (m : Member). m.passed || m.unreached) (h.each i (omega (arith, l, h.all))).1
      by (inr l) = ap (λ (m : Member). m.passed || m.unreached) (none_past known i l)

  some_known : 0 < length known
  some_known = omega (arith, odd, h.all)

  turned : HaveTurned known 0
  turned = record { here = some_known; after = λ i l. none_turned i; before = λ i l. absurd (omega (arith, l)) }

  fits : (a : Aim) → PhaseFits (admit c aim) (begun c a) known (first_phase (op_of a))
  fits (AimAppend e) = tt
  fits (AimSettle n) = tt
  fits AimTail = tt
  fits AimSeal = refl
  fits (AimRead p) = turned
  fits (AimTrim n) = tt

  undone : ((i : ℕ) → i < length known → is_done (first_phase (op_of aim)) start.want i (get_or known i no_member) ≡ true) → ⊥
  undone all =
      let z : (at : ℕ) × (get_or known 0 no_member ≡ new_member at) × (at ≤ length_of (server c 0)) = h.each 0 (omega (arith, odd)) in
      true≢false (sym (all 0 some_known) ∙ ap (is_done (first_phase (op_of aim)) start.want 0) z.1 ∙ first_undone aim start.want z.0)

  course : IsOnCourse (admit c aim) (begun c aim) (record { phase = first_phase (op_of aim); want = start.want; cut = cut_after c aim; place = place_of (task_of (op_of aim)); firm = start.firm }) known
  course = record {
    odd = (k, odd);
    few = few;
    all = h.all;
    knows = λ i l. (let z : (at : ℕ) × (get_or known i no_member ≡ new_member at) × (at ≤ length_of (server c i)) = h.each i l in rw z.1 (knows_new (server c i) c aim i z.0 z.2));
    want = sym s.want;
    cut = refl;
    firm = sym s.firm;
    held = law.firm;
    want_there = want_there c aim;
    aims_at = first_aims aim;
    phase = fits aim;
  }

  goes_on : GoesOn (admit c aim) (begun c aim) (record { phase = first_phase (op_of aim); want = start.want; cut = cut_after c aim; place = place_of (task_of (op_of aim)); firm = start.firm }) known (first_phase (op_of aim))
  goes_on = record { aims_at = first_aims aim; fits = fits aim; nearer = inr refl; wanted = undone }

  not_out : (i : ℕ) → i < length c.servers → is_out (get_or known i no_member) ≡ false
  not_out i l = ap is_out (h.each i l).1

  trims : first_phase (op_of aim) ≡ Trimming → start.want ≤ cut_after c aim
  trims e = (let small = trim_want c aim e in omega (arith, small, s.want))

  pub begins : (p : Pending) → Begins (op_of aim) start (cut_after c aim) known p → IsPartOf (admit c aim) (length c.operations) p
  begins p b = record {
    shows = record {
      is_open = ap (λ (o : Operation). o.closed) there;
      task = ap (λ (o : Operation). task_of (op_of o.aim)) there ∙ sym b.task;
      size = ap (λ (o : Operation). o.size_before) there ∙ sym (b.size ∙ s.size);
      reach = ap (λ (o : Operation). o.reach_before) there ∙ sym (b.reach ∙ s.reach);
      firm = ap (λ (o : Operation). o.firm_before) there ∙ sym (b.firm ∙ s.firm);
      shut = rw there (sym (b.shut ∙ s.shut));
      faults = rw there (sym (b.faults ∙ s.faults));
      down = rw there (sym (b.down ∙ s.down));
    };
    outcome = ap (λ (o : Operation). o.decided) there ∙ sym b.outcome;
    goes = λ w. record {
      course = rw (there, same) (course_again (admit c aim) (begun c aim) (record { phase = first_phase (op_of aim); want = start.want; cut = cut_after c aim; place = place_of (task_of (op_of aim)); firm = start.firm }) known p.members.items (first_phase (op_of aim)) false (λ e. e) course goes_on b.members);
      carried = λ i l. rw (there, same, b.members.each i (omega (arith, l, h.all))) (carried_again (admit c aim) (begun c aim) (length c.operations) i (record { phase = first_phase (op_of aim); want = start.want; cut = cut_after c aim; place = place_of (task_of (op_of aim)); firm = start.firm }) (first_phase (op_of aim)) false (get_or known i no_member) trims refl (λ e. absurd (false≢true e)) (λ out. absurd (false≢true (sym (not_out i l) ∙ out))));
      losses = rw there (λ n d l. absurd (omega (arith, l)));
      ungot = b.got;
      trimming = λ e. (let small = trims (sym b.phase ∙ e) in omega (arith, small, b.want));
      wanted = λ all. undone (λ i l. sym (done_resent (first_phase (op_of aim)) (cut_after c aim) start.want (place_of (task_of (op_of aim))) false i (get_or known i no_member)) ∙ ap (is_done (first_phase (op_of aim)) start.want i) (sym (b.members.each i l)) ∙ rw (sym b.phase, sym b.want) (all i (omega (arith, l, b.members.as_many))));
    };
    found = λ z. absurd (none-some Found (sym b.outcome ∙ z));
  }
    where
      there : operation (admit c aim) (length c.operations) ≡ begun c aim
      there = begun_at c.operations (begun c aim)

      same : aims_of (cut_after c aim) p ≡ record { phase = first_phase (op_of aim); want = start.want; cut = cut_after c aim; place = place_of (task_of (op_of aim)); firm = start.firm }
      same = rw (b.phase, b.want, b.task, b.firm) refl
