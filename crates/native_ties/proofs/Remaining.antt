-- No message that comes again raises what is left to do.
use Rattle.std.proofs.Common.{◌≡◌, ℕ, zero, suc, ◌+◌, ◌-◌, ◌*◌, ◌<◌, ◌≤◌, Bool, true, false, refl, sym, ◌∙◌, ap, subst, arith, List, [], ◌∷◌, length, get_or, Option, Some, None, inl, inr}
use Rattle.std.specs.Prelude.{◌⊎◌, ◌&&◌, ◌||◌, ◌==◌, not, nat_le, is_some, sum_by, if◌then◌else◌}
use Rattle.std.proofs.lemmas.Bool.{true≢false, false≢true, cases_eq, le-leb, leb-true, leb-false, eqb-true, eq-eqb, and_from, and_parts, or_cases, or_left, or_right, or_parts, not_from_false}
use Rattle.std.proofs.lemmas.List.{length-set, get_or-set_same, get_or-set_other}
use Rattle.std.proofs.lemmas.List.Sums.{sum_by-cons}
use Rattle.loglet_api.specs.Step.{IsAtMost}
use Rattle.quorum_cell.specs.declared.message.Told.{Told}
use Rattle.quorum_cell.specs.Cells.{Cell, operation}
use Rattle.quorum_cell.specs.Law.{QuorumLaw}
use Rattle.native_plan.specs.declared.member.Member.{Member}
use Rattle.native_plan.specs.declared.pending.Pending.{Pending}
use Rattle.native_plan.specs.declared.message.Errand.{Errand}
use Rattle.native_plan.specs.declared.message.Errand.TheVariants.{Store, Seal, Tail, Repair, Read, Trim}
use Rattle.native_plan.specs.declared.message.Message.{Message}
use Rattle.native_plan.specs.declared.message.Message.TheVariants.{Asked, Told as Answered}
use Rattle.native_plan.specs.declared.message.Phase.{Phase}
use Rattle.native_plan.specs.declared.message.Phase.TheVariants.{Filling, Asking, Opening, Shutting, Sealing, Mending, Reading, Trimming}
use Rattle.native_plan.specs.declared.judge.Verdict.{Verdict}
use Rattle.native_plan.specs.declared.judge.Verdict.TheVariants.{Done, Go}
use Rattle.native_plan.specs.declared.stray.News.{News}
use Rattle.native_plan.specs.declared.stray.News.TheVariants as news
use Rattle.native_plan.specs.Members.{no_member, is_out, is_found_sealed, at_least, left_with, left_to, more_after}
use Rattle.native_plan.specs.Plans.{is_done, place_of, end_of, rank_of, errand_of, sent_on, resent, Resends}
use Rattle.native_plan.specs.Pendings.{aims_of, plan_left, left_now, verdict_of, Settles}
use Rattle.native_plan.specs.Course.{Knows, IsPlanned, MendsTo, IsAllowed}
use Rattle.native_plan.specs.Strays.{news_of, bears, learned_in, is_due, heard_anew, is_asked, HearsNews, HearsAgain, HearsIf}
use Rattle.native_plan.proofs.Falls.{plain_fill, plain_mend}
use Rattle.native_plan.proofs.Verdicts.{verdict_allowed}
use Rattle.native_ties.specs.Parts.{IsCarried, Goes, IsPartOf}
use Rattle.native_ties.specs.Strays.{IsReply}
use Rattle.native_ties.proofs.Settling.{Noted}
use Rattle.native_ties.proofs.Answering.{done_message}
use Rattle.native_ties.proofs.Lessening.{kept_at_most, idle_done}
use Rattle.native_ties.proofs.Learning.{Grown, grown_in}
use Rattle.native_ties.proofs.Straying.{again_noted}

---- what was done stays done

opened_more : (w n a : ℕ) (z : Option ℕ) → at_least w z ≡ true → ((l : ℕ) → z ≡ Some l → l ≤ a) → a ≤ n → nat_le w n ≡ true
opened_more w n a None h k l = absurd (false≢true h)
opened_more w n a (Some x) h k l = (let under = leb-true w x h in let within = k x refl in le-leb w n (omega (arith, under, within, l)))

module _ (want i : ℕ) (m : Member) where
  -- nothing changes where nothing counts
  still_if : (ph : Phase) (b : Bool) (now : Member) → is_done ph want i m ≡ true → (b ≡ true → is_done ph want i now ≡ true) → is_done ph want i (if b then now else m) ≡ true
  still_if ph true now h g = g refl
  still_if ph false now h g = h

  sealed_done : (ph : Phase) (n : ℕ) → bears ph (news.Sealed n) ≡ true → m.at ≤ n → is_done ph want i m ≡ true → is_done ph want i (record m { sealed = Some n; at = n }) ≡ true
  sealed_done Filling n b l h = or_right m.unreached _ refl
  sealed_done Asking n b l h = or_right m.unreached _ refl
  sealed_done (Opening t) n b l h = or_right m.unreached _ refl
  sealed_done Shutting n b l h = or_right m.unreached _ refl
  sealed_done Sealing n b l h = or_right m.unreached _ refl
  sealed_done (Mending t) n b l h = by (or_cases m.unreached _ h)
    where
      by : (m.unreached ≡ true) ⊎ ((is_some m.sealed && nat_le t m.at) ≡ true) → (m.unreached || (true && nat_le t n)) ≡ true
      by (inl u) = or_left m.unreached _ u
      by (inr z) = or_right m.unreached _ (let parts = and_parts (is_some m.sealed) (nat_le t m.at) z in let under = leb-true t m.at parts.1 in le-leb t n (omega (arith, under, l)))
  sealed_done (Reading j) n b l h = absurd (false≢true b)
  sealed_done Trimming n b l h = absurd (false≢true b)

  opened_to : (w n : ℕ) → ((l : ℕ) → m.opened ≡ Some l → l ≤ m.at) → m.at ≤ n → (m.unreached || (is_some m.sealed || at_least w m.opened)) ≡ true → (m.unreached || (is_some m.sealed || nat_le w n)) ≡ true
  opened_to w n k l h = by (or_cases m.unreached _ h)
    where
      met : (is_some m.sealed ≡ true) ⊎ (at_least w m.opened ≡ true) → (is_some m.sealed || nat_le w n) ≡ true
      met (inl z) = or_left (is_some m.sealed) _ z
      met (inr z) = or_right (is_some m.sealed) _ (opened_more w n m.at m.opened z k l)

      by : (m.unreached ≡ true) ⊎ ((is_some m.sealed || at_least w m.opened) ≡ true) → (m.unreached || (is_some m.sealed || nat_le w n)) ≡ true
      by (inl u) = or_left m.unreached _ u
      by (inr z) = or_right m.unreached _ (met (or_cases _ _ z))

  opened_done : (ph : Phase) (n : ℕ) → bears ph (news.Opened n) ≡ true → ((l : ℕ) → m.opened ≡ Some l → l ≤ m.at) → m.at ≤ n → is_done ph want i m ≡ true → is_done ph want i (record m { opened = Some n; at = n }) ≡ true
  opened_done Filling n b k l h = opened_to want n k l h
  opened_done Asking n b k l h = or_right m.unreached _ (or_right (is_some m.sealed) _ refl)
  opened_done (Opening t) n b k l h = opened_to t n k l h
  opened_done Shutting n b k l h = absurd (false≢true b)
  opened_done Sealing n b k l h = absurd (false≢true b)
  opened_done (Mending t) n b k l h = absurd (false≢true b)
  opened_done (Reading j) n b k l h = absurd (false≢true b)
  opened_done Trimming n b k l h = absurd (false≢true b)

  mended_done : (ph : Phase) (n : ℕ) → bears ph (news.Mended n) ≡ true → m.at ≤ n → is_done ph want i m ≡ true → is_done ph want i (record m { at = n }) ≡ true
  mended_done (Mending t) n b l h = by (or_cases m.unreached _ h)
    where
      by : (m.unreached ≡ true) ⊎ ((is_some m.sealed && nat_le t m.at) ≡ true) → (m.unreached || (is_some m.sealed && nat_le t n)) ≡ true
      by (inl u) = or_left m.unreached _ u
      by (inr z) = or_right m.unreached _ (let parts = and_parts (is_some m.sealed) (nat_le t m.at) z in let under = leb-true t m.at parts.1 in and_from _ _ parts.0 (le-leb t n (omega (arith, under, l))))
  mended_done Filling n b l h = absurd (false≢true b)
  mended_done Asking n b l h = absurd (false≢true b)
  mended_done (Opening t) n b l h = absurd (false≢true b)
  mended_done Shutting n b l h = absurd (false≢true b)
  mended_done Sealing n b l h = absurd (false≢true b)
  mended_done (Reading j) n b l h = absurd (false≢true b)
  mended_done Trimming n b l h = absurd (false≢true b)

  passed_done : (ph : Phase) (u : Bool) → (m.passed ≡ true → u ≡ true) → is_done ph want i m ≡ true → is_done ph want i (record m { passed = u }) ≡ true
  passed_done Filling u g h = h
  passed_done Asking u g h = h
  passed_done (Opening t) u g h = h
  passed_done Shutting u g h = h
  passed_done Sealing u g h = h
  passed_done (Mending t) u g h = h
  passed_done (Reading j) u g h = by (or_cases m.unreached _ h)
    where
      met : (not (i == j) ≡ true) ⊎ (m.passed ≡ true) → (not (i == j) || u) ≡ true
      met (inl z) = or_left (not (i == j)) u z
      met (inr z) = or_right (not (i == j)) u (g z)

      by : (m.unreached ≡ true) ⊎ ((not (i == j) || m.passed) ≡ true) → (m.unreached || (not (i == j) || u)) ≡ true
      by (inl z) = or_left m.unreached _ z
      by (inr z) = or_right m.unreached _ (met (or_cases _ _ z))
  passed_done Trimming u g h = by (or_cases m.unreached _ h)
    where
      by : (m.unreached ≡ true) ⊎ (m.passed ≡ true) → (m.unreached || u) ≡ true
      by (inl z) = or_left m.unreached _ z
      by (inr z) = or_right m.unreached _ (g z)

  failed_done : (ph : Phase) → is_done ph want i (record m { unreached = true }) ≡ true
  failed_done Filling = refl
  failed_done Asking = refl
  failed_done (Opening t) = refl
  failed_done Shutting = refl
  failed_done Sealing = refl
  failed_done (Mending t) = refl
  failed_done (Reading j) = refl
  failed_done Trimming = refl

  done_more : (ph : Phase) (x : News) → ((l : ℕ) → m.opened ≡ Some l → l ≤ m.at) → is_done ph want i m ≡ true → is_done ph want i (learned_in ph want x m) ≡ true
  done_more ph news.Failed k h = failed_done ph
  done_more ph (news.Sealed n) k h = still_if ph (bears ph (news.Sealed n)) _ h (λ b. still_if ph (nat_le m.at n) _ h (λ l. sealed_done ph n b (leb-true _ _ l) h))
  done_more ph (news.Opened n) k h = still_if ph (bears ph (news.Opened n)) _ h (λ b. still_if ph (not (is_found_sealed m) && nat_le m.at n) _ h (λ l. opened_done ph n b k (leb-true _ _ (and_parts _ _ l).1) h))
  done_more ph (news.Mended n) k h = still_if ph (bears ph (news.Mended n)) _ h (λ b. still_if ph (is_found_sealed m && nat_le m.at n) _ h (λ l. mended_done ph n b (leb-true _ _ (and_parts _ _ l).1) h))
  done_more ph (news.LetGo n) k h = still_if ph (bears ph (news.LetGo n)) _ h (λ b. passed_done ph (m.passed || nat_le want n) (or_left m.passed (nat_le want n)) h)
  done_more ph news.Missed k h = still_if ph (bears ph news.Missed) _ h (λ b. passed_done ph true (λ z. refl) h)
  done_more ph news.Nothing k h = still_if ph (bears ph news.Nothing) _ h (λ b. h)

---- a message is given up only for a server that is nearer

either_way : (b : Bool) → (b || not b) ≡ true
either_way true = refl
either_way false = refl

kept_due : (ph : Phase) (want i : ℕ) (m now : Member) → now.at ≡ m.at → is_some now.sealed ≡ is_some m.sealed → is_done ph want i now ≡ false → is_due ph want i m now ≡ true
kept_due ph want i m now s z d = and_from (not (is_done ph want i now)) _ (not_from_false _ d) (and_from (now.at == m.at) _ (eq-eqb _ _ s) (rw z (either_way (is_some m.sealed))))

-- once it is given up the server is known to be longer, and has way to go; or it is known to be sealed, which wasn't known
abbrev IsNearer : Phase → ℕ → Member → Member → Type 0
IsNearer ph want m now = ((m.at < now.at) × (now.at < end_of ph want) × ((cut place : ℕ) → more_after (errand_of ph cut want place now) ≡ 0))
    ⊎ ((is_some m.sealed ≡ false) × (m.at ≤ now.at) × ((t : ℕ) × (ph ≡ Mending t)) × ((cut place : ℕ) → more_after (errand_of ph cut want place now) ≡ 0))

apart : (a n : ℕ) → a ≤ n → (n ≡ a → ⊥) → a < n
apart a n l h = omega (arith, l, h)

module _ (want i : ℕ) (m : Member) where
  -- it isn't given up where nothing changed
  unless_kept : (ph : Phase) (now : Member) → now.at ≡ m.at → is_some now.sealed ≡ is_some m.sealed → is_due ph want i m now ≡ false → is_done ph want i now ≡ false → IsNearer ph want m now
  unless_kept ph now s z due d = absurd (true≢false (sym (kept_due ph want i m now s z d) ∙ due))

  near_if : (ph : Phase) (b : Bool) (now : Member) → is_due ph want i m (if b then now else m) ≡ false → is_done ph want i (if b then now else m) ≡ false → (b ≡ true → is_due ph want i m now ≡ false → is_done ph want i now ≡ false → IsNearer ph want m now) → IsNearer ph want m (if b then now else m)
  near_if ph true now due d g = g refl due d
  near_if ph false now due d g = unless_kept ph m refl refl due d

  sealed_near : (ph : Phase) (n : ℕ) → bears ph (news.Sealed n) ≡ true → m.at ≤ n → is_due ph want i m (record m { sealed = Some n; at = n }) ≡ false → is_done ph want i (record m { sealed = Some n; at = n }) ≡ false → IsNearer ph want m (record m { sealed = Some n; at = n })
  sealed_near Filling n b l due d = absurd (true≢false (or_parts m.unreached _ d).1)
  sealed_near Asking n b l due d = absurd (true≢false (or_parts m.unreached _ d).1)
  sealed_near (Opening t) n b l due d = absurd (true≢false (or_parts m.unreached _ d).1)
  sealed_near Shutting n b l due d = absurd (true≢false (or_parts m.unreached _ d).1)
  sealed_near Sealing n b l due d = absurd (true≢false (or_parts m.unreached _ d).1)
  sealed_near (Mending t) n b l due d = by (is_some m.sealed) refl
    where
      short : n < t
      short = leb-false t n (or_parts m.unreached _ d).1

      by : (z : Bool) → is_some m.sealed ≡ z → IsNearer (Mending t) want m (record m { sealed = Some n; at = n })
      by true z = inl (apart m.at n l (λ e. true≢false (sym (kept_due (Mending t) want i m (record m { sealed = Some n; at = n }) e (sym z) d) ∙ due)), omega (arith, short), λ cut place. plain_mend cut n)
      by false z = inr (z, l, (t, refl), λ cut place. plain_mend cut n)
  sealed_near (Reading j) n b l due d = absurd (false≢true b)
  sealed_near Trimming n b l due d = absurd (false≢true b)

  opened_near : (ph : Phase) (n : ℕ) → bears ph (news.Opened n) ≡ true → m.at ≤ n → is_due ph want i m (record m { opened = Some n; at = n }) ≡ false → is_done ph want i (record m { opened = Some n; at = n }) ≡ false → IsNearer ph want m (record m { opened = Some n; at = n })
  opened_near Filling n b l due d =
      let short : n < want = leb-false want n (or_parts (is_some m.sealed) _ (or_parts m.unreached _ d).1).1 in
      inl (apart m.at n l (λ e. true≢false (sym (kept_due Filling want i m (record m { opened = Some n; at = n }) e refl d) ∙ due)), omega (arith, short), λ cut place. plain_fill want cut n)
  opened_near Asking n b l due d = absurd (true≢false (or_parts (is_some m.sealed) _ (or_parts m.unreached _ d).1).1)
  opened_near (Opening t) n b l due d =
      let short : n < t = leb-false t n (or_parts (is_some m.sealed) _ (or_parts m.unreached _ d).1).1 in
      inl (apart m.at n l (λ e. true≢false (sym (kept_due (Opening t) want i m (record m { opened = Some n; at = n }) e refl d) ∙ due)), omega (arith, short), λ cut place. plain_fill t cut n)
  opened_near Shutting n b l due d = absurd (false≢true b)
  opened_near Sealing n b l due d = absurd (false≢true b)
  opened_near (Mending t) n b l due d = absurd (false≢true b)
  opened_near (Reading j) n b l due d = absurd (false≢true b)
  opened_near Trimming n b l due d = absurd (false≢true b)

  mended_near : (ph : Phase) (n : ℕ) → bears ph (news.Mended n) ≡ true → is_some m.sealed ≡ true → m.at ≤ n → is_due ph want i m (record m { at = n }) ≡ false → is_done ph want i (record m { at = n }) ≡ false → IsNearer ph want m (record m { at = n })
  mended_near (Mending t) n b z l due d =
      let short : n < t = leb-false t n (subst (λ (y : Bool). (y && nat_le t n) ≡ false) z (or_parts m.unreached _ d).1) in
      inl (apart m.at n l (λ e. true≢false (sym (kept_due (Mending t) want i m (record m { at = n }) e refl d) ∙ due)), omega (arith, short), λ cut place. rw z (plain_mend cut n))
  mended_near Filling n b z l due d = absurd (false≢true b)
  mended_near Asking n b z l due d = absurd (false≢true b)
  mended_near (Opening t) n b z l due d = absurd (false≢true b)
  mended_near Shutting n b z l due d = absurd (false≢true b)
  mended_near Sealing n b z l due d = absurd (false≢true b)
  mended_near (Reading j) n b z l due d = absurd (false≢true b)
  mended_near Trimming n b z l due d = absurd (false≢true b)

  nearer : (ph : Phase) (x : News) → is_due ph want i m (learned_in ph want x m) ≡ false → is_done ph want i (learned_in ph want x m) ≡ false → IsNearer ph want m (learned_in ph want x m)
  nearer ph news.Failed due d = absurd (true≢false (sym (failed_done want i m ph) ∙ d))
  nearer ph (news.Sealed n) due d = near_if ph (bears ph (news.Sealed n)) _ due d (λ b due d. near_if ph (nat_le m.at n) _ due d (λ l due d. sealed_near ph n b (leb-true _ _ l) due d))
  nearer ph (news.Opened n) due d = near_if ph (bears ph (news.Opened n)) _ due d (λ b due d. near_if ph (not (is_found_sealed m) && nat_le m.at n) _ due d (λ l due d. opened_near ph n b (leb-true _ _ (and_parts _ _ l).1) due d))
  nearer ph (news.Mended n) due d = near_if ph (bears ph (news.Mended n)) _ due d (λ b due d. near_if ph (is_found_sealed m && nat_le m.at n) _ due d (λ l due d. (let parts = and_parts (is_found_sealed m) (nat_le m.at n) l in mended_near ph n b parts.0 (leb-true _ _ parts.1) due d)))
  nearer ph (news.LetGo n) due d = near_if ph (bears ph (news.LetGo n)) _ due d (λ b due d. unless_kept ph _ refl refl due d)
  nearer ph news.Missed due d = near_if ph (bears ph news.Missed) _ due d (λ b due d. unless_kept ph _ refl refl due d)
  nearer ph news.Nothing due d = near_if ph (bears ph news.Nothing) m due d (λ b due d. unless_kept ph m refl refl due d)

---- what is left of its server

errand_silent : (ph : Phase) (cut want place : ℕ) (m : Member) → errand_of ph cut want place (record m { message = None }) ≡ errand_of ph cut want place m
errand_silent Filling cut want place m = refl
errand_silent Asking cut want place m = refl
errand_silent (Opening t) cut want place m = refl
errand_silent Shutting cut want place m = refl
errand_silent Sealing cut want place m = refl
errand_silent (Mending t) cut want place m = refl
errand_silent (Reading j) cut want place m = refl
errand_silent Trimming cut want place m = refl

mends_seal : (t cut : ℕ) (m : Member) (e : Errand) → MendsTo t cut m e → is_some m.sealed ≡ false → more_after e ≡ 20
mends_seal t cut m Seal h z = refl
mends_seal t cut m (Repair p) h z = absurd (true≢false (sym h.2 ∙ z))
mends_seal t cut m (Store p) h z = absurd h
mends_seal t cut m Tail h z = absurd h
mends_seal t cut m (Read p) h z = absurd h
mends_seal t cut m Trim h z = absurd (true≢false (sym h.2 ∙ z))

kept_left : (end : ℕ) (m now : Member) → now.at ≡ m.at → now.losses ≡ m.losses → now.message ≡ m.message → left_to end now ≤ left_to end m
kept_left end m now a l z = rw (a, l, z) (omega arith)

-- a message that is sent anew leaves no more to do than the one that was on its way
sent_less : (ph : Phase) (want end more after losses : ℕ) (m now : Member) → end_of ph want ≡ end → losses < 8 → (((m.at < now.at) × (now.at < end)) × (more ≡ 0)) ⊎ ((m.at ≤ now.at) × (more ≡ 0) × (after ≡ 20)) → 40 * (end - now.at) + more + 20 - 0 ≤ 40 * (end - m.at) + after + 10 - losses
sent_less ph want end more after losses m now e few (inl h) = omega (arith, few, h.0.0, h.0.1, h.1)
sent_less ph want end more after losses m now e few (inr h) = omega (arith, few, h.0, h.1, h.2)

module _ (c : Cell) (t i cut place : ℕ) (aims : Rattle.native_plan.specs.declared.aims.Aims.Aims) (m : Member) (x : News) (within : (l : ℕ) → m.opened ≡ Some l → l ≤ m.at) where
  abbrev now : Member
  now = learned_in aims.phase aims.want x m

  abbrev end : ℕ
  end = end_of aims.phase aims.want

  grown : Grown m now
  grown = grown_in aims.phase aims.want x m

  done_none : (v : Bool) (b : Member) (e : Errand) → v ≡ true → left_to end (sent_on v e b) ≤ left_to end m
  done_none true b e h = omega arith
  done_none false b e h = absurd (false≢true h)

  -- which other message is wanted now
  resends : (e : Errand) → IsPlanned aims.phase c.cut aims.want aims.place m e → IsNearer aims.phase aims.want m now → (((m.at < now.at) × (now.at < end)) × (more_after (errand_of aims.phase cut aims.want place now) ≡ 0)) ⊎ ((m.at ≤ now.at) × (more_after (errand_of aims.phase cut aims.want place now) ≡ 0) × (more_after e ≡ 20))
  resends e planned (inl h) = inl ((h.0, h.1), h.2 cut place)
  resends e planned (inr h) = inr (h.1, h.3 cut place, mends_seal h.2.0 c.cut m e (subst (λ (ph : Phase). IsPlanned ph c.cut aims.want aims.place m e) h.2.1 planned) h.0)

  sent_anew : (z : Option Message) → m.message ≡ z → IsCarried c (operation c t) t i aims m z → is_due aims.phase aims.want i m now ≡ false → is_done aims.phase aims.want i now ≡ false →
      40 * (end - now.at) + more_after (errand_of aims.phase cut aims.want place now) + 20 - 0 ≤ left_with (40 * (end - m.at)) m.losses z
  sent_anew None is h due d = absurd (true≢false (sym (done_more aims.want i m aims.phase x within h) ∙ d))
  sent_anew (Some (Asked e)) is h due d = (let less = sent_less aims.phase aims.want end (more_after (errand_of aims.phase cut aims.want place now)) (more_after e) m.losses m now refl h.few (resends e h.planned (nearer aims.want i m aims.phase x due d)) in omega (arith, less))
  sent_anew (Some (Answered e told)) is h due d = sent_less aims.phase aims.want end (more_after (errand_of aims.phase cut aims.want place now)) (more_after e) m.losses m now refl h.way.few (resends e h.way.planned (nearer aims.want i m aims.phase x due d))

  stays_left : IsCarried c (operation c t) t i aims m m.message → is_due aims.phase aims.want i m now ≡ true → left_to end (resent aims.phase cut aims.want place true i now) ≤ left_to end m
  stays_left h due = by (is_out now) refl
    where
      parts : (not (is_done aims.phase aims.want i now) ≡ true) × (((now.at == m.at) && (is_found_sealed m || not (is_found_sealed now))) ≡ true)
      parts = and_parts _ _ due

      idle : (z : Option Message) → is_some z ≡ false → IsCarried c (operation c t) t i aims m z → is_done aims.phase aims.want i now ≡ true
      idle None o g = done_more aims.want i m aims.phase x within g
      idle (Some y) o g = absurd (true≢false o)

      by : (v : Bool) → is_out now ≡ v → left_to end (if v then now else sent_on (is_done aims.phase aims.want i now) (errand_of aims.phase cut aims.want place now) now) ≤ left_to end m
      by true o = kept_left end m now (eqb-true _ _ (and_parts _ _ parts.1).0) grown.losses grown.message
      by false o = done_none (is_done aims.phase aims.want i now) now _ (idle m.message (sym (ap (λ (y : Option Message). is_some y) grown.message) ∙ o) h)

  given_left : IsCarried c (operation c t) t i aims m m.message → is_due aims.phase aims.want i m now ≡ false → left_to end (resent aims.phase cut aims.want place true i (record now { message = None })) ≤ left_to end m
  given_left h due = by (is_done aims.phase aims.want i (record now { message = None })) refl
    where
      by : (v : Bool) → is_done aims.phase aims.want i (record now { message = None }) ≡ v → left_to end (sent_on v (errand_of aims.phase cut aims.want place (record now { message = None })) (record now { message = None })) ≤ left_to end m
      by true d = omega arith
      by false d = rw (errand_silent aims.phase cut aims.want place now) (sent_anew m.message refl h due (sym (done_message aims.phase aims.want i now None) ∙ d))

  pub left_of_server : IsCarried c (operation c t) t i aims m m.message → left_to end (resent aims.phase cut aims.want place true i (heard_anew aims.phase aims.want i x m)) ≤ left_to end m
  left_of_server h = by (is_due aims.phase aims.want i m now) refl
    where
      by : (v : Bool) → is_due aims.phase aims.want i m now ≡ v → left_to end (resent aims.phase cut aims.want place true i (if v then now else record now { message = None })) ≤ left_to end m
      by true due = stays_left h due
      by false due = given_left h due

---- and of all

all_at_most : (f : Member → ℕ) (old new : List Member) → length new ≡ length old → ((j : ℕ) → j < length old → f (get_or new j no_member) ≤ f (get_or old j no_member)) → sum_by f new ≤ sum_by f old
all_at_most f [] [] all each = omega arith
all_at_most f [] (n ∷ new) all each = absurd (omega (arith, all))
all_at_most f (m ∷ old) [] all each = absurd (omega (arith, all))
all_at_most f (m ∷ old) (n ∷ new) all each = omega (arith, sum_by-cons f m old, sum_by-cons f n new, each 0 (omega arith), all_at_most f old new (omega (arith, all)) (λ j l. each (suc j) (omega arith)))

none_at_most : (a b : ℕ) → IsAtMost (0, 0) (a, b)
none_at_most zero b = inr (refl, omega arith)
none_at_most (suc a) b = inl (omega arith)

settle_no_more : (d : Cell) (t i : ℕ) (p b new : Pending) → QuorumLaw d → Noted d t b → Settles d.cut b (verdict_of d.cut b) new
    → p.outcome ≡ None → b.phase ≡ p.phase → b.want ≡ p.want → length b.members.items ≡ length p.members.items
    → ((j : ℕ) → (j ≡ i → ⊥) → get_or b.members.items j no_member ≡ get_or p.members.items j no_member)
    → ((j : ℕ) → j < length p.members.items → is_out (get_or p.members.items j no_member) ≡ false → is_done p.phase p.want j (get_or p.members.items j no_member) ≡ true)
    → left_to (end_of p.phase p.want) (resent p.phase d.cut p.want (place_of b.task) true i (get_or b.members.items i no_member)) ≤ left_to (end_of p.phase p.want) (get_or p.members.items i no_member)
    → IsAtMost (left_now new) (left_now p)
settle_no_more d t i p b new law h s waiting phase want as_many others idle now =
    rw waiting (by (verdict_of d.cut b) refl (verdict_allowed d (operation d t) (aims_of d.cut b) b.members.items (is_some b.got) law h.course h.told) s)
  where
    sums : (members : List Member) → Resends p.phase d.cut p.want (place_of b.task) true b.members.items members → sum_by (left_to (end_of p.phase p.want)) members ≤ sum_by (left_to (end_of p.phase p.want)) p.members.items
    sums members r = all_at_most (left_to (end_of p.phase p.want)) p.members.items members (r.as_many ∙ as_many) (λ j l. at j l (cases_eq j i))
      where
        at : (j : ℕ) → j < length p.members.items → (j ≡ i) ⊎ (j ≡ i → ⊥) → left_to (end_of p.phase p.want) (get_or members j no_member) ≤ left_to (end_of p.phase p.want) (get_or p.members.items j no_member)
        at j l (inl same) = rw (r.each j (omega (arith, l, as_many)), same) now
        at j l (inr other) = rw (r.each j (omega (arith, l, as_many)), others j other) (kept_at_most p.phase d.cut p.want (place_of b.task) j (end_of p.phase p.want) (get_or p.members.items j no_member) (idle j l))

    by : (v : Verdict) → verdict_of d.cut b ≡ v → IsAllowed d (operation d t) (aims_of d.cut b) b.members.items (is_some b.got) v → Settles d.cut b v new → IsAtMost (left_now new) (plan_left p)
    by (Done a) e allowed z = rw z (none_at_most (rank_of p.phase) _)
    by (Go ph) e allowed z = goes allowed.nearer
      where
        is : left_now new ≡ (rank_of ph, sum_by (left_to (end_of ph b.want)) new.members.items)
        is = ap left_now z.0 ∙ rw h.waits refl

        goes : (rank_of ph < rank_of b.phase) ⊎ (ph ≡ b.phase) → IsAtMost (left_now new) (plan_left p)
        goes (inl l) = rw is (inl (omega (arith, l, ap rank_of phase)))
        goes (inr same) =
            let ph_is : ph ≡ p.phase = same ∙ phase in
            let keep : (rank_of ph == rank_of b.phase) ≡ true = eq-eqb (rank_of ph) (rank_of b.phase) (ap rank_of same) in
            let r : Resends p.phase d.cut p.want (place_of b.task) true b.members.items new.members.items = rw (← ph_is, ← want, ← keep) z.1 in
            rw (is, ph_is, want) (inr (refl, sums new.members.items r))

news_no_more : (c : Cell) (k t i : ℕ) (f : Errand) (z : Told) (p new : Pending) → QuorumLaw c → IsPartOf c t p → p.outcome ≡ None → i < length c.servers → IsReply c k t i f z → is_asked p.phase i ≡ true → HearsNews c.cut i f z p new → IsAtMost (left_now new) (left_now p)
news_no_more c k t i f z p new law part waiting here reply asked h =
    let goes : Goes c t p = part.goes waiting in
    let n = again_noted c k t i f z p h.between law part waiting here reply asked h.notes in
    let among : i < length p.members.items = omega (arith, here, goes.course.all) in
    let m : Member = get_or p.members.items i no_member in
    let x : News = news_of (place_of p.task) f z in
    let knows : Knows (Rattle.quorum_cell.specs.Cells.server c i) (operation c t) i (get_or p.members.items i no_member) = goes.course.knows i here in
    let now_is : get_or h.between.members.items i no_member ≡ heard_anew p.phase p.want i (news_of (place_of p.task) f z) (get_or p.members.items i no_member) = ap (λ (ms : List Member). get_or ms i no_member) h.notes.members ∙ get_or-set_same p.members.items i _ no_member among in
    settle_no_more n.0 t i p h.between new n.1 n.2 (subst (λ l. Settles l h.between (verdict_of l h.between) new) (sym n.3) h.settles) waiting
    (ap (λ (y : Pending). y.phase) h.notes.rest) (ap (λ (y : Pending). y.want) h.notes.rest)
    (ap (λ (ms : List Member). length ms) h.notes.members ∙ length-set p.members.items i _)
    (λ j other. ap (λ (ms : List Member). get_or ms j no_member) h.notes.members ∙ get_or-set_other p.members.items i j _ no_member other)
    (idle_done c t p goes)
    (rw now_is (left_of_server c t i n.0.cut (place_of h.between.task) (aims_of c.cut p) (get_or p.members.items i no_member) (news_of (place_of p.task) f z) knows.opened_within (goes.carried i here)))

at_most_same : (a : ℕ × ℕ) → IsAtMost a a
at_most_same a = inr (refl, omega arith)

pub no_more : (c : Cell) (k t i : ℕ) (f : Errand) (z : Told) (p new : Pending) → QuorumLaw c → IsPartOf c t p → p.outcome ≡ None → i < length c.servers → IsReply c k t i f z → HearsAgain c.cut i f z p new → IsAtMost (left_now new) (left_now p)
no_more c k t i f z p new law part waiting here reply h = by (is_asked p.phase i) refl h
  where
    by : (v : Bool) → is_asked p.phase i ≡ v → HearsIf v c.cut i f z p new → IsAtMost (left_now new) (left_now p)
    by true e y = news_no_more c k t i f z p new law part waiting here reply e y
    by false e y = rw y (at_most_same (left_now p))
