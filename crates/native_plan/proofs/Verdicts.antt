-- What an operation comes to is allowed by its cell, and while it goes on some server is wanted.
use Rattle.std.proofs.Common.{◌≡◌, ℕ, zero, suc, ◌+◌, ◌<◌, ◌≤◌, Bool, true, false, refl, sym, ◌∙◌, ap, subst, arith, List, [], ◌∷◌, length, Option, Some, None, inl, inr}
use Rattle.std.specs.Prelude.{◌⊎◌, ◌&&◌, ◌||◌, ◌==◌, not, nat_le, nat_lt, if◌then◌else◌, is_some, unwrap_or, count_by}
use Rattle.std.specs.List.{list_any, list_all}
use Rattle.std.proofs.lemmas.Bool.{false≢true, true≢false, leb-true, leb-false, le-leb, lt-ltb, ltb-true, ltb-false, eq-eqb, eqb-true, and_parts, and_from, or_cases, or_parts, or_left, or_right, or_from, cases_lt}
use Rattle.quorum_cell.specs.declared.message.Reply.{Reply}
use Rattle.quorum_cell.specs.declared.operation.Aim.{Aim}
use Rattle.quorum_cell.specs.declared.operation.Aim.TheVariants.{Append as AimAppend, Settle as AimSettle, Tail as AimTail, Seal as AimSeal, Read as AimRead, Trim as AimTrim}
use Rattle.quorum_cell.specs.declared.operation.Outcome.TheVariants.{Reached, OpenTail, SealedTail, Shut, Found, Gone, Beyond, TrimDone, NoQuorum}
use Rattle.majority_rule.specs.Majority.{is_majority}
use Rattle.quorum_cell.specs.Servers.{Server, length_of}
use Rattle.quorum_cell.specs.Cells.{Cell, Operation, server, server_before, is_seal}
use Rattle.quorum_cell.specs.Tallies.{open_told, sealed_told, heard_from, open_to, open_at, open_within, sealed_at, sealed_within, mended_to, mended_told, trimmed_to, says_sealed, gives_entry, unreached, may_decide, lacks_quorum, exactly, at_least, at_most}
use Rattle.quorum_cell.specs.Law.{QuorumLaw}
use Rattle.majority_rule.proofs.Majorities.{majority_stays}
use Rattle.native_plan.specs.declared.member.Member.{Member}
use Rattle.native_plan.specs.declared.aims.Aims.{Aims}
use Rattle.native_plan.specs.declared.message.Phase.{Phase}
use Rattle.native_plan.specs.declared.message.Phase.TheVariants.{Filling, Asking, Opening, Shutting, Sealing, Mending, Reading, Trimming}
use Rattle.native_plan.specs.declared.judge.Verdict.{Verdict}
use Rattle.native_plan.specs.declared.judge.Verdict.TheVariants.{Done, Go}
use Rattle.native_plan.specs.Members.{no_member, is_opened, is_opened_to, is_found_sealed, is_mended_to, is_passed, is_unreached, opened_of, sealed_of}
use Rattle.native_plan.specs.Members as mine
use Rattle.native_plan.specs.Plans.{many, greatest, is_met, is_done, rank_of, lacking, is_settled, judged_filling, judged_shutting, judged_asking, judged_opening, judged_sealing, judged_mending, judged_next, judged_reading, judged_trimming, judged}
use Rattle.native_plan.specs.Course.{Knows, Fills, Shuts, AimsAt, PhaseFits, IsOpenTail, IsSealedTail, HaveTurned, IsOnCourse, IsAllowed}
use Rattle.native_plan.proofs.Counts.{member, many_votes, count_same, not_stuck, any_member, none_member, all_members, each_member, many_some, greatest_above, Attains, attains}

---- one vote says more than another

vote_more : (o : Operation) (i : ℕ) (one other : Reply → Bool) → ((r : Reply) → one r ≡ true → other r ≡ true) → heard_from one o i ≡ true → heard_from other o i ≡ true
vote_more o i one other more = any o.heard
  where
    any : (rs : List Reply) → list_any (λ (r : Reply). (r.server == i) && one r) rs ≡ true → list_any (λ (r : Reply). (r.server == i) && other r) rs ≡ true
    any [] h = h
    any (r ∷ rs) h = by (or_cases ((r.server == i) && one r) (list_any (λ (x : Reply). (x.server == i) && one x) rs) h) (any rs)
      where
        by : (((r.server == i) && one r) ≡ true) ⊎ (list_any (λ (x : Reply). (x.server == i) && one x) rs ≡ true) → (list_any (λ (x : Reply). (x.server == i) && one x) rs ≡ true → list_any (λ (x : Reply). (x.server == i) && other x) rs ≡ true) → (((r.server == i) && other r) || list_any (λ (x : Reply). (x.server == i) && other x) rs) ≡ true
        by (inl e) more_of = let parts : ((r.server == i) ≡ true) × (one r ≡ true) = and_parts _ _ e in or_left _ _ (and_from _ _ parts.0 (more r parts.1))
        by (inr e) more_of = or_right _ _ (more_of e)

-- one vote is a reply that was heard
vote_any : (o : Operation) (i : ℕ) (test : Reply → Bool) → heard_from test o i ≡ true → list_any test o.heard ≡ true
vote_any o i test = any o.heard
  where
    any : (rs : List Reply) → list_any (λ (r : Reply). (r.server == i) && test r) rs ≡ true → list_any test rs ≡ true
    any [] h = h
    any (r ∷ rs) h = by (or_cases ((r.server == i) && test r) (list_any (λ (x : Reply). (x.server == i) && test x) rs) h) (any rs)
      where
        by : (((r.server == i) && test r) ≡ true) ⊎ (list_any (λ (x : Reply). (x.server == i) && test x) rs ≡ true) → (list_any (λ (x : Reply). (x.server == i) && test x) rs ≡ true → list_any test rs ≡ true) → (test r || list_any test rs) ≡ true
        by (inl e) more_of = or_left (test r) (list_any test rs) (and_parts (r.server == i) (test r) e).1
        by (inr e) more_of = or_right (test r) (list_any test rs) (more_of e)

exact_least : (k n : ℕ) (z : Option ℕ) → n ≤ k → exactly k z ≡ true → at_least n z ≡ true
exact_least k n None l h = h
exact_least k n (Some m) l h = let same : k ≡ m = eqb-true k m h in le-leb _ _ (omega arith)

exact_most : (k n : ℕ) (z : Option ℕ) → k ≤ n → exactly k z ≡ true → at_most n z ≡ true
exact_most k n None l h = h
exact_most k n (Some m) l h = let same : k ≡ m = eqb-true k m h in le-leb _ _ (omega arith)

exact_some : (k : ℕ) (z : Option ℕ) → exactly k z ≡ true → is_some z ≡ true
exact_some k None h = h
exact_some k (Some m) h = refl

least_less : (k n : ℕ) (z : Option ℕ) → n ≤ k → at_least k z ≡ true → at_least n z ≡ true
least_less k n None l h = h
least_less k n (Some m) l h = let le : k ≤ m = leb-true _ _ h in le-leb _ _ (omega arith)

---- what a member shows

opened_least : (n : ℕ) (z : Option ℕ) → mine.at_least n z ≡ true → (k : ℕ) × (z ≡ Some k) × (n ≤ k)
opened_least n None h = absurd (false≢true h)
opened_least n (Some k) h = (k, refl, leb-true n k h)

some_is : (z : Option ℕ) → is_some z ≡ true → z ≡ Some (unwrap_or z 0)
some_is None h = absurd (false≢true h)
some_is (Some k) h = refl

none_zero : (z : Option ℕ) → is_some z ≡ false → unwrap_or z 0 ≡ 0
none_zero None h = refl
none_zero (Some k) h = absurd (true≢false h)

module _ (s : Server) (o : Operation) (i : ℕ) (m : Member) (k : Knows s o i m) where
  opened_to_vote : (n : ℕ) → is_opened_to n m ≡ true → heard_from (open_to n) o i ≡ true
  opened_to_vote n h =
      let told : (l : ℕ) × (m.opened ≡ Some l) × (n ≤ l) = opened_least n m.opened h in
      vote_more o i (open_at told.0) (open_to n) (λ r e. exact_least told.0 n (open_told r.ask r.told) told.2 e) (k.opened told.0 told.1)

  sealed_vote : is_found_sealed m ≡ true → heard_from says_sealed o i ≡ true
  sealed_vote h = vote_more o i (sealed_at (sealed_of m)) says_sealed (λ r e. exact_some _ (sealed_told r.told) e) (k.sealed (sealed_of m) (some_is m.sealed h))

  opened_within_vote : (t : ℕ) → opened_of m ≤ t → is_opened m ≡ true → heard_from (open_within t) o i ≡ true
  opened_within_vote t l h = vote_more o i (open_at (opened_of m)) (open_within t) (λ r e. exact_most _ t (open_told r.ask r.told) l e) (k.opened (opened_of m) (some_is m.opened h))

  sealed_within_vote : (t : ℕ) → sealed_of m ≤ t → is_found_sealed m ≡ true → heard_from (sealed_within t) o i ≡ true
  sealed_within_vote t l h = vote_more o i (sealed_at (sealed_of m)) (sealed_within t) (λ r e. exact_most _ t (sealed_told r.told) l e) (k.sealed (sealed_of m) (some_is m.sealed h))

  mended_vote : (t : ℕ) → is_mended_to t m ≡ true → heard_from (mended_to t) o i ≡ true
  mended_vote t h =
      let parts : (is_some m.sealed ≡ true) × (nat_le t m.at ≡ true) = and_parts _ _ h in
      vote_more o i (mended_to m.at) (mended_to t) (λ r e. least_less m.at t (mended_told r.ask r.told) (leb-true _ _ parts.1) e) (k.mended (sealed_of m) (some_is m.sealed parts.0))

---- stages

module _ (c : Cell) (o : Operation) (aims : Aims) (ms : List Member) (got : Bool) (law : QuorumLaw c) (f : IsOnCourse c o aims ms) where
  n : ℕ
  n = length c.servers

  knows : (i : ℕ) → i < length ms → Knows (server c i) o i (member ms i)
  knows i l = f.knows i (omega (arith, f.all, l))

  majority_of : (test : Member → Bool) (vote : ℕ → Bool) → ((i : ℕ) → i < length ms → test (member ms i) ≡ true → vote i ≡ true) → many test ms ≡ true → is_majority (length c.servers) vote ≡ true
  majority_of test vote each h = many_votes (length c.servers) test ms vote f.all (λ i l. each i (omega (arith, f.all, l))) h

  lacks : many is_unreached ms ≡ true → lacks_quorum (length c.servers) o (count_by is_unreached ms) ≡ true
  lacks h = and_from _ _ (rw (← f.all) h) (eq-eqb _ _ (count_same (length c.servers) is_unreached ms (unreached o) f.all (λ i l. (f.knows i l).unreached_is)))

  -- where the lack of a quorum is what it comes to
  gives_up : ((p : ℕ) → o.aim ≡ AimRead p → p < o.firm_before) → lacks_quorum (length c.servers) o (count_by is_unreached ms) ≡ true → may_decide (length c.servers) c.cut o o.aim (NoQuorum (count_by is_unreached ms)) ≡ true
  gives_up reads h = by o.aim reads
    where
      by : (aim : Aim) → ((p : ℕ) → aim ≡ AimRead p → p < o.firm_before) → may_decide (length c.servers) c.cut o aim (NoQuorum (count_by is_unreached ms)) ≡ true
      by (AimAppend e) a = h
      by (AimSettle k) a = h
      by AimTail a = h
      by AimSeal a = h
      by (AimTrim k) a = h
      by (AimRead p) a = and_from _ _ (lt-ltb _ _ (a p refl)) h

  lacking_stage : ((p : ℕ) → o.aim ≡ AimRead p → p < o.firm_before) → (v : Verdict) → (many is_unreached ms ≡ false → IsAllowed c o aims ms got v) → IsAllowed c o aims ms got (lacking ms v)
  lacking_stage reads v other = by (many is_unreached ms) refl
    where
      by : (b : Bool) → many is_unreached ms ≡ b → IsAllowed c o aims ms got (if b then Done (NoQuorum (count_by is_unreached ms)) else v)
      by true e = (gives_up reads (lacks e), λ z. absurd (cc))
      by false e = other e

  no_read : (aim : Aim) → o.aim ≡ aim → ((p : ℕ) → aim ≡ AimRead p → ⊥) → (p : ℕ) → o.aim ≡ AimRead p → p < o.firm_before
  no_read aim e none p h = absurd (none p (sym e ∙ h))

  tail_no_read : o.aim ≡ AimTail → (p : ℕ) → o.aim ≡ AimRead p → p < o.firm_before
  tail_no_read e = no_read AimTail e (λ p h. cc)

  mending_stage : (t : ℕ) → o.aim ≡ AimTail → IsSealedTail c o t → (rank_of aims.phase ≡ 0 → aims.phase ≡ Mending t) → IsAllowed c o aims ms got (judged_mending t ms)
  mending_stage t aim tail phase = lacking_stage (tail_no_read aim) _ (λ few. by (many (is_mended_to t) ms) refl few)
    where
      by : (b : Bool) → many (is_mended_to t) ms ≡ b → many is_unreached ms ≡ false → IsAllowed c o aims ms got (if b then Done (SealedTail t) else Go (Mending t))
      by true e few = (
        subst (λ a. may_decide (length c.servers) c.cut o a (SealedTail t) ≡ true) (sym aim)
            (and_from _ _ (and_from _ _ tail.within (majority_of (is_mended_to t) (heard_from (mended_to t) o) (λ i l h. mended_vote (server c i) o i (member ms i) (knows i l) t h) e)) tail.told),
        λ z. absurd (cc),
      )
      by false e few = record {
        aims_at = aim;
        fits = tail;
        nearer = near (rank_of aims.phase) refl;
        wanted = λ all. not_stuck f.odd.0 is_unreached (is_mended_to t) ms (f.all ∙ f.odd.1) few e (λ i l. all i l);
      }
        where
          near : (r : ℕ) → rank_of aims.phase ≡ r → (0 < rank_of aims.phase) ⊎ (Mending t ≡ aims.phase)
          near zero h = inr (sym (phase h))
          near (suc r) h = inl (omega (arith, h))

  sealed_tail : many is_found_sealed ms ≡ true → IsSealedTail c o (greatest sealed_of ms)
  sealed_tail h =
      let a : Attains sealed_of is_found_sealed ms = attains sealed_of is_found_sealed ms (λ m e. none_zero m.sealed e) (many_some is_found_sealed ms h) in
      let k : Knows (server c a.at) o a.at (member ms a.at) = knows a.at a.here in
      record {
        within = majority_of is_found_sealed (heard_from (sealed_within (greatest sealed_of ms)) o) (λ i l e. sealed_within_vote (server c i) o i (member ms i) (knows i l) (greatest sealed_of ms) (greatest_above sealed_of ms i l) e) h;
        told = subst (λ t. list_any (sealed_at t) o.heard ≡ true) a.is (vote_any o a.at (sealed_at (sealed_of (member ms a.at))) (k.sealed (sealed_of (member ms a.at)) (some_is _ a.passes)));
        there = omega (arith, a.is, k.sealed_within (sealed_of (member ms a.at)) (some_is _ a.passes), k.long, (law.servers a.at).within);
      }

  opened_tail : many is_opened ms ≡ true → IsOpenTail c o (greatest opened_of ms)
  opened_tail h =
      let a : Attains opened_of is_opened ms = attains opened_of is_opened ms (λ m e. none_zero m.opened e) (many_some is_opened ms h) in
      let k : Knows (server c a.at) o a.at (member ms a.at) = knows a.at a.here in
      record {
        within = majority_of is_opened (heard_from (open_within (greatest opened_of ms)) o) (λ i l e. opened_within_vote (server c i) o i (member ms i) (knows i l) (greatest opened_of ms) (greatest_above opened_of ms i l) e) h;
        told = subst (λ t. list_any (open_at t) o.heard ≡ true) a.is (vote_any o a.at (open_at (opened_of (member ms a.at))) (k.opened (opened_of (member ms a.at)) (some_is _ a.passes)));
        there = omega (arith, a.is, k.opened_within (opened_of (member ms a.at)) (some_is _ a.passes), k.long, (law.servers a.at).within);
      }

  some_sealed : list_any is_found_sealed ms ≡ true → list_any says_sealed o.heard ≡ true
  some_sealed h =
      let found : (i : ℕ) × (i < length ms) × (is_found_sealed (member ms i) ≡ true) = any_member is_found_sealed ms h in
      vote_any o found.0 says_sealed (sealed_vote (server c found.0) o found.0 (member ms found.0) (knows found.0 found.1) found.2)

  sealing_stage : o.aim ≡ AimTail → list_any says_sealed o.heard ≡ true → (1 < rank_of aims.phase) ⊎ (Sealing ≡ aims.phase) → IsAllowed c o aims ms got (judged_sealing ms)
  sealing_stage aim heard near = lacking_stage (tail_no_read aim) _ (λ few. by (many is_found_sealed ms) refl few)
    where
      not_last : (1 < rank_of aims.phase) ⊎ (Sealing ≡ aims.phase) → rank_of aims.phase ≡ 0 → aims.phase ≡ Mending (greatest sealed_of ms)
      not_last (inl h) e = absurd (omega (arith, h, e))
      not_last (inr h) e = absurd (omega (arith, ap rank_of h, e))

      by : (b : Bool) → many is_found_sealed ms ≡ b → many is_unreached ms ≡ false → IsAllowed c o aims ms got (if b then judged_mending (greatest sealed_of ms) ms else Go Sealing)
      by true e few = mending_stage (greatest sealed_of ms) aim (sealed_tail e) (not_last near)
      by false e few = record { aims_at = aim; fits = heard; nearer = near; wanted = λ all. not_stuck f.odd.0 is_unreached is_found_sealed ms (f.all ∙ f.odd.1) few e all }

  opening_stage : (t : ℕ) → o.aim ≡ AimTail → IsOpenTail c o t → (2 < rank_of aims.phase) ⊎ (Opening t ≡ aims.phase) → IsAllowed c o aims ms got (judged_opening t ms)
  opening_stage t aim tail near = by (list_any is_found_sealed ms) refl
    where
      above : (2 < rank_of aims.phase) ⊎ (Opening t ≡ aims.phase) → 1 < rank_of aims.phase
      above (inl h) = omega (arith, h)
      above (inr h) = omega (arith, ap rank_of h)

      none : (b : Bool) → many (is_opened_to t) ms ≡ b → list_any is_found_sealed ms ≡ false → many is_unreached ms ≡ false → IsAllowed c o aims ms got (if b then Done (OpenTail t) else Go (Opening t))
      none true e unsealed few = (
        subst (λ a. may_decide (length c.servers) c.cut o a (OpenTail t) ≡ true) (sym aim)
            (and_from _ _ (and_from _ _ tail.within (majority_of (is_opened_to t) (heard_from (open_to t) o) (λ i l h. opened_to_vote (server c i) o i (member ms i) (knows i l) t h) e)) tail.told),
        λ z. absurd (cc),
      )
      none false e unsealed few = record { aims_at = aim; fits = tail; nearer = near; wanted = λ all. not_stuck f.odd.0 is_unreached (is_opened_to t) ms (f.all ∙ f.odd.1) few e (λ i l. rw (none_member is_found_sealed ms unsealed i l) at (all i l)) }

      by : (b : Bool) → list_any is_found_sealed ms ≡ b → IsAllowed c o aims ms got (if b then judged_sealing ms else lacking ms (if many (is_opened_to t) ms then Done (OpenTail t) else Go (Opening t)))
      by true e = sealing_stage aim (some_sealed e) (inl (above near))
      by false e = lacking_stage (tail_no_read aim) _ (λ few. none (many (is_opened_to t) ms) refl e few)

  asking_stage : aims.phase ≡ Asking → o.aim ≡ AimTail → IsAllowed c o aims ms got (judged_asking ms)
  asking_stage phase aim = by (list_any is_found_sealed ms) refl
    where
      first : rank_of aims.phase ≡ 3
      first = ap rank_of phase

      none : (b : Bool) → many is_opened ms ≡ b → list_any is_found_sealed ms ≡ false → many is_unreached ms ≡ false → IsAllowed c o aims ms got (if b then judged_opening (greatest opened_of ms) ms else Go Asking)
      none true e unsealed few = opening_stage (greatest opened_of ms) aim (opened_tail e) (inl (omega (arith, first)))
      none false e unsealed few = record { aims_at = aim; fits = tt; nearer = inr (sym phase); wanted = λ all. not_stuck f.odd.0 is_unreached is_opened ms (f.all ∙ f.odd.1) few e (λ i l. rw (none_member is_found_sealed ms unsealed i l) at (all i l)) }

      by : (b : Bool) → list_any is_found_sealed ms ≡ b → IsAllowed c o aims ms got (if b then judged_sealing ms else lacking ms (if many is_opened ms then judged_opening (greatest opened_of ms) ms else Go Asking))
      by true e = sealing_stage aim (some_sealed e) (inl (omega (arith, first)))
      by false e = lacking_stage (tail_no_read aim) _ (λ few. none (many is_opened ms) refl e few)

  ---- an append, a settle, a seal

  shut_allowed : Shuts o.aim → is_majority (length c.servers) (heard_from says_sealed o) ≡ true → may_decide (length c.servers) c.cut o o.aim Shut ≡ true
  shut_allowed at h = by o.aim at
    where
      by : (aim : Aim) → Shuts aim → may_decide (length c.servers) c.cut o aim Shut ≡ true
      by (AimAppend e) a = h
      by (AimSettle k) a = h
      by AimSeal a = h
      by AimTail a = absurd a
      by (AimRead p) a = absurd a
      by (AimTrim k) a = absurd a

  reached_allowed : Fills o.aim → is_majority (length c.servers) (heard_from (open_to o.want) o) ≡ true → may_decide (length c.servers) c.cut o o.aim Reached ≡ true
  reached_allowed at h = by o.aim at
    where
      by : (aim : Aim) → Fills aim → may_decide (length c.servers) c.cut o aim Reached ≡ true
      by (AimAppend e) a = h
      by (AimSettle k) a = h
      by AimSeal a = absurd a
      by AimTail a = absurd a
      by (AimRead p) a = absurd a
      by (AimTrim k) a = absurd a

  fills_shuts : (aim : Aim) → Fills aim → Shuts aim
  fills_shuts (AimAppend e) a = tt
  fills_shuts (AimSettle k) a = tt
  fills_shuts AimSeal a = absurd a
  fills_shuts AimTail a = absurd a
  fills_shuts (AimRead p) a = absurd a
  fills_shuts (AimTrim k) a = absurd a

  shuts_no_read : Shuts o.aim → (p : ℕ) → o.aim ≡ AimRead p → p < o.firm_before
  shuts_no_read at p e = absurd (subst Shuts e at)

  shut_stage : Shuts o.aim → many is_found_sealed ms ≡ true → may_decide (length c.servers) c.cut o o.aim Shut ≡ true
  shut_stage at h = shut_allowed at (majority_of is_found_sealed (heard_from says_sealed o) (λ i l e. sealed_vote (server c i) o i (member ms i) (knows i l) e) h)

  shutting_stage : aims.phase ≡ Shutting → Shuts o.aim → (is_seal o.aim || list_any says_sealed o.heard) ≡ true → IsAllowed c o aims ms got (judged_shutting ms)
  shutting_stage phase at may = lacking_stage (shuts_no_read at) _ (λ few. by (many is_found_sealed ms) refl few)
    where
      by : (b : Bool) → many is_found_sealed ms ≡ b → many is_unreached ms ≡ false → IsAllowed c o aims ms got (if b then Done Shut else Go Shutting)
      by true e few = (shut_stage at e, λ z. absurd (cc))
      by false e few = record { aims_at = at; fits = may; nearer = inr (sym phase); wanted = λ all. not_stuck f.odd.0 is_unreached is_found_sealed ms (f.all ∙ f.odd.1) few e all }

  -- where all have answered and no group is more than half, some server is sealed
  met_sealed : list_all (is_settled aims.want) ms ≡ true → many is_unreached ms ≡ false → many (is_opened_to aims.want) ms ≡ false → list_any is_found_sealed ms ≡ true
  met_sealed settled few short = by (list_any is_found_sealed ms) refl
    where
      by : (b : Bool) → list_any is_found_sealed ms ≡ b → b ≡ true
      by true e = refl
      by false e = absurd (not_stuck f.odd.0 is_unreached (is_opened_to aims.want) ms (f.all ∙ f.odd.1) few short (λ i l. rw (none_member is_found_sealed ms e i l) at (each_member (is_settled aims.want) ms settled i l)))

  filling_stage : aims.phase ≡ Filling → Fills o.aim → IsAllowed c o aims ms got (judged_filling aims.want ms)
  filling_stage phase at = lacking_stage (shuts_no_read (fills_shuts o.aim at)) _ (λ few. by (many (is_opened_to aims.want) ms) refl few)
    where
      last : (b : Bool) → list_all (is_settled aims.want) ms ≡ b → many is_found_sealed ms ≡ false → many (is_opened_to aims.want) ms ≡ false → many is_unreached ms ≡ false → IsAllowed c o aims ms got (if b then Go Shutting else Go Filling)
      last true settled unsealed short few = record {
        aims_at = fills_shuts o.aim at;
        fits = or_right _ _ (some_sealed (met_sealed settled few short));
        nearer = inl (omega (arith, ap rank_of phase));
        wanted = λ all. not_stuck f.odd.0 is_unreached is_found_sealed ms (f.all ∙ f.odd.1) few unsealed all;
      }
      last false settled unsealed short few = record { aims_at = at; fits = tt; nearer = inr (sym phase); wanted = λ all. false≢true (sym settled ∙ all_members (is_settled aims.want) ms all) }

      next : (b : Bool) → many is_found_sealed ms ≡ b → many (is_opened_to aims.want) ms ≡ false → many is_unreached ms ≡ false → IsAllowed c o aims ms got (if b then Done Shut else (if list_all (is_settled aims.want) ms then Go Shutting else Go Filling))
      next true e short few = (shut_stage (fills_shuts o.aim at) e, λ z. absurd (cc))
      next false e short few = last (list_all (is_settled aims.want) ms) refl e short few

      by : (b : Bool) → many (is_opened_to aims.want) ms ≡ b → many is_unreached ms ≡ false → IsAllowed c o aims ms got (if b then Done Reached else (if many is_found_sealed ms then Done Shut else (if list_all (is_settled aims.want) ms then Go Shutting else Go Filling)))
      by true e few = (reached_allowed at (rw f.want (majority_of (is_opened_to aims.want) (heard_from (open_to aims.want) o) (λ i l h. opened_to_vote (server c i) o i (member ms i) (knows i l) aims.want h) e)), λ z. absurd (cc))
      by false e few = next (many is_found_sealed ms) refl e few

  ---- a trim

  trimming_stage : aims.phase ≡ Trimming → (k : ℕ) → o.aim ≡ AimTrim k → IsAllowed c o aims ms got (judged_trimming ms)
  trimming_stage phase k aim = lacking_stage (no_read (AimTrim k) aim (λ p h. cc)) _ (λ few. by (many is_passed ms) refl few)
    where
      by : (b : Bool) → many is_passed ms ≡ b → many is_unreached ms ≡ false → IsAllowed c o aims ms got (if b then Done TrimDone else Go Trimming)
      by true e few = (subst (λ a. may_decide (length c.servers) c.cut o a TrimDone ≡ true) (sym aim) (majority_of is_passed (heard_from (trimmed_to o.want) o) (λ i l h. (knows i l).trimmed k aim h) e), λ z. absurd (cc))
      by false e few = record { aims_at = (k, aim); fits = tt; nearer = inr (sym phase); wanted = λ all. not_stuck f.odd.0 is_unreached is_passed ms (f.all ∙ f.odd.1) few e all }

  ---- a read

  same_turn : (j : ℕ) (passed lost : Bool) → ((not (j == j) || passed) || lost) ≡ (passed || lost)
  same_turn j passed lost = rw (eq-eqb j j refl) refl

  -- all were asked, and none that had the entry was reached
  all_missed : (j : ℕ) → o.aim ≡ AimRead aims.place → aims.place < aims.firm → ((i : ℕ) → i < length ms → ((member ms i).passed || (member ms i).unreached) ≡ true) → many is_unreached ms ≡ true
  all_missed j aim below turned =
      let lost : is_majority (length c.servers) (unreached o) ≡ true = majority_stays (length c.servers) (λ i. nat_le o.firm_before (length_of (server_before o i))) (unreached o) (λ i l h. at i (omega (arith, l, f.all)) (leb-true _ _ h)) f.held in
      rw (f.all, count_same (length c.servers) is_unreached ms (unreached o) f.all (λ i l. (f.knows i l).unreached_is)) lost
    where
      at : (i : ℕ) → i < length ms → o.firm_before ≤ length_of (server_before o i) → unreached o i ≡ true
      at i l had = by (or_cases (member ms i).passed (member ms i).unreached (turned i l))
        where
          by : ((member ms i).passed ≡ true) ⊎ ((member ms i).unreached ≡ true) → unreached o i ≡ true
          by (inl e) = absurd (omega (arith, (knows i l).missed aims.place aim e, had, below, f.firm))
          by (inr e) = (knows i l).unreached_is ∙ e

  reading_stage : (j : ℕ) → aims.phase ≡ Reading j → o.aim ≡ AimRead aims.place → HaveTurned ms j → (got ≡ true → list_any (gives_entry aims.place) o.heard ≡ true) → IsAllowed c o aims ms got (judged_reading aims.cut aims.firm aims.place j got ms)
  reading_stage j phase aim turned told = by (nat_le aims.firm aims.place) refl
    where
      allowed : (a : _) → may_decide (length c.servers) c.cut o (AimRead aims.place) a ≡ true → may_decide (length c.servers) c.cut o o.aim a ≡ true
      allowed a h = subst (λ x. may_decide (length c.servers) c.cut o x a ≡ true) (sym aim) h

      reads : aims.place < aims.firm → (p : ℕ) → o.aim ≡ AimRead p → p < o.firm_before
      reads below p e = let same : AimRead aims.place ≡ AimRead p = sym aim ∙ e in let place : aims.place ≡ p = cc in omega (arith, below, place, f.firm)

      all_turned : length ms ≤ j + 1 → ((member ms j).passed || (member ms j).unreached) ≡ true → (i : ℕ) → i < length ms → ((member ms i).passed || (member ms i).unreached) ≡ true
      all_turned last here i l = side (cases_lt i j)
        where
          side : (i < j) ⊎ (j ≤ i) → ((member ms i).passed || (member ms i).unreached) ≡ true
          side (inl less) = turned.before i less
          side (inr more) = let same : j ≡ i = omega (arith, last, l, more) in subst (λ k. ((member ms k).passed || (member ms k).unreached) ≡ true) same here

      next : (b : Bool) → nat_lt (j + 1) (length ms) ≡ b → aims.place < aims.firm → ((member ms j).passed || (member ms j).unreached) ≡ true → IsAllowed c o aims ms got (if b then Go (Reading (j + 1)) else Done (NoQuorum (count_by is_unreached ms)))
      next true e below here =
          let less : j + 1 < length ms = ltb-true _ _ e in
          record {
            aims_at = aim;
            fits = record { here = less; after = λ i l. turned.after i (omega (arith, l)); before = λ i l. before i (cases_lt i j) l };
            nearer = inl (omega (arith, less, f.few, f.all, ap rank_of phase));
            wanted = λ all. unasked (all (j + 1) less);
          }
        where
          before : (i : ℕ) → (i < j) ⊎ (j ≤ i) → i < j + 1 → ((member ms i).passed || (member ms i).unreached) ≡ true
          before i (inl l) h = turned.before i l
          before i (inr l) h = let same : j ≡ i = omega (arith, l, h) in subst (λ k. ((member ms k).passed || (member ms k).unreached) ≡ true) same here

          unasked : is_done (Reading (j + 1)) aims.want (j + 1) (member ms (j + 1)) ≡ true → ⊥
          unasked h =
              let none : ((member ms (j + 1)).passed ≡ false) × ((member ms (j + 1)).unreached ≡ false) = or_parts (member ms (j + 1)).passed (member ms (j + 1)).unreached (turned.after (j + 1) (omega arith)) in
              let met : is_met (Reading (j + 1)) aims.want (j + 1) (member ms (j + 1)) ≡ false = rw (eq-eqb (j + 1) (j + 1) refl) none.0 in
              false≢true (sym (or_from (member ms (j + 1)).unreached (is_met (Reading (j + 1)) aims.want (j + 1) (member ms (j + 1))) none.1 met) ∙ h)
      next false e below here = (gives_up (reads below) (lacks (all_missed j aim below (all_turned (ltb-false _ _ e) here))), λ z. absurd (cc))

      turn : (b : Bool) → (is_met (Reading j) 0 j (member ms j) || is_unreached (member ms j)) ≡ b → aims.place < aims.firm → IsAllowed c o aims ms got (if b then judged_next j ms else Go (Reading j))
      turn true e below = next (nat_lt (j + 1) (length ms)) refl below (sym (same_turn j (member ms j).passed (member ms j).unreached) ∙ e)
      turn false e below = record { aims_at = aim; fits = turned; nearer = inr (sym phase); wanted = λ all. (let parts : (is_met (Reading j) 0 j (member ms j) ≡ false) × (is_unreached (member ms j) ≡ false) = or_parts (is_met (Reading j) 0 j (member ms j)) (is_unreached (member ms j)) e in false≢true (sym (or_from (is_unreached (member ms j)) (is_met (Reading j) 0 j (member ms j)) parts.1 parts.0) ∙ all j turned.here)) }

      found : (b : Bool) → got ≡ b → aims.place < aims.firm → IsAllowed c o aims ms got (if b then Done Found else lacking ms (if is_met (Reading j) 0 j (member ms j) || is_unreached (member ms j) then judged_next j ms else Go (Reading j)))
      found true e below = (allowed Found (and_from _ _ (lt-ltb _ _ (omega (arith, below, f.firm))) (told e)), λ z. e)
      found false e below = lacking_stage (reads below) _ (λ few. turn (is_met (Reading j) 0 j (member ms j) || is_unreached (member ms j)) refl below)

      kept : (b : Bool) → nat_lt aims.place aims.cut ≡ b → aims.place < aims.firm → IsAllowed c o aims ms got (if b then Done Gone else (if got then Done Found else lacking ms (if is_met (Reading j) 0 j (member ms j) || is_unreached (member ms j) then judged_next j ms else Go (Reading j))))
      kept true e below = (allowed Gone (rw (← f.cut) e), λ z. absurd (cc))
      kept false e below = found got refl below

      by : (b : Bool) → nat_le aims.firm aims.place ≡ b → IsAllowed c o aims ms got (if b then Done Beyond else (if nat_lt aims.place aims.cut then Done Gone else (if got then Done Found else lacking ms (if is_met (Reading j) 0 j (member ms j) || is_unreached (member ms j) then judged_next j ms else Go (Reading j)))))
      by true e = (allowed Beyond (rw f.firm e), λ z. absurd (cc))
      by false e = kept (nat_lt aims.place aims.cut) refl (leb-false _ _ e)

  ---- every stage

  pub verdict_allowed : (got ≡ true → list_any (gives_entry aims.place) o.heard ≡ true) → IsAllowed c o aims ms got (judged aims.phase aims.want aims.cut aims.firm aims.place got ms)
  verdict_allowed told = by aims.phase refl f.aims_at f.phase
    where
      by : (ph : Phase) → aims.phase ≡ ph → AimsAt aims.place o.aim ph → PhaseFits c o ms ph → IsAllowed c o aims ms got (judged ph aims.want aims.cut aims.firm aims.place got ms)
      by Filling e at fits = filling_stage e at
      by Asking e at fits = asking_stage e at
      by (Opening t) e at fits = opening_stage t at fits (inr (sym e))
      by Shutting e at fits = shutting_stage e at fits
      by Sealing e at fits = sealing_stage at fits (inr (sym e))
      by (Mending t) e at fits = mending_stage t at fits (λ _. e)
      by (Reading j) e at fits = reading_stage j e at fits told
      by Trimming e at fits = trimming_stage e at.0 at.1
