-- What an operation knows of a server once an answer came that it didn't wait for.
use Rattle.std.proofs.Common.{◌≡◌, ℕ, ◌≤◌, Bool, true, false, refl, sym, ◌∙◌, ap, subst, arith, Option, Some, None, inl, inr, max}
use Rattle.std.specs.Prelude.{◌⊎◌, ◌&&◌, ◌||◌, ◌==◌, not, nat_le, is_some, if◌then◌else◌}
use Rattle.std.proofs.lemmas.Bool.{false≢true, leb-true, eqb-true, and_parts, or_cases, or_right}
use Rattle.quorum_cell.specs.declared.message.Told.{Told}
use Rattle.quorum_cell.specs.declared.message.Told.TheVariants as told
use Rattle.quorum_cell.specs.declared.message.Reply.{Reply}
use Rattle.quorum_cell.specs.declared.operation.Aim.{Aim}
use Rattle.quorum_cell.specs.declared.operation.Aim.TheVariants.{Tail as AimTail, Read as AimRead, Trim as AimTrim}
use Rattle.quorum_cell.specs.Servers.{Server, length_of}
use Rattle.quorum_cell.specs.Cells.{Operation, server_before}
use Rattle.quorum_cell.specs.Tallies.{fails, open_told, mended_told, trimmed_to, told_trim, open_at, sealed_at, mended_to}
use Rattle.native_plan.specs.declared.member.Member.{Member}
use Rattle.native_plan.specs.declared.message.Errand.{Errand}
use Rattle.native_plan.specs.declared.message.Errand.TheVariants.{Store, Seal, Tail, Repair, Read, Trim}
use Rattle.native_plan.specs.declared.message.Phase.{Phase}
use Rattle.native_plan.specs.declared.message.Phase.TheVariants.{Filling, Asking, Opening, Shutting, Sealing, Mending, Reading, Trimming}
use Rattle.native_plan.specs.declared.stray.News.{News}
use Rattle.native_plan.specs.declared.stray.News.TheVariants as news
use Rattle.native_plan.specs.Members.{is_found_sealed}
use Rattle.native_plan.specs.Course.{Knows, Fills, Shuts, AimsAt, IsAskOf, with_reply}
use Rattle.native_plan.specs.Strays.{news_of, taken_news, is_read_at, bears, learned, learned_in, is_due, heard_anew}
use Rattle.native_plan.proofs.Hears.{heard_more, heard_new, knows_failed, knows_sealed, knows_opened, knows_mended, knows_missed, knows_same, store_told, repair_told}
use Rattle.native_ties.proofs.Resending.{knows_as}

-- a reply speaks of no more than its server has
pub record Speaks (s : Server) (o : Operation) (i : ℕ) (r : Reply) : Type 0 where
  pub opened : (n : ℕ) → open_told r.ask r.told ≡ Some n → n ≤ length_of s
  pub mended : (n : ℕ) → mended_told r.ask r.told ≡ Some n → n ≤ length_of s

-- which operations count which news

seal_no_trim : (ph : Phase) (n place : ℕ) (aim : Aim) → bears ph (news.Sealed n) ≡ true → AimsAt place aim ph → (z : ℕ) → aim ≡ AimTrim z → ⊥
seal_no_trim Filling n place aim b a z e = subst Fills e a
seal_no_trim Asking n place aim b a z e = (let x : AimTail ≡ AimTrim z = sym a ∙ e in cc)
seal_no_trim (Opening t) n place aim b a z e = (let x : AimTail ≡ AimTrim z = sym a ∙ e in cc)
seal_no_trim Shutting n place aim b a z e = subst Shuts e a
seal_no_trim Sealing n place aim b a z e = (let x : AimTail ≡ AimTrim z = sym a ∙ e in cc)
seal_no_trim (Mending t) n place aim b a z e = (let x : AimTail ≡ AimTrim z = sym a ∙ e in cc)
seal_no_trim (Reading j) n place aim b a z e = false≢true b
seal_no_trim Trimming n place aim b a z e = false≢true b

trim_no_read : (ph : Phase) (n place : ℕ) (aim : Aim) → bears ph (news.LetGo n) ≡ true → AimsAt place aim ph → (p : ℕ) → aim ≡ AimRead p → ⊥
trim_no_read Trimming n place aim b a p e = (let x : AimTrim a.0 ≡ AimRead p = sym a.1 ∙ e in cc)
trim_no_read Filling n place aim b a p e = false≢true b
trim_no_read Asking n place aim b a p e = false≢true b
trim_no_read (Opening t) n place aim b a p e = false≢true b
trim_no_read Shutting n place aim b a p e = false≢true b
trim_no_read Sealing n place aim b a p e = false≢true b
trim_no_read (Mending t) n place aim b a p e = false≢true b
trim_no_read (Reading j) n place aim b a p e = false≢true b

missed_reads : (ph : Phase) (place : ℕ) (aim : Aim) → bears ph news.Missed ≡ true → AimsAt place aim ph → aim ≡ AimRead place
missed_reads (Reading j) place aim b a = a
missed_reads Filling place aim b a = absurd (false≢true b)
missed_reads Asking place aim b a = absurd (false≢true b)
missed_reads (Opening t) place aim b a = absurd (false≢true b)
missed_reads Shutting place aim b a = absurd (false≢true b)
missed_reads Sealing place aim b a = absurd (false≢true b)
missed_reads (Mending t) place aim b a = absurd (false≢true b)
missed_reads Trimming place aim b a = absurd (false≢true b)

max_is : (a n : ℕ) → a ≤ n → max a n ≡ n
max_is a n h = omega arith

unfound : (z : Option ℕ) → not (is_some z) ≡ true → z ≡ None
unfound None h = refl
unfound (Some n) h = absurd (false≢true h)

-- where a Read was told that a server doesn't have the entry, it wasn't so long as the operation began
abbrev pub IsShort : Operation → ℕ → Errand → Told → Type 0
IsShort o i f z = (p n : ℕ) → f ≡ Read p → z ≡ told.Short n → length_of (server_before o i) ≤ p

module _ (s : Server) (o : Operation) (i : ℕ) (m : Member) (r : Reply) (k : Knows s o i m) (e : r.server ≡ i) (h : Speaks s o i r) where
  same : fails r.told ≡ false → Knows s (with_reply o r) i m
  same ok = knows_as s (with_reply o r) i m.losses m.message (record m { message = None }) (knows_same s o i m r k ok)

  failed : fails r.told ≡ true → Knows s (with_reply o r) i (record m { unreached = true })
  failed bad = knows_as s (with_reply o r) i m.losses m.message (record m { unreached = true; message = None }) (knows_failed s o i m r k e bad)

  sealed : (n : ℕ) → r.told ≡ told.Sealed n → ((z : ℕ) → o.aim ≡ AimTrim z → ⊥) → Knows s (with_reply o r) i (if nat_le m.at n then record m { sealed = Some n; at = n } else m)
  sealed n is trims = by (nat_le m.at n) refl
    where
      by : (b : Bool) → nat_le m.at n ≡ b → Knows s (with_reply o r) i (if b then record m { sealed = Some n; at = n } else m)
      by false z = same (ap fails is)
      by true z =
          let above : m.at ≤ n = leb-true _ _ z in
          subst (λ (l : ℕ). Knows s (with_reply o r) i (record m { sealed = Some n; at = l })) (max_is m.at n above)
          (knows_as s (with_reply o r) i m.losses m.message (record m { sealed = Some n; at = max m.at n; message = None }) (knows_sealed s o i m r k n e is trims above (h.mended n (ap (mended_told r.ask) is))))

  opened : (n : ℕ) → fails r.told ≡ false → open_told r.ask r.told ≡ Some n → Knows s (with_reply o r) i (if not (is_found_sealed m) && nat_le m.at n then record m { opened = Some n; at = n } else m)
  opened n ok is = by (not (is_found_sealed m) && nat_le m.at n) refl
    where
      by : (b : Bool) → (not (is_found_sealed m) && nat_le m.at n) ≡ b → Knows s (with_reply o r) i (if b then record m { opened = Some n; at = n } else m)
      by false z = same ok
      by true z =
          let parts : (not (is_found_sealed m) ≡ true) × (nat_le m.at n ≡ true) = and_parts _ _ z in
          let above : m.at ≤ n = leb-true _ _ parts.1 in
          subst (λ (l : ℕ). Knows s (with_reply o r) i (record m { opened = Some n; at = l })) (max_is m.at n above)
          (knows_as s (with_reply o r) i m.losses m.message (record m { opened = Some n; at = max m.at n; message = None }) (knows_opened s o i m r k n e ok is (unfound m.sealed parts.0) above (h.opened n is)))

  mended : (n : ℕ) → fails r.told ≡ false → mended_told r.ask r.told ≡ Some n → Knows s (with_reply o r) i (if is_found_sealed m && nat_le m.at n then record m { at = n } else m)
  mended n ok is = by (is_found_sealed m && nat_le m.at n) refl
    where
      by : (b : Bool) → (is_found_sealed m && nat_le m.at n) ≡ b → Knows s (with_reply o r) i (if b then record m { at = n } else m)
      by false z = same ok
      by true z =
          let parts : (is_found_sealed m ≡ true) × (nat_le m.at n ≡ true) = and_parts _ _ z in
          let above : m.at ≤ n = leb-true _ _ parts.1 in
          subst (λ (l : ℕ). Knows s (with_reply o r) i (record m { at = l })) (max_is m.at n above)
          (knows_as s (with_reply o r) i m.losses m.message (record m { at = max m.at n; message = None }) (knows_mended s o i m r k n e ok is above (h.mended n is)))

  let_go : (n want : ℕ) → r.told ≡ told.Trimmed n → o.want ≡ want → ((p : ℕ) → o.aim ≡ AimRead p → ⊥) → Knows s (with_reply o r) i (record m { passed = m.passed || nat_le want n })
  let_go n want is wanted reads =
      let still : Knows s (with_reply o r) i m = same (ap fails is) in
      record {
        opened = still.opened;
        sealed = still.sealed;
        mended = still.mended;
        opened_within = still.opened_within;
        sealed_within = still.sealed_within;
        trimmed = λ z a g. by z a (or_cases m.passed (nat_le want n) g);
        missed = λ p a g. absurd (reads p a);
        untrimmed = still.untrimmed;
        unreached_is = still.unreached_is;
        long = still.long;
      }
    where
      by : (z : ℕ) → o.aim ≡ AimTrim z → (m.passed ≡ true) ⊎ (nat_le want n ≡ true) → Rattle.quorum_cell.specs.Tallies.heard_from (trimmed_to o.want) (with_reply o r) i ≡ true
      by z a (inl g) = heard_more (trimmed_to o.want) o r i (k.trimmed z a g)
      by z a (inr g) = heard_new (trimmed_to o.want) o r i e (ap (told_trim o.want) is ∙ (rw wanted g))

  missed : (p : ℕ) → fails r.told ≡ false → o.aim ≡ AimRead p → length_of (server_before o i) ≤ p → Knows s (with_reply o r) i (record m { passed = true })
  missed p ok aim short = knows_as s (with_reply o r) i m.losses m.message (record m { passed = true; message = None }) (knows_missed s o i m r k p ok aim short)

  -- it counts such news, or they tell nothing
  either : (b : Bool) (now : Member) → fails r.told ≡ false → (b ≡ true → Knows s (with_reply o r) i now) → Knows s (with_reply o r) i (if b then now else m)
  either true now ok g = g refl
  either false now ok g = same ok

  -- it tells nothing
  nothing : (ph : Phase) (want : ℕ) → fails r.told ≡ false → Knows s (with_reply o r) i (learned_in ph want news.Nothing m)
  nothing ph want ok = either (bears ph news.Nothing) m ok (λ b. same ok)

  taken : (ph : Phase) (want n : ℕ) (f : Errand) → IsAskOf f r.ask → r.told ≡ told.Ack n → Knows s (with_reply o r) i (learned_in ph want (taken_news f n) m)
  taken ph want n (Store p) asked is = either (bears ph (news.Opened n)) _ (ap fails is) (λ b. opened n (ap fails is) (ap (open_told r.ask) is ∙ store_told s o i m r k p n r.ask asked))
  taken ph want n (Repair p) asked is = either (bears ph (news.Mended n)) _ (ap fails is) (λ b. mended n (ap fails is) (ap (mended_told r.ask) is ∙ repair_told s o i m r k p n r.ask asked))
  taken ph want n Seal asked is = nothing ph want (ap fails is)
  taken ph want n Tail asked is = nothing ph want (ap fails is)
  taken ph want n (Read p) asked is = nothing ph want (ap fails is)
  taken ph want n Trim asked is = nothing ph want (ap fails is)

  gone : (ph : Phase) (want n place : ℕ) (f : Errand) → AimsAt place o.aim ph → r.told ≡ told.Short n → ((p : ℕ) → f ≡ Read p → length_of (server_before o i) ≤ p) → Knows s (with_reply o r) i (learned_in ph want (if is_read_at place f then news.Missed else news.Nothing) m)
  gone ph want n place (Read p) aims is short = by (place == p) refl
    where
      by : (b : Bool) → (place == p) ≡ b → Knows s (with_reply o r) i (learned_in ph want (if b then news.Missed else news.Nothing) m)
      by true z = either (bears ph news.Missed) _ (ap fails is) (λ b. missed place (ap fails is) (missed_reads ph place o.aim b aims) (let same_place : place ≡ p = eqb-true place p z in let under = short p refl in omega (arith, same_place, under)))
      by false z = nothing ph want (ap fails is)
  gone ph want n place (Store p) aims is short = nothing ph want (ap fails is)
  gone ph want n place (Repair p) aims is short = nothing ph want (ap fails is)
  gone ph want n place Seal aims is short = nothing ph want (ap fails is)
  gone ph want n place Tail aims is short = nothing ph want (ap fails is)
  gone ph want n place Trim aims is short = nothing ph want (ap fails is)

  -- whatever was told
  knows_news : (place want : ℕ) (ph : Phase) (f : Errand) (z : Told) → o.want ≡ want → AimsAt place o.aim ph → IsAskOf f r.ask → IsShort o i f z → r.told ≡ z → Knows s (with_reply o r) i (learned_in ph want (news_of place f z) m)
  knows_news place want ph f told.Down wanted aims asked short is = failed (ap fails is)
  knows_news place want ph f told.DiskFault wanted aims asked short is = failed (ap fails is)
  knows_news place want ph f (told.Sealed n) wanted aims asked short is = either (bears ph (news.Sealed n)) _ (ap fails is) (λ b. sealed n is (seal_no_trim ph n place o.aim b aims))
  knows_news place want ph f (told.Unsealed n) wanted aims asked short is = either (bears ph (news.Opened n)) _ (ap fails is) (λ b. opened n (ap fails is) (ap (open_told r.ask) is))
  knows_news place want ph f (told.Ack n) wanted aims asked short is = taken ph want n f asked is
  knows_news place want ph f (told.Trimmed n) wanted aims asked short is = either (bears ph (news.LetGo n)) _ (ap fails is) (λ b. let_go n want is wanted (trim_no_read ph n place o.aim b aims))
  knows_news place want ph f (told.Short n) wanted aims asked short is = gone ph want n place f aims is (λ p e. short p n e refl)
  knows_news place want ph f (told.Behind n) wanted aims asked short is = nothing ph want (ap fails is)
  knows_news place want ph f (told.Cut n) wanted aims asked short is = nothing ph want (ap fails is)
  knows_news place want ph f (told.Got x) wanted aims asked short is = nothing ph want (ap fails is)

  -- and its message is kept or given up
  pub knows_anew : (place want : ℕ) (ph : Phase) (f : Errand) (z : Told) → o.want ≡ want → AimsAt place o.aim ph → IsAskOf f r.ask → IsShort o i f z → r.told ≡ z → Knows s (with_reply o r) i (heard_anew ph want i (news_of place f z) m)
  knows_anew place want ph f z wanted aims asked short is = by (is_due ph want i m (learned_in ph want (news_of place f z) m))
    where
      by : (b : Bool) → Knows s (with_reply o r) i (if b then learned_in ph want (news_of place f z) m else record (learned_in ph want (news_of place f z) m) { message = None })
      by true = knows_news place want ph f z wanted aims asked short is
      by false = knows_as s (with_reply o r) i (learned_in ph want (news_of place f z) m).losses None (learned_in ph want (news_of place f z) m) (knows_news place want ph f z wanted aims asked short is)

---- what was known stays, but for what was learned

-- a member of which more is known
pub record Grown (old new : Member) : Type 0 where
  pub losses : new.losses ≡ old.losses
  pub message : new.message ≡ old.message
  pub sealed : is_some old.sealed ≡ true → is_some new.sealed ≡ true
  pub turned : (old.passed || old.unreached) ≡ true → (new.passed || new.unreached) ≡ true

grown_same : (m : Member) → Grown m m
grown_same m = record { losses = refl; message = refl; sealed = λ h. h; turned = λ h. h }

grown_or : (a b u : Bool) → (a || u) ≡ true → ((a || b) || u) ≡ true
grown_or true b u h = refl
grown_or false true u h = refl
grown_or false false u h = h

grown_by : (want : ℕ) (x : News) (m : Member) → Grown m (learned want x m)
grown_by want news.Failed m = record { losses = refl; message = refl; sealed = λ h. h; turned = λ h. or_right m.passed true refl }
grown_by want (news.Sealed l) m = by (nat_le m.at l)
  where
    by : (b : Bool) → Grown m (if b then record m { sealed = Some l; at = l } else m)
    by true = record { losses = refl; message = refl; sealed = λ h. refl; turned = λ h. h }
    by false = grown_same m
grown_by want (news.Opened l) m = by (not (is_found_sealed m) && nat_le m.at l)
  where
    by : (b : Bool) → Grown m (if b then record m { opened = Some l; at = l } else m)
    by true = record { losses = refl; message = refl; sealed = λ h. h; turned = λ h. h }
    by false = grown_same m
grown_by want (news.Mended l) m = by (is_found_sealed m && nat_le m.at l)
  where
    by : (b : Bool) → Grown m (if b then record m { at = l } else m)
    by true = record { losses = refl; message = refl; sealed = λ h. h; turned = λ h. h }
    by false = grown_same m
grown_by want (news.LetGo l) m = record { losses = refl; message = refl; sealed = λ h. h; turned = grown_or m.passed (nat_le want l) m.unreached }
grown_by want news.Missed m = record { losses = refl; message = refl; sealed = λ h. h; turned = λ h. refl }
grown_by want news.Nothing m = grown_same m

pub grown_in : (ph : Phase) (want : ℕ) (x : News) (m : Member) → Grown m (learned_in ph want x m)
grown_in ph want x m = by (bears ph x)
  where
    by : (b : Bool) → Grown m (if b then learned want x m else m)
    by true = grown_by want x m
    by false = grown_same m

pub turned_anew : (ph : Phase) (want i : ℕ) (x : News) (m : Member) → (m.passed || m.unreached) ≡ true → ((heard_anew ph want i x m).passed || (heard_anew ph want i x m).unreached) ≡ true
turned_anew ph want i x m h = by (is_due ph want i m (learned_in ph want x m))
  where
    by : (b : Bool) → ((if b then learned_in ph want x m else record (learned_in ph want x m) { message = None }).passed || (if b then learned_in ph want x m else record (learned_in ph want x m) { message = None }).unreached) ≡ true
    by true = (grown_in ph want x m).turned h
    by false = (grown_in ph want x m).turned h
