-- What an operation knows once an answer came.
use Rattle.std.proofs.Common.{◌≡◌, ℕ, ◌≤◌, Bool, true, false, refl, sym, ◌∙◌, ap, arith, [], ◌∷◌, Option, Some, None, max}
use Rattle.std.specs.Prelude.{◌&&◌, ◌||◌, ◌==◌, nat_le}
use Rattle.std.proofs.lemmas.Bool.{le-leb, eq-eqb, ne_eqb, and_from, and_left, or_left, or_right}
use Rattle.std.proofs.lemmas.Option.{none-some, same_Some}
use Rattle.std.proofs.lemmas.List.Folds.{list_any-append}
use Rattle.quorum_cell.specs.declared.message.Ask.{Ask}
use Rattle.quorum_cell.specs.declared.message.Ask.TheVariants as ask
use Rattle.quorum_cell.specs.declared.message.Told.{Told}
use Rattle.quorum_cell.specs.declared.message.Told.TheVariants.{Down, DiskFault, Sealed, Unsealed, Ack, Got, Short, Cut, Trimmed}
use Rattle.quorum_cell.specs.declared.message.Reply.{Reply}
use Rattle.quorum_cell.specs.declared.operation.Aim.TheVariants.{Read as AimRead, Trim as AimTrim}
use Rattle.quorum_cell.specs.Servers.{Server, length_of}
use Rattle.quorum_cell.specs.Cells.{Operation, server_before}
use Rattle.quorum_cell.specs.Tallies.{open_told, sealed_told, mended_told, heard_from, open_at, sealed_at, mended_to, trimmed_to, told_trim, failed_reply, fails, lost_to, unreached, exactly, at_least}
use Rattle.native_plan.specs.declared.member.Member.{Member}
use Rattle.native_plan.specs.declared.message.Errand.{Errand}
use Rattle.native_plan.specs.declared.message.Errand.TheVariants.{Store, Seal, Tail, Repair, Read, Trim}
use Rattle.native_plan.specs.declared.message.Phase.{Phase}
use Rattle.native_plan.specs.Members.{heard_by}
use Rattle.native_plan.specs.Course.{Knows, Comes, IsAskOf, ToldWell, with_reply}

heard_is : (test : Reply → Bool) (o : Operation) (r : Reply) (i : ℕ) → heard_from test (with_reply o r) i ≡ (heard_from test o i || (((r.server == i) && test r) || false))
heard_is test o r i = list_any-append (λ (x : Reply). (x.server == i) && test x) o.heard (r ∷ [])

pub heard_more : (test : Reply → Bool) (o : Operation) (r : Reply) (i : ℕ) → heard_from test o i ≡ true → heard_from test (with_reply o r) i ≡ true
heard_more test o r i h = heard_is test o r i ∙ or_left (heard_from test o i) (((r.server == i) && test r) || false) h

pub heard_new : (test : Reply → Bool) (o : Operation) (r : Reply) (i : ℕ) → r.server ≡ i → test r ≡ true → heard_from test (with_reply o r) i ≡ true
heard_new test o r i e h = heard_is test o r i ∙ or_right (heard_from test o i) (((r.server == i) && test r) || false) (or_left ((r.server == i) && test r) false (and_from (r.server == i) (test r) (eq-eqb r.server i e) h))

or_none : (a b : Bool) → b ≡ false → (a || (b || false)) ≡ a
or_none true b h = refl
or_none false b h = rw h refl

pub heard_else : (test : Reply → Bool) (o : Operation) (r : Reply) (i : ℕ) → ((r.server == i) && test r) ≡ false → heard_from test (with_reply o r) i ≡ heard_from test o i
heard_else test o r i h = heard_is test o r i ∙ or_none (heard_from test o i) ((r.server == i) && test r) h

-- of another server it knows what it knew
pub knows_other : (s : Server) (o : Operation) (r : Reply) (i : ℕ) (m : Member) → (r.server ≡ i → ⊥) → Knows s o i m → Knows s (with_reply o r) i m
knows_other s o r i m other k = record {
  opened = λ l h. heard_more (open_at l) o r i (k.opened l h);
  sealed = λ l h. heard_more (sealed_at l) o r i (k.sealed l h);
  mended = λ l h. heard_more (mended_to m.at) o r i (k.mended l h);
  opened_within = k.opened_within;
  sealed_within = k.sealed_within;
  trimmed = λ n a h. heard_more (trimmed_to o.want) o r i (k.trimmed n a h);
  missed = k.missed;
  untrimmed = k.untrimmed;
  unreached_is = ap (λ b. b || lost_to o i) (heard_else failed_reply o r i (and_left (r.server == i) (failed_reply r) (ne_eqb r.server i other))) ∙ k.unreached_is;
  long = k.long;
}

exact : (n : ℕ) (z : Option ℕ) (k : ℕ) → z ≡ Some n → n ≡ k → exactly k z ≡ true
exact n z k e h = rw e (eq-eqb k n (sym h))

least : (n : ℕ) (z : Option ℕ) (k : ℕ) → z ≡ Some n → k ≤ n → at_least k z ≡ true
least n z k e h = rw e (le-leb k n h)

above : (a n k : ℕ) → n ≡ k → k ≤ max a n
above a n k h = omega arith

longer : (a n l : ℕ) → a ≤ l → n ≤ l → max a n ≤ l
longer a n l h k = omega arith

module _ (s : Server) (o : Operation) (i : ℕ) (m : Member) (r : Reply) (k : Knows s o i m) where
  o' : Operation
  o' = with_reply o r

  more : (test : Reply → Bool) → heard_from test o i ≡ true → heard_from test (with_reply o r) i ≡ true
  more test h = heard_more test o r i h

  reached_still : fails r.told ≡ false → unreached (with_reply o r) i ≡ m.unreached
  reached_still h = ap (λ b. b || lost_to o i) (heard_else failed_reply o r i (and_false (r.server == i) (failed_reply r) h)) ∙ k.unreached_is
    where
      and_false : (a b : Bool) → b ≡ false → (a && b) ≡ false
      and_false true b h = h
      and_false false b h = refl

  told_failed : r.server ≡ i → fails r.told ≡ true → unreached (with_reply o r) i ≡ true
  told_failed e h = or_left (heard_from failed_reply (with_reply o r) i) (lost_to o i) (heard_new failed_reply o r i e h)

  pub knows_failed : r.server ≡ i → fails r.told ≡ true → Knows s (with_reply o r) i (record m { unreached = true; message = None })
  knows_failed e h = record {
    opened = λ l g. more (open_at l) (k.opened l g);
    sealed = λ l g. more (sealed_at l) (k.sealed l g);
    mended = λ l g. more (mended_to m.at) (k.mended l g);
    opened_within = k.opened_within;
    sealed_within = k.sealed_within;
    trimmed = λ n a g. more (trimmed_to o.want) (k.trimmed n a g);
    missed = k.missed;
    untrimmed = k.untrimmed;
    unreached_is = told_failed e h;
    long = k.long;
  }

  pub knows_sealed : (n : ℕ) → r.server ≡ i → r.told ≡ Sealed n → ((z : ℕ) → o.aim ≡ AimTrim z → ⊥) → m.at ≤ n → n ≤ length_of s → Knows s (with_reply o r) i (record m { sealed = Some n; at = max m.at n; message = None })
  knows_sealed n e t trims at long = record {
    opened = λ l g. more (open_at l) (k.opened l g);
    sealed = λ l g. heard_new (sealed_at l) o r i e (exact n (sealed_told r.told) l (ap sealed_told t) (same_Some n l g));
    mended = λ l g. heard_new (mended_to (max m.at n)) o r i e (least n (mended_told r.ask r.told) (max m.at n) (ap (mended_told r.ask) t) (omega arith));
    opened_within = λ l g. (let w = k.opened_within l g in omega (arith, w));
    sealed_within = λ l g. above m.at n l (same_Some n l g);
    trimmed = λ z a g. more (trimmed_to o.want) (k.trimmed z a g);
    missed = k.missed;
    untrimmed = λ z a. absurd (trims z a);
    unreached_is = reached_still (ap fails t);
    long = longer m.at n (length_of s) k.long long;
  }

  pub knows_opened : (n : ℕ) → r.server ≡ i → fails r.told ≡ false → open_told r.ask r.told ≡ Some n → m.sealed ≡ None → m.at ≤ n → n ≤ length_of s → Knows s (with_reply o r) i (record m { opened = Some n; at = max m.at n; message = None })
  knows_opened n e ok t unsealed at long = record {
    opened = λ l g. heard_new (open_at l) o r i e (exact n (open_told r.ask r.told) l t (same_Some n l g));
    sealed = λ l g. more (sealed_at l) (k.sealed l g);
    mended = λ l g. absurd (none-some l (sym unsealed ∙ g));
    opened_within = λ l g. above m.at n l (same_Some n l g);
    sealed_within = λ l g. (let w = k.sealed_within l g in omega (arith, w));
    trimmed = λ z a g. more (trimmed_to o.want) (k.trimmed z a g);
    missed = k.missed;
    untrimmed = k.untrimmed;
    unreached_is = reached_still ok;
    long = longer m.at n (length_of s) k.long long;
  }

  pub knows_mended : (n : ℕ) → r.server ≡ i → fails r.told ≡ false → mended_told r.ask r.told ≡ Some n → m.at ≤ n → n ≤ length_of s → Knows s (with_reply o r) i (record m { at = max m.at n; message = None })
  knows_mended n e ok t at long = record {
    opened = λ l g. more (open_at l) (k.opened l g);
    sealed = λ l g. more (sealed_at l) (k.sealed l g);
    mended = λ l g. heard_new (mended_to (max m.at n)) o r i e (least n (mended_told r.ask r.told) (max m.at n) t (omega arith));
    opened_within = λ l g. (let w = k.opened_within l g in omega (arith, w));
    sealed_within = λ l g. (let w = k.sealed_within l g in omega (arith, w));
    trimmed = λ z a g. more (trimmed_to o.want) (k.trimmed z a g);
    missed = k.missed;
    untrimmed = k.untrimmed;
    unreached_is = reached_still ok;
    long = longer m.at n (length_of s) k.long long;
  }

  -- it was asked to let go
  knows_let_go : (n want : ℕ) → fails r.told ≡ false → r.server ≡ i → r.told ≡ Trimmed n → o.want ≡ want → ((p : ℕ) → o.aim ≡ AimRead p → ⊥) → n ≤ length_of s → Knows s (with_reply o r) i (record m { passed = nat_le want n; at = max m.at n; sealed = None; message = None })
  knows_let_go n want ok e t wanted no_read long = record {
    opened = λ l g. more (open_at l) (k.opened l g);
    sealed = λ l g. absurd (none-some l g);
    mended = λ l g. absurd (none-some l g);
    opened_within = λ l g. (let w = k.opened_within l g in omega (arith, w));
    sealed_within = λ l g. absurd (none-some l g);
    trimmed = λ z a g. heard_new (trimmed_to o.want) o r i e (ap (told_trim o.want) t ∙ (rw wanted g));
    missed = λ p a g. absurd (no_read p a);
    untrimmed = λ z a. refl;
    unreached_is = reached_still ok;
    long = longer m.at n (length_of s) k.long long;
  }

  -- it doesn't have the entry
  pub knows_missed : (p : ℕ) → fails r.told ≡ false → o.aim ≡ AimRead p → length_of (server_before o i) ≤ p → Knows s (with_reply o r) i (record m { passed = true; message = None })
  knows_missed p ok aim short = record {
    opened = λ l g. more (open_at l) (k.opened l g);
    sealed = λ l g. more (sealed_at l) (k.sealed l g);
    mended = λ l g. more (mended_to m.at) (k.mended l g);
    opened_within = k.opened_within;
    sealed_within = k.sealed_within;
    trimmed = λ z a g. (let same : AimRead p ≡ AimTrim z = sym aim ∙ a in absurd (cc));
    missed = λ q a g. (let same : AimRead p ≡ AimRead q = sym aim ∙ a in let place : p ≡ q = cc in omega (arith, short, place));
    untrimmed = k.untrimmed;
    unreached_is = reached_still ok;
    long = k.long;
  }

  pub knows_same : fails r.told ≡ false → Knows s (with_reply o r) i (record m { message = None })
  knows_same ok = record {
    opened = λ l g. more (open_at l) (k.opened l g);
    sealed = λ l g. more (sealed_at l) (k.sealed l g);
    mended = λ l g. more (mended_to m.at) (k.mended l g);
    opened_within = k.opened_within;
    sealed_within = k.sealed_within;
    trimmed = λ n a g. more (trimmed_to o.want) (k.trimmed n a g);
    missed = k.missed;
    untrimmed = k.untrimmed;
    unreached_is = reached_still ok;
    long = k.long;
  }

  pub store_told : (p n : ℕ) (a : Ask) → IsAskOf (Store p) a → open_told a (Ack n) ≡ Some n
  store_told p n (ask.Store q x) h = refl
  store_told p n ask.Seal h = absurd h
  store_told p n ask.Tail h = absurd h
  store_told p n (ask.Repair q x) h = absurd h
  store_told p n (ask.Read q) h = absurd h
  store_told p n (ask.Trim q) h = absurd h

  pub repair_told : (p n : ℕ) (a : Ask) → IsAskOf (Repair p) a → mended_told a (Ack n) ≡ Some n
  repair_told p n (ask.Repair q x) h = refl
  repair_told p n ask.Seal h = absurd h
  repair_told p n ask.Tail h = absurd h
  repair_told p n (ask.Store q x) h = absurd h
  repair_told p n (ask.Read q) h = absurd h
  repair_told p n (ask.Trim q) h = absurd h

  pub knows_heard : (cut want : ℕ) (ph : Phase) (e : Errand) (told : Told) → o.want ≡ want → Comes s o i m r e told → ToldWell (server_before o i) cut ph want m e told → Knows s (with_reply o r) i (heard_by want e told m)
  knows_heard cut want ph e Down w c h = knows_failed c.server (ap fails c.told_is)
  knows_heard cut want ph e DiskFault w c h = knows_failed c.server (ap fails c.told_is)
  knows_heard cut want ph (Store p) (Sealed n) w c h = knows_sealed n c.server c.told_is (λ q a. (let t = c.trims q a in cc)) h (c.mended n (ap (mended_told r.ask) c.told_is))
  knows_heard cut want ph (Store p) (Ack n) w c h = let t : open_told r.ask r.told ≡ Some n = ap (open_told r.ask) c.told_is ∙ store_told p n r.ask c.asked in knows_opened n c.server (ap fails c.told_is) t (c.unsealed tt) (omega (arith, h)) (c.opened n t)
  knows_heard cut want ph Tail (Sealed n) w c h = knows_sealed n c.server c.told_is (λ q a. (let t = c.trims q a in cc)) h (c.mended n (ap (mended_told r.ask) c.told_is))
  knows_heard cut want ph Tail (Unsealed n) w c h = let t : open_told r.ask r.told ≡ Some n = ap (open_told r.ask) c.told_is in knows_opened n c.server (ap fails c.told_is) t (c.unsealed tt) h (c.opened n t)
  knows_heard cut want ph Seal (Sealed n) w c h = knows_sealed n c.server c.told_is (λ q a. (let t = c.trims q a in cc)) h (c.mended n (ap (mended_told r.ask) c.told_is))
  knows_heard cut want ph (Repair p) (Ack n) w c h = let t : mended_told r.ask r.told ≡ Some n = ap (mended_told r.ask) c.told_is ∙ repair_told p n r.ask c.asked in knows_mended n c.server (ap fails c.told_is) t (omega (arith, h)) (c.mended n t)
  knows_heard cut want ph (Read p) (Got x) w c h = knows_same (ap fails c.told_is)
  knows_heard cut want ph (Read p) (Short n) w c h = knows_missed p (ap fails c.told_is) (c.is_read p refl) h
  knows_heard cut want ph (Read p) (Cut b) w c h = knows_same (ap fails c.told_is)
  knows_heard cut want ph Trim (Trimmed n) w c h = knows_let_go n want (ap fails c.told_is) c.server c.told_is w (λ p a. (let t = c.reads p a in cc)) (c.let_go n refl)
  knows_heard cut want ph e told w c h = absurd h
