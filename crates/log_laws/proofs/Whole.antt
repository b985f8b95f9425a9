-- An entry is applied: the space that was the state of a log is the state of the log with the entry at its end.
use Rattle.std.proofs.Common.{◌≡◌, ◌≢◌, refl, sym, ap, subst, ◌∙◌, ℕ, suc, zero, ◌+◌, ◌<◌, ◌≤◌, ◌^◌, ◌⊎◌, Bool, true, false, cond, List, [], ◌∷◌, ◌++◌, length, arith, inl, inr, not, max, append-nil, zero-add, length-append}
use Rattle.std.specs.Prelude.{◌||◌, filter, map}
use Rattle.std.proofs.lemmas.List.{take_all, take-append-le}
use Rattle.std.proofs.lemmas.List.Folds.{list_any-append}
use Rattle.std.proofs.lemmas.List.Elements.{filter_map-append, filter-append}
use Rattle.std.specs.FinMap as finmap
use Rattle.delos_types.specs.Numbers.{u64_bytes}
use Rattle.delos_types.specs.Spaces.{SpaceMap, Text}
use Rattle.delos_types.specs.declared.entry.Entry.{Entry}
use Rattle.engine_api.specs.declared.act.Act.{Act}
use Rattle.engine_api.specs.Acted.{Asked, appearances, unpack_all, asked_in, replied, table_after}
use Rattle.engine_api.specs.Items.{unpack}
use Rattle.engine_api.specs.Members.{greatest, has_left, position_of, trim_point, clean_at, clean_position}
use Rattle.engine_api.specs.Order.{numbers, is_clean, acted_after}
use Rattle.engine_api.proofs.Appends.{acted_log-append, asked_in-append, unpack_all-append, table_after-append}
use Rattle.engine_steps.specs.Layout.{reply_key, slot_read, clean_key, number_at, is_holding, is_left, clean_of}
use Rattle.engine_steps.specs.Steps.{opening}
use Rattle.engine_steps.specs.Words.{opened_items}
use Rattle.log_laws.specs.Rises.{Applies, placed_items}
use Rattle.log_laws.specs.State.{Tracks, Views, IsStateOf, Grows, acts_in, acted_of, kept_reply}
use Rattle.log_laws.specs.declared.rising.Acted.{Acted}
use Rattle.log_laws.proofs.Keys.{get_put_same}
use Rattle.log_laws.proofs.Freed.{held_same, number_text}
use Rattle.log_laws.proofs.Ranks.{ones, tracks_same}
use Rattle.log_laws.proofs.Holding.{holding_same, clean, unclean}
use Rattle.log_laws.proofs.Lists.{same_unpacked, asked_of, trim_words, trims_of, leaves, reports_of}
use Rattle.log_laws.proofs.SessionLevel.{session_level, clean_noted}
use Rattle.log_laws.proofs.ViewLevel.{view_level, views_same}
use Rattle.log_laws.proofs.TrimLevel.{trim_level}
use Rattle.log_laws.proofs.TableLevel.{Holds, TellAll, told_acts, table_level}
use Rattle.log_laws.proofs.Sinking.{Unseen, sinks_unseen}
use Rattle.log_laws.proofs.Replies.{Keeps, NextTo, gaps, replied_next, acted_follow, sinks_keeps, log_turn}

-- a log that grows by one

greatest-append : (a b : List ℕ) → greatest (a ++ b) ≡ max (greatest a) (greatest b)
greatest-append [] b = let same : greatest b ≡ max 0 (greatest b) = omega arith in same
greatest-append (n ∷ a) b = ap (max n) (greatest-append a b) ∙ (let same : max n (max (greatest a) (greatest b)) ≡ max (max n (greatest a)) (greatest b) = omega arith in same)

numbers-snoc : (a n : ℕ) → numbers a (n + 1) ≡ numbers a n ++ (a + n) ∷ []
numbers-snoc a zero = ap (λ k. k ∷ []) (let same : a ≡ a + 0 = omega arith in same)
numbers-snoc a (suc n) = ap (numbers a) (let same : suc n + 1 ≡ suc (n + 1) = omega arith in same) ∙ ap (λ l. a ∷ l) (numbers-snoc (a + 1) n ∙ ap (λ k. numbers (a + 1) n ++ k ∷ []) (let same : a + 1 + n ≡ a + suc n = omega arith in same))

filter_same : (p q : ℕ → Bool) (a n : ℕ) → ((k : ℕ) → a ≤ k → k < a + n → p k ≡ q k) → filter p (numbers a n) ≡ filter q (numbers a n)
filter_same p q a zero h = refl
filter_same p q a (suc n) h =
    ap (λ b. cond b (a ∷ filter p (numbers (a + 1) n)) (filter p (numbers (a + 1) n))) (h a (omega arith) (omega arith))
    ∙ ap (λ l. cond (q a) (a ∷ l) l) (filter_same p q (a + 1) n (λ k low high. h k (omega arith) (omega arith)))

pub length-push : {A : Type 0} (xs : List A) (x : A) → length (xs ++ x ∷ []) ≡ length xs + 1
length-push xs x = length-append xs (x ∷ [])

-- the clean position of a log that grows by one
clean_position-push : (log : List Entry) (e : Entry) → clean_position (log ++ e ∷ []) ≡ cond (is_clean ones (asked_in 0 (log ++ e ∷ []))) (length log + 1) (clean_position log)
clean_position-push log e =
    let more = log ++ e ∷ [] in
    let n = length log in
    let fewer : filter (clean_at more) (numbers 0 (n + 1)) ≡ filter (clean_at log) (numbers 0 (n + 1)) =
    filter_same (clean_at more) (clean_at log) 0 (n + 1) (λ k low high. let le : k ≤ length log = omega arith in ap (λ l. is_clean ones (asked_in 0 l)) (take-append-le k log (e ∷ []) le)) in
    let whole : clean_at more (0 + (n + 1)) ≡ is_clean ones (asked_in 0 more) = ap (λ l. is_clean ones (asked_in 0 l)) (take_all (0 + (n + 1)) more (omega (arith, length-push log e))) in
    ap (λ k. greatest (filter (clean_at more) (numbers 0 (k + 1)))) (length-push log e)
    ∙ ap (λ l. greatest (filter (clean_at more) l)) (numbers-snoc 0 (n + 1))
    ∙ ap greatest (filter-append (clean_at more) (numbers 0 (n + 1)) ((0 + (n + 1)) ∷ []))
    ∙ greatest-append (filter (clean_at more) (numbers 0 (n + 1))) _
    ∙ ap (λ l. max (greatest l) (greatest (filter (clean_at more) ((0 + (n + 1)) ∷ [])))) fewer
    ∙ ap (λ b. max (clean_position log) (greatest (cond b ((0 + (n + 1)) ∷ []) []))) whole
    ∙ last (is_clean ones (asked_in 0 more)) (clean_position log) n (clean_low log)
  where
    last : (b : Bool) (c n : ℕ) → c ≤ n → max c (greatest (cond b ((0 + (n + 1)) ∷ []) [])) ≡ cond b (n + 1) c
    last true c n h = omega arith
    last false c n h = omega arith

    below : (p : ℕ → Bool) (a n m : ℕ) → a + n ≤ m + 1 → greatest (filter p (numbers a n)) ≤ m
    below p a zero m h = omega arith
    below p a (suc n) m h =
        elim (p a) as (λ b. greatest (cond b (a ∷ filter p (numbers (a + 1) n)) (filter p (numbers (a + 1) n))) ≤ m) [
          | true ↦ let ih = below p (a + 1) n m (omega arith) in omega arith
          | false ↦ below p (a + 1) n m (omega arith)
        ]

    clean_low : (log : List Entry) → clean_position log ≤ length log
    clean_low log = below (clean_at log) 0 (length log + 1) (length log) (omega arith)

pub asked-push : (log : List Entry) (e : Entry) → asked_in 0 (log ++ e ∷ []) ≡ asked_in 0 log ++ appearances (unpack (length log) e)
asked-push log e =
    asked_in-append 0 log (e ∷ []) ∙ ap (λ n. asked_in 0 log ++ asked_in n (e ∷ [])) (zero-add (length log))
    ∙ ap (λ l. asked_in 0 log ++ appearances l) (append-nil (unpack (length log) e))

placed-push : (log : List Entry) (e : Entry) → unpack_all 0 (log ++ e ∷ []) ≡ unpack_all 0 log ++ unpack (length log) e
placed-push log e =
    unpack_all-append 0 log (e ∷ []) ∙ ap (λ n. unpack_all 0 log ++ unpack_all n (e ∷ [])) (zero-add (length log))
    ∙ ap (λ l. unpack_all 0 log ++ l) (append-nil (unpack (length log) e))

pub acts-push : (log : List Entry) (e : Entry) → acts_in (log ++ e ∷ []) ≡ acts_in log ++ replied (table_after finmap.empty (acts_in log)) (acted_after ones (asked_in 0 log) (appearances (unpack (length log) e)))
acts-push log e =
    acted_log-append finmap.empty ones 0 log (e ∷ [])
    ∙ ap (λ n. acts_in log ++ replied (table_after finmap.empty (acts_in log)) (acted_after ones (asked_in 0 log) (asked_in n (e ∷ [])))) (zero-add (length log))
    ∙ ap (λ l. acts_in log ++ replied (table_after finmap.empty (acts_in log)) (acted_after ones (asked_in 0 log) (appearances l))) (append-nil (unpack (length log) e))

-- the ranks are tracked where what tracks them stays
tracks_move : (b : List Asked) (m m' : SpaceMap) → Unseen m m' → Tracks b m → Tracks b m'
tracks_move b m m' u t = record {
  sessions = λ s hs. tracks_same b b m m' s refl (λ q far. refl) (ap number_at (u.low 1 _ (λ e. absurd (omega arith)))) (λ q. held_same m m' s q (u.low 4 _ (λ e. absurd (omega arith)))) (t.sessions s hs);
  waiting = u.waiting t.waiting;
  known = t.known;
}

views_move : (left : ℕ → Bool) (position : ℕ → ℕ) (m m' : SpaceMap) → ((k : Text) → finmap.get m' (3, k) ≡ finmap.get m (3, k)) → Views left position m → Views left position m'
views_move left position m m' same v = record {
  gone = λ node. ap is_left (same (node ∷ [])) ∙ v.gone node;
  reported = λ node stays. ap number_at (same (node ∷ [])) ∙ v.reported node stays;
}

-- the clean position that stands after the entry
clean_after : (log : List Entry) (e : Entry) (m m2 m' : SpaceMap) → length log < 2 ^ 64 → Tracks (asked_in 0 (log ++ e ∷ [])) m' → is_holding m' ≡ is_holding m2 → finmap.get m' (2, clean_key) ≡ finmap.get m2 (2, clean_key)
    → (m2 ≡ m) ⊎ (finmap.get m2 (2, clean_key) ≡ finmap.get (opening m (record { pos = length log; sub = 0 })) (2, clean_key)) → clean_of m (length log) ≡ clean_position log → clean_of m' (length (log ++ e ∷ [])) ≡ clean_position (log ++ e ∷ [])
clean_after log e m m2 m' small t same_holding same_clean noted before =
    elim (is_holding m') as (λ b. is_holding m' ≡ b → cond b (number_at (finmap.get m' (2, clean_key))) (length (log ++ e ∷ [])) ≡ clean_position (log ++ e ∷ [])) [
      | false ↦ λ h. length-push log e ∙ sym (clean_position-push log e ∙ ap (λ b. cond b (length log + 1) (clean_position log)) (clean _ m' t h))
      | true ↦ λ h. ap number_at same_clean ∙ stored h noted ∙ before ∙ sym (clean_position-push log e ∙ ap (λ b. cond b (length log + 1) (clean_position log)) (unclean _ m' t h))
    ] refl
  where
    opened : (b : Bool) → number_at (finmap.get (cond (not b) (finmap.insert m (2, clean_key) (u64_bytes (length log))) m) (2, clean_key)) ≡ cond b (number_at (finmap.get m (2, clean_key))) (length log)
    opened true = refl
    opened false = ap number_at (get_put_same m (2, clean_key) (u64_bytes (length log))) ∙ number_text (length log) small

    stored : is_holding m' ≡ true → (m2 ≡ m) ⊎ (finmap.get m2 (2, clean_key) ≡ finmap.get (opening m (record { pos = length log; sub = 0 })) (2, clean_key)) → number_at (finmap.get m2 (2, clean_key)) ≡ clean_of m (length log)
    stored h (inl is) =
        let holding : is_holding m ≡ true = sym (ap is_holding is) ∙ sym same_holding ∙ h in
        ap (λ (z : SpaceMap). number_at (finmap.get z (2, clean_key))) is ∙ sym (ap (λ b. cond b (number_at (finmap.get m (2, clean_key))) (length log)) holding)
    stored h (inr is) = ap number_at is ∙ opened (is_holding m)

-- the entry comes up, and its replies go down
pub grows : (log : List Entry) (e : Entry) (m m' : SpaceMap) (acted : List Acted) → length log < 2 ^ 64 → IsStateOf log m → Applies m (length log) e acted m' → Grows log e acted m'
grows log e m m' acted small st a =
    let n = length log in
    let items = opened_items e in
    let ins = placed_items n 0 items in
    let words = same_unpacked n e in
    let r2 = a.rises in
    let r3 = r2.5 in
    let r4 = r3.5 in
    let r5 = r4.5 in
    let none = r5.5 in
    let before = asked_in 0 log in
    let placed = unpack_all 0 log in
    let s2 = session_level before m r2.1 ins r2.0 r2.2 r2.4 st.sessions in
    let at2 : (i : ℕ) (k : Text) → i ≢ 2 → finmap.get r2.1 (i, k) ≡ finmap.get m (i, k) = s2.keeps.kinds in
    let s3 = view_level (has_left placed) (position_of placed) r2.1 r3.1 r2.0 r3.0 r3.2 r3.4 (views_move _ _ m r2.1 (λ k. at2 3 k (λ z. absurd (omega arith))) st.members) in
    let s4 = trim_level r3.1 r4.1 r3.0 r4.0 r4.2 r4.4 in
    let table = table_after finmap.empty (acts_in log) in
    let held4 : Holds table r4.1 = record { at = λ key. s4.kinds 5 key (λ z. absurd (omega arith)) ∙ s3.kinds 5 key (λ z. absurd (omega arith)) ∙ at2 5 key (λ z. absurd (omega arith)) ∙ st.table key } in
    let s5 = table_level table r4.1 r5.1 r4.0 r5.0 r5.2 r5.4 held4 in
    let told_is : a.told ≡ r5.2 =
    r2.6 ∙ ap (λ l. l ++ r2.3) s2.silent ∙ r3.6 ∙ ap (λ l. l ++ r3.3) s3.silent ∙ r4.6 ∙ ap (λ l. l ++ r4.3) s4.silent ∙ r5.6 ∙ ap (λ l. r5.2 ++ l) none.0 ∙ append-nil r5.2 in
    let asked_is : asked_of r4.0 ≡ acted_after ones before (appearances (unpack n e)) = s4.asked ∙ s3.asked ∙ s2.acts ∙ ap (acted_after ones before) words.asked in
    let acts = replied table (acted_after ones before (appearances (unpack n e))) in
    let tells : TellAll a.told acts = subst (λ l. TellAll l acts) (sym told_is) (subst (λ l. TellAll r5.2 (replied table l)) asked_is s5.tells) in
    let mid_is : a.mid ≡ r5.1 = none.1 in
    let kind : (i : ℕ) (k : Text) → i ≢ 3 → i ≢ 4 → i ≢ 5 → finmap.get a.mid (i, k) ≡ finmap.get r2.1 (i, k) = (λ i k n3 n4 n5. ap (λ (z : SpaceMap). finmap.get z (i, k)) mid_is ∙ s5.kinds i k n5 ∙ s4.kinds i k n4 ∙ s3.kinds i k n3) in
    let two : (k : Text) → finmap.get a.mid (2, k) ≡ finmap.get r2.1 (2, k) = (λ k. kind 2 k (λ z. absurd (omega arith)) (λ z. absurd (omega arith)) (λ z. absurd (omega arith))) in
    let up : Unseen r2.1 a.mid = record {
      low = λ b k ne. two (b ∷ k);
      waiting = λ h. record { key = λ k v high there. h.key k v high (sym (two k) ∙ there) };
      high = λ k lim. two k;
    } in
    let down = sinks_unseen (1 ∷ 2 ∷ 3 ∷ 4 ∷ 5 ∷ []) a.mid a.told m' a.sinks in
    let asked_more : before ++ asked_of ins ≡ asked_in 0 (log ++ e ∷ []) = ap (λ l. before ++ l) words.asked ∙ sym (asked-push log e) in
    let tracked : Tracks (asked_in 0 (log ++ e ∷ [])) m' = tracks_move _ a.mid m' down.unseen (tracks_move _ r2.1 a.mid up (subst (λ l. Tracks l r2.1) asked_more s2.tracks)) in
    let holding : is_holding m' ≡ is_holding r2.1 = holding_same a.mid m' down.unseen.high ∙ holding_same r2.1 a.mid up.high in
    let clean_kept : finmap.get m' (2, clean_key) ≡ finmap.get r2.1 (2, clean_key) = down.unseen.low 3 [] (λ z. absurd (omega arith)) ∙ two clean_key in
    let slots : Keeps (acts_in log) a.mid = record { at = λ s r hs one. ap (slot_read r) (two (reply_key s r) ∙ s2.keeps.slots _) ∙ st.replies.at s r hs one } in
    let turn : NextTo (gaps before) acts (gaps (before ++ appearances (unpack n e))) = replied_next table (gaps before) (gaps (before ++ appearances (unpack n e))) (acted_after ones before (appearances (unpack n e))) (acted_follow before (appearances (unpack n e))) in
    let kept : Keeps (acts_in log ++ acts) m' = sinks_keeps (acts_in log) acts (gaps before) (gaps (before ++ appearances (unpack n e))) a.told a.mid m' (log_turn finmap.empty before) turn tells a.sinks slots in
    record {
      state = record {
        sessions = tracked;
        clean = clean_after log e m r2.1 m' small tracked holding clean_kept (clean_noted before n items m r2.1 r2.0 r2.2 r2.4 st.sessions) st.clean;
        members = views_same _ _ _ _ m'
            (λ node. ap (λ l. has_left l node) (placed-push log e) ∙ list_any-append _ placed (unpack n e) ∙ ap (λ b. has_left placed node || b) (sym (ap (leaves node) s2.views ∙ words.left node)))
            (λ node. ap (λ l. position_of l node) (placed-push log e) ∙ ap greatest (filter_map-append _ placed (unpack n e)) ∙ greatest-append _ _ ∙ ap (max (position_of placed node)) (sym (ap (λ l. greatest (reports_of node l)) s2.views ∙ ap greatest (words.reports node))))
            (views_move _ _ r3.1 m' (λ k. down.kinds 3 k (λ z. absurd (omega arith)) ∙ ap (λ (z : SpaceMap). finmap.get z (3, k)) mid_is ∙ s5.kinds 3 k (λ z. absurd (omega arith)) ∙ s4.kinds 3 k (λ z. absurd (omega arith))) s3.views);
        trim = ap number_at (down.kinds 4 _ (λ z. absurd (omega arith)) ∙ ap (λ (z : SpaceMap). finmap.get z (4, 1 ∷ [])) mid_is ∙ s5.kinds 4 _ (λ z. absurd (omega arith))) ∙ s4.trim
            ∙ ap (λ k. max k (greatest (trims_of (trim_words r3.0)))) (ap number_at (s3.kinds 4 _ (λ z. absurd (omega arith)) ∙ at2 4 _ (λ z. absurd (omega arith))) ∙ st.trim)
            ∙ ap (λ l. max (trim_point placed) (greatest (trims_of l))) (s3.trims ∙ s2.trims) ∙ ap (λ l. max (trim_point placed) (greatest l)) words.trims
            ∙ sym (ap trim_point (placed-push log e) ∙ ap greatest (filter_map-append _ placed (unpack n e)) ∙ greatest-append _ _);
        table = λ key. down.kinds 5 key (λ z. absurd (omega arith)) ∙ ap (λ (z : SpaceMap). finmap.get z (5, key)) mid_is ∙ s5.holds.at key
            ∙ ap (λ l. finmap.get (table_after table (replied table l)) key) asked_is ∙ sym (ap (λ l. finmap.get (table_after finmap.empty l) key) (acts-push log e) ∙ ap (λ t. finmap.get t key) (table_after-append finmap.empty (acts_in log) acts));
        replies = record { at = λ s r hs one. kept.at s r hs one ∙ ap (λ l. kept_reply l s r) (sym (acts-push log e)) };
      };
      acts = ap (map acted_of) (acts-push log e) ∙ map_append (acts_in log) acts ∙ ap (λ l. map acted_of (acts_in log) ++ l) (sym (a.acts ∙ told_acts a.told acts tells));
    }
  where
    map_append : (xs ys : List Act) → map acted_of (xs ++ ys) ≡ map acted_of xs ++ map acted_of ys
    map_append [] ys = refl
    map_append (x ∷ xs) ys = ap (λ l. acted_of x ∷ l) (map_append xs ys)
