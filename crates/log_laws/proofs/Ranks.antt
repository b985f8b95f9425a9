-- One rank comes up: what acts is what session order says, and the session engine's space keeps track.
use Rattle.std.proofs.Common.{◌≡◌, ◌≢◌, refl, sym, ap, subst, ◌∙◌, ℕ, suc, ◌+◌, ◌-◌, ◌<◌, ◌≤◌, ◌^◌, ◌⊎◌, true, false, cond, List, [], ◌∷◌, ◌++◌, length, Option, Some, None, arith, is_some, inl, inr}
use Rattle.std.specs.Prelude.{filter_map, map}
use Rattle.std.specs.List.{cons_option}
use Rattle.std.specs.Option.{option_map, option_or}
use Rattle.std.specs.Ordering.{eq_by_cmp, is_lt}
use Rattle.std.proofs.lemmas.Bool.{cases_lt}
use Rattle.std.specs.FinMap as finmap
use Rattle.std.specs.FinMap.{get-insert}
use Rattle.delos_types.specs.Numbers.{u64_bytes}
use Rattle.delos_types.specs.Spaces.{SpaceMap, Text, space_cmp, text_cmp}
use Rattle.delos_types.specs.declared.item.Item.{Item}
use Rattle.delos_types.specs.declared.place.Place.{Place}
use Rattle.table_core.specs.Reading.{command_of}
use Rattle.table_core.specs.declared.command.Command.{Command}
use Rattle.engine_api.specs.Acted.{Asked}
use Rattle.engine_api.specs.Order.{first_of, gap_from, act_at, numbers, acts_of}
use Rattle.engine_api.proofs.Gaps.{gap_from-is}
use Rattle.engine_steps.specs.Layout.{last_of, held_of, held_key, last_key, number_at}
use Rattle.engine_steps.specs.Steps.{Frees, waits}
use Rattle.engine_steps.specs.Words.{under}
use Rattle.engine_steps.proofs.Held.{held_of_fits}
use Rattle.log_laws.specs.Rises.{at_place}
use Rattle.log_laws.specs.State.{TracksAt, HoldsRanks, KnownSessions, Tracks}
use Rattle.log_laws.proofs.Keys.{space_total, space_exact, get_put_same, get_put_other, equal_is, other_kind, other_key, other_head, last_keys}
use Rattle.log_laws.proofs.Firsts.{same_or_not, first_of-other_session, first_of-other_rank, first_of-own, still, none_is, appears, absent, gap_stays}
use Rattle.log_laws.proofs.Words.{under-ranked}
use Rattle.log_laws.proofs.Lists.{asked_of, asked_at, asked_word}
use Rattle.log_laws.proofs.Freed.{number_text, held_fits, held_put_other, held_del_other, held_put_low, Apart, freed}

-- the start of each session
abbrev pub ones : ℕ → ℕ
ones s = 1

abbrev pub asked : Place → ℕ → ℕ → Option Command → Asked
asked place s r c = record { place = place; session = s; rank = r; command = c }

abbrev pub commands : Option Asked → Option (Option Command)
commands o = option_map (λ (x : Asked). x.command) o

-- What acts

act_from : (place : Place) (s q : ℕ) (c : Option Command) (o : Option Asked) → commands o ≡ Some c → option_map (λ (f : Asked). asked place s q f.command) o ≡ Some (asked place s q c)
act_from place s q c None e = let off : None ≡ Some c = e in absurd (cc)
act_from place s q c (Some f) e = let same : f.command ≡ c = cc in ap (λ d. Some (asked place s q d)) same

freed_acts : (place : Place) (s r : ℕ) (c : Option Command) → s ≤ 63 → (xs : List Asked) (m mid : SpaceMap) (n : ℕ) (fs : List Item) → 1 ≤ n → Frees m s n fs mid
    → ((q : ℕ) → n ≤ q → option_map command_of (held_of m s q) ≡ commands (first_of xs s q)) → filter_map (act_at xs (asked place s r c)) (numbers n (length fs)) ≡ asked_of (map (at_place place) fs)
freed_acts place s r c hs xs m mid n [] one f track = refl
freed_acts place s r c hs xs m mid n (y ∷ fs) one f track =
    let p = f.0 in
    let hn : n < 2 ^ 64 = held_fits m s n p f.1 in
    let cut = finmap.remove m (2, held_key s n) in
    let here : act_at xs (asked place s r c) n ≡ Some (asked place s n (command_of p)) = act_from place s n (command_of p) (first_of xs s n) (sym (track n (omega arith)) ∙ ap (option_map command_of) f.1) in
    let there : asked_at (at_place place y) ≡ Some (asked place s n (command_of p)) = ap (λ (i : Item). asked_word place (under 2 i)) f.2 ∙ ap (asked_word place) (under-ranked s n p hs one hn) in
    let cut_same : (q : ℕ) → n + 1 ≤ q → held_of cut s q ≡ held_of m s q = (λ q l. let ne : q ≢ n = (λ z. absurd (omega arith)) in held_del_other m s n s q hs hs hn (inr ne)) in
    let ih = freed_acts place s r c hs xs cut mid (n + 1) fs (omega arith) f.3 (λ q l. ap (option_map command_of) (cut_same q l) ∙ track q (omega arith)) in
    ap (λ o. cons_option o (filter_map (act_at xs (asked place s r c)) (numbers (n + 1) (length fs)))) here
    ∙ ap (λ l. asked place s n (command_of p) ∷ l) ih
    ∙ sym (ap (λ o. cons_option o (asked_of (map (at_place place) fs))) there)

none_act : (before : List Asked) (x : Asked) (g : ℕ) → gap_from before x.session 1 ≡ g → gap_from (before ++ x ∷ []) x.session 1 ≡ g → acts_of ones before x ≡ []
none_act before x g from to =
    let same : gap_from (before ++ x ∷ []) x.session 1 - gap_from before x.session 1 ≡ 0 = omega arith in
    ap (λ n. filter_map (act_at (before ++ x ∷ []) x) (numbers (gap_from before x.session 1) n)) same

some_act : (before : List Asked) (x : Asked) (n : ℕ) (rest : List Asked) → gap_from before x.session 1 ≡ x.rank → gap_from (before ++ x ∷ []) x.session 1 ≡ x.rank + 1 + n
    → act_at (before ++ x ∷ []) x x.rank ≡ Some x → filter_map (act_at (before ++ x ∷ []) x) (numbers (x.rank + 1) n) ≡ rest → acts_of ones before x ≡ x ∷ rest
some_act before x n rest from to own others =
    let xs = before ++ x ∷ [] in
    let long : gap_from xs x.session 1 - gap_from before x.session 1 ≡ suc n = omega arith in
    ap (λ k. filter_map (act_at xs x) (numbers (gap_from before x.session 1) k)) long
    ∙ ap (λ g. filter_map (act_at xs x) (numbers g (suc n))) from
    ∙ ap (λ o. cons_option o (filter_map (act_at xs x) (numbers (x.rank + 1) n))) own
    ∙ ap (λ l. x ∷ l) others

-- The keys of waiting ranks

put_was : (m : SpaceMap) (k q : ℕ × Text) (v w : Text) → finmap.get (finmap.insert m k v) q ≡ Some w → (q ≡ k) ⊎ (finmap.get m q ≡ Some w)
put_was m k q v w e =
    elim (eq_by_cmp space_cmp q k) as (λ b. eq_by_cmp space_cmp q k ≡ b → cond b (Some v) (finmap.get m q) ≡ Some w → (q ≡ k) ⊎ (finmap.get m q ≡ Some w)) [
      | true ↦ λ t f. inl (space_exact q k (equal_is _ t))
      | false ↦ λ t f. inr f
    ] refl (sym (get-insert space_total m k v q) ∙ e)

pub holds_put_low : (m : SpaceMap) (k0 v0 : Text) → is_lt (text_cmp k0 (4 ∷ [])) ≡ true → HoldsRanks m → HoldsRanks (finmap.insert m (2, k0) v0)
holds_put_low m k0 v0 low h = record {
  key = λ k v high e. elim (put_was m (2, k0) (2, k) v0 v e) [
    | inl same ↦ let here : k ≡ k0 = ap (λ (p : ℕ × Text). p.1) same in let off : false ≡ true = sym high ∙ ap (λ l. is_lt (text_cmp l (4 ∷ []))) here ∙ low in absurd (cc)
    | inr there ↦ h.key k v high there
  ];
}

holds_put_held : (m : SpaceMap) (s r : ℕ) (p : Text) → s ≤ 63 → r < 2 ^ 64 → HoldsRanks m → HoldsRanks (finmap.insert m (2, held_key s r) p)
holds_put_held m s r p hs hr h = record {
  key = λ k v high e. elim (put_was m (2, held_key s r) (2, k) p v e) [
    | inl same ↦ (s, r, hs, hr, ap (λ (p : ℕ × Text). p.1) same)
    | inr there ↦ h.key k v high there
  ];
}

holds_fewer : (m m' : SpaceMap) → ((k v : Text) → finmap.get m' (2, k) ≡ Some v → finmap.get m (2, k) ≡ Some v) → HoldsRanks m → HoldsRanks m'
holds_fewer m m' fewer h = record { key = λ k v high e. h.key k v high (fewer k v e) }

-- The sessions

pub tracks_same : (before after : List Asked) (m m' : SpaceMap) (t : ℕ) → gap_from after t 1 ≡ gap_from before t 1 → ((q : ℕ) → last_of m t + 1 < q → first_of after t q ≡ first_of before t q) → last_of m' t ≡ last_of m t → ((q : ℕ) → held_of m' t q ≡ held_of m t q)
    → TracksAt before m t → TracksAt after m' t
tracks_same before after m m' t same_gap same_first same_last same_held h = record {
  gap = same_gap ∙ h.gap ∙ ap (λ n. n + 1) (sym same_last);
  held = λ q far. let far_m : last_of m t + 1 < q = omega (arith, same_last) in ap (option_map command_of) (same_held q) ∙ h.held q far_m ∙ ap commands (sym (same_first q far_m));
  none = λ q near. same_held q ∙ h.none q (omega (arith, same_last));
}

-- what one rank does
pub record Linked (before : List Asked) (x : Asked) (m : SpaceMap) (outs : List Asked) (m' : SpaceMap) : Type 0 where
  pub acts : acts_of ones before x ≡ outs
  pub tracks : Tracks (before ++ x ∷ []) m'
  pub low : (b : ℕ) (k : Text) → b ≢ 1 → b ≢ 4 → finmap.get m' (2, b ∷ k) ≡ finmap.get m (2, b ∷ k)
  pub kinds : (a : ℕ) (k : Text) → a ≢ 2 → finmap.get m' (a, k) ≡ finmap.get m (a, k)

-- sessions that don't appear are as before
others_track : (before : List Asked) (x : Asked) (m m' : SpaceMap) (t : ℕ) → t ≢ x.session → last_of m' t ≡ last_of m t → ((q : ℕ) → held_of m' t q ≡ held_of m t q) → TracksAt before m t → TracksAt (before ++ x ∷ []) m' t
others_track before x m m' t ne same_last same_held h =
    let away : x.session ≢ t = (λ e. ne (sym e)) in
    tracks_same before (before ++ x ∷ []) m m' t (gap_stays before x t (last_of m t + 1) h.gap (λ q e. first_of-other_session before x t q away) ∙ sym h.gap) (λ q far. first_of-other_session before x t q away) same_last same_held h

known_push : (before : List Asked) (x : Asked) → x.session ≤ 63 → KnownSessions before → KnownSessions (before ++ x ∷ [])
known_push [] x low h = (low, tt)
known_push (y ∷ ys) x low h = (h.0, known_push ys x low h.1)

-- an earlier rank does nothing
pub early_linked : (before : List Asked) (m : SpaceMap) (place : Place) (s r : ℕ) (c : Option Command) → s ≤ 63 → r ≤ last_of m s → Tracks before m → Linked before (asked place s r c) m [] m
early_linked before m place s r c hs le t =
    let x = asked place s r c in
    let own = t.sessions s hs in
    let away : (q : ℕ) → last_of m s + 1 ≤ q → first_of (before ++ x ∷ []) s q ≡ first_of before s q = (λ q far. first_of-other_rank before x s q (λ e. absurd (omega arith))) in
    let gap = gap_stays before x s (last_of m s + 1) own.gap (λ q e. away q (omega arith)) in
    record {
      acts = none_act before x (last_of m s + 1) own.gap gap;
      tracks = record {
        sessions = λ q hq. elim (same_or_not q s) [
          | inl e ↦ subst (λ z. TracksAt (before ++ x ∷ []) m z) (sym e) (tracks_same before (before ++ x ∷ []) m m s (gap ∙ sym own.gap) (λ k far. away k (omega arith)) refl (λ k. refl) own)
          | inr ne ↦ others_track before x m m q ne refl (λ k. refl) (t.sessions q hq)
        ];
        waiting = t.waiting;
        known = known_push before x hs t.known;
      };
      low = λ b k n1 n4. refl;
      kinds = λ a k ne. refl;
    }

-- a later rank waits

waits_last : (m : SpaceMap) (s r t : ℕ) (p : Text) (o : Option Text) → last_of (waits m s r p o) t ≡ last_of m t
waits_last m s r t p None = ap number_at (get_put_other m _ _ p (other_key 2 2 _ _ (other_head 1 4 _ _ (λ e. absurd (omega arith)))))
waits_last m s r t p (Some b) = refl

waits_other : (m : SpaceMap) (s r t q : ℕ) (p : Text) (o : Option Text) → s ≤ 63 → t ≤ 63 → r < 2 ^ 64 → Apart s r t q → held_of (waits m s r p o) t q ≡ held_of m t q
waits_other m s r t q p None hs ht hr ne = held_put_other m s r t q p hs ht hr ne
waits_other m s r t q p (Some b) hs ht hr ne = refl

waits_own : (m : SpaceMap) (s r : ℕ) (p : Text) (o : Option Text) → r < 2 ^ 64 → held_of m s r ≡ o → held_of (waits m s r p o) s r ≡ option_or o (Some p)
waits_own m s r p None hr e = held_of_fits _ s r hr ∙ get_put_same m _ p
waits_own m s r p (Some b) hr e = e

waits_low : (m : SpaceMap) (s r : ℕ) (p : Text) (o : Option Text) (b : ℕ) (k : Text) → b ≢ 4 → finmap.get (waits m s r p o) (2, b ∷ k) ≡ finmap.get m (2, b ∷ k)
waits_low m s r p None b k ne = get_put_other m _ _ p (other_key 2 2 _ _ (other_head b 4 _ _ ne))
waits_low m s r p (Some e) b k ne = refl

waits_kinds : (m : SpaceMap) (s r : ℕ) (p : Text) (o : Option Text) (a : ℕ) (k : Text) → a ≢ 2 → finmap.get (waits m s r p o) (a, k) ≡ finmap.get m (a, k)
waits_kinds m s r p None a k ne = get_put_other m _ _ p (other_kind a 2 _ _ ne)
waits_kinds m s r p (Some e) a k ne = refl

waits_holds : (m : SpaceMap) (s r : ℕ) (p : Text) (o : Option Text) → s ≤ 63 → r < 2 ^ 64 → HoldsRanks m → HoldsRanks (waits m s r p o)
waits_holds m s r p None hs hr h = holds_put_held m s r p hs hr h
waits_holds m s r p (Some e) hs hr h = h

or_track : (p : Text) (x : Asked) (o : Option Text) (f : Option Asked) → x.command ≡ command_of p → option_map command_of o ≡ commands f → option_map command_of (option_or o (Some p)) ≡ commands (option_or f (Some x))
or_track p x None None is e = ap Some (sym is)
or_track p x None (Some f) is e = absurd (cc)
or_track p x (Some o) None is e = absurd (cc)
or_track p x (Some o) (Some f) is e = e

pub later_linked : (before : List Asked) (m : SpaceMap) (place : Place) (s r : ℕ) (p : Text) → s ≤ 63 → r < 2 ^ 64 → last_of m s + 1 < r → Tracks before m → Linked before (asked place s r (command_of p)) m [] (waits m s r p (held_of m s r))
later_linked before m place s r p hs hr lt t =
    let x = asked place s r (command_of p) in
    let o = held_of m s r in
    let m' = waits m s r p o in
    let own = t.sessions s hs in
    let away : (q : ℕ) → q ≢ r → first_of (before ++ x ∷ []) s q ≡ first_of before s q = (λ q ne. first_of-other_rank before x s q (λ e. ne (sym e))) in
    let gap = gap_stays before x s (last_of m s + 1) own.gap (λ q e. away q (λ z. absurd (omega arith))) in
    let mine : TracksAt (before ++ x ∷ []) m' s = record {
      gap = gap ∙ ap (λ n. n + 1) (sym (waits_last m s r s p o));
      held = λ q far. let beyond : last_of m s + 1 < q = omega (arith, waits_last m s r s p o) in elim (same_or_not q r) [
        | inl e ↦ subst (λ z. option_map command_of (held_of m' s z) ≡ commands (first_of (before ++ x ∷ []) s z)) (sym e)
            (ap (option_map command_of) (waits_own m s r p o hr refl) ∙ or_track p x o (first_of before s r) refl (own.held r lt) ∙ sym (ap commands (first_of-own before x s r refl refl)))
        | inr ne ↦ ap (option_map command_of) (waits_other m s r s q p o hs hs hr (inr ne)) ∙ own.held q beyond ∙ ap commands (sym (away q ne))
      ];
      none = λ q near. let below : q ≤ last_of m s + 1 = omega (arith, waits_last m s r s p o) in let ne : q ≢ r = (λ z. absurd (omega arith)) in waits_other m s r s q p o hs hs hr (inr ne) ∙ own.none q below;
    } in
    record {
      acts = none_act before x (last_of m s + 1) own.gap gap;
      tracks = record {
        sessions = λ q hq. elim (same_or_not q s) [
          | inl e ↦ subst (λ z. TracksAt (before ++ x ∷ []) m' z) (sym e) mine
          | inr ne ↦ others_track before x m m' q ne (waits_last m s r q p o) (λ k. waits_other m s r q k p o hs hq hr (inl ne)) (t.sessions q hq)
        ];
        waiting = waits_holds m s r p o hs hr t.waiting;
        known = known_push before x hs t.known;
      };
      low = λ b k n1 n4. waits_low m s r p o b k n4;
      kinds = λ a k ne. waits_kinds m s r p o a k ne;
    }

-- the next rank acts, and those that waited for it

found_first : (o : Option Text) (f : Option Asked) → option_map command_of o ≡ commands f → is_some o ≡ true → is_some f ≡ true
found_first None f e h = absurd (cc)
found_first (Some p) None e h = absurd (cc)
found_first (Some p) (Some f) e h = refl

no_first : (o : Option Text) (f : Option Asked) → option_map command_of o ≡ commands f → o ≡ None → is_some f ≡ false
no_first o None e h = refl
no_first o (Some f) e h = let off : None ≡ Some f.command = ap (option_map command_of) (sym h) ∙ e in absurd (cc)

own_act : (before : List Asked) (x : Asked) → is_some (first_of before x.session x.rank) ≡ false → act_at (before ++ x ∷ []) x x.rank ≡ Some x
own_act before x gone =
    ap (option_map (λ (f : Asked). asked x.place x.session x.rank f.command)) (first_of-own before x x.session x.rank refl refl ∙ ap (λ o. option_or o (Some x)) (none_is _ gone))

pub next_linked : (before : List Asked) (m mid : SpaceMap) (place : Place) (s r : ℕ) (c : Option Command) (fs : List Item) → s ≤ 63 → r < 2 ^ 64 → r ≡ last_of m s + 1 → Frees m s (r + 1) fs mid → Tracks before m
    → Linked before (asked place s r c) m (asked place s r c ∷ asked_of (map (at_place place) fs)) (finmap.insert mid (2, last_key s) (u64_bytes (r + length fs)))
next_linked before m mid place s r c fs hs hr is frees t =
    let x = asked place s r c in
    let xs = before ++ x ∷ [] in
    let text = u64_bytes (r + length fs) in
    let m' = finmap.insert mid (2, last_key s) text in
    let own = t.sessions s hs in
    let f = freed s hs m mid (r + 1) fs frees in
    let small : r + length fs < 2 ^ 64 = let b = f.fits (omega arith) in omega arith in
    let from : gap_from before s 1 ≡ r = own.gap ∙ sym is in
    let away : (q : ℕ) → q ≢ r → first_of xs s q ≡ first_of before s q = (λ q ne. first_of-other_rank before x s q (λ e. ne (sym e))) in
    let gone : is_some (first_of before s r) ≡ false = absent before s r from in
    let behind : (q : ℕ) → r + 1 ≤ q → option_map command_of (held_of m s q) ≡ commands (first_of xs s q) = (λ q l. let ne : q ≢ r = (λ z. absurd (omega arith)) in own.held q (omega arith) ∙ ap commands (sym (away q ne))) in
    let there : is_some (first_of xs s r) ≡ true = ap is_some (first_of-own before x s r refl refl ∙ ap (λ o. option_or o (Some x)) (none_is _ gone)) in
    let run : (q : ℕ) → 1 ≤ q → q < r + 1 + length fs → is_some (first_of xs s q) ≡ true = (λ q low high. elim (cases_lt q r) [
      | inl below ↦ still before x s q (appears before s r q from low below)
      | inr above ↦ elim (same_or_not q r) [
        | inl e ↦ subst (λ z. is_some (first_of xs s z) ≡ true) (sym e) there
        | inr ne ↦ found_first (held_of m s q) (first_of xs s q) (behind q (omega arith)) (f.found q (omega arith) high)
      ]
    ]) in
    let to : gap_from xs s 1 ≡ r + 1 + length fs = gap_from-is xs s 1 (r + 1 + length fs) (omega arith) run (no_first (held_of m s (r + 1 + length fs)) _ (behind (r + 1 + length fs) (omega arith)) (f.ends _ refl)) in
    let last : last_of m' s ≡ r + length fs = ap number_at (get_put_same mid (2, last_key s) text) ∙ number_text (r + length fs) small in
    let put : (t q : ℕ) → held_of m' t q ≡ held_of mid t q = (λ t q. held_put_low mid 1 _ text t q (λ e. absurd (omega arith))) in
    let mine : TracksAt xs m' s = record {
      gap = to ∙ (let same : r + 1 + length fs ≡ last_of m' s + 1 = omega arith in same);
      held = λ q far. ap (option_map command_of) (put s q ∙ f.stays s q hs (inr (inr (omega arith)))) ∙ behind q (omega arith);
      none = λ q near. put s q ∙ elim (cases_lt q (r + 1)) [
        | inl below ↦ f.stays s q hs (inr (inl below)) ∙ own.none q (omega arith)
        | inr above ↦ elim (cases_lt q (r + 1 + length fs)) [
          | inl inside ↦ f.gone q above inside
          | inr at ↦ f.stays s q hs (inr (inr at)) ∙ f.ends q (omega arith)
        ]
      ];
    } in
    record {
      acts = some_act before x (length fs) (asked_of (map (at_place place) fs)) from to (own_act before x gone) (freed_acts place s r c hs xs m mid (r + 1) fs (omega arith) frees behind);
      tracks = record {
        sessions = λ q hq. elim (same_or_not q s) [
          | inl e ↦ subst (λ z. TracksAt xs m' z) (sym e) mine
          | inr ne ↦ others_track before x m m' q ne
              (ap number_at (get_put_other mid _ _ text (other_key 2 2 _ _ (λ e. ne (last_keys q s hq hs e))) ∙ f.others 1 _ (λ e. absurd (omega arith))))
              (λ k. put q k ∙ f.stays q k hq (inl ne)) (t.sessions q hq)
        ];
        waiting = holds_put_low mid (last_key s) text refl (holds_fewer m mid f.fewer t.waiting);
        known = known_push before x hs t.known;
      };
      low = λ b k n1 n4. get_put_other mid _ _ text (other_key 2 2 _ _ (other_head b 1 _ _ n1)) ∙ f.others b k n4;
      kinds = λ a k ne. get_put_other mid _ _ text (other_kind a 2 _ _ ne) ∙ f.kinds a k ne;
    }
