-- The session engine takes items in order: what goes on is what session order says.
use Rattle.std.proofs.Common.{◌≡◌, ◌≢◌, refl, sym, ap, subst, ◌∙◌, ℕ, ◌+◌, ◌≤◌, ◌⊎◌, Bool, true, false, cond, List, [], ◌∷◌, ◌++◌, Option, Some, None, arith, inl, inr, not, append_assoc, append-nil}
use Rattle.std.specs.Prelude.{◌==◌, ◌&&◌, filter_map, map}
use Rattle.std.specs.List.{cons_option}
use Rattle.std.proofs.lemmas.Bool.{cases_lt}
use Rattle.std.proofs.lemmas.List.Elements.{filter_map-append}
use Rattle.std.specs.FinMap as finmap
use Rattle.delos_types.specs.Numbers.{u64_bytes}
use Rattle.delos_types.specs.Spaces.{SpaceMap, Text}
use Rattle.delos_types.specs.declared.item.Item.{Item}
use Rattle.delos_types.specs.declared.place.Place.{Place}
use Rattle.table_core.specs.Reading.{command_of}
use Rattle.table_core.specs.declared.command.Command.{Command}
use Rattle.engine_api.specs.declared.content.Content.{Content}
use Rattle.engine_api.specs.declared.content.Content.TheVariants.{Session, Alive, Leave, Trim}
use Rattle.engine_api.specs.Acted.{Asked}
use Rattle.engine_api.specs.Order.{acts_of, acted_after}
use Rattle.engine_api.proofs.Appends.{acted_after-append}
use Rattle.engine_steps.specs.declared.engine.Up.{Up}
use Rattle.engine_steps.specs.declared.engine.Up.TheVariants.{Stop}
use Rattle.engine_steps.specs.Layout.{last_of, held_key, number_at, clean_key, is_holding}
use Rattle.engine_steps.specs.Steps.{Frees, Passes, RankStep, SessionAt, SessionUp, opening}
use Rattle.engine_steps.specs.Words.{under}
use Rattle.log_laws.specs.Rises.{Level, passed, answered, at_place, placed_items}
use Rattle.log_laws.specs.declared.rising.Rising.{Rising}
use Rattle.log_laws.specs.declared.rising.Told.{Told}
use Rattle.log_laws.specs.State.{Tracks}
use Rattle.log_laws.proofs.Keys.{get_put_other, other_kind, other_key, other_head}
use Rattle.log_laws.proofs.Words.{one_kind, under_session}
use Rattle.log_laws.proofs.Lists.{asked_word, asked_at, asked_of, view_word_of, view_words, trim_word_of, trim_words}
use Rattle.log_laws.proofs.Firsts.{is_not}
use Rattle.log_laws.proofs.Freed.{held_put_low}
use Rattle.log_laws.proofs.Ranks.{ones, asked, Linked, early_linked, later_linked, next_linked, holds_put_low, tracks_same}

-- a change of the space by the session engine, of which the other engines and the slots of replies see nothing
pub record Keeps (m m' : SpaceMap) : Type 0 where
  pub slots : (k : Text) → finmap.get m' (2, 2 ∷ k) ≡ finmap.get m (2, 2 ∷ k)
  pub kinds : (a : ℕ) (k : Text) → a ≢ 2 → finmap.get m' (a, k) ≡ finmap.get m (a, k)

keeps_none : (m : SpaceMap) → Keeps m m
keeps_none m = record { slots = λ k. refl; kinds = λ a k ne. refl }

keeps_both : (m mid m' : SpaceMap) → Keeps m mid → Keeps mid m' → Keeps m m'
keeps_both m mid m' a b = record { slots = λ k. b.slots k ∙ a.slots k; kinds = λ i k ne. b.kinds i k ne ∙ a.kinds i k ne }

-- what one item does
record ItemLinked (before : List Asked) (x : Rising) (m : SpaceMap) (up : Up) (m' : SpaceMap) : Type 0 where
  acts : acted_after ones before (asked_of (x ∷ [])) ≡ asked_of (passed x up)
  tracks : Tracks (before ++ asked_of (x ∷ [])) m'
  views : view_words (passed x up) ≡ view_words (x ∷ [])
  trims : trim_words (passed x up) ≡ trim_words (x ∷ [])
  silent : answered x up ≡ []
  keeps : Keeps m m'
  clean : finmap.get m' (2, clean_key) ≡ finmap.get (opening m x.place) (2, clean_key)

-- the first item of an entry notes the clean position

put_clean : (before : List Asked) (m : SpaceMap) (text : Text) → Tracks before m → Tracks before (finmap.insert m (2, clean_key) text)
put_clean before m text t = record {
  sessions = λ s hs. tracks_same before before m (finmap.insert m (2, clean_key) text) s refl (λ q far. refl)
      (ap number_at (get_put_other m _ _ text (other_key 2 2 _ _ (other_head 1 3 _ _ (λ e. absurd (omega arith))))))
      (λ q. held_put_low m 3 [] text s q (λ e. absurd (omega arith))) (t.sessions s hs);
  waiting = holds_put_low m clean_key text refl t.waiting;
  known = t.known;
}

keeps_clean : (m : SpaceMap) (text : Text) → Keeps m (finmap.insert m (2, clean_key) text)
keeps_clean m text = record {
  slots = λ k. get_put_other m _ _ text (other_key 2 2 _ _ (other_head 2 3 _ _ (λ e. absurd (omega arith))));
  kinds = λ a k ne. get_put_other m _ _ text (other_kind a 2 _ _ ne);
}

opened_tracks : (before : List Asked) (m : SpaceMap) (text : Text) (b : Bool) → Tracks before m → Tracks before (cond b (finmap.insert m (2, clean_key) text) m)
opened_tracks before m text true t = put_clean before m text t
opened_tracks before m text false t = t

opened_keeps : (m : SpaceMap) (text : Text) (b : Bool) → Keeps m (cond b (finmap.insert m (2, clean_key) text) m)
opened_keeps m text true = keeps_clean m text
opened_keeps m text false = keeps_none m

opening_tracks : (before : List Asked) (m : SpaceMap) (place : Place) → Tracks before m → Tracks before (opening m place)
opening_tracks before m place t = opened_tracks before m (u64_bytes place.pos) ((place.sub == 0) && not (is_holding m)) t

opening_keeps : (m : SpaceMap) (place : Place) → Keeps m (opening m place)
opening_keeps m place = opened_keeps m (u64_bytes place.pos) ((place.sub == 0) && not (is_holding m))

-- no word is lost among the freed ranks

freed_views : (place : Place) (s n : ℕ) (m mid : SpaceMap) (fs : List Item) → Frees m s n fs mid → view_words (map (at_place place) fs) ≡ []
freed_views place s n m mid [] f = refl
freed_views place s n m mid (y ∷ fs) f =
    ap (λ (i : Item). cons_option (under 3 i) (view_words (map (at_place place) fs))) f.2 ∙ freed_views place s (n + 1) (finmap.remove m (2, held_key s n)) mid fs f.3

freed_trims : (place : Place) (s n : ℕ) (m mid : SpaceMap) (fs : List Item) → Frees m s n fs mid → trim_words (map (at_place place) fs) ≡ []
freed_trims place s n m mid [] f = refl
freed_trims place s n m mid (y ∷ fs) f =
    ap (λ (i : Item). cons_option (under 4 i) (trim_words (map (at_place place) fs))) f.2 ∙ freed_trims place s (n + 1) (finmap.remove m (2, held_key s n)) mid fs f.3

-- an item that passes
passes_linked : (before : List Asked) (x : Rising) (m : SpaceMap) (up : Up) (m' : SpaceMap) → Tracks before m → asked_at x ≡ None → Passes (opening m x.place) up m' → ItemLinked before x m up m'
passes_linked before x m up m' t quiet p =
    let nothing : asked_of (x ∷ []) ≡ [] = ap (λ o. cons_option o []) quiet in
    let on : passed x up ≡ x ∷ [] = ap (passed x) p.0 in
    record {
      acts = ap (acted_after ones before) nothing ∙ sym (ap asked_of on ∙ nothing);
      tracks = subst (λ z. Tracks (before ++ asked_of (x ∷ [])) z) (sym p.1)
          (subst (λ l. Tracks l (opening m x.place)) (sym (ap (λ l. before ++ l) nothing ∙ append-nil before)) (opening_tracks before m x.place t));
      views = ap view_words on;
      trims = ap trim_words on;
      silent = ap (answered x) p.0;
      keeps = subst (λ z. Keeps m z) (sym p.1) (opening_keeps m x.place);
      clean = ap (λ (z : SpaceMap). finmap.get z (2, clean_key)) p.1;
    }

-- a rank, whose outcome is known
rank_linked : (before : List Asked) (x : Rising) (m : SpaceMap) (s r : ℕ) (c : Option Command) (up : Up) (m' : SpaceMap) (outs : List Asked) → under 2 x.item ≡ Some (Session s r c)
    → Linked before (asked x.place s r c) (opening m x.place) outs m' → asked_of (passed x up) ≡ outs → view_words (passed x up) ≡ [] → trim_words (passed x up) ≡ [] → answered x up ≡ [] → ItemLinked before x m up m'
rank_linked before x m s r c up m' outs word l gives views trims silent =
    let one : asked_of (x ∷ []) ≡ asked x.place s r c ∷ [] = ap (λ o. cons_option (asked_word x.place o) []) word in
    record {
      acts = ap (acted_after ones before) one ∙ append-nil (acts_of ones before (asked x.place s r c)) ∙ l.acts ∙ sym gives;
      tracks = subst (λ k. Tracks (before ++ k) m') (sym one) l.tracks;
      views = views ∙ sym (ap (λ o. cons_option o []) (one_kind 2 3 x.item (Session s r c) (λ e. absurd (omega arith)) word));
      trims = trims ∙ sym (ap (λ o. cons_option o []) (one_kind 2 4 x.item (Session s r c) (λ e. absurd (omega arith)) word));
      silent = silent;
      keeps = keeps_both m (opening m x.place) m' (opening_keeps m x.place) (record { slots = λ k. l.low 2 k (λ e. absurd (omega arith)) (λ e. absurd (omega arith)); kinds = l.kinds });
      clean = l.low 3 [] (λ e. absurd (omega arith)) (λ e. absurd (omega arith));
    }

stop_linked : (before : List Asked) (x : Rising) (m : SpaceMap) (s r : ℕ) (c : Option Command) (up : Up) (m' : SpaceMap) → under 2 x.item ≡ Some (Session s r c)
    → Linked before (asked x.place s r c) (opening m x.place) [] m' → up ≡ Stop → ItemLinked before x m up m'
stop_linked before x m s r c up m' word l is =
    rank_linked before x m s r c up m' [] word l (ap (λ u. asked_of (passed x u)) is) (ap (λ u. view_words (passed x u)) is) (ap (λ u. trim_words (passed x u)) is) (ap (answered x) is)

ranks_linked : (before : List Asked) (x : Rising) (m : SpaceMap) (s r : ℕ) (c : Option Command) (up : Up) (m' : SpaceMap) → Tracks before m → under 2 x.item ≡ Some (Session s r c) → c ≡ command_of x.item.payload → RankStep (opening m x.place) s r x.item.payload up m' → ItemLinked before x m up m'
ranks_linked before x m s r c up m' t word is step =
    let now = opening m x.place in
    let tracked = opening_tracks before m x.place t in
    elim (cases_lt (last_of now s) r) [
      | inr le ↦
          let e = step.early le in
          stop_linked before x m s r c up m' word (subst (λ z. Linked before (asked x.place s r c) now [] z) (sym e.1) (early_linked before now x.place s r c step.known_session le tracked)) e.0
      | inl lt ↦ elim (cases_lt (last_of now s + 1) r) [
        | inl far ↦
            let e = step.later far in
            stop_linked before x m s r c up m' word
            (subst (λ d. Linked before (asked x.place s r d) now [] m') (sym is)
            (subst (λ z. Linked before (asked x.place s r (command_of x.item.payload)) now [] z) (sym e.1) (later_linked before now x.place s r x.item.payload step.known_session step.known_rank far tracked))) e.0
        | inr near ↦
            let a = step.next (omega arith) in
            let on : passed x up ≡ x ∷ map (at_place x.place) a.freed = ap (passed x) a.goes_on in
            rank_linked before x m s r c up m' (asked x.place s r c ∷ asked_of (map (at_place x.place) a.freed)) word
            (subst (λ z. Linked before (asked x.place s r c) now (asked x.place s r c ∷ asked_of (map (at_place x.place) a.freed)) z) (sym a.last)
            (next_linked before now a.mid x.place s r c a.freed step.known_session step.known_rank (omega arith) a.frees tracked))
            (ap asked_of on ∙ ap (λ o. cons_option (asked_word x.place o) (asked_of (map (at_place x.place) a.freed))) word)
            (ap view_words on ∙ ap (λ o. cons_option o (view_words (map (at_place x.place) a.freed))) (one_kind 2 3 x.item (Session s r c) (λ e. absurd (omega arith)) word) ∙ freed_views x.place s (r + 1) now a.mid a.freed a.frees)
            (ap trim_words on ∙ ap (λ o. cons_option o (trim_words (map (at_place x.place) a.freed))) (one_kind 2 4 x.item (Session s r c) (λ e. absurd (omega arith)) word) ∙ freed_trims x.place s (r + 1) now a.mid a.freed a.frees)
            (ap (answered x) a.goes_on)
      ]
    ]

word_linked : (before : List Asked) (x : Rising) (m : SpaceMap) (up : Up) (m' : SpaceMap) (w : Option Content) → under 2 x.item ≡ w → SessionAt (opening m x.place) x.item.payload w up m' → Tracks before m → ItemLinked before x m up m'
word_linked before x m up m' None is step t = passes_linked before x m up m' t (ap (asked_word x.place) is) step
word_linked before x m up m' (Some (Session s r c)) is step t = ranks_linked before x m s r c up m' t is (under_session x.item (Session s r c) is).0 step
word_linked before x m up m' (Some (Alive n z)) is step t = passes_linked before x m up m' t (ap (asked_word x.place) is) step
word_linked before x m up m' (Some (Leave n)) is step t = passes_linked before x m up m' t (ap (asked_word x.place) is) step
word_linked before x m up m' (Some (Trim z)) is step t = passes_linked before x m up m' t (ap (asked_word x.place) is) step

item_linked : (before : List Asked) (x : Rising) (m : SpaceMap) (up : Up) (m' : SpaceMap) → SessionUp m x.place x.item up m' → Tracks before m → ItemLinked before x m up m'
item_linked before x m up m' step t = word_linked before x m up m' (under 2 x.item) refl step t

-- what all the items of a level do
pub record SessionLevel (before : List Asked) (m : SpaceMap) (ins outs : List Rising) (told : List Told) (m' : SpaceMap) : Type 0 where
  pub acts : asked_of outs ≡ acted_after ones before (asked_of ins)
  pub tracks : Tracks (before ++ asked_of ins) m'
  pub views : view_words outs ≡ view_words ins
  pub trims : trim_words outs ≡ trim_words ins
  pub silent : told ≡ []
  pub keeps : Keeps m m'

pub front : {A B : Type 0} (f : A → Option B) (x : A) (xs : List A) → filter_map f (x ∷ xs) ≡ filter_map f (x ∷ []) ++ filter_map f xs
front f x xs = filter_map-append f (x ∷ []) xs

pub session_level : (before : List Asked) (m m' : SpaceMap) (ins outs : List Rising) (told : List Told) → Level 2 m ins outs told m' → Tracks before m → SessionLevel before m ins outs told m'
session_level before m m' [] outs told l t = record {
  acts = ap asked_of l.0;
  tracks = subst (λ z. Tracks (before ++ []) z) (sym l.2) (subst (λ k. Tracks k m) (sym (append-nil before)) t);
  views = ap view_words l.0;
  trims = ap trim_words l.0;
  silent = l.1;
  keeps = subst (λ z. Keeps m z) (sym l.2) (keeps_none m);
}
session_level before m m' (x ∷ xs) outs told l t =
    let one = asked_of (x ∷ []) in
    let here = item_linked before x m l.0 l.1 (l.4.session refl) t in
    let ih = session_level (before ++ one) l.1 m' xs l.2 l.3 l.5 here.tracks in
    record {
      acts = ap asked_of l.6 ∙ filter_map-append asked_at (passed x l.0) l.2 ∙ ap (λ k. k ++ asked_of l.2) (sym here.acts) ∙ ap (λ k. acted_after ones before one ++ k) ih.acts
          ∙ sym (acted_after-append ones before one (asked_of xs)) ∙ ap (acted_after ones before) (sym (front asked_at x xs));
      tracks = subst (λ k. Tracks k m') (append_assoc before one (asked_of xs) ∙ ap (λ k. before ++ k) (sym (front asked_at x xs))) ih.tracks;
      views = ap view_words l.6 ∙ filter_map-append view_word_of (passed x l.0) l.2 ∙ ap (λ k. k ++ view_words l.2) here.views ∙ ap (λ k. view_words (x ∷ []) ++ k) ih.views ∙ sym (front view_word_of x xs);
      trims = ap trim_words l.6 ∙ filter_map-append trim_word_of (passed x l.0) l.2 ∙ ap (λ k. k ++ trim_words l.2) here.trims ∙ ap (λ k. trim_words (x ∷ []) ++ k) ih.trims ∙ sym (front trim_word_of x xs);
      silent = l.7 ∙ ap (λ k. k ++ l.3) here.silent ∙ ih.silent;
      keeps = keeps_both m l.1 m' here.keeps ih.keeps;
    }

-- The clean position that is noted

later_sub : (m : SpaceMap) (place : Place) → 1 ≤ place.sub → opening m place ≡ m
later_sub m place h = ap (λ b. cond (b && not (is_holding m)) (finmap.insert m (2, clean_key) (u64_bytes place.pos)) m) (not_first place.sub h)
  where
    not_first : (n : ℕ) → 1 ≤ n → (n == 0) ≡ false
    not_first n h = is_not n 0 (λ e. absurd (omega arith))

clean_later : (before : List Asked) (pos sub : ℕ) (items : List Item) (m m' : SpaceMap) (outs : List Rising) (told : List Told) → 1 ≤ sub → Level 2 m (placed_items pos sub items) outs told m' → Tracks before m → finmap.get m' (2, clean_key) ≡ finmap.get m (2, clean_key)
clean_later before pos sub [] m m' outs told h l t = ap (λ (z : SpaceMap). finmap.get z (2, clean_key)) l.2
clean_later before pos sub (i ∷ is) m m' outs told h l t =
    let x = at_place (record { pos = pos; sub = sub }) i in
    let here = item_linked before x m l.0 l.1 (l.4.session refl) t in
    clean_later (before ++ asked_of (x ∷ [])) pos (sub + 1) is l.1 m' l.2 l.3 (omega arith) l.5 here.tracks
    ∙ here.clean ∙ ap (λ (z : SpaceMap). finmap.get z (2, clean_key)) (later_sub m x.place h)

-- an entry without items notes nothing, and one with items what its first one finds
pub clean_noted : (before : List Asked) (pos : ℕ) (items : List Item) (m m' : SpaceMap) (outs : List Rising) (told : List Told) → Level 2 m (placed_items pos 0 items) outs told m' → Tracks before m
    → (m' ≡ m) ⊎ (finmap.get m' (2, clean_key) ≡ finmap.get (opening m (record { pos = pos; sub = 0 })) (2, clean_key))
clean_noted before pos [] m m' outs told l t = inl l.2
clean_noted before pos (i ∷ is) m m' outs told l t =
    let x = at_place (record { pos = pos; sub = 0 }) i in
    let here = item_linked before x m l.0 l.1 (l.4.session refl) t in
    inr (clean_later (before ++ asked_of (x ∷ [])) pos (0 + 1) is l.1 m' l.2 l.3 (omega arith) l.5 here.tracks ∙ here.clean)
