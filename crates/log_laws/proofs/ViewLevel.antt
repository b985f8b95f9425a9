-- The view engine takes items in order: who has left, and what the others reported.
use Rattle.std.proofs.Common.{◌≡◌, ◌≢◌, refl, sym, ap, subst, ◌∙◌, ℕ, ◌<◌, ◌≤◌, ◌^◌, Bool, true, false, cond, List, [], ◌∷◌, ◌++◌, Option, Some, None, arith, inl, inr, not, length, max}
use Rattle.std.specs.Prelude.{◌==◌, ◌&&◌, ◌||◌, nat_lt}
use Rattle.std.specs.List.{cons_option}
use Rattle.std.proofs.lemmas.Bool.Decides.{nat_tests}
use Rattle.std.proofs.lemmas.List.Elements.{filter_map-append}
use Rattle.std.specs.FinMap as finmap
use Rattle.delos_types.specs.Numbers.{u64_bytes}
use Rattle.delos_types.proofs.NumberLaws.{length-u64_bytes}
use Rattle.delos_types.specs.Spaces.{SpaceMap, Text}
use Rattle.engine_api.specs.declared.content.Content.{Content}
use Rattle.engine_api.specs.declared.content.Content.TheVariants.{Session, Alive, Leave, Trim}
use Rattle.engine_api.specs.Members.{greatest, is_leave_of, report_of}
use Rattle.engine_steps.specs.declared.engine.Up.{Up}
use Rattle.engine_steps.specs.declared.engine.Up.TheVariants.{Stop}
use Rattle.engine_steps.specs.Layout.{number_at, view_key, view_of, is_left, has_left_in, reported_of}
use Rattle.engine_steps.specs.Steps.{Passes, ViewAt}
use Rattle.engine_steps.specs.Words.{under}
use Rattle.log_laws.specs.Rises.{Level, passed, answered}
use Rattle.log_laws.specs.declared.rising.Rising.{Rising}
use Rattle.log_laws.specs.declared.rising.Told.{Told}
use Rattle.log_laws.specs.State.{Views}
use Rattle.log_laws.proofs.Keys.{get_put_same, get_put_other, other_kind, other_key}
use Rattle.log_laws.proofs.Words.{one_kind, not_number}
use Rattle.log_laws.proofs.Lists.{asked_word, asked_at, asked_of, view_words, trim_word_of, trim_words, leaves, reports_of}
use Rattle.log_laws.proofs.Freed.{number_text}
use Rattle.log_laws.proofs.Firsts.{same_or_not, is_same}

or_false : (b : Bool) → (b || false) ≡ b
or_false true = refl
or_false false = refl

or_assoc : (a b c : Bool) → ((a || b) || c) ≡ (a || (b || c))
or_assoc true b c = refl
or_assoc false b c = refl

or_true : (b : Bool) → (b || true) ≡ true
or_true true = refl
or_true false = refl

-- who has left, and what was reported, after these words
abbrev pub left_with : (ℕ → Bool) → List Content → ℕ → Bool
left_with left words node = left node || leaves node words

abbrev pub position_with : (ℕ → ℕ) → List Content → ℕ → ℕ
position_with position words node = max (position node) (greatest (reports_of node words))

-- one report
abbrev pub position_at : ℕ → ℕ → ℕ → ℕ
position_at n p node = greatest (cons_option (cond (n == node) (Some p) None) [])

other_position : (n p node : ℕ) → n ≢ node → position_at n p node ≡ 0
other_position n p node ne = ap (λ b. greatest (cons_option (cond b (Some p) None) [])) (not_number n node ne)

own_position : (n p node : ℕ) → n ≡ node → position_at n p node ≡ p
own_position n p node e = ap (λ b. greatest (cons_option (cond b (Some p) None) [])) (is_same n node e) ∙ (let same : max p 0 ≡ p = omega arith in same)

same_view : (m : SpaceMap) (n node : ℕ) (text : Text) → node ≢ n → view_of (finmap.insert m (3, view_key n) text) node ≡ view_of m node
same_view m n node text ne = get_put_other m _ _ text (other_key 3 3 _ _ (λ e. ne (ap head e)))
  where
    head : Text → ℕ
    head [] = 0
    head (b ∷ bs) = b

not_gone : (text : Text) → length text ≡ 8 → is_left (Some text) ≡ false
not_gone [] e = absurd (omega arith)
not_gone (b ∷ bs) e = refl

-- a report

report_views : (left : ℕ → Bool) (position : ℕ → ℕ) (m : SpaceMap) (n p : ℕ) → p < 2 ^ 64 → Views left position m → (stored : Option Text) → view_of m n ≡ stored → (b : Bool) → (not (is_left stored) && nat_lt (number_at stored) p) ≡ b
    → Views (left_with left (Alive n p ∷ [])) (position_with position (Alive n p ∷ [])) (cond b (finmap.insert m (3, view_key n) (u64_bytes p)) m)
report_views left position m n p small v stored is true counts =
    let text = u64_bytes p in
    let m' = finmap.insert m (3, view_key n) text in
    let here : view_of m' n ≡ Some text = get_put_same m _ text in
    let alive : is_left stored ≡ false = not_true _ (left_true _ _ counts) in
    let more : number_at stored < p = is_less _ _ (right_true _ _ counts) in
    record {
      gone = λ node. elim (same_or_not node n) [
        | inl e ↦ subst (λ z. has_left_in m' z ≡ (left z || false)) (sym e) (ap is_left here ∙ not_gone text (length-u64_bytes p) ∙ sym alive ∙ sym (ap is_left is) ∙ v.gone n ∙ sym (or_false (left n)))
        | inr ne ↦ ap is_left (same_view m n node text ne) ∙ v.gone node ∙ sym (or_false (left node))
      ];
      reported = λ node stays. let in_before : left node ≡ false = sym (or_false (left node)) ∙ stays in elim (same_or_not node n) [
        | inl e ↦
            let before : number_at stored ≡ position node = sym (ap number_at is) ∙ ap (reported_of m) (sym e) ∙ v.reported node in_before in
            let own : position_at n p node ≡ p = own_position n p node (sym e) in
            ap (reported_of m') e ∙ ap number_at here ∙ number_text p small ∙ (let most : p ≡ max (position node) (position_at n p node) = omega arith in most)
        | inr ne ↦
            let other : position_at n p node ≡ 0 = other_position n p node (λ e. ne (sym e)) in
            ap number_at (same_view m n node text ne) ∙ v.reported node in_before ∙ (let most : position node ≡ max (position node) (position_at n p node) = omega arith in most)
      ];
    }
  where
    left_true : (a b : Bool) → (a && b) ≡ true → a ≡ true
    left_true true b e = refl
    left_true false b e = e

    right_true : (a b : Bool) → (a && b) ≡ true → b ≡ true
    right_true true b e = e
    right_true false b e = absurd (cc)

    not_true : (b : Bool) → not b ≡ true → b ≡ false
    not_true true e = absurd (cc)
    not_true false e = refl

    is_less : (a b : ℕ) → nat_lt a b ≡ true → a < b
    is_less a b e = grind (arith, nat_tests)
report_views left position m n p small v stored is false counts = record {
  gone = λ node. v.gone node ∙ sym (or_false (left node));
  reported = λ node stays. let in_before : left node ≡ false = sym (or_false (left node)) ∙ stays in elim (same_or_not node n) [
    | inl e ↦
        let here : left n ≡ false = subst (λ z. left z ≡ false) e in_before in
        let alive : is_left stored ≡ false = sym (ap is_left is) ∙ v.gone n ∙ here in
        let less : p ≤ number_at stored = at_most _ _ (not_less _ _ alive counts) in
        let before : number_at stored ≡ position node = sym (ap number_at is) ∙ ap (reported_of m) (sym e) ∙ v.reported node in_before in
        let own : position_at n p node ≡ p = own_position n p node (sym e) in
        v.reported node in_before ∙ (let most : position node ≡ max (position node) (position_at n p node) = omega arith in most)
    | inr ne ↦
        let other : position_at n p node ≡ 0 = other_position n p node (λ e. ne (sym e)) in
        v.reported node in_before ∙ (let most : position node ≡ max (position node) (position_at n p node) = omega arith in most)
  ];
}
  where
    not_less : (a b : Bool) → a ≡ false → (not a && b) ≡ false → b ≡ false
    not_less true b e f = absurd (cc)
    not_less false b e f = f

    at_most : (a b : ℕ) → nat_lt a b ≡ false → b ≤ a
    at_most a b e = grind (arith, nat_tests)

-- a leave
leave_views : (left : ℕ → Bool) (position : ℕ → ℕ) (m : SpaceMap) (n : ℕ) → Views left position m → Views (left_with left (Leave n ∷ [])) (position_with position (Leave n ∷ [])) (finmap.insert m (3, view_key n) [])
leave_views left position m n v =
    let m' = finmap.insert m (3, view_key n) [] in
    record {
      gone = λ node. elim (same_or_not node n) [
        | inl e ↦ ap (has_left_in m') e ∙ ap is_left (get_put_same m _ []) ∙ sym (or_true (left node)) ∙ ap (λ b. left node || b) (sym (ap (λ b. b || false) (is_same n node (sym e))))
        | inr ne ↦ ap is_left (same_view m n node [] ne) ∙ v.gone node ∙ sym (or_false (left node)) ∙ ap (λ b. left node || b) (sym (ap (λ b. b || false) (not_number n node (λ e. ne (sym e)))))
      ];
      reported = λ node stays. elim (same_or_not node n) [
        | inl e ↦ let off : true ≡ false = sym (or_true (left node)) ∙ ap (λ b. left node || b) (sym (ap (λ b. b || false) (is_same n node (sym e)))) ∙ stays in absurd (cc)
        | inr ne ↦
            let in_before : left node ≡ false = sym (or_false (left node)) ∙ ap (λ b. left node || b) (sym (ap (λ b. b || false) (not_number n node (λ e. ne (sym e))))) ∙ stays in
            ap number_at (same_view m n node [] ne) ∙ v.reported node in_before ∙ (let most : position node ≡ max (position node) 0 = omega arith in most)
      ];
    }

-- nothing is said
quiet_views : (left : ℕ → Bool) (position : ℕ → ℕ) (m : SpaceMap) → Views left position m → Views (left_with left []) (position_with position []) m
quiet_views left position m v = record {
  gone = λ node. v.gone node ∙ sym (or_false (left node));
  reported = λ node stays. v.reported node (sym (or_false (left node)) ∙ stays) ∙ (let most : position node ≡ max (position node) 0 = omega arith in most);
}

-- what one item does
record ViewItem (left : ℕ → Bool) (position : ℕ → ℕ) (x : Rising) (m : SpaceMap) (up : Up) (m' : SpaceMap) : Type 0 where
  views : Views (left_with left (view_words (x ∷ []))) (position_with position (view_words (x ∷ []))) m'
  asked : asked_of (passed x up) ≡ asked_of (x ∷ [])
  trims : trim_words (passed x up) ≡ trim_words (x ∷ [])
  silent : answered x up ≡ []
  kinds : (a : ℕ) (k : Text) → a ≢ 3 → finmap.get m' (a, k) ≡ finmap.get m (a, k)

stop_item : (left : ℕ → Bool) (position : ℕ → ℕ) (x : Rising) (m : SpaceMap) (up : Up) (m' : SpaceMap) (c : Content) → under 3 x.item ≡ Some c → up ≡ Stop → Views (left_with left (c ∷ [])) (position_with position (c ∷ [])) m' → ((a : ℕ) (k : Text) → a ≢ 3 → finmap.get m' (a, k) ≡ finmap.get m (a, k)) → ViewItem left position x m up m'
stop_item left position x m up m' c word is v kinds = record {
  views = subst (λ l. Views (left_with left l) (position_with position l) m') (sym (ap (λ o. cons_option o []) word)) v;
  asked = ap (λ u. asked_of (passed x u)) is ∙ sym (ap (λ o. cons_option (asked_word x.place o) []) (one_kind 3 2 x.item c (λ e. absurd (omega arith)) word));
  trims = ap (λ u. trim_words (passed x u)) is ∙ sym (ap (λ o. cons_option o []) (one_kind 3 4 x.item c (λ e. absurd (omega arith)) word));
  silent = ap (answered x) is;
  kinds = kinds;
}

-- it passes, and isn't of the words that speak of members
pass_item : (left : ℕ → Bool) (position : ℕ → ℕ) (x : Rising) (m : SpaceMap) (up : Up) (m' : SpaceMap) → Passes m up m' → Views (left_with left (view_words (x ∷ []))) (position_with position (view_words (x ∷ []))) m → ViewItem left position x m up m'
pass_item left position x m up m' p v = record {
  views = subst (λ z. Views (left_with left (view_words (x ∷ []))) (position_with position (view_words (x ∷ []))) z) (sym p.1) v;
  asked = ap (λ u. asked_of (passed x u)) p.0;
  trims = ap (λ u. trim_words (passed x u)) p.0;
  silent = ap (answered x) p.0;
  kinds = λ a k ne. ap (λ (z : SpaceMap). finmap.get z (a, k)) p.1;
}

quiet_word : (left : ℕ → Bool) (position : ℕ → ℕ) (x : Rising) (m : SpaceMap) (words : List Content) → view_words (x ∷ []) ≡ words → Views (left_with left words) (position_with position words) m → Views (left_with left (view_words (x ∷ []))) (position_with position (view_words (x ∷ []))) m
quiet_word left position x m words e v = subst (λ l. Views (left_with left l) (position_with position l) m) (sym e) v

report_kinds : (m : SpaceMap) (n p : ℕ) (b : Bool) (a : ℕ) (k : Text) → a ≢ 3 → finmap.get (cond b (finmap.insert m (3, view_key n) (u64_bytes p)) m) (a, k) ≡ finmap.get m (a, k)
report_kinds m n p true a k ne = get_put_other m _ _ _ (other_kind a 3 _ _ ne)
report_kinds m n p false a k ne = refl

view_item : (left : ℕ → Bool) (position : ℕ → ℕ) (x : Rising) (m : SpaceMap) (up : Up) (m' : SpaceMap) (w : Option Content) → under 3 x.item ≡ w → ViewAt m w up m' → Views left position m → ViewItem left position x m up m'
view_item left position x m up m' None is step v = pass_item left position x m up m' step (quiet_word left position x m [] (ap (λ o. cons_option o []) is) (quiet_views left position m v))
view_item left position x m up m' (Some (Session s r c)) is step v = pass_item left position x m up m' step (quiet_word left position x m (Session s r c ∷ []) (ap (λ o. cons_option o []) is) (quiet_views left position m v))
view_item left position x m up m' (Some (Trim z)) is step v = pass_item left position x m up m' step (quiet_word left position x m (Trim z ∷ []) (ap (λ o. cons_option o []) is) (quiet_views left position m v))
view_item left position x m up m' (Some (Alive n p)) is step v =
    let stored = view_of m n in
    stop_item left position x m up m' (Alive n p) is step.1 (subst (λ z. Views (left_with left (Alive n p ∷ [])) (position_with position (Alive n p ∷ [])) z) (sym step.2) (report_views left position m n p step.0 v stored refl (not (is_left stored) && nat_lt (number_at stored) p) refl))
    (λ a k ne. ap (λ (z : SpaceMap). finmap.get z (a, k)) step.2 ∙ report_kinds m n p (not (is_left stored) && nat_lt (number_at stored) p) a k ne)
view_item left position x m up m' (Some (Leave n)) is step v =
    stop_item left position x m up m' (Leave n) is step.0 (subst (λ z. Views (left_with left (Leave n ∷ [])) (position_with position (Leave n ∷ [])) z) (sym step.1) (leave_views left position m n v))
    (λ a k ne. ap (λ (z : SpaceMap). finmap.get z (a, k)) step.1 ∙ get_put_other m _ _ [] (other_kind a 3 _ _ ne))

-- what all the items of a level do
pub record ViewLevel (left : ℕ → Bool) (position : ℕ → ℕ) (m : SpaceMap) (ins outs : List Rising) (told : List Told) (m' : SpaceMap) : Type 0 where
  pub views : Views (left_with left (view_words ins)) (position_with position (view_words ins)) m'
  pub asked : asked_of outs ≡ asked_of ins
  pub trims : trim_words outs ≡ trim_words ins
  pub silent : told ≡ []
  pub kinds : (a : ℕ) (k : Text) → a ≢ 3 → finmap.get m' (a, k) ≡ finmap.get m (a, k)

leaves-cons : (node : ℕ) (o : Option Content) (words : List Content) → leaves node (cons_option o words) ≡ (leaves node (cons_option o []) || leaves node words)
leaves-cons node None words = refl
leaves-cons node (Some c) words = ap (λ b. b || leaves node words) (sym (or_false (is_leave_of node c)))

greatest-cons : (o : Option ℕ) (ns : List ℕ) → greatest (cons_option o ns) ≡ max (greatest (cons_option o [])) (greatest ns)
greatest-cons None ns = let same : greatest ns ≡ max 0 (greatest ns) = omega arith in same
greatest-cons (Some n) ns = let same : max n (greatest ns) ≡ max (max n 0) (greatest ns) = omega arith in same

reports-cons : (node : ℕ) (o : Option Content) (words : List Content) → greatest (reports_of node (cons_option o words)) ≡ max (greatest (reports_of node (cons_option o []))) (greatest (reports_of node words))
reports-cons node None words = let same : greatest (reports_of node words) ≡ max 0 (greatest (reports_of node words)) = omega arith in same
reports-cons node (Some c) words = greatest-cons (report_of node c) (reports_of node words)

pub views_same : (left left' : ℕ → Bool) (position position' : ℕ → ℕ) (m : SpaceMap) → ((node : ℕ) → left' node ≡ left node) → ((node : ℕ) → position' node ≡ position node) → Views left position m → Views left' position' m
views_same left left' position position' m same_left same_position v = record {
  gone = λ node. v.gone node ∙ sym (same_left node);
  reported = λ node stays. v.reported node (sym (same_left node) ∙ stays) ∙ sym (same_position node);
}

max_assoc : (a b c : ℕ) → max (max a b) c ≡ max a (max b c)
max_assoc a b c = omega arith

pub view_level : (left : ℕ → Bool) (position : ℕ → ℕ) (m m' : SpaceMap) (ins outs : List Rising) (told : List Told) → Level 3 m ins outs told m' → Views left position m → ViewLevel left position m ins outs told m'
view_level left position m m' [] outs told l v = record {
  views = subst (λ z. Views (left_with left []) (position_with position []) z) (sym l.2) (quiet_views left position m v);
  asked = ap asked_of l.0;
  trims = ap trim_words l.0;
  silent = l.1;
  kinds = λ a k ne. ap (λ (z : SpaceMap). finmap.get z (a, k)) l.2;
}
view_level left position m m' (x ∷ xs) outs told l v =
    let one = view_words (x ∷ []) in
    let here = view_item left position x m l.0 l.1 (under 3 x.item) refl (l.4.view refl) v in
    let ih = view_level (left_with left one) (position_with position one) l.1 m' xs l.2 l.3 l.5 here.views in
    record {
      views = views_same _ _ _ _ m' (λ node. ap (λ b. left node || b) (leaves-cons node (under 3 x.item) (view_words xs)) ∙ sym (or_assoc (left node) (leaves node one) (leaves node (view_words xs))))
          (λ node. ap (max (position node)) (reports-cons node (under 3 x.item) (view_words xs)) ∙ sym (max_assoc (position node) _ _)) ih.views;
      asked = ap asked_of l.6 ∙ filter_map-append asked_at (passed x l.0) l.2 ∙ ap (λ k. k ++ asked_of l.2) here.asked ∙ ap (λ k. asked_of (x ∷ []) ++ k) ih.asked ∙ sym (filter_map-append asked_at (x ∷ []) xs);
      trims = ap trim_words l.6 ∙ filter_map-append trim_word_of (passed x l.0) l.2 ∙ ap (λ k. k ++ trim_words l.2) here.trims ∙ ap (λ k. trim_words (x ∷ []) ++ k) ih.trims ∙ sym (filter_map-append trim_word_of (x ∷ []) xs);
      silent = l.7 ∙ ap (λ k. k ++ l.3) here.silent ∙ ih.silent;
      kinds = λ a k ne. ih.kinds a k ne ∙ here.kinds a k ne;
    }
