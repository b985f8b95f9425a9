-- An item speaks to one engine.
use Rattle.std.proofs.Common.{◌≡◌, ◌≢◌, refl, sym, ap, subst, ◌∙◌, ℕ, ◌<◌, ◌≤◌, ◌^◌, Bool, true, false, cond, List, [], ◌∷◌, ◌++◌, Some, None, arith, length, take, drop, length-append}
use Rattle.std.specs.Prelude.{◌==◌, ◌&&◌, nat_le}
use Rattle.std.proofs.lemmas.Bool.Decides.{nat_tests}
use Rattle.std.proofs.Math.Seq.{take-append_seam, drop-append_seam}
use Rattle.delos_types.specs.Spaces.{Text}
use Rattle.delos_types.specs.Numbers.{u16_bytes, u64_bytes, u16_of, u64_of}
use Rattle.delos_types.proofs.NumberLaws.{length-u16_bytes, length-u64_bytes, u16_of-u16_bytes, u64_of-u64_bytes}
use Rattle.delos_types.specs.declared.item.Header.{Header}
use Rattle.delos_types.specs.declared.item.Item.{Item}
use Rattle.table_core.specs.Reading.{command_of}
use Rattle.engine_api.specs.declared.content.Content.{Content}
use Rattle.engine_api.specs.declared.content.Content.TheVariants.{Session, Alive, Leave, Trim}
use Rattle.engine_api.specs.Items.{content_of, content_in, content_under, session_content, session_in, rank_in, is_session_body, view_body, view_word, trim_body, without_payload}
use Rattle.engine_steps.specs.Words.{under, under_in, ranked_item}

pub same_number : (a b : ℕ) → (a == b) ≡ true → a ≡ b
same_number a b e = grind (arith, nat_tests)

is_number : (a b : ℕ) → a ≡ b → (a == b) ≡ true
is_number a b e = grind (arith, nat_tests)

pub not_number : (a b : ℕ) → a ≢ b → (a == b) ≡ false
not_number a b e = grind (arith, nat_tests)

-- what is said under one kind isn't said under another
one_kind_in : (k j : ℕ) (hs : List Header) (payload : Text) (c : Content) → k ≢ j → under_in k hs payload ≡ Some c → under_in j hs payload ≡ None
one_kind_in k j [] payload c ne e = refl
one_kind_in k j (h ∷ g ∷ gs) payload c ne e = refl
one_kind_in k j (h ∷ []) payload c ne e =
    elim (h.kind == k) as (λ b. (h.kind == k) ≡ b → cond b (content_under h payload) None ≡ Some c → under_in j (h ∷ []) payload ≡ None) [
      | true ↦ λ t e. let other : h.kind ≢ j = (λ u. ne (sym (same_number h.kind k t) ∙ u)) in ap (λ b. cond b (content_under h payload) None) (not_number h.kind j other)
      | false ↦ λ t e. let off : None ≡ Some c = e in absurd (cc)
    ] refl e

pub one_kind : (k j : ℕ) (i : Item) (c : Content) → k ≢ j → under k i ≡ Some c → under j i ≡ None
one_kind k j i c ne e = one_kind_in k j i.headers i.payload c ne e

-- a ranked item says its rank

take_two : (n : ℕ) (rest : List ℕ) → take 2 (u16_bytes n ++ rest) ≡ u16_bytes n
take_two n rest = ap (λ k. take k (u16_bytes n ++ rest)) (sym (length-u16_bytes n)) ∙ take-append_seam (u16_bytes n) rest

drop_two : (n : ℕ) (rest : List ℕ) → drop 2 (u16_bytes n ++ rest) ≡ rest
drop_two n rest = ap (λ k. drop k (u16_bytes n ++ rest)) (sym (length-u16_bytes n)) ∙ drop-append_seam (u16_bytes n) rest

three : (a b c : Bool) → a ≡ true → b ≡ true → c ≡ true → (a && b && c) ≡ true
three a b c p q r = cc (ap (λ x. x && b && c) p, ap (λ y. true && y && c) q, r)

fits_is : (a b : ℕ) → a ≤ b → nat_le a b ≡ true
fits_is a b h = grind (arith, nat_tests)

pub under-ranked : (s r : ℕ) (payload : Text) → s ≤ 63 → 1 ≤ r → r < 2 ^ 64 → under 2 (ranked_item s r payload) ≡ Some (Session s r (command_of payload))
under-ranked s r payload low one small =
    let body = u16_bytes s ++ u64_bytes r in
    let own : session_in body ≡ s = ap u16_of (take_two s (u64_bytes r)) ∙ u16_of-u16_bytes s (omega arith) in
    let rank : rank_in body ≡ r = ap u64_of (drop_two s (u64_bytes r)) ∙ u64_of-u64_bytes r small in
    let long : length body ≡ 10 = omega (arith, length-append (u16_bytes s) (u64_bytes r), length-u16_bytes s, length-u64_bytes r) in
    let sound : is_session_body body ≡ true = three _ _ _ (is_number _ _ long) (ap (λ n. nat_le n 63) own ∙ fits_is s 63 low) (ap (λ n. nat_le 1 n) rank ∙ fits_is 1 r one) in
    ap (λ b. cond b (Some (Session (session_in body) (rank_in body) (command_of payload))) None) sound
    ∙ ap (λ n. Some (Session n (rank_in body) (command_of payload))) own
    ∙ ap (λ n. Some (Session s n (command_of payload))) rank

-- The words of an item by what it says

-- what is said is said under the kind of its engine, and under no other
abbrev pub SaysIt : Item → Content → Type 0
SaysIt i (Session s r c) = (under 2 i ≡ Some (Session s r c)) × (under 3 i ≡ None) × (under 4 i ≡ None) × (c ≡ command_of i.payload) × (1 ≤ r)
SaysIt i (Alive node position) = (under 2 i ≡ None) × (under 3 i ≡ Some (Alive node position)) × (under 4 i ≡ None)
SaysIt i (Leave node) = (under 2 i ≡ None) × (under 3 i ≡ Some (Leave node)) × (under 4 i ≡ None)
SaysIt i (Trim position) = (under 2 i ≡ None) × (under 3 i ≡ None) × (under 4 i ≡ Some (Trim position))

abbrev pub IsSessionWord : Text → Content → Type 0
IsSessionWord payload (Session s r c) = (c ≡ command_of payload) × (1 ≤ r)
IsSessionWord payload (Alive node position) = ⊥
IsSessionWord payload (Leave node) = ⊥
IsSessionWord payload (Trim position) = ⊥

abbrev pub IsViewWord : Content → Type 0
IsViewWord (Session s r c) = ⊥
IsViewWord (Alive node position) = Unit {0}
IsViewWord (Leave node) = Unit {0}
IsViewWord (Trim position) = ⊥

abbrev pub IsTrimWord : Content → Type 0
IsTrimWord (Session s r c) = ⊥
IsTrimWord (Alive node position) = ⊥
IsTrimWord (Leave node) = ⊥
IsTrimWord (Trim position) = Unit {0}

right_true : (a b : Bool) → (a && b) ≡ true → b ≡ true
right_true true b e = e
right_true false b e = absurd (cc)

le_is : (a b : ℕ) → nat_le a b ≡ true → a ≤ b
le_is a b e = grind (arith, nat_tests)

session_shape : (body payload : Text) (c : Content) → session_content body payload ≡ Some c → IsSessionWord payload c
session_shape body payload c e =
    elim (is_session_body body) as (λ b. is_session_body body ≡ b → cond b (Some (Session (session_in body) (rank_in body) (command_of payload))) None ≡ Some c → IsSessionWord payload c) [
      | true ↦ λ t e. let same : Session (session_in body) (rank_in body) (command_of payload) ≡ c = cc in subst (IsSessionWord payload) same (refl, le_is _ _ (right_true _ _ t))
      | false ↦ λ t e. let off : None ≡ Some c = e in absurd (cc)
    ] refl e

view_word_shape : (tag node position : ℕ) (c : Content) → view_word tag node position ≡ Some c → IsViewWord c
view_word_shape tag node position c e =
    elim (tag == 1) as (λ b. cond b (Some (Alive node position)) (cond ((tag == 2) && (position == 0)) (Some (Leave node)) None) ≡ Some c → IsViewWord c) [
      | true ↦ λ e. let same : Alive node position ≡ c = cc in subst IsViewWord same tt
      | false ↦ λ e. elim ((tag == 2) && (position == 0)) as (λ b. cond b (Some (Leave node)) None ≡ Some c → IsViewWord c) [
        | true ↦ λ e. let same : Leave node ≡ c = cc in subst IsViewWord same tt
        | false ↦ λ e. let off : None ≡ Some c = e in absurd (cc)
      ] e
    ] e

view_body_shape : (body : Text) (c : Content) → view_body body ≡ Some c → IsViewWord c
view_body_shape [] c e = let off : None ≡ Some c = e in absurd (cc)
view_body_shape (tag ∷ []) c e = let off : None ≡ Some c = e in absurd (cc)
view_body_shape (tag ∷ node ∷ position) c e =
    elim ((length position == 8) && nat_le 1 node && nat_le node 8) as (λ b. cond b (view_word tag node (u64_of position)) None ≡ Some c → IsViewWord c) [
      | true ↦ λ e. view_word_shape tag node (u64_of position) c e
      | false ↦ λ e. let off : None ≡ Some c = e in absurd (cc)
    ] e

view_shape : (payload body : Text) (c : Content) → without_payload payload (view_body body) ≡ Some c → IsViewWord c
view_shape [] body c e = view_body_shape body c e
view_shape (b ∷ bs) body c e = let off : None ≡ Some c = e in absurd (cc)

trim_body_shape : (body : Text) (c : Content) → trim_body body ≡ Some c → IsTrimWord c
trim_body_shape body c e =
    elim (length body == 8) as (λ b. cond b (Some (Trim (u64_of body))) None ≡ Some c → IsTrimWord c) [
      | true ↦ λ e. let same : Trim (u64_of body) ≡ c = cc in subst IsTrimWord same tt
      | false ↦ λ e. let off : None ≡ Some c = e in absurd (cc)
    ] e

trim_shape : (payload body : Text) (c : Content) → without_payload payload (trim_body body) ≡ Some c → IsTrimWord c
trim_shape [] body c e = trim_body_shape body c e
trim_shape (b ∷ bs) body c e = let off : None ≡ Some c = e in absurd (cc)

says_session : (i : Item) (c : Content) → under 2 i ≡ Some c → IsSessionWord i.payload c → SaysIt i c
says_session i (Session s r c) own is = (own, one_kind 2 3 i _ (λ e. absurd (omega arith)) own, one_kind 2 4 i _ (λ e. absurd (omega arith)) own, is.0, is.1)
says_session i (Alive node position) own is = absurd is
says_session i (Leave node) own is = absurd is
says_session i (Trim position) own is = absurd is

says_view : (i : Item) (c : Content) → under 3 i ≡ Some c → IsViewWord c → SaysIt i c
says_view i (Session s r c) own is = absurd is
says_view i (Alive node position) own is = (one_kind 3 2 i _ (λ e. absurd (omega arith)) own, own, one_kind 3 4 i _ (λ e. absurd (omega arith)) own)
says_view i (Leave node) own is = (one_kind 3 2 i _ (λ e. absurd (omega arith)) own, own, one_kind 3 4 i _ (λ e. absurd (omega arith)) own)
says_view i (Trim position) own is = absurd is

says_trim : (i : Item) (c : Content) → under 4 i ≡ Some c → IsTrimWord c → SaysIt i c
says_trim i (Session s r c) own is = absurd is
says_trim i (Alive node position) own is = absurd is
says_trim i (Leave node) own is = absurd is
says_trim i (Trim position) own is = (one_kind 4 2 i _ (λ e. absurd (omega arith)) own, one_kind 4 3 i _ (λ e. absurd (omega arith)) own, own)

own_kind : (k : ℕ) (h : Header) (payload : Text) → (h.kind == k) ≡ true → under_in k (h ∷ []) payload ≡ content_under h payload
own_kind k h payload e = ap (λ b. cond b (content_under h payload) None) e

says_under : (h : Header) (payload : Text) (c : Content) → content_under h payload ≡ Some c → SaysIt (record { headers = h ∷ []; payload = payload }) c
says_under h payload c said =
    let i : Item = record { headers = h ∷ []; payload = payload } in
    elim (h.kind == 2) as (λ b. (h.kind == 2) ≡ b → cond b (session_content h.body payload) (cond (h.kind == 3) (without_payload payload (view_body h.body)) (cond (h.kind == 4) (without_payload payload (trim_body h.body)) None)) ≡ Some c → SaysIt i c) [
      | true ↦ λ t e. says_session i c (own_kind 2 h payload t ∙ said) (session_shape h.body payload c e)
      | false ↦ λ t e. elim (h.kind == 3) as (λ b. (h.kind == 3) ≡ b → cond b (without_payload payload (view_body h.body)) (cond (h.kind == 4) (without_payload payload (trim_body h.body)) None) ≡ Some c → SaysIt i c) [
        | true ↦ λ t e. says_view i c (own_kind 3 h payload t ∙ said) (view_shape payload h.body c e)
        | false ↦ λ t e. elim (h.kind == 4) as (λ b. (h.kind == 4) ≡ b → cond b (without_payload payload (trim_body h.body)) None ≡ Some c → SaysIt i c) [
          | true ↦ λ t e. says_trim i c (own_kind 4 h payload t ∙ said) (trim_shape payload h.body c e)
          | false ↦ λ t e. let off : None ≡ Some c = e in absurd (cc)
        ] refl e
      ] refl e
    ] refl said

says_in : (hs : List Header) (payload : Text) (c : Content) → content_in hs payload ≡ Some c → SaysIt (record { headers = hs; payload = payload }) c
says_in [] payload c e = let off : None ≡ Some c = e in absurd (cc)
says_in (h ∷ g ∷ gs) payload c e = let off : None ≡ Some c = e in absurd (cc)
says_in (h ∷ []) payload c e = says_under h payload c e

-- an item that says something says it to its engine alone
pub says : (i : Item) (c : Content) → content_of i ≡ Some c → SaysIt i c
says i c e = says_in i.headers i.payload c e

under_shape : (hs : List Header) (payload : Text) (c : Content) → under_in 2 hs payload ≡ Some c → IsSessionWord payload c
under_shape [] payload c e = let off : None ≡ Some c = e in absurd (cc)
under_shape (h ∷ g ∷ gs) payload c e = let off : None ≡ Some c = e in absurd (cc)
under_shape (h ∷ []) payload c e =
    elim (h.kind == 2) as (λ b. (h.kind == 2) ≡ b → cond b (cond b (session_content h.body payload) (cond (h.kind == 3) (without_payload payload (view_body h.body)) (cond (h.kind == 4) (without_payload payload (trim_body h.body)) None))) None ≡ Some c → IsSessionWord payload c) [
      | true ↦ λ t e. session_shape h.body payload c e
      | false ↦ λ t e. let off : None ≡ Some c = e in absurd (cc)
    ] refl e

-- what is said to the session engine is a rank, with the command that the payload spells
pub under_session : (i : Item) (c : Content) → under 2 i ≡ Some c → IsSessionWord i.payload c
under_session i c e = under_shape i.headers i.payload c e
