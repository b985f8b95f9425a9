-- The slots of replies keep the last 64 of each session.
use Rattle.std.proofs.Common.{◌≡◌, ◌≢◌, refl, sym, ap, subst, ◌∙◌, ℕ, suc, zero, ◌+◌, ◌-◌, ◌<◌, ◌≤◌, ◌^◌, Bool, true, false, cond, List, [], ◌∷◌, ◌++◌, length, take, drop, Option, Some, None, arith, is_some, inl, inr, append_assoc, append-nil, length-append}
use Rattle.std.specs.Prelude.{◌==◌, ◌&&◌, ◌||◌, ◌%◌, nat_le, nat_lt, find, filter_map}
use Rattle.std.specs.List.{list_any, cons_option}
use Rattle.std.specs.Option.{option_map, option_or}
use Rattle.std.proofs.lemmas.Bool.{cases_lt}
use Rattle.std.proofs.lemmas.Bool.Decides.{nat_tests}
use Rattle.std.proofs.lemmas.List.Folds.{list_any-append, find-append}
use Rattle.std.proofs.Math.Seq.{take-append_seam, drop-append_seam}
use Rattle.std.specs.FinMap as finmap
use Rattle.delos_types.specs.Numbers.{u16_bytes, u64_bytes, u16_of, u64_of}
use Rattle.delos_types.proofs.NumberLaws.{length-u16_bytes, length-u64_bytes, u16_of-u16_bytes, u64_of-u64_bytes}
use Rattle.delos_types.specs.Spaces.{SpaceMap, Text}
use Rattle.delos_types.specs.declared.place.Place.{Place}
use Rattle.table_core.specs.Table.{TableMap}
use Rattle.table_core.specs.declared.command.Command.{Command}
use Rattle.engine_api.specs.declared.act.Act.{Act}
use Rattle.engine_api.specs.Acted.{Asked, act_on, replied}
use Rattle.engine_api.specs.Order.{first_of, gap_from, act_at, numbers, acts_of, acted_after}
use Rattle.engine_steps.specs.declared.layout.Kept.{Kept}
use Rattle.engine_steps.specs.Layout.{reply_key, slot_text, slot_read, behind_rank, behind_sub, reply_of}
use Rattle.engine_steps.specs.Replies.{reply_text}
use Rattle.engine_steps.specs.Steps.{RepliesAt}
use Rattle.engine_steps.specs.Words.{under}
use Rattle.log_laws.specs.Rises.{Hears, Sinks}
use Rattle.log_laws.specs.State.{kept_act, kept_reply}
use Rattle.log_laws.specs.declared.rising.Told.{Told}
use Rattle.log_laws.proofs.Keys.{get_put_same, get_put_other, other_key, reply_sessions, reply_slots}
use Rattle.log_laws.proofs.Firsts.{same_or_not, is_same, is_not, still, appears, absent, gap_low, gap_stays, first_of-other_session}
use Rattle.log_laws.proofs.Ranks.{ones}
use Rattle.log_laws.proofs.TableLevel.{Tells, TellAll}

-- Reading a slot

eight : (n : ℕ) (rest : Text) → take 8 (u64_bytes n ++ rest) ≡ u64_bytes n
eight n rest = ap (λ k. take k (u64_bytes n ++ rest)) (sym (length-u64_bytes n)) ∙ take-append_seam (u64_bytes n) rest

behind : (n : ℕ) (rest : Text) → drop 8 (u64_bytes n ++ rest) ≡ rest
behind n rest = ap (λ k. drop k (u64_bytes n ++ rest)) (sym (length-u64_bytes n)) ∙ drop-append_seam (u64_bytes n) rest

two : (n : ℕ) (rest : Text) → take 2 (u16_bytes n ++ rest) ≡ u16_bytes n
two n rest = ap (λ k. take k (u16_bytes n ++ rest)) (sym (length-u16_bytes n)) ∙ take-append_seam (u16_bytes n) rest

behind_two : (n : ℕ) (rest : Text) → drop 2 (u16_bytes n ++ rest) ≡ rest
behind_two n rest = ap (λ k. drop k (u16_bytes n ++ rest)) (sym (length-u16_bytes n)) ∙ drop-append_seam (u16_bytes n) rest

fits_is : (a b : ℕ) → a ≤ b → nat_le a b ≡ true
fits_is a b h = grind (arith, nat_tests)

long_eight : (n : ℕ) (rest : Text) → nat_le 8 (length (u64_bytes n ++ rest)) ≡ true
long_eight n rest = fits_is _ _ (omega (arith, length-append (u64_bytes n) rest, length-u64_bytes n))

long_two : (n : ℕ) (rest : Text) → nat_le 2 (length (u16_bytes n ++ rest)) ≡ true
long_two n rest = fits_is _ _ (omega (arith, length-append (u16_bytes n) rest, length-u16_bytes n))

kept_at : Place → Text → Option Kept
kept_at place reply = Some (record { place = place; reply = reply })

sub_read : (pos sub : ℕ) (reply : Text) → sub < 2 ^ 16 → behind_sub pos (u16_bytes sub ++ reply) ≡ Some (record { place = record { pos = pos; sub = sub }; reply = reply })
sub_read pos sub reply small =
    let v = u16_bytes sub ++ reply in
    ap (λ b. cond b (Some (record { place = record { pos = pos; sub = u16_of (take 2 v) }; reply = drop 2 v })) None) (long_two sub reply)
    ∙ ap (λ l. Some (record { place = record { pos = pos; sub = u16_of l }; reply = drop 2 v })) (two sub reply)
    ∙ ap (λ n. Some (record { place = record { pos = pos; sub = n }; reply = drop 2 v })) (u16_of-u16_bytes sub small)
    ∙ ap (λ l. Some (record { place = record { pos = pos; sub = sub }; reply = l })) (behind_two sub reply)

rank_read : (place : Place) (reply : Text) → place.pos < 2 ^ 64 → place.sub < 2 ^ 16 → behind_rank (u64_bytes place.pos ++ (u16_bytes place.sub ++ reply)) ≡ Some (record { place = place; reply = reply })
rank_read place reply small low =
    let rest = u16_bytes place.sub ++ reply in
    let v = u64_bytes place.pos ++ rest in
    ap (λ b. cond b (behind_sub (u64_of (take 8 v)) (drop 8 v)) None) (long_eight place.pos rest)
    ∙ ap (λ l. behind_sub (u64_of l) (drop 8 v)) (eight place.pos rest)
    ∙ ap (λ n. behind_sub n (drop 8 v)) (u64_of-u64_bytes place.pos small)
    ∙ ap (behind_sub place.pos) (behind place.pos rest)
    ∙ sub_read place.pos place.sub reply low

-- a slot gives its own rank alone
slot_own : (place : Place) (r q : ℕ) (reply : Text) → place.pos < 2 ^ 64 → place.sub < 2 ^ 16 → r < 2 ^ 64 → slot_read q (Some (slot_text place r reply)) ≡ cond (r == q) (Some (record { place = place; reply = reply })) None
slot_own place r q reply small low fits =
    let rest = u64_bytes place.pos ++ (u16_bytes place.sub ++ reply) in
    let v = u64_bytes r ++ rest in
    ap (λ b. cond (b && (u64_of (take 8 v) == q)) (behind_rank (drop 8 v)) None) (long_eight r rest)
    ∙ ap (λ l. cond (u64_of l == q) (behind_rank (drop 8 v)) None) (eight r rest)
    ∙ ap (λ n. cond (n == q) (behind_rank (drop 8 v)) None) (u64_of-u64_bytes r fits)
    ∙ ap (λ l. cond (r == q) (behind_rank l) None) (behind r rest)
    ∙ ap (λ o. cond (r == q) o None) (rank_read place reply small low)

-- The ranks that have acted

-- of each session, the ranks below the next one have acted, and no other
pub record InTurn (acts : List Act) (next : ℕ → ℕ) : Type 0 where
  pub acted : (s q : ℕ) → 1 ≤ q → is_some (find (λ (a : Act). (a.session == s) && (a.rank == q)) acts) ≡ nat_lt q (next s)
  pub above : (s q : ℕ) → 1 ≤ q → list_any (λ (a : Act). (a.session == s) && nat_le q a.rank) acts ≡ nat_lt q (next s)

-- one more of a session
abbrev pub after : (ℕ → ℕ) → ℕ → ℕ → ℕ
after next s t = next t + cond (s == t) 1 0

same_number : (a b : ℕ) → (a == b) ≡ true → a ≡ b
same_number a b e = grind (arith, nat_tests)

is_some-or : {A : Type 0} (o p : Option A) → is_some (option_or o p) ≡ (is_some o || is_some p)
is_some-or None p = refl
is_some-or (Some x) p = refl

is_some-one : {A : Type 0} (b : Bool) (x : A) → is_some (cond b (Some x) None) ≡ b
is_some-one true x = refl
is_some-one false x = refl

or_false : (b : Bool) → (b || false) ≡ b
or_false true = refl
or_false false = refl

one_more : (own : Bool) (low rank q : ℕ) → (own ≡ true → rank ≡ low) → (nat_lt q low || (own && (rank == q))) ≡ nat_lt q (low + cond own 1 0)
one_more true low rank q is = let same : rank ≡ low = is refl in grind (arith, nat_tests)
one_more false low rank q is = grind (arith, nat_tests)

one_above : (own : Bool) (low rank q : ℕ) → (own ≡ true → rank ≡ low) → (nat_lt q low || (own && nat_le q rank)) ≡ nat_lt q (low + cond own 1 0)
one_above true low rank q is = let same : rank ≡ low = is refl in grind (arith, nat_tests)
one_above false low rank q is = grind (arith, nat_tests)

turn_push : (acts : List Act) (next : ℕ → ℕ) (a : Act) → a.rank ≡ next a.session → InTurn acts next → InTurn (acts ++ a ∷ []) (after next a.session)
turn_push acts next a is h = record {
  acted = λ s q low.
      ap is_some (find-append (λ (b : Act). (b.session == s) && (b.rank == q)) acts (a ∷ [])) ∙ is_some-or _ _ ∙ ap (λ b. is_some (find (λ (b : Act). (b.session == s) && (b.rank == q)) acts) || b) (is_some-one ((a.session == s) && (a.rank == q)) a)
      ∙ ap (λ b. b || ((a.session == s) && (a.rank == q))) (h.acted s q low) ∙ one_more (a.session == s) (next s) a.rank q (λ e. subst (λ z. a.rank ≡ next z) (same_number a.session s e) is);
  above = λ s q low.
      list_any-append (λ (b : Act). (b.session == s) && nat_le q b.rank) acts (a ∷ []) ∙ ap (λ b. list_any (λ (b : Act). (b.session == s) && nat_le q b.rank) acts || b) (or_false ((a.session == s) && nat_le q a.rank))
      ∙ ap (λ b. b || ((a.session == s) && nat_le q a.rank)) (h.above s q low) ∙ one_above (a.session == s) (next s) a.rank q (λ e. subst (λ z. a.rank ≡ next z) (same_number a.session s e) is);
}

-- The slots

pub record Keeps (acts : List Act) (m : SpaceMap) : Type 0 where
  pub at : (s r : ℕ) → s ≤ 63 → 1 ≤ r → reply_of m s r ≡ kept_reply acts s r

abbrev later : List Act → ℕ → ℕ → Bool
later acts s r = list_any (λ (a : Act). (a.session == s) && nat_le (r + 64) a.rank) acts

abbrev found : List Act → ℕ → ℕ → Option Act
found acts s r = find (λ (a : Act). (a.session == s) && (a.rank == r)) acts

later-push : (acts : List Act) (a : Act) (s r : ℕ) → later (acts ++ a ∷ []) s r ≡ (later acts s r || ((a.session == s) && nat_le (r + 64) a.rank))
later-push acts a s r = list_any-append (λ (b : Act). (b.session == s) && nat_le (r + 64) b.rank) acts (a ∷ []) ∙ ap (λ b. later acts s r || b) (or_false ((a.session == s) && nat_le (r + 64) a.rank))

found-push : (acts : List Act) (a : Act) (s r : ℕ) → found (acts ++ a ∷ []) s r ≡ option_or (found acts s r) (cond ((a.session == s) && (a.rank == r)) (Some a) None)
found-push acts a s r = find-append (λ (b : Act). (b.session == s) && (b.rank == r)) acts (a ∷ [])

or_none : {A : Type 0} (o : Option A) → option_or o None ≡ o
or_none None = refl
or_none (Some x) = refl

none_is : {A : Type 0} (o : Option A) → is_some o ≡ false → o ≡ None
none_is None e = refl
none_is (Some x) e = absurd (cc)

below_is : (a b : ℕ) → a < b → nat_lt a b ≡ true
below_is a b h = grind (arith, nat_tests)

not_below : (a b : ℕ) → b ≤ a → nat_lt a b ≡ false
not_below a b h = grind (arith, nat_tests)

not_le : (a b : ℕ) → b < a → nat_le a b ≡ false
not_le a b h = grind (arith, nat_tests)

and_false : (b : Bool) → (b && false) ≡ false
and_false true = refl
and_false false = refl

or_true : (b : Bool) → (b || true) ≡ true
or_true true = refl
or_true false = refl

-- another session
other_kept : (acts : List Act) (a : Act) (s r : ℕ) → a.session ≢ s → kept_act (acts ++ a ∷ []) s r ≡ kept_act acts s r
other_kept acts a s r ne =
    let off : (a.session == s) ≡ false = is_not a.session s ne in
    ap (λ b. cond b None (found (acts ++ a ∷ []) s r)) (later-push acts a s r ∙ ap (λ b. later acts s r || (b && nat_le (r + 64) a.rank)) off ∙ or_false (later acts s r))
    ∙ ap (λ o. cond (later acts s r) None o) (found-push acts a s r ∙ ap (λ b. option_or (found acts s r) (cond (b && (a.rank == r)) (Some a) None)) off ∙ or_none (found acts s r))

-- another slot of the session
slot_kept : (acts : List Act) (next : ℕ → ℕ) (a : Act) (s r : ℕ) → 1 ≤ r → InTurn acts next → a.rank ≡ next s → r % 64 ≢ a.rank % 64 → kept_act (acts ++ a ∷ []) s r ≡ kept_act acts s r
slot_kept acts next a s r one turn is ne =
    let apart : a.rank ≢ r = (λ e. ne (ap (λ n. n % 64) (sym e))) in
    let off : (a.rank == r) ≡ false = is_not a.rank r apart in
    let past : (later acts s r || ((a.session == s) && nat_le (r + 64) a.rank)) ≡ later acts s r = elim (cases_lt (r + 64) a.rank) [
      | inl far ↦ let here : later acts s r ≡ true = turn.above s (r + 64) (omega arith) ∙ below_is (r + 64) (next s) (omega arith) in ap (λ b. b || ((a.session == s) && nat_le (r + 64) a.rank)) here ∙ sym here
      | inr near ↦
          let gone : nat_le (r + 64) a.rank ≡ false = not_le (r + 64) a.rank (strictly r a.rank near ne) in
          ap (λ b. later acts s r || ((a.session == s) && b)) gone ∙ ap (λ b. later acts s r || b) (and_false (a.session == s)) ∙ or_false (later acts s r)
    ] in
    ap (λ b. cond b None (found (acts ++ a ∷ []) s r)) (later-push acts a s r ∙ past)
    ∙ ap (λ o. cond (later acts s r) None o)
    (found-push acts a s r ∙ ap (λ b. option_or (found acts s r) (cond ((a.session == s) && b) (Some a) None)) off ∙ ap (λ b. option_or (found acts s r) (cond b (Some a) None)) (and_false (a.session == s)) ∙ or_none (found acts s r))
  where
    strictly : (r q : ℕ) → q ≤ r + 64 → r % 64 ≢ q % 64 → q < r + 64
    strictly r q near ne = elim (cases_lt q (r + 64)) [ inl h ↦ h | inr h ↦ absurd (ne (same_slot r q (omega arith))) ]
      where
        same_slot : (r q : ℕ) → q ≡ r + 64 → r % 64 ≡ q % 64
        same_slot r q e = omega arith

-- the slot itself
own_kept : (acts : List Act) (next : ℕ → ℕ) (a : Act) (s r : ℕ) → 1 ≤ r → InTurn acts next → a.session ≡ s → a.rank ≡ next s → r % 64 ≡ a.rank % 64 → kept_act (acts ++ a ∷ []) s r ≡ cond (a.rank == r) (Some a) None
own_kept acts next a s r one turn own is slot =
    let mine : (a.session == s) ≡ true = is_same a.session s own in
    let later_is : later (acts ++ a ∷ []) s r ≡ (later acts s r || nat_le (r + 64) a.rank) = later-push acts a s r ∙ ap (λ b. later acts s r || (b && nat_le (r + 64) a.rank)) mine in
    let found_is : found (acts ++ a ∷ []) s r ≡ option_or (found acts s r) (cond (a.rank == r) (Some a) None) = found-push acts a s r ∙ ap (λ b. option_or (found acts s r) (cond (b && (a.rank == r)) (Some a) None)) mine in
    elim (cases_lt r a.rank) [
      | inl early ↦
          let far : nat_le (r + 64) a.rank ≡ true = fits_is (r + 64) a.rank (a_round r a.rank early slot) in
          let off : (a.rank == r) ≡ false = is_not a.rank r (λ e. absurd (omega arith)) in
          ap (λ b. cond b None (found (acts ++ a ∷ []) s r)) (later_is ∙ ap (λ b. later acts s r || b) far ∙ or_true (later acts s r)) ∙ sym (ap (λ b. cond b (Some a) None) off)
      | inr late ↦
          let gone : found acts s r ≡ None = none_is _ (turn.acted s r one ∙ not_below r (next s) (omega arith)) in
          let near : later (acts ++ a ∷ []) s r ≡ false = later_is ∙ ap (λ b. b || nat_le (r + 64) a.rank) (turn.above s (r + 64) (omega arith) ∙ not_below (r + 64) (next s) (omega arith)) ∙ not_le (r + 64) a.rank (omega arith) in
          ap (λ b. cond b None (found (acts ++ a ∷ []) s r)) near ∙ found_is ∙ ap (λ o. option_or o (cond (a.rank == r) (Some a) None)) gone
    ]
  where
    a_round : (r q : ℕ) → r < q → r % 64 ≡ q % 64 → r + 64 ≤ q
    a_round r q lt e = omega arith

abbrev told_kept : Option Act → Option Kept
told_kept o = option_map (λ (c : Act). record { place = c.place; reply = reply_text c.reply }) o

map_cond : (b : Bool) (a : Act) → told_kept (cond b (Some a) None) ≡ cond b (Some (record { place = a.place; reply = reply_text a.reply })) None
map_cond true a = refl
map_cond false a = refl

-- one reply takes its slot
slot_keeps : (acts : List Act) (next : ℕ → ℕ) (a : Act) (t : Told) (m : SpaceMap) → InTurn acts next → a.rank ≡ next a.session → a.session ≤ 63 → t.place.pos < 2 ^ 64 → t.place.sub < 2 ^ 16 → a.rank < 2 ^ 64 → t.place ≡ a.place → t.reply ≡ reply_text a.reply → Keeps acts m
    → Keeps (acts ++ a ∷ []) (finmap.insert m (2, reply_key a.session a.rank) (slot_text t.place a.rank t.reply))
slot_keeps acts next a t m turn is known small low fits place reply h = record {
  at = λ s r hs one. elim (same_or_not a.session s) [
    | inr ne ↦
        ap (slot_read r) (get_put_other m _ _ _ (other_key 2 2 _ _ (λ e. ne (sym (reply_sessions s a.session r a.rank hs known e))))) ∙ h.at s r hs one
        ∙ ap told_kept (sym (other_kept acts a s r ne))
    | inl own ↦ elim (same_or_not (r % 64) (a.rank % 64)) [
      | inr ne ↦
          ap (slot_read r) (get_put_other m _ _ _ (other_key 2 2 _ _ (λ e. ne (reply_slots s a.session r a.rank e)))) ∙ h.at s r hs one
          ∙ ap told_kept (sym (slot_kept acts next a s r one turn (subst (λ z. a.rank ≡ next z) own is) ne))
      | inl same ↦
          let key : reply_key s r ≡ reply_key a.session a.rank = ap (λ z. reply_key z r) (sym own) ∙ ap (λ n. 2 ∷ (u16_bytes a.session ++ n ∷ [])) same in
          ap (λ k. slot_read r (finmap.get (finmap.insert m (2, reply_key a.session a.rank) (slot_text t.place a.rank t.reply)) (2, k))) key
          ∙ ap (slot_read r) (get_put_same m (2, reply_key a.session a.rank) (slot_text t.place a.rank t.reply)) ∙ slot_own t.place a.rank r t.reply small low fits
          ∙ ap (λ p. cond (a.rank == r) (Some (record { place = p; reply = t.reply })) None) place ∙ ap (λ l. cond (a.rank == r) (Some (record { place = a.place; reply = l })) None) reply
          ∙ sym (map_cond (a.rank == r) a) ∙ ap told_kept (sym (own_kept acts next a s r one turn own (subst (λ z. a.rank ≡ next z) own is) same))
    ]
  ];
}

-- the acts that follow come in turn
abbrev pub NextTo : (ℕ → ℕ) → List Act → (ℕ → ℕ) → Type 0
NextTo next [] next' = (s : ℕ) → next' s ≡ next s
NextTo next (a ∷ acts) next' = (a.rank ≡ next a.session) × NextTo (after next a.session) acts next'

turn_same : (acts : List Act) (next next' : ℕ → ℕ) → ((s : ℕ) → next' s ≡ next s) → InTurn acts next → InTurn acts next'
turn_same acts next next' same h = record {
  acted = λ s q low. h.acted s q low ∙ ap (nat_lt q) (sym (same s));
  above = λ s q low. h.above s q low ∙ ap (nat_lt q) (sym (same s));
}

pub turn_all : (acts more : List Act) (next next' : ℕ → ℕ) → InTurn acts next → NextTo next more next' → InTurn (acts ++ more) next'
turn_all acts [] next next' h n = subst (λ l. InTurn l next') (sym (append-nil acts)) (turn_same acts next next' n h)
turn_all acts (a ∷ more) next next' h n =
    subst (λ l. InTurn l next') (append_assoc acts (a ∷ []) more) (turn_all (acts ++ a ∷ []) more (after next a.session) next' (turn_push acts next a n.0 h) n.1)

-- the session engine hears the replies of acts that follow in turn

hears_one : (acts : List Act) (next : ℕ → ℕ) (a : Act) (t : Told) (m mid : SpaceMap) → InTurn acts next → a.rank ≡ next a.session → Tells t a → RepliesAt m t.place (under 2 t.item) t.reply mid → Keeps acts m → Keeps (acts ++ a ∷ []) mid
hears_one acts next a t m mid turn is tells step h =
    let at = subst (λ w. RepliesAt m t.place w t.reply mid) tells.word step in
    subst (λ z. Keeps (acts ++ a ∷ []) z) (sym at.4) (slot_keeps acts next a t m turn is at.0 at.1 at.2 at.3 tells.place tells.reply h)

pub hears_all : (acts more : List Act) (next next' : ℕ → ℕ) (ts : List Told) (m m' : SpaceMap) → InTurn acts next → NextTo next more next' → TellAll ts more → Hears 2 m ts m' → Keeps acts m → Keeps (acts ++ more) m'
hears_all acts [] next next' [] m m' turn n tells h k = subst (λ z. Keeps (acts ++ []) z) (sym h) (subst (λ l. Keeps l m) (sym (append-nil acts)) k)
hears_all acts [] next next' (t ∷ ts) m m' turn n tells h k = absurd tells
hears_all acts (a ∷ more) next next' [] m m' turn n tells h k = absurd tells
hears_all acts (a ∷ more) next next' (t ∷ ts) m m' turn n tells h k =
    subst (λ l. Keeps l m') (append_assoc acts (a ∷ []) more)
    (hears_all (acts ++ a ∷ []) more (after next a.session) next' ts h.0 m' (turn_push acts next a n.0 turn) n.1 tells.1 h.2 (hears_one acts next a t m h.0 turn n.0 tells.0 (h.1.session refl) k))

-- no other engine changes anything as it hears them
hears_other : (k : ℕ) (m : SpaceMap) (ts : List Told) (m' : SpaceMap) → k ≢ 2 → Hears k m ts m' → m' ≡ m
hears_other k m [] m' ne h = h
hears_other k m (t ∷ ts) m' ne h = hears_other k h.0 ts m' ne h.2 ∙ h.1.other ne

pub sinks_keeps : (acts more : List Act) (next next' : ℕ → ℕ) (ts : List Told) (m m' : SpaceMap) → InTurn acts next → NextTo next more next' → TellAll ts more → Sinks (1 ∷ 2 ∷ 3 ∷ 4 ∷ 5 ∷ []) m ts m' → Keeps acts m → Keeps (acts ++ more) m'
sinks_keeps acts more next next' ts m m' turn n tells s k =
    let s2 = s.1 in
    let s3 = s2.1 in
    let s4 = s3.1 in
    let s5 = s4.1 in
    let five : s4.0 ≡ m = hears_other 5 s5.0 ts s4.0 (λ e. absurd (omega arith)) s5.2 ∙ s5.1 in
    let four : s3.0 ≡ m = hears_other 4 s4.0 ts s3.0 (λ e. absurd (omega arith)) s4.2 ∙ five in
    let three : s2.0 ≡ m = hears_other 3 s3.0 ts s2.0 (λ e. absurd (omega arith)) s3.2 ∙ four in
    let two : Keeps (acts ++ more) s.0 = hears_all acts more next next' ts s2.0 s.0 turn n tells s2.2 (subst (λ z. Keeps acts z) (sym three) k) in
    subst (λ z. Keeps (acts ++ more) z) (sym (hears_other 1 s.0 ts m' (λ e. absurd (omega arith)) s.2)) two

-- What acts in a log comes in turn

abbrev pub gaps : List Asked → ℕ → ℕ
gaps xs s = gap_from xs s 1

next_start : (next next0 next' : ℕ → ℕ) (acts : List Act) → ((s : ℕ) → next s ≡ next0 s) → NextTo next0 acts next' → NextTo next acts next'
next_start next next0 next' [] same n = λ s. n s ∙ sym (same s)
next_start next next0 next' (a ∷ acts) same n = (n.0 ∙ sym (same a.session), next_start (after next a.session) (after next0 a.session) next' acts (λ s. ap (λ k. k + cond (a.session == s) 1 0) (same s)) n.1)

next_end : (next next' next'' : ℕ → ℕ) (acts : List Act) → ((s : ℕ) → next'' s ≡ next' s) → NextTo next acts next' → NextTo next acts next''
next_end next next' next'' [] same n = λ s. same s ∙ n s
next_end next next' next'' (a ∷ acts) same n = (n.0, next_end (after next a.session) next' next'' acts same n.1)

next_both : (next mid next' : ℕ → ℕ) (a b : List Act) → NextTo next a mid → NextTo mid b next' → NextTo next (a ++ b) next'
next_both next mid next' [] b n k = next_start next mid next' b (λ s. sym (n s)) k
next_both next mid next' (x ∷ a) b n k = (n.0, next_both (after next x.session) mid next' a b n.1 k)

-- the same for ranks that act, of which the replies don't matter
abbrev pub Follows : (ℕ → ℕ) → List Asked → (ℕ → ℕ) → Type 0
Follows next [] next' = (s : ℕ) → next' s ≡ next s
Follows next (x ∷ xs) next' = (x.rank ≡ next x.session) × Follows (after next x.session) xs next'

follows_start : (next next0 next' : ℕ → ℕ) (xs : List Asked) → ((s : ℕ) → next s ≡ next0 s) → Follows next0 xs next' → Follows next xs next'
follows_start next next0 next' [] same n = λ s. n s ∙ sym (same s)
follows_start next next0 next' (a ∷ xs) same n = (n.0 ∙ sym (same a.session), follows_start (after next a.session) (after next0 a.session) next' xs (λ s. ap (λ k. k + cond (a.session == s) 1 0) (same s)) n.1)

follows_end : (next next' next'' : ℕ → ℕ) (xs : List Asked) → ((s : ℕ) → next'' s ≡ next' s) → Follows next xs next' → Follows next xs next''
follows_end next next' next'' [] same n = λ s. same s ∙ n s
follows_end next next' next'' (a ∷ xs) same n = (n.0, follows_end (after next a.session) next' next'' xs same n.1)

follows_both : (next mid next' : ℕ → ℕ) (a b : List Asked) → Follows next a mid → Follows mid b next' → Follows next (a ++ b) next'
follows_both next mid next' [] b n k = follows_start next mid next' b (λ s. sym (n s)) k
follows_both next mid next' (x ∷ a) b n k = (n.0, follows_both (after next x.session) mid next' a b n.1 k)

pub replied_next : (t : TableMap) (next next' : ℕ → ℕ) (xs : List Asked) → Follows next xs next' → NextTo next (replied t xs) next'
replied_next t next next' [] n = n
replied_next t next next' (x ∷ xs) n = (n.0, replied_next (act_on t x.command).0 (after next x.session) next' xs n.1)

abbrev act_of : Asked → ℕ → Option Asked → Option Asked
act_of x r o = option_map (λ (f : Asked). record { place = x.place; session = x.session; rank = r; command = f.command }) o

some_act : (xs : List Asked) (x : Asked) (r : ℕ) → is_some (first_of xs x.session r) ≡ true → (c : Option Command) × (act_at xs x r ≡ Some (record { place = x.place; session = x.session; rank = r; command = c }))
some_act xs x r e = of_first (first_of xs x.session r) e
  where
    of_first : (o : Option Asked) → is_some o ≡ true → (c : Option Command) × (act_of x r o ≡ Some (record { place = x.place; session = x.session; rank = r; command = c }))
    of_first None e = absurd (cc)
    of_first (Some f) e = (f.command, refl)

count_on : (own : Bool) (n k : ℕ) → n + cond own (suc k) 0 ≡ n + cond own 1 0 + cond own k 0
count_on true n k = omega arith
count_on false n k = omega arith

count_none : (own : Bool) (n : ℕ) → n + cond own 0 0 ≡ n
count_none true n = omega arith
count_none false n = omega arith

-- a run of ranks of one session
run_follows : (xs : List Asked) (x : Asked) (n k : ℕ) (next : ℕ → ℕ) → next x.session ≡ n → ((q : ℕ) → n ≤ q → q < n + k → is_some (first_of xs x.session q) ≡ true) → Follows next (filter_map (act_at xs x) (numbers n k)) (λ s. next s + cond (x.session == s) k 0)
run_follows xs x n zero next is all = λ s. count_none (x.session == s) (next s)
run_follows xs x n (suc k) next is all =
    let here = some_act xs x n (all n (omega arith) (omega arith)) in
    let a : Asked = record { place = x.place; session = x.session; rank = n; command = here.0 } in
    let own : (x.session == x.session) ≡ true = is_same x.session x.session refl in
    let up : after next x.session x.session ≡ n + 1 = ap (λ b. next x.session + cond b 1 0) own ∙ ap (λ z. z + 1) is in
    let rest = run_follows xs x (n + 1) k (after next x.session) up (λ q low high. all q (omega arith) (omega arith)) in
    subst (λ o. Follows next (cons_option o (filter_map (act_at xs x) (numbers (n + 1) k))) (λ s. next s + cond (x.session == s) (suc k) 0)) (sym here.1)
    (sym is, follows_end _ _ _ _ (λ s. count_on (x.session == s) (next s) k) rest)

gap_grows : (before : List Asked) (x : Asked) (s : ℕ) → gaps before s ≤ gaps (before ++ x ∷ []) s
gap_grows before x s = elim (cases_lt (gaps (before ++ x ∷ []) s) (gaps before s)) [
  | inl short ↦
      let there = still before x s (gaps (before ++ x ∷ []) s) (appears before s (gaps before s) (gaps (before ++ x ∷ []) s) refl (gap_low (before ++ x ∷ []) s _ refl) short) in
      let off : true ≡ false = sym there ∙ absent (before ++ x ∷ []) s _ refl in absurd (cc)
  | inr long ↦ long
]

acts_follow : (before : List Asked) (x : Asked) → Follows (gaps before) (acts_of ones before x) (gaps (before ++ x ∷ []))
acts_follow before x =
    let xs = before ++ x ∷ [] in
    let from = gaps before x.session in
    let to = gaps xs x.session in
    let up : from ≤ to = gap_grows before x x.session in
    follows_end _ _ _ _ (λ s. elim (same_or_not x.session s) [
      | inl e ↦ let own : (x.session == s) ≡ true = is_same x.session s e in
          subst (λ z. gaps xs z ≡ gaps before z + (to - from)) e (let whole : to ≡ from + (to - from) = omega arith in whole) ∙ ap (λ b. gaps before s + cond b (to - from) 0) (sym own)
      | inr ne ↦ let other : (x.session == s) ≡ false = is_not x.session s ne in
          gap_stays before x s (gaps before s) refl (λ q e. first_of-other_session before x s q ne) ∙ (let whole : gaps before s ≡ gaps before s + 0 = omega arith in whole) ∙ ap (λ b. gaps before s + cond b (to - from) 0) (sym other)
    ]) (run_follows xs x from (to - from) (gaps before) refl (λ q low high. appears xs x.session to q refl (let first = gap_low before x.session from refl in omega arith) (omega arith)))

pub acted_follow : (before xs : List Asked) → Follows (gaps before) (acted_after ones before xs) (gaps (before ++ xs))
acted_follow before [] = λ s. ap (λ l. gaps l s) (append-nil before)
acted_follow before (x ∷ xs) =
    follows_both (gaps before) (gaps (before ++ x ∷ [])) (gaps (before ++ x ∷ xs)) (acts_of ones before x) (acted_after ones (before ++ x ∷ []) xs) (acts_follow before x)
    (follows_end _ _ _ _ (λ s. ap (λ l. gaps l s) (sym (append_assoc before (x ∷ []) xs))) (acted_follow (before ++ x ∷ []) xs))

-- what acted in a log came in turn, up to the gaps of its ranks
pub log_turn : (t : TableMap) (xs : List Asked) → InTurn (replied t (acted_after ones [] xs)) (gaps xs)
log_turn t xs = turn_all [] (replied t (acted_after ones [] xs)) (gaps []) (gaps xs) start (replied_next t (gaps []) (gaps xs) (acted_after ones [] xs) (acted_follow [] xs))
  where
    start : InTurn [] (gaps [])
    start = record { acted = λ s q low. sym (not_below q 1 low); above = λ s q low. sym (not_below q 1 low) }
