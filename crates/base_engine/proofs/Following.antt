-- A replica's state, as the log goes on and entries are applied.
use Rattle.std.proofs.Common.{Bool, true, false, ◌≡◌, ◌⊎◌, inl, inr, ℕ, zero, suc, ◌+◌, ◌<◌, ◌≤◌, List, [], ◌∷◌, ◌++◌, length, Some, None, refl, sym, ap, ◌∙◌, subst, ⊎_elim, arith}
use Rattle.std.specs.Prelude.{slice_get, max}
use Rattle.std.proofs.lemmas.List.{append_assoc, append-nil, length-append}
use Rattle.std.proofs.Math.Nat.{le-max_left, le-max_right, max-le}
use Rattle.delos_types.specs.Spaces.{SpaceMap}
use Rattle.delos_types.specs.declared.entry.Entry.{Entry}
use Rattle.disk_model.specs.Crash.{AnyCrash}
use Rattle.disk_model.specs.CrashLaws.{stays, joined, weaker}
use Rattle.legal_journal.specs.Law.{Law}
use Rattle.legal_journal.specs.declared.events.Event.{Event}
use Rattle.legal_journal.specs.Journal.{IsLegal}
use Rattle.virtual_log.specs.Turning.{Later, FirstTurn, IsAbove}
use Rattle.virtual_log.proofs.OneTurn.{later_continues}
use Rattle.virtual_log.specs.Holding.{IsTrimmed, Stays}
use Rattle.base_engine.specs.Reading.{IsFront}
use Rattle.replica_api.specs.Replica.{Meaning, Saved, ReplicaView, saved_in, MayFind, SpellsOne, Survives, Advances, Advanced, Failed, MayFindDuring, Recovered, armed_by}
use Rattle.base_engine.specs.Following.{IsStateAt, IsAsked, Follows, IsKnown, Reaches, IsAt, IsFound, GoesOn}

push_cases : (log : List Entry) (e x : Entry) (pos : ℕ) → slice_get (log ++ e ∷ []) pos ≡ Some x → (slice_get log pos ≡ Some x) ⊎ ((pos ≡ length log) × (x ≡ e))
push_cases [] e x zero h = let same : x ≡ e = cc in inr (refl, same)
push_cases [] e x (suc n) h = absurd (cc)
push_cases (y ∷ ys) e x zero h = inl h
push_cases (y ∷ ys) e x (suc n) h = ⊎_elim (λ k. inl k) (λ k. inr (ap suc k.0, k.1)) (push_cases ys e x n h)

append_cases : (xs ys : List Entry) (k : ℕ) (e : Entry) → slice_get (xs ++ ys) k ≡ Some e → (slice_get xs k ≡ Some e) ⊎ ((j : ℕ) × (k ≡ length xs + j) × (slice_get ys j ≡ Some e))
append_cases [] ys k e h = inr (k, omega arith, h)
append_cases (x ∷ xs) ys zero e h = inl h
append_cases (x ∷ xs) ys (suc n) e h = ⊎_elim (λ i. inl i) (λ t. inr (t.0, omega (arith, t.1), t.2)) (append_cases xs ys n e h)

front_push : (holds : List Event → ℕ → Entry → Type 0) (seen : List Event) (log : List Entry) (e : Entry) (c : ℕ) → IsFront holds seen log → length log ≡ c → holds seen c e → IsFront holds seen (log ++ e ∷ [])
front_push holds seen log e c front size here pos x h =
    ⊎_elim (λ k. front pos x k)
    (λ (k : (pos ≡ length log) × (x ≡ e)). subst (λ i. holds seen i x) (sym (k.0 ∙ size)) (subst (λ y. holds seen c y) (sym k.1) here))
    (push_cases log e x pos h)

-- Over one journal

module _ (holds : List Event → ℕ → Entry → Type 0) (meaning : Meaning) (seen : List Event) where
  state_next : (v : ReplicaView) (e : Entry) (next : SpaceMap) (s : Saved) → IsStateAt holds meaning.state seen (saved_in v) → holds seen v.cursor e → Advances meaning.state v.contents v.cursor e next → s.cursor ≡ v.cursor + 1 → s.contents ≡ next → IsStateAt holds meaning.state seen s
  state_next v e next s h here led at is = record {
    log = h.log ++ e ∷ [];
    size = omega (arith, at, h.size, length-append h.log (e ∷ []));
    front = front_push holds seen h.log e v.cursor h.front h.size here;
    led = subst (λ m. meaning.state (h.log ++ e ∷ []) m) (sym is) (led h.log h.size h.led);
  }

  pub found_state : (v : ReplicaView) (s : Saved) → Follows holds meaning seen v → MayFind v s → IsFound holds meaning.state seen v.cursor s
  found_state v s h (inl same) = record {
    at = subst (λ x. IsStateAt holds meaning.state seen x) (sym same) h.now;
    forward = omega (arith, ap (λ (x : Saved). x.cursor) same);
  }
  found_state v s h (inr asked) =
      let k = h.asked s asked in
      record { at = state_next v k.entry s.contents s h.now k.held k.led k.next refl; forward = omega (arith, k.next) }

  pub follows_done : (old new : ReplicaView) (e : Entry) → Follows holds meaning seen old → holds seen old.cursor e → Advanced meaning.state old e new → Survives meaning.spells new → Follows holds meaning seen new
  follows_done old new e h here a survives = record {
    now = state_next old e new.contents (saved_in new) h.now here a.led a.cursor refl;
    asked = λ s is. absurd (none s is);
    survives = survives;
  }
    where
      none : (s : Saved) → new.asked ≡ Some s → ⊥
      none s is = let no : None ≡ Some s = sym a.none_asked ∙ is in cc

  pub follows_fault : (old new : ReplicaView) (e : Entry) → Follows holds meaning seen old → holds seen old.cursor e → Failed meaning.state old e new → Survives meaning.spells new → Follows holds meaning seen new
  follows_fault old new e h here f survives = record {
    now = subst (λ s. IsStateAt holds meaning.state seen s) (sym (ap saved_in f.is)) h.now;
    asked = λ s is.
        let both : Some next ≡ Some s = sym (ap (λ (v : ReplicaView). v.asked) f.is) ∙ is in
        let same : next ≡ s = cc in
        subst (λ n. IsAsked holds meaning.state seen n s) (sym (ap saved_in f.is))
        (record {
          entry = e;
          held = here;
          led = subst (Advances meaning.state old.contents old.cursor e) (ap (λ (x : Saved). x.contents) same) f.led;
          next = sym (ap (λ (x : Saved). x.cursor) same);
        });
    survives = survives;
  }
    where
      next : Saved
      next = record { cursor = old.cursor + 1; contents = f.next }

  pub follows_reopened : (word : ℕ) (old new : ReplicaView) → Follows holds meaning seen old → Recovered word old new → Survives meaning.spells new → Follows holds meaning seen new
  follows_reopened word old new h r survives = record {
    now = (found_state old (saved_in new) h r.found).at;
    asked = λ s is. absurd (none s is);
    survives = survives;
  }
    where
      none : (s : Saved) → new.asked ≡ Some s → ⊥
      none s is = let no : None ≡ Some s = sym r.none_asked ∙ is in cc

  -- the disk went on, and nothing else
  pub follows_same : (old new : ReplicaView) → Follows holds meaning seen old → saved_in new ≡ saved_in old → new.asked ≡ old.asked → Survives meaning.spells new → Follows holds meaning seen new
  follows_same old new h same asked survives = record {
    now = subst (λ s. IsStateAt holds meaning.state seen s) (sym same) h.now;
    asked = λ s is. subst (λ n. IsAsked holds meaning.state seen n s) (sym same) (h.asked s (sym asked ∙ is));
    survives = survives;
  }

  -- its disk is armed
  pub follows_armed : (v : ReplicaView) (after : ℕ) → Follows holds meaning seen v → Follows holds meaning seen (armed_by v after)
  follows_armed v after h = record { now = h.now; asked = h.asked; survives = h.survives }

  pub found_near : (v : ReplicaView) (s : Saved) → Follows holds meaning seen v → MayFind v s → s.cursor ≤ v.cursor + 1
  found_near v s h (inl same) = omega (arith, ap (λ (x : Saved). x.cursor) same)
  found_near v s h (inr asked) = omega (arith, (h.asked s asked).next)

  -- By which entries it went on

  pub goes_none : (old new : Saved) → new ≡ old → GoesOn holds meaning.state seen old new
  goes_none old new same =
      subst (λ x. GoesOn holds meaning.state seen old x) (sym same)
      (record { entries = []; size = omega (arith); held = λ k e at. absurd (cc); led = λ log size h. subst (λ l. meaning.state l old.contents) (sym (append-nil log)) h })

  pub goes_one : (old new : Saved) (e : Entry) → holds seen old.cursor e → Advances meaning.state old.contents old.cursor e new.contents → new.cursor ≡ old.cursor + 1 → GoesOn holds meaning.state seen old new
  goes_one old new e here led at = record { entries = e ∷ []; size = omega (arith, at); held = first_held; led = led }
    where
      first_held : (k : ℕ) (x : Entry) → slice_get (e ∷ []) k ≡ Some x → holds seen (old.cursor + k) x
      first_held zero x h =
          let same : e ≡ x = cc in
          let first : old.cursor ≡ old.cursor + 0 = omega arith in
          subst (λ i. holds seen i x) first (subst (λ y. holds seen old.cursor y) same here)
      first_held (suc n) x h = absurd (cc)

  pub goes_found : (v : ReplicaView) (s : Saved) → Follows holds meaning seen v → MayFind v s → GoesOn holds meaning.state seen (saved_in v) s
  goes_found v s h (inl same) = goes_none (saved_in v) s same
  goes_found v s h (inr asked) = let k = h.asked s asked in goes_one (saved_in v) s k.entry k.held k.led k.next

  pub goes_on : (a b c : Saved) → GoesOn holds meaning.state seen a b → GoesOn holds meaning.state seen b c → GoesOn holds meaning.state seen a c
  goes_on a b c f g = record {
    entries = f.entries ++ g.entries;
    size = omega (arith, f.size, g.size, length-append f.entries g.entries);
    held = λ k e at.
        ⊎_elim
        (λ (first : slice_get f.entries k ≡ Some e). f.held k e first)
        (λ (next : (j : ℕ) × (k ≡ length f.entries + j) × (slice_get g.entries j ≡ Some e)).
        let here : b.cursor + next.0 ≡ a.cursor + k = omega (arith, f.size, next.1) in
        subst (λ i. holds seen i e) here (g.held next.0 e next.2))
        (append_cases f.entries g.entries k e at);
    led = λ log size h.
        subst (λ l. meaning.state l c.contents) (append_assoc log f.entries g.entries)
        (g.led (log ++ f.entries) (omega (arith, size, f.size, length-append log f.entries)) (f.led log size h));
  }

  -- What a crash leaves

  spells_weaker : (P Q : Saved → Type 0) → ((s : Saved) → P s → Q s) → (image : List ℕ) → SpellsOne meaning.spells P image → SpellsOne meaning.spells Q image
  spells_weaker P Q w image h = (h.0, h.1, w h.0 h.2)

  pub crash_at_rest : (v : ReplicaView) → Follows holds meaning seen v → AnyCrash v.disk v.disk (SpellsOne meaning.spells (IsFound holds meaning.state seen v.cursor))
  crash_at_rest v h =
      stays v.disk v.disk (SpellsOne meaning.spells (IsFound holds meaning.state seen v.cursor)) refl
      (λ image is. spells_weaker (MayFind v) (IsFound holds meaning.state seen v.cursor) (λ s. found_state v s h) image (h.survives image is))

  pub crash_in_apply : (old new : ReplicaView) (e : Entry) → Follows holds meaning seen old → holds seen old.cursor e → AnyCrash old.disk new.disk (SpellsOne meaning.spells (MayFindDuring meaning.state old e)) → AnyCrash old.disk new.disk (SpellsOne meaning.spells (IsFound holds meaning.state seen old.cursor))
  crash_in_apply old new e h here = weaker old.disk new.disk _ _ (spells_weaker (MayFindDuring meaning.state old e) (IsFound holds meaning.state seen old.cursor) one)
    where
      one : (s : Saved) → MayFindDuring meaning.state old e s → IsFound holds meaning.state seen old.cursor s
      one s (inl k) = found_state old s h k
      one s (inr k) = record { at = state_next old e s.contents s h.now here k.1 k.0 refl; forward = omega (arith, k.0) }

  pub crash_in_reopen : (old new : ReplicaView) → Follows holds meaning seen old → AnyCrash old.disk new.disk (SpellsOne meaning.spells (MayFind old)) → AnyCrash old.disk new.disk (SpellsOne meaning.spells (IsFound holds meaning.state seen old.cursor))
  crash_in_reopen old new h = weaker old.disk new.disk _ _ (spells_weaker (MayFind old) (IsFound holds meaning.state seen old.cursor) (λ s. found_state old s h))

-- As the journal goes on

module _ (law : Law) (holds : List Event → ℕ → Entry → Type 0) (meaning : Meaning) (holding : Stays law holds) where
  held_later : (old new : List Event) (pos : ℕ) (e : Entry) → Later law old new → holds old pos e → holds new pos e
  held_later old new pos e later h = subst (λ es. holds es pos e) (sym later.seen) (holding old later.more pos e (subst (IsLegal law) later.seen later.legal) h)

  state_later : (old new : List Event) (s : Saved) → Later law old new → IsStateAt holds meaning.state old s → IsStateAt holds meaning.state new s
  state_later old new s later h = record {
    log = h.log;
    size = h.size;
    front = λ pos e at. held_later old new pos e later (h.front pos e at);
    led = h.led;
  }

  pub follows_later : (old new : List Event) (v : ReplicaView) → Later law old new → Follows holds meaning old v → Follows holds meaning new v
  follows_later old new v later h = record {
    now = state_later old new (saved_in v) later h.now;
    asked = λ s is. let k = h.asked s is in record { entry = k.entry; held = held_later old new v.cursor k.entry later k.held; led = k.led; next = k.next };
    survives = h.survives;
  }

  -- it went on, and went on again
  pub goes_after : (old new : List Event) (a b c : Saved) → Later law old new → GoesOn holds meaning.state old a b → GoesOn holds meaning.state new b c → GoesOn holds meaning.state new a c
  goes_after old new a b c later f g =
      goes_on holds meaning new a b c
      (record { entries = f.entries; size = f.size; held = λ k e at. held_later old new (a.cursor + k) e later (f.held k e at); led = f.led })
      g

  -- one run after another
  pub crash_on : (old new : List Event) (a b v : ReplicaView) → Later law old new → a.cursor ≤ b.cursor
      → AnyCrash a.disk b.disk (SpellsOne meaning.spells (IsFound holds meaning.state old a.cursor))
      → AnyCrash b.disk v.disk (SpellsOne meaning.spells (IsFound holds meaning.state new b.cursor))
      → AnyCrash a.disk v.disk (SpellsOne meaning.spells (IsFound holds meaning.state new a.cursor))
  crash_on old new a b v later le front back =
      joined a.disk b.disk v.disk (SpellsOne meaning.spells (IsFound holds meaning.state new a.cursor))
      (weaker a.disk b.disk _ _ (λ image h. (h.0, h.1, record { at = state_later old new h.0 later h.2.at; forward = h.2.forward })) front)
      (weaker b.disk v.disk _ _ (λ image h. (h.0, h.1, record { at = h.2.at; forward = omega (arith, h.2.forward) })) back)

  -- only what waits changed
  pub follows_rest : (old new : List Event) (v w : ReplicaView) → Later law old new → w ≡ record v { kept = w.kept } → Follows holds meaning old v → Follows holds meaning new w
  follows_rest old new v w later is h =
      let k = follows_later old new v later h in
      subst (λ x. Follows holds meaning new x) (sym is) record { now = k.now; asked = k.asked; survives = k.survives }

  pub crash_rest : (old new : List Event) (a b w : ReplicaView) → Later law old new → w ≡ record b { kept = w.kept }
      → AnyCrash a.disk b.disk (SpellsOne meaning.spells (IsFound holds meaning.state old a.cursor))
      → AnyCrash a.disk w.disk (SpellsOne meaning.spells (IsFound holds meaning.state new a.cursor))
  crash_rest old new a b w later is h =
      subst (λ (x : ReplicaView). AnyCrash a.disk x.disk (SpellsOne meaning.spells (IsFound holds meaning.state new a.cursor))) (sym is)
      (weaker a.disk b.disk _ _ (λ image k. (k.0, k.1, record { at = state_later old new k.0 later k.2.at; forward = k.2.forward })) h)

  pub trimmed_later : (old new : List Event) (pos : ℕ) → Later law old new → IsTrimmed old pos → IsTrimmed new pos
  trimmed_later old new pos later h = record {
    version = h.version;
    chain = h.chain;
    given = (later_continues law old new later).given h.version h.chain h.given;
    below = h.below;
  }

-- How far the log is known

pub known_done : (state : List Entry → SpaceMap → Type 0) (known : ℕ) (old new : ReplicaView) (e : Entry) → old.cursor < known → Advanced state old e new → IsKnown known new
known_done state known old new e low a = record { now = omega (arith, a.cursor); asked = λ s is. absurd (none s is) }
  where
    none : (s : Saved) → new.asked ≡ Some s → ⊥
    none s is = let no : None ≡ Some s = sym a.none_asked ∙ is in cc

pub known_fault : (state : List Entry → SpaceMap → Type 0) (known : ℕ) (old new : ReplicaView) (e : Entry) → old.cursor < known → Failed state old e new → IsKnown known new
known_fault state known old new e low f = record {
  now = omega (arith, ap (λ (v : ReplicaView). v.cursor) f.is);
  asked = λ s is.
      let both : Some next ≡ Some s = sym (ap (λ (v : ReplicaView). v.asked) f.is) ∙ is in
      let same : next ≡ s = cc in
      omega (arith, ap (λ (x : Saved). x.cursor) same);
}
  where
    next : Saved
    next = record { cursor = old.cursor + 1; contents = f.next }

pub known_same : (known : ℕ) (old new : ReplicaView) → IsKnown known old → saved_in new ≡ saved_in old → new.asked ≡ old.asked → IsKnown known new
known_same known old new h same asked = record {
  now = omega (arith, h.now, ap (λ (x : Saved). x.cursor) same);
  asked = λ s is. h.asked s (sym asked ∙ is);
}

pub known_reopened : (word known : ℕ) (old new : ReplicaView) → IsKnown known old → Recovered word old new → IsKnown known new
known_reopened word known old new h r = record { now = found r.found; asked = λ s is. absurd (none s is) }
  where
    found : MayFind old (saved_in new) → new.cursor ≤ known
    found (inl same) = omega (arith, h.now, ap (λ (x : Saved). x.cursor) same)
    found (inr asked) = h.asked (saved_in new) asked

    none : (s : Saved) → new.asked ≡ Some s → ⊥
    none s is = let no : None ≡ Some s = sym r.none_asked ∙ is in cc

pub known_armed : (known : ℕ) (v : ReplicaView) (after : ℕ) → IsKnown known v → IsKnown known (armed_by v after)
known_armed known v after h = record { now = h.now; asked = h.asked }

pub known_rest : (a b : ℕ) (v w : ReplicaView) → a ≤ b → w ≡ record v { kept = w.kept } → IsKnown a v → IsKnown b w
known_rest a b v w le is h = subst (λ x. IsKnown b x) (sym is) record { now = omega (arith, h.now); asked = λ s at. omega (arith, h.asked s at) }

pub known_more : (a b : ℕ) (v : ReplicaView) → a ≤ b → IsKnown a v → IsKnown b v
known_more a b v le h = record { now = omega (arith, h.now); asked = λ s is. omega (arith, h.asked s is) }

-- a position that was above stays so
pub above_later : (law : Law) (who pos : ℕ) (old mid new : List Event) → IsAbove who old pos mid → Later law mid new → IsAbove who old pos new
above_later law who pos old mid new h later = record {
  first = record {
    others = f.others;
    apart = f.apart;
    event = f.event;
    own = f.own;
    rest = f.rest ++ later.more;
    seen = later.seen ∙ ap (λ l. l ++ later.more) f.seen ∙ append_assoc (old ++ f.others) (f.event ∷ f.rest) later.more;
  };
  clears = h.clears;
}
  where
    f : FirstTurn who old mid
    f = h.first

pub max_is : (a b c : ℕ) → a ≤ c → b ≤ c → (c ≡ a) ⊎ (c ≤ b) → c ≡ max a b
max_is a b c h k cases =
    let m = max-le h k in
    let l = le-max_left a b in
    let r = le-max_right a b in
    ⊎_elim (λ e. omega (arith, m, l, e)) (λ e. omega (arith, m, r, e)) cases

pub at_tail : (old new : ReplicaView) (tail : ℕ) (seen : List Event) → old.cursor ≤ tail → Reaches tail old new seen → IsAt tail new seen
at_tail old new tail seen below h =
    ⊎_elim (λ e. inl (e ∙ sym (max_is old.cursor tail tail below (omega (arith)) (inr (omega (arith)))))) (λ l. inr l) h

abbrev pub turns_left : Bool → ℕ
turns_left true = 1
turns_left false = 0
