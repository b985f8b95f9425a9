-- What a disk in memory keeps, after one event more.
use Rattle.std.proofs.Common.{◌≡◌, ℕ, ◌+◌, ◌-◌, ◌<◌, ◌≤◌, max, List, [], ◌∷◌, ◌++◌, length, take, drop, refl, sym, ◌∙◌, ap, arith, length-append, length-drop}
use Rattle.std.proofs.lemmas.List.{drop-append-le, drop_all, take_all}
use Rattle.disk_model.specs.Disk.{Change, Written, CutTo, changed, replayed, Moment, content, with_change, at_rest, Timeline, followed}
use Rattle.disk_model.specs.Crash.{high}
use Rattle.disk_model.specs.Memory.{next, run, timeline_of, changes_of, image}
use Rattle.disk_model.specs.MemoryKept.{IsKept}
use Rattle.disk_model.specs.declared.event.Event.{Event}
use Rattle.disk_model.specs.declared.event.Event.TheVariants.{Write, Cut, Sync, Reopen}
use Rattle.disk_model.proofs.Images.{replayed_high, image_is}

run_push : (line : Timeline) (es : List Event) (e : Event) → run line (es ++ e ∷ []) ≡ followed (run line es) (next (run line es).now e)
run_push line [] e = refl
run_push line (x ∷ es) e = run_push (followed line (next line.now x)) es e

pub timeline_push : (es : List Event) (e : Event) → timeline_of (es ++ e ∷ []) ≡ followed (timeline_of es) (next (timeline_of es).now e)
timeline_push es e = run_push (record { past = []; now = at_rest [] }) es e

pub replayed_push : (cs : List Change) (c : Change) (b : List ℕ) → replayed (cs ++ c ∷ []) b ≡ changed c (replayed cs b)
replayed_push [] c b = refl
replayed_push (d ∷ cs) c b = replayed_push cs c (changed d b)

pub high_push : (cs : List Change) (c : Change) (b : List ℕ) → high (cs ++ c ∷ []) b ≡ max (high cs b) (length (changed c (replayed cs b)))
high_push [] c b = omega arith
high_push (d ∷ cs) c b = omega (arith, high_push cs c (changed d b))

pub changes_append : (xs ys : List Event) → changes_of (xs ++ ys) ≡ changes_of xs ++ changes_of ys
changes_append [] ys = refl
changes_append (Write at v ∷ xs) ys = ap (λ (l : List Change). Written at v.items ∷ l) (changes_append xs ys)
changes_append (Cut n ∷ xs) ys = ap (λ (l : List Change). CutTo n ∷ l) (changes_append xs ys)
changes_append (Sync ∷ xs) ys = changes_append xs ys
changes_append (Reopen w ∷ xs) ys = changes_append xs ys

-- a range to the end
pub rest_range : (p : ℕ) (es fs : List Event) → fs ≡ es → take (length fs - p) (drop p fs) ≡ drop p es
rest_range p es fs same = take_all (length fs - p) (drop p fs) (omega (arith, length-drop p fs)) ∙ ap (λ (l : List Event). drop p l) same

module _ (live synced : List ℕ) (rl rs : ℕ) (es : List Event) (re p : ℕ) (kept : IsKept live synced rl rs es re p) where
  abbrev m : Moment
  m = (timeline_of es).now

  -- one change more
  pub kept_change : (c : Change) (e : Event) (live' : List ℕ) (rl' rs' re' : ℕ) → next m e ≡ with_change m c → changes_of (e ∷ []) ≡ c ∷ [] → live' ≡ changed c live
      → rl ≤ rl' → length live' ≤ rl' → rs ≤ rs' → length live' ≤ rs' → length es + 1 < re' → IsKept live' synced rl' rs' (es ++ e ∷ []) re' p
  kept_change c e live' rl' rs' re' next_is change_is live_is l1 l2 s1 s2 r =
      let line : timeline_of (es ++ e ∷ []) ≡ followed (timeline_of es) (with_change m c) = timeline_push es e ∙ ap (λ (k : Moment). followed (timeline_of es) k) next_is in
      let now : (timeline_of (es ++ e ∷ [])).now ≡ with_change m c = ap (λ (l : Timeline). l.now) line in
      let long = ap length (live_is ∙ ap (λ (l : List ℕ). changed c l) kept.live_is) in
      let most : high (m.changes ++ c ∷ []) synced ≡ max (high m.changes synced) (length live') =
      high_push m.changes c synced ∙ ap (λ (k : ℕ). max (high m.changes synced) k) (ap (λ (l : List ℕ). length (changed c (replayed m.changes l))) kept.synced_is ∙ sym long) in
      let behind : changes_of (drop p (es ++ e ∷ [])) ≡ changes_of (drop p es) ++ c ∷ [] =
      ap changes_of (drop-append-le p es (e ∷ []) (omega (arith, kept.all_pending))) ∙ changes_append (drop p es) (e ∷ []) ∙ ap (λ (l : List Change). changes_of (drop p es) ++ l) change_is in
      record {
        live_is = live_is ∙ ap (λ (l : List ℕ). changed c l) kept.live_is ∙ sym (replayed_push m.changes c m.synced) ∙ sym (ap content now);
        synced_is = kept.synced_is ∙ sym (ap (λ (k : Moment). k.synced) now);
        changes_are = ap (λ (k : Moment). k.changes) now ∙ ap (λ (l : List Change). l ++ c ∷ []) kept.changes_are ∙ sym behind;
        all_pending = omega (arith, kept.all_pending, length-append es (e ∷ []), ap length behind, length-append (changes_of (drop p es)) (c ∷ []));
        live_room = omega (arith, ap (λ (k : Moment). high k.changes synced) now, most, kept.live_room, l1, l2);
        synced_room = omega (arith, ap (λ (k : Moment). high k.changes synced) now, most, kept.synced_room, s1, s2);
        event_room = λ _. omega (arith, length-append es (e ∷ []), r);
      }

  -- nothing is pending after it
  pub kept_rest : (e : Event) (bytes : List ℕ) (rl' rs' re' p' : ℕ) → next m e ≡ at_rest bytes → length bytes ≤ rl' → length bytes ≤ rs' → p' ≡ length es + 1 → IsKept bytes bytes rl' rs' (es ++ e ∷ []) re' p'
  kept_rest e bytes rl' rs' re' p' next_is l s is =
      let line : timeline_of (es ++ e ∷ []) ≡ followed (timeline_of es) (at_rest bytes) = timeline_push es e ∙ ap (λ (k : Moment). followed (timeline_of es) k) next_is in
      let now : (timeline_of (es ++ e ∷ [])).now ≡ at_rest bytes = ap (λ (k : Timeline). k.now) line in
      let long = length-append es (e ∷ []) in
      record {
        live_is = sym (ap content now);
        synced_is = sym (ap (λ (k : Moment). k.synced) now);
        changes_are = ap (λ (k : Moment). k.changes) now ∙ sym (ap changes_of (drop_all p' (es ++ e ∷ []) (omega (arith, long, is))));
        all_pending = omega (arith, long, is, ap (λ (l : List Event). length (changes_of l)) (drop_all p' (es ++ e ∷ []) (omega (arith, long, is))));
        live_room = omega (arith, ap (λ (k : Moment). high k.changes bytes) now, l);
        synced_room = omega (arith, ap (λ (k : Moment). high k.changes bytes) now, s);
        event_room = λ lt. omega (arith, long, is, lt);
      }

  -- where nothing is pending
  pub rest_now : length es ≤ p → m ≡ at_rest (content m)
  rest_now le =
      let none : m.changes ≡ [] = kept.changes_are ∙ ap changes_of (drop_all p es le) in
      let first : m ≡ at_rest m.synced = ap (λ (cs : List Change). record { synced = m.synced; changes = cs }) none in
      first ∙ ap at_rest (sym (ap (λ (cs : List Change). replayed cs m.synced) none))

  -- the pending changes made again, and the image that a word picks
  pub replayed_now : (fs : List Event) (to : List ℕ) → fs ≡ es → to ≡ replayed (changes_of (take (length fs - p) (drop p fs))) synced → to ≡ live
  replayed_now fs to same is =
      is ∙ ap (λ (l : List Event). replayed (changes_of l) synced) (rest_range p es fs same) ∙ ap (λ (cs : List Change). replayed cs synced) (sym kept.changes_are)
      ∙ ap (λ (l : List ℕ). replayed m.changes l) kept.synced_is ∙ sym kept.live_is

  pub picked_now : (word : ℕ) (fs : List Event) (to : List ℕ) → fs ≡ es → to ≡ image word (record { synced = synced; changes = changes_of (take (length fs - p) (drop p fs)) }) → to ≡ image word m
  picked_now word fs to same is =
      is ∙ ap (λ (l : List Event). image word (record { synced = synced; changes = changes_of l })) (rest_range p es fs same)
      ∙ ap (λ (cs : List Change). image word (record { synced = synced; changes = cs })) (sym kept.changes_are) ∙ ap (λ (l : List ℕ). image word (record { synced = l; changes = m.changes })) kept.synced_is

  pub content_room : (length live ≤ rl) × (length live ≤ rs)
  content_room =
      let most = replayed_high m.changes m.synced in
      let same = ap (λ (l : List ℕ). high m.changes l) kept.synced_is in
      (omega (arith, ap length kept.live_is, most, same, kept.live_room), omega (arith, ap length kept.live_is, most, same, kept.synced_room))

  pub image_room : (word : ℕ) → (length (image word m) ≤ rl) × (length (image word m) ≤ rs)
  image_room word =
      let most = (image_is word m).no_longer in
      let same = ap (λ (l : List ℕ). high m.changes l) kept.synced_is in
      (omega (arith, most, same, kept.live_room), omega (arith, most, same, kept.synced_room))

pub stepped : (v : Timeline) (es fs : List Event) (e : Event) (k : Moment → Moment) → fs ≡ es ++ e ∷ [] → timeline_of es ≡ v → next (timeline_of es).now e ≡ k (timeline_of es).now → timeline_of fs ≡ followed v (k v.now)
stepped v es fs e k is t next_is =
    ap timeline_of is ∙ timeline_push es e ∙ ap (λ (m : Moment). followed (timeline_of es) m) next_is ∙ ap (λ (l : Timeline). followed l (k l.now)) t
