-- The whole log: what it shows, and what it showed before that was trimmed.
use Rattle.std.proofs.Common.{◌≡◌, ◌⊎◌, inl, inr, ⊎_elim, ℕ, zero, suc, ◌+◌, ◌-◌, ◌<◌, ◌≤◌, Bool, true, false, cond, refl, sym, ◌∙◌, ap, subst, arith, List, [], ◌∷◌, ◌++◌, length, Option, Some, None, IsSome}
use Rattle.std.specs.Prelude.{not, ◌&&◌, ◌==◌, nat_lt, if◌then◌else◌, slice_get, take, All}
use Rattle.std.proofs.Math.Seq.{take-append_seam}
use Rattle.std.proofs.lemmas.Bool.Decides.{nat_tests}
use Rattle.std.proofs.lemmas.List.{append-nil, length-append}
use Rattle.std.proofs.lemmas.List.Elements.{All-head, All-tail}
use Rattle.std.proofs.lemmas.Option.{slice_get_within}
use Rattle.delos_types.specs.declared.entry.Entry.{Entry}
use Rattle.delos_types.specs.declared.chain.Segment.{Segment}
use Rattle.delos_types.specs.declared.chain.Chain.{Chain}
use Rattle.chain_map.specs.Chain.{last_of_segments}
use Rattle.loglet_api.specs.declared.call.Answer.{Answer}
use Rattle.legal_journal.specs.declared.events.Event.{Event}
use Rattle.legal_journal.specs.Shown.{end_of, is_within, entry_in}
use Rattle.legal_journal.specs.Moves.{Move, OnCell, OnRegister, Nothing, Never, move}
use Rattle.legal_journal.specs.Journal.{State, Shows, after, now_or_before, reach, entries, ends}
use Rattle.legal_journal.specs.Journal as journal
use Rattle.legal_journal.proofs.Log.{Joined, within_cases, end_closed, end_open, last_open, last_starts, start_above}
use Rattle.legal_journal.proofs.Sound.{log_from}
use Rattle.fabric_core.proofs.Kept.{state_more}
use Rattle.world_steps.specs.declared.shape.Shape.{Shape}
use Rattle.world_steps.specs.declared.step.ChainChange.{ChainChange}
use Rattle.world_steps.specs.declared.step.WorldStep.{WorldStep}
use Rattle.world_steps.specs.declared.step.WorldStep.TheVariants as step
use Rattle.world_steps.specs.Cells.{answer_of, is_open}
use Rattle.world_steps.specs.Parts.{World, cell_at, node_at, given_under, fresh}
use Rattle.world_steps.specs.Events.{is_owner}
use Rattle.world_steps.specs.Guards.{may_begin, may_follow}
use Rattle.world_steps.specs.Logs.{log_at, trim_of, tail_of, shown_in, before, front_from, whole_log, state_of, acts_in}
use Rattle.world_steps.specs.Steps.{Deed, deed, done, told, takes_answer, asked, writes, stops_writing, world_step, run_world}
use Rattle.world_steps.specs.Laws.{WorldLaw, BringsSpelled, IsShelf, IsFrontOf, law_of, any_append, any_trim}
use Rattle.world_steps.proofs.Kept.{Goes, idle, state_ok}
use Rattle.world_steps.proofs.Seen.{log_same, tail_same, shown_now}
use Rattle.world_steps.proofs.Stepped.{step_law}
use Rattle.world_steps.proofs.Fresh.{fresh_law, keeps_any, later, reached}
use Rattle.world_steps.proofs.LogLaws.{some_at, stands_here, continues, tail_grows, log_whole}

---- entries that are shown from a position on

pub front_has : (shown : ℕ → Option Entry) (pos n i : ℕ) (e : Entry) → slice_get (front_from shown pos n) i ≡ Some e → shown (pos + i) ≡ Some e
front_has shown pos zero i e h = absurd (cc)
front_has shown pos (suc n) i e h = by (shown pos) refl i h (λ k g. front_has shown (pos + 1) n k e g)
  where
    by : (o : Option Entry) → shown pos ≡ o → (k : ℕ) → slice_get (before o (front_from shown (pos + 1) n)) k ≡ Some e → ((j : ℕ) → slice_get (front_from shown (pos + 1) n) j ≡ Some e → shown (pos + 1 + j) ≡ Some e) → shown (pos + k) ≡ Some e
    by None is k g rest = absurd (cc)
    by (Some f) is zero g rest = let at : pos ≡ pos + 0 = omega arith in subst (λ p. shown p ≡ Some e) at (is ∙ g)
    by (Some f) is (suc k) g rest = let at : pos + 1 + k ≡ pos + suc k = omega arith in subst (λ p. shown p ≡ Some e) at (rest k g)

front_short : (shown : ℕ → Option Entry) (pos n : ℕ) → length (front_from shown pos n) ≤ n
front_short shown pos zero = omega arith
front_short shown pos (suc n) = by (shown pos) (front_short shown (pos + 1) n)
  where
    by : (o : Option Entry) → length (front_from shown (pos + 1) n) ≤ n → length (before o (front_from shown (pos + 1) n)) ≤ suc n
    by None rest = omega arith
    by (Some f) rest = omega (arith, rest)

-- a list that is shown from the position on is its beginning
front_begins : (shown : ℕ → Option Entry) (pos n : ℕ) (es : List Entry) → ((i : ℕ) → i < length es → shown (pos + i) ≡ slice_get es i) → length es ≤ n → (more : List Entry) × (front_from shown pos n ≡ es ++ more)
front_begins shown pos n [] h l = (front_from shown pos n, refl)
front_begins shown pos zero (e ∷ es) h l = absurd (omega arith)
front_begins shown pos (suc n) (e ∷ es) h l =
    let at : pos + 0 ≡ pos = omega arith in
    let here : shown pos ≡ Some e = subst (λ p. shown p ≡ Some e) at (h 0 (omega arith)) in
    let rest = front_begins shown (pos + 1) n es (λ i k. let next : pos + suc i ≡ pos + 1 + i = omega arith in subst (λ p. shown p ≡ slice_get es i) next (h (suc i) (omega arith))) (omega arith) in
    (rest.0, ap (λ o. before o (front_from shown (pos + 1) n)) here ∙ ap (λ xs. e ∷ xs) rest.1)

front_grows : (old new : ℕ → Option Entry) → ((pos : ℕ) (e : Entry) → old pos ≡ Some e → new pos ≡ Some e) → (pos n m : ℕ) → n ≤ m → (more : List Entry) × (front_from new pos m ≡ front_from old pos n ++ more)
front_grows old new later pos n m l =
    front_begins new pos m (front_from old pos n)
    (λ i k. let x = some_at (front_from old pos n) i k in later (pos + i) x.0 (front_has old pos n i x.0 x.1) ∙ sym x.1)
    (omega (arith, front_short old pos n))

-- where it ends early, nothing is shown
pub front_ends : (shown : ℕ → Option Entry) (pos n : ℕ) → length (front_from shown pos n) < n → shown (pos + length (front_from shown pos n)) ≡ None
front_ends shown pos zero l = absurd (omega arith)
front_ends shown pos (suc n) l = by (shown pos) refl l (λ k. front_ends shown (pos + 1) n k)
  where
    by : (o : Option Entry) → shown pos ≡ o → length (before o (front_from shown (pos + 1) n)) < suc n → (length (front_from shown (pos + 1) n) < n → shown (pos + 1 + length (front_from shown (pos + 1) n)) ≡ None) → shown (pos + length (before o (front_from shown (pos + 1) n))) ≡ None
    by None is k rest = let at : pos ≡ pos + 0 = omega arith in subst (λ p. shown p ≡ None) at is
    by (Some f) is k rest = let at : pos + 1 + length (front_from shown (pos + 1) n) ≡ pos + suc (length (front_from shown (pos + 1) n)) = omega arith in subst (λ p. shown p ≡ None) at (rest (omega (arith, k)))

-- what is shown in full is no longer than what has shown positions
shows_within : (shown : ℕ → Option Entry) (n : ℕ) (es : List Entry) → Shows shown es → ((pos : ℕ) (e : Entry) → shown pos ≡ Some e → pos < n) → length es ≤ n
shows_within shown n es h low = by (length es) refl
  where
    by : (k : ℕ) → length es ≡ k → length es ≤ n
    by zero is = omega (arith, is)
    by (suc k) is = let x = some_at es k (omega (arith, is)) in omega (arith, is, low k x.0 (h k (omega (arith, is)) ∙ x.1))

---- the log ends at its tail

in_below : (tails : ℕ → List ℕ) (i a : ℕ) (r : ℕ → ℕ) (es : ℕ → List Entry) (ss : List Segment) (pos : ℕ) (e : Entry) → Joined tails i a ss → entry_in r es ss pos ≡ Some e → pos < end_of r (last_of_segments ss)
in_below tails i a r es [] pos e j h = absurd j
in_below tails i a r es (s ∷ []) pos e j h = ⊎_elim
    (λ (w : (is_within s.start (end_of r s) pos ≡ true) × ((s.start ≤ pos) × (pos < end_of r s))). w.1.1)
    (λ (w : (is_within s.start (end_of r s) pos ≡ false) × ((pos < s.start) ⊎ (end_of r s ≤ pos))).
    let none : None ≡ Some e = subst (λ b. cond b (slice_get (es s.id) (pos - s.start)) None ≡ Some e) w.0 h in absurd (cc))
    (within_cases s.start (end_of r s) pos)
in_below tails i a r es (s ∷ q ∷ qs) pos e j h = ⊎_elim
    (λ (w : (is_within s.start (end_of r s) pos ≡ true) × ((s.start ≤ pos) × (pos < end_of r s))).
    omega (
      arith,
      w.1.1,
      end_closed r s (a + j.2.0) j.2.1,
      start_above tails (i + 1) (a + j.2.0) (q ∷ qs) (last_of_segments (q ∷ qs)).id (last_of_segments (q ∷ qs)).start j.2.3 (last_starts tails (i + 1) (a + j.2.0) (q ∷ qs) j.2.3),
      end_open r (last_of_segments (q ∷ qs)) (last_open tails (i + 1) (a + j.2.0) (q ∷ qs) j.2.3),
    ))
    (λ (w : (is_within s.start (end_of r s) pos ≡ false) × ((pos < s.start) ⊎ (end_of r s ≤ pos))).
    in_below tails (i + 1) (a + j.2.0) r es (q ∷ qs) pos e j.2.3 (subst (λ b. cond b (slice_get (es s.id) (pos - s.start)) (entry_in r es (q ∷ qs) pos) ≡ Some e) w.0 h))
    (within_cases s.start (end_of r s) pos)

module _ (may : ℕ → Entry → Type 0) (floor : List Entry → ℕ → Type 0) (w : World) (law : WorldLaw may floor w) where
  pub log_below : (pos : ℕ) (e : Entry) → log_at w pos ≡ Some e → pos < tail_of w
  log_below pos e h =
      let s = journal.state_of w.events in
      let ok = state_ok may floor w law in
      let at = log_from (reach s.cells) (entries s.cells) s.register.chain pos e (sym (log_same may floor w law pos) ∙ h) in
      omega (arith, tail_same may floor w law, in_below (ends s.cells) ok.id ok.from (reach s.cells) (entries s.cells) s.register.chain.segments pos e ok.joined at.1)

---- a step tells one event at most

abbrev AddsOne : List Event → List Event → Type 0
AddsOne es fs = (fs ≡ es) ⊎ ((x : Event) × (fs ≡ es ++ x ∷ []))

one_if : (es : List Event) (b : Bool) (x y : World) → AddsOne es x.events → AddsOne es y.events → AddsOne es (if b then x else y).events
one_if es true x y h k = h
one_if es false x y h k = k

none_or_one : (w : World) (o : Option Deed) → ((d : Deed) → o ≡ Some d → (d.event ≡ []) ⊎ ((x : Event) × (d.event ≡ x ∷ []))) → AddsOne w.events (done w o).events
none_or_one w None h = inl refl
none_or_one w (Some d) h = ⊎_elim
    (λ (e : d.event ≡ []). inl (ap (λ xs. w.events ++ xs) e ∙ append-nil w.events))
    (λ (e : (x : Event) × (d.event ≡ x ∷ [])). inr (e.0, ap (λ xs. w.events ++ xs) e.1))
    (h d refl)

if_some : {A : Type 0} (P : A → Type 0) (b : Bool) (x d : A) → (if b then Some x else None) ≡ Some d → P x → P d
if_some P true x d e h = let same : x ≡ d = cc in subst P same h
if_some P false x d e h = absurd (cc)

abbrev TellsOne : Deed → Type 0
TellsOne d = (d.event ≡ []) ⊎ ((x : Event) × (d.event ≡ x ∷ []))

take_tells : (w : World) (who i t : ℕ) (o : Option Answer) (d : Deed) → told w who i t o ≡ Some d → TellsOne d
take_tells w who i t None d e = absurd (cc)
take_tells w who i t (Some a) d e = if_some TellsOne true _ d e (inr (_, refl))

deed_tells : (w : World) (s : WorldStep) (d : Deed) → deed w s ≡ Some d → TellsOne d
deed_tells w (step.Inside i path m) d e = if_some TellsOne (nat_lt i (length w.cells)) _ d e (inl refl)
deed_tells w (step.Begin who i op) d e = if_some TellsOne (nat_lt i (length w.cells) && may_begin w i op) _ d e (inr (_, refl))
deed_tells w (step.Take who i t) d e = by (nat_lt i (length w.cells) && is_owner w.events who i t) e
  where
    by : (b : Bool) → (if b then told w who i t (answer_of (cell_at w.cells i) t) else None) ≡ Some d → TellsOne d
    by true k = take_tells w who i t (answer_of (cell_at w.cells i) t) d k
    by false k = absurd (cc)
deed_tells w (step.Forget who i t) d e = if_some TellsOne ((nat_lt i (length w.cells) && is_owner w.events who i t) && is_open (cell_at w.cells i) t) _ d e (inr (_, refl))
deed_tells w (step.ReadChain who) d e = absurd (cc)
deed_tells w (step.WriteChain who x change) d e = absurd (cc)
deed_tells w (step.WriteStops who x change) d e = absurd (cc)
deed_tells w (step.MendRegister who kept) d e = absurd (cc)
deed_tells w (step.MendFails who) d e = absurd (cc)
deed_tells w (step.Apply k) d e = absurd (cc)
deed_tells w (step.StopNode k) d e = absurd (cc)
deed_tells w (step.RestartNode k kept) d e = absurd (cc)

writes_tells : (w : World) (who x : ℕ) (change : ChainChange) (o : Option Chain) → AddsOne w.events (writes w who x change o).events
writes_tells w who x change None = inl refl
writes_tells w who x change (Some old) =
    one_if w.events (may_follow w old change) _ w
    (one_if w.events (not w.register.up) _ _ (inr (_, refl)) (one_if w.events (not (x == w.register.version)) _ _ (inr (_, refl)) (inr (_, refl)))) (inl refl)

stops_tells : (w : World) (who x : ℕ) (change : ChainChange) (o : Option Chain) → AddsOne w.events (stops_writing w who x change o).events
stops_tells w who x change None = inl refl
stops_tells w who x change (Some old) = one_if w.events ((w.register.up && (x == w.register.version)) && may_follow w old change) _ w (inr (_, refl)) (inl refl)

step_tells : (w : World) (s : WorldStep) → AddsOne w.events (world_step w s).events
step_tells w (step.Inside i path m) = none_or_one w _ (deed_tells w (step.Inside i path m))
step_tells w (step.Begin who i op) = none_or_one w _ (deed_tells w (step.Begin who i op))
step_tells w (step.Take who i t) = none_or_one w _ (deed_tells w (step.Take who i t))
step_tells w (step.Forget who i t) = none_or_one w _ (deed_tells w (step.Forget who i t))
step_tells w (step.ReadChain who) = one_if w.events w.register.up _ _ (inr (_, refl)) (inr (_, refl))
step_tells w (step.WriteChain who x change) = writes_tells w who x change (given_under w.register x)
step_tells w (step.WriteStops who x change) = stops_tells w who x change (given_under w.register x)
step_tells w (step.MendRegister who kept) = one_if w.events w.register.up w _ (inl refl) (inr (_, refl))
step_tells w (step.MendFails who) = one_if w.events w.register.up w _ (inl refl) (inr (_, refl))
step_tells w (step.Apply k) = one_if w.events (node_at w.nodes k).up _ w (inl refl) (inl refl)
step_tells w (step.StopNode k) = one_if w.events (node_at w.nodes k).up _ w (inl refl) (inl refl)
step_tells w (step.RestartNode k kept) = one_if w.events (node_at w.nodes k).up w _ (inl refl) (inl refl)

---- what is shown was shown by the log at some moment

now_or : (o b : Option Entry) (e : Entry) → now_or_before o b ≡ Some e → (b ≡ Some e) ⊎ (o ≡ Some e)
now_or (Some x) b e h = inr h
now_or None b e h = inl h

after_shown : (s : State) (who : ℕ) (m : Move) (pos : ℕ) (e : Entry) → (after s who m).shown pos ≡ Some e → (s.shown pos ≡ Some e) ⊎ (journal.log_at (after s who m) pos ≡ Some e)
after_shown s who (OnCell i m) pos e h = now_or (journal.log_at (after s who (OnCell i m)) pos) (s.shown pos) e h
after_shown s who (OnRegister m) pos e h = now_or (journal.log_at (after s who (OnRegister m)) pos) (s.shown pos) e h
after_shown s who Nothing pos e h = inl h
after_shown s who Never pos e h = inl h

step_shown : (w : World) (s : WorldStep) → WorldLaw any_append any_trim w → WorldLaw any_append any_trim (world_step w s) → (pos : ℕ) (e : Entry) → shown_in (world_step w s) pos ≡ Some e → (shown_in w pos ≡ Some e) ⊎ (log_at (world_step w s) pos ≡ Some e)
step_shown w s law next pos e h = ⊎_elim
    (λ (same : (world_step w s).events ≡ w.events). inl (ap (λ (es : List Event). (journal.state_of es).shown pos) (sym same) ∙ h))
    (λ (one : (x : Event) × ((world_step w s).events ≡ w.events ++ x ∷ [])).
    let x = one.0 in
    let is : journal.state_of (world_step w s).events ≡ after (journal.state_of w.events) x.who (move x) = ap journal.state_of one.1 ∙ state_more (law_of any_append any_trim w) w.events x in
    let shown : (after (journal.state_of w.events) x.who (move x)).shown pos ≡ Some e = ap (λ (t : State). t.shown pos) (sym is) ∙ h in
    ⊎_elim
    (λ (old : shown_in w pos ≡ Some e). inl old)
    (λ (now : journal.log_at (after (journal.state_of w.events) x.who (move x)) pos ≡ Some e). inr (log_same any_append any_trim (world_step w s) next pos ∙ (ap (λ (t : State). journal.log_at t pos) is ∙ now)))
    (after_shown (journal.state_of w.events) x.who (move x) pos e shown))
    (step_tells w s)

-- at some moment of these steps the log showed the entry there
pub record Was (steps : List WorldStep) (w : World) (pos : ℕ) (e : Entry) : Type 0 where
  pub early : List WorldStep
  pub late : List WorldStep
  pub parts : steps ≡ early ++ late
  pub log : log_at (run_world early w) pos ≡ Some e
  pub low : pos < tail_of (run_world steps w)

was_shown : (steps : List WorldStep) (w : World) → WorldLaw any_append any_trim w → All BringsSpelled steps → (pos : ℕ) (e : Entry) → shown_in (run_world steps w) pos ≡ Some e → (shown_in w pos ≡ Some e) ⊎ Was steps w pos e
was_shown [] w law h pos e k = inl k
was_shown (s ∷ steps) w law h pos e k =
    let brings = All-head BringsSpelled s steps h in
    let rest = All-tail BringsSpelled s steps h in
    let next = step_law any_append any_trim w s law (keeps_any w s brings) in
    let new = world_step w s in ⊎_elim
    (λ (old : shown_in new pos ≡ Some e). ⊎_elim
    (λ (first : shown_in w pos ≡ Some e). inl first)
    (λ (now : log_at new pos ≡ Some e). inr (record {
      early = s ∷ [];
      late = steps;
      parts = refl;
      log = now;
      low = omega (arith, log_below any_append any_trim new next pos e now, tail_grows any_append any_trim new next (run_world steps new) (later steps new next rest));
    }))
    (step_shown w s law next pos e old))
    (λ (x : Was steps new pos e). inr (record { early = s ∷ x.early; late = x.late; parts = ap (λ xs. s ∷ xs) x.parts; log = x.log; low = x.low }))
    (was_shown steps new next rest pos e k)

pub was : (shapes : List Shape) (nodes : ℕ) (steps : List WorldStep) → IsShelf shapes → All BringsSpelled steps → (pos : ℕ) (e : Entry) → shown_in (run_world steps (fresh shapes nodes)) pos ≡ Some e → Was steps (fresh shapes nodes) pos e
was shapes nodes steps shelf h pos e k = ⊎_elim
    (λ (none : shown_in (fresh shapes nodes) pos ≡ Some e). let wrong : None ≡ Some e = none in absurd (cc))
    (λ (x : Was steps (fresh shapes nodes) pos e). x)
    (was_shown steps (fresh shapes nodes) (fresh_law any_append any_trim shapes nodes shelf) h pos e k)

---- the whole log

module _ (w : World) (law : WorldLaw any_append any_trim w) where
  -- each of its entries stands, or was trimmed
  pub whole_stands : IsFrontOf w (whole_log w)
  whole_stands pos e h = stands_here any_append any_trim w law pos e ((state_ok any_append any_trim w law).was_shown pos e (shown_at pos e h))
    where
      shown_at : (pos : ℕ) (e : Entry) → slice_get (whole_log w) pos ≡ Some e → shown_in w pos ≡ Some e
      shown_at pos e h = let at : 0 + pos ≡ pos = omega arith in subst (λ p. shown_in w p ≡ Some e) at (front_has (shown_in w) 0 (tail_of w) pos e h)

  -- it has no gap but where more was trimmed than it had
  pub whole_full : trim_of w ≤ length (whole_log w) → length (whole_log w) ≡ tail_of w
  whole_full up = by (nat_lt (length (whole_log w)) (tail_of w)) refl
    where
      nothing : (pos : ℕ) → shown_in w pos ≡ None → (o : Option Entry) → log_at w pos ≡ o → IsSome o → ⊥
      nothing pos none None is h = absurd (cc)
      nothing pos none (Some e) is h = let both : None ≡ Some e = sym none ∙ shown_now any_append any_trim w law pos e is in absurd (cc)

      by : (b : Bool) → nat_lt (length (whole_log w)) (tail_of w) ≡ b → length (whole_log w) ≡ tail_of w
      by true t =
          let n = length (whole_log w) in
          let low : n < tail_of w = grind (arith, nat_tests) in
          let at : 0 + n ≡ n = omega arith in
          let none : shown_in w n ≡ None = subst (λ p. shown_in w p ≡ None) at (front_ends (shown_in w) 0 (tail_of w) low) in
          absurd (nothing n none (log_at w n) refl (log_whole any_append any_trim w law w (idle any_append any_trim w law) n up low))
      by false t = let high : tail_of w ≤ length (whole_log w) = grind (arith, nat_tests) in omega (arith, high, front_short (shown_in w) 0 (tail_of w))

  module _ (new : World) (goes : Goes any_append any_trim w new) where
    pub whole_grows : (more : List Entry) × (whole_log new ≡ whole_log w ++ more)
    whole_grows = front_grows (shown_in w) (shown_in new) (continues any_append any_trim w law new goes).shown 0 (tail_of w) (tail_of new) (tail_grows any_append any_trim w law new goes)

    -- a later one has what the log shows
    pub whole_shows : (pos : ℕ) (e f : Entry) → log_at w pos ≡ Some e → slice_get (whole_log new) pos ≡ Some f → e ≡ f
    whole_shows pos e f h k =
        let first : shown_in new pos ≡ Some e = (continues any_append any_trim w law new goes).shown pos e (shown_now any_append any_trim w law pos e h) in
        let at : 0 + pos ≡ pos = omega arith in
        let now : shown_in new pos ≡ Some f = subst (λ p. shown_in new p ≡ Some f) at (front_has (shown_in new) 0 (tail_of new) pos f k) in
        let both : Some e ≡ Some f = sym first ∙ now in cc

-- a node applied a beginning of it
pub node_begins : (shapes : List Shape) (nodes : ℕ) (steps : List WorldStep) (k : ℕ) → IsShelf shapes → All BringsSpelled steps → let w = run_world steps (fresh shapes nodes) in
    (length (node_at w.nodes k).applied ≤ length (whole_log w)) × ((node_at w.nodes k).applied ≡ take (length (node_at w.nodes k).applied) (whole_log w))
node_begins shapes nodes steps k shelf h =
    let w = run_world steps (fresh shapes nodes) in
    let law = reached shapes nodes steps shelf h in
    let applied = (node_at w.nodes k).applied in
    let shows : Shows (shown_in w) applied = (law.nodes k).applied in
    let short = shows_within (shown_in w) (tail_of w) applied shows (λ pos e x. (was shapes nodes steps shelf h pos e x).low) in
    let begins = front_begins (shown_in w) 0 (tail_of w) applied (λ i l. let at : i ≡ 0 + i = omega arith in subst (λ p. shown_in w p ≡ slice_get applied i) at (shows i l)) short in (
      omega (arith, ap {B = ℕ} (λ (xs : List Entry). length xs) begins.1, length-append applied begins.0),
      sym (ap (λ xs. take (length applied) xs) begins.1 ∙ take-append_seam applied begins.0),
    )
