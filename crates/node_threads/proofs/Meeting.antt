-- All nodes meet at the end of a phase: what each knows holds of the journal that all have seen then.
use Rattle.std.proofs.Common.{◌≡◌, ◌≢◌, refl, sym, ap, ◌∙◌, subst, ◌⊎◌, inl, inr, ⊎_elim, ℕ, zero, suc, ◌+◌, ◌-◌, ◌<◌, ◌≤◌, true, false, List, [], ◌∷◌, ◌++◌, Option, Some, length, append-nil, append_assoc, cond, Bool, ne_eqb, arith}
use Rattle.std.specs.Prelude.{Contains, slice_get}
use Rattle.std.specs.List.{All, AllByRecursion}
use Rattle.std.proofs.lemmas.Bool.{cases_lt}
use Rattle.std.proofs.lemmas.List.{append_cancel_left}
use Rattle.std.proofs.lemmas.List.Elements.{All-head, All-tail}
use Rattle.std.proofs.lemmas.Option.{slice_get_within}
use Rattle.legal_journal.specs.Law.{Law}
use Rattle.legal_journal.specs.declared.events.FabricCall.{FabricCall}
use Rattle.legal_journal.specs.declared.events.Event.{Event}
use Rattle.legal_journal.specs.Journal.{IsLegal}
use Rattle.legal_journal.specs.FaultCalls.{NoneBy, is_fault, made_by}
use Rattle.legal_journal.specs.Sealing.{begins_seal}
use Rattle.legal_journal.specs.Turns.{AreOthers}
use Rattle.pass_lock.specs.Journal.{Follows}
use Rattle.replica_api.specs.Replica.{Meaning}
use Rattle.script_text.specs.declared.asks.NamedLine.{NamedLine}
use Rattle.script_text.specs.declared.faults.FaultLine.{FaultLine}
use Rattle.turn_scopes.specs.Floors.{FloorIs}
use Rattle.turn_scopes.specs.Seats.{SeatView, SeatOk}
use Rattle.node_lines.specs.declared.desk.Desk.{Desk}
use Rattle.node_lines.specs.declared.lines.Looked.{Looked}
use Rattle.node_lines.specs.Workers.{MayRun}
use Rattle.node_lines.proofs.Staying.{seat_later}
use Rattle.run_laws.proofs.Members.{Among, all-at, contained-among, contains-among}
use Rattle.node_course.specs.Script.{AreLines, BeginsAt}
use Rattle.node_course.specs.FaultLines.{AreFaultLines, HasPartIn, IsOutside}
use Rattle.node_course.specs.Moments.{NodeCourse, and_then, first_course}
use Rattle.node_course.specs.Telling.{AreBehind, AreTold, AsksBehind}
use Rattle.node_course.specs.Workers.{Rests}
use Rattle.node_course.proofs.Asked.{behind_joined}
use Rattle.node_course.proofs.Lines.{phase_before}
use Rattle.node_course.proofs.Outside.{outside_unsealing}
use Rattle.node_course.proofs.Staying.{node_stays}
use Rattle.node_crew.specs.Crews.{AreOfPhases, CrewRests, CrewStands, HasSeenAll, SealsOfNodes}
use Rattle.node_crew.specs.Notes.{noted}
use Rattle.node_crew.proofs.Crews.{CrewEnds, crew_ends}
use Rattle.node_crew.proofs.Notes.{noted_size}
use Rattle.node_crew.proofs.Playing.{worker_stands}
use Rattle.node_crew.proofs.Working.{among_parts, worked_on}
use Rattle.node_threads.specs.Parts.{CanTakePart, TookPart}
use Rattle.node_threads.specs.Passes.{signer}
use Rattle.node_threads.specs.Phases.{BeginsPhase, EndsPhase, WentOn}
use Rattle.node_threads.specs.Stirring.{MakesFaults, Stirred, calls_by}
use Rattle.node_threads.specs.Posts.{PostView, all_sufficed, looks_after, seens, workers_of}
use Rattle.node_threads.proofs.Looks.{AllOwn, looks_own, looks_size}
use Rattle.node_threads.proofs.Numbers.{AllFollow}
use Rattle.node_threads.proofs.Stirring.{calls_append, told_faults}
use Rattle.node_threads.proofs.Posts.{AllMet, MetAt, met_at, some_is, sufficed_at, workers_size}

-- Events

all_in : (P : Event → Type 0) (es : List Event) (e : Event) → All P es → Contains es e → P e
all_in P es e all has = subst P has.2 (all has.0 e has.1)

are_others : (n : ℕ) (es : List Event) → All (λ e. e.who ≢ n) es → AreOthers n es
are_others n [] h = tt
are_others n (e ∷ es) h = (All-head (λ (x : Event). x.who ≢ n) e es h, are_others n es (All-tail (λ (x : Event). x.who ≢ n) e es h))

-- what a journal has behind what was seen first, by what was seen then
later_parts : (journal later seen more after whole : List Event) → whole ≡ journal ++ later → seen ≡ journal ++ more → whole ≡ seen ++ after → later ≡ more ++ after
later_parts journal later seen more after whole is then last = append_cancel_left journal later (more ++ after) (sym is ∙ (last ∙ (ap (λ es. es ++ after) then ∙ append_assoc journal more after)))

none_at : (n : ℕ) (es : List Event) (e : Event) → NoneBy n es → Among es e → e.who ≡ n → is_fault e.call ≡ false
none_at n [] e h m own = absurd m
none_at n (x ∷ es) e h (inl same) own = subst (λ (y : Event). y.who ≡ n → is_fault y.call ≡ false) same h.0 own
none_at n (x ∷ es) e h (inr more) own = none_at n es e h.1 more own

all_of : (P : Event → Type 0) (es : List Event) → ((e : Event) → Contains es e → P e) → AllByRecursion P es
all_of P [] h = tt
all_of P (x ∷ es) h = (h x (contains-among (x ∷ es) x (inl refl)), all_of P es (λ e has. h e (contains-among (x ∷ es) e (inr (contained-among es e has)))))

calls_others : (es : List Event) → All (λ e. e.who ≢ 0) es → calls_by 0 es ≡ []
calls_others [] h = refl
calls_others (e ∷ es) h = ap (λ t. cond t (e.call ∷ []) [] ++ calls_by 0 es) (ne_eqb e.who 0 (All-head (λ (x : Event). x.who ≢ 0) e es h)) ∙ calls_others es (All-tail (λ (x : Event). x.who ≢ 0) e es h)

unsealed : (b : Bool) → b ≡ true → b ≡ false → ⊥
unsealed true t f = absurd (cc)
unsealed false t f = absurd (cc)

-- Phases

-- behind the lines of a phase those of the next one begin
pub next_begins : (lines : List NamedLine) (home : ℕ → ℕ) (nodes from to phase : ℕ) → AreLines lines home nodes → BeginsAt lines from phase → EndsPhase lines from to phase → BeginsAt lines to (phase + 1)
next_begins lines home nodes from to phase are starts e = record {
  before = λ i l at low. before i l at low (cases_lt i from);
  behind = λ i l at high. behind i l at high (some_of lines to (let inside = slice_get_within lines i l at in omega (arith, inside, high)));
}
  where
    some_of : {A : Type 0} (xs : List A) (i : ℕ) → i < length xs → (x : A) × (slice_get xs i ≡ Some x)
    some_of [] i low = absurd (omega arith)
    some_of (x ∷ xs) zero low = (x, refl)
    some_of (x ∷ xs) (suc i) low = some_of xs i (omega arith)

    before : (i : ℕ) (l : NamedLine) → slice_get lines i ≡ Some l → i < to → (i < from) ⊎ (from ≤ i) → l.phase < phase + 1
    before i l at low (inl early) = let h1 = starts.before i l at early in omega (arith, h1)
    before i l at low (inr late) = let h1 = e.inside i l late low at in omega (arith, h1)

    behind : (i : ℕ) (l : NamedLine) → slice_get lines i ≡ Some l → to ≤ i → (m : NamedLine) × (slice_get lines to ≡ Some m) → phase + 1 ≤ l.phase
    behind i l at high next =
        let up = phase_before lines home nodes are to i next.0 l next.1 at high in
        let above = e.next next.0 next.1 in
        omega (arith, up, above)

module _ {W : Type 0} (law : Law) (meaning : Meaning) (lines : List NamedLine) (faults : List FaultLine) (phase from to : ℕ) (seat : W → SeatView) (desks : W → List Desk) (journal : List Event) (ws : List W) (looks : List (Option Looked)) where
  -- nodes that rest can take the fabric
  pub rests_stand : CrewRests law meaning lines faults from phase journal looks seat desks ws → CrewStands law meaning journal seat ws
  rests_stand h = λ j w at.
      let inside = slice_get_within ws j w at in
      let s = h.seen (j + 1) (omega arith) (omega (arith, inside)) in
      subst (λ i. SeatOk law meaning i (seat w)) s.seen_is (worker_stands law meaning (j + 1) (h.courses (j + 1)).seen (seat w) (desks w) (h.each j w at).node.ok)

  module _ (h : BeginsPhase law meaning lines faults phase from to journal looks seat desks ws) where
    -- each can take its part in the phase
    pub all_can : FloorIs law.floor (length ws) → AreFaultLines lines faults law.shelf (length ws) → (j : ℕ) (w : W) → slice_get ws j ≡ Some w → CanTakePart law meaning lines faults phase from to (1 + j) journal (seat w) (desks w)
    all_can floor faults_are j w at =
        let inside = slice_get_within ws j w at in
        let s = h.rests.seen (j + 1) (omega arith) (omega (arith, inside)) in
        let number : j + 1 ≡ 1 + j = omega arith in
        record {
          home = h.rests.home;
          nodes = length ws;
          course = h.rests.courses (j + 1);
          looks = looks;
          floor = floor;
          lines_are = h.rests.lines_are;
          faults_are = faults_are;
          phase_is = s.phase_is;
          starts = subst (BeginsAt lines from) (sym s.phase_is) h.rests.ends;
          ends = subst (λ p. BeginsAt lines to (p + 1)) (sym s.phase_is) h.ends;
          seen_is = s.seen_is;
          rests = subst (λ n. Rests law meaning lines h.rests.home (length ws) (h.rests.courses (j + 1)) looks n from (h.rests.courses (j + 1)).phase (seat w) (desks w)) number
              (subst (λ p. Rests law meaning lines h.rests.home (length ws) (h.rests.courses (j + 1)) looks (j + 1) from p (seat w) (desks w)) (sym s.phase_is) (h.rests.each j w at));
        }

  -- The nodes took their parts. Then all have seen `whole`: what they had seen before, and what they made meanwhile.
  module _ (run : MayRun law) (whole later : List Event) (ps : List (PostView W)) (is : whole ≡ journal ++ later) (legal : IsLegal law whole) (below : All (λ e. e.who < 1 + length ws) later) (strays : List FabricCall) (spared : List Event) (stirred : Bool) (stir : Stirred strays journal spared stirred) (spare : Follows signer 0 spared whole)
      (met : AllMet law meaning lines faults phase from to seat desks journal 1 ws ps) (follow : AllFollow 1 (seens ps) whole) where
    abbrev NodeMet : ℕ → Type 0
    NodeMet j = MetAt law meaning lines faults phase from to seat desks journal 1 ws ps whole j

    node_met : (j : ℕ) → j < length ws → NodeMet j
    node_met j low = met_at law meaning lines faults phase from to seat desks journal 1 ws ps whole met follow j low

    size : length (workers_of ps) ≡ length ws
    size = workers_size law meaning lines faults phase from to seat desks journal 1 ws ps met

    -- who had seen all by now that others made since has made nothing
    not_own : (k : ℕ) → Follows signer k journal whole → (e : Event) → Contains later e → e.who ≡ k → ⊥
    not_own k f e has own =
        let same : later ≡ f.0 = append_cancel_left journal later f.0 (sym is ∙ f.1) in
        all_in (λ (x : Event). x.who ≢ k) f.0 e f.2 (subst (λ es. Contains es e) same has) own

    -- what number 0 made since breaks or mends something, or has an old message come again
    stirred_is : later ≡ stir.more ++ spare.0
    stirred_is = later_parts journal later spared stir.more spare.0 whole is stir.seen spare.1

    own_fault : (e : Event) → Contains later e → e.who ≡ 0 → is_fault e.call ≡ true
    own_fault e has own = ⊎_elim
        (λ (then : Among stir.more e). all-at (λ (x : Event). x.who ≡ 0 → is_fault x.call ≡ true) stir.more e stir.faults then own)
        (λ (after : Among spare.0 e). absurd (all_in (λ (x : Event). x.who ≢ 0) spare.0 e spare.2 (contains-among spare.0 e after) own))
        (among_parts stir.more spare.0 e (contained-among (stir.more ++ spare.0) e (subst (λ es. Contains es e) stirred_is has)))

    -- and what a node made doesn't
    node_fault : (j : ℕ) → j < length ws → (e : Event) → Contains later e → e.who ≡ 1 + j → is_fault e.call ≡ false
    node_fault j low e has own =
        let x = node_met j low in
        let q = x.met.part.quiet in
        let f = x.follows in
        ⊎_elim
        (λ (then : Among q.more e). none_at (1 + j) q.more e q.none then own)
        (λ (after : Among f.0 e). absurd (all_in (λ (x : Event). x.who ≢ 1 + j) f.0 e f.2 (contains-among f.0 e after) own))
        (among_parts q.more f.0 e (contained-among (q.more ++ f.0) e (subst (λ es. Contains es e) (later_parts journal later x.met.seen q.more f.0 whole is q.seen f.1) has)))

    -- each event since is of number 0, or of a node with a line
    worked : (e : Event) → Contains later e → IsOutside e ⊎ ((1 ≤ e.who) × (e.who ≤ length ws) × HasPartIn lines faults phase e.who)
    worked e has = ⊎_elim
        (λ (some : 0 < e.who).
        let low : e.who < 1 + length ws = all_in (λ (x : Event). x.who < 1 + length ws) later e below has in
        let j : ℕ = e.who - 1 in
        let number : 1 + j ≡ e.who = omega (arith, some) in
        let x = node_met j (omega (arith, low, some)) in
        ⊎_elim
        (λ (one : HasPartIn lines faults phase (1 + j)). inr (omega (arith, some), omega (arith, low), subst (HasPartIn lines faults phase) number one))
        (λ (still : x.met.seen ≡ journal). absurd (not_own (1 + j) (subst (λ es. Follows signer (1 + j) es whole) still x.follows) e has (sym number)))
        x.met.part.works)
        (λ (none : e.who ≤ 0). let own : e.who ≡ 0 = omega (arith, none) in inl (own, inr (own_fault e has own)))
        (cases_lt 0 e.who)

    own_or_none : (e : Event) → Contains later e → (e.who ≡ 0) ⊎ (is_fault e.call ≡ false)
    own_or_none e has = ⊎_elim
        (λ (some : 0 < e.who).
        let low : e.who < 1 + length ws = all_in (λ (x : Event). x.who < 1 + length ws) later e below has in
        inr (node_fault (e.who - 1) (omega (arith, low, some)) e has (omega (arith, some))))
        (λ (none : e.who ≤ 0). inl (omega (arith, none)))
        (cases_lt 0 e.who)

    -- where memory sufficed the stirrer, these are all faults since
    pub stirs : stirred ≡ true → MakesFaults strays journal whole
    stirs so = record {
      more = later;
      seen = is;
      made = told_faults later (all_of (λ (e : Event). (e.who ≡ 0) ⊎ (is_fault e.call ≡ false)) later own_or_none) (all_of (λ (e : Event). e.who ≡ 0 → is_fault e.call ≡ true) later own_fault)
          ∙ ap (made_by 0) (ap (calls_by 0) stirred_is ∙ (calls_append 0 stir.more spare.0 ∙ (ap (λ l. calls_by 0 stir.more ++ l) (calls_others spare.0 spare.2) ∙ (append-nil (calls_by 0 stir.more) ∙ stir.made so))));
    }

    pub went : WentOn lines faults phase (length ws) journal whole
    went = record { later = later; is = is; each = worked }

    -- whatever it came to, each can take the fabric
    pub met_stand : CrewStands law meaning whole seat (workers_of ps)
    met_stand = λ j w at.
        let inside = slice_get_within (workers_of ps) j w at in
        let x = node_met j (omega (arith, inside, size)) in
        let same : x.met.after ≡ w = some_is x.met.after w (sym x.is ∙ at) in
        subst (λ y. SeatOk law meaning whole (seat y)) same
        (subst (λ es. SeatOk law meaning es (seat x.met.after)) (sym x.follows.1)
        (seat_later law x.met.seen x.follows.0 (subst (IsLegal law) x.follows.1 legal) meaning (seat x.met.after) x.met.part.stands))

    all_own : (n : ℕ) (xs : List W) (qs : List (PostView W)) → AllMet law meaning lines faults phase from to seat desks journal n xs qs → AllOwn lines n qs
    all_own n [] [] m = tt
    all_own n (x ∷ xs) (q ∷ qs) m = (m.0.part.own, all_own (suc n) xs qs m.1)
    all_own n [] (q ∷ qs) m = absurd m
    all_own n (x ∷ xs) [] m = absurd m

    -- Where memory sufficed, their courses went on.
    module _ (h : BeginsPhase law meaning lines faults phase from to journal looks seat desks ws) (sufficed : all_sufficed ps ≡ true) where
      abbrev looks' : List (Option Looked)
      looks' = looks_after looks ps

      -- node n rests behind the phase, by a course that has seen all
      record Carried (n : ℕ) (w : W) : Type 0 where
        pub course : NodeCourse
        pub seen : HasSeenAll phase h.rests.begins whole course
        pub rests : Rests law meaning lines h.rests.home (length ws) course looks' n to (phase + 1) (seat w) (desks w)

      carry : (j : ℕ) (x : NodeMet j) → Carried (j + 1) x.met.after
      carry j x =
          let inside = slice_get_within ws j x.worker x.at in
          let s = h.rests.seen (j + 1) (omega arith) (omega (arith, inside)) in
          let c : NodeCourse = h.rests.courses (j + 1) in
          let number : 1 + j ≡ j + 1 = omega arith in
          let after = x.met.after in
          let notes = x.post.notes in
          let part = subst (λ n. TookPart law meaning lines faults phase from to n journal (seat x.worker) (desks x.worker) x.met.seen (seat after) (desks after) notes x.post.sufficed) number x.met.part in
          let t = part.goes (sufficed_at ps sufficed j x.post x.there) h.rests.home (length ws) c looks h.rests.lines_are (subst (BeginsAt lines from) (sym s.phase_is) h.rests.ends) (subst (λ p. BeginsAt lines to (p + 1)) (sym s.phase_is) h.ends) s.seen_is
          (subst (λ p. Rests law meaning lines h.rests.home (length ws) c looks (j + 1) from p (seat x.worker) (desks x.worker)) (sym s.phase_is) (h.rests.each j x.worker x.at)) in
          let f = x.follows in
          let others : AreOthers (j + 1) f.0 = subst (λ n. AreOthers n f.0) number (are_others (1 + j) f.0 f.2) in
          let now : t.course.seen ++ f.0 ≡ whole = ap (λ es. es ++ f.0) t.seen_is ∙ sym f.1 in
          record {
            course = and_then t.course f.0;
            seen = record { phase_is = t.goes.phase ∙ s.phase_is; begins_are = t.goes.begins ∙ s.begins_are; seen_is = now };
            rests = subst (λ p. Rests law meaning lines h.rests.home (length ws) (and_then t.course f.0) looks' (j + 1) to (p + 1) (seat after) (desks after)) s.phase_is (record {
              node = node_stays law meaning run lines h.rests.home (length ws) t.course (noted looks notes) looks' (j + 1) to to (c.phase + 1) f.0 (seat after) (desks after) others (subst (IsLegal law) (sym now) legal)
                  (looks_size lines looks ps ∙ sym (noted_size looks notes))
                  (λ i l get own. looks_own lines looks 1 ps j x.post i l (all_own 1 ws ps met) x.there get (omega (arith, own, number)))
                  t.rests.node;
              none_given = t.rests.none_given;
            });
          }

      abbrev IsNode : ℕ → Type 0
      IsNode n = (1 ≤ n) × (n ≤ length ws)

      node_or : (n : ℕ) → IsNode n ⊎ (IsNode n → ⊥)
      node_or n = ⊎_elim
          (λ (some : 0 < n). ⊎_elim
          (λ (more : length ws < n). inr (λ k. let high = k.1 in omega (arith, more, high)))
          (λ (within : n ≤ length ws). inl (omega (arith, some), within))
          (cases_lt (length ws) n))
          (λ (none : n ≤ 0). inr (λ k. let low = k.0 in omega (arith, none, low)))
          (cases_lt 0 n)

      index : (n : ℕ) → IsNode n → NodeMet (n - 1)
      index n k = node_met (n - 1) (let low = k.0 in let high = k.1 in omega (arith, low, high))

      course_of : (n : ℕ) → IsNode n ⊎ (IsNode n → ⊥) → NodeCourse
      course_of n (inl k) = (carry (n - 1) (index n k)).course
      course_of n (inr none) = first_course

      number_is : (n : ℕ) → IsNode n → (n - 1) + 1 ≡ n
      number_is n k = let low = k.0 in omega (arith, low)

      seen : (n : ℕ) → IsNode n → (d : IsNode n ⊎ (IsNode n → ⊥)) → HasSeenAll phase h.rests.begins whole (course_of n d)
      unfolding course_of carry
      seen n there (inl k) = (carry (n - 1) (index n k)).seen
      seen n there (inr none) = absurd (none there)

      each : (j : ℕ) (w : W) → slice_get (workers_of ps) j ≡ Some w → (d : IsNode (j + 1) ⊎ (IsNode (j + 1) → ⊥))
          → Rests law meaning lines h.rests.home (length ws) (course_of (j + 1) d) looks' (j + 1) to (phase + 1) (seat w) (desks w)
      unfolding course_of carry
      each j w at (inl k) =
          let i : ℕ = (j + 1) - 1 in
          let x = index (j + 1) k in
          let c = carry i x in
          let back : i ≡ j = omega arith in
          let same : x.met.after ≡ w = some_is x.met.after w (sym x.is ∙ (ap (slice_get (workers_of ps)) back ∙ at)) in
          subst (λ y. Rests law meaning lines h.rests.home (length ws) c.course looks' (j + 1) to (phase + 1) (seat y) (desks y)) same
          (subst (λ n. Rests law meaning lines h.rests.home (length ws) c.course looks' n to (phase + 1) (seat x.met.after) (desks x.met.after)) (number_is (j + 1) k) c.rests)
      each j w at (inr none) = absurd (none (let inside = slice_get_within (workers_of ps) j w at in (omega arith, omega (arith, inside, size))))

      -- what a node told it told as its lines asked, and its requests for trims came behind reports
      told : (n : ℕ) → IsNode n → AreTold lines looks' n whole × AsksBehind n whole
      told n k =
          let c = carry (n - 1) (index n k) in
          subst (λ m. AreTold lines looks' m whole × AsksBehind m whole) (number_is n k)
          (subst (AreTold lines looks' ((n - 1) + 1)) c.seen.seen_is c.rests.node.did.told, subst (AsksBehind ((n - 1) + 1)) c.seen.seen_is c.rests.node.did.behind)

      behind : AreBehind whole
      behind = behind_joined law run lines looks' journal whole later is legal h.rests.behind (λ e has. ⊎_elim (λ (o : IsOutside e). inl o) (λ (w : (1 ≤ e.who) × (e.who ≤ length ws) × HasPartIn lines faults phase e.who). inr (told e.who (w.0, w.1))) (worked e has))

      seals : SealsOfNodes (length ws) whole
      seals = λ e has begins. ⊎_elim
          (λ (was : Among journal e). h.rests.seals e (contains-among journal e was) begins)
          (λ (now : Among later e). ⊎_elim
          (λ (o : IsOutside e). absurd (unsealed (begins_seal e) begins (outside_unsealing (e ∷ []) e (o, tt) (inl refl))))
          (λ (w : (1 ≤ e.who) × (e.who ≤ length ws) × HasPartIn lines faults phase e.who). (w.0, w.1))
          (worked e (contains-among later e now)))
          (among_parts journal later e (contained-among (journal ++ later) e (subst (λ es. Contains es e) is has)))

      made : AreOfPhases lines faults phase h.rests.begins whole
      made = worked_on lines faults phase h.rests.begins journal later whole h.rests.long is
          (λ e has. ⊎_elim
          (λ (o : IsOutside e). inl o)
          (λ (w : (1 ≤ e.who) × (e.who ≤ length ws) × HasPartIn lines faults phase e.who). inr w.2)
          (worked e has))
          h.rests.made

      crew_met : CrewEnds law meaning lines faults from to whole looks' seat desks (workers_of ps)
      crew_met = record {
        home = h.rests.home;
        courses = λ n. course_of n (node_or n);
        phase = phase;
        begins = h.rests.begins;
        lines_are = subst (AreLines lines h.rests.home) (sym size) h.rests.lines_are;
        starts = h.rests.ends;
        ends = h.ends;
        long = h.rests.long;
        made = made;
        seals = subst (λ n. SealsOfNodes n whole) (sym size) seals;
        behind = behind;
        seen = λ n least most. seen n (least, omega (arith, most, size)) (node_or n);
        each = λ j w at. subst (λ n. Rests law meaning lines h.rests.home n (course_of (j + 1) (node_or (j + 1))) looks' (j + 1) to (phase + 1) (seat w) (desks w)) (sym size) (each j w at (node_or (j + 1)));
      }

      pub crew_rested : CrewRests law meaning lines faults to (phase + 1) whole looks' seat desks (workers_of ps)
      unfolding crew_met
      crew_rested = crew_ends law meaning lines faults seat desks (workers_of ps) from to whole looks' crew_met
