-- Cells in stripes are a lawful kind, over any kind of which that is known.
use Rattle.std.proofs.Common.{◌≡◌, ◌≢◌, inl, inr, ℕ, suc, ◌+◌, ◌/◌, ◌%◌, ◌<◌, ◌++◌, Bool, true, false, nat_eq, List, [], ◌∷◌, length, map, set, Option, Some, None, refl, sym, ap, ◌∙◌, subst, arith, length-append}
use Rattle.std.specs.Prelude.{◌⊎◌, ◌&&◌, ◌||◌, ◌==◌, not, is_some, slice_get, if◌then◌else◌}
use Rattle.std.specs.Option.{option_map}
use Rattle.std.proofs.lemmas.Bool.{false≢true, and_parts, and_from, or_cases, or_parts, eqb-true, eq-eqb, leb-true, not-true}
use Rattle.std.proofs.lemmas.Bool.Decides.{nat_tests}
use Rattle.std.proofs.lemmas.Option.{none-some, same_Some}
use Rattle.std.proofs.lemmas.List.{append-nil}
use Rattle.delos_types.specs.declared.entry.Entry.{Entry}
use Rattle.loglet_api.specs.declared.call.Op.{Op}
use Rattle.loglet_api.specs.declared.call.Op.TheVariants.{Append, Settle, Tail, Seal, Read, Trim}
use Rattle.loglet_api.specs.declared.call.Answer.{Answer}
use Rattle.loglet_api.specs.declared.call.Answer.TheVariants.{Beyond}
use Rattle.loglet_api.specs.declared.call.Task.{Task}
use Rattle.loglet_api.specs.declared.call.Task.TheVariants.{Placing, Settling, Finding, Sealing, Reading, Trimming}
use Rattle.loglet_api.specs.declared.call.LogletCall.{LogletCall}
use Rattle.loglet_api.specs.declared.call.LogletCall.TheVariants as call
use Rattle.loglet_api.specs.declared.call.LogletAnswer.{LogletAnswer}
use Rattle.loglet_api.specs.declared.call.LogletAnswer.TheVariants as answer
use Rattle.loglet_api.specs.View.{LogletView, Operation, operation_at, size_of, IsOpen}
use Rattle.loglet_api.specs.Step.{wanted_by, CanCall, CanBegin, Does, LogletStep, IsAppend, IsFull, Begins, begun_operation, HasLeft, TakesAnswer, Forgets, Moves, entries_of, bumped}
use Rattle.loglet_api.proofs.Keeps.{step_keeps}
use Rattle.quorum_cell.specs.Cells.{Cell}
use Rattle.quorum_cell.specs.Law.{IsLawful}
use Rattle.stripe_rule.specs.Stripes.{share}
use Rattle.stripe_rule.proofs.Shares.{share_own}
use Rattle.striped_loglet.specs.declared.plan.Stage.{Stage}
use Rattle.striped_loglet.specs.declared.plan.Stage.TheVariants.{First, Last}
use Rattle.striped_loglet.specs.declared.plan.Stage.TheVariants.{Sealing as SealingStage}
use Rattle.striped_loglet.specs.declared.plan.Heard.{Heard}
use Rattle.striped_loglet.specs.declared.plan.Heard.TheVariants.{On, Decided}
use Rattle.striped_loglet.specs.declared.stripe.Inner.{Inner}
use Rattle.striped_loglet.specs.Plans.{added_by, target_of, asked_of, finding_of, plan_behind, heard_by, told_at, IsUnspoken}
use Rattle.striped_loglet.specs.State.{Plain, State, left_of, operation_of, count_of, loglet_of}
use Rattle.striped_loglet.specs.Going.{IsStriped}
use Rattle.striped_loglet.proofs.Lists.{map_get, map_set, some_at, set_back, set_get, length_set}
use Rattle.striped_loglet.proofs.Places.{length_view}
use Rattle.striped_loglet.proofs.Joins.{index_within, own_below}
use Rattle.striped_loglet.proofs.Sounds.{size_is, shown_is, behind, striped_sound}
use Rattle.striped_loglet.proofs.Steps.{moved, moved_moves}
use Rattle.striped_loglet.proofs.Carried.{Puts}
use Rattle.striped_loglet.proofs.Asks.{can_ask}
use Rattle.striped_loglet.proofs.Beginning.{asking, begun_next, never_full}
use Rattle.striped_loglet.proofs.Opening.{begun_plain, begun_state, begun_plainly, begun_append, append_fits}
use Rattle.striped_loglet.proofs.Answering.{told_by, carried_answer, carried_beyond}
use Rattle.striped_loglet.proofs.Removing.{taken_step, forgotten_step, forgotten_inner, refused_step}
use Rattle.striped_cells.specs.declared.motion.Motion.{Motion}
use Rattle.striped_cells.specs.declared.motion.Motion.TheVariants.{Servers, Ask, Hear}
use Rattle.striped_cells.specs.Pursuits.{Pursuit, seen_sealed, plain_of, open_at, plain_at, is_waiting, is_unspoken, heard_so, answer_at}
use Rattle.striped_cells.specs.Ways.{Ways, GoesOn, IsKind}
use Rattle.striped_cells.specs.Striped.{Striped, woven, refused_marks, told_marks, is_append, AllLawful, shut_of, state_of, IsLawfulStriped, inner_of, pursuit_of, admitted, appended, admit, is_full, begin, put_operation, asked_on, asked, asks, heard, heard_on, heard_from, hears, given, takes, dropped_on, dropped, forgets, left_at, stirred, stir, quorum_in, quorum_at, striped_ways}
use Rattle.striped_cells.proofs.Weaving.{HasBelow, at_position, woven_length, woven_more}
use Rattle.striped_cells.proofs.Retelling.{AreAlike, shuts, retold, same_view}
use Rattle.striped_cells.proofs.Quorate.{moves_same}
use Rattle.striped_cells.proofs.Notes.{there, at_there, put_puts, put_open, push_at}

append_is : (op : Op) → is_append op ≡ true → IsAppend op
append_is (Append e) h = tt
append_is (Settle n) h = absurd (false≢true h)
append_is Tail h = absurd (false≢true h)
append_is Seal h = absurd (false≢true h)
append_is (Read p) h = absurd (false≢true h)
append_is (Trim n) h = absurd (false≢true h)

is_append_of : (op : Op) → IsAppend op → is_append op ≡ true
is_append_of (Append e) h = refl
is_append_of (Settle n) h = absurd h
is_append_of Tail h = absurd h
is_append_of Seal h = absurd h
is_append_of (Read p) h = absurd h
is_append_of (Trim n) h = absurd h

pub unspoken_is : (task : Task) (firm : ℕ) → is_unspoken task firm ≡ true → IsUnspoken task firm
unspoken_is (Reading q) firm h = leb-true _ _ h
unspoken_is Placing firm h = absurd (false≢true h)
unspoken_is (Settling n) firm h = absurd (false≢true h)
unspoken_is Finding firm h = absurd (false≢true h)
unspoken_is Sealing firm h = absurd (false≢true h)
unspoken_is (Trimming n) firm h = absurd (false≢true h)

pub spoken_is : (task : Task) (firm : ℕ) → is_unspoken task firm ≡ false → ¬ (IsUnspoken task firm)
spoken_is (Reading q) firm h u = absurd (false≢true (sym h ∙ grind (arith, nat_tests)))
spoken_is Placing firm h u = u
spoken_is (Settling n) firm h u = u
spoken_is Finding firm h u = u
spoken_is Sealing firm h u = u
spoken_is (Trimming n) firm h u = u

-- what a stripe is asked adds no entry
finding_adds : (stage : Stage) → entries_of (finding_of stage) ≡ []
finding_adds First = refl
finding_adds SealingStage = refl
finding_adds Last = refl

asked_adds : (task : Task) (size : ℕ) (stage : Stage) (cut stripe count : ℕ) → entries_of (asked_of task size stage cut stripe count) ≡ []
asked_adds Placing size stage cut stripe count = refl
asked_adds (Settling n) size stage cut stripe count = refl
asked_adds Finding size stage cut stripe count = finding_adds stage
asked_adds Sealing size stage cut stripe count = refl
asked_adds (Reading q) size stage cut stripe count = refl
asked_adds (Trimming n) size stage cut stripe count = refl

told_same : (p : Pursuit) (heard : Heard) → plain_of (heard_so p heard) ≡ told_by (plain_of p) heard
told_same p (On plan) = refl
told_same p (Decided a) = refl

heard_open : (p : Pursuit) (heard : Heard) → (heard_so p heard).closed ≡ p.closed
heard_open p (On plan) = refl
heard_open p (Decided a) = refl

alike_same : (x : Option Plain) → AreAlike x x
alike_same None = tt
alike_same (Some p) = (refl, refl)

pub is_none : {A : Type 0} (o : Option A) → is_some o ≡ false → o ≡ None
is_none None h = refl
is_none (Some a) h = absurd (false≢true (sym h))

pub waiting : (p : Pursuit) → is_waiting p ≡ true → (p.inner ≡ None) × (p.answer ≡ None)
waiting p h = let e : (is_some p.inner || is_some p.answer) ≡ false = not-true _ h in let parts = or_parts (is_some p.inner) (is_some p.answer) e in (is_none p.inner parts.0, is_none p.answer parts.1)

module _ {C : Type 0} (k : Ways C) where
  pub entries_count : (stripes : List C) → length (map k.entries stripes) ≡ length stripes
  entries_count [] = refl
  entries_count (x ∷ xs) = ap suc (entries_count xs)

  seen_shuts : (stripes : List C) → shuts (map seen_sealed (map (shut_of k) stripes)) ≡ shuts (map k.view stripes)
  seen_shuts [] = refl
  seen_shuts (x ∷ xs) = ap (λ (bs : List Bool). (k.view x).shut ∷ bs) (seen_shuts xs)

  module _ (c : Striped C) (h : IsLawfulStriped k c) where
    abbrev s : State
    s = state_of k c

    pub count : length (map k.view c.stripes) ≡ length c.stripes
    count = length_view k.view c.stripes

    pub seen : (i : ℕ) (x : C) → slice_get c.stripes i ≡ Some x → slice_get (map k.view c.stripes) i ≡ Some (k.view x)
    seen i x e = map_get k.view c.stripes i x e

    step_of : (x y : C) (u : LogletCall) (a : LogletAnswer) → k.is_lawful x → k.is_lawful y → CanCall (k.view x) u → Does (k.view x) u a (k.view y) → LogletStep (k.view x) u a (k.view y)
    step_of x y u a lx ly can does = record { before = h.kind.sound x lx; can = can; does = does; after = h.kind.sound y ly }

    all_set : (i : ℕ) (x y : C) → slice_get c.stripes i ≡ Some x → k.is_lawful y → AllLawful k (set c.stripes i y)
    all_set i x y is ly j z e = by (set_get c.stripes i j x y z is e)
      where
        by : ((i ≡ j) × (y ≡ z)) ⊎ ((i ≢ j) × (slice_get c.stripes j ≡ Some z)) → k.is_lawful z
        by (inl here) = subst k.is_lawful here.1 ly
        by (inr other) = h.stripes j z other.1

    same_entries : (i : ℕ) (x y : C) (n : ℕ) → slice_get c.stripes i ≡ Some x → k.entries y ≡ k.entries x → woven (map k.entries (set c.stripes i y)) n ≡ woven (map k.entries c.stripes) n
    same_entries i x y n is e =
        ap (λ (ess : List (List Entry)). woven ess n)
        (map_set k.entries c.stripes i y ∙ (ap (λ (es : List Entry). set (map k.entries c.stripes) i es) e ∙ set_back (map k.entries c.stripes) i (k.entries x) (map_get k.entries c.stripes i x is)))

    -- each position has its entry
    pub has_all : HasBelow (map k.entries c.stripes) c.marks.size
    has_all q l =
        let m = length c.stripes in
        let e : length (map k.entries c.stripes) ≡ m = entries_count c.stripes in
        let some : 0 < m = (let a = h.striped.shaped.count.0 in omega (arith, a, count)) in
        let at = some_at c.stripes (q % m) (own_below m q some) in
        let size : length (k.entries at.0) ≡ share m (q % m) c.marks.size = h.kind.whole at.0 (h.stripes (q % m) at.0 at.1) ∙ (h.striped.stripes (q % m) (k.view at.0) (seen (q % m) at.0 at.1)).size ∙ ap (λ n. share n (q % m) c.marks.size) count in
        let low : q / m < length (k.entries at.0) = (let a = index_within m q c.marks.size some l in omega (arith, a, size)) in
        let entry = some_at (k.entries at.0) (q / m) low in
        (entry.0, at_position (map k.entries c.stripes) m q (k.entries at.0) entry.0 e (map_get k.entries c.stripes (q % m) at.0 at.1) entry.1)

    ---- an operation begins

    full_cases : (op : Op) → is_full k c op ≡ true → (IsAppend op × (c.marks.size ≡ c.shape.room)) ⊎ (c.marks.begun ≡ c.shape.limit)
    full_cases op e = by (or_cases _ _ e)
      where
        by : ((is_append op && (c.marks.size == c.shape.room)) ≡ true) ⊎ ((c.marks.begun == c.shape.limit) ≡ true) → (IsAppend op × (c.marks.size ≡ c.shape.room)) ⊎ (c.marks.begun ≡ c.shape.limit)
        by (inl both) = let parts = and_parts _ _ both in inl (append_is op parts.0, eqb-true _ _ parts.1)
        by (inr most) = inr (eqb-true _ _ most)

    free_cases : (op : Op) → is_full k c op ≡ false → ¬ ((IsAppend op × (c.marks.size ≡ c.shape.room)) ⊎ (c.marks.begun ≡ c.shape.limit))
    free_cases op e (inl both) = false≢true (sym (or_parts _ _ e).0 ∙ and_from _ _ (is_append_of op both.0) (eq-eqb _ _ both.1))
    free_cases op e (inr most) = false≢true (sym (or_parts _ _ e).1 ∙ eq-eqb _ _ most)

    refuses : (op : Op) → is_full k c op ≡ true → GoesOn (striped_ways k) (record c { marks = refused_marks c.marks }) (woven (map k.entries c.stripes) c.marks.size) (IsFull (loglet_of s) op × (loglet_of (state_of k (record c { marks = refused_marks c.marks })) ≡ record (loglet_of s) { faults = bumped (loglet_of s).faults }))
    refuses op full =
        let all = refused_step s (refused_marks c.marks) op h.striped (full_cases op full) refl in
        record {
          lawful = record { kind = h.kind; stripes = h.stripes; striped = all.0; tickets = h.tickets };
          does = (all.1, all.2);
          keeps = refl;
        }

    -- what is noted, as a striped loglet notes it
    abbrev noted : Op → Option Inner → ℕ → Option Plain
    noted op inner q = if nat_eq c.marks.begun q then Some (begun_plain s op inner) else plain_at c.operations q

    noted_alike : (op : Op) (inner : Option Inner) (q : ℕ) → AreAlike (noted op inner q) (plain_at (c.operations ++ pursuit_of k c op inner ∷ []) q)
    noted_alike op inner q = subst (λ (x : Option Plain). AreAlike (noted op inner q) x) (sym (push_at c.operations (pursuit_of k c op inner) c.marks.begun q h.tickets)) (by (nat_eq c.marks.begun q))
      where
        by : (b : Bool) → AreAlike (if b then Some (begun_plain s op inner) else plain_at c.operations q) (if b then Some (plain_of (pursuit_of k c op inner)) else plain_at c.operations q)
        by true = (refl, seen_shuts c.stripes)
        by false = alike_same (plain_at c.operations q)

    more_tickets : (op : Op) (inner : Option Inner) → length (c.operations ++ pursuit_of k c op inner ∷ []) ≡ c.marks.begun + 1
    more_tickets op inner = (let a = length-append c.operations (pursuit_of k c op inner ∷ []) in let b = h.tickets in omega (arith, a, b))

    -- from what a striped loglet notes to what is noted here
    admitted_so : (op : Op) (inner : Option Inner) (stripes : List C) (entries : List Entry) → AllLawful k stripes → woven (map k.entries stripes) (c.marks.size + added_by op) ≡ entries
        → IsStriped (begun_state s op (map k.view stripes) (noted op inner)) × Begins (loglet_of s) op c.marks.begun (loglet_of (begun_state s op (map k.view stripes) (noted op inner)))
        → GoesOn (striped_ways k) (admitted k c op stripes inner) entries (Begins (loglet_of s) op c.marks.begun (loglet_of (state_of k (admitted k c op stripes inner))))
    admitted_so op inner stripes entries lawful keeps all =
        let n = begun_state s op (map k.view stripes) (noted op inner) in
        let at = plain_at (c.operations ++ pursuit_of k c op inner ∷ []) in
        record {
          lawful = record { kind = h.kind; stripes = lawful; striped = retold n at (noted_alike op inner) all.0; tickets = more_tickets op inner };
          does = subst (λ (v : LogletView). Begins (loglet_of s) op c.marks.begun v) (sym (same_view n at (noted_alike op inner))) all.1;
          keeps = keeps;
        }

    admits_plainly : (op : Op) → ¬ (IsAppend op) → is_full k c op ≡ false → woven (map k.entries c.stripes) (c.marks.size + added_by op) ≡ woven (map k.entries c.stripes) c.marks.size ++ entries_of op
        → GoesOn (striped_ways k) (admitted k c op c.stripes None) (woven (map k.entries c.stripes) c.marks.size ++ entries_of op) (Begins (loglet_of s) op c.marks.begun (loglet_of (state_of k (admitted k c op c.stripes None))))
    admits_plainly op not free keeps = admitted_so op None c.stripes (woven (map k.entries c.stripes) c.marks.size ++ entries_of op) h.stripes keeps (begun_plainly s op (noted op None) h.striped not (free_cases op free) (λ q. refl))

    no_more : woven (map k.entries c.stripes) (c.marks.size + 0) ≡ woven (map k.entries c.stripes) c.marks.size ++ []
    no_more = let e : c.marks.size + 0 ≡ c.marks.size = omega arith in ap (woven (map k.entries c.stripes)) e ∙ sym (append-nil (woven (map k.entries c.stripes) c.marks.size))

    -- what is left of an operation of a stripe that began
    left_then : (x : C) (op : Op) (i : ℕ) → k.is_lawful (k.begin x op) → Begins (k.view x) op (k.view x).begun (k.view (k.begin x op)) → HasLeft (k.view (k.begin x op)) (inner_of k i x op).ticket (inner_of k i x op).rounds (inner_of k i x op).steps
    left_then x op i lawful b =
        let t = (k.view x).begun in
        let same : nat_eq t t ≡ true = grind (arith, nat_tests) in
        let is : operation_at (k.view (k.begin x op)).operations t ≡ Some (begun_operation (k.view x) op b.left) = b.operation t ∙ rw same refl in
        record {
          operation = begun_operation (k.view x) op b.left;
          is = is;
          left = sym (h.kind.left (k.begin x op) t (begun_operation (k.view x) op b.left) lawful is);
        }

    pub some_stripes : 0 < length c.stripes
    some_stripes = (let a = h.striped.shaped.count.0 in omega (arith, a, count))

    appends : (e : Entry) (x : C) → CanBegin (Append e) → slice_get c.stripes (c.marks.size % length c.stripes) ≡ Some x → is_full k c (Append e) ≡ false
        → GoesOn (striped_ways k) (appended k c (Append e) (c.marks.size % length c.stripes) (Some x)) (woven (map k.entries c.stripes) c.marks.size ++ e ∷ []) (Begins (loglet_of s) (Append e) c.marks.begun (loglet_of (state_of k (appended k c (Append e) (c.marks.size % length c.stripes) (Some x)))))
    appends e x can is free =
        let op : Op = Append e in
        let i : ℕ = c.marks.size % length c.stripes in
        let y : C = k.begin x op in
        let lx = h.stripes i x is in
        let own : i ≡ c.marks.size % count_of s = ap (λ n. c.marks.size % n) (sym count) in
        let room : k.is_full x op ≡ false = not_full (k.is_full x op) refl in
        let b = h.kind.begins x op lx can room in
        let step = step_of x y (call.Begin op) (answer.Begun (k.view x).begun) lx b.lawful can b.does in
        let inner = inner_of k i x op in
        let all = begun_append s e (noted op (Some inner)) inner (k.view x) (k.view y) h.striped (free_cases op free) own (seen i x is) step.after (step_keeps (k.view x) (call.Begin op) (answer.Begun (k.view x).begun) (k.view y) step) b.does (left_then x op i b.lawful b.does) (λ q. refl) in
        let views : set (map k.view c.stripes) i (k.view y) ≡ map k.view (set c.stripes i y) = sym (map_set k.view c.stripes i y) in
        admitted_so op (Some inner) (set c.stripes i y) (woven (map k.entries c.stripes) c.marks.size ++ e ∷ []) (all_set i x y is b.lawful) (keeps b.keeps)
        (subst (λ (vs : List LogletView). IsStriped (begun_state s op vs (noted op (Some inner))) × Begins (loglet_of s) op c.marks.begun (loglet_of (begun_state s op vs (noted op (Some inner))))) views all)
      where
        not_full : (b : Bool) → k.is_full x (Append e) ≡ b → k.is_full x (Append e) ≡ false
        not_full false t = t
        not_full true t =
            let i : ℕ = c.marks.size % length c.stripes in
            absurd (append_fits s i (k.view x) (Append e) h.striped (seen i x is) (ap (λ n. c.marks.size % n) (sym count)) tt (free_cases (Append e) free) (h.kind.refuses x (Append e) (h.stripes i x is) can t).does.0)

        keeps : k.entries (k.begin x (Append e)) ≡ k.entries x ++ e ∷ [] → woven (map k.entries (set c.stripes (c.marks.size % length c.stripes) (k.begin x (Append e)))) (c.marks.size + 1) ≡ woven (map k.entries c.stripes) c.marks.size ++ e ∷ []
        keeps new =
            let m = length c.stripes in
            let i : ℕ = c.marks.size % m in
            let ess = map k.entries c.stripes in
            let e' : length ess ≡ m = entries_count c.stripes in
            let next : c.marks.size + 1 ≡ suc c.marks.size = omega arith in
            let at : slice_get ess (c.marks.size % length ess) ≡ Some (k.entries x) = rw e' (map_get k.entries c.stripes i x is) in
            let own : (share (count_of s) i c.marks.size) ≡ c.marks.size / m = ap (λ n. share n i c.marks.size) count ∙ share_own m c.marks.size some_stripes in
            let long : length (k.entries x) ≡ c.marks.size / length ess = h.kind.whole x (h.stripes i x is) ∙ (h.striped.stripes i (k.view x) (seen i x is)).size ∙ own ∙ ap (λ n. c.marks.size / n) (sym e') in
            let more = woven_more ess c.marks.size (k.entries x) e has_all at long in
            let sets : map k.entries (set c.stripes i (k.begin x (Append e))) ≡ set ess (c.marks.size % length ess) (k.entries x ++ e ∷ []) =
            map_set k.entries c.stripes i (k.begin x (Append e)) ∙ (ap (λ (es : List Entry). set ess i es) new ∙ ap (λ n. set ess (c.marks.size % n) (k.entries x ++ e ∷ [])) (sym e')) in
            ap (woven (map k.entries (set c.stripes i (k.begin x (Append e))))) next ∙ (ap (λ (xs : List (List Entry)). woven xs (suc c.marks.size)) sets ∙ more)

    begins_on : (e : Entry) (o : Option C) → CanBegin (Append e) → slice_get c.stripes (c.marks.size % length c.stripes) ≡ o → is_full k c (Append e) ≡ false
        → GoesOn (striped_ways k) (appended k c (Append e) (c.marks.size % length c.stripes) o) (woven (map k.entries c.stripes) c.marks.size ++ e ∷ []) (Begins (loglet_of s) (Append e) c.marks.begun (loglet_of (state_of k (appended k c (Append e) (c.marks.size % length c.stripes) o))))
    begins_on e None can is free =
        let at = some_at c.stripes (c.marks.size % length c.stripes) (own_below (length c.stripes) c.marks.size some_stripes) in
        absurd (none-some at.0 (sym is ∙ at.1))
    begins_on e (Some x) can is free = appends e x can is free

    admits : (op : Op) → CanBegin op → is_full k c op ≡ false → GoesOn (striped_ways k) (admit k c op) (woven (map k.entries c.stripes) c.marks.size ++ entries_of op) (Begins (loglet_of s) op c.marks.begun (loglet_of (state_of k (admit k c op))))
    admits (Append e) can free = begins_on e (slice_get c.stripes (c.marks.size % length c.stripes)) can refl free
    admits (Settle n) can free = admits_plainly (Settle n) (λ a. a) free no_more
    admits Tail can free = admits_plainly Tail (λ a. a) free no_more
    admits Seal can free = admits_plainly Seal (λ a. a) free no_more
    admits (Read p) can free = admits_plainly (Read p) (λ a. a) free no_more
    admits (Trim n) can free = admits_plainly (Trim n) (λ a. a) free no_more

    striped_begins : (op : Op) → CanBegin op → is_full k c op ≡ false → GoesOn (striped_ways k) (begin k c op) (woven (map k.entries c.stripes) c.marks.size ++ entries_of op) (Begins (loglet_of s) op c.marks.begun (loglet_of (state_of k (begin k c op))))
    striped_begins op can free =
        subst (λ (b : Bool). GoesOn (striped_ways k) (if b then record c { marks = refused_marks c.marks } else admit k c op) (woven (map k.entries c.stripes) c.marks.size ++ entries_of op) (Begins (loglet_of s) op c.marks.begun (loglet_of (state_of k (if b then record c { marks = refused_marks c.marks } else admit k c op)))))
        (sym free) (admits op can free)

    striped_refuses : (op : Op) → is_full k c op ≡ true → GoesOn (striped_ways k) (begin k c op) (woven (map k.entries c.stripes) c.marks.size) (IsFull (loglet_of s) op × (loglet_of (state_of k (begin k c op)) ≡ record (loglet_of s) { faults = bumped (loglet_of s).faults }))
    striped_refuses op full =
        subst (λ (b : Bool). GoesOn (striped_ways k) (if b then record c { marks = refused_marks c.marks } else admit k c op) (woven (map k.entries c.stripes) c.marks.size) (IsFull (loglet_of s) op × (loglet_of (state_of k (if b then record c { marks = refused_marks c.marks } else admit k c op)) ≡ record (loglet_of s) { faults = bumped (loglet_of s).faults })))
        (sym full) (refuses op full)

    ---- it goes round the stripes

    unmoved : GoesOn (striped_ways k) c (woven (map k.entries c.stripes) c.marks.size) (Moves (loglet_of s) (loglet_of s))
    unmoved = record { lawful = h; does = moves_same (loglet_of s); keeps = refl }

    -- one stripe goes on, and one operation with it
    moves_so : (i t : ℕ) (x y : C) (old new : Pursuit) → slice_get c.stripes i ≡ Some x → slice_get c.operations t ≡ Some old → k.is_lawful y → k.entries y ≡ k.entries x
        → IsStriped (state_of k (record c { stripes = set c.stripes i y; operations = set c.operations t new })) × Moves (loglet_of s) (loglet_of (state_of k (record c { stripes = set c.stripes i y; operations = set c.operations t new })))
        → GoesOn (striped_ways k) (record c { stripes = set c.stripes i y; operations = set c.operations t new }) (woven (map k.entries c.stripes) c.marks.size) (Moves (loglet_of s) (loglet_of (state_of k (record c { stripes = set c.stripes i y; operations = set c.operations t new }))))
    moves_so i t x y old new is at lawful entries all = record {
      lawful = record { kind = h.kind; stripes = all_set i x y is lawful; striped = all.0; tickets = length_set c.operations t new ∙ h.tickets };
      does = all.1;
      keeps = same_entries i x y c.marks.size is entries;
    }

    says_beyond : (t : ℕ) (p : Pursuit) → open_at c.operations t ≡ Some p → is_waiting p ≡ true → is_unspoken p.asked.task p.asked.firm ≡ true
        → GoesOn (striped_ways k) (put_operation k c t (record p { inner = None; answer = Some (Beyond p.asked.firm) })) (woven (map k.entries c.stripes) c.marks.size) (Moves (loglet_of s) (loglet_of (state_of k (put_operation k c t (record p { inner = None; answer = Some (Beyond p.asked.firm) })))))
    says_beyond t p at waits beyond =
        let new : Pursuit = record p { inner = None; answer = Some (Beyond p.asked.firm) } in
        let none = waiting p waits in
        let is = there c.operations t p at in
        let all = carried_beyond s (plain_at (set c.operations t new)) t (plain_of p) h.striped (at_there c.operations t p at) none.0 none.1 (unspoken_is p.asked.task p.asked.firm beyond) (put_open c.operations t p new is.is is.open_still) in
        record {
          lawful = record { kind = h.kind; stripes = h.stripes; striped = all.0; tickets = length_set c.operations t new ∙ h.tickets };
          does = all.1.moves;
          keeps = refl;
        }

    asks_stripe : (t : ℕ) (p : Pursuit) (x : C) → open_at c.operations t ≡ Some p → is_waiting p ≡ true → is_unspoken p.asked.task p.asked.firm ≡ false → slice_get c.stripes (target_of p.asked.task (length c.stripes) p.plan) ≡ Some x
        → GoesOn (striped_ways k) (asked_on k c t p (target_of p.asked.task (length c.stripes) p.plan) (Some x)) (woven (map k.entries c.stripes) c.marks.size) (Moves (loglet_of s) (loglet_of (state_of k (asked_on k c t p (target_of p.asked.task (length c.stripes) p.plan) (Some x)))))
    asks_stripe t p x at waits spoken is =
        let m = length c.stripes in
        let i : ℕ = target_of p.asked.task m p.plan in
        let op : Op = asked_of p.asked.task p.asked.size p.plan.stage c.marks.cut i m in
        let y : C = k.begin x op in
        let lx = h.stripes i x is in
        let none = waiting p waits in
        let home = there c.operations t p at in
        let plain = at_there c.operations t p at in
        let can : CanBegin op = can_ask p.asked.task p.asked.size p.plan.stage c.marks.cut i m in
        let target : i ≡ target_of p.asked.task (count_of s) p.plan = ap (λ n. target_of p.asked.task n p.plan) (sym count) in
        let same : op ≡ asked_of p.asked.task p.asked.size p.plan.stage c.marks.cut i (count_of s) = ap (λ n. asked_of p.asked.task p.asked.size p.plan.stage c.marks.cut i n) (sym count) in
        let room : k.is_full x op ≡ false = not_full (k.is_full x op) refl in
        let b = h.kind.begins x op lx can room in
        let step = step_of x y (call.Begin op) (answer.Begun (k.view x).begun) lx b.lawful can b.does in
        let inner = inner_of k i x op in
        let new : Pursuit = record p { plan = plan_behind p.asked.task m p.plan; inner = Some inner; answer = None } in
        let puts : Puts s.at t (Some (asking (plain_of p) (count_of s) inner)) (plain_at (set c.operations t new)) =
        subst (λ n. Puts s.at t (Some (asking (plain_of p) n inner)) (plain_at (set c.operations t new))) (sym count) (put_open c.operations t p new home.is home.open_still) in
        let all = begun_next s (plain_at (set c.operations t new)) t (plain_of p) (k.view x) (k.view y) inner op h.striped plain none.0 none.1 (spoken_is p.asked.task p.asked.firm spoken) (seen i x is) target same step.after (step_keeps (k.view x) (call.Begin op) (answer.Begun (k.view x).begun) (k.view y) step) b.does (left_then x op i b.lawful b.does) puts in
        let kept : k.entries y ≡ k.entries x = b.keeps ∙ (ap (λ (es : List Entry). k.entries x ++ es) (asked_adds p.asked.task p.asked.size p.plan.stage c.marks.cut i m) ∙ append-nil (k.entries x)) in
        moves_so i t x y p new is home.is b.lawful kept
        (subst (λ (vs : List LogletView). IsStriped (record s { views = vs; at = plain_at (set c.operations t new) }) × Moves (loglet_of s) (loglet_of (record s { views = vs; at = plain_at (set c.operations t new) }))) (sym (map_set k.view c.stripes i y)) (all.0, all.1.moves))
      where
        not_full : (b : Bool) → k.is_full x (asked_of p.asked.task p.asked.size p.plan.stage c.marks.cut (target_of p.asked.task (length c.stripes) p.plan) (length c.stripes)) ≡ b → k.is_full x (asked_of p.asked.task p.asked.size p.plan.stage c.marks.cut (target_of p.asked.task (length c.stripes) p.plan) (length c.stripes)) ≡ false
        not_full false e = e
        not_full true e =
            let m = length c.stripes in
            let i : ℕ = target_of p.asked.task m p.plan in
            let none = waiting p waits in
            let full = (h.kind.refuses x (asked_of p.asked.task p.asked.size p.plan.stage c.marks.cut i m) (h.stripes i x is) (can_ask p.asked.task p.asked.size p.plan.stage c.marks.cut i m) e).does.0 in
            absurd (never_full s t (plain_of p) i (k.view x) h.striped (at_there c.operations t p at) none.0 none.1 (seen i x is) (ap (λ n. target_of p.asked.task n p.plan) (sym count)) (subst (λ n. IsFull (k.view x) (asked_of p.asked.task p.asked.size p.plan.stage c.marks.cut i n)) (sym count) full))

    asks_on : (t : ℕ) (p : Pursuit) (o : Option C) → open_at c.operations t ≡ Some p → is_waiting p ≡ true → is_unspoken p.asked.task p.asked.firm ≡ false → slice_get c.stripes (target_of p.asked.task (length c.stripes) p.plan) ≡ o
        → GoesOn (striped_ways k) (asked_on k c t p (target_of p.asked.task (length c.stripes) p.plan) o) (woven (map k.entries c.stripes) c.marks.size) (Moves (loglet_of s) (loglet_of (state_of k (asked_on k c t p (target_of p.asked.task (length c.stripes) p.plan) o))))
    asks_on t p None at waits spoken is = unmoved
    asks_on t p (Some x) at waits spoken is = asks_stripe t p x at waits spoken is

    asks_moves : (t : ℕ) (o : Option Pursuit) → open_at c.operations t ≡ o → GoesOn (striped_ways k) (asks k c t o) (woven (map k.entries c.stripes) c.marks.size) (Moves (loglet_of s) (loglet_of (state_of k (asks k c t o))))
    asks_moves t None at = unmoved
    asks_moves t (Some p) at = by (is_waiting p) refl
      where
        so : is_waiting p ≡ true → (b : Bool) → is_unspoken p.asked.task p.asked.firm ≡ b
            → let new = if b then put_operation k c t (record p { inner = None; answer = Some (Beyond p.asked.firm) }) else asked_on k c t p (target_of p.asked.task (length c.stripes) p.plan) (slice_get c.stripes (target_of p.asked.task (length c.stripes) p.plan)) in
            GoesOn (striped_ways k) new (woven (map k.entries c.stripes) c.marks.size) (Moves (loglet_of s) (loglet_of (state_of k new)))
        so waits true e = says_beyond t p at waits e
        so waits false e = asks_on t p (slice_get c.stripes (target_of p.asked.task (length c.stripes) p.plan)) at waits e refl

        by : (b : Bool) → is_waiting p ≡ b → GoesOn (striped_ways k) (if b then asked k c t p else c) (woven (map k.entries c.stripes) c.marks.size) (Moves (loglet_of s) (loglet_of (state_of k (if b then asked k c t p else c))))
        by true e = so e (is_unspoken p.asked.task p.asked.firm) refl
        by false e = unmoved

    hears_answer : (t : ℕ) (p : Pursuit) (inner : Inner) (x : C) (a : Answer) → open_at c.operations t ≡ Some p → p.answer ≡ None → p.inner ≡ Some inner → slice_get c.stripes inner.stripe ≡ Some x → k.answer x inner.ticket ≡ Some a
        → GoesOn (striped_ways k) (heard k c t p inner x (Some a)) (woven (map k.entries c.stripes) c.marks.size) (Moves (loglet_of s) (loglet_of (state_of k (heard k c t p inner x (Some a)))))
    hears_answer t p inner x a at nothing mine is told =
        let m = length c.stripes in
        let i : ℕ = inner.stripe in
        let y : C = k.take x inner.ticket in
        let lx = h.stripes i x is in
        let home = there c.operations t p at in
        let plain = at_there c.operations t p at in
        let b = h.kind.takes x inner.ticket a lx told in
        let can : IsOpen (k.view x) inner.ticket = open_some (k.view x) inner.ticket b.does.operation b.does.is in
        let step = step_of x y (call.Take inner.ticket) (answer.Taken (Some a)) lx b.lawful can b.does in
        let what = heard_by p.asked.task p.asked.size p.plan i m a in
        let new : Pursuit = heard_so p what in
        let puts' : Puts s.at t (Some (told_by (plain_of p) what)) (plain_at (set c.operations t new)) =
        subst (λ (z : Plain). Puts s.at t (Some z) (plain_at (set c.operations t new))) (told_same p what) (put_open c.operations t p new home.is (heard_open p what ∙ home.open_still)) in
        let puts : Puts s.at t (Some (told_by (plain_of p) (heard_by p.asked.task p.asked.size p.plan i (count_of s) a))) (plain_at (set c.operations t new)) =
        subst (λ n. Puts s.at t (Some (told_by (plain_of p) (heard_by p.asked.task p.asked.size p.plan i n a))) (plain_at (set c.operations t new))) (sym count) puts' in
        let all = carried_answer s (plain_at (set c.operations t new)) t 0 (plain_of p) inner (k.view x) (k.view x) (k.view y) a h.striped plain mine nothing (seen i x is) (inl refl) step puts in
        moves_so i t x y p new is home.is b.lawful b.keeps
        (subst (λ (vs : List LogletView). IsStriped (record s { views = vs; at = plain_at (set c.operations t new) }) × Moves (loglet_of s) (loglet_of (record s { views = vs; at = plain_at (set c.operations t new) }))) (sym (map_set k.view c.stripes i y)) (all.0, all.1.moves))
      where
        open_some : (v : LogletView) (u : ℕ) (o : Operation) → operation_at v.operations u ≡ Some o → IsOpen v u
        open_some v u o e = ap is_some e

    hears_told : (t : ℕ) (p : Pursuit) (inner : Inner) (x : C) (o : Option Answer) → open_at c.operations t ≡ Some p → p.answer ≡ None → p.inner ≡ Some inner → slice_get c.stripes inner.stripe ≡ Some x → k.answer x inner.ticket ≡ o
        → GoesOn (striped_ways k) (heard k c t p inner x o) (woven (map k.entries c.stripes) c.marks.size) (Moves (loglet_of s) (loglet_of (state_of k (heard k c t p inner x o))))
    hears_told t p inner x None at nothing mine is told = unmoved
    hears_told t p inner x (Some a) at nothing mine is told = hears_answer t p inner x a at nothing mine is told

    hears_on : (t : ℕ) (p : Pursuit) (inner : Inner) (o : Option C) → open_at c.operations t ≡ Some p → p.answer ≡ None → p.inner ≡ Some inner → slice_get c.stripes inner.stripe ≡ o
        → GoesOn (striped_ways k) (heard_on k c t p inner o) (woven (map k.entries c.stripes) c.marks.size) (Moves (loglet_of s) (loglet_of (state_of k (heard_on k c t p inner o))))
    hears_on t p inner None at nothing mine is = unmoved
    hears_on t p inner (Some x) at nothing mine is = hears_told t p inner x (k.answer x inner.ticket) at nothing mine is refl

    hears_from : (t : ℕ) (p : Pursuit) (o : Option Inner) → open_at c.operations t ≡ Some p → p.answer ≡ None → p.inner ≡ o
        → GoesOn (striped_ways k) (heard_from k c t p o) (woven (map k.entries c.stripes) c.marks.size) (Moves (loglet_of s) (loglet_of (state_of k (heard_from k c t p o))))
    hears_from t p None at nothing mine = unmoved
    hears_from t p (Some inner) at nothing mine = hears_on t p inner (slice_get c.stripes inner.stripe) at nothing mine refl

    hears_moves : (t : ℕ) (o : Option Pursuit) → open_at c.operations t ≡ o → GoesOn (striped_ways k) (hears k c t o) (woven (map k.entries c.stripes) c.marks.size) (Moves (loglet_of s) (loglet_of (state_of k (hears k c t o))))
    hears_moves t None at = unmoved
    hears_moves t (Some p) at = by (is_some p.answer) refl
      where
        by : (b : Bool) → is_some p.answer ≡ b → GoesOn (striped_ways k) (if b then c else heard_from k c t p p.inner) (woven (map k.entries c.stripes) c.marks.size) (Moves (loglet_of s) (loglet_of (state_of k (if b then c else heard_from k c t p p.inner))))
        by true e = unmoved
        by false e = hears_from t p p.inner at (is_none p.answer e) refl

    ---- its client is told, or it is forgotten

    gives : (t : ℕ) (p : Pursuit) (found a : Answer) → open_at c.operations t ≡ Some p → p.answer ≡ Some found → told_at p.asked.task c.marks.cut found ≡ a
        → GoesOn (striped_ways k) (given k c t p (Some a)) (woven (map k.entries c.stripes) c.marks.size) (TakesAnswer (loglet_of s) t a (loglet_of (state_of k (given k c t p (Some a)))))
    gives t p found a at has is =
        let new : Pursuit = record p { closed = true } in
        let home = there c.operations t p at in
        let all = taken_step s (told_marks c.marks a (wanted_by p.asked.task p.asked.size)) (plain_at (set c.operations t new)) t (plain_of p) found a h.striped (at_there c.operations t p at) has (sym is) (put_puts c.operations t p new home.is) refl in
        record {
          lawful = record { kind = h.kind; stripes = h.stripes; striped = all.0; tickets = length_set c.operations t new ∙ h.tickets };
          does = all.1;
          keeps = refl;
        }

    takes_told : (t : ℕ) (p : Pursuit) (o : Option Answer) (a : Answer) → open_at c.operations t ≡ Some p → p.answer ≡ o → option_map (told_at p.asked.task c.marks.cut) o ≡ Some a
        → GoesOn (striped_ways k) (given k c t p (option_map (told_at p.asked.task c.marks.cut) o)) (woven (map k.entries c.stripes) c.marks.size) (TakesAnswer (loglet_of s) t a (loglet_of (state_of k (given k c t p (option_map (told_at p.asked.task c.marks.cut) o)))))
    takes_told t p None a at has e = absurd (none-some a e)
    takes_told t p (Some found) a at has e =
        let same : told_at p.asked.task c.marks.cut found ≡ a = same_Some _ _ e in
        subst (λ (x : Answer). GoesOn (striped_ways k) (given k c t p (Some x)) (woven (map k.entries c.stripes) c.marks.size) (TakesAnswer (loglet_of s) t a (loglet_of (state_of k (given k c t p (Some x)))))) (sym same) (gives t p found a at has same)

    pub striped_takes : (t : ℕ) (o : Option Pursuit) (a : Answer) → open_at c.operations t ≡ o → answer_at c.marks.cut o ≡ Some a
        → GoesOn (striped_ways k) (takes k c t o) (woven (map k.entries c.stripes) c.marks.size) (TakesAnswer (loglet_of s) t a (loglet_of (state_of k (takes k c t o))))
    striped_takes t None a at e = absurd (none-some a e)
    striped_takes t (Some p) a at e = takes_told t p p.answer a at refl e

    -- an open operation is shown
    shown_open : (t : ℕ) (p : Pursuit) → open_at c.operations t ≡ Some p → IsOpen (loglet_of s) t
    shown_open t p at = ap is_some (shown_is s h.striped t ∙ ap (λ (z : Option Plain). option_map (operation_of s.shape.turn (count_of s)) z) (at_there c.operations t p at))

    forgets_plainly : (t : ℕ) (p : Pursuit) → open_at c.operations t ≡ Some p
        → GoesOn (striped_ways k) (record c { stripes = c.stripes; operations = set c.operations t (record p { closed = true }) }) (woven (map k.entries c.stripes) c.marks.size) (IsOpen (loglet_of s) t × Forgets (loglet_of s) t (loglet_of (state_of k (record c { stripes = c.stripes; operations = set c.operations t (record p { closed = true }) }))))
    forgets_plainly t p at =
        let new : Pursuit = record p { closed = true } in
        let home = there c.operations t p at in
        let all = forgotten_step s (plain_at (set c.operations t new)) t (plain_of p) h.striped (at_there c.operations t p at) (put_puts c.operations t p new home.is) in
        record {
          lawful = record { kind = h.kind; stripes = h.stripes; striped = all.0; tickets = length_set c.operations t new ∙ h.tickets };
          does = (shown_open t p at, all.1);
          keeps = refl;
        }

    -- an operation that a stripe is doing is open there
    pub inner_open : (t : ℕ) (p : Pursuit) (inner : Inner) (x : C) → open_at c.operations t ≡ Some p → p.inner ≡ Some inner → slice_get c.stripes inner.stripe ≡ Some x → k.is_open x inner.ticket ≡ true
    inner_open t p inner x at mine is = by p.answer refl
      where
        by : (o : Option Answer) → p.answer ≡ o → k.is_open x inner.ticket ≡ true
        by None e =
            let going = (h.striped.pending t (plain_of p) (at_there c.operations t p at)).going e in
            let asks = going.asks inner (k.view x) mine (seen inner.stripe x is) in
            h.kind.opens x inner.ticket asks.operation (h.stripes inner.stripe x is) asks.is
        by (Some a) e = absurd (none-some inner (sym ((h.striped.pending t (plain_of p) (at_there c.operations t p at)).alone a e) ∙ mine))

    forgets_inner : (t : ℕ) (p : Pursuit) (inner : Inner) (x : C) → open_at c.operations t ≡ Some p → p.inner ≡ Some inner → slice_get c.stripes inner.stripe ≡ Some x
        → GoesOn (striped_ways k) (record c { stripes = set c.stripes inner.stripe (k.forget x inner.ticket); operations = set c.operations t (record p { closed = true }) }) (woven (map k.entries c.stripes) c.marks.size) (IsOpen (loglet_of s) t × Forgets (loglet_of s) t (loglet_of (state_of k (record c { stripes = set c.stripes inner.stripe (k.forget x inner.ticket); operations = set c.operations t (record p { closed = true }) }))))
    forgets_inner t p inner x at mine is =
        let i : ℕ = inner.stripe in
        let y : C = k.forget x inner.ticket in
        let new : Pursuit = record p { closed = true } in
        let home = there c.operations t p at in
        let lx = h.stripes i x is in
        let b = h.kind.forgets x inner.ticket lx (inner_open t p inner x at mine is) in
        let step = step_of x y (call.Forget inner.ticket) answer.Forgotten lx b.lawful b.does.0 b.does.1 in
        let all = forgotten_inner s (plain_at (set c.operations t new)) t (plain_of p) inner (k.view x) (k.view y) h.striped (at_there c.operations t p at) mine (seen i x is) step.after (step_keeps (k.view x) (call.Forget inner.ticket) answer.Forgotten (k.view y) step) b.does.1 (put_puts c.operations t p new home.is) in
        let here : IsStriped (record s { views = map k.view (set c.stripes i y); at = plain_at (set c.operations t new) }) × Forgets (loglet_of s) t (loglet_of (record s { views = map k.view (set c.stripes i y); at = plain_at (set c.operations t new) })) =
        subst (λ (vs : List LogletView). IsStriped (record s { views = vs; at = plain_at (set c.operations t new) }) × Forgets (loglet_of s) t (loglet_of (record s { views = vs; at = plain_at (set c.operations t new) }))) (sym (map_set k.view c.stripes i y)) all in
        record {
          lawful = record { kind = h.kind; stripes = all_set i x y is b.lawful; striped = here.0; tickets = length_set c.operations t new ∙ h.tickets };
          does = (shown_open t p at, here.1);
          keeps = same_entries i x y c.marks.size is b.keeps;
        }

    forgets_on : (t : ℕ) (p : Pursuit) (inner : Inner) (o : Option C) → open_at c.operations t ≡ Some p → p.inner ≡ Some inner → slice_get c.stripes inner.stripe ≡ o
        → let new = record c { stripes = dropped_on k c inner o; operations = set c.operations t (record p { closed = true }) } in
        GoesOn (striped_ways k) new (woven (map k.entries c.stripes) c.marks.size) (IsOpen (loglet_of s) t × Forgets (loglet_of s) t (loglet_of (state_of k new)))
    forgets_on t p inner None at mine is = forgets_plainly t p at
    forgets_on t p inner (Some x) at mine is = forgets_inner t p inner x at mine is

    forgets_of : (t : ℕ) (p : Pursuit) (o : Option Inner) → open_at c.operations t ≡ Some p → p.inner ≡ o
        → let new = record c { stripes = dropped k c o; operations = set c.operations t (record p { closed = true }) } in
        GoesOn (striped_ways k) new (woven (map k.entries c.stripes) c.marks.size) (IsOpen (loglet_of s) t × Forgets (loglet_of s) t (loglet_of (state_of k new)))
    forgets_of t p None at mine = forgets_plainly t p at
    forgets_of t p (Some inner) at mine = forgets_on t p inner (slice_get c.stripes inner.stripe) at mine refl

    striped_forgets : (t : ℕ) (o : Option Pursuit) → open_at c.operations t ≡ o → is_some o ≡ true
        → GoesOn (striped_ways k) (forgets k c t o) (woven (map k.entries c.stripes) c.marks.size) (IsOpen (loglet_of s) t × Forgets (loglet_of s) t (loglet_of (state_of k (forgets k c t o))))
    striped_forgets t None at e = absurd (false≢true e)
    striped_forgets t (Some p) at e = forgets_of t p p.inner at refl

    ---- something moves that is nobody's call

    stirs_on : (i : ℕ) (path : List ℕ) (m : Motion) (o : Option C) → slice_get c.stripes i ≡ o → GoesOn (striped_ways k) (stirred k c i path m o) (woven (map k.entries c.stripes) c.marks.size) (Moves (loglet_of s) (loglet_of (state_of k (stirred k c i path m o))))
    stirs_on i path m None is = unmoved
    stirs_on i path m (Some x) is =
        let y : C = k.stir x path m in
        let lx = h.stripes i x is in
        let b = h.kind.stirs x path m lx in
        let step = step_of x y (call.Stray 0) answer.Strayed lx b.lawful tt b.does in
        let keeps = step_keeps (k.view x) (call.Stray 0) answer.Strayed (k.view y) step in
        let all : IsStriped (record s { views = map k.view (set c.stripes i y) }) × Moves (loglet_of s) (loglet_of (record s { views = map k.view (set c.stripes i y) })) =
        subst (λ (vs : List LogletView). IsStriped (record s { views = vs }) × Moves (loglet_of s) (loglet_of (record s { views = vs }))) (sym (map_set k.view c.stripes i y))
        (moved s i (k.view x) (k.view y) h.striped (seen i x is) step.after keeps b.does, moved_moves s i (k.view x) (k.view y) h.striped (seen i x is) step.after keeps b.does) in
        record {
          lawful = record { kind = h.kind; stripes = all_set i x y is b.lawful; striped = all.0; tickets = h.tickets };
          does = all.1;
          keeps = same_entries i x y c.marks.size is b.keeps;
        }

    striped_stirs : (path : List ℕ) (m : Motion) → GoesOn (striped_ways k) (stir k c path m) (woven (map k.entries c.stripes) c.marks.size) (Moves (loglet_of s) (loglet_of (state_of k (stir k c path m))))
    striped_stirs [] (Ask t) = asks_moves t (open_at c.operations t) refl
    striped_stirs [] (Hear t) = hears_moves t (open_at c.operations t) refl
    striped_stirs [] (Servers step) = unmoved
    striped_stirs (i ∷ path) m = stirs_on i path m (slice_get c.stripes i) refl

    ---- what it shows

    striped_whole : length (woven (map k.entries c.stripes) c.marks.size) ≡ size_of (loglet_of s)
    striped_whole = woven_length (map k.entries c.stripes) c.marks.size has_all ∙ sym (size_is s h.striped)

    striped_left : (t : ℕ) (o : Operation) (x : Option Pursuit) → open_at c.operations t ≡ x → operation_at (loglet_of s).operations t ≡ Some o → left_at k c x ≡ o.left
    striped_left t o None at e =
        let was = behind s h.striped t o e in
        absurd (none-some was.0 (sym (ap (option_map plain_of) at) ∙ was.1))
    striped_left t o (Some p) at e =
        let was = behind s h.striped t o e in
        let same : plain_of p ≡ was.0 = same_Some _ _ (sym (at_there c.operations t p at) ∙ was.1) in
        ap (λ n. left_of c.shape.turn n p.plan p.inner p.answer) (sym count)
        ∙ (ap (λ (z : Plain). left_of c.shape.turn (count_of s) z.plan z.inner z.answer) same ∙ ap (λ (z : Operation). z.left) was.2)

    striped_opens : (t : ℕ) (o : Operation) (x : Option Pursuit) → open_at c.operations t ≡ x → operation_at (loglet_of s).operations t ≡ Some o → is_some x ≡ true
    striped_opens t o None at e =
        let was = behind s h.striped t o e in
        absurd (none-some was.0 (sym (ap (option_map plain_of) at) ∙ was.1))
    striped_opens t o (Some p) at e = refl

    finds_in : (path : List ℕ) (q : Cell) (i : ℕ) (o : Option C) → slice_get c.stripes i ≡ o → quorum_in k o path ≡ Some q → IsLawful q
    finds_in path q i None is e = absurd (none-some q e)
    finds_in path q i (Some x) is e = h.kind.quorums x path q (h.stripes i x is) e

    striped_finds : (path : List ℕ) (q : Cell) → quorum_at k c path ≡ Some q → IsLawful q
    striped_finds [] q e = absurd (none-some q e)
    striped_finds (i ∷ path) q e = finds_in path q i (slice_get c.stripes i) refl e

  pub striped_kind : IsKind (striped_ways k)
  striped_kind = record {
    sound = λ c h. striped_sound (state_of k c) h.striped;
    whole = λ c h. striped_whole c h;
    left = λ c t o h e. striped_left c h t o (open_at c.operations t) refl e;
    opens = λ c t o h e. striped_opens c h t o (open_at c.operations t) refl e;
    begins = λ c op h can free. striped_begins c h op can free;
    refuses = λ c op h can full. striped_refuses c h op full;
    takes = λ c t a h e. striped_takes c h t (open_at c.operations t) a refl e;
    forgets = λ c t h e. striped_forgets c h t (open_at c.operations t) refl e;
    stirs = λ c path m h. striped_stirs c h path m;
    quorums = λ c path q h e. striped_finds c h path q e;
  }
