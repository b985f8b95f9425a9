-- A loglet that takes a step goes on as the journal tells.
use Rattle.std.proofs.Common.{◌≡◌, ◌≢◌, inl, inr, ℕ, ◌+◌, ◌-◌, ◌<◌, ◌≤◌, ◌^◌, min, max, List, ◌++◌, length, drop, Option, Some, None, Bool, true, false, cond, refl, sym, ap, ◌∙◌, subst, arith, IsSome}
use Rattle.std.specs.Prelude.{◌==◌, slice_get}
use Rattle.std.proofs.lemmas.Bool.Decides.{nat_tests}
use Rattle.delos_types.specs.declared.entry.Entry.{Entry}
use Rattle.loglet_api.specs.declared.call.Op.{Op}
use Rattle.loglet_api.specs.declared.call.Op.TheVariants.{Append, Settle, Tail, Seal, Read, Trim}
use Rattle.loglet_api.specs.declared.call.Task.{Task}
use Rattle.loglet_api.specs.declared.call.Task.TheVariants.{Placing, Settling, Finding, Sealing}
use Rattle.loglet_api.specs.declared.call.Answer.{Answer}
use Rattle.loglet_api.specs.declared.call.Answer.TheVariants.{Placed, Settled, OpenTail, SealedTail, SealDone, Got, CutAt, Beyond, TrimDone, Sealed, NoQuorum}
use Rattle.loglet_api.specs.View.{LogletView, Operation, operation_at, IsOpen}
use Rattle.loglet_api.specs.View as view
use Rattle.loglet_api.specs.Sound.{IsSound}
use Rattle.loglet_api.specs.Step as step
use Rattle.loglet_api.specs.Keeps.{work_of}
use Rattle.legal_journal.specs.Told.{Told, Running, put, size_of, started, cut_begun, told_sealed, MayAnswer, MayReach, MayEnd, IsWithin}
use Rattle.legal_journal.specs.Moves.{Begins, Carries, Answers, Drops}
use Rattle.legal_journal.specs.Journal.{CellState, cell_after, ends_told, answered_by, HasRoom, patience}
use Rattle.legal_journal.proofs.Cells.{put_cases, told_by}
use Rattle.fabric_core.specs.Fabric.{IsAsTold, MatchesOperation}

-- an open operation of the loglet is open in what is told, and the other way round
pub told_open : (r : Option Running) (o : Operation) (p : Option Operation) → MatchesOperation r p → p ≡ Some o → (q : Running) × (r ≡ Some q) × MatchesOperation (Some q) (Some o)
told_open None o p h e = absurd (subst (MatchesOperation None) e h)
told_open (Some q) o p h e = (q, refl, subst (MatchesOperation (Some q)) e h)

pub not_told : (r : Option Running) (p : Option Operation) → MatchesOperation r p → p ≡ None → r ≡ None
not_told None p h e = refl
not_told (Some r) p h e = absurd (subst (MatchesOperation (Some r)) e h)

pub is_open_told : (r : Running) (o : Option Running) (p : Option Operation) → MatchesOperation o p → o ≡ Some r → IsSome p
is_open_told r None p h e = absurd (cc)
is_open_told r (Some q) None h e = absurd h
is_open_told r (Some q) (Some o) h e = refl

open_is : (p : Option Operation) → IsSome p → (o : Operation) × (p ≡ Some o)
open_is None h = absurd (cc)
open_is (Some o) h = (o, refl)

module _ (c : CellState) (v : LogletView) (m : IsAsTold c v) where
  size_is : view.size_of v ≡ size_of c.told
  size_is = omega (arith, m.cut, ap length m.log)

  -- A begin.

  cut_is : (op : Op) → step.cut_after v op ≡ cut_begun c.told op
  cut_is op = ap (λ n. step.cut_by op n v.reach) m.cut ∙ ap (step.cut_by op c.told.cut) m.reach

  log_is : (op : Op) → drop (step.cut_after v op - v.cut) v.log ++ step.entries_of op ≡ drop (cut_begun c.told op - c.told.cut) c.told.log ++ step.entries_of op
  log_is op =
      ap (λ n. drop (n - v.cut) v.log ++ step.entries_of op) (cut_is op)
      ∙ (ap (λ n. drop (cut_begun c.told op - n) v.log ++ step.entries_of op) m.cut
      ∙ ap (λ l. drop (cut_begun c.told op - c.told.cut) l ++ step.entries_of op) m.log)

  pub has_room : (op : Op) → (step.IsFull v op → ⊥) → HasRoom c.told op
  has_room (Append e) h = let apart : view.size_of v ≢ v.room = λ e. h (inl (tt, e)) in omega (arith, size_is, m.sound.size, m.sound.shape.room.1)
  has_room (Settle n) h = tt
  has_room Tail h = tt
  has_room Seal h = tt
  has_room (Read p) h = tt
  has_room (Trim n) h = tt

  on : (t u : ℕ) → u ≡ t → (t == u) ≡ true
  on t u e = grind (arith, nat_tests)

  off : (t u : ℕ) → u ≢ t → (t == u) ≡ false
  off t u e = grind (arith, nat_tests)

  -- what the tickets have after one was put
  put_on : (t u : ℕ) (o : Option Operation) (new : List (ℕ × Operation)) → step.PutsOperation v.operations t o new → u ≡ t → operation_at new u ≡ o
  put_on t u o new p e = p u ∙ ap (λ x. cond x o (operation_at v.operations u)) (on t u e)

  put_off : (t u : ℕ) (o : Option Operation) (new : List (ℕ × Operation)) → step.PutsOperation v.operations t o new → u ≢ t → operation_at new u ≡ operation_at v.operations u
  put_off t u o new p e = p u ∙ ap (λ x. cond x o (operation_at v.operations u)) (off t u e)

  pub begun_as_told : (who t : ℕ) (op : Op) (now : LogletView) → step.Begins v op t now → IsSound now → IsAsTold (cell_after who c (Begins op t)) now
  begun_as_told who t op now b sound = record {
    cut = ap (λ (x : LogletView). x.cut) b.rest ∙ cut_is op;
    log = ap (λ (x : LogletView). x.log) b.rest ∙ log_is op;
    reach = ap (λ (x : LogletView). x.reach) b.rest ∙ m.reach;
    cap = ap (λ (x : LogletView). x.cap) b.rest ∙ m.cap;
    firm = ap (λ (x : LogletView). x.firm) b.rest ∙ m.firm;
    begun = ap (λ (x : LogletView). x.begun) b.rest ∙ ap (λ n. n + 1) m.begun;
    seals = ap (λ (x : LogletView). x.seals) b.rest ∙ ap (λ n. n + step.seals_of op) m.seals;
    lacks = ap (λ (x : LogletView). x.lacks) b.rest ∙ m.lacks;
    sealed = λ h. ap (λ (x : LogletView). x.shut) b.rest ∙ m.sealed h;
    operations = λ u. put_cases (λ r. MatchesOperation r (operation_at now.operations u)) c.told.ops t (Some (started c.told op)) u
        (λ e. subst (MatchesOperation (Some (started c.told op))) (sym (put_on t u _ now.operations b.operation e)) (refl, size_is, m.reach, m.firm, m.sealed))
        (λ k. subst (MatchesOperation (c.told.ops u)) (sym (put_off t u _ now.operations b.operation k)) (m.operations u));
    left = λ u o h. put_cases (λ n. n + work_of o.left ≤ patience) c.carried t 0 u
        (λ e. let s = sound.operations u o h in omega (arith, s.rounds, s.steps, sound.shape.rounds, sound.shape.servers))
        (λ k. m.left u o (sym (put_off t u _ now.operations b.operation k) ∙ h));
    sound = sound;
  }

  -- Other moves of the loglet.

  advance : (r : Option Running) (o p : Option Operation) → MatchesOperation r o → step.Advances o p → MatchesOperation r p
  advance None None None h a = tt
  advance (Some r) (Some o) (Some p) h a = (
    ap (λ (x : Operation). x.task) a.0 ∙ h.0,
    ap (λ (x : Operation). x.size) a.0 ∙ h.1,
    ap (λ (x : Operation). x.reach) a.0 ∙ h.2,
    ap (λ (x : Operation). x.firm) a.0 ∙ h.3,
    λ k. ap (λ (x : Operation). x.shut) a.0 ∙ h.4 k,
  )
  advance None None (Some p) h a = absurd a
  advance None (Some o) p h a = absurd h
  advance (Some r) None p h a = absurd h
  advance (Some r) (Some o) None h a = absurd a

  was : (o p : Option Operation) (q : Operation) → step.Advances o p → p ≡ Some q → (b : Operation) × (o ≡ Some b) × step.IsAtMost q.left b.left
  was None None q a e = absurd (cc)
  was None (Some p) q a e = absurd a
  was (Some o) None q a e = absurd a
  was (Some o) (Some p) q a e = let same : p ≡ q = cc in (o, refl, subst (λ (x : Operation). step.IsAtMost x.left o.left) same a.1)

  at_most : (a b : ℕ × ℕ) → a.1 < 2 ^ 59 → step.IsAtMost a b → work_of a ≤ work_of b
  at_most a b l (inl x) = omega arith
  at_most a b l (inr x) = omega (arith, x.0, x.1)

  below : (a b : ℕ × ℕ) → a.1 < 2 ^ 59 → step.IsBelow a b → work_of a < work_of b
  below a b l (inl x) = omega arith
  below a b l (inr x) = omega (arith, x.0, x.1)

  small : (now : LogletView) (u : ℕ) (o : Operation) → IsSound now → operation_at now.operations u ≡ Some o → o.left.1 < 2 ^ 59
  small now u o sound h = omega (arith, (sound.operations u o h).steps, sound.shape.servers)

  -- what is told is of another cell with the same calls and answers
  pub moved_as_told : (d : CellState) (now : LogletView) → d.told ≡ c.told → step.Moves v now → IsSound now → ((u : ℕ) (o : Operation) → operation_at now.operations u ≡ Some o → d.carried u + work_of o.left ≤ patience) → IsAsTold d now
  moved_as_told d now same k sound left = record {
    cut = ap (λ (x : LogletView). x.cut) k.rest ∙ (m.cut ∙ ap (λ (x : Told). x.cut) (sym same));
    log = ap (λ (x : LogletView). x.log) k.rest ∙ (m.log ∙ ap (λ (x : Told). x.log) (sym same));
    reach = ap (λ (x : LogletView). x.reach) k.rest ∙ (m.reach ∙ ap (λ (x : Told). x.reach) (sym same));
    cap = ap (λ (x : LogletView). x.cap) k.rest ∙ (m.cap ∙ ap (λ (x : Told). x.cap) (sym same));
    firm = ap (λ (x : LogletView). x.firm) k.rest ∙ (m.firm ∙ ap (λ (x : Told). x.firm) (sym same));
    begun = ap (λ (x : LogletView). x.begun) k.rest ∙ (m.begun ∙ ap (λ (x : Told). x.begun) (sym same));
    seals = ap (λ (x : LogletView). x.seals) k.rest ∙ (m.seals ∙ ap (λ (x : Told). x.seals) (sym same));
    lacks = ap (λ (x : LogletView). x.lacks) k.rest ∙ (m.lacks ∙ ap (λ (x : Told). x.lacks) (sym same));
    sealed = λ h. k.shut (m.sealed (ap (λ (x : Told). x.sealed) (sym same) ∙ h));
    operations = λ u. subst (λ (x : Told). MatchesOperation (x.ops u) (operation_at now.operations u)) (sym same) (advance (c.told.ops u) _ _ (m.operations u) (k.operations u));
    left = left;
    sound = sound;
  }

  pub moved_left : (now : LogletView) → step.Moves v now → IsSound now → (u : ℕ) (o : Operation) → operation_at now.operations u ≡ Some o → c.carried u + work_of o.left ≤ patience
  moved_left now k sound u o h =
      let b = was (operation_at v.operations u) (operation_at now.operations u) o (k.operations u) h in
      omega (arith, at_most o.left b.0.left (small now u o sound h) b.2, m.left u b.0 b.1)

  -- a carry that leaves the operation undecided is paid for
  pub carried_as_told : (who t : ℕ) (now : LogletView) → step.Carries v t now → IsSound now → IsAsTold (cell_after who c (Carries t)) now
  carried_as_told who t now k sound =
      moved_as_told (cell_after who c (Carries t)) now refl k.moves sound
      (λ u o h. put_cases (λ n. n + work_of o.left ≤ patience) c.carried t (c.carried t + 1) u
      (λ e.
      let f = k.falls in
      let both : Some f.after ≡ Some o = sym f.is ∙ (ap (operation_at now.operations) (sym e) ∙ h) in
      let same : f.after ≡ o = cc in
      let less = below f.after.left f.before.left (small now t f.after sound f.is) f.less in
      let pays = m.left t f.before f.was in
      let work : work_of f.after.left ≡ work_of o.left = ap (λ (x : Operation). work_of x.left) same in
      omega (arith, less, pays, work))
      (λ _. moved_left now k.moves sound u o h))

  pub carried_few : (t : ℕ) (now : LogletView) → step.Carries v t now → IsSound now → c.carried t < patience
  carried_few t now k sound =
      let f = k.falls in
      omega (arith, below f.after.left f.before.left (small now t f.after sound f.is) f.less, m.left t f.before f.was)

  -- An answer.

  unsealed : (b shut : Bool) → (b ≡ true → shut ≡ true) → shut ≡ false → b ≡ false
  unsealed false shut h k = refl
  unsealed true shut h k = let no : true ≡ false = sym (h refl) ∙ k in absurd (cc)

  capped : (n : ℕ) (now : LogletView) → IsSound now → now.cap ≡ c.told.cap → n ≤ now.reach → IsWithin n c.told.cap
  capped n now sound same low = at_cap c.told.cap (same)
    where
      at_cap : (o : Option ℕ) → now.cap ≡ o → IsWithin n o
      at_cap None e = tt
      at_cap (Some k) e = let x = sound.cap k e in omega (arith, x.1.0)

  may_reach : (r : Running) (o : Operation) (n : ℕ) (now : LogletView) → MatchesOperation (Some r) (Some o) → IsSound now → o.shut ≡ false → now.cap ≡ v.cap → now.reach ≡ max v.reach n → view.size_of now ≡ view.size_of v → MayReach c.told r n
  may_reach r o n now h sound unshut cap reach size = record {
    unsealed = unsealed r.sealed o.shut h.4 unshut;
    capped = capped n now sound (cap ∙ m.cap) (omega (arith, reach));
    exists = omega (arith, reach, size, size_is, sound.reach, sound.firm);
  }

  asked : v.shut ≡ true → 0 < c.told.seals
  asked h = omega (arith, m.sound.sealing h, m.seals)

  -- a sealed loglet's tail
  may_end : (n : ℕ) (now : LogletView) → IsSound now → v.reach ≤ n → v.shut ≡ true → now.firm ≡ max v.firm n → view.size_of now ≡ view.size_of v → MayEnd c.told n
  may_end n now sound low shut firm size = record { asked = asked shut; reached = omega (arith, m.reach); exists = omega (arith, firm, size, size_is, sound.firm) }

  got_told : (p : ℕ) (e : Entry) → slice_get v.log (p - v.cut) ≡ Some e → slice_get c.told.log (p - c.told.cut) ≡ Some e
  got_told p e h = subst (λ n. slice_get c.told.log (p - n) ≡ Some e) m.cut (subst (λ l. slice_get l (p - v.cut) ≡ Some e) m.log h)

  lack : (o : Operation) (u : ℕ) → step.IsLack v o u → 0 < u
  lack o u h = omega (arith, h.enough, m.sound.shape.quorum.0)

  module _ (r : Running) (o : Operation) (h : MatchesOperation (Some r) (Some o)) (t : ℕ) (now : LogletView) (sound : IsSound now) where
    -- what its answer leaves of the loglet
    pub record Leaves (a : Answer) : Type 0 where
      pub reach : now.reach ≡ max v.reach (step.told_reach (step.wanted o) a)
      pub firm : now.firm ≡ max v.firm (step.told_firm (step.wanted o) a)
      pub cap : now.cap ≡ step.told_cap a v.cap
      pub size : view.size_of now ≡ view.size_of v

    task_is : (op : Op) → r.op ≡ op → o.task ≡ step.task_of op
    task_is op e = h.0 ∙ ap step.task_of e

    wanted_is : (op : Op) → r.op ≡ op → step.wanted o ≡ step.wanted_by (step.task_of op) r.size
    wanted_is op e = ap (λ x. step.wanted_by x o.size) (task_is op e) ∙ ap (step.wanted_by (step.task_of op)) h.1

    may_answer : (op : Op) (a : Answer) → r.op ≡ op → step.MayAnswer v o (step.task_of op) a → Leaves a → MayAnswer c.told r op a
    may_answer (Append e) (Placed p) is k l = (k.0 ∙ h.1, may_reach r o (p + 1) now h sound k.1 l.cap l.reach l.size)
    may_answer (Append e) Sealed is k l = asked k
    may_answer (Settle n) Settled is k l =
        may_reach r o (min n r.size) now h sound k l.cap (l.reach ∙ ap (λ x. max v.reach x) (wanted_is (Settle n) is)) l.size
    may_answer (Settle n) Sealed is k l = asked k
    may_answer Tail (OpenTail n) is k l = (omega (arith, k.0, h.2), may_reach r o n now h sound k.1 l.cap l.reach l.size)
    may_answer Tail (SealedTail n) is k l = may_end n now sound k.0 k.1 l.firm l.size
    may_answer Seal SealDone is k l = asked k
    may_answer (Read p) (Got e) is k l = (omega (arith, k.0, m.cut), omega (arith, k.1, h.3), got_told p e k.2)
    may_answer (Read p) (CutAt n) is k l = (omega (arith, k.0, m.cut), k.1 ∙ m.cut)
    may_answer (Read p) (Beyond n) is k l = (omega (arith, k.0, m.cut), omega (arith, k.1, h.3), k.2 ∙ h.3)
    may_answer (Read p) (NoQuorum u) is k l = (omega (arith, k.0, m.cut), omega (arith, k.1, h.3), lack o u k.2)
    may_answer (Trim n) TrimDone is k l = tt
    may_answer (Append e) (NoQuorum u) is k l = lack o u k
    may_answer (Settle n) (NoQuorum u) is k l = lack o u k
    may_answer Tail (NoQuorum u) is k l = lack o u k
    may_answer Seal (NoQuorum u) is k l = lack o u k
    may_answer (Trim n) (NoQuorum u) is k l = lack o u k
    may_answer op a is k l = absurd k

    sealed_by : (a : Answer) → step.MayAnswer v o o.task a → told_sealed c.told.sealed a ≡ true → v.shut ≡ true
    sealed_by a k e = by_task a o.task k e
      where
        by_task : (a : Answer) (x : Task) → step.MayAnswer v o x a → told_sealed c.told.sealed a ≡ true → v.shut ≡ true
        by_task (SealedTail n) Finding k e = k.1
        by_task SealDone Sealing k e = k
        by_task Sealed Placing k e = k
        by_task Sealed (Settling n) k e = k
        by_task (Placed p) x k e = m.sealed e
        by_task Settled x k e = m.sealed e
        by_task (OpenTail n) x k e = m.sealed e
        by_task (Got y) x k e = m.sealed e
        by_task (CutAt n) x k e = m.sealed e
        by_task (Beyond n) x k e = m.sealed e
        by_task TrimDone x k e = m.sealed e
        by_task (NoQuorum u) x k e = m.sealed e
        by_task (SealedTail n) x k e = absurd k
        by_task SealDone x k e = absurd k
        by_task Sealed x k e = absurd k

  -- the operation of the ticket is closed, and nothing is told of it any more
  closed_operation : (t : ℕ) (now : List (ℕ × Operation)) → step.PutsOperation v.operations t None now → (u : ℕ) → MatchesOperation (put c.told.ops t None u) (operation_at now u)
  closed_operation t now p u =
      put_cases (λ r. MatchesOperation r (operation_at now u)) c.told.ops t None u
      (λ e. subst (MatchesOperation None) (sym (put_on t u None now p e)) tt)
      (λ k. subst (MatchesOperation (c.told.ops u)) (sym (put_off t u None now p k)) (m.operations u))

  closed_left : (t : ℕ) (now : List (ℕ × Operation)) → step.PutsOperation v.operations t None now → (u : ℕ) (o : Operation) → operation_at now u ≡ Some o → c.carried u + work_of o.left ≤ patience
  closed_left t now p u o h =
      put_cases (λ (n : ℕ). c.carried u + work_of o.left ≤ patience) (λ (n : ℕ). n) t 0 u
      (λ e. let no : None ≡ Some o = sym (put_on t u None now p e) ∙ h in absurd (cc))
      (λ k. m.left u o (sym (put_off t u None now p k) ∙ h))

  -- an answer may be given, and leaves the loglet as told
  pub record Answered (who t : ℕ) (a : Answer) (now : LogletView) : Type 0 where
    pub running : Running
    pub is_open : c.told.ops t ≡ Some running
    pub may : MayAnswer c.told running running.op a
    pub told : IsAsTold (cell_after who c (Answers t a)) now

  pub answered_as_told : (who t : ℕ) (a : Answer) (now : LogletView) → step.TakesAnswer v t a now → IsSound now → Answered who t a now
  answered_as_told who t a now k sound =
      let q = told_open (c.told.ops t) k.operation (operation_at v.operations t) (m.operations t) k.is in
      let r = q.0 in
      let o = k.operation in
      let leaves : Leaves r o q.2 t now sound a = record {
        reach = ap (λ (x : LogletView). x.reach) k.rest;
        firm = ap (λ (x : LogletView). x.firm) k.rest;
        cap = ap (λ (x : LogletView). x.cap) k.rest;
        size = ap (λ (x : LogletView). view.size_of x) k.rest;
      } in
      let size_of_wanted = wanted_is r o q.2 t now sound r.op refl in
      let now_told : IsAsTold (told_by c t r a) now = record {
        cut = ap (λ (x : LogletView). x.cut) k.rest ∙ m.cut;
        log = ap (λ (x : LogletView). x.log) k.rest ∙ m.log;
        reach = leaves.reach ∙ (ap (λ n. max n (step.told_reach (step.wanted o) a)) m.reach ∙ ap (λ n. max c.told.reach (step.told_reach n a)) size_of_wanted);
        cap = leaves.cap ∙ ap (step.told_cap a) m.cap;
        firm = leaves.firm ∙ (ap (λ n. max n (step.told_firm (step.wanted o) a)) m.firm ∙ ap (λ n. max c.told.firm (step.told_firm n a)) size_of_wanted);
        begun = ap (λ (x : LogletView). x.begun) k.rest ∙ m.begun;
        seals = ap (λ (x : LogletView). x.seals) k.rest ∙ m.seals;
        lacks = ap (λ (x : LogletView). x.lacks) k.rest ∙ ap (λ n. n + step.told_lacks a) m.lacks;
        sealed = λ e. ap (λ (x : LogletView). x.shut) k.rest ∙ sealed_by r o q.2 t now sound a k.may e;
        operations = closed_operation t now.operations k.closed;
        left = closed_left t now.operations k.closed;
        sound = sound;
      } in
      let P : Option Running → Type 0 = λ x. IsAsTold (record { told = answered_by c.told t a x; entries = c.entries; ends = ends_told c.ends a; owner = c.owner; carried = c.carried }) now in
      record {
        running = r;
        is_open = q.1;
        may = may_answer r o q.2 t now sound r.op a refl (subst (λ x. step.MayAnswer v o x a) q.2.0 k.may) leaves;
        told = subst P (sym q.1) now_told;
      }

  pub record Dropped (who t : ℕ) (now : LogletView) : Type 0 where
    pub running : Running
    pub is_open : c.told.ops t ≡ Some running
    pub told : IsAsTold (cell_after who c (Drops t)) now

  pub dropped_as_told : (who t : ℕ) (now : LogletView) → IsOpen v t → step.Forgets v t now → IsSound now → Dropped who t now
  dropped_as_told who t now is_open k sound =
      let o = open_is (operation_at v.operations t) is_open in
      let q = told_open (c.told.ops t) o.0 (operation_at v.operations t) (m.operations t) o.1 in record {
        running = q.0;
        is_open = q.1;
        told = record {
          cut = ap (λ (x : LogletView). x.cut) k.rest ∙ m.cut;
          log = ap (λ (x : LogletView). x.log) k.rest ∙ m.log;
          reach = ap (λ (x : LogletView). x.reach) k.rest ∙ m.reach;
          cap = ap (λ (x : LogletView). x.cap) k.rest ∙ m.cap;
          firm = ap (λ (x : LogletView). x.firm) k.rest ∙ m.firm;
          begun = ap (λ (x : LogletView). x.begun) k.rest ∙ m.begun;
          seals = ap (λ (x : LogletView). x.seals) k.rest ∙ m.seals;
          lacks = ap (λ (x : LogletView). x.lacks) k.rest ∙ m.lacks;
          sealed = λ h. ap (λ (x : LogletView). x.shut) k.rest ∙ m.sealed h;
          operations = closed_operation t now.operations k.closed;
          left = closed_left t now.operations k.closed;
          sound = sound;
        };
      }
