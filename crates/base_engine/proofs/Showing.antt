-- What a log holds it shows, or did before it was trimmed, where no trim goes past what it has shown.
use Rattle.std.proofs.Common.{◌≡◌, ◌⊎◌, inl, inr, ℕ, ◌<◌, ◌≤◌, List, [], ◌∷◌, length, Option, Some, None, Bool, true, false, cond, refl, ap, ◌∙◌, subst, ⊎_elim, arith}
use Rattle.std.specs.Prelude.{nat_lt, IsSome}
use Rattle.std.proofs.lemmas.Bool.Decides.{nat_tests}
use Rattle.delos_types.specs.declared.entry.Entry.{Entry}
use Rattle.delos_types.specs.declared.chain.Chain.{Chain}
use Rattle.chain_map.specs.Chain.{no_segment, first_chain}
use Rattle.legal_journal.specs.Law.{Law}
use Rattle.legal_journal.specs.declared.events.Event.{Event}
use Rattle.legal_journal.specs.Moves.{Move, RegisterMove, OnCell, OnRegister, Nothing, Never, Gives, Conflicts, Writes, Faults, Fails, Mends, move}
use Rattle.legal_journal.specs.Shown.{entry_in, end_of, is_within}
use Rattle.legal_journal.specs.Journal.{State, IsLegal, log_at, trim_of, tail_of, reach, entries, ends, now_or_before, register_after, after, after_all, state_of, start, IsCurrent, MayFollow, IsAllowed, RegisterAllowed, IsLegalFrom}
use Rattle.legal_journal.specs.Laws.{Continues}
use Rattle.legal_journal.proofs.Log.{entry_in-grows}
use Rattle.legal_journal.proofs.Sound.{StateOk, step_ok, log_from}
use Rattle.legal_journal.proofs.Legal.{start_ok, sound, whole}
use Rattle.virtual_log.specs.Holding.{Holds}
use Rattle.virtual_log.proofs.Holding.{holds_stands}
use Rattle.virtual_log.proofs.Agreeing.{holds_agree}
use Rattle.base_engine.specs.Trimming.{ShowsAll}
use Rattle.base_engine.proofs.Freeing.{there}

-- by a chain that was given, a loglet has the entry at the position
record Has (w : State) (pos : ℕ) (e : Entry) : Type 0 where
  pub version : ℕ
  pub chain : Chain
  pub given : w.register.given version ≡ Some chain
  pub entry : entry_in (reach w.cells) (entries w.cells) chain.segments pos ≡ Some e

-- what is trimmed was shown, also by a write of which it isn't known whether it stands; what the log has is shown; and what
-- was shown is held
record Filled (w : State) : Type 0 where
  pub low : (pos : ℕ) → pos < trim_of w → (e : Entry) × (w.shown pos ≡ Some e)
  pub asked : (c : Chain) → w.register.asked ≡ Some c → (pos : ℕ) → pos < c.trim → (e : Entry) × (w.shown pos ≡ Some e)
  pub now : (pos : ℕ) (e : Entry) → log_at w pos ≡ Some e → w.shown pos ≡ Some e
  pub held : (pos : ℕ) (e : Entry) → w.shown pos ≡ Some e → Has w pos e

nothing_at : (a b : Bool) (e : Entry) → cond a None (cond b None None) ≡ Some e → ⊥
nothing_at true b e h = cc
nothing_at false true e h = cc
nothing_at false false e h = cc

start_filled : Filled start
start_filled = record {
  low = λ pos h. absurd (omega (arith, h));
  asked = λ c h pos low. absurd (cc);
  now = λ pos e h. absurd (nothing_at (nat_lt pos first_chain.trim) (is_within no_segment.start (end_of (reach start.cells) no_segment) pos) e h);
  held = λ pos e h. absurd (cc);
}

some_still : (o b : Option Entry) → ((e : Entry) × (b ≡ Some e)) → (e : Entry) × (now_or_before o b ≡ Some e)
some_still None b h = h
some_still (Some x) b h = (x, refl)

one_of : (o b : Option Entry) (e : Entry) → now_or_before o b ≡ Some e → (o ≡ Some e) ⊎ (b ≡ Some e)
one_of None b e h = inr h
one_of (Some x) b e h = inl h

has_later : (cells : ℕ) (a b : State) (pos : ℕ) (e : Entry) → StateOk cells a → Continues a b → Has a pos e → Has b pos e
has_later cells a b pos e ok on h =
    let given = ok.olds h.version h.chain h.given in
    record {
      version = h.version;
      chain = h.chain;
      given = on.given h.version h.chain h.given;
      entry = entry_in-grows (reach a.cells) (reach b.cells) (entries a.cells) (entries b.cells) (ends a.cells) given.id given.from h.chain.segments pos e
          (record { further = λ i. (on.cell i).reach; longer = λ i. (on.cell i).longer }) given.joined h.entry;
    }

has_now : (cells : ℕ) (w : State) (pos : ℕ) (e : Entry) → StateOk cells w → log_at w pos ≡ Some e → Has w pos e
has_now cells w pos e ok h = record {
  version = w.register.version;
  chain = w.register.chain;
  given = ok.given;
  entry = (log_from (reach w.cells) (entries w.cells) w.register.chain pos e h).1;
}

module _ (law : Law) (low : (log : List Entry) (n : ℕ) → law.floor log n → n ≤ length log) where
  -- a chain that may be written is trimmed no further than what was shown
  follows_low : (w : State) (c : Chain) → Filled w → MayFollow w law.floor (length law.shelf) w.register.chain c → (pos : ℕ) → pos < c.trim → (e : Entry) × (w.shown pos ≡ Some e)
  follows_low w c f (inl x) pos h = f.low pos (omega (arith, h, ap (λ (k : Chain). k.trim) x.is))
  follows_low w c f (inr x) pos h =
      let free = x.1 in
      let inside : pos < length free.log = omega (arith, h, low free.log c.trim free.free) in
      let e = there free.log pos inside in
      (e.0, free.shows pos inside ∙ e.1)

  current_low : (w : State) (v : ℕ) (c : Chain) → Filled w → IsCurrent w.register v c → (pos : ℕ) → pos < c.trim → (e : Entry) × (w.shown pos ≡ Some e)
  current_low w v c f (inl x) pos h = f.low pos (omega (arith, h, ap (λ (k : Chain). k.trim) x.1))
  current_low w v c f (inr x) pos h = f.asked c x.1 pos h

  -- how a move of the register leaves the trim and a write that faulted
  register_low : (w : State) (m : RegisterMove) → Filled w → RegisterAllowed w law.floor (length law.shelf) m → (pos : ℕ) → pos < (register_after w.register m).chain.trim → (e : Entry) × (w.shown pos ≡ Some e)
  register_low w (Gives v c) f a pos h = current_low w v c f a.1 pos h
  register_low w (Conflicts x v c) f a pos h = current_low w v c f a.1 pos h
  register_low w (Writes x c v) f a pos h = follows_low w c f a.2 pos h
  register_low w (Faults x c) f a pos h = f.low pos h
  register_low w Fails f a pos h = f.low pos h
  register_low w (Mends b) f a pos h = f.low pos h

  register_asked : (w : State) (m : RegisterMove) → Filled w → RegisterAllowed w law.floor (length law.shelf) m → (c : Chain) → (register_after w.register m).asked ≡ Some c → (pos : ℕ) → pos < c.trim → (e : Entry) × (w.shown pos ≡ Some e)
  register_asked w (Gives v k) f a c is pos h = absurd (cc)
  register_asked w (Conflicts x v k) f a c is pos h = absurd (cc)
  register_asked w (Writes x k v) f a c is pos h = absurd (cc)
  register_asked w (Faults x k) f a c is pos h = let same : k ≡ c = cc in follows_low w c f (subst (MayFollow w law.floor (length law.shelf) w.register.chain) same a.2) pos h
  register_asked w Fails f a c is pos h = f.asked c is pos h
  register_asked w (Mends b) f a c is pos h = f.asked c is pos h

  step_filled : (w : State) (who : ℕ) (m : Move) → StateOk (length law.shelf) w → Filled w → IsAllowed w law who m → Filled (after w who m)
  step_filled w who (OnCell i m) ok f a =
      let on = step_ok law w who (OnCell i m) ok a in
      let new = after w who (OnCell i m) in
      record {
        low = λ pos h. some_still (log_at new pos) (w.shown pos) (f.low pos h);
        asked = λ c is pos h. some_still (log_at new pos) (w.shown pos) (f.asked c is pos h);
        now = λ pos e h. ap (λ o. now_or_before o (w.shown pos)) h;
        held = λ pos e h. ⊎_elim (λ k. has_now (length law.shelf) new pos e on.0 k) (λ k. has_later (length law.shelf) w new pos e ok on.1 (f.held pos e k)) (one_of (log_at new pos) (w.shown pos) e h);
      }
  step_filled w who (OnRegister m) ok f a =
      let on = step_ok law w who (OnRegister m) ok a in
      let new = after w who (OnRegister m) in
      record {
        low = λ pos h. some_still (log_at new pos) (w.shown pos) (register_low w m f a pos h);
        asked = λ c is pos h. some_still (log_at new pos) (w.shown pos) (register_asked w m f a c is pos h);
        now = λ pos e h. ap (λ o. now_or_before o (w.shown pos)) h;
        held = λ pos e h. ⊎_elim (λ k. has_now (length law.shelf) new pos e on.0 k) (λ k. has_later (length law.shelf) w new pos e ok on.1 (f.held pos e k)) (one_of (log_at new pos) (w.shown pos) e h);
      }
  step_filled w who Nothing ok f a = f
  step_filled w who Never ok f a = absurd a

filled_on : (law : Law) (low : (log : List Entry) (n : ℕ) → law.floor log n → n ≤ length log) (w : State) (es : List Event) → StateOk (length law.shelf) w → Filled w → IsLegalFrom w law es → Filled (after_all w es)
filled_on law low w [] ok f h = f
filled_on law low w (e ∷ es) ok f h =
    filled_on law low (after w e.who (move e)) es (step_ok law w e.who (move e) ok h.0.allowed).0 (step_filled law low w e.who (move e) ok f h.0.allowed) h.1

-- what is held is shown, or was before it was trimmed
pub shows_all : (law : Law) → ((log : List Entry) (n : ℕ) → law.floor log n → n ≤ length log) → ShowsAll law Holds
shows_all law low = λ seen pos e legal h.
    let w = state_of seen in
    let f = filled_on law low start seen (start_ok (length law.shelf) legal.least legal.most) start_filled legal.steps in
    let before : pos < trim_of w → w.shown pos ≡ Some e = λ under.
    let x = f.low pos under in
    let k = f.held pos x.0 x.1 in
    let held : Holds seen pos x.0 = record { version = k.version; chain = k.chain; given = k.given; entry = k.entry } in
    x.1 ∙ ap (λ y. Some y) (holds_agree law seen pos x.0 e legal held h) in
    ⊎_elim before (λ at. f.now pos e at) (holds_stands law seen pos e legal h)

-- each position below the tail is held
pub held_below : (law : Law) → ((log : List Entry) (n : ℕ) → law.floor log n → n ≤ length log) → (seen : List Event) (pos : ℕ) → IsLegal law seen → pos < tail_of (state_of seen) → (e : Entry) × Holds seen pos e
held_below law low seen pos legal below = by_test (nat_lt pos (trim_of w)) refl
  where
    w : State
    w = state_of seen

    f : Filled w
    f = filled_on law low start seen (start_ok (length law.shelf) legal.least legal.most) start_filled legal.steps

    here : (e : Entry) → w.shown pos ≡ Some e → (x : Entry) × Holds seen pos x
    here e h = let k = f.held pos e h in (e, record { version = k.version; chain = k.chain; given = k.given; entry = k.entry })

    some : (o : Option Entry) → log_at w pos ≡ o → IsSome o → (x : Entry) × Holds seen pos x
    some None h is = absurd (cc)
    some (Some e) h is = here e (f.now pos e h)

    by_test : (b : Bool) → nat_lt pos (trim_of w) ≡ b → (x : Entry) × Holds seen pos x
    by_test true t = let x = f.low pos (grind (arith, nat_tests)) in here x.0 x.1
    by_test false t = some (log_at w pos) refl (whole (length law.shelf) w pos (sound law seen legal) (grind (arith, nat_tests)) below)
