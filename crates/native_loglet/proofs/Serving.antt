-- What is seen of the servers, and what a call of one of them does to it.
use Rattle.std.proofs.Common.{◌≡◌, ℕ, zero, suc, ◌+◌, ◌<◌, ◌≤◌, Bool, true, false, cond, refl, sym, ◌∙◌, ap, subst, arith, List, [], ◌∷◌, length, get_or, set, Option, Some, None, inl, inr}
use Rattle.std.specs.Prelude.{◌⊎◌, ◌&&◌, ◌%◌, ◌==◌, not, nat_lt, slice_get, slice_set, if◌then◌else◌, Result, Ok, Err, OnErr}
use Rattle.std.proofs.lemmas.Bool.{false≢true, and_parts, or_left, or_right, or_from, ltb-true, lt-ltb, false_from_ne_true}
use Rattle.std.proofs.lemmas.Option.{none-some, same_Some}
use Rattle.std.proofs.lemmas.List.{length-map}
use Rattle.std.proofs.lemmas.List.Sums.{sum_by-cons}
use Rattle.disk_model.specs.Disk.{DiskView, bumped as one_more}
use Rattle.loglet_api.specs.Servers.{ServerState, GoesDown, Writes, Wears, Wear, TakesSome, TakeSome, ChangesAt, IsArmed, RestartsTo, MayReopen, downs_of}
use Rattle.loglet_api.specs.Step.{bumped}
use Rattle.quorum_cell.specs.declared.message.Ask.{Ask}
use Rattle.quorum_cell.specs.declared.message.Told.{Told}
use Rattle.quorum_cell.specs.declared.message.Told.TheVariants.{Down, DiskFault, Sealed, Unsealed, Behind, Ack, Cut, Short, Got, Trimmed}
use Rattle.quorum_cell.specs.Servers.{Server, restarted, writes, written}
use Rattle.quorum_cell.proofs.Table.{written_up, restarted_up}
use Rattle.log_server.specs.View.{View, Spares, TakesWrite, Tries as TriesDisk}
use Rattle.log_server.specs.Answers.{Answers as ServerAnswers, Tells as TellsSo, Stops as StopsSo, CountsNothing, wants_write, writes_behind}
use Rattle.native_plan.specs.declared.pending.Pending.{Pending}
use Rattle.delos_types.specs.declared.entry.Entry.{Entry}
use Rattle.native_loglet.specs.Natives.{Native, NativeView, PendingList, loglet_of, state_in, states_in, served_by, serving_of, down_in}
use Rattle.native_loglet.specs.declared.mail.Mail.{Mail}
use Rattle.native_loglet.specs.declared.mail.Mail.TheVariants as mail
use Rattle.native_loglet.specs.Copies.{ComesAgain}
use Rattle.fate_words.specs.Words.{fate_of}
use Rattle.native_loglet.proofs.Rules.{moves_so}
use Rattle.fate_words.specs.declared.fates.Fate.{Fate}
use Rattle.fate_words.specs.declared.fates.Fate.TheVariants.{Deliver, DeliverAndKeep, Lose}
use Rattle.native_loglet.specs.Faults.{is_failed}
use Rattle.native_loglet.specs.Moving.{LosesAs, FailsAs, CanMove, MovesByLoss, MovesByRequest, MovesByAnswer, Moves}

---- one server

-- counted in either order
pub same_count : (n : ℕ) → one_more n ≡ bumped n
same_count n = omega arith

-- the state of a server by its parts
abbrev shown_as : Bool → ℕ → ℕ → ℕ → ℕ → ℕ → ServerState
shown_as up armed word faults stops restarts = record { up = up; armed = armed; word = word; faults = faults; stops = stops; restarts = restarts }

state_by : {u v : Bool} {a b w x f g s t r q : ℕ} → u ≡ v → a ≡ b → w ≡ x → f ≡ g → s ≡ t → r ≡ q → shown_as u a w f s r ≡ shown_as v b x g t q
state_by up armed word faults stops restarts = rw (up, armed, word, faults, stops, restarts) refl

-- what it shows of its count
armed_up : (b : Bool) (n : ℕ) → b ≡ true → (if b then n else 0) ≡ n
armed_up b n e = rw e refl

armed_down : (b : Bool) (n : ℕ) → b ≡ false → (if b then n else 0) ≡ 0
armed_down b n e = rw e refl

-- want of memory
pub state_spared : (v w : View) → w ≡ record v { disk = w.disk } → Spares 1 v.disk w.disk → TakesSome (state_in v) (state_in w)
state_spared v w same d = by v.server.up refl
  where
    up : w.server.up ≡ v.server.up
    up = ap (λ (x : View). x.server.up) same

    is : state_in w ≡ record (state_in v) { armed = (state_in w).armed }
    is = state_by up refl d.word d.faults (ap (λ (x : View). x.stops) same) (ap (λ (x : View). x.restarts) same)

    by : (b : Bool) → v.server.up ≡ b → TakesSome (state_in v) (state_in w)
    by true u =
        let was : (state_in v).armed ≡ v.disk.armed = armed_up v.server.up v.disk.armed u in
        let now : (state_in w).armed ≡ w.disk.armed = armed_up w.server.up w.disk.armed (up ∙ u) in
        record { is = is; fewer = omega (arith, was, now, d.spends.fewer); still = ap (nat_lt 0) now ∙ d.spends.still ∙ ap (nat_lt 0) (sym was) }
    by false u =
        let was : (state_in v).armed ≡ 0 = armed_down v.server.up v.disk.armed u in
        let now : (state_in w).armed ≡ 0 = armed_down w.server.up w.disk.armed (up ∙ u) in
        record { is = is; fewer = omega (arith, was, now); still = ap (nat_lt 0) (now ∙ sym was) }

-- it failed in a write
goes_down : (v w : View) (ask : Ask) → StopsSo v ask w → GoesDown (state_in v) (state_in w)
goes_down v w ask h = record {
  was = (and_parts v.server.up (writes v.server ask) h.wanted).0;
  is = state_by down (armed_down w.server.up w.disk.armed down) h.word (h.faults ∙ same_count v.disk.faults) h.counts.0 h.counts.1;
}
  where
    down : w.server.up ≡ false
    down = ap (λ (s : Server). s.up) h.server

-- it wrote a record
wrote_one : (v w : View) (ask : Ask) → v.server.up ≡ true → w.server.up ≡ v.server.up → TakesWrite (writes_behind ask) v.disk w.disk → CountsNothing v w → Writes (state_in v) (state_in w)
wrote_one v w ask u up d counts =
    let was : (state_in v).armed ≡ v.disk.armed = armed_up v.server.up v.disk.armed u in
    let now : (state_in w).armed ≡ w.disk.armed = armed_up w.server.up w.disk.armed (up ∙ u) in
    record {
      up = u;
      is = state_by up refl d.word d.faults counts.0 counts.1;
      fewer = omega (arith, was, now, d.taken.taken);
      still = ap (nat_lt 0) now ∙ d.taken.still ∙ ap (nat_lt 0) (sym was);
    }

-- what a server that was asked shows
pub answers_wear : (v w : View) (ask : Ask) (told : Told) → ServerAnswers v ask told w → Wears (state_in v) (state_in w)
answers_wear v w ask told h = by told h
  where
    after_up : (b : Bool) → v.server.up ≡ b → (if b then written v.server ask else v.server).up ≡ v.server.up
    after_up true u = written_up v.server ask
    after_up false u = refl

    tells : (z : Told) → TellsSo v ask z w → Wears (state_in v) (state_in w)
    tells z t = at (wants_write v.server ask) refl
      where
        at : (b : Bool) → wants_write v.server ask ≡ b → Wears (state_in v) (state_in w)
        at false e = inl (ap state_in (t.calm e))
        at true e = inr (inl (wrote_one v w ask (and_parts v.server.up (writes v.server ask) e).0 (ap (λ (s : Server). s.up) t.server ∙ after_up v.server.up refl) (t.write e) t.counts))

    by : (z : Told) → ServerAnswers v ask z w → Wears (state_in v) (state_in w)
    by DiskFault x = inr (inr (goes_down v w ask x))
    by Down x = tells Down x
    by (Sealed n) x = tells (Sealed n) x
    by (Unsealed n) x = tells (Unsealed n) x
    by (Behind n) x = tells (Behind n) x
    by (Ack n) x = tells (Ack n) x
    by (Cut n) x = tells (Cut n) x
    by (Short n) x = tells (Short n) x
    by (Got e) x = tells (Got e) x
    by (Trimmed n) x = tells (Trimmed n) x

-- its disk is armed with a count
armed_faults : (d : DiskView) (n : ℕ) (b : Bool) → (if b then d else record d { armed = n }).faults ≡ d.faults
armed_faults d n true = refl
armed_faults d n false = refl

armed_word : (d : DiskView) (n : ℕ) (b : Bool) → (if b then d else record d { armed = n }).word ≡ d.word
armed_word d n true = refl
armed_word d n false = refl

pub state_armed : (v w : View) (after : ℕ) → w ≡ record v { disk = if v.disk.stopped then v.disk else record v.disk { armed = after }; stops = one_more v.stops } → (v.server.up ≡ true → w.disk.armed ≡ after) → IsArmed after (state_in v) (state_in w)
state_armed v w after is arms = state_by up (by v.server.up refl)
    (ap (λ (x : View). x.disk.word) is ∙ armed_word v.disk after v.disk.stopped)
    (ap (λ (x : View). x.disk.faults) is ∙ armed_faults v.disk after v.disk.stopped)
    (ap (λ (x : View). x.stops) is ∙ same_count v.stops)
    (ap (λ (x : View). x.restarts) is)
  where
    up : w.server.up ≡ v.server.up
    up = ap (λ (x : View). x.server.up) is

    by : (b : Bool) → v.server.up ≡ b → (state_in w).armed ≡ (if v.server.up then after else 0)
    by true u = armed_up w.server.up w.disk.armed (up ∙ u) ∙ arms u ∙ sym (armed_up v.server.up after u)
    by false u = armed_down w.server.up w.disk.armed (up ∙ u) ∙ sym (armed_down v.server.up after u)

-- what a server shows that is told to come up
pub record Reopened (word : ℕ) (v w : View) (up : Bool) : Type 0 where
  pub calm : v.server.up ≡ true → (up ≡ true) × (w ≡ record v { restarts = one_more v.restarts })
  pub restarted : up ≡ true → (kept : Bool) × (w.server ≡ restarted v.server kept v.server.torn)
  pub failed : up ≡ false → (w ≡ record v { disk = w.disk; restarts = one_more v.restarts }) × (w.disk.faults ≡ one_more v.disk.faults) × TriesDisk word v.disk w.disk
  pub no_fault : up ≡ true → w.disk.faults ≡ v.disk.faults
  pub word_is : up ≡ true → v.server.up ≡ false → w.disk.word ≡ word
  pub disarmed : up ≡ true → v.server.up ≡ false → w.disk.armed ≡ 0
  pub counted : up ≡ true → w.restarts ≡ one_more v.restarts
  pub stops : w.stops ≡ v.stops

chosen : (b : Bool) (m n : ℕ) → b ≡ true → (if b then m else n) ≡ m
chosen b m n e = rw e refl

other : (b : Bool) (m n : ℕ) → b ≡ false → (if b then m else n) ≡ n
other b m n e = rw e refl

pub state_reopened : (word : ℕ) (v w : View) (up : Bool) → Reopened word v w up → RestartsTo word up (state_in v) (state_in w)
state_reopened word v w true h = by v.server.up refl
  where
    is_up : w.server.up ≡ true
    is_up = ap (λ (s : Server). s.up) (h.restarted refl).1 ∙ restarted_up v.server (h.restarted refl).0 v.server.torn

    by : (b : Bool) → v.server.up ≡ b → RestartsTo word true (state_in v) (state_in w)
    by true u =
        let is : w ≡ record v { restarts = one_more v.restarts } = (h.calm u).1 in
        state_by is_up (armed_up w.server.up w.disk.armed is_up ∙ ap (λ (x : View). x.disk.armed) is ∙ sym (armed_up v.server.up v.disk.armed u)) (ap (λ (x : View). x.disk.word) is ∙ sym (chosen v.server.up v.disk.word word u)) (h.no_fault refl) h.stops (h.counted refl ∙ same_count v.restarts)
    by false u = state_by is_up (armed_up w.server.up w.disk.armed is_up ∙ h.disarmed refl u ∙ sym (armed_down v.server.up v.disk.armed u)) (h.word_is refl u ∙ sym (other v.server.up v.disk.word word u)) (h.no_fault refl) h.stops (h.counted refl ∙ same_count v.restarts)
state_reopened word v w false h =
    let down : v.server.up ≡ false = down_yet v.server.up h.calm in
    let is : w ≡ record v { disk = w.disk; restarts = one_more v.restarts } = (h.failed refl).0 in
    let up : w.server.up ≡ v.server.up = ap (λ (x : View). x.server.up) is in (
      down,
      (h.failed refl).2,
      state_by up (armed_down w.server.up w.disk.armed (up ∙ down) ∙ sym (armed_down v.server.up v.disk.armed down)) refl ((h.failed refl).1 ∙ same_count v.disk.faults) h.stops (ap (λ (x : View). x.restarts) is ∙ same_count v.restarts),
    )
  where
    down_yet : (b : Bool) → (b ≡ true → (false ≡ true) × (w ≡ record v { restarts = one_more v.restarts })) → b ≡ false
    down_yet true k = absurd (false≢true (k refl).0)
    down_yet false k = refl

-- it stays down, since there was no memory
pub state_down : (word : ℕ) (v w : View) → v.server.up ≡ false → w ≡ record v { disk = w.disk } → w.disk.faults ≡ v.disk.faults → TriesDisk word v.disk w.disk → MayReopen word (state_in v) (state_in w)
state_down word v w down is faults tries = by tries
  where
    up : w.server.up ≡ v.server.up
    up = ap (λ (x : View). x.server.up) is

    armed : (state_in w).armed ≡ (state_in v).armed
    armed = armed_down w.server.up w.disk.armed (up ∙ down) ∙ sym (armed_down v.server.up v.disk.armed down)

    by : TriesDisk word v.disk w.disk → MayReopen word (state_in v) (state_in w)
    by (inl reopened) = inr (down, state_by up armed reopened faults (ap (λ (x : View). x.stops) is) (ap (λ (x : View). x.restarts) is))
    by (inr same) = inl (state_by up armed same faults (ap (λ (x : View). x.stops) is) (ap (λ (x : View). x.restarts) is))

pub refused : {A E : Type 0} (r : Result A E) {P : Type 0} → P → OnErr r P
refused (Ok a) h = tt
refused (Err e) h = h

---- all servers

pub wear_same : (ss : List ServerState) → Wear ss ss
wear_same [] = tt
wear_same (s ∷ ss) = (inl refl, wear_same ss)

pub take_none : (ss : List ServerState) → TakeSome ss ss
take_none [] = tt
take_none (s ∷ ss) = (record { is = refl; fewer = omega arith; still = refl }, take_none ss)

pub take_at : (vs : List View) (i : ℕ) (was is : View) → i < length vs → was ≡ get_or vs i was → TakesSome (state_in was) (state_in is) → TakeSome (states_in vs) (states_in (set vs i is))
take_at [] i was is here there h = absurd (omega (arith, here))
take_at (v ∷ vs) zero was is here there h = (subst (λ (x : View). TakesSome (state_in x) (state_in is)) there h, take_none (states_in vs))
take_at (v ∷ vs) (suc i) was is here there h = ((take_none (state_in v ∷ [])).0, take_at vs i was is (omega (arith, here)) there h)

-- one of them was put in its own place
pub wear_at : (vs : List View) (i : ℕ) (was is : View) → slice_get vs i ≡ Some was → Wears (state_in was) (state_in is) → Wear (states_in vs) (states_in (set vs i is))
wear_at [] i was is there h = absurd (none-some was there)
wear_at (v ∷ vs) zero was is there h = (subst (λ (x : View). Wears (state_in x) (state_in is)) (sym (same_Some v was there)) h, wear_same (states_in vs))
wear_at (v ∷ vs) (suc i) was is there h = (inl refl, wear_at vs i was is there h)

pub changes_at : (R : ServerState → ServerState → Type 0) (vs : List View) (i : ℕ) (was is : View) → i < length vs → was ≡ get_or vs i was → R (state_in was) (state_in is) → ChangesAt R i (states_in vs) (states_in (set vs i is))
changes_at R [] i was is here there r = absurd (omega (arith, here))
changes_at R (v ∷ vs) zero was is here there r = (subst (λ (x : View). R (state_in x) (state_in is)) there r, refl)
changes_at R (v ∷ vs) (suc i) was is here there r = (refl, changes_at R vs i was is (omega (arith, here)) there r)

pub downs_are : (vs : List View) → down_in vs ≡ downs_of (states_in vs)
downs_are [] = refl
downs_are (v ∷ vs) = sum_by-cons (λ (x : View). cond (not x.server.up) 1 0) v vs ∙ by v.server.up (downs_are vs)
  where
    by : (b : Bool) → down_in vs ≡ downs_of (states_in vs) → cond (not b) 1 0 + down_in vs ≡ (if b then 0 else 1) + downs_of (states_in vs)
    by true e = omega (arith, e)
    by false e = omega (arith, e)

pub states_many : (vs : List View) → length (states_in vs) ≡ length vs
states_many vs = length-map vs state_in

pub other_stays : (vs : List View) (i j : ℕ) (w : View) → (j ≡ i → ⊥) → slice_get (slice_set vs i w) j ≡ slice_get vs j
other_stays [] i j w other = refl
other_stays (v ∷ vs) zero zero w other = absurd (other refl)
other_stays (v ∷ vs) zero (suc j) w other = refl
other_stays (v ∷ vs) (suc i) zero w other = refl
other_stays (v ∷ vs) (suc i) (suc j) w other = other_stays vs i j w (λ e. other (ap suc e))

---- a message

pub moves_wear : (entries : List Entry) (cut n word : ℕ) (p q : Pending) (vs ws : List View) (failed : Bool) → CanMove entries cut n p → Moves entries cut word p q vs ws failed → Wear (states_in vs) (states_in ws)
moves_wear entries cut n word p q vs ws failed can m = by (moves_so (fate_of word) entries cut m.server p q vs ws failed m.moves)
  where
    stays : ws ≡ vs → Wear (states_in vs) (states_in ws)
    stays e = subst (λ (xs : List View). Wear (states_in vs) (states_in xs)) (sym e) (wear_same (states_in vs))

    asked : MovesByRequest entries cut m.server p q vs ws failed → Wear (states_in vs) (states_in ws)
    asked r =
        let ask = can.asks m.server r.errand r.asked in
        subst (λ (xs : List View). Wear (states_in vs) (states_in xs)) (sym r.servers) (wear_at vs m.server r.was r.is r.there (answers_wear r.was r.is ask.0 r.answers.told (r.answers.tells ask.0 ask.1)))

    by : MovesByLoss cut m.server p q vs ws failed ⊎ (MovesByRequest entries cut m.server p q vs ws failed ⊎ MovesByAnswer cut m.server p q vs ws failed) → Wear (states_in vs) (states_in ws)
    by (inl x) = stays x.servers
    by (inr (inl x)) = asked x
    by (inr (inr x)) = stays x.servers

---- whether a fault is counted

fate_lost : (word : ℕ) → fate_of word ≡ Lose → (word % 8 == 7) ≡ true
fate_lost word h = by (word % 8 == 7) (word % 8 == 6) h
  where
    by : (b d : Bool) → (if b then Lose else (if d then DeliverAndKeep else Deliver)) ≡ Lose → b ≡ true
    by true d e = refl
    by false true e = absurd (cc)
    by false false e = absurd (cc)

-- whether the word loses the message, as the code tests it
pub is_lost_by : (f : Fate) (lost : Bool) (word : ℕ) → f ≡ fate_of word → LosesAs f lost → lost ≡ true → fate_of word ≡ Lose
is_lost_by Lose lost word e l h = sym e
is_lost_by Deliver lost word e l h = absurd (false≢true (sym l ∙ h))
is_lost_by DeliverAndKeep lost word e l h = absurd (false≢true (sym l ∙ h))

pub is_kept_by : (f : Fate) (lost : Bool) (word : ℕ) → f ≡ fate_of word → LosesAs f lost → lost ≡ false → fate_of word ≡ Lose → ⊥
is_kept_by Lose lost word e l h k = false≢true (sym h ∙ l)
is_kept_by Deliver lost word e l h k = absurd (apart (e ∙ k))
  where
    apart : Deliver ≡ Lose → ⊥
    apart x = absurd (cc)
is_kept_by DeliverAndKeep lost word e l h k = absurd (apart (e ∙ k))
  where
    apart : DeliverAndKeep ≡ Lose → ⊥
    apart x = absurd (cc)

pub lost_failed : (word before now : ℕ) → fate_of word ≡ Lose → true ≡ is_failed word before now
lost_failed word before now h = sym (or_left (word % 8 == 7) (nat_lt before now) (fate_lost word h))

fate_not_lost : (word : ℕ) → (fate_of word ≡ Lose → ⊥) → (word % 8 == 7) ≡ false
fate_not_lost word h = by (word % 8 == 7) (word % 8 == 6) h
  where
    by : (b d : Bool) → ((if b then Lose else (if d then DeliverAndKeep else Deliver)) ≡ Lose → ⊥) → b ≡ false
    by true d e = absurd (e refl)
    by false d e = refl

no_less : (n : ℕ) → nat_lt n n ≡ false
no_less n = false_from_ne_true (nat_lt n n) (λ e. not_below (ltb-true n n e))
  where
    not_below : n < n → ⊥
    not_below h = omega (arith, h)

pub none_failed : (word n : ℕ) → (fate_of word ≡ Lose → ⊥) → false ≡ is_failed word n n
none_failed word n h = sym (or_from (word % 8 == 7) (nat_lt n n) (fate_not_lost word h) (no_less n))

abbrev pub down_of : View → ℕ
down_of v = cond (not v.server.up) 1 0

downs_put : (vs : List View) (i : ℕ) (was is : View) → slice_get vs i ≡ Some was → down_in (set vs i is) + down_of was ≡ down_in vs + down_of is
downs_put [] i was is there = absurd (none-some was there)
downs_put (v ∷ vs) zero was is there = omega (arith, sum_by-cons down_of is vs, sum_by-cons down_of v vs, ap down_of (same_Some v was there))
downs_put (v ∷ vs) (suc i) was is there = omega (arith, sum_by-cons down_of v (set vs i is), sum_by-cons down_of v vs, downs_put vs i was is there)

-- a fault that the server's disk told of is one server more that is down
pub asked_failed : (word : ℕ) (vs : List View) (i : ℕ) (was is : View) (ask : Ask) (told : Told) (failed : Bool) → (fate_of word ≡ Lose → ⊥) → slice_get vs i ≡ Some was → ServerAnswers was ask told is → FailsAs told failed → failed ≡ is_failed word (down_in vs) (down_in (set vs i is))
asked_failed word vs i was is ask told failed kept there h f = by told h f
  where
    after_up : (b : Bool) → was.server.up ≡ b → (if b then written was.server ask else was.server).up ≡ was.server.up
    after_up true u = written_up was.server ask
    after_up false u = refl

    tells : (z : Told) → TellsSo was ask z is → failed ≡ false → failed ≡ is_failed word (down_in vs) (down_in (set vs i is))
    tells z t e =
        let up : is.server.up ≡ was.server.up = ap (λ (s : Server). s.up) t.server ∙ after_up was.server.up refl in
        let same : down_in (set vs i is) ≡ down_in vs = omega (arith, downs_put vs i was is there, ap {B = ℕ} (λ b. cond (not b) 1 0) up) in
        e ∙ none_failed word (down_in vs) kept ∙ ap (is_failed word (down_in vs)) (sym same)

    stops : StopsSo was ask is → failed ≡ true → failed ≡ is_failed word (down_in vs) (down_in (set vs i is))
    stops t e =
        let up : was.server.up ≡ true = (and_parts was.server.up (writes was.server ask) t.wanted).0 in
        let down : is.server.up ≡ false = ap (λ (s : Server). s.up) t.server in
        let more : down_in vs < down_in (set vs i is) = omega (arith, downs_put vs i was is there, ap {B = ℕ} (λ b. cond (not b) 1 0) up, ap {B = ℕ} (λ b. cond (not b) 1 0) down) in
        e ∙ sym (or_right (word % 8 == 7) (nat_lt (down_in vs) (down_in (set vs i is))) (lt-ltb (down_in vs) (down_in (set vs i is)) more))

    by : (z : Told) → ServerAnswers was ask z is → FailsAs z failed → failed ≡ is_failed word (down_in vs) (down_in (set vs i is))
    by DiskFault x e = stops x e
    by Down x e = tells Down x e
    by (Sealed n) x e = tells (Sealed n) x e
    by (Unsealed n) x e = tells (Unsealed n) x e
    by (Behind n) x e = tells (Behind n) x e
    by (Ack n) x e = tells (Ack n) x e
    by (Cut n) x e = tells (Cut n) x e
    by (Short n) x e = tells (Short n) x e
    by (Got b) x e = tells (Got b) x e
    by (Trimmed n) x e = tells (Trimmed n) x e

---- a copy that comes again

pub comes_wear : (cut : ℕ) (z : Option Mail) (old new : PendingList) (vs ws : List View) (failed : Bool) → ComesAgain cut z old new vs ws failed → Wear (states_in vs) (states_in ws)
comes_wear cut None old new vs ws failed m = subst (λ (xs : List View). Wear (states_in vs) (states_in xs)) (sym m.servers) (wear_same (states_in vs))
comes_wear cut (Some (mail.Asked t i x)) old new vs ws failed m = subst (λ (xs : List View). Wear (states_in vs) (states_in xs)) (sym m.servers) (wear_at vs i m.was m.is m.there (answers_wear m.was m.is x m.told m.answers))
comes_wear cut (Some (mail.Told t i e z)) old new vs ws failed m = subst (λ (xs : List View). Wear (states_in vs) (states_in xs)) (sym m.servers) (wear_same (states_in vs))

first_kept : fate_of 0 ≡ Lose → ⊥
first_kept e = absurd (cc)

-- a fault came just where one server more is down
pub comes_failed : (cut : ℕ) (z : Option Mail) (old new : PendingList) (vs ws : List View) (failed : Bool) → ComesAgain cut z old new vs ws failed → failed ≡ nat_lt (down_in vs) (down_in ws)
comes_failed cut None old new vs ws failed m = m.fault ∙ none_failed 0 (down_in vs) first_kept ∙ ap (λ (xs : List View). nat_lt (down_in vs) (down_in xs)) (sym m.servers)
comes_failed cut (Some (mail.Asked t i x)) old new vs ws failed m = asked_failed 0 vs i m.was m.is x m.told failed first_kept m.there m.answers m.fault ∙ ap (λ (xs : List View). nat_lt (down_in vs) (down_in xs)) (sym m.servers)
comes_failed cut (Some (mail.Told t i e z)) old new vs ws failed m = m.fault ∙ none_failed 0 (down_in vs) first_kept ∙ ap (λ (xs : List View). nat_lt (down_in vs) (down_in xs)) (sym m.servers)

---- what is seen of the servers, once those that were lent are back

pub carried_serves : (told carried strayed : ℕ) (a : Native) (w : NativeView) (word count : ℕ) (vs ws : List View) → record { loglet = loglet_of a; replicas = a.replicas; told = told; carried = carried; strayed = strayed; parts = a } ≡ w → vs ≡ ws → count ≡ bumped carried → Wear (states_in a.replicas) (states_in ws)
    → Wear (states_in w.replicas) (states_in vs) × (served_by (states_in vs) word count strayed ≡ record (serving_of w) { states = states_in vs; told = word; carries = bumped w.carried })
carried_serves told carried strayed a w word count vs ws e back counts h =
    subst (λ (x : NativeView). Wear (states_in x.replicas) (states_in vs) × (served_by (states_in vs) word count strayed ≡ record (serving_of x) { states = states_in vs; told = word; carries = bumped x.carried })) e (
      subst (λ (xs : List View). Wear (states_in a.replicas) (states_in xs)) (sym back) h,
      ap (λ n. served_by (states_in vs) word n strayed) counts,
    )

pub strayed_serves : (told carried strayed : ℕ) (a : Native) (w : NativeView) (word count : ℕ) (vs ws : List View) → record { loglet = loglet_of a; replicas = a.replicas; told = told; carried = carried; strayed = strayed; parts = a } ≡ w → vs ≡ ws → count ≡ bumped strayed → Wear (states_in a.replicas) (states_in ws)
    → Wear (states_in w.replicas) (states_in vs) × (served_by (states_in vs) word carried count ≡ record (serving_of w) { states = states_in vs; told = word; strays = bumped w.strayed })
strayed_serves told carried strayed a w word count vs ws e back counts h =
    subst (λ (x : NativeView). Wear (states_in x.replicas) (states_in vs) × (served_by (states_in vs) word carried count ≡ record (serving_of x) { states = states_in vs; told = word; strays = bumped x.strayed })) e (
      subst (λ (xs : List View). Wear (states_in a.replicas) (states_in xs)) (sym back) h,
      ap (λ n. served_by (states_in vs) word carried n) counts,
    )

pub spared_serves : (told carried strayed : ℕ) (a : Native) (w : NativeView) (vs ws : List View) → record { loglet = loglet_of a; replicas = a.replicas; told = told; carried = carried; strayed = strayed; parts = a } ≡ w → vs ≡ ws → TakeSome (states_in a.replicas) (states_in ws)
    → TakeSome (states_in w.replicas) (states_in vs) × (served_by (states_in vs) told carried strayed ≡ record (serving_of w) { states = states_in vs })
spared_serves told carried strayed a w vs ws e back h =
    subst (λ (x : NativeView). TakeSome (states_in x.replicas) (states_in vs) × (served_by (states_in vs) told carried strayed ≡ record (serving_of x) { states = states_in vs })) e (
      subst (λ (xs : List View). TakeSome (states_in a.replicas) (states_in xs)) (sym back) h,
      refl,
    )

-- one server was put in the place of what it was
pub put_serves : (told carried strayed : ℕ) (R : ServerState → ServerState → Type 0) (a : Native) (w : NativeView) (i : ℕ) (was is : View) → record { loglet = loglet_of a; replicas = a.replicas; told = told; carried = carried; strayed = strayed; parts = a } ≡ w → i < length a.replicas → was ≡ get_or a.replicas i was → R (state_in was) (state_in is)
    → ChangesAt R i (states_in w.replicas) (states_in (set a.replicas i is)) × (served_by (states_in (set a.replicas i is)) told carried strayed ≡ record (serving_of w) { states = states_in (set a.replicas i is) })
put_serves told carried strayed R a w i was is e here there r =
    subst (λ (x : NativeView). ChangesAt R i (states_in x.replicas) (states_in (set a.replicas i is)) × (served_by (states_in (set a.replicas i is)) told carried strayed ≡ record (serving_of x) { states = states_in (set a.replicas i is) })) e (
      changes_at R a.replicas i was is here there r,
      refl,
    )
