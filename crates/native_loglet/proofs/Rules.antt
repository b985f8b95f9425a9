-- What the parts of the code come to, over plain values.
use Rattle.std.proofs.Common.{◌≡◌, ℕ, zero, suc, ◌+◌, ◌-◌, ◌<◌, ◌≤◌, ◌^◌, Bool, true, false, cond, refl, sym, ◌∙◌, ap, subst, arith, List, [], ◌∷◌, ◌++◌, length, get_or, set, take, Option, Some, None, inl, inr}
use Rattle.std.specs.Prelude.{◌⊎◌, ◌&&◌, ◌==◌, nat_lt, is_some, slice_get, count_by, option_map, if◌then◌else◌, Result, Ok, Err, IfOk, OnErr}
use Rattle.std.proofs.lemmas.Bool.{false≢true, cases_eq, eq-eqb, ne_eqb, ltb-true, ltb-false}
use Rattle.std.proofs.lemmas.Option.{none-some, same_Some}
use Rattle.std.proofs.lemmas.List.Sums.{sum_by-cons}
use Rattle.delos_types.specs.declared.entry.Entry.{Entry}
use Rattle.delos_types.specs.Spelling.{IsSpellable}
use Rattle.quorum_cell.specs.declared.message.Ask.{Ask}
use Rattle.quorum_cell.specs.declared.message.Ask.TheVariants as asks
use Rattle.quorum_cell.specs.declared.message.Told.{Told}
use Rattle.quorum_cell.specs.declared.message.Told.TheVariants.{Down, DiskFault, Sealed, Unsealed, Behind, Ack, Cut, Short, Got, Trimmed}
use Rattle.quorum_cell.specs.Servers.{Server, length_of, is_sealed, told as table, told_up, told_entry, written, restarted}
use Rattle.quorum_cell.proofs.Table.{written_up, restarted_up}
use Rattle.log_server.specs.View.{View}
use Rattle.log_server.specs.Answers.{Answers as ServerAnswers, Tells as TellsSo}
use Rattle.native_plan.specs.declared.member.Member.{Member}
use Rattle.native_plan.specs.declared.pending.Pending.{Pending}
use Rattle.native_plan.specs.declared.message.Errand.{Errand}
use Rattle.native_plan.specs.declared.message.Errand.TheVariants.{Store, Repair}
use Rattle.native_plan.specs.declared.message.Message.{Message}
use Rattle.native_plan.specs.declared.message.Message.TheVariants.{Asked, Told as Answered}
use Rattle.native_plan.specs.declared.message.Turn.{Turn}
use Rattle.native_plan.specs.declared.message.Turn.TheVariants.{Asks, Tells, Rests}
use Rattle.native_plan.specs.Members.{no_member, new_member, is_out, turn_of, nth_out, due_of}
use Rattle.native_plan.specs.Pendings.{Answers, Hears, Loses}
use Rattle.native_ties.specs.Parts.{entry_at, asked_by}
use Rattle.native_ties.proofs.Losers.{within}
use Rattle.loglet_api.specs.declared.call.Answer.{Answer}
use Rattle.loglet_api.specs.declared.call.Answer.TheVariants.{CutAt}
use Rattle.native_loglet.specs.declared.closing.Decided.{Decided}
use Rattle.native_loglet.specs.Closing.{is_cut, answer_by, answer_for}
use Rattle.native_loglet.specs.Telling.{seal_told_by, length_told_by}
use Rattle.native_loglet.specs.Moving.{Has, server_at, AreOf, LosesAs, FailsAs, AnswersFor, MovesByLoss, MovesByRequest, MovesByAnswer, MovesBy, Moves, picked_by}
use Rattle.fate_words.specs.declared.fates.Fate.{Fate}
use Rattle.fate_words.specs.declared.fates.Fate.TheVariants.{Deliver, DeliverAndKeep, Lose}
use Rattle.fate_words.specs.Words.{fate_of}

---- which message moves

-- the member that is picked has one
pub nth_is_out : (skip : ℕ) (ms : List Member) → skip < count_by is_out ms → is_out (get_or ms (nth_out skip ms) no_member) ≡ true
nth_is_out skip [] h = absurd (omega (arith, h))
nth_is_out skip (m ∷ ms) h = by (is_out m) refl (sum_by-cons (λ (x : Member). cond (is_out x) 1 0) m ms) (nth_is_out skip ms) (nth_is_out (skip - 1) ms)
  where
    by : (b : Bool) → is_out m ≡ b → count_by is_out (m ∷ ms) ≡ cond (is_out m) 1 0 + count_by is_out ms → (skip < count_by is_out ms → is_out (get_or ms (nth_out skip ms) no_member) ≡ true) → (skip - 1 < count_by is_out ms → is_out (get_or ms (nth_out (skip - 1) ms) no_member) ≡ true)
        → is_out (get_or (m ∷ ms) (if b then (if skip == 0 then 0 else nth_out (skip - 1) ms + 1) else nth_out skip ms + 1) no_member) ≡ true
    by false e counts here next = (let none : cond (is_out m) 1 0 ≡ 0 = ap {A = Bool} {B = ℕ} (λ x. cond x 1 0) e in (let step : nth_out skip ms + 1 ≡ suc (nth_out skip ms) = omega arith in rw step (here (omega (arith, h, counts, none)))))
    by true e counts here next = at (cases_eq skip 0)
      where
        at : (skip ≡ 0) ⊎ (skip ≡ 0 → ⊥) → is_out (get_or (m ∷ ms) (if skip == 0 then 0 else nth_out (skip - 1) ms + 1) no_member) ≡ true
        at (inl z) = rw (eq-eqb skip 0 z) e
        at (inr n) = (let one : cond (is_out m) 1 0 ≡ 1 = ap {B = ℕ} (λ x. cond x 1 0) e in (let step : nth_out (skip - 1) ms + 1 ≡ suc (nth_out (skip - 1) ms) = omega arith in rw (ne_eqb skip 0 n, step) (next (omega (arith, h, counts, one, n)))))

pub asks_of : (z : Option Message) (e : Errand) → turn_of z ≡ Asks e → z ≡ Some (Asked e)
asks_of None e h = absurd (cc)
asks_of (Some (Asked f)) e h = let same : f ≡ e = cc in ap (λ x. Some (Asked x)) same
asks_of (Some (Answered f told)) e h = absurd (cc)

pub tells_of : (z : Option Message) → turn_of z ≡ Tells → (e : Errand) × (told : Told) × (z ≡ Some (Answered e told))
tells_of None h = absurd (cc)
tells_of (Some (Asked f)) h = absurd (cc)
tells_of (Some (Answered f told)) h = (f, told, refl)

pub rests_of : (z : Option Message) → turn_of z ≡ Rests → is_some z ≡ true → ⊥
rests_of None h out = false≢true out
rests_of (Some (Asked f)) h out = cc
rests_of (Some (Answered f told)) h out = cc

-- by a fate that is the word's
pub lost_as : (f g : Fate) (lost : Bool) → f ≡ g → LosesAs f lost → LosesAs g lost
lost_as f g lost e h = subst (λ (x : Fate). LosesAs x lost) e h

---- what moved

-- by the fate that the code tests
lost_by : (f : Fate) (lost : Bool) (entries : List Entry) (cut i : ℕ) (p q : Pending) (vs ws : List View) (failed : Bool) → LosesAs f lost → lost ≡ true → MovesByLoss cut i p q vs ws failed → MovesBy f entries cut i p q vs ws failed
lost_by Lose lost entries cut i p q vs ws failed h e m = m
lost_by Deliver lost entries cut i p q vs ws failed h e m = absurd (false≢true (sym h ∙ e))
lost_by DeliverAndKeep lost entries cut i p q vs ws failed h e m = absurd (false≢true (sym h ∙ e))

comes_by : (f : Fate) (lost : Bool) (entries : List Entry) (cut i : ℕ) (p q : Pending) (vs ws : List View) (failed : Bool) → LosesAs f lost → lost ≡ false → MovesByRequest entries cut i p q vs ws failed ⊎ MovesByAnswer cut i p q vs ws failed → MovesBy f entries cut i p q vs ws failed
comes_by Lose lost entries cut i p q vs ws failed h e m = absurd (false≢true (sym e ∙ h))
comes_by Deliver lost entries cut i p q vs ws failed h e m = m
comes_by DeliverAndKeep lost entries cut i p q vs ws failed h e m = m

-- a server answered
pub answered_for : (entries : List Entry) (cut i : ℕ) (errand : Errand) (told : Told) (p q : Pending) (was is : View) (failed : Bool) → Answers i errand told p q → ((ask : Ask) → asked_by entries cut errand ≡ Some ask → ServerAnswers was ask told is) → FailsAs told failed → AnswersFor entries cut i errand p q was is failed
answered_for entries cut i errand told p q was is failed answers tells fails = record { told = told; answers = answers; tells = tells; fault = fails }

-- it is lost, or it comes
pub moves_so : (f : Fate) (entries : List Entry) (cut i : ℕ) (p q : Pending) (vs ws : List View) (failed : Bool) → MovesBy f entries cut i p q vs ws failed → MovesByLoss cut i p q vs ws failed ⊎ (MovesByRequest entries cut i p q vs ws failed ⊎ MovesByAnswer cut i p q vs ws failed)
moves_so Lose entries cut i p q vs ws failed m = inl m
moves_so Deliver entries cut i p q vs ws failed m = inr m
moves_so DeliverAndKeep entries cut i p q vs ws failed m = inr m

pub moved_by_loss : (entries : List Entry) (cut word i : ℕ) (lost : Bool) (p q : Pending) (vs : List View) → i ≡ picked_by word p → LosesAs (fate_of word) lost → lost ≡ true → i < length p.members.items → is_out (get_or p.members.items i no_member) ≡ true → Loses cut i p q → Moves entries cut word p q vs vs true
moved_by_loss entries cut word i lost p q vs picked loses is here out l = record {
  server = i;
  picked = picked;
  here = here;
  moves = lost_by (fate_of word) lost entries cut i p q vs vs true loses is (record { out = out; loses = l; servers = refl; fault = refl });
}

pub moved_by_answer : (entries : List Entry) (cut word i : ℕ) (lost : Bool) (turn : Turn) (p q : Pending) (vs : List View) → i ≡ picked_by word p → LosesAs (fate_of word) lost → lost ≡ false → i < length p.members.items → turn ≡ turn_of (get_or p.members.items i no_member).message → turn ≡ Tells
    → ((e : Errand) (told : Told) → (get_or p.members.items i no_member).message ≡ Some (Answered e told) → Hears cut i e told p q) → Moves entries cut word p q vs vs false
moved_by_answer entries cut word i lost turn p q vs picked loses is here turns tells h =
    let t : (e : Errand) × (told : Told) × ((get_or p.members.items i no_member).message ≡ Some (Answered e told)) = tells_of _ (sym turns ∙ tells) in
    record {
      server = i;
      picked = picked;
      here = here;
      moves = comes_by (fate_of word) lost entries cut i p q vs vs false loses is (inr (record { errand = t.0; told = t.1; was_told = t.2; hears = h t.0 t.1 t.2; servers = refl; fault = refl }));
    }

pub there_is : {X : Type 0} (vs : List X) (i : ℕ) (d : X) → i < length vs → slice_get vs i ≡ Some (get_or vs i d)
there_is [] i d h = absurd (omega (arith, h))
there_is (v ∷ vs) zero d h = refl
there_is (v ∷ vs) (suc i) d h = there_is vs i d (omega (arith, h))

pub moved_by_request : {E : Type 0} (entries : List Entry) (cut word i : ℕ) (lost : Bool) (turn : Turn) (errand due : Errand) (p q : Pending) (vs : List View) (d is : View) (r : Result Bool E) → i ≡ picked_by word p → LosesAs (fate_of word) lost → lost ≡ false → i < length p.members.items → length p.members.items ≡ length vs
    → turn ≡ turn_of (get_or p.members.items i no_member).message → turn ≡ Asks errand → due ≡ due_of cut errand → IfOk r (AnswersFor entries cut i due p q (get_or vs i d) is) → IfOk r (Moves entries cut word p q vs (set vs i is))
moved_by_request entries cut word i lost turn errand due p q vs d is (Err e) picked loses kept here many turns asks same a = tt
moved_by_request entries cut word i lost turn errand due p q vs d is (Ok failed) picked loses kept here many turns asks same a = record {
  server = i;
  picked = picked;
  here = here;
  moves = comes_by (fate_of word) lost entries cut i p q vs (set vs i is) failed loses kept (inl (record { errand = errand; was = get_or vs i d; is = is; asked = asks_of _ errand (sym turns ∙ asks); there = there_is vs i d (omega (arith, here, many)); answers = subst (λ (e : Errand). AnswersFor entries cut i e p q (get_or vs i d) is failed) same a; servers = refl }));
}

---- what a server is asked

-- an entry that is kept stands at a position from the cut on
pub kept_at : (entries : List Entry) (cut place : ℕ) (e : Entry) → entry_at cut entries place ≡ Some e → (cut ≤ place) × (slice_get entries (place - cut) ≡ Some e)
kept_at entries cut place e h = by (nat_lt place cut) refl h
  where
    by : (b : Bool) → nat_lt place cut ≡ b → (if b then None else slice_get entries (place - cut)) ≡ Some e → (cut ≤ place) × (slice_get entries (place - cut) ≡ Some e)
    by true is x = absurd (none-some e x)
    by false is x = (ltb-false _ _ is, x)

pub kept_within : (entries : List Entry) (cut place : ℕ) → (e : Entry) × (entry_at cut entries place ≡ Some e) → (cut ≤ place) × (place - cut < length entries)
kept_within entries cut place h = (let x = kept_at entries cut place h.0 h.1 in (x.0, within entries (place - cut) h.0 x.1))

pub found_at : (entries : List Entry) (cut place : ℕ) (e : Entry) → (cut ≤ place) × (place - cut < length entries) → e ≡ get_or entries (place - cut) e → entry_at cut entries place ≡ Some e
found_at entries cut place e here is = by (nat_lt place cut) refl
  where
    by : (b : Bool) → nat_lt place cut ≡ b → (if b then None else slice_get entries (place - cut)) ≡ Some e
    by true h = absurd (let under : place < cut = ltb-true _ _ h in omega (arith, under, here.0))
    by false h = there_is entries (place - cut) e here.1 ∙ ap (λ x. Some x) (sym is)

pub kept_small : (entries : List Entry) (cut place : ℕ) (e : Entry) → entry_at cut entries place ≡ Some e → cut + length entries ≤ 2 ^ 32 → place < 2 ^ 32
kept_small entries cut place e h small = (let here = kept_within entries cut place (e, h) in omega (arith, here.0, here.1, small))

pub kept_spelled : (entries : List Entry) (cut place : ℕ) (e : Entry) → ((i : ℕ) (x : Entry) → slice_get entries i ≡ Some x → IsSpellable x) → entry_at cut entries place ≡ Some e → IsSpellable e
kept_spelled entries cut place e spelled h = spelled (place - cut) e (kept_at entries cut place e h).1

-- a server that is to take an entry is to take one that is kept
pub store_there : (entries : List Entry) (cut place : ℕ) (errand : Errand) → errand ≡ Store place → (ask : Ask) × (asked_by entries cut errand ≡ Some ask) → (e : Entry) × (entry_at cut entries place ≡ Some e)
store_there entries cut place errand is there = by (entry_at cut entries place) refl (subst (λ (x : Errand). asked_by entries cut x ≡ Some there.0) is there.1)
  where
    by : (z : Option Entry) → entry_at cut entries place ≡ z → option_map (λ e. asks.Store place e) z ≡ Some there.0 → (e : Entry) × (entry_at cut entries place ≡ Some e)
    by None at h = absurd (none-some there.0 h)
    by (Some e) at h = (e, at)

pub repair_there : (entries : List Entry) (cut place : ℕ) (errand : Errand) → errand ≡ Repair place → (ask : Ask) × (asked_by entries cut errand ≡ Some ask) → (e : Entry) × (entry_at cut entries place ≡ Some e)
repair_there entries cut place errand is there = by (entry_at cut entries place) refl (subst (λ (x : Errand). asked_by entries cut x ≡ Some there.0) is there.1)
  where
    by : (z : Option Entry) → entry_at cut entries place ≡ z → option_map (λ e. asks.Repair place e) z ≡ Some there.0 → (e : Entry) × (entry_at cut entries place ≡ Some e)
    by None at h = absurd (none-some there.0 h)
    by (Some e) at h = (e, at)

-- what writes nothing tells and leaves all as it was
never_written : (b : Bool) → (b && false) ≡ true → ⊥
never_written true e = false≢true e
never_written false e = false≢true e

pub tail_answers : (v : View) → ServerAnswers v asks.Tail (table v.server asks.Tail) v
tail_answers v = by v.server.up refl
  where
    by : (b : Bool) → v.server.up ≡ b → ServerAnswers v asks.Tail (if b then told_up v.server asks.Tail else Down) v
    by false u = record { told = rw u refl; server = rw u refl; calm = λ _. refl; write = λ e. absurd (never_written v.server.up e); counts = (refl, refl) }
    by true u = at (is_sealed v.server) refl
      where
        at : (s : Bool) → is_sealed v.server ≡ s → ServerAnswers v asks.Tail (if s then Sealed (length_of v.server) else Unsealed (length_of v.server)) v
        at true e = record { told = rw (u, e) refl; server = rw u refl; calm = λ _. refl; write = λ e. absurd (never_written v.server.up e); counts = (refl, refl) }
        at false e = record { told = rw (u, e) refl; server = rw u refl; calm = λ _. refl; write = λ e. absurd (never_written v.server.up e); counts = (refl, refl) }

pub read_answers : (v : View) (place : ℕ) → ServerAnswers v (asks.Read place) (table v.server (asks.Read place)) v
read_answers v place = by v.server.up refl
  where
    by : (b : Bool) → v.server.up ≡ b → ServerAnswers v (asks.Read place) (if b then told_up v.server (asks.Read place) else Down) v
    by false u = record { told = rw u refl; server = rw u refl; calm = λ _. refl; write = λ e. absurd (never_written v.server.up e); counts = (refl, refl) }
    by true u = at (nat_lt place v.server.base) refl (slice_get v.server.entries (place - v.server.base)) refl
      where
        at : (b : Bool) → nat_lt place v.server.base ≡ b → (z : Option Entry) → slice_get v.server.entries (place - v.server.base) ≡ z → ServerAnswers v (asks.Read place) (if b then Cut v.server.base else told_entry (length_of v.server) z) v
        at true e z f = record { told = rw (u, e) refl; server = rw u refl; calm = λ _. refl; write = λ e. absurd (never_written v.server.up e); counts = (refl, refl) }
        at false e None f = record { told = rw (u, e, f) refl; server = rw u refl; calm = λ _. refl; write = λ e. absurd (never_written v.server.up e); counts = (refl, refl) }
        at false e (Some x) f = record { told = rw (u, e, f) refl; server = rw u refl; calm = λ _. refl; write = λ e. absurd (never_written v.server.up e); counts = (refl, refl) }

---- whether a server is sealed

pub sealed_told : (s : Server) (n : ℕ) → table s asks.Tail ≡ Sealed n → (s.up ≡ true) × (is_sealed s ≡ true) × (n ≡ length_of s)
sealed_told s n h = by s.up refl h
  where
    by : (b : Bool) → s.up ≡ b → (if b then told_up s asks.Tail else Down) ≡ Sealed n → (s.up ≡ true) × (is_sealed s ≡ true) × (n ≡ length_of s)
    by false u e = absurd (cc)
    by true u e = at (is_sealed s) refl e
      where
        at : (z : Bool) → is_sealed s ≡ z → (if z then Sealed (length_of s) else Unsealed (length_of s)) ≡ Sealed n → (s.up ≡ true) × (is_sealed s ≡ true) × (n ≡ length_of s)
        at true f g = (let same : n ≡ length_of s = cc in (u, f, same))
        at false f g = absurd (cc)

pub unsealed_told : (s : Server) (n : ℕ) → table s asks.Tail ≡ Unsealed n → (s.up ≡ true) × (is_sealed s ≡ false) × (n ≡ length_of s)
unsealed_told s n h = by s.up refl h
  where
    by : (b : Bool) → s.up ≡ b → (if b then told_up s asks.Tail else Down) ≡ Unsealed n → (s.up ≡ true) × (is_sealed s ≡ false) × (n ≡ length_of s)
    by false u e = absurd (cc)
    by true u e = at (is_sealed s) refl e
      where
        at : (z : Bool) → is_sealed s ≡ z → (if z then Sealed (length_of s) else Unsealed (length_of s)) ≡ Unsealed n → (s.up ≡ true) × (is_sealed s ≡ false) × (n ≡ length_of s)
        at true f g = absurd (cc)
        at false f g = (let same : n ≡ length_of s = cc in (u, f, same))

-- a server that is down once it was asked is sealed as it was
pub down_sealed : (v w : View) (ask : Ask) (told : Told) → ServerAnswers v ask told w → w.server.up ≡ false → is_sealed w.server ≡ is_sealed v.server
down_sealed v w ask told h down = by told h
  where
    after_up : (b : Bool) → v.server.up ≡ b → (if b then written v.server ask else v.server).up ≡ b
    after_up true u = written_up v.server ask ∙ u
    after_up false u = u

    rests : (b : Bool) → v.server.up ≡ b → w.server ≡ (if b then written v.server ask else v.server) → is_sealed w.server ≡ is_sealed v.server
    rests true u e = absurd (false≢true (sym down ∙ ap (λ (s : Server). s.up) e ∙ after_up true u))
    rests false u e = ap is_sealed e

    tells : (z : Told) → TellsSo v ask z w → is_sealed w.server ≡ is_sealed v.server
    tells z t = rests v.server.up refl t.server

    by : (z : Told) → ServerAnswers v ask z w → is_sealed w.server ≡ is_sealed v.server
    by DiskFault x = ap is_sealed x.server
    by Down x = tells Down x
    by (Sealed n) x = tells (Sealed n) x
    by (Unsealed n) x = tells (Unsealed n) x
    by (Behind n) x = tells (Behind n) x
    by (Ack n) x = tells (Ack n) x
    by (Cut n) x = tells (Cut n) x
    by (Short n) x = tells (Short n) x
    by (Got e) x = tells (Got e) x
    by (Trimmed n) x = tells (Trimmed n) x

-- what is known of whether it is sealed
pub known_sealed : (s : Server) (before r : Bool) → r ≡ (if s.up then is_sealed s else before) → (s.up ≡ false → before ≡ is_sealed s) → r ≡ is_sealed s
known_sealed s before r h down = h ∙ by s.up refl
  where
    by : (b : Bool) → s.up ≡ b → (if b then is_sealed s else before) ≡ is_sealed s
    by true u = refl
    by false u = down u

---- the members of an operation that begins

pub none_of : AreOf [] []
none_of = record { all = refl; each = λ i here. absurd (omega (arith, here)) }

pub one_of_more : (vs : List View) (ms : List Member) (v : View) (at : ℕ) → AreOf vs ms → at ≤ length_of v.server → AreOf (vs ++ v ∷ []) (ms ++ new_member at ∷ [])
one_of_more [] [] v at k h = record { all = refl; each = λ i here. by i here }
  where
    by : (i : ℕ) → i < 1 → Has (server_at (v ∷ []) i) (get_or (new_member at ∷ []) i no_member)
    by zero here = (at, refl, h)
    by (suc i) here = absurd (omega (arith, here))
one_of_more [] (m ∷ ms) v at k h = absurd (omega (arith, k.all))
one_of_more (w ∷ vs) [] v at k h = absurd (omega (arith, k.all))
one_of_more (w ∷ vs) (m ∷ ms) v at k h = more (one_of_more vs ms v at (record { all = omega (arith, k.all); each = λ i here. k.each (suc i) (omega (arith, here)) }) h) (k.each 0 (omega arith))
  where
    more : AreOf (vs ++ v ∷ []) (ms ++ new_member at ∷ []) → Has w.server m → AreOf (w ∷ vs ++ v ∷ []) (m ∷ ms ++ new_member at ∷ [])
    more r first = record { all = omega (arith, r.all); each = λ i here. at_place i here }
      where
        at_place : (i : ℕ) → i < length (w ∷ vs ++ v ∷ []) → Has (server_at (w ∷ vs ++ v ∷ []) i) (get_or (m ∷ ms ++ new_member at ∷ []) i no_member)
        at_place zero here = first
        at_place (suc i) here = r.each i (omega (arith, here))

-- what a call gave that did not fail
abbrev pub value_or : {E : Type 0} → Bool → Result Bool E → Bool
value_or d (Ok b) = b
value_or d (Err e) = d

-- what it tells of itself
pub seal_known : (s : Server) (before : Bool) → seal_told_by (table s asks.Tail) before ≡ (if s.up then is_sealed s else before)
seal_known s before = by s.up (is_sealed s)
  where
    by : (b z : Bool) → seal_told_by (if b then (if z then Sealed (length_of s) else Unsealed (length_of s)) else Down) before ≡ (if b then z else before)
    by true true = refl
    by true false = refl
    by false z = refl

pub length_known : (s : Server) → length_told_by (table s asks.Tail) ≤ length_of s
length_known s = by s.up (is_sealed s)
  where
    by : (b z : Bool) → length_told_by (if b then (if z then Sealed (length_of s) else Unsealed (length_of s)) else Down) ≤ length_of s
    by true true = omega arith
    by true false = omega arith
    by false z = omega arith

-- what holds of an answer holds of what is made of it
pub if_ok : {E : Type 0} (r : Result Bool E) (P Q : Bool → Type 0) → ((b : Bool) → P b → Q b) → IfOk r P → IfOk r Q
if_ok (Ok b) P Q f h = f b h
if_ok (Err e) P Q f h = tt

pub on_err : {E : Type 0} (r : Result Bool E) (P Q : Type 0) → (P → Q) → OnErr r P → OnErr r Q
on_err (Ok b) P Q f h = tt
on_err (Err e) P Q f h = f h

-- a server that is down after a restart is sealed as it was
pub restart_sealed : (s w : Server) (sealed up : Bool) → sealed ≡ is_sealed s → (up ≡ true → (kept : Bool) × (w ≡ restarted s kept s.torn)) → (up ≡ false → w ≡ s) → w.up ≡ false → sealed ≡ is_sealed w
restart_sealed s w sealed true h rose failed down = absurd (false≢true (sym down ∙ ap (λ (x : Server). x.up) (rose refl).1 ∙ restarted_up s (rose refl).0 s.torn))
restart_sealed s w sealed false h rose failed down = h ∙ ap is_sealed (sym (failed refl))

pub stored_answers : {E : Type 0} (entries : List Entry) (cut place : ℕ) (errand : Errand) (r : Result Told E) (old new : View) (e : Entry) → errand ≡ Store place → entry_at cut entries place ≡ Some e → IfOk r (λ told. ServerAnswers old (asks.Store place e) told new)
    → IfOk r (λ told. (ask : Ask) → asked_by entries cut errand ≡ Some ask → ServerAnswers old ask told new)
stored_answers entries cut place errand (Err x) old new e is there h = tt
stored_answers entries cut place errand (Ok told) old new e is there h = λ ask known.
    subst (λ (k : Ask). ServerAnswers old k told new) (same_Some _ _ (sym (ap (option_map (λ e. asks.Store place e)) there) ∙ subst (λ (x : Errand). asked_by entries cut x ≡ Some ask) is known)) h

pub repaired_answers : {E : Type 0} (entries : List Entry) (cut place : ℕ) (errand : Errand) (r : Result Told E) (old new : View) (e : Entry) → errand ≡ Repair place → entry_at cut entries place ≡ Some e → IfOk r (λ told. ServerAnswers old (asks.Repair place e) told new)
    → IfOk r (λ told. (ask : Ask) → asked_by entries cut errand ≡ Some ask → ServerAnswers old ask told new)
repaired_answers entries cut place errand (Err x) old new e is there h = tt
repaired_answers entries cut place errand (Ok told) old new e is there h = λ ask known.
    subst (λ (k : Ask). ServerAnswers old k told new) (same_Some _ _ (sym (ap (option_map (λ e. asks.Repair place e)) there) ∙ subst (λ (x : Errand). asked_by entries cut x ≡ Some ask) is known)) h

-- an ask that is the same whatever the entries are
pub plain_answers : {E : Type 0} (entries : List Entry) (cut : ℕ) (errand : Errand) (only : Ask) (r : Result Told E) (old new : View) → asked_by entries cut errand ≡ Some only → IfOk r (λ told. ServerAnswers old only told new)
    → IfOk r (λ told. (ask : Ask) → asked_by entries cut errand ≡ Some ask → ServerAnswers old ask told new)
plain_answers entries cut errand only (Err x) old new is h = tt
plain_answers entries cut errand only (Ok told) old new is h = λ ask known. subst (λ (k : Ask). ServerAnswers old k told new) (same_Some _ _ (sym is ∙ known)) h

pub read_told : {E : Type 0} (v : View) (place : ℕ) (r : Result Told E) → IfOk r (λ told. told ≡ table v.server (asks.Read place)) → IfOk r (λ told. ServerAnswers v (asks.Read place) told v)
read_told v place (Err x) h = tt
read_told v place (Ok told) h = subst (λ (z : Told). ServerAnswers v (asks.Read place) z v) (sym h) (read_answers v place)

---- one server after another

pub take_one : (vs : List View) (i : ℕ) (v : View) → i < length vs → v ≡ get_or vs i v → take (suc i) vs ≡ take i vs ++ v ∷ []
take_one [] i v h e = absurd (omega (arith, h))
take_one (w ∷ vs) zero v h e = ap (λ x. x ∷ []) (sym e)
take_one (w ∷ vs) (suc i) v h e = ap (λ (xs : List View). w ∷ xs) (take_one vs i v (omega (arith, h)) e)

pub take_all : (vs : List View) (n : ℕ) → length vs ≤ n → take n vs ≡ vs
take_all [] zero h = refl
take_all [] (suc n) h = refl
take_all (v ∷ vs) zero h = absurd (omega (arith, h))
take_all (v ∷ vs) (suc n) h = ap (λ (xs : List View). v ∷ xs) (take_all vs n (omega (arith, h)))

---- what an operation is answered

pub cut_answer : (cut : ℕ) (d : Decided) → is_cut d.task cut ≡ true → Some (CutAt cut) ≡ answer_for cut d
cut_answer cut d h = rw h refl

pub other_answer : (cut : ℕ) (d : Decided) (y : Option Answer) → is_cut d.task cut ≡ false → y ≡ answer_by cut d.task d.size d.firm d.got d.outcome → y ≡ answer_for cut d
other_answer cut d y h e = rw h e
