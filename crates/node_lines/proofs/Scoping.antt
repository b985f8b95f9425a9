-- What holds within a scope of a worker, and what is left of it by the rules of the run.
use Rattle.std.proofs.Common.{◌≡◌, refl, sym, subst, ⊎_elim, ◌⊎◌, inl, inr, ℕ, ◌≤◌, List, []}
use Rattle.std.specs.Prelude.{All, Contains, Result, Ok, Err, IfOk, OnOk}
use Rattle.std.proofs.lemmas.List.Elements.{All-nil}
use Rattle.delos_types.specs.declared.entry.Entry.{Entry}
use Rattle.legal_journal.specs.Law.{Law}
use Rattle.legal_journal.specs.declared.events.Event.{Event}
use Rattle.legal_journal.specs.Journal.{IsLegal}
use Rattle.journal_laws.specs.Changes.{TrimsUpTo}
use Rattle.journal_laws.proofs.Changes.{legal_by, upto_low, upto_more, below_low}
use Rattle.replica_api.specs.Replica.{Meaning}
use Rattle.base_engine.specs.Settling.{MaySend}
use Rattle.turn_scopes.specs.Beside.{Since, SealsByRight}
use Rattle.turn_scopes.specs.Seats.{SeatView, SeatOk}
use Rattle.node_lines.specs.Desks.{KeepsFrom}
use Rattle.node_lines.specs.Workers.{Sends, SendsToo, IsOfSessions, OwnAdds, IsKept, KeepsBeside, Grows, appended_by, sent_of}
use Rattle.node_lines.specs.Steps.{IsLeft, UpToIf}
use Rattle.node_lines.proofs.Own.{own_stays, own_may, legal_own}
use Rattle.node_lines.proofs.Widening.{own-more, legal_wide, seat_wider}

module _ (me : ℕ) (may : ℕ → Entry → Type 0) (counts : List ℕ) where
  -- what may be sent may be sent still once the journal grew
  pub sends_grow : (old new : List Event) → Grows old new → (user : ℕ) (e : Entry) → Sends me may counts old user e → Sends me may counts new user e
  sends_grow old new g user e h = (
    h.0,
    λ same. ⊎_elim (λ (k : Contains (appended_by me old) e). inl (subst (λ es. Contains (appended_by me es) e) (sym g.1) (own_stays me old g.0 e k))) (λ (k : IsOfSessions e). inr k) (h.1 same),
  )

  -- and once more was counted
  pub sends_more : (counts' : List ℕ) (journal : List Event) → ((s : ℕ) → sent_of counts s ≤ sent_of counts' s) → (user : ℕ) (e : Entry) → Sends me may counts journal user e → Sends me may counts' journal user e
  sends_more counts' journal up user e h = (own-more me may counts counts' up user e h.0, h.1)

  -- each of these may be told something beside
  pub sends_too : (journal : List Event) (told : Entry) (user : ℕ) (e : Entry) → Sends me may counts journal user e → SendsToo me may counts journal told user e
  sends_too journal told user e h = (h.0, λ same. ⊎_elim (λ (k : Contains (appended_by me journal) e). inl k) (λ (k : IsOfSessions e). inr (inl k)) (h.1 same))

  -- what its user appended within a scope says nothing but commands of sessions
  pub adds_sends : (law : Law) (old new : List Event) → IsLegal (record law { may = Sends me may counts old }) new → OwnAdds me IsOfSessions old new
  adds_sends law old new legal = λ e k. (own_may (record law { may = Sends me may counts old }) new me e legal k).1 refl

  pub adds_told : (law : Law) (old new : List Event) (told : Entry) → IsLegal (record law { may = SendsToo me may counts old told }) new → OwnAdds me (λ e. IsOfSessions e ⊎ (e ≡ told)) old new
  adds_told law old new told legal = λ e k. (own_may (record law { may = SendsToo me may counts old told }) new me e legal k).1 refl

module _ (law : Law) (so : Type 0) (is : so) where
  -- within a scope that is bound so nothing is trimmed above where it began
  pub keeps_low : (m : ℕ) → KeepsFrom (record law { floor = UpToIf so law.floor m }) m
  keeps_low m = λ seen pos legal trimmed. below_low (record law { floor = UpToIf so law.floor m }) m (λ log n h. h.1 is) seen pos legal trimmed

  -- nor is it by what comes then
  pub high_low : (m m' : ℕ) (new : List Event) → m ≤ m' → IsLegal (record law { floor = UpToIf so law.floor m }) new → TrimsUpTo m' new
  high_low m m' new up legal = upto_more m m' new up (upto_low (record law { floor = UpToIf so law.floor m }) m (λ log n h. h.1 is) new legal)

  -- so a step that went no further back keeps the log
  pub kept_by : (beside : ℕ → ℕ → Type 0) (m : ℕ) (new : List Event) (b : SeatView) → m ≤ b.node.replica.cursor → IsLegal (record law { floor = UpToIf so law.floor m }) new → KeepsBeside beside law.floor b new → IsKept beside law.floor b new
  kept_by beside m new b up legal keeps = record { high = high_low m b.node.replica.cursor new up legal; keeps = keeps }

module _ (law : Law) where
  module _ (me : ℕ) (counts : List ℕ) (meaning : Meaning) where
    -- A seat as a scope begins: if the scope is bound, nothing was trimmed above where it is.
    pub seat_begins : (so : Type 0) (m : ℕ) (journal : List Event) (s : SeatView) → (so → TrimsUpTo m journal) → SeatOk (record law { may = Sends me law.may counts journal }) meaning journal s → SeatOk (record law { may = Sends me law.may counts journal; floor = UpToIf so law.floor m }) meaning journal s
    seat_begins so m journal s high h = seat_free (legal_by (record law { may = Sends me law.may counts journal }) (Sends me law.may counts journal) (UpToIf so law.floor m) journal h.node.legal (λ who e _ k. k) (λ log n raised free. (free, λ is. high is n raised)))
      where
        seat_free : IsLegal (record law { may = Sends me law.may counts journal; floor = UpToIf so law.floor m }) journal → SeatOk (record law { may = Sends me law.may counts journal; floor = UpToIf so law.floor m }) meaning journal s
        seat_free legal = record {
          shelf_is = h.shelf_is;
          goes_by = h.goes_by;
          node = record {
            eight = h.node.eight;
            legal = legal;
            follows = h.node.follows;
            bounded = h.node.bounded;
            own = h.node.own;
            few = h.node.few;
            waiting = h.node.waiting;
          };
        }

    -- .. of a scope that tells something
    pub seat_tells : (so : Type 0) (m : ℕ) (journal : List Event) (told : Entry) (s : SeatView) → (so → TrimsUpTo m journal) → SeatOk (record law { may = Sends me law.may counts journal }) meaning journal s → SeatOk (record law { may = SendsToo me law.may counts journal told; floor = UpToIf so law.floor m }) meaning journal s
    seat_tells so m journal told s high h =
        seat_wider (record law { may = Sends me law.may counts journal; floor = UpToIf so law.floor m }) (record law { may = SendsToo me law.may counts journal told; floor = UpToIf so law.floor m }) (record { may = λ user e k. sends_too me law.may counts journal told user e k; floor = λ log n k. k; shelf = refl }) meaning journal s (seat_begins so m journal s high h)

    -- A seat as a scope ends.
    pub seat_ends : (so : Type 0) (m : ℕ) (old new : List Event) (s : SeatView) → Grows old new → SeatOk (record law { may = Sends me law.may counts old; floor = UpToIf so law.floor m }) meaning new s → SeatOk (record law { may = Sends me law.may counts new }) meaning new s
    seat_ends so m old new s g h = seat_wider (record law { may = Sends me law.may counts old; floor = UpToIf so law.floor m }) (record law { may = Sends me law.may counts new }) (record { may = λ user e k. sends_grow me law.may counts old new g user e k; floor = λ log n k. k.0; shelf = refl }) meaning new s h

    -- .. of one that told something: nothing is outstanding, and nothing waits
    pub seat_told : (so : Type 0) (m : ℕ) (old new : List Event) (told : Entry) (s : SeatView) → s.node.outbox.entries ≡ [] → s.node.replica.kept ≡ [] → SeatOk (record law { may = SendsToo me law.may counts old told; floor = UpToIf so law.floor m }) meaning new s → SeatOk (record law { may = Sends me law.may counts new }) meaning new s
    seat_told so m old new told s none kept h = record {
      shelf_is = h.shelf_is;
      goes_by = h.goes_by;
      node = record {
        eight = h.node.eight;
        legal = told_legal;
        follows = h.node.follows;
        bounded = h.node.bounded;
        own = subst (λ es. All (λ e. MaySend (Sends me law.may counts new) s.who e) es) (sym none) (All-nil (λ e. MaySend (Sends me law.may counts new) s.who e));
        few = h.node.few;
        waiting = λ some. absurd (some kept);
      };
    }
      where
        told_legal : IsLegal (record law { may = Sends me law.may counts new }) new
        told_legal =
            legal_own (record law { may = SendsToo me law.may counts old told }) (Sends me law.may counts new) new
            (legal_wide (record law { may = SendsToo me law.may counts old told; floor = UpToIf so law.floor m }) (record law { may = SendsToo me law.may counts old told }) (record { may = λ user e k. k; floor = λ log n k. k.0; shelf = refl }) new h.node.legal)
            (λ user e there k. (k.0, λ same. inl (subst (λ u. Contains (appended_by u new) e) same there)))

    -- by the rules of the run alone
    pub seat_allowed : (journal : List Event) (s : SeatView) → SeatOk (record law { may = Sends me law.may counts journal }) meaning journal s → SeatOk law meaning journal s
    seat_allowed journal s h = seat_wider (record law { may = Sends me law.may counts journal }) law (record { may = λ who e k. k.0.0; floor = λ log n k. k; shelf = refl }) meaning journal s h

    pub left_by : (beside : ℕ → ℕ → Type 0) (right : ℕ → Type 0) (so : Type 0) (m : ℕ) (old new : List Event) (a b : SeatView) → b.who ≡ a.who → Since b.who (beside b.who) old new → SealsByRight (right b.who) b.who old new
        → SeatOk (record law { may = Sends me law.may counts old; floor = UpToIf so law.floor m }) meaning new b → IsLeft law meaning beside (right a.who) old a new b
    left_by beside right so m old new a b who since seals h = record {
      stands = seat_wider (record law { may = Sends me law.may counts old; floor = UpToIf so law.floor m }) law (record { may = λ user e k. k.0.0; floor = λ log n k. k.0; shelf = refl }) meaning new b h;
      who = who;
      since = subst (λ w. Since w (beside w) old new) who since;
      seals = subst (λ w. SealsByRight (right w) w old new) who seals;
    }

    pub left_told : (beside : ℕ → ℕ → Type 0) (right : ℕ → Type 0) (so : Type 0) (m : ℕ) (old new : List Event) (told : Entry) (a b : SeatView) → b.who ≡ a.who → Since b.who (beside b.who) old new → SealsByRight (right b.who) b.who old new
        → SeatOk (record law { may = SendsToo me law.may counts old told; floor = UpToIf so law.floor m }) meaning new b → IsLeft law meaning beside (right a.who) old a new b
    left_told beside right so m old new told a b who since seals h = record {
      stands = seat_wider (record law { may = SendsToo me law.may counts old told; floor = UpToIf so law.floor m }) law (record { may = λ user e k. k.0.0; floor = λ log n k. k.0; shelf = refl }) meaning new b h;
      who = who;
      since = subst (λ w. Since w (beside w) old new) who since;
      seals = subst (λ w. SealsByRight (right w) w old new) who seals;
    }

    -- a step was done
    pub ok_by : (so : Type 0) (m : ℕ) (old new : List Event) (b : SeatView) → b.who ≡ me → Grows old new → SeatOk (record law { may = Sends me law.may counts old; floor = UpToIf so law.floor m }) meaning new b → SeatOk (record law { may = Sends b.who law.may counts new }) meaning new b
    ok_by so m old new b who grows h = subst (λ w. SeatOk (record law { may = Sends w law.may counts new }) meaning new b) (sym who) (seat_ends so m old new b grows h)

    pub ok_told : (so : Type 0) (m : ℕ) (old new : List Event) (told : Entry) (b : SeatView) → b.who ≡ me → b.node.outbox.entries ≡ [] → b.node.replica.kept ≡ []
        → SeatOk (record law { may = SendsToo me law.may counts old told; floor = UpToIf so law.floor m }) meaning new b → SeatOk (record law { may = Sends b.who law.may counts new }) meaning new b
    ok_told so m old new told b who none kept h = subst (λ w. SeatOk (record law { may = Sends w law.may counts new }) meaning new b) (sym who) (seat_told so m old new told b none kept h)

-- Of a call's answer

pub if_ok : {A E : Type 0} (P Q : A → Type 0) → ((x : A) → P x → Q x) → (r : Result A E) → IfOk r P → IfOk r Q
if_ok P Q h (Ok x) k = h x k
if_ok P Q h (Err e) k = tt

pub always : {A E : Type 0} (P : Type 0) → P → (r : Result A E) → OnOk r P
always P h (Ok x) = h
always P h (Err e) = tt
