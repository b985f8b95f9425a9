-- A node that keeps the log from being trimmed: what it may tell by a scope, and what others may trim then.
use Rattle.std.proofs.Common.{◌≡◌, ◌≢◌, refl, sym, ◌∙◌, subst, ⊎_elim, ◌⊎◌, ℕ, ◌≤◌, List, arith}
use Rattle.std.specs.Prelude.{Contains}
use Rattle.delos_types.specs.declared.entry.Entry.{Entry}
use Rattle.legal_journal.specs.Law.{Law}
use Rattle.legal_journal.specs.declared.events.Event.{Event}
use Rattle.legal_journal.specs.Journal.{IsLegal, IsFree, state_of}
use Rattle.journal_laws.specs.Changes.{TrimsUpTo}
use Rattle.journal_laws.proofs.Changes.{appended_may}
use Rattle.engine_api.specs.declared.content.Content.TheVariants.{Alive, Leave}
use Rattle.engine_api.specs.declared.content.Placed.{Placed}
use Rattle.engine_api.specs.Items.{unpack}
use Rattle.turn_scopes.specs.Floors.{FloorIs}
use Rattle.turn_scopes.specs.Alone.{IsAlone}
use Rattle.turn_scopes.specs.Beside.{Narrows}
use Rattle.turn_scopes.specs.Seats.{SeatView}
use Rattle.turn_scopes.specs.Telling.{UpTo, TellsUpTo}
use Rattle.turn_scopes.proofs.Trims.{others_trim}
use Rattle.node_lines.specs.Workers.{Sends, SendsToo, IsCommand, IsOfSessions, MayRun, IsKept, KeepsLog, KeepsBeside, TellsLow, appended_by}
use Rattle.node_lines.specs.Steps.{UpToIf}
use Rattle.node_lines.proofs.Widening.{legal_wide}
use Rattle.node_lines.proofs.Own.{own_appended}
use Rattle.node_lines.proofs.Cleaning.{says_command}

-- nobody is beside: there is nothing to keep
pub kept_alone : (beside : ℕ → ℕ → Type 0) (floor : List Entry → ℕ → Type 0) (s : SeatView) (journal : List Event) → IsAlone (beside s.who) → TrimsUpTo s.node.replica.cursor journal → IsKept beside floor s journal
kept_alone beside floor s journal alone high = record { high = high; keeps = λ user h. absurd (alone.nobody user h) }

-- what the entry says is no leave of the node, and no report of it above m
record IsLow (me m : ℕ) (e : Entry) : Type 0 where
  pub stays : (p : Placed) → Contains (unpack 0 e) p → p.content ≡ Leave me → ⊥
  pub upto : (p : Placed) (n : ℕ) → Contains (unpack 0 e) p → p.content ≡ Alive me n → n ≤ m

command_low : (me m : ℕ) (e : Entry) → IsOfSessions e → IsLow me m e
command_low me m e h = record {
  stays = λ p there is. subst IsCommand is (says_command e p h there);
  upto = λ p n there is. absurd (subst IsCommand is (says_command e p h there));
}

told_low : (me m : ℕ) (e : Entry) → ((p : Placed) → Contains (unpack 0 e) p → TellsLow m p.content) → IsLow me m e
told_low me m e h = record {
  stays = λ p there is. subst (TellsLow m) is (h p there);
  upto = λ p n there is. subst (TellsLow m) is (h p there);
}

module _ (law : Law) (run : MayRun law) (me m : ℕ) where
  -- where what it may append is low
  tells_upto : (sends : ℕ → Entry → Type 0) → ((user : ℕ) (e : Entry) → sends user e → law.may user e) → ((e : Entry) → sends me e → IsLow me m e) → TellsUpTo sends me m
  tells_upto sends allows low = record {
    stays = λ user e p h there is. (low e (subst (λ u. sends u e) (run.leaves user me e p (allows user e h) there is) h)).stays p there is;
    upto = λ user n e p h there is. (low e (subst (λ u. sends u e) (run.reports user me n e p (allows user e h) there is) h)).upto p n there is;
  }

  module _ (nodes : ℕ) (counts : List ℕ) (journal : List Event) (keeps : KeepsLog law.floor me nodes m journal) where
    was_low : (e : Entry) → Contains (appended_by me journal) e → IsLow me m e
    was_low e h = record {
      stays = λ p there is. keeps.stays e p (own_appended me journal e h) there is;
      upto = λ p n there is. keeps.upto e p (own_appended me journal e h) there n is;
    }

    pub sends_low : TellsUpTo (Sends me law.may counts journal) me m
    sends_low = tells_upto (Sends me law.may counts journal) (λ user e h. h.0.0)
        (λ e h. ⊎_elim (λ (k : Contains (appended_by me journal) e). was_low e k) (λ (k : IsOfSessions e). command_low me m e k) (h.1 refl))

    pub sends_too_low : (told : Entry) → ((p : Placed) → Contains (unpack 0 told) p → TellsLow m p.content) → TellsUpTo (SendsToo me law.may counts journal told) me m
    sends_too_low told low = tells_upto (SendsToo me law.may counts journal told) (λ user e h. h.0.0)
        (λ e h.
        ⊎_elim
        (λ (k : Contains (appended_by me journal) e). was_low e k)
        (λ (k : IsOfSessions e ⊎ (e ≡ told)). ⊎_elim (λ (s : IsOfSessions e). command_low me m e s) (λ (t : e ≡ told). subst (IsLow me m) (sym t) (told_low me m told low)) k)
        (h.1 refl))

module _ (law : Law) (me m : ℕ) (sends : ℕ → Entry → Type 0) where
  -- what was appended by such a scope leaves the log kept
  keeps_on : (low : List Entry → ℕ → Type 0) (nodes m' : ℕ) (old new : List Event) → m ≤ m' → IsLegal (record law { may = sends; floor = low }) new → TellsUpTo sends me m → KeepsLog law.floor me nodes m old → KeepsLog law.floor me nodes m' new
  keeps_on low nodes m' old new up legal tells keeps = record {
    goes_by = keeps.goes_by;
    least = keeps.least;
    most = keeps.most;
    stays = λ e p h there is. let s = appended_may (record law { may = sends; floor = low }) new e legal h in tells.stays s.0 e p s.1 there is;
    upto = λ e p h there n is. let s = appended_may (record law { may = sends; floor = low }) new e legal h in omega (arith, tells.upto s.0 n e p s.1 there is, up);
  }

  -- a scope that binds what this user appends is narrower than the rules, and binds nobody beside
  narrows_by : (so : Type 0) (beside : ℕ → Type 0) → ((user : ℕ) (e : Entry) → sends user e → law.may user e) → ((user : ℕ) (e : Entry) → user ≢ me → law.may user e → sends user e) → ((user : ℕ) → beside user → user ≢ me)
      → (so → (user : ℕ) → beside user → (nodes : ℕ) × FloorIs law.floor nodes × (1 ≤ me) × (me ≤ nodes) × TellsUpTo sends me m) → Narrows (record law { may = sends; floor = UpToIf so law.floor m }) law beside
  narrows_by so beside allows others apart tells = record {
    narrower = record { may = allows; floor = λ log n h. h.0; shelf = refl };
    others = λ user e b h. others user e (apart user b) h;
    trims = λ user b seen n legal free. record { log = free.log; shows = free.shows; free = (free.free, λ is. upto user b seen n legal free is) };
  }
    where
      -- if the scope is bound, others trim no further
      upto : (user : ℕ) → beside user → (seen : List Event) (n : ℕ) → IsLegal (record law { may = sends; floor = UpToIf so law.floor m }) seen → IsFree (state_of seen).shown law.floor n → so → n ≤ m
      upto user b seen n legal free is =
          let t = tells is user b in
          let bound = legal_wide (record law { may = sends; floor = UpToIf so law.floor m }) (record law { may = sends; floor = UpTo law.floor m }) (record { may = λ u e h. h; floor = λ log k h. (h.0, h.1 is); shelf = refl }) seen legal in
          (others_trim law sends t.0 me m t.1 t.2 t.3 t.4 beside user b seen n bound free).free.1

-- A scope that is bound where the node keeps the log.
module _ (law : Law) (run : MayRun law) (beside : ℕ → ℕ → Type 0) (counts : List ℕ) (journal : List Event) (a : SeatView) (so : Type 0) (keeps : so → KeepsBeside beside law.floor a journal) where
  -- what is told is low, if anybody is beside
  abbrev pub IsToldLow : Entry → Type 0
  IsToldLow told = so → (user : ℕ) → beside a.who user → (p : Placed) → Contains (unpack 0 told) p → TellsLow a.node.replica.cursor p.content

  module _ (who : ℕ) (same : a.who ≡ who) where
    here : (user : ℕ) → beside who user → beside a.who user
    here user h = subst (λ w. beside w user) (sym same) h

    module _ (apart : (user : ℕ) → beside who user → user ≢ who) where
      others : (user : ℕ) → beside who user → user ≢ a.who
      others user h = λ is. apart user h (is ∙ same)

      pub narrows_beside : Narrows (record law { may = Sends a.who law.may counts journal; floor = UpToIf so law.floor a.node.replica.cursor }) law (beside who)
      narrows_beside = narrows_by law a.who a.node.replica.cursor (Sends a.who law.may counts journal) so (beside who) (λ user e h. h.0.0)
          (λ user e other h. ((h, λ is. absurd (other is)), λ is. absurd (other is))) others
          (λ is user h. let k = keeps is user (here user h) in (a.node.nodes, k.goes_by, k.least, k.most, sends_low law run a.who a.node.replica.cursor a.node.nodes counts journal k))

      pub narrows_told : (told : Entry) → IsToldLow told → Narrows (record law { may = SendsToo a.who law.may counts journal told; floor = UpToIf so law.floor a.node.replica.cursor }) law (beside who)
      narrows_told told low = narrows_by law a.who a.node.replica.cursor (SendsToo a.who law.may counts journal told) so (beside who) (λ user e h. h.0.0)
          (λ user e other h. ((h, λ is. absurd (other is)), λ is. absurd (other is))) others
          (λ is user h. let k = keeps is user (here user h) in (a.node.nodes, k.goes_by, k.least, k.most, sends_too_low law run a.who a.node.replica.cursor a.node.nodes counts journal k told (low is user (here user h))))

  -- the node keeps the log still
  module _ (low : List Entry → ℕ → Type 0) (new : List Event) (b : SeatView) (who : b.who ≡ a.who) (nodes : b.node.nodes ≡ a.node.nodes) (up : a.node.replica.cursor ≤ b.node.replica.cursor) where
    pub still_beside : IsLegal (record law { may = Sends a.who law.may counts journal; floor = low }) new → so → KeepsBeside beside law.floor b new
    still_beside legal is = λ user h.
        let k = keeps is user (subst (λ w. beside w user) who h) in
        subst (λ w. KeepsLog law.floor w b.node.nodes b.node.replica.cursor new) (sym who)
        (subst (λ n. KeepsLog law.floor a.who n b.node.replica.cursor new) (sym nodes)
        (keeps_on law a.who a.node.replica.cursor (Sends a.who law.may counts journal) low a.node.nodes b.node.replica.cursor journal new up legal (sends_low law run a.who a.node.replica.cursor a.node.nodes counts journal k) k))

    pub still_told : (told : Entry) → IsToldLow told → IsLegal (record law { may = SendsToo a.who law.may counts journal told; floor = low }) new → so → KeepsBeside beside law.floor b new
    still_told told is_low legal is = λ user h.
        let there = subst (λ w. beside w user) who h in
        let k = keeps is user there in
        subst (λ w. KeepsLog law.floor w b.node.nodes b.node.replica.cursor new) (sym who)
        (subst (λ n. KeepsLog law.floor a.who n b.node.replica.cursor new) (sym nodes)
        (keeps_on law a.who a.node.replica.cursor (SendsToo a.who law.may counts journal told) low a.node.nodes b.node.replica.cursor journal new up legal (sends_too_low law run a.who a.node.replica.cursor a.node.nodes counts journal k told (is_low is user there)) k))
