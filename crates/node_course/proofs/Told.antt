-- What a node told of itself lines asked it to tell, still as its course goes on.
use Rattle.std.proofs.Common.{◌≡◌, sym, ap, ◌∙◌, subst, ◌⊎◌, inl, inr, ⊎_elim, ℕ, ◌+◌, ◌<◌, ◌≤◌, List, [], ◌∷◌, Option, Contains, arith}
use Rattle.delos_types.specs.declared.entry.Entry.{Entry}
use Rattle.legal_journal.specs.Law.{Law}
use Rattle.legal_journal.specs.declared.events.Event.{Event}
use Rattle.legal_journal.specs.Journal.{IsLegal, state_of, tail_of}
use Rattle.journal_laws.specs.Changes.{appended}
use Rattle.journal_laws.proofs.Changes.{appended_stays}
use Rattle.engine_api.specs.declared.content.Content.{Content}
use Rattle.engine_api.specs.declared.content.Content.TheVariants as content
use Rattle.engine_api.specs.declared.content.Placed.{Placed}
use Rattle.engine_api.specs.Items.{unpack}
use Rattle.script_text.specs.declared.line.Admin.{Admin}
use Rattle.script_text.specs.declared.line.Admin.TheVariants.{Alive, Retire, Trim}
use Rattle.script_text.specs.declared.asks.NamedLine.{NamedLine}
use Rattle.script_text.specs.declared.asks.Asks.{Asks}
use Rattle.script_text.specs.declared.asks.Asks.TheVariants as asks
use Rattle.node_lines.specs.declared.lines.Looked.{Looked}
use Rattle.node_lines.specs.declared.lines.Looked.TheVariants as looked
use Rattle.node_lines.specs.Workers.{Grows, IsCommand, IsOfSessions, IsReported, IsSaid, MayRun, OwnAdds, ReportsUpTo, SaysAlone, appended_by}
use Rattle.node_lines.proofs.Own.{own_appended, reported_by}
use Rattle.run_laws.proofs.Members.{Among, all-at, among-map, contained-among}
use Rattle.node_course.specs.Moments.{NodeCourse, moment, tails}
use Rattle.node_course.specs.Played.{Came}
use Rattle.node_course.specs.Reporting.{StandsThere}
use Rattle.node_course.specs.Telling.{AreAsked, AreTold, AskedFor, AskedSo, AsksBehind, HasToldSo, IsTrim, ToldSo, WasHeld}
use Rattle.node_course.proofs.Looks.{CameOn}
use Rattle.node_course.proofs.Keeping.{asks_on}
use Rattle.node_course.proofs.Moments.{grows_both}
use Rattle.node_course.proofs.Stands.{behind_on, front_on, stands_on}
use Rattle.node_course.proofs.Growing.{Grown, legal_then}

-- Entries

-- what an entry says that says nothing else
pub alone_is : (c : Content) (e : Entry) (p : Placed) → SaysAlone c e → Contains (unpack 0 e) p → p.content ≡ c
alone_is c e p alone h = only p.content (subst (λ cs. Among cs p.content) alone (among-map (λ (q : Placed). q.content) (unpack 0 e) p (contained-among (unpack 0 e) p h)))
  where
    only : (x : Content) → Among (c ∷ []) x → x ≡ c
    only x (inl same) = sym same
    only x (inr m) = absurd m

pub command_is : (e : Entry) (p : Placed) → IsOfSessions e → Contains (unpack 0 e) p → IsCommand p.content
command_is e p all h = all-at (λ (q : Placed). IsCommand q.content) (unpack 0 e) p all (contained-among (unpack 0 e) p h)

-- a report isn't above this cursor
abbrev pub SaysUpTo : ℕ → Content → Type 0
SaysUpTo cursor (content.Session s r c) = Unit {0}
SaysUpTo cursor (content.Alive node position) = position ≤ cursor
SaysUpTo cursor (content.Leave node) = Unit {0}
SaysUpTo cursor (content.Trim position) = Unit {0}

-- Lines

asked_on : (lines : List NamedLine) (looks looks' : List (Option Looked)) (n : ℕ) (what : Admin) (P : Looked → Type 0) → CameOn lines looks looks' n → AskedFor lines looks n what P → AskedFor lines looks' n what P
asked_on lines looks looks' n what P on h = record { at = h.at; line = h.line; look = h.look; came = on h.at h.line h.look h.came; asks = h.asks; so = h.so }

said_on : (old new : List Event) → Grows old new → (c : Content) → IsSaid old c → IsSaid new c
said_on old new g c h = record {
  entry = h.entry;
  appended_is = subst (λ l. Contains (appended l) h.entry) (sym g.1) (appended_stays old g.0 h.entry h.appended_is);
  placed = h.placed;
  among = h.among;
  is = h.is;
}

pub reported_on : (old new : List Event) → Grows old new → (n : ℕ) → IsReported old n → IsReported new n
reported_on old new g n (inl none) = inl none
reported_on old new g n (inr h) = inr (h.0, said_on old new g (content.Alive h.0 n) h.1)

told_command : (lines : List NamedLine) (looks : List (Option Looked)) (journal : List Event) (n cursor : ℕ) (c : Content) → IsCommand c → ToldSo lines looks n journal c × SaysUpTo cursor c
told_command lines looks journal n cursor (content.Session s r x) h = (tt, tt)
told_command lines looks journal n cursor (content.Alive node position) h = absurd h
told_command lines looks journal n cursor (content.Leave node) h = absurd h
told_command lines looks journal n cursor (content.Trim position) h = absurd h

-- What was told by a node since: only what lines asked it to tell.
pub record TellsOn (lines : List NamedLine) (looks' : List (Option Looked)) (n cursor cursor' : ℕ) (old new : List Event) : Type 0 where
  pub told : AreTold lines looks' n new
  pub own : ReportsUpTo n cursor old → ReportsUpTo n cursor' new
  pub stays : AsksBehind n old → AsksBehind n new

module _ (law : Law) (old new : List Event) (g : Grows old new) (legal : IsLegal law new) (lines : List NamedLine) (looks looks' : List (Option Looked)) (n : ℕ) (on : CameOn lines looks looks' n) where
  told_on : (c : Content) → ToldSo lines looks n old c → ToldSo lines looks' n new c
  told_on (content.Session s r x) h = tt
  told_on (content.Alive node position) h = (h.0, behind_on law old new g.0 g.1 legal n position h.1, asked_on lines looks looks' n _ _ on h.2)
  told_on (content.Leave node) h = (h.0, asked_on lines looks looks' n _ _ on h.1)
  told_on (content.Trim position) h = reported_on old new g position h

  -- where the node appended nothing more
  pub told_still : AreTold lines looks n old → ((e : Entry) → Contains (appended_by n new) e → Contains (appended_by n old) e) → AreTold lines looks' n new
  told_still told back = λ e p there among. told_on p.content (told e p (back e there) among)

  module _ (run : MayRun law) (cursor cursor' : ℕ) (up : cursor ≤ cursor') (told : AreTold lines looks n old) where
    tells_by : (P : Entry → Type 0) → ((e : Entry) (p : Placed) → P e → Contains (unpack 0 e) p → ToldSo lines looks' n new p.content × SaysUpTo cursor' p.content)
        → ((early : List Event) (e : Entry) (p : Placed) (position : ℕ) → Grows early new → Contains (appended_by n early) e → P e → Contains (unpack 0 e) p → p.content ≡ content.Trim position → Contains (appended_by n old) e ⊎ WasHeld early position)
        → OwnAdds n P old new → TellsOn lines looks' n cursor cursor' old new
    tells_by P each asks adds = record {
      told = λ e p at among. ⊎_elim (λ (was : Contains (appended_by n old) e). told_on p.content (told e p was among)) (λ (now : P e). (each e p now among).0) (adds e at);
      own = λ was e p at among position is. ⊎_elim
          (λ (before : Contains (appended_by n old) e). let low = was e p (own_appended n old e before) among position is in omega (arith, low, up))
          (λ (now : P e). subst (SaysUpTo cursor') is (each e p now among).1)
          (adds e (reported_by law law run (λ user x k. k) new legal n position e p at among is));
      stays = asks_on n old new P g adds asks;
    }

    pub tells_commands : OwnAdds n IsOfSessions old new → TellsOn lines looks' n cursor cursor' old new
    tells_commands adds = tells_by IsOfSessions (λ e p all among. told_command lines looks' new n cursor' p.content (command_is e p all among))
        (λ early e p position grows own all among is. absurd (subst IsCommand is (command_is e p all among))) adds

    pub tells_one : (c : Content) → ToldSo lines looks' n new c → SaysUpTo cursor' c
        → ((early : List Event) (e : Entry) (p : Placed) (position : ℕ) → Grows early new → Contains (appended_by n early) e → Contains (unpack 0 e) p → p.content ≡ content.Trim position → c ≡ content.Trim position → Contains (appended_by n old) e ⊎ WasHeld early position)
        → OwnAdds n (λ e. IsOfSessions e ⊎ SaysAlone c e) old new → TellsOn lines looks' n cursor cursor' old new
    tells_one c so says asks adds = tells_by (λ e. IsOfSessions e ⊎ SaysAlone c e) each held adds
      where
        each : (e : Entry) (p : Placed) → IsOfSessions e ⊎ SaysAlone c e → Contains (unpack 0 e) p → ToldSo lines looks' n new p.content × SaysUpTo cursor' p.content
        each e p (inl all) among = told_command lines looks' new n cursor' p.content (command_is e p all among)
        each e p (inr alone) among = let is = sym (alone_is c e p alone among) in (subst (ToldSo lines looks' n new) is so, subst (SaysUpTo cursor') is says)

        held : (early : List Event) (e : Entry) (p : Placed) (position : ℕ) → Grows early new → Contains (appended_by n early) e → IsOfSessions e ⊎ SaysAlone c e → Contains (unpack 0 e) p → p.content ≡ content.Trim position → Contains (appended_by n old) e ⊎ WasHeld early position
        held early e p position grows own (inl all) among is = absurd (subst IsCommand is (command_is e p all among))
        held early e p position grows own (inr alone) among is = asks early e p position grows own among is (sym (alone_is c e p alone among) ∙ is)

-- What lines came to

pub stand_on : (old new : List Event) → ((c : Content) → StandsThere old c → StandsThere new c) → (node : ℕ) (look : Looked) → HasToldSo old node look → HasToldSo new node look
stand_on old new stands node (looked.Found after found) h = tt
stand_on old new stands node (looked.Kept k) h = tt
stand_on old new stands node (looked.Failed k) h = tt
stand_on old new stands node (looked.Extended x) h = tt
stand_on old new stands node (looked.Reported n) h = stands (content.Alive node n) h
stand_on old new stands node looked.Left h = stands (content.Leave node) h
stand_on old new stands node (looked.Trimmed trim) h = tt

-- What lines asked

-- what the node told of itself, lines asked that were played: of those that aren't asked for a trim
pub told_asked : (lines : List NamedLine) (looks : List (Option Looked)) (n : ℕ) (These : ℕ → NamedLine → Type 0) (journal : List Event)
    → ((i : ℕ) (l : NamedLine) (look : Looked) → Came lines looks n i l look → (l.asks ≡ asks.Admin Trim → ⊥) → These i l) → AreTold lines looks n journal → AreAsked lines looks n These journal
told_asked lines looks n These journal all told = λ e p own among. by p.content (told e p own among)
  where
    no_report : (a : Asks) → a ≡ asks.Admin Alive → a ≡ asks.Admin Trim → ⊥
    no_report a e k = apart (sym e ∙ k)
      where
        apart : asks.Admin Alive ≡ asks.Admin Trim → ⊥
        apart x = cc

    no_leave : (a : Asks) → a ≡ asks.Admin Retire → a ≡ asks.Admin Trim → ⊥
    no_leave a e k = apart (sym e ∙ k)
      where
        apart : asks.Admin Retire ≡ asks.Admin Trim → ⊥
        apart x = cc

    by : (c : Content) → ToldSo lines looks n journal c → AskedSo lines looks n These c
    by (content.Session s r x) h = tt
    by (content.Alive node position) h = record { by = h.2; these = all h.2.at h.2.line h.2.look h.2.came (no_report h.2.line.asks h.2.asks) }
    by (content.Leave node) h = record { by = h.1; these = all h.1.at h.1.line h.1.look h.1.came (no_leave h.1.line.asks h.1.asks) }
    by (content.Trim position) h = tt

-- .. still, and by more lines
pub asked_wider : (lines : List NamedLine) (looks looks' : List (Option Looked)) (n : ℕ) (These Those : ℕ → NamedLine → Type 0) → CameOn lines looks looks' n
    → ((i : ℕ) (l : NamedLine) (look : Looked) → Came lines looks n i l look → These i l → Those i l) → (c : Content) → AskedSo lines looks n These c → AskedSo lines looks' n Those c
asked_wider lines looks looks' n These Those on wider (content.Session s r x) h = tt
asked_wider lines looks looks' n These Those on wider (content.Alive node position) h = record {
  by = record { at = h.by.at; line = h.by.line; look = h.by.look; came = on h.by.at h.by.line h.by.look h.by.came; asks = h.by.asks; so = h.by.so };
  these = wider h.by.at h.by.line h.by.look h.by.came h.these;
}
asked_wider lines looks looks' n These Those on wider (content.Leave node) h = record {
  by = record { at = h.by.at; line = h.by.line; look = h.by.look; came = on h.by.at h.by.line h.by.look h.by.came; asks = h.by.asks; so = h.by.so };
  these = wider h.by.at h.by.line h.by.look h.by.came h.these;
}
asked_wider lines looks looks' n These Those on wider (content.Trim position) h = tt

pub asked_still : (lines : List NamedLine) (looks looks' : List (Option Looked)) (n : ℕ) (These : ℕ → NamedLine → Type 0) (journal : List Event) → CameOn lines looks looks' n → AreAsked lines looks n These journal → AreAsked lines looks' n These journal
asked_still lines looks looks' n These journal on h = λ e p own among. asked_wider lines looks looks' n These These on (λ i l look come k. k) p.content (h e p own among)

-- A trim stands, where no line of the node before it was played since.
module _ (law : Law) (c c' : NodeCourse) (g : Grown law c c') (lines : List NamedLine) (looks looks' : List (Option Looked)) (nodes n : ℕ) where
  pub trim_on : CameOn lines looks looks' n → (j : ℕ) (l : NamedLine) (trim : ℕ) → l.phase ≤ c.phase → ((i : ℕ) (m : NamedLine) (look : Looked) → Came lines looks' n i m look → i < j → Came lines looks n i m look) → IsTrim lines looks nodes n c j l trim → IsTrim lines looks' nodes n c' j l trim
  trim_on on j l trim low back h = record {
    before = h.before;
    early = h.early;
    began = subst (λ m. Grows m h.before) (sym (g.past l.phase low)) h.began;
    went = h.went;
    ended = grows_both h.early (moment c (l.phase + 1)) (moment c' (l.phase + 1)) h.ended (g.later (l.phase + 1));
    lowest = record {
      node = h.lowest.node;
      least = h.lowest.least;
      most = h.lowest.most;
      stood = h.lowest.stood;
      own = λ same i m look come before. h.lowest.own same i m look (back i m look come before) before;
    };
    earlier = λ i m less come before. h.earlier i m less (back i m (looked.Trimmed less) come before) before;
    upto = h.upto;
    asked = asked_still lines looks looks' n (λ i m. i < j) h.early on h.asked;
    position = h.position;
    stands = stands_on law c.seen c'.seen g.more g.seen g.legal (content.Trim h.position) h.stands;
    log = h.log;
    front = front_on law c.seen c'.seen g.more g.seen g.legal h.log h.front;
    from =
        let same : tails c' l.phase ≡ tails c l.phase = ap (λ m. tail_of (state_of m)) (g.past l.phase low) in
        let met = h.from in
        omega (arith, same, met);
    least = h.least;
  }

  -- what a line came to stood in the log as the next phase began
  pub stand_then : (l : NamedLine) (look : Looked) → HasToldSo (moment c (l.phase + 1)) n look → HasToldSo (moment c' (l.phase + 1)) n look
  stand_then l look h =
      let up = g.later (l.phase + 1) in
      stand_on (moment c (l.phase + 1)) (moment c' (l.phase + 1)) (λ x s. stands_on law (moment c (l.phase + 1)) (moment c' (l.phase + 1)) up.0 up.1 (legal_then law c c' g (l.phase + 1)) x s) n look h
