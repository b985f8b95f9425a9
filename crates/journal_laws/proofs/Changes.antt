-- What a legal journal appended, and to which positions it raised the trim of its log.
use Rattle.std.proofs.Common.{◌≡◌, ◌⊎◌, inl, inr, sym, ◌∙◌, subst, ⊎_elim, ℕ, ◌+◌, ◌<◌, ◌≤◌, List, [], ◌++◌, Some, arith}
use Rattle.std.specs.Prelude.{Contains}
use Rattle.std.proofs.lemmas.List.Elements.{Contains-append_cases, Contains-append_left, Contains-append_right, filter_map-append}
use Rattle.delos_types.specs.declared.entry.Entry.{Entry}
use Rattle.delos_types.specs.declared.chain.Chain.{Chain}
use Rattle.legal_journal.specs.Law.{Law}
use Rattle.legal_journal.specs.declared.events.Event.{Event}
use Rattle.legal_journal.specs.Journal.{IsLegal, Shows, state_of, trim_of}
use Rattle.virtual_log.specs.Holding.{Holds, IsTrimmed}
use Rattle.journal_laws.specs.Changes.{entry_begun, appended, trim_written, raised, TrimsUpTo, Adds, Frees}
use Rattle.journal_laws.proofs.Others.{other_legal}
use Rattle.journal_laws.proofs.Places.{none_in, place_of}
use Rattle.journal_laws.proofs.Entries as entries
use Rattle.journal_laws.proofs.Trims.{such, raised_such, given_such, trim_such}

-- One journal after another

pub appended_on : (a b : List Event) → appended (a ++ b) ≡ appended a ++ appended b
appended_on a b = filter_map-append (λ (e : Event). entry_begun e.call e.answer) a b

pub raised_on : (a b : List Event) → raised (a ++ b) ≡ raised a ++ raised b
raised_on a b = filter_map-append (λ (e : Event). trim_written e.call e.answer) a b

-- what was appended stays so
pub appended_stays : (a b : List Event) (e : Entry) → Contains (appended a) e → Contains (appended (a ++ b)) e
appended_stays a b e h = subst (λ es. Contains es e) (sym (appended_on a b)) (Contains-append_left (appended a) (appended b) e h)

pub appended_more : (a b : List Event) (e : Entry) → Contains (appended b) e → Contains (appended (a ++ b)) e
appended_more a b e h = subst (λ es. Contains es e) (sym (appended_on a b)) (Contains-append_right (appended a) (appended b) e h)

pub appended_parts : (a b : List Event) (e : Entry) → Contains (appended (a ++ b)) e → Contains (appended a) e ⊎ Contains (appended b) e
appended_parts a b e h = Contains-append_cases (appended a) (appended b) e (subst (λ es. Contains es e) (appended_on a b) h)

pub raised_stays : (a b : List Event) (n : ℕ) → Contains (raised a) n → Contains (raised (a ++ b)) n
raised_stays a b n h = subst (λ ns. Contains ns n) (sym (raised_on a b)) (Contains-append_left (raised a) (raised b) n h)

pub raised_parts : (a b : List Event) (n : ℕ) → Contains (raised (a ++ b)) n → Contains (raised a) n ⊎ Contains (raised b) n
raised_parts a b n h = Contains-append_cases (raised a) (raised b) n (subst (λ ns. Contains ns n) (raised_on a b) h)

-- What is added

pub adds_refl : (P : Entry → Type 0) (a : List Event) → Adds P a a
adds_refl P a = λ e h. inl h

pub adds_trans : (P : Entry → Type 0) (a b c : List Event) → Adds P a b → Adds P b c → Adds P a c
adds_trans P a b c f g = λ e h. ⊎_elim (λ (k : Contains (appended b) e). f e k) (λ (k : P e). inr k) (g e h)

pub adds_wider : (P Q : Entry → Type 0) (a b : List Event) → ((e : Entry) → P e → Q e) → Adds P a b → Adds Q a b
adds_wider P Q a b wider f = λ e h. ⊎_elim (λ (k : Contains (appended a) e). inl k) (λ (k : P e). inr (wider e k)) (f e h)

-- where the later events append nothing
pub adds_none : (P : Entry → Type 0) (a more : List Event) → appended more ≡ [] → Adds P a (a ++ more)
adds_none P a more none = λ e h.
    ⊎_elim
    (λ (k : Contains (appended a) e). inl k)
    (λ (k : Contains (appended more) e). absurd (none_in e (subst (λ es. Contains es e) none k)))
    (appended_parts a more e h)

-- How far a log is trimmed

pub upto_more : (m m' : ℕ) (es : List Event) → m ≤ m' → TrimsUpTo m es → TrimsUpTo m' es
upto_more m m' es more f = λ n h. let k = f n h in omega arith

-- none was trimmed before further than now
pub upto_front : (m : ℕ) (a b : List Event) → TrimsUpTo m (a ++ b) → TrimsUpTo m a
upto_front m a b f = λ n h. f n (raised_stays a b n h)

-- By its rules

module _ (law : Law) where
  -- what was appended was somebody's to append
  pub appended_may : (events : List Event) (e : Entry) → IsLegal law events → Contains (appended events) e → (who : ℕ) × law.may who e
  appended_may events e legal h = entries.appended_sent law events e legal h

  -- what a log holds was somebody's to append
  pub held_may : (seen : List Event) (pos : ℕ) (e : Entry) → IsLegal law seen → Holds seen pos e → (who : ℕ) × law.may who e
  held_may seen pos e legal h = entries.held_sent law seen pos e legal h

-- By other rules

-- the other rules may ask what the log shows where it is trimmed
pub legal_by_shown : (law : Law) (may' : ℕ → Entry → Type 0) (floor' : List Entry → ℕ → Type 0) (events : List Event) → IsLegal law events
    → ((who : ℕ) (e : Entry) → Contains (appended events) e → law.may who e → may' who e)
    → ((log : List Entry) (n : ℕ) → Contains (raised events) n → Shows (state_of events).shown log → law.floor log n → floor' log n)
    → IsLegal (record law { may = may'; floor = floor' }) events
legal_by_shown law may' floor' events legal f g = other_legal law may' floor' events legal f g

pub legal_by : (law : Law) (may' : ℕ → Entry → Type 0) (floor' : List Entry → ℕ → Type 0) (events : List Event) → IsLegal law events
    → ((who : ℕ) (e : Entry) → Contains (appended events) e → law.may who e → may' who e)
    → ((log : List Entry) (n : ℕ) → Contains (raised events) n → law.floor log n → floor' log n)
    → IsLegal (record law { may = may'; floor = floor' }) events
legal_by law may' floor' events legal f g = other_legal law may' floor' events legal f (λ log n h _ free. g log n h free)

module _ (law : Law) where
  -- it is legal by rules that allow each entry that was appended, and no other
  by_appended : (seen : List Event) → IsLegal law seen → IsLegal (record law { may = λ who e. Contains (appended seen) e }) seen
  by_appended seen legal = legal_by law (λ who e. Contains (appended seen) e) law.floor seen legal (λ who e h _. h) (λ log n _ free. free)

  -- what a log holds was appended
  pub held_appended : (seen : List Event) (pos : ℕ) (e : Entry) → IsLegal law seen → Holds seen pos e → Contains (appended seen) e
  held_appended seen pos e legal h = (entries.held_sent (record law { may = λ who x. Contains (appended seen) x }) seen pos e (by_appended seen legal) h).1

  -- what it shows, or did, was appended
  pub shown_appended : (seen : List Event) (pos : ℕ) (e : Entry) → IsLegal law seen → (state_of seen).shown pos ≡ Some e → Contains (appended seen) e
  shown_appended seen pos e legal h = (entries.shown_sent (record law { may = λ who x. Contains (appended seen) x }) seen pos e (by_appended seen legal) h).1

  -- a log that is shown lets it be trimmed so
  frees : (seen : List Event) (n : ℕ) (log : List Entry) → IsLegal law seen → Shows (state_of seen).shown log → law.floor log n → Frees law.floor seen n
  frees seen n log legal shows free = record {
    log = log;
    shows = shows;
    each = λ e h. let x = place_of log e h in shown_appended seen x.0 e legal (shows x.0 x.1 ∙ x.2);
    free = free;
  }

  -- a trim that was written, or may have been, is none, or the log may be trimmed so
  pub raised_free : (seen : List Event) (n : ℕ) → IsLegal law seen → Contains (raised seen) n → (n ≡ 0) ⊎ Frees law.floor seen n
  raised_free seen n legal h =
      raised_such (Frees law.floor seen) law seen n
      (legal_by_shown law law.may (such (Frees law.floor seen)) seen legal (λ who e _ k. k) (λ log m _ shows free. frees seen m log legal shows free)) h

  -- it is legal by rules that let the log be trimmed where it was, and nowhere else
  by_raised : (seen : List Event) → IsLegal law seen → IsLegal (record law { floor = such (Contains (raised seen)) }) seen
  by_raised seen legal = legal_by law law.may (such (Contains (raised seen))) seen legal (λ who e _ k. k) (λ log n h _. h)

  -- the trim of a chain that the register gave is none, or was written
  pub given_raised : (seen : List Event) (version : ℕ) (chain : Chain) → IsLegal law seen → (state_of seen).register.given version ≡ Some chain → (chain.trim ≡ 0) ⊎ Contains (raised seen) chain.trim
  given_raised seen version chain legal h = given_such (Contains (raised seen)) law seen version chain (by_raised seen legal) h

  -- so is that of the log
  pub trim_raised : (seen : List Event) → IsLegal law seen → (trim_of (state_of seen) ≡ 0) ⊎ Contains (raised seen) (trim_of (state_of seen))
  trim_raised seen legal = trim_such (Contains (raised seen)) law seen (by_raised seen legal)

  -- and a trim above a position that is trimmed was written
  pub trimmed_raised : (seen : List Event) (pos : ℕ) → IsLegal law seen → IsTrimmed seen pos → (n : ℕ) × Contains (raised seen) n × (pos < n)
  trimmed_raised seen pos legal t =
      ⊎_elim
      (λ (none : t.chain.trim ≡ 0). absurd (omega (arith, none, t.below)))
      (λ (h : Contains (raised seen) t.chain.trim). (t.chain.trim, h, t.below))
      (given_raised seen t.version t.chain legal t.given)

  module _ (m : ℕ) (low : (log : List Entry) (n : ℕ) → law.floor log n → n ≤ m) where
    -- where the rules let no log be trimmed above m, nothing is
    pub upto_low : (seen : List Event) → IsLegal law seen → TrimsUpTo m seen
    upto_low seen legal = λ n h.
        ⊎_elim
        (λ (none : n ≡ 0). omega (arith, none))
        (λ (free : Frees law.floor seen n). low free.log n free.free)
        (raised_free seen n legal h)

    pub below_low : (seen : List Event) (pos : ℕ) → IsLegal law seen → IsTrimmed seen pos → pos + 1 ≤ m
    below_low seen pos legal t = let x = trimmed_raised seen pos legal t in let upto = upto_low seen legal x.0 x.1 in omega (arith, x.2, upto)
