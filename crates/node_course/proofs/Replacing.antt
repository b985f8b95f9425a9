-- What a node's lines did to the chain stands so at a later moment, and as one more line is played.
use Rattle.std.proofs.Common.{◌≡◌, refl, sym, ap, ◌∙◌, subst, ◌⊎◌, inl, inr, ℕ, zero, suc, ◌+◌, ◌<◌, ◌≤◌, ◌==◌, ◌&&◌, Bool, true, false, cond, List, [], ◌∷◌, ◌++◌, Option, Some, None, length, slice_get, slice_set, arith, append_assoc, eq-eqb}
use Rattle.std.proofs.lemmas.Bool.Decides.{nat_tests}
use Rattle.chain_map.specs.Chain.{last_id}
use Rattle.legal_journal.specs.Law.{Law}
use Rattle.legal_journal.specs.declared.events.Event.{Event}
use Rattle.legal_journal.specs.Journal.{IsLegal, state_of}
use Rattle.journal_laws.specs.Versions.{write}
use Rattle.virtual_log.specs.declared.extend.Extension.{Extension}
use Rattle.virtual_log.specs.declared.extend.Extension.TheVariants.{Extended, Moved, NoSpare}
use Rattle.script_text.specs.declared.asks.NamedLine.{NamedLine}
use Rattle.node_lines.specs.declared.lines.Looked.{Looked}
use Rattle.node_lines.specs.declared.lines.Looked.TheVariants as looked
use Rattle.node_lines.specs.Chains.{HasStarted}
use Rattle.node_lines.specs.Workers.{Grows}
use Rattle.node_lines.proofs.Chains.{last_within, started_stays}
use Rattle.node_course.specs.Moments.{NodeCourse, moment}
use Rattle.node_course.specs.Played.{Came, goes_further, went_further}
use Rattle.node_course.specs.Replacing.{AsksNode, GoesBefore, HasWritten, IsPassed, IsReplaced, Replaced}
use Rattle.node_course.proofs.Moments.{grown_legal, grown_on, grows_not}
use Rattle.node_course.proofs.Looks.{came_cases}
use Rattle.node_course.proofs.Growing.{Grown, legal_then}

-- Between other moments

pub written_on : (who version start : ℕ) (old new : List Event) → Grows old new → HasWritten who version start old → HasWritten who version start new
written_on who version start old new g h = record {
  expected = h.expected;
  chain = h.chain;
  begins = h.begins;
  before = h.before;
  after = h.after ++ g.0;
  seen = g.1 ∙ (ap (λ l. l ++ g.0) h.seen ∙ append_assoc h.before (write who h.expected h.chain version ∷ h.after) g.0);
}

pub passed_within : (who : ℕ) (first old new last : List Event) → Grows first old → Grows new last → last_id (state_of first).register.chain ≤ last_id (state_of old).register.chain → IsPassed who old new → IsPassed who first last
passed_within who first old new last early late low h = record {
  event = h.event;
  is = record { apart = h.is.apart; chain = h.is.chain; wrote = h.is.wrote; behind = omega (arith, h.is.behind, low) };
  before = early.0 ++ h.before;
  after = h.after ++ late.0;
  seen =
      late.1
      ∙ (ap (λ l. l ++ late.0) (h.seen ∙ ap (λ l. (l ++ h.before) ++ h.event ∷ h.after) early.1 ∙ ap (λ l. l ++ h.event ∷ h.after) (append_assoc first early.0 h.before))
      ∙ append_assoc (first ++ (early.0 ++ h.before)) (h.event ∷ h.after) late.0);
}

module _ (law : Law) (who : ℕ) where
  -- the first moment may be earlier, and the last one later
  pub replaced_within : (first old new last : List Event) → Grows first old → Grows new last → IsLegal law old → IsLegal law last → (x : Extension) → IsReplaced (length law.shelf) who old new x → IsReplaced (length law.shelf) who first last x
  replaced_within first old new last early late was legal (Extended version start) h =
      let a = grown_on law first old early was in
      let b = grown_on law new last late legal in (
        record {
          above = omega (arith, h.0.above, a.version);
          within = omega (arith, h.0.within, b.version);
          next = omega (arith, h.0.next, a.last, b.last);
          started = subst (λ l. HasStarted (state_of l).register.chain start) (sym late.1) (started_stays law new late.0 start (subst (IsLegal law) late.1 legal) h.0.started);
        },
        written_on who version start new last late h.1,
        record { from = (let low = h.2.from in omega (arith, low, a.tail)); upto = (let high = h.2.upto in omega (arith, high, b.tail)) },
      )
  replaced_within first old new last early late was legal (Moved version) h =
      let a = grown_on law first old early was in
      let b = grown_on law new last late legal in
      (record { above = omega (arith, h.0.above, a.version); within = omega (arith, h.0.within, b.version); next = omega (arith, h.0.next, a.last, b.last) }, passed_within who first old new last early late a.last h.1)
  replaced_within first old new last early late was legal NoSpare h =
      let b = grown_on law new last late legal in
      let within = last_within law last legal in
      omega (arith, h, b.last, within)

  -- what came about by a moment goes before what came about after it
  pub before_later : (first mid old new : List Event) → Grows mid old → IsLegal law old → IsLegal law new → (x y : Extension) → IsReplaced (length law.shelf) who first mid x → (by : ℕ) → IsReplaced (length law.shelf) by old new y → GoesBefore x y
  before_later first mid old new g was legal (Extended v s) (Extended w r) h by k = let a = grown_on law mid old g was in omega (arith, h.0.within, a.version, k.0.above)
  before_later first mid old new g was legal (Extended v s) (Moved w) h by k = let a = grown_on law mid old g was in omega (arith, h.0.within, a.version, k.0.above)
  before_later first mid old new g was legal (Extended v s) NoSpare h by k = tt
  before_later first mid old new g was legal (Moved v) (Extended w r) h by k = let a = grown_on law mid old g was in omega (arith, h.0.within, a.version, k.0.above)
  before_later first mid old new g was legal (Moved v) (Moved w) h by k = let a = grown_on law mid old g was in omega (arith, h.0.within, a.version, k.0.above)
  before_later first mid old new g was legal (Moved v) NoSpare h by k = tt
  before_later first mid old new g was legal NoSpare (Extended w r) h by k =
      let a = grown_on law mid old g was in
      let within = last_within law new legal in
      absurd (omega (arith, h, a.last, k.0.next, within))
  before_later first mid old new g was legal NoSpare (Moved w) h by k =
      let a = grown_on law mid old g was in
      let within = last_within law new legal in
      absurd (omega (arith, h, a.last, k.0.next, within))
  before_later first mid old new g was legal NoSpare NoSpare h by k = tt

-- Counting

pub further_set : (n : ℕ) (lines : List NamedLine) (looks : List (Option Looked)) (i : ℕ) (l : NamedLine) (look : Looked) → slice_get lines i ≡ Some l → l.node ≡ n → slice_get looks i ≡ Some None
    → went_further n lines (slice_set looks i (Some look)) ≡ went_further n lines looks + cond (goes_further (Some look)) 1 0
further_set n [] looks i l look at own none = absurd (cc)
further_set n (m ∷ lines) [] i l look at own none = absurd (cc)
further_set n (m ∷ lines) (k ∷ looks) zero l look at own none =
    let is : m ≡ l = cc in
    let was : k ≡ None = cc in
    let its : (m.node == n) ≡ true = eq-eqb m.node n (ap (λ (x : NamedLine). x.node) is ∙ own) in
    let a : cond ((m.node == n) && goes_further (Some look)) 1 0 ≡ cond (goes_further (Some look)) 1 0 = ap {B = ℕ} (λ b. cond (b && goes_further (Some look)) 1 0) its in
    let b : ◌≡◌ {A = ℕ} (cond ((m.node == n) && goes_further k) 1 0) 0 = ap {B = ℕ} (λ o. cond ((m.node == n) && goes_further o) 1 0) was ∙ none_counted (m.node == n) in
    omega (arith, a, b)
  where
    none_counted : (b : Bool) → ◌≡◌ {A = ℕ} (cond (b && goes_further None) 1 0) 0
    none_counted true = refl
    none_counted false = refl
further_set n (m ∷ lines) (k ∷ looks) (suc i) l look at own none = let rest = further_set n lines looks i l look at own none in omega (arith, rest)

-- of the looks at a node's own lines alone
pub further_same : (n : ℕ) (lines : List NamedLine) (looks looks' : List (Option Looked)) → length looks' ≡ length looks → ((i : ℕ) (l : NamedLine) → slice_get lines i ≡ Some l → l.node ≡ n → slice_get looks' i ≡ slice_get looks i)
    → went_further n lines looks' ≡ went_further n lines looks
further_same n [] looks looks' size same = refl
further_same n (m ∷ lines) [] [] size same = refl
further_same n (m ∷ lines) [] (k' ∷ looks') size same = absurd (omega (arith, size))
further_same n (m ∷ lines) (k ∷ looks) [] size same = absurd (omega (arith, size))
further_same n (m ∷ lines) (k ∷ looks) (k' ∷ looks') size same =
    let rest = further_same n lines looks looks' (omega (arith, size)) (λ i l at own. same (suc i) l at own) in
    let here = by (m.node == n) refl in
    omega (arith, rest, here)
  where
    by : (b : Bool) → (m.node == n) ≡ b → ◌≡◌ {A = ℕ} (cond (b && goes_further k') 1 0) (cond (b && goes_further k) 1 0)
    by true is =
        let own : m.node ≡ n = grind (arith, nat_tests) in
        let one : Some k' ≡ Some k = same zero m refl own in
        let it : k' ≡ k = cc in
        ap {B = ℕ} (λ o. cond (goes_further o) 1 0) it
    by false is = refl

-- One more line

-- what the line came to, if it was to replace the last loglet, is as the chain went on meanwhile
abbrev pub LooksOn : ℕ → ℕ → List Event → List Event → Looked → Type 0
LooksOn cells n old new look = (x : Extension) → look ≡ looked.Extended x → IsReplaced cells n old new x

one_more : (law : Law) (n : ℕ) (old new : List Event) → Grows old new → IsLegal law new → (look : Looked) → LooksOn (length law.shelf) n old new look
    → last_id (state_of old).register.chain + cond (goes_further (Some look)) 1 0 ≤ last_id (state_of new).register.chain
one_more law n old new g legal look so = by look so
  where
    up : last_id (state_of old).register.chain ≤ last_id (state_of new).register.chain
    up = (grown_on law old new g legal).last

    by : (x : Looked) → LooksOn (length law.shelf) n old new x → last_id (state_of old).register.chain + cond (goes_further (Some x)) 1 0 ≤ last_id (state_of new).register.chain
    by (looked.Found after found) h = omega (arith, up)
    by (looked.Kept k) h = omega (arith, up)
    by (looked.Failed k) h = omega (arith, up)
    by (looked.Extended (Extended v s)) h = let k = (h (Extended v s) refl).0.next in omega (arith, k)
    by (looked.Extended (Moved v)) h = let k = (h (Moved v) refl).0.next in omega (arith, k)
    by (looked.Extended NoSpare) h = omega (arith, up)
    by (looked.Reported position) h = omega (arith, up)
    by looked.Left h = omega (arith, up)
    by (looked.Trimmed trim) h = omega (arith, up)

module _ (law : Law) (c c' : NodeCourse) (g : Grown law c c') (lines : List NamedLine) (looks : List (Option Looked)) (n : ℕ)
    (ahead : (i : ℕ) (l : NamedLine) (look : Looked) → Came lines looks n i l look → l.phase ≤ c.phase) (r : Replaced lines looks n c (length law.shelf)) where
  -- what came to a line before stands so
  each_on : (l : NamedLine) (x : Extension) → l.phase ≤ c.phase → IsReplaced (length law.shelf) n (moment c l.phase) (moment c (l.phase + 1)) x → IsReplaced (length law.shelf) n (moment c' l.phase) (moment c' (l.phase + 1)) x
  each_on l x low h =
      let same = g.past l.phase low in
      let first : Grows (moment c' l.phase) (moment c l.phase) = subst (Grows (moment c' l.phase)) same (grows_not (moment c' l.phase)) in
      let was : IsLegal law (moment c l.phase) = subst (IsLegal law) same (legal_then law c c' g l.phase) in
      replaced_within law n (moment c' l.phase) (moment c l.phase) (moment c (l.phase + 1)) (moment c' (l.phase + 1)) first (g.later (l.phase + 1)) was (legal_then law c c' g (l.phase + 1)) x h

  last_rises : last_id (state_of c.seen).register.chain ≤ last_id (state_of c'.seen).register.chain
  last_rises = (grown_on law c.seen c'.seen (g.more, g.seen) g.legal).last

  -- where no line of the node was played since
  pub replaced_on : (looks' : List (Option Looked)) → ((i : ℕ) (l : NamedLine) (look : Looked) → Came lines looks' n i l look → Came lines looks n i l look) → went_further n lines looks' ≡ went_further n lines looks → Replaced lines looks' n c' (length law.shelf)
  replaced_on looks' back same = record {
    each = λ i l x come. let was = back i l (looked.Extended x) come in each_on l x (ahead i l (looked.Extended x) was) (r.each i l x was);
    asked = λ i l x come. r.asked i l x (back i l (looked.Extended x) come);
    order = λ i j l m x y come come' low. r.order i j l m x y (back i l (looked.Extended x) come) (back j m (looked.Extended y) come') low;
    ids = omega (arith, same, r.ids, last_rises);
  }

  -- .. and where one was, and none behind it
  module _ (i : ℕ) (line : NamedLine) (look : Looked) (at : slice_get lines i ≡ Some line) (node : line.node ≡ n) (phase : line.phase ≡ c.phase) (not_yet : slice_get looks i ≡ Some None) (so : LooksOn (length law.shelf) n c.seen c'.seen look) (own : (x : Extension) → look ≡ looked.Extended x → AsksNode line.asks)
      (behind : (j : ℕ) (m : NamedLine) → slice_get lines j ≡ Some m → m.node ≡ n → i < j → slice_get looks j ≡ Some None) (now : moment c' (c.phase + 1) ≡ c'.seen) (long : (p : ℕ) → Grows (moment c p) c.seen) where
    abbrev looks' : List (Option Looked)
    looks' = slice_set looks i (Some look)

    abbrev Cases : ℕ → NamedLine → Extension → Type 0
    Cases j l x = Came lines looks n j l (looked.Extended x) ⊎ ((j ≡ i) × (l ≡ line) × (look ≡ looked.Extended x))

    cases : (j : ℕ) (l : NamedLine) (x : Extension) → Came lines looks' n j l (looked.Extended x) → Cases j l x
    cases j l x come = came_cases lines looks n i line look at not_yet j l (looked.Extended x) come

    was_legal : IsLegal law c.seen
    was_legal = grown_legal law c.seen c'.seen (g.more, g.seen) g.legal

    -- this line
    now_so : (x : Extension) → look ≡ looked.Extended x → IsReplaced (length law.shelf) n (moment c' line.phase) (moment c' (line.phase + 1)) x
    now_so x is =
        let same : moment c' (line.phase + 1) ≡ c'.seen = ap (λ p. moment c' (p + 1)) phase ∙ now in
        let first : Grows (moment c' line.phase) c.seen = subst (λ m. Grows m c.seen) (sym (g.past line.phase (omega (arith, phase)))) (long line.phase) in
        subst (λ m. IsReplaced (length law.shelf) n (moment c' line.phase) m x) (sym same)
        (replaced_within law n (moment c' line.phase) c.seen c'.seen c'.seen first (grows_not c'.seen) was_legal g.legal x (so x is))

    each : (j : ℕ) (l : NamedLine) (x : Extension) → Came lines looks' n j l (looked.Extended x) → IsReplaced (length law.shelf) n (moment c' l.phase) (moment c' (l.phase + 1)) x
    each j l x come = by (cases j l x come)
      where
        by : Cases j l x → IsReplaced (length law.shelf) n (moment c' l.phase) (moment c' (l.phase + 1)) x
        by (inl was) = each_on l x (ahead j l (looked.Extended x) was) (r.each j l x was)
        by (inr it) = subst (λ (m : NamedLine). IsReplaced (length law.shelf) n (moment c' m.phase) (moment c' (m.phase + 1)) x) (sym it.1) (now_so x it.2)

    asked : (j : ℕ) (l : NamedLine) (x : Extension) → Came lines looks' n j l (looked.Extended x) → AsksNode l.asks
    asked j l x come = by (cases j l x come)
      where
        by : Cases j l x → AsksNode l.asks
        by (inl was) = r.asked j l x was
        by (inr it) = subst (λ (m : NamedLine). AsksNode m.asks) (sym it.1) (own x it.2)

    order : (j k : ℕ) (l m : NamedLine) (x y : Extension) → Came lines looks' n j l (looked.Extended x) → Came lines looks' n k m (looked.Extended y) → j < k → GoesBefore x y
    order j k l m x y come come' low = by (cases j l x come) (cases k m y come')
      where
        played : Some None ≡ Some (Some (looked.Extended y)) → ⊥
        played e = cc

        by : Cases j l x → Cases k m y → GoesBefore x y
        by (inl a) (inl b) = r.order j k l m x y a b low
        by (inl a) (inr b) =
            before_later law n (moment c l.phase) (moment c (l.phase + 1)) c.seen c'.seen (long (l.phase + 1)) was_legal g.legal x y (r.each j l x a) n (so y b.2)
        by (inr a) (inl b) = absurd (played (sym (behind k m b.is b.own (omega (arith, a.0, low))) ∙ b.looked))
        by (inr a) (inr b) = absurd (omega (arith, a.0, b.0, low))

    pub replaced_then : Replaced lines looks' n c' (length law.shelf)
    replaced_then = record {
      each = each;
      asked = asked;
      order = order;
      ids =
          let e = further_set n lines looks i line look at node not_yet in
          let more = one_more law n c.seen c'.seen (g.more, g.seen) g.legal look so in
          omega (arith, e, more, r.ids);
    }
