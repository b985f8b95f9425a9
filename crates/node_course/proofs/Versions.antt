-- Versions of the chain that lines of several nodes have.
use Rattle.std.proofs.Common.{◌≡◌, ◌⊎◌, inl, inr, sym, ap, ◌∙◌, subst, ℕ, ◌+◌, ◌<◌, ◌≤◌, List, [], ◌∷◌, ◌++◌, Option, length, arith}
use Rattle.legal_journal.specs.Law.{Law}
use Rattle.legal_journal.specs.declared.events.Event.{Event}
use Rattle.legal_journal.specs.declared.events.FabricAnswer.TheVariants.{Written}
use Rattle.legal_journal.specs.Journal.{IsLegal}
use Rattle.journal_laws.specs.Versions.{write}
use Rattle.journal_laws.proofs.Writing.{differ}
use Rattle.virtual_log.specs.declared.extend.Extension.{Extension}
use Rattle.virtual_log.specs.declared.extend.Extension.TheVariants.{Extended, Moved}
use Rattle.script_text.specs.declared.asks.NamedLine.{NamedLine}
use Rattle.node_lines.specs.declared.lines.Looked.{Looked}
use Rattle.node_lines.specs.declared.lines.Looked.TheVariants as looked
use Rattle.node_course.specs.Script.{AreLines}
use Rattle.node_course.specs.Moments.{NodeCourse, moment, tails}
use Rattle.node_course.specs.Played.{Came}
use Rattle.node_course.specs.Replacing.{GoesBefore, HasWritten, IsPassed, IsReplaced}
use Rattle.node_course.specs.Joined.{AreJoined}
use Rattle.node_course.proofs.Moments.{grown_legal, grows_not}
use Rattle.node_course.proofs.Replacing.{before_later, replaced_within, written_on}
use Rattle.node_course.proofs.Starts.{writes_rise}
use Rattle.node_course.proofs.Parts.{moment_is, node_there, run_legal, run_seen, run_upto}

-- Two elements of a list

-- the same one, or the first before the other, or behind it
abbrev Places : List Event → Event → List Event → Event → Type 0
Places xs x us u = (x ≡ u) ⊎ (((zs : List Event) × (us ≡ xs ++ x ∷ zs)) ⊎ ((zs : List Event) × (xs ≡ us ++ u ∷ zs)))

places : (xs : List Event) (x : Event) (ys us : List Event) (u : Event) (vs : List Event) → xs ++ x ∷ ys ≡ us ++ u ∷ vs → Places xs x us u
places [] x ys [] u vs e = inl (cc)
places [] x ys (z ∷ us) u vs e = let same : x ≡ z = cc in inr (inl (us, ap (λ w. w ∷ us) (sym same)))
places (z ∷ xs) x ys [] u vs e = let same : z ≡ u = cc in inr (inr (xs, ap (λ w. w ∷ xs) same))
places (z ∷ xs) x ys (w ∷ us) u vs e =
    let same : z ≡ w = cc in
    let rest : xs ++ x ∷ ys ≡ us ++ u ∷ vs = cc in
    by same (places xs x ys us u vs rest)
  where
    by : z ≡ w → Places xs x us u → Places (z ∷ xs) x (w ∷ us) u
    by same (inl it) = inl it
    by same (inr (inl h)) = inr (inl (h.0, ap (λ l. w ∷ l) h.1 ∙ ap (λ k. k ∷ (xs ++ x ∷ h.0)) (sym same)))
    by same (inr (inr h)) = inr (inr (h.0, ap (λ l. z ∷ l) h.1 ∙ ap (λ k. k ∷ (us ++ u ∷ h.0)) same))

-- two versions, of which the lower has a last segment that begins no higher
abbrev pub AreInOrder : ℕ → ℕ → ℕ → ℕ → Type 0
AreInOrder v s w t = ((v < w) × (s ≤ t)) ⊎ ((w < v) × (t ≤ s))

-- so it is of any two chains that were written, unless they are one
written_in_order : (law : Law) (a b v w s t : ℕ) (journal : List Event) → IsLegal law journal → (a ≡ b → v ≡ w → ⊥) → HasWritten a v s journal → HasWritten b w t journal → AreInOrder v s w t
written_in_order law a b v w s t journal legal apart h k = by (places h.before (write a h.expected h.chain v) h.after k.before (write b k.expected k.chain w) k.after (sym h.seen ∙ k.seen))
  where
    one_version : Written v ≡ Written w → v ≡ w
    one_version e = cc

    by : Places h.before (write a h.expected h.chain v) k.before (write b k.expected k.chain w) → AreInOrder v s w t
    by (inl it) = absurd (apart (ap (λ (e : Event). e.who) it) (one_version (ap (λ (e : Event). e.answer) it)))
    by (inr (inl early)) =
        let whole = subst (IsLegal law) (k.seen ∙ ap (λ l. l ++ write b k.expected k.chain w ∷ k.after) early.1) legal in
        let low = differ law a b h.expected k.expected v w h.chain k.chain h.before early.0 k.after whole in
        let starts = writes_rise law a b h.expected k.expected v w h.chain k.chain h.before early.0 k.after whole in
        let first = h.begins in
        let then' = k.begins in
        inl (low, omega (arith, starts, first, then'))
    by (inr (inr late)) =
        let whole = subst (IsLegal law) (h.seen ∙ ap (λ l. l ++ write a h.expected h.chain v ∷ h.after) late.1) legal in
        let low = differ law b a k.expected h.expected w v k.chain h.chain k.before late.0 h.after whole in
        let starts = writes_rise law b a k.expected h.expected w v k.chain h.chain k.before late.0 h.after whole in
        let first = h.begins in
        let then' = k.begins in
        inr (low, omega (arith, starts, first, then'))

module _ (law : Law) (lines : List NamedLine) (home : ℕ → ℕ) (nodes : ℕ) (run : NodeCourse) (looks : List (Option Looked)) (courses : ℕ → NodeCourse) (are : AreLines lines home nodes) (join : AreJoined law lines home nodes run looks courses) where
  -- what a line came to, by the run's moments
  replaced_at : (n i : ℕ) (l : NamedLine) (x : Extension) → Came lines looks n i l (looked.Extended x) → IsReplaced (length law.shelf) n (moment run l.phase) (moment run (l.phase + 1)) x
  replaced_at n i l x come =
      let there = node_there law lines home nodes run looks courses are join n i l (looked.Extended x) come in
      let is = moment_is law lines home nodes run looks courses join n there.0 there.1 in
      subst (λ m. IsReplaced (length law.shelf) n m (moment run (l.phase + 1)) x) (is l.phase)
      (subst (λ m. IsReplaced (length law.shelf) n (moment (courses n) l.phase) m x) (is (l.phase + 1)) ((join.did n there.0 there.1).replaced.each i l x come))

  wrote : (n i : ℕ) (l : NamedLine) (v start : ℕ) → Came lines looks n i l (looked.Extended (Extended v start)) → HasWritten n v start run.seen
  wrote n i l v start come =
      let there = node_there law lines home nodes run looks courses are join n i l (looked.Extended (Extended v start)) come in
      written_on n v start (moment run (l.phase + 1)) run.seen (run_seen law lines home nodes run looks courses join n there.0 there.1 (l.phase + 1)) (replaced_at n i l (Extended v start) come).1

  -- of one node the order is its own
  own_order : (a b i k : ℕ) (l m : NamedLine) (x y : Extension) → Came lines looks a i l (looked.Extended x) → Came lines looks b k m (looked.Extended y) → i < k → a ≡ b → GoesBefore x y
  own_order a b i k l m x y come come' low same =
      let there = node_there law lines home nodes run looks courses are join a i l (looked.Extended x) come in
      (join.did a there.0 there.1).replaced.order i k l m x y come (record { is = come'.is; own = come'.own ∙ sym same; looked = come'.looked }) low

  pub versions_apart : (a b i k : ℕ) (l m : NamedLine) (v w start other : ℕ) → Came lines looks a i l (looked.Extended (Extended v start)) → Came lines looks b k m (looked.Extended (Extended w other)) → i < k → AreInOrder v start w other
  versions_apart a b i k l m v w start other come come' low =
      let there = node_there law lines home nodes run looks courses are join a i l (looked.Extended (Extended v start)) come in
      written_in_order law a b v w start other run.seen (run_legal law lines home nodes run looks courses join (omega (arith, there.0, there.1)))
      (λ same equal. let up : v < w = own_order a b i k l m (Extended v start) (Extended w other) come come' low same in omega (arith, up, equal))
      (wrote a i l v start come) (wrote b k m w other come')

  -- a segment begins where the log ended at some time in the line's phase
  pub begins_in_phase : (n i : ℕ) (l : NamedLine) (v start : ℕ) → Came lines looks n i l (looked.Extended (Extended v start)) → (tails run l.phase ≤ start) × (start ≤ tails run (l.phase + 1))
  begins_in_phase n i l v start come = let h = (replaced_at n i l (Extended v start) come).2 in (h.from, h.upto)

  pub versions_rise : (a b i k : ℕ) (l m : NamedLine) (x y : Extension) → Came lines looks a i l (looked.Extended x) → Came lines looks b k m (looked.Extended y) → i < k → (l.phase < m.phase) ⊎ (l.node ≡ m.node) → GoesBefore x y
  versions_rise a b i k l m x y come come' low (inr same) = own_order a b i k l m x y come come' low (sym come.own ∙ same ∙ come'.own)
  versions_rise a b i k l m x y come come' low (inl early) =
      let there = node_there law lines home nodes run looks courses are join a i l (looked.Extended x) come in
      let legal = run_legal law lines home nodes run looks courses join (omega (arith, there.0, there.1)) in
      let upto = run_seen law lines home nodes run looks courses join a there.0 there.1 in
      before_later law a (moment run l.phase) (moment run (l.phase + 1)) (moment run m.phase) (moment run (m.phase + 1))
      (run_upto law lines home nodes run looks courses join a there.0 there.1 (l.phase + 1) m.phase (omega (arith, early)))
      (grown_legal law (moment run m.phase) run.seen (upto m.phase) legal) (grown_legal law (moment run (m.phase + 1)) run.seen (upto (m.phase + 1)) legal)
      x y (replaced_at a i l x come) b (replaced_at b k m y come')

  -- what a line came to stands at the end
  pub stands_now : (n i : ℕ) (l : NamedLine) (x : Extension) → Came lines looks n i l (looked.Extended x) → IsReplaced (length law.shelf) n (moment run l.phase) run.seen x
  stands_now n i l x come =
      let there = node_there law lines home nodes run looks courses are join n i l (looked.Extended x) come in
      let legal = run_legal law lines home nodes run looks courses join (omega (arith, there.0, there.1)) in
      let upto = run_seen law lines home nodes run looks courses join n there.0 there.1 in
      replaced_within law n (moment run l.phase) (moment run l.phase) (moment run (l.phase + 1)) run.seen (grows_not (moment run l.phase)) (upto (l.phase + 1))
      (grown_legal law (moment run l.phase) run.seen (upto l.phase) legal) legal x (replaced_at n i l x come)

  -- where a line found that another had replaced it, another did so in its phase
  pub passed_by : (n i : ℕ) (l : NamedLine) (v : ℕ) → Came lines looks n i l (looked.Extended (Moved v)) → IsPassed n (moment run l.phase) (moment run (l.phase + 1))
  passed_by n i l v come = (replaced_at n i l (Moved v) come).1
