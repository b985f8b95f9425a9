-- What nodes tell stands behind what it tells, and their requests for trims behind reports of as much, still as a journal goes on.
use Rattle.std.proofs.Common.{◌≡◌, refl, sym, ap, ◌∙◌, subst, ◌⊎◌, inl, inr, ⊎_elim, ℕ, ◌<◌, ◌≤◌, List, [], ◌∷◌, ◌++◌, length, length-append, arith, append-nil}
use Rattle.std.specs.Prelude.{Contains}
use Rattle.delos_types.specs.declared.entry.Entry.{Entry}
use Rattle.legal_journal.specs.Law.{Law}
use Rattle.legal_journal.specs.declared.events.Event.{Event}
use Rattle.legal_journal.specs.Journal.{IsLegal}
use Rattle.legal_journal.specs.Turns.{AreOthers}
use Rattle.journal_laws.specs.Changes.{appended}
use Rattle.engine_api.specs.declared.content.Content.{Content}
use Rattle.engine_api.specs.declared.content.Content.TheVariants as content
use Rattle.engine_api.specs.declared.content.Placed.{Placed}
use Rattle.engine_api.specs.Items.{unpack}
use Rattle.node_lines.specs.Workers.{Grows, OwnAdds, appended_by}
use Rattle.node_lines.proofs.Own.{own_stays}
use Rattle.node_course.specs.Telling.{AreBehind, AsksBehind, IsBehind, WasHeld}
use Rattle.node_course.proofs.Events.{appended_same}
use Rattle.node_course.proofs.Moments.{grows_both, grows_not}
use Rattle.node_course.proofs.Stands.{behind_so}

-- Journals

tail_same : (x y : Event) (xs ys : List Event) → x ∷ xs ≡ y ∷ ys → xs ≡ ys
tail_same x y xs ys e = cc

head_same : (x y : Event) (xs ys : List Event) → x ∷ xs ≡ y ∷ ys → x ≡ y
head_same x y xs ys e = cc

-- of two beginnings of a journal one begins the other
begins_or : (a b c d : List Event) → a ++ c ≡ b ++ d → Grows a b ⊎ Grows b a
begins_or [] b c d e = inl (b, refl)
begins_or (x ∷ a) [] c d e = inr (x ∷ a, refl)
begins_or (x ∷ a) (y ∷ b) c d e = by (head_same x y (a ++ c) (b ++ d) e) (begins_or a b c d (tail_same x y (a ++ c) (b ++ d) e))
  where
    by : x ≡ y → Grows a b ⊎ Grows b a → Grows (x ∷ a) (y ∷ b) ⊎ Grows (y ∷ b) (x ∷ a)
    by same (inl g) = inl (g.0, ap (λ l. y ∷ l) g.1 ∙ ap (λ z. z ∷ (a ++ g.0)) (sym same))
    by same (inr g) = inr (g.0, ap (λ l. x ∷ l) g.1 ∙ ap (λ z. z ∷ (b ++ g.0)) same)

shorter : (a b : List Event) → Grows a b → length a ≤ length b
shorter a b g = let size = ap length g.1 in let parts = length-append a g.0 in omega (arith, size, parts)

-- of two moments of a journal the first begins the other, or is a later one
pub moments_or : (a b journal : List Event) → Grows a journal → Grows b journal → Grows a b ⊎ (Grows b a × (length b < length a))
moments_or a b journal g h = ⊎_elim (λ (low : Grows a b). inl low) (λ (high : Grows b a). by high.0 high.1) (begins_or a b g.0 h.0 (sym g.1 ∙ h.1))
  where
    by : (more : List Event) → a ≡ b ++ more → Grows a b ⊎ (Grows b a × (length b < length a))
    by [] is = inl ([], sym (append-nil a ∙ (is ∙ append-nil b)))
    by (x ∷ more) is = let size = ap length is in let parts = length-append b (x ∷ more) in inr ((x ∷ more, is), omega (arith, size, parts))

pub own_upto : (n : ℕ) (a b : List Event) → Grows a b → (e : Entry) → Contains (appended_by n a) e → Contains (appended_by n b) e
own_upto n a b g e h = subst (λ es. Contains (appended_by n es) e) (sym g.1) (own_stays n a g.0 e h)

-- What was told

pub behind_then : (law : Law) (old new : List Event) → Grows old new → IsLegal law new → (c : Content) → IsBehind old c → IsBehind new c
behind_then law old new g legal (content.Session s r x) h = tt
behind_then law old new g legal (content.Alive node n) h = behind_so law old new g.0 g.1 legal n (content.Alive node n) h
behind_then law old new g legal (content.Leave node) h = tt
behind_then law old new g legal (content.Trim n) h = behind_so law old new g.0 g.1 legal n (content.Trim n) h

-- where nothing was appended
pub behind_still : (law : Law) (old new : List Event) → Grows old new → IsLegal law new → ((e : Entry) → Contains (appended new) e → Contains (appended old) e) → AreBehind old → AreBehind new
behind_still law old new g legal back was = λ e p there among. behind_then law old new g legal p.content (was e p (back e there) among)

-- What a node asked for

later_held : (a b : List Event) (position : ℕ) → Grows a b → WasHeld a position → WasHeld b position
later_held a b position g h = record { before = h.before; grows = grows_both h.before a b h.grows g; earlier = let low = h.earlier in let up = shorter a b g in omega (arith, low, up); held = h.held }

-- what it had begun to append by then it asked behind a report, at each moment since too
asked_by_then : (n : ℕ) (old new : List Event) → Grows old new → AsksBehind n old → (early : List Event) (e : Entry) (p : Placed) (position : ℕ) → Grows early new → Contains (appended_by n early) e → Contains (appended_by n old) e → Contains (unpack 0 e) p
    → p.content ≡ content.Trim position → WasHeld early position
asked_by_then n old new g asks early e p position up own was among is = ⊎_elim
    (λ (low : Grows early old). asks early e p position low own among is)
    (λ (high : Grows old early × (length old < length early)). later_held old early position high.0 (asks old e p position (grows_not old) was among is))
    (moments_or early old new up g)

-- The node added such entries alone, of which each that asks for a trim does so behind a report, or was appended before.
pub asks_on : (n : ℕ) (old new : List Event) (P : Entry → Type 0) → Grows old new → OwnAdds n P old new
    → ((early : List Event) (e : Entry) (p : Placed) (position : ℕ) → Grows early new → Contains (appended_by n early) e → P e → Contains (unpack 0 e) p → p.content ≡ content.Trim position → Contains (appended_by n old) e ⊎ WasHeld early position)
    → AsksBehind n old → AsksBehind n new
asks_on n old new P g adds each asks = λ early e p position up own among is. ⊎_elim
    (λ (was : Contains (appended_by n old) e). asked_by_then n old new g asks early e p position up own was among is)
    (λ (now : P e). ⊎_elim
    (λ (was : Contains (appended_by n old) e). asked_by_then n old new g asks early e p position up own was among is)
    (λ (held : WasHeld early position). held)
    (each early e p position up own now among is))
    (adds e (own_upto n early new up e own))

-- Others had events: the node appended nothing more.
pub asks_beside : (n : ℕ) (old more : List Event) → AreOthers n more → AsksBehind n old → AsksBehind n (old ++ more)
asks_beside n old more others asks = λ early e p position up own among is.
    asked_by_then n old (old ++ more) (more, refl) asks early e p position up own (subst (λ es. Contains es e) (appended_same n old more others) (own_upto n early (old ++ more) up e own)) among is
