-- What all nodes' lines came to, written down.
use Rattle.std.proofs.Common.{◌≡◌, refl, ap, ◌∙◌, ℕ, zero, suc, ◌+◌, ◌<◌, List, [], ◌∷◌, length, Option, Some, arith}
use Rattle.std.specs.Prelude.{slice_get}
use Rattle.script_text.specs.declared.asks.NamedLine.{NamedLine}
use Rattle.node_lines.specs.declared.lines.Looked.{Looked}
use Rattle.node_crew.specs.Notes.{AreNotesOf, noted}
use Rattle.node_crew.proofs.Notes.{noted_other, noted_same, noted_size}
use Rattle.node_threads.specs.Posts.{PostView, looks_after}
use Rattle.node_threads.proofs.Posts.{some_is}

module _ {W : Type 0} (lines : List NamedLine) where
  -- what was noted at each post is of the lines of its node, which are numbered from this number on
  abbrev pub AllOwn : ℕ → List (PostView W) → Type 0
  AllOwn n [] = Unit {0}
  AllOwn n (p ∷ ps) = AreNotesOf lines n p.notes × AllOwn (suc n) ps

  pub looks_size : (looks : List (Option Looked)) (ps : List (PostView W)) → length (looks_after looks ps) ≡ length looks
  looks_size looks [] = refl
  looks_size looks (p ∷ ps) = noted_size (looks_after looks ps) p.notes ∙ looks_size looks ps

  -- a line of a node before them keeps what it came to
  before : (looks : List (Option Looked)) (n : ℕ) (ps : List (PostView W)) (i : ℕ) (l : NamedLine) → AllOwn n ps → slice_get lines i ≡ Some l → l.node < n → slice_get (looks_after looks ps) i ≡ slice_get looks i
  before looks n [] i l own at low = refl
  before looks n (p ∷ ps) i l own at low =
      noted_other lines n (looks_after looks ps) p.notes i l own.0 at (λ same. omega (arith, low, same))
      ∙ before looks (suc n) ps i l own.1 at (omega (arith, low))

  -- a node's line came to what the node noted
  pub looks_own : (looks : List (Option Looked)) (n : ℕ) (ps : List (PostView W)) (j : ℕ) (p : PostView W) (i : ℕ) (l : NamedLine) → AllOwn n ps → slice_get ps j ≡ Some p → slice_get lines i ≡ Some l → l.node ≡ n + j
      → slice_get (looks_after looks ps) i ≡ slice_get (noted looks p.notes) i
  looks_own looks n [] j p i l own at get node = absurd (cc)
  looks_own looks n (q ∷ ps) zero p i l own at get node =
      noted_same (looks_after looks ps) looks q.notes i (looks_size looks ps) (before looks (suc n) ps i l own.1 get (omega (arith, node)))
      ∙ ap (λ (x : PostView W). slice_get (noted looks x.notes) i) (some_is q p at)
  looks_own looks n (q ∷ ps) (suc j) p i l own at get node =
      noted_other lines n (looks_after looks ps) q.notes i l own.0 get (λ same. omega (arith, node, same))
      ∙ looks_own looks (suc n) ps j p i l own.1 at get (omega (arith, node))
