-- What is noted of lines, and of whose.
use Rattle.std.proofs.Common.{◌≡◌, refl, sym, ap, ◌∙◌, subst, ℕ, zero, suc, List, [], ◌∷◌, ◌++◌, Option, Some, length, arith}
use Rattle.std.specs.Prelude.{slice_get, slice_set}
use Rattle.std.specs.List.{AllByRecursion}
use Rattle.std.proofs.lemmas.List.{length-set}
use Rattle.fabric_core.proofs.Marks.{set_other}
use Rattle.script_text.specs.declared.asks.NamedLine.{NamedLine}
use Rattle.node_lines.specs.declared.lines.Looked.{Looked}
use Rattle.node_crew.specs.declared.note.Note.{Note}
use Rattle.node_crew.specs.Notes.{AreNotesOf, IsOwnLine, NotesLine, noted}

-- Notes

all_both : {A : Type 0} (P : A → Type 0) (xs ys : List A) → AllByRecursion P xs → AllByRecursion P ys → AllByRecursion P (xs ++ ys)
all_both P [] ys h k = k
all_both P (x ∷ xs) ys h k = (h.0, all_both P xs ys h.1 k)

-- of a node's notes each more is, if it is of one of the node's lines
pub notes_more : (lines : List NamedLine) (n i : ℕ) (line : NamedLine) (old new : List Note) → slice_get lines i ≡ Some line → line.node ≡ n → NotesLine i old new → AreNotesOf lines n old → AreNotesOf lines n new
notes_more lines n i line old new at own h before =
    subst (AreNotesOf lines n) (sym h.is) (all_both (λ (note : Note). IsOwnLine lines note.line n) old h.more before (each h.more h.at))
  where
    each : (more : List Note) → AllByRecursion (λ (note : Note). note.line ≡ i) more → AreNotesOf lines n more
    each [] k = tt
    each (note ∷ more) k = (record { line = line; is = ap (slice_get lines) k.0 ∙ at; own = own }, each more k.1)

-- What comes of it

pub noted_push : (looks : List (Option Looked)) (notes : List Note) (note : Note) → noted looks (notes ++ note ∷ []) ≡ slice_set (noted looks notes) note.line (Some note.look)
noted_push looks [] note = refl
noted_push looks (n ∷ ns) note = noted_push (slice_set looks n.line (Some n.look)) ns note

pub noted_size : (looks : List (Option Looked)) (notes : List Note) → length (noted looks notes) ≡ length looks
noted_size looks [] = refl
noted_size looks (n ∷ ns) = noted_size (slice_set looks n.line (Some n.look)) ns ∙ length-set looks n.line (Some n.look)

-- a node's notes say nothing of others' lines
pub noted_other : (lines : List NamedLine) (n : ℕ) (looks : List (Option Looked)) (notes : List Note) (i : ℕ) (l : NamedLine) → AreNotesOf lines n notes → slice_get lines i ≡ Some l → (l.node ≡ n → ⊥)
    → slice_get (noted looks notes) i ≡ slice_get looks i
noted_other lines n looks [] i l all at other = refl
noted_other lines n looks (note ∷ notes) i l all at other =
    noted_other lines n (slice_set looks note.line (Some note.look)) notes i l all.1 at other
    ∙ set_other looks note.line i (Some note.look) (λ same. other (apart same))
  where
    of : Some l ≡ Some all.0.line → l ≡ all.0.line
    of e = cc

    apart : i ≡ note.line → l.node ≡ n
    apart same = ap (λ (x : NamedLine). x.node) (of (sym at ∙ (ap (slice_get lines) same ∙ all.0.is))) ∙ all.0.own

-- in lists that say the same of a line the same is noted of it
pub noted_same : (a b : List (Option Looked)) (notes : List Note) (i : ℕ) → length a ≡ length b → slice_get a i ≡ slice_get b i → slice_get (noted a notes) i ≡ slice_get (noted b notes) i
noted_same a b [] i size same = same
noted_same a b (n ∷ ns) i size same =
    noted_same (slice_set a n.line (Some n.look)) (slice_set b n.line (Some n.look)) ns i
    (length-set a n.line (Some n.look) ∙ (size ∙ sym (length-set b n.line (Some n.look))))
    (set_same_at a b n.line i (Some n.look) size same)
  where
    set_same_at : {A : Type 0} (xs ys : List A) (k j : ℕ) (z : A) → length xs ≡ length ys → slice_get xs j ≡ slice_get ys j → slice_get (slice_set xs k z) j ≡ slice_get (slice_set ys k z) j
    set_same_at [] [] k j z size same = refl
    set_same_at [] (y ∷ ys) k j z size same = absurd (omega (arith, size))
    set_same_at (x ∷ xs) [] k j z size same = absurd (omega (arith, size))
    set_same_at (x ∷ xs) (y ∷ ys) zero zero z size same = refl
    set_same_at (x ∷ xs) (y ∷ ys) zero (suc j) z size same = same
    set_same_at (x ∷ xs) (y ∷ ys) (suc k) zero z size same = same
    set_same_at (x ∷ xs) (y ∷ ys) (suc k) (suc j) z size same = set_same_at xs ys k j z (omega (arith, size)) same
