-- What a reader knows after a look.
use Rattle.std.proofs.Common.{◌≡◌, ◌≤◌, ℕ, List, [], ◌∷◌, ◌++◌, refl, sym, ap, subst, ◌∙◌}
use Rattle.snap_reads.specs.declared.change.Published.{Published}
use Rattle.snap_reads.specs.declared.shown.Shown.{Shown}
use Rattle.snap_reads.specs.declared.rule.View.{View}
use Rattle.snap_reads.specs.Tables.{last_position, StartsWith}
use Rattle.snap_reads.specs.Rule.{Looks}
use Rattle.snap_reads.specs.Views.{known, peek_of}
use Rattle.snap_reads.proofs.Keeps.{whole, later_position}

no_front : (xs rest : List Published) → [] ≡ xs ++ rest → [] ≡ xs
no_front [] rest e = refl
no_front (x ∷ xs) rest e = absurd (cc)

-- what was seen goes on from what was told, so it is what is known
pub known_seen : (told seen : List Published) → StartsWith seen told → known told seen ≡ seen
known_seen told [] h = sym (no_front told h.0 h.1)
known_seen told (p ∷ seen) h = refl

pub known_starts : (list told seen : List Published) → StartsWith list told → StartsWith list seen → StartsWith list (known told seen)
known_starts list told [] t s = t
known_starts list told (p ∷ seen) t s = s

pub look_knows : (v w : View) (y : Shown) → Looks v y w → (peek_of w).knows ≡ w.seen
look_knows v w y h = known_seen w.told w.seen (subst (StartsWith w.seen) (sym h.same) h.told)

pub look_later : (v w : View) (y : Shown) → Looks v y w → StartsWith (peek_of w).knows (peek_of v).knows
look_later v w y h = subst (λ (l : List Published). StartsWith l (peek_of v).knows) (sym (look_knows v w y h)) (known_starts w.seen v.told v.seen h.told h.seen)

pub same_later : (v w : View) → w ≡ v → StartsWith (peek_of w).knows (peek_of v).knows
same_later v w e = subst (λ (u : View). StartsWith (peek_of u).knows (peek_of v).knows) (sym e) (whole (peek_of v).knows)

pub look_rises : (v w : View) (y : Shown) → Looks v y w → last_position (peek_of v).knows ≤ y.pos
look_rises v w y h = subst (λ (n : ℕ). last_position (peek_of v).knows ≤ n) (sym h.shows.pos) (later_position w.seen (peek_of v).knows h.rising (known_starts w.seen v.told v.seen h.told h.seen))
