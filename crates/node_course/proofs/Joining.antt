-- A course goes on by one part after another.
use Rattle.std.proofs.Common.{◌≡◌, refl, sym, ap, ◌∙◌, List, [], ◌++◌, append_assoc, append-nil}
use Rattle.node_course.specs.Moments.{NodeCourse, GoesOn}

-- what each part adds to a list, behind what was there
joined : {A : Type 0} (xs ys zs more more' : List A) → ys ≡ xs ++ more → zs ≡ ys ++ more' → zs ≡ xs ++ (more ++ more')
joined xs ys zs more more' a b = b ∙ ap (λ l. l ++ more') a ∙ append_assoc xs more more'

pub goes_none : (c : NodeCourse) → GoesOn c c
goes_none c = record { phase = refl; begins = refl; more = []; seen = sym (append-nil c.seen); came = []; gained = sym (append-nil c.faults) }

pub goes_both : (c d e : NodeCourse) → GoesOn c d → GoesOn d e → GoesOn c e
goes_both c d e h k = record {
  phase = k.phase ∙ h.phase;
  begins = k.begins ∙ h.begins;
  more = h.more ++ k.more;
  seen = joined c.seen d.seen e.seen h.more k.more h.seen k.seen;
  came = h.came ++ k.came;
  gained = joined c.faults d.faults e.faults h.came k.came h.gained k.gained;
}
