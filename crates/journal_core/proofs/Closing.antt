-- What a crash leaves while the gate behind the records_of is closed.
use Rattle.std.proofs.Common.{◌≡◌, inl, inr, ℕ, ◌+◌, ◌-◌, ◌<◌, ◌≤◌, None, List, [], ◌∷◌, ◌++◌, length, get_or, take, drop, Vec, refl, sym, ◌∙◌, ap, arith, length-append, length-take, length-drop}
use Rattle.std.proofs.lemmas.List.{get_or-drop, get_or_at, drop-drop}
use Rattle.std.proofs.lemmas.Bool.{cases_lt}
use Rattle.std.specs.declared.alloc.Global.{Global}
use Rattle.disk_model.specs.Disk.{Written, changed}
use Rattle.disk_model.specs.Torn.{IsTorn}
use Rattle.disk_model.proofs.Tear.{done_torn}
use Rattle.disk_model.proofs.Images.{written_inside}
use Rattle.journal_core.specs.Records.{number, size, first_record, records_of, payloads}
use Rattle.journal_core.specs.Layout.{Whole, EndsAt}
use Rattle.journal_core.proofs.Walk.{to_first, none_short, some_open, whole_keeps, whole_all}

pub payloads-push : (vs : List (Vec ℕ Global)) (v : Vec ℕ Global) → payloads (vs ++ v ∷ []) ≡ payloads vs ++ v.items ∷ []
payloads-push [] v = refl
payloads-push (w ∷ vs) v = ap (λ (l : List (List ℕ)). w.items ∷ l) (payloads-push vs v)

-- behind a whole record there is a gate
whole_inside : (p : List ℕ) (ps : List (List ℕ)) (e : ℕ) (bytes : List ℕ) → Whole (p ∷ ps) e bytes → e < length bytes
whole_inside p [] e bytes whole = omega (arith, (to_first bytes p whole.0).fits, whole.1, whole.2)
whole_inside p (q ∷ qs) e bytes whole = omega (arith, whole.1, whole_inside q qs (e - (9 + length p)) (drop (9 + length p) bytes) whole.2, length-drop (9 + length p) bytes)

whole_moved : (ps : List (List ℕ)) (e : ℕ) (old c : List ℕ) → Whole ps e old → take e c ≡ take e old → length old ≤ length c → Whole ps e c
whole_moved [] e old c whole same long = whole
whole_moved (p ∷ ps) e old c whole same long = whole_keeps (p ∷ ps) e c old same (omega (arith, whole_inside p ps e old whole, long)) whole

module _ (ps : List (List ℕ)) (e : ℕ) (old : List ℕ) (inside : e ≤ length old) (opened : e < length old → get_or old e 0 ≡ 1) (whole : Whole ps e old) (all : first_record (drop e old) ≡ None) where
  -- the record behind an open gate isn't whole
  short_there : e < length old → length (drop e old) ≤ 9 + size (drop e old)
  short_there lt = elim (cases_lt (9 + size (drop e old)) (length (drop e old))) [
    | inl fits ↦
        let first : get_or (drop e old) 0 0 ≡ 1 = get_or-drop e old 0 0 ∙ ap (λ (i : ℕ). get_or old i 0) (omega arith) ∙ opened lt in
        let some = some_open (drop e old) first fits in
        cc (some, all)
    | inr short ↦ omega (arith, short)
  ]

  none_torn : (c : List ℕ) → IsTorn old e 1 c → first_record (drop e c) ≡ None
  none_torn c torn = elim (cases_lt e (length old)) [
    | inl lt ↦
        let same_size : size (drop e c) ≡ size (drop e old) =
        ap (λ (l : List ℕ). number (take 8 l)) (drop-drop 1 e c ∙ torn.after ∙ sym (drop-drop 1 e old)) in
        let short = short_there lt in
        none_short (drop e c) (omega (arith, same_size, short, length-drop e c, length-drop e old, torn.no_longer, lt))
    | inr past ↦ none_short (drop e c) (omega (arith, length-drop e c, torn.no_longer, past))
  ]

  pub close_torn : (c : List ℕ) → IsTorn old e 1 c → records_of c ≡ ps
  close_torn c torn = whole_all ps e c (whole_moved ps e old c whole torn.before torn.no_shorter) (omega (arith, inside, torn.no_shorter)) (none_torn c torn)

  pub close_done : EndsAt ps e (changed (Written e (0 ∷ [])) old)
  close_done =
      let new = changed (Written e (0 ∷ [])) old in
      let torn = done_torn old e (0 ∷ []) inside in
      let front : length (take e old) ≡ e = omega (arith, length-take e old, inside) in
      let zero_there : get_or new e 0 ≡ 0 = ap (λ (l : List ℕ). get_or l e 0) (written_inside e (0 ∷ []) old inside) ∙ get_or_at (take e old) 0 (drop (e + 1) old) 0 e front in
      record {
        whole = whole_moved ps e old new whole torn.before torn.no_shorter;
        inside = omega (arith, ap length (written_inside e (0 ∷ []) old inside), length-append (take e old) (0 ∷ drop (e + 1) old), front);
        closed = λ is. omega (arith, zero_there, is);
      }
