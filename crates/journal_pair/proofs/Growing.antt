-- What a crash leaves while a record is added to the selected area, or the gate behind its records is closed.
use Rattle.std.proofs.Common.{◌≡◌, inl, inr, ℕ, ◌+◌, ◌^◌, ◌<◌, ◌≤◌, ◌==◌, Bool, None, List, [], ◌∷◌, ◌++◌, length, get_or, take, drop, refl, sym, ◌∙◌, ap, subst, arith, length-drop}
use Rattle.std.proofs.lemmas.List.{drop-drop, get_or-drop}
use Rattle.disk_model.specs.Torn.{IsTorn}
use Rattle.disk_model.specs.Disk.{Timeline, Written, changed, content, at_rest}
use Rattle.disk_model.specs.Crash.{AnyCrash}
use Rattle.disk_model.specs.CrashLaws.{joined, weaker}
use Rattle.disk_model.proofs.Tear.{done_torn}
use Rattle.journal_core.specs.Records.{first_record}
use Rattle.journal_core.specs.Layout.{EndsAt, framed}
use Rattle.journal_core.proofs.Adding.{FirstDone, first_done, second_done, gate_torn}
use Rattle.journal_core.proofs.Closing.{close_torn, close_done}
use Rattle.journal_pair.specs.declared.area.Area.{Area}
use Rattle.journal_pair.specs.Records.{records_of}
use Rattle.journal_pair.specs.Layout.{Stands, Selects, IsOpenAt, BeforeOrWith}
use Rattle.journal_pair.proofs.Areas.{base_same, heads, selects_records, stands_selects, stands_records, stands_on, stands_beside, torn_behind, changed_behind}
use Rattle.journal_core.proofs.Walk.{same_at}

-- the same header, on a disk that is no shorter
pub selects_on : (second : Bool) (base : ℕ) (old c : List ℕ) → Selects second base old → take 18 c ≡ take 18 old → length old ≤ length c → Selects second base c
selects_on second base old c sel same long = record {
  ready = same_at 18 0 c old same (omega arith) ∙ sel.ready;
  selected = ap (λ (n : ℕ). n == 1) (same_at 18 1 c old same (omega arith)) ∙ sel.selected;
  base_is = base_same second c old same ∙ sel.base_is;
  behind = sel.behind;
  inside = omega (arith, sel.inside, long);
}

-- ---- a record is added

module _ (old mid : Timeline) (payload : List ℕ) (short : length payload < 2 ^ 64) (ps : List (List ℕ)) (a : Area) (body : List ℕ) (stands : Stands ps a (content old.now)) (is : body ≡ framed payload) where
  there : a.base + a.len + 1 ≡ a.base + (a.len + 1)
  there = omega arith

  le : a.base + (a.len + 1) ≤ length (content old.now)
  le = omega (arith, stands.lies.ends.inside, length-drop a.base (content old.now))

  pub first_crash : AnyCrash old mid (IsTorn (content old.now) (a.base + a.len + 1) (length body)) → AnyCrash old mid (BeforeOrWith ps payload)
  first_crash run = weaker old mid _ (BeforeOrWith ps payload) (λ c torn.
      inl (stands_records ps a c (stands_beside ps a (a.base + a.len + 1) (length body) (content old.now) c stands (inr there) torn))) run

  module _ (synced : mid.now ≡ at_rest (changed (Written (a.base + a.len + 1) body) (content old.now))) where
    mid_is : content mid.now ≡ changed (Written (a.base + (a.len + 1)) body) (content old.now)
    mid_is = ap content synced ∙ ap (λ (i : ℕ). changed (Written i body) (content old.now)) there

    pub mid_stands : Stands ps a (content mid.now)
    mid_stands = subst (Stands ps a) (sym mid_is) (stands_beside ps a (a.base + (a.len + 1)) (length body) (content old.now) (changed (Written (a.base + (a.len + 1)) body) (content old.now)) stands (inr refl) (done_torn (content old.now) (a.base + (a.len + 1)) body le))

    mid_first : FirstDone payload ps a.len (drop a.base (content mid.now))
    mid_first =
        let moved : drop a.base (content mid.now) ≡ changed (Written (a.len + 1) body) (drop a.base (content old.now)) = ap (λ (l : List ℕ). drop a.base l) mid_is ∙ changed_behind a.base (a.len + 1) body (content old.now) le in
        subst (FirstDone payload ps a.len) (sym moved) (first_done payload ps a.len (drop a.base (content old.now)) body stands.lies.ends is)

    behind_header : 18 ≤ a.base + a.len
    behind_header = omega (arith, stands.lies.behind)

    inside : a.base + a.len ≤ length (content mid.now)
    inside = omega (arith, mid_stands.lies.ends.inside, length-drop a.base (content mid.now))

    gate_leaves : (c : List ℕ) → IsTorn (content mid.now) (a.base + a.len) 1 c → BeforeOrWith ps payload c
    gate_leaves c torn =
        let sel = selects_on a.second a.base (content mid.now) c (stands_selects ps a (content mid.now) mid_stands) (heads (a.base + a.len) c (content mid.now) torn.before behind_header) torn.no_shorter in
        let is_area = selects_records a.second a.base c sel in
        elim (gate_torn payload short ps a.len mid_first.tail (drop a.base (content mid.now)) (drop a.base c) mid_first.ends mid_first.rest (torn_behind a.base a.len 1 (content mid.now) c torn)) [
          | inl before ↦ inl (is_area ∙ before)
          | inr with ↦ inr (is_area ∙ with)
        ]

    pub both_crash : (new : Timeline) → AnyCrash old mid (IsTorn (content old.now) (a.base + a.len + 1) (length body)) → AnyCrash mid new (IsTorn (content mid.now) (a.base + a.len) 1) → AnyCrash old new (BeforeOrWith ps payload)
    both_crash new front back = joined old mid new (BeforeOrWith ps payload) (first_crash front) (weaker mid new _ (BeforeOrWith ps payload) gate_leaves back)

    pub both_done : (new : Timeline) (n : ℕ) → n ≡ a.len + (9 + length payload) → new.now ≡ at_rest (changed (Written (a.base + a.len) (1 ∷ [])) (content mid.now)) → Stands (ps ++ payload ∷ []) (record { second = a.second; base = a.base; len = n }) (content new.now)
    both_done new n long done =
        let last = changed (Written (a.base + a.len) (1 ∷ [])) (content mid.now) in
        let ends : EndsAt (ps ++ payload ∷ []) (a.len + (9 + length payload)) (drop a.base last) =
        subst (EndsAt (ps ++ payload ∷ []) (a.len + (9 + length payload))) (sym (changed_behind a.base a.len (1 ∷ []) (content mid.now) inside)) (second_done payload ps a.len (drop a.base (content mid.now)) short mid_first) in
        let grown : Stands (ps ++ payload ∷ []) (record { second = a.second; base = a.base; len = n }) last =
        stands_on ps (ps ++ payload ∷ []) a (record { second = a.second; base = a.base; len = n }) (content mid.now) last mid_stands refl refl
        (heads (a.base + a.len) last (content mid.now) (done_torn (content mid.now) (a.base + a.len) (1 ∷ []) inside).before behind_header)
        (subst (λ (k : ℕ). EndsAt (ps ++ payload ∷ []) k (drop a.base last)) (sym long) ends) in
        subst (Stands (ps ++ payload ∷ []) (record { second = a.second; base = a.base; len = n })) (sym (ap content done)) grown

-- ---- the gate behind the records is closed

module _ (ps : List (List ℕ)) (a : Area) (old : List ℕ) (open_at : IsOpenAt ps a old) where
  behind_it : 18 ≤ a.base + a.len
  behind_it = omega (arith, open_at.selects.behind)

  within : a.len ≤ length (drop a.base old)
  within = omega (arith, open_at.inside, length-drop a.base old)

  opened : a.len < length (drop a.base old) → get_or (drop a.base old) a.len 0 ≡ 1
  opened lt = get_or-drop a.base old a.len 0 ∙ open_at.opened (omega (arith, lt, length-drop a.base old))

  all : first_record (drop a.len (drop a.base old)) ≡ None
  all = ap first_record (drop-drop a.len a.base old) ∙ open_at.all

  pub closing_torn : (c : List ℕ) → IsTorn old (a.base + a.len) 1 c → records_of c ≡ ps
  closing_torn c torn =
      selects_records a.second a.base c (selects_on a.second a.base old c open_at.selects (heads (a.base + a.len) c old torn.before behind_it) torn.no_shorter)
      ∙ close_torn ps a.len (drop a.base old) within opened open_at.whole all (drop a.base c) (torn_behind a.base a.len 1 old c torn)

  pub closing_done : Stands ps a (changed (Written (a.base + a.len) (0 ∷ [])) old)
  closing_done =
      let new = changed (Written (a.base + a.len) (0 ∷ [])) old in
      let torn = done_torn old (a.base + a.len) (0 ∷ []) open_at.inside in
      let sel = selects_on a.second a.base old new open_at.selects (heads (a.base + a.len) new old torn.before behind_it) torn.no_shorter in
      record {
        ready = sel.ready;
        selected = sel.selected;
        lies = record {
          base = sel.base_is;
          behind = sel.behind;
          ends = subst (EndsAt ps a.len) (sym (changed_behind a.base a.len (0 ∷ []) old open_at.inside)) (close_done ps a.len (drop a.base old) within opened open_at.whole all);
        };
      }
