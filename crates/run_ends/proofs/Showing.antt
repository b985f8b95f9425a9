-- What stands in the log stands in the loglets, at its position, where it isn't trimmed.
use Rattle.std.proofs.Common.{◌≡◌, refl, sym, ap, ◌∙◌, subst, inl, inr, ⊎_elim, ℕ, zero, suc, ◌+◌, ◌-◌, ◌<◌, ◌≤◌, true, false, List, [], ◌∷◌, Option, Some, None, is_some, map, length, slice_get, Contains, arith}
use Rattle.std.specs.Prelude.{filter_map}
use Rattle.std.specs.List.{cons_option, list_all}
use Rattle.std.specs.Option.{option_and_then}
use Rattle.std.proofs.lemmas.Bool.{and_parts, both_ways, cases_lt}
use Rattle.delos_types.specs.declared.entry.Entry.{Entry}
use Rattle.delos_types.specs.declared.chain.Chain.{Chain}
use Rattle.loglet_api.specs.View.{LogletView}
use Rattle.legal_journal.specs.Law.{Law}
use Rattle.legal_journal.specs.declared.events.Event.{Event}
use Rattle.legal_journal.specs.Journal.{IsLegal, log_at, state_of, tail_of, trim_of}
use Rattle.virtual_log.proofs.Agreeing.{holds_agree}
use Rattle.virtual_log.proofs.Holding.{holds_stands}
use Rattle.fabric_core.specs.Log.{has_no_gap, numbers, virtual_log, virtual_log_at, virtual_tail}
use Rattle.fabric_core.proofs.OneLoglet.{at}
use Rattle.engine_api.specs.declared.content.Content.{Content}
use Rattle.engine_api.specs.declared.content.Placed.{Placed}
use Rattle.engine_api.specs.Items.{contents_of, items_of, placed_at, placed_from, unpack}
use Rattle.engine_api.specs.Acted.{unpack_all}
use Rattle.turn_scopes.proofs.Bounds.{stands_below}
use Rattle.fitting_run.specs.Reports.{items_of as items_shown}
use Rattle.run_laws.specs.Ended.{SaysFrom}
use Rattle.run_laws.proofs.Members.{Among, among-left, among-right, contained-among, contains-among}
use Rattle.node_course.specs.Reporting.{StandsThere}
use Rattle.node_course.specs.Telling.{IsSaidBehind}
use Rattle.node_course.proofs.Stands.{says_one}
use Rattle.run_ends.proofs.Standing.{no_gap}

-- Items

placed_there : (pos sub : ℕ) (cs : List Content) (c : Content) → Among (map (λ p. p.content) (placed_from 0 sub cs)) c → (p : Placed) × Among (placed_from pos sub cs) p × (p.content ≡ c) × (p.place.pos ≡ pos)
placed_there pos sub [] c m = absurd m
placed_there pos sub (x ∷ cs) c (inl same) = (record { place = record { pos = pos; sub = sub }; content = x }, inl refl, same, refl)
placed_there pos sub (x ∷ cs) c (inr later) =
    let r = placed_there pos (sub + 1) cs c later in
    (r.0, inr r.1, r.2, r.3)

unpack_there : (pos : ℕ) (o : Option (List Content)) (c : Content) → Among (map (λ p. p.content) (placed_at 0 o)) c → (p : Placed) × Among (placed_at pos o) p × (p.content ≡ c) × (p.place.pos ≡ pos)
unpack_there pos None c m = absurd m
unpack_there pos (Some cs) c m = placed_there pos 0 cs c m

-- what an entry of a log says stands at the entry's position
says_there : (pos : ℕ) (log : List Entry) (i : ℕ) (e : Entry) (c : Content) → slice_get log i ≡ Some e → Among (map (λ p. p.content) (unpack 0 e)) c → (p : Placed) × Among (unpack_all pos log) p × (p.content ≡ c) × (p.place.pos ≡ pos + i)
says_there pos [] i e c get m = absurd (cc)
says_there pos (x ∷ log) zero e c get m =
    let same : x ≡ e = cc in
    let r = unpack_there pos (option_and_then contents_of (items_of x)) c (subst (λ y. Among (map (λ (p : Placed). p.content) (unpack 0 y)) c) (sym same) m) in
    let is = r.3 in
    (r.0, among-left (unpack pos x) (unpack_all (pos + 1) log) r.0 r.1, r.2, omega (arith, is))
says_there pos (x ∷ log) (suc i) e c get m =
    let r = says_there (pos + 1) log i e c get m in
    let is = r.3 in
    (r.0, among-right (unpack pos x) (unpack_all (pos + 1) log) r.0 r.1, r.2, omega (arith, is))

-- Entries

-- where no position lacks its entry, that at a position is as far behind the first
entry_there : (f : ℕ → Option Entry) (a n pos : ℕ) (e : Entry) → list_all (λ p. is_some (f p)) (numbers a n) ≡ true → a ≤ pos → pos < a + n → f pos ≡ Some e → slice_get (filter_map f (numbers a n)) (pos - a) ≡ Some e
entry_there f a zero pos e whole least most is = absurd (omega (arith, least, most))
entry_there f a (suc n) pos e whole least most is = by (λ more. entry_there f (a + 1) n pos e parts.1 more (omega (arith, most)) is) (f a) refl
  where
    parts : (is_some (f a) ≡ true) × (list_all (λ p. is_some (f p)) (numbers (a + 1) n) ≡ true)
    parts = and_parts (is_some (f a)) (list_all (λ p. is_some (f p)) (numbers (a + 1) n)) whole

    by : (a + 1 ≤ pos → slice_get (filter_map f (numbers (a + 1) n)) (pos - (a + 1)) ≡ Some e) → (o : Option Entry) → f a ≡ o → slice_get (cons_option o (filter_map f (numbers (a + 1) n))) (pos - a) ≡ Some e
    by rest None none = absurd (both_ways false refl (ap is_some (sym none) ∙ parts.0))
    by rest (Some x) some = ⊎_elim
        (λ (above : a < pos).
        let next : pos - a ≡ suc (pos - (a + 1)) = omega (arith, above) in
        subst (λ k. slice_get (x ∷ filter_map f (numbers (a + 1) n)) k ≡ Some e) (sym next) (rest (omega (arith, above))))
        (λ (upto : pos ≤ a).
        let first : pos - a ≡ 0 = omega (arith, upto) in
        let same : pos ≡ a = omega (arith, least, upto) in
        subst (λ k. slice_get (x ∷ filter_map f (numbers (a + 1) n)) k ≡ Some e) (sym first) (sym some ∙ ap f (sym same) ∙ is))
        (cases_lt a pos)

-- what the entry at a position says, the log has from there on
says_from : (chain : Chain) (cells : List LogletView) (pos from : ℕ) (e : Entry) (c : Content) → has_no_gap chain cells ≡ true → chain.trim ≤ pos → pos < virtual_tail chain cells → virtual_log_at chain cells pos ≡ Some e
    → Contains (map (λ p. p.content) (unpack 0 e)) c → from ≤ pos → SaysFrom chain cells from c
says_from chain cells pos from e c whole high below is says up =
    let there = entry_there (virtual_log_at chain cells) chain.trim (virtual_tail chain cells - chain.trim) pos e whole high (omega (arith, high, below)) is in
    let r = says_there chain.trim (virtual_log chain cells chain.trim (virtual_tail chain cells)) (pos - chain.trim) e c there (contained-among (map (λ (p : Placed). p.content) (unpack 0 e)) c says) in
    let at_pos = r.3 in
    record { placed = r.0; among = contains-among (items_shown chain cells) r.0 r.1; content_is = r.2; above = omega (arith, at_pos, high, up) }

module _ (law : Law) (journal : List Event) (legal : IsLegal law journal) where
  -- what is said of a position isn't said below it
  pub said_high : (n : ℕ) (c : Content) → IsSaidBehind journal n c → (r : StandsThere journal c) → n ≤ r.at
  said_high n c b r = ⊎_elim
      (λ (low : r.at < n).
      let x = at b.clean.log r.at (let within = b.clean.within in omega (arith, low, within)) in
      let same : x.element ≡ r.entry = sym (holds_agree law journal r.at r.entry x.element legal r.held (b.clean.front r.at x.element x.is)) in
      let q = says_one (unpack 0 r.entry) c r.says in
      absurd (b.behind r.at r.entry q.0 low (x.is ∙ ap {B = Option Entry} (λ y. Some y) same) q.1 q.2))
      (λ (high : n ≤ r.at). high)
      (cases_lt r.at n)

  module _ (low : (log : List Entry) (n : ℕ) → law.floor log n → n ≤ length log) (chain : Chain) (cells : List LogletView) (chain_is : chain ≡ (state_of journal).register.chain) (shows : (pos : ℕ) → trim_of (state_of journal) ≤ pos → virtual_log_at (state_of journal).register.chain cells pos ≡ log_at (state_of journal) pos) (tail : virtual_tail (state_of journal).register.chain cells ≡ tail_of (state_of journal)) where
    -- what the log tells at a position that isn't trimmed the loglets say
    pub shown_from : (c : Content) (pos from : ℕ) (e : Entry) → log_at (state_of journal) pos ≡ Some e → Contains (map (λ p. p.content) (unpack 0 e)) c → chain.trim ≤ pos → from ≤ pos → SaysFrom chain cells from c
    shown_from c pos from e is says high up =
        let untrimmed : trim_of (state_of journal) ≤ pos = subst (λ (k : Chain). k.trim ≤ pos) chain_is high in
        let below = stands_below law low journal pos e legal (inr is) in
        subst (λ k. SaysFrom k cells from c) (sym chain_is)
        (says_from (state_of journal).register.chain cells pos from e c (no_gap law journal legal cells shows tail) untrimmed (omega (arith, below, tail)) (shows pos untrimmed ∙ is) says up)

    pub stood_from : (c : Content) (from : ℕ) (r : StandsThere journal c) → chain.trim ≤ r.at → from ≤ r.at → SaysFrom chain cells from c
    stood_from c from r high up =
        let untrimmed : trim_of (state_of journal) ≤ r.at = subst (λ (k : Chain). k.trim ≤ r.at) chain_is high in
        shown_from c r.at from r.entry
        (⊎_elim (λ (trimmed : r.at < trim_of (state_of journal)). absurd (omega (arith, trimmed, untrimmed))) (λ (s : log_at (state_of journal) r.at ≡ Some r.entry). s) (holds_stands law journal r.at r.entry legal r.held))
        r.says high up
