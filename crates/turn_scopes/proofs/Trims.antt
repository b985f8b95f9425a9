-- A node's reports bound each trim.
use Rattle.std.proofs.Common.{◌≡◌, refl, ap, ◌∙◌, ⊎_elim, ℕ, zero, suc, ◌<◌, ◌≤◌, Bool, true, false, List, [], ◌∷◌, Contains, Some, arith}
use Rattle.std.specs.Prelude.{slice_get, slice_index_or, length}
use Rattle.delos_types.specs.declared.entry.Entry.{Entry}
use Rattle.legal_journal.specs.Law.{Law}
use Rattle.legal_journal.specs.declared.events.Event.{Event}
use Rattle.legal_journal.specs.Journal.{IsLegal, IsFree, state_of}
use Rattle.engine_api.specs.declared.content.Content.TheVariants as content
use Rattle.engine_api.specs.declared.content.Placed.{Placed}
use Rattle.engine_api.specs.Acted.{unpack_all}
use Rattle.engine_api.specs.Members.{has_left, position_of}
use Rattle.log_laws.proofs.Membership.{left_says, position_says, unpack_says, least_upto}
use Rattle.turn_scopes.specs.Floors.{FloorIs}
use Rattle.journal_laws.proofs.Changes.{appended_may, shown_appended}
use Rattle.turn_scopes.specs.Beside.{OthersTrim}
use Rattle.turn_scopes.specs.Telling.{UpTo, TellsUpTo}

at_index : (es : List Entry) (k : ℕ) (e : Entry) → k < length es → slice_get es k ≡ Some (slice_index_or es k e)
at_index [] k e h = absurd (omega (arith, h))
at_index (x ∷ es) zero e h = refl
at_index (x ∷ es) (suc k) e h = at_index es k e (omega (arith, h))

module _ (law : Law) (sends : ℕ → Entry → Type 0) (nodes node m : ℕ) (is : FloorIs law.floor nodes) (least : 1 ≤ node) (most : node ≤ nodes) (tells : TellsUpTo sends node m) where
  -- the scope that trims up to m
  abbrev scope : Law
  scope = record law { may = sends; floor = UpTo law.floor m }

  module _ (seen : List Event) (n : ℕ) (legal : IsLegal scope seen) (free : IsFree (state_of seen).shown law.floor n) where
    -- what a legal journal shows was somebody's to append
    sent : (e : Entry) → Contains free.log e → (user : ℕ) × sends user e
    sent e h = appended_may scope seen e legal
        (shown_appended scope seen h.0 e legal (free.shows h.0 h.1 ∙ (at_index free.log h.0 e h.1 ∙ ap (λ (x : Entry). Some x) h.2)))

    stays : has_left (unpack_all 0 free.log) node ≡ false
    stays = by (has_left (unpack_all 0 free.log) node) (λ h. left_says (unpack_all 0 free.log) node h)
      where
        by : (b : Bool) → (b ≡ true → (p : Placed) × Contains (unpack_all 0 free.log) p × (p.content ≡ content.Leave node)) → b ≡ false
        by true h = absurd (
            let p = h refl in
            let u = unpack_says free.log p.0 p.1 in
            let s = sent u.0 u.1 in
            tells.stays s.0 u.0 u.2 s.1 u.3 (u.4 ∙ p.2))
        by false h = refl

    low : position_of (unpack_all 0 free.log) node ≤ m
    low = ⊎_elim (λ (none : position_of (unpack_all 0 free.log) node ≡ 0). omega (arith, none))
        (λ (p : (p : Placed) × Contains (unpack_all 0 free.log) p × (p.content ≡ content.Alive node (position_of (unpack_all 0 free.log) node))).
        let u = unpack_says free.log p.0 p.1 in
        let s = sent u.0 u.1 in
        tells.upto s.0 (position_of (unpack_all 0 free.log) node) u.0 u.2 s.1 u.3 (u.4 ∙ p.2))
        (position_says (unpack_all 0 free.log) node)

    within : n ≤ m
    within =
        let f = (is.only free.log n free.free).least in
        let p = least_upto nodes node (unpack_all 0 free.log) least most stays in
        let l = low in
        omega (arith, f, p, l)

  pub others_trim : (beside : ℕ → Type 0) → OthersTrim beside law scope
  others_trim beside = λ user b seen n legal free. record { log = free.log; shows = free.shows; free = (free.free, within seen n legal free) }
