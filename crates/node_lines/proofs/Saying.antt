-- What entries say that were appended: who told of itself that it left, or how much it needs no more.
use Rattle.std.proofs.Common.{◌≡◌, refl, sym, ◌∙◌, subst, ◌⊎◌, inl, inr, ⊎_elim, ℕ, ◌<◌, ◌≤◌, Bool, true, false, List, Contains, arith}
use Rattle.std.proofs.lemmas.Bool.{cases_lt}
use Rattle.delos_types.specs.declared.entry.Entry.{Entry}
use Rattle.legal_journal.specs.declared.events.Event.{Event}
use Rattle.journal_laws.specs.Changes.{appended}
use Rattle.engine_api.specs.declared.content.Content.{Content}
use Rattle.engine_api.specs.declared.content.Content.TheVariants as content
use Rattle.engine_api.specs.declared.content.Placed.{Placed}
use Rattle.engine_api.specs.Acted.{unpack_all}
use Rattle.engine_api.specs.Members.{has_left, least_position, position_of}
use Rattle.log_laws.proofs.Membership.{least_some, left_says, position_says, unpack_says}
use Rattle.virtual_log.specs.Holding.{Holds}
use Rattle.base_engine.specs.Reading.{IsFront}
use Rattle.node_lines.specs.Workers.{HasNotLeft, IsHeld, IsHeldReport, IsReported, IsSaid, ReportsUpTo}
use Rattle.node_lines.proofs.Cleaning.{at_index}

module _ (seen : List Event) (log : List Entry) (each : (e : Entry) → Contains log e → Contains (appended seen) e) where
  said : (p : Placed) (c : Content) → Contains (unpack_all 0 log) p → p.content ≡ c → IsSaid seen c
  said p c h is =
      let u = unpack_says log p h in
      record { entry = u.0; appended_is = each u.0 u.1; placed = u.2; among = u.3; is = u.4 ∙ is }

  pub left_said : (k : ℕ) → has_left (unpack_all 0 log) k ≡ true → IsSaid seen (content.Leave k)
  left_said k h = let p = left_says (unpack_all 0 log) k h in said p.0 (content.Leave k) p.1 p.2

  pub position_said : (k : ℕ) → (position_of (unpack_all 0 log) k ≡ 0) ⊎ IsSaid seen (content.Alive k (position_of (unpack_all 0 log) k))
  position_said k = ⊎_elim (λ (none : position_of (unpack_all 0 log) k ≡ 0). inl none)
      (λ (p : (p : Placed) × Contains (unpack_all 0 log) p × (p.content ≡ content.Alive k (position_of (unpack_all 0 log) k))). inr (said p.0 (content.Alive k (position_of (unpack_all 0 log) k)) p.1 p.2))
      (position_says (unpack_all 0 log) k)

  -- a node is a member as long as it said nothing else
  pub is_member : (k : ℕ) → HasNotLeft k seen → has_left (unpack_all 0 log) k ≡ false
  is_member k stays = by (has_left (unpack_all 0 log) k) (λ h. left_said k h)
    where
      by : (b : Bool) → (b ≡ true → IsSaid seen (content.Leave k)) → b ≡ false
      by true h = absurd (let s = h refl in stays s.entry s.placed s.appended_is s.among s.is)
      by false h = refl

  -- its position isn't above what it reported
  pub position_low : (k cursor : ℕ) → ReportsUpTo k cursor seen → position_of (unpack_all 0 log) k ≤ cursor
  position_low k cursor upto = ⊎_elim (λ (none : position_of (unpack_all 0 log) k ≡ 0). omega (arith, none))
      (λ (s : IsSaid seen (content.Alive k (position_of (unpack_all 0 log) k))). upto s.entry s.placed s.appended_is s.among (position_of (unpack_all 0 log) k) s.is)
      (position_said k)

  -- .. and the least position of a member some node reported, or it is none
  pub least_said : (nodes : ℕ) → IsReported seen (least_position nodes (unpack_all 0 log))
  least_said nodes = ⊎_elim
      (λ (some : 0 < least_position nodes (unpack_all 0 log)).
      let first = least_some nodes (unpack_all 0 log) some in
      ⊎_elim
      (λ (none : position_of (unpack_all 0 log) first.node ≡ 0). inl (first.is ∙ none))
      (λ (s : IsSaid seen (content.Alive first.node (position_of (unpack_all 0 log) first.node))). inr (first.node, subst (λ n. IsSaid seen (content.Alive first.node n)) (sym first.is) s))
      (position_said first.node))
      (λ (none : least_position nodes (unpack_all 0 log) ≤ 0). inl (omega (arith, none)))
      (cases_lt 0 (least_position nodes (unpack_all 0 log)))

-- What a front of the log says, the log holds

module _ (seen : List Event) (log : List Entry) (front : IsFront Holds seen log) where
  held_so : (p : Placed) (c : Content) → Contains (unpack_all 0 log) p → p.content ≡ c → IsHeld seen c
  held_so p c h is =
      let u = unpack_says log p h in
      let at = u.1 in
      record { at = at.0; entry = u.0; held = front at.0 u.0 (at_index log at.0 u.0 at.1 at.2); placed = u.2; among = u.3; is = u.4 ∙ is }

  -- of the least position of a member the log holds a report
  pub least_held : (nodes : ℕ) → IsHeldReport seen (least_position nodes (unpack_all 0 log))
  least_held nodes = ⊎_elim
      (λ (some : 0 < least_position nodes (unpack_all 0 log)).
      let first = least_some nodes (unpack_all 0 log) some in
      ⊎_elim
      (λ (none : position_of (unpack_all 0 log) first.node ≡ 0). inl (first.is ∙ none))
      (λ (p : (p : Placed) × Contains (unpack_all 0 log) p × (p.content ≡ content.Alive first.node (position_of (unpack_all 0 log) first.node))).
      inr (first.node, subst (λ n. IsHeld seen (content.Alive first.node n)) (sym first.is) (held_so p.0 (content.Alive first.node (position_of (unpack_all 0 log) first.node)) p.1 p.2)))
      (position_says (unpack_all 0 log) first.node))
      (λ (none : least_position nodes (unpack_all 0 log) ≤ 0). inl (omega (arith, none)))
      (cases_lt 0 (least_position nodes (unpack_all 0 log)))
