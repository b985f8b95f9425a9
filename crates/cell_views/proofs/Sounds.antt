-- What a lawful cell shows is sound.
use Rattle.std.proofs.Common.{◌≡◌, ℕ, ◌+◌, ◌*◌, ◌^◌, ◌<◌, ◌≤◌, Bool, true, false, refl, sym, ◌∙◌, ap, subst, arith, length, Option, Some, None, inl, inr, length-drop}
use Rattle.std.specs.Prelude.{◌⊎◌, if◌then◌else◌, not}
use Rattle.std.proofs.lemmas.Bool.{false≢true, cases_lt}
use Rattle.std.proofs.lemmas.Option.{none-some, same_Some}
use Rattle.std.proofs.lemmas.List.{get_or_past}
use Rattle.std.proofs.lemmas.List.Sums.{count_by-le-length}
use Rattle.loglet_api.specs.View.{Operation as OpenOperation, size_of}
use Rattle.loglet_api.specs.Sound.{IsSound, IsSoundOperation}
use Rattle.quorum_cell.specs.declared.operation.Outcome.{Outcome}
use Rattle.majority_rule.specs.Majority.{is_majority}
use Rattle.quorum_cell.specs.Servers.{is_sealed}
use Rattle.quorum_cell.specs.Cells.{Cell, Operation, server, server_before, operation, no_operation, is_shut, is_seal, is_lack}
use Rattle.quorum_cell.specs.Law.{QuorumLaw}
use Rattle.majority_rule.proofs.Majorities.{majority_stays}
use Rattle.quorum_cell.proofs.Lists.{slice_get_drop}
use Rattle.quorum_cell.proofs.Laters.{still_sealed}
use Rattle.quorum_cell.proofs.Steps.{cut_within}
use Rattle.quorum_cell.proofs.Votes.{open_below_sealed}
use Rattle.quorum_cell.proofs.Conclusions.{capped_is_shut, long_within}
use Rattle.quorum_cell.proofs.Seals.{shut_has_seal}
use Rattle.quorum_cell.specs.Law.{IsLawful}
use Rattle.cell_views.specs.Views.{Manner, IsManner, IsSpelled, cell_view, operation_view, left_of}
use Rattle.majority_rule.proofs.Majorities.{votes_within}
use Rattle.cell_views.proofs.Opened.{opened, opened_is}

-- the size that clients see is the number of entries
pub size_is : (m : Manner) (c : Cell) → IsLawful c → size_of (cell_view m c) ≡ length c.entries
size_is m c law = omega (arith, cut_within c law.law.quorum, length-drop c.cut c.entries)

-- an operation of a ticket that is open
pub open_known : (c : Cell) (t : ℕ) → (operation c t).closed ≡ false → t < length c.operations
open_known c t h = by (cases_lt t (length c.operations))
  where
    by : ((t < length c.operations) ⊎ (length c.operations ≤ t)) → t < length c.operations
    by (inl l) = l
    by (inr l) = absurd (false≢true (sym h ∙ ap (λ (o : Operation). o.closed) (get_or_past c.operations t no_operation l)))

left_first : (d : Option Outcome) (left : ℕ × ℕ) (most : ℕ) → left.0 ≤ most → (left_of d left).0 ≤ most
left_first None left most h = h
left_first (Some a) left most h = omega arith

left_second : (d : Option Outcome) (left : ℕ × ℕ) (most : ℕ) → left.1 < most → (left_of d left).1 < most
left_second None left most h = h
left_second (Some a) left most h = omega (arith, h)

-- where more than half were sealed as an operation began, more than half are
shut_since : (c : Cell) → QuorumLaw c → (t : ℕ) → is_majority (length c.servers) (λ i. is_sealed (server_before (operation c t) i)) ≡ true → is_shut c ≡ true
shut_since c law t h = majority_stays (length c.servers) (λ i. is_sealed (server_before (operation c t) i)) (λ i. is_sealed (server c i)) (λ i _ e. still_sealed _ _ ((law.operations t).since i) e) h

operation_sound : (m : Manner) (c : Cell) → IsManner (length c.servers) m → IsLawful c → (t : ℕ) → (operation c t).closed ≡ false → IsSoundOperation (cell_view m c) t (operation_view (length c.servers) (operation c t) (m.left t))
operation_sound m c manner law t is_open = record {
  ticket = open_known c t is_open;
  rounds = left_first (operation c t).decided (m.left t) m.rounds (manner.first t);
  steps = left_second (operation c t).decided (m.left t) (2 ^ 53 * length c.servers) (manner.second t);
  size = omega (arith, (law.law.quorum.operations t).size, size_is m c law);
  reach = (law.law.quorum.operations t).reached;
  firm = (law.law.quorum.operations t).firm;
  shut = shut_since c law.law.quorum t;
  faults = omega (arith, (law.law.quorum.operations t).faults);
}

opened_sound : (m : Manner) (c : Cell) → IsManner (length c.servers) m → IsLawful c → (t : ℕ) (o : OpenOperation) → opened (length c.servers) m.left t (operation c t) ≡ Some o → IsSoundOperation (cell_view m c) t o
opened_sound m c manner law t o z = by (operation c t).closed refl z
  where
    by : (b : Bool) → (operation c t).closed ≡ b → (if b then None else Some (operation_view (length c.servers) (operation c t) (m.left t))) ≡ Some o → IsSoundOperation (cell_view m c) t o
    by true e y = absurd (none-some o y)
    by false e y = subst (IsSoundOperation (cell_view m c) t) (same_Some _ _ y) (operation_sound m c manner law t e)

pub view_sound : (m : Manner) (c : Cell) → IsManner (length c.servers) m → IsLawful c → IsSpelled c → IsSound (cell_view m c)
view_sound m c manner law spelled =
    let q : QuorumLaw c = law.law.quorum in
    record {
      shape = record {
        servers = law.shape.servers.1;
        quorum = (omega arith, omega (arith, law.shape.servers.0));
        room = law.shape.room;
        rounds = manner.rounds;
        limit = law.shape.limit;
      };
      cut = q.cut;
      reach = q.ordered;
      firm = omega (arith, long_within c q c.firm q.firm, size_is m c law);
      size = omega (arith, size_is m c law, q.fits);
      cap = λ t z. (capped_is_shut c t (q.capped t z), (open_below_sealed c c.reach t q.reached (q.capped t z), q.cap_shown t z));
      sealing = λ shut. shut_has_seal c law.law shut;
      begun = q.tickets;
      seals = count_by-le-length (λ (o : Operation). is_seal o.aim) c.operations;
      lacks = count_by-le-length (λ (o : Operation). is_lack o.given) c.operations;
      down = votes_within (length c.servers) (λ i. not (server c i).up);
      faults = omega arith;
      spelled = λ i e z. spelled (c.cut + i) e (sym (slice_get_drop c.cut c.entries i) ∙ z);
      operations = λ t o z. opened_sound m c manner law t o (sym (opened_is (length c.servers) m.left t c.operations) ∙ z);
    }
