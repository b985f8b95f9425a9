-- Where a node trimmed the log, some node had reported no more than that, and hadn't left.
use Rattle.std.proofs.Common.{◌≡◌, sym, ap, ◌∙◌, subst, ℕ, ◌<◌, ◌≤◌, true, false, List, ◌++◌, length, Option, arith}
use Rattle.delos_types.specs.declared.entry.Entry.{Entry}
use Rattle.legal_journal.specs.Law.{Law}
use Rattle.legal_journal.specs.declared.events.Event.{Event}
use Rattle.legal_journal.specs.Journal.{IsLegal, state_of, tail_of}
use Rattle.virtual_log.specs.Holding.{Holds}
use Rattle.engine_api.specs.declared.content.Content.{Content}
use Rattle.engine_api.specs.declared.content.Content.TheVariants as content
use Rattle.engine_api.specs.Acted.{unpack_all}
use Rattle.engine_api.specs.Members.{has_left, least_position, position_of}
use Rattle.base_engine.specs.Reading.{IsFront}
use Rattle.log_laws.specs.Least.{IsLeast}
use Rattle.log_laws.proofs.Membership.{least_at, says_left, says_position}
use Rattle.script_text.specs.declared.asks.NamedLine.{NamedLine}
use Rattle.node_lines.specs.declared.lines.Looked.{Looked}
use Rattle.node_lines.specs.declared.lines.Looked.TheVariants as looked
use Rattle.node_lines.specs.Workers.{HasNotLeft}
use Rattle.node_lines.proofs.Cleaning.{front_appended}
use Rattle.node_lines.proofs.Saying.{is_member}
use Rattle.node_course.specs.Played.{Came}
use Rattle.node_course.specs.Reporting.{StandsThere}
use Rattle.node_course.specs.Telling.{HasToldSo, IsLowest, SaysBelow, StaysBelow}
use Rattle.node_course.proofs.Stands.{said_in}

module _ (law : Law) (low : (log : List Entry) (n : ℕ) → law.floor log n → n ≤ length log) (old new more : List Event) (seen : new ≡ old ++ more) (legal : IsLegal law new) (log : List Entry) (front : IsFront Holds new log) (reach : tail_of (state_of old) ≤ length log) where
  -- what a line of a member came to stays below its position
  below : (node : ℕ) (look : Looked) (trim : ℕ) → has_left (unpack_all 0 log) node ≡ false → ((n : ℕ) → n ≤ position_of (unpack_all 0 log) node → n ≤ trim) → HasToldSo old node look → StaysBelow trim look
  below node (looked.Found after found) trim stays upto h = tt
  below node (looked.Kept k) trim stays upto h = tt
  below node (looked.Failed k) trim stays upto h = tt
  below node (looked.Extended x) trim stays upto h = tt
  below node (looked.Reported n) trim stays upto h =
      let p = said_in law old new more seen legal low log front reach (content.Alive node n) h in
      upto n (says_position (unpack_all 0 log) p.0 node n p.1 p.2)
  below node looked.Left trim stays upto h =
      let p = said_in law old new more seen legal low log front reach (content.Leave node) h in
      let gone = says_left (unpack_all 0 log) p.0 node p.1 p.2 in
      let clash : true ≡ false = sym gone ∙ stays in
      cc
  below node (looked.Trimmed t) trim stays upto h = tt

  -- so it is of what stood in it then
  stood_low : (node trim : ℕ) → has_left (unpack_all 0 log) node ≡ false → ((k : ℕ) → k ≤ position_of (unpack_all 0 log) node → k ≤ trim) → (x : Content) → StandsThere old x → SaysBelow trim node x
  stood_low node trim stays upto (content.Session s r k) h = tt
  stood_low node trim stays upto (content.Alive other k) h = λ same.
      let p = said_in law old new more seen legal low log front reach (content.Alive other k) h in
      upto k (says_position (unpack_all 0 log) p.0 node k p.1 (p.2 ∙ ap (λ m. content.Alive m k) same))
  stood_low node trim stays upto (content.Leave other) h = λ same.
      let p = said_in law old new more seen legal low log front reach (content.Leave other) h in
      let gone = says_left (unpack_all 0 log) p.0 node p.1 (p.2 ∙ ap (λ m. content.Leave m) same) in
      let clash : true ≡ false = sym gone ∙ stays in
      cc
  stood_low node trim stays upto (content.Trim k) h = tt

  -- some node is the lowest by this log, and so by what stood in the log at any moment before
  pub lowest_is : (lines : List NamedLine) (looks' : List (Option Looked)) (nodes n j trim : ℕ) → 1 ≤ n → n ≤ nodes → HasNotLeft n new → least_position nodes (unpack_all 0 log) ≤ trim
      → ((i : ℕ) (m : NamedLine) (look : Looked) → Came lines looks' n i m look → i < j → HasToldSo old n look)
      → IsLowest lines looks' nodes n old j trim
  lowest_is lines looks' nodes n j trim least most stays reached stand = record {
    node = first.node;
    least = first.low;
    most = first.high;
    stood = λ x there. stood_low first.node trim first.stays (λ k upto. omega (arith, upto, first.is, reached)) x there;
    own = λ same i m look come before. below first.node look trim first.stays (λ k upto. omega (arith, upto, first.is, reached)) (subst (λ k. HasToldSo old k look) (sym same) (stand i m look come before));
  }
    where
      first : IsLeast nodes (unpack_all 0 log)
      first = least_at nodes n (unpack_all 0 log) least most (is_member new log (front_appended law new log legal front) n stays)
