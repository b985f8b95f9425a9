-- What nodes reported, and that they left, once the run has ended.
use Rattle.std.proofs.Common.{◌≡◌, refl, ap, ◌∙◌, ℕ, ◌+◌, ◌≤◌, List, Option, Some, None, length, arith}
use Rattle.delos_types.specs.declared.entry.Entry.{Entry}
use Rattle.legal_journal.specs.Law.{Law}
use Rattle.legal_journal.specs.declared.events.Event.{Event}
use Rattle.legal_journal.specs.Journal.{IsLegal}
use Rattle.virtual_log.specs.Holding.{Holds}
use Rattle.base_engine.specs.Reading.{IsFront}
use Rattle.engine_api.specs.Members.{clean_position}
use Rattle.script_text.specs.declared.line.Admin.TheVariants.{Extend, Alive, Retire, Trim}
use Rattle.script_text.specs.declared.asks.Asks.{Asks}
use Rattle.script_text.specs.declared.asks.Asks.TheVariants as asks
use Rattle.row_text.specs.declared.row.Outcome.{Outcome}
use Rattle.row_text.specs.declared.row.Outcome.TheVariants as out
use Rattle.node_lines.specs.declared.desk.Desk.{Desk}
use Rattle.node_lines.specs.declared.lines.Looked.{Looked}
use Rattle.node_lines.specs.declared.lines.Looked.TheVariants as looked
use Rattle.run_laws.specs.Ended.{HasReported}
use Rattle.node_course.specs.Reporting.{IsReport, ReportedSo}
use Rattle.node_course.specs.Leaving.{LeftSo}
use Rattle.run_ends.specs.Rows.{Tells}
use Rattle.run_ends.proofs.Placing.{fronts_agree}

-- A report

-- a row that tells one answers a line that asked for it, and came to it
pub alive_is : (d : Option Desk) (look : Option Looked) (a : Asks) (o : Outcome) (clean : ℕ) → Tells d look a o → o ≡ out.Alive clean → (a ≡ asks.Admin Alive) × (look ≡ Some (looked.Reported clean))
alive_is (Some d) look (asks.Logged s r command) (out.Placed place reply late) clean t e = absurd (cc)
alive_is (Some d) look (asks.Logged s r command) (out.Open cause) clean t e = absurd (cc)
alive_is (Some d) look (asks.Look s query) (out.Read after answer) clean t e = absurd (cc)
alive_is (Some d) look (asks.Look s query) (out.Open cause) clean t e = absurd (cc)
alive_is None look (asks.Admin Extend) (out.Extended version start) clean t e = absurd (cc)
alive_is None look (asks.Admin Extend) (out.Moved version) clean t e = absurd (cc)
alive_is None look (asks.Admin Extend) out.NoSpare clean t e = absurd (cc)
alive_is None look (asks.Admin Extend) (out.Open cause) clean t e = absurd (cc)
alive_is None look (asks.Admin Alive) (out.Alive d) clean t e = let same : d ≡ clean = cc in (refl, t ∙ ap (λ n. Some (looked.Reported n)) same)
alive_is None look (asks.Admin Alive) (out.Open cause) clean t e = absurd (cc)
alive_is None look (asks.Admin Retire) out.Retired clean t e = absurd (cc)
alive_is None look (asks.Admin Retire) (out.Open cause) clean t e = absurd (cc)
alive_is None look (asks.Admin Trim) (out.Trimmed trim) clean t e = absurd (cc)
alive_is None look (asks.Admin Trim) (out.Open cause) clean t e = absurd (cc)
alive_is d look a o clean t e = absurd t

-- what is within what a node has applied is within what has been applied further
pub report_within : (journal : List Event) (tail cursor cursor' node : ℕ) (look : Looked) → cursor ≤ cursor' → ReportedSo journal tail cursor node look → ReportedSo journal tail cursor' node look
report_within journal tail cursor cursor' node (looked.Found after found) up h = tt
report_within journal tail cursor cursor' node (looked.Kept cause) up h = tt
report_within journal tail cursor cursor' node (looked.Failed cause) up h = tt
report_within journal tail cursor cursor' node (looked.Extended x) up h = tt
report_within journal tail cursor cursor' node (looked.Reported position) up h = record {
  log = h.log;
  front = h.front;
  from = h.from;
  within = omega (arith, h.within, up);
  clean = h.clean;
  stands = h.stands;
}
report_within journal tail cursor cursor' node looked.Left up h = tt
report_within journal tail cursor cursor' node (looked.Trimmed trim) up h = tt

-- it tells of a front of the log as far as it was played
pub has_reported : (law : Law) (journal : List Event) (log : List Entry) (tails : ℕ → ℕ) (phase node clean : ℕ) → IsLegal law journal → IsFront Holds journal log → IsReport journal (tails phase) (length log) node clean
    → clean ≤ tails (phase + 1) → HasReported log tails phase clean
has_reported law journal log tails phase node clean legal front r by = record {
  upto = length r.log;
  within = r.within;
  from = r.from;
  by = by;
  is = r.clean ∙ ap clean_position (fronts_agree law journal r.log log legal r.front front r.within);
}

-- A leave

-- a row that tells one answers a line that asked for it, and came to it
pub retired_is : (d : Option Desk) (look : Option Looked) (a : Asks) (o : Outcome) → Tells d look a o → o ≡ out.Retired → (a ≡ asks.Admin Retire) × (look ≡ Some looked.Left)
retired_is (Some d) look (asks.Logged s r command) (out.Placed place reply late) t e = absurd (cc)
retired_is (Some d) look (asks.Logged s r command) (out.Open cause) t e = absurd (cc)
retired_is (Some d) look (asks.Look s query) (out.Read after answer) t e = absurd (cc)
retired_is (Some d) look (asks.Look s query) (out.Open cause) t e = absurd (cc)
retired_is None look (asks.Admin Extend) (out.Extended version start) t e = absurd (cc)
retired_is None look (asks.Admin Extend) (out.Moved version) t e = absurd (cc)
retired_is None look (asks.Admin Extend) out.NoSpare t e = absurd (cc)
retired_is None look (asks.Admin Extend) (out.Open cause) t e = absurd (cc)
retired_is None look (asks.Admin Alive) (out.Alive clean) t e = absurd (cc)
retired_is None look (asks.Admin Alive) (out.Open cause) t e = absurd (cc)
retired_is None look (asks.Admin Retire) out.Retired t e = (refl, t)
retired_is None look (asks.Admin Retire) (out.Open cause) t e = absurd (cc)
retired_is None look (asks.Admin Trim) (out.Trimmed trim) t e = absurd (cc)
retired_is None look (asks.Admin Trim) (out.Open cause) t e = absurd (cc)
retired_is d look a o t e = absurd t

-- what is within what a node has applied is within what has been applied further
pub leave_within : (journal : List Event) (cursor cursor' node : ℕ) (look : Looked) → cursor ≤ cursor' → LeftSo journal cursor node look → LeftSo journal cursor' node look
leave_within journal cursor cursor' node (looked.Found after found) up h = tt
leave_within journal cursor cursor' node (looked.Kept cause) up h = tt
leave_within journal cursor cursor' node (looked.Failed cause) up h = tt
leave_within journal cursor cursor' node (looked.Extended x) up h = tt
leave_within journal cursor cursor' node (looked.Reported position) up h = tt
leave_within journal cursor cursor' node looked.Left up h = record { stands = h.stands; upto = h.upto; low = omega (arith, h.low, up); within = h.within }
leave_within journal cursor cursor' node (looked.Trimmed trim) up h = tt
