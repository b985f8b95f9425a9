-- A row that tells what a read found.
use Rattle.std.proofs.Common.{◌≡◌, refl, ap, ◌∙◌, ℕ, Option, Some, None}
use Rattle.table_core.specs.declared.command.Query.{Query}
use Rattle.table_core.specs.declared.command.Found.{Found}
use Rattle.script_text.specs.declared.line.Admin.TheVariants.{Extend, Alive, Retire, Trim}
use Rattle.script_text.specs.declared.line.Session.{Session}
use Rattle.script_text.specs.declared.asks.Asks.{Asks}
use Rattle.script_text.specs.declared.asks.Asks.TheVariants as asks
use Rattle.row_text.specs.declared.row.Outcome.{Outcome}
use Rattle.row_text.specs.declared.row.Outcome.TheVariants as out
use Rattle.node_lines.specs.declared.desk.Desk.{Desk}
use Rattle.node_lines.specs.declared.lines.Looked.{Looked}
use Rattle.node_lines.specs.declared.lines.Looked.TheVariants as looked
use Rattle.run_ends.specs.Rows.{Tells}

-- it answers a line that looked at the table, and found that
pub record IsRead (look : Option Looked) (a : Asks) (after : ℕ) (found : Found) : Type 0 where
  pub session : Session
  pub query : Query
  pub asks_is : a ≡ asks.Look session query
  pub look_is : look ≡ Some (looked.Found after found)

pub read_is : (d : Option Desk) (look : Option Looked) (a : Asks) (o : Outcome) (after : ℕ) (found : Found) → Tells d look a o → o ≡ out.Read after found → IsRead look a after found
read_is (Some d) look (asks.Logged s r command) (out.Placed place reply late) after found t e = absurd (cc)
read_is (Some d) look (asks.Logged s r command) (out.Open cause) after found t e = absurd (cc)
read_is (Some d) look (asks.Look s query) (out.Read at answer) after found t e =
    let same : at ≡ after = cc in
    let is : answer ≡ found = cc in
    record { session = s; query = query; asks_is = refl; look_is = t ∙ (ap (λ n. Some (looked.Found n answer)) same ∙ ap (λ x. Some (looked.Found after x)) is) }
read_is (Some d) look (asks.Look s query) (out.Open cause) after found t e = absurd (cc)
read_is None look (asks.Admin Extend) (out.Extended version start) after found t e = absurd (cc)
read_is None look (asks.Admin Extend) (out.Moved version) after found t e = absurd (cc)
read_is None look (asks.Admin Extend) out.NoSpare after found t e = absurd (cc)
read_is None look (asks.Admin Extend) (out.Open cause) after found t e = absurd (cc)
read_is None look (asks.Admin Alive) (out.Alive clean) after found t e = absurd (cc)
read_is None look (asks.Admin Alive) (out.Open cause) after found t e = absurd (cc)
read_is None look (asks.Admin Retire) out.Retired after found t e = absurd (cc)
read_is None look (asks.Admin Retire) (out.Open cause) after found t e = absurd (cc)
read_is None look (asks.Admin Trim) (out.Trimmed trim) after found t e = absurd (cc)
read_is None look (asks.Admin Trim) (out.Open cause) after found t e = absurd (cc)
read_is d look a o after found t e = absurd t
