-- Cells stay lawful.
use Rattle.std.proofs.Common.{◌≡◌, ℕ, ◌^◌, ◌≤◌, arith, true, length}
use Rattle.std.proofs.lemmas.List.{length-replicate}
use Rattle.quorum_cell.specs.declared.operation.CellStep.{CellStep}
use Rattle.quorum_cell.specs.Cells.{Cell, start, no_server}
use Rattle.quorum_cell.specs.Steps.{cell_step}
use Rattle.quorum_cell.specs.Law.{IsLawful, Later}
use Rattle.quorum_cell.proofs.Runs.{step_later}
use Rattle.quorum_cell.proofs.Seals.{cell_law_kept, cell_law_starts}

pub step_lawful : (c : Cell) (step : CellStep) → IsLawful c → IsLawful (cell_step c step)
step_lawful c step law =
    let later : Later c (cell_step c step) = step_later c step in
    record {
      shape = record {
        servers = (omega (arith, law.shape.servers.0, later.servers), omega (arith, law.shape.servers.1, later.servers));
        room = (omega (arith, law.shape.room.0, later.most), omega (arith, law.shape.room.1, later.most));
        limit = omega (arith, law.shape.limit, later.limit);
      };
      law = cell_law_kept c step law.law;
    }

pub start_lawful : (n room limit : ℕ) → 1 ≤ n → n ≤ 64 → 1 ≤ room → room ≤ 2 ^ 32 → limit ≤ 2 ^ 62 → IsLawful (start n room limit)
start_lawful n room limit some few least most tickets =
    let count : length (start n room limit).servers ≡ n = length-replicate n (record no_server { up = true }) in
    record {
      shape = record { servers = (omega (arith, count, some), omega (arith, count, few)); room = (least, most); limit = tickets };
      law = cell_law_starts n room limit some;
    }
