use Rattle.reports.proofs.Lengths.{line_short, total_short, report_short}
use Rattle.reports.proofs.ReportLines.{line_ends, total_ends}
use Rattle.reports.proofs.laws.every_report_fits.Goals as goal

pub returns : goal.returns
returns c s limits plan cents fits =
    record {
      each_line = λ i h. record { ends_once = line_ends s limits plan i h; short = line_short s limits plan i h };
      total = record { ends_once = total_ends cents fits.sfits; short = total_short cents fits.sfits };
      report = report_short s limits plan cents fits.sfits;
    }
