use Rattle.runs.proofs.Examples.{worked_rows}
use Rattle.runs.proofs.conduct.worked_rows.Goals as goal

pub returns-clause-rows : goal.returns-clause-rows
returns-clause-rows c = worked_rows
